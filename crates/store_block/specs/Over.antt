-- Bytes written over others, and the laws by which loops of stores write them.
use Rattle.std.specs.Prelude.{List, ◌++◌, ℕ, ◌+◌, length, take, drop}

-- l with bs in place of what stood from index a on
unfoldable pub over : List ℕ → ℕ → List ℕ → List ℕ
over l a bs = take a l ++ (bs ++ drop (a + length bs) l)
