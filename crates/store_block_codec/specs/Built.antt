-- A working block: zeros, in which parts are written at ascending places.
use Rattle.std.specs.Prelude.{◌≡◌, List, ◌++◌, ℕ, ◌+◌, ◌-◌, ◌≤◌, length, replicate}
use Rattle.store_block.specs.Entry.{Entry}
use Rattle.store_block.specs.Block.{head}

pub record Built (b : ℕ) (bs m : List ℕ) : Type 0 where
  pub size : length bs ≡ b
  pub within : b ≤ 512
  pub same : m ≡ bs ++ replicate (512 - b) 0

-- the parts of the body, as they are written
abbrev pub written : Entry → List ℕ
written e =
    (((head e ++ e.key)
    ++ (replicate (72 - (8 + length e.key)) 0 ++ e.version))
    ++ (replicate (88 - (72 + length e.version)) 0 ++ e.tag))
    ++ (replicate (120 - (88 + length e.tag)) 0 ++ e.value)
