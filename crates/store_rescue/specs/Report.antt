-- The report of a good store.
use Rattle.std.specs.Prelude.{List, ◌++◌, ℕ, ◌-◌, replicate}

-- a report of 1s then 0s
abbrev pub ones_then_zeros : ℕ → ℕ → List ℕ
ones_then_zeros used n = replicate used 1 ++ replicate (n - used) 0
