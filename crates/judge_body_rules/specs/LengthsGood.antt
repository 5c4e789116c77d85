-- The rules of a keyValue and of a range over the lengths that the code is given.
use Rattle.std.specs.Prelude.{Bool, ◌&&◌, ℕ, leb}
use Rattle.std.proofs.Math.Option.{Option}
use Rattle.base_definitions.specs.Lists.{within}
use Rattle.protocol.specs.Judge.{present}

-- the rule of a keyValue, of the lengths of its parts
abbrev pub lengths_good : ℕ → ℕ → ℕ → ℕ → Bool
lengths_good a b c d = within 1 64 a && (leb b 16 && (leb c 16 && leb d 32))

-- the rule of a range, of the lengths of its keys
abbrev pub range_lengths_good : Option ℕ → Option ℕ → ℕ → Bool
range_lengths_good a b most = present (λ n. leb n 64) a && (present (λ n. leb n 64) b && leb most 32)
