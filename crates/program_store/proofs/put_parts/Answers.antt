use Prim.Native.Nat.{ℕ, ◌+◌, ◌*◌, ◌-◌, ◌%◌, ◌≤◌}
use native.Mathlib.Omega.{arith}
use mathlib.Core.Path.{◌∙◌, sym}
use mathlib.Core.List.{List}
use lib.ListN.{length, take, length-take}
use Rattle.store_layout.proofs.CheckLaws.{store-decides}
use Rattle.program_store.proofs.put_parts.Goals as goal

short : (m k : ℕ) (l : List ℕ) → k ≤ m → length (take (k - 0) l) ≤ m
short m k l h = let q = length-take (k - 0) l in omega arith

pub put-requires : goal.put-requires
put-requires c = let n = c.args.n in
    ((store-decides _).yes (sym c.check.ensures ∙ c.if-not-check.false), record { key_fits = short 64 (n % 64 + 1) _ (omega arith); version_fits = short 16 (n % 17) _ (omega arith); tag_fits = short 32 (n % 33) _ (omega arith); value_fits = short 384 (n % 129 * 3) _ (omega arith) })
