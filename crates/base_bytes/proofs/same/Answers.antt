use Prim.Native.Nat.{ℕ}
use mathlib.Core.Path.{◌∙◌, ap}
use Rattle.std.specs.Prelude.{eqb}
use Rattle.std.proofs.Common.{ne_eqb}
use Rattle.base_bytes.specs.DiffersLaws.{differ-length}
use Rattle.base_bytes.proofs.TurnLaws.{agree-fold, agree-is}
use Rattle.base_bytes.proofs.same.Goals as goal

pub returns-then-a-b : goal.returns-then-a-b
returns-then-a-b c = ap (λ (d : ℕ). eqb d 0) c.differences.ensures ∙ agree-is _ _ _ c.if-a-b.true (agree-fold _ _ c.if-a-b.true)

pub returns-else-a-b : goal.returns-else-a-b
returns-else-a-b c = ne_eqb _ _ c.if-a-b.false ∙ differ-length _ _ c.if-a-b.false
