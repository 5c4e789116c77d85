use Prim.Native.Nat.{ℕ}
use mathlib.Core.Path.{◌≡◌, sym, subst}
use lib.ListN.{length, replicate}
use Rattle.std.specs.Prelude.{eqb}
use Rattle.store_block.specs.Decides.{Decides}
use Rattle.store_block.specs.DirectLaws.{ored-decides}
use Rattle.store_block.proofs.zeros.Goals as goal

pub returns : goal.returns
returns c =
    let s = c.args.s.now in
    subst (λ (o : ℕ). Decides (eqb o 0) (s ≡ replicate (length s) 0)) (sym c.ored.ensures) (ored-decides s)
