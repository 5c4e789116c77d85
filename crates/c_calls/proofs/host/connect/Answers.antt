use mathlib.Core.Path.{ap, ◌∙◌}
use mathlib.Core.Bool.{not}
use Prim.Native.Nat.{ℕ}
use lib.Dec.{eqb}
use Rattle.base_integers.specs.SignedLaws.{word_kept}
use Rattle.c_connection.specs.Layout.{connected_bytes}
use Rattle.c_calls.proofs.host.connect.Goals as goal

pub returns : goal.returns
returns c =
    c.connect.ensures
    ∙ ap (λ (w : ℕ). connected_bytes w (not (eqb c.args.protected 0))) (word_kept c.args.number c.ranges.number.sfits)
