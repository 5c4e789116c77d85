use mathlib.Core.Path.{ap, ◌∙◌}
use mathlib.Core.Bool.{not}
use lib.Dec.{eqb}
use mir.Syntax.{w64}
use mir.Facts.{to_z-of_z}
use Rattle.base_integers.specs.Signed.{word_of}
use Rattle.c_connection.specs.Layout.{connected_bytes}
use Rattle.c_abi.proofs.ridgeladle_connect.Goals as goal

pub returns : goal.returns
returns c =
    c.connect.ensures ∙ ap (λ n. connected_bytes (word_of n) (not (eqb c.args.protected 0))) (to_z-of_z {w = w64} c.ranges.number)
