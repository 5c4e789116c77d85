use Prim.Native.Nat.{ℕ}
use mathlib.Core.Path.{◌∙◌, ap₂}
use native.Mathlib.Omega.{arith}
use Rattle.base_integers.specs.SignedLaws.{word_kept}
use Rattle.access_record.specs.Table.{find_from, place_of}
use Rattle.access_record.specs.Record.{acls_at, table_of}
use Rattle.base_integers.specs.SignedLaws.{word_kept}
use Rattle.access_record.proofs.TableLaws.{table-count}
use Rattle.access_identity.proofs.find_identity.Goals as goal

pub find_from-requires : goal.find_from-requires
find_from-requires c = let e = c.wide.ensures.0 in let h = table-count _ c.requires in (omega arith, omega arith)

pub returns : goal.returns
unfolding place_of table_of
returns c =
    c.find_from.ensures
    ∙ ap₂ (λ (w n : ℕ). find_from 0 w (acls_at c.args.device.now 16 n)) (word_kept c.args.identity c.ranges.identity.sfits) c.wide.ensures.0
