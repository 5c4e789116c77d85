use lib.Seq.{sets}
use lib.ListN.{replicate}
use Prim.Native.Nat.{ℕ}
use mathlib.Core.Path.{ap, ◌∙◌}
use Rattle.base_integers.specs.Signed.{word_of}
use Rattle.base_integers.specs.SignedLaws.{word_kept}
use Rattle.access_record.specs.Record.{word_bytes}
use Rattle.c_connection.proofs.Steps.{word-stored, new-stored}
use Rattle.c_connection.proofs.write.connect.Goals as goal

pub returns : goal.returns
returns c =
    let z = c.args in
    let k = ap (λ (w : ℕ). sets (replicate 32 0) 0 (word_bytes w)) (word_kept z.number c.ranges.number.sfits) in
    new-stored (word_of z.number) z.protected (word-stored _ c.put_signed.ensures ∙ k) c.flag_of.ensures
