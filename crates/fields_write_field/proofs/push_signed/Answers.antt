use mathlib.Core.Path.{ap, ◌∙◌}
use Rattle.base_integers.specs.SignedLaws.{word_kept}
use Rattle.fields_encoding.specs.Encode.{int_field}
use Rattle.fields_write_bytes.proofs.PushedLaws.{again}
use Rattle.fields_write_field.proofs.push_signed.Goals as goal

pub returns : goal.returns
returns c =
    let p = c.before.before in
    let w = p.before in
    let s = w.before.before.before in
    (again (ap (int_field s.args.n) (w.word.ensures ∙ word_kept s.args.x s.ranges.x.sfits)) p.push_int.ensures.0, p.push_int.ensures.1)
