use Rattle.std.proofs.Common.{rules, ◌∙◌}
use Rattle.base_integers.specs.SignedLaws.{word_kept}
use Rattle.bench_fields.proofs.signed_in.Goals as goal

pub returns-then-there : goal.returns-then-there
returns-then-there c =
    let o = c.signed_or in
    rw c.if-there.true (c.word.ensures ∙ word_kept o.result (search rules) ∙ o.ensures)
