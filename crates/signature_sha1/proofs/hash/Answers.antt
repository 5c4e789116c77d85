use mathlib.Core.Path.{ap, ◌∙◌}
use Rattle.signature_sha1.specs.Sha1.{sha1_words, finish}
use Rattle.signature_sha1.proofs.hash.Goals as goal

pub returns : goal.returns
unfolding sha1_words
returns c = c.finish.ensures ∙ ap (λ h. finish h 0 c.args.text.now) c.start.ensures
