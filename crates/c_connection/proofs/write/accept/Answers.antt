use mathlib.Core.Path.{ap, ◌∙◌}
use Rattle.base_integers.specs.SignedLaws.{word_kept}
use Rattle.c_connection.specs.Layout.{heard_bytes}
use Rattle.c_connection.proofs.Steps.{word-stored}
use Rattle.c_connection.proofs.write.accept.Goals as goal

pub returns : goal.returns
unfolding heard_bytes
returns c =
    word-stored _ c.put_signed.ensures ∙ ap (heard_bytes c.args.bytes.now) (word_kept c.args.sequence c.ranges.sequence.sfits)
