use mathlib.Core.Path.{◌∙◌}
use Rattle.base_integers.specs.SignedLaws.{word_kept}
use Rattle.device_command.proofs.heading_of.Goals as goal

pub returns : goal.returns
returns c =
    let v = c.signed_or in
    record {
      version = word_kept v.result v.type_inv ∙ v.ensures;
      id = c.in_header.ensures;
      sequence = c.in_header-2.ensures;
      asked = c.asked_in.ensures;
    }
