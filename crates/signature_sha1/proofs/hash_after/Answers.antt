use mathlib.Core.Path.{sym, ap, ◌∙◌}
use Rattle.signature_sha1_compression.specs.Compression.{compress}
use Rattle.signature_sha1.specs.Sha1.{sha1_words, finish, H0}
use Rattle.signature_sha1.specs.Sha1Laws.{finish-after}
use Rattle.signature_sha1.proofs.hash_after.Goals as goal

pub returns : goal.returns
unfolding sha1_words
returns c =
    let s = c.before.before.before.before.before in
    let block = s.args.block.now in
    let text = s.args.text.now in
    c.finish.ensures
    ∙ ap (λ h. finish h 64 text) (c.compress.ensures ∙ ap (λ h. compress h block) c.start.ensures)
    ∙ sym (finish-after H0 block text s.requires.0)
