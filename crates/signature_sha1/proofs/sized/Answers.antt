use Rattle.std.proofs.Common.{sym, ◌∙◌, ◌*◌, refl}
use Rattle.std.proofs.lemmas.Slice.{put_mid-paste}
use Rattle.signature_sha1.specs.Sha1.{be}
use Rattle.signature_sha1.specs.Sha1Laws.{be-length, bytes_of_size}
use Rattle.signature_sha1.specs.PaddedBlockLaws.{sized-made}
use Rattle.signature_sha1.proofs.sized.Goals as goal

pub returns : goal.returns
returns c =
    let n = c.args.n in
    put_mid-paste 56 _ _ _ (be 8 (8 * n)) 8 (c.copy_from_slice.ensures.after ∙ c.to_be_bytes.ensures ∙ bytes_of_size (8 * n)) refl (sym (be-length 8 (8 * n)))
    ∙ sized-made c.args.block n c.requires.0
