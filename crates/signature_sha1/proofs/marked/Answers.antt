use Rattle.signature_sha1.specs.PaddedBlockLaws.{marked-made}
use Rattle.signature_sha1.proofs.marked.Goals as goal

pub returns : goal.returns
returns c = rw c.copy_from_slice.ensures.after (marked-made c.args.rest.now c.requires)
