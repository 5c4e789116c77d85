use Rattle.signature_sha1_compression.specs.Compression.{compress, add_all, add}
use Rattle.signature_sha1_compression.proofs.compress.Goals as goal

pub returns : goal.returns
unfolding compress add_all add
returns c = simp c.rounds-v.ensures
