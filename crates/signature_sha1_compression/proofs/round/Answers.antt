use Rattle.signature_sha1_compression.specs.Compression.{turned, add}
use Rattle.signature_sha1_compression.proofs.round.Goals as goal

pub returns : goal.returns
unfolding turned add
returns c = simp (c.rotate_left-2.ensures, c.rotate_left.ensures)
