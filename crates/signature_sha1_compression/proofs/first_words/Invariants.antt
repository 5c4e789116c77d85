use Rattle.signature_sha1_compression.specs.Ring.{Ring}
use Rattle.signature_sha1_compression.proofs.first_words.Given as goal

abbrev pub invariant-loop-t : goal.invariant-loop-t
invariant-loop-t l = Ring l.m l.t l.w
