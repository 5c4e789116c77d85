use Rattle.signature_sha1_compression.proofs.Reached.{Reached}
use Rattle.signature_sha1_compression.proofs.twenty_rounds.Given as goal

abbrev pub invariant-loop-t : goal.invariant-loop-t
invariant-loop-t g l = Reached l.from l.t l.initial.w l.initial.v l.w l.v
