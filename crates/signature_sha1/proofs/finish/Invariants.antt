use Rattle.std.proofs.Common.{◌≡◌}
use Rattle.signature_sha1.specs.Sha1.{chain}
use Rattle.signature_sha1.proofs.finish.Given as goal

abbrev pub invariant-loop-block : goal.invariant-loop-block
invariant-loop-block l = l.v ≡ chain l.initial.v l.text l.block-index
