use Rattle.std.proofs.Common.{◌≡◌, length, map, bit_xor, replicate}
use Rattle.std.proofs.Math.Seq.{paste}
use Rattle.signature_hmac.proofs.key_block.Given as goal

abbrev pub invariant-loop-i : goal.invariant-loop-i
invariant-loop-i l = (length l.b ≡ 64) × (l.b ≡ paste (replicate 64 l.v) 0 (map (λ x. bit_xor x l.v) l.key) l.i)
