use mathlib.Core.Path.{◌≡◌, refl, sym}
use Prim.Native.Nat.{ℕ}
use native.Mathlib.Omega.{arith}
use mathlib.Core.List.{map}
use lib.Bits.{bit_xor}
use lib.ListN.{length, replicate, length-set, length-map, length-replicate}
use lib.Seq.{paste-zero}
use Rattle.signature_sha1.specs.PaddedBlockLaws.{front-more}
use Rattle.signature_hmac.specs.KeyBlockLaws.{masked-made, map_at}
use Rattle.signature_hmac.proofs.key_block.Goals as goal

pub loop-i-init : goal.loop-i-init
loop-i-init c = (refl, paste-zero (replicate 64 c.args.v) 0 (map (λ x. bit_xor x c.args.v) c.args.key.now))

pub loop-i-preserved : goal.loop-i-preserved
loop-i-preserved c =
    let l = c.loop-i in
    let key = c.args.key.now in
    let v = c.args.v in
    let g : ℕ → ℕ = λ x. bit_xor x v in
    let n : length (map g key) ≡ length key = length-map key g in
    (simp length-set l.invariant.0, front-more (replicate 64 v) (map g key) l.i _ l.invariant.1 (simp length-replicate (omega arith)) (omega arith) (sym (map_at g key l.i (omega arith))))

pub returns : goal.returns
returns c =
    let l = c.loop-i in
    let e : l.i ≡ length c.args.key.now = omega arith in
    rw (l.invariant.1, e) (masked-made c.args.v c.args.key.now c.requires)
