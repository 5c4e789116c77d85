use Rattle.std.proofs.Common.{◌≡◌, sym, refl, ◌∙◌, arith, rules}
use Rattle.signature_sha1_compression.specs.CompressionLaws.{W-first}
use Rattle.signature_sha1_compression.specs.RingLaws.{ring-none, ring-more}
use Rattle.signature_sha1_compression.proofs.first_words.Goals as goal

pub loop-t-init : goal.loop-t-init
loop-t-init c = ring-none _ _ refl

pub loop-t-preserved : goal.loop-t-preserved
loop-t-preserved c =
    let l = c.loop-t in
    ring-more _ l.w l.t l.t _ (omega arith) l.invariant (c.word.ensures ∙ sym (W-first _ _ (search rules)))

pub returns : goal.returns
returns c = let e : c.loop-t.t ≡ 16 = omega arith in rw e at c.loop-t.invariant
