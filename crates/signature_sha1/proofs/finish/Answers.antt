use Rattle.std.proofs.Common.{◌≡◌, sym, ap, ap₂, ◌∙◌, ◌++◌, ◌+◌, ◌*◌, ◌/◌, arith, length, drop}
use Rattle.signature_sha1_compression.specs.Compression.{compress}
use Rattle.signature_sha1.specs.Sha1.{pad, chain, overall}
use Rattle.signature_sha1.specs.Sha1Laws.{chain-none, chain_more, cut_at, block-length, finish-split}
use Rattle.signature_sha1.proofs.finish.Goals as goal

pub loop-block-init : goal.loop-block-init
loop-block-init c = sym (chain-none _ _)

pub compress-v-requires : goal.compress-v-requires
compress-v-requires c =
    let i = c.loop-block.block-index in
    ap length (cut_at c.args.text.now i c.as_chunks.ensures.front (omega arith)) ∙ block-length c.args.text.now i (omega arith)

pub loop-block-preserved : goal.loop-block-preserved
loop-block-preserved c =
    let a = c.args in
    let i = c.loop-block.block-index in
    c.compress-v.ensures ∙ ap₂ compress c.loop-block.invariant (cut_at c.args.text.now i c.as_chunks.ensures.front (omega arith)) ∙ sym (chain_more a.h a.text.now i)

pub last-requires : goal.last-requires
last-requires c = (omega arith, c.requires.1)

pub returns : goal.returns
returns c =
    let a = c.args in
    let t = a.text.now in
    let n = length t / 64 in
    let e : c.loop-block.block-index ≡ n = omega arith in
    let at : n * 64 ≡ 64 * n = omega arith in
    c.last.ensures
    ∙ ap₂ (λ s r. overall s (r ++ pad (a.taken + length t))) (c.loop-block.invariant ∙ ap (chain a.h t) e) (c.as_chunks.ensures.back ∙ ap (λ k. drop k t) at)
    ∙ finish-split a.h a.taken n t (omega arith)
