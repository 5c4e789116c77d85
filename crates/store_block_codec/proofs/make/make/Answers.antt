use native.Mathlib.Omega.{arith}
use Rattle.store_block.specs.Entry.{entry}
use Rattle.store_block_codec.specs.BuiltLaws.{built-head, built-more, sealed}
use Rattle.store_block_codec.proofs.make.make.Goals as goal

pub returns : goal.returns
returns c =
    let a = c.args in
    let e = entry a.key.now a.version.now a.tag.now a.value.now a.algorithm in
    let f = c.requires in
    -- the block after each part
    let g1 = built-more 8 e.key (built-head e) c.copy.ensures (omega arith) (omega arith) in
    let g2 = built-more 72 e.version g1 c.copy-2.ensures (omega arith) (omega arith) in
    let g3 = built-more 88 e.tag g2 c.copy-3.ensures (omega arith) (omega arith) in
    let g4 = built-more 120 e.value g3 c.copy-4.ensures (omega arith) (omega arith) in
    sealed e f g4 c.seal.ensures
