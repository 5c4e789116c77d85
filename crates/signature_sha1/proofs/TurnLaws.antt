-- Laws of one turn of a loop.
use Rattle.std.specs.Prelude.{◌≡◌, refl, List, ◌++◌, ℕ, suc, ◌+◌, ◌-◌, ◌<◌, length, set, replicate}
use Rattle.std.proofs.Common.{ap, ◌∙◌, arith}
use Rattle.std.proofs.lemmas.List.{set_at}
use Rattle.std.proofs.Math.Seq.{paste}
use Rattle.signature_sha1.specs.PaddedBlocks.{marked_block}
use Rattle.signature_sha1.specs.PaddedBlockLaws.{pasted}

pub marked-made : (rest : List ℕ) → length rest < 64 → set (paste (replicate 64 0) 0 rest (length rest)) (length rest) 0x80 ≡ marked_block rest
unfolding marked_block
marked-made rest h =
    let e : 64 - length rest ≡ suc (63 - length rest) = omega arith in
    ap (λ l. set l (length rest) 0x80) (pasted rest 0 (omega arith) ∙ ap (λ (n : ℕ). rest ++ replicate n 0) e)
    ∙ set_at rest 0 (replicate (63 - length rest) 0) 0x80 (length rest) refl
