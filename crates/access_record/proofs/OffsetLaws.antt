-- "offset 0 to 64", "Negative offsets are refused": the rule on the number and the one on its word are one.
use Rattle.std.specs.Prelude.{ℕ, suc, ◌-◌, ◌^◌, ◌≡◌, refl, Bool, true, false, not, ◌&&◌, leb, ltb, ℤ, pos, negsuc}
use Rattle.std.proofs.Common.{arith, sym, ap, ◌∙◌, ltb-false, le-ltb, lt-ltb, leb-true, leb-false}
use Rattle.std.specs.Int.Signed.{lt_z}
use mir.Val.{sel}
use Rattle.std.proofs.lemmas.Bool.{lt-leb}
use Rattle.access_record.specs.Table.{offset_good}

abbrev good : ℤ → Bool
good x = not (lt_z x (pos 0)) && not (lt_z (pos 64) x)

pub offset-good : (v : ℕ) → offset_good v ≡ leb v 64
unfolding offset_good
offset-good v = go (ltb v (2 ^ 63)) refl
  where
    at_most : (t : Bool) → leb v 64 ≡ t → not (ltb 64 v) ≡ leb v 64
    at_most true e = let p = leb-true v 64 e in ap not (le-ltb 64 v (omega arith)) ∙ sym e
    at_most false e = let p = leb-false v 64 e in ap not (lt-ltb 64 v (omega arith)) ∙ sym e

    go : (t : Bool) → ltb v (2 ^ 63) ≡ t → good (sel t (pos v) (negsuc (2 ^ 64 - suc v))) ≡ leb v 64
    go true e = ap (λ (b : Bool). (not b && not (ltb 64 v))) (le-ltb v 0 (omega arith)) ∙ at_most (leb v 64) refl
    go false e = let p = ltb-false v (2 ^ 63) e in sym (lt-leb v 64 (omega arith))
