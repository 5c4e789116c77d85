-- An offset as the code tests it.
use mathlib.Core.Path.{◌≡◌, refl, sym, ap, ◌∙◌}
use mathlib.Core.Bool.{Bool, true, false, not, ◌&&◌}
use Prim.Native.Nat.{ℕ}
use lib.IntN.{ℤ, pos}
use lib.Signed.{lt_z, le_z}
use borrow.Author.Differences.{lt-true, lt-false, true_is_le, false_is_le}
use Rattle.base_integers.specs.Signed.{signed_of}
use Rattle.access_record.specs.Table.{offset_good}

le-not : (a b : ℤ) → le_z a b ≡ not (lt_z b a)
le-not a b = go (lt_z b a) refl
  where
    go : (t : Bool) → lt_z b a ≡ t → le_z a b ≡ not t
    go true e = sym (false_is_le a b (lt-true b a e))
    go false e = sym (true_is_le a b (lt-false b a e))

module _ (v : ℕ) where
  pub offset-above : le_z (pos 0) (signed_of v) ≡ true → le_z (signed_of v) (pos 64) ≡ offset_good v
  unfolding offset_good
  offset-above e = le-not (signed_of v) (pos 64) ∙ ap (λ (b : Bool). (b && not (lt_z (pos 64) (signed_of v)))) (sym e ∙ le-not (pos 0) (signed_of v))

  pub offset-below : le_z (pos 0) (signed_of v) ≡ false → le_z (pos 0) (signed_of v) ≡ offset_good v
  unfolding offset_good
  offset-below e = e ∙ ap (λ (b : Bool). (b && not (lt_z (pos 64) (signed_of v)))) (sym e ∙ le-not (pos 0) (signed_of v))
