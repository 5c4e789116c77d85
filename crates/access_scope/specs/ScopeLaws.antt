-- The value of a scope in the key.
use Rattle.std.specs.Prelude.{◌≡◌, refl, true, false, List, length, take, drop, get_or}
use Rattle.std.proofs.Common.{sym, ap₂, ◌∙◌, arith, length-take, length-drop, get_or-take, get_or-drop}
use Rattle.std.proofs.Math.Path.{ap}
use Prim.Native.Nat.{ℕ, zero, suc, ◌+◌, ◌-◌, ◌≤◌, ◌<◌}
use Rattle.std.proofs.Math.Nat.{add-sub_cancel_left}
use Rattle.base_definitions.specs.Lists.{same_bytes}
use Rattle.base_definitions.proofs.ListLaws.{same_bytes-is}
use Rattle.access_record.specs.Record.{bytes_at}
use Rattle.access_record.proofs.TableLaws.{length-bytes_at, bytes-part}
use Rattle.access_permission.specs.Permission.{fits_at}

pub fits-empty : (l : List ℕ) (a n o : ℕ) (k : List ℕ) → n ≡ 0 → true ≡ fits_at (bytes_at l a n) o k
unfolding fits_at bytes_at
fits-empty l a zero o k e = refl
fits-empty l a (suc n) o k e = absurd (omega arith)

module _ (l : List ℕ) (a n o : ℕ) (k : List ℕ) (some : n ≡ 0 → ⊥) where
  fits-same : same_bytes (bytes_at l a n) (take n (drop o k)) ≡ fits_at (bytes_at l a n) o k
  unfolding fits_at bytes_at
  fits-same = go n some
    where
      go : (n : ℕ) → (n ≡ 0 → ⊥) → same_bytes (bytes_at l a n) (take n (drop o k)) ≡ fits_at (bytes_at l a n) o k
      go zero h = absurd (h refl)
      go (suc n) h = ap (λ (m : ℕ). same_bytes (bytes_at l a (suc n)) (take m (drop o k))) (sym (length-bytes_at l a (suc n)))

  differ : (bytes_at l a n ≡ take n (drop o k) → ⊥) → false ≡ fits_at (bytes_at l a n) o k
  differ h = same_bytes-is false (bytes_at l a n) (take n (drop o k)) (λ e. cc) (λ e. absurd (h e)) ∙ fits-same

  pub fits-short : length k < o + n → false ≡ fits_at (bytes_at l a n) o k
  fits-short h = differ (λ e. let z : n ≡ length (take n (drop o k)) = sym (length-bytes_at l a n) ∙ ap length e in some (omega (arith, z, length-take n (drop o k), length-drop o k)))

  pub fits_last : a + n ≤ length l → (get_or l (a + n - 1) 0 ≡ get_or k (o + n - 1) 0 → ⊥) → false ≡ fits_at (bytes_at l a n) o k
  fits_last h d =
      differ (λ e.
      d
      (last-at a l
      ∙ ap (λ (x : List ℕ). get_or x (n - 1) 0) (sym (bytes-part l a n h) ∙ e)
      ∙ sym (last-at o k)))
    where
      go : (n : ℕ) → (n ≡ 0 → ⊥) → n - 1 < n
      go zero h = absurd (h refl)
      go (suc n) h = omega arith

      last-at : (i : ℕ) (x : List ℕ) → get_or x (i + n - 1) 0 ≡ get_or (take n (drop i x)) (n - 1) 0
      last-at i x =
          let p : n - 1 < n = go n some in
          let z : i + n - 1 ≡ i + (n - 1) = omega arith in
          ap (λ (j : ℕ). get_or x j 0) z ∙ sym (get_or-take n (drop i x) (n - 1) 0 p ∙ get_or-drop i x (n - 1) 0)

  -- the parts of the record and of the key, as the code cuts them out
  pub fits_whole : a + n ≤ length l → same_bytes (take (a + n - a) (drop a l)) (take (o + n - o) (drop o k)) ≡ fits_at (bytes_at l a n) o k
  fits_whole h =
      ap₂ (λ (i j : ℕ). same_bytes (take i (drop a l)) (take j (drop o k))) (add-sub_cancel_left a n) (add-sub_cancel_left o n)
      ∙ ap (λ (x : List ℕ). same_bytes x (take n (drop o k))) (sym (bytes-part l a n h))
      ∙ fits-same
