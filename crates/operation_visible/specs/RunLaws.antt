-- Which entries a run has, and that what is skipped is hidden.
use Rattle.std.specs.Prelude.{◌≡◌, Bool}
use Rattle.std.proofs.Math.Path.{refl, ap}
use Rattle.std.proofs.Math.Bool.{true, false, cond}
use mathlib.Core.List.{List, [], ◌∷◌}
use Prim.Native.Nat.{ℕ, zero, suc, ◌+◌, ◌-◌, ◌≤◌, ◌<◌}
use native.Mathlib.Omega.{arith}
use Rattle.std.proofs.Math.ListN.{get_or}
use Rattle.base_definitions.specs.Lists.{only}
use Rattle.store_block.specs.Entry.{Entry, no_entry}
use Rattle.operation_visible.specs.Runs.{onward, entries_from, run, skipped_from}

pub onward-less : (b : Bool) (i : ℕ) → onward b i ≤ i + 1
onward-less true i = omega arith
onward-less false i = omega arith

-- a run without its first place
pub run-less : (b : Bool) (i n : ℕ) → i + n ≤ 256 → (n ≡ 0 → ⊥) → onward b i + (n - 1) ≤ 256
run-less b i zero h m = absurd (m refl)
run-less true i (suc n) h m = omega arith
run-less false i (suc n) h m = omega arith

-- ---- the loop that skips

module _ (f : Entry → Bool) (es : List Entry) (b : Bool) where
  pub skip-found : (i n : ℕ) → 0 < n → f (get_or es i no_entry) ≡ true → run i n b ≡ skipped_from f es b i n
  unfolding skipped_from
  skip-found i zero h e = absurd (omega arith)
  skip-found i (suc n) h e = rw e refl

  pub skip-hidden : (i n : ℕ) → 0 < n → f (get_or es i no_entry) ≡ false → skipped_from f es b i n ≡ skipped_from f es b (onward b i) (n - 1)
  unfolding skipped_from
  skip-hidden i zero h e = absurd (omega arith)
  skip-hidden i (suc n) h e = let z : n ≡ suc n - 1 = omega arith in rw (e, ← z) refl

  pub skip-end : (i n : ℕ) → n ≤ 0 → run i n b ≡ skipped_from f es b i n
  unfolding skipped_from
  skip-end i zero h = refl
  skip-end i (suc n) h = absurd (omega arith)

  -- ---- what it leaves

  pub skip-way : (i n : ℕ) → (skipped_from f es b i n).reverse ≡ b
  unfolding skipped_from
  skip-way i zero = refl
  skip-way i (suc n) = go (f (get_or es i no_entry)) (skip-way (onward b i) n)
    where
      go : (t : Bool) → (skipped_from f es b (onward b i) n).reverse ≡ b → (cond t (run i (suc n) b) (skipped_from f es b (onward b i) n)).reverse ≡ b
      go true e = refl
      go false e = e

  pub none_left : (i n : ℕ) → (skipped_from f es b i n).count ≡ 0 → only f (entries_from b i n es) ≡ []
  unfolding skipped_from entries_from only
  none_left i zero h = refl
  none_left i (suc n) h = go (f (get_or es i no_entry)) h (none_left (onward b i) n)
    where
      go : (t : Bool) → (cond t (run i (suc n) b) (skipped_from f es b (onward b i) n)).count ≡ 0
          → ((skipped_from f es b (onward b i) n).count ≡ 0 → only f (entries_from b (onward b i) n es) ≡ [])
          → cond t (get_or es i no_entry ∷ only f (entries_from b (onward b i) n es)) (only f (entries_from b (onward b i) n es)) ≡ []
      go true e ih = absurd (omega arith)
      go false e ih = ih e

  pub some_left : (i n : ℕ) → ((skipped_from f es b i n).count ≡ 0 → ⊥) → only f (entries_from b i n es)
      ≡ get_or es (skipped_from f es b i n).first no_entry ∷ only f (entries_from b (onward b (skipped_from f es b i n).first) ((skipped_from f es b i n).count - 1) es)
  unfolding skipped_from entries_from only
  some_left i zero h = absurd (h refl)
  some_left i (suc n) h = go (f (get_or es i no_entry)) h (some_left (onward b i) n)
    where
      go : (t : Bool) → let r = cond t (run i (suc n) b) (skipped_from f es b (onward b i) n) in (r.count ≡ 0 → ⊥)
          → (((skipped_from f es b (onward b i) n).count ≡ 0 → ⊥) → only f (entries_from b (onward b i) n es)
          ≡ get_or es (skipped_from f es b (onward b i) n).first no_entry
          ∷ only f (entries_from b (onward b (skipped_from f es b (onward b i) n).first) ((skipped_from f es b (onward b i) n).count - 1) es))
          → cond t (get_or es i no_entry ∷ only f (entries_from b (onward b i) n es)) (only f (entries_from b (onward b i) n es))
          ≡ get_or es r.first no_entry ∷ only f (entries_from b (onward b r.first) (r.count - 1) es)
      go true e ih = let z : n ≡ suc n - 1 = omega arith in ap (λ m. get_or es i no_entry ∷ only f (entries_from b (onward b i) m es)) z
      go false e ih = ih e
