-- The cases of a framing, one for each test of frame_at.
use Rattle.std.specs.Prelude.{ℕ, ◌+◌, ◌≤◌, ◌<◌, ◌≡◌, refl, true, false, cond, List, [], ◌∷◌, length, take, drop, get_or}
use Rattle.std.proofs.Common.{arith, sym, ap, ◌∙◌, le-leb, eq-eqb, ne_eqb}
use Rattle.std.proofs.lemmas.Bool.{lt-leb}
use Rattle.protocol.specs.Frame.{more, closes, whole, num4, fits, cut_at, frame_of}
use Rattle.request_frame.specs.declared.Framed.TheVariants.{More, Closes, Whole}
use Rattle.request_frame.specs.Framed.{framing, FramedAs}

-- with no input at all
pub framed-none : (s : List ℕ) → length s ≡ 0 → FramedAs s More
unfolding frame_of
framed-none [] h = record { same = refl; inside = tt }
framed-none (b ∷ r) h = absurd (omega arith)

some-input : (s : List ℕ) → 1 ≤ length s → cond (fits s) (cut_at s (num4 s 1) (num4 s 5)) closes ≡ frame_of s
unfolding frame_of
some-input [] h = absurd (omega arith)
some-input (b ∷ r) h = refl

closed-by : (s : List ℕ) → 1 ≤ length s → fits s ≡ false → FramedAs s Closes
closed-by s h e = record { same = sym (ap (λ t. cond t (cut_at s (num4 s 1) (num4 s 5)) closes) e) ∙ some-input s h; inside = tt }

pub wrong_byte : (s : List ℕ) → 1 ≤ length s → (get_or s 0 0 ≡ 0x46 → ⊥) → FramedAs s Closes
wrong_byte s h e = closed-by s h (rw (ne_eqb (get_or s 0 0) 0x46 e))

pub long-message : (s : List ℕ) → 1 ≤ length s → get_or s 0 0 ≡ 0x46 → 8192 < num4 s 1 → FramedAs s Closes
long-message s h e k = closed-by s h (rw (eq-eqb (get_or s 0 0) 0x46 e, lt-leb (num4 s 1) 8192 k))

pub long-value : (s : List ℕ) → 1 ≤ length s → get_or s 0 0 ≡ 0x46 → num4 s 1 ≤ 8192 → 1024 < num4 s 5 → FramedAs s Closes
long-value s h e k l = closed-by s h (rw (eq-eqb (get_or s 0 0) 0x46 e, le-leb (num4 s 1) 8192 k, lt-leb (num4 s 5) 1024 l))

fitting : (s : List ℕ) → 1 ≤ length s → get_or s 0 0 ≡ 0x46 → num4 s 1 ≤ 8192 → num4 s 5 ≤ 1024 → cut_at s (num4 s 1) (num4 s 5) ≡ frame_of s
fitting s h e k l =
    let f : fits s ≡ true = rw (eq-eqb (get_or s 0 0) 0x46 e, le-leb (num4 s 1) 8192 k, le-leb (num4 s 5) 1024 l) in
    sym (ap (λ t. cond t (cut_at s (num4 s 1) (num4 s 5)) closes) f) ∙ some-input s h

pub more-due : (s : List ℕ) → 1 ≤ length s → get_or s 0 0 ≡ 0x46 → num4 s 1 ≤ 8192 → num4 s 5 ≤ 1024 → length s < 9 + num4 s 1 + num4 s 5 → FramedAs s More
more-due s h e k l n = record {
  same = sym (ap (λ t. cond t (whole (take (num4 s 1) (drop 9 s)) (take (num4 s 5) (drop (9 + num4 s 1) s)) (drop (9 + num4 s 1 + num4 s 5) s)) more) (lt-leb (9 + num4 s 1 + num4 s 5) (length s) n)) ∙ fitting s h e k l;
  inside = tt;
}

pub whole-there : (s : List ℕ) (m v : ℕ) → 1 ≤ length s → get_or s 0 0 ≡ 0x46 → m ≡ num4 s 1 → v ≡ num4 s 5 → m ≤ 8192 → v ≤ 1024 → 9 + m + v ≤ length s → FramedAs s (Whole m v)
whole-there s m v h e a b k l n = record {
  same = sym (ap (λ t. cond t (framing s (Whole m v)) more) (le-leb (9 + m + v) (length s) n)) ∙ (λ i. cut_at s (a i) (b i)) ∙ fitting s h e (omega arith) (omega arith);
  inside = (n, k, l);
}
