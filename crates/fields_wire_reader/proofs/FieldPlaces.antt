-- Laws on fields at a place of a slice.
use Prim.Native.Nat.{ℕ, ◌+◌, ◌-◌, ◌/◌, ◌%◌, ◌^◌, ◌≤◌, ◌<◌}
use native.Mathlib.Omega.{arith}
use mathlib.Core.Path.{◌≡◌, refl, sym, subst}
use mathlib.Core.Logic.{◌⊎◌, inl, inr}
use mathlib.Core.List.{List, [], ◌∷◌}
use mathlib.Core.Option.{none, some}
use lib.ListN.{length, take, drop, length-drop}
use lib.Seq.{drop-cons, drop-drop}
use borrow.Author.Tests.{lt-ltb, le-ltb, le-leb, lt-leb, ne_eqb}
use Rattle.fields_wire.specs.Reader.{Got, nothing, got, part}
use Rattle.fields_wire.specs.Wire.{varint, Field, field, vint, v64, vlen, v32, value_of, read_field, fields_in, fields_of}
use Rattle.std.specs.Prelude.{Option, Some, None, IfSome}
use Rattle.fields_wire_reader.specs.FieldAnswer.{means_found, BytesLie, EndsFound}
use Rattle.fields_wire_reader.specs.declared.Found.{Found}
use Rattle.fields_wire_reader.specs.declared.Held.{Held}
use Rattle.fields_wire_reader.specs.declared.Held.TheVariants.{Varint, I64, Len, I32}

part_at : (n : ℕ) (s : List ℕ) (at : ℕ) → n ≤ length s - at → part n (drop at s) ≡ got (take n (drop at s)) (drop (at + n) s)
part_at n s at h = rw (length-drop at s, le-leb _ _ h, drop-drop n at s)

part_cut : (n : ℕ) (s : List ℕ) (at : ℕ) → length s - at < n → part n (drop at s) ≡ nothing
part_cut n s at h = rw (length-drop at s, lt-leb _ _ h)

module _ (n : ℕ) where
  pub varint-of : (xs : List ℕ) {v : ℕ} {r : List ℕ} → varint xs ≡ got v r → got (field n (vint v)) r ≡ value_of n 0 xs
  unfolding value_of
  varint-of xs e = rw e

  pub varint-none : (xs : List ℕ) → varint xs ≡ nothing → nothing ≡ value_of n 0 xs
  unfolding value_of
  varint-none xs e = rw e

  pub len-none : (xs : List ℕ) → varint xs ≡ nothing → nothing ≡ value_of n 2 xs
  unfolding value_of
  len-none xs e = rw e

  pub len_of : (s xs : List ℕ) (next : ℕ) {v : ℕ} → varint xs ≡ got v (drop next s) → v ≤ length s - next
      → got (field n (vlen (take v (drop next s)))) (drop (next + v) s) ≡ value_of n 2 xs
  unfolding value_of
  len_of s xs next {v} e h = rw e (rw (part_at v s next h))

  pub len-cut : (s xs : List ℕ) (next : ℕ) {v : ℕ} → varint xs ≡ got v (drop next s) → length s - next < v → nothing ≡ value_of n 2 xs
  unfolding value_of
  len-cut s xs next {v} e h = rw e (rw (part_cut v s next h))

  pub i64-of : (s : List ℕ) (at : ℕ) → 8 ≤ length s - at → got (field n (v64 (take 8 (drop at s)))) (drop (at + 8) s) ≡ value_of n 1 (drop at s)
  unfolding value_of
  i64-of s at h = rw (part_at 8 s at h)

  pub i64-cut : (s : List ℕ) (at : ℕ) → length s - at < 8 → nothing ≡ value_of n 1 (drop at s)
  unfolding value_of
  i64-cut s at h = rw (part_cut 8 s at h)

  pub i32-of : (s : List ℕ) (at : ℕ) → 4 ≤ length s - at → got (field n (v32 (take 4 (drop at s)))) (drop (at + 4) s) ≡ value_of n 5 (drop at s)
  unfolding value_of
  i32-of s at h = rw (part_at 4 s at h)

  pub i32-cut : (s : List ℕ) (at : ℕ) → length s - at < 4 → nothing ≡ value_of n 5 (drop at s)
  unfolding value_of
  i32-cut s at h = rw (part_cut 4 s at h)

  pub no-wire : (w : ℕ) (xs : List ℕ) → (w ≡ 0 → ⊥) → (w ≡ 1 → ⊥) → (w ≡ 2 → ⊥) → (w ≡ 5 → ⊥) → nothing ≡ value_of n w xs
  unfolding value_of
  no-wire w xs a b c d = rw (ne_eqb w 0 a, ne_eqb w 1 b, ne_eqb w 2 c, ne_eqb w 5 d)

  pub by-wire : {w k : ℕ} (xs : List ℕ) {o : Got Field} → w ≡ k → o ≡ value_of n k xs → o ≡ value_of n w xs
  by-wire xs e h = rw e h

pub field_of : (xs : List ℕ) {t : ℕ} {r : List ℕ} → varint xs ≡ got t r → t < 2 ^ 32 → 7 < t → {o : Got Field} → o ≡ value_of (t / 8) (t % 8) r → o ≡ read_field xs
unfolding read_field
field_of xs {t} e h l q = rw (e, lt-ltb t (2 ^ 32) h, lt-ltb 7 t l) q

pub field-none : (xs : List ℕ) → varint xs ≡ nothing → nothing ≡ read_field xs
unfolding read_field
field-none xs e = rw e

pub field-refused : (xs : List ℕ) {t : ℕ} {r : List ℕ} → varint xs ≡ got t r → (t < 8) ⊎ ((8 ≤ t) × (2 ^ 32 ≤ t)) → nothing ≡ read_field xs
unfolding read_field
field-refused xs {t} e (inl h) = rw (e, lt-ltb t (2 ^ 32) (omega arith), le-ltb 7 t (omega arith))
field-refused xs {t} e (inr h) = rw (e, le-ltb t (2 ^ 32) h.1)

-- a field that is inside the part after `b` is inside the part after an earlier place
bytes-later : (a b next : ℕ) (h : Held) → a ≤ b → BytesLie b next h → BytesLie a next h
bytes-later a b next (Varint v) l e = tt
bytes-later a b next (I64 start) l e = tt
bytes-later a b next (Len start len) l e = (e.0, omega (arith, e.1))
bytes-later a b next (I32 start) l e = e

pub found-later : (s : List ℕ) (a b : ℕ) (f : Found) → a ≤ b → EndsFound s b f → EndsFound s a f
found-later s a b f l e = record { after = omega (arith, e.after); inside = e.inside; bytes = bytes-later a b f.next f.held l e.bytes }

pub ends-later : (s : List ℕ) (a b : ℕ) (r : Option Found) → a ≤ b → IfSome r (EndsFound s b) → IfSome r (EndsFound s a)
ends-later s a b (Some f) l h = found-later s a b f l h
ends-later s a b None l h = tt

-- a `?` that leaves
pub no-found : (s : List ℕ) (at : ℕ) {o : Got Field} (r : Option Found) → r ≡ None → nothing ≡ o → (means_found s r ≡ o) × IfSome r (EndsFound s at)
no-found s at {o} r e h = subst (λ (r : Option Found). (means_found s r ≡ o) × IfSome r (EndsFound s at)) (sym e) (h, tt)

fields-fail : (b : ℕ) (xs : List ℕ) → read_field (b ∷ xs) ≡ nothing → fields_of (b ∷ xs) ≡ none
unfolding fields_of fields_in
fields-fail b xs e = rw e

pub fields-fail-at : (s : List ℕ) (at : ℕ) → at < length s → read_field (drop at s) ≡ nothing → fields_of (drop at s) ≡ none
fields-fail-at s at l e = rw (drop-cons s at 0 l) (fields-fail _ _ (rw (drop-cons s at 0 l) at e))

pub fields-end : fields_of [] ≡ some []
unfolding fields_of fields_in
fields-end = refl
