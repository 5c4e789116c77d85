-- The next of a repeated field, in a part of the whole message.
use Prim.Native.Nat.{ℕ, ◌+◌, ◌-◌, ◌≤◌, ◌<◌}
use native.Mathlib.Omega.{arith}
use native.Mathlib.Nat.{add-sub_cancel_left}
use mathlib.Core.Path.{◌≡◌, refl, sym, ap, ◌∙◌, subst}
use mathlib.Core.List.{List, [], ◌∷◌}
use mathlib.Core.Bool.{true}
use lib.ListN.{length, take, drop, length-drop}
use lib.Seq.{take-length}
use Rattle.std.specs.Prelude.{Option as Perhaps, Some, None}
use Rattle.fields_wire_reader.specs.FieldAnswer.{BytesLie, value_of_held}
use Rattle.fields_wire_reader.specs.declared.Found.{Found}
use Rattle.fields_wire_reader.specs.declared.Held.{Held}
use Rattle.fields_wire_reader.specs.declared.Held.TheVariants.{Varint, I64, Len, I32}
use Rattle.fields_lookup.specs.Views.{bytes_at, Inside}
use Rattle.fields_repeated.specs.Values.{values_in, parts_of, numbers_of, parts_in, numbers_in, WellFramed, NextIs, NextFound, Next, NextPartIs, NextNumIs}
use Rattle.fields_lookup.specs.declared.parts.Part.{Part}
use Rattle.fields_lookup.proofs.Slotted.{length_at, inner-at}

pub found_at : (s : List ℕ) (left : Part) (n : ℕ) (r : Perhaps Found) → NextFound (take (left.start + left.len - left.start) (drop left.start s)) n r → NextFound (bytes_at s left) n r
unfolding bytes_at
found_at s left n r h = subst (λ (j : ℕ). NextFound (take j (drop left.start s)) n r) (add-sub_cancel_left left.start left.len) h

-- what is left after a place
rest_at : (s : List ℕ) (left : Part) (x : ℕ) → Inside s left → x ≤ left.len → bytes_at s (record { has = true; start = left.start + x; len = left.len - x }) ≡ drop x (bytes_at s left)
rest_at s left x i l =
    let w : x + (left.len - x) ≤ length (bytes_at s left) = omega (arith, length_at s left i) in
    let q : left.len - x ≡ length (drop x (bytes_at s left)) = omega (arith, length-drop x (bytes_at s left), length_at s left i) in
    inner-at s left true x (left.len - x) i w ∙ ap (λ j. take j (drop x (bytes_at s left))) q ∙ take-length (drop x (bytes_at s left))

module _ (s : List ℕ) (left : Part) (n : ℕ) (i : Inside s left) where
  abbrev m : List ℕ
  m = bytes_at s left

  abbrev at : ℕ → Part
  at x = record { has = true; start = left.start + x; len = left.len - x }

  -- what is left, after a value that ends at x
  next-at : {A : Type 0} (values : List ℕ → List A) (head : A) (x : ℕ) → 0 < x → x ≤ length m → (WellFramed m → values m ≡ head ∷ values (drop x m)) → (WellFramed m → WellFramed (drop x m))
      → Next values s left (at x) head
  next-at values head x z y h g =
      let len = length_at s left i in
      let r = rest_at s left x i (omega (arith, len)) in
      record {
        inside = omega (arith, len);
        shorter = omega (arith, len);
        first = λ w. h w ∙ ap (λ c. head ∷ values c) (sym r);
        framed = λ w. subst (λ (c : List ℕ). WellFramed c) (sym r) (g w);
      }

  -- where the field that was found ends
  pub bounds-next : (f : Found) → NextIs m n f → f.next ≤ left.len
  bounds-next f h = let d = h.ends.inside in omega (arith, length_at s left i)

  -- a part
  pub bounds-span : (f : Found) {a l : ℕ} → NextIs m n f → f.held ≡ Len a l → a + l ≡ f.next
  bounds-span f h e = (subst (λ (o : Held). BytesLie 0 f.next o) e h.ends.bytes).0

  pub next-span : (f : Found) {a l : ℕ} → NextIs m n f → f.held ≡ Len a l → NextPartIs s left n (Some (record { has = true; start = left.start + a; len = l }, at f.next))
  next-span f {a} {l} h e =
      let b = bounds-span f h e in
      let d = h.ends.inside in
      let z = h.ends.after in
      let len = length_at s left i in
      let p = inner-at s left true a l i (omega arith) in
      let v = ap (λ (o : Held). parts_of (value_of_held m o ∷ values_in n (drop f.next m))) e in
      (record { inside = omega arith; empty = refl }, next-at (parts_in n) _ f.next z d (λ w. ap parts_of (h.first w) ∙ v ∙ ap (λ b. b ∷ parts_in n (drop f.next m)) (sym p)) h.framed)

  pub none-span : (WellFramed m → values_in n m ≡ []) → (r : Perhaps (Part × Part)) → r ≡ None → NextPartIs s left n r
  none-span h r e = subst (λ (r : Perhaps (Part × Part)). NextPartIs s left n r) (sym e) (λ w. ap parts_of (h w))

  pub no-span : (f : Found) → NextIs m n f → ((a l : ℕ) → f.held ≡ Len a l → ⊥) → NextPartIs s left n None
  no-span f h e = go f.held h.first e
    where
      go : (o : Held) → (WellFramed m → values_in n m ≡ value_of_held m o ∷ values_in n (drop f.next m)) → ((a l : ℕ) → o ≡ Len a l → ⊥) → NextPartIs s left n None
      go (Len a l) h e = absurd (e a l refl)
      go (Varint v) h e = λ w. ap parts_of (h w)
      go (I64 a) h e = λ w. ap parts_of (h w)
      go (I32 a) h e = λ w. ap parts_of (h w)

  -- a number
  pub next-word : (f : Found) {v : ℕ} → NextIs m n f → f.held ≡ Varint v → NextNumIs s left n (Some (v, at f.next))
  next-word f {v} h e =
      let q = ap (λ (o : Held). numbers_of (value_of_held m o ∷ values_in n (drop f.next m))) e in
      next-at (numbers_in n) v f.next h.ends.after h.ends.inside (λ w. ap numbers_of (h.first w) ∙ q) h.framed

  pub none-word : (WellFramed m → values_in n m ≡ []) → (r : Perhaps (ℕ × Part)) → r ≡ None → NextNumIs s left n r
  none-word h r e = subst (λ (r : Perhaps (ℕ × Part)). NextNumIs s left n r) (sym e) (λ w. ap numbers_of (h w))

  pub no-word : (f : Found) → NextIs m n f → ((v : ℕ) → f.held ≡ Varint v → ⊥) → NextNumIs s left n None
  no-word f h e = go f.held h.first e
    where
      go : (o : Held) → (WellFramed m → values_in n m ≡ value_of_held m o ∷ values_in n (drop f.next m)) → ((v : ℕ) → o ≡ Varint v → ⊥) → NextNumIs s left n None
      go (Varint v) h e = absurd (e v refl)
      go (I64 a) h e = λ w. ap numbers_of (h w)
      go (Len a l) h e = λ w. ap numbers_of (h w)
      go (I32 a) h e = λ w. ap numbers_of (h w)
