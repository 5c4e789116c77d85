-- The bytes read back: a call leaves the connection that the next one starts from.
use Rattle.std.specs.Prelude.{◌≡◌, refl, Bool, true, false, not, cond, ◌⊎◌, ℕ, suc, ◌+◌, ◌*◌, ◌≤◌, ◌<◌, eqb, replicate}
use Rattle.std.proofs.Common.{sym, ap₂, ◌∙◌, inl, inr, zero-add, arith, eq-eqb, eqb-true}
use Rattle.std.proofs.Math.Path.{ap}
use mathlib.Core.List.{List, [], ◌∷◌, ◌++◌, append_assoc}
use Rattle.std.proofs.Math.Option.{Option, none, some}
use Rattle.std.proofs.Math.ListN.{length, take, drop, get_or, set, length-set}
use Rattle.std.proofs.lemmas.List.Edits.{sets, sets-eq}
use Rattle.std.proofs.Math.Seq.{get_or-set_same, get_or-set_other, get_or-append-add, length-take-le}
use Rattle.fields_schema.specs.Tree.{guard}
use Rattle.base_definitions.specs.BigEndian.{be32}
use Rattle.access_record.specs.Record.{half_at, word_at, word_bytes, flag, table_of, with_cluster_version}
use Rattle.access_record.proofs.ReadbackLaws.{length-word, version-set}
use Rattle.protocol.specs.State.{Connection, connected, with_closed, with_sequence}
use Rattle.c_connection.specs.Layout.{yes, connection_at, connected_bytes, is_last, heard_bytes, hears, closes, becomes}
use Rattle.c_connection.specs.Follows.{Follows}

-- ---- words
half-same : (l m : List ℕ) (a b : ℕ) → ((i : ℕ) → i < 4 → get_or l (a + i) 0 ≡ get_or m (b + i) 0) → half_at l a ≡ half_at m b
unfolding half_at
half-same l m a b e =
    let za : a + 0 ≡ a = omega arith in
    let zb : b + 0 ≡ b = omega arith in
    let e0 : get_or l a 0 ≡ get_or m b 0 = rw (za, zb) at (e 0 (omega arith)) in
    let e1 = e 1 (omega arith) in
    let e2 = e 2 (omega arith) in
    let e3 = e 3 (omega arith) in
    omega arith

word_same : (l m : List ℕ) (a b : ℕ) → ((i : ℕ) → i < 8 → get_or l (a + i) 0 ≡ get_or m (b + i) 0) → word_at l a ≡ word_at m b
unfolding word_at
word_same l m a b e =
    let h = half-same l m a b (λ i k. e i (omega arith)) in
    let g = half-same l m (a + 4) (b + 4) (λ i k. let p : a + 4 + i ≡ a + (4 + i) = omega arith in let q : b + 4 + i ≡ b + (4 + i) = omega arith in
    ap (λ (n : ℕ). get_or l n 0) p ∙ e (4 + i) (omega arith) ∙ ap (λ (n : ℕ). get_or m n 0) (sym q)) in
    ap₂ (λ (x y : ℕ). x * 4294967296 + y) h g

word_back : (w : ℕ) (r : List ℕ) → word_at (word_bytes w ++ r) 0 ≡ w
unfolding table_of with_cluster_version word_bytes be32
word_back w r = ap (λ t. t.cluster_version) (version-set (word_bytes w ++ r) w (omega arith))

-- ---- a new connection
flag-back : (p : Bool) → not (eqb (flag p) 0) ≡ p
flag-back true = refl
flag-back false = refl

pub connected-back : (number : ℕ) (protected : Bool) → connection_at (connected_bytes number protected) ≡ connected number protected
unfolding connected_bytes word_bytes be32
connected-back n p =
    let e : word_at (connected_bytes n p) 0 ≡ n = word_back n (flag p ∷ replicate 23 0) in
    let f : yes (connected_bytes n p) 8 ≡ p = flag-back p in
    λ i. record { number = e i; protected = f i; closed = false; last = none }

-- ---- a sequence accepted
sets-other : (l : List ℕ) (a : ℕ) (vs : List ℕ) (i : ℕ) → (i < a) ⊎ (a + length vs ≤ i) → get_or (sets l a vs) i 0 ≡ get_or l i 0
sets-other l a [] i h = refl
sets-other l a (v ∷ vs) i (inl h) = sets-other (set l a v) (suc a) vs i (inl (omega arith)) ∙ get_or-set_other l a i v 0 (λ z. omega arith)
sets-other l a (v ∷ vs) i (inr h) = sets-other (set l a v) (suc a) vs i (inr (omega arith)) ∙ get_or-set_other l a i v 0 (λ z. omega arith)

module _ (l : List ℕ) (q : ℕ) where
  heard-other : (i : ℕ) → (i ≡ 10 → ⊥) → (i < 16) ⊎ (24 ≤ i) → get_or (heard_bytes l q) i 0 ≡ get_or l i 0
  unfolding heard_bytes word_bytes be32
  heard-other i n h = sets-other (set l 10 1) 16 (word_bytes q) i h ∙ get_or-set_other l 10 i 1 0 n

  heard-seen : length l ≡ 32 → get_or (heard_bytes l q) 10 0 ≡ 1
  unfolding heard_bytes
  heard-seen long = sets-other (set l 10 1) 16 (word_bytes q) 10 (inl (omega arith)) ∙ get_or-set_same l 10 1 0 (omega arith)

  heard-last : length l ≡ 32 → word_at (heard_bytes l q) 16 ≡ q
  unfolding heard_bytes
  heard-last long =
      let m = set l 10 1 in
      let f = take 16 m in
      let r = word_bytes q ++ drop (16 + length (word_bytes q)) m in
      let n : length m ≡ length l = length-set l 10 1 in
      let k = length-word q in
      let e : length f ≡ 16 = length-take-le 16 m (omega arith) in
      ap (λ (x : List ℕ). word_at x 16) (sets-eq (word_bytes q) m 16 (omega arith) ∙ append_assoc f (word_bytes q) (drop (16 + length (word_bytes q)) m))
      ∙ word_same (f ++ r) r 16 0 (λ i h. ap (λ (x : ℕ). get_or (f ++ r) (x + i) 0) (sym e) ∙ get_or-append-add f r i 0 ∙ ap (λ (x : ℕ). get_or r x 0) (sym (zero-add i)))
      ∙ word_back q (drop (16 + length (word_bytes q)) m)

  heard-flag : (a : ℕ) → (a ≡ 10 → ⊥) → (a < 16) ⊎ (24 ≤ a) → yes (heard_bytes l q) a ≡ yes l a
  heard-flag a n h = ap (λ (x : ℕ). not (eqb x 0)) (heard-other a n h)

  heard-back : length l ≡ 32 → connection_at (heard_bytes l q) ≡ with_sequence (connection_at l) q
  heard-back long =
      let e : word_at (heard_bytes l q) 0 ≡ word_at l 0 = word_same (heard_bytes l q) l 0 0 (λ i h. heard-other (0 + i) (λ z. omega arith) (inl (omega arith))) in
      let p = heard-flag 8 (λ z. omega arith) (inl (omega arith)) in
      let c = heard-flag 9 (λ z. omega arith) (inl (omega arith)) in
      let o : guard (yes (heard_bytes l q) 10) (word_at (heard_bytes l q) 16) ≡ some q = ap₂ (λ (n w : ℕ). guard (not (eqb n 0)) w) (heard-seen long) (heard-last long) in
      λ i. record { number = e i; protected = p i; closed = c i; last = o i }

-- ---- closing
same-closed : (l : List ℕ) (s : Bool) → yes l 9 ≡ s → closes l s ≡ l
same-closed l false e = refl
same-closed l true e = ap (λ (b : Bool). cond b l (set l 9 1)) e

module _ (l : List ℕ) where
  shut-word : (a : ℕ) → ((i : ℕ) → i < 8 → a + i ≡ 9 → ⊥) → word_at (set l 9 1) a ≡ word_at l a
  shut-word a n = word_same (set l 9 1) l a a (λ i h. get_or-set_other l 9 (a + i) 1 0 (n i h))

  shut-flag : (a : ℕ) → (a ≡ 9 → ⊥) → yes (set l 9 1) a ≡ yes l a
  shut-flag a n = ap (λ (x : ℕ). not (eqb x 0)) (get_or-set_other l 9 a 1 0 n)

  shut-back : length l ≡ 32 → connection_at (set l 9 1) ≡ with_closed (connection_at l)
  shut-back long =
      let e = shut-word 0 (λ i h z. omega arith) in
      let p = shut-flag 8 (λ z. omega arith) in
      let c : yes (set l 9 1) 9 ≡ true = ap (λ (n : ℕ). not (eqb n 0)) (get_or-set_same l 9 1 0 (omega arith)) in
      let s = shut-flag 10 (λ z. omega arith) in
      let w = shut-word 16 (λ i h z. omega arith) in
      λ i. record { number = e i; protected = p i; closed = c i; last = guard (s i) (w i) }

  -- ---- what does not change is not written
  same-last : (s : Bool) (w : ℕ) → yes l 10 ≡ s → word_at l 16 ≡ w → hears l (guard s w) ≡ l
  same-last false w e f = refl
  same-last true w e f =
      ap (λ (b : Bool). cond (is_last (guard b (word_at l 16)) w) l (heard_bytes l w)) e
      ∙ ap (λ (b : Bool). cond b l (heard_bytes l w)) (eq-eqb (word_at l 16) w f)

  closing-back : length l ≡ 32 → (s : Bool) → yes l 9 ≡ s → connection_at (closes l true) ≡ with_closed (connection_at l)
  closing-back long true e =
      ap (λ (b : Bool). connection_at (cond b l (set l 9 1))) e
      ∙ (λ i. record { number = word_at l 0; protected = yes l 8; closed = e i; last = guard (yes l 10) (word_at l 16) })
  closing-back long false e = ap (λ (b : Bool). connection_at (cond b l (set l 9 1))) e ∙ shut-back long

  heard-again : (s : Bool) → yes l 10 ≡ s → (q : ℕ) → is_last (guard s (word_at l 16)) q ≡ true → guard s (word_at l 16) ≡ some q
  heard-again true e q f = ap some (eqb-true (word_at l 16) q f)
  heard-again false e q f = absurd (let z : ◌≡◌ {A = ℕ} 0 1 = cc in omega arith)

  hearing-back : length l ≡ 32 → (q : ℕ) (t : Bool) → is_last (connection_at l).last q ≡ t
      → connection_at (closes (cond t l (heard_bytes l q)) (yes l 9)) ≡ with_sequence (connection_at l) q
  hearing-back long q true e =
      ap connection_at (same-closed l (yes l 9) refl)
      ∙ (λ i. record { number = word_at l 0; protected = yes l 8; closed = yes l 9; last = heard-again (yes l 10) refl q e i })
  hearing-back long q false e =
      ap connection_at (same-closed (heard_bytes l q) (yes l 9) (heard-flag l q 9 (λ z. omega arith) (inl (omega arith)))) ∙ heard-back l q long

-- THE CONNECTION READ BACK is the one that the call left
pub becomes-back : (l : List ℕ) (c : Connection) → length l ≡ 32 → Follows (connection_at l) c → connection_at (becomes l c) ≡ c
unfolding becomes
becomes-back l c long Follows.stays =
    ap (λ (m : List ℕ). connection_at (closes m (yes l 9))) (same-last l (yes l 10) (word_at l 16) refl refl) ∙ ap connection_at (same-closed l (yes l 9) refl)
becomes-back l c long Follows.closed =
    ap (λ (m : List ℕ). connection_at (closes m true)) (same-last l (yes l 10) (word_at l 16) refl refl) ∙ closing-back l long (yes l 9) refl
becomes-back l c long (Follows.accepted q) = hearing-back l long q (is_last (connection_at l).last q) refl

-- no other byte of it ever changes
pub others-stay : (l : List ℕ) (c : Connection) (i : ℕ) → (i ≡ 9 → ⊥) → (i ≡ 10 → ⊥) → (i < 16) ⊎ (24 ≤ i) → get_or (becomes l c) i 0 ≡ get_or l i 0
unfolding becomes
others-stay l c i n9 n10 h = closing (hears l c.last) c.closed ∙ hearing c.last
  where
    closing : (m : List ℕ) (s : Bool) → get_or (closes m s) i 0 ≡ get_or m i 0
    closing m false = refl
    closing m true = chosen (yes m 9)
      where
        chosen : (t : Bool) → get_or (cond t m (set m 9 1)) i 0 ≡ get_or m i 0
        chosen true = refl
        chosen false = get_or-set_other m 9 i 1 0 n9

    hearing : (o : Option ℕ) → get_or (hears l o) i 0 ≡ get_or l i 0
    hearing none = refl
    hearing (some q) = chosen (is_last (connection_at l).last q)
      where
        chosen : (t : Bool) → get_or (cond t l (heard_bytes l q)) i 0 ≡ get_or l i 0
        chosen true = refl
        chosen false = heard-other l q i n10 h
