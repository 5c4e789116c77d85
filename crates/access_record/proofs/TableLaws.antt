-- What the proofs of the code go by: each test over the record's bytes, and one turn of each walk.
use Rattle.std.specs.Prelude.{◌≡◌, refl, Bool, true, false, cond, ◌&&◌, ◌||◌, List, [], ◌∷◌, ℕ, zero, suc, ◌+◌, ◌-◌, ◌*◌, ◌≤◌, ◌<◌, leb, length, take, drop, get_or, Some, None}
use Rattle.std.proofs.Common.{sym, ap, ap₂, ◌∙◌, not-suc-le-zero, add-one, eq-eqb, ne_eqb, leb-true, drop-cons}
use native.Mathlib.Omega.{arith}
use Rattle.base_definitions.specs.Lists.{all, within, any}
use Rattle.access_record.specs.Table.{Scope, Acl, acl_of, mask_good, scope_good, acl_good, find_from, is_nobody, acls_good, table_good, no_acl}
use Rattle.access_record.proofs.OffsetLaws.{offset-good}
use Rattle.access_record.specs.Record.{bytes_at, word_at, scope_at, scopes_at, acl_at, acls_at, table_of}
use Rattle.access_record.specs.Places.{others, AclPlace}

-- ---- a walk that answers no at the first no
pub stops : {x : Bool} (y : Bool) {g h : Bool} → g ≡ (x && y) → g ≡ h → x ≡ false → false ≡ h
stops {x} y t i e = sym (ap (λ (b : Bool). (b && y)) e) ∙ sym t ∙ i

pub goes : {x y g h : Bool} → g ≡ (x && y) → g ≡ h → x ≡ true → y ≡ h
goes {x} {y} t i e = sym (ap (λ (b : Bool). (b && y)) e) ∙ sym t ∙ i

-- ---- and one that answers yes at the first yes
pub stops-yes : {x : Bool} (y : Bool) {g h : Bool} → g ≡ (x || y) → g ≡ h → x ≡ true → true ≡ h
stops-yes {x} y t i e = sym (ap (λ (b : Bool). (b || y)) e) ∙ sym t ∙ i

pub goes-yes : {x y g h : Bool} → g ≡ (x || y) → g ≡ h → x ≡ false → y ≡ h
goes-yes {x} {y} t i e = sym (ap (λ (b : Bool). (b || y)) e) ∙ sym t ∙ i

pub both-fst : (x y : Bool) → (x && y) ≡ true → x ≡ true
both-fst true y e = refl
both-fst false y e = e

pub both-snd : (x y : Bool) → (x && y) ≡ true → y ≡ true
both-snd true y e = e
both-snd false y e = absurd (let z : ◌≡◌ {A = ℕ} 0 1 = cc in omega arith)

pub within_low : (a b n : ℕ) → within a b n ≡ true → a ≤ n
within_low a b n e = leb-true a n (both-fst (leb a n) (leb n b) e)

pub within-high : (a b n : ℕ) → within a b n ≡ true → n ≤ b
within-high a b n e = leb-true n b (both-snd (leb a n) (leb n b) e)

-- ---- as many as asked for
pub length-bytes_at : (l : List ℕ) (a n : ℕ) → length (bytes_at l a n) ≡ n
unfolding bytes_at
length-bytes_at l a zero = refl
length-bytes_at l a (suc n) = ap suc (length-bytes_at l (a + 1) n)

length-scopes_at : (l : List ℕ) (a n : ℕ) → length (scopes_at l a n) ≡ n
unfolding scopes_at
length-scopes_at l a zero = refl
length-scopes_at l a (suc n) = ap suc (length-scopes_at l (a + 72) n)

length-acls_at : (l : List ℕ) (a n : ℕ) → length (acls_at l a n) ≡ n
unfolding acls_at
length-acls_at l a zero = refl
length-acls_at l a (suc n) = ap suc (length-acls_at l (a + 368) n)

-- ---- what is left of a walk over n places from a on, when it is at place k: from one place to the next, at the first and past the last
module _ {X : Type 0} (f : ℕ → ℕ → X) (size a : ℕ) where
  next_place : (k n : ℕ) → f (a + k * size + size) (n - k - 1) ≡ f (a + (k + 1) * size) (n - (k + 1))
  next_place k n =
      let e : a + k * size + size ≡ a + (k + 1) * size = omega arith in
      let m : n - k - 1 ≡ n - (k + 1) = omega arith in
      ap₂ f e m

  first_place : (n : ℕ) → f (a + 0 * size) (n - 0) ≡ f a n
  first_place n = let e : a + 0 * size ≡ a = omega arith in let m : n - 0 ≡ n = omega arith in ap₂ f e m

scopes_one : (l : List ℕ) (a n : ℕ) → 0 < n → scopes_at l a n ≡ scope_at l a ∷ scopes_at l (a + 72) (n - 1)
unfolding scopes_at
scopes_one l a zero h = absurd (not-suc-le-zero h)
scopes_one l a (suc n) h = let e : n ≡ suc n - 1 = omega arith in ap (λ (m : ℕ). scope_at l a ∷ scopes_at l (a + 72) m) e

acls_one : (l : List ℕ) (a n : ℕ) → 0 < n → acls_at l a n ≡ acl_at l a ∷ acls_at l (a + 368) (n - 1)
unfolding acls_at
acls_one l a zero h = absurd (not-suc-le-zero h)
acls_one l a (suc n) h = let e : n ≡ suc n - 1 = omega arith in ap (λ (m : ℕ). acl_at l a ∷ acls_at l (a + 368) m) e

pub scopes-first : (l : List ℕ) (a n : ℕ) → scopes_at l (a + 0 * 72) (n - 0) ≡ scopes_at l a n
scopes-first l a n = first_place (scopes_at l) 72 a n

pub acls-first : (l : List ℕ) (a n : ℕ) → acls_at l (a + 0 * 368) (n - 0) ≡ acls_at l a n
acls-first l a n = first_place (acls_at l) 368 a n

pub acls-next : (l : List ℕ) (a k n : ℕ) → acls_at l (a + k * 368 + 368) (n - k - 1) ≡ acls_at l (a + (k + 1) * 368) (n - (k + 1))
acls-next l a k n = next_place (acls_at l) 368 a k n

scopes-turn : (l : List ℕ) (a k n : ℕ) → k < n → scopes_at l (a + k * 72) (n - k) ≡ scope_at l (a + k * 72) ∷ scopes_at l (a + (k + 1) * 72) (n - (k + 1))
scopes-turn l a k n h =
    scopes_one l (a + k * 72) (n - k) (omega arith)
    ∙ ap (λ (ss : List Scope). scope_at l (a + k * 72) ∷ ss) (next_place (scopes_at l) 72 a k n)

acls-turn : (l : List ℕ) (a k n : ℕ) → k < n → acls_at l (a + k * 368) (n - k) ≡ acl_at l (a + k * 368) ∷ acls_at l (a + (k + 1) * 368) (n - (k + 1))
acls-turn l a k n h =
    acls_one l (a + k * 368) (n - k) (omega arith) ∙ ap (λ (rest : List Acl). acl_at l (a + k * 368) ∷ rest) (acls-next l a k n)

no-scopes : (l : List ℕ) (a n : ℕ) → n ≤ 0 → scopes_at l a n ≡ []
unfolding scopes_at
no-scopes l a zero h = refl
no-scopes l a (suc n) h = absurd (omega arith)

no-acls : (l : List ℕ) (a n : ℕ) → n ≤ 0 → acls_at l a n ≡ []
unfolding acls_at
no-acls l a zero h = refl
no-acls l a (suc n) h = absurd (omega arith)

-- ---- the tests over the bytes
pub scope-test : (l : List ℕ) (a : ℕ)
    → scope_good (scope_at l a)
    ≡ (leb (get_or l a 0) 64 && (leb (get_or l (a + 1) 0) 64 && mask_good (get_or l (a + 2) 0 * 256 + get_or l (a + 3) 0)))
unfolding scope_good scope_at
scope-test l a =
    ap₂ (λ (t : Bool) (n : ℕ). (t && (leb n 64 && mask_good (get_or l (a + 2) 0 * 256 + get_or l (a + 3) 0))))
    (offset-good (get_or l a 0)) (length-bytes_at l (a + 8) (get_or l (a + 1) 0))

pub scopes-test : (l : List ℕ) (a k n : ℕ) → k < n
    → all scope_good (scopes_at l (a + k * 72) (n - k))
    ≡ (scope_good (scope_at l (a + k * 72)) && all scope_good (scopes_at l (a + (k + 1) * 72) (n - (k + 1))))
unfolding all
scopes-test l a k n h = ap (all scope_good) (scopes-turn l a k n h)

pub scopes-end : (l : List ℕ) (a k n : ℕ) → n ≤ k → all scope_good (scopes_at l (a + k * 72) (n - k)) ≡ true
unfolding all
scopes-end l a k n h = ap (all scope_good) (no-scopes l (a + k * 72) (n - k) (omega arith))

pub acl-test : (l : List ℕ) (a : ℕ) {n : ℕ} → n ≡ get_or l (a + 9) 0
    → acl_good (acl_at l a)
    ≡ (within 1 64 (get_or l (a + 8) 0) && (within 1 4 n && all scope_good (scopes_at l (a + 80) n)))
unfolding acl_good acl_at
acl-test l a {n} q =
    ap₂ (λ (k m : ℕ). (within 1 64 k && (within 1 4 m && all scope_good (scopes_at l (a + 80) (get_or l (a + 9) 0)))))
    (length-bytes_at l (a + 16) (get_or l (a + 8) 0)) (length-scopes_at l (a + 80) (get_or l (a + 9) 0))
    ∙ ap (λ (m : ℕ). (within 1 64 (get_or l (a + 8) 0) && (within 1 4 m && all scope_good (scopes_at l (a + 80) m)))) (sym q)

pub acls-test : (l : List ℕ) (a k n : ℕ) → k < n
    → acls_good (acls_at l (a + k * 368) (n - k)) ≡ (acl_good (acl_at l (a + k * 368)) && others l (a + k * 368) (n - k))
unfolding acls_good acl_at
acls-test l a k n h = ap acls_good (acls_one l (a + k * 368) (n - k) (omega arith))

pub acls-end : (l : List ℕ) (a k n : ℕ) → n ≤ k → acls_good (acls_at l (a + k * 368) (n - k)) ≡ true
unfolding acls_good
acls-end l a k n h = ap acls_good (no-acls l (a + k * 368) (n - k) (omega arith))

pub table-test : (l : List ℕ) {n : ℕ} → n ≡ get_or l 8 0 → table_good (table_of l) ≡ (within 1 8 n && acls_good (acls_at l 16 n))
unfolding table_good table_of
table-test l q =
    ap (λ (n : ℕ). (within 1 8 n && acls_good (acls_at l 16 (get_or l 8 0)))) (length-acls_at l 16 (get_or l 8 0))
    ∙ ap (λ (m : ℕ). (within 1 8 m && acls_good (acls_at l 16 m))) (sym q)

-- ---- the search
pub find-yes : (i w : ℕ) (l : List ℕ) (a k n : ℕ) → k < n → word_at l (a + k * 368) ≡ w
    → find_from (i + k) w (acls_at l (a + k * 368) (n - k)) ≡ Some (i + k)
unfolding find_from acl_at
find-yes i w l a k n h e =
    ap (find_from (i + k) w) (acls-turn l a k n h)
    ∙ ap (λ (b : Bool). cond b (Some (i + k)) (find_from (i + k + 1) w (acls_at l (a + (k + 1) * 368) (n - (k + 1))))) (eq-eqb (word_at l (a + k * 368)) w e)

pub find-no : (i w : ℕ) (l : List ℕ) (a k n : ℕ) → k < n → (word_at l (a + k * 368) ≡ w → ⊥)
    → find_from (i + k) w (acls_at l (a + k * 368) (n - k)) ≡ find_from (i + (k + 1)) w (acls_at l (a + (k + 1) * 368) (n - (k + 1)))
unfolding find_from acl_at
find-no i w l a k n h e =
    let rest = acls_at l (a + (k + 1) * 368) (n - (k + 1)) in
    let z : i + k + 1 ≡ i + (k + 1) = omega arith in
    ap (find_from (i + k) w) (acls-turn l a k n h)
    ∙ ap (λ (b : Bool). cond b (Some (i + k)) (find_from (i + k + 1) w rest)) (ne_eqb (word_at l (a + k * 368)) w e)
    ∙ ap (λ (j : ℕ). find_from j w rest) z

pub find-first : (i w : ℕ) (l : List ℕ) (a n : ℕ) → find_from (i + 0) w (acls_at l (a + 0 * 368) (n - 0)) ≡ find_from i w (acls_at l a n)
find-first i w l a n = let z : i + 0 ≡ i = omega arith in ap₂ (λ (j : ℕ) (rest : List Acl). find_from j w rest) z (acls-first l a n)

pub find-end : (i w : ℕ) (l : List ℕ) (a k n : ℕ) → n ≤ k → find_from (i + k) w (acls_at l (a + k * 368) (n - k)) ≡ None
unfolding find_from
find-end i w l a k n h = ap (find_from (i + k) w) (no-acls l (a + k * 368) (n - k) (omega arith))

-- ---- what a good record gives
pub table-count : (l : List ℕ) → table_good (table_of l) ≡ true → get_or l 8 0 ≤ 8
table-count l g = within-high 1 8 (get_or l 8 0) (both-fst _ (acls_good (acls_at l 16 (get_or l 8 0))) (sym (table-test l refl) ∙ g))

pub scope-offset : (l : List ℕ) (a : ℕ) → scope_good (scope_at l a) ≡ true → get_or l a 0 ≤ 64
scope-offset l a g = leb-true _ _ (both-fst (leb (get_or l a 0) 64) _ (sym (scope-test l a) ∙ g))

pub scope-value : (l : List ℕ) (a : ℕ) → scope_good (scope_at l a) ≡ true → get_or l (a + 1) 0 ≤ 64
scope-value l a g =
    leb-true _ _ (both-fst (leb (get_or l (a + 1) 0) 64) _ (both-snd (leb (get_or l a 0) 64) _ (sym (scope-test l a) ∙ g)))

place-good : (l : List ℕ) (a : ℕ) → acl_good (acl_at l a) ≡ true → AclPlace l a
place-good l a g =
    let k = get_or l (a + 8) 0 in
    let n = get_or l (a + 9) 0 in
    let t = sym (acl-test l a refl) ∙ g in
    let x = both-fst (within 1 64 k) _ t in
    let y = both-snd (within 1 64 k) (within 1 4 n && all scope_good (scopes_at l (a + 80) n)) t in
    record {
      key_fits = within-high 1 64 k x;
      scopes_few = within-high 1 4 n (both-fst (within 1 4 n) _ y);
      scopes_good = both-snd (within 1 4 n) _ y;
    }

acls-nth : (l : List ℕ) (a n i : ℕ) → acls_good (acls_at l a n) ≡ true → i < n → acl_good (acl_at l (a + i * 368)) ≡ true
unfolding acls_at acls_good
acls-nth l a zero i g h = absurd (not-suc-le-zero h)
acls-nth l a (suc n) zero g h =
    let e : a ≡ a + 0 * 368 = omega arith in
    ap (λ (b : ℕ). acl_good (acl_at l b)) (sym e) ∙ both-fst (acl_good (acl_at l a)) _ g
acls-nth l a (suc n) (suc i) g h =
    let e : a + 368 + i * 368 ≡ a + suc i * 368 = omega arith in
    let rest = both-snd (is_nobody (find_from 0 (acl_at l a).identity (acls_at l (a + 368) n))) (acls_good (acls_at l (a + 368) n)) (both-snd (acl_good (acl_at l a)) _ g) in
    ap (λ (b : ℕ). acl_good (acl_at l b)) (sym e) ∙ acls-nth l (a + 368) n i rest (omega arith)

nth-at : (l : List ℕ) (a n i : ℕ) (d : Acl) → i < n → get_or (acls_at l a n) i d ≡ acl_at l (a + i * 368)
unfolding acls_at
nth-at l a zero i d h = absurd (not-suc-le-zero h)
nth-at l a (suc n) zero d h = let e : a ≡ a + 0 * 368 = omega arith in ap (acl_at l) e
nth-at l a (suc n) (suc i) d h =
    let e : a + 368 + i * 368 ≡ a + suc i * 368 = omega arith in
    nth-at l (a + 368) n i d (omega arith) ∙ ap (acl_at l) e

-- the i-th ACL of the table stands at the i-th place
module _ (l : List ℕ) (i : ℕ) (h : i < length (table_of l).acls) where
  below-count : i < get_or l 8 0
  unfolding table_of
  below-count = let e = length-acls_at l 16 (get_or l 8 0) in omega arith

  pub acl_of-at : acl_of (table_of l) i ≡ acl_at l (16 + i * 368)
  unfolding acl_of table_of
  acl_of-at = nth-at l 16 (get_or l 8 0) i no_acl below-count

  pub below-eight : table_good (table_of l) ≡ true → i < 8
  below-eight g = let a = table-count l g in let b = below-count in omega arith

  pub place-of : table_good (table_of l) ≡ true → AclPlace l (16 + i * 368)
  place-of g =
      place-good l (16 + i * 368)
      (acls-nth l 16 (get_or l 8 0) i (both-snd (within 1 8 (get_or l 8 0)) _ (sym (table-test l refl) ∙ g)) below-count)

-- ---- one scope after the other
pub any-turn : (f : Scope → Bool) (l : List ℕ) (a k n : ℕ) → k < n
    → any f (scopes_at l (a + k * 72) (n - k)) ≡ (f (scope_at l (a + k * 72)) || any f (scopes_at l (a + (k + 1) * 72) (n - (k + 1))))
unfolding any
any-turn f l a k n h = ap (any f) (scopes-turn l a k n h)

pub any-end : (f : Scope → Bool) (l : List ℕ) (a k n : ℕ) → n ≤ k → any f (scopes_at l (a + k * 72) (n - k)) ≡ false
unfolding any
any-end f l a k n h = ap (any f) (no-scopes l (a + k * 72) (n - k) (omega arith))

-- ---- a part of the bytes
pub bytes-part : (l : List ℕ) (a n : ℕ) → a + n ≤ length l → bytes_at l a n ≡ take n (drop a l)
unfolding bytes_at
bytes-part l a zero h = refl
bytes-part l a (suc n) h =
    ap (λ (x : List ℕ). get_or l a 0 ∷ x) (bytes-part l (a + 1) n (omega arith) ∙ ap (λ (m : ℕ). take n (drop m l)) (add-one a))
    ∙ ap (take (suc n)) (sym (drop-cons l a 0 (omega arith)))
