-- What is found has the identity, and the identities of a good table differ.
use Rattle.std.specs.Prelude.{◌≡◌, refl, Bool, true, false, cond, List, [], ◌∷◌, ℕ, zero, suc, ◌+◌, ◌-◌, ◌≤◌, ◌<◌, eqb, length, get_or, Option, Some, None}
use Rattle.std.proofs.Common.{sym, ap, ◌∙◌, not-suc-le-zero, arith, eqb-true}
use Rattle.std.proofs.lemmas.Bool.{eqb-false}
use Rattle.base_definitions.specs.Lists.{within}
use Rattle.access_record.specs.Table.{Acl, Table, acl_good, find_from, is_nobody, acls_good, table_good, place_of, acl_of, no_acl}
use Rattle.access_record.specs.Record.{table_of, Placed}
use Rattle.access_record.proofs.TableLaws.{both-fst, both-snd}

found_below : (i w : ℕ) (xs : List Acl) (j : ℕ) → find_from i w xs ≡ Some j → (i ≤ j) × (j < i + length xs)
unfolding find_from
found_below i w [] j e = absurd (let z : ◌≡◌ {A = ℕ} 0 1 = cc in omega arith)
found_below i w (x ∷ xs) j e = go (eqb x.identity w) refl (found_below (i + 1) w xs j)
  where
    go : (b : Bool) → eqb x.identity w ≡ b → (find_from (i + 1) w xs ≡ Some j → (i + 1 ≤ j) × (j < i + 1 + length xs)) → (i ≤ j) × (j < i + suc (length xs))
    go true q ih =
        let f : i ≡ j = let t : Some i ≡ Some j = sym (ap (λ (b : Bool). cond b (Some i) (find_from (i + 1) w xs)) q) ∙ e in cc in
        (omega arith, omega arith)
    go false q ih =
        let f = ih (sym (ap (λ (b : Bool). cond b (Some i) (find_from (i + 1) w xs)) q) ∙ e) in
        (omega arith, omega arith)

found-has : (i w : ℕ) (xs : List Acl) (j : ℕ) (d : Acl) → find_from i w xs ≡ Some j → (get_or xs (j - i) d).identity ≡ w
unfolding find_from
found-has i w [] j d e = absurd (let z : ◌≡◌ {A = ℕ} 0 1 = cc in omega arith)
found-has i w (x ∷ xs) j d e = go (eqb x.identity w) refl (found-has (i + 1) w xs j d)
  where
    go : (b : Bool) → eqb x.identity w ≡ b → (find_from (i + 1) w xs ≡ Some j → (get_or xs (j - (i + 1)) d).identity ≡ w) → (get_or (x ∷ xs) (j - i) d).identity ≡ w
    go true q ih =
        let f : i ≡ j = let t : Some i ≡ Some j = sym (ap (λ (b : Bool). cond b (Some i) (find_from (i + 1) w xs)) q) ∙ e in cc in
        let z : j - i ≡ 0 = omega arith in
        ap (λ (m : ℕ). (get_or (x ∷ xs) m d).identity) z ∙ eqb-true x.identity w q
    go false q ih =
        let t = sym (ap (λ (b : Bool). cond b (Some i) (find_from (i + 1) w xs)) q) ∙ e in
        let f = found_below (i + 1) w xs j t in
        let z : j - i ≡ suc (j - (i + 1)) = omega arith in
        ap (λ (m : ℕ). (get_or (x ∷ xs) m d).identity) z ∙ ih t

-- nobody is found: nobody has it
nobody-has : (i w : ℕ) (xs : List Acl) (j : ℕ) (d : Acl) → find_from i w xs ≡ None → j < length xs → (get_or xs j d).identity ≡ w → ⊥
unfolding find_from
nobody-has i w [] j d e h q = not-suc-le-zero h
nobody-has i w (x ∷ xs) j d e h q = go (eqb x.identity w) refl j h q (λ k. nobody-has (i + 1) w xs k d)
  where
    go : (b : Bool) → eqb x.identity w ≡ b → (j : ℕ) → j < suc (length xs) → (get_or (x ∷ xs) j d).identity ≡ w
        → ((k : ℕ) → find_from (i + 1) w xs ≡ None → k < length xs → (get_or xs k d).identity ≡ w → ⊥) → ⊥
    go true p j h q ih =
        let t : Some i ≡ None = sym (ap (λ (b : Bool). cond b (Some i) (find_from (i + 1) w xs)) p) ∙ e in
        let z : ◌≡◌ {A = ℕ} 0 1 = cc in omega arith
    go false p zero h q ih = eqb-false x.identity w p q
    go false p (suc k) h q ih = ih k (sym (ap (λ (b : Bool). cond b (Some i) (find_from (i + 1) w xs)) p) ∙ e) (omega arith) q

-- ---- the place of an identity

-- it is one of the table's
pub place-below : (t : Table) (w i : ℕ) → place_of t w ≡ Some i → i < length t.acls
unfolding place_of
place-below t w i e = let h = found_below 0 w t.acls i e in omega arith

-- what stands there has the identity
pub place-has : (t : Table) (w i : ℕ) → place_of t w ≡ Some i → (acl_of t i).identity ≡ w
unfolding place_of acl_of
place-has t w i e =
    let z : i ≡ i - 0 = omega arith in
    ap (λ (m : ℕ). (get_or t.acls m no_acl).identity) z ∙ found-has 0 w t.acls i no_acl e

-- where nobody is found, no ACL has the identity
pub place-nobody : (t : Table) (w : ℕ) → place_of t w ≡ None → (i : ℕ) → i < length t.acls → (acl_of t i).identity ≡ w → ⊥
unfolding place_of acl_of
place-nobody t w e i h q = nobody-has 0 w t.acls i no_acl e h q

-- ---- identities differ

differ : (xs : List Acl) (i j : ℕ) (d : Acl) → acls_good xs ≡ true → i < j → j < length xs → (get_or xs i d).identity ≡ (get_or xs j d).identity → ⊥
unfolding acls_good
differ [] i j d g h k e = not-suc-le-zero k
differ (x ∷ xs) i zero d g h k e = not-suc-le-zero h
differ (x ∷ xs) zero (suc j) d g h k e =
    nobody-has 0 x.identity xs j d (is-nobody (find_from 0 x.identity xs) (both-fst (is_nobody (find_from 0 x.identity xs)) (acls_good xs) (both-snd (acl_good x) _ g))) (omega arith) (sym e)
  where
    is-nobody : (f : Option ℕ) → is_nobody f ≡ true → f ≡ None
    is-nobody None q = refl
    is-nobody (Some i) q = absurd (let z : ◌≡◌ {A = ℕ} 0 1 = cc in omega arith)
differ (x ∷ xs) (suc i) (suc j) d g h k e =
    differ xs i j d (both-snd (is_nobody (find_from 0 x.identity xs)) (acls_good xs) (both-snd (acl_good x) _ g)) (omega arith) (omega arith) e

-- "identities present and distinct"
pub identities-differ : (t : Table) → table_good t ≡ true → (i j : ℕ) → i < j → j < length t.acls → (acl_of t i).identity ≡ (acl_of t j).identity → ⊥
unfolding table_good acl_of
identities-differ t g i j h k e = differ t.acls i j no_acl (both-snd (within 1 8 (length t.acls)) (acls_good t.acls) g) h k e

-- ---- a found place, as the calls ask for it
pub found-placed : (l : List ℕ) (w i : ℕ) → table_good (table_of l) ≡ true → place_of (table_of l) w ≡ Some i → Placed l i
found-placed l w i g e = record { good = g; below = place-below (table_of l) w i e }
