-- The mask of a scope holds exactly the listed permissions, whatever their order and repeats, and the allowed masks are exactly the
-- non-empty sets of 0-5, 7, 8, 9.
use Rattle.std.specs.Prelude.{◌≡◌, refl, Bool, true, false, not, ◌&&◌, ◌||◌, List, [], ◌∷◌, ◌++◌, ℕ, zero, suc, ◌/◌, ◌%◌, ◌≤◌, ◌<◌, eqb, leb}
use Rattle.std.proofs.Common.{sym, ap, ◌∙◌, not-suc-le-zero, arith, eq-eqb, ne_eqb, eqb-true, leb-true, leb-false, le-leb}
use Rattle.std.proofs.lemmas.Bool.{eqb-false}
use Rattle.base_definitions.specs.Bits.{bit, with_bit}
use Rattle.base_definitions.specs.Lists.{all, any, within, is_empty}
use Rattle.access_record.specs.Table.{named, mask_of, mask_good, every_scope}
use Rattle.access_record.proofs.TableLaws.{both-fst, both-snd, within-high}
use Rattle.base_definitions.proofs.BitsLaws.{with-bit, no-bit, with-below, bit_below, same_bits}
use Rattle.access_record.specs.Mask.{cons_if, keep, listed, permissions_of}

-- a permission is in the mask just where it is in the list
pub mask-has : (ps : List ℕ) (q : ℕ) → bit (mask_of ps) q ≡ any (eqb q) ps
unfolding mask_of any
mask-has [] q = no-bit q
mask-has (p ∷ ps) q = with-bit (mask_of ps) p q ∙ ap (◌||◌ (eqb q p)) (mask-has ps q)

-- lists of the same permissions, in any order and with any repeats, have the same mask
pub mask-set : (ps qs : List ℕ) → ((q : ℕ) → any (eqb q) ps ≡ any (eqb q) qs) → mask_of ps ≡ mask_of qs
mask-set ps qs e = same_bits (mask_of ps) (mask_of qs) (λ q. mask-has ps q ∙ e q ∙ sym (mask-has qs q))

either-last : (x y : Bool) → (y || x) ≡ (x || (y || false))
either-last true true = refl
either-last true false = refl
either-last false true = refl
either-last false false = refl

any_last : (f : ℕ → Bool) (ps : List ℕ) (p : ℕ) → any f (ps ++ (p ∷ [])) ≡ (any f ps || (f p || false))
unfolding any
any_last f [] p = refl
any_last f (x ∷ ps) p = ap (◌||◌ (f x)) (any_last f ps p) ∙ assoc (f x) (any f ps) (f p || false)
  where
    assoc : (t u v : Bool) → (t || (u || v)) ≡ ((t || u) || v)
    assoc true u v = refl
    assoc false u v = refl

-- one more permission at the end of the list
pub mask-more : (ps : List ℕ) (p : ℕ) → with_bit (mask_of ps) p ≡ mask_of (ps ++ (p ∷ []))
mask-more ps p =
    same_bits (with_bit (mask_of ps) p) (mask_of (ps ++ (p ∷ [])))
    (λ q. with-bit (mask_of ps) p q ∙ ap (◌||◌ (eqb q p)) (mask-has ps q) ∙ either-last (any (eqb q) ps) (eqb q p) ∙ sym (any_last (eqb q) ps p) ∙ sym (mask-has (ps ++ (p ∷ [])) q))

-- ---- the allowed sets

-- named permissions are those below 10 but 6
named_in : (p : ℕ) → p < 10 → (p ≡ 6 → ⊥) → named p ≡ true
unfolding named
named_in p h n = go (leb p 5) refl
  where
    go : (t : Bool) → leb p 5 ≡ t → (t || within 7 9 p) ≡ true
    go true e = refl
    go false e = let k = leb-false p 5 e in simp (le-leb 7 p (omega arith), le-leb p 9 (omega arith))

named-below : (p : ℕ) → named p ≡ true → p < 10
unfolding named
named-below p e = go (leb p 5) refl e
  where
    go : (t : Bool) → leb p 5 ≡ t → (t || within 7 9 p) ≡ true → p < 10
    go true q f = let h = leb-true p 5 q in omega arith
    go false q f = let h = within-high 7 9 p f in omega arith

named-not-six : (p : ℕ) → named p ≡ true → eqb 6 p ≡ false
unfolding named
named-not-six p e = ne_eqb 6 p (λ q. let f : named 6 ≡ true = ap named q ∙ e in let z : ◌≡◌ {A = ℕ} 0 1 = cc in omega arith)

good-below : (m : ℕ) → mask_good m ≡ true → m ≤ 1023
unfolding mask_good
good-below m g = leb-true m 1023 (both-fst (leb m 1023) (eqb (m / 64 % 2) 0) (both-snd (leb 1 m) _ g))

good-six : (m : ℕ) → mask_good m ≡ true → bit m 6 ≡ true → ⊥
unfolding mask_good bit
good-six m g e =
    let a = eqb-true (m / 64 % 2) 0 (both-snd (leb m 1023) (eqb (m / 64 % 2) 0) (both-snd (leb 1 m) _ g)) in
    let b = eqb-true (m / 64 % 2) 1 e in
    omega arith

-- an allowed mask holds named permissions only
pub good-named : (m p : ℕ) → mask_good m ≡ true → bit m p ≡ true → named p ≡ true
good-named m p g e =
    let h = good-below m g in
    named_in p (bit_below 10 p m (omega arith) e) (λ q. good-six m g (ap (bit m) (sym q) ∙ e))

-- two tests that hold alike are one
same_test : (x y : Bool) → (x ≡ true → y ≡ true) → (y ≡ true → x ≡ true) → x ≡ y
same_test true y f g = sym (f refl)
same_test false true f g = g refl
same_test false false f g = refl

all-has : (f : ℕ → Bool) (ps : List ℕ) → ((q : ℕ) → any (eqb q) ps ≡ true → f q ≡ true) → all f ps ≡ true
unfolding all any
all-has f [] h = refl
all-has f (p ∷ ps) h =
    let here : f p ≡ true = h p (ap (λ (t : Bool). (t || any (eqb p) ps)) (eq-eqb p p refl)) in
    ap (λ (t : Bool). (t && all f ps)) here ∙ all-has f ps (λ q e. h q (later (eqb q p) e))
  where
    later : (t : Bool) {u : Bool} → u ≡ true → (t || u) ≡ true
    later true e = refl
    later false e = e

list-below : (ps : List ℕ) → all named ps ≡ true → mask_of ps < 1024
unfolding all mask_of
list-below [] h = omega arith
list-below (p ∷ ps) h =
    with-below 10 p (mask_of ps) (named-below p (both-fst (named p) (all named ps) h)) (list-below ps (both-snd (named p) (all named ps) h))

list-not-six : (ps : List ℕ) → all named ps ≡ true → any (eqb 6) ps ≡ false
unfolding all any
list-not-six [] h = refl
list-not-six (p ∷ ps) h =
    ap (λ (t : Bool). (t || any (eqb 6) ps)) (named-not-six p (both-fst (named p) (all named ps) h))
    ∙ list-not-six ps (both-snd (named p) (all named ps) h)

list-some : (p : ℕ) (ps : List ℕ) → 1 ≤ mask_of (p ∷ ps)
unfolding any
list-some p ps = go (leb 1 (mask_of (p ∷ ps))) refl
  where
    go : (t : Bool) → leb 1 (mask_of (p ∷ ps)) ≡ t → 1 ≤ mask_of (p ∷ ps)
    go true e = leb-true 1 (mask_of (p ∷ ps)) e
    go false e =
        let h = leb-false 1 (mask_of (p ∷ ps)) e in
        let z : mask_of (p ∷ ps) ≡ 0 = omega arith in
        let b : bit (mask_of (p ∷ ps)) p ≡ true = mask-has (p ∷ ps) p ∙ ap (λ (t : Bool). (t || any (eqb p) ps)) (eq-eqb p p refl) in
        let f = sym (ap (λ (x : ℕ). bit x p) z ∙ no-bit p) ∙ b in
        absurd (let t : ◌≡◌ {A = ℕ} 0 1 = cc in omega arith)

no-mask : mask_good (mask_of []) ≡ false
unfolding mask_good mask_of
no-mask = refl

good-list : (ps : List ℕ) → mask_good (mask_of ps) ≡ true → all named ps ≡ true
good-list ps g = all-has named ps (λ q e. good-named (mask_of ps) q g (mask-has ps q ∙ e))

list-good : (p : ℕ) (ps : List ℕ) → all named (p ∷ ps) ≡ true → mask_good (mask_of (p ∷ ps)) ≡ true
unfolding mask_good bit
list-good p ps h =
    let m = mask_of (p ∷ ps) in
    let s = list-some p ps in
    let b = list-below (p ∷ ps) h in
    let x : bit m 6 ≡ false = mask-has (p ∷ ps) 6 ∙ list-not-six (p ∷ ps) h in
    let n = eqb-false (m / 64 % 2) 1 x in
    simp (le-leb 1 m s, le-leb m 1023 (omega arith), eq-eqb (m / 64 % 2) 0 (omega arith))

-- a list's mask is allowed just where the list is not empty and has named permissions only
pub mask-good : (ps : List ℕ) → mask_good (mask_of ps) ≡ (not (is_empty ps) && all named ps)
mask-good [] = no-mask
mask-good (p ∷ ps) = same_test (mask_good (mask_of (p ∷ ps))) (all named (p ∷ ps)) (good-list (p ∷ ps)) (list-good p ps)

-- ---- every allowed mask is that of such a list

both-no : (t : Bool) → (t && false) ≡ false
both-no true = refl
both-no false = refl

keep-has : (f : ℕ → Bool) (ps : List ℕ) (q : ℕ) → any (eqb q) (keep f ps) ≡ (any (eqb q) ps && f q)
unfolding keep any
keep-has f [] q = refl
keep-has f (p ∷ ps) q = go (f p) refl (eqb q p) refl (keep-has f ps q)
  where
    go : (t : Bool) → f p ≡ t → (u : Bool) → eqb q p ≡ u → any (eqb q) (keep f ps) ≡ (any (eqb q) ps && f q)
        → any (eqb q) (cons_if t p (keep f ps)) ≡ ((u || any (eqb q) ps) && f q)
    go true a true b ih =
        ap (λ (v : Bool). (v || any (eqb q) (keep f ps))) b ∙ sym (ap f (eqb-true q p b) ∙ a)
    go true a false b ih = ap (λ (v : Bool). (v || any (eqb q) (keep f ps))) b ∙ ih
    go false a true b ih =
        let e : f q ≡ false = ap f (eqb-true q p b) ∙ a in
        ih ∙ ap (◌&&◌ (any (eqb q) ps)) e ∙ both-no (any (eqb q) ps) ∙ sym e
    go false a false b ih = ih

-- a test at each number below n
all_below : ℕ → (ℕ → Bool) → Bool
all_below zero f = true
all_below (suc n) f = f n && all_below n f

all-below : (n : ℕ) (f : ℕ → Bool) → all_below n f ≡ true → (q : ℕ) → q < n → f q ≡ true
unfolding all_below
all-below zero f e q h = absurd (not-suc-le-zero h)
all-below (suc n) f e q h = go (eqb q n) refl (all-below n f (both-snd (f n) (all_below n f) e) q)
  where
    go : (t : Bool) → eqb q n ≡ t → (q < n → f q ≡ true) → f q ≡ true
    go true b ih = ap f (eqb-true q n b) ∙ both-fst (f n) (all_below n f) e
    go false b ih = let k = eqb-false q n b in ih (omega arith)

listed_has : (q : ℕ) → q < 10 → (eqb q 6 || any (eqb q) listed) ≡ true
unfolding any all_below
listed_has = all-below 10 (λ (q : ℕ). (eqb q 6 || any (eqb q) listed)) refl

good-listed : (m q : ℕ) → mask_good m ≡ true → bit m q ≡ true → any (eqb q) listed ≡ true
good-listed m q g e =
    let h = good-below m g in
    let n : eqb q 6 ≡ false = ne_eqb q 6 (λ z. good-six m g (ap (bit m) (sym z) ∙ e)) in
    sym (ap (λ (t : Bool). (t || any (eqb q) listed)) n) ∙ listed_has q (bit_below 10 q m (omega arith) e)

pub mask-listed : (m : ℕ) → mask_good m ≡ true → mask_of (permissions_of m) ≡ m
unfolding permissions_of
mask-listed m g = same_bits (mask_of (permissions_of m)) m (λ q. mask-has (permissions_of m) q ∙ keep-has (bit m) listed q ∙ kept q (bit m q) refl)
  where
    kept : (q : ℕ) (t : Bool) → bit m q ≡ t → (any (eqb q) listed && bit m q) ≡ bit m q
    kept q true e = ap (λ (t : Bool). (t && bit m q)) (good-listed m q g e)
    kept q false e = ap (◌&&◌ (any (eqb q) listed)) e ∙ both-no (any (eqb q) listed) ∙ sym e

-- Format's scope has every permission
pub every-permission : mask_of listed ≡ every_scope.permissions
unfolding mask_of with_bit bit
every-permission = refl
