-- Entries in order that lie above, below or between bounds are those of one run of places.
use Rattle.std.specs.Prelude.{◌≡◌, refl, Bool, true, false, not, cond, ◌&&◌, ◌||◌, ℕ, zero, suc, ◌+◌, ◌-◌, length, get_or}
use Rattle.std.proofs.Common.{sym, ap, ap₂, ◌∙◌, arith}
use mathlib.Core.List.{List, [], ◌∷◌, ◌++◌, reverse, reverse-cons}
use Rattle.base_definitions.specs.Lists.{only, first}
use Rattle.base_definitions.proofs.OnlyLaws.{only-only, only-alike, only-reverse}
use Rattle.std.specs.declared.cmp.Ordering.{Ordering}
use Rattle.std.specs.declared.cmp.Ordering.TheVariants.{Less, Equal, Greater}
use Rattle.store_block.specs.Order.{cmp}
use Rattle.store_block.specs.OrderLaws.{cmp-equal, cmp-flip}
use Rattle.std.specs.Ordering.{ordering_reverse}
use Rattle.store_block.specs.Entry.{Entry, no_entry}
use Rattle.std.specs.Ordering.{is_eq, is_lt}
use Rattle.store_layout.specs.Store.{Above, Sorted}
use Rattle.store_layout.specs.Entries.{by_order, below, up_to, next_of, previous_of}
use Rattle.store_layout.proofs.EntriesLaws.{none_below, none-up_to, above-next}
use Rattle.operation_visible.specs.Runs.{entries_from}

-- ---- runs

-- the same run, one entry earlier in the list
run-shift : (i n : ℕ) (e : Entry) (es : List Entry) → entries_from false (suc i) n (e ∷ es) ≡ entries_from false i n es
unfolding entries_from
run-shift i zero e es = refl
run-shift i (suc n) e es =
    let z : suc i + 1 ≡ suc (i + 1) = omega arith in
    ap (λ xs. get_or es i no_entry ∷ xs) (ap (λ j. entries_from false j n (e ∷ es)) z ∙ run-shift (i + 1) n e es)

pub run-empty : (b : Bool) (i n : ℕ) (es : List Entry) → n ≡ 0 → entries_from b i n es ≡ []
unfolding entries_from
run-empty b i n es h = ap (λ n. entries_from b i n es) h

run_down : (i n : ℕ) (es : List Entry) → entries_from true i n es ++ (get_or es (i - n) no_entry ∷ []) ≡ entries_from true i (suc n) es
unfolding entries_from
run_down i zero es = let z : i - 0 ≡ i = omega arith in ap (λ j. get_or es j no_entry ∷ []) z
run_down i (suc n) es =
    let z : i - suc n ≡ i - 1 - n = omega arith in
    ap (λ xs. get_or es i no_entry ∷ xs) (ap (λ j. entries_from true (i - 1) n es ++ (get_or es j no_entry ∷ [])) z ∙ run_down (i - 1) n es)

-- turned round, a run goes down from its last place
pub run-reverse : (i n : ℕ) (es : List Entry) → reverse (entries_from false i n es) ≡ entries_from true (i + n - 1) n es
unfolding entries_from
run-reverse i zero es = refl
run-reverse i (suc n) es =
    let a : i + 1 + n - 1 ≡ i + n = omega arith in
    let z : i ≡ i + n - n = omega arith in
    let d : i + n ≡ i + suc n - 1 = omega arith in
    reverse-cons (get_or es i no_entry) (entries_from false (i + 1) n es)
    ∙ ap (λ xs. xs ++ (get_or es i no_entry ∷ [])) (run-reverse (i + 1) n es ∙ ap (λ j. entries_from true j n es) a)
    ∙ ap (λ j. entries_from true (i + n) n es ++ (get_or es j no_entry ∷ [])) z
    ∙ run_down (i + n) n es
    ∙ ap (λ j. entries_from true j (suc n) es) d

-- ---- tests that hold of the first entries and of no later one

abbrev number : (Entry → Bool) → List Entry → ℕ
number p [] = 0
number p (e ∷ es) = cond (p e) (1 + number p es) (number p es)

-- past one that fails none passes
abbrev Falls : (Entry → Bool) → List Entry → Type 0
Falls p [] = Unit {0}
Falls p (e ∷ es) = (p e ≡ false → number p es ≡ 0) × Falls p es

together : (p q : Entry → Bool) (es : List Entry) → Falls p es → Falls q es → only (λ e. not (p e) && q e) es ≡ entries_from false (number p es) (number q es - number p es) es
unfolding only entries_from
together p q [] f g = refl
together p q (e ∷ es) f g = go (p e) (q e) f.0 g.0 (together p q es f.1 g.1)
  where
    go : (a b : Bool) → (a ≡ false → number p es ≡ 0) → (b ≡ false → number q es ≡ 0)
        → only (λ x. not (p x) && q x) es ≡ entries_from false (number p es) (number q es - number p es) es
        → cond (not a && b) (e ∷ only (λ x. not (p x) && q x) es) (only (λ x. not (p x) && q x) es)
        ≡ entries_from false (cond a (1 + number p es) (number p es)) (cond b (1 + number q es) (number q es) - cond a (1 + number p es) (number p es)) (e ∷ es)
    go true true x y ih =
        let z : 1 + number p es ≡ suc (number p es) = omega arith in
        let w : number q es - number p es ≡ 1 + number q es - (1 + number p es) = omega arith in
        ih ∙ ap (λ n. entries_from false (number p es) n es) w ∙ sym (run-shift (number p es) (1 + number q es - (1 + number p es)) e es)
        ∙ ap (λ j. entries_from false j (1 + number q es - (1 + number p es)) (e ∷ es)) (sym z)
    go true false x y ih =
        let z = y refl in
        ih ∙ run-empty false (number p es) (number q es - number p es) es (omega arith)
        ∙ sym (run-empty false (1 + number p es) (number q es - (1 + number p es)) (e ∷ es) (omega arith))
    go false true x y ih =
        let z = x refl in
        let w : 1 + number q es - number p es ≡ suc (number q es - number p es) = omega arith in
        let v : number p es + 1 ≡ suc (number p es) = omega arith in
        ap₂ (λ x xs. x ∷ xs) (ap (λ j. get_or (e ∷ es) j no_entry) (sym z))
        (ih ∙ sym (run-shift (number p es) (number q es - number p es) e es) ∙ ap (λ j. entries_from false j (number q es - number p es) (e ∷ es)) (sym v))
        ∙ ap (λ n. entries_from false (number p es) n (e ∷ es)) (sym w)
    go false false x y ih =
        let z = y refl in
        ih ∙ run-empty false (number p es) (number q es - number p es) es (omega arith)
        ∙ sym (run-empty false (number p es) (number q es - number p es) (e ∷ es) (omega arith))

none_passes : (es : List Entry) → number (λ e. false) es ≡ 0
none_passes [] = refl
none_passes (e ∷ es) = none_passes es

all_pass : (es : List Entry) → number (λ e. true) es ≡ length es
all_pass [] = refl
all_pass (e ∷ es) = let ih = all_pass es in omega arith

none-falls : (es : List Entry) → Falls (λ e. false) es
none-falls [] = tt
none-falls (e ∷ es) = (λ h. none_passes es, none-falls es)

all-fall : (es : List Entry) → Falls (λ e. true) es
all-fall [] = tt
all-fall (e ∷ es) = (λ h. absurd (let z : ◌≡◌ {A = ℕ} 0 1 = cc in omega arith), all-fall es)

-- ---- bounds

-- below the bound, or equal to it if b
unfoldable reached : Bool → List ℕ → Entry → Bool
reached b k e = by_order (cmp e.key k) true b false

-- how many are
abbrev many : Bool → List ℕ → List Entry → ℕ
many true k es = up_to k es
many false k es = below k es

number-reached : (b : Bool) (k : List ℕ) (es : List Entry) → number (reached b k) es ≡ many b k es
unfolding below up_to reached by_order
number-reached true k [] = refl
number-reached false k [] = refl
number-reached true k (e ∷ es) = go (cmp e.key k) (number-reached true k es)
  where
    go : (o : Ordering) → number (reached true k) es ≡ up_to k es
        → cond (by_order o true true false) (1 + number (reached true k) es) (number (reached true k) es) ≡ by_order o (1 + up_to k es) (1 + up_to k es) (up_to k es)
    go Less ih = ap (λ n. 1 + n) ih
    go Equal ih = ap (λ n. 1 + n) ih
    go Greater ih = ih
number-reached false k (e ∷ es) = go (cmp e.key k) (number-reached false k es)
  where
    go : (o : Ordering) → number (reached false k) es ≡ below k es
        → cond (by_order o true false false) (1 + number (reached false k) es) (number (reached false k) es) ≡ by_order o (1 + below k es) (below k es) (below k es)
    go Less ih = ap (λ n. 1 + n) ih
    go Equal ih = ih
    go Greater ih = ih

number-none : (b : Bool) (k : List ℕ) (es : List Entry) → Above k es → Sorted es → number (reached b k) es ≡ 0
number-none true k es a s = number-reached true k es ∙ none-up_to k es a s
number-none false k es a s = number-reached false k es ∙ none_below k es a s

falls : (b : Bool) (k : List ℕ) (es : List Entry) → Sorted es → Falls (reached b k) es
unfolding reached by_order
falls b k [] s = tt
falls b k (e ∷ es) s = (λ h. number-none b k es (go b (cmp e.key k) refl h) s.1, falls b k es s.1)
  where
    go : (b : Bool) (o : Ordering) → cmp e.key k ≡ o → by_order o true b false ≡ false → Above k es
    go b Less c h = absurd (let z : ◌≡◌ {A = ℕ} 0 1 = cc in omega arith)
    go true Equal c h = absurd (let z : ◌≡◌ {A = ℕ} 0 1 = cc in omega arith)
    go false Equal c h = rw (sym (cmp-equal e.key k c)) s.0
    go b Greater c h = above-next k e es (cmp-flip e.key k ∙ ap ordering_reverse c) s.0

-- what a range asks of a key, by the two bounds
past-start : (b : Bool) (s k : List ℕ) → (is_lt (cmp s k) || (b && is_eq (cmp s k))) ≡ not (by_order (cmp k s) true (not b) false)
unfolding by_order
past-start b s k = ap (λ o. (is_lt o || (b && is_eq o))) (cmp-flip k s) ∙ go b (cmp k s)
  where
    go : (b : Bool) (o : Ordering) → (is_lt (ordering_reverse o) || (b && is_eq (ordering_reverse o))) ≡ not (by_order o true (not b) false)
    go true Less = refl
    go true Equal = refl
    go true Greater = refl
    go false Less = refl
    go false Equal = refl
    go false Greater = refl

by_end : (b : Bool) (o : Ordering) → (is_lt o || (b && is_eq o)) ≡ by_order o true b false
unfolding by_order
by_end b Less = refl
by_end true Equal = refl
by_end false Equal = refl
by_end true Greater = refl
by_end false Greater = refl

-- "keys above start (or equal, if inclusive) and below end (likewise)"
pub between_run : (i j : Bool) (s e : List ℕ) (es : List Entry) → Sorted es
    → only (λ (x : Entry). (is_lt (cmp s x.key) || (i && is_eq (cmp s x.key))) && (is_lt (cmp x.key e) || (j && is_eq (cmp x.key e)))) es
    ≡ entries_from false (cond i (below s es) (up_to s es)) (cond j (up_to e es) (below e es) - cond i (below s es) (up_to s es)) es
unfolding reached
between_run i j s e es h =
    only-alike _ (λ (x : Entry). not (reached (not i) s x) && reached j e x) (λ (x : Entry). ap₂ ◌&&◌ (past-start i s x.key) (by_end j (cmp x.key e))) es
    ∙ together (reached (not i) s) (reached j e) es (falls (not i) s es h) (falls j e es h)
    ∙ ap₂ (λ a b. entries_from false a (b - a) es) (number-reached (not i) s es ∙ start i) (number-reached j e es ∙ end j)
  where
    start : (i : Bool) → many (not i) s es ≡ cond i (below s es) (up_to s es)
    start true = refl
    start false = refl

    end : (j : Bool) → many j e es ≡ cond j (up_to e es) (below e es)
    end true = refl
    end false = refl

above-run : (k : List ℕ) (es : List Entry) → Sorted es → only (λ (x : Entry). is_lt (cmp k x.key)) es ≡ entries_from false (up_to k es) (length es - up_to k es) es
unfolding reached by_order
above-run k es h =
    only-alike _ (λ (x : Entry). not (reached true k x) && true) (λ (x : Entry). alike x.key) es
    ∙ together (reached true k) (λ x. true) es (falls true k es h) (all-fall es)
    ∙ ap₂ (λ a b. entries_from false a (b - a) es) (number-reached true k es) (all_pass es)
  where
    both : (o : Ordering) → is_lt (ordering_reverse o) ≡ (not (by_order o true true false) && true)
    both Less = refl
    both Equal = refl
    both Greater = refl

    alike : (x : List ℕ) → is_lt (cmp k x) ≡ (not (by_order (cmp x k) true true false) && true)
    alike x = ap is_lt (cmp-flip x k) ∙ both (cmp x k)

below-run : (k : List ℕ) (es : List Entry) → Sorted es → only (λ (x : Entry). is_lt (cmp x.key k)) es ≡ entries_from false 0 (below k es) es
unfolding reached by_order
below-run k es h =
    only-alike _ (λ (x : Entry). not false && reached false k x) (λ (x : Entry). alike (cmp x.key k)) es
    ∙ together (λ x. false) (reached false k) es (none-falls es) (falls false k es h)
    ∙ ap₂ (λ a b. entries_from false a (b - a) es) (none_passes es) (number-reached false k es)
    ∙ (let z : below k es - 0 ≡ below k es = omega arith in ap (λ n. entries_from false 0 n es) z)
  where
    alike : (o : Ordering) → is_lt o ≡ by_order o true false false
    alike Less = refl
    alike Equal = refl
    alike Greater = refl

-- ---- neighbours among the entries that pass a test

pub next-run : (f : Entry → Bool) (k : List ℕ) (es : List Entry) → Sorted es → next_of k (only f es) ≡ first (only f (entries_from false (up_to k es) (length es - up_to k es) es))
unfolding next_of
next-run f k es h = ap first (only-only (λ (x : Entry). is_lt (cmp k x.key)) f es ∙ ap (only f) (above-run k es h))

pub previous-run : (f : Entry → Bool) (k : List ℕ) (es : List Entry) → Sorted es → previous_of k (only f es) ≡ first (only f (entries_from true (below k es - 1) (below k es) es))
unfolding previous_of
previous-run f k es h =
    ap (λ xs. first (reverse xs)) (only-only (λ (x : Entry). is_lt (cmp x.key k)) f es ∙ ap (only f) (below-run k es h))
    ∙ ap first (only-reverse f (entries_from false 0 (below k es) es) ∙ ap (only f) (run-reverse 0 (below k es) es ∙ (let z : 0 + below k es - 1 ≡ below k es - 1 = omega arith in ap (λ i. entries_from true i (below k es) es) z)))
