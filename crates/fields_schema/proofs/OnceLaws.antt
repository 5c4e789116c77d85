-- Which fields may be sent only once, and when none of them is in both of two messages, or in one twice.
use Rattle.std.specs.Prelude.{ℕ, ◌+◌, ◌≤◌, ◌≡◌, refl, List, [], ◌∷◌, ◌++◌, Bool, true, false, not, cond, leb, eqb}
use Rattle.std.proofs.Common.{arith, sym, ap, ◌∙◌, leb-true, leb-false, eqb-true, le-leb, eq-eqb, ne_eqb}
use Rattle.std.proofs.lemmas.Bool.{eqb-false, lt-leb}
use Rattle.fields_schema.specs.Rules.{Table, end, row, look, table_of, rule_of}
use Rattle.fields_schema.specs.Tree.{among, Tree, done, int, raw, fix, sub, join, cons_if}
use Rattle.fields_schema.specs.Concat.{once_numbers, tree_numbers, in_both, none_in_both, apart, none_twice, once_each, without, is_once, once_row, once_rows}
use Rattle.fields_schema.specs.declared.Kind.{Kind}
use Rattle.fields_schema.specs.declared.Kind.TheVariants.{Message, HmacAuth, Command, Header, Body, KeyValue, Range, Setup, GetLog, Security, Acl, Scope, ReplyCommand, ReplyBody, ReplyRange, ReplyGetLog, Utilization, Temperature, Capacity, Limits, Status}
use Rattle.fields_schema.specs.declared.Form.{Form}
use Rattle.fields_schema.specs.declared.Rule.{Rule}
use Rattle.fields_schema.specs.declared.Rule.TheVariants.{Unlisted, Refused, Once, Single, Repeated}
use Rattle.fields_schema.specs.Count.{count}

-- computed: security of a body, the singular fields of an ACL and of a scope, and no other row
pub once-rows : (k : Kind) → once_rows (table_of k) ≡ once_numbers k
once-rows Message = refl
once-rows HmacAuth = refl
once-rows Command = refl
once-rows Header = refl
once-rows Body = refl
once-rows KeyValue = refl
once-rows Range = refl
once-rows Setup = refl
once-rows GetLog = refl
once-rows Security = refl
once-rows Acl = refl
once-rows Scope = refl
once-rows ReplyCommand = refl
once-rows ReplyBody = refl
once-rows ReplyRange = refl
once-rows ReplyGetLog = refl
once-rows Utilization = refl
once-rows Temperature = refl
once-rows Capacity = refl
once-rows Limits = refl
once-rows Status = refl

eqb_swap : (a b : ℕ) → eqb a b ≡ eqb b a
eqb_swap a b = go (eqb a b) refl
  where
    go : (t : Bool) → eqb a b ≡ t → t ≡ eqb b a
    go true e = sym (eq-eqb b a (sym (eqb-true a b e)))
    go false e = sym (ne_eqb b a (λ q. eqb-false a b e (sym q)))

among-without : (n m : ℕ) (ms : List ℕ) → among n (without m ms) ≡ cond (eqb n m) false (among n ms)
among-without n m [] = go (eqb n m)
  where
    go : (t : Bool) → false ≡ cond t false false
    go true = refl
    go false = refl
among-without n m (x ∷ ms) = go (eqb m x) refl (among-without n m ms)
  where
    equal : (t : Bool) → cond t false (among n ms) ≡ cond t false (cond t true (among n ms))
    equal true = refl
    equal false = refl

    other : (t : Bool) → eqb n m ≡ t → eqb m x ≡ false → cond (eqb n x) true (cond t false (among n ms)) ≡ cond t false (cond (eqb n x) true (among n ms))
    other true e q = ap (λ t. cond t true false) (ap (λ n. eqb n x) (eqb-true n m e) ∙ q)
    other false e q = refl

    go : (p : Bool) → eqb m x ≡ p → among n (without m ms) ≡ cond (eqb n m) false (among n ms)
        → among n (cons_if (not p) x (without m ms)) ≡ cond (eqb n m) false (cond (eqb n x) true (among n ms))
    go true q ih = ih ∙ equal (eqb n m) ∙ ap (λ x. cond (eqb n m) false (cond (eqb n x) true (among n ms))) (eqb-true m x q)
    go false q ih = ap (cond (eqb n x) true) ih ∙ other (eqb n m) refl q

look-once : (n : ℕ) (t : Table) → is_once (look n t) ≡ among n (once_rows t)
look-once n end = refl
look-once n (row m r t) = by r (look-once n t)
  where
    other : (r : Rule) (b : Bool) → is_once r ≡ false → is_once (cond b r (look n t)) ≡ cond b false (is_once (look n t))
    other r true e = e
    other r false e = refl

    this : (f : Form) (b : Bool) → is_once (cond b (Once f) (look n t)) ≡ cond b true (is_once (look n t))
    this f true = refl
    this f false = refl

    passed : (r : Rule) → is_once r ≡ false → is_once (look n t) ≡ among n (once_rows t) → is_once (cond (eqb n m) r (look n t)) ≡ among n (without m (once_rows t))
    passed r e ih = other r (eqb n m) e ∙ ap (cond (eqb n m) false) ih ∙ sym (among-without n m (once_rows t))

    by : (r : Rule) → is_once (look n t) ≡ among n (once_rows t) → is_once (cond (eqb n m) r (look n t)) ≡ among n (once_row r m (once_rows t))
    by Unlisted ih = passed Unlisted refl ih
    by Refused ih = passed Refused refl ih
    by (Once f) ih = this f (eqb n m) ∙ ap (cond (eqb n m) true) ih
    by (Single f) ih = passed (Single f) refl ih
    by (Repeated f) ih = passed (Repeated f) refl ih

-- so of every number
pub once-numbers : (k : Kind) (n : ℕ) → is_once (rule_of k n) ≡ among n (once_numbers k)
once-numbers k n = look-once n (table_of k) ∙ ap (among n) (once-rows k)

-- numbers in both of two lists ---------------------------------------------------------------------------------------------

pub among-append : (n : ℕ) (ms ns : List ℕ) → among n (ms ++ ns) ≡ cond (among n ms) true (among n ns)
among-append n [] ns = refl
among-append n (m ∷ ms) ns = go (eqb n m) (among-append n ms ns)
  where
    go : (t : Bool) → among n (ms ++ ns) ≡ cond (among n ms) true (among n ns)
        → cond t true (among n (ms ++ ns)) ≡ cond (cond t true (among n ms)) true (among n ns)
    go true e = refl
    go false e = e

-- a conjunction of two refusals
swapped : (p q z : Bool) → cond p false (cond q false z) ≡ cond q false (cond p false z)
swapped true true z = refl
swapped true false z = refl
swapped false q z = refl

pub none-in-both : (os ms : List ℕ) → none_in_both os ms [] ≡ true
none-in-both os [] = refl
none-in-both os (m ∷ ms) = go (among m os) (none-in-both os ms)
  where
    go : (t : Bool) → none_in_both os ms [] ≡ true → cond (cond t false false) false (none_in_both os ms []) ≡ true
    go true e = e
    go false e = e

-- one number more at the end
pub both-last : (os ms ns : List ℕ) (n : ℕ) → none_in_both os ms (ns ++ (n ∷ [])) ≡ cond (in_both n os ms) false (none_in_both os ms ns)
both-last os [] ns n = go (among n os)
  where
    go : (t : Bool) → true ≡ cond (cond t false false) false true
    go true = refl
    go false = refl
both-last os (m ∷ ms) ns n = ap (λ b. cond (in_both m os (ns ++ (n ∷ []))) false b) (both-last os ms ns n) ∙ by (eqb n m) refl (none_in_both os ms ns)
  where
    equal : (a x y z : Bool) → cond (cond a (cond x true true) false) false (cond (cond a y false) false z) ≡ cond (cond a true false) false (cond (cond a x false) false z)
    equal true true y z = refl
    equal true false y z = refl
    equal false x y z = refl

    other : (a x b y z : Bool) → cond (cond a (cond x true false) false) false (cond (cond b y false) false z) ≡ cond (cond b y false) false (cond (cond a x false) false z)
    other a true b y z = swapped (cond a true false) (cond b y false) z
    other a false b y z = swapped (cond a false false) (cond b y false) z

    by : (t : Bool) → eqb n m ≡ t → (z : Bool)
        → cond (in_both m os (ns ++ (n ∷ []))) false (cond (in_both n os ms) false z) ≡ cond (cond (among n os) (cond t true (among n ms)) false) false (cond (in_both m os ns) false z)
    by true e z =
        let q : n ≡ m = eqb-true n m e in
        ap (λ x. cond (cond (among m os) x false) false (cond (in_both n os ms) false z)) (among-append m ns (n ∷ []) ∙ ap (λ t. cond (among m ns) true (cond t true false)) (eqb_swap m n ∙ e))
        ∙ ap (λ (n : ℕ). cond (cond (among m os) (cond (among m ns) true true) false) false (cond (in_both n os ms) false z)) q
        ∙ equal (among m os) (among m ns) (among m ms) z
        ∙ ap (λ (n : ℕ). cond (cond (among n os) true false) false (cond (in_both m os ns) false z)) (sym q)
    by false e z =
        ap (λ x. cond (cond (among m os) x false) false (cond (in_both n os ms) false z)) (among-append m ns (n ∷ []) ∙ ap (λ t. cond (among m ns) true (cond t true false)) (eqb_swap m n ∙ e))
        ∙ other (among m os) (among m ns) (among n os) (among n ms) z

-- none twice in two lists, one after the other
twice-append : (os ms ns : List ℕ) → none_twice os (ms ++ ns) ≡ cond (none_twice os ms) (cond (none_in_both os ms ns) (none_twice os ns) false) false
twice-append os [] ns = refl
twice-append os (m ∷ ms) ns =
    ap (λ t. cond (cond (among m os) t false) false (none_twice os (ms ++ ns))) (among-append m ms ns)
    ∙ ap (cond (cond (among m os) (cond (among m ms) true (among m ns)) false) false) (twice-append os ms ns)
    ∙ go (among m os) (among m ms) (among m ns) (none_twice os ms) (none_in_both os ms ns) (none_twice os ns)
  where
    go : (o p q x y z : Bool) → cond (cond o (cond p true q) false) false (cond x (cond y z false) false)
        ≡ cond (cond (cond o p false) false x) (cond (cond (cond o q false) false y) z false) false
    go true true q x y z = refl
    go true false true true y z = refl
    go true false true false y z = refl
    go true false false x y z = refl
    go false p q x y z = refl

-- a number that may be sent only once, in both
pub both-there : (n : ℕ) (os ms ns : List ℕ) → among n os ≡ true → among n ms ≡ true → among n ns ≡ true → none_in_both os ms ns ≡ false
both-there n os [] ns o p q = let z : ◌≡◌ {A = ℕ} 0 1 = cc in absurd (omega arith)
both-there n os (m ∷ ms) ns o p q = go (eqb n m) refl p (λ r. both-there n os ms ns o r q)
  where
    all : (t : Bool) → cond t false false ≡ false
    all true = refl
    all false = refl

    go : (t : Bool) → eqb n m ≡ t → cond t true (among n ms) ≡ true → (among n ms ≡ true → none_in_both os ms ns ≡ false)
        → cond (in_both m os ns) false (none_in_both os ms ns) ≡ false
    go true e r ih = let h : n ≡ m = eqb-true n m e in rw (← h, o, q) refl
    go false e r ih = ap (cond (in_both m os ns) false) (ih r) ∙ all (in_both m os ns)

-- the same of messages -------------------------------------------------------------------------------------------------------

pub numbers-join : (t u : Tree) → tree_numbers (join t u) ≡ tree_numbers t ++ tree_numbers u
numbers-join done u = refl
numbers-join (int n v t) u = ap (λ l. n ∷ l) (numbers-join t u)
numbers-join (raw n b t) u = ap (λ l. n ∷ l) (numbers-join t u)
numbers-join (fix n b t) u = ap (λ l. n ∷ l) (numbers-join t u)
numbers-join (sub n s t) u = ap (λ l. n ∷ l) (numbers-join t u)

pub once_join : (k : Kind) (t u : Tree) → once_each k t ≡ true → once_each k (join t u) ≡ cond (apart k t u) (once_each k u) false
once_join k t u h =
    ap (none_twice (once_numbers k)) (numbers-join t u) ∙ twice-append (once_numbers k) (tree_numbers t) (tree_numbers u)
    ∙ ap (λ b. cond b (cond (apart k t u) (once_each k u) false) false) h

-- a kind without such numbers
pub plain-apart : (k : Kind) (t u : Tree) → once_numbers k ≡ [] → apart k t u ≡ true
plain-apart k t u h = ap (λ os. none_in_both os (tree_numbers t) (tree_numbers u)) h ∙ go (tree_numbers t)
  where
    go : (ms : List ℕ) → none_in_both [] ms (tree_numbers u) ≡ true
    go [] = refl
    go (m ∷ ms) = go ms

pub plain-once : (k : Kind) (t : Tree) → once_numbers k ≡ [] → once_each k t ≡ true
plain-once k t h = ap (λ os. none_twice os (tree_numbers t)) h ∙ go (tree_numbers t)
  where
    go : (ns : List ℕ) → none_twice [] ns ≡ true
    go [] = refl
    go (n ∷ ns) = go ns

pub count-append : (n : ℕ) (ms ns : List ℕ) → count n (ms ++ ns) ≡ count n ms + count n ns
count-append n [] ns = omega arith
count-append n (m ∷ ms) ns = omega (arith, count-append n ms ns)

among-count : (n : ℕ) (ns : List ℕ) → among n ns ≡ leb 1 (count n ns)
among-count n [] = refl
among-count n (m ∷ ns) = go (eqb n m) (among-count n ns)
  where
    go : (t : Bool) → among n ns ≡ leb 1 (count n ns) → cond t true (among n ns) ≡ leb 1 (cond t 1 0 + count n ns)
    go true e = sym (le-leb 1 (1 + count n ns) (omega arith))
    go false e = let z : count n ns ≡ 0 + count n ns = omega arith in e ∙ ap (leb 1) z

pub count_none : (n : ℕ) (ns : List ℕ) → among n ns ≡ false → count n ns ≡ 0
count_none n ns e = omega (arith, leb-false 1 (count n ns) (sym (among-count n ns) ∙ e))

pub count-some : (n : ℕ) (ns : List ℕ) → among n ns ≡ true → 1 ≤ count n ns
count-some n ns e = leb-true 1 (count n ns) (sym (among-count n ns) ∙ e)

pub twice-count : (n : ℕ) (ns : List ℕ) → none_twice (n ∷ []) ns ≡ leb (count n ns) 1
twice-count n [] = refl
twice-count n (m ∷ ns) =
    ap (λ t. cond (cond (cond t true false) (among m ns) false) false (none_twice (n ∷ []) ns)) (eqb_swap m n) ∙ go (eqb n m) refl (twice-count n ns)
  where
    last : (c : ℕ) (t : Bool) → leb 1 c ≡ t → cond t false (leb c 1) ≡ leb (1 + c) 1
    last c true q = sym (lt-leb (1 + c) 1 (omega (arith, leb-true 1 c q)))
    last c false q = le-leb c 1 (omega (arith, leb-false 1 c q)) ∙ sym (le-leb (1 + c) 1 (omega (arith, leb-false 1 c q)))

    go : (t : Bool) → eqb n m ≡ t → none_twice (n ∷ []) ns ≡ leb (count n ns) 1
        → cond (cond (cond t true false) (among m ns) false) false (none_twice (n ∷ []) ns) ≡ leb (cond t 1 0 + count n ns) 1
    go true q e =
        ap (λ m. cond (among m ns) false (none_twice (n ∷ []) ns)) (sym (eqb-true n m q)) ∙ ap (λ b. cond b false (none_twice (n ∷ []) ns)) (among-count n ns)
        ∙ ap (cond (leb 1 (count n ns)) false) e ∙ last (count n ns) (leb 1 (count n ns)) refl
    go false q e = let z : count n ns ≡ 0 + count n ns = omega arith in e ∙ ap (λ c. leb c 1) z
