-- How trees are shown to fit: one law for each way a tree begins.
use Rattle.std.specs.Prelude.{ℕ, zero, suc, ◌^◌, ◌≤◌, ◌<◌, ◌≡◌, refl, List, [], ◌∷◌, Bool, true, false, cond, length, ltb, leb, eqb}
use Rattle.std.proofs.Common.{arith, ltb-true, leb-true}
use Rattle.std.proofs.Math.Option.{Option, none, some}
use Rattle.fields_wire.specs.Wire.{Value, vint, vlen, v32}
use Rattle.fields_schema.specs.Rules.{rule_of}
use Rattle.fields_schema.specs.Tree.{among, Content, c_int, c_raw, c_fix, c_msg, Tree, int, raw, fix, sub}
use Rattle.fields_encoding.proofs.BasicLaws.{never}
use Rattle.fields_encoding.specs.Encode.{encode, int_o, int_if, raw_if, fix_o, each, sub_o, each_sub, FieldNumber, says, FitsAfter, ends, ints, raws, fixs, subs}
use Rattle.fields_encoding.specs.Cost.{cost, AtMost, CostMost}
use Rattle.fields_encoding.proofs.CostLaws.{encode-cost}
use Rattle.fields_schema.specs.declared.Kind.{Kind}
use Rattle.fields_schema.specs.declared.Rule.{Rule}
use Rattle.fields_schema.specs.declared.Rule.TheVariants.{Unlisted, Refused, Once, Single, Repeated}
use Rattle.fields_encoding.specs.AllFit.{AllFit}

-- a field number, by a computed test
pub number : {n : ℕ} → cond (leb 1 n) (ltb n (2 ^ 29)) false ≡ true → FieldNumber n
number {n} e = go (leb 1 n) refl e
  where
    go : (t : Bool) → leb 1 n ≡ t → cond t (ltb n (2 ^ 29)) false ≡ true → FieldNumber n
    go true q h = record { above = omega (arith, leb-true 1 n q); below = omega (arith, ltb-true n (2 ^ 29) h) }
    go false q h = never (cc)

-- fewer fields before: it still fits ----------------------------------------------------

record Fewer (ns ms : List ℕ) : Type 0 where
  free : (m : ℕ) → among m ns ≡ false → among m ms ≡ false

says-fewer : (r : Rule) (s s' : Bool) (v : Value) (c : Content) → (s ≡ false → s' ≡ false) → says r s v ≡ some c → says r s' v ≡ some c
says-fewer Unlisted s s' v c f h = h
says-fewer Refused s s' v c f h = h
says-fewer (Once g) true s' v c f h = never (cc)
says-fewer (Once g) false s' v c f h = rw (f refl) h
says-fewer (Single g) s s' v c f h = h
says-fewer (Repeated g) s s' v c f h = h

fewer-cons : {ns ms : List ℕ} (n : ℕ) → Fewer ns ms → Fewer (n ∷ ns) (n ∷ ms)
fewer-cons {ns} {ms} n f = record { free = λ m. go m (eqb m n) }
  where
    go : (m : ℕ) (t : Bool) → cond t true (among m ns) ≡ false → cond t true (among m ms) ≡ false
    go m true h = h
    go m false h = f.free m h

fewer-one : (n : ℕ) (ns : List ℕ) → Fewer (n ∷ ns) ns
fewer-one n ns = record { free = λ m. go m (eqb m n) }
  where
    go : (m : ℕ) (t : Bool) → cond t true (among m ns) ≡ false → among m ns ≡ false
    go m true h = never (cc)
    go m false h = h

fewer-twice : (n : ℕ) (ns : List ℕ) → Fewer (n ∷ ns) (n ∷ n ∷ ns)
fewer-twice n ns = record { free = λ m. go m (eqb m n) }
  where
    go : (m : ℕ) (t : Bool) → cond t true (among m ns) ≡ false → cond t true (cond t true (among m ns)) ≡ false
    go m true h = h
    go m false h = h

fits-fewer : {k : Kind} {ns : List ℕ} {t : Tree} → FitsAfter k ns t → (ms : List ℕ) → Fewer ns ms → FitsAfter k ms t
fits-fewer ends ms f = ends
fits-fewer (ints {k = k} {ns = ns} {n = n} {v = v} h l g r) ms f =
    ints h l (says-fewer (rule_of k n) (among n ns) (among n ms) (vint v) (c_int v) (f.free n) g) (fits-fewer r (n ∷ ms) (fewer-cons n f))
fits-fewer (raws {k = k} {ns = ns} {n = n} {b = b} h l g r) ms f =
    raws h l (says-fewer (rule_of k n) (among n ns) (among n ms) (vlen b) (c_raw b) (f.free n) g) (fits-fewer r (n ∷ ms) (fewer-cons n f))
fits-fewer (fixs {k = k} {ns = ns} {n = n} {b = b} h l g r) ms f =
    fixs h l (says-fewer (rule_of k n) (among n ns) (among n ms) (v32 b) (c_fix b) (f.free n) g) (fits-fewer r (n ∷ ms) (fewer-cons n f))
fits-fewer (subs {k = k} {ns = ns} {n = n} {s = s} k' h l g q r) ms f =
    subs k' h l (says-fewer (rule_of k n) (among n ns) (among n ms) (vlen (encode s)) (c_msg k' (encode s)) (f.free n) g) q
    (fits-fewer r (n ∷ ms) (fewer-cons n f))

-- a field left out
pub fit-skip : {k : Kind} {n : ℕ} {ns : List ℕ} {t : Tree} → FitsAfter k (n ∷ ns) t → FitsAfter k ns t
fit-skip {n = n} {ns = ns} h = fits-fewer h ns (fewer-one n ns)

-- each way a tree begins ------------------------------------------------------------------

pub fit_int : {k : Kind} {ns : List ℕ} {n v : ℕ} {t : Tree} → FieldNumber n → v < 2 ^ 64 → says (rule_of k n) (among n ns) (vint v) ≡ some (c_int v)
    → FitsAfter k (n ∷ ns) t → FitsAfter k ns (int n v t)
fit_int h l g r = ints h l g r

pub fit-raw : {k : Kind} {ns : List ℕ} {n : ℕ} {b : List ℕ} {t : Tree} → FieldNumber n → length b < 2 ^ 64
    → says (rule_of k n) (among n ns) (vlen b) ≡ some (c_raw b) → FitsAfter k (n ∷ ns) t → FitsAfter k ns (raw n b t)
fit-raw h l g r = raws h l g r

pub fit-fix : {k : Kind} {ns : List ℕ} {n : ℕ} {b : List ℕ} {t : Tree} → FieldNumber n → length b ≡ 4
    → says (rule_of k n) (among n ns) (v32 b) ≡ some (c_fix b) → FitsAfter k (n ∷ ns) t → FitsAfter k ns (fix n b t)
fit-fix h l g r = fixs h l g r

pub fit-fix_o : {k : Kind} {n : ℕ} {ns : List ℕ} {t : Tree} (a : Option (List ℕ)) → FieldNumber n
    → ((b : List ℕ) → a ≡ some b → (length b ≡ 4) × (says (rule_of k n) (among n ns) (v32 b) ≡ some (c_fix b))) → FitsAfter k (n ∷ ns) t → FitsAfter k ns (fix_o n a t)
unfolding fix_o
fit-fix_o none h g r = fit-skip r
fit-fix_o (some b) h g r = let e = g b refl in fixs h e.0 e.1 r

-- a message inside whose cost is small
pub fit-sub : {k : Kind} {ns : List ℕ} {n : ℕ} {s t : Tree} (k' : Kind) → FieldNumber n → cost s < 2 ^ 64
    → says (rule_of k n) (among n ns) (vlen (encode s)) ≡ some (c_msg k' (encode s)) → FitsAfter k' [] s → FitsAfter k (n ∷ ns) t → FitsAfter k ns (sub n s t)
fit-sub {s = s} k' h l g q r = let m : length (encode s) < 2 ^ 64 = omega (arith, encode-cost q) in subs k' h m g q r

pub fit-int_o : {k : Kind} {n : ℕ} {ns : List ℕ} {t : Tree} (a : Option ℕ) → FieldNumber n
    → ((v : ℕ) → a ≡ some v → (v < 2 ^ 64) × (says (rule_of k n) (among n ns) (vint v) ≡ some (c_int v))) → FitsAfter k (n ∷ ns) t → FitsAfter k ns (int_o n a t)
unfolding int_o
fit-int_o none h g r = fit-skip r
fit-int_o (some v) h g r = let e = g v refl in ints h e.0 e.1 r

pub fit-int_if : {k : Kind} {n : ℕ} {ns : List ℕ} {t : Tree} (a : ℕ) → FieldNumber n → a < 2 ^ 64
    → (1 ≤ a → says (rule_of k n) (among n ns) (vint a) ≡ some (c_int a)) → FitsAfter k (n ∷ ns) t → FitsAfter k ns (int_if n a t)
unfolding int_if
fit-int_if zero h l g r = fit-skip r
fit-int_if (suc v) h l g r = ints h l (g (omega arith)) r

pub fit-raw_if : {k : Kind} {n : ℕ} {ns : List ℕ} {t : Tree} (b : List ℕ) → FieldNumber n → length b < 2 ^ 64
    → says (rule_of k n) (among n ns) (vlen b) ≡ some (c_raw b) → FitsAfter k (n ∷ ns) t → FitsAfter k ns (raw_if n b t)
unfolding raw_if
fit-raw_if [] h l g r = fit-skip r
fit-raw_if (b ∷ bs) h l g r = raws h l g r

-- a repeated field
pub fit-each : {k : Kind} {n : ℕ} {ns : List ℕ} {t : Tree} (m : ℕ) (bs : List (List ℕ)) → FieldNumber n → m < 2 ^ 64 → AtMost m bs
    → ((s : Bool) (b : List ℕ) → says (rule_of k n) s (vlen b) ≡ some (c_raw b)) → FitsAfter k (n ∷ ns) t → FitsAfter k ns (each n bs t)
unfolding each
fit-each m [] h l a g r = fit-skip r
fit-each {n = n} {ns = ns} m (b ∷ bs) h l a g r =
    let q : length b < 2 ^ 64 = omega (arith, a.0) in
    raws h q (g (among n ns) b) (fit-each m bs h l a.1 g (fits-fewer r (n ∷ n ∷ ns) (fewer-twice n ns)))

-- a repeated message whose cost is small
pub fit-each_sub : {k : Kind} {n : ℕ} {ns : List ℕ} {t : Tree} (k' : Kind) (m : ℕ) (ss : List Tree) → FieldNumber n → m < 2 ^ 64 → CostMost m ss
    → ((s : Bool) (b : List ℕ) → says (rule_of k n) s (vlen b) ≡ some (c_msg k' b)) → AllFit k' ss → FitsAfter k (n ∷ ns) t → FitsAfter k ns (each_sub n ss t)
unfolding each_sub
fit-each_sub k' m [] h l a g f r = fit-skip r
fit-each_sub {n = n} {ns = ns} k' m (s ∷ ss) h l a g f r =
    let q : length (encode s) < 2 ^ 64 = omega (arith, a.0, encode-cost f.0) in
    subs k' h q (g (among n ns) (encode s)) f.0 (fit-each_sub k' m ss h l a.1 g f.1 (fits-fewer r (n ∷ n ∷ ns) (fewer-twice n ns)))

pub fit-sub_o : {k : Kind} {n : ℕ} {ns : List ℕ} {t : Tree} (k' : Kind) (o : Option Tree) → FieldNumber n
    → ((s : Tree) → o ≡ some s → (cost s < 2 ^ 64) × FitsAfter k' [] s) → ((b : List ℕ) → says (rule_of k n) (among n ns) (vlen b) ≡ some (c_msg k' b))
    → FitsAfter k (n ∷ ns) t → FitsAfter k ns (sub_o n o t)
unfolding sub_o
fit-sub_o k' none h f g r = fit-skip r
fit-sub_o k' (some s) h f g r = let e = f s refl in fit-sub k' h e.0 (g (encode s)) e.1 r
