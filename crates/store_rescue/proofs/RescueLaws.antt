-- What a rescue leaves: a good store of exactly the kept entries; a good store as it was; and the same again when it is done twice.
use Rattle.std.specs.Prelude.{◌≡◌, refl, true, false, cond, ℕ, zero, suc, ◌+◌, ◌-◌, ◌*◌, ◌≤◌, eqb, length, take, drop, replicate}
use Rattle.std.proofs.Math.Path.{sym, ap, subst}
use Rattle.std.proofs.Common.{ap₂, ◌∙◌, not-suc-le-zero, le_of_suc-le-suc, take_at, drop_at}
use mathlib.Core.List.{List, [], ◌∷◌, ◌++◌, append_assoc, append-nil}
use native.Mathlib.Omega.{arith}
use Rattle.std.proofs.lemmas.List.{replicate-append-replicate}
use Rattle.std.specs.declared.cmp.Ordering.{Ordering}
use Rattle.std.specs.declared.cmp.Ordering.TheVariants.{Greater}
use Rattle.store_block.specs.Order.{cmp, Below}
use Rattle.store_block.specs.OrderLaws.{cmp-flip, below-trans}
use Rattle.std.specs.Ordering.{ordering_reverse}
use Rattle.store_block.specs.DecidesLaws.{says-yes}
use Rattle.store_block.specs.Entry.{Entry, Fit}
use Rattle.std.specs.Ordering.{is_eq}
use Rattle.store_block.specs.Block.{block, decode}
use Rattle.store_block.specs.BlockLaws.{sized, length-block, decode-own, fit-good}
use Rattle.store_layout.specs.Store.{blocks_in, blocks, bytes_of, entries_of, AllFit, none, more, Above, Sorted, Good}
use Rattle.store_layout.specs.Size.{SizeGood}
use Rattle.store_layout.proofs.SizeLaws.{good-size, is-size}
use Rattle.store_layout.proofs.StoreLaws.{room, bytes-cons, good-bytes, entries-bytes, length-bytes}
use Rattle.store_layout.specs.Entries.{by_order, put_entry}
use Rattle.store_rescue.proofs.StateLaws.{good-sound, blank-state}
use Rattle.store_rescue.specs.Rescue.{blocks_from, has_key, report, report_byte, kept_with, kept_from, report_from, kept_of, report_of, rescued_store, outcome, rescue_of}
use Rattle.store_rescue.proofs.SurveyLaws.{done}
use Rattle.store_rescue.specs.Kept.{In, Keeping, ones}
use Rattle.store_rescue.proofs.KeptLaws.{keeping, ones-most, kept-count}
use Rattle.store_rescue.specs.Places.{KeptAt, kept_before}
use Rattle.store_rescue.proofs.PlacesLaws.{in_kept, kept_in, length-blocks, length-report}
use Rattle.store_rescue.specs.Report.{ones_then_zeros}

module _ (l : List ℕ) (z : SizeGood l) where
  kept-good : Keeping (kept_of l)
  unfolding kept_of
  kept-good = keeping [] (blocks_from (blocks_in l) l) (record { fit = none; sorted = tt })

  -- as many are kept as bytes of the report are 1
  pub rescued-count : length (kept_of l) ≡ ones (report_of l)
  unfolding kept_of report_of
  rescued-count = let c = kept-count [] (blocks_from (blocks_in l) l) in omega arith

  kept-few : length (kept_of l) ≤ blocks_in l
  unfolding report_of
  kept-few = let c = rescued-count in let o = ones-most (report_of l) in let r = length-report [] (blocks_from (blocks_in l) l) in let n = length-blocks (blocks_in l) l in omega arith

  -- the result is good
  pub rescued-good : Good (rescued_store l)
  unfolding rescued_store
  rescued-good = good-bytes (blocks_in l) (kept_of l) z.some z.most kept-good.fit kept-good.sorted kept-few

  -- it has as many blocks
  pub rescued-blocks : blocks_in (rescued_store l) ≡ blocks_in l
  unfolding rescued_store
  rescued-blocks = let n = length-bytes (kept_of l) (blocks_in l) kept-good.fit kept-few in omega arith

  pub rescued-entries : entries_of (rescued_store l) ≡ kept_of l
  unfolding rescued_store
  rescued-entries = entries-bytes (blocks_in l) (kept_of l) kept-good.fit kept-few

  -- its entries are those of the kept blocks, each with its version, tag, algorithm and value, and no others
  pub kept-stored : (e : Entry) → KeptAt l (blocks_in l) e → In e (entries_of (rescued_store l))
  unfolding kept_of kept_before
  kept-stored e k = subst (λ (es : List Entry). In e es) (sym rescued-entries) (kept_in l e (blocks_in l) (omega arith) k)

  pub stored-kept : (e : Entry) → In e (entries_of (rescued_store l)) → KeptAt l (blocks_in l) e
  unfolding kept_of kept_before
  stored-kept e w = in_kept l e (blocks_in l) (omega arith) (subst (λ (es : List Entry). In e es) rescued-entries w)

-- ---- a good store: every key kept before is below the next
abbrev Under : List Entry → List ℕ → Type 0
Under [] k = Unit {0}
Under (x ∷ xs) k = Below x.key k × Under xs k

under_last : (es : List Entry) (e : Entry) (m : List ℕ) → Under es e.key → Below e.key m → Under (es ++ (e ∷ [])) m
under_last [] e m u b = (b, tt)
under_last (x ∷ xs) e m u b = (below-trans x.key e.key m u.0 b, under_last xs e m u.1 b)

above-it : (k x : List ℕ) → Below x k → cmp k x ≡ Greater
above-it k x b = cmp-flip x k ∙ ap ordering_reverse b

under-new : (es : List Entry) (k : List ℕ) → Under es k → has_key k es ≡ false
unfolding has_key
under-new [] k u = refl
under-new (x ∷ xs) k u = ap (λ (o : Ordering). cond (is_eq o) true (has_key k xs)) (above-it k x.key u.0) ∙ under-new xs k u.1

under-put : (es : List Entry) (e : Entry) → Under es e.key → put_entry e es ≡ es ++ (e ∷ [])
unfolding put_entry by_order
under-put [] e u = refl
under-put (x ∷ xs) e u =
    ap (λ (o : Ordering). by_order o (e ∷ x ∷ xs) (e ∷ xs) (x ∷ put_entry e xs)) (above-it e.key x.key u.0) ∙ ap (λ (l : List Entry). x ∷ l) (under-put xs e u.1)

-- a sound block behind those kept so far
next-byte : (ps : List Entry) (e : Entry) → Fit e → Under ps e.key → report_byte ps (block e) ≡ 1
unfolding report_byte report
next-byte ps e f u =
    let d : has_key (decode (block e)).key ps ≡ false = ap (λ (x : Entry). has_key x.key ps) (decode-own e (sized f)) ∙ under-new ps e.key u in
    ap₂ report d (good-sound (block e) (fit-good e f))

next-kept : (ps : List Entry) (e : Entry) → Fit e → Under ps e.key → kept_with ps (block e) ≡ ps ++ (e ∷ [])
unfolding kept_with
next-kept ps e f u =
    ap (λ (n : ℕ). cond (eqb n 1) (put_entry (decode (block e)) ps) ps) (next-byte ps e f u) ∙ ap (λ (x : Entry). put_entry x ps) (decode-own e (sized f)) ∙ under-put ps e u

blank-byte : (ps : List Entry) → report_byte ps (replicate 512 0) ≡ 0
unfolding report_byte report
blank-byte ps = ap (report (has_key (decode (replicate 512 0)).key ps)) blank-state

blank-with : (ps : List Entry) → kept_with ps (replicate 512 0) ≡ ps
unfolding kept_with
blank-with ps = ap (λ (n : ℕ). cond (eqb n 1) (put_entry (decode (replicate 512 0)) ps) ps) (blank-byte ps)

-- the blocks of n blank ones, and of an entry before others
blank-blocks : (n : ℕ) → blocks_from (suc n) (bytes_of (suc n) []) ≡ replicate 512 0 ∷ blocks_from n (bytes_of n [])
unfolding blocks_from bytes_of blocks
blank-blocks n =
    let z : List ℕ = replicate ((n - 0) * 512) 0 in
    let w : replicate ((suc n - 0) * 512) 0 ≡ replicate 512 0 ++ z =
    ap (λ (m : ℕ). replicate m 0) (let k : (suc n - 0) * 512 ≡ 512 + (n - 0) * 512 = omega arith in k) ∙ sym (replicate-append-replicate 512 ((n - 0) * 512) 0) in
    ap₂ (λ (x y : List ℕ). x ∷ blocks_from n y) (ap (take 512) w ∙ take_at (replicate 512 0) z 512 refl) (ap (drop 512) w ∙ drop_at (replicate 512 0) z 512 refl)

entry-blocks : (n : ℕ) (e : Entry) (es : List Entry) → Fit e → blocks_from (suc n) (bytes_of (suc n) (e ∷ es)) ≡ block e ∷ blocks_from n (bytes_of n es)
unfolding blocks_from
entry-blocks n e es f =
    let w = bytes-cons e es n in
    let k = length-block e (sized f) in
    ap₂ (λ (x y : List ℕ). x ∷ blocks_from n y) (ap (take 512) w ∙ take_at (block e) (bytes_of n es) 512 k) (ap (drop 512) w ∙ drop_at (block e) (bytes_of n es) 512 k)

record Same (ps es : List Entry) (n : ℕ) : Type 0 where
  pub kept : kept_from ps (blocks_from n (bytes_of n es)) ≡ ps ++ es
  pub told : report_from ps (blocks_from n (bytes_of n es)) ≡ ones_then_zeros (length es) n

all-blank : (ps : List Entry) (n : ℕ) → Same ps [] n
unfolding kept_from report_from blocks_from
all-blank ps zero = record { kept = sym (append-nil ps); told = refl }
all-blank ps (suc n) =
    let r = all-blank ps n in
    let b = blank-blocks n in
    let q = blank-with ps in
    let k : suc n - 0 ≡ suc (n - 0) = omega arith in
    record {
      kept = ap (kept_from ps) b ∙ ap (λ (x : List Entry). kept_from x (blocks_from n (bytes_of n []))) q ∙ r.kept;
      told = ap (report_from ps) b ∙ ap₂ (λ (m : ℕ) (x : List Entry). m ∷ report_from x (blocks_from n (bytes_of n []))) (blank-byte ps) q
          ∙ ap (λ (x : List ℕ). 0 ∷ x) r.told ∙ ap (λ (m : ℕ). replicate m 0) (sym k);
    }

-- every key of the first is below the second's first
abbrev Before : List Entry → List Entry → Type 0
Before ps [] = Unit {0}
Before ps (e ∷ es) = Under ps e.key

all-kept : (ps es : List Entry) (n : ℕ) → AllFit es → Sorted es → length es ≤ n → Before ps es → Same ps es n
unfolding kept_from report_from
all-kept ps [] n fs s h u = all-blank ps n
all-kept ps (e ∷ es) zero fs s h u = absurd (not-suc-le-zero h)
all-kept ps (e ∷ es) (suc n) (more f fs) s h u =
    let bs : List (List ℕ) = blocks_from n (bytes_of n es) in
    let r = all-kept (ps ++ (e ∷ [])) es n fs s.1 (le_of_suc-le-suc h) (next es s.0) in
    let b = entry-blocks n e es f in
    let q = next-kept ps e f u in
    let k : n - length es ≡ suc n - suc (length es) = omega arith in
    record {
      kept = ap (kept_from ps) b ∙ ap (λ (x : List Entry). kept_from x bs) q ∙ r.kept ∙ append_assoc ps (e ∷ []) es;
      told = ap (report_from ps) b ∙ ap₂ (λ (m : ℕ) (x : List Entry). m ∷ report_from x bs) (next-byte ps e f u) q
          ∙ ap (λ (x : List ℕ). 1 ∷ x) r.told ∙ ap (λ (m : ℕ). 1 ∷ (replicate (length es) 1 ++ replicate m 0)) k;
    }
  where
    next : (xs : List Entry) → Above e.key xs → Before (ps ++ (e ∷ [])) xs
    next [] a = tt
    next (x ∷ xs) a = under_last ps e x.key u a

-- a good store comes out as it was, with a report of 1s then 0s
module _ (l : List ℕ) (g : Good l) where
  same : Same [] (entries_of l) (blocks_in l)
  same = all-kept [] (entries_of l) (blocks_in l) g.fit g.sorted (room l) (start (entries_of l))
    where
      start : (es : List Entry) → Before [] es
      start [] = tt
      start (e ∷ es) = tt

  pub good-stays : rescued_store l ≡ l
  unfolding rescued_store kept_of
  good-stays = ap (bytes_of (blocks_in l)) (ap (λ (x : List ℕ). kept_from [] (blocks_from (blocks_in l) x)) g.same ∙ same.kept) ∙ sym g.same

  pub good-report : report_of l ≡ ones_then_zeros (length (entries_of l)) (blocks_in l)
  unfolding report_of
  good-report = ap (λ (x : List ℕ). report_from [] (blocks_from (blocks_in l) x)) g.same ∙ same.told

-- rescuing twice changes nothing more
pub rescued-again : (l : List ℕ) → SizeGood l → rescued_store (rescued_store l) ≡ rescued_store l
rescued-again l z = good-stays (rescued_store l) (rescued-good l z)

pub called-again : (l : List ℕ) → SizeGood l → rescue_of (rescued_store l) (report_of l) ≡ outcome 0 (rescued_store l) (ones_then_zeros (ones (report_of l)) (blocks_in l))
unfolding report_of
called-again l z =
    let g = rescued-good l z in
    let m : List ℕ = rescued_store l in
    let n = rescued-blocks l z in
    let size = sym (is-size true m (says-yes (good-size m g))) in
    let long : length (report_of l) ≡ blocks_in m = length-report [] (blocks_from (blocks_in l) l) ∙ length-blocks (blocks_in l) l ∙ sym n in
    let count : length (entries_of m) ≡ ones (report_of l) = ap length (rescued-entries l z) ∙ rescued-count l z in
    sym (done m (report_of l) m (ones_then_zeros (ones (report_of l)) (blocks_in l)) size long (sym (rescued-again l z))
    (ap₂ ones_then_zeros (sym count) (sym n) ∙ sym (good-report m g)))
