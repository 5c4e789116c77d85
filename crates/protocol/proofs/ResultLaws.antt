-- What steps 4 to 10 give can be sent: a code that document 01 names, a body and a value part that fit.
use Prim.Native.Nat.{ℕ, zero, suc, ◌+◌, ◌^◌, ◌≤◌, ◌<◌}
use native.Mathlib.Omega.{arith}
use Rattle.std.specs.Prelude.{◌≡◌, Bool, true, false, cond, ◌&&◌, eqb, leb, take, get_or, None, Some, Result as StdResult, Ok, Err}
use Rattle.std.proofs.Math.Path.{refl, ap, subst}
use mathlib.Core.List.{List, [], ◌∷◌, reverse, reverse_aux}
use Rattle.std.proofs.Math.Option.{Option, none, some}
use Rattle.std.proofs.Math.ListN.{length}
use Rattle.std.proofs.Common.{leb-true}
use Rattle.fields_schema.specs.Tree.{guard, among}
use Rattle.fields_encoding.specs.Cost.{AtMost}
use Rattle.fields_encoding.proofs.BasicLaws.{never}
use Rattle.access_record.specs.Table as access
use Rattle.access_permission.specs.Permissions.{READ, RANGE}
use Rattle.access_permission.specs.Permission.{permits}
use Rattle.store_block.specs.Order.{cmp}
use Rattle.std.specs.Ordering.{is_lt}
use Rattle.store_block.specs.Entry.{Entry, no_entry, Fit}
use Rattle.store_layout.specs.Store.{blocks_in, AllFit, Good, store_good}
use Rattle.store_layout.proofs.CheckLaws.{store-decides}
use Rattle.store_layout.specs.Entries.{PutAnswer}
use Rattle.store_layout.specs.declared.PutError.TheVariants.{Full, Unfit}
use Rattle.store_layout.specs.Entries.{put_answer, put_store, delete_store, find_in, next_of, previous_of}
use Rattle.log_readings.specs.Lent.{Lent, Sample, place_at, places_from, temperatures, utilizations, readings_good, temperature_sample, utilization_sample}
use Rattle.log_readings.specs.Places.{Placed}
use Rattle.log_readings.specs.LentLaws.{name-bounds, good-temperatures, good-utilizations, temperatures-placed, utilizations-placed}
use Rattle.protocol.specs.declared.Operation.{Operation}
use Rattle.protocol.specs.declared.Operation.TheVariants.{Noop, Get, GetVersion, GetNext, GetPrevious, GetKeyRange, Put, Delete, FlushAllData, Setup, GetLog, Security}
use Rattle.protocol.specs.declared.Choice.{Choice}
use Rattle.protocol.specs.State.{State, table, entries, with_store, accepted}
use Rattle.base_definitions.specs.Lists.{map_l, only, first, is_empty}
use Rattle.base_definitions.specs.Options.{or_else}
use Rattle.protocol.specs.Command.{Header, KeyValue, Range, Body, Command}
use Rattle.protocol.specs.Operation.{Asked, asked_by}
use Rattle.protocol.specs.Judge.{Capacity, ReplyBody, Result, bare, key_value, range, log, fails, succeeds, both_there, step4, above_last, step7, present, range_good, broken, fault, step8}
use Rattle.protocol.specs.Judge.{no_range, key_value_in, range_in, permitted, entry_at, entry_of, visible, visible_in, shown, version_shown, version_right, new_entry, changed, put_by, put, delete_by, in_range, keys_in, keys_of, set_up, capacity_of, log_with, log_of, logged, step10, judge}
use Rattle.protocol.specs.FaultCode.{FaultCode, nothing, no_algorithm, invalid}
use Rattle.protocol.proofs.FaultLaws.{fault-code}
use Rattle.protocol.specs.ReplyFits.{CodeNamed, ShortNames, LogFits, BodyFits, bares, key_values, ranges, logs}
use Rattle.protocol.proofs.ReplyBackLaws.{known-code}
use Rattle.protocol.specs.Sendable.{Sendable, PartsFit}

failing : (s : State) (code : ℕ) → CodeNamed code → Sendable (fails s code)
failing s code h = record { code = h; body = bares; value = omega arith }

succeeding : (s : State) (b : ReplyBody) (v : List ℕ) → BodyFits b → length v ≤ 384 → Sendable (succeeds s b v)
succeeding s b v h l = record { code = known-code refl; body = h; value = l }

choosing : (t : Bool) {a b : Result} → Sendable a → Sendable b → Sendable (cond t a b)
choosing true h k = h
choosing false h k = k

-- ---- steps 4 to 7

there : (s : State) (h : Header) (c q : Option ℕ) (next : Header → ℕ → ℕ → Result) → ((h : Header) (c q : ℕ) → Sendable (next h c q)) → Sendable (both_there s h c q next)
there s h (some c) (some q) next f = f h c q
there s h (some c) none next f = failing s _ (known-code refl)
there s h none q next f = failing s _ (known-code refl)

step4-sent : (s : State) (o : Option Header) (next : Header → ℕ → ℕ → Result) → ((h : Header) (c q : ℕ) → Sendable (next h c q)) → Sendable (step4 s o next)
step4-sent s none next f = failing s _ (known-code refl)
step4-sent s (some h) next f = there s h h.connection_id h.sequence next f

step7-sent : (s : State) (a : Asked) (next : Choice → Result) → ((x : Choice) → Sendable (next x)) → Sendable (step7 s a next)
step7-sent s (Some x) next f = f x
step7-sent s None next f = failing s _ (known-code refl)

-- ---- step 8

step8-by : (s : State) (next : Result) {n : ℕ} → FaultCode n → (n ≡ 0 → Sendable next) → Sendable (cond (eqb n 0) next (fails s n))
step8-by s next nothing f = f refl
step8-by s next no_algorithm f = failing s _ (known-code refl)
step8-by s next invalid f = failing s _ (known-code refl)

step8-sent : (s : State) (o : Operation) (b : Body) (v : List ℕ) (next : Result) → (fault o b v ≡ 0 → Sendable next) → Sendable (step8 s o b v next)
step8-sent s o b v next f = step8-by s next (fault-code o b v) f

-- ---- step 10: what a good store holds fits

fit_parts : {e : Entry} → Fit e → PartsFit e
fit_parts h = record { key = h.key_fits; version = h.version_fits; tag = h.tag_fits; value = h.value_fits; algorithm = h.algorithm_fits }

no-parts : PartsFit no_entry
no-parts = record { key = omega arith; version = omega arith; tag = omega arith; value = omega arith; algorithm = omega arith }

at-fits : {es : List Entry} → AllFit es → (i : ℕ) → PartsFit (get_or es i no_entry)
at-fits AllFit.none i = no-parts
at-fits (AllFit.more h k) zero = fit_parts h
at-fits (AllFit.more h k) (suc i) = at-fits k i

SomeFits : (o : Option Entry) → Type 0
SomeFits none = Unit {0}
SomeFits (some e) = PartsFit e

only-fit : (f : Entry → Bool) {es : List Entry} → AllFit es → AllFit (only f es)
unfolding only
only-fit f AllFit.none = AllFit.none
only-fit f (AllFit.more {e = e} {es = es} h k) = go (f e) (only-fit f k)
  where
    go : (t : Bool) → AllFit (only f es) → AllFit (cond t (e ∷ only f es) (only f es))
    go true ih = AllFit.more h ih
    go false ih = ih

reversed-fit : {xs ys : List Entry} → AllFit xs → AllFit ys → AllFit (reverse_aux xs ys)
reversed-fit AllFit.none k = k
reversed-fit (AllFit.more h hs) k = reversed-fit hs (AllFit.more h k)

first_fits : {es : List Entry} → AllFit es → SomeFits (first es)
unfolding SomeFits
first_fits AllFit.none = record {}
first_fits (AllFit.more h k) = fit_parts h

module _ (s : State) (fit : AllFit (entries s)) where
  entry-at : (f : StdResult ℕ ℕ) → SomeFits (entry_at s f)
  unfolding SomeFits
  entry-at (Ok i) = at-fits fit i
  entry-at (Err i) = record {}

  visible-fit : (a : access.Acl) (p : ℕ) → AllFit (visible_in s a p)
  unfolding visible
  visible-fit a p = only-fit (λ e. permits a s.connection.protected p e.key) fit

  next_fits : (a : access.Acl) (k : List ℕ) → SomeFits (next_of k (visible_in s a READ))
  unfolding next_of
  next_fits a k = first_fits (only-fit (λ e. is_lt (cmp k e.key)) (visible-fit a READ))

  previous-fits : (a : access.Acl) (k : List ℕ) → SomeFits (previous_of k (visible_in s a READ))
  unfolding previous_of
  previous-fits a k = first_fits (reversed-fit (only-fit (λ e. is_lt (cmp e.key k)) (visible-fit a READ)) AllFit.none)

value-short : (t : Bool) (v : List ℕ) → length v ≤ 384 → length (cond t [] v) ≤ 384
value-short true v h = omega arith
value-short false v h = h

shown-sent : (s : State) (m : Bool) (o : Option Entry) → SomeFits o → Sendable (shown s m o)
unfolding SomeFits
shown-sent s m none h = failing s _ (known-code refl)
shown-sent s m (some e) h =
    succeeding s (key_value e.key e.version e.tag e.algorithm) (cond m [] e.value) (key_values h.key h.version h.tag h.algorithm) (value-short m e.value h.value)

version-sent : (s : State) (o : Option Entry) → SomeFits o → Sendable (version_shown s o)
unfolding SomeFits
version-sent s none h = failing s _ (known-code refl)
version-sent s (some e) h = succeeding s (key_value [] e.version [] 0) [] (key_values (omega arith) h.version (omega arith) (omega arith)) (omega arith)

changed-sent : (s : State) (l : List ℕ) → Sendable (changed s l)
changed-sent s l = succeeding (with_store s l) (key_value [] [] [] 0) [] (key_values (omega arith) (omega arith) (omega arith) (omega arith)) (omega arith)

put-sent : (s : State) (k : KeyValue) (v : List ℕ) → Sendable (put s k v)
put-sent s k v =
    choosing (version_right k (entry_of s k.key))
    (by_answer (put_answer s.store (new_entry k v))) (failing s _ (known-code refl))
  where
    by_answer : (r : PutAnswer) → Sendable (put_by s (new_entry k v) r)
    by_answer (Ok tt) = changed-sent s (put_store s.store (new_entry k v))
    by_answer (Err Full) = failing s _ (known-code refl)
    by_answer (Err Unfit) = failing s _ (known-code refl)

delete-sent : (s : State) (k : KeyValue) (o : Option Entry) → Sendable (delete_by s k o)
delete-sent s k none = choosing k.force (changed-sent s s.store) (failing s _ (known-code refl))
delete-sent s k (some e) = choosing (version_right k (some e)) (changed-sent s (delete_store s.store k.key)) (failing s _ (known-code refl))

-- ---- the keys of a range

keys-short : {es : List Entry} → AllFit es → AtMost 64 (map_l (λ (e : Entry). e.key) es)
unfolding map_l
keys-short AllFit.none = record {}
keys-short (AllFit.more h k) = (h.key_fits, keys-short k)

reversed-short : (m : ℕ) (xs ys : List (List ℕ)) → AtMost m xs → AtMost m ys → AtMost m (reverse_aux xs ys)
reversed-short m [] ys h k = k
reversed-short m (x ∷ xs) ys h k = reversed-short m xs (x ∷ ys) h.1 (h.0, k)

reverse-short : (m : ℕ) (xs : List (List ℕ)) → AtMost m xs → AtMost m (reverse xs)
reverse-short m xs h = reversed-short m xs [] h (record {})

take_short : (m n : ℕ) (xs : List (List ℕ)) → AtMost m xs → AtMost m (take n xs)
take_short m zero xs h = record {}
take_short m (suc n) [] h = record {}
take_short m (suc n) (x ∷ xs) h = (h.0, take_short m n xs h.1)

take-few : (n : ℕ) (xs : List (List ℕ)) → length (take n xs) ≤ n
take-few zero xs = omega arith
take-few (suc n) [] = omega arith
take-few (suc n) (x ∷ xs) = omega (arith, take-few n xs)

range-sent : (s : State) (r : Range) (es : List Entry) → AllFit es → r.max_returned ≤ 32 → Sendable (succeeds s (range (keys_of r es)) [])
unfolding keys_of keys_in
range-sent s r es fit l =
    succeeding s (range (take r.max_returned (cond r.reverse (reverse (keys_in r es)) (keys_in r es)))) []
    (ranges (omega (arith, take-few r.max_returned (cond r.reverse (reverse (keys_in r es)) (keys_in r es))))
    (take_short 64 r.max_returned (cond r.reverse (reverse (keys_in r es)) (keys_in r es)) (go r.reverse)))
    (omega arith)
  where
    short : AtMost 64 (keys_in r es)
    short = keys-short (only-fit (λ (e : Entry). in_range r e.key) fit)

    go : (t : Bool) → AtMost 64 (cond t (reverse (keys_in r es)) (keys_in r es))
    go true = reverse-short 64 (keys_in r es) short
    go false = short

both-second : (a b : Bool) → (a && b) ≡ true → b ≡ true
both-second true b e = e
both-second false b e = never (cc)

unbroken : (t : Bool) → broken t ≡ 0 → t ≡ true
unbroken true e = refl
unbroken false e = absurd (omega (arith, e))

limit-good : (r : Range) → range_good r ≡ true → r.max_returned ≤ 32
unfolding range_good
limit-good r e =
    let p = both-second (present (λ k. leb (length k) 64) r.start_key) (present (λ k. leb (length k) 64) r.end_key && leb r.max_returned 32) e in
    leb-true r.max_returned 32 (both-second (present (λ k. leb (length k) 64) r.end_key) (leb r.max_returned 32) p)

limit-present : (o : Option Range) → present range_good o ≡ true → (or_else no_range o).max_returned ≤ 32
limit-present none e = omega arith
limit-present (some r) e = limit-good r e

setup-sent : (s : State) (o : Option ℕ) → Sendable (set_up s o)
setup-sent s none = succeeding s bare [] bares (omega arith)
setup-sent s (some v) = record { code = known-code refl; body = bares; value = omega arith }

-- ---- the log of good readings

-- what is sent of a reading has its name
temperature-name : (r : Lent) → (temperature_sample r).name ≡ r.name
unfolding temperature_sample
temperature-name r = refl

utilization-name : (r : Lent) → (utilization_sample r).name ≡ r.name
unfolding utilization_sample
utilization-name r = refl

module _ (f : Lent → Sample) (kept : (r : Lent) → (f r).name ≡ r.name) (l : List ℕ) where
  names-short : (i n : ℕ) → ((j : ℕ) → j < n → Placed l (i + j)) → ShortNames (map_l f (places_from l i n))
  unfolding map_l places_from
  names-short i zero h = record {}
  names-short i (suc n) h =
      let z : i + 0 ≡ i = omega arith in
      let p = subst (Placed l) z (h 0 (omega arith)) in
      let e = ap length (kept (place_at l i)) in (
        omega (arith, e, (name-bounds (place_at l i).name p.named).1),
        names-short (i + 1) n (λ j k. let w : i + suc j ≡ i + 1 + j = omega arith in subst (Placed l) w (h (suc j) (omega arith))),
      )

  samples-few : (i n : ℕ) → length (map_l f (places_from l i n)) ≡ n
  unfolding map_l places_from
  samples-few i zero = refl
  samples-few i (suc n) = ap suc (samples-few (i + 1) n)

none_or : (t : Bool) (m : ℕ) (rs : List Sample) → length rs ≤ m → ShortNames rs → (length (cond t rs []) ≤ m) × ShortNames (cond t rs [])
none_or true m rs h k = (h, k)
none_or false m rs h k = (omega arith, record {})

nominal-word : (store : List ℕ) (t : Bool) → blocks_in store ≤ 128 → (c : Capacity) → guard t (capacity_of store) ≡ some c → c.nominal < 2 ^ 64
nominal-word store true h c e = let q : capacity_of store ≡ c = cc in omega (arith, ap (λ (x : Capacity). x.nominal) q)
nominal-word store false h c e = never (cc)

log-fits : (store l : List ℕ) (a b c d : Bool) → readings_good l ≡ true → blocks_in store ≤ 128 → LogFits (log_with store l a b c d)
unfolding log_with
log-fits store l a b c d g h =
    let u = utilizations-placed l g in
    let t = temperatures-placed l g in
    let us = map_l utilization_sample (utilizations l) in
    let ts = map_l temperature_sample (temperatures l) in
    let p = none_or a 2 us (omega (arith, samples-few utilization_sample utilization-name l 4 (get_or l 1 0), good-utilizations l g))
    (names-short utilization_sample utilization-name l 4 (get_or l 1 0) u.each) in
    let q = none_or b 4 ts (omega (arith, samples-few temperature_sample temperature-name l 0 (get_or l 0 0), good-temperatures l g))
    (names-short temperature_sample temperature-name l 0 (get_or l 0 0) t.each) in
    record {
      few_utilizations = p.0;
      few_temperatures = q.0;
      utilizations_named = p.1;
      temperatures_named = q.1;
      nominal_word = λ c' e. nominal-word store c h c' e;
    }

log-sent : (s : State) (types : List ℕ) → readings_good s.readings ≡ true → blocks_in s.store ≤ 128 → Sendable (logged s types)
log-sent s types g h =
    choosing (among 7 types) (failing s _ (known-code refl))
    (succeeding s (log (log_of s types)) [] (logs (log-fits s.store s.readings (among 0 types) (among 1 types) (among 2 types) (among 6 types) g h)) (omega arith))

step10-sent : (s : State) (a : access.Acl) (o : Operation) (b : Body) (v : List ℕ) → Good s.store → readings_good s.readings ≡ true → fault o b v ≡ 0 → Sendable (step10 s a o b v)
step10-sent s a Noop b v good r e = succeeding s bare [] bares (omega arith)
step10-sent s a FlushAllData b v good r e = succeeding s bare [] bares (omega arith)
step10-sent s a Get b v good r e = shown-sent s (key_value_in b).metadata_only (entry_of s (key_value_in b).key) (entry-at s good.fit (find_in (key_value_in b).key (entries s)))
step10-sent s a GetVersion b v good r e = version-sent s (entry_of s (key_value_in b).key) (entry-at s good.fit (find_in (key_value_in b).key (entries s)))
step10-sent s a GetNext b v good r e =
    shown-sent s (key_value_in b).metadata_only (next_of (key_value_in b).key (visible_in s a READ)) (next_fits s good.fit a (key_value_in b).key)
step10-sent s a GetPrevious b v good r e =
    shown-sent s (key_value_in b).metadata_only (previous_of (key_value_in b).key (visible_in s a READ)) (previous-fits s good.fit a (key_value_in b).key)
step10-sent s a Put b v good r e = put-sent s (key_value_in b) v
step10-sent s a Delete b v good r e = delete-sent s (key_value_in b) (entry_of s (key_value_in b).key)
step10-sent s a GetKeyRange b v good r e =
    range-sent s (range_in b) (visible_in s a RANGE) (visible-fit s good.fit a RANGE)
    (limit-present b.range (both-second (is_empty v) (present range_good b.range) (unbroken (is_empty v && present range_good b.range) e)))
step10-sent s a Setup b v good r e = setup-sent s (or_else none b.setup)
step10-sent s a GetLog b v good r e = log-sent s (or_else [] b.get_log) r good.most
step10-sent s a Security b v good r e = record { code = known-code refl; body = bares; value = omega arith }

-- ---- the whole judgement, over a good store and good readings

pub judge-sent : (s : State) (a : access.Acl) (c : Command) (v : List ℕ) → store_good s.store ≡ true → readings_good s.readings ≡ true → Sendable (judge s a c v)
unfolding judge
judge-sent s a c v good r =
    let g = (store-decides s.store).yes good in
    step4-sent s c.header _ (λ h connection q.
    choosing (eqb h.cluster_version (table s).cluster_version)
    (choosing (eqb connection s.connection.number && above_last q s.connection.last)
    (step7-sent (accepted s q) (asked_by h.message_type) _ (λ x.
    step8-sent (accepted s q) x.operation c.body v _ (λ e.
    choosing (permitted a s.connection.protected x.permission c.body)
    (step10-sent (accepted s q) a x.operation c.body v g r e) (failing (accepted s q) _ (known-code refl)))))
    (failing s _ (known-code refl)))
    (failing s _ (known-code refl)))
