-- Document 02, CR 2: GETNEXT, GETPREVIOUS and GETKEYRANGE show the keys that a usable scope fits, and depend on no other.
use Prim.Native.Nat.{ℕ, zero, suc, ◌-◌, ◌≤◌, ◌<◌}
use native.Mathlib.Omega.{arith}
use Rattle.std.specs.Prelude.{◌≡◌, Bool, ◌&&◌, ◌||◌, eqb, Some}
use Rattle.std.proofs.Math.Path.{refl, sym, ap}
use Rattle.std.proofs.Common.{◌∙◌, subst}
use Rattle.std.proofs.Math.Bool.{true, false, cond}
use mathlib.Core.List.{List, [], ◌∷◌, reverse, reverse_aux}
use Rattle.std.proofs.Math.Option.{Option, none, some}
use Rattle.std.proofs.Math.ListN.{length, take, length-take}
use Rattle.std.proofs.Math.Seq.{take_all}
use Rattle.base_definitions.specs.Lists.{all, any, map_l, only, same_bytes, is_empty}
use Rattle.base_definitions.proofs.ListLaws.{same_bytes-self}
use Rattle.fields_encoding.proofs.BasicLaws.{never}
use Rattle.access_record.specs.Table as access
use Rattle.access_permission.specs.Permissions.{READ, RANGE}
use Rattle.access_permission.specs.Permission.{permits, permits_any}
use Rattle.access_permission.specs.Granted.{Granted}
use Rattle.access_permission.proofs.VerdictLaws.{granted, granting}
use Rattle.store_block.specs.Entry.{Entry}
use Rattle.store_layout.specs.Store.{Sorted}
use Rattle.store_layout.specs.Entries.{next_of, previous_of}
use Rattle.store_layout.proofs.EntriesLaws.{is-less, is-equal, is_greater, by-order}
use Rattle.store_layout.specs.Lookup.{under}
use Rattle.store_layout.proofs.LookupLaws.{under_at}
use Rattle.store_layout.proofs.FilteredLaws.{only_under, under-only, only_same}
use Rattle.store_layout.specs.Neighbours.{NoneFits, Upwards, Downwards, Next, Previous}
use Rattle.store_layout.proofs.NeighbourLaws.{next-nearest, previous-nearest, next-exactly, previous-exactly, none-next, none-previous}
use Rattle.protocol.specs.declared.Operation.{Operation}
use Rattle.protocol.specs.declared.Operation.TheVariants.{GetNext, GetPrevious, GetKeyRange}
use Rattle.protocol.specs.declared.Permission.TheVariants.{Any}
use Rattle.protocol.specs.StatusCode.{NOT_AUTHORIZED, VERSION_FAILURE, NOT_FOUND, INVALID_REQUEST}
use Rattle.protocol.specs.MessageType.{GETKEYRANGE}
use Rattle.protocol.specs.State.{State, table, entries, accepted}
use Rattle.protocol.specs.Command.{Header, Range, Body, Command}
use Rattle.protocol.specs.Operation.{asked, asked_in, asked_by}
use Rattle.protocol.specs.Judge.{Result, range, fails, succeeds, both_there, step4, step5, above_last, step6, present, range_good, broken, fault, key_value_in, range_in, step9, visible, visible_in, shown, in_range, keys_in, keys_of, step10, judge}
use Rattle.protocol.specs.Passes.{Passes}
use Rattle.protocol.specs.Onwards.{onwards}
use Rattle.protocol.proofs.AcceptedLaws.{passed_on}
use Rattle.protocol.specs.Three.{Three, next, previous, key_range}

-- ---- tests of lists

module _ {A : Type 0} (f : A → Bool) where
  all_take : (n : ℕ) (xs : List A) → all f xs ≡ true → all f (take n xs) ≡ true
  unfolding all
  all_take zero xs h = refl
  all_take (suc n) [] h = refl
  all_take (suc n) (x ∷ xs) h = go (f x) h (all_take n xs)
    where
      go : (b : Bool) → (b && all f xs) ≡ true → (all f xs ≡ true → all f (take n xs) ≡ true) → (b && all f (take n xs)) ≡ true
      go true h ih = ih h
      go false h ih = h

  all-reverse : (xs r : List A) → (all f xs && all f r) ≡ true → all f (reverse_aux xs r) ≡ true
  unfolding all
  all-reverse [] r h = h
  all-reverse (x ∷ xs) r h = all-reverse xs (x ∷ r) (go (f x) (all f xs) h)
    where
      go : (a b : Bool) → ((a && b) && all f r) ≡ true → (b && (a && all f r)) ≡ true
      go true true h = h
      go true false h = h
      go false b h = never (cc)

  any-reverse : (xs r : List A) → (any f xs || any f r) ≡ true → any f (reverse_aux xs r) ≡ true
  unfolding any
  any-reverse [] r h = h
  any-reverse (x ∷ xs) r h = any-reverse xs (x ∷ r) (go (f x) (any f xs) h)
    where
      go : (a b : Bool) → ((a || b) || any f r) ≡ true → (b || (a || any f r)) ≡ true
      go true true h = refl
      go true false h = refl
      go false b h = h

  -- one test after another is both
  only-both : (g : A → Bool) (xs : List A) → only f (only g xs) ≡ only (λ x. f x && g x) xs
  unfolding only
  only-both g [] = refl
  only-both g (x ∷ xs) = go (g x) (f x) refl (only-both g xs)
    where
      go : (b c : Bool) → f x ≡ c → only f (only g xs) ≡ only (λ x. f x && g x) xs
          → only f (cond b (x ∷ only g xs) (only g xs)) ≡ cond (c && b) (x ∷ only (λ x. f x && g x) xs) (only (λ x. f x && g x) xs)
      go true true e ih = ap (λ (t : Bool). cond t (x ∷ only f (only g xs)) (only f (only g xs))) e ∙ ap (λ (l : List A). x ∷ l) ih
      go true false e ih = ap (λ (t : Bool). cond t (x ∷ only f (only g xs)) (only f (only g xs))) e ∙ ih
      go false true e ih = ih
      go false false e ih = ih

-- ---- GETNEXT and GETPREVIOUS "give the nearest key on that side that a usable READ scope fits, NOT_FOUND if none"

module _ (s : State) (a : access.Acl) (b : Body) (v : List ℕ) (sorted : Sorted (entries s)) where
  pub next-shown : (e : Entry) → Next (λ x. permits a s.connection.protected READ x.key) (key_value_in b).key (entries s) e
      → step10 s a GetNext b v ≡ shown s (key_value_in b).metadata_only (some e)
  unfolding visible
  next-shown e n = ap (shown s (key_value_in b).metadata_only) (next-exactly _ (key_value_in b).key (entries s) sorted e n)

  pub next-missing : NoneFits Upwards (λ x. permits a s.connection.protected READ x.key) (key_value_in b).key (entries s) → step10 s a GetNext b v ≡ fails s NOT_FOUND
  unfolding visible
  next-missing n = ap (shown s (key_value_in b).metadata_only) (none-next _ (key_value_in b).key (entries s) sorted n)

  pub previous-shown : (e : Entry) → Previous (λ x. permits a s.connection.protected READ x.key) (key_value_in b).key (entries s) e
      → step10 s a GetPrevious b v ≡ shown s (key_value_in b).metadata_only (some e)
  unfolding visible
  previous-shown e n = ap (shown s (key_value_in b).metadata_only) (previous-exactly _ (key_value_in b).key (entries s) sorted e n)

  pub previous-missing : NoneFits Downwards (λ x. permits a s.connection.protected READ x.key) (key_value_in b).key (entries s) → step10 s a GetPrevious b v ≡ fails s NOT_FOUND
  unfolding visible
  previous-missing n = ap (shown s (key_value_in b).metadata_only) (none-previous _ (key_value_in b).key (entries s) sorted n)

-- ---- GETKEYRANGE: "lists only keys that a usable RANGE scope fits, and maxReturned counts after that"

either : {u : Bool} (t : Bool) → u ≡ true → (t || u) ≡ true
either true h = refl
either false h = h

abbrev keys : List Entry → List (List ℕ)
keys es = map_l (λ (e : Entry). e.key) es

module _ (P : List ℕ → Bool) where
  abbrev passing : List Entry → List Entry
  passing es = only (λ (e : Entry). P e.key) es

  keys-pass : (es : List Entry) → all P (keys (passing es)) ≡ true
  unfolding all map_l only
  keys-pass [] = refl
  keys-pass (x ∷ xs) = go (P x.key) refl (keys-pass xs)
    where
      go : (b : Bool) → P x.key ≡ b → all P (keys (passing xs)) ≡ true → all P (keys (cond b (x ∷ passing xs) (passing xs))) ≡ true
      go true p ih = ap (λ (t : Bool). t && all P (keys (passing xs))) p ∙ ih
      go false p ih = ih

  keys-have : (es : List Entry) (e : Entry) → under e.key es ≡ some e → P e.key ≡ true → any (same_bytes e.key) (keys (passing es)) ≡ true
  unfolding any map_l only under
  keys-have [] e u p = never (cc)
  keys-have (x ∷ xs) e u p =
      let ih = keys-have xs e in
      by-order e.key x.key
      (λ o. let z = sym (is-less _ none (some x) (under e.key xs) o) ∙ u in never (cc))
      (λ o. let z = sym (is-equal _ none (some x) (under e.key xs) o) ∙ u in let w : x ≡ e = cc in own (P x.key) (ap (λ (y : Entry). P y.key) w ∙ p) w)
      (λ o. later (P x.key) (ih (sym (is_greater _ none (some x) (under e.key xs) o) ∙ u) p))
    where
      own : (b : Bool) → b ≡ true → x ≡ e → any (same_bytes e.key) (keys (cond b (x ∷ passing xs) (passing xs))) ≡ true
      own true q w = ap (λ (t : Bool). t || any (same_bytes e.key) (keys (passing xs))) (ap (λ (y : Entry). same_bytes e.key y.key) w ∙ same_bytes-self e.key)
      own false q w = never (cc)

      later : (b : Bool) → any (same_bytes e.key) (keys (passing xs)) ≡ true → any (same_bytes e.key) (keys (cond b (x ∷ passing xs) (passing xs))) ≡ true
      later true h = either (same_bytes e.key x.key) h
      later false h = h

module _ (r : Range) (a : access.Acl) (w : Bool) (p : ℕ) (es : List Entry) where
  -- THE LIMIT COUNTS AFTERWARDS: of all keys that are in range and that one scope fits, in either order, the first maxReturned
  pub limit-after : (let ks = map_l (λ (e : Entry). e.key) (only (λ (e : Entry). in_range r e.key && permits a w p e.key) es) in
      keys_of r (visible a w p es) ≡ take r.max_returned (cond r.reverse (reverse ks) ks))
  unfolding keys_of keys_in visible
  limit-after =
      ap (λ (l : List Entry). let ks = map_l (λ (e : Entry). e.key) l in take r.max_returned (cond r.reverse (reverse ks) ks))
      (only-both (λ e. in_range r e.key) (λ e. permits a w p e.key) es)

  abbrev wanted : List ℕ → Bool
  wanted k = in_range r k && permits a w p k

  abbrev every : List (List ℕ)
  every = keys (passing wanted es)

  -- every key listed is in range, and one scope fits it
  pub range-fits : all (λ k. in_range r k && permits a w p k) (keys_of r (visible a w p es)) ≡ true
  unfolding all
  range-fits = ap (all wanted) limit-after ∙ all_take wanted r.max_returned (cond r.reverse (reverse every) every) (go r.reverse)
    where
      go : (b : Bool) → all wanted (cond b (reverse every) every) ≡ true
      go true = all-reverse wanted every [] (ap (λ (t : Bool). t && true) (keys-pass wanted es))
      go false = keys-pass wanted es

  -- and where fewer than maxReturned are listed, every such key is
  pub range_all : length (keys_of r (visible a w p es)) < r.max_returned → (x : Entry) → under x.key es ≡ some x → in_range r x.key ≡ true
      → permits a w p x.key ≡ true → any (same_bytes x.key) (keys_of r (visible a w p es)) ≡ true
  unfolding any
  range_all h x u i g =
      let All-there = cond r.reverse (reverse every) every in
      let short : length All-there ≤ r.max_returned = omega (arith, ap length limit-after, length-take r.max_returned All-there) in
      ap (any (same_bytes x.key)) (limit-after ∙ take_all r.max_returned All-there short) ∙ go r.reverse
    where
      have : any (same_bytes x.key) every ≡ true
      have = keys-have wanted es x u (ap (λ (t : Bool). t && permits a w p x.key) i ∙ g)

      go : (b : Bool) → any (same_bytes x.key) (cond b (reverse every) every) ≡ true
      go true = any-reverse (same_bytes x.key) every [] (ap (λ (t : Bool). t || false) have)
      go false = have

-- and so it is in what GETKEYRANGE shows
pub range_listed : (s : State) (a : access.Acl) (b : Body) (v : List ℕ) → (let r = range_in b in
    let ks = map_l (λ (e : Entry). e.key) (only (λ (e : Entry). in_range r e.key && permits a s.connection.protected RANGE e.key) (entries s)) in
    step10 s a GetKeyRange b v ≡ succeeds s (range (take r.max_returned (cond r.reverse (reverse ks) ks))) [])
range_listed s a b v = ap (λ l. succeeds s (range l) []) (limit-after (range_in b) a s.connection.protected RANGE (entries s))

-- ---- ONE SINGLE SCOPE makes an entry visible: it holds the permission, allows the connection and fits the key

module _ (a : access.Acl) (w : Bool) (p : ℕ) (es : List Entry) (s : Sorted es) where
  pub one-scope : (k : List ℕ) (e : Entry) → under k (visible a w p es) ≡ some e → (under k es ≡ some e) × Granted a w p k
  unfolding visible
  one-scope k e h =
      let u = only_under (λ e. permits a w p e.key) k es e s h in
      (u.0, granted a w p k (ap (permits a w p) (sym (under_at k es e u.0).3) ∙ u.1))

  pub scope-visible : (k : List ℕ) (e : Entry) → under k es ≡ some e → Granted a w p k → under k (visible a w p es) ≡ some e
  unfolding visible
  scope-visible k e u g =
      under-only (λ e. permits a w p e.key) k es e s u (ap (permits a w p) (under_at k es e u).3 ∙ granting a w p k g)

  pub one-scope-next : (k : List ℕ) (e : Entry) → next_of k (visible a w p es) ≡ some e → Granted a w p e.key
  unfolding visible
  one-scope-next k e h = granted a w p e.key (next-nearest (λ e. permits a w p e.key) k es s e h).fits

  pub one-scope-previous : (k : List ℕ) (e : Entry) → previous_of k (visible a w p es) ≡ some e → Granted a w p e.key
  unfolding visible
  one-scope-previous k e h = granted a w p e.key (previous-nearest (λ e. permits a w p e.key) k es s e h).fits

-- ---- THE OTHERS DO NOT COUNT: two stores that agree under every key that a usable scope fits show the same

-- the same but for the state
record Alike (x y : Result) : Type 0 where
  code : x.code ≡ y.code
  body : x.body ≡ y.body
  value : x.value ≡ y.value

shown-alike : (s t : State) (m : Bool) {x y : Option Entry} → x ≡ y → Alike (shown s m x) (shown t m y)
shown-alike s t m {x} e = subst (λ y. Alike (shown s m x) (shown t m y)) e (go x)
  where
    go : (o : Option Entry) → Alike (shown s m o) (shown t m o)
    go none = record { code = refl; body = refl; value = refl }
    go (some x) = record { code = refl; body = refl; value = refl }

module _ (a : access.Acl) (s t : State) (c : s.connection ≡ t.connection) (hs : Sorted (entries s)) (ht : Sorted (entries t)) where
  pub visible-same : (p : ℕ) → ((k : List ℕ) → permits a s.connection.protected p k ≡ true → under k (entries s) ≡ under k (entries t)) → visible_in s a p ≡ visible_in t a p
  unfolding visible
  visible-same p agree =
      only_same (permits a s.connection.protected p) (entries s) (entries t) hs ht agree ∙ ap (λ d. visible a d.protected p (entries t)) c

  alike : {n : ℕ} {o : Operation} {p : ℕ} → Three n o p → visible_in s a p ≡ visible_in t a p → (b : Body) (v : List ℕ) → Alike (step10 s a o b v) (step10 t a o b v)
  alike next e b v = shown-alike s t (key_value_in b).metadata_only (ap (next_of (key_value_in b).key) e)
  alike previous e b v = shown-alike s t (key_value_in b).metadata_only (ap (previous_of (key_value_in b).key) e)
  alike key_range e b v = record { code = refl; body = ap (λ l. range (keys_of (range_in b) l)) e; value = refl }

  pub blind : (n : ℕ) (o : Operation) (p : ℕ) → Three n o p
      → ((k : List ℕ) → permits a s.connection.protected p k ≡ true → under k (entries s) ≡ under k (entries t))
      → (b : Body) (v : List ℕ)
      → ((step10 s a o b v).code ≡ (step10 t a o b v).code) × ((step10 s a o b v).body ≡ (step10 t a o b v).body) × ((step10 s a o b v).value ≡ (step10 t a o b v).value)
  blind n o p h agree b v = let r = alike h (visible-same p agree) b v in (r.code, r.body, r.value)

-- ---- NOT_AUTHORIZED: "exactly when the identity has no scope with the permission that this connection may use"

asked-three : {n : ℕ} {o : Operation} {p : ℕ} → Three n o p → asked n ≡ Some (record { operation = o; permission = Any p; reply_type = n - 1 })
unfolding asked asked_in
asked-three next = refl
asked-three previous = refl
asked-three key_range = refl

shown-code : (s : State) (m : Bool) (o : Option Entry) → (shown s m o).code ≡ NOT_AUTHORIZED → ⊥
shown-code s m none e = omega arith
shown-code s m (some x) e = omega arith

three-code : {n : ℕ} {o : Operation} {p : ℕ} → Three n o p → (s : State) (a : access.Acl) (b : Body) (v : List ℕ) → (step10 s a o b v).code ≡ NOT_AUTHORIZED → ⊥
three-code next s a b v e = shown-code s (key_value_in b).metadata_only (next_of (key_value_in b).key (visible_in s a READ)) e
three-code previous s a b v e = shown-code s (key_value_in b).metadata_only (previous_of (key_value_in b).key (visible_in s a READ)) e
three-code key_range s a b v e = omega arith

module _ (s : State) (a : access.Acl) (c : Command) (v : List ℕ) where
  module _ (q : ℕ) (passes : Passes s c q) (n : ℕ) (o : Operation) (p : ℕ) (three : Three n o p) (type : passes.header.message_type ≡ some n)
      (good : fault o c.body v ≡ 0) where
    -- past step 8 the scopes alone decide whether the operation is reached
    pub three-judged : judge s a c v
        ≡ cond (permits_any a s.connection.protected p) (step10 (accepted s q) a o c.body v) (fails (accepted s q) NOT_AUTHORIZED)
    three-judged =
        passed_on s a c v q passes ∙ ap (λ m. onwards s a c v q (asked_by m)) type ∙ ap (onwards s a c v q) (asked-three three)
        ∙ ap (λ (x : ℕ). cond (eqb x 0) (step9 (accepted s q) a (Any p) c.body (step10 (accepted s q) a o c.body v)) (fails (accepted s q) x)) good

    pub three-authorized : ((judge s a c v).code ≡ NOT_AUTHORIZED → permits_any a s.connection.protected p ≡ false)
        × (permits_any a s.connection.protected p ≡ false → (judge s a c v).code ≡ NOT_AUTHORIZED)
    three-authorized = (
      (λ e. go (permits_any a s.connection.protected p) (sym (ap (λ r. r.code) three-judged) ∙ e)),
      (λ e. ap (λ r. r.code) three-judged ∙ ap (λ (t : Bool). (cond t (step10 (accepted s q) a o c.body v) (fails (accepted s q) NOT_AUTHORIZED)).code) e),
    )
      where
        go : (t : Bool) → (cond t (step10 (accepted s q) a o c.body v) (fails (accepted s q) NOT_AUTHORIZED)).code ≡ NOT_AUTHORIZED → t ≡ false
        go true e = absurd (three-code three (accepted s q) a c.body v e)
        go false e = refl

  -- a range without a key is a success: GETKEYRANGE never gives NOT_FOUND
  pub range-never-missing : (h : Header) → c.header ≡ some h → h.message_type ≡ some GETKEYRANGE → (judge s a c v).code ≡ NOT_FOUND → ⊥
  unfolding judge
  range-never-missing h there type e =
      both-there h.connection_id h.sequence
      (sym (ap (λ o. (step4 s o (λ h connection q. step5 s h (step6 s connection q (onwards s a c v q (asked_by h.message_type))))).code) there) ∙ e)
    where
      late : (x y : Bool) (q : ℕ)
          → (cond (eqb (broken x) 0) (cond y (step10 (accepted s q) a GetKeyRange c.body v) (fails (accepted s q) NOT_AUTHORIZED)) (fails (accepted s q) (broken x))).code ≡ NOT_FOUND → ⊥
      late true true q e = omega arith
      late true false q e = omega arith
      late false y q e = omega arith

      early : (x y : Bool) (q : ℕ) → (cond x (cond y (onwards s a c v q (asked_by h.message_type)) (fails s INVALID_REQUEST)) (fails s VERSION_FAILURE)).code ≡ NOT_FOUND → ⊥
      early true true q e =
          late (is_empty v && present range_good c.body.range) (permits_any a s.connection.protected RANGE) q
          (sym (ap (λ o. (onwards s a c v q o).code) (ap asked_by type ∙ asked-three key_range)) ∙ e)
      early true false q e = omega arith
      early false y q e = omega arith

      both-there : (i q : Option ℕ) → (both_there s h i q (λ h connection q. step5 s h (step6 s connection q (onwards s a c v q (asked_by h.message_type))))).code ≡ NOT_FOUND → ⊥
      both-there (some i) (some q) e = early (eqb h.cluster_version (table s).cluster_version) (eqb i s.connection.number && above_last q s.connection.last) q e
      both-there (some i) none e = omega arith
      both-there none q e = omega arith
