-- One law for each level.
use Prim.Native.Nat.{ℕ, ◌+◌, ◌≤◌, ◌<◌}
use native.Mathlib.Omega.{arith}
use mathlib.Core.Path.{◌≡◌, refl, sym, ap, subst, ◌∙◌}
use mathlib.Core.List.{List, [], ◌∷◌}
use mathlib.Core.Option.{Option, none, some}
use mathlib.Core.Bool.{Bool, true, false, cond}
use lib.Dec.{leb, ltb}
use lib.ListN.{length, length-append}
use borrow.Author.Tests.{leb-true, le-leb, lt-leb, lt-ltb}
use Rattle.fields_schema.specs.Tree.{map_o, then_o, guard, is_some, listed, Tree, done, join, sub_at, tree_in, subs_at}
use Rattle.fields_schema.specs.Merged.{joined, is_cons}
use Rattle.fields_schema.proofs.MergedLaws.{sub-join, sub_in, subs-join, sub-some}
use Rattle.fields_schema.proofs.OptionLaws.{none_of}
use Rattle.fields_schema.specs.declared.Kind.{Kind}
use Rattle.fields_schema.specs.declared.Kind.TheVariants as k
use Rattle.base_definitions.specs.Options.{or_else}
use Rattle.fields_lookup.specs.Views.{Reads, tree_of, bytes_at, signed_view, part_view, no_part, Lies, After, Merges, Sub}
use Rattle.fields_lookup.proofs.LevelLaws.{tree_is}
use Rattle.fields_later.specs.LaterLaws.{signed-later, later-is}
use Rattle.std.specs.Prelude.{ℤ}
use Rattle.std.specs.Prelude as std
use Rattle.std.specs.Option.{option_or}
use Rattle.fields_lookup.specs.declared.parts.Part.{Part}
use Rattle.fields_lookup.proofs.Slotted.{sub-view, nil-at, nil-reads}
use Rattle.protocol.specs.Command as c
use Rattle.protocol.specs.Command.{no_body, header_of, key_value_of, range_of, setup_of, types_of, security_of, body_of, command_of}
use Rattle.protocol.specs.Judge.{no_key_value}
use Rattle.protocol.specs.Reading.{security_once, sent_once, decodes}
use Rattle.request_parts.specs.Views.{header_view, key_value_view, range_view, HeaderIs, KeyValueIs, RangeIs}
use Rattle.request_parts.proofs.ViewLaws.{header-view, key-value-view, range-view}
use Rattle.request_merged.specs.Setups.{SetupIs}
use Rattle.request_merged.specs.Types.{log_types}
use Rattle.request_command.specs.Views.{body_view, request_view, BodyIs, BodyLies, capped, CountIs}
use Rattle.request_parts.specs.declared.Header.{Header}
use Rattle.request_parts.specs.declared.KeyValue.{KeyValue}
use Rattle.request_parts.specs.declared.Range.{Range}
use Rattle.request_command.specs.declared.Body.{Body}
use Rattle.request_command.specs.declared.Request.{Request}

never : {A : Type 0} {b : Bool} → b ≡ true → b ≡ false → A
never p q = let z : ◌≡◌ {A = ℕ} 0 1 = cc (p, q) in absurd (omega arith)

-- the messages of a number: whether there are some, and what they say
part-view : {A : Type 0} (f : Tree → A) (o : Option Tree) (b : Bool) (x : A) → b ≡ is_some o → x ≡ f (tree_in o) → guard b x ≡ map_o f o
part-view f o b x e q = ap (λ b. guard b x) e ∙ ap (guard (is_some o)) q ∙ go o
  where
    go : (o : Option Tree) → guard (is_some o) (f (tree_in o)) ≡ map_o f o
    go none = refl
    go (some t) = refl

-- their bytes, which are empty where there are none: those of their part
bytes-there : {A : Type 0} (f : Tree → A) (z : A) (g : A → List ℕ) → g (f done) ≡ g z
    → (o : Option Tree) (b : Bool) (x : A) (s : List ℕ) (p : Part) → b ≡ is_some o → x ≡ f (tree_in o) → Lies s p → g x ≡ or_else [] (part_view s p)
    → g (or_else z (guard b x)) ≡ bytes_at s p
bytes-there f z g n o b x s p e w l q =
    ap (λ v. g (or_else z v)) (part-view f o b x e w) ∙ go o ∙ sym (ap g w) ∙ q ∙ whole (part_view s p) l.empty
  where
    go : (o : Option Tree) → g (or_else z (map_o f o)) ≡ g (f (tree_in o))
    go none = sym n
    go (some t) = refl

    whole : (o : Option (List ℕ)) → bytes_at s p ≡ or_else [] o → or_else [] o ≡ bytes_at s p
    whole none e = sym e
    whole (some b) e = sym e

-- a body ---------------------------------------------------------------------------------------------
module _ (s : List ℕ) (u : Tree) (b : Body) (h : BodyIs s u b) where
  pub body-law : length (subs_at 7 u) ≤ 1 → log_types s ≡ types_of (tree_in (sub_at 6 u)) → body_view s b ≡ body_of u
  body-law l q =
      let e1 = part-view key_value_of (sub_at 1 u) b.keyed (key_value_view s b.entry) h.keyed (key-value-view h.entry) in
      let e2 = part-view range_of (sub_at 2 u) b.ranged (range_view s b.range) h.ranged (range-view h.range) in
      let e3 = part-view setup_of (sub_at 3 u) b.changed (signed_view b.cluster) h.changed h.cluster in
      let e6 = part-view types_of (sub_at 6 u) b.logged (log_types s) h.logged q in
      let e7 = sub-view security_of (security_of (tree_of k.Security (bytes_at s b.security))) (h.security l) refl in
      λ i. record { key_value = e1 i; range = e2 i; setup = e3 i; get_log = e6 i; security = e7 i }

  pub body-lies : (b.logged ≡ true → Reads k.Command s) → BodyLies s b
  body-lies g = record {
    entry = h.entry.lies;
    range = h.range.lies;
    log = g;
    security = h.lies;
    reads = h.reads;
    key = bytes-there key_value_of no_key_value (λ v. v.key) refl (sub_at 1 u) b.keyed (key_value_view s b.entry) s b.entry.key h.keyed (key-value-view h.entry) h.entry.lies.key refl;
  }

pub no-lies : (s : List ℕ) (b : Body) → BodyIs s done b → BodyLies s b
no-lies s b h = body-lies s done b h (λ e. never e h.logged)

-- one body after others --------------------------------------------------------------------------------
some-joined : (x y : Option Tree) → is_some (joined x y) ≡ cond (is_some x) true (is_some y)
some-joined none y = refl
some-joined (some s) none = refl
some-joined (some s) (some u) = refl

there-join : (n : ℕ) (t u : Tree) (x y r : Bool) → x ≡ is_some (sub_at n t) → y ≡ is_some (sub_at n u) → r ≡ cond x true y → r ≡ is_some (sub_at n (join t u))
there-join n t u x y r e f g =
    g ∙ ap (λ b. cond b true y) e ∙ ap (cond (is_some (sub_at n t)) true) f ∙ sym (ap is_some (sub-join n t u) ∙ some-joined (sub_at n t) (sub_at n u))

cons-length : {A : Type 0} (l : List A) → is_cons l ≡ true → 1 ≤ length l
cons-length [] e = never e refl
cons-length (x ∷ l) e = omega arith

nil-cons : {A : Type 0} (l : List A) → length l ≤ 0 → is_cons l ≡ false
nil-cons [] h = refl
nil-cons (x ∷ l) h = absurd (omega arith)

joined-none : (x : Option Tree) → joined x none ≡ x
joined-none none = refl
joined-none (some s) = refl

join-length : (t u : Tree) → length (subs_at 7 (join t u)) ≡ length (subs_at 7 t) + length (subs_at 7 u)
join-length t u = ap length (subs-join 7 t u) ∙ length-append (subs_at 7 t) (subs_at 7 u)

module _ (s : List ℕ) (t u : Tree) (a e : Part) (x : length (subs_at 7 t) ≤ 1 → Sub k.Security s a (sub_at 7 t)) (y : length (subs_at 7 u) ≤ 1 → Sub k.Security s e (sub_at 7 u)) where
  secure-join : length (subs_at 7 (join t u)) ≤ 1 → Sub k.Security s (cond e.has e a) (sub_at 7 (join t u))
  secure-join l = go e.has refl
    where
      after : Sub k.Security s e (sub_at 7 u)
      after = y (omega (arith, join-length t u))

      go : (b : Bool) → e.has ≡ b → Sub k.Security s (cond b e a) (sub_at 7 (join t u))
      go true q =
          let i : 1 ≤ length (subs_at 7 u) = cons-length (subs_at 7 u) (sym (sub-some 7 u) ∙ sym after.here ∙ q) in
          let n : sub_at 7 t ≡ none = none_of (sub_at 7 t) (sub-some 7 t ∙ nil-cons (subs_at 7 t) (omega (arith, join-length t u))) in
          subst (λ (o : Option Tree). Sub k.Security s e o) (sym (sub-join 7 t u ∙ ap (λ o. joined o (sub_at 7 u)) n)) after
      go false q =
          let n : sub_at 7 u ≡ none = none_of (sub_at 7 u) (sym after.here ∙ q) in
          subst (λ (o : Option Tree). Sub k.Security s a o) (sym (sub-join 7 t u ∙ ap (joined (sub_at 7 t)) n ∙ joined-none (sub_at 7 t))) (x (omega (arith, join-length t u)))

has-later : (e a : Part) → (cond e.has e a).has ≡ cond a.has true e.has
has-later e a = go e.has a.has refl
  where
    go : (x y : Bool) → e.has ≡ x → (cond x e a).has ≡ cond a.has true x
    go true y q = q ∙ sym (either a.has)
      where
        either : (b : Bool) → cond b true true ≡ true
        either true = refl
        either false = refl
    go false y q = same a.has
      where
        same : (b : Bool) → b ≡ cond b true false
        same true = refl
        same false = refl

pub bodies-law : (s : List ℕ) (b a : Body) (k1 k2 k3 k6 : Bool) (x : KeyValue) (y : Range) (w : std.Option ℤ) (q : Part)
    → k1 ≡ cond b.keyed true a.keyed → k2 ≡ cond b.ranged true a.ranged → k3 ≡ cond b.changed true a.changed → k6 ≡ cond b.logged true a.logged
    → Merges (KeyValueIs s) b.entry a.entry x → Merges (RangeIs s) b.range a.range y → w ≡ option_or a.cluster b.cluster → q ≡ cond a.security.has a.security b.security
    → Merges (BodyIs s) b a (record { keyed = k1; entry = x; ranged = k2; range = y; changed = k3; cluster = w; logged = k6; security = q })
bodies-law s b a k1 k2 k3 k6 x y w q e1 e2 e3 e6 f1 f2 f3 f7 t u h g = record {
  keyed = there-join 1 t u b.keyed a.keyed k1 h.keyed g.keyed e1;
  entry = subst (λ (v : Tree). KeyValueIs s v x) (sym (sub_in 1 t u)) (f1 (tree_in (sub_at 1 t)) (tree_in (sub_at 1 u)) h.entry g.entry);
  ranged = there-join 2 t u b.ranged a.ranged k2 h.ranged g.ranged e2;
  range = subst (λ (v : Tree). RangeIs s v y) (sym (sub_in 2 t u)) (f2 (tree_in (sub_at 2 t)) (tree_in (sub_at 2 u)) h.range g.range);
  changed = there-join 3 t u b.changed a.changed k3 h.changed g.changed e3;
  cluster = subst (λ (v : Tree). SetupIs v w) (sym (sub_in 3 t u)) (signed-later 1 (tree_in (sub_at 3 t)) (tree_in (sub_at 3 u)) b.cluster a.cluster w f3 h.cluster g.cluster);
  logged = there-join 6 t u b.logged a.logged k6 h.logged g.logged e6;
  secured = there-join 7 t u b.security.has a.security.has q.has h.secured g.secured (ap (λ (p : Part). p.has) f7 ∙ has-later a.security b.security);
  lies = later-is (λ (p : Part). Lies s p) a.security.has b.security a.security q f7 h.lies g.lies;
  reads = later-is (λ (p : Part). Reads k.Security (bytes_at s p)) a.security.has b.security a.security q f7 h.reads g.reads;
  security = λ m. subst (λ (p : Part). Sub k.Security s p (sub_at 7 (join t u))) (sym f7) (secure-join s t u b.security a.security h.security g.security m);
}

-- how many securities ------------------------------------------------------------------------------------
few : (n : ℕ) → n ≤ 1 → capped n ≡ n
few n h = ap (λ b. cond b n 2) (le-leb n 1 h)

many : (n : ℕ) → 1 < n → capped n ≡ 2
many n h = ap (λ b. cond b n 2) (lt-leb n 1 h)

pub capped-test : (n : ℕ) → ltb (capped n) 2 ≡ leb n 1
capped-test n = go (leb n 1) refl
  where
    go : (b : Bool) → leb n 1 ≡ b → ltb (cond b n 2) 2 ≡ b
    go true e = let l : n ≤ 1 = leb-true n 1 e in lt-ltb n 2 (omega arith)
    go false e = refl

module _ (u : Tree) (e : Part) (y : e.has ≡ is_some (sub_at 7 u)) (l : length (subs_at 7 u) ≤ 1) (n : ℕ) where
  some-here : is_cons (subs_at 7 u) ≡ e.has
  some-here = sym (y ∙ sub-some 7 u)

  pub count_none : e.has ≡ false → After CountIs n n u
  count_none q t h = h ∙ ap capped (sym (join-length t u ∙ ap (λ j. length (subs_at 7 t) + j) (zero (subs_at 7 u) (some-here ∙ q)) ∙ plus (length (subs_at 7 t))))
    where
      zero : (l : List Tree) → is_cons l ≡ false → length l ≡ 0
      zero [] e = refl
      zero (x ∷ l) e = never refl e

      plus : (m : ℕ) → m + 0 ≡ m
      plus m = omega arith

  module _ (q : e.has ≡ true) where
    one : length (subs_at 7 u) ≡ 1
    one = let i = cons-length (subs_at 7 u) (some-here ∙ q) in omega arith

    pub count-first : n ≡ 0 → After CountIs n 1 u
    count-first z t h = go (leb (length (subs_at 7 t)) 1) refl (sym h ∙ z)
      where
        go : (b : Bool) → leb (length (subs_at 7 t)) 1 ≡ b → cond b (length (subs_at 7 t)) 2 ≡ 0 → 1 ≡ capped (length (subs_at 7 (join t u)))
        go true e f = ap capped (sym (let w : length (subs_at 7 (join t u)) ≡ 1 = omega (arith, join-length t u, one) in w))
        go false e f = absurd (omega arith)

    pub count-more : (n ≡ 0 → ⊥) → After CountIs n 2 u
    count-more z t h = sym (many (length (subs_at 7 (join t u))) (omega (arith, join-length t u, one, positive (length (subs_at 7 t)) (λ w. z (h ∙ ap capped w)))))
      where
        positive : (m : ℕ) → (m ≡ 0 → ⊥) → 0 < m
        positive m f = omega (arith, f)

pub once-test : (t : Tree) (n : ℕ) → n ≡ capped (length (subs_at 7 (tree_in (sub_at 2 t)))) → ltb n 2 ≡ security_once t
unfolding security_once
once-test t n e = ap (λ n. ltb n 2) e ∙ capped-test (length (subs_at 7 (tree_in (sub_at 2 t))))

pub once-one : (t : Tree) → length (subs_at 7 (tree_in (sub_at 2 t))) ≤ 1 → true ≡ security_once t
unfolding security_once
once-one t l = sym (le-leb (length (subs_at 7 (tree_in (sub_at 2 t)))) 1 l)

pub none-once : (t : Tree) → is_some (sub_at 7 t) ≡ false → length (subs_at 7 t) ≤ 1
none-once t e = go (subs_at 7 t) (sym (sub-some 7 t) ∙ e)
  where
    go : (l : List Tree) → is_cons l ≡ false → length l ≤ 1
    go [] f = omega arith
    go (x ∷ l) f = never refl f

-- the command ----------------------------------------------------------------------------------------------
-- where there is no body, the empty one says the same
body-there : (o : Option Tree) → body_of (tree_in o) ≡ or_else no_body (map_o body_of o)
body-there none = refl
body-there (some t) = refl

types-of : (s m : List ℕ) → m ≡ s → log_types s ≡ types_of (tree_in (sub_at 6 (tree_in (sub_at 2 (tree_of k.Command m)))))
unfolding log_types
types-of s m e = ap (λ m. types_of (tree_in (sub_at 6 (tree_in (sub_at 2 (tree_of k.Command m)))))) (sym e)

module _ (s m : List ℕ) (e : m ≡ s) (y : Reads k.Command m) (a : Part) (x : Header) (w : Body) where
  abbrev command : Tree
  command = tree_of k.Command m

  module _ (p : a.has ≡ is_some (sub_at 1 command)) (q : HeaderIs (tree_in (sub_at 1 command)) x) (h : BodyIs s (tree_in (sub_at 2 command)) w) where
    at_most : security_once command ≡ true → length (subs_at 7 (tree_in (sub_at 2 command))) ≤ 1
    unfolding security_once
    at_most z = leb-true (length (subs_at 7 (tree_in (sub_at 2 command)))) 1 z

    same : security_once command ≡ true → ◌≡◌ {A = c.Command} (record { header = guard a.has (header_view x); body = body_view s w }) (command_of command)
    same z =
        let f = part-view header_of (sub_at 1 command) a.has (header_view x) p (header-view q) in
        let g = body-law s (tree_in (sub_at 2 command)) w h (at_most z) (types-of s m e) ∙ body-there (sub_at 2 command) in
        λ i. record { header = f i; body = g i }

    pub command-law : (ok : Bool) → ok ≡ security_once command → request_view s (record { ok = ok; headed = a.has; header = x; body = w }) ≡ map_o command_of (decodes s)
    command-law ok z =
        ap (λ b. guard b (record { header = guard a.has (header_view x); body = body_view s w })) z
        ∙ go (security_once command) refl
        ∙ sym (ap (λ o. map_o command_of (then_o o (λ t. sent_once t))) (tree_is k.Command m y))
        ∙ ap (λ m. map_o command_of (decodes m)) e
      where
        go : (b : Bool) → security_once command ≡ b → guard b (record { header = guard a.has (header_view x); body = body_view s w }) ≡ map_o command_of (guard b command)
        go true r = ap some (same r)
        go false r = refl

pub unread : (s : List ℕ) (r : Request) → r.ok ≡ false → is_some (listed k.Command s) ≡ false → request_view s r ≡ map_o command_of (decodes s)
unread s r e = go (listed k.Command s)
  where
    go : (o : Option Tree) → is_some o ≡ false → request_view s r ≡ map_o command_of (then_o o (λ t. sent_once t))
    go none f = rw e refl
    go (some t) f = never refl f

pub no_reads : (k : Kind) (s : List ℕ) → Reads k (bytes_at s no_part)
no_reads k s = ap (λ m. is_some (listed k m)) (nil-at s) ∙ ap is_some (nil-reads k)
