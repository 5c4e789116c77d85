-- What was acknowledged is there.
use Rattle.std.specs.Prelude.{ℕ, ◌≡◌, refl, Bool, true, false, cond, ◌||◌, List, [], Result as StdResult, Ok, Err}
use Rattle.std.proofs.Common.{sym, ap, ◌∙◌, subst}
use Rattle.std.proofs.Math.Option.{Option, none, some}
use Rattle.fields_schema.specs.Tree.{Tree}
use Rattle.fields_encoding.proofs.BasicLaws.{never}
use Rattle.base_definitions.specs.Lists.{same_bytes}
use Rattle.base_definitions.proofs.ListLaws.{same_bytes-true}
use Rattle.store_block.specs.Order.{cmp}
use Rattle.store_block.specs.OrderLaws.{cmp-refl}
use Rattle.store_block.specs.Entry.{Entry}
use Rattle.store_layout.specs.Store.{entries_of, store_good}
use Rattle.store_layout.specs.Lookup.{under}
use Rattle.store_layout.proofs.LookupLaws.{find_at, find-gap, put_under, remove-under}
use Rattle.store_layout.proofs.KeptLaws.{put-kept, delete-kept}
use Rattle.store_layout.specs.Entries.{by_order, find_in}
use Rattle.store_local_read.specs.Local.{not_found, local_of, part_of}
use Rattle.store_local_read.proofs.LocalLaws.{local-found, local-missing}
use Rattle.protocol.specs.declared.Operation.{Operation}
use Rattle.protocol.specs.declared.Operation.TheVariants.{Get, Put, Delete}
use Rattle.protocol.specs.StatusCode.{SUCCESS, NOT_FOUND}
use Rattle.protocol.specs.State.{State, entries, accepted}
use Rattle.protocol.specs.Command.{KeyValue, command_of}
use Rattle.protocol.specs.Judge.{ReplyBody, bare, key_value, Result, fault, entry_at, entry_of, shown, version_of, new_entry, permitted, step10, judge}
use Rattle.protocol_guarantees.specs.Answered.{Asks, key_value_sent, Answered, Admitted, Replies}
use Rattle.protocol_guarantees.specs.Later.{Spared}
use Rattle.protocol_guarantees.specs.Cases.{Effect, refuses, shows, puts, misses, deletes, Judged, before, after, obeyed}
use Rattle.protocol_guarantees.proofs.CasesLaws.{step10-effect, judge-cases, judge-obeys}
use Rattle.protocol_guarantees.proofs.AnsweredLaws.{came, result, one-operation}
use Rattle.protocol_guarantees.proofs.UnchangedLaws.{spared-stays}

-- the entry that a request finds is the one under the key
entry-under : (s : State) (k : List ℕ) → entry_of s k ≡ under k (entries s)
entry-under s k = go (find_in k (entries s)) refl
  where
    go : (o : StdResult ℕ ℕ) → find_in k (entries s) ≡ o → entry_at s o ≡ under k (entries s)
    go (Ok i) q = sym (find_at k (entries s) i q)
    go (Err i) q = sym (find-gap k (entries s) i q)

-- ---- what an acknowledged PUT and DELETE leave

own_key : {X : Type 0} (k : List ℕ) (a b : X) → by_order (cmp k k) a b a ≡ b
unfolding by_order
own_key k a b = ap (λ o. by_order o a b a) (cmp-refl k)

module _ {s : State} {t : Tree} {v r : List ℕ} {s' : State} (a : Answered s t v r s') {b : ReplyBody} {x : List ℕ} (ok : Replies r SUCCESS b x) where
  abbrev sent : KeyValue
  sent = key_value_sent t

  -- what holds of every way that step 10 of the operation can succeed
  by-success : (o : Operation) (P : Result → Type 0) → Asks t o
      → ((q : ℕ) (y : Result) → Effect (accepted s q) (command_of t).body v o y → y.code ≡ SUCCESS → P y)
      → P (judge s (came a).acl (command_of t) v)
  by-success o P asks f = go (judge s (came a).acl (command_of t) v) (judge-cases s (came a).acl (command_of t) v) (result a ok)
    where
      go : (y : Result) → Judged s (came a).acl (command_of t) v y → y.code ≡ SUCCESS → P y
      go y (before n k) z = absurd (n z)
      go y (after w n k) z = absurd (n z)
      go y (obeyed {q = q} {x = x} w e g m) z =
          let p = x.operation in
          let i : p ≡ o = one-operation e asks in
          f q (step10 (accepted s q) (came a).acl p (command_of t).body v)
          (subst (λ o. Effect (accepted s q) (command_of t).body v o (step10 (accepted s q) (came a).acl p (command_of t).body v)) i (step10-effect (accepted s q) (came a).acl p (command_of t).body v)) z

  -- AN ACKNOWLEDGED PUT IS STORED: the new entry is under its key
  pub put-stored : Asks t Put → under sent.key (entries s') ≡ some (new_entry sent v)
  put-stored asks =
      ap (λ s. under sent.key (entries s)) (sym (came a).state)
      ∙ by-success Put (λ y. under sent.key (entries_of y.state.store) ≡ some (new_entry sent v)) asks go
    where
      e : Entry
      e = new_entry sent v

      go : (q : ℕ) (y : Result) → Effect (accepted s q) (command_of t).body v Put y → y.code ≡ SUCCESS
          → under sent.key (entries_of y.state.store) ≡ some e
      go q y (refuses n) z = absurd (n z)
      go q y (shows n) z = never (cc)
      go q y (puts w g) z =
          ap (under sent.key) (put-kept s.store (came a).stored e g).entries ∙ put_under sent.key e (entries s) ∙ own_key sent.key (under sent.key (entries s)) (some e)

  -- NO LOST UPDATE: without force it named the version that was stored, or none for a new key
  pub put-version : Asks t Put → sent.force ≡ false → sent.db_version ≡ version_of (under sent.key (entries s))
  put-version asks unforced = by-success Put (λ y. sent.db_version ≡ version_of (under sent.key (entries s))) asks go
    where
      go : (q : ℕ) (y : Result) → Effect (accepted s q) (command_of t).body v Put y → y.code ≡ SUCCESS → sent.db_version ≡ version_of (under sent.key (entries s))
      go q y (refuses n) z = absurd (n z)
      go q y (shows n) z = never (cc)
      go q y (puts w g) z =
          let o = entry_of (accepted s q) sent.key in
          same_bytes-true sent.db_version (version_of o) (sym (ap (λ (f : Bool). f || same_bytes sent.db_version (version_of o)) unforced) ∙ w)
          ∙ ap version_of (entry-under (accepted s q) sent.key)

  -- AN ACKNOWLEDGED DELETE leaves nothing under the key
  pub delete-gone : Asks t Delete → under sent.key (entries s') ≡ none
  delete-gone asks =
      ap (λ s. under sent.key (entries s)) (sym (came a).state)
      ∙ by-success Delete (λ y. under sent.key (entries_of y.state.store) ≡ none) asks go
    where
      go : (q : ℕ) (y : Result) → Effect (accepted s q) (command_of t).body v Delete y → y.code ≡ SUCCESS → under sent.key (entries_of y.state.store) ≡ none
      go q y (refuses n) z = absurd (n z)
      go q y (shows n) z = never (cc)
      go q y (misses n) z = sym (entry-under (accepted s q) sent.key) ∙ n
      go q y deletes z =
          ap (under sent.key) (delete-kept s.store (came a).stored sent.key).entries ∙ remove-under sent.key sent.key (entries s) (came a).stored.sorted
          ∙ own_key sent.key (under sent.key (entries s)) none

  -- LOCAL READ shows it too, then and later
  pub put-then-local-read : {s₂ : State} → Asks t Put → Spared sent.key s' s₂ → store_good s₂.store ≡ true → ((local_of s₂.store sent.key).number ≡ 0) × (part_of s₂.store (local_of s₂.store sent.key) ≡ v)
  put-then-local-read {s₂} asks spared good = local-found s₂.store sent.key (new_entry sent v) good (spared-stays sent.key spared ∙ put-stored asks)

  pub delete-then-local-read : {s₂ : State} → Asks t Delete → Spared sent.key s' s₂ → store_good s₂.store ≡ true → local_of s₂.store sent.key ≡ not_found
  delete-then-local-read {s₂} asks spared good = local-missing s₂.store sent.key good (spared-stays sent.key spared ∙ delete-gone asks)

-- ---- a GET that passes steps 4 to 9

got : {s : State} {t : Tree} {v r : List ℕ} {s' : State} (a : Answered s t v r s') (g : Admitted s a.identity t v Get) (o : Option Entry)
    → under (key_value_sent t).key (entries s) ≡ o
    → (let y = shown (accepted s g.sequence) (key_value_sent t).metadata_only o in Replies r y.code y.body y.value)
got {s} {t} {v} {r} a g o e =
    let c = came a in
    let q = g.sequence in
    let one : some g.acl ≡ some c.acl = sym g.known ∙ c.known in
    let same : g.acl ≡ c.acl = cc in
    let j : judge s c.acl (command_of t) v ≡ step10 (accepted s q) c.acl Get (command_of t).body v =
    judge-obeys s c.acl (command_of t) v q g.choice g.passes g.chosen (ap (λ o. fault o (command_of t).body v) g.asks ∙ g.well_formed)
    (ap (λ x. permitted x s.connection.protected g.choice.permission (command_of t).body) (sym same) ∙ g.may)
    ∙ ap (λ o. step10 (accepted s q) c.acl o (command_of t).body v) g.asks in
    let k : entry_of (accepted s q) (key_value_sent t).key ≡ o = entry-under (accepted s q) (key_value_sent t).key ∙ e in
    subst (λ (y : Result). Replies r y.code y.body y.value) (j ∙ ap (shown (accepted s q) (key_value_sent t).metadata_only) k) c.replies

-- A GET AFTER AN ACKNOWLEDGED PUT of its key, from anyone, on any connection, whatever came between but a PUT or a DELETE of that key:
-- it gives back the version, the tag, the algorithm and, unless metadataOnly, the value
pub put-then-get : {s s' s₂ s₃ : State} {t t' : Tree} {v v' r r' : List ℕ} {b : ReplyBody} {x : List ℕ}
    → Answered s t v r s' → Asks t Put → Replies r SUCCESS b x
    → Spared (key_value_sent t).key s' s₂
    → (g : Answered s₂ t' v' r' s₃) → Admitted s₂ g.identity t' v' Get → (key_value_sent t').key ≡ (key_value_sent t).key
    → (let k = key_value_sent t in Replies r' SUCCESS (key_value k.key k.new_version k.tag k.algorithm) (cond (key_value_sent t').metadata_only [] v))
put-then-get {s₂ = s₂} {t = t} {v = v} a asks ok spared g may same =
    got g may (some (new_entry (key_value_sent t) v))
    (ap (λ k. under k (entries s₂)) same ∙ spared-stays (key_value_sent t).key spared ∙ put-stored a ok asks)

-- A GET AFTER AN ACKNOWLEDGED DELETE, likewise: NOT_FOUND
pub delete-then-get : {s s' s₂ s₃ : State} {t t' : Tree} {v v' r r' : List ℕ} {b : ReplyBody} {x : List ℕ}
    → Answered s t v r s' → Asks t Delete → Replies r SUCCESS b x
    → Spared (key_value_sent t).key s' s₂
    → (g : Answered s₂ t' v' r' s₃) → Admitted s₂ g.identity t' v' Get → (key_value_sent t').key ≡ (key_value_sent t).key
    → Replies r' NOT_FOUND bare []
delete-then-get {s₂ = s₂} {t = t} a asks ok spared g may same =
    got g may none (ap (λ k. under k (entries s₂)) same ∙ spared-stays (key_value_sent t).key spared ∙ delete-gone a ok asks)
