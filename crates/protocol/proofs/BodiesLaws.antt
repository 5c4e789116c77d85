-- Document 01, "Replies": "Body only on success", by operation, shown of what steps 4 to 10 give.
use Rattle.std.specs.Prelude.{ℕ, ◌≡◌, refl, Bool, true, false, cond, ◌&&◌, List, [], eqb, None, Some}
use Rattle.std.proofs.Common.{arith}
use Rattle.std.proofs.Math.Option.{Option, none, some}
use Rattle.fields_schema.specs.Tree.{among}
use Rattle.access_record.specs.Table as access
use Rattle.access_record.specs.Record.{table_bytes, with_cluster_version}
use Rattle.access_permission.specs.Permissions.{READ, RANGE}
use Rattle.store_block.specs.Entry.{Entry}
use Rattle.store_layout.specs.Entries.{PutAnswer}
use Rattle.std.specs.Prelude.{Ok, Err}
use Rattle.store_layout.specs.declared.PutError.TheVariants.{Full, Unfit}
use Rattle.store_layout.specs.Entries.{next_of, previous_of, put_answer, put_store, delete_store}
use Rattle.protocol.specs.StatusCode.{NO_SUCH_HMAC_ALGORITHM, INVALID_REQUEST}
use Rattle.protocol.specs.declared.Operation.{Operation}
use Rattle.protocol.specs.declared.Operation.TheVariants.{Noop, Get, GetVersion, GetNext, GetPrevious, GetKeyRange, Put, Delete, FlushAllData, Setup, GetLog, Security}
use Rattle.protocol.specs.declared.Permission.{Permission}
use Rattle.protocol.specs.State.{State, table, with_device, with_store, accepted}
use Rattle.base_definitions.specs.Options.{or_else}
use Rattle.protocol.specs.Command.{Header, KeyValue, Body, Command}
use Rattle.protocol.specs.Operation.{Asked, asked_by}
use Rattle.protocol.specs.Judge.{ReplyBody, Result, bare, key_value, range, log, fails, succeeds, both_there, step4, step5, above_last, step6, step7, step8, step9, key_value_in, range_in, permitted}
use Rattle.protocol.specs.Judge.{entry_of, visible_in, shown, version_shown, version_right, new_entry, put_by, put, delete_by, keys_of, set_up, log_of, logged, wanted, step10, judge}
use Rattle.protocol.specs.Box.{type_of}
use Rattle.protocol.specs.FaultCode.{FaultCode, nothing, no_algorithm, invalid}
use Rattle.protocol.proofs.FaultLaws.{fault-code}
use Rattle.protocol.specs.Bodies.{Shape, Bodied}

module _ (m : Bool) where
  failed : (a : Asked) (s : State) (code : ℕ) → (code ≡ 1 → ⊥) → Bodied m a (fails s code)
  failed a s code n = record { success = λ e. absurd (n e); failure = λ h. (refl, refl) }

  chosen : (a : Asked) (t : Bool) (x y : Result) → Bodied m a x → Bodied m a y → Bodied m a (cond t x y)
  chosen a true x y h k = h
  chosen a false x y h k = k

-- ---- steps 4 to 8

by-fault : (m : Bool) (a : Asked) (s : State) (next : Result) {n : ℕ} → FaultCode n → Bodied m a next → Bodied m a (cond (eqb n 0) next (fails s n))
by-fault m a s next nothing h = h
by-fault m a s next no_algorithm h = failed m a s NO_SUCH_HMAC_ALGORITHM (λ e. omega arith)
by-fault m a s next invalid h = failed m a s INVALID_REQUEST (λ e. omega arith)

-- ---- step 10

-- an operation, whatever permission and reply type are chosen with it
module _ (permission : Permission) (type : ℕ) where
  abbrev asking : Operation → Asked
  asking o = Some (record { operation = o; permission = permission; reply_type = type })

  succeeded : (m : Bool) (o : Operation) (s : State) (b : ReplyBody) (v : List ℕ) → Shape m o b v → Bodied m (asking o) (succeeds s b v)
  succeeded m o s b v h = record { success = λ e. h; failure = λ n. absurd (n refl) }

  shown-bodied : (m : Bool) (s : State) (o : Option Entry) (a : Operation)
      → ((e : Entry) → Shape m a (key_value e.key e.version e.tag e.algorithm) (cond m [] e.value)) → Bodied m (asking a) (shown s m o)
  shown-bodied m s none a f = failed m (asking a) s _ (λ e. omega arith)
  shown-bodied m s (some e) a f = succeeded m a s (key_value e.key e.version e.tag e.algorithm) (cond m [] e.value) (f e)

  version-bodied : (m : Bool) (s : State) (o : Option Entry) → Bodied m (asking GetVersion) (version_shown s o)
  version-bodied m s none = failed m (asking GetVersion) s _ (λ e. omega arith)
  version-bodied m s (some e) = succeeded m GetVersion s (key_value [] e.version [] 0) [] (e, refl, refl)

  put-bodied : (m : Bool) (s : State) (k : KeyValue) (v : List ℕ) → Bodied m (asking Put) (put s k v)
  put-bodied m s k v =
      chosen m (asking Put) (version_right k (entry_of s k.key)) _ _
      (by_answer (put_answer s.store (new_entry k v))) (failed m (asking Put) s _ (λ e. omega arith))
    where
      by_answer : (r : PutAnswer) → Bodied m (asking Put) (put_by s (new_entry k v) r)
      by_answer (Ok tt) = succeeded m Put (with_store s (put_store s.store (new_entry k v))) _ [] (refl, refl)
      by_answer (Err Full) = failed m (asking Put) s _ (λ e. omega arith)
      by_answer (Err Unfit) = failed m (asking Put) s _ (λ e. omega arith)

  delete-bodied : (m : Bool) (s : State) (k : KeyValue) (o : Option Entry) → Bodied m (asking Delete) (delete_by s k o)
  delete-bodied m s k none =
      chosen m (asking Delete) k.force _ _ (succeeded m Delete (with_store s s.store) _ [] (refl, refl)) (failed m (asking Delete) s _ (λ e. omega arith))
  delete-bodied m s k (some e) =
      chosen m (asking Delete) (version_right k (some e)) _ _
      (succeeded m Delete (with_store s (delete_store s.store k.key)) _ [] (refl, refl)) (failed m (asking Delete) s _ (λ z. omega arith))

  setup-bodied : (m : Bool) (s : State) (o : Option ℕ) → Bodied m (asking Setup) (set_up s o)
  setup-bodied m s none = succeeded m Setup s bare [] (refl, refl)
  setup-bodied m s (some v) = succeeded m Setup (with_device s (with_cluster_version s.device v)) bare [] (refl, refl)

  log-bodied : (m : Bool) (s : State) (types : List ℕ) → Bodied m (asking GetLog) (logged s types)
  log-bodied m s types =
      chosen m (asking GetLog) (among 7 types) _ _ (failed m (asking GetLog) s _ (λ e. omega arith)) (succeeded m GetLog s (log (log_of s types)) [] (log_of s types, refl, refl))

  step10-bodied : (s : State) (a : access.Acl) (o : Operation) (b : Body) (v : List ℕ) → Bodied (key_value_in b).metadata_only (asking o) (step10 s a o b v)
  step10-bodied s a Noop b v = succeeded _ Noop s bare [] (refl, refl)
  step10-bodied s a FlushAllData b v = succeeded _ FlushAllData s bare [] (refl, refl)
  step10-bodied s a Get b v = shown-bodied _ s (entry_of s (key_value_in b).key) Get (λ e. (e, refl, refl))
  step10-bodied s a GetVersion b v = version-bodied _ s (entry_of s (key_value_in b).key)
  step10-bodied s a GetNext b v = shown-bodied _ s (next_of (key_value_in b).key (visible_in s a READ)) GetNext (λ e. (e, refl, refl))
  step10-bodied s a GetPrevious b v = shown-bodied _ s (previous_of (key_value_in b).key (visible_in s a READ)) GetPrevious (λ e. (e, refl, refl))
  step10-bodied s a Put b v = put-bodied _ s (key_value_in b) v
  step10-bodied s a Delete b v = delete-bodied _ s (key_value_in b) (entry_of s (key_value_in b).key)
  step10-bodied s a GetKeyRange b v = succeeded _ GetKeyRange s (range (keys_of (range_in b) (visible_in s a RANGE))) [] (keys_of (range_in b) (visible_in s a RANGE), refl, refl)
  step10-bodied s a Setup b v = setup-bodied _ s (or_else none b.setup)
  step10-bodied s a GetLog b v = log-bodied _ s (or_else [] b.get_log)
  step10-bodied s a Security b v = succeeded _ Security (with_device s (table_bytes (wanted (table s).cluster_version (or_else [] b.security)))) bare [] (refl, refl)

-- ---- the whole judgement

module _ (s : State) (a : access.Acl) (c : Command) (v : List ℕ) where
  abbrev only_metadata : Bool
  only_metadata = (key_value_in c.body).metadata_only

  asked-bodied : (q : ℕ) (o : Asked)
      → Bodied only_metadata o
      (step7 (accepted s q) o (λ x.
      step8 (accepted s q) x.operation c.body v
      (step9 (accepted s q) a x.permission c.body (step10 (accepted s q) a x.operation c.body v))))
  asked-bodied q (Some x) =
      by-fault only_metadata (Some x) (accepted s q) _ (fault-code x.operation c.body v)
      (chosen only_metadata (Some x) (permitted a s.connection.protected x.permission c.body) _ _
      (step10-bodied x.permission x.reply_type (accepted s q) a x.operation c.body v)
      (failed only_metadata (Some x) (accepted s q) _ (λ e. omega arith)))
  asked-bodied q None = failed only_metadata None (accepted s q) _ (λ e. omega arith)

  pub judge-bodied : Bodied only_metadata (asked_by (type_of c.header)) (judge s a c v)
  unfolding judge
  judge-bodied = go c.header
    where
      there : (h : Header) (i q : Option ℕ)
          → Bodied only_metadata (asked_by h.message_type) (both_there s h i q (λ h connection q.
          step5 s h (step6 s connection q
          (step7 (accepted s q) (asked_by h.message_type) (λ x.
          step8 (accepted s q) x.operation c.body v
          (step9 (accepted s q) a x.permission c.body (step10 (accepted s q) a x.operation c.body v)))))))
      there h (some i) (some q) =
          chosen only_metadata (asked_by h.message_type) (eqb h.cluster_version (table s).cluster_version) _ _
          (chosen only_metadata (asked_by h.message_type) (eqb i s.connection.number && above_last q s.connection.last) _ _
          (asked-bodied q (asked_by h.message_type)) (failed only_metadata (asked_by h.message_type) s _ (λ e. omega arith)))
          (failed only_metadata (asked_by h.message_type) s _ (λ e. omega arith))
      there h (some i) none = failed only_metadata (asked_by h.message_type) s _ (λ e. omega arith)
      there h none q = failed only_metadata (asked_by h.message_type) s _ (λ e. omega arith)

      go : (o : Option Header) → Bodied only_metadata (asked_by (type_of o)) (step4 s o (λ h connection q.
          step5 s h (step6 s connection q
          (step7 (accepted s q) (asked_by h.message_type) (λ x.
          step8 (accepted s q) x.operation c.body v
          (step9 (accepted s q) a x.permission c.body (step10 (accepted s q) a x.operation c.body v)))))))
      go none = failed only_metadata None s _ (λ e. omega arith)
      go (some h) = there h h.connection_id h.sequence
