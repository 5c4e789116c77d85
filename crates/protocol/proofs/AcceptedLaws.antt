-- Step 6: "From here the sequence counts as accepted, whatever follows." A refusal at steps 4 to 6 changes nothing. The readings stay in any case.
use Rattle.std.specs.Prelude.{ℕ, ◌≡◌, Bool, cond, ◌&&◌, List, [], ltb, ℤ, pos, negsuc, None, Some}
use Rattle.std.proofs.Common.{arith, ◌∙◌}
use Rattle.std.proofs.Math.Path.{refl, ap}
use Rattle.std.proofs.Math.Bool.{true, false}
use Rattle.std.proofs.Math.Option.{Option, none, some}
use Rattle.std.proofs.Math.Dec.{eqb}
use Rattle.std.specs.Int.Signed.{lt_z}
use borrow.Author.Tests.{ltb-true, eqb-true, eq-eqb}
use Rattle.fields_schema.specs.Tree.{among}
use Rattle.base_integers.specs.Signed.{signed_of}
use Rattle.access_record.specs.Table as access
use Rattle.access_permission.specs.Permissions.{READ}
use Rattle.store_block.specs.Entry.{Entry}
use Rattle.store_layout.specs.Entries.{PutAnswer}
use Rattle.std.specs.Prelude.{Ok, Err}
use Rattle.store_layout.specs.declared.PutError.TheVariants.{Full, Unfit}
use Rattle.store_layout.specs.Entries.{put_answer, next_of, previous_of}
use Rattle.protocol.specs.StatusCode.{VERSION_FAILURE, INVALID_REQUEST}
use Rattle.protocol.specs.declared.Operation.{Operation}
use Rattle.protocol.specs.declared.Operation.TheVariants.{Noop, Get, GetVersion, GetNext, GetPrevious, GetKeyRange, Put, Delete, FlushAllData, Setup, GetLog, Security}
use Rattle.protocol.specs.State.{State, table, with_sequence, accepted}
use Rattle.base_definitions.specs.Options.{or_else}
use Rattle.protocol.specs.Command.{Header, KeyValue, Body, Command}
use Rattle.protocol.specs.Operation.{Asked, asked_by}
use Rattle.protocol.specs.Judge.{Result, fails, both_there, step4, step5, above, above_last, step6, fault, key_value_in, permitted}
use Rattle.protocol.specs.Judge.{entry_of, visible_in, shown, version_shown, version_right, new_entry, put_by, put, delete_by, set_up, step10, judge}
use Rattle.protocol.specs.Passes.{Passes}
use Rattle.protocol.specs.Onwards.{onwards}

-- the result leaves the connection and the readings of s as they are
record Keeps (s : State) (r : Result) : Type 0 where
  same : r.state.connection ≡ s.connection
  read : r.state.readings ≡ s.readings

keeps-choose : (s : State) (t : Bool) {x y : Result} → Keeps s x → Keeps s y → Keeps s (cond t x y)
keeps-choose s true h k = h
keeps-choose s false h k = k

keeps-shown : (s : State) (m : Bool) (o : Option Entry) → Keeps s (shown s m o)
keeps-shown s m none = record { same = refl; read = refl }
keeps-shown s m (some e) = record { same = refl; read = refl }

keeps-version : (s : State) (o : Option Entry) → Keeps s (version_shown s o)
keeps-version s none = record { same = refl; read = refl }
keeps-version s (some e) = record { same = refl; read = refl }

keeps-put : (s : State) (k : KeyValue) (v : List ℕ) → Keeps s (put s k v)
keeps-put s k v =
    keeps-choose s (version_right k (entry_of s k.key)) (by_answer (put_answer s.store (new_entry k v))) (record { same = refl; read = refl })
  where
    by_answer : (r : PutAnswer) → Keeps s (put_by s (new_entry k v) r)
    by_answer (Ok tt) = record { same = refl; read = refl }
    by_answer (Err Full) = record { same = refl; read = refl }
    by_answer (Err Unfit) = record { same = refl; read = refl }

keeps-delete : (s : State) (k : KeyValue) (o : Option Entry) → Keeps s (delete_by s k o)
keeps-delete s k none = keeps-choose s k.force (record { same = refl; read = refl }) (record { same = refl; read = refl })
keeps-delete s k (some e) = keeps-choose s (version_right k (some e)) (record { same = refl; read = refl }) (record { same = refl; read = refl })

keeps-setup : (s : State) (o : Option ℕ) → Keeps s (set_up s o)
keeps-setup s none = record { same = refl; read = refl }
keeps-setup s (some v) = record { same = refl; read = refl }

keeps-step10 : (s : State) (a : access.Acl) (o : Operation) (b : Body) (v : List ℕ) → Keeps s (step10 s a o b v)
keeps-step10 s a Noop b v = record { same = refl; read = refl }
keeps-step10 s a FlushAllData b v = record { same = refl; read = refl }
keeps-step10 s a Get b v = keeps-shown s (key_value_in b).metadata_only (entry_of s (key_value_in b).key)
keeps-step10 s a GetVersion b v = keeps-version s (entry_of s (key_value_in b).key)
keeps-step10 s a GetNext b v = keeps-shown s (key_value_in b).metadata_only (next_of (key_value_in b).key (visible_in s a READ))
keeps-step10 s a GetPrevious b v = keeps-shown s (key_value_in b).metadata_only (previous_of (key_value_in b).key (visible_in s a READ))
keeps-step10 s a Put b v = keeps-put s (key_value_in b) v
keeps-step10 s a Delete b v = keeps-delete s (key_value_in b) (entry_of s (key_value_in b).key)
keeps-step10 s a GetKeyRange b v = record { same = refl; read = refl }
keeps-step10 s a Setup b v = keeps-setup s (or_else none b.setup)
keeps-step10 s a GetLog b v = keeps-choose s (among 7 (or_else [] b.get_log)) (record { same = refl; read = refl }) (record { same = refl; read = refl })
keeps-step10 s a Security b v = record { same = refl; read = refl }

step5-passed : (s : State) (h : Header) (next : Result) → h.cluster_version ≡ (table s).cluster_version → step5 s h next ≡ next
step5-passed s h next e = rw (e, eq-eqb (table s).cluster_version (table s).cluster_version refl)

step6-passed : (s : State) (q : ℕ) (next : Result) → above_last q s.connection.last ≡ true → step6 s s.connection.number q next ≡ next
step6-passed s q next e = rw (eq-eqb s.connection.number s.connection.number refl, e)

module _ (s : State) (a : access.Acl) (c : Command) (v : List ℕ) where
  keeps-onwards : (q : ℕ) (o : Asked) → Keeps (accepted s q) (onwards s a c v q o)
  keeps-onwards q (Some x) =
      keeps-choose (accepted s q) (eqb (fault x.operation c.body v) 0)
      (keeps-choose (accepted s q) (permitted a s.connection.protected x.permission c.body)
      (keeps-step10 (accepted s q) a x.operation c.body v) (record { same = refl; read = refl }))
      (record { same = refl; read = refl })
  keeps-onwards q None = record { same = refl; read = refl }

  -- steps 4 to 6
  abbrev before : Option Header → Result
  before o = step4 s o (λ h connection q. step5 s h (step6 s connection q (onwards s a c v q (asked_by h.message_type))))

  abbrev between : Header → Option ℕ → Option ℕ → Result
  between h i q = both_there s h i q (λ h connection q. step5 s h (step6 s connection q (onwards s a c v q (asked_by h.message_type))))

  -- where steps 4 to 6 pass, the result is that of steps 7 to 10
  pub passed_on : (q : ℕ) (p : Passes s c q) → judge s a c v ≡ onwards s a c v q (asked_by p.header.message_type)
  unfolding judge
  passed_on q p =
      let h = p.header in
      let n = s.connection.number in
      ap before p.there ∙ ap (λ i. between h i h.sequence) p.connection ∙ ap (λ z. between h (some n) z) p.sequence
      ∙ step5-passed s h (step6 s n q (onwards s a c v q (asked_by h.message_type))) p.version ∙ step6-passed s q (onwards s a c v q (asked_by h.message_type)) p.later

  -- THE SEQUENCE COUNTS: whatever comes of steps 7 to 10
  pub counted : (q : ℕ) → Passes s c q → (judge s a c v).state.connection ≡ with_sequence s.connection q
  counted q p = ap (λ r. r.state.connection) (passed_on q p) ∙ (keeps-onwards q (asked_by p.header.message_type)).same

  -- NOTHING CHANGES where one of steps 4 to 6 refuses
  pub not-counted : ((q : ℕ) → Passes s c q → ⊥) → (judge s a c v).state ≡ s
  unfolding judge
  not-counted n = go c.header refl
    where
      last : (h : Header) (i q : ℕ) → c.header ≡ some h → h.connection_id ≡ some i → h.sequence ≡ some q → (t u w : Bool)
          → eqb h.cluster_version (table s).cluster_version ≡ t → eqb i s.connection.number ≡ u → above_last q s.connection.last ≡ w
          → (x y : Result) → x.state ≡ s → y.state ≡ s → (cond t (cond (u && w) (onwards s a c v q (asked_by h.message_type)) x) y).state ≡ s
      last h i q p ic iq false u w et eu ew x y hx hy = hy
      last h i q p ic iq true false w et eu ew x y hx hy = hx
      last h i q p ic iq true true false et eu ew x y hx hy = hx
      last h i q p ic iq true true true et eu ew x y hx hy =
          absurd (n q (record {
            header = h;
            there = p;
            connection = ic ∙ ap some (eqb-true i s.connection.number eu);
            sequence = iq;
            version = eqb-true h.cluster_version (table s).cluster_version et;
            later = ew;
          }))

      both-there : (h : Header) (i q : Option ℕ) → c.header ≡ some h → h.connection_id ≡ i → h.sequence ≡ q → (between h i q).state ≡ s
      both-there h none q p ic iq = refl
      both-there h (some i) none p ic iq = refl
      both-there h (some i) (some q) p ic iq =
          last h i q p ic iq (eqb h.cluster_version (table s).cluster_version) (eqb i s.connection.number) (above_last q s.connection.last) refl refl refl
          _ _ refl refl

      go : (o : Option Header) → c.header ≡ o → (before o).state ≡ s
      go none p = refl
      go (some h) p = both-there h h.connection_id h.sequence p refl refl

  -- NO CALL CHANGES THE READINGS
  pub readings-stay : (judge s a c v).state.readings ≡ s.readings
  unfolding judge
  readings-stay = go c.header
    where
      last : (t u : Bool) (x y z : Result) → x.state.readings ≡ s.readings → y.state.readings ≡ s.readings → z.state.readings ≡ s.readings
          → (cond t (cond u x y) z).state.readings ≡ s.readings
      last true true x y z hx hy hz = hx
      last true false x y z hx hy hz = hy
      last false u x y z hx hy hz = hz

      both-there : (h : Header) (i q : Option ℕ) → (between h i q).state.readings ≡ s.readings
      both-there h none q = refl
      both-there h (some i) none = refl
      both-there h (some i) (some q) =
          last (eqb h.cluster_version (table s).cluster_version) (eqb i s.connection.number && above_last q s.connection.last)
          (onwards s a c v q (asked_by h.message_type)) (fails s INVALID_REQUEST) (fails s VERSION_FAILURE) (keeps-onwards q (asked_by h.message_type)).read refl refl

      go : (o : Option Header) → (before o).state.readings ≡ s.readings
      go none = refl
      go (some h) = both-there h h.connection_id h.sequence

-- "accepting an equal sequence" is wrong: no sequence is above itself
ltb_self : (n : ℕ) (t : Bool) → ltb n n ≡ t → ltb n n ≡ false
ltb_self n true e = absurd (omega (arith, ltb-true n n e))
ltb_self n false e = e

lt_z-self : (x : ℤ) → lt_z x x ≡ false
lt_z-self (pos n) = ltb_self n (ltb n n) refl
lt_z-self (negsuc n) = ltb_self n (ltb n n) refl

pub not-above-self : (q : ℕ) → above q q ≡ false
unfolding above
not-above-self q = lt_z-self (signed_of q)
