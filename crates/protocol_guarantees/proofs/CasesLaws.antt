-- Every answered call is one of the cases.
use Rattle.std.specs.Prelude.{ℕ, ◌+◌, ◌≤◌, ◌≡◌, Bool, true, false, cond, ◌&&◌, List, [], eqb, ltb, length, None, Some}
use Rattle.std.proofs.Common.{arith, sym, ap, ◌∙◌, subst, eqb-true, eq-eqb}
use Rattle.std.proofs.Math.Path.{refl}
use Rattle.std.proofs.Math.Option.{Option, none, some}
use Rattle.fields_schema.specs.Tree.{among}
use Rattle.fields_encoding.proofs.BasicLaws.{never}
use Rattle.base_definitions.specs.Options.{or_else}
use Rattle.access_record.specs.Table as access
use Rattle.access_record.specs.Table.{table_good}
use Rattle.access_record.proofs.TableLaws.{both-fst, both-snd}
use Rattle.access_permission.specs.Permissions.{READ}
use Rattle.store_block.specs.Entry.{Entry}
use Rattle.store_layout.specs.Store.{store_good}
use Rattle.store_layout.specs.Entries.{put_answer, delete_store, next_of, previous_of}
use Rattle.store_layout.specs.Entries.{PutAnswer}
use Rattle.std.specs.Prelude.{Ok, Err}
use Rattle.store_layout.specs.declared.PutError.TheVariants.{Full, Unfit}
use Rattle.log_readings.specs.Lent.{readings_good}
use Rattle.protocol.specs.declared.Operation.{Operation}
use Rattle.protocol.specs.declared.Operation.TheVariants.{Noop, Get, GetVersion, GetNext, GetPrevious, GetKeyRange, Put, Delete, FlushAllData, Setup, GetLog, Security}
use Rattle.protocol.specs.declared.Choice.{Choice}
use Rattle.protocol.specs.StatusCode.{SUCCESS, NOT_AUTHORIZED, VERSION_FAILURE, NOT_FOUND, NO_SPACE, NO_SUCH_HMAC_ALGORITHM, INVALID_REQUEST, CONNECTION_TERMINATED}
use Rattle.protocol.specs.State.{State, table, accepted, closing}
use Rattle.protocol.specs.Command.{Header, Body, Command, command_of}
use Rattle.protocol.specs.Operation.{Asked, asked_by}
use Rattle.protocol.specs.Frame.{Framing, more, closes, whole, frame_of}
use Rattle.protocol.specs.Reading as reads
use Rattle.protocol.specs.Reading.{Reading, undecodable, read}
use Rattle.protocol.specs.Judge.{Result, fails, both_there, step4, step5, above_last, step6, fault, key_value_in, permitted, step9, entry_of, visible_in, shown, version_shown, version_right, new_entry, changed, put_by, put, delete_by, set_up, step10, judge}
use Rattle.protocol.specs.Passes.{Passes}
use Rattle.protocol.specs.Onwards.{onwards}
use Rattle.protocol.specs.FaultCode.{FaultCode, nothing, no_algorithm, invalid}
use Rattle.protocol.proofs.FaultLaws.{fault-code}
use Rattle.protocol.specs.Answer.{Reply, reply, Outcome, refused, answered, taking, unless_refused, reading, respond, serve, answer}
use Rattle.protocol.specs.Box.{box, answers, acl_of, type_of, close, judged, decide}
use Rattle.protocol_guarantees.specs.Cases as cases
use Rattle.protocol_guarantees.specs.Cases.{writes, Effect, refuses, shows, puts, misses, deletes, sets, secures, Judged, before, after, obeyed, Left, closed, stayed}

-- ---- step 10

failing : {s : State} {b : Body} {v : List ℕ} {o : Operation} (code : ℕ) → (code ≡ SUCCESS → ⊥) → Effect s b v o (fails s code)
failing code n = refuses n

by-entry : {s : State} {b : Body} {v : List ℕ} (o : Operation) → writes o ≡ false → (m : Bool) (e : Option Entry) → Effect s b v o (shown s m e)
by-entry o p m none = failing 7 (λ z. omega arith)
by-entry o p m (some e) = shows p

by-version : {s : State} {b : Body} {v : List ℕ} (e : Option Entry) → Effect s b v GetVersion (version_shown s e)
by-version none = failing 7 (λ z. omega arith)
by-version (some e) = shows refl

-- the one place that looks into `put`
put-effect : (s : State) (b : Body) (v : List ℕ) → Effect s b v Put (put s (key_value_in b) v)
put-effect s b v = go (version_right (key_value_in b) (entry_of s (key_value_in b).key)) refl (put_answer s.store (new_entry (key_value_in b) v)) refl
  where
    go : (x : Bool) → version_right (key_value_in b) (entry_of s (key_value_in b).key) ≡ x → (y : PutAnswer) → put_answer s.store (new_entry (key_value_in b) v) ≡ y
        → Effect s b v Put (cond x (put_by s (new_entry (key_value_in b) v) y) (fails s 8))
    go true e (Ok tt) h = puts e h
    go true e (Err Full) h = failing NO_SPACE (λ z. omega arith)
    go true e (Err Unfit) h = failing INVALID_REQUEST (λ z. omega arith)
    go false e y h = failing 8 (λ z. omega arith)

delete-effect : (s : State) (b : Body) (v : List ℕ) → Effect s b v Delete (delete_by s (key_value_in b) (entry_of s (key_value_in b).key))
delete-effect s b v = go (entry_of s (key_value_in b).key) refl
  where
    forced : entry_of s (key_value_in b).key ≡ none → (x : Bool) → Effect s b v Delete (cond x (changed s s.store) (fails s 7))
    forced e true = misses e
    forced e false = failing 7 (λ z. omega arith)

    right : (x : Bool) → Effect s b v Delete (cond x (changed s (delete_store s.store (key_value_in b).key)) (fails s 8))
    right true = deletes
    right false = failing 8 (λ z. omega arith)

    go : (o : Option Entry) → entry_of s (key_value_in b).key ≡ o → Effect s b v Delete (delete_by s (key_value_in b) o)
    go none e = forced e (key_value_in b).force
    go (some x) e = right (version_right (key_value_in b) (some x))

setup-effect : (s : State) (b : Body) (v : List ℕ) (o : Option ℕ) → Effect s b v Setup (set_up s o)
setup-effect s b v none = shows refl
setup-effect s b v (some w) = sets w

log-effect : (s : State) (b : Body) (v : List ℕ) (x : Bool) {r : Result} → Effect s b v GetLog r → Effect s b v GetLog (cond x (fails s 7) r)
log-effect s b v true e = failing 7 (λ z. omega arith)
log-effect s b v false e = e

pub step10-effect : (s : State) (a : access.Acl) (o : Operation) (b : Body) (v : List ℕ) → Effect s b v o (step10 s a o b v)
step10-effect s a Noop b v = shows refl
step10-effect s a FlushAllData b v = shows refl
step10-effect s a Get b v = by-entry Get refl (key_value_in b).metadata_only (entry_of s (key_value_in b).key)
step10-effect s a GetVersion b v = by-version (entry_of s (key_value_in b).key)
step10-effect s a GetNext b v = by-entry GetNext refl (key_value_in b).metadata_only (next_of (key_value_in b).key (visible_in s a READ))
step10-effect s a GetPrevious b v = by-entry GetPrevious refl (key_value_in b).metadata_only (previous_of (key_value_in b).key (visible_in s a READ))
step10-effect s a Put b v = put-effect s b v
step10-effect s a Delete b v = delete-effect s b v
step10-effect s a GetKeyRange b v = shows refl
step10-effect s a Setup b v = setup-effect s b v (or_else none b.setup)
step10-effect s a GetLog b v = log-effect s b v (among 7 (or_else [] b.get_log)) (shows refl)
step10-effect s a Security b v = secures

-- ---- steps 4 to 10

module _ (s : State) (a : access.Acl) (c : Command) (v : List ℕ) where
  early : (code : ℕ) → (code ≡ SUCCESS → ⊥) → (code ≡ NOT_FOUND → ⊥) → Judged s a c v (fails s code)
  early code n k = before n k

  late : (q : ℕ) → Passes s c q → (code : ℕ) → (code ≡ SUCCESS → ⊥) → (code ≡ NOT_FOUND → ⊥) → Judged s a c v (fails (accepted s q) code)
  late q w code n k = after w n k

  chosen : (t : Bool) (x y : Result) → (t ≡ true → Judged s a c v x) → Judged s a c v y → Judged s a c v (cond t x y)
  chosen true x y f p = f refl
  chosen false x y f p = p

  faulty : (q : ℕ) → Passes s c q → (x : Result) {n : ℕ} → FaultCode n → (n ≡ 0 → Judged s a c v x) → Judged s a c v (cond (eqb n 0) x (fails (accepted s q) n))
  faulty q g x nothing f = f refl
  faulty q g x no_algorithm f = late q g NO_SUCH_HMAC_ALGORITHM (λ e. omega arith) (λ e. omega arith)
  faulty q g x invalid f = late q g INVALID_REQUEST (λ e. omega arith) (λ e. omega arith)

  asked_by_lem : (q : ℕ) (o : Asked) → Passes s c q → asked_by (type_of c.header) ≡ o → Judged s a c v (onwards s a c v q o)
  asked_by_lem q (Some x) g e =
      faulty q g (step9 (accepted s q) a x.permission c.body (step10 (accepted s q) a x.operation c.body v)) (fault-code x.operation c.body v) (λ f.
      chosen (permitted a s.connection.protected x.permission c.body) (step10 (accepted s q) a x.operation c.body v) (fails (accepted s q) NOT_AUTHORIZED) (λ p. obeyed g e f p) (late q g NOT_AUTHORIZED (λ e. omega arith) (λ e. omega arith)))
  asked_by_lem q None g e = late q g INVALID_REQUEST (λ e. omega arith) (λ e. omega arith)

  both-there : (h : Header) (i q : Option ℕ) → c.header ≡ some h → h.connection_id ≡ i → h.sequence ≡ q
      → Judged s a c v (both_there s h i q (λ h connection q. step5 s h (step6 s connection q (onwards s a c v q (asked_by h.message_type)))))
  both-there h (some i) (some q) e ei eq =
      chosen (eqb h.cluster_version (table s).cluster_version) _ _
      (λ z. chosen (eqb i s.connection.number && above_last q s.connection.last) _ _
      (λ y. asked_by_lem q (asked_by h.message_type)
      (record {
        header = h;
        there = e;
        connection = ei ∙ ap some (eqb-true i s.connection.number (both-fst (eqb i s.connection.number) (above_last q s.connection.last) y));
        sequence = eq;
        version = eqb-true h.cluster_version (table s).cluster_version z;
        later = both-snd (eqb i s.connection.number) (above_last q s.connection.last) y;
      })
      (ap (λ o. asked_by (type_of o)) e)) (early INVALID_REQUEST (λ e. omega arith) (λ e. omega arith)))
      (early 4 (λ e. omega arith) (λ e. omega arith))
  both-there h (some i) none e ei eq = early 6 (λ e. omega arith) (λ e. omega arith)
  both-there h none q e ei eq = early 6 (λ e. omega arith) (λ e. omega arith)

  pub judge-cases : Judged s a c v (judge s a c v)
  unfolding judge
  judge-cases = go c.header refl
    where
      go : (o : Option Header) → c.header ≡ o → Judged s a c v (step4 s o (λ h connection q. step5 s h (step6 s connection q (onwards s a c v q (asked_by h.message_type)))))
      go none e = early 6 (λ e. omega arith) (λ e. omega arith)
      go (some h) e = both-there h h.connection_id h.sequence e refl refl

-- and where steps 4 to 9 pass, the result is that of step 10
pub judge-obeys : (s : State) (a : access.Acl) (c : Command) (v : List ℕ) (q : ℕ) (x : Choice) → Passes s c q → asked_by (type_of c.header) ≡ Some x
    → fault x.operation c.body v ≡ 0 → permitted a s.connection.protected x.permission c.body ≡ true
    → judge s a c v ≡ step10 (accepted s q) a x.operation c.body v
unfolding judge
judge-obeys s a c v q x p e f m =
    let h = p.header in
    let n = s.connection.number in
    let next = step10 (accepted s q) a x.operation c.body v in
    let permit = step9 (accepted s q) a x.permission c.body next in
    let asked : asked_by h.message_type ≡ Some x = sym (ap (λ o. asked_by (type_of o)) p.there) ∙ e in
    ap (λ x. step4 s x (λ h connection q. step5 s h (step6 s connection q (onwards s a c v q (asked_by h.message_type))))) p.there
    ∙ ap (λ i. both_there s h i h.sequence (λ h connection q. step5 s h (step6 s connection q (onwards s a c v q (asked_by h.message_type))))) p.connection
    ∙ ap (λ z. both_there s h (some n) z (λ h connection q. step5 s h (step6 s connection q (onwards s a c v q (asked_by h.message_type))))) p.sequence
    ∙ ap (λ (t : Bool). cond t (step6 s n q (onwards s a c v q (asked_by h.message_type))) (fails s VERSION_FAILURE)) (eq-eqb h.cluster_version (table s).cluster_version p.version)
    ∙ ap (λ (t : Bool). cond (t && above_last q s.connection.last) (onwards s a c v q (asked_by h.message_type)) (fails s INVALID_REQUEST)) (eq-eqb n n refl)
    ∙ ap (λ (t : Bool). cond t (onwards s a c v q (asked_by h.message_type)) (fails s INVALID_REQUEST)) p.later
    ∙ ap (onwards s a c v q) asked
    ∙ ap (λ (x : ℕ). cond (eqb x 0) permit (fails (accepted s q) x)) f
    ∙ ap (λ (t : Bool). cond t next (fails (accepted s q) NOT_AUTHORIZED)) m

-- ---- an answered call

unrefused : (t1 t2 t3 t4 : Bool) (o : Outcome State) {r : List ℕ} {s' : State} {n : ℕ} → unless_refused t1 t2 t3 t4 o ≡ answered r s' n
    → (t2 ≡ true) × (t3 ≡ true) × (t4 ≡ false) × (o ≡ answered r s' n)
unrefused true t2 t3 t4 o e = never (cc)
unrefused false false t3 t4 o e = never (cc)
unrefused false true false t4 o e = never (cc)
unrefused false true true true o e = never (cc)
unrefused false true true false o e = (refl, refl, refl, e)

good-readings : (t : Bool) (o : Outcome State) {r : List ℕ} {s' : State} {n : ℕ} → cond t o (refused 7) ≡ answered r s' n → o ≡ answered r s' n
good-readings true o e = e
good-readings false o e = never (cc)

module _ (s : State) (xs : List ℕ) where
  left_by : (b : List ℕ) (t : State) (k : ℕ) {r : List ℕ} {s' : State} {n : ℕ} → Left s xs t → answered b t k ≡ answered r s' n → Left s xs s'
  left_by b t k {s' = s'} h e = let q : t ≡ s' = cc in subst (Left s xs) q h

  module _ (m v rest : List ℕ) (framed : frame_of xs ≡ whole m v rest) where
    respond-left : (k : ℕ) (d : Reading) → reading box s m ≡ d → {r : List ℕ} {s' : State} {n : ℕ} → taking k (respond box s v d) ≡ answered r s' n → Left s xs s'
    unfolding decide
    respond-left k (reads.closing code) q e = left_by _ (closing s) k closed e
    respond-left k (undecodable i key) q e = left_by _ s k stayed e
    respond-left k (read i key t) q {r} {s'} {n} e = go (acl_of s i) refl e
      where
        go : (o : Option access.Acl) → acl_of s i ≡ o → taking k (judged s i key (command_of t) v o) ≡ answered r s' n → Left s xs s'
        go none p e = left_by _ (closing s) k closed e
        go (some a) p e = left_by _ (judge s a (command_of t) v).state k (cases.judged m v rest i key t a framed q p) e

  serve-left : (k : ℕ) (f : Framing) → frame_of xs ≡ f → {r : List ℕ} {s' : State} {n : ℕ} → serve box s k f ≡ answered r s' n → Left s xs s'
  serve-left k more q e = never (cc)
  serve-left k closes q e = left_by _ (closing s) k closed (good-readings (readings_good s.readings) (taking k (close s CONNECTION_TERMINATED)) e)
  serve-left k (whole m v rest) q e =
      respond-left m v rest q (9 + length m + length v) (reading box s m) refl
      (good-readings (readings_good s.readings) (taking (9 + length m + length v) (respond box s v (reading box s m))) e)

  pub answered-left : (room : ℕ) (r : List ℕ) (s' : State) (n : ℕ) → answers s room xs ≡ answered r s' n
      → (store_good s.store ≡ true) × (table_good (table s) ≡ true) × Left s xs s'
  unfolding answer
  answered-left room r s' n e =
      let u = unrefused (ltb room 4096) (store_good s.store) (table_good (table s)) s.connection.closed (serve box s (length xs) (frame_of xs)) e in
      (u.0, u.1, serve-left (length xs) (frame_of xs) refl u.3)

-- a whole frame's answer is the response to what is read
pub answered-whole : (s : State) (room : ℕ) (xs m v rest r : List ℕ) (s' : State) (n : ℕ) → frame_of xs ≡ whole m v rest → answers s room xs ≡ answered r s' n
    → (store_good s.store ≡ true) × (table_good (table s) ≡ true) × (taking (9 + length m + length v) (respond box s v (reading box s m)) ≡ answered r s' n)
unfolding answer
answered-whole s room xs m v rest r s' n d e =
    let u = unrefused (ltb room 4096) (store_good s.store) (table_good (table s)) s.connection.closed (serve box s (length xs) (frame_of xs)) e in
    let k = taking (9 + length m + length v) (respond box s v (reading box s m)) in
    (u.0, u.1, good-readings (readings_good s.readings) k (sym (ap (serve box s (length xs)) d) ∙ u.3))

-- no call on a closed connection is answered
pub not-closed : (s : State) (room : ℕ) (xs r : List ℕ) (s' : State) (n : ℕ) → answers s room xs ≡ answered r s' n → s.connection.closed ≡ false
unfolding answer
not-closed s room xs r s' n e = (unrefused (ltb room 4096) (store_good s.store) (table_good (table s)) s.connection.closed (serve box s (length xs) (frame_of xs)) e).2

-- ---- a refused call

served-number : (k : ℕ) (r : Reply State) (t : Bool) (n : ℕ) → cond t (taking k r) (refused 7) ≡ refused n → 1 ≤ n
served-number k (reply b s) true n e = never (cc)
served-number k r false n e = let z : 7 ≡ n = cc in omega arith

serve-number : (s : State) (k : ℕ) (f : Framing) (n : ℕ) → serve box s k f ≡ refused n → 1 ≤ n
serve-number s k more n e = let z : 5 ≡ n = cc in omega arith
serve-number s k closes n e = served-number k (close s CONNECTION_TERMINATED) (readings_good s.readings) n e
serve-number s k (whole m v rest) n e = served-number (9 + length m + length v) (respond box s v (reading box s m)) (readings_good s.readings) n e

-- no refusal has the number 0
pub refusal-number : (s : State) (room : ℕ) (xs : List ℕ) (n : ℕ) → answers s room xs ≡ refused n → 1 ≤ n
unfolding answer
refusal-number s room xs n e = go (ltb room 4096) (store_good s.store) (table_good (table s)) s.connection.closed e
  where
    go : (t1 t2 t3 t4 : Bool) → unless_refused t1 t2 t3 t4 (serve box s (length xs) (frame_of xs)) ≡ refused n → 1 ≤ n
    go true t2 t3 t4 e = let z : 1 ≡ n = cc in omega arith
    go false false t3 t4 e = let z : 2 ≡ n = cc in omega arith
    go false true false t4 e = let z : 3 ≡ n = cc in omega arith
    go false true true true e = let z : 4 ≡ n = cc in omega arith
    go false true true false e = serve-number s (length xs) (frame_of xs) n e
