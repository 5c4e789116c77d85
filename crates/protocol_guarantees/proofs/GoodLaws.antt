-- What is good stays good.
use Rattle.std.specs.Prelude.{ℕ, ◌+◌, ◌≤◌, ◌≡◌, refl, Bool, true, false, cond, ◌&&◌, List, [], leb, ltb, length, get_or}
use Rattle.std.proofs.Common.{arith, sym, ap, ◌∙◌, subst, leb-true, leb-false}
use Rattle.std.proofs.Math.Option.{Option, none, some}
use Rattle.std.proofs.Math.ListN.{get_or-eq_default}
use Rattle.fields_encoding.proofs.BasicLaws.{never}
use Rattle.base_definitions.specs.Options.{or_else}
use Rattle.base_definitions.specs.Lists.{all, within, is_empty}
use Rattle.access_record.specs.Table as access
use Rattle.access_record.specs.Table.{acls_good, table_good}
use Rattle.access_record.specs.Record.{table_of, acls_at}
use Rattle.access_record.proofs.TableLaws.{both-fst, both-snd, within_low, table-test}
use Rattle.access_record.proofs.ReadbackLaws.{table-back, version-good}
use Rattle.store_block.specs.Entry.{Entry}
use Rattle.store_block.specs.DecidesLaws.{agree, says-yes}
use Rattle.store_layout.specs.Store.{store_good, Good}
use Rattle.store_layout.proofs.CheckLaws.{store-decides}
use Rattle.store_layout.proofs.KeptLaws.{put-kept, put_same, delete-kept}
use Rattle.store_layout.specs.Entries.{put_answer, put_store}
use Rattle.store_layout.specs.Entries.{PutAnswer}
use Rattle.std.specs.Prelude.{Ok, Err}
use Rattle.store_layout.specs.declared.PutError.TheVariants.{Full, Unfit}
use Rattle.log_readings.specs.Lent.{readings_good}
use Rattle.base_definitions.specs.Refusals.{STORE_BAD, DEVICE_BAD}
use Rattle.protocol.specs.StatusCode.{NO_SUCH_HMAC_ALGORITHM, INVALID_REQUEST, CONNECTION_TERMINATED}
use Rattle.protocol.specs.declared.Operation.{Operation}
use Rattle.protocol.specs.declared.Operation.TheVariants.{Security}
use Rattle.protocol.specs.State.{State, table, accepted}
use Rattle.protocol.specs.Command.{Acl, Body, Command, command_of}
use Rattle.protocol.specs.Frame.{Framing, more, closes, whole, frame_of}
use Rattle.protocol.specs.Judge.{Result, present, wanted, security_good, algorithms_good, acl_read, fault, key_value_in}
use Rattle.protocol.specs.Answer.{Reply, reply, refused, answered, taking, reading, respond, serve, answer}
use Rattle.protocol.specs.Box.{box, answers, close}
use Rattle.protocol_guarantees.specs.Later.{Served}
use Rattle.protocol_guarantees.specs.Cases as cases
use Rattle.protocol_guarantees.specs.Cases.{Effect, refuses, shows, puts, misses, deletes, sets, secures, Judged, before, after, obeyed, Left, closed, stayed}
use Rattle.protocol_guarantees.proofs.CasesLaws.{step10-effect, judge-cases, answered-left}

-- ---- step 10

put-good : (l : List ℕ) (e : Entry) → Good l → Good (put_store l e)
put-good l e g = go (put_answer l e) refl
  where
    go : (a : PutAnswer) → put_answer l e ≡ a → Good (put_store l e)
    go (Ok tt) q = (put-kept l g e q).good
    go (Err Full) q = subst Good (sym (put_same l g e (λ z. never (cc)))) g
    go (Err Unfit) q = subst Good (sym (put_same l g e (λ z. never (cc)))) g

-- a record whose table is good has its cluster version
version-there : (l : List ℕ) → table_good (table_of l) ≡ true → 8 ≤ length l
version-there l g = go (leb 8 (length l)) refl
  where
    some-acls : 1 ≤ get_or l 8 0
    some-acls = within_low 1 8 (get_or l 8 0) (both-fst (within 1 8 (get_or l 8 0)) (acls_good (acls_at l 16 (get_or l 8 0))) (sym (table-test l refl) ∙ g))

    go : (b : Bool) → leb 8 (length l) ≡ b → 8 ≤ length l
    go true e = leb-true 8 (length l) e
    go false e = let f = leb-false 8 (length l) e in absurd (omega (arith, some-acls, get_or-eq_default l 0 {n = 8} (omega arith)))

-- the table that a SECURITY asks for, with any cluster version
any-version : (w : ℕ) (acls : List Acl) → table_good (wanted 0 acls) ≡ true → table_good (wanted w acls) ≡ true
unfolding table_good
any-version w acls e = e

wanted-good : (w : ℕ) (acls : List Acl) → security_good acls ≡ true → table_good (wanted w acls) ≡ true
unfolding security_good
wanted-good w acls e = any-version w acls (both-snd (all acl_read acls) (table_good (wanted 0 acls)) e)

first-true : (t u : Bool) → ◌≡◌ {A = ℕ} (cond t (cond u 0 NO_SUCH_HMAC_ALGORITHM) INVALID_REQUEST) 0 → t ≡ true
first-true true u e = refl
first-true false u e = absurd (omega (arith, e))

security-good : (w : ℕ) (b : Body) (v : List ℕ) → fault Security b v ≡ 0 → table_good (wanted w (or_else [] b.security)) ≡ true
security-good w b v e =
    go b.security (both-snd (is_empty v) (present security_good b.security) (first-true (is_empty v && present security_good b.security) (present algorithms_good b.security) e))
  where
    go : (o : Option (List Acl)) → present security_good o ≡ true → table_good (wanted w (or_else [] o)) ≡ true
    go none e = never (cc)
    go (some acls) e = wanted-good w acls e

module _ (s : State) (b : Body) (v : List ℕ) where
  effect-store : (o : Operation) (x : Result) → Good s.store → Effect s b v o x → Good x.state.store
  effect-store o x g (refuses n) = g
  effect-store o x g (shows n) = g
  effect-store o x g (puts r f) = put-good s.store _ g
  effect-store o x g (misses n) = g
  effect-store o x g deletes = (delete-kept s.store g (key_value_in b).key).good
  effect-store o x g (sets w) = g
  effect-store o x g secures = g

  effect-table : (o : Operation) (x : Result) → table_good (table s) ≡ true → fault o b v ≡ 0 → Effect s b v o x → table_good (table x.state) ≡ true
  effect-table o x g f (refuses n) = g
  effect-table o x g f (shows n) = g
  effect-table o x g f (puts r z) = g
  effect-table o x g f (misses n) = g
  effect-table o x g f deletes = g
  effect-table o x g f (sets w) = version-good s.device w (version-there s.device g) ∙ g
  effect-table o x g f secures =
      let h = security-good (table s).cluster_version b v f in
      ap table_good (table-back (wanted (table s).cluster_version (or_else [] b.security)) h) ∙ h

-- ---- every answer

judged-good : (s : State) (a : access.Acl) (c : Command) (v : List ℕ) (x : Result) → Good s.store → table_good (table s) ≡ true → Judged s a c v x
    → Good x.state.store × (table_good (table x.state) ≡ true)
judged-good s a c v x g h (before n k) = (g, h)
judged-good s a c v x g h (after w n k) = (g, h)
judged-good s a c v y g h (obeyed {q = q} {x = x} w e f p) =
    let t = step10-effect (accepted s q) _ x.operation c.body v in
    (effect-store (accepted s q) c.body v x.operation _ g t, effect-table (accepted s q) c.body v x.operation _ h f t)

left-good : (s : State) (xs : List ℕ) (s' : State) → Good s.store → table_good (table s) ≡ true → Left s xs s' → Good s'.store × (table_good (table s') ≡ true)
left-good s xs s' g h closed = (g, h)
left-good s xs s' g h stayed = (g, h)
left-good s xs s' g h (cases.judged m v rest i key t a d q p) = judged-good s a (command_of t) v _ g h (judge-cases s a (command_of t) v)

-- AFTER ANY ANSWER to any bytes the store and the record are good
pub answer-leaves-good : (s : State) (room : ℕ) (xs r : List ℕ) (s' : State) (n : ℕ) → answers s room xs ≡ answered r s' n
    → (store_good s'.store ≡ true) × (table_good (table s') ≡ true)
answer-leaves-good s room xs r s' n e =
    let u = answered-left s xs room r s' n e in
    let w = left-good s xs s' ((store-decides s.store).yes u.0) u.1 u.2 in
    (agree (store_good s'.store) true (store-decides s'.store) (says-yes w.0), w.1)

-- and so for ever, on all connections, while the host leaves store and record as they were left
pub stays-good : {s s' : State} → store_good s.store ≡ true → table_good (table s) ≡ true → Served s s' → (store_good s'.store ≡ true) × (table_good (table s') ≡ true)
stays-good g h Served.now = (g, h)
stays-good g h (Served.call {s' = s'} room xs r s'' n l e) = answer-leaves-good s' room xs r s'' n e
stays-good g h (Served.elsewhere {s' = s'} s'' l e f) =
    let w = stays-good g h l in
    (ap store_good e ∙ w.0, ap (λ d. table_good (table_of d)) f ∙ w.1)

-- ---- the call refusals 2 and 3

abbrev Other : ℕ → Type 0
Other n = (n ≡ STORE_BAD → ⊥) × (n ≡ DEVICE_BAD → ⊥)

served-other : (k : ℕ) (r : Reply State) (t : Bool) (n : ℕ) → cond t (taking k r) (refused 7) ≡ refused n → Other n
served-other k (reply b s) true n e = never (cc)
served-other k r false n e = let z : 7 ≡ n = cc in (λ y. omega arith, λ y. omega arith)

serve-other : (s : State) (k : ℕ) (f : Framing) (n : ℕ) → serve box s k f ≡ refused n → Other n
serve-other s k more n e = let z : 5 ≡ n = cc in (λ y. omega arith, λ y. omega arith)
serve-other s k closes n e = served-other k (close s CONNECTION_TERMINATED) (readings_good s.readings) n e
serve-other s k (whole m v rest) n e = served-other (9 + length m + length v) (respond box s v (reading box s m)) (readings_good s.readings) n e

not-bad : (s : State) (room : ℕ) (xs : List ℕ) (n : ℕ) → store_good s.store ≡ true → table_good (table s) ≡ true → answers s room xs ≡ refused n → Other n
unfolding answer
not-bad s room xs n g h e = go (ltb room 4096) (store_good s.store) (table_good (table s)) s.connection.closed g h e
  where
    go : (t1 t2 t3 t4 : Bool) → t2 ≡ true → t3 ≡ true
        → cond t1 (refused 1) (cond t2 (cond t3 (cond t4 (refused 4) (serve box s (length xs) (frame_of xs))) (refused 3)) (refused 2)) ≡ refused n
        → Other n
    go true t2 t3 t4 g h e = let z : 1 ≡ n = cc in (λ y. omega arith, λ y. omega arith)
    go false false t3 t4 g h e = never (cc)
    go false true false t4 g h e = never (cc)
    go false true true true g h e = let z : 4 ≡ n = cc in (λ y. omega arith, λ y. omega arith)
    go false true true false g h e = serve-other s (length xs) (frame_of xs) n e

-- NO LATER CALL IS REFUSED WITH 2 OR 3
pub never-refused-as-bad : {s s' : State} → store_good s.store ≡ true → table_good (table s) ≡ true → Served s s'
    → (room : ℕ) (xs : List ℕ) (n : ℕ) → answers s' room xs ≡ refused n → (n ≡ STORE_BAD → ⊥) × (n ≡ DEVICE_BAD → ⊥)
never-refused-as-bad {s} {s'} g h l room xs n e = let w = stays-good g h l in not-bad s' room xs n w.0 w.1 e
