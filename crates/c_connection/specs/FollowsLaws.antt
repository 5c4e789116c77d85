-- What a call that answers does to the connection: it leaves it as it is, closes it, or accepts a sequence. It leaves the readings as they are.
-- And no refusal has the number 0.
use Rattle.std.specs.Prelude.{ℕ, ◌+◌, ◌≡◌, refl, Bool, true, false, List, ◌⊎◌, eqb, ltb, length}
use Rattle.std.proofs.Common.{arith, sym, ap, subst, ◌∙◌, inl, inr, eqb-true, eq-eqb}
use Rattle.std.proofs.Math.Bool.{cond}
use Rattle.std.proofs.Math.Option.{Option, none, some}
use Rattle.access_record.specs.Table as access
use Rattle.protocol.specs.State.{State, table}
use Rattle.protocol.specs.Command.{Header, Command, command_of}
use Rattle.protocol.specs.Judge.{judge, above_last}
use Rattle.protocol.specs.Passes.{Passes}
use Rattle.protocol.proofs.AcceptedLaws.{counted, not-counted, readings-stay}
use Rattle.protocol.specs.Frame.{Framing, more, closes, whole, frame_of}
use Rattle.protocol.specs.Reading.{Reading, closing, undecodable, read}
use Rattle.protocol.specs.Answer.{Reply, reply, Outcome, refused, taking, reading, respond, serve, answer}
use Rattle.protocol.specs.Box.{box, close, decide, judged, acl_of, answers}
use Rattle.c_connection.specs.Follows.{Follows, After, Leaves, stays, closed, accepted}

never : {A : Type 0} → ◌≡◌ {A = ℕ} 0 1 → A
never z = absurd (omega arith)

-- ---- steps 4 to 6 pass with some sequence, or with none
module _ (s : State) (c : Command) where
  abbrev Which : Type 0
  Which = ((q : ℕ) × Passes s c q) ⊎ ((q : ℕ) → Passes s c q → ⊥)

  tests : (h : Header) (i q : ℕ) → c.header ≡ some h → h.connection_id ≡ some i → h.sequence ≡ some q → (t u w : Bool)
      → eqb h.cluster_version (table s).cluster_version ≡ t → eqb i s.connection.number ≡ u → above_last q s.connection.last ≡ w → Which
  tests h i q e ei eq true true true et eu ew =
      inl (
        q,
        record {
          header = h;
          there = e;
          connection = ei ∙ ap some (eqb-true i s.connection.number eu);
          sequence = eq;
          version = eqb-true h.cluster_version (table s).cluster_version et;
          later = ew;
        },
      )
  tests h i q e ei eq false u w et eu ew = inr (λ r p. let a = p.there in let b = eq-eqb p.header.cluster_version (table s).cluster_version p.version in never (cc))
  tests h i q e ei eq true false w et eu ew =
      inr (λ r p. let a = p.there in let b = p.connection in let d : i ≡ s.connection.number = cc in let f = eq-eqb i s.connection.number d in never (cc))
  tests h i q e ei eq true true false et eu ew = inr (λ r p. let a = p.there in let b = p.sequence in let d : q ≡ r = cc in let f = p.later in never (cc))

  parts : (h : Header) → c.header ≡ some h → (i q : Option ℕ) → h.connection_id ≡ i → h.sequence ≡ q → Which
  parts h e none q ei eq = inr (λ r p. let a = p.there in let b = p.connection in never (cc))
  parts h e (some i) none ei eq = inr (λ r p. let a = p.there in let b = p.sequence in never (cc))
  parts h e (some i) (some q) ei eq =
      tests h i q e ei eq (eqb h.cluster_version (table s).cluster_version) (eqb i s.connection.number) (above_last q s.connection.last) refl refl refl

  which : (o : Option Header) → c.header ≡ o → Which
  which none e = inr (λ r p. let a = p.there in never (cc))
  which (some h) e = parts h e h.connection_id h.sequence refl refl

-- ---- each way to a reply
module _ (s : State) where
  abbrev Left : Reply State → Type 0
  Left (reply bytes t) = After s t

  judge-follows : (a : access.Acl) (c : Command) (v : List ℕ) → After s (judge s a c v).state
  judge-follows a c v = go (which s c c.header refl)
    where
      go : Which s c → After s (judge s a c v).state
      go (inl (q, p)) = (subst (λ d. Follows s.connection d) (sym (counted s a c v q p)) (Follows.accepted q), readings-stay s a c v)
      go (inr n) = subst (After s) (sym (not-counted s a c v n)) (Follows.stays, refl)

  judged-follows : (i : ℕ) (key : List ℕ) (c : Command) (v : List ℕ) (o : Option access.Acl) → Left (judged s i key c v o)
  judged-follows i key c v none = (Follows.closed, refl)
  judged-follows i key c v (some a) = judge-follows a c v

  respond-follows : (v : List ℕ) (r : Reading) → Left (respond box s v r)
  unfolding decide
  respond-follows v (closing code) = (Follows.closed, refl)
  respond-follows v (undecodable i key) = (Follows.stays, refl)
  respond-follows v (read i key t) = judged-follows i key (command_of t) v (acl_of s i)

  taking-leaves : (n : ℕ) (r : Reply State) → Left r → Leaves s (taking n r)
  taking-leaves n (reply bytes t) h = h

  leaves-choose : (t : Bool) (x y : Outcome State) → Leaves s x → Leaves s y → Leaves s (cond t x y)
  leaves-choose true x y h k = h
  leaves-choose false x y h k = k

  serve-leaves : (n : ℕ) (f : Framing) → Leaves s (serve box s n f)
  serve-leaves n more = omega arith
  serve-leaves n closes = leaves-choose (box.readings_good s) (taking n (close s 20)) (refused 7) (Follows.closed, refl) (omega arith)
  serve-leaves n (whole m v rest) =
      leaves-choose (box.readings_good s) (taking (9 + length m + length v) (respond box s v (reading box s m))) (refused 7)
      (taking-leaves (9 + length m + length v) (respond box s v (reading box s m)) (respond-follows v (reading box s m))) (omega arith)

  -- THE CONNECTION AFTER AN ANSWER
  pub answers-leave : (out : ℕ) (xs : List ℕ) → Leaves s (answers s out xs)
  unfolding answer
  answers-leave out xs =
      let served = serve box s (length xs) (frame_of xs) in
      let four = cond (box.closed s) (refused 4) served in
      let three = cond (box.record_good s) four (refused 3) in
      leaves-choose (ltb out 4096) (refused 1) (cond (box.store_good s) three (refused 2)) (omega arith)
      (leaves-choose (box.store_good s) three (refused 2)
      (leaves-choose (box.record_good s) four (refused 3)
      (leaves-choose (box.closed s) (refused 4) served (omega arith) (serve-leaves (length xs) (frame_of xs)))
      (omega arith))
      (omega arith))
