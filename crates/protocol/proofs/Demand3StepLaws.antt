-- Demand 3 proved, from the laws of the fields crate on fields put in.
use Rattle.std.specs.Prelude.{ℕ, suc, ◌+◌, ◌≡◌, refl, List, ◌++◌, Bool, true, false, cond, length, ltb}
use Rattle.std.proofs.Common.{arith, sym, ◌∙◌, subst₂, inl, inr, length-append}
use Rattle.std.proofs.Math.Path.{ap}
use Rattle.std.proofs.Math.Option.{some}
use Rattle.base_definitions.specs.BigEndian.{be32}
use Rattle.fields_schema.specs.Tree.{then_o, guard, Tree}
use Rattle.fields_schema.specs.PutIn.{Nothing, PutIn}
use Rattle.fields_schema.proofs.PutInLaws.{put-in-same}
use Rattle.fields_schema.proofs.StrictLaws.{put-in-refused}
use Rattle.fields_schema.specs.declared.Kind.TheVariants.{Command}
use Rattle.protocol.specs.Frame.{frame, Fits}
use Rattle.protocol.proofs.FrameLaws.{frame-read}
use Rattle.protocol.specs.Reading.{sent_once, decodes, Reading, undecodable, read, decoded}
use Rattle.protocol.specs.Answer.{Reply, reply, Device, Outcome, refused, answered, taking, unless_refused, reading, respond, unless_readings, serve, answer}
use Rattle.protocol.specs.Demand.{Edited, SameBut, RefusedOr, Signed, UnknownFieldsSame, RefusedInsideSecurity}
use Rattle.protocol.proofs.FirstStepsLaws.{steps-passed, steps-open, reads}
use Rattle.protocol.proofs.EditedLaws.{read-like}
use Rattle.protocol.specs.Reply.{reply_bytes}

taking-both : {S : Type 0} (r : Reply S) (a a' : ℕ) → SameBut a a' (taking a r) (taking a' r)
taking-both (reply x s) a a' = inr (reply_bytes x, s, refl, refl)

-- two calls with the same reply, past the same refusals, differ in the count that is taken
pub both : {S : Type 0} (t1 t2 t3 t4 t5 : Bool) (r : Reply S) (a a' : ℕ)
    → SameBut a a' (unless_refused t1 t2 t3 t4 (cond t5 (taking a r) (refused 7))) (unless_refused t1 t2 t3 t4 (cond t5 (taking a' r) (refused 7)))
both true t2 t3 t4 t5 r a a' = inl (1, refl, refl)
both false false t3 t4 t5 r a a' = inl (2, refl, refl)
both false true false t4 t5 r a a' = inl (3, refl, refl)
both false true true true t5 r a a' = inl (4, refl, refl)
both false true true false false r a a' = inl (7, refl, refl)
both false true true false true r a a' = taking-both r a a'

-- the other call: refused alike, or answered with what it takes
or-answered : {S : Type 0} (t1 t2 t3 t4 t5 : Bool) (r : Reply S) (a : ℕ) (o : Outcome S)
    → RefusedOr a (unless_refused t1 t2 t3 t4 (cond t5 (taking a r) (refused 7))) (unless_refused t1 t2 t3 t4 (cond t5 o (refused 7))) o
or-answered true t2 t3 t4 t5 r a o = inl (1, refl, refl)
or-answered false false t3 t4 t5 r a o = inl (2, refl, refl)
or-answered false true false t4 t5 r a o = inl (3, refl, refl)
or-answered false true true true t5 r a o = inl (4, refl, refl)
or-answered false true true false false r a o = inl (7, refl, refl)
or-answered false true true false true (reply x s) a o = inr (reply_bytes x, s, refl, refl)

pub not-refused : {S : Type 0} (t1 t2 t3 t4 t5 : Bool) (o : Outcome S) → ((n : ℕ) → unless_refused t1 t2 t3 t4 (cond t5 o (refused 7)) ≡ refused n → ⊥)
    → unless_refused t1 t2 t3 t4 (cond t5 o (refused 7)) ≡ o
not-refused true t2 t3 t4 t5 o h = absurd (h 1 refl)
not-refused false false t3 t4 t5 o h = absurd (h 2 refl)
not-refused false true false t4 t5 o h = absurd (h 3 refl)
not-refused false true true true t5 o h = absurd (h 4 refl)
not-refused false true true false false o h = absurd (h 7 refl)
not-refused false true true false true o h = refl

frame-length : (m v : List ℕ) → 9 + length m + length v ≡ length (frame m v)
unfolding frame be32
frame-length m v = omega (arith, length-append m v)

module _ (D : Device) where
  abbrev gate : D.State → ℕ → Outcome D.State → Outcome D.State
  gate s out o = unless_refused (ltb out 4096) (D.store_good s) (D.record_good s) (D.closed s) (unless_readings D s o)

  -- past the refusals, the answer to a whole frame takes that frame and responds to what is read
  pub answers : (s : D.State) (out : ℕ) (m v rest : List ℕ) {r : Reading} → Fits m v → reading D s m ≡ r
      → answer D s out (frame m v ++ rest) ≡ gate s out (taking (length (frame m v)) (respond D s v r))
  unfolding answer
  answers s out m v rest {r} f e =
      ap (λ x. unless_refused (ltb out 4096) (D.store_good s) (D.record_good s) (D.closed s) (serve D s (length (frame m v ++ rest)) x)) (frame-read rest f)
      ∙ ap (λ n. gate s out (taking n (respond D s v (reading D s m)))) (frame-length m v)
      ∙ ap (λ r. gate s out (taking (length (frame m v)) (respond D s v r))) e

  -- what counts in the edited message, and that it is put in there
  module _ (s : D.State) (m m' : List ℕ) (c : ℕ) {i : ℕ} {key : List ℕ} {t : Tree} (e : reading D s m ≡ read i key t) (r : Edited c m m') (g : Signed D key m') where
    edited-reading : (b b' : List ℕ) × PutIn Nothing Command c b b' × (decodes b ≡ some t) × (reading D s m' ≡ decoded i key (decodes b'))
    edited-reading =
        let p = steps-passed D s m e in
        let a = read-like r.around (steps-open D s m p) in (
          p.command_bytes,
          a.1,
          r.within i i (D.hmac key p.command_bytes) a.0 p.command_bytes a.1 (steps-open D s m p) a.2,
          ap (λ o. then_o o (λ t. sent_once t)) p.command_decodes ∙ ap (λ b. guard b t) p.security_once,
          reads D s m' a.2 p.key_found (g i a.0 a.1 a.2),
        )

  -- THE FIRST HALF of the reading
  same-reading : (s : D.State) (m m' : List ℕ) {i : ℕ} {key : List ℕ} {t : Tree} → reading D s m ≡ read i key t → Edited 0 m m' → Signed D key m' → reading D s m' ≡ read i key t
  same-reading s m m' {i} {key} {t} e r g =
      let x = edited-reading s m m' 0 e r g in x.4 ∙ ap (decoded i key) (ap (λ o. then_o o (λ t. sent_once t)) (put-in-same x.2) ∙ x.3)

  -- THE SECOND HALF of the reading
  undecodable-reading : (s : D.State) (m m' : List ℕ) {i : ℕ} {key : List ℕ} {t : Tree} (c : ℕ) → reading D s m ≡ read i key t → Edited (suc c) m m' → Signed D key m'
      → reading D s m' ≡ undecodable i key
  undecodable-reading s m m' {i} {key} {t} c e r g =
      let x = edited-reading s m m' (suc c) e r g in x.4 ∙ ap (decoded i key) (ap (λ o. then_o o (λ t. sent_once t)) (put-in-refused Nothing x.2))

  pub same_answer : UnknownFieldsSame D
  same_answer s out m m' v rest rest' i key t e f r g f' =
      let e' = same-reading s m m' e r g in (
        e',
        subst₂ (SameBut (length (frame m v)) (length (frame m' v))) (sym (answers s out m v rest f e)) (sym (answers s out m' v rest' f' e'))
            (both (ltb out 4096) (D.store_good s) (D.record_good s) (D.closed s) (D.readings_good s) (D.decide s i key t v) (length (frame m v)) (length (frame m' v))),
      )

  pub refused-inside : RefusedInsideSecurity D
  refused-inside s out m m' v rest rest' i key t c e f r g f' =
      let e' = undecodable-reading s m m' c e r g in
      let o = answered (reply_bytes (D.invalid s i key)) s (length (frame m' v)) in (
        e',
        subst₂ (λ x y. RefusedOr (length (frame m v)) x y o) (sym (answers s out m v rest f e)) (sym (answers s out m' v rest' f' e'))
            (or-answered (ltb out 4096) (D.store_good s) (D.record_good s) (D.closed s) (D.readings_good s) (D.decide s i key t v) (length (frame m v)) o),
      )
