-- An edited message is read alike; edited twice, it is edited; and it can be edited at every field boundary.
use Rattle.std.specs.Prelude.{ℕ, ◌+◌, ◌*◌, ◌^◌, ◌≤◌, ◌<◌, ◌≡◌, refl, List, [], Bool, true, false, cond, length}
use Rattle.std.proofs.Common.{arith, sym, ◌∙◌, subst, subst₂}
use Rattle.std.proofs.Math.Path.{ap}
use Rattle.std.proofs.Math.Option.{Option, none, some}
use Rattle.fields_wire.specs.Wire.{Value, field, Framed}
use Rattle.fields_schema.specs.Rules.{rule_of}
use Rattle.fields_schema.specs.Tree.{then_o, Tree, int_at, raw_at, sub_at, listed}
use Rattle.fields_schema.specs.PutIn.{in_security, Nothing, PutIn, EqualBut, EqualButO}
use Rattle.fields_schema.proofs.PutInLaws.{put-in-same, put-in-replaced}
use Rattle.fields_schema.proofs.PutInTwiceLaws.{put-in-twice}
use Rattle.fields_schema.specs.EqualBut.{RawsBut, SubsBut}
use Rattle.fields_schema.proofs.EqualButLaws.{int-equal, raw-equal, sub-equal}
use Rattle.fields_schema.proofs.BoundariesLaws.{put-in-anywhere, boundary-takes}
use Rattle.fields_schema.proofs.ReplacedLaws.{found-length, replace-bytes, replace-inside}
use Rattle.fields_schema.specs.declared.Kind.{Kind}
use Rattle.fields_schema.specs.declared.Kind.TheVariants.{Message, HmacAuth, Command}
use Rattle.fields_schema.specs.declared.Rule.TheVariants.{Unlisted}
use Rattle.fields_encoding.proofs.BasicLaws.{never}
use Rattle.signature_hmac.specs.Hmac.{hmac}
use Rattle.base_definitions.specs.Options.{or_else}
use Rattle.protocol.specs.AuthType.{HMACAUTH}
use Rattle.protocol.specs.Reading.{Envelope, envelope, sealed, is_one, envelope_of, read_message, read}
use Rattle.protocol.specs.State.{State}
use Rattle.protocol.specs.Answer.{reading}
use Rattle.protocol.specs.FirstSteps.{FirstSteps}
use Rattle.protocol.proofs.FirstStepsLaws.{steps-passed, steps-open}
use Rattle.protocol.specs.Box.{box}
use Rattle.protocol.proofs.DigestLaws.{hmac-length}
use Rattle.protocol.specs.Demand.{Free, Edited, Signed, Place, deep, EditedAt}

-- the message is read alike ----------------------------------------------------------------------------------------

-- it is read too, with the same identity
record Alike (i : ℕ) (o : Option Envelope) : Type 0 where
  sig : List ℕ
  command : List ℕ
  is : o ≡ some (envelope i sig command)

identity-like : (o o' : Option ℕ) (sig sig' c c' : List ℕ) {i : ℕ} {z d : List ℕ} → o ≡ o'
    → then_o o (λ i. some (envelope i sig c)) ≡ some (envelope i z d) → Alike i (then_o o' (λ i. some (envelope i sig' c')))
identity-like none o' sig sig' c c' q e = never (cc)
identity-like (some j) o' sig sig' c c' q e =
    record { sig = sig'; command = c'; is = ap (λ o. then_o o (λ i. some (envelope i sig' c'))) (sym q) ∙ ap (λ i. some (envelope i sig' c')) (cc) }

-- of the commandBytes: in both or in none
with-command : (u u' : Tree) → int_at 1 u ≡ int_at 1 u' → {p p' : Option (List ℕ)} {i : ℕ} {sig c : List ℕ} → RawsBut Free Message 7 p p'
    → sealed (some u) p ≡ some (envelope i sig c) → Alike i (sealed (some u') p')
with-command u u' q (RawsBut.equal none) e = never (cc)
with-command u u' q (RawsBut.equal (some b)) e = identity-like (int_at 1 u) (int_at 1 u') (or_else [] (raw_at 2 u)) (or_else [] (raw_at 2 u')) b b q e
with-command u u' q (RawsBut.replaced b b' w) e = identity-like (int_at 1 u) (int_at 1 u') (or_else [] (raw_at 2 u)) (or_else [] (raw_at 2 u')) b b' q e

-- of the HMACauth
sealed-like : {o o' : Option Tree} {p p' : Option (List ℕ)} {i : ℕ} {sig c : List ℕ} → SubsBut Free Message 5 o o' → RawsBut Free Message 7 p p'
    → sealed o p ≡ some (envelope i sig c) → Alike i (sealed o' p')
sealed-like (SubsBut.equal none) r e = never (cc)
sealed-like (SubsBut.equal (some u)) r e = with-command u u refl r e
sealed-like (SubsBut.subs {t = u} {t' = u'} k' g q) r e = with-command u u' (int-equal Free 1 q) r e

choose-like : (t : Bool) (o o' : Option Envelope) {i : ℕ} {sig c : List ℕ} → cond t o none ≡ some (envelope i sig c) → (o ≡ some (envelope i sig c) → Alike i o')
    → Alike i (cond t o' none)
choose-like true o o' e f = f e
choose-like false o o' e f = never (cc)

envelope-like : {t t' : Tree} {i : ℕ} {sig c : List ℕ} → EqualBut Free Message t t' → envelope_of t ≡ some (envelope i sig c) → Alike i (envelope_of t')
envelope-like {t} {t'} {i} r e =
    subst (λ x. Alike i (cond (is_one x) (sealed (sub_at 5 t') (raw_at 7 t')) none)) (int-equal Free 4 r)
    (choose-like (is_one (int_at 4 t)) (sealed (sub_at 5 t) (raw_at 7 t)) (sealed (sub_at 5 t') (raw_at 7 t')) e
    (λ q. sealed-like (sub-equal Free 5 r) (raw-equal Free 7 r) q))

tree-like : {o o' : Option Tree} {i : ℕ} {sig c : List ℕ} → EqualButO Free Message o o' → then_o o (λ t. envelope_of t) ≡ some (envelope i sig c)
    → Alike i (then_o o' (λ t. envelope_of t))
tree-like EqualButO.nones e = never (cc)
tree-like (EqualButO.somes r) e = envelope-like r e

pub read-like : {m m' : List ℕ} {i : ℕ} {sig c : List ℕ} → PutIn Free Message 0 m m' → read_message m ≡ some (envelope i sig c)
    → (sig' c' : List ℕ) × (read_message m' ≡ some (envelope i sig' c'))
unfolding read_message
read-like r e = let a = tree-like (put-in-replaced Free r) e in (a.sig, a.command, a.is)

-- what is read of both messages tells what counts; fields put around the command and into it
envelopes : {i j : ℕ} {x y b c : List ℕ} → ◌≡◌ {A = Option Envelope} (some (envelope i x b)) (some (envelope j y c)) → (i ≡ j) × (x ≡ y) × (b ≡ c)
envelopes e = (cc, cc, cc)

pub edited-by : {c i i' : ℕ} {sig sig' b b' : List ℕ} (m m' : List ℕ) → read_message m ≡ some (envelope i sig b) → read_message m' ≡ some (envelope i' sig' b')
    → PutIn Free Message 0 m m' → PutIn Nothing Command c b b' → Edited c m m'
edited-by {c} m m' r r' a p =
    record { around = a; within = λ j j' x x' d d' e e'. subst₂ (PutIn Nothing Command c) (envelopes (sym r ∙ e)).2 (envelopes (sym r' ∙ e')).2 p }

pub signed_by : {i : ℕ} (key b m : List ℕ) → read_message m ≡ some (envelope i (hmac key b) b) → Signed box key m
signed_by key b m r j sig c e = let z = envelopes (sym r ∙ e) in sym z.1 ∙ ap (hmac key) z.2

-- edited twice ------------------------------------------------------------------------------------------------------------

free-twice : (k : Kind) (n : ℕ) (a b c : List ℕ) → Free k n a b → Free k n b c → Free k n a c
free-twice k n a b c (Free.command a' b') h = Free.command a c
free-twice k n a b c (Free.hmac a' b') h = Free.hmac a c

never-twice : (k : Kind) (n : ℕ) (a b c : List ℕ) → Nothing k n a b → Nothing k n b c → Nothing k n a c
never-twice k n a b c h i = h

-- EDITED TWICE: a message with fields put in, and then others, is that message with fields put in, the counts inside the security part added
pub edited-again : {c d : ℕ} {l m n : List ℕ} → Edited c l m → Edited d m n → Edited (c + d) l n
edited-again {c} {d} {l} {m} {n} p q =
    record {
      around = put-in-twice Free free-twice p.around q.around;
      within = λ i i' sig sig' b b' e e'.
          let x = read-like p.around e in
          put-in-twice Nothing never-twice (p.within i i sig x.0 b x.1 e x.2) (q.within i i' x.0 sig' x.1 b' x.2 e');
    }

-- at every field boundary ---------------------------------------------------------------------------------------------------

-- the parts of a message that is read, replaced: what is read then
read-parts : (m : List ℕ) (t u : Tree) {i : ℕ} {sig c : List ℕ} → listed Message m ≡ some t → int_at 4 t ≡ some HMACAUTH → sub_at 5 t ≡ some u → int_at 1 u ≡ some i
    → raw_at 2 u ≡ some sig → raw_at 7 t ≡ some c → read_message m ≡ some (envelope i sig c)
unfolding read_message
read-parts m t u {i} {sig} {c} l a h j g r =
    ap (λ o. then_o o (λ t. envelope_of t)) l ∙ (λ z. cond (is_one (a z)) (sealed (h z) (r z)) none)
    ∙ ap (λ o. then_o o (λ i. some (envelope i (or_else [] (raw_at 2 u)) c))) j ∙ ap (λ o. some (envelope i (or_else [] o) c)) g

-- an hmac of 20 bytes is there
present : (o : Option (List ℕ)) (b : List ℕ) → or_else [] o ≡ b → length b ≡ 20 → o ≡ some b
present none b e l = absurd (omega (arith, ap length e, l))
present (some a) b e l = ap some e

module _ (s : State) (m : List ℕ) {i : ℕ} {key : List ℕ} {t : Tree} (e : reading box s m ≡ read i key t) where
  steps : FirstSteps box s m i key t
  steps = steps-passed box s m e

  -- around the command: it is the same, and so is its hmac
  outside-edited : (m' : List ℕ) → PutIn Nothing Message 0 m m' → PutIn Free Message 0 m m' → Edited 0 m m' × Signed box key m'
  unfolding read_message
  outside-edited m' p q =
      let r = ap (λ o. then_o o (λ t. envelope_of t)) (put-in-same p) ∙ steps-open box s m steps in
      (edited-by m m' (steps-open box s m steps) r q (PutIn.same Command steps.command_bytes), signed_by key steps.command_bytes m' r)

  -- in the command that counts: it is replaced, and then its hmac
  inside-edited : (c : ℕ) (b' : List ℕ) → PutIn Nothing Command c steps.command_bytes b' → length b' < 2 ^ 64 → length m + length b' + 100 < 2 ^ 64 + length steps.command_bytes
      → (m' : List ℕ) × Edited c m m' × Signed box key m' × (read_message m' ≡ some (envelope i (hmac key b') b')) × (length m' + length steps.command_bytes ≤ length m + length b' + 60)
  inside-edited c b' p l l' =
      let b = steps.command_bytes in
      let x = replace-bytes Message 7 m b refl refl steps.message_decodes steps.command_present Free b' (Free.command b b') (omega arith) in
      let a = present (raw_at 2 steps.auth) (hmac key b) steps.hmac_right (hmac-length key b) in
      let y = replace-inside Free Message 5 HmacAuth 2 refl refl refl refl x.message (hmac key b) (hmac key b') x.says (x.subs 5 ∙ steps.auth_present) a
      (Free.hmac (hmac key b) (hmac key b')) (omega (arith, x.long, hmac-length key b')) in
      let r : read_message y.message ≡ some (envelope i (hmac key b') b') =
      read-parts y.message y.tree y.inner y.says (y.ints 4 ∙ x.ints 4 ∙ steps.auth_type) y.is (y.inner_ints 1 ∙ steps.identity_present) y.bytes (y.raws 7 ∙ x.bytes) in (
        y.message,
        edited-by m y.message (steps-open box s m steps) r (put-in-twice Free free-twice x.put y.put) p,
        signed_by key b' y.message r,
        r,
        omega (arith, x.long, y.long, hmac-length key b, hmac-length key b'),
      )

  -- EVERY PLACE: at every field boundary of a message that is read any well-framed field that is not listed there can be put in, and the message signed again
  pub edited-anywhere : {j : Kind} (p : Place m j) (n : ℕ) (v : Value) (y : List ℕ) → Framed (field n v) y → rule_of j n ≡ Unlisted → length m + length y + 20 * deep p + 100 < 2 ^ 64
      → EditedAt box key y p
  edited-anywhere (Place.message p) n v y h u l =
      let k = boundary-takes y p (omega arith) in
      let q = outside-edited k.message (put-in-anywhere Nothing n v h u k.put.at) (put-in-anywhere Free n v h u k.put.at) in
      record { message = k.message; put = k.put; edited = q.0; signed = q.1; long = omega (arith, k.long) }
  edited-anywhere (Place.auth p) n v y h u l =
      let k = boundary-takes y p (omega arith) in
      let q = outside-edited k.message (put-in-anywhere Nothing n v h u k.put.at) (put-in-anywhere Free n v h u k.put.at) in
      record { message = k.message; put = k.put; edited = q.0; signed = q.1; long = omega (arith, k.long) }
  edited-anywhere {j} (Place.command i' sig b r p) n v y h u l =
      let x = envelopes (sym r ∙ steps-open box s m steps) in
      let z = x.2 in
      let c = found-length Message 7 m b refl refl steps.message_decodes (steps.command_present ∙ ap some (sym z)) in
      let k = boundary-takes y p (omega (arith, c)) in
      let q = inside-edited (in_security j) k.message (subst (λ l. PutIn Nothing Command (in_security j) l k.message) z (put-in-anywhere Nothing n v h u k.put.at))
      (omega (arith, c, k.long)) (omega (arith, k.long, ap length z)) in
      record {
        message = q.0;
        put = (hmac key k.message, k.message, q.3 ∙ ap (λ i. some (envelope i (hmac key k.message) k.message)) (sym x.0), k.put);
        edited = q.1;
        signed = q.2;
        long = omega (arith, k.long, q.4, ap length z);
      }
