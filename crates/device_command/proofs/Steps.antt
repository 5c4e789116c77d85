-- Steps 3 to 10, exit by exit: the result of each is what the definitions say, and what was sent is the reply with it.
use Rattle.std.specs.Prelude.{None, Some, unwrap_or}
use mathlib.Core.Path.{◌≡◌, refl, sym, ap, subst, ◌∙◌}
use mathlib.Core.Bool.{Bool, true, false, cond}
use mathlib.Core.List.{List, []}
use mathlib.Core.Option.{Option, none, some}
use Prim.Native.Nat.{ℕ}
use lib.Dec.{eqb}
use borrow.Author.Tests.{eq-eqb, ne_eqb}
use lib.IntN.{ℤ, pos}
use Rattle.std.specs.Prelude as rust
use Rattle.std.specs.Option.{is_some}
use Rattle.base_integers.specs.Signed.{word_of}
use Rattle.fields_schema.specs.Tree.{Tree, guard, map_o}
use Rattle.access_record.specs.Table as access
use Rattle.access_record.specs.Table.{place_of}
use Rattle.fields_lookup.specs.Views.{signed_view}
use Rattle.protocol.specs.declared.Choice.{Choice}
use Rattle.protocol.specs.State.{State, Connection, accepted, with_sequence, lent, table}
use Rattle.protocol.specs.Command as c
use Rattle.base_definitions.specs.Options.{or_else}
use Rattle.protocol.specs.Command.{command_of}
use Rattle.protocol.specs.MessageType.{INVALID_MESSAGE_TYPE}
use Rattle.protocol.specs.Operation.{Asked, asked_by, reply_type}
use Rattle.protocol.specs.Judge.{Result, bare, fails, step7, step10, judge}
use Rattle.protocol.specs.Reply.{signed_by, command_tree}
use Rattle.protocol.specs.Reading.{decoded}
use Rattle.protocol.specs.Answer.{Reply, reply, respond}
use Rattle.protocol.specs.Box.{box, acl_at, decide, judged, sequence_of, command_reply, type_of}
use Rattle.request_command.specs.declared.Request.{Request}
use Rattle.request_parts.specs.Views.{header_view}
use Rattle.fields_encoding.proofs.BasicLaws.{never}
use Rattle.judge_header.specs.HeaderFault.{Heard, header_fault, header_there, id_in, sequence_in}
use Rattle.judge_header.proofs.RestLaws.{judge-by}
use Rattle.judge_header.specs.Rest.{served, rest, sequence_heard, type_in}
use Rattle.device_command.specs.declared.Heading.{Heading}
use Rattle.device_command.specs.Commands.{HeadingOf}
use Rattle.judge_permission.specs.Numbered.{asked_numbered}
use Rattle.judge_permission.specs.PermissionLaws.{asked-numbered}
use Rattle.judge_admission.specs.Admission.{admission}
use Rattle.judge_admission.specs.AdmissionLaws.{served-by}
use Rattle.reply_command.specs.declared.ReplyTo.{ReplyTo}
use Rattle.reply_command.specs.Repeated.{ack_of}
use Rattle.reply_send.specs.Sent.{Sent, replied}
use Rattle.reply_send.specs.SentLaws.{sent-as}

-- a step that gives a code, 0 where it is passed
failed : (s : State) (next : Result) (code : ℕ) {m : ℕ} → code ≡ m → (code ≡ 0 → ⊥) → fails s code ≡ cond (eqb m 0) next (fails s m)
failed s next code {m} e h = rw (ne_eqb m 0 (λ z. h (e ∙ z))) (ap (λ (m : ℕ). fails s m) e)

passed : (s : State) (next : Result) {m : ℕ} → m ≡ 0 → next ≡ cond (eqb m 0) next (fails s m)
passed s next {m} e = rw (eq-eqb m 0 e)

-- ---- steps 8 to 10

module _ (s : State) (acl : access.Acl) (x : Choice) (b : c.Body) (v : List ℕ) (a : ReplyTo) (by : List ℕ) (n : ℕ) (out out' : List ℕ) (p : Bool) (w : s.connection.protected ≡ p) (code : ℕ) (f : code ≡ admission acl p x b v) where
  by_code : code ≡ admission acl s.connection.protected x b v
  by_code = f ∙ ap (λ (p : Bool). admission acl p x b v) (sym w)

  pub not-admitted : (code ≡ 0 → ⊥) → Sent (replied a by (fails s code)) n out out' s → Sent (replied a by (served s acl x b v)) n out out' s
  not-admitted h g = sent-as a by (failed s (step10 s acl x.operation b v) code by_code h ∙ sym (served-by s acl x b v)) g

  pub done : code ≡ 0 → (after : State) → Sent (replied a by (step10 s acl x.operation b v)) n out out' after → Sent (replied a by (served s acl x b v)) n out out' after
  done z after g = sent-as a by (passed s (step10 s acl x.operation b v) (sym by_code ∙ z) ∙ sym (served-by s acl x b v)) g

-- ---- step 7

module _ (s : State) (acl : access.Acl) (b : c.Body) (v : List ℕ) (a : ReplyTo) (by : List ℕ) (n : ℕ) (out out' : List ℕ) (y : Asked) (type : Option ℕ) (f : y ≡ asked_by type) where
  pub built : (x : Choice) → y ≡ Some x → (after : State) → Sent (replied a by (served s acl x b v)) n out out' after → Sent (replied a by (rest s acl type b v)) n out out' after
  built x e after g = sent-as a by (ap (λ (y : Asked). step7 s y (λ x. served s acl x b v)) (sym e ∙ f)) g

  pub not-built : y ≡ None → Sent (replied a by (fails s 16)) n out out' s → Sent (replied a by (rest s acl type b v)) n out out' s
  not-built e g = sent-as a by (ap (λ (y : Asked). step7 s y (λ x. served s acl x b v)) (sym e ∙ f)) g

-- ---- steps 4 to 6

-- a field of a header that may not be there
of-header : (f : Option c.Header → Option ℕ) (x : c.Header) → f none ≡ none → (headed : Bool) → cond headed (f (some x)) none ≡ f (guard headed x)
of-header f x e true = refl
of-header f x e false = sym e

-- the sequence of a header that passes these steps
accepted-one : (s : State) (h : Option c.Header) (b : Bool) (q : ℕ) → guard b q ≡ sequence_of h → header_fault s h ≡ 0 → sequence_heard h ≡ q
accepted-one s none b q e f = never (cc)
accepted-one s (some h) b q e f = go h.connection_id h.sequence b e f
  where
    go : (i p : Option ℕ) (b : Bool) → guard b q ≡ p → header_there s h i p ≡ 0 → or_else 0 p ≡ q
    go none p b e f = never (cc)
    go (some i) none b e f = never (cc)
    go (some i) (some p) true e f = cc
    go (some i) (some p) false e f = never (cc)

-- a signed number by whether it is there and what stands for it
viewed : (n : rust.Option ℤ) → guard (is_some n) (word_of (unwrap_or n (pos 0))) ≡ signed_view n
viewed None = refl
viewed (Some v) = refl

module _ {x : Request} {h : Heading} (k : HeadingOf x h) (s : State) where
  abbrev Head : Option c.Header
  Head = guard x.headed (header_view x.header)

  sequence-of : signed_view h.sequence ≡ sequence_of Head
  sequence-of = k.sequence ∙ of-header sequence_of (header_view x.header) refl x.headed

  pub heard-by : (v : ℕ) → v ≡ word_of h.version → Heard s Head s.device v (signed_view h.id) (signed_view h.sequence) s.connection
  heard-by v ev =
      record {
        device = refl;
        version = λ y e. clustered x.headed y e;
        id = sym (k.id ∙ of-header id_in (header_view x.header) refl x.headed);
        sequence = sym (k.sequence ∙ of-header sequence_in (header_view x.header) refl x.headed);
        connection = refl;
      }
    where
      clustered : (b : Bool) (y : c.Header) → guard b (header_view x.header) ≡ some y → y.cluster_version ≡ v
      clustered true y e = let f : header_view x.header ≡ y = cc in ap (λ (y : c.Header). y.cluster_version) (sym f) ∙ sym (ev ∙ k.version)
      clustered false y e = never (cc)

  pub asked-as : h.asked ≡ asked_by (type_in Head)
  asked-as = k.asked ∙ ap asked_by (of-header type_in (header_view x.header) refl x.headed)

  -- the permission that is asked for has its bit
  pub bits : asked_numbered h.asked ≡ true
  bits = ap asked_numbered asked-as ∙ asked-numbered (type_in Head)

  -- what the reply repeats: an identity, the connection's number and the sequence
  module _ (i j l : ℤ) (identity : ℕ) (ei : word_of i ≡ identity) (ej : word_of j ≡ s.connection.number) (el : word_of l ≡ word_of (unwrap_or h.sequence (pos 0)))
      (r : ℕ) (u : r ≡ reply_type h.asked) (by : List ℕ) (b : c.Body) (acl : access.Acl) (w : List ℕ) (code n : ℕ) (out out' : List ℕ) (f : code ≡ header_fault s Head) where
    abbrev to_of : rust.Option ℤ → ReplyTo
    to_of sequence =
        record {
          identity = i;
          connection = j;
          sequence = sequence;
          kind = r;
        }

    abbrev To : ReplyTo
    To = to_of h.sequence

    abbrev Said : c.Command
    Said = record { header = Head; body = b }

    abbrev Rest : ℕ → Result
    Rest p = rest (accepted s p) acl (type_in Head) b w

    repeated : guard (is_some h.sequence) (word_of l) ≡ sequence_of Head
    repeated = ap (guard (is_some h.sequence)) el ∙ viewed h.sequence ∙ sequence-of

    -- the sequence, where the request has one
    acked-by : (n : rust.Option ℤ) → ack_of (to_of n) ≡ signed_view n
    acked-by None = refl
    acked-by (Some v) = refl

    acked : ack_of To ≡ sequence_of Head
    acked = acked-by h.sequence ∙ sequence-of

    -- what is sent by what the code repeats is the reply to the command
    sent-command : (y : Result) (after : State) → y ≡ judge s acl Said w → Sent (replied To by y) n out out' after → Sent (command_reply s identity by Said (judge s acl Said w)) n out out' after
    sent-command y after e g =
        let v = u ∙ ap reply_type (k.asked ∙ ap asked_by (of-header type_of (header_view x.header) refl x.headed)) in
        subst (λ (y : Reply State). Sent y n out out' after)
        (λ t. reply (signed_by (ei t) by (command_tree (ej t) (acked t) (v t) (e t).body (e t).code) (e t).value) (e t).state) g

    pub refused : (code ≡ 0 → ⊥) → Sent (replied To by (fails s code)) n out out' s → Sent (command_reply s identity by Said (judge s acl Said w)) n out out' s
    refused z g = sent-command (fails s code) s (failed s (Rest (sequence_heard Head)) code f z ∙ sym (judge-by s acl Said w)) g

    pub accepts : (store device : List ℕ) (after : Connection) → code ≡ 0 → after ≡ with_sequence s.connection (word_of l)
        → Sent (replied To by (Rest (word_of l))) n out out' (lent store device s.readings (with_sequence s.connection (word_of l))) → Sent (command_reply s identity by Said (judge s acl Said w)) n out out' (lent store device s.readings after)
    accepts store device after z e g =
        let y = sym f ∙ z in
        let q = accepted-one s Head (is_some h.sequence) (word_of l) repeated y in
        sent-command (Rest (word_of l)) (lent store device s.readings after) (ap Rest (sym q) ∙ passed s (Rest (sequence_heard Head)) y ∙ sym (judge-by s acl Said w))
        (subst (λ (x : Connection). Sent (replied To by (Rest (word_of l))) n out out' (lent store device s.readings x)) (sym e) g)

-- ---- step 3

module _ (s : State) (i : ℕ) (by : List ℕ) (v : List ℕ) (o : Option Tree) (x : c.Command) (ok : Bool) (e : guard ok x ≡ map_o command_of o) (n : ℕ) (out out' : List ℕ) where
  abbrev invalid_to : ℕ → ℕ → Reply State
  invalid_to a b = reply (signed_by a by (command_tree b none INVALID_MESSAGE_TYPE bare 16) []) s

  pub undecoded : ok ≡ false → {a b : ℕ} → a ≡ i → b ≡ s.connection.number → Sent (invalid_to a b) n out out' s → Sent (respond box s v (decoded i by o)) n out out' s
  undecoded f ea eb g = go o (ap (λ (b : Bool). guard b x) (sym f) ∙ e)
    where
      go : (o : Option Tree) → none ≡ map_o command_of o → Sent (respond box s v (decoded i by o)) n out out' s
      go none e = subst (λ (y : Reply State). Sent y n out out' s) (λ t. invalid_to (ea t) (eb t)) g
      go (some t) e = never (cc)

  pub decodes : ok ≡ true → (place : ℕ) → place_of (table s) i ≡ Some place → (after : State)
      → Sent (command_reply s i by x (judge s (access.acl_of (table s) place) x v)) n out out' after → Sent (respond box s v (decoded i by o)) n out out' after
  unfolding decide
  decodes f place p after g = go o (ap (λ (b : Bool). guard b x) (sym f) ∙ e)
    where
      go : (o : Option Tree) → some x ≡ map_o command_of o → Sent (respond box s v (decoded i by o)) n out out' after
      go none e = never (cc)
      go (some t) e =
          let f : x ≡ command_of t = cc in
          subst (λ (y : Reply State). Sent y n out out' after) (λ j. judged s i by (f j) v (acl_at s (sym p j))) g
