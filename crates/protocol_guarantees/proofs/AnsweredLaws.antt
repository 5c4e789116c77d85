-- What came of a request that was answered, and that a reply says one thing.
use Rattle.std.specs.Prelude.{ℕ, ◌+◌, ◌≡◌, refl, ◌⊎◌, List, [], length, Some}
use Rattle.std.proofs.Common.{sym, ap, ◌∙◌, subst, inl, inr}
use Rattle.std.proofs.Math.Option.{Option, none, some}
use Rattle.fields_schema.specs.Tree.{map_o, Tree, listed, raw_at, sub_at}
use Rattle.fields_schema.specs.declared.Kind.TheVariants.{Message, ReplyCommand}
use Rattle.fields_encoding.proofs.BasicLaws.{never}
use Rattle.store_layout.proofs.CheckLaws.{store-decides}
use Rattle.protocol.specs.declared.Operation.{Operation}
use Rattle.protocol.specs.declared.Choice.{Choice}
use Rattle.protocol.specs.StatusCode.{SUCCESS, NOT_FOUND}
use Rattle.protocol.specs.State.{State}
use Rattle.protocol.specs.Command.{command_of}
use Rattle.protocol.specs.Operation.{Asked, asked_by, reply_type}
use Rattle.protocol.specs.Frame.{whole}
use Rattle.protocol.specs.Judge.{ReplyBody, Result, fault, judge}
use Rattle.protocol.specs.Reply.{signed_reply, command_tree, reply_tree}
use Rattle.protocol.specs.Answer.{answered, taking, respond}
use Rattle.protocol.specs.Box.{box, acl_of, sequence_of, type_of, judged, decide, message_in, reply_to}
use Rattle.protocol.specs.Reading.{read}
use Rattle.protocol.specs.ReplyContent.{judged_by}
use Rattle.protocol.specs.Readable.{SaysReply, Gives}
use Rattle.protocol.specs.PartsRead.{body_read, code_read}
use Rattle.protocol.proofs.PartsBackLaws.{reply-gives}
use Rattle.protocol.proofs.ReadBackLaws.{reply-says}
use Rattle.protocol.proofs.FirstStepsLaws.{steps-passed}
use Rattle.protocol_guarantees.specs.Answered.{operation_in, Asks, Answered, Admitted, Replies}
use Rattle.protocol_guarantees.specs.Cases.{Judged, before, after, obeyed, Came}
use Rattle.protocol_guarantees.proofs.CasesLaws.{judge-cases, answered-whole}

-- A REPLY SAYS ONE THING: a client finds no other code, body or value part in it
pub one-reply : {r : List ℕ} {code code' : ℕ} {b b' : ReplyBody} {x x' : List ℕ} → Replies r code b x → Replies r code' b' x' → (code ≡ code') × (b ≡ b') × (x ≡ x')
one-reply {r} {code} {code'} {b} {b'} {x} {x'} p q =
    let e : whole p.says.bytes x [] ≡ whole q.says.bytes x' [] = sym p.says.framed ∙ q.says.framed in
    let same_bytes : p.says.bytes ≡ q.says.bytes = cc in
    let same-value : x ≡ x' = cc in
    let m : some p.message ≡ some q.message = sym p.says.message_read ∙ ap (listed Message) same_bytes ∙ q.says.message_read in
    let same-message : p.message ≡ q.message = cc in
    let c : some p.says.command_bytes ≡ some q.says.command_bytes = sym p.says.carries ∙ ap (raw_at 7) same-message ∙ q.says.carries in
    let same-carried : p.says.command_bytes ≡ q.says.command_bytes = cc in
    let t : some p.command ≡ some q.command = sym p.says.command_read ∙ ap (listed ReplyCommand) same-carried ∙ q.says.command_read in
    let same-command : p.command ≡ q.command = cc in
    let n : some code ≡ some code' = sym p.code_read ∙ ap code_read same-command ∙ q.code_read in
    let same_code : code ≡ code' = cc in
    (same_code, sym p.body_read ∙ ap (λ t. body_read (sub_at 2 t)) same-command ∙ q.body_read, same-value)

map-some : {A B : Type 0} (f : A → B) (o : Option A) {b : B} → map_o f o ≡ some b → (a : A) × (o ≡ some a)
map-some f none e = never (cc)
map-some f (some a) e = (a, refl)

pub came : {s : State} {t : Tree} {v r : List ℕ} {s' : State} (a : Answered s t v r s') → Came s a.identity t v r s'
unfolding decide
came {s} {t} {v} {r} {s'} a =
    let i = a.identity in
    let key = a.key in
    let m = a.message in
    let xs = a.input in
    let k = 9 + length m + length v in
    let u = answered-whole s a.room xs m v a.rest r s' a.taken a.framed a.answer in
    let known = map-some (λ x. x.key) (acl_of s i) (steps-passed box s m a.reads).key_found in
    let j = judge s known.0 (command_of t) v in
    let tree = command_tree s.connection.number (sequence_of (command_of t).header) (reply_type (asked_by (type_of (command_of t).header))) j.body j.code in
    let e : answered (signed_reply i key tree j.value) j.state k ≡ answered r s' a.taken =
    sym (ap (λ x. taking k (judged s i key (command_of t) v x)) known.1) ∙ sym (ap (λ d. taking k (respond box s v d)) a.reads) ∙ u.2 in
    let state : j.state ≡ s' = cc in
    let x = reply-says s a.room xs r s' a.taken a.word a.answer in
    let told : some (message_in (judged s i key (command_of t) v (some known.0))) ≡ some x.message =
    sym (ap (λ o. some (message_in (judged s i key (command_of t) v o))) known.1) ∙ sym (ap (λ d. some (message_in (respond box s v d))) a.reads)
    ∙ sym (ap (reply_to s) a.framed) ∙ x.is in
    let same : message_in (judged s i key (command_of t) v (some known.0)) ≡ x.message = cc in
    let says = subst (SaysReply r) (sym same) x.says in
    let gives = subst (λ o. Gives s.connection.number (message_in (judged s i key (command_of t) v o)) (judged_by s i key (command_of t) v o)) known.1 (reply-gives s v (read i key t)) in
    record {
      acl = known.0;
      known = known.1;
      stored = (store-decides s.store).yes u.0;
      tabled = u.1;
      state = state;
      replies =
          record {
            message = reply_tree (message_in (judged s i key (command_of t) v (some known.0)));
            command = tree;
            says = says;
            code_read = gives.code;
            body_read = gives.body;
          };
    }

-- what a client reads is the result of steps 4 to 10
pub result : {s : State} {t : Tree} {v r : List ℕ} {s' : State} (a : Answered s t v r s') {code : ℕ} {b : ReplyBody} {x : List ℕ} → Replies r code b x
    → (judge s (came a).acl (command_of t) v).code ≡ code
result a h = (one-reply (came a).replies h).0

pub one-operation : {a : Asked} {x : Choice} {o : Operation} → a ≡ Some x → operation_in a ≡ some o → x.operation ≡ o
one-operation {a} {x} {o} e asks = let z : some x.operation ≡ some o = sym (ap operation_in e) ∙ asks in cc

-- SUCCESS ONLY WHERE PERMITTED: a request that is answered SUCCESS, or NOT_FOUND, passed steps 4 to 9
pub success-admitted : {s : State} {t : Tree} {v r : List ℕ} {s' : State} (a : Answered s t v r s') (o : Operation) → Asks t o
    → {code : ℕ} {b : ReplyBody} {x : List ℕ} → Replies r code b x → (code ≡ SUCCESS) ⊎ (code ≡ NOT_FOUND) → Admitted s a.identity t v o
success-admitted {s} {t} {v} a o asks {code} h y =
    go (judge s (came a).acl (command_of t) v) (judge-cases s (came a).acl (command_of t) v) (one y (result a h))
  where
    one : (code ≡ SUCCESS) ⊎ (code ≡ NOT_FOUND) → {n : ℕ} → n ≡ code → (n ≡ SUCCESS) ⊎ (n ≡ NOT_FOUND)
    one (inl e) q = inl (q ∙ e)
    one (inr e) q = inr (q ∙ e)

    never_both : {A : Type 0} {n : ℕ} → (n ≡ SUCCESS → ⊥) → (n ≡ NOT_FOUND → ⊥) → (n ≡ SUCCESS) ⊎ (n ≡ NOT_FOUND) → A
    never_both f g (inl e) = absurd (f e)
    never_both f g (inr e) = absurd (g e)

    go : (x : Result) → Judged s (came a).acl (command_of t) v x → (x.code ≡ SUCCESS) ⊎ (x.code ≡ NOT_FOUND) → Admitted s a.identity t v o
    go x (before n k) z = never_both n k z
    go x (after w n k) z = never_both n k z
    go y (obeyed {q = q} {x = x} w e f m) z =
        let i = one-operation e asks in
        record {
          sequence = q;
          passes = w;
          choice = x;
          chosen = e;
          asks = i;
          well_formed = ap (λ p. fault p (command_of t).body v) (sym i) ∙ f;
          acl = (came a).acl;
          known = (came a).known;
          may = m;
        }
