-- Demand 2: a reply read back by the field rules for replies gives what the steps gave and nothing else, for every reply that the box gives.
use Rattle.std.specs.Prelude.{ℕ, ◌+◌, ◌^◌, ◌<◌, ◌≡◌, refl, Bool, true, false, cond, ◌&&◌, List, [], length, ltb}
use Rattle.std.proofs.Common.{arith, ap}
use Rattle.std.proofs.Math.Path.{subst}
use Rattle.std.proofs.Math.Option.{Option, none, some}
use Rattle.fields_schema.specs.Tree.{map_o, then_o, guard, is_int32, Tree, listed, int_at, raw_at, sub_at}
use Rattle.fields_schema.specs.declared.Kind.TheVariants.{Message, Command as CommandKind}
use Rattle.fields_encoding.proofs.BasicLaws.{never}
use Rattle.access_record.specs.Table as access
use Rattle.access_record.specs.Table.{table_good}
use Rattle.store_layout.specs.Store.{store_good}
use Rattle.log_readings.specs.Lent.{readings_good}
use Rattle.signature_hmac.specs.Hmac.{hmac}
use Rattle.protocol.specs.StatusCode.{CONNECTION_TERMINATED}
use Rattle.protocol.specs.Frame.{Framing, more, closes, whole, frame_of}
use Rattle.protocol.specs.State.{State, table}
use Rattle.protocol.specs.Command.{header_of, command_of}
use Rattle.protocol.specs.Operation.{asked_by, reply_type}
use Rattle.protocol.proofs.OperationLaws.{asked-all}
use Rattle.protocol.specs.Judge.{judge}
use Rattle.base_definitions.specs.Lists.{all, same_bytes}
use Rattle.base_definitions.specs.Options.{or_else}
use Rattle.protocol.specs.Reading.{security_once, sent_once, decodes, Envelope, envelope, sealed, is_one, envelope_of, read_message, Reading, closing, undecodable, read, decoded, verified, opened, reading_by}
use Rattle.protocol.specs.Answer.{Outcome, refused, answered, unless_refused, reading, serve, respond, taking, answer}
use Rattle.protocol.specs.Box.{box, answers, acl_of, sequence_of, type_of, close, command_reply, judged, decide, message_in}
use Rattle.protocol.specs.Words.{Words}
use Rattle.protocol.proofs.WordLaws.{listed-words, int-word-at, sub-words-at}
use Rattle.protocol.proofs.ResultLaws.{judge-sent}
use Rattle.protocol.specs.ReplyFits.{CodeNamed, TypeFits, bares}
use Rattle.protocol.proofs.ReplyBackLaws.{known-code, known-type, signed-says, closing-says}
use Rattle.protocol.specs.Reply.{ReplyMessage, closing_with}
use Rattle.protocol.specs.ReplyContent.{closing_content, content_of}
use Rattle.protocol.proofs.PartsBackLaws.{reply-gives}
use Rattle.protocol.specs.Readable.{SaysReply, Replied}

-- what is read has 64-bit words, and closes with a named code
abbrev Readable : Reading → Type 0
Readable (closing code) = CodeNamed code
Readable (undecodable i key) = i < 2 ^ 64
Readable (read i key t) = (i < 2 ^ 64) × Words t

identity-word : (t : Tree) {i : ℕ} {sig c : List ℕ} → Words t → envelope_of t ≡ some (envelope i sig c) → i < 2 ^ 64
identity-word t {i} {sig} {c} w e = go (is_one (int_at 4 t)) (sub_at 5 t) (raw_at 7 t) (λ u q. sub-words-at 5 t w q) e
  where
    of : (o : Option ℕ) (x y : List ℕ) → ((j : ℕ) → o ≡ some j → j < 2 ^ 64) → then_o o (λ j. some (envelope j x y)) ≡ some (envelope i sig c) → i < 2 ^ 64
    of none x y f q = never (cc)
    of (some j) x y f q = let z : j ≡ i = cc in omega (arith, f j refl)

    go : (b : Bool) (o : Option Tree) (p : Option (List ℕ)) → ((u : Tree) → o ≡ some u → Words u) → cond b (sealed o p) none ≡ some (envelope i sig c) → i < 2 ^ 64
    go false o p f q = never (cc)
    go true none p f q = never (cc)
    go true (some u) none f q = never (cc)
    go true (some u) (some y) f q = of (int_at 1 u) (or_else [] (raw_at 2 u)) y (λ j z. int-word-at 1 u (f u refl) z) q

message-word : (m : List ℕ) {i : ℕ} {sig c : List ℕ} → read_message m ≡ some (envelope i sig c) → i < 2 ^ 64
unfolding read_message
message-word m {i} {sig} {c} e = go (listed Message m) (λ t q. listed-words Message m q) e
  where
    go : (o : Option Tree) → ((t : Tree) → o ≡ some t → Words t) → then_o o (λ t. envelope_of t) ≡ some (envelope i sig c) → i < 2 ^ 64
    go none f q = never (cc)
    go (some t) f q = identity-word t (f t refl) q

decoded-readable : (i : ℕ) (key : List ℕ) (o : Option Tree) → i < 2 ^ 64 → ((t : Tree) → o ≡ some t → Words t) → Readable (decoded i key o)
decoded-readable i key none h f = h
decoded-readable i key (some t) h f = (h, f t refl)

sent-same : (t u : Tree) (b : Bool) → guard b t ≡ some u → t ≡ u
sent-same t u true e = cc
sent-same t u false e = never (cc)

-- a command that decodes says its tree
pub decodes-listed : (c : List ℕ) {t : Tree} → decodes c ≡ some t → listed CommandKind c ≡ some t
decodes-listed c {t} e = go (listed CommandKind c) e
  where
    go : (o : Option Tree) → then_o o (λ t. sent_once t) ≡ some t → o ≡ some t
    go none e = never (cc)
    go (some u) e = ap some (sent-same u t (security_once u) e)

choose-readable : (b : Bool) (r : Reading) → Readable r → Readable (cond b r (closing 2))
choose-readable true r h = h
choose-readable false r h = known-code refl

module _ (key_of : ℕ → Option (List ℕ)) where
  verified-readable : (i : ℕ) (sig c : List ℕ) (o : Option (List ℕ)) → i < 2 ^ 64 → Readable (verified hmac key_of i sig c o)
  verified-readable i sig c none h = known-code refl
  verified-readable i sig c (some key) h =
      choose-readable (same_bytes sig (hmac key c)) (decoded i key (decodes c)) (decoded-readable i key (decodes c) h (λ t q. listed-words CommandKind c (decodes-listed c q)))

  opened-readable : (o : Option Envelope) → ((i : ℕ) (sig c : List ℕ) → o ≡ some (envelope i sig c) → i < 2 ^ 64) → Readable (opened hmac key_of o)
  opened-readable none f = known-code refl
  opened-readable (some (envelope i sig c)) f = verified-readable i sig c (key_of i) (f i sig c refl)

  readable : (m : List ℕ) → Readable (reading_by hmac key_of m)
  unfolding reading_by
  readable m = opened-readable (read_message m) (λ i sig c e. message-word m e)

-- ---- the parts of a reply

type-fits : (type : Option ℕ) → TypeFits (reply_type (asked_by type))
unfolding all
type-fits none = known-type refl
type-fits (some n) = known-type (asked-all (λ a. ltb (reply_type a) (2 ^ 64) && is_int32 (reply_type a)) refl refl n)

sequence-word : (t : Tree) {q : ℕ} → Words t → sequence_of (command_of t).header ≡ some q → q < 2 ^ 64
sequence-word t {q} w e = go (sub_at 1 t) (λ u z. sub-words-at 1 t w z) e
  where
    go : (o : Option Tree) → ((u : Tree) → o ≡ some u → Words u) → sequence_of (map_o header_of o) ≡ some q → q < 2 ^ 64
    go none f z = never (cc)
    go (some u) f z = int-word-at 4 u (f u refl) z

-- ---- every reply

-- an answered call says a reply
abbrev Answers : Outcome State → ReplyMessage → Type 0
Answers o t = (r : List ℕ) (s : State) (n : ℕ) → o ≡ answered r s n → SaysReply r t

module _ (s : State) (word : s.connection.number < 2 ^ 64) where
  closes-says : (n code : ℕ) → CodeNamed code → Answers (taking n (close s code)) (closing_with s.connection.number code)
  closes-says n code h r s' k e = subst (λ x. SaysReply x (closing_with s.connection.number code)) (cc) (closing-says s.connection.number code word h)

  module _ (good : store_good s.store ≡ true) (lent : readings_good s.readings ≡ true) where
    judged-says : (n i : ℕ) (key : List ℕ) (t : Tree) (v : List ℕ) (o : Option access.Acl) → i < 2 ^ 64 → Words t
        → Answers (taking n (judged s i key (command_of t) v o)) (message_in (judged s i key (command_of t) v o))
    judged-says n i key t v none h w r s' k e = closes-says n 2 (known-code refl) r s' k e
    judged-says n i key t v (some a) h w r s' k e =
        let j = judge-sent s a (command_of t) v good lent in
        subst (λ x. SaysReply x (message_in (command_reply s i key (command_of t) (judge s a (command_of t) v)))) (cc)
        (signed-says (record {
          identity_word = h;
          connection_word = word;
          ack_word = λ q z. sequence-word t w z;
          type_fits = type-fits (type_of (command_of t).header);
          body_good = j.body;
          code_named = j.code;
          value_short = j.value;
        }) key)

    respond-says : (n : ℕ) (v : List ℕ) (r : Reading) → Readable r → Answers (taking n (respond box s v r)) (message_in (respond box s v r))
    unfolding decide
    respond-says n v (closing code) h r s' k e = closes-says n code h r s' k e
    respond-says n v (undecodable i key) h r s' k e =
        subst (λ x. SaysReply x (box.invalid s i key)) (cc)
        (signed-says (record {
          identity_word = h;
          connection_word = word;
          ack_word = λ q z. never (cc);
          type_fits = type-fits none;
          body_good = bares;
          code_named = known-code refl;
          value_short = omega arith;
        }) key)
    respond-says n v (read i key t) h r s' k e = judged-says n i key t v (acl_of s i) h.0 h.1 r s' k e

  -- readings that were not refused are good
  unrefused : (t : Bool) (o : Outcome State) {r : List ℕ} {s' : State} {k : ℕ} → cond t o (refused 7) ≡ answered r s' k → (t ≡ true) × (o ≡ answered r s' k)
  unrefused true o e = (refl, e)
  unrefused false o e = never (cc)

  serve-says : (n : ℕ) (f : Framing) {r : List ℕ} {s' : State} {k : ℕ} → store_good s.store ≡ true → serve box s n f ≡ answered r s' k → Replied s f r
  serve-says n more good e = never (cc)
  serve-says n closes {r} {s'} {k} good e =
      let p = unrefused (readings_good s.readings) (taking n (close s CONNECTION_TERMINATED)) e in
      record {
        message = closing_with s.connection.number CONNECTION_TERMINATED;
        is = refl;
        says = closes-says n CONNECTION_TERMINATED (known-code refl) r s' k p.1;
        content = closing_content CONNECTION_TERMINATED;
        by_steps = refl;
        gives = reply-gives s [] (closing CONNECTION_TERMINATED);
      }
  serve-says n (whole m v rest) {r} {s'} {k} good e =
      let p = unrefused (readings_good s.readings) (taking (9 + length m + length v) (respond box s v (reading box s m))) e in
      record {
        message = message_in (respond box s v (reading box s m));
        is = refl;
        says = respond-says good p.0 (9 + length m + length v) v (reading box s m) (readable (box.key_of s) m) r s' k p.1;
        content = content_of s v (reading box s m);
        by_steps = refl;
        gives = reply-gives s v (reading box s m);
      }

-- an answered call passed the refusals
passed : (t1 t2 t3 t4 : Bool) (o : Outcome State) {r : List ℕ} {s' : State} {n : ℕ} → unless_refused t1 t2 t3 t4 o ≡ answered r s' n
    → (t2 ≡ true) × (o ≡ answered r s' n)
passed true t2 t3 t4 o e = never (cc)
passed false false t3 t4 o e = never (cc)
passed false true false t4 o e = never (cc)
passed false true true true o e = never (cc)
passed false true true false o e = (refl, e)

-- EVERY REPLY: in any lent state whose connection number is a 64-bit word, the reply of an answered call is one whole frame that fits the buffer; read by the
-- field rules for replies it gives the identity, connection, ackSequence, type, body, code and value of the steps, and nothing else
pub reply-says : (s : State) (out : ℕ) (xs r : List ℕ) (s' : State) (n : ℕ) → s.connection.number < 2 ^ 64 → answers s out xs ≡ answered r s' n
    → Replied s (frame_of xs) r
unfolding answer
reply-says s out xs r s' n word e =
    let p = passed (ltb out 4096) (store_good s.store) (table_good (table s)) s.connection.closed (serve box s (length xs) (frame_of xs)) e in
    serve-says s word (length xs) (frame_of xs) p.0 p.1
