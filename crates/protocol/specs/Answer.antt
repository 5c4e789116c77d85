-- The answer of a call, from what a message is read as.
use Rattle.std.specs.Prelude.{ℕ, ◌+◌, List, Bool, cond, length, ltb}
use Rattle.std.proofs.Math.Option.{Option}
use Rattle.fields_schema.specs.Tree.{Tree}
use Rattle.protocol.specs.Frame.{Framing, more, closes, whole, frame_of}
use Rattle.protocol.specs.Reading.{Reading, closing, undecodable, read, reading_by}
use Rattle.protocol.specs.StatusCode.{CONNECTION_TERMINATED}
use Rattle.base_definitions.specs.Refusals.{OUT_SHORT, STORE_BAD, DEVICE_BAD, CLOSED, MORE, READINGS_BAD}
use Rattle.protocol.specs.Reply.{ReplyMessage, reply_bytes}

-- a reply, and what is lent afterwards
pub data Reply (S : Type 0) : Type 0 where
  reply : ReplyMessage → S → Reply S

pub data Outcome (S : Type 0) : Type 0 where
  -- by its number: nothing lent changes, no input is taken, no reply is written
  refused : ℕ → Outcome S
  -- reply bytes, what is lent afterwards, the count of input bytes taken
  answered : List ℕ → S → ℕ → Outcome S

-- the rest of document 01, any that there may be. A state is the store, the device record with its table, the readings, and the connection
pub record Device : Type 1 where
  pub State : Type 0
  pub store_good : State → Bool
  pub record_good : State → Bool
  pub closed : State → Bool
  pub readings_good : State → Bool
  -- the key of an identity, in the state's table
  pub key_of : State → ℕ → Option (List ℕ)
  -- the digest of a text under a key: the key first
  pub hmac : List ℕ → List ℕ → List ℕ
  -- the closing reply with a code, and the state with the connection closed
  pub close : State → ℕ → Reply State
  -- the reply INVALID_REQUEST to a command that does not decode: from the connection's number, signed with the identity and the key
  pub invalid : State → ℕ → List ℕ → ReplyMessage
  -- steps 4 to 10 and the reply: identity, key, command, value part
  pub decide : State → ℕ → List ℕ → Tree → List ℕ → Reply State

abbrev pub taking : {S : Type 0} → ℕ → Reply S → Outcome S
taking n (reply r s) = answered (reply_bytes r) s n

-- the call refusals 1 to 4, in their order: reply buffer short, store good, record good, connection closed
abbrev pub unless_refused : {S : Type 0} → Bool → Bool → Bool → Bool → Outcome S → Outcome S
unless_refused short store device closed o = cond short (refused OUT_SHORT) (cond store (cond device (cond closed (refused CLOSED) o) (refused DEVICE_BAD)) (refused STORE_BAD))

module _ (D : Device) where
  abbrev pub reading : D.State → List ℕ → Reading
  reading s m = reading_by D.hmac (D.key_of s) m

  abbrev pub respond : D.State → List ℕ → Reading → Reply D.State
  respond s v (closing code) = D.close s code
  respond s v (undecodable i key) = reply (D.invalid s i key) s
  respond s v (read i key t) = D.decide s i key t v

  -- document 02, CR 1: "a new call refusal 7, after the rest"
  abbrev pub unless_readings : D.State → Outcome D.State → Outcome D.State
  unless_readings s o = cond (D.readings_good s) o (refused READINGS_BAD)

  abbrev pub serve : D.State → ℕ → Framing → Outcome D.State
  serve s n more = refused MORE
  serve s n closes = unless_readings s (taking n (D.close s CONNECTION_TERMINATED))
  serve s n (whole m v rest) = unless_readings s (taking (9 + length m + length v) (respond s v (reading s m)))

  -- the length of the reply buffer, the input
  unfoldable pub answer : D.State → ℕ → List ℕ → Outcome D.State
  answer s out xs = unless_refused (ltb out 4096) (D.store_good s) (D.record_good s) (D.closed s) (serve s (length xs) (frame_of xs))
