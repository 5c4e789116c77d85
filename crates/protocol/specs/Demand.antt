-- Demand 3: what is put into a message, the two theorems' statements, and every place where it can be put in.
use Rattle.std.specs.Prelude.{ℕ, suc, ◌+◌, ◌*◌, ◌≤◌, ◌≡◌, ◌⊎◌, List, ◌++◌, length}
use Rattle.std.proofs.Math.Option.{some}
use Rattle.fields_schema.specs.FieldNumbers.{Message-command_bytes, HMACauth-hmac}
use Rattle.fields_schema.specs.Tree.{Tree}
use Rattle.fields_schema.specs.PutIn.{in_security, Nothing, PutIn}
use Rattle.fields_schema.specs.Boundaries.{Boundary, around, PutThere}
use Rattle.protocol.specs.Frame.{frame, Fits}
use Rattle.protocol.specs.Reading.{read_message, envelope, undecodable, read}
use Rattle.protocol.specs.Answer.{Device, Outcome, refused, answered, reading, answer}
use Rattle.fields_schema.specs.declared.Kind.{Kind}
use Rattle.fields_schema.specs.declared.Kind.TheVariants.{Message, HmacAuth, Command}
use Rattle.protocol.specs.Reply.{reply_bytes}

-- in the message around it the commandBytes and the hmac are: Edited and Signed say by what, for those that count
pub data Free : Kind → ℕ → List ℕ → List ℕ → Type 0 where
  command : (b b' : List ℕ) → Free Message Message-command_bytes b b'
  hmac : (b b' : List ℕ) → Free HmacAuth HMACauth-hmac b b'

-- m' is the message m with fields put in, c of them inside the security part, and lengths corrected: around the command, and in the commandBytes that count
pub record Edited (c : ℕ) (m m' : List ℕ) : Type 0 where
  pub around : PutIn Free Message 0 m m'
  pub within : (i i' : ℕ) (sig sig' b b' : List ℕ) → read_message m ≡ some (envelope i sig b) → read_message m' ≡ some (envelope i' sig' b') → PutIn Nothing Command c b b'

-- two outcomes are the same but for the count of input bytes taken: a of them there, a' here
abbrev pub SameBut : {S : Type 0} → ℕ → ℕ → Outcome S → Outcome S → Type 0
SameBut {S} a a' o o' =
    ((n : ℕ) × (o ≡ refused n) × (o' ≡ refused n))
    ⊎ ((reply : List ℕ) × (s : S) × (o ≡ answered reply s a) × (o' ≡ answered reply s a'))

-- the two calls, o and o', are refused with the same number, or both are answered: o taking a bytes, o' as `given`
abbrev pub RefusedOr : {S : Type 0} → ℕ → Outcome S → Outcome S → Outcome S → Type 0
RefusedOr {S} a o o' given =
    ((n : ℕ) × (o ≡ refused n) × (o' ≡ refused n))
    ⊎ ((reply : List ℕ) × (s : S) × (o ≡ answered reply s a) × (o' ≡ given))

module _ (D : Device) where
  -- signed under the key: the hmac that counts is right for the commandBytes that count
  abbrev pub Signed : List ℕ → List ℕ → Type 0
  Signed key m = (i : ℕ) (sig c : List ℕ) → read_message m ≡ some (envelope i sig c) → sig ≡ D.hmac key c

  -- the first half
  abbrev pub UnknownFieldsSame : Type 0
  UnknownFieldsSame =
      (s : D.State) (out : ℕ) (m m' v rest rest' : List ℕ) (i : ℕ) (key : List ℕ) (t : Tree)
      → reading D s m ≡ read i key t → Fits m v
      → Edited 0 m m' → Signed key m' → Fits m' v
      → (reading D s m' ≡ read i key t)
      × SameBut (length (frame m v)) (length (frame m' v)) (answer D s out (frame m v ++ rest)) (answer D s out (frame m' v ++ rest'))

  -- the second half: refused like the message without them, or INVALID_REQUEST, and the state as it was
  abbrev pub RefusedInsideSecurity : Type 0
  RefusedInsideSecurity =
      (s : D.State) (out : ℕ) (m m' v rest rest' : List ℕ) (i : ℕ) (key : List ℕ) (t : Tree) (c : ℕ)
      → reading D s m ≡ read i key t → Fits m v
      → Edited (suc c) m m' → Signed key m' → Fits m' v
      → (reading D s m' ≡ undecodable i key)
      × RefusedOr (length (frame m v)) (answer D s out (frame m v ++ rest)) (answer D s out (frame m' v ++ rest'))
      (answered (reply_bytes (D.invalid s i key)) s (length (frame m' v)))

-- a field boundary of the whole message m, of a message of kind j in it: "before, between and after the fields of Message, each HMACauth, the Command in the
-- commandBytes that count and each listed m in it at any depth"
pub data Place (m : List ℕ) : Kind → Type 0 where
  message : Boundary Message Message m → Place m Message
  auth : Boundary HmacAuth Message m → Place m HmacAuth
  command : {j : Kind} (i : ℕ) (sig b : List ℕ) → read_message m ≡ some (envelope i sig b) → Boundary j Command b → Place m j

-- how many messages stand around it, of those that count
abbrev pub deep : {m : List ℕ} {j : Kind} → Place m j → ℕ
deep (message p) = around p
deep (auth p) = around p
deep (command i sig b e p) = around p

-- m' is m with the bytes y put in at that place; if that is in the commandBytes that count, m' has others that count
abbrev pub PutAtPlace : List ℕ → {m : List ℕ} {j : Kind} → Place m j → List ℕ → Type 0
PutAtPlace y (message p) m' = PutThere y p m'
PutAtPlace y (auth p) m' = PutThere y p m'
PutAtPlace y (command i sig b e p) m' = (sig' b' : List ℕ) × (read_message m' ≡ some (envelope i sig' b')) × PutThere y p b'

-- m with the bytes y put in there, signed again under the key, and how much longer it is at most
pub record EditedAt (D : Device) (key y : List ℕ) {m : List ℕ} {j : Kind} (p : Place m j) : Type 0 where
  pub message : List ℕ
  pub put : PutAtPlace y p message
  pub edited : Edited (in_security j) m message
  pub signed : Signed D key message
  pub long : length message ≤ length m + length y + 20 * deep p + 60
