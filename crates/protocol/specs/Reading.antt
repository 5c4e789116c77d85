-- Steps 1 to 3 of document 01: what a message is read as.
use Rattle.std.specs.Prelude.{ℕ, List, [], Bool, false, cond, eqb, leb, length}
use Rattle.std.proofs.Math.Option.{Option, none, some}
use Rattle.fields_schema.specs.FieldNumbers.{Message-auth_type, Message-hmac_auth, Message-command_bytes, HMACauth-identity, HMACauth-hmac, Command-body}
use Rattle.fields_schema.specs.FieldNumbers.{Body-security}
use Rattle.fields_schema.specs.Tree.{Tree, then_o, guard, int_at, raw_at, sub_at, tree_in, subs_at, listed}
use Rattle.base_definitions.specs.Lists.{same_bytes}
use Rattle.base_definitions.specs.Options.{or_else}
use Rattle.fields_schema.specs.declared.Kind.TheVariants.{Message, Command}
use Rattle.protocol.specs.StatusCode.{HMAC_FAILURE, CONNECTION_TERMINATED}
use Rattle.protocol.specs.AuthType.{HMACAUTH}

-- step 1: the identity, the hmac and the commandBytes
pub data Envelope : Type 0 where
  envelope : ℕ → List ℕ → List ℕ → Envelope

-- of an HMACauth and the commandBytes, if they are there
abbrev pub sealed : Option Tree → Option (List ℕ) → Option Envelope
sealed none c = none
sealed (some u) none = none
sealed (some u) (some c) = then_o (int_at HMACauth-identity u) (λ i. some (envelope i (or_else [] (raw_at HMACauth-hmac u)) c))

-- authType is HMACAUTH
abbrev pub is_one : Option ℕ → Bool
is_one none = false
is_one (some a) = eqb a HMACAUTH

abbrev pub envelope_of : Tree → Option Envelope
envelope_of t = cond (is_one (int_at Message-auth_type t)) (sealed (sub_at Message-hmac_auth t) (raw_at Message-command_bytes t)) none

unfoldable pub read_message : List ℕ → Option Envelope
read_message m = then_o (listed Message m) (λ t. envelope_of t)

-- document 02, CR 5: "Security sent twice … stay[s] refused": in one body, or in two that are merged
unfoldable pub security_once : Tree → Bool
security_once t = leb (length (subs_at Body-security (tree_in (sub_at Command-body t)))) 1

abbrev pub sent_once : Tree → Option Tree
sent_once t = guard (security_once t) t

-- step 3: "Command decodes"
abbrev pub decodes : List ℕ → Option Tree
decodes c = then_o (listed Command c) (λ t. sent_once t)

pub data Reading : Type 0 where
  -- steps 1 and 2: the code
  closing : ℕ → Reading
  -- step 3: the identity and the key that verified
  undecodable : ℕ → List ℕ → Reading
  -- the same and the command
  read : ℕ → List ℕ → Tree → Reading

abbrev pub decoded : ℕ → List ℕ → Option Tree → Reading
decoded i key none = undecodable i key
decoded i key (some t) = read i key t

module _ (hmac : List ℕ → List ℕ → List ℕ) (key_of : ℕ → Option (List ℕ)) where
  abbrev pub verified : ℕ → List ℕ → List ℕ → Option (List ℕ) → Reading
  verified i sig c none = closing HMAC_FAILURE
  verified i sig c (some key) = cond (same_bytes sig (hmac key c)) (decoded i key (decodes c)) (closing HMAC_FAILURE)

  abbrev pub opened : Option Envelope → Reading
  opened none = closing CONNECTION_TERMINATED
  opened (some (envelope i sig c)) = verified i sig c (key_of i)

  unfoldable pub reading_by : List ℕ → Reading
  reading_by m = opened (read_message m)
