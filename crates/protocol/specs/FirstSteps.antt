-- Steps 1 to 3 of document 01 one by one: what is so of a message that is read.
use Rattle.std.specs.Prelude.{ℕ, ◌≡◌, true, List, []}
use Rattle.std.proofs.Math.Option.{some}
use Rattle.fields_schema.specs.FieldNumbers.{Message-auth_type, Message-hmac_auth, Message-command_bytes, HMACauth-identity, HMACauth-hmac}
use Rattle.fields_schema.specs.Tree.{Tree, int_at, raw_at, sub_at, listed}
use Rattle.base_definitions.specs.Options.{or_else}
use Rattle.fields_schema.specs.declared.Kind.TheVariants.{Message, Command}
use Rattle.protocol.specs.AuthType.{HMACAUTH}
use Rattle.protocol.specs.Reading.{security_once}
use Rattle.protocol.specs.Answer.{Device}

pub record FirstSteps (D : Device) (s : D.State) (m : List ℕ) (identity : ℕ) (key : List ℕ) (command : Tree) : Type 0 where
  -- 1. "Message decodes; authType must be 1, with HMACauth, its identity and commandBytes present"
  pub message : Tree
  pub auth : Tree
  pub command_bytes : List ℕ
  pub message_decodes : listed Message m ≡ some message
  pub auth_type : int_at Message-auth_type message ≡ some HMACAUTH
  pub auth_present : sub_at Message-hmac_auth message ≡ some auth
  pub identity_present : int_at HMACauth-identity auth ≡ some identity
  pub command_present : raw_at Message-command_bytes message ≡ some command_bytes
  -- 2. "Identity in the table and hmac right over commandBytes"
  pub key_found : D.key_of s identity ≡ some key
  pub hmac_right : or_else [] (raw_at HMACauth-hmac auth) ≡ D.hmac key command_bytes
  -- 3. "Command decodes"; document 02, CR 5: no second Security
  pub command_decodes : listed Command command_bytes ≡ some command
  pub security_once : security_once command ≡ true
