-- A signed reply in the runs that a writer makes of it, from its end to its front.
use Rattle.std.specs.Prelude.{ℕ, ◌≡◌, List, ◌++◌, length, drop}
use Rattle.fields_schema.specs.FieldNumbers.{Message-auth_type, Message-hmac_auth, HMACauth-identity, HMACauth-hmac}
use Rattle.fields_schema.specs.Tree.{done, int, raw}
use Rattle.fields_encoding.specs.Encode.{int_field, len_field, encode}
use Rattle.fields_write_bytes.specs.Pushed.{Pushed}
use Rattle.protocol.specs.AuthType.{HMACAUTH}
use Rattle.protocol.specs.Frame.{frame}
use Rattle.protocol.specs.Reply.{signed_tree}

-- authType and HMACauth of a signed reply
abbrev pub auth_bytes : ℕ → List ℕ → List ℕ
auth_bytes identity h =
    int_field Message-auth_type HMACAUTH ++ len_field Message-hmac_auth (encode (int HMACauth-identity identity (raw HMACauth-hmac h done)))

-- what is due once the command and the value stand there: for any command c from `at` to `end`, and any value v after it
pub record Finished (r at end : ℕ) (key : List ℕ) (identity : ℕ) (before after : List ℕ) : Type 0 where
  pub all : (l m c v : List ℕ) → Pushed at end c m before → Pushed end (length l) v l m → drop r after ≡ frame (encode (signed_tree identity key c)) v
