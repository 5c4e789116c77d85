-- What the struct of a message means over the bytes that it points into. Step 1: "Message decodes; authType must be 1, with HMACauth, its identity
-- and commandBytes present"; none where it is otherwise.
use Rattle.std.specs.Prelude.{◌≡◌, List, ℕ, Some, None}
use Rattle.std.specs.Prelude as std
use Rattle.std.proofs.Math.Option.{Option, none, some}
use Rattle.base_integers.specs.Signed.{word_of}
use Rattle.fields_schema.specs.FieldNumbers.{HMACauth-identity, HMACauth-hmac}
use Rattle.fields_schema.specs.Tree.{Tree, int_at, raw_at}
use Rattle.fields_lookup.specs.Views.{bytes_at, signed_view, part_view, Lies}
use Rattle.protocol.specs.Reading.{Envelope, envelope}
use Rattle.request_message.specs.declared.Auth.{Auth}
use Rattle.request_message.specs.declared.Sealed.{Sealed}

-- an hmac that is not there is an empty part: "Absent bytes are empty"
abbrev pub sealed_view : List ℕ → std.Option Sealed → Option Envelope
sealed_view s None = none
sealed_view s (Some r) = some (envelope (word_of r.identity) (bytes_at s r.hmac) (bytes_at s r.command))

pub record SealedLies (s : List ℕ) (r : Sealed) : Type 0 where
  pub hmac : Lies s r.hmac
  pub command : Lies s r.command

-- what was read of the HMACauths that t joins
pub record AuthIs (s : List ℕ) (t : Tree) (a : Auth) : Type 0 where
  pub identity : signed_view a.identity ≡ int_at HMACauth-identity t
  pub hmac : part_view s a.hmac ≡ raw_at HMACauth-hmac t
  pub lies : Lies s a.hmac
