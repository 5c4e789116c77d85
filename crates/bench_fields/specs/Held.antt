-- What the call for the measurements says of a command and takes out of it.
use Rattle.std.specs.Prelude.{List, [], ◌∷◌, ℕ, length}
use Rattle.std.proofs.Math.Option.{Option, none, some}
use Rattle.base_definitions.specs.Options.{or_else}
use Rattle.fields_schema.specs.Tree.{guard}
use Rattle.protocol.specs.Command.{Header, Command}
use Rattle.protocol.specs.Judge.{key_value_in}
use Rattle.request_parts.specs.Views.{header_view}
use Rattle.request_command.specs.declared.Request.{Request}
use Rattle.request_command.specs.Views.{body_view}

-- what a request that decodes says, over the bytes that it points into
abbrev pub said : List ℕ → Request → Command
said s r = record { header = guard r.headed (header_view r.header); body = body_view s r.body }

-- a number of a header that may not be there
abbrev pub in_header : (Header → ℕ) → Option Header → ℕ
in_header f none = 0
in_header f (some h) = f h

-- clusterVersion, connectionID, sequence and messageType; the lengths of newVersion, key, dbVersion and tag; and the algorithm. 0 for what is absent
abbrev pub held : Command → List ℕ
held c =
    in_header (λ h. h.cluster_version) c.header
    ∷ in_header (λ h. or_else 0 h.connection_id) c.header
    ∷ in_header (λ h. or_else 0 h.sequence) c.header
    ∷ in_header (λ h. or_else 0 h.message_type) c.header
    ∷ length (key_value_in c.body).new_version
    ∷ length (key_value_in c.body).key
    ∷ length (key_value_in c.body).db_version
    ∷ length (key_value_in c.body).tag
    ∷ (key_value_in c.body).algorithm
    ∷ []

-- a number, and what is written
pub record Left : Type 0 where
  pub number : ℕ
  pub out : List ℕ

abbrev pub left : ℕ → List ℕ → Left
left n out = record { number = n; out = out }

-- 0 if the command decodes, else 1, and nothing is written
abbrev pub taken_out : List ℕ → Option Command → Left
taken_out out none = left 1 out
taken_out out (some c) = left 0 (held c)
