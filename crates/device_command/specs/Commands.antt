-- What the structs of a request that decodes mean.
use Rattle.std.specs.Prelude.{cond, ◌≡◌, List, ℕ}
use Rattle.std.proofs.Math.Option.{none}
use Rattle.base_integers.specs.Signed.{word_of}
use Rattle.fields_schema.specs.Tree.{guard}
use Rattle.fields_lookup.specs.Views.{num_view, signed_view}
use Rattle.protocol.specs.Command as c
use Rattle.base_definitions.specs.Options.{or_else}
use Rattle.protocol.specs.Operation.{asked_by}
use Rattle.request_command.specs.declared.Request.{Request}
use Rattle.request_parts.specs.Views.{header_view}
use Rattle.request_command.specs.Views.{body_view}
use Rattle.device_command.specs.declared.Heading.{Heading}

abbrev pub command_in : List ℕ → Request → c.Command
command_in s q = record { header = guard q.headed (header_view q.header); body = body_view s q.body }

-- what the code has of a header: each number where the header is there and has it, and what the messageType asks for
pub record HeadingOf (q : Request) (h : Heading) : Type 0 where
  pub version : word_of h.version ≡ or_else 0 (signed_view q.header.cluster)
  pub id : signed_view h.id ≡ cond q.headed (signed_view q.header.connection) none
  pub sequence : signed_view h.sequence ≡ cond q.headed (signed_view q.header.sequence) none
  pub asked : h.asked ≡ asked_by (cond q.headed (num_view q.header.kind) none)
