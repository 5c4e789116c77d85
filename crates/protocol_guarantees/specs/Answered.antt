-- The words of the customer's laws: a request that was answered, and the reply that a client reads.
use Rattle.std.specs.Prelude.{ℕ, ◌^◌, ◌<◌, ◌≡◌, true, List, None, Some}
use Rattle.std.proofs.Math.Option.{Option, none, some}
use Rattle.fields_schema.specs.FieldNumbers.{Command-body}
use Rattle.fields_schema.specs.Tree.{Tree, sub_at}
use Rattle.access_record.specs.Table as access
use Rattle.protocol.specs.declared.Operation.{Operation}
use Rattle.protocol.specs.declared.Choice.{Choice}
use Rattle.protocol.specs.State.{State}
use Rattle.protocol.specs.Command.{KeyValue, command_of}
use Rattle.protocol.specs.Operation.{Asked, asked_by}
use Rattle.protocol.specs.Frame.{frame_of, whole}
use Rattle.protocol.specs.Reading.{read}
use Rattle.protocol.specs.Judge.{ReplyBody, fault, key_value_in, permitted}
use Rattle.protocol.specs.Passes.{Passes}
use Rattle.protocol.specs.Answer.{answered, reading}
use Rattle.protocol.specs.Box.{box, answers, acl_of, type_of}
use Rattle.protocol.specs.Says.{Says}
use Rattle.protocol.specs.PartsRead.{body_read, code_read}

-- the operation that is asked for
abbrev pub operation_in : Asked → Option Operation
operation_in (Some x) = some x.operation
operation_in None = none

-- the command t asks for the operation
abbrev pub Asks : Tree → Operation → Type 0
Asks t o = operation_in (asked_by (type_of (command_of t).header)) ≡ some o

-- its keyValue
abbrev pub key_value_sent : Tree → KeyValue
key_value_sent t = key_value_in (command_of t).body

-- in the state s a frame came whose message passes steps 1 to 3 as the command t, with the value part v; the reply is r, and s' is left
pub record Answered (s : State) (t : Tree) (v r : List ℕ) (s' : State) : Type 0 where
  pub room : ℕ
  pub input : List ℕ
  pub message : List ℕ
  pub rest : List ℕ
  pub taken : ℕ
  pub identity : ℕ
  pub key : List ℕ
  -- every call has such a number: its type is u64
  pub word : s.connection.number < 2 ^ 64
  pub framed : frame_of input ≡ whole message v rest
  pub reads : reading box s message ≡ read identity key t
  pub answer : answers s room input ≡ answered r s' taken

-- the command t of the identity i, with the value part v, passes steps 4 to 9 as the operation o
pub record Admitted (s : State) (i : ℕ) (t : Tree) (v : List ℕ) (o : Operation) : Type 0 where
  pub sequence : ℕ
  pub passes : Passes s (command_of t) sequence
  pub choice : Choice
  pub chosen : asked_by (type_of (command_of t).header) ≡ Some choice
  pub asks : choice.operation ≡ o
  pub well_formed : fault o (command_of t).body v ≡ 0
  pub acl : access.Acl
  pub known : acl_of s i ≡ some acl
  pub may : permitted acl s.connection.protected choice.permission (command_of t).body ≡ true

-- a client that reads the bytes r finds this code, this body and this value part
pub record Replies (r : List ℕ) (code : ℕ) (body : ReplyBody) (value : List ℕ) : Type 0 where
  pub message : Tree
  pub command : Tree
  pub says : Says r message command value
  pub code_read : code_read command ≡ some code
  pub body_read : body_read (sub_at Command-body command) ≡ body
