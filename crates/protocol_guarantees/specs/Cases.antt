-- What comes of an answered call, by cases.
use Rattle.std.specs.Prelude.{ℕ, ◌≡◌, Bool, true, false, List, [], Some}
use Rattle.std.proofs.Math.Option.{none, some}
use Rattle.fields_schema.specs.Tree.{Tree}
use Rattle.base_definitions.specs.Options.{or_else}
use Rattle.access_record.specs.Table as access
use Rattle.access_record.specs.Table.{table_good}
use Rattle.access_record.specs.Record.{with_cluster_version}
use Rattle.store_layout.specs.Store.{Good}
use Rattle.store_layout.specs.Entries.{put_answer, put_store, delete_store}
use Rattle.std.specs.Prelude.{Ok}
use Rattle.protocol.specs.declared.Operation.{Operation}
use Rattle.protocol.specs.declared.Operation.TheVariants.{Noop, Get, GetVersion, GetNext, GetPrevious, GetKeyRange, Put, Delete, FlushAllData, Setup, GetLog, Security}
use Rattle.protocol.specs.declared.Choice.{Choice}
use Rattle.protocol.specs.StatusCode.{SUCCESS, NOT_FOUND}
use Rattle.protocol.specs.State.{State, table, with_device, accepted, closing}
use Rattle.protocol.specs.Command.{Body, Command, command_of}
use Rattle.protocol.specs.Operation.{asked_by}
use Rattle.protocol.specs.Frame.{frame_of, whole}
use Rattle.protocol.specs.Reading.{read}
use Rattle.protocol.specs.Judge.{ReplyBody, bare, Result, fails, succeeds, fault, key_value_in, permitted, entry_of, version_right, new_entry, changed, secure, step10, judge}
use Rattle.protocol.specs.Passes.{Passes}
use Rattle.protocol.specs.Answer.{reading}
use Rattle.protocol.specs.Box.{box, acl_of, type_of}
use Rattle.protocol_guarantees.specs.Answered.{Replies}

-- PUT and DELETE
abbrev pub writes : Operation → Bool
writes Put = true
writes Delete = true
writes Noop = false
writes Get = false
writes GetVersion = false
writes GetNext = false
writes GetPrevious = false
writes GetKeyRange = false
writes FlushAllData = false
writes Setup = false
writes GetLog = false
writes Security = false

-- step 10, by what it does
pub data Effect (s : State) (b : Body) (v : List ℕ) : Operation → Result → Type 0 where
  refuses : {o : Operation} {code : ℕ} → (code ≡ SUCCESS → ⊥) → Effect s b v o (fails s code)
  shows : {o : Operation} {body : ReplyBody} {value : List ℕ} → writes o ≡ false → Effect s b v o (succeeds s body value)
  puts : version_right (key_value_in b) (entry_of s (key_value_in b).key) ≡ true
      → put_answer s.store (new_entry (key_value_in b) v) ≡ Ok tt
      → Effect s b v Put (changed s (put_store s.store (new_entry (key_value_in b) v)))
  misses : entry_of s (key_value_in b).key ≡ none → Effect s b v Delete (changed s s.store)
  deletes : Effect s b v Delete (changed s (delete_store s.store (key_value_in b).key))
  sets : (w : ℕ) → Effect s b v Setup (succeeds (with_device s (with_cluster_version s.device w)) bare [])
  secures : Effect s b v Security (secure s (or_else [] b.security))

-- steps 4 to 10: refused before the sequence counts, or after it, or obeyed
pub data Judged (s : State) (a : access.Acl) (c : Command) (v : List ℕ) : Result → Type 0 where
  before : {code : ℕ} → (code ≡ SUCCESS → ⊥) → (code ≡ NOT_FOUND → ⊥) → Judged s a c v (fails s code)
  after : {q code : ℕ} → Passes s c q → (code ≡ SUCCESS → ⊥) → (code ≡ NOT_FOUND → ⊥) → Judged s a c v (fails (accepted s q) code)
  obeyed : {q : ℕ} {x : Choice} → Passes s c q → asked_by (type_of c.header) ≡ Some x → fault x.operation c.body v ≡ 0
      → permitted a s.connection.protected x.permission c.body ≡ true → Judged s a c v (step10 (accepted s q) a x.operation c.body v)

-- what an answered call on the input xs leaves: the connection closed, all as it was, or what steps 4 to 10 leave
pub data Left (s : State) (xs : List ℕ) : State → Type 0 where
  closed : Left s xs (closing s)
  stayed : Left s xs s
  judged : (m v rest : List ℕ) (i : ℕ) (key : List ℕ) (t : Tree) (a : access.Acl) → frame_of xs ≡ whole m v rest → reading box s m ≡ read i key t
      → acl_of s i ≡ some a → Left s xs (judge s a (command_of t) v).state

-- what comes of a message that passes steps 1 to 3: the ACL of its identity, and the result of steps 4 to 10, which is the state and the reply
pub record Came (s : State) (i : ℕ) (t : Tree) (v r : List ℕ) (s' : State) : Type 0 where
  pub acl : access.Acl
  pub known : acl_of s i ≡ some acl
  pub stored : Good s.store
  pub tabled : table_good (table s) ≡ true
  pub state : (judge s acl (command_of t) v).state ≡ s'
  pub replies : Replies r (judge s acl (command_of t) v).code (judge s acl (command_of t) v).body (judge s acl (command_of t) v).value
