-- Document 01, "Readings to check by hand": W1 to W11, one table and one statement.
use Rattle.std.specs.Prelude.{ℕ, ◌≡◌, Bool, true, false, ◌&&◌, List, [], ◌∷◌, reverse, length, drop}
use Rattle.std.proofs.Math.Option.{none, some}
use Rattle.fields_schema.specs.Tree.{Tree}
use Rattle.fields_encoding.specs.Encode.{encode}
use Rattle.access_record.specs.Table as access
use Rattle.access_permission.specs.Permissions.{READ}
use Rattle.access_permission.specs.Permission.{fits, permits}
use Rattle.store_block.specs.Entry.{Entry, entry}
use Rattle.store_block.specs.Block.{sum_from, body, block}
use Rattle.protocol.specs.declared.Operation.TheVariants.{GetNext, GetPrevious, GetKeyRange}
use Rattle.protocol.specs.State.{State, table, entries}
use Rattle.protocol.specs.Command.{Range, Body, Command, no_body}
use Rattle.protocol.specs.Operation.{asked, reply_type}
use Rattle.protocol.specs.Judge.{Result, above_last, judge, bare, key_value, range, fails, succeeds, step10}
use Rattle.protocol.specs.Reply.{signed_by, command_tree, signed_tree, signed_reply, closing_reply}
use Rattle.protocol.specs.Box.{command_reply, message_in}

-- W1: a NOOP (messageType 30) of connection 1, sequence 2, and what is told to it
abbrev pub noop : Command
noop = record { header = some (record { cluster_version = 0; connection_id = some 1; sequence = some 2; message_type = some 30 }); body = no_body }

abbrev pub noop_response : Tree
noop_response = command_tree 1 (some 2) (reply_type (asked 30)) bare 1

-- W4 to W8: "Scope offset 3 value "test""
abbrev pub test_scope : access.Scope
test_scope = record { offset = 3; value = 0x74 ∷ 0x65 ∷ 0x73 ∷ 0x74 ∷ []; permissions = 1; tls_required = false }

-- the word key and a last letter
abbrev pub key_of : ℕ → List ℕ
key_of c = 0x6B ∷ 0x65 ∷ 0x79 ∷ c ∷ []

-- a body that asks with a key; with a range
abbrev pub asking : List ℕ → Body
asking k = record {
  key_value = some (record { new_version = []; key = k; db_version = []; tag = []; algorithm = 0; metadata_only = false; force = false });
  range = none;
  setup = none;
  get_log = none;
  security = none;
}

abbrev pub same_ends : List ℕ → Bool → Bool → ℕ → Bool → Range
same_ends k i j n r = record { start_key = some k; end_key = some k; start_inclusive = i; end_inclusive = j; max_returned = n; reverse = r }

abbrev pub ranging : Range → Body
ranging r = record {
  key_value = none;
  range = some r;
  setup = none;
  get_log = none;
  security = none;
}

-- what a reply says of an entry
abbrev pub told : State → Entry → Result
told s e = succeeds s (key_value e.key e.version e.tag e.algorithm) e.value

pub record Readings : Type 0 where
  -- "Command of NOOP_RESPONSE to identity 1, connection 1, sequence 2 …. Its message is 42 bytes, the whole 51", under every key; in every state of
  -- connection 1 that has cluster version 0 and has not accepted sequence 2 or a later one
  pub W1 : ((s : State) (a : access.Acl) (key : List ℕ) → s.connection.number ≡ 1 → (table s).cluster_version ≡ 0 → above_last 2 s.connection.last ≡ true
      → message_in (command_reply s 1 key noop (judge s a noop [])) ≡ signed_by 1 key noop_response [])
      × (encode noop_response ≡ 0x0A ∷ 0x06 ∷ 0x18 ∷ 0x01 ∷ 0x30 ∷ 0x02 ∷ 0x38 ∷ 0x1D ∷ 0x1A ∷ 0x02 ∷ 0x08 ∷ 0x01 ∷ [])
      × ((key : List ℕ) → (length (encode (signed_tree 1 key (encode noop_response))) ≡ 42) × (length (signed_reply 1 key noop_response []) ≡ 51))
  -- "Whole closing reply, connection 1, code 20"
  pub W2 : closing_reply 1 20
      ≡ 0x46 ∷ 0x00 ∷ 0x00 ∷ 0x00 ∷ 0x0C ∷ 0x00 ∷ 0x00 ∷ 0x00 ∷ 0x00 ∷ 0x20 ∷ 0x03 ∷ 0x3A ∷ 0x08 ∷ 0x0A ∷ 0x02 ∷ 0x18 ∷ 0x01 ∷ 0x1A ∷ 0x02 ∷ 0x08 ∷ 0x14 ∷ []
  -- "Key "A", all else empty: check 00 00 02 4C (588)"
  pub W3 : (sum_from 0 (body (entry (0x41 ∷ []) [] [] [] 0)) ≡ 588) × (drop 508 (block (entry (0x41 ∷ []) [] [] [] 0)) ≡ 0x00 ∷ 0x00 ∷ 0x02 ∷ 0x4C ∷ [])
  -- "fits "xyztest1", "001test2""
  pub W4 : fits test_scope (0x78 ∷ 0x79 ∷ 0x7A ∷ 0x74 ∷ 0x65 ∷ 0x73 ∷ 0x74 ∷ 0x31 ∷ []) ≡ true
  pub W5 : fits test_scope (0x30 ∷ 0x30 ∷ 0x31 ∷ 0x74 ∷ 0x65 ∷ 0x73 ∷ 0x74 ∷ 0x32 ∷ []) ≡ true
  -- "not "somethingElse", "test123", "1234test""
  pub W6 : fits test_scope (0x73 ∷ 0x6F ∷ 0x6D ∷ 0x65 ∷ 0x74 ∷ 0x68 ∷ 0x69 ∷ 0x6E ∷ 0x67 ∷ 0x45 ∷ 0x6C ∷ 0x73 ∷ 0x65 ∷ []) ≡ false
  pub W7 : fits test_scope (0x74 ∷ 0x65 ∷ 0x73 ∷ 0x74 ∷ 0x31 ∷ 0x32 ∷ 0x33 ∷ []) ≡ false
  pub W8 : fits test_scope (0x31 ∷ 0x32 ∷ 0x33 ∷ 0x34 ∷ 0x74 ∷ 0x65 ∷ 0x73 ∷ 0x74 ∷ []) ≡ false
  -- "Stored key0, key2; next of key1 is key2", whatever else the entries hold, to an identity that may see key2
  pub W9 : (s : State) (a : access.Acl) (v0 g0 w0 v2 g2 w2 : List ℕ) (a0 a2 : ℕ) → entries s ≡ entry (key_of 0x30) v0 g0 w0 a0 ∷ entry (key_of 0x32) v2 g2 w2 a2 ∷ []
      → permits a s.connection.protected READ (key_of 0x32) ≡ true
      → step10 s a GetNext (asking (key_of 0x31)) [] ≡ told s (entry (key_of 0x32) v2 g2 w2 a2)
  -- "Previous of key1 is key0", to an identity that may see key0; "of key0, NOT_FOUND", to any
  pub W10 : (s : State) (a : access.Acl) (v0 g0 w0 v2 g2 w2 : List ℕ) (a0 a2 : ℕ) → entries s ≡ entry (key_of 0x30) v0 g0 w0 a0 ∷ entry (key_of 0x32) v2 g2 w2 a2 ∷ []
      → (permits a s.connection.protected READ (key_of 0x30) ≡ true → step10 s a GetPrevious (asking (key_of 0x31)) [] ≡ told s (entry (key_of 0x30) v0 g0 w0 a0))
      × (step10 s a GetPrevious (asking (key_of 0x30)) [] ≡ fails s 7)
  -- "start = end, one flag off: empty list", for every identity, key, limit, order and store
  pub W11 : (s : State) (a : access.Acl) (k : List ℕ) (i j : Bool) (n : ℕ) (r : Bool) → (i && j) ≡ false
      → step10 s a GetKeyRange (ranging (same_ends k i j n r)) [] ≡ succeeds s (range []) []
