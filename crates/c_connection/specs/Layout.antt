-- A connection in 32 lent bytes, numbers big-endian:
--
--   0-7 number (two's complement), 8 protected, 9 closed, 10 seen: a sequence was accepted (each: not zero is yes), 11-15 not used,
--   16-23 last accepted sequence (two's complement), 24-31 not used.
--
-- Connect writes all 32 bytes, what is not used as zero. An answer writes only what changes.
use Rattle.std.specs.Prelude.{Bool, false, not, cond, List, ◌∷◌, ◌++◌, ℕ, eqb, get_or, set, replicate}
use Rattle.std.proofs.Math.Option.{Option, none, some}
use Rattle.std.proofs.lemmas.List.Edits.{sets}
use Rattle.fields_schema.specs.Tree.{guard}
use Rattle.access_record.specs.Record.{word_at, word_bytes, flag}
use Rattle.protocol.specs.State.{Connection}
use Rattle.c_connection.specs.Offsets.{PROTECTED, CLOSED, SEEN, LAST}

-- not zero is yes
abbrev pub yes : List ℕ → ℕ → Bool
yes l a = not (eqb (get_or l a 0) 0)

-- the connection that the bytes hold
abbrev pub connection_at : List ℕ → Connection
connection_at l = record { number = word_at l 0; protected = yes l PROTECTED; closed = yes l CLOSED; last = guard (yes l SEEN) (word_at l LAST) }

-- a new connection: Connect writes all 32 bytes
unfoldable pub connected_bytes : ℕ → Bool → List ℕ
connected_bytes number protected = word_bytes number ++ (flag protected ∷ replicate 23 0)

-- byte 9 becomes 1 on closing
abbrev pub closes : List ℕ → Bool → List ℕ
closes l closed = cond closed (cond (yes l CLOSED) l (set l CLOSED 1)) l

-- byte 10 becomes 1 and 16-23 the sequence when one is accepted
unfoldable pub heard_bytes : List ℕ → ℕ → List ℕ
heard_bytes l q = sets (set l SEEN 1) LAST (word_bytes q)

-- is it the last accepted sequence already
abbrev pub is_last : Option ℕ → ℕ → Bool
is_last none q = false
is_last (some p) q = eqb p q

abbrev pub hears : List ℕ → Option ℕ → List ℕ
hears l none = l
hears l (some q) = cond (is_last (connection_at l).last q) l (heard_bytes l q)

-- the bytes once the connection is c: an answer writes only what changes, and no other byte of it ever changes
unfoldable pub becomes : List ℕ → Connection → List ℕ
becomes l c = closes (hears l c.last) c.closed
