-- What the struct of a connection means: of its numbers the words.
use Rattle.base_integers.specs.Signed.{word_of}
use Rattle.fields_schema.specs.Tree.{guard}
use Rattle.protocol.specs.State as state
use Rattle.protocol_connection.specs.declared.Connection.{Connection}

abbrev pub connection_of : Connection → state.Connection
connection_of c = record { number = word_of c.number; protected = c.protected; closed = c.closed; last = guard c.seen (word_of c.last) }
