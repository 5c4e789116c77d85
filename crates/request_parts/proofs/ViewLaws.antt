-- What is read of a header, a keyValue or a range is what document 01's list names.
use Rattle.std.specs.Prelude.{ℕ, ◌≡◌, refl, List}
use Rattle.fields_schema.specs.Tree.{Tree}
use Rattle.protocol.specs.Command.{header_of, key_value_of, range_of}
use Rattle.request_parts.specs.Views.{header_view, key_value_view, range_view, HeaderIs, KeyValueIs, RangeIs}
use Rattle.request_parts.specs.declared.Header.{Header}
use Rattle.request_parts.specs.declared.KeyValue.{KeyValue}
use Rattle.request_parts.specs.declared.Range.{Range}

pub header-view : {t : Tree} {h : Header} → HeaderIs t h → header_view h ≡ header_of t
header-view e = rw (e.cluster, e.connection, e.sequence, e.kind) refl

pub key-value-view : {s : List ℕ} {t : Tree} {k : KeyValue} → KeyValueIs s t k → key_value_view s k ≡ key_value_of t
key-value-view e = rw (e.version, e.key, e.expected, e.tag, e.algorithm, e.metadata, e.force) refl

pub range-view : {s : List ℕ} {t : Tree} {r : Range} → RangeIs s t r → range_view s r ≡ range_of t
range-view e = rw (e.start, e.end, e.first, e.last, e.limit, e.reverse) refl
