-- What the varint reader's answer means over the bytes s that it was asked of.
use Rattle.std.specs.Prelude.{ℕ, ◌+◌, ◌*◌, ◌≤◌, ◌<◌, List, length, drop, Option, Some, None}
use Rattle.fields_wire.specs.Reader.{Got, nothing, got}
use Rattle.fields_wire.specs.declared.varint.Varint.{Varint}

abbrev pub means_varint : List ℕ → Option Varint → Got ℕ
means_varint s (Some v) = got v.value (drop v.next s)
means_varint s None = nothing

-- the place past it is after `at` and lies inside s
abbrev pub EndsVarint : List ℕ → ℕ → Varint → Type 0
EndsVarint s at v = (at < v.next) × (v.next ≤ length s)

-- what is read on, above a low part: p is 128 to the number of its bytes
abbrev pub above : ℕ → ℕ → Got ℕ → Got ℕ
above low p nothing = nothing
above low p (got v r) = got (low + p * v) r
