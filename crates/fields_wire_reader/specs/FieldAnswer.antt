-- What the field reader's answer means over the bytes s that it was asked of.
use Rattle.std.specs.Prelude.{ℕ, ◌+◌, ◌≤◌, ◌<◌, ◌≡◌, List, [], length, take, drop, Option, Some, None}
use Rattle.fields_wire.specs.Reader.{Got, nothing, got}
use Rattle.fields_wire.specs.Wire.{Value, vint, v64, vlen, v32, Field, field}
use Rattle.fields_wire_reader.specs.declared.Found.{Found}
use Rattle.fields_wire_reader.specs.declared.Held.{Held}
use Rattle.fields_wire_reader.specs.declared.Held.TheVariants.{Varint, I64, Len, I32}

abbrev pub value_of_held : List ℕ → Held → Value
value_of_held s (Varint v) = vint v
value_of_held s (I64 start) = v64 (take 8 (drop start s))
value_of_held s (Len start len) = vlen (take len (drop start s))
value_of_held s (I32 start) = v32 (take 4 (drop start s))

abbrev pub value_in : List ℕ → Found → Value
value_in s f = value_of_held s f.held

abbrev pub means_found : List ℕ → Option Found → Got Field
means_found s (Some f) = got (field f.number (value_in s f)) (drop f.next s)
means_found s None = nothing

-- of no field the value is one that no form reads, and the number and the place past it are 0
abbrev pub asked_value : List ℕ → Option Found → Value
asked_value s (Some f) = value_in s f
asked_value s None = v64 []

abbrev pub number_in : Option Found → ℕ
number_in (Some f) = f.number
number_in None = 0

abbrev pub next_in : Option Found → ℕ
next_in (Some f) = f.next
next_in None = 0

-- the bytes of a value end the field, and those with a length begin after `at`
abbrev pub BytesLie : ℕ → ℕ → Held → Type 0
BytesLie at next (Varint v) = Unit {0}
BytesLie at next (I64 start) = Unit {0}
BytesLie at next (Len start len) = (start + len ≡ next) × (at < start)
BytesLie at next (I32 start) = start + 4 ≡ next

-- the place past it is after `at` and lies inside s; its bytes lie between
pub record EndsFound (s : List ℕ) (at : ℕ) (f : Found) : Type 0 where
  pub after : at < f.next
  pub inside : f.next ≤ length s
  pub bytes : BytesLie at f.next f.held
