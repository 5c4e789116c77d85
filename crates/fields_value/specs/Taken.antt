-- What is taken of a field, over the bytes s that it was read from.
use Rattle.std.specs.Prelude.{ℕ, ◌+◌, ◌≤◌, ◌<◌, List, length, take, drop, Option as Answer, Some, None}
use Rattle.std.proofs.Math.Option.{Option, none, some}
use Rattle.fields_schema.specs.Tree.{Content, c_int, c_raw, c_fix, c_msg}
use Rattle.fields_value.specs.declared.Taken.{Taken}
use Rattle.fields_value.specs.declared.Taken.TheVariants.{Number, Slice, Fixed, Inside}

abbrev pub content_of : List ℕ → Taken → Content
content_of s (Number v) = c_int v
content_of s (Slice start len) = c_raw (take len (drop start s))
content_of s (Fixed start) = c_fix (take 4 (drop start s))
content_of s (Inside k start len) = c_msg k (take len (drop start s))

abbrev pub means_taken : List ℕ → Answer Taken → Option Content
means_taken s (Some t) = some (content_of s t)
means_taken s None = none

-- its bytes lie inside, and a message is shorter than what it stands in
abbrev pub InsideTaken : List ℕ → Taken → Type 0
InsideTaken s (Number v) = Unit {0}
InsideTaken s (Slice start len) = start + len ≤ length s
InsideTaken s (Fixed start) = start + 4 ≤ length s
InsideTaken s (Inside k start len) = (start + len ≤ length s) × (len < length s)
