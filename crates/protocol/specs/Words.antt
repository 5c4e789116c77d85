-- Trees whose numbers are 64-bit words.
use Rattle.std.specs.Prelude.{◌^◌, ◌<◌}
use Rattle.fields_schema.specs.Tree.{Tree, done, int, raw, fix, sub}

-- each number of the tree is a word
abbrev pub Words : Tree → Type 0
Words done = Unit {0}
Words (int n v t) = (v < 2 ^ 64) × Words t
Words (raw n b t) = Words t
Words (fix n b t) = Words t
Words (sub n s t) = Words s × Words t
