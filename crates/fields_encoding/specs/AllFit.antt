-- Messages that all fit a kind.
use Rattle.std.specs.Prelude.{List, [], ◌∷◌}
use Rattle.fields_schema.specs.Tree.{Tree}
use Rattle.fields_encoding.specs.Encode.{FitsAfter}
use Rattle.fields_schema.specs.declared.Kind.{Kind}

-- messages that all fit a kind
abbrev pub AllFit : Kind → List Tree → Type 0
AllFit k [] = Unit {0}
AllFit k (s ∷ ss) = FitsAfter k [] s × AllFit k ss
