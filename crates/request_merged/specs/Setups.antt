-- What was read of the setups that a tree joins.
use Rattle.std.specs.Prelude.{◌≡◌, ℤ}
use Rattle.std.specs.Prelude as std
use Rattle.fields_schema.specs.Tree.{Tree}
use Rattle.fields_lookup.specs.Views.{signed_view}
use Rattle.protocol.specs.Command.{setup_of}

abbrev pub SetupIs : Tree → std.Option ℤ → Type 0
SetupIs t n = signed_view n ≡ setup_of t
