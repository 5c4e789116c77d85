-- The types that the getLogs of a command ask for: of all its bodies, and of all getLogs in them.
use Rattle.std.specs.Prelude.{List, ℕ}
use Rattle.fields_schema.specs.FieldNumbers.{Command-body, Body-get_log}
use Rattle.fields_schema.specs.Tree.{sub_at, tree_in}
use Rattle.fields_schema.specs.declared.Kind.TheVariants.{Command}
use Rattle.fields_lookup.specs.Views.{tree_of}
use Rattle.protocol.specs.Command.{types_of}

unfoldable pub log_types : List ℕ → List ℕ
log_types s = types_of (tree_in (sub_at Body-get_log (tree_in (sub_at Command-body (tree_of Command s)))))
