-- What fields say, and the numbers of their items.
use Rattle.std.specs.Prelude.{ℕ, List, [], ◌∷◌}
use Rattle.std.proofs.Math.Option.{Option}
use Rattle.fields_wire.specs.Wire.{Field}
use Rattle.fields_schema.specs.Tree.{then_o, Item, item, items}
use Rattle.fields_schema.specs.Tree.{Tree, open_all, listed}
use Rattle.fields_schema.specs.declared.Kind.{Kind}

abbrev pub item_numbers : List Item → List ℕ
item_numbers [] = []
item_numbers (item n c ∷ is) = n ∷ item_numbers is

-- what fields say
abbrev pub said : Kind → List Field → Option Tree
said k fs = then_o (items k fs []) (λ is. open_all (λ k b. listed k b) is)
