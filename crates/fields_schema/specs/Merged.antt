-- Messages that are merged: the later number or bytes count, else the earlier; repeated ones follow each other; messages inside are merged in turn.
use Rattle.std.specs.Prelude.{List, [], ◌∷◌, Bool, true, false}
use Rattle.std.proofs.Math.Option.{Option, none, some}
use Rattle.fields_schema.specs.Tree.{Tree, join}

abbrev pub joined : Option Tree → Option Tree → Option Tree
joined none b = b
joined (some s) none = some s
joined (some s) (some u) = some (join s u)

-- trees joined one after another
abbrev pub join_all : Tree → List Tree → Tree
join_all t [] = t
join_all t (u ∷ us) = join_all (join t u) us

abbrev pub is_cons : {A : Type 0} → List A → Bool
is_cons [] = false
is_cons (x ∷ xs) = true
