-- Look-ups in trees that are equal but for replaced bytes: bytes in both or in none; messages that are again equal but for them.
use Rattle.std.specs.Prelude.{ℕ, List}
use Rattle.std.proofs.Math.Option.{Option, some}
use Rattle.fields_schema.specs.Rules.{rule_of}
use Rattle.fields_schema.specs.Tree.{Tree}
use Rattle.fields_schema.specs.PutIn.{Has, Replaces, EqualBut}
use Rattle.fields_schema.specs.declared.Kind.{Kind}
use Rattle.fields_schema.specs.declared.Form.TheVariants.{Nested}

module _ (R : Replaces) where
  -- bytes that a look-up gives in both trees
  pub data RawsBut (k : Kind) (n : ℕ) : Option (List ℕ) → Option (List ℕ) → Type 0 where
    equal : (o : Option (List ℕ)) → RawsBut k n o o
    replaced : (b b' : List ℕ) → R k n b b' → RawsBut k n (some b) (some b')

  -- messages that a look-up gives in both trees
  pub data SubsBut (k : Kind) (n : ℕ) : Option Tree → Option Tree → Type 0 where
    equal : (o : Option Tree) → SubsBut k n o o
    subs : {t t' : Tree} (k' : Kind) → Has (Nested k') (rule_of k n) → EqualBut R k' t t' → SubsBut k n (some t) (some t')
