-- A message in which the listed bytes that count are others, and all else is as it was.
use Rattle.std.specs.Prelude.{ℕ, ◌+◌, ◌≤◌, ◌≡◌, List, length}
use Rattle.std.proofs.Math.Option.{some}
use Rattle.fields_schema.specs.Tree.{Tree, listed, int_at, raw_at, sub_at}
use Rattle.fields_schema.specs.PutIn.{Replaces, PutIn}
use Rattle.fields_schema.specs.declared.Kind.{Kind}

-- of the message m, whose tree is t: the bytes of the number n, which were b, are b'
pub record Replaced (R : Replaces) (k : Kind) (n : ℕ) (b b' m : List ℕ) (t : Tree) : Type 0 where
  pub message : List ℕ
  pub tree : Tree
  pub put : PutIn R k 0 m message
  pub says : listed k message ≡ some tree
  pub bytes : raw_at n tree ≡ some b'
  pub ints : (i : ℕ) → int_at i tree ≡ int_at i t
  pub subs : (i : ℕ) → sub_at i tree ≡ sub_at i t
  pub long : length message + length b ≤ length m + length b' + 20

-- the same of the bytes of the number i in the message inside of the number n, which was u
pub record ReplacedInside (R : Replaces) (k : Kind) (n i : ℕ) (b b' m : List ℕ) (t u : Tree) : Type 0 where
  pub message : List ℕ
  pub tree : Tree
  pub inner : Tree
  pub put : PutIn R k 0 m message
  pub says : listed k message ≡ some tree
  pub is : sub_at n tree ≡ some inner
  pub bytes : raw_at i inner ≡ some b'
  pub inner_ints : (j : ℕ) → int_at j inner ≡ int_at j u
  pub ints : (j : ℕ) → int_at j tree ≡ int_at j t
  pub raws : (j : ℕ) → raw_at j tree ≡ raw_at j t
  pub long : length message + length b ≤ length m + length b' + 40
