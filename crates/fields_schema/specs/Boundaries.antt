-- Field boundaries of a message at every depth, and bytes put in there.
use Rattle.std.specs.Prelude.{ℕ, suc, ◌+◌, ◌*◌, ◌≤◌, ◌≡◌, List, ◌++◌, length}
use Rattle.std.proofs.Math.Option.{some}
use Rattle.fields_wire.specs.Wire.{Field, fields_of}
use Rattle.fields_schema.specs.Rules.{rule_of}
use Rattle.fields_schema.specs.PutIn.{Has, Holds}
use Rattle.fields_schema.specs.declared.Kind.{Kind}
use Rattle.fields_schema.specs.declared.Form.TheVariants.{Nested}

-- m' is the message m of kind k with the bytes y put in at a field boundary of a message of kind j, which m is or holds at some depth: whole fields stand
-- before the place, and the enclosing lengths are corrected
pub data PutAt (y : List ℕ) (j : Kind) : Kind → List ℕ → List ℕ → Type 0 where
  here : {fs : List Field} (a r : List ℕ) → fields_of a ≡ some fs → PutAt y j j (a ++ r) (a ++ (y ++ r))
  inside : {k : Kind} {fs : List Field} {x x' : List ℕ} (a r : List ℕ) → fields_of a ≡ some fs → (n : ℕ) (k' : Kind) (b b' : List ℕ)
      → Holds n b x → Holds n b' x' → Has (Nested k') (rule_of k n) → PutAt y j k' b b' → PutAt y j k (a ++ (x ++ r)) (a ++ (x' ++ r))

-- a field boundary of a message of kind j, which the message m of kind k is or holds at some depth
pub data Boundary (j : Kind) : Kind → List ℕ → Type 0 where
  here : {fs : List Field} (a r : List ℕ) → fields_of a ≡ some fs → Boundary j j (a ++ r)
  inside : {k : Kind} {fs : List Field} {x : List ℕ} (a r : List ℕ) → fields_of a ≡ some fs → (n : ℕ) (k' : Kind) (b : List ℕ) → Holds n b x
      → Has (Nested k') (rule_of k n) → Boundary j k' b → Boundary j k (a ++ (x ++ r))

-- how many messages stand around it
abbrev pub around : {j k : Kind} {m : List ℕ} → Boundary j k m → ℕ
around (here a r e) = 0
around (inside a r e n k' b h g p) = suc (around p)

-- where bytes are put in
abbrev pub boundary_of : {y : List ℕ} {j k : Kind} {m m' : List ℕ} → PutAt y j k m m' → Boundary j k m
boundary_of (here a r e) = Boundary.here a r e
boundary_of (inside a r e n k' b b' h h' g p) = Boundary.inside a r e n k' b h g (boundary_of p)

-- m' is m with the bytes y put in at this boundary
pub record PutThere (y : List ℕ) {j k : Kind} {m : List ℕ} (p : Boundary j k m) (m' : List ℕ) : Type 0 where
  pub at : PutAt y j k m m'
  pub there : boundary_of at ≡ p

pub record Taken (y : List ℕ) {j k : Kind} {m : List ℕ} (p : Boundary j k m) : Type 0 where
  pub message : List ℕ
  pub put : PutThere y p message
  pub long : length message ≤ length m + length y + 20 * around p
