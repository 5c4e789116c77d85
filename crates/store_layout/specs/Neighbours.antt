-- The neighbours of a key among the entries that pass a test.
use Rattle.std.specs.Prelude.{◌≡◌, Bool, true, false, List, ℕ}
use Rattle.std.proofs.Math.Option.{some}
use Rattle.store_block.specs.Order.{Below}
use Rattle.store_block.specs.Entry.{Entry}
use Rattle.store_layout.specs.Lookup.{under}

-- document 02, CR 2: "the nearest key on that side that a usable READ scope fits", for any test: e is stored, lies beyond k, passes, and no
-- entry between the two passes
pub record Nearest (Beyond : List ℕ → List ℕ → Type 0) (ok : Entry → Bool) (k : List ℕ) (es : List Entry) (e : Entry) : Type 0 where
  pub there : under e.key es ≡ some e
  pub beyond : Beyond k e.key
  pub fits : ok e ≡ true
  pub nearest : (x : Entry) → under x.key es ≡ some x → Beyond k x.key → Beyond x.key e.key → ok x ≡ false

-- no entry beyond k passes
abbrev pub NoneFits : (List ℕ → List ℕ → Type 0) → (Entry → Bool) → List ℕ → List Entry → Type 0
NoneFits Beyond ok k es = (x : Entry) → under x.key es ≡ some x → Beyond k x.key → ok x ≡ false

-- a key beyond another on the side above is strictly above it, on the side below strictly below it
abbrev pub Upwards : List ℕ → List ℕ → Type 0
Upwards k l = Below k l

abbrev pub Downwards : List ℕ → List ℕ → Type 0
Downwards k l = Below l k

abbrev pub Next : (Entry → Bool) → List ℕ → List Entry → Entry → Type 0
Next ok k es e = Nearest Upwards ok k es e

abbrev pub Previous : (Entry → Bool) → List ℕ → List Entry → Entry → Type 0
Previous ok k es e = Nearest Downwards ok k es e
