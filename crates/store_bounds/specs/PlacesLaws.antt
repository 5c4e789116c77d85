-- What a search tells of bounds in a good store.
use Rattle.std.specs.Prelude.{◌≡◌, List, ℕ, ◌+◌, Result}
use Rattle.std.proofs.Math.Path.{ap}
use Rattle.std.proofs.Common.{◌∙◌}
use native.Mathlib.Omega.{arith}
use Rattle.store_layout.specs.Store.{entries_of, Good}
use Rattle.store_layout.specs.Entries.{find_in, place_of, past_of, Sought, below, up_to}
use Rattle.store_layout.proofs.EntriesLaws.{find-below, find-up_to}

module _ (l k : List ℕ) where
  pub from_place : (r : Result ℕ ℕ) → Sought l k r → Good l → place_of r ≡ below k (entries_of l)
  unfolding find_in
  from_place r s g = ap place_of (s.same g) ∙ find-below 0 k (entries_of l) g.sorted ∙ (let z : 0 + below k (entries_of l) ≡ below k (entries_of l) = omega arith in z)

  pub above_place : (r : Result ℕ ℕ) → Sought l k r → Good l → past_of r ≡ up_to k (entries_of l)
  unfolding find_in
  above_place r s g = ap past_of (s.same g) ∙ find-up_to 0 k (entries_of l) g.sorted ∙ (let z : 0 + up_to k (entries_of l) ≡ up_to k (entries_of l) = omega arith in z)
