-- What the look-up of a value leaves: its number, and the part, which is written only where the value is found: its offset and its length.
use Rattle.std.specs.Prelude.{cond, List, [], ◌∷◌, ℕ, eqb}
use Rattle.store_local_read.specs.Local.{Answer}

pub record Looked : Type 0 where
  pub number : ℕ
  pub part : List ℕ

abbrev pub looked : ℕ → List ℕ → Looked
looked n part = record { number = n; part = part }

abbrev pub looked_up : List ℕ → Answer → Looked
looked_up part a = looked a.number (cond (eqb a.number 0) (a.start ∷ a.len ∷ []) part)
