-- A level in a part: what its look-ups ask, and the message that one of them gives.
use Prim.Native.Nat.{ℕ, ◌<◌}
use native.Mathlib.Omega.{arith}
use mathlib.Core.Path.{◌≡◌, refl, sym, ◌∙◌}
use mathlib.Core.List.{List}
use mathlib.Core.Option.{Option, none, some}
use mathlib.Core.Bool.{Bool, true, false}
use Rattle.fields_schema.specs.Rules.{rule_of}
use Rattle.fields_schema.specs.Tree.{is_some, level, Tree, done, sub_at, tree_in}
use Rattle.base_definitions.specs.Bits.{bit}
use Rattle.fields_decode.specs.Slots.{Tells, Sized}
use Rattle.fields_schema.specs.declared.Kind.{Kind}
use Rattle.fields_schema.specs.declared.Form.TheVariants.{Nested}
use Rattle.fields_decode.specs.declared.slots.Slots.{Slots}
use Rattle.fields_lookup.specs.Views.{Reads, tree_of, bytes_at, Inside, Level, SlotInside, Singular, Alone, PartIs, Only}
use Rattle.fields_lookup.specs.declared.parts.Part.{Part}
use Rattle.fields_lookup.proofs.Slotted.{is_part, level-sized, part-ready}

module _ (k : Kind) (s : List ℕ) (p : Part) (t : Slots) (h : Tells k (bytes_at s p) t (level k (bytes_at s p))) (y : Inside s p × Reads k (bytes_at s p)) where
  pub level-at : Level k (bytes_at s p) t
  level-at = record { tells = h; reads = y.1 }

  pub sized-at : Sized t
  sized-at = level-sized k (bytes_at s p) t level-at

  pub part_at : (n : ℕ) → n < 16 → is_part (rule_of k n) ≡ true → (n < 16) × Sized t × Inside s p × SlotInside (bytes_at s p) t n
  part_at n l e = part-ready k s p t level-at y.0 n l e

  pub only_at : (n : ℕ) (k' : Kind) → Singular (Nested k') (rule_of k n) → (bit t.has 0 ≡ false → Alone (rule_of k n) t) → (r : Part) → PartIs s p t n r
      → (twice : Bool) → twice ≡ bit t.has 0 → Only k' s r twice (sub_at n (tree_of k (bytes_at s p)))
  only_at n k' q a r e twice w = record { inside = e.lies.inside; here = e.here k k' level-at q; sole = λ f. e.message k k' level-at q (a (sym w ∙ f)) }

-- where there is none, it says nothing
pub only_none : {k : Kind} {s : List ℕ} {r : Part} {twice : Bool} (o : Option Tree) → Only k s r twice o → r.has ≡ false → done ≡ tree_in o
only_none o h e = go o (sym h.here ∙ e)
  where
    go : (o : Option Tree) → is_some o ≡ false → done ≡ tree_in o
    go none f = refl
    go (some t) f = let z : ◌≡◌ {A = ℕ} 0 1 = cc (f) in absurd (omega arith)
