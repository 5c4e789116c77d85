-- Parts of the command and of the store, as the code cuts them out.
use Rattle.std.specs.Prelude.{◌≡◌, refl, Bool, true, false, cond, List, [], ℕ, ◌≤◌, length, take, drop}
use Rattle.std.proofs.Common.{ap, ◌∙◌, arith, length-take}
use Rattle.std.proofs.Math.Option.{Option, none, some}
use Rattle.std.proofs.Math.Nat.{add-sub_cancel_left}
use Rattle.store_layout.specs.declared.Parts.{Parts}
use Rattle.store_layout.specs.Entries as store
use Rattle.store_layout.specs.Entries.{part_of}
use Rattle.fields_lookup.specs.declared.parts.Part.{Part}
use Rattle.base_definitions.specs.Options.{or_else}
use Rattle.fields_lookup.specs.Views.{Lies, part_view}
use Rattle.protocol.specs.State.{State}
use Rattle.protocol.specs.Judge.{key_value, shown, succeeds}
use Rattle.fields_lookup.proofs.SliceLaws.{slice_at}
use Rattle.perform_entry.specs.Slices.{cut, cut_at}

pub cut_short : (l : List ℕ) (a n m : ℕ) → n ≤ m → length (cut l a n) ≤ m
cut_short l a n m h = simp length-take (omega arith)

cut-at : (l : List ℕ) (a n : ℕ) → cut l a n ≡ take n (drop a l)
cut-at l a n = ap (λ (n : ℕ). take n (drop a l)) (add-sub_cancel_left a n)

pub cut-part : {s : List ℕ} {p : Part} → Lies s p → cut_at s p ≡ or_else [] (part_view s p)
cut-part {s} {p} h = slice_at s p ∙ h.empty ∙ go (part_view s p)
  where
    go : (o : Option (List ℕ)) → or_else [] o ≡ or_else [] o
    go none = refl
    go (some b) = refl

-- ---- an entry of the store

-- what is written of an entry is what GET shows of it
pub entry-cut : (l : List ℕ) (p : Parts) (m : Bool) {n : ℕ} → n ≡ cond m 0 p.value.len → (s : State)
    → succeeds s (key_value (cut l p.key.start p.key.len) (cut l p.version.start p.version.len) (cut l p.tag.start p.tag.len) p.algorithm) (cut l p.value.start n)
    ≡ shown s m (some (store.entry_of l p))
entry-cut l p m {n} e s =
    λ i.
    succeeds s (key_value (cut-at l p.key.start p.key.len i) (cut-at l p.version.start p.version.len i) (cut-at l p.tag.start p.tag.len i) p.algorithm)
    ((cut-at l p.value.start n ∙ ap (λ (n : ℕ). take n (drop p.value.start l)) e ∙ go m) i)
  where
    go : (m : Bool) → take (cond m 0 p.value.len) (drop p.value.start l) ≡ cond m [] (part_of l p.value)
    go true = refl
    go false = refl

pub version-cut : (l : List ℕ) (p : Parts) (s : State) → succeeds s (key_value [] (cut l p.version.start p.version.len) [] 0) [] ≡ succeeds s (key_value [] (part_of l p.version) [] 0) []
version-cut l p s = ap (λ (v : List ℕ). succeeds s (key_value [] v [] 0) []) (cut-at l p.version.start p.version.len)
