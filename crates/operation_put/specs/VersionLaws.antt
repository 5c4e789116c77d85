-- Laws of versions.
use Rattle.std.specs.Prelude.{◌≡◌, refl, Bool, true, false, cond, ◌||◌, List, [], ◌∷◌, ℕ, eqb, length}
use Rattle.std.proofs.Common.{sym, ap, ◌∙◌, arith, ne_eqb}
use Rattle.std.specs.Prelude.{Some, None}
use Rattle.std.proofs.Math.Option.{Option, none, some}
use Rattle.base_definitions.specs.Lists.{same_bytes}
use Rattle.store_block.specs.Entry.{Entry}
use Rattle.store_layout.specs.declared.Parts.{Parts}
use Rattle.store_layout.specs.Entries.{part_of}
use Rattle.protocol.specs.State.{State}
use Rattle.protocol.specs.Judge.{version_of}
use Rattle.operation_get.specs.Shown.{Shown, entry_shown, Showing}
use Rattle.operation_put.specs.declared.version.Version.TheVariants.{Same, Other, Absent}
use Rattle.operation_put.specs.VersionFound.{version_found, version_fits}

-- ---- the version

no_bytes : (old : List ℕ) → eqb (length old) 0 ≡ same_bytes old []
unfolding same_bytes
no_bytes [] = refl
no_bytes (x ∷ xs) = ne_eqb (length (x ∷ xs)) 0 (λ e. omega arith)

pub version-fits : (old : List ℕ) (f : Bool) (o : Option Entry) → version_fits (version_found old o) old f ≡ (f || same_bytes old (version_of o))
version-fits old true none = refl
version-fits old true (some e) = refl
version-fits old false none = no_bytes old
version-fits old false (some e) = go (same_bytes old e.version)
  where
    go : (b : Bool) → version_fits (cond b Same Other) old false ≡ b
    go true = refl
    go false = refl

-- how a version stands to that of the entry that was found
pub version-found : (old : List ℕ) {l : List ℕ} {r : Shown} {of : State → Option Entry} {p : Parts} → Showing l r of → r ≡ Some p
    → (b : Bool) → b ≡ same_bytes old (part_of l p.version) → (s : State) → s.store ≡ l → cond b Same Other ≡ version_found old (of s)
version-found old {l} h e b c s q =
    ap (λ (b : Bool). cond b Same Other) c ∙ ap (λ (r : Shown). version_found old (entry_shown l r)) (sym e) ∙ ap (version_found old) (h.same s q)

pub version-none : (old : List ℕ) {l : List ℕ} {r : Shown} {of : State → Option Entry} → Showing l r of → r ≡ None
    → (s : State) → s.store ≡ l → Absent ≡ version_found old (of s)
version-none old {l} h e s q = ap (λ (r : Shown). version_found old (entry_shown l r)) (sym e) ∙ ap (version_found old) (h.same s q)
