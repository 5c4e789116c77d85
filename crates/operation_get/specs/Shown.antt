-- What the code's answers mean, beside the definitions of `Judge`.
use Rattle.std.specs.Prelude.{◌≡◌, List, ℕ, ◌+◌, ◌≤◌, length}
use Rattle.std.specs.Prelude as code
use Rattle.std.specs.Prelude.{Some, None}
use Rattle.std.proofs.Math.Option.{Option, none, some}
use Rattle.store_block.specs.Entry.{Entry}
use Rattle.store_layout.specs.declared.Parts.{Parts}
use Rattle.store_layout.specs.Entries as store
use Rattle.protocol.specs.State.{State}

-- what they answer: where the entry's parts lie in the store, if there is one
abbrev pub Shown : Type 0
Shown = code.Option Parts

-- the entry that is shown, of a store
abbrev pub entry_shown : List ℕ → Shown → Option Entry
entry_shown l (Some p) = some (store.entry_of l p)
entry_shown l None = none

-- the parts lie inside the store, and are no longer than a block's
pub record Inside (l : List ℕ) (p : Parts) : Type 0 where
  pub key : p.key.start + p.key.len ≤ length l
  pub version : p.version.start + p.version.len ≤ length l
  pub tag : p.tag.start + p.tag.len ≤ length l
  pub value : p.value.start + p.value.len ≤ length l
  pub key_fits : p.key.len ≤ 64
  pub version_fits : p.version.len ≤ 16
  pub tag_fits : p.tag.len ≤ 32
  pub value_fits : p.value.len ≤ 384

abbrev pub PartsInside : List ℕ → Shown → Type 0
PartsInside l (Some p) = Inside l p
PartsInside l None = Unit {0}

-- the answer is the entry that a definition of `Judge` gives in every state with this store
pub record Showing (l : List ℕ) (r : Shown) (of : State → Option Entry) : Type 0 where
  pub inside : PartsInside l r
  pub same : (s : State) → s.store ≡ l → entry_shown l r ≡ of s
