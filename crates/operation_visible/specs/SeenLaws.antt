-- The key of the entry at a place, as the code cuts it out of the store.
use Rattle.std.specs.Prelude.{◌≡◌, List, [], ◌∷◌, ℕ, zero, suc, ◌+◌, ◌-◌, ◌≤◌, length, take, drop, get_or}
use Rattle.std.proofs.Common.{ap, ◌∙◌, arith}
use Rattle.store_block.specs.Entry.{Entry, no_entry}
use Rattle.store_layout.specs.declared.Parts.{Parts}
use Rattle.store_layout.specs.Store.{entries_of, AllFit, Good}
use Rattle.store_layout.specs.Entries.{EntryAt}

-- a key is at most 64 bytes
fit-key : (es : List Entry) (i : ℕ) → AllFit es → length (get_or es i no_entry).key ≤ 64
fit-key [] i fs = omega arith
fit-key (e ∷ es) zero (AllFit.more f fs) = f.key_fits
fit-key (e ∷ es) (suc i) (AllFit.more f fs) = fit-key es i fs

pub key-part : (l : List ℕ) (i : ℕ) (p : Parts) → EntryAt l i p → Good l
    → take (p.key.start + p.key.len - p.key.start) (drop p.key.start l) ≡ (get_or (entries_of l) i no_entry).key
key-part l i p w g =
    let e : p.key.start + p.key.len - p.key.start ≡ p.key.len = omega arith in
    ap (λ k. take k (drop p.key.start l)) e ∙ ap (λ (x : Entry). x.key) (w.same g)

pub key-short : (l : List ℕ) (i : ℕ) (p : Parts) → EntryAt l i p → Good l → length (take (p.key.start + p.key.len - p.key.start) (drop p.key.start l)) ≤ 64
key-short l i p w g = let e = ap length (key-part l i p w g) in omega (arith, fit-key (entries_of l) i g.fit)
