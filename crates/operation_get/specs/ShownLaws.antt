-- Laws of what is shown.
use Rattle.std.specs.Prelude.{◌≡◌, Bool, cond, List, [], ◌∷◌, ℕ, zero, suc, ◌+◌, ◌≤◌, length, get_or, Ok, Err}
use Rattle.std.proofs.Common.{sym, ap, ◌∙◌, arith, length-take, length-drop}
use Rattle.std.specs.Prelude.{Some, None}
use Rattle.std.proofs.Math.Option.{Option, some}
use Rattle.base_definitions.specs.Lists.{first, only}
use Rattle.store_block.specs.Entry.{Entry, no_entry}
use Rattle.store_layout.specs.declared.EntryPart.{EntryPart}
use Rattle.store_layout.specs.declared.Parts.{Parts}
use Rattle.store_layout.specs.Store.{entries_of, Good, AllFit}
use Rattle.store_layout.specs.Entries.{EntryAt, Sought, find_in, part_of}
use Rattle.operation_visible.specs.declared.Run.{Run}
use Rattle.operation_visible.specs.Runs.{along, skipped}
use Rattle.operation_visible.specs.RunLaws.{none_left, some_left}
use Rattle.protocol.specs.State.{State, entries}
use Rattle.protocol.specs.Judge.{key_value, fails, succeeds, shown, version_shown, entry_at, entry_of}
use Rattle.operation_get.specs.Shown.{Shown, Inside, Showing}

-- an entry of a good store, and also what stands past the last, is no longer than a block's parts
record Short (e : Entry) : Type 0 where
  key : length e.key ≤ 64
  version : length e.version ≤ 16
  tag : length e.tag ≤ 32
  value : length e.value ≤ 384

short-at : (es : List Entry) (i : ℕ) → AllFit es → Short (get_or es i no_entry)
short-at [] i fs = record { key = omega arith; version = omega arith; tag = omega arith; value = omega arith }
short-at (e ∷ es) zero (AllFit.more f fs) = record { key = f.key_fits; version = f.version_fits; tag = f.tag_fits; value = f.value_fits }
short-at (e ∷ es) (suc i) (AllFit.more f fs) = short-at es i fs

long : (l : List ℕ) (p : EntryPart) → p.start + p.len ≤ length l → length (part_of l p) ≡ p.len
long l p h = simp (length-take, length-drop) (omega arith)

module _ (l : List ℕ) (g : Good l) where
  pub parts-inside : (i : ℕ) (p : Parts) → EntryAt l i p → Inside l p
  parts-inside i p e =
      let s : Short (get_or (entries_of l) i no_entry) = short-at (entries_of l) i g.fit in
      let q = e.same g in
      let k : length (part_of l p.key) ≡ length (get_or (entries_of l) i no_entry).key = ap (λ (x : Entry). length x.key) q in
      let v : length (part_of l p.version) ≡ length (get_or (entries_of l) i no_entry).version = ap (λ (x : Entry). length x.version) q in
      let t : length (part_of l p.tag) ≡ length (get_or (entries_of l) i no_entry).tag = ap (λ (x : Entry). length x.tag) q in
      let w : length (part_of l p.value) ≡ length (get_or (entries_of l) i no_entry).value = ap (λ (x : Entry). length x.value) q in
      let k2 = long l p.key e.key_inside in
      let v2 = long l p.version e.version_inside in
      let t2 = long l p.tag e.tag_inside in
      let w2 = long l p.value e.value_inside in
      let k3 = s.key in let v3 = s.version in let t3 = s.tag in let w3 = s.value in
      record {
        key = e.key_inside;
        version = e.version_inside;
        tag = e.tag_inside;
        value = e.value_inside;
        key_fits = omega arith;
        version_fits = omega arith;
        tag_fits = omega arith;
        value_fits = omega arith;
      }

  pub found_at : (k : List ℕ) (i : ℕ) (p : Parts) → EntryAt l i p → Sought l k (Ok i) → Showing l (Some p) (λ s. entry_of s k)
  found_at k i p e f =
      record {
        inside = parts-inside i p e;
        same = λ s q.
            ap some (e.same g) ∙ ap (λ (m : List ℕ). some (get_or (entries_of m) i no_entry)) (sym q) ∙ ap (entry_at s) (f.same g ∙ ap (λ (m : List ℕ). find_in k (entries_of m)) (sym q));
      }

  pub missing_at : (k : List ℕ) (i : ℕ) → Sought l k (Err i) → Showing l None (λ s. entry_of s k)
  missing_at k i f =
      record { inside = tt; same = λ s q. ap (entry_at s) (f.same g ∙ ap (λ (m : List ℕ). find_in k (entries_of m)) (sym q)) }

  -- the first entry of a run that passes a test, by what is left of the run
  module _ (f : Entry → Bool) (r : Run) {left : Run} (e : left ≡ skipped f (entries_of l) r) where
    pub found_first : (p : Parts) → (left.count ≡ 0 → ⊥) → EntryAt l left.first p → Showing l (Some p) (λ s. first (only f (along r (entries s))))
    found_first p n w =
        record {
          inside = parts-inside left.first p w;
          same = λ s q.
              ap some (w.same g ∙ ap (λ (x : Run). get_or (entries_of l) x.first no_entry) e)
              ∙ sym (ap first (some_left f (entries_of l) r.reverse r.first r.count (λ z. n (ap (λ (x : Run). x.count) e ∙ z))))
              ∙ ap (λ (m : List ℕ). first (only f (along r (entries_of m)))) (sym q);
        }

    pub missing-first : left.count ≡ 0 → Showing l None (λ s. first (only f (along r (entries s))))
    missing-first n =
        record {
          inside = tt;
          same = λ s q.
              sym (ap first (none_left f (entries_of l) r.reverse r.first r.count (sym (ap (λ (x : Run). x.count) e) ∙ n)))
              ∙ ap (λ (m : List ℕ). first (only f (along r (entries_of m)))) (sym q);
        }

  -- an entry by another name
  pub shown-as : {r : Shown} (f h : List Entry → Option Entry) → f (entries_of l) ≡ h (entries_of l) → Showing l r (λ s. f (entries s)) → Showing l r (λ s. h (entries s))
  shown-as f h e w =
      record { inside = w.inside; same = λ s q. w.same s q ∙ ap (λ (m : List ℕ). f (entries_of m)) q ∙ e ∙ ap (λ (m : List ℕ). h (entries_of m)) (sym q) }

-- ---- what a reply says of an answer: "7 if missing"; "keyValue 3, 4, 5, 6, .., and the value part unless metadataOnly"; "GETVERSION keyValue 4"
module _ {l : List ℕ} {of : State → Option Entry} (s : State) (q : s.store ≡ l) where
  pub shows-found : {p : Parts} (m : Bool) → Showing l (Some p) of
      → shown s m (of s) ≡ succeeds s (key_value (part_of l p.key) (part_of l p.version) (part_of l p.tag) p.algorithm) (cond m [] (part_of l p.value))
  shows-found m h = sym (ap (shown s m) (h.same s q))

  pub shows-missing : (m : Bool) → Showing l None of → shown s m (of s) ≡ fails s 7
  shows-missing m h = sym (ap (shown s m) (h.same s q))

  pub shows-version : {p : Parts} → Showing l (Some p) of → version_shown s (of s) ≡ succeeds s (key_value [] (part_of l p.version) [] 0) []
  shows-version h = sym (ap (version_shown s) (h.same s q))

  pub shows-no-version : Showing l None of → version_shown s (of s) ≡ fails s 7
  shows-no-version h = sym (ap (version_shown s) (h.same s q))
