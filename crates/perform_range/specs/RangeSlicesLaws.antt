-- The parts of GETKEYRANGE, as the code cuts them out.
use Rattle.std.specs.Prelude.{◌≡◌, refl, Bool, List, [], ℕ}
use Rattle.std.proofs.Common.{sym, ap, ◌∙◌}
use Rattle.store_block.specs.Entry.{Entry}
use Rattle.store_layout.specs.Store.{entries_of}
use Rattle.fields_lookup.specs.Views.{num_view}
use Rattle.protocol.specs.State.{State, entries}
use Rattle.protocol.specs.Command as command
use Rattle.base_definitions.specs.Lists.{only}
use Rattle.base_definitions.specs.Options.{or_else}
use Rattle.protocol.specs.Command.{flag}
use Rattle.protocol.specs.Judge.{in_range, keys_in, keys_of, range, succeeds}
use Rattle.operation_range.specs.Range.{range_with}
use Rattle.request_parts.specs.declared.Range.{Range}
use Rattle.request_parts.specs.Views.{RangeLies, range_view}
use Rattle.perform_entry.specs.Slices.{cut_at}
use Rattle.perform_entry.specs.SlicesLaws.{cut-part}

keys_with : (g : command.Range) (es : List Entry)
    → keys_of (range_with (or_else [] g.start_key) (or_else [] g.end_key) g.start_inclusive g.end_inclusive g.max_returned g.reverse) es ≡ keys_of g es
unfolding keys_of keys_in in_range
keys_with g es = refl

pub range-cut : {s : List ℕ} {g : Range} {l : List ℕ} {f e v : Bool} {n : ℕ} {ks : List (List ℕ)} (seen : Entry → Bool) → RangeLies s g → f ≡ flag (num_view g.first)
    → e ≡ flag (num_view g.last) → n ≡ or_else 32 (num_view g.limit) → v ≡ flag (num_view g.reverse)
    → ks ≡ keys_of (range_with (cut_at s g.start) (cut_at s g.end) f e n v) (only seen (entries_of l)) → (t : State) → t.store ≡ l
    → succeeds t (range ks) [] ≡ succeeds t (range (keys_of (range_view s g) (only seen (entries t)))) []
range-cut {s} {g} {l} seen h f e n v w t q =
    ap (λ (ks : List (List ℕ)). succeeds t (range ks) [])
    (w
    ∙ (λ i. keys_of (range_with (cut-part h.start i) (cut-part h.end i) (f i) (e i) (n i) (v i)) (only seen (entries_of l)))
    ∙ keys_with (range_view s g) (only seen (entries_of l))
    ∙ ap (λ (m : List ℕ). keys_of (range_view s g) (only seen (entries_of m))) (sym q))
