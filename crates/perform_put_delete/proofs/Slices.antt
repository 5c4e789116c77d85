-- The parts of PUT and DELETE, as the code cuts them out.
use mathlib.Core.Path.{◌≡◌, sym, subst}
use mathlib.Core.Bool.{Bool, true}
use mathlib.Core.List.{List}
use Prim.Native.Nat.{ℕ, ◌≤◌}
use lib.ListN.{length}
use Rattle.store_block.specs.BlockLaws.{sized}
use Rattle.store_block.specs.Entry.{Entry, entry, Sized}
use Rattle.fields_lookup.specs.Views.{num_view}
use Rattle.base_definitions.specs.Options.{or_else}
use Rattle.protocol.specs.Command.{flag}
use Rattle.protocol.specs.Judge.{key_value_good, new_entry}
use Rattle.operation_put.specs.PutCode.{Puts}
use Rattle.protocol.proofs.PutLaws.{put-fits}
use Rattle.operation_put.specs.DeleteCode.{Deletes}
use Rattle.request_parts.specs.declared.KeyValue.{KeyValue}
use Rattle.request_parts.specs.Views.{KeyValueLies, key_value_view}
use Rattle.perform_entry.specs.Slices.{cut_at}
use Rattle.perform_entry.specs.SlicesLaws.{cut-part}

module _ {s : List ℕ} {k : KeyValue} (h : KeyValueLies s k) where
  pub deletes : {f : Bool} → f ≡ flag (num_view k.force) → Deletes (key_value_view s k) (cut_at s k.key) (cut_at s k.expected) f
  deletes e = record { is_key = sym (cut-part h.key); is_old = sym (cut-part h.expected); is_force = sym e }

  module _ {a : ℕ} (q : a ≡ or_else 0 (num_view k.algorithm)) where
    pub puts : {f : Bool} → f ≡ flag (num_view k.force)
        → Puts (key_value_view s k) (cut_at s k.key) (cut_at s k.version) (cut_at s k.expected) (cut_at s k.tag) a f
    puts e =
        record {
          is_key = sym (cut-part h.key);
          is_new = sym (cut-part h.version);
          is_old = sym (cut-part h.expected);
          is_tag = sym (cut-part h.tag);
          is_algorithm = sym q;
          is_force = sym e;
        }

    pub fits : (v : List ℕ) → key_value_good (key_value_view s k) ≡ true → length v ≤ 384 → Sized (entry (cut_at s k.key) (cut_at s k.version) (cut_at s k.tag) v a)
    fits v g n =
        let e : new_entry (key_value_view s k) v ≡ entry (cut_at s k.key) (cut_at s k.version) (cut_at s k.tag) v a = λ i.
        entry (sym (cut-part h.key) i) (sym (cut-part h.version) i) (sym (cut-part h.tag) i) v (sym q i) in
        subst (λ (e : Entry). Sized e) e (sized (put-fits (key_value_view s k) v g n h.algorithm))
