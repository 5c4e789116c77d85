-- One law for each level: what its fields say.
use Prim.Native.Nat.{ℕ, ◌≤◌}
use mathlib.Core.Path.{refl, sym, subst}
use mathlib.Core.List.{List}
use mathlib.Core.Option.{Option}
use Rattle.fields_schema.specs.declared.Kind.TheVariants as k
use Rattle.fields_decode.specs.declared.slots.Slots.{Slots}
use Rattle.fields_lookup.specs.Views.{tree_of, bytes_at, Level, NumIs, SignedIs, PartIs}
use Rattle.fields_lookup.proofs.LevelLaws.{tree_is}
use Rattle.std.specs.Prelude.{ℤ}
use Rattle.std.specs.Prelude as std
use Rattle.fields_lookup.specs.declared.parts.Part.{Part}
use Rattle.base_definitions.specs.Options.{or_else}
use Rattle.protocol.proofs.AlgorithmLaws.{key-value-most}
use Rattle.request_parts.specs.Views.{HeaderIs, KeyValueIs, RangeIs}

module _ (s : List ℕ) (p : Part) (t : Slots) where
  pub header-law : Level k.Header (bytes_at s p) t → (a1 a3 a4 : std.Option ℤ) (a7 : std.Option ℕ) → SignedIs t 1 a1 → SignedIs t 3 a3 → SignedIs t 4 a4 → NumIs t 7 a7
      → HeaderIs (tree_of k.Header (bytes_at s p)) (record { cluster = a1; connection = a3; sequence = a4; kind = a7 })
  header-law y a1 a3 a4 a7 e1 e3 e4 e7 =
      let m = bytes_at s p in
      record { cluster = e1 k.Header m y refl; connection = e3 k.Header m y refl; sequence = e4 k.Header m y refl; kind = e7 k.Header m y refl }

  pub key-value-law : Level k.KeyValue (bytes_at s p) t → (a2 a3 a4 a5 : Part) (a6 a7 a8 : std.Option ℕ)
      → PartIs s p t 2 a2 → PartIs s p t 3 a3 → PartIs s p t 4 a4 → PartIs s p t 5 a5 → NumIs t 6 a6 → NumIs t 7 a7 → NumIs t 8 a8
      → KeyValueIs s (tree_of k.KeyValue (bytes_at s p)) (record { version = a2; key = a3; expected = a4; tag = a5; algorithm = a6; metadata = a7; force = a8 })
  key-value-law y a2 a3 a4 a5 a6 a7 a8 e2 e3 e4 e5 e6 e7 e8 =
      let m = bytes_at s p in
      record {
        version = e2.bytes k.KeyValue y refl;
        key = e3.bytes k.KeyValue y refl;
        expected = e4.bytes k.KeyValue y refl;
        tag = e5.bytes k.KeyValue y refl;
        algorithm = e6 k.KeyValue m y refl;
        metadata = e7 k.KeyValue m y refl;
        force = e8 k.KeyValue m y refl;
        lies = record {
          version = e2.lies;
          key = e3.lies;
          expected = e4.lies;
          tag = e5.lies;
          algorithm = subst (λ (o : Option ℕ). or_else 0 o ≤ 6) (sym (e6 k.KeyValue m y refl)) (key-value-most m (tree_is k.KeyValue m y.reads));
        };
      }

  pub range-law : Level k.Range (bytes_at s p) t → (a1 a2 : Part) (a3 a4 a5 a6 : std.Option ℕ) → PartIs s p t 1 a1 → PartIs s p t 2 a2 → NumIs t 3 a3 → NumIs t 4 a4 → NumIs t 5 a5 → NumIs t 6 a6
      → RangeIs s (tree_of k.Range (bytes_at s p)) (record { start = a1; end = a2; first = a3; last = a4; limit = a5; reverse = a6 })
  range-law y a1 a2 a3 a4 a5 a6 e1 e2 e3 e4 e5 e6 =
      let m = bytes_at s p in
      record {
        start = e1.bytes k.Range y refl;
        end = e2.bytes k.Range y refl;
        first = e3 k.Range m y refl;
        last = e4 k.Range m y refl;
        limit = e5 k.Range m y refl;
        reverse = e6 k.Range m y refl;
        lies = record { start = e1.lies; end = e2.lies };
      }
