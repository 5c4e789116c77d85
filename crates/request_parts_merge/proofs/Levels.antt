-- One law for each level: two of them merged.
use mathlib.Core.Bool.{cond}
use Prim.Native.Nat.{ℕ, ◌≤◌}
use mathlib.Core.Path.{◌≡◌}
use mathlib.Core.List.{List}
use Rattle.fields_lookup.specs.Views.{num_view, Lies, Merges}
use Rattle.fields_later.specs.LaterLaws.{num-later, signed-later, part-later, later-is, one-of}
use Rattle.std.specs.Prelude.{ℤ}
use Rattle.std.specs.Prelude as std
use Rattle.std.specs.Option.{option_or}
use Rattle.fields_lookup.specs.declared.parts.Part.{Part}
use Rattle.base_definitions.specs.Options.{or_else}
use Rattle.request_parts.specs.Views.{HeaderIs, KeyValueIs, RangeIs}
use Rattle.request_parts.specs.declared.Header.{Header}
use Rattle.request_parts.specs.declared.KeyValue.{KeyValue}
use Rattle.request_parts.specs.declared.Range.{Range}

-- two of them, one after the other: of each field the later one
abbrev PartLater : Part → Part → Part → Type 0
PartLater b a r = r ≡ cond a.has a b

pub headers-law : (b a : Header) (r1 r3 r4 : std.Option ℤ) (r7 : std.Option ℕ)
    → r1 ≡ option_or a.cluster b.cluster → r3 ≡ option_or a.connection b.connection → r4 ≡ option_or a.sequence b.sequence → r7 ≡ option_or a.kind b.kind
    → Merges HeaderIs b a (record { cluster = r1; connection = r3; sequence = r4; kind = r7 })
headers-law b a r1 r3 r4 r7 e1 e3 e4 e7 t u x y = record {
  cluster = signed-later 1 t u b.cluster a.cluster r1 e1 x.cluster y.cluster;
  connection = signed-later 3 t u b.connection a.connection r3 e3 x.connection y.connection;
  sequence = signed-later 4 t u b.sequence a.sequence r4 e4 x.sequence y.sequence;
  kind = num-later 7 t u b.kind a.kind r7 e7 x.kind y.kind;
}

module _ (s : List ℕ) where
  lies-later : (b a r : Part) → PartLater b a r → Lies s b → Lies s a → Lies s r
  lies-later b a r e x y = later-is (λ (p : Part). Lies s p) a.has b a r e x y

  pub key-values-law : (b a : KeyValue) (r2 r3 r4 r5 : Part) (r6 r7 r8 : std.Option ℕ)
      → PartLater b.version a.version r2 → PartLater b.key a.key r3 → PartLater b.expected a.expected r4 → PartLater b.tag a.tag r5
      → r6 ≡ option_or a.algorithm b.algorithm → r7 ≡ option_or a.metadata b.metadata → r8 ≡ option_or a.force b.force
      → Merges (KeyValueIs s) b a (record { version = r2; key = r3; expected = r4; tag = r5; algorithm = r6; metadata = r7; force = r8 })
  key-values-law b a r2 r3 r4 r5 r6 r7 r8 e2 e3 e4 e5 e6 e7 e8 t u x y = record {
    version = part-later 2 t u s b.version a.version r2 e2 x.version y.version;
    key = part-later 3 t u s b.key a.key r3 e3 x.key y.key;
    expected = part-later 4 t u s b.expected a.expected r4 e4 x.expected y.expected;
    tag = part-later 5 t u s b.tag a.tag r5 e5 x.tag y.tag;
    algorithm = num-later 6 t u b.algorithm a.algorithm r6 e6 x.algorithm y.algorithm;
    metadata = num-later 7 t u b.metadata a.metadata r7 e7 x.metadata y.metadata;
    force = num-later 8 t u b.force a.force r8 e8 x.force y.force;
    lies = record {
      version = lies-later b.version a.version r2 e2 x.lies.version y.lies.version;
      key = lies-later b.key a.key r3 e3 x.lies.key y.lies.key;
      expected = lies-later b.expected a.expected r4 e4 x.lies.expected y.lies.expected;
      tag = lies-later b.tag a.tag r5 e5 x.lies.tag y.lies.tag;
      algorithm = one-of (λ (n : std.Option ℕ). or_else 0 (num_view n) ≤ 6) b.algorithm a.algorithm r6 e6 x.lies.algorithm y.lies.algorithm;
    };
  }

  pub ranges-law : (b a : Range) (r1 r2 : Part) (r3 r4 r5 r6 : std.Option ℕ) → PartLater b.start a.start r1 → PartLater b.end a.end r2
      → r3 ≡ option_or a.first b.first → r4 ≡ option_or a.last b.last → r5 ≡ option_or a.limit b.limit → r6 ≡ option_or a.reverse b.reverse
      → Merges (RangeIs s) b a (record { start = r1; end = r2; first = r3; last = r4; limit = r5; reverse = r6 })
  ranges-law b a r1 r2 r3 r4 r5 r6 e1 e2 e3 e4 e5 e6 t u x y = record {
    start = part-later 1 t u s b.start a.start r1 e1 x.start y.start;
    end = part-later 2 t u s b.end a.end r2 e2 x.end y.end;
    first = num-later 3 t u b.first a.first r3 e3 x.first y.first;
    last = num-later 4 t u b.last a.last r4 e4 x.last y.last;
    limit = num-later 5 t u b.limit a.limit r5 e5 x.limit y.limit;
    reverse = num-later 6 t u b.reverse a.reverse r6 e6 x.reverse y.reverse;
    lies = record { start = lies-later b.start a.start r1 e1 x.lies.start y.lies.start; end = lies-later b.end a.end r2 e2 x.lies.end y.lies.end };
  }
