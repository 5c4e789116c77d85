-- The parts of a body as `Judge` has them.
use Prim.Native.Nat.{ℕ}
use mathlib.Core.Path.{◌≡◌, refl, sym, ap, ◌∙◌}
use mathlib.Core.List.{List, []}
use mathlib.Core.Option.{Option, none, some}
use mathlib.Core.Bool.{Bool, true, false, not, ◌&&◌}
use lib.ListN.{length}
use Rattle.fields_schema.specs.Tree.{guard, is_some, map_o}
use Rattle.base_definitions.specs.Options.{or_else}
use Rattle.fields_lookup.specs.Views.{bytes_at, num_view, part_view, Lies}
use Rattle.fields_lookup.specs.declared.parts.Part.{Part}
use Rattle.fields_lookup.proofs.Slotted.{length_at}
use Rattle.protocol.specs.Command as c
use Rattle.protocol.specs.Judge.{present, key_value_good, change_good, security_good, algorithms_good}
use Rattle.judge_body_rules.specs.BodyParts.{security_fault, Lengths, RangeLengths}
use Rattle.request_parts.specs.Views.{key_value_view, range_view, KeyValueLies, RangeLies}
use Rattle.request_parts.specs.declared.KeyValue.{KeyValue}
use Rattle.request_parts.specs.declared.Range.{Range}

-- a part that must be there
module _ {A : Type 0} (f : A → Bool) (b : Bool) (x : A) where
  pub there : {r : Bool} → b ≡ true → r ≡ f x → r ≡ present f (guard b x)
  there e q = q ∙ sym (ap (λ b. present f (guard b x)) e)

pub is-there : {A : Type 0} (b : Bool) (x : A) → is_some (guard b x) ≡ b
is-there false x = refl
is-there true x = refl

-- the lengths of the parts are those of the bytes
part_length : (s : List ℕ) (p : Part) → Lies s p → length (or_else [] (part_view s p)) ≡ p.len
part_length s p l = go (part_view s p) l.empty
  where
    go : (o : Option (List ℕ)) → bytes_at s p ≡ or_else [] o → length (or_else [] o) ≡ p.len
    go none e = sym (ap length e) ∙ length_at s p l.inside
    go (some b) e = sym (ap length e) ∙ length_at s p l.inside

view-length : (s : List ℕ) (p : Part) → Lies s p → map_o length (part_view s p) ≡ guard p.has p.len
view-length s p l = go p.has ∙ ap (guard p.has) (length_at s p l.inside)
  where
    go : (b : Bool) → map_o length (guard b (bytes_at s p)) ≡ guard b (length (bytes_at s p))
    go false = refl
    go true = refl

pub lengths : (s : List ℕ) (k : KeyValue) → KeyValueLies s k → Lengths (key_value_view s k) k.key.len k.version.len k.expected.len k.tag.len
lengths s k l =
    record {
      key = part_length s k.key l.key;
      new_version = part_length s k.version l.version;
      db_version = part_length s k.expected l.expected;
      tag = part_length s k.tag l.tag;
    }

pub range-lengths : (s : List ℕ) (g : Range) (n : ℕ) → RangeLies s g → n ≡ or_else 32 (num_view g.limit)
    → RangeLengths (range_view s g) (guard g.start.has g.start.len) (guard g.end.has g.end.len) n
range-lengths s g n l e = record { start = view-length s g.start l.start; end = view-length s g.end l.end; most = sym e }

-- "metadataOnly not true on PUT or DELETE"
pub only-metadata : (b : Bool) (x : c.KeyValue) → x.metadata_only ≡ true → false ≡ present change_good (guard b x)
only-metadata false x e = refl
only-metadata true x e = go (key_value_good x) x.metadata_only e
  where
    go : (g m : Bool) → m ≡ true → false ≡ (g && not m)
    go false m e = refl
    go true m e = rw e

pub whole-value : (b : Bool) (x : c.KeyValue) → x.metadata_only ≡ false → present key_value_good (guard b x) ≡ present change_good (guard b x)
whole-value false x e = refl
whole-value true x e = go (key_value_good x) x.metadata_only e
  where
    go : (g m : Bool) → m ≡ false → g ≡ (g && not m)
    go false m e = refl
    go true m e = rw e

-- the code of a security part
module _ (b : Bool) (x : List c.Acl) where
  pub no-security : b ≡ false → 16 ≡ security_fault (guard b x)
  no-security e = rw e

  pub rules-broken : b ≡ true → security_good x ≡ false → 16 ≡ security_fault (guard b x)
  rules-broken e g = rw (e, g)

  pub other-algorithm : b ≡ true → security_good x ≡ true → algorithms_good x ≡ false → 15 ≡ security_fault (guard b x)
  other-algorithm e g a = rw (e, g, a)

  pub security-right : b ≡ true → security_good x ≡ true → algorithms_good x ≡ true → 0 ≡ security_fault (guard b x)
  security-right e g a = rw (e, g, a)
