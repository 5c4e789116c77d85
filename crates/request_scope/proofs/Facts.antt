-- One scope: its fields and its rules.
use Prim.Native.Nat.{ℕ, ◌≤◌, ◌<◌}
use mathlib.Core.Path.{◌≡◌, refl, sym, ap, ap₂, ◌∙◌}
use mathlib.Core.List.{List, [], ◌∷◌}
use Rattle.std.specs.Prelude.{ℤ, Some, None}
use Rattle.std.specs.Prelude as std
use Rattle.std.specs.Bool.{then_some}
use Rattle.std.proofs.lemmas.Option.{none-some}
use mathlib.Core.Bool.{Bool, true, false, not, ◌&&◌}
use lib.ListN.{length}
use lib.Dec.{leb}
use borrow.Author.Tests.{le-leb, lt-leb}
use Rattle.fields_schema.specs.Tree.{level, raw_at}
use Rattle.fields_decode.specs.Slots.{Tells}
use Rattle.fields_schema.specs.declared.Kind.TheVariants as kind
use Rattle.fields_decode.specs.declared.slots.Slots.{Slots}
use Rattle.base_definitions.specs.Options.{or_else}
use Rattle.base_definitions.specs.Lists.{all, within, is_empty}
use Rattle.access_record.specs.Table.{named, mask_of, mask_good, offset_good, scope_good}
use Rattle.access_record.proofs.TableLaws.{both-snd}
use Rattle.access_record.proofs.MaskLaws.{mask-good}
use Rattle.fields_lookup.specs.Views.{Inside, bytes_at, tree_of, num_view, signed_view, NumIs, SignedIs, PartIs}
use Rattle.fields_lookup.specs.declared.parts.Part.{Part}
use Rattle.fields_lookup.proofs.Slotted.{length_at}
use Rattle.protocol.specs.Command.{Scope, flag}
use Rattle.protocol.specs.Judge.{permissions_good}
use Rattle.request_scope.specs.Stands.{StandsScope, scope_in}
use Rattle.request_scope.specs.Scope.{PermissionsAre, scope_taken, ScopeRead}
use Rattle.request_scope.specs.ScopeLaws.{both_false, level-at, or-empty}

-- ---- what was read of a scope
pub record Facts (s : List ℕ) (p value : Part) (offset : ℕ) (tls : Bool) (held : std.Option ℕ) : Type 0 where
  pub place : Inside s value
  pub offset_is : offset ≡ (scope_in s p).offset
  pub value_is : bytes_at s value ≡ (scope_in s p).value
  pub tls_is : tls ≡ (scope_in s p).tls_required
  pub held_is : PermissionsAre (scope_in s p) held

pub facts-of : (s : List ℕ) (p : Part) (t : Slots) → StandsScope s p → Tells kind.Scope (bytes_at s p) t (level kind.Scope (bytes_at s p))
    → (value : Part) → PartIs s p t 2 value → (a : std.Option ℤ) (offset : ℕ) → SignedIs t 1 a → offset ≡ or_else 0 (signed_view a) → (b : std.Option ℕ) (tls : Bool) → NumIs t 4 b → tls ≡ flag (num_view b)
    → (held : std.Option ℕ) → PermissionsAre (scope_in s p) held → Facts s p value offset tls held
facts-of s p t y h value v a offset x e b tls z f held g =
    let l = level-at t y h in
    record {
      place = v.lies.inside;
      offset_is = e ∙ ap (or_else 0) (x kind.Scope (bytes_at s p) l refl);
      value_is = v.lies.empty ∙ ap (or_else []) (v.bytes kind.Scope l refl) ∙ or-empty (raw_at 2 (tree_of kind.Scope (bytes_at s p)));
      tls_is = f ∙ ap flag (z kind.Scope (bytes_at s p) l refl);
      held_is = g;
    }

-- ---- its rules
taken-test : (c : Scope) → scope_taken c ≡ (permissions_good c && (offset_good c.offset && (leb (length c.value) 64 && mask_good (mask_of c.permissions))))
unfolding scope_taken scope_good
taken-test c = refl

good-mask : (c : Scope) → permissions_good c ≡ true → mask_good (mask_of c.permissions) ≡ true
unfolding permissions_good
good-mask c h = mask-good c.permissions ∙ go c.permissions h
  where
    go : (ps : List ℕ) → (within 1 9 (length ps) && all named ps) ≡ true → (not (is_empty ps) && all named ps) ≡ true
    go [] h = h
    go (p ∷ ps) h = both-snd (within 1 9 (length (p ∷ ps))) (all named (p ∷ ps)) h

-- good permissions are those that were read
read-good : (b : Bool) (m k : ℕ) → Some m ≡ then_some b k → (b ≡ true) × (m ≡ k)
read-good true m k e = (refl, cc (e))
read-good false m k e = absurd (none-some m (sym e))

read-none : (b : Bool) (k : ℕ) → None ≡ then_some b k → b ≡ false
read-none true k e = absurd (none-some k e)
read-none false k e = refl

module _ {s : List ℕ} {p value : Part} {offset : ℕ} {tls : Bool} where
  pub scope-unnamed : {held : std.Option ℕ} → Facts s p value offset tls held → held ≡ None → scope_taken (scope_in s p) ≡ false
  scope-unnamed f e =
      let c = scope_in s p in
      let n = read-none (permissions_good c) (mask_of c.permissions) (sym e ∙ f.held_is) in
      taken-test c ∙ ap (λ (b : Bool). (b && (offset_good c.offset && (leb (length c.value) 64 && mask_good (mask_of c.permissions))))) n

  module _ {mask : ℕ} (f : Facts s p value offset tls (Some mask)) where
    pub scope-far : offset_good offset ≡ false → scope_taken (scope_in s p) ≡ false
    scope-far n =
        let c = scope_in s p in
        let x : offset_good c.offset ≡ false = ap offset_good (sym f.offset_is) ∙ n in
        taken-test c ∙ ap (λ (b : Bool). (permissions_good c && (b && (leb (length c.value) 64 && mask_good (mask_of c.permissions))))) x ∙ both_false (permissions_good c)

    value-length : length (scope_in s p).value ≡ value.len
    value-length = ap length (sym f.value_is) ∙ length_at s value f.place

    pub scope-long : 64 < value.len → scope_taken (scope_in s p) ≡ false
    scope-long n =
        let c = scope_in s p in
        let x : leb (length c.value) 64 ≡ false = ap (λ (k : ℕ). leb k 64) value-length ∙ lt-leb value.len 64 n in
        taken-test c ∙ ap (λ (b : Bool). (permissions_good c && (offset_good c.offset && (b && mask_good (mask_of c.permissions))))) x ∙ ap (◌&&◌ (permissions_good c)) (both_false (offset_good c.offset)) ∙ both_false (permissions_good c)

    pub scope-read : offset_good offset ≡ true → value.len ≤ 64 → (n : ℕ) → n ≡ offset → ScopeRead s (scope_in s p) (record { offset = n; mask = mask; tls = tls; value = value })
    scope-read o v n j =
        let c = scope_in s p in
        let g = read-good (permissions_good c) mask (mask_of c.permissions) f.held_is in
        let x : offset_good c.offset ≡ true = ap offset_good (sym f.offset_is) ∙ o in
        let y : leb (length c.value) 64 ≡ true = ap (λ (k : ℕ). leb k 64) value-length ∙ le-leb value.len 64 v in
        let rest : (offset_good c.offset && (leb (length c.value) 64 && mask_good (mask_of c.permissions))) ≡ true =
        ap₂ (λ (a b : Bool). (a && (b && mask_good (mask_of c.permissions)))) x y ∙ good-mask c g.0 in
        let e1 = j ∙ f.offset_is in
        let e2 = f.value_is in
        let e4 = f.tls_is in
        record {
          taken = taken-test c ∙ ap₂ (λ (a b : Bool). (a && b)) g.0 rest;
          inside = f.place;
          short = v;
          says = λ i. record { offset = e1 i; value = e2 i; permissions = g.1 i; tls_required = e4 i };
        }
