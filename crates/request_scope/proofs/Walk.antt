-- The walk over the permissions of a scope.
use Prim.Native.Nat.{ℕ, zero, suc, ◌+◌, ◌≤◌, ◌<◌}
use native.Mathlib.Omega.{arith}
use mathlib.Core.Path.{◌≡◌, refl, sym, ap, ap₂, ◌∙◌}
use mathlib.Core.List.{List, [], ◌∷◌, ◌++◌, append_assoc, append-nil}
use mathlib.Core.Bool.{Bool, true, false, ◌&&◌, ◌||◌}
use lib.ListN.{length, length-append}
use lib.Dec.{leb, ltb}
use borrow.Author.Tests.{le-leb, lt-leb, lt-ltb, leb-true}
use Rattle.fields_schema.specs.declared.Kind.TheVariants as kind
use Rattle.base_definitions.specs.Bits.{with_bit}
use Rattle.base_definitions.specs.Lists.{all, within}
use Rattle.access_record.specs.Table.{named, mask_of}
use Rattle.access_record.proofs.TableLaws.{within-high}
use Rattle.access_record.proofs.MaskLaws.{mask-more}
use Rattle.fields_lookup.specs.Views.{Inside, bytes_at}
use Rattle.fields_repeated.specs.Values.{numbers_in, WellFramed, NextNumIs}
use Rattle.fields_repeated.specs.RepeatedLaws.{repeated-ints, reads-framed}
use Rattle.fields_lookup.specs.declared.parts.Part.{Part}
use Rattle.std.specs.Prelude.{Some, None}
use Rattle.std.specs.Bool.{then_some}
use Rattle.protocol.specs.Command.{Scope}
use Rattle.protocol.specs.Judge.{permissions_good}
use Rattle.request_scope.specs.Stands.{StandsScope, scope_in}
use Rattle.request_scope.specs.Scope.{PermissionsAre}
use Rattle.request_scope.specs.ScopeLaws.{both_false}

all_append : {A : Type 0} (f : A → Bool) (xs ys : List A) → all f (xs ++ ys) ≡ (all f xs && all f ys)
unfolding all
all_append f [] ys = refl
all_append f (x ∷ xs) ys = go (f x) (all_append f xs ys)
  where
    go : (b : Bool) → all f (xs ++ ys) ≡ (all f xs && all f ys) → (b && all f (xs ++ ys)) ≡ ((b && all f xs) && all f ys)
    go true e = e
    go false e = refl

pub record Walk (s : List ℕ) (p left : Part) (mask n : ℕ) : Type 0 where
  pub inside : Inside s left
  pub framed : WellFramed (bytes_at s left)
  pub past : List ℕ
  pub split : numbers_in 3 (bytes_at s p) ≡ past ++ numbers_in 3 (bytes_at s left)
  pub count : length past ≡ n
  pub good : all named past ≡ true
  pub set : mask ≡ mask_of past

permissions-are : (s : List ℕ) (p : Part) → StandsScope s p → (scope_in s p).permissions ≡ numbers_in 3 (bytes_at s p)
permissions-are s p y = repeated-ints kind.Scope (bytes_at s p) y.reads 3 refl

judged : (c : Scope) (ps : List ℕ) → c.permissions ≡ ps → permissions_good c ≡ (within 1 9 (length ps) && all named ps)
unfolding permissions_good
judged c ps e = ap (λ (l : List ℕ). (within 1 9 (length l) && all named l)) e

pub walk_start : (s : List ℕ) (p : Part) → StandsScope s p → Walk s p p 0 0
unfolding all mask_of
walk_start s p y = record { inside = y.inside; framed = reads-framed kind.Scope (bytes_at s p) y.reads; past = []; split = refl; count = refl; good = refl; set = refl }

refused : (c : Scope) → permissions_good c ≡ false → PermissionsAre c None
refused c h = sym (ap (λ (b : Bool). then_some b (mask_of c.permissions)) h)

module _ (s : List ℕ) (p left : Part) (mask n : ℕ) (y : StandsScope s p) (w : Walk s p left mask n) where
  pub walk-many : 10 ≤ n → PermissionsAre (scope_in s p) None
  walk-many h =
      let ps = w.past ++ numbers_in 3 (bytes_at s left) in
      let l = length-append w.past (numbers_in 3 (bytes_at s left)) in
      let k = w.count in
      let big : leb (length ps) 9 ≡ false = lt-leb (length ps) 9 (omega arith) in
      refused (scope_in s p)
      (judged (scope_in s p) ps (permissions-are s p y ∙ w.split) ∙ ap (λ (b : Bool). ((leb 1 (length ps) && b) && all named ps)) big ∙ ap (λ (b : Bool). (b && all named ps)) (both_false (leb 1 (length ps))))

  pub walk_end : NextNumIs s left 3 None → n < 10 → PermissionsAre (scope_in s p) (then_some (ltb 0 n) mask)
  walk_end h l =
      let whole : (scope_in s p).permissions ≡ w.past = permissions-are s p y ∙ w.split ∙ ap (λ (l : List ℕ). w.past ++ l) (h w.framed) ∙ append-nil w.past in
      sym (ap₂ then_some (judged (scope_in s p) w.past whole ∙ ap₂ (λ (k : ℕ) (b : Bool). (within 1 9 k && b)) w.count w.good ∙ counted n l) (ap mask_of whole ∙ sym w.set))
    where
      counted : (n : ℕ) → n < 10 → (within 1 9 n && true) ≡ ltb 0 n
      counted zero l = refl
      counted (suc k) l = ap₂ (λ (a b : Bool). ((a && b) && true)) (le-leb 1 (suc k) (omega arith)) (le-leb (suc k) 9 (omega arith)) ∙ sym (lt-ltb 0 (suc k) (omega arith))

  module _ (v : ℕ) (later : Part) (h : NextNumIs s left 3 (Some (v, later))) where
    next : numbers_in 3 (bytes_at s left) ≡ v ∷ numbers_in 3 (bytes_at s later)
    next = h.first w.framed

    pub walk-bad : named v ≡ false → PermissionsAre (scope_in s p) None
    unfolding all
    walk-bad b =
        let rest = numbers_in 3 (bytes_at s later) in
        let ps = w.past ++ (v ∷ rest) in
        let no : all named ps ≡ false = all_append named w.past (v ∷ rest) ∙ ap (λ (t : Bool). (all named w.past && (t && all named rest))) b ∙ both_false (all named w.past) in
        refused (scope_in s p)
        (judged (scope_in s p) ps (permissions-are s p y ∙ w.split ∙ ap (λ (l : List ℕ). w.past ++ l) next) ∙ ap (◌&&◌ (within 1 9 (length ps))) no ∙ both_false (within 1 9 (length ps)))

    pub walk-on : named v ≡ true → (m : ℕ) → m ≡ with_bit mask v → Walk s p later m (n + 1)
    unfolding all
    walk-on b m q =
        let rest = numbers_in 3 (bytes_at s later) in
        record {
          inside = h.inside;
          framed = h.framed w.framed;
          past = w.past ++ (v ∷ []);
          split = w.split ∙ ap (λ (l : List ℕ). w.past ++ l) next ∙ sym (append_assoc w.past (v ∷ []) rest);
          count = length-append w.past (v ∷ []) ∙ ap (λ (k : ℕ). k + 1) w.count;
          good = all_append named w.past (v ∷ []) ∙ ap₂ (λ (a c : Bool). (a && (c && true))) w.good b;
          set = q ∙ ap (λ (k : ℕ). with_bit k v) w.set ∙ mask-more w.past v;
        }

pub named_small : (p : ℕ) → named p ≡ true → p < 16
unfolding named
named_small p e = go (leb p 5) refl e
  where
    go : (t : Bool) → leb p 5 ≡ t → (t || within 7 9 p) ≡ true → p < 16
    go true q f = let h = leb-true p 5 q in omega arith
    go false q f = let h = within-high 7 9 p f in omega arith
