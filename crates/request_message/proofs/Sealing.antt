-- The laws of step 1.
use Prim.Native.Nat.{ℕ}
use mathlib.Core.Path.{◌≡◌, refl, sym, ap, ap₂, ◌∙◌}
use mathlib.Core.List.{List, []}
use mathlib.Core.Option.{Option, none, some}
use mathlib.Core.Bool.{Bool, true, false, cond}
use lib.IntN.{ℤ}
use Rattle.base_integers.specs.Signed.{word_of}
use Rattle.fields_schema.specs.Tree.{map_o, then_o, guard, is_some, listed, Tree, int_at, raw_at, sub_at, tree_in}
use Rattle.fields_schema.specs.declared.Kind.TheVariants as k
use Rattle.fields_lookup.specs.Views.{Reads, tree_of, bytes_at, num_view, signed_view, part_view, Lies, Merges}
use Rattle.fields_later.specs.LaterLaws.{signed-later, part-later, later-is}
use Rattle.fields_lookup.proofs.LevelLaws.{tree_is}
use Rattle.std.specs.Prelude.{Some, None}
use Rattle.std.specs.Prelude as std
use Rattle.std.specs.Option.{option_or}
use Rattle.fields_schema.proofs.OptionLaws.{none_of}
use Rattle.fields_lookup.specs.declared.parts.Part.{Part}
use Rattle.base_definitions.specs.Options.{or_else}
use Rattle.protocol.specs.Reading.{envelope, sealed, is_one, envelope_of, read_message}
use Rattle.request_message.specs.Messages.{AuthIs}
use Rattle.request_message.specs.declared.Auth.{Auth}

then-map : {A B : Type 0} (f : A → B) (o : Option A) → then_o o (λ a. some (f a)) ≡ map_o f o
then-map f none = refl
then-map f (some a) = refl

sealed-cases : (x : Bool) (o : Option Tree) (d : Bool) (c h : List ℕ) (i : Option ℕ) → i ≡ int_at 1 (tree_in o) → h ≡ or_else [] (raw_at 2 (tree_in o))
    → cond (cond x (cond (is_some o) d false) false) (map_o (λ v. envelope v h c) i) none ≡ cond x (sealed o (guard d c)) none
sealed-cases false o d c h i e q = refl
sealed-cases true none d c h i e q = refl
sealed-cases true (some u) false c h i e q = refl
sealed-cases true (some u) true c h i e q =
    ap₂ (λ (b : List ℕ) (i : Option ℕ). map_o (λ v. envelope v b c) i) q e ∙ sym (then-map (λ v. envelope v (or_else [] (raw_at 2 u)) c) (int_at 1 u))

same-empty : (o : Option (List ℕ)) → or_else [] o ≡ or_else [] o
same-empty none = refl
same-empty (some b) = refl

module _ (s : List ℕ) (p : Part) (n : std.Option ℕ) (a c : Part) (x : Auth) (w ok : Bool) (y : Reads k.Message (bytes_at s p)) (e4 : num_view n ≡ int_at 4 (tree_of k.Message (bytes_at s p)))
    (z : a.has ≡ is_some (sub_at 5 (tree_of k.Message (bytes_at s p)))) (e7 : part_view s c ≡ raw_at 7 (tree_of k.Message (bytes_at s p)))
    (h : AuthIs s (tree_in (sub_at 5 (tree_of k.Message (bytes_at s p)))) x) (ew : w ≡ is_one (num_view n)) (eo : ok ≡ cond w (cond a.has c.has false) false) where
  pub sealed-law : cond ok (map_o (λ v. envelope v (bytes_at s x.hmac) (bytes_at s c)) (signed_view x.identity)) none ≡ read_message (bytes_at s p)
  unfolding read_message
  sealed-law =
      let m = bytes_at s p in
      let t = tree_of k.Message m in
      let o = sub_at 5 t in
      let v = map_o (λ v. envelope v (bytes_at s x.hmac) (bytes_at s c)) (signed_view x.identity) in
      let all : ok ≡ cond (is_one (int_at 4 t)) (cond (is_some o) c.has false) false = eo ∙ ap₂ (λ (b d : Bool). cond b (cond d c.has false) false) (ew ∙ ap is_one e4) z in
      let q : bytes_at s x.hmac ≡ or_else [] (raw_at 2 (tree_in o)) = h.lies.empty ∙ same-empty (part_view s x.hmac) ∙ ap (or_else []) h.hmac in
      ap (λ b. cond b v none) all
      ∙ sealed-cases (is_one (int_at 4 t)) o c.has (bytes_at s c) (bytes_at s x.hmac) (signed_view x.identity) h.identity q
      ∙ ap (λ b. cond (is_one (int_at 4 t)) (sealed o b) none) e7
      ∙ sym (ap (λ u. then_o u (λ t. envelope_of t)) (tree_is k.Message m y))

  pub sealed-refused : ok ≡ false → none ≡ read_message (bytes_at s p)
  sealed-refused e = sym (ap (λ b. cond b (map_o (λ v. envelope v (bytes_at s x.hmac) (bytes_at s c)) (signed_view x.identity)) none) e) ∙ sealed-law

  pub sealed-nameless : ok ≡ true → x.identity ≡ None → none ≡ read_message (bytes_at s p)
  sealed-nameless e i = sym (ap₂ (λ b i. cond b (map_o (λ v. envelope v (bytes_at s x.hmac) (bytes_at s c)) (signed_view i)) none) e i) ∙ sealed-law

  pub sealed-read : ok ≡ true → {j : ℤ} → x.identity ≡ Some j → some (envelope (word_of j) (bytes_at s x.hmac) (bytes_at s c)) ≡ read_message (bytes_at s p)
  sealed-read e i = sym (ap₂ (λ b i. cond b (map_o (λ v. envelope v (bytes_at s x.hmac) (bytes_at s c)) (signed_view i)) none) e i) ∙ sealed-law

pub unsealed : (s : List ℕ) → is_some (listed k.Message s) ≡ false → none ≡ read_message s
unfolding read_message
unsealed s f = sym (ap (λ o. then_o o (λ t. envelope_of t)) (none_of (listed k.Message s) f))

-- two HMACauths, one after the other
pub auths-law : (s : List ℕ) (b a : Auth) (r1 : std.Option ℤ) (r2 : Part) → r1 ≡ option_or a.identity b.identity → r2 ≡ cond a.hmac.has a.hmac b.hmac
    → Merges (AuthIs s) b a (record { identity = r1; hmac = r2 })
auths-law s b a r1 r2 e f t u x y = record {
  identity = signed-later 1 t u b.identity a.identity r1 e x.identity y.identity;
  hmac = part-later 2 t u s b.hmac a.hmac r2 f x.hmac y.hmac;
  lies = later-is (λ (p : Part). Lies s p) a.hmac.has b.hmac a.hmac r2 f x.lies y.lies;
}
