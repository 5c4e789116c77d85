-- The scopes of an ACL, and one ACL.
use Prim.Native.Nat.{ℕ, suc, ◌+◌, ◌≤◌, ◌<◌}
use mathlib.Core.Path.{◌≡◌, refl, sym, ap, ap₂, ◌∙◌}
use mathlib.Core.List.{List, [], ◌∷◌}
use mathlib.Core.Bool.{Bool, true, false, ◌&&◌}
use lib.ListN.{length}
use lib.Dec.{leb}
use borrow.Author.Tests.{le-leb, lt-leb}
use Rattle.fields_schema.specs.Tree.{level, is_some, raw_at}
use Rattle.fields_decode.specs.Slots.{Tells}
use Rattle.fields_schema.specs.declared.Kind.TheVariants as kind
use Rattle.fields_decode.specs.declared.slots.Slots.{Slots}
use Rattle.base_definitions.specs.Options.{or_else}
use Rattle.base_definitions.specs.Lists.{all, within, map_l}
use Rattle.access_record.specs.Table.{scope_good, acl_good}
use Rattle.access_table_write.specs.Write.{put_scope, put_scopes, put_acl}
use Rattle.base_integers.specs.Signed.{word_of}
use Rattle.fields_lookup.specs.Views.{Inside, bytes_at, tree_of, signed_view, SignedIs, PartIs}
use Rattle.fields_lookup.specs.declared.parts.Part.{Part}
use Rattle.std.specs.Prelude.{ℤ, Some, None}
use Rattle.std.specs.Prelude as std
use mathlib.Core.Option.{some}
use Rattle.fields_lookup.proofs.Slotted.{length_at}
use Rattle.protocol.specs.Command.{Scope, Acl}
use Rattle.protocol.specs.Judge.{permissions_good, acl_read, wanted_scope}
use Rattle.request_scope.specs.Stands.{StandsAcl, acl_in}
use Rattle.request_scope.specs.Scope.{scope_taken}
use Rattle.request_scope.specs.ScopeLaws.{both_false, level-at, or-empty}
use Rattle.request_acl.specs.Taken.{scopes_taken, acl_taken, put_one, Makes}
use Rattle.request_acl.proofs.Scopes.{makes-no}

-- ---- written one after another
abbrev pub put_them : ℕ → List ℕ → ℕ → List Scope → List ℕ
put_them place l n cs = put_scopes l place n (map_l wanted_scope cs)

abbrev pub put_it : ℕ → List ℕ → ℕ → Scope → List ℕ
put_it place l n c = put_scope l place n (wanted_scope c)

pub them-nil : (place : ℕ) (l : List ℕ) (n : ℕ) → put_them place l n [] ≡ l
unfolding put_scopes map_l
them-nil place l n = refl

pub them-cons : (place : ℕ) (l : List ℕ) (n : ℕ) (c : Scope) (cs : List Scope) → put_them place l n (c ∷ cs) ≡ put_them place (put_it place l n c) (n + 1) cs
unfolding put_scopes map_l
them-cons place l n c cs = refl

-- ---- tests over lists
pub length-map : {A B : Type 0} (g : A → B) (xs : List A) → length (map_l g xs) ≡ length xs
unfolding map_l
length-map g [] = refl
length-map g (x ∷ xs) = ap (λ (n : ℕ). suc n) (length-map g xs)

pub all_map : {A B : Type 0} (f : B → Bool) (g : A → B) (xs : List A) → all f (map_l g xs) ≡ all (λ x. f (g x)) xs
unfolding map_l all
all_map f g [] = refl
all_map f g (x ∷ xs) = ap (◌&&◌ (f (g x))) (all_map f g xs)

swap : (a b c d : Bool) → ((a && b) && (c && d)) ≡ ((a && c) && (b && d))
swap true true c d = refl
swap true false true d = refl
swap true false false d = refl
swap false b c d = refl

pub all_both : {A : Type 0} (f g : A → Bool) (xs : List A) → all (λ x. (f x && g x)) xs ≡ (all f xs && all g xs)
unfolding all
all_both f g [] = refl
all_both f g (x ∷ xs) = ap (◌&&◌ (f x && g x)) (all_both f g xs) ∙ swap (f x) (g x) (all f xs) (all g xs)

-- ---- the rules of an ACL
order : (i a w v b : Bool) → ((i && a) && (w && (v && b))) ≡ (i && (w && (v && (a && b))))
order false a w v b = refl
order true true w v b = refl
order true false true true b = refl
order true false true false b = refl
order true false false v b = refl

scopes-all : (cs : List Scope) → all scope_taken cs ≡ (all permissions_good cs && all scope_good (map_l wanted_scope cs))
unfolding scope_taken
scopes-all cs = all_both permissions_good (λ c. scope_good (wanted_scope c)) cs ∙ ap (◌&&◌ (all permissions_good cs)) (sym (all_map scope_good wanted_scope cs))

acl-test : (a : Acl) → acl_taken a ≡ (is_some a.identity && (within 1 64 (length a.key) && scopes_taken a.scopes))
unfolding acl_taken acl_read acl_good scopes_taken
acl-test a =
    order (is_some a.identity) (all permissions_good a.scopes) (within 1 64 (length a.key)) (within 1 4 (length (map_l wanted_scope a.scopes))) (all scope_good (map_l wanted_scope a.scopes))
    ∙ ap₂ (λ (n : ℕ) (b : Bool). (is_some a.identity && (within 1 64 (length a.key) && (within 1 4 n && b)))) (length-map wanted_scope a.scopes) (sym (scopes-all a.scopes))

-- ---- what was read of an ACL
pub record AclFacts (s : List ℕ) (p : Part) (identity : std.Option ℤ) (key : Part) : Type 0 where
  pub place : Inside s key
  pub identity_is : signed_view identity ≡ (acl_in s p).identity
  pub key_is : bytes_at s key ≡ (acl_in s p).key

pub acl-facts : (s : List ℕ) (p : Part) (t : Slots) → StandsAcl s p → Tells kind.Acl (bytes_at s p) t (level kind.Acl (bytes_at s p))
    → (identity : std.Option ℤ) → SignedIs t 1 identity → (key : Part) → PartIs s p t 2 key → AclFacts s p identity key
acl-facts s p t y h identity x key v =
    let l = level-at t y h in
    record {
      place = v.lies.inside;
      identity_is = x kind.Acl (bytes_at s p) l refl;
      key_is = v.lies.empty ∙ ap (or_else []) (v.bytes kind.Acl l refl) ∙ or-empty (raw_at 2 (tree_of kind.Acl (bytes_at s p)));
    }

module _ {s : List ℕ} {p : Part} {identity : std.Option ℤ} {key : Part} (f : AclFacts s p identity key) (out bytes : List ℕ) where
  pub acl-nameless : identity ≡ None → Makes (acl_taken (acl_in s p)) false out bytes
  acl-nameless e =
      let a = acl_in s p in
      let n : is_some a.identity ≡ false = ap is_some (sym f.identity_is ∙ ap signed_view e) in
      makes-no (acl_taken a) out bytes (acl-test a ∙ ap (λ (b : Bool). (b && (within 1 64 (length a.key) && scopes_taken a.scopes))) n)

  key-bad : within 1 64 (length (acl_in s p).key) ≡ false → Makes (acl_taken (acl_in s p)) false out bytes
  key-bad e =
      let a = acl_in s p in
      makes-no (acl_taken a) out bytes (acl-test a ∙ ap (λ (b : Bool). (is_some a.identity && (b && scopes_taken a.scopes))) e ∙ both_false (is_some a.identity))

  key-length : length (acl_in s p).key ≡ key.len
  key-length = ap length (sym f.key_is) ∙ length_at s key f.place

  pub acl-keyless : key.len < 1 → Makes (acl_taken (acl_in s p)) false out bytes
  acl-keyless l = key-bad (ap (within 1 64) key-length ∙ ap (λ (b : Bool). (b && leb key.len 64)) (lt-leb 1 key.len l))

  pub acl-long : 64 < key.len → Makes (acl_taken (acl_in s p)) false out bytes
  acl-long l = key-bad (ap (within 1 64) key-length ∙ ap (◌&&◌ (leb 1 key.len)) (lt-leb key.len 64 l) ∙ both_false (leb 1 key.len))

pub acl-made : {s : List ℕ} {p : Part} {identity : ℤ} {key : Part} → AclFacts s p (Some identity) key → 1 ≤ key.len → key.len ≤ 64
    → (device between out : List ℕ) (place : ℕ) (w : ℕ) (k : List ℕ) (r : Bool) → w ≡ word_of identity → k ≡ bytes_at s key → between ≡ put_acl device place w k
    → Makes (scopes_taken (acl_in s p).scopes) r out (put_scopes between place 0 (map_l wanted_scope (acl_in s p).scopes)) → Makes (acl_taken (acl_in s p)) r out (put_one device place (acl_in s p))
unfolding put_one
acl-made {s} {p} {identity} {key} f low high device between out place x k r u q e m =
    let a = acl_in s p in
    let there : some (word_of identity) ≡ a.identity = f.identity_is in
    let n : is_some a.identity ≡ true = ap is_some (sym there) in
    let w : within 1 64 (length a.key) ≡ true = ap (within 1 64) (ap length (sym f.key_is) ∙ length_at s key f.place) ∙ ap₂ ◌&&◌ (le-leb 1 key.len low) (le-leb key.len 64 high) in
    let v : x ≡ or_else 0 a.identity = u ∙ ap (or_else 0) there in
    record {
      answer = m.answer ∙ sym (acl-test a ∙ ap₂ (λ (b c : Bool). (b && (c && scopes_taken a.scopes))) n w);
      made = λ t. m.made t ∙ ap (λ (l : List ℕ). put_scopes l place 0 (map_l wanted_scope a.scopes)) (e ∙ ap₂ (λ (i : ℕ) (b : List ℕ). put_acl device place i b) v (q ∙ f.key_is));
    }
