-- What the verdict rests on: one single scope, the set of its permissions, and the place of its value in the key.
use Rattle.std.specs.Prelude.{◌≡◌, refl, Bool, true, false, ◌&&◌, ◌||◌, List, [], ◌∷◌, ◌++◌, ℕ, zero, suc, ◌<◌, eqb, length, take, drop, get_or}
use Rattle.std.proofs.Common.{sym, ap, ◌∙◌, arith, not-suc-le-zero}
use Rattle.base_definitions.specs.Lists.{any, is_empty, same_bytes}
use Rattle.access_record.specs.Table.{Scope, Acl, scope_of}
use Rattle.access_record.proofs.TableLaws.{both-fst, both-snd}
use Rattle.access_record.proofs.MaskLaws.{mask-has, mask-set}
use Rattle.access_permission.specs.Permission.{fits_at, fits, holds, allows, grants, permits}
use Rattle.access_permission.specs.Granted.{no_scope, Granted}
use Rattle.base_definitions.proofs.ListLaws.{same_bytes-true, same_bytes-self}

record Somewhere (f : Scope → Bool) (xs : List Scope) : Type 0 where
  at : ℕ
  below : at < length xs
  yes : f (get_or xs at no_scope) ≡ true

somewhere : (f : Scope → Bool) (xs : List Scope) → any f xs ≡ true → Somewhere f xs
unfolding any
somewhere f [] e = absurd (let z : ◌≡◌ {A = ℕ} 0 1 = cc in omega arith)
somewhere f (x ∷ xs) e = go (f x) refl e (somewhere f xs)
  where
    go : (t : Bool) → f x ≡ t → (t || any f xs) ≡ true → (any f xs ≡ true → Somewhere f xs) → Somewhere f (x ∷ xs)
    go true q h ih = record { at = 0; below = omega arith; yes = q }
    go false q h ih = let w = ih h in record { at = suc w.at; below = let b = w.below in omega arith; yes = w.yes }

anywhere : (f : Scope → Bool) (xs : List Scope) (i : ℕ) → i < length xs → f (get_or xs i no_scope) ≡ true → any f xs ≡ true
unfolding any
anywhere f [] i h e = absurd (not-suc-le-zero h)
anywhere f (x ∷ xs) zero h e = ap (λ (t : Bool). (t || any f xs)) e
anywhere f (x ∷ xs) (suc i) h e = later (f x) (anywhere f xs i (omega arith) e)
  where
    later : (t : Bool) {u : Bool} → u ≡ true → (t || u) ≡ true
    later true q = refl
    later false q = q

both-in : {x y : Bool} → x ≡ true → y ≡ true → (x && y) ≡ true
both-in {x} {y} p q = ap (λ (t : Bool). (t && y)) p ∙ q

-- the verdict is yes just where one scope does all three
pub granted : (a : Acl) (protected : Bool) (p : ℕ) (k : List ℕ) → permits a protected p k ≡ true → Granted a protected p k
unfolding permits grants
granted a protected p k e =
    let w = somewhere (grants true k protected p) a.scopes e in
    let s = get_or a.scopes w.at no_scope in
    let rest = both-snd (holds s p) (allows s protected && fits s k) w.yes in
    record {
      at = w.at;
      below = w.below;
      held = both-fst (holds s p) (allows s protected && fits s k) w.yes;
      allowed = both-fst (allows s protected) (fits s k) rest;
      fitting = both-snd (allows s protected) (fits s k) rest;
    }

pub granting : (a : Acl) (protected : Bool) (p : ℕ) (k : List ℕ) → Granted a protected p k → permits a protected p k ≡ true
unfolding permits grants
granting a protected p k g =
    anywhere (grants true k protected p) a.scopes g.at g.below (both-in g.held (both-in g.allowed g.fitting))

-- ---- a scope fits just where its value stands in the key at its offset

value_in : (v k : List ℕ) → (is_empty v || same_bytes v (take (length v) k)) ≡ true → v ≡ take (length v) k
value_in [] k e = refl
value_in (x ∷ xs) k e = same_bytes-true (x ∷ xs) (take (length (x ∷ xs)) k) e

in-value : (v k : List ℕ) → v ≡ take (length v) k → (is_empty v || same_bytes v (take (length v) k)) ≡ true
in-value [] k e = refl
in-value (x ∷ xs) k e = ap (same_bytes (x ∷ xs)) (sym e) ∙ same_bytes-self (x ∷ xs)

pub fits-yes : (s : Scope) (k : List ℕ) → fits s k ≡ true → s.value ≡ take (length s.value) (drop s.offset k)
unfolding fits fits_at
fits-yes s k e = value_in s.value (drop s.offset k) e

pub fits_in : (s : Scope) (k : List ℕ) → s.value ≡ take (length s.value) (drop s.offset k) → fits s k ≡ true
unfolding fits fits_at
fits_in s k e = in-value s.value (drop s.offset k) e

-- ---- the permission set, not its order or repeats

-- a scope holds exactly the permissions that it lists
pub holds-listed : (offset : ℕ) (value ps : List ℕ) (tls : Bool) (p : ℕ) → holds (scope_of offset value ps tls) p ≡ any (eqb p) ps
unfolding holds
holds-listed offset value ps tls p = mask-has ps p

-- two ways to list the same permissions make the same scope, and so the same verdict, whatever scopes stand before and after
pub listed-alike : (offset : ℕ) (value ps qs : List ℕ) (tls : Bool) → ((q : ℕ) → any (eqb q) ps ≡ any (eqb q) qs)
    → scope_of offset value ps tls ≡ scope_of offset value qs tls
listed-alike offset value ps qs tls e =
    ap (λ (m : ℕ). record { offset = offset; value = value; permissions = m; tls_required = tls }) (mask-set ps qs e)

pub verdict-alike : (offset : ℕ) (value ps qs : List ℕ) (tls : Bool) → ((q : ℕ) → any (eqb q) ps ≡ any (eqb q) qs)
    → (w : ℕ) (key : List ℕ) (before after : List Scope) (protected : Bool) (p : ℕ) (k : List ℕ)
    → permits (record { identity = w; key = key; scopes = before ++ (scope_of offset value ps tls ∷ after) }) protected p k
    ≡ permits (record { identity = w; key = key; scopes = before ++ (scope_of offset value qs tls ∷ after) }) protected p k
verdict-alike offset value ps qs tls e w key before after protected p k =
    ap (λ (s : Scope). permits (record { identity = w; key = key; scopes = before ++ (s ∷ after) }) protected p k)
    (listed-alike offset value ps qs tls e)
