-- A set of types has just those that are asked for.
use Rattle.std.specs.Prelude.{◌≡◌, refl, Bool, true, false, not, cond, ◌&&◌, ◌||◌, List, [], ◌∷◌, ℕ, eqb}
use Rattle.std.proofs.Common.{sym, ap, ap₂, ◌∙◌, arith, eq-eqb}
use Rattle.fields_schema.specs.Tree.{among}
use Rattle.base_definitions.specs.Bits.{bit}
use Rattle.base_definitions.specs.Lists.{any, is_empty}
use Rattle.access_record.specs.Table.{mask_of}
use Rattle.base_definitions.proofs.BitsLaws.{no-bit}
use Rattle.access_record.proofs.MaskLaws.{mask-has}
use Rattle.protocol.specs.Judge.{types_good}
use Rattle.request_log_types.specs.Types.{TypesAre}

any-among : (types : List ℕ) (t : ℕ) → any (eqb t) types ≡ among t types
unfolding any
any-among [] t = refl
any-among (x ∷ types) t = go (eqb t x) (any-among types t)
  where
    go : (b : Bool) → any (eqb t) types ≡ among t types → (b || any (eqb t) types) ≡ cond b true (among t types)
    go true e = refl
    go false e = e

pub types-ask : {types : List ℕ} {mask : ℕ} → TypesAre types mask → (t : ℕ) → bit mask t ≡ among t types
types-ask {types} h t = ap (λ (m : ℕ). bit m t) h.set ∙ mask-has types t ∙ any-among types t

-- no type, no bit
pub types-none : (types : List ℕ) {mask : ℕ} → TypesAre types mask → mask ≡ 0 → is_empty types ≡ true
types-none [] h e = refl
types-none (x ∷ types) h e =
    let f : true ≡ false = sym (ap (λ (b : Bool). cond b true (among x types)) (eq-eqb x x refl)) ∙ sym (types-ask h x) ∙ ap (λ (m : ℕ). bit m x) e ∙ no-bit x in
    absurd (let z : ◌≡◌ {A = ℕ} 0 1 = cc in omega arith)

pub types-some : (types : List ℕ) {mask : ℕ} → TypesAre types mask → (mask ≡ 0 → ⊥) → is_empty types ≡ false
unfolding mask_of
types-some [] h n = absurd (n h.set)
types-some (x ∷ types) h n = refl

-- the rule of step 8
pub no-types : (types : List ℕ) → is_empty types ≡ true → false ≡ types_good types
unfolding types_good
no-types types e = sym (ap (λ (b : Bool). (not b && not (among 3 types || (among 4 types || among 5 types)))) e)

pub some-types : (types : List ℕ) → is_empty types ≡ false → {x y z : Bool} → x ≡ among 3 types → y ≡ among 4 types → z ≡ among 5 types → not (x || (y || z)) ≡ types_good types
unfolding types_good
some-types types e f g h =
    ap₂ (λ (x w : Bool). not (x || w)) f (ap₂ ◌||◌ g h) ∙ sym (ap (λ (b : Bool). (not b && not (among 3 types || (among 4 types || among 5 types)))) e)
