-- The later of two numbers or parts, as the merged message has it.
use Rattle.std.specs.Prelude.{ℕ, ◌≡◌, refl, List, Bool, true, false, cond, ℤ, Some, None}
use Rattle.std.specs.Prelude as std
use Rattle.std.specs.Option.{option_or}
use Rattle.std.proofs.Common.{sym, ap, ap₂, ◌∙◌, subst}
use Rattle.std.proofs.Math.Option.{Option}
use Rattle.fields_schema.specs.Tree.{guard, Tree, later, join, int_at, raw_at}
use Rattle.fields_schema.proofs.MergedLaws.{int-join, raw-join}
use Rattle.fields_lookup.specs.Views.{num_view, signed_view, bytes_at, part_view}
use Rattle.fields_lookup.specs.declared.parts.Part.{Part}

-- of a number, and of a signed one
number_chosen : (a b : std.Option ℕ) → num_view (option_or a b) ≡ later (num_view a) (num_view b)
number_chosen None b = refl
number_chosen (Some v) b = refl

signed_chosen : (a b : std.Option ℤ) → signed_view (option_or a b) ≡ later (signed_view a) (signed_view b)
signed_chosen None b = refl
signed_chosen (Some v) b = refl

-- it is made of an answer by `view`, which is none exactly where the answer has none
chosen : {A B : Type 0} (view : A → Option B) (a b : A) (v : B) (has : Bool) → view a ≡ guard has v → view (cond has a b) ≡ later (guard has v) (view b)
chosen view a b v true e = e
chosen view a b v false e = refl

pub num-later : (n : ℕ) (t u : Tree) (b a r : std.Option ℕ) → r ≡ option_or a b → num_view b ≡ int_at n t → num_view a ≡ int_at n u → num_view r ≡ int_at n (join t u)
num-later n t u b a r e f g = ap num_view e ∙ number_chosen a b ∙ ap₂ later g f ∙ sym (int-join n t u)

pub signed-later : (n : ℕ) (t u : Tree) (b a r : std.Option ℤ) → r ≡ option_or a b → signed_view b ≡ int_at n t → signed_view a ≡ int_at n u → signed_view r ≡ int_at n (join t u)
signed-later n t u b a r e f g = ap signed_view e ∙ signed_chosen a b ∙ ap₂ later g f ∙ sym (int-join n t u)

pub part-later : (n : ℕ) (t u : Tree) (s : List ℕ) (b a r : Part) → r ≡ cond a.has a b → part_view s b ≡ raw_at n t → part_view s a ≡ raw_at n u → part_view s r ≡ raw_at n (join t u)
part-later n t u s b a r e f g =
    ap (λ (r : Part). part_view s r) e
    ∙ chosen (λ (x : Part). part_view s x) a b (bytes_at s a) a.has refl
    ∙ ap (λ o. later o (part_view s b)) g
    ∙ ap (later (raw_at n u)) f
    ∙ sym (raw-join n t u)

-- what both are, the later one is
pub later-is : {A : Type 0} (P : A → Type 0) (has : Bool) (b a r : A) → r ≡ cond has a b → P b → P a → P r
later-is P has b a r e x y = subst P (sym e) (go has)
  where
    go : (has : Bool) → P (cond has a b)
    go true = y
    go false = x

pub one-of : {A : Type 0} (P : std.Option A → Type 0) (b a r : std.Option A) → r ≡ option_or a b → P b → P a → P r
one-of P b None r e x y = subst P (sym e) x
one-of P b (Some v) r e x y = subst P (sym e) y
