-- What one field at the front of a message does to its level.
use Rattle.std.specs.Prelude.{ℕ, ◌≡◌, refl, List, ◌++◌, Bool, true, false, cond}
use Rattle.std.proofs.Common.{sym, ap, ◌∙◌}
use Rattle.std.proofs.Math.Option.{Option, none, some}
use Rattle.fields_wire.specs.Wire.{Value, Field, field, fields_of, cons_o, Framed}
use Rattle.fields_wire.specs.WireLaws.{fields-put}
use Rattle.fields_schema.specs.Rules.{strict_of, rule_of}
use Rattle.fields_schema.specs.Tree.{then_o, Item, by_rule, step, items, items_o}
use Rattle.fields_schema.specs.PutIn.{Has}
use Rattle.fields_schema.specs.declared.Kind.{Kind}
use Rattle.fields_schema.specs.declared.Form.{Form}
use Rattle.fields_schema.specs.declared.Rule.{Rule}
use Rattle.fields_schema.specs.declared.Rule.TheVariants.{Unlisted, Refused, Once, Single, Repeated}

-- a rule has one form
pub one_form : (r : Rule) {f g : Form} → Has f r → Has g r → f ≡ g
one_form Unlisted h i = absurd h
one_form Refused h i = absurd h
one_form (Once f) h i = h ∙ sym i
one_form (Single f) h i = h ∙ sym i
one_form (Repeated f) h i = h ∙ sym i

pub then-none : {A B : Type 0} (o : Option A) → then_o {B = B} o (λ a. none) ≡ none
then-none none = refl
then-none (some a) = refl

items-cons : (k : Kind) (f : Field) (o : Option (List Field)) (acc : List Item) → items_o k (cons_o f o) acc ≡ then_o (step k f acc) (λ a. items_o k o a)
unfolding items
items-cons k f (some fs) acc = refl
items-cons k f none acc = sym (then-none (step k f acc))

pub items-front : (k : Kind) {f : Field} {x : List ℕ} (m : List ℕ) (acc : List Item) → Framed f x
    → items_o k (fields_of (x ++ m)) acc ≡ then_o (step k f acc) (λ a. items_o k (fields_of m) a)
items-front k {f} m acc h = ap (λ o. items_o k o acc) (fields-put m h) ∙ items-cons k f (fields_of m) acc

-- an unlisted field leaves the items as they are, or refuses them in a strict kind
pub step-unlisted : (k : Kind) (n : ℕ) (v : Value) (acc : List Item) → rule_of k n ≡ Unlisted → step k (field n v) acc ≡ cond (strict_of k) none (some acc)
step-unlisted k n v acc u = ap (λ r. by_rule r (strict_of k) n v acc) u

pub items-unlisted : (k : Kind) (n : ℕ) (v : Value) {x : List ℕ} (m : List ℕ) (acc : List Item) → Framed (field n v) x → rule_of k n ≡ Unlisted
    → items_o k (fields_of (x ++ m)) acc ≡ cond (strict_of k) none (items_o k (fields_of m) acc)
items-unlisted k n v m acc h u =
    items-front k m acc h ∙ ap (λ o. then_o o (λ a. items_o k (fields_of m) a)) (step-unlisted k n v acc u) ∙ go (strict_of k) (λ a. items_o k (fields_of m) a)
  where
    go : (t : Bool) (g : List Item → Option (List Item)) → then_o (cond t none (some acc)) g ≡ cond t none (g acc)
    go true g = refl
    go false g = refl
