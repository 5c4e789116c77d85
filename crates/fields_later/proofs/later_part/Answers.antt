use mathlib.Core.Path.{◌≡◌, sym, ap, ◌∙◌}
use mathlib.Core.Bool.{true, false, cond}
use Rattle.fields_lookup.specs.declared.parts.Part.{Part}
use Rattle.fields_later.proofs.later_part.Goals as goal

taken : (b a : Part) → a.has ≡ true → ◌≡◌ {A = Part} (record { has = true; start = a.start; len = a.len }) (cond a.has a b)
taken b a e = ap (λ h. record { has = h; start = a.start; len = a.len }) (sym e) ∙ sym (ap (λ h. cond h a b) e)

left : (b a : Part) → a.has ≡ false → b ≡ cond a.has a b
left b a e = sym (ap (λ h. cond h a b) e)

pub returns-then-has : goal.returns-then-has
returns-then-has c = let a = c.args in taken a.before a.after c.if-has.true

pub returns : goal.returns
returns c = let a = c.args in left a.before a.after c.if-has.false
