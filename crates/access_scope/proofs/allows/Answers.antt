use mathlib.Core.Path.{◌≡◌, refl, sym, ap, ◌∙◌}
use mathlib.Core.Bool.{Bool, true, false, not, ◌||◌}
use lib.Dec.{eqb}
use Rattle.access_scope.proofs.allows.Goals as goal

allowed-yes : (b : Bool) → true ≡ (b || true)
allowed-yes true = refl
allowed-yes false = refl

allowed-plain : (b : Bool) → b ≡ (not (not b) || false)
allowed-plain true = refl
allowed-plain false = refl

pub returns-then-protected : goal.returns-then-protected
returns-then-protected c =
    c.if-protected.true ∙ allowed-yes (not (not (eqb c.args.tls 0))) ∙ ap (◌||◌ (not (not (eqb c.args.tls 0)))) (sym c.if-protected.true)

pub returns-else-protected : goal.returns-else-protected
returns-else-protected c = allowed-plain (eqb c.args.tls 0) ∙ ap (◌||◌ (not (not (eqb c.args.tls 0)))) (sym c.if-protected.false)
