use mathlib.Core.Path.{sym, refl, ◌∙◌}
use Rattle.request_log_types.specs.LogTypeLaws.{types-none, types-some, no-types, some-types}
use Rattle.request_log_types.proofs.types_good.Goals as goal

pub returns-then-mask-eq0 : goal.returns-then-mask-eq0
returns-then-mask-eq0 c types h = no-types types (types-none types h c.if-mask-eq0.true)

pub returns-then-asks : goal.returns-then-asks
returns-then-asks c types h =
    some-types types (types-some types h c.if-mask-eq0.false) (sym c.if-asks.true ∙ c.asks.ensures types h) refl refl

pub returns-then-asks-2 : goal.returns-then-asks-2
returns-then-asks-2 c types h =
    some-types types (types-some types h c.if-mask-eq0.false) (sym c.if-asks.false ∙ c.asks.ensures types h) (sym c.if-asks-2.true ∙ c.asks-2.ensures types h) refl

pub returns : goal.returns
returns c types h =
    some-types types (types-some types h c.if-mask-eq0.false) (sym c.if-asks.false ∙ c.asks.ensures types h) (sym c.if-asks-2.false ∙ c.asks-2.ensures types h) (c.asks-3.ensures types h)
