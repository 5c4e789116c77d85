use native.Mathlib.Omega.{arith}
use mathlib.Core.Path.{◌∙◌, refl, ap}
use Rattle.fields_schema.specs.declared.Kind.TheVariants as kind
use Rattle.fields_lookup.specs.Views.{Level, bytes_at}
use Rattle.fields_lookup.proofs.Slotted.{level-sized}
use Rattle.base_definitions.specs.Options.{or_else}
use Rattle.request_scope.specs.ScopeLaws.{level-at}
use Rattle.request_hmac_algorithm.proofs.algorithm_of.Goals as goal
use Rattle.request_hmac_algorithm.proofs.algorithm_of.Goals.{After-open_at-t}

level : (c : After-open_at-t) → Level kind.Acl (bytes_at c.args.s.now c.args.p) c.open_at-t.result
level c = level-at c.open_at-t.result c.requires c.open_at-t.ensures

pub open_at-t-requires : goal.open_at-t-requires
open_at-t-requires c = c.requires.inside

pub num_of-requires : goal.num_of-requires
num_of-requires c = (omega arith, level-sized _ _ _ (level (goal.at.num_of-requires c).After-open_at-t))

pub returns : goal.returns
returns c =
    let o = (goal.at.returns c).After-open_at-t in
    c.number_or.ensures ∙ ap (or_else 1) (c.num_of.ensures kind.Acl (bytes_at c.args.s.now c.args.p) (level o) refl)
