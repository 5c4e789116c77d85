use native.Mathlib.Omega.{arith}
use mathlib.Core.Path.{refl}
use Rattle.fields_schema.specs.declared.Kind.TheVariants as k
use Rattle.fields_lookup.specs.Views.{bytes_at}
use Rattle.fields_lookup.proofs.Levels.{level-at, sized-at}
use Rattle.request_merged.proofs.read_setup.Goals as goal

pub signed_of-requires : goal.signed_of-requires
signed_of-requires c = let o = c.open_at-t in (omega arith, sized-at k.Setup c.args.s.now c.args.p o.result o.ensures c.requires)

pub returns : goal.returns
returns c =
    let s = c.args.s.now in
    let p = c.args.p in
    let o = c.open_at-t in
    let t = o.result in
    let x0 = c.signed_of in
    x0.ensures k.Setup (bytes_at s p) (level-at k.Setup s p t o.ensures c.requires) refl
