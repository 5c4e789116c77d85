use native.Mathlib.Omega.{arith}
use Rattle.fields_schema.specs.declared.Kind.TheVariants as k
use Rattle.fields_lookup.proofs.Levels.{level-at, sized-at}
use Rattle.request_parts.proofs.Levels.{header-law}
use Rattle.request_parts.proofs.read_header.Goals as goal

pub signed_of-requires : goal.signed_of-requires
signed_of-requires c = let o = c.open_at-t in (omega arith, sized-at k.Header c.args.s.now c.args.p o.result o.ensures c.requires)

pub signed_of-requires-2 : goal.signed_of-requires-2
signed_of-requires-2 c = let o = c.open_at-t in (omega arith, sized-at k.Header c.args.s.now c.args.p o.result o.ensures c.requires)

pub signed_of-requires-3 : goal.signed_of-requires-3
signed_of-requires-3 c = let o = c.open_at-t in (omega arith, sized-at k.Header c.args.s.now c.args.p o.result o.ensures c.requires)

pub num_of-requires : goal.num_of-requires
num_of-requires c = let o = c.open_at-t in (omega arith, sized-at k.Header c.args.s.now c.args.p o.result o.ensures c.requires)

pub returns : goal.returns
returns c =
    let s = c.args.s.now in
    let p = c.args.p in
    let o = c.open_at-t in
    let t = o.result in
    let x0 = c.signed_of in
    let x1 = c.signed_of-2 in
    let x2 = c.signed_of-3 in
    let x3 = c.num_of in
    header-law s p t (level-at k.Header s p t o.ensures c.requires) x0.result x1.result x2.result x3.result x0.ensures x1.ensures x2.ensures x3.ensures
