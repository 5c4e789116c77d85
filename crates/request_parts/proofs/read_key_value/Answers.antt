use native.Mathlib.Omega.{arith}
use mathlib.Core.Path.{refl}
use Rattle.fields_schema.specs.declared.Kind.TheVariants as k
use Rattle.fields_lookup.proofs.Levels.{level-at, part_at, sized-at}
use Rattle.request_parts.proofs.Levels.{key-value-law}
use Rattle.request_parts.proofs.read_key_value.Goals as goal

pub part_of-version-requires : goal.part_of-version-requires
part_of-version-requires c = let o = c.open_at-t in part_at k.KeyValue c.args.s.now c.args.p o.result o.ensures c.requires 2 (omega arith) refl

pub part_of-key-requires : goal.part_of-key-requires
part_of-key-requires c = let o = c.open_at-t in part_at k.KeyValue c.args.s.now c.args.p o.result o.ensures c.requires 3 (omega arith) refl

pub part_of-requires : goal.part_of-requires
part_of-requires c = let o = c.open_at-t in part_at k.KeyValue c.args.s.now c.args.p o.result o.ensures c.requires 4 (omega arith) refl

pub part_of-requires-2 : goal.part_of-requires-2
part_of-requires-2 c = let o = c.open_at-t in part_at k.KeyValue c.args.s.now c.args.p o.result o.ensures c.requires 5 (omega arith) refl

pub num_of-requires : goal.num_of-requires
num_of-requires c = let o = c.open_at-t in (omega arith, sized-at k.KeyValue c.args.s.now c.args.p o.result o.ensures c.requires)

pub num_of-requires-2 : goal.num_of-requires-2
num_of-requires-2 c = let o = c.open_at-t in (omega arith, sized-at k.KeyValue c.args.s.now c.args.p o.result o.ensures c.requires)

pub num_of-requires-3 : goal.num_of-requires-3
num_of-requires-3 c = let o = c.open_at-t in (omega arith, sized-at k.KeyValue c.args.s.now c.args.p o.result o.ensures c.requires)

pub returns : goal.returns
returns c =
    let s = c.args.s.now in
    let p = c.args.p in
    let o = c.open_at-t in
    let t = o.result in
    let x0 = c.part_of-version in
    let x1 = c.part_of-key in
    let x2 = c.part_of in
    let x3 = c.part_of-2 in
    let x4 = c.num_of in
    let x5 = c.num_of-2 in
    let x6 = c.num_of-3 in
    key-value-law s p t (level-at k.KeyValue s p t o.ensures c.requires) x0.result x1.result x2.result x3.result x4.result x5.result x6.result x0.ensures x1.ensures x2.ensures x3.ensures x4.ensures x5.ensures x6.ensures
