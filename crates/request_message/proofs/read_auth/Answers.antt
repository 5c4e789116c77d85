use native.Mathlib.Omega.{arith}
use mathlib.Core.Path.{refl}
use Rattle.fields_schema.specs.declared.Kind.TheVariants as k
use Rattle.fields_lookup.specs.Views.{bytes_at}
use Rattle.fields_lookup.proofs.Levels.{level-at, part_at, sized-at}
use Rattle.request_message.proofs.read_auth.Goals as goal

pub signed_of-requires : goal.signed_of-requires
signed_of-requires c = let o = c.open_at-t in (omega arith, sized-at k.HmacAuth c.args.s.now c.args.p o.result o.ensures c.requires)

pub part_of-requires : goal.part_of-requires
part_of-requires c = let o = c.open_at-t in part_at k.HmacAuth c.args.s.now c.args.p o.result o.ensures c.requires 2 (omega arith) refl

pub returns : goal.returns
returns c =
    let s = c.args.s.now in
    let p = c.args.p in
    let o = c.open_at-t in
    let t = o.result in
    let x0 = c.signed_of in
    let x1 = c.part_of in
    let l = level-at k.HmacAuth s p t o.ensures c.requires in
    record { identity = x0.ensures k.HmacAuth (bytes_at s p) l refl; hmac = x1.ensures.bytes k.HmacAuth l refl; lies = x1.ensures.lies }
