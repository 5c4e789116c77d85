use Prim.Native.Nat.{◌≤◌}
use native.Mathlib.Omega.{arith}
use mathlib.Core.Path.{◌≡◌}
use Rattle.protocol.specs.State.{State}
use Rattle.access_permission.specs.Permissions.{RANGE}
use Rattle.operation_visible.specs.Seen.{seen_by}
use Rattle.perform_range.specs.RangeSlicesLaws.{range-cut}
use Rattle.reply_send.specs.SentLaws.{sends-as}
use borrow.Author.Rules.{rules}
use Rattle.perform_range.proofs.get_key_range.Goals as goal

pub overflow_add-end : goal.overflow_add-end
overflow_add-end c =
    let z = c.before.before.before.before.before.before.before in
    let h = z.well_formed.1.1.1.1.1.1.0.0 in
    record { fits = omega (arith, z.requires.3.end.inside, h) }

pub put_range-requires : goal.put_range-requires
put_range-requires c =
    let z = c.before.before.before.before.before.before.before.before.before.before.before.before.before.before.before.before.before in
    let places = c.range_places-count in
    let most = c.number_or.ensures in
    let few : places.result ≤ 32 = omega (arith, places.ensures.1, most, z.requires.4) in
    (search rules, z.requires.1, z.requires.2, search rules, few)

pub returns : goal.returns
returns c =
    let v = c.before.before.before.before.before.before.before.before in
    let n = v.before in
    let e = n.before in
    let f = e.before in
    let z = f.before.before.before.before.before.before.before.before.before in
    λ (t : State) (q : t.store ≡ z.args.store.now).
    sends-as z.args.reply_to z.args.signing_key.now
    (range-cut (seen_by z.args.device.now z.args.viewer RANGE) z.requires.3 f.flag_of.ensures e.flag_of-2.ensures n.number_or.ensures v.flag_of-3.ensures
    c.range_places-count.ensures.0 t q)
    c.put_range.ensures
