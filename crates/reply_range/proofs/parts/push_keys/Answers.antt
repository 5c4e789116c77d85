use native.Mathlib.Omega.{arith}
use mathlib.Core.Path.{◌≡◌, ap}
use Rattle.fields_encoding.specs.Encode.{len_field}
use Rattle.fields_write_bytes.proofs.PushedLaws.{again}
use Rattle.store_layout.specs.Store.{entries_of}
use Rattle.operation_range.specs.Keys.{key_at}
use Rattle.reply_range.specs.KeysLaws.{keys_none, keys-more, keys-all}
use Rattle.reply_range.proofs.parts.push_keys.Goals as goal

pub loop-i-init : goal.loop-i-init
loop-i-init c =
    (omega arith, omega (arith, c.requires.2, c.requires.3), omega arith, keys_none (entries_of c.args.store.now) c.args.places.now c.args.count c.requires.1 c.requires.4)

pub push_key-p-requires : goal.push_key-p-requires
push_key-p-requires c =
    let w = c.loop-i.invariant in
    let f = w.3.from in
    let l = w.3.long in
    let h = w.3.fits in
    (c.requires.0, omega arith, omega arith)

pub loop-i-preserved : goal.loop-i-preserved
loop-i-preserved c =
    let a = c.args in
    let o = c.loop-i in
    let es = entries_of a.store.now in
    let w = c.push_key-p.ensures in
    let key = again (ap (λ i. len_field 8 (key_at es i)) c.wide.ensures.0) w.0 in
    (omega arith, omega (arith, w.1), omega (arith, w.1), keys-more es a.places.now a.count c.requires.1 o.i (omega arith) o.invariant.0 key o.invariant.3)

pub shape_of-out : goal.shape_of-out
shape_of-out c = c.loop-i.invariant.3.long

pub returns : goal.returns
returns c =
    let a = c.args in
    let o = c.loop-i in
    let e : o.i ≡ 0 = omega arith in
    (keys-all (entries_of a.store.now) a.places.now a.count c.requires.1 e o.invariant.3, omega (arith, c.requires.2, o.invariant.2))
