use native.Mathlib.Omega.{arith}
use mathlib.Core.Path.{ap}
use Rattle.fields_encoding.specs.Encode.{len_field}
use Rattle.fields_write_bytes.proofs.PushedLaws.{again}
use Rattle.operation_visible.specs.SeenLaws.{key-part, key-short}
use Rattle.reply_range.proofs.parts.push_key.Goals as goal

pub push_raw-requires : goal.push_raw-requires
push_raw-requires c =
    let e = c.entry_at-e in
    let short = key-short c.args.store.now c.args.i e.result e.ensures c.requires.0 in
    (omega arith, omega (arith, short), omega arith)

pub returns : goal.returns
returns c =
    let e = c.entry_at-e in
    let w = c.push_raw.ensures in
    let short = key-short c.args.store.now c.args.i e.result e.ensures c.requires.0 in
    (again (ap (len_field 8) (key-part c.args.store.now c.args.i e.result e.ensures c.requires.0)) w.0, omega (arith, short, w.1))
