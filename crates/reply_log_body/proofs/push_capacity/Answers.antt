use native.Mathlib.Omega.{arith}
use mathlib.Core.Path.{ap, ◌∙◌}
use Rattle.log_binary32.specs.Binary32.{portion}
use Rattle.fields_encoding.specs.Encode.{float_bytes, fix_field}
use Rattle.fields_write_bytes.proofs.PushedLaws.{again}
use Rattle.store_layout.specs.Store.{blocks_in}
use Rattle.store_layout.proofs.StoreLaws.{room}
use Rattle.protocol.specs.Judge.{capacity_of}
use Rattle.reply_log_body.specs.LogLaws.{capacity-law}
use Rattle.reply_log_body.proofs.push_capacity.Goals as goal

pub portion_full-full-requires : goal.portion_full-full-requires
portion_full-full-requires c =
    let l = c.args.store.now in
    let g = c.requires.0 in
    record {
      fact_1 = omega (arith, room l, c.count-used.ensures g);
      fact_2 = omega (arith, g.some);
      fact_3 = omega (arith, g.most);
    }

pub returns : goal.returns
returns c =
    let l = c.args.store.now in
    let e = c.portion_full-full.ensures ∙ ap (λ n. portion n (blocks_in l)) (c.count-used.ensures c.requires.0) in
    let float = c.push_float-a.ensures in
    (capacity-law (capacity_of l) c.push_head.ensures.0 c.push_int-b.ensures.0 (again (ap (λ n. fix_field 5 (float_bytes n)) e) float.0), omega arith)
