use native.Mathlib.Omega.{arith}
use Rattle.protocol.specs.State.{State}
use Rattle.perform_entry.specs.SlicesLaws.{cut_short, entry-cut}
use Rattle.reply_send.specs.SentLaws.{sends-as}
use Rattle.perform_entry.proofs.show_entry.Goals as goal

pub overflow_add-value : goal.overflow_add-value
overflow_add-value c = let i = c.requires.2.value in let n = c.shown_length.ensures.1 in let g = c.well_formed in omega arith

pub slice_bounds-put_key_value-end-4 : goal.slice_bounds-put_key_value-end-4
slice_bounds-put_key_value-end-4 c = let i = c.requires.2.value in let n = c.shown_length.ensures.1 in omega arith

pub put_key_value-requires : goal.put_key_value-requires
put_key_value-requires c =
    let l = c.args.store.now in
    let p = c.args.parts in
    let i = c.requires.2 in
    let n = c.shown_length in (
      cut_short l p.key.start p.key.len 64 i.key_fits,
      cut_short l p.version.start p.version.len 16 i.version_fits,
      cut_short l p.tag.start p.tag.len 32 i.tag_fits,
      cut_short l p.value.start n.result 384 (let h = i.value_fits in let m = n.ensures.1 in omega arith),
      c.requires.0,
      c.requires.1,
    )

pub returns : goal.returns
returns c =
    λ (s : State).
    sends-as c.args.reply_to c.args.signing_key.now (entry-cut c.args.store.now c.args.parts c.args.metadata c.shown_length.ensures.0 s)
    c.put_key_value.ensures
