use native.Mathlib.Omega.{arith}
use Rattle.request_parts.specs.Views.{key_value_view}
use Rattle.perform_put_delete.proofs.Slices.{puts, fits}
use Rattle.perform_put_delete.proofs.Results.{has-changed}
use Rattle.perform_put_delete.proofs.put.Goals as goal

pub overflow_add-new : goal.overflow_add-new
overflow_add-new c = let i = c.requires.3.version.inside in let g = c.well_formed in omega arith

pub overflow_add-old : goal.overflow_add-old
overflow_add-old c = let i = c.requires.3.expected.inside in let g = c.well_formed in omega arith

pub slice_bounds-put-end-3 : goal.slice_bounds-put-end-3
slice_bounds-put-end-3 c = let i = c.requires.3.expected.inside in omega arith

pub overflow_add-tag : goal.overflow_add-tag
overflow_add-tag c = let i = c.requires.3.tag.inside in let g = c.well_formed in omega arith

pub slice_bounds-put-end-4 : goal.slice_bounds-put-end-4
slice_bounds-put-end-4 c = let i = c.requires.3.tag.inside in omega arith

pub overflow_cast-number_or : goal.overflow_cast-number_or
overflow_cast-number_or c = let q = c.number_or.ensures in let h = c.requires.3.algorithm in omega arith

pub put-done-requires : goal.put-done-requires
put-done-requires c =
    (c.requires.2, fits c.requires.3 c.number_or.ensures c.args.value.now c.requires.4 c.requires.5)

pub reply_changed-requires : goal.reply_changed-requires
reply_changed-requires c = (c.requires.0, c.requires.1)

pub returns : goal.returns
returns c =
    has-changed c.args.reply_to c.args.signing_key.now
    (c.put-done.ensures (key_value_view c.args.command.now c.args.key_value) (puts c.requires.3 c.number_or.ensures c.flag_of.ensures))
    c.reply_changed.ensures
