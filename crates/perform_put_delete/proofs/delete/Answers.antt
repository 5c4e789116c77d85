use native.Mathlib.Omega.{arith}
use Rattle.request_parts.specs.Views.{key_value_view}
use Rattle.perform_put_delete.proofs.Slices.{deletes}
use Rattle.perform_put_delete.proofs.Results.{has-changed}
use Rattle.perform_put_delete.proofs.delete.Goals as goal

pub overflow_add-old : goal.overflow_add-old
overflow_add-old c = let i = c.requires.3.expected.inside in let g = c.well_formed in omega arith

pub returns : goal.returns
returns c =
    has-changed c.args.reply_to c.args.signing_key.now
    (c.delete-done.ensures (key_value_view c.args.command.now c.args.key_value) (deletes c.requires.3 c.flag_of-force.ensures))
    c.reply_changed.ensures
