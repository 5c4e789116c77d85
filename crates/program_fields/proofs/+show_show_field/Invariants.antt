use Rattle.std.proofs.Common.{length, ◌-◌, ◌+◌, ◌*◌}
use Rattle.program_fields.proofs.+show_show_field.Given as goal

abbrev pub decreases-show : goal.decreases-show
decreases-show g l = 2 * l.depth + 1

abbrev pub decreases-show_field : goal.decreases-show_field
decreases-show_field g l = 2 * l.depth

abbrev pub decreases-show-loop-f : goal.decreases-show-loop-f
decreases-show-loop-f g l = length l.s - l.at
