use Prim.Native.Nat.{◌+◌, ◌*◌, ◌-◌, ◌≤◌}
use Rattle.fields_schema.specs.Tree.{done}
use Rattle.fields_encoding.specs.Encode.{encode, each_sub}
use Rattle.fields_write_bytes.specs.Pushed.{Pushed}
use Rattle.reply_log_sample.specs.Samples.{sample_trees}
use Rattle.reply_log_sample.proofs.push_samples.Given as goal

abbrev pub invariant-loop-i : goal.invariant-loop-i
invariant-loop-i l = (l.i ≤ l.count) × (55 * l.i ≤ l.p) × (l.at ≤ l.p + 55 * (l.count - l.i)) × Pushed l.p l.at (encode (each_sub l.n (sample_trees l.temperature l.readings (l.first + l.i) (l.count - l.i)) done)) l.initial.out l.out
