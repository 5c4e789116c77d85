use native.Mathlib.Omega.{arith}
use Rattle.fields_write_bytes.proofs.PushedLaws.{pushed_none, again}
use Rattle.log_readings.specs.Lent.{places_from, sample_of}
use Rattle.base_definitions.specs.Lists.{map_l}
use Rattle.reply_log_body.specs.LogLaws.{samples-asked, samples-left}
use Rattle.reply_log_body.proofs.push_asked_samples.Goals as goal

pub returns-then-asked : goal.returns-then-asked
returns-then-asked c =
    let a = c.args in
    let w = c.push_samples.ensures in
    (again (samples-asked a.n a.asked (map_l (sample_of a.temperature) (places_from a.readings.now a.first a.count)) c.if-asked.true) w.0, w.1)

pub returns : goal.returns
returns c =
    let a = c.args in
    (again (samples-left a.n a.asked (map_l (sample_of a.temperature) (places_from a.readings.now a.first a.count)) c.if-asked.false) (pushed_none _ _ c.requires.4), omega arith)
