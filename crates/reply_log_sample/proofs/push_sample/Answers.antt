use native.Mathlib.Omega.{arith}
use Rattle.log_binary32.specs.Celsius.{sent_bits}
use Rattle.log_readings.specs.Lent.{place_at, sample_of}
use Rattle.reply_log_sample.proofs.SamplesLaws.{name-said, sample-law}
use Rattle.reply_log_sample.proofs.push_sample.Goals as goal

pub returns : goal.returns
returns c =
    let a = c.args in
    let value = c.value_at-value in
    let name = c.name_of-name in
    let raw = c.push_raw-b.ensures in
    let head = c.push_head.ensures in
    let sample = sample_of a.temperature (place_at a.readings.now a.place) in (
      sample-law a.n sample name.result.now (sent_bits value.result) (name-said a.temperature _ name.ensures.0) value.ensures head.0 raw.0
          c.push_sent-a.ensures.0,
      omega arith,
    )
