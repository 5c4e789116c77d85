use native.Mathlib.Omega.{arith}
use Rattle.fields_write_bytes.proofs.PushedLaws.{pushed_none, again}
use Rattle.reply_log_sample.proofs.SamplesLaws.{sent-omitted, sent-bits}
use Rattle.reply_log_sample.proofs.push_sent.Goals as goal

pub returns-in-Some : goal.returns-in-Some
returns-in-Some c =
    let w = c.push_float.ensures in
    (again (sent-bits _ c.args.value c.in-Some.is) w.0, w.1)

pub returns-in-None : goal.returns-in-None
returns-in-None c =
    (again (sent-omitted c.args.value c.in-None.is) (pushed_none _ _ c.requires.1), omega arith)
