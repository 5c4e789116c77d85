use Rattle.judge_body.proofs.security_code.Goals as goal

pub returns-in_default : goal.returns-in_default
returns-in_default c e = absurd (c.in_default.not-Security e)
