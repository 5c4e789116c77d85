use Rattle.c_digest.proofs.Laws.{written}
use Rattle.c_digest.proofs.signature_hmac.Goals as goal

pub returns-in-Ok : goal.returns-in-Ok
returns-in-Ok c = written _ _ _ _ c.in-Ok.ensures c.bytes.ensures
