use Rattle.std.proofs.Common.{refl}
use Rattle.c_digest.proofs.Laws.{written}
use Rattle.c_digest.proofs.signature_sha1.Goals as goal

pub returns-in-Some : goal.returns-in-Some
returns-in-Some c = written _ _ _ _ c.in-Some.ensures c.bytes.ensures

pub returns-in-None : goal.returns-in-None
returns-in-None c = written _ _ _ _ c.in-None.ensures refl
