use Rattle.std.specs.Prelude.{Some, None}
use Rattle.fields_repeated.proofs.Nexts.{found_at, none-word, no-word, next-word}
use Rattle.fields_repeated.proofs.next_num.Goals as goal

pub returns-in_err-f : goal.returns-in_err-f
returns-in_err-f c =
    let a = c.args in
    none-word a.s.now a.left a.n c.requires (found_at a.s.now a.left a.n None c.in_err-f.ensures) c.from_residual.result c.from_residual.ensures

pub returns-in_default : goal.returns-in_default
returns-in_default c =
    let a = c.args in
    let f = c.in_ok-f in
    no-word a.s.now a.left a.n c.requires f.f (found_at a.s.now a.left a.n (Some f.f) f.ensures) c.in_default.not-Varint

pub returns : goal.returns
returns c =
    let a = c.args in
    let f = c.in_ok-f in
    next-word a.s.now a.left a.n c.requires f.f (found_at a.s.now a.left a.n (Some f.f) f.ensures) c.in-Varint.is
