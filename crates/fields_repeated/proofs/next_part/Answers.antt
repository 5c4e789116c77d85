use Rattle.std.specs.Prelude.{Some, None}
use Rattle.fields_repeated.proofs.Nexts.{found_at, none-span, no-span, next-span}
use Rattle.fields_repeated.proofs.next_part.Goals as goal

pub returns-in_err-found : goal.returns-in_err-found
returns-in_err-found c =
    let a = c.args in
    none-span a.s.now a.left a.n c.requires (found_at a.s.now a.left a.n None c.in_err-found.ensures) c.from_residual.result c.from_residual.ensures

pub returns-in_default : goal.returns-in_default
returns-in_default c =
    let a = c.args in
    let f = c.in_ok-found in
    no-span a.s.now a.left a.n c.requires f.found (found_at a.s.now a.left a.n (Some f.found) f.ensures) c.in_default.not-Len

pub returns : goal.returns
returns c =
    let a = c.args in
    let f = c.in_ok-found in
    next-span a.s.now a.left a.n c.requires f.found (found_at a.s.now a.left a.n (Some f.found) f.ensures) c.in-Len.is
