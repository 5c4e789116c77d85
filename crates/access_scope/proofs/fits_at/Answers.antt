use Prim.Native.Nat.{◌+◌, ◌≤◌}
use mathlib.Core.Path.{◌∙◌}
use lib.ListN.{length}
use Rattle.access_scope.specs.ScopeLaws.{fits-empty, fits-short, fits_last, fits_whole}
use borrow.Author.Rules.{rules}
use Rattle.access_scope.proofs.fits_at.Goals as goal

pub returns-then-n-eq0 : goal.returns-then-n-eq0
returns-then-n-eq0 c = let a = c.args in fits-empty a.device.now a.a a.n a.offset a.key.now c.if-n-eq0.true

pub returns-then-key-end : goal.returns-then-key-end
returns-then-key-end c =
    let a = c.args in
    fits-short a.device.now a.a a.n a.offset a.key.now c.if-n-eq0.false c.if-key-end.true

pub returns-then-record-stop : goal.returns-then-record-stop
returns-then-record-stop c =
    let a = c.args in
    let h : a.a + a.n ≤ length a.device.now = search rules in
    fits_last a.device.now a.a a.n a.offset a.key.now c.if-n-eq0.false h c.if-record-stop.true

pub returns : goal.returns
returns c =
    let a = c.args in
    let h : a.a + a.n ≤ length a.device.now = search rules in
    c.same.ensures ∙ fits_whole a.device.now a.a a.n a.offset a.key.now c.if-n-eq0.false h
