use Rattle.c_connection.specs.Layout.{connection_at, is_last, heard_bytes}
use mathlib.Core.Path.{sym, ◌∙◌, ap}
use borrow.Author.Tests.{not-true, not-false}
use Rattle.base_integers.specs.Signed.{word_of}
use Rattle.base_integers.specs.SignedLaws.{word_kept}
use Rattle.c_connection.proofs.Steps.{none-heard, heard-before, heard-now}
use Rattle.c_connection.proofs.write.hear.Goals as goal

pub returns-then-not-seen : goal.returns-then-not-seen
returns-then-not-seen c = let z = c.args in none-heard z.bytes.now z.seen (word_of z.last) c.if-not-seen.true

pub returns-then-is_last : goal.returns-then-is_last
returns-then-is_last c =
    let z = c.args in
    let k = word_kept z.last c.ranges.last.sfits in
    heard-before z.bytes.now z.seen (word_of z.last) c.if-not-seen.false (sym (c.is_last.ensures ∙ ap (is_last (connection_at z.bytes.now).last) k) ∙ c.if-is_last.true)

pub returns : goal.returns
returns c =
    let z = c.args in
    let k = word_kept z.last c.ranges.last.sfits in
    heard-now z.bytes.now z.seen (word_of z.last) c.if-not-seen.false (sym (c.is_last.ensures ∙ ap (is_last (connection_at z.bytes.now).last) k) ∙ c.if-is_last.false) (c.accept.ensures ∙ ap (heard_bytes z.bytes.now) k)
