use Rattle.store_arrange.specs.BroughtLaws.{is-renamed, not-renamed}
use Rattle.store_arrange.proofs.now_at.Goals as goal

pub returns-then-x-j : goal.returns-then-x-j
returns-then-x-j c = is-renamed _ _ _ c.if-x-j.true

pub returns : goal.returns
returns c = not-renamed _ _ _ c.if-x-j.false
