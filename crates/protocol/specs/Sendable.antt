-- Results that can be sent: a code that document 01 names, a body and a value part that fit.
use Rattle.std.specs.Prelude.{◌≤◌, length}
use Rattle.store_block.specs.Entry.{Entry}
use Rattle.protocol.specs.Judge.{Result}
use Rattle.protocol.specs.ReplyFits.{CodeNamed, BodyFits}

-- a result that can be sent
pub record Sendable (r : Result) : Type 0 where
  pub code : CodeNamed r.code
  pub body : BodyFits r.body
  pub value : length r.value ≤ 384

-- the parts of an entry that fits, or of none
pub record PartsFit (e : Entry) : Type 0 where
  pub key : length e.key ≤ 64
  pub version : length e.version ≤ 16
  pub tag : length e.tag ≤ 32
  pub value : length e.value ≤ 384
  pub algorithm : e.algorithm ≤ 6
