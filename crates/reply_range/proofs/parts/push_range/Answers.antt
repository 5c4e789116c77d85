use native.Mathlib.Omega.{arith}
use lib.ListN.{take}
use Rattle.store_layout.specs.Store.{entries_of}
use Rattle.operation_range.specs.Keys.{keys_at}
use Rattle.reply_range.specs.KeysLaws.{range-law}
use Rattle.reply_range.proofs.parts.push_range.Goals as goal

pub returns : goal.returns
returns c =
    let a = c.args in (
      range-law (keys_at (entries_of a.store.now) (take a.count a.places.now)) c.push_head.ensures.0
          c.push_head-b.ensures.0 c.push_keys-a.ensures.0,
      omega arith,
    )
