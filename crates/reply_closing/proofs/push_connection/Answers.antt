use native.Mathlib.Omega.{arith}
use mathlib.Core.Path.{ap}
use Rattle.base_integers.specs.SignedLaws.{word_kept}
use Rattle.fields_encoding.specs.Encode.{int_field}
use Rattle.fields_write_bytes.proofs.PushedLaws.{again}
use Rattle.reply_command.proofs.PartsLaws.{connection-law}
use Rattle.reply_closing.proofs.push_connection.Goals as goal

pub returns : goal.returns
returns c =
    (connection-law _ c.push_head.ensures.0 (again (ap (int_field 3) (word_kept c.args.connection c.ranges.connection.sfits)) c.push_signed-a.ensures.0), omega arith)
