use native.Mathlib.Omega.{arith}
use Prim.Native.Nat.{ℕ}
use mathlib.Core.Path.{refl, ap}
use Rattle.base_integers.specs.Signed.{word_of}
use Rattle.base_integers.specs.SignedLaws.{word_kept}
use Rattle.fields_schema.specs.Tree.{done, int}
use Rattle.fields_encoding.specs.Encode.{len_field, encode}
use Rattle.fields_write_bytes.proofs.PushedLaws.{again}
use Rattle.reply_envelope.specs.FramesLaws.{closing-law, copied}
use Rattle.reply_closing.proofs.put_closing.Goals as goal

pub returns : goal.returns
returns c =
    let a = c.args in
    let prefix = c.push_prefix-e in
    copied prefix.new.out prefix.result 128 (omega arith)
    (closing-law (word_of a.connection) a.code refl (omega arith) prefix.ensures c.push_int-d.ensures.0
    c.push_head-c.ensures.0
    (again (ap (λ (n : ℕ). len_field 1 (encode (int 3 n done))) (word_kept a.connection c.ranges.connection.sfits)) c.push_connection-b.ensures.0)
    c.push_status-a.ensures.0)
    c.copy.ensures
