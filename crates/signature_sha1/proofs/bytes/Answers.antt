use Rattle.std.proofs.Common.{refl}
use Rattle.signature_sha1.specs.Sha1.{bytes}
use Rattle.signature_sha1.specs.Sha1Laws.{bytes_of_word}
use Rattle.signature_sha1.proofs.bytes.Goals as goal

pub returns : goal.returns
unfolding bytes
returns c =
    let s = c.args.s in
    rw (
      ← bytes_of_word s.a,
      ← bytes_of_word s.b,
      ← bytes_of_word s.c,
      ← bytes_of_word s.d,
      ← bytes_of_word s.e,
      c.copy_from_slice.ensures.after,
      c.copy_from_slice-2.ensures.after,
      c.copy_from_slice-3.ensures.after,
      c.copy_from_slice-4.ensures.after,
      c.copy_from_slice-5.ensures.after,
      c.to_be_bytes.ensures,
      c.to_be_bytes-2.ensures,
      c.to_be_bytes-3.ensures,
      c.to_be_bytes-4.ensures,
      c.to_be_bytes-5.ensures,
    )
    refl
