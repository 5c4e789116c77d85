use Rattle.std.proofs.Common.{rules, ◌≡◌, ℕ, ◌+◌, ◌-◌, ◌≤◌, List, ◌++◌, length, take, arith, sym, ap, ◌∙◌, subst, length-take}
use Rattle.std.proofs.KnownBytes.{Consumes-trans}
use Rattle.std.proofs.Math.Seq.{take-append-add}
use Rattle.std.proofs.lemmas.List.{take-append-le}
use Rattle.std.specs.Io.KnownBytes.{Consumes}
use borrow.Rule.Slice.PartMut.{put_mid, post_of}
use Rattle.program_words.proofs.read_full.Goals as goal

-- what was read up to n places past d, where n bytes of buf were read there
taken : (d n k : ℕ) (out buf : List ℕ) → d ≤ length out → n ≤ length buf → take (d + n) (put_mid d k out buf) ≡ take d out ++ take n buf
taken d n k out buf h l =
    let e : length (take d out) ≡ d = simp length-take (omega arith) in
    ap (λ (m : ℕ). take (m + n) (put_mid d k out buf)) (sym e)
    ∙ take-append-add (take d out) (buf ++ post_of d k out) n
    ∙ ap (λ z. take d out ++ z) (take-append-le n buf (post_of d k out) l)

pub loop-done-preserved : goal.loop-done-preserved
loop-done-preserved g c =
    let l = c.loop-done in
    let n = c.in_ok-n.n in
    let first = g.R.Read.remaining c.args.input.now in
    let then = g.R.Read.remaining l.input in
    let last = g.R.Read.remaining c.read.new.self in (
      search rules,
      subst (λ (bs : List ℕ). Consumes first last bs) (sym (taken l.done n (length l.out - l.done) l.out c.read.new.buf l.invariant.0 (search rules)))
          (Consumes-trans first then last _ _ l.invariant.1 c.in_ok-n.ensures.bytes.0),
    )
