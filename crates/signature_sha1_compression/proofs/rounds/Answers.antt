use Rattle.std.proofs.Common.{sym}
use Rattle.signature_sha1_compression.specs.CompressionLaws.{rounds-none}
use Rattle.signature_sha1_compression.specs.RoundLaws.{choice, parity-20, majority, parity-60}
use Rattle.signature_sha1_compression.proofs.rounds.Goals as goal

pub twenty_rounds-a-requires-clause-rounds : goal.twenty_rounds-a-requires-clause-rounds
twenty_rounds-a-requires-clause-rounds c = choice (λ x y z r e. e)

pub twenty_rounds-b-requires-clause-rounds : goal.twenty_rounds-b-requires-clause-rounds
twenty_rounds-b-requires-clause-rounds c = parity-20 (λ x y z r e. e)

pub twenty_rounds-c-requires-clause-rounds : goal.twenty_rounds-c-requires-clause-rounds
twenty_rounds-c-requires-clause-rounds c = majority (λ x y z r e. e)

pub twenty_rounds-requires-clause-rounds : goal.twenty_rounds-requires-clause-rounds
twenty_rounds-requires-clause-rounds c = parity-60 (λ x y z r e. e)

pub returns : goal.returns
returns c =
    let m = c.args.m.now in
    let h = c.args.s in
    (c.twenty_rounds.ensures m h
    (c.twenty_rounds-c.ensures m h
    (c.twenty_rounds-b.ensures m h
    (c.twenty_rounds-a.ensures m h
    record { ring = c.first_words-w.ensures; state = sym (rounds-none m h) })))).state
