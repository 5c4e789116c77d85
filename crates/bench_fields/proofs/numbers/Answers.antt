use Rattle.bench_fields.specs.HeldLaws.{all_held}
use Rattle.bench_fields.proofs.numbers.Goals as goal

pub returns : goal.returns
returns c =
    λ s l.
    all_held s c.args.r l c.signed_in.ensures c.signed_in-2.ensures c.signed_in-3.ensures c.number_in.ensures
    c.length_in.ensures c.length_in-2.ensures c.length_in-3.ensures c.length_in-4.ensures c.number_in-2.ensures
