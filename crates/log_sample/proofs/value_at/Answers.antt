use mathlib.Core.Path.{◌∙◌, sym, ap}
use mathlib.Core.Bool.{Bool, not}
use Prim.Native.Nat.{ℕ, ◌+◌, ◌*◌}
use lib.Dec.{eqb}
use lib.ListN.{get_or}
use Rattle.log_binary32.specs.Celsius.{celsius_of, sent_of, sent_bits}
use Rattle.log_readings.specs.Lent.{place_at, sample_of}
use Rattle.log_readings.specs.LentLaws.{temperature-value, utilization-value}
use Rattle.log_sample.proofs.value_at.Goals as goal

pub returns-then-temperature : goal.returns-then-temperature
returns-then-temperature c =
    let k = c.before.before.before in
    let a = k.args in
    let l = a.s.now in
    ap sent_bits c.lent_celsius.ensures
    ∙ ap (λ (b : ℕ). sent_bits (sent_of (celsius_of (not (eqb (get_or l (2 + a.place * 22) 0) 0)) b))) k.bits_at-bits.ensures
    ∙ temperature-value l a.place
    ∙ ap (λ (t : Bool). (sample_of t (place_at l a.place)).value) (sym c.if-temperature.true)

pub returns-else-temperature : goal.returns-else-temperature
returns-else-temperature c =
    let k = c.before.before in
    let a = k.args in
    let l = a.s.now in
    ap sent_bits (c.finite_lent.ensures ∙ ap sent_of k.bits_at-bits.ensures)
    ∙ utilization-value l a.place
    ∙ ap (λ (t : Bool). (sample_of t (place_at l a.place)).value) (sym c.if-temperature.false)
