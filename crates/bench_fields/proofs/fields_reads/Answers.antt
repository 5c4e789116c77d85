use mathlib.Core.Path.{◌∙◌, ap, sym}
use mathlib.Core.Bool.{Bool, cond}
use Prim.Native.Nat.{ℕ}
use Rattle.bench_fields.proofs.fields_reads.Goals as goal

abbrev number : Bool → ℕ
number b = cond b 0 1

pub returns-then-reads : goal.returns-then-reads
returns-then-reads c = ap number (sym c.if-reads.true ∙ c.reads.ensures)

pub returns : goal.returns
returns c = ap number (sym c.if-reads.false ∙ c.reads.ensures)
