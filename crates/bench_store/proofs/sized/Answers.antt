use native.Mathlib.Omega.{arith}
use Rattle.store_block.specs.DecidesLaws.{says-no}
use Rattle.bench_store.specs.CallsLaws.{room}
use Rattle.bench_store.proofs.sized.Goals as goal

pub returns-then-key-gt64 : goal.returns-then-key-gt64
returns-then-key-gt64 c = λ a. says-no (λ s. let h = s.key_fits in let t = c.if-key-gt64.true in omega arith)

pub returns-then-version-gt16 : goal.returns-then-version-gt16
returns-then-version-gt16 c = λ a. says-no (λ s. let h = s.version_fits in let t = c.if-version-gt16.true in omega arith)

pub returns-then-tag-gt32 : goal.returns-then-tag-gt32
returns-then-tag-gt32 c = λ a. says-no (λ s. let h = s.tag_fits in let t = c.if-tag-gt32.true in omega arith)

pub returns : goal.returns
returns c = λ a. room c.if-key-gt64.false c.if-version-gt16.false c.if-tag-gt32.false
