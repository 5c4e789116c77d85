-- `log_binary32::finite_bits` meets its contract: a NaN's pattern is not finite. Assumes nothing.
use Rattle.std.proofs.Common.{◌≡◌, refl, sym, ◌∙◌, true, None}
use Rattle.std.proofs.lemmas.Bool.{false≢true}
use lib.Ieee.{Float, nan, inf, fin, binary32, to_bits, is_nan}
use Rattle.log_binary32.specs.Celsius.{sent_of}
use Rattle.log_binary32.proofs.finite_bits.Goals as goal

nan-omitted : (x : Float) → is_nan x ≡ true → None ≡ sent_of (to_bits binary32 x)
unfolding sent_of to_bits is_nan
nan-omitted nan h = refl
nan-omitted (inf s) h = absurd (false≢true h)
nan-omitted (fin s m e) h = absurd (false≢true h)

pub returns-then-is_nan : goal.returns-then-is_nan
returns-then-is_nan c = nan-omitted c.args.x (sym c.is_nan.ensures.value ∙ c.if-is_nan.true)
