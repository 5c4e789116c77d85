-- The ways through each call.
use mathlib.Core.Path.{◌≡◌, sym, ap, ◌∙◌}
use mathlib.Core.List.{List}
use Prim.Native.Nat.{ℕ}
use Rattle.store_local_read.specs.Local.{Answer, Local, answer_of}
use Rattle.std.specs.Prelude.{Result}
use Rattle.store_rescue.specs.declared.rule.RescueError.{RescueError}
use Rattle.store_rescue.specs.Rescue.{Outcome, outcome, rescue_number}
use Rattle.c_calls.specs.Find.{looked_up}

-- ---- rescue
pub rescued : {store' report' : List ℕ} {o : Outcome} {r : Result (Unit {0}) RescueError} (x : Result (Unit {0}) RescueError) → r ≡ x → outcome (rescue_number r) store' report' ≡ o → outcome (rescue_number x) store' report' ≡ o
rescued {store'} {report'} x e t = ap (λ (y : Result (Unit {0}) RescueError). outcome (rescue_number y) store' report') (sym e) ∙ t

-- ---- find, as the code's answer says
pub found_as : (part : List ℕ) {a : Answer} {r : Local} (x : Local) → r ≡ x → answer_of r ≡ a → looked_up part (answer_of x) ≡ looked_up part a
found_as part x e t = ap (λ (y : Local). looked_up part (answer_of y)) (sym e) ∙ ap (looked_up part) t
