use Prim.Native.Nat.{ℕ, ◌+◌, ◌-◌}
use native.Mathlib.Omega.{arith}
use mathlib.Core.Path.{◌≡◌, ◌∙◌, ap}
use lib.ListN.{length, replicate, take, drop, length-take, length-drop, length-replicate}
use Rattle.access_record_bytes.specs.WroteLaws.{wrote-part}
use Rattle.access_record_bytes.proofs.put_zeros.Goals as goal

pub returns : goal.returns
returns c =
    let a = c.args in
    let part : length (take (a.at + a.n - a.at) (drop a.at a.out.now)) ≡ a.n = simp (length-take, length-drop) (omega arith) in
    wrote-part _ _ _ (c.fill.ensures.after (λ y e. e) ∙ ap (λ (n : ℕ). replicate n 0) part) (length-replicate _ _) c.requires
