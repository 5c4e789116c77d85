use native.Mathlib.Omega.{arith}
use mathlib.Core.Path.{sym, subst}
use mathlib.Core.List.{List}
use Prim.Native.Nat.{ℕ, ◌+◌, ◌≤◌}
use lib.ListN.{length}
use Rattle.fields_write_bytes.specs.Pushed.{Pushed}
use Rattle.log_readings.specs.Places.{Places}
use Rattle.log_readings.specs.LentLaws.{temperatures-placed, utilizations-placed}
use Rattle.reply_log_body.specs.LogLaws.{log-law}
use Rattle.reply_log_body.proofs.push_log.Goals as goal

-- the room in front of each part
left-for : {at r : ℕ} (most room : ℕ) → most + room ≤ at → at ≤ r + most → room ≤ r
left-for most room h k = omega arith

inside : {r at : ℕ} {bs m n : List ℕ} → Pushed r at bs m n → r ≤ length n
inside p = omega (arith, p.from, p.fits, p.long)

-- in front of the capacity, the temperatures, the utilizations, the getLog
capacity-room : {at a b : ℕ} → 629 ≤ at → at ≤ a + 120 → a ≤ b + 39 → 470 ≤ b
capacity-room x w v = left-for 39 470 (left-for 120 509 x w) v

heated-room : {at a b c : ℕ} → 629 ≤ at → at ≤ a + 120 → a ≤ b + 39 → b ≤ c + 220 → 250 ≤ c
heated-room x w v u = left-for 220 250 (capacity-room x w v) u

utilized-room : {at a b c d : ℕ} → 629 ≤ at → at ≤ a + 120 → a ≤ b + 39 → b ≤ c + 220 → c ≤ d + 220 → 30 ≤ d
utilized-room x w v u t = left-for 220 30 (heated-room x w v u) t

pub push_asked_samples-c-requires : goal.push_asked_samples-c-requires
push_asked_samples-c-requires c =
    let n = c.temperatures-t in
    let l = c.args.readings.now in
    let e = capacity-room c.requires.2 c.push_asked_limits-a.ensures.1 c.push_asked_capacity-b.ensures.1 in
    let f = inside c.push_asked_capacity-b.ensures.0 in
    (subst (Places l 0) (sym n.ensures.0) (temperatures-placed l c.requires.1), omega (arith), omega (arith), omega (arith, e), f)

pub push_asked_samples-d-requires : goal.push_asked_samples-d-requires
push_asked_samples-d-requires c =
    let n = c.utilizations-u in
    let l = c.args.readings.now in
    let e = heated-room c.requires.2 c.push_asked_limits-a.ensures.1 c.push_asked_capacity-b.ensures.1 c.push_asked_samples-c.ensures.1 in
    let f = inside c.push_asked_samples-c.ensures.0 in
    (subst (Places l 4) (sym n.ensures.0) (utilizations-placed l c.requires.1), omega (arith), omega (arith), omega (arith, e), f)

pub push_head-e-requires : goal.push_head-e-requires
push_head-e-requires c =
    let e =
    utilized-room c.requires.2 c.push_asked_limits-a.ensures.1 c.push_asked_capacity-b.ensures.1 c.push_asked_samples-c.ensures.1
    c.push_asked_samples-d.ensures.1 in
    (omega arith, omega (arith, e), inside c.push_asked_samples-d.ensures.0)

pub push_head-requires : goal.push_head-requires
push_head-requires c =
    let e =
    utilized-room c.requires.2 c.push_asked_limits-a.ensures.1 c.push_asked_capacity-b.ensures.1 c.push_asked_samples-c.ensures.1
    c.push_asked_samples-d.ensures.1 in
    (omega arith, left-for 15 15 e c.push_head-e.ensures.1, inside c.push_head-e.ensures.0)

pub returns : goal.returns
returns c =
    let a = c.args in (
      log-law a.store.now a.readings.now a.parts.utilizations a.parts.temperatures a.parts.capacities a.parts.limits c.utilizations-u.ensures.0 c.temperatures-t.ensures.0
          c.push_head.ensures.0 c.push_head-e.ensures.0 c.push_asked_samples-d.ensures.0 c.push_asked_samples-c.ensures.0
          c.push_asked_capacity-b.ensures.0 c.push_asked_limits-a.ensures.0,
      omega (
        arith,
        c.push_asked_limits-a.ensures.1,
        c.push_asked_capacity-b.ensures.1,
        c.push_asked_samples-c.ensures.1,
        c.push_asked_samples-d.ensures.1,
        c.push_head-e.ensures.1,
        c.push_head.ensures.1,
      ),
    )
