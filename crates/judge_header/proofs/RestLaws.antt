-- `judge` cut at step 7: steps 4 to 6 give a code, 0 where all hold.
use Rattle.std.specs.Prelude.{◌≡◌, refl, Bool, true, false, cond, List, ℕ, eqb}
use Rattle.std.proofs.Math.Option.{Option, none, some}
use Rattle.access_record.specs.Table as access
use Rattle.protocol.specs.StatusCode.{VERSION_FAILURE, INVALID_REQUEST}
use Rattle.protocol.specs.State.{State, table, accepted}
use Rattle.base_definitions.specs.Options.{or_else}
use Rattle.protocol.specs.Command.{Header, Command}
use Rattle.protocol.specs.Judge.{Result, fails, both_there, step4, step5, step6, judge}
use Rattle.judge_header.specs.HeaderFault.{in_order, header_there, header_fault}
use Rattle.judge_header.specs.Rest.{rest, sequence_heard, type_in}

-- a request that passes steps 4 to 6 is judged by the rest, with its sequence accepted; another fails, and nothing changes
pub judge-by : (s : State) (a : access.Acl) (c : Command) (v : List ℕ)
    → judge s a c v ≡ cond (eqb (header_fault s c.header) 0) (rest (accepted s (sequence_heard c.header)) a (type_in c.header) c.body v) (fails s (header_fault s c.header))
unfolding judge
judge-by s a c v = go c.header
  where
    go : (h : Option Header)
        → step4 s h (λ h n q. step5 s h (step6 s n q (rest (accepted s q) a h.message_type c.body v)))
        ≡ cond (eqb (header_fault s h) 0) (rest (accepted s (sequence_heard h)) a (type_in h) c.body v) (fails s (header_fault s h))
    go none = refl
    go (some h) = there h.connection_id h.sequence
      where
        tests : (x y : Bool) (r : Result) → cond x (cond y r (fails s INVALID_REQUEST)) (fails s VERSION_FAILURE) ≡ cond (eqb (cond x (cond y 0 INVALID_REQUEST) VERSION_FAILURE) 0) r (fails s (cond x (cond y 0 INVALID_REQUEST) VERSION_FAILURE))
        tests true true r = refl
        tests true false r = refl
        tests false y r = refl

        there : (m q : Option ℕ)
            → both_there s h m q (λ h n q. step5 s h (step6 s n q (rest (accepted s q) a h.message_type c.body v)))
            ≡ cond (eqb (header_there s h m q) 0) (rest (accepted s (or_else 0 q)) a h.message_type c.body v) (fails s (header_there s h m q))
        there (some n) (some q) = tests (eqb h.cluster_version (table s).cluster_version) (in_order s.connection n q) (rest (accepted s q) a h.message_type c.body v)
        there (some n) none = refl
        there none q = refl
