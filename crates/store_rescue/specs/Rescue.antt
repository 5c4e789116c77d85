-- Change request 6: "a rescue over a lent store and a lent report of one byte for each block".
use Rattle.std.specs.Prelude.{Bool, true, false, cond, List, [], ◌∷◌, ℕ, zero, suc, eqb, length, take, drop, Result, Ok, Err}
use Rattle.store_block.specs.Order.{cmp}
use Rattle.store_block.specs.Entry.{Entry}
use Rattle.std.specs.Ordering.{is_eq}
use Rattle.store_block.specs.Block.{decode}
use Rattle.store_layout.specs.Store.{blocks_in, bytes_of, size_good}
use Rattle.store_layout.specs.Entries.{put_entry}
use Rattle.store_rescue.specs.declared.state.BlockState.{BlockState}
use Rattle.store_rescue.specs.declared.state.BlockState.TheVariants.{Blank, SumWrong, RuleBroken, Sound}
use Rattle.store_rescue.specs.State.{state_of}
use Rattle.store_rescue.specs.declared.rule.RescueError.{RescueError}
use Rattle.store_rescue.specs.declared.rule.RescueError.TheVariants.{StoreBad, ReportBad}

-- the blocks of a store, by place
unfoldable pub blocks_from : ℕ → List ℕ → List (List ℕ)
blocks_from zero l = []
blocks_from (suc n) l = take 512 l ∷ blocks_from n (drop 512 l)

-- whether one of some entries has a key
unfoldable pub has_key : List ℕ → List Entry → Bool
has_key k [] = false
has_key k (e ∷ es) = cond (is_eq (cmp k e.key)) true (has_key k es)

-- "Report bytes .. the first that applies: 0 blank, 2 check wrong, 3 other rule broken, 4 key of an earlier kept block, 1 kept"
unfoldable pub report : Bool → BlockState → ℕ
report earlier Blank = 0
report earlier SumWrong = 2
report earlier RuleBroken = 3
report earlier Sound = cond earlier 4 1

-- the byte of a block, when es are the entries kept of the blocks before it
unfoldable pub report_byte : List Entry → List ℕ → ℕ
report_byte es b = report (has_key (decode b).key es) (state_of b)

-- the entries kept, in the order of their keys: those before the block, and its own if it is kept
unfoldable pub kept_with : List Entry → List ℕ → List Entry
kept_with es b = cond (eqb (report_byte es b) 1) (put_entry (decode b) es) es

unfoldable pub kept_from : List Entry → List (List ℕ) → List Entry
kept_from es [] = es
kept_from es (b ∷ bs) = kept_from (kept_with es b) bs

unfoldable pub report_from : List Entry → List (List ℕ) → List ℕ
report_from es [] = []
report_from es (b ∷ bs) = report_byte es b ∷ report_from (kept_with es b) bs

-- "Blocks that meet every block rule but order are kept, of equal keys the earliest"
unfoldable pub kept_of : List ℕ → List Entry
kept_of l = kept_from [] (blocks_from (blocks_in l) l)

-- "others are blanked. The result is a store in order holding exactly the kept entries."
unfoldable pub rescued_store : List ℕ → List ℕ
rescued_store l = bytes_of (blocks_in l) (kept_of l)

-- "by old place"
unfoldable pub report_of : List ℕ → List ℕ
report_of l = report_from [] (blocks_from (blocks_in l) l)

-- the call: its number, and the store and the report afterwards
pub record Outcome : Type 0 where
  pub number : ℕ
  pub store : List ℕ
  pub report : List ℕ

abbrev pub outcome : ℕ → List ℕ → List ℕ → Outcome
outcome n store report = record { number = n; store = store; report = report }

-- "A wrong store length is refusal 2, then a wrong report length a new refusal 8"; nothing changes on either
unfoldable pub rescue_of : List ℕ → List ℕ → Outcome
rescue_of l r = cond (size_good l) (cond (eqb (length r) (blocks_in l)) (outcome 0 (rescued_store l) (report_of l)) (outcome 8 l r)) (outcome 2 l r)

-- the number of an answer
abbrev pub rescue_number : Result (Unit {0}) RescueError → ℕ
rescue_number (Ok done) = 0
rescue_number (Err StoreBad) = 2
rescue_number (Err ReportBad) = 8
