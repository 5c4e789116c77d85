-- The blocks looked at one after the other, and then put in order.
use Rattle.std.specs.Prelude.{◌≡◌, List, ◌++◌, ℕ, ◌-◌, ◌*◌, length, take, drop}
use Rattle.store_layout.specs.Store.{blocks_in}
use Rattle.store_order_table.specs.Table.{entries_at}
use Rattle.store_rescue.specs.Rescue.{blocks_from, kept_from, report_from, kept_of, report_of}
use Rattle.store_rescue.specs.Listed.{Listed}

-- the blocks from place i on
abbrev pub rest : List ℕ → ℕ → List (List ℕ)
rest l i = blocks_from (blocks_in l - i) (drop (i * 512) l)

-- before the turn i: the first i bytes of the report are written, and what is still to come gives the whole
pub record Surveying (l : List ℕ) (i kept : ℕ) (r o : List ℕ) : Type 0 where
  pub long : length r ≡ blocks_in l
  pub listed : Listed l i kept o
  pub told : take i r ++ report_from (entries_at l (take kept o)) (rest l i) ≡ report_of l
  pub entries : kept_from (entries_at l (take kept o)) (rest l i) ≡ kept_of l

-- after the last: the report is written, and the table has the blocks that are kept
pub record Surveyed (l : List ℕ) (kept : ℕ) (r o : List ℕ) : Type 0 where
  pub listed : Listed l (blocks_in l) kept o
  pub told : r ≡ report_of l
  pub entries : entries_at l (take kept o) ≡ kept_of l
