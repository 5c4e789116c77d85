-- What the code's answers about PUT mean, beside the definitions of `Judge`; `Changed` serves DELETE too.
use Rattle.std.specs.Prelude.{◌≡◌, Bool, false, cond, List, ℕ, eqb}
use Rattle.store_layout.specs.Entries.{PutAnswer}
use Rattle.std.specs.Prelude.{Ok, Err}
use Rattle.store_layout.specs.declared.PutError.TheVariants.{Full, Unfit}
use Rattle.store_layout.specs.Store.{Good}
use Rattle.protocol.specs.StatusCode.{SUCCESS, NO_SPACE, INVALID_REQUEST}
use Rattle.protocol.specs.State.{State}
use Rattle.protocol.specs.Command.{KeyValue}
use Rattle.protocol.specs.Judge.{Result, fails, changed}

-- "A new key that passes this, with no blank block: NO_SPACE (14)"; an entry that fits no block is INVALID_REQUEST (16)
abbrev pub put_code : PutAnswer → ℕ
put_code (Ok tt) = SUCCESS
put_code (Err Full) = NO_SPACE
put_code (Err Unfit) = INVALID_REQUEST

-- what a PUT's keyValue says
pub record Puts (k : KeyValue) (key new old tag : List ℕ) (a : ℕ) (f : Bool) : Type 0 where
  pub is_key : k.key ≡ key
  pub is_new : k.new_version ≡ new
  pub is_old : k.db_version ≡ old
  pub is_tag : k.tag ≡ tag
  pub is_algorithm : k.algorithm ≡ a
  pub is_force : k.force ≡ f

-- code and store afterwards are those of a result of `Judge` in every state with this store: where the code is not SUCCESS, nothing changed
pub record Changed (result : State → Result) (r : ℕ) (before after : List ℕ) : Type 0 where
  pub whole : (s : State) → s.store ≡ before → result s ≡ cond (eqb r SUCCESS) (changed s after) (fails s r)
  pub kept : eqb r SUCCESS ≡ false → after ≡ before
  pub good : Good after
