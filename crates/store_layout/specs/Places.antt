-- A key that stands at a place among entries, or would stand there.
use Rattle.std.specs.Prelude.{◌≡◌, List, ℕ, ◌+◌, ◌≤◌, ◌<◌, length}
use Rattle.store_block.specs.Entry.{Entry}
use Rattle.store_layout.specs.Entries.{put_entry, remove_entry}
use Rattle.store_layout.specs.Splices.{insert_at, replace_at, remove_at}

-- the key would stand at place i
pub record InGap (j i : ℕ) (e : Entry) (es : List Entry) : Type 0 where
  pub off : ℕ
  pub place : i ≡ j + off
  pub within : off ≤ length es
  pub put : put_entry e es ≡ insert_at off e es
  pub removed : remove_entry e.key es ≡ es

-- the key stands at place i
pub record IsAt (j i : ℕ) (e : Entry) (es : List Entry) : Type 0 where
  pub off : ℕ
  pub place : i ≡ j + off
  pub within : off < length es
  pub put : put_entry e es ≡ replace_at off e es
  pub removed : remove_entry e.key es ≡ remove_at off es
