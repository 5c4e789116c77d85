-- The steps of a varint that is written, and the room for it.
use Rattle.std.specs.Prelude.{ℕ, ◌^◌, ◌<◌, ◌≡◌, List, drop}
use Rattle.fields_wire.specs.Varint.{varint_bytes}
use Rattle.fields_write_bytes.specs.Copying.{Copying}

-- a varint written forwards: i bytes stand there, and rest is what is left of its number
pub record Grouping (at v : ℕ) (before : List ℕ) (p i rest : ℕ) (now : List ℕ) : Type 0 where
  pub copying : Copying at (varint_bytes v) before p i now
  pub left : drop i (varint_bytes v) ≡ varint_bytes rest
  pub range : rest < 2 ^ 64
