-- Places of readings that count, and the code's test of a name.
use Rattle.std.specs.Prelude.{◌≡◌, ℕ, ◌+◌, ◌*◌, ◌≤◌, ◌<◌, Bool, true, ◌&&◌, List, leb, length, get_or}
use Rattle.log_readings.specs.Lent.{place_at, name_good}

-- ---- a place that counts: inside the area, with a name that can be sent
pub record Placed (l : List ℕ) (i : ℕ) : Type 0 where
  pub long : length l ≡ 134
  pub place : i < 6
  pub named : name_good (place_at l i).name ≡ true

-- a run of such places
pub record Places (l : List ℕ) (first count : ℕ) : Type 0 where
  pub few : count ≤ 4
  pub each : (i : ℕ) → i < count → Placed l (first + i)

-- ---- the code's test of a name: its length's byte. From a name's start to the end of the area there are 20 bytes or more, so that no name is cut.
abbrev pub name_length : List ℕ → ℕ → ℕ
name_length l i = get_or l (3 + i * 22) 0

abbrev pub fits : ℕ → Bool
fits n = leb 1 n && leb n 16
