-- The readings that a host lends, 134 bytes, numbers big-endian. Layout of this box:
--
--   0 number of temperatures, 1 number of utilizations, then six places of 22 bytes: four for temperatures, two for utilizations.
--   A place: 0 unit (0 Celsius, anything else Fahrenheit; a utilization has none), 1 the name's length, 2-17 the name, 18-21 the f32.
--
-- Places past a number, and bytes past a name, are not looked at.
use Rattle.std.specs.Prelude.{ℕ, zero, suc, ◌+◌, ◌*◌, Bool, true, false, not, ◌&&◌, List, [], ◌∷◌, leb, eqb, length, get_or, take, drop}
use Rattle.std.proofs.Math.Option.{Option}
use Rattle.log_binary32.specs.Celsius.{celsius_of, finite_of}

pub record Lent : Type 0 where
  pub name : List ℕ
  pub fahrenheit : Bool
  pub bits : ℕ

-- the 32 bits at a place of the bytes, the highest first
unfoldable pub bits_at : List ℕ → ℕ → ℕ
bits_at l a = get_or l a 0 * 16777216 + get_or l (a + 1) 0 * 65536 + get_or l (a + 2) 0 * 256 + get_or l (a + 3) 0

unfoldable pub lent_at : List ℕ → ℕ → Lent
lent_at l a =
    record {
      name = take (get_or l (a + 1) 0) (drop (a + 2) l);
      fahrenheit = not (eqb (get_or l a 0) 0);
      bits = bits_at l (a + 18);
    }

-- the place i, 0 to 5
abbrev pub place_at : List ℕ → ℕ → Lent
place_at l i = lent_at l (2 + i * 22)

-- n places from the place i on
unfoldable pub places_from : List ℕ → ℕ → ℕ → List Lent
places_from l i zero = []
places_from l i (suc n) = place_at l i ∷ places_from l (i + 1) n

abbrev pub temperatures : List ℕ → List Lent
temperatures l = places_from l 0 (get_or l 0 0)

abbrev pub utilizations : List ℕ → List Lent
utilizations l = places_from l 4 (get_or l 1 0)

-- document 02, CR 1: "up to four temperatures and two utilisations, names 1 to 16 bytes; other counts or lengths are a new call refusal 7"
abbrev pub name_good : List ℕ → Bool
name_good name = leb 1 (length name) && leb (length name) 16

unfoldable pub all_named : List Lent → Bool
all_named [] = true
all_named (r ∷ rs) = name_good r.name && all_named rs

unfoldable pub readings_good : List ℕ → Bool
readings_good l =
    eqb (length l) 134
    && (leb (get_or l 0 0) 4
    && (leb (get_or l 1 0) 2
    && (all_named (temperatures l)
    && all_named (utilizations l))))

-- what is sent of a reading: its name, and the 32 bits of its value where that is finite. Document 02, CR 1: "A value that isn't finite, as it would be
-- sent, is omitted, its name still sent."
pub record Sample : Type 0 where
  pub name : List ℕ
  pub value : Option ℕ

unfoldable pub temperature_sample : Lent → Sample
temperature_sample r = record { name = r.name; value = finite_of (celsius_of r.fahrenheit r.bits) }

unfoldable pub utilization_sample : Lent → Sample
utilization_sample r = record { name = r.name; value = finite_of r.bits }

-- either kind: a temperature's, or a utilization's
abbrev pub sample_of : Bool → Lent → Sample
sample_of true = temperature_sample
sample_of false = utilization_sample
