-- Parts of the command and of the store, as the code cuts them out.
use Rattle.std.specs.Prelude.{List, ℕ, ◌+◌, ◌-◌, take, drop}
use Rattle.fields_lookup.specs.declared.parts.Part.{Part}

-- n bytes from a on
abbrev pub cut : List ℕ → ℕ → ℕ → List ℕ
cut l a n = take (a + n - a) (drop a l)

-- a part of the command, which is empty where there is none
abbrev pub cut_at : List ℕ → Part → List ℕ
cut_at s p = cut s p.start p.len
