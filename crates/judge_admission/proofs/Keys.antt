-- The key of a body, as the code cuts it out.
use mathlib.Core.Path.{◌≡◌, sym, ◌∙◌}
use mathlib.Core.List.{List}
use Prim.Native.Nat.{ℕ, ◌+◌, ◌-◌, ◌^◌, ◌<◌}
use native.Mathlib.Omega.{arith}
use lib.ListN.{length, take, drop}
use mir.Syntax.{w64}
use mir.Val.{Fits}
use Rattle.fields_lookup.specs.Views.{Inside}
use Rattle.fields_lookup.specs.declared.parts.Part.{Part}
use Rattle.request_command.specs.declared.Body.{Body}
use Rattle.request_command.specs.Views.{BodyLies, body_view}
use Rattle.protocol.specs.Judge.{key_value_in}
use Rattle.fields_lookup.proofs.SliceLaws.{slice_at}

abbrev cut : List ℕ → Part → List ℕ
cut s p = take (p.start + p.len - p.start) (drop p.start s)

pub end_fits : (s : List ℕ) (p : Part) → length s < 2 ^ 64 → Inside s p → Fits w64 (p.start + p.len)
end_fits s p h i = record { fits = omega arith }

pub key-cut : (s : List ℕ) (b : Body) → BodyLies s b → (key_value_in (body_view s b)).key ≡ cut s b.entry.key
key-cut s b l = l.key ∙ sym (slice_at s b.entry.key)
