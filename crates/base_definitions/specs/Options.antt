-- Values that may be absent.
use Rattle.std.proofs.Math.Option.{Option, none, some}

-- what is absent has this value: document 01, "Absent bytes are empty, flags false, clusterVersion and offset 0"
abbrev pub or_else : {A : Type 0} → A → Option A → A
or_else a none = a
or_else a (some b) = b
