use Prim.Native.Nat.{ℕ}
use mathlib.Core.Path.{◌∙◌, ap}
use mathlib.Core.List.{◌++◌}
use lib.ListN.{take}
use Rattle.base_definitions.specs.BigEndian.{be32}
use Rattle.store_block_codec.specs.BuiltLaws.{last_set}
use Rattle.store_block_codec.proofs.make.seal.Goals as goal

pub returns : goal.returns
unfolding be32
returns c = let l = c.args.b.now in
    last_set l _ _ _ _ c.requires ∙ ap (λ (n : ℕ). take 508 l ++ be32 n) c.sum-s.ensures.0
