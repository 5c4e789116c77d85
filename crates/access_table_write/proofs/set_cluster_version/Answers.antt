use Prim.Native.Nat.{ℕ}
use mathlib.Core.Path.{ap, ◌∙◌}
use Rattle.base_integers.specs.SignedLaws.{word_kept}
use Rattle.base_definitions.specs.BigEndian.{be32}
use Rattle.access_record.specs.Record.{word_bytes, with_cluster_version}
use Rattle.access_record_bytes.specs.Wrote.{put}
use Rattle.access_table_write.proofs.set_cluster_version.Goals as goal

pub returns : goal.returns
unfolding with_cluster_version word_bytes be32 put
returns c =
    c.put_signed.ensures.same ∙ ap (λ (w : ℕ). with_cluster_version c.args.device.now w) (word_kept c.args.version c.ranges.version.sfits)
