use Prim.Native.Nat.{ℕ}
use mathlib.Core.Path.{ap, ◌∙◌}
use Rattle.base_integers.specs.SignedLaws.{word_kept}
use Rattle.access_table_write.specs.Write.{put_acl}
use Rattle.access_acl_write.proofs.add_acl.Goals as goal

pub returns : goal.returns
unfolding put_acl
returns c =
    let i = c.args.place in
    c.put_acl.ensures.same
    ∙ ap (λ (w : ℕ). put_acl c.args.device.now i w c.args.key.now) (word_kept c.args.identity c.ranges.identity.sfits)
