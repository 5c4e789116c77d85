use Prim.Native.Nat.{ℕ}
use mathlib.Core.Path.{◌∙◌, ap}
use mathlib.Core.List.{List}
use Rattle.access_record.specs.Table.{every_scope}
use Rattle.access_table_write.specs.Write.{put_acl, put_scope}
use Rattle.access_table_write.specs.WrittenLaws.{host-written}
use Rattle.access_format.proofs.format_record.Goals as goal

pub returns : goal.returns
returns c =
    let key = c.args.key.now in
    c.add_scope.ensures
    ∙ ap (λ (l : List ℕ). put_scope l 0 0 every_scope) c.add_acl.ensures
    ∙ ap (λ (l : List ℕ). put_scope (put_acl l 0 1 key) 0 0 every_scope) c.clear_table.ensures
    ∙ host-written key c.requires
