use mathlib.Core.Path.{◌∙◌, sym}
use Rattle.store_layout.proofs.CheckLaws.{store-decides}
use Rattle.program_store.proofs.delete_key.Goals as goal

pub delete-requires : goal.delete-requires
delete-requires c = (store-decides _).yes (sym c.check.ensures ∙ c.if-not-check.false)
