use mathlib.Core.Path.{◌≡◌, sym, ap, subst, ◌∙◌}
use mathlib.Core.List.{List}
use Prim.Native.Nat.{ℕ}
use Rattle.store_layout.specs.declared.Parts.{Parts}
use Rattle.std.specs.Prelude.{Some}
use native.Mathlib.Omega.{arith}
use Rattle.protocol.specs.State.{State}
use Rattle.protocol.specs.Judge.{version_shown}
use Rattle.operation_get.specs.Shown.{Shown, Inside, PartsInside, entry_shown}
use Rattle.perform_entry.specs.SlicesLaws.{cut_short, version-cut}
use Rattle.reply_send.specs.SentLaws.{sent-as}
use Rattle.perform_get.proofs.show_version.Goals as goal

inside : (store : List ℕ) {found : Shown} (parts : Parts) → found ≡ Some parts → PartsInside store found → Inside store parts
inside store parts e i = subst (λ (r : Shown). PartsInside store r) e i

pub overflow_add-end : goal.overflow_add-end
overflow_add-end c = let i = (inside c.args.store.now c.in-Some.parts c.in-Some.is c.requires.2).version in let g = c.well_formed in omega arith

pub slice_bounds-key_value_reply-end : goal.slice_bounds-key_value_reply-end
slice_bounds-key_value_reply-end c = let i = (inside c.args.store.now c.in-Some.parts c.in-Some.is c.requires.2).version in omega arith

pub key_value_reply-requires : goal.key_value_reply-requires
key_value_reply-requires c =
    let v = c.in-Some.parts.version in
    (c.requires.0, c.requires.1, cut_short c.args.store.now v.start v.len 16 (inside c.args.store.now c.in-Some.parts c.in-Some.is c.requires.2).version_fits)

pub returns-in-Some : goal.returns-in-Some
returns-in-Some c =
    let l = c.args.store.now in
    λ (s : State).
    sent-as c.args.reply_to c.args.signing_key.now
    (version-cut l c.in-Some.parts s ∙ sym (ap (λ (r : Shown). version_shown s (entry_shown l r)) c.in-Some.is))
    (c.key_value_reply.ensures s)

pub returns-in-None : goal.returns-in-None
returns-in-None c =
    λ (s : State).
    sent-as c.args.reply_to c.args.signing_key.now (sym (ap (λ (r : Shown). version_shown s (entry_shown c.args.store.now r)) c.in-None.is))
    (c.status.ensures s)
