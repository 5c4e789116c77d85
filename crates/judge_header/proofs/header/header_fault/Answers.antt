use mathlib.Core.Path.{◌≡◌, sym, ap, ap₂, ◌∙◌}
use mir.Syntax.{w64}
use mir.Val.{SFits}
use borrow.Author.Rules.{rules}
use Rattle.base_integers.specs.SignedLaws.{word_kept}
use Rattle.judge_header.specs.HeaderFault.{in_order}
use Rattle.base_integers.specs.Signed.{word_of}
use Rattle.fields_lookup.specs.Views.{signed_view}
use Rattle.protocol_connection.specs.ConnectionOf.{connection_of}
use Rattle.judge_header.specs.FaultBy.{fault_by}
use Rattle.judge_header.proofs.HeaderLaws.{by-heard, other-version, out_of_order, all_right}
use Rattle.judge_header.proofs.header.header_fault.Goals as goal
use Rattle.judge_header.proofs.header.header_fault.Goals.{After-in_order}

pub returns-in_default : goal.returns-in_default
returns-in_default c =
    let a = c.args in
    λ s h k. sym (ap (λ o. fault_by a.device.now (word_of a.version) (signed_view o) (signed_view a.sequence) (connection_of a.connection)) c.in_default.is) ∙ by-heard s h k

pub returns-in_default-sequence : goal.returns-in_default-sequence
returns-in_default-sequence c = let a = c.args in λ s h k. ap₂ (λ o q. fault_by a.device.now (word_of a.version) (signed_view o) (signed_view q) (connection_of a.connection)) (sym c.in-Some.is) (sym c.in_default-sequence.is) ∙ by-heard s h k

pub returns-then-version-cluster_version : goal.returns-then-version-cluster_version
returns-then-version-cluster_version c =
    let a = c.args in
    λ s h k. other-version a.device.now (word_of a.version) (word_of c.in-Some.id) (word_of c.in-Some-sequence.sequence) (connection_of a.connection) c.cluster_version.ensures c.if-version-cluster_version.true ∙ ap₂ (λ o q. fault_by a.device.now (word_of a.version) (signed_view o) (signed_view q) (connection_of a.connection)) (sym c.in-Some.is) (sym c.in-Some-sequence.is) ∙ by-heard s h k

heard : (c : After-in_order) → c.in_order.result ≡ in_order (connection_of c.args.connection) (word_of c.in-Some.id) (word_of c.in-Some-sequence.sequence)
heard c =
    let i : SFits w64 c.in-Some.id = search rules in
    let q : SFits w64 c.in-Some-sequence.sequence = search rules in
    c.in_order.ensures ∙ ap₂ (in_order (connection_of c.args.connection)) (word_kept c.in-Some.id i.sfits) (word_kept c.in-Some-sequence.sequence q.sfits)

pub returns-then-not-in_order : goal.returns-then-not-in_order
returns-then-not-in_order c =
    let a = c.args in
    let o = (goal.at.returns-then-not-in_order c).After-in_order in
    λ s h k. out_of_order a.device.now (word_of a.version) (word_of c.in-Some.id) (word_of c.in-Some-sequence.sequence) (connection_of a.connection) c.cluster_version.ensures c.if-version-cluster_version.false (sym c.if-not-in_order.true ∙ heard o) ∙ ap₂ (λ o q. fault_by a.device.now (word_of a.version) (signed_view o) (signed_view q) (connection_of a.connection)) (sym c.in-Some.is) (sym c.in-Some-sequence.is) ∙ by-heard s h k

pub returns : goal.returns
returns c =
    let a = c.args in
    let o = (goal.at.returns c).After-in_order in
    λ s h k. all_right a.device.now (word_of a.version) (word_of c.in-Some.id) (word_of c.in-Some-sequence.sequence) (connection_of a.connection) c.cluster_version.ensures c.if-version-cluster_version.false (sym c.if-not-in_order.false ∙ heard o) ∙ ap₂ (λ o q. fault_by a.device.now (word_of a.version) (signed_view o) (signed_view q) (connection_of a.connection)) (sym c.in-Some.is) (sym c.in-Some-sequence.is) ∙ by-heard s h k
