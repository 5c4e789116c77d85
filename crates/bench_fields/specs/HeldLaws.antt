-- What the code takes out of a request is what the command holds.
use Rattle.std.specs.Prelude.{◌≡◌, refl, Bool, true, false, cond, List, [], ◌∷◌, ℕ, length, drop}
use Rattle.std.proofs.Common.{sym, ap, ◌∙◌, arith, length-take, length-drop}
use Rattle.std.proofs.Math.Option.{Option}
use Rattle.base_definitions.specs.Options.{or_else}
use Rattle.fields_schema.specs.Tree.{guard}
use Rattle.fields_lookup.specs.declared.parts.Part.{Part}
use Rattle.fields_lookup.specs.Views.{num_view, signed_view, bytes_at, part_view, Lies}
use Rattle.protocol.specs.Command as c
use Rattle.protocol.specs.Judge.{no_key_value, key_value_in}
use Rattle.request_parts.specs.Views.{header_view, key_value_view}
use Rattle.request_command.specs.declared.Request.{Request}
use Rattle.request_command.specs.Views.{BodyLies, request_view}
use Rattle.bench_fields.specs.Held.{said, in_header, held, left, taken_out}

-- what is there if a part of the message is
by-header : (f : c.Header → ℕ) (b : Bool) (h : c.Header) → cond b (f h) 0 ≡ in_header f (guard b h)
by-header f true h = refl
by-header f false h = refl

by-entry : (f : c.KeyValue → ℕ) → f no_key_value ≡ 0 → (b : Bool) (k : c.KeyValue) → cond b (f k) 0 ≡ f (or_else no_key_value (guard b k))
by-entry f e true k = refl
by-entry f e false k = sym e

part_length : (s : List ℕ) (p : Part) → Lies s p → p.len ≡ length (or_else [] (part_view s p))
unfolding bytes_at
part_length s p l =
    let e = ap length l.empty in
    let i = l.inside in
    let t = length-take p.len (drop p.start s) in
    let d = length-drop p.start s in
    omega arith

module _ (s : List ℕ) (r : Request) (l : BodyLies s r.body) where
  of-header : (f : c.Header → ℕ) {n : ℕ} → n ≡ cond r.headed (f (header_view r.header)) 0 → n ≡ in_header f (said s r).header
  of-header f e = e ∙ by-header f r.headed (header_view r.header)

  of_entry : (f : c.KeyValue → ℕ) → f no_key_value ≡ 0 → {n : ℕ} → n ≡ cond r.body.keyed (f (key_value_view s r.body.entry)) 0 → n ≡ f (key_value_in (said s r).body)
  of_entry f z e = e ∙ by-entry f z r.body.keyed (key_value_view s r.body.entry)

  part : (p : Part) → Lies s p → {n : ℕ} → n ≡ cond r.body.keyed p.len 0 → n ≡ cond r.body.keyed (length (or_else [] (part_view s p))) 0
  part p h e = e ∙ ap (λ (n : ℕ). cond r.body.keyed n 0) (part_length s p h)

  pub all_held : {n₁ n₂ n₃ n₄ l₁ l₂ l₃ l₄ a : ℕ}
      → n₁ ≡ cond r.headed (or_else 0 (signed_view r.header.cluster)) 0
      → n₂ ≡ cond r.headed (or_else 0 (signed_view r.header.connection)) 0
      → n₃ ≡ cond r.headed (or_else 0 (signed_view r.header.sequence)) 0
      → n₄ ≡ cond r.headed (or_else 0 (num_view r.header.kind)) 0
      → l₁ ≡ cond r.body.keyed r.body.entry.version.len 0
      → l₂ ≡ cond r.body.keyed r.body.entry.key.len 0
      → l₃ ≡ cond r.body.keyed r.body.entry.expected.len 0
      → l₄ ≡ cond r.body.keyed r.body.entry.tag.len 0
      → a ≡ cond r.body.keyed (or_else 0 (num_view r.body.entry.algorithm)) 0
      → n₁ ∷ n₂ ∷ n₃ ∷ n₄ ∷ l₁ ∷ l₂ ∷ l₃ ∷ l₄ ∷ a ∷ [] ≡ held (said s r)
  all_held e₁ e₂ e₃ e₄ f₁ f₂ f₃ f₄ g =
      let x₁ = of-header (λ h. h.cluster_version) e₁ in
      let x₂ = of-header (λ h. or_else 0 h.connection_id) e₂ in
      let x₃ = of-header (λ h. or_else 0 h.sequence) e₃ in
      let x₄ = of-header (λ h. or_else 0 h.message_type) e₄ in
      let y₁ = of_entry (λ k. length k.new_version) refl (part r.body.entry.version l.entry.version f₁) in
      let y₂ = of_entry (λ k. length k.key) refl (part r.body.entry.key l.entry.key f₂) in
      let y₃ = of_entry (λ k. length k.db_version) refl (part r.body.entry.expected l.entry.expected f₃) in
      let y₄ = of_entry (λ k. length k.tag) refl (part r.body.entry.tag l.entry.tag f₄) in
      let z = of_entry (λ k. k.algorithm) refl g in
      λ i. x₁ i ∷ x₂ i ∷ x₃ i ∷ x₄ i ∷ y₁ i ∷ y₂ i ∷ y₃ i ∷ y₄ i ∷ z i ∷ []

-- ---- the answer
module _ (out s : List ℕ) (r : Request) {o : Option c.Command} (e : request_view s r ≡ o) where
  pub taken : r.ok ≡ true → {m : List ℕ} → m ≡ held (said s r) → left 0 m ≡ taken_out out o
  taken ok h = ap (left 0) h ∙ ap (λ (b : Bool). taken_out out (guard b (said s r))) (sym ok) ∙ ap (taken_out out) e

  pub not_taken : r.ok ≡ false → left 1 out ≡ taken_out out o
  not_taken ok = ap (λ (b : Bool). taken_out out (guard b (said s r))) (sym ok) ∙ ap (taken_out out) e
