-- Laws of PUT.
use Rattle.std.specs.Prelude.{◌≡◌, refl, Bool, true, false, cond, ◌||◌, List, ℕ, eqb}
use Rattle.std.proofs.Common.{sym, ap, ◌∙◌, subst, arith}
use Rattle.base_definitions.specs.Lists.{same_bytes}
use Rattle.store_block.specs.Entry.{Entry, entry}
use Rattle.store_layout.specs.Entries.{PutAnswer}
use Rattle.std.specs.Prelude.{Ok, Err}
use Rattle.store_layout.specs.declared.PutError.TheVariants.{Full, Unfit}
use Rattle.store_layout.specs.Store.{Good}
use Rattle.store_layout.specs.Entries.{put_answer, put_store}
use Rattle.store_layout.proofs.KeptLaws.{put-kept, put_same}
use Rattle.protocol.specs.StatusCode.{SUCCESS, VERSION_MISMATCH}
use Rattle.protocol.specs.State.{State}
use Rattle.protocol.specs.Command.{KeyValue}
use Rattle.protocol.specs.Judge.{fails, changed, entry_of, version_of, put_by, put}
use Rattle.operation_put.specs.declared.version.Version.{Version}
use Rattle.operation_put.specs.VersionFound.{version_found, version_fits}
use Rattle.operation_put.specs.VersionLaws.{version-fits}
use Rattle.operation_put.specs.PutCode.{put_code, Puts, Changed}

never : {A : Type 0} → ◌≡◌ {A = ℕ} 0 1 → A
never z = absurd (omega arith)

module _ (l : List ℕ) (e : Entry) where
  by_answer : (s : State) → s.store ≡ l → (a : PutAnswer) → a ≡ put_answer l e
      → put_by s e (put_answer l e) ≡ cond (eqb (put_code a) SUCCESS) (changed s (put_store l e)) (fails s (put_code a))
  by_answer s q (Ok tt) h = ap (put_by s e) (sym h) ∙ ap (λ (m : List ℕ). changed s (put_store m e)) q
  by_answer s q (Err Full) h = ap (put_by s e) (sym h)
  by_answer s q (Err Unfit) h = ap (put_by s e) (sym h)

  kept-room : (a : PutAnswer) → a ≡ put_answer l e → Good l → (eqb (put_code a) 1 ≡ false → put_store l e ≡ l) × Good (put_store l e)
  kept-room (Ok tt) q g = (λ z. never (cc), (put-kept l g e (sym q)).good)
  kept-room (Err Full) q g =
      let same : put_store l e ≡ l = put_same l g e (λ z. let w : ◌≡◌ {A = ℕ} 0 1 = cc in omega arith) in
      (λ z. same, subst (λ (m : List ℕ). Good m) (sym same) g)
  kept-room (Err Unfit) q g =
      let same : put_store l e ≡ l = put_same l g e (λ z. let w : ◌≡◌ {A = ℕ} 0 1 = cc in omega arith) in
      (λ z. same, subst (λ (m : List ℕ). Good m) (sym same) g)

module _ (v : List ℕ) {l key new old tag : List ℕ} {a : ℕ} {f : Bool} {k : KeyValue} (g : Good l) (p : Puts k key new old tag a f) where
  -- PUT of what the keyValue says, in a state with this store
  put-by : (s : State) → s.store ≡ l
      → put s k v ≡ cond (f || same_bytes old (version_of (entry_of s key))) (put_by s (entry key new tag v a) (put_answer l (entry key new tag v a))) (fails s VERSION_MISMATCH)
  put-by s q =
      λ i.
      cond (p.is_force i || same_bytes (p.is_old i) (version_of (entry_of s (p.is_key i))))
      (put_by s (entry (p.is_key i) (p.is_new i) (p.is_tag i) v (p.is_algorithm i)) (put_answer (q i) (entry (p.is_key i) (p.is_new i) (p.is_tag i) v (p.is_algorithm i))))
      (fails s VERSION_MISMATCH)

  module _ (w : Version) (h : (s : State) → s.store ≡ l → w ≡ version_found old (entry_of s key)) where
    tested : (t : Bool) → t ≡ version_fits w old f → (s : State) → s.store ≡ l → (f || same_bytes old (version_of (entry_of s key))) ≡ t
    tested t b s q = sym (b ∙ ap (λ (w : Version). version_fits w old f) (h s q) ∙ version-fits old f (entry_of s key))

    pub put_wrong : false ≡ version_fits w old f → Changed (λ s. put s k v) 8 l l
    put_wrong b =
        record {
          whole = λ s q. put-by s q ∙ ap (λ (t : Bool). cond t (put_by s (entry key new tag v a) (put_answer l (entry key new tag v a))) (fails s VERSION_MISMATCH)) (tested false b s q);
          kept = λ z. refl;
          good = g;
        }

    pub put_right : true ≡ version_fits w old f → (x : PutAnswer) → x ≡ put_answer l (entry key new tag v a) → {m : List ℕ} → m ≡ put_store l (entry key new tag v a)
        → {r : ℕ} → r ≡ put_code x → Changed (λ s. put s k v) r l m
    put_right b x y {m} n {r} c =
        let u = kept-room l (entry key new tag v a) x y g in
        let d : Changed (λ s. put s k v) (put_code x) l (put_store l (entry key new tag v a)) = record {
          whole = λ s q.
              put-by s q
              ∙ ap (λ (t : Bool). cond t (put_by s (entry key new tag v a) (put_answer l (entry key new tag v a))) (fails s VERSION_MISMATCH)) (tested true b s q)
              ∙ by_answer l (entry key new tag v a) s q x y;
          kept = u.0;
          good = u.1;
        } in
        subst (λ (r : ℕ). Changed (λ s. put s k v) r l m) (sym c) (subst (λ (m : List ℕ). Changed (λ s. put s k v) (put_code x) l m) (sym n) d)
