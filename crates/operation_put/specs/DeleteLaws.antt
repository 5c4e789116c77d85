-- Laws of DELETE.
use Rattle.std.specs.Prelude.{◌≡◌, refl, Bool, true, false, cond, ◌||◌, List, ℕ, eqb, Result, Ok, Err}
use Rattle.std.proofs.Common.{sym, ap, ◌∙◌, subst, eq-eqb, ne_eqb}
use Rattle.std.proofs.Math.Option.{Option, none, some}
use Rattle.base_definitions.specs.Lists.{same_bytes}
use Rattle.store_block.specs.Entry.{Entry}
use Rattle.store_layout.specs.Store.{entries_of, Good}
use Rattle.store_layout.specs.Entries.{find_in, delete_store}
use Rattle.store_layout.proofs.KeptLaws.{delete-kept}
use Rattle.store_write.specs.ChangeLaws.{kept}
use Rattle.fields_encoding.proofs.BasicLaws.{never}
use Rattle.protocol.specs.StatusCode.{SUCCESS, NOT_FOUND, VERSION_MISMATCH}
use Rattle.protocol.specs.State.{State}
use Rattle.protocol.specs.Command.{KeyValue}
use Rattle.protocol.specs.Judge.{fails, changed, entry_at, entry_of, delete_by}
use Rattle.operation_put.specs.declared.version.Version.{Version}
use Rattle.operation_put.specs.declared.version.Version.TheVariants.{Same, Other, Absent}
use Rattle.operation_put.specs.VersionFound.{version_found}
use Rattle.operation_put.specs.PutCode.{Changed}
use Rattle.operation_put.specs.DeleteCode.{delete_code, Deletes}

module _ {l key old : List ℕ} {f : Bool} {k : KeyValue} (g : Good l) (p : Deletes k key old f) where
  -- a key that is missing leaves every byte
  missing : (s : State) → s.store ≡ l → entry_of s key ≡ none → delete_store l key ≡ l
  missing s q n = go (find_in key (entries_of l)) refl (sym (ap (λ (m : List ℕ). entry_at s (find_in key (entries_of m))) q) ∙ n)
    where
      go : (o : Result ℕ ℕ) → find_in key (entries_of l) ≡ o → entry_at s (find_in key (entries_of l)) ≡ none → delete_store l key ≡ l
      go (Ok i) e z = never (let y = sym (ap (entry_at s) e) ∙ z in cc)
      go (Err i) e z = sym (kept l g key i (sym e)).1

  delete-as : (s : State) → s.store ≡ l → (o : Option Entry)
      → delete_by s k o ≡ delete_by s (record { new_version = k.new_version; key = key; db_version = old; tag = k.tag; algorithm = k.algorithm; metadata_only = k.metadata_only; force = f }) o
  delete-as s q o =
      λ i. delete_by s (record { new_version = k.new_version; key = p.is_key i; db_version = p.is_old i; tag = k.tag; algorithm = k.algorithm; metadata_only = k.metadata_only; force = p.is_force i }) o

  -- DELETE by how the version stands
  delete-by : (s : State) → s.store ≡ l → (o : Option Entry) → (o ≡ none → delete_store l key ≡ l)
      → delete_by s (record { new_version = k.new_version; key = key; db_version = old; tag = k.tag; algorithm = k.algorithm; metadata_only = k.metadata_only; force = f }) o
      ≡ cond (eqb (delete_code (version_found old o) f) SUCCESS) (changed s (delete_store l key)) (fails s (delete_code (version_found old o) f))
  delete-by s q none n = go f
    where
      go : (f : Bool) → cond f (changed s s.store) (fails s NOT_FOUND) ≡ cond (eqb (delete_code Absent f) SUCCESS) (changed s (delete_store l key)) (fails s (delete_code Absent f))
      go true = ap (changed s) (q ∙ sym (n refl))
      go false = refl
  delete-by s q (some e) n = go f (same_bytes old e.version)
    where
      go : (f b : Bool)
          → cond (f || b) (changed s (delete_store s.store key)) (fails s VERSION_MISMATCH)
          ≡ cond (eqb (delete_code (cond b Same Other) f) SUCCESS) (changed s (delete_store l key)) (fails s (delete_code (cond b Same Other) f))
      go true b = ap (λ (m : List ℕ). changed s (delete_store m key)) q
      go false true = ap (λ (m : List ℕ). changed s (delete_store m key)) q
      go false false = refl

  module _ (w : Version) (h : (s : State) → s.store ≡ l → w ≡ version_found old (entry_of s key)) (c : ℕ) (d : c ≡ delete_code w f) where
    delete-whole : (s : State) → s.store ≡ l → delete_by s k (entry_of s k.key) ≡ cond (eqb c SUCCESS) (changed s (delete_store l key)) (fails s c)
    delete-whole s q =
        ap (λ (x : List ℕ). delete_by s k (entry_of s x)) p.is_key
        ∙ delete-as s q (entry_of s key)
        ∙ delete-by s q (entry_of s key) (missing s q)
        ∙ ap (λ (c : ℕ). cond (eqb c SUCCESS) (changed s (delete_store l key)) (fails s c)) (ap (λ (w : Version). delete_code w f) (sym (h s q)) ∙ sym d)

    pub delete-wrong : (c ≡ SUCCESS → ⊥) → Changed (λ s. delete_by s k (entry_of s k.key)) c l l
    delete-wrong n =
        record {
          whole = λ s q. delete-whole s q ∙ ap (λ (t : Bool). cond t (changed s (delete_store l key)) (fails s c)) (ne_eqb c SUCCESS n) ∙ sym (ap (λ (t : Bool). cond t (changed s l) (fails s c)) (ne_eqb c SUCCESS n));
          kept = λ z. refl;
          good = g;
        }

    pub delete-right : c ≡ SUCCESS → {m : List ℕ} → m ≡ delete_store l key → Changed (λ s. delete_by s k (entry_of s k.key)) SUCCESS l m
    delete-right n {m} y =
        subst (λ (m : List ℕ). Changed (λ s. delete_by s k (entry_of s k.key)) SUCCESS l m) (sym y)
        (record {
          whole = λ s q. delete-whole s q ∙ ap (λ (t : Bool). cond t (changed s (delete_store l key)) (fails s c)) (eq-eqb c SUCCESS n);
          kept = λ z. never (cc);
          good = (delete-kept l g key).good;
        })
