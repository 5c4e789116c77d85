-- PUT: "else VERSION_MISMATCH (8). A new key that passes this, with no blank block: NO_SPACE (14), and only then": the version is judged first,
-- whatever room there is; SUCCESS is said exactly where the store takes the entry; and the entry of a command that passes step 8 fits a block.
use Rattle.std.specs.Prelude.{◌≡◌, refl, Bool, true, false, not, cond, ◌&&◌, List, ℕ, ◌≤◌, leb, length}
use Rattle.std.proofs.Common.{ap, arith, leb-true}
use Rattle.std.proofs.Math.Option.{Option, none, some}
use Rattle.base_definitions.specs.Lists.{within}
use Rattle.base_definitions.specs.Options.{or_else}
use Rattle.fields_schema.specs.Tree.{Tree}
use Rattle.fields_encoding.proofs.BasicLaws.{never}
use Rattle.access_record.proofs.TableLaws.{both-fst, both-snd, within_low, within-high}
use Rattle.store_block.specs.Entry.{Fit}
use Rattle.store_layout.specs.Entries.{PutAnswer}
use Rattle.std.specs.Prelude.{Ok, Err}
use Rattle.store_layout.specs.declared.PutError.TheVariants.{Full, Unfit}
use Rattle.store_layout.specs.Entries.{has_room, put_answer}
use Rattle.store_layout.proofs.KeptLaws.{fit-answer}
use Rattle.protocol.specs.StatusCode.{VERSION_MISMATCH, NO_SPACE}
use Rattle.protocol.specs.declared.Operation.TheVariants.{Put}
use Rattle.protocol.specs.State.{State}
use Rattle.protocol.specs.Command.{KeyValue, Body, command_of}
use Rattle.protocol.specs.Reading.{decodes}
use Rattle.protocol.specs.Judge.{fails, present, key_value_good, change_good, broken, fault, no_key_value, key_value_in, entry_of, version_right, new_entry, put_by, put}
use Rattle.protocol.proofs.AlgorithmLaws.{algorithm-most}

-- ---- which code is said when

module _ (s : State) (k : KeyValue) (v : List ℕ) where
  pub mismatch-first : version_right k (entry_of s k.key) ≡ false → put s k v ≡ fails s VERSION_MISMATCH
  mismatch-first e = ap (λ (t : Bool). cond t (put_by s (new_entry k v) (put_answer s.store (new_entry k v))) (fails s VERSION_MISMATCH)) e

  pub by-store : version_right k (entry_of s k.key) ≡ true → put s k v ≡ put_by s (new_entry k v) (put_answer s.store (new_entry k v))
  by-store e = ap (λ (t : Bool). cond t (put_by s (new_entry k v) (put_answer s.store (new_entry k v))) (fails s VERSION_MISMATCH)) e

  -- SUCCESS only where the store takes the entry
  pub success-stored : (put s k v).code ≡ 1 → put_answer s.store (new_entry k v) ≡ Ok tt
  success-stored e = go (version_right k (entry_of s k.key)) (put_answer s.store (new_entry k v)) refl e
    where
      go : (t : Bool) (r : PutAnswer) → put_answer s.store (new_entry k v) ≡ r → (cond t (put_by s (new_entry k v) r) (fails s VERSION_MISMATCH)).code ≡ 1
          → put_answer s.store (new_entry k v) ≡ Ok tt
      go true (Ok tt) q e = q
      go true (Err Full) q e = absurd (omega arith)
      go true (Err Unfit) q e = absurd (omega arith)
      go false r q e = absurd (omega arith)

  -- NO_SPACE "only then"
  pub no-space-full : (put s k v).code ≡ NO_SPACE → put_answer s.store (new_entry k v) ≡ Err Full
  no-space-full e = go (version_right k (entry_of s k.key)) (put_answer s.store (new_entry k v)) refl e
    where
      go : (t : Bool) (r : PutAnswer) → put_answer s.store (new_entry k v) ≡ r → (cond t (put_by s (new_entry k v) r) (fails s VERSION_MISMATCH)).code ≡ NO_SPACE
          → put_answer s.store (new_entry k v) ≡ Err Full
      go true (Ok tt) q e = absurd (omega arith)
      go true (Err Full) q e = q
      go true (Err Unfit) q e = absurd (omega arith)
      go false r q e = absurd (omega arith)

-- ---- what passes step 8 fits

pub put-fits : (k : KeyValue) (v : List ℕ) → key_value_good k ≡ true → length v ≤ 384 → k.algorithm ≤ 6 → Fit (new_entry k v)
unfolding key_value_good
put-fits k v e h a =
    let n : Bool = leb (length k.new_version) 16 in
    let o : Bool = leb (length k.db_version) 16 in
    let t : Bool = leb (length k.tag) 32 in
    let w = both-fst (within 1 64 (length k.key)) (n && (o && t)) e in
    let r = both-snd (within 1 64 (length k.key)) (n && (o && t)) e in
    record {
      key_some = within_low 1 64 (length k.key) w;
      key_fits = within-high 1 64 (length k.key) w;
      version_fits = leb-true (length k.new_version) 16 (both-fst n (o && t) r);
      tag_fits = leb-true (length k.tag) 32 (both-snd o t (both-snd n (o && t) r));
      value_fits = h;
      algorithm_fits = a;
    }

good : (t : Bool) → broken t ≡ 0 → t ≡ true
good true e = refl
good false e = absurd (omega arith)

there : (v : List ℕ) (o : Option KeyValue) → (leb (length v) 384 && present change_good o) ≡ true → (or_else no_key_value o).algorithm ≤ 6 → Fit (new_entry (or_else no_key_value o) v)
there v none e a = let f = both-snd (leb (length v) 384) false e in never (cc)
there v (some k) e a =
    let g = both-snd (leb (length v) 384) (change_good k) e in
    put-fits k v (both-fst (key_value_good k) (not k.metadata_only) g) (leb-true (length v) 384 (both-fst (leb (length v) 384) (change_good k) e)) a

passed : (b : Body) (v : List ℕ) → fault Put b v ≡ 0 → (key_value_in b).algorithm ≤ 6 → Fit (new_entry (key_value_in b) v)
passed b v e a = there v b.key_value (good (leb (length v) 384 && present change_good b.key_value) e) a

-- THE ENTRY OF A COMMAND THAT DECODES AND PASSES STEP 8 FITS: the store takes it where there is room, and NO_SPACE is said elsewhere
pub fits-or-full : (m : List ℕ) {t : Tree} (l v : List ℕ) → decodes m ≡ some t → fault Put (command_of t).body v ≡ 0
    → put_answer l (new_entry (key_value_in (command_of t).body) v) ≡ cond (has_room l (new_entry (key_value_in (command_of t).body) v)) (Ok tt) (Err Full)
fits-or-full m {t} l v d e =
    fit-answer l (new_entry (key_value_in (command_of t).body) v) (passed (command_of t).body v e (algorithm-most m d))
