-- Nothing else changes.
use Rattle.std.specs.Prelude.{ℕ, ◌≡◌, refl, ◌⊎◌, true, List}
use Rattle.std.proofs.Common.{sym, ap, ◌∙◌, subst, inl, inr}
use Rattle.std.proofs.Math.Option.{none, some}
use Rattle.fields_schema.specs.Tree.{Tree}
use Rattle.fields_encoding.proofs.BasicLaws.{never}
use Rattle.std.specs.declared.cmp.Ordering.{Ordering}
use Rattle.std.specs.declared.cmp.Ordering.TheVariants.{Less, Equal, Greater}
use Rattle.store_block.specs.Order.{cmp}
use Rattle.store_block.specs.OrderLaws.{cmp-equal}
use Rattle.store_block.specs.Entry.{Entry}
use Rattle.store_layout.specs.Store.{Good, entries_of}
use Rattle.store_layout.proofs.CheckLaws.{store-decides}
use Rattle.store_layout.specs.Lookup.{under}
use Rattle.store_layout.proofs.LookupLaws.{put_under, remove-under}
use Rattle.store_layout.proofs.KeptLaws.{put-kept, put_same, delete-kept}
use Rattle.store_layout.specs.Entries.{by_order, put_answer, put_store, delete_store}
use Rattle.store_layout.specs.Entries.{PutAnswer}
use Rattle.std.specs.Prelude.{Ok, Err}
use Rattle.store_layout.specs.declared.PutError.TheVariants.{Full, Unfit}
use Rattle.protocol.specs.declared.Operation.{Operation}
use Rattle.protocol.specs.declared.Operation.TheVariants.{Put, Delete, Setup, Security}
use Rattle.protocol.specs.StatusCode.{SUCCESS}
use Rattle.protocol.specs.State.{State, entries, accepted, closing}
use Rattle.protocol.specs.Command.{Body, command_of}
use Rattle.protocol.specs.Frame.{frame_of, whole}
use Rattle.protocol.specs.Reading.{read}
use Rattle.protocol.specs.Judge.{ReplyBody, Result, judge}
use Rattle.protocol.specs.Answer.{answered, reading}
use Rattle.protocol.specs.Box.{box, answers}
use Rattle.protocol_guarantees.specs.Answered.{operation_in, Asks, Answered, Replies}
use Rattle.protocol_guarantees.specs.Later.{Without, only_reads, OnlySequence, Changes, Spared}
use Rattle.protocol_guarantees.specs.Cases as cases
use Rattle.protocol_guarantees.specs.Cases.{Effect, refuses, shows, puts, misses, deletes, sets, secures, Judged, before, after, obeyed, Left, closed, stayed}
use Rattle.protocol_guarantees.proofs.CasesLaws.{step10-effect, judge-cases, answered-left}
use Rattle.protocol_guarantees.proofs.AnsweredLaws.{came, result, one-operation}

-- what holds of a state holds after an answered call, if it holds closed, with a sequence accepted, and after step 10 of each command that may be obeyed
module _ (P : State → Type 0) (s : State) (xs : List ℕ) (shut : P (closing s)) (same : P s) (counted : (q : ℕ) → P (accepted s q))
    (obeys : (m v rest : List ℕ) (i : ℕ) (key : List ℕ) (t : Tree) → frame_of xs ≡ whole m v rest → reading box s m ≡ read i key t
    → (q : ℕ) (o : Operation) (x : Result) → Asks t o → Effect (accepted s q) (command_of t).body v o x → P x.state) where
  by_left : (s' : State) → Left s xs s' → P s'
  by_left s' closed = shut
  by_left s' stayed = same
  by_left s' (cases.judged m v rest i key t a d e p) = go (judge s a (command_of t) v) (judge-cases s a (command_of t) v)
    where
      go : (x : Result) → Judged s a (command_of t) v x → P x.state
      go x (before n k) = same
      go x (after {q = q} w n k) = counted q
      go y (obeyed {q = q} {x = x} w asked f p) =
          obeys m v rest i key t d e q x.operation _ (ap operation_in asked) (step10-effect (accepted s q) _ x.operation (command_of t).body v)

-- ---- the entry under a key

unequal : {X : Type 0} (k l : List ℕ) (a b : X) → (l ≡ k → ⊥) → by_order (cmp k l) a b a ≡ a
unfolding by_order
unequal k l a b n = go (cmp k l) refl
  where
    go : (o : Ordering) → cmp k l ≡ o → by_order o a b a ≡ a
    go Less e = refl
    go Equal e = absurd (n (sym (cmp-equal k l e)))
    go Greater e = refl

module _ (k l : List ℕ) (g : Good l) where
  put-spares : (e : Entry) → (e.key ≡ k → ⊥) → under k (entries_of (put_store l e)) ≡ under k (entries_of l)
  put-spares e n = go (put_answer l e) refl
    where
      go : (a : PutAnswer) → put_answer l e ≡ a → under k (entries_of (put_store l e)) ≡ under k (entries_of l)
      go (Ok tt) q = ap (under k) (put-kept l g e q).entries ∙ put_under k e (entries_of l) ∙ unequal k e.key (under k (entries_of l)) (some e) n
      go (Err Full) q = ap (λ l. under k (entries_of l)) (put_same l g e (λ z. never (cc)))
      go (Err Unfit) q = ap (λ l. under k (entries_of l)) (put_same l g e (λ z. never (cc)))

  delete-spares : (d : List ℕ) → (d ≡ k → ⊥) → under k (entries_of (delete_store l d)) ≡ under k (entries_of l)
  delete-spares d n = ap (under k) (delete-kept l g d).entries ∙ remove-under k d (entries_of l) g.sorted ∙ unequal k d (under k (entries_of l)) none n

effect-spares : (k : List ℕ) (s : State) (t : Tree) (v : List ℕ) → Good s.store → (Changes k t → ⊥) → (o : Operation) (x : Result) → Asks t o
    → Effect s (command_of t).body v o x → under k (entries_of x.state.store) ≡ under k (entries s)
effect-spares k s t v g n o x asks (refuses c) = refl
effect-spares k s t v g n o x asks (shows c) = refl
effect-spares k s t v g n o x asks (puts r f) = put-spares k s.store g _ (λ e. n (inl asks, e))
effect-spares k s t v g n o x asks (misses c) = refl
effect-spares k s t v g n o x asks deletes = delete-spares k s.store g _ (λ e. n (inr asks, e))
effect-spares k s t v g n o x asks (sets w) = refl
effect-spares k s t v g n o x asks secures = refl

-- ONLY A PUT OR A DELETE OF A KEY changes its entry, whatever the bytes of a call
pub entry-stays : (k : List ℕ) (s : State) (room : ℕ) (xs r : List ℕ) (s' : State) (n : ℕ) → answers s room xs ≡ answered r s' n → Without (Changes k) s xs
    → under k (entries s') ≡ under k (entries s)
entry-stays k s room xs r s' n e w =
    let u = answered-left s xs room r s' n e in
    let g = (store-decides s.store).yes u.0 in
    by_left (λ x. under k (entries x) ≡ under k (entries s)) s xs refl refl (λ q. refl)
    (λ m v rest i key t d p q o x asks f. effect-spares k (accepted s q) t v g (w m v rest i key t d p) o x asks f) s' u.2

pub spared-stays : (k : List ℕ) {s s' : State} → Spared k s s' → under k (entries s') ≡ under k (entries s)
spared-stays k Spared.now = refl
spared-stays k (Spared.call {s' = s'} room xs r s'' n l w e) = entry-stays k s' room xs r s'' n e w ∙ spared-stays k l
spared-stays k (Spared.elsewhere s'' l e) = ap (λ x. under k (entries_of x)) e ∙ spared-stays k l

-- ---- the bytes of the store and of the record

effect-store : (s : State) (t : Tree) (v : List ℕ) → (Asks t Put ⊎ Asks t Delete → ⊥) → (o : Operation) (x : Result) → Asks t o
    → Effect s (command_of t).body v o x → x.state.store ≡ s.store
effect-store s t v n o x asks (refuses c) = refl
effect-store s t v n o x asks (shows c) = refl
effect-store s t v n o x asks (puts r f) = absurd (n (inl asks))
effect-store s t v n o x asks (misses c) = refl
effect-store s t v n o x asks deletes = absurd (n (inr asks))
effect-store s t v n o x asks (sets w) = refl
effect-store s t v n o x asks secures = refl

effect-record : (s : State) (t : Tree) (v : List ℕ) → (Asks t Setup ⊎ Asks t Security → ⊥) → (o : Operation) (x : Result) → Asks t o
    → Effect s (command_of t).body v o x → x.state.device ≡ s.device
effect-record s t v n o x asks (refuses c) = refl
effect-record s t v n o x asks (shows c) = refl
effect-record s t v n o x asks (puts r f) = refl
effect-record s t v n o x asks (misses c) = refl
effect-record s t v n o x asks deletes = refl
effect-record s t v n o x asks (sets w) = absurd (n (inl asks))
effect-record s t v n o x asks secures = absurd (n (inr asks))

-- ONLY PUT AND DELETE change a byte of the store
pub store-stays : (s : State) (room : ℕ) (xs r : List ℕ) (s' : State) (n : ℕ) → answers s room xs ≡ answered r s' n → Without (λ t. Asks t Put ⊎ Asks t Delete) s xs
    → s'.store ≡ s.store
store-stays s room xs r s' n e w =
    by_left (λ x. x.store ≡ s.store) s xs refl refl (λ q. refl)
    (λ m v rest i key t d p q o x asks f. effect-store (accepted s q) t v (w m v rest i key t d p) o x asks f) s' (answered-left s xs room r s' n e).2

-- ONLY SETUP AND SECURITY change a byte of the record
pub record-stays : (s : State) (room : ℕ) (xs r : List ℕ) (s' : State) (n : ℕ) → answers s room xs ≡ answered r s' n → Without (λ t. Asks t Setup ⊎ Asks t Security) s xs
    → s'.device ≡ s.device
record-stays s room xs r s' n e w =
    by_left (λ x. x.device ≡ s.device) s xs refl refl (λ q. refl)
    (λ m v rest i key t d p q o x asks f. effect-record (accepted s q) t v (w m v rest i key t d p) o x asks f) s' (answered-left s xs room r s' n e).2

-- WITHOUT A RIGHTLY SIGNED MESSAGE THAT DECODES nothing changes, but that the connection may be closed
pub unsigned-stays : (s : State) (room : ℕ) (xs r : List ℕ) (s' : State) (n : ℕ) → answers s room xs ≡ answered r s' n → Without (λ t. Unit {0}) s xs
    → (s' ≡ s) ⊎ (s' ≡ closing s)
unsigned-stays s room xs r s' n e w = go s' (answered-left s xs room r s' n e).2
  where
    go : (s' : State) → Left s xs s' → (s' ≡ s) ⊎ (s' ≡ closing s)
    go s' closed = inr refl
    go s' stayed = inl refl
    go s' (cases.judged m v rest i key t a d q p) = absurd (w m v rest i key t d q tt)

-- ---- failures and reads

effect-fails : (s : State) (b : Body) (v : List ℕ) (o : Operation) (x : Result) → (x.code ≡ SUCCESS → ⊥) → Effect s b v o x → x.state ≡ s
effect-fails s b v o x n (refuses c) = refl
effect-fails s b v o x n (shows c) = refl
effect-fails s b v o x n (puts r f) = absurd (n refl)
effect-fails s b v o x n (misses c) = absurd (n refl)
effect-fails s b v o x n deletes = absurd (n refl)
effect-fails s b v o x n (sets w) = absurd (n refl)
effect-fails s b v o x n secures = absurd (n refl)

effect-reads : (s : State) (b : Body) (v : List ℕ) (o : Operation) (x : Result) → only_reads o ≡ true → Effect s b v o x → x.state ≡ s
effect-reads s b v o x n (refuses c) = refl
effect-reads s b v o x n (shows c) = refl
effect-reads s b v o x n (puts r f) = never (cc)
effect-reads s b v o x n (misses c) = never (cc)
effect-reads s b v o x n deletes = never (cc)
effect-reads s b v o x n (sets w) = never (cc)
effect-reads s b v o x n secures = never (cc)

-- A FAILURE changes nothing but the sequence
pub failure-stays : {s : State} {t : Tree} {v r : List ℕ} {s' : State} → Answered s t v r s' → {code : ℕ} {b : ReplyBody} {x : List ℕ} → Replies r code b x
    → (code ≡ SUCCESS → ⊥) → OnlySequence s s'
failure-stays {s} {t} {v} a h n =
    subst (OnlySequence s) (came a).state (go (judge s (came a).acl (command_of t) v) (judge-cases s (came a).acl (command_of t) v) (λ e. n (sym (result a h) ∙ e)))
  where
    go : (x : Result) → Judged s (came a).acl (command_of t) v x → (x.code ≡ SUCCESS → ⊥) → OnlySequence s x.state
    go x (before c k) z = inl refl
    go x (after {q = q} w c k) z = inr (q, refl)
    go y (obeyed {q = q} {x = x} w e f p) z =
        inr (q, effect-fails (accepted s q) (command_of t).body v x.operation _ z (step10-effect (accepted s q) _ x.operation (command_of t).body v))

-- NOOP, FLUSHALLDATA AND A READ change nothing but the sequence, whatever comes of them
pub reading-stays : {s : State} {t : Tree} {v r : List ℕ} {s' : State} → Answered s t v r s' → (o : Operation) → Asks t o → only_reads o ≡ true → OnlySequence s s'
reading-stays {s} {t} {v} a o asks n =
    subst (OnlySequence s) (came a).state (go (judge s (came a).acl (command_of t) v) (judge-cases s (came a).acl (command_of t) v))
  where
    go : (x : Result) → Judged s (came a).acl (command_of t) v x → OnlySequence s x.state
    go x (before c k) = inl refl
    go x (after {q = q} w c k) = inr (q, refl)
    go y (obeyed {q = q} {x = x} w e f m) =
        inr (q, effect-reads (accepted s q) (command_of t).body v x.operation _ (ap only_reads (one-operation e asks) ∙ n) (step10-effect (accepted s q) _ x.operation (command_of t).body v))
