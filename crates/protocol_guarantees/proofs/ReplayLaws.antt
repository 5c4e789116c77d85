-- A message is never obeyed twice, and a closed connection stays closed.
use Rattle.std.specs.Prelude.{ℕ, ◌+◌, ◌^◌, ◌<◌, ◌≡◌, refl, ◌⊎◌, Bool, true, false, cond, List, [], ℤ, pos, negsuc, length}
use Rattle.std.proofs.Common.{arith, sym, ap, ◌∙◌, subst, inl, inr, ltb-true, ltb-false, le-ltb}
use Rattle.std.proofs.Math.Option.{Option, none, some}
use Rattle.std.specs.Int.Signed.{lt_z}
use Rattle.fields_schema.specs.Tree.{Tree}
use Rattle.fields_encoding.proofs.BasicLaws.{never}
use Rattle.base_integers.specs.Signed.{signed_of}
use Rattle.base_definitions.specs.Lists.{same_bytes}
use Rattle.signature_hmac.specs.Hmac.{hmac}
use Rattle.protocol.specs.declared.Operation.{Operation}
use Rattle.protocol.specs.StatusCode.{SUCCESS}
use Rattle.protocol.specs.State as state
use Rattle.protocol.specs.State.{State, with_closed, with_sequence, accepted}
use Rattle.protocol.specs.Command.{Body, command_of}
use Rattle.protocol.specs.Frame.{frame_of, whole}
use Rattle.protocol.specs.Reading as reads
use Rattle.protocol.specs.Reading.{envelope, read_message, read, decodes, decoded, verified, opened, reading_by}
use Rattle.protocol.specs.Judge.{ReplyBody, bare, Result, above, above_last, judge}
use Rattle.protocol.specs.Passes.{Passes}
use Rattle.protocol.proofs.AcceptedLaws.{counted, not-above-self}
use Rattle.protocol.specs.Reply.{closing_with, closing_reply, closing_command, reply_tree}
use Rattle.protocol.specs.Answer.{answered, taking, reading, respond}
use Rattle.protocol.specs.Box.{box, answers, message_in, reply_to}
use Rattle.protocol.specs.Readable.{SaysReply}
use Rattle.protocol.proofs.ReadBackLaws.{reply-says}
use Rattle.protocol.specs.FirstSteps.{FirstSteps}
use Rattle.protocol.proofs.FirstStepsLaws.{steps-passed, steps-open, steps-decoded}
use Rattle.protocol_guarantees.specs.Answered.{Answered, Replies}
use Rattle.protocol_guarantees.specs.Later.{Later}
use Rattle.protocol_guarantees.specs.Cases as cases
use Rattle.protocol_guarantees.specs.Cases.{Effect, refuses, shows, puts, misses, deletes, sets, secures, Judged, before, after, obeyed, Left, closed, stayed}
use Rattle.protocol_guarantees.proofs.CasesLaws.{step10-effect, judge-cases, answered-left, answered-whole, not-closed}
use Rattle.protocol_guarantees.proofs.AnsweredLaws.{one-reply, came, result}

-- ---- the connection after an answered call

data Next (c : state.Connection) : state.Connection → Type 0 where
  same : Next c c
  shut : Next c (with_closed c)
  heard : (q : ℕ) → above_last q c.last ≡ true → Next c (with_sequence c q)

effect-connection : (s : State) (b : Body) (v : List ℕ) (o : Operation) (x : Result) → Effect s b v o x → x.state.connection ≡ s.connection
effect-connection s b v o x (refuses n) = refl
effect-connection s b v o x (shows n) = refl
effect-connection s b v o x (puts r f) = refl
effect-connection s b v o x (misses n) = refl
effect-connection s b v o x deletes = refl
effect-connection s b v o x (sets w) = refl
effect-connection s b v o x secures = refl

left-connection : (s : State) (xs : List ℕ) (s' : State) → Left s xs s' → Next s.connection s'.connection
left-connection s xs s' closed = shut
left-connection s xs s' stayed = same
left-connection s xs s' (cases.judged m v rest i key t a d e p) = go (judge s a (command_of t) v) (judge-cases s a (command_of t) v)
  where
    go : (x : Result) → Judged s a (command_of t) v x → Next s.connection x.state.connection
    go x (before n k) = same
    go x (after {q = q} w n k) = heard q w.later
    go y (obeyed {q = q} {x = x} w e f m) =
        subst (Next s.connection)
        (sym (effect-connection (accepted s q) (command_of t).body v x.operation _ (step10-effect (accepted s q) _ x.operation (command_of t).body v)))
        (heard q w.later)

next : (s : State) (room : ℕ) (xs r : List ℕ) (s' : State) (n : ℕ) → answers s room xs ≡ answered r s' n → Next s.connection s'.connection
next s room xs r s' n e = left-connection s xs s' (answered-left s xs room r s' n e).2

-- its number
next-number : (c d : state.Connection) → Next c d → d.number ≡ c.number
next-number c d same = refl
next-number c d shut = refl
next-number c d (heard q l) = refl

later-number : {s s' : State} → Later s s' → s'.connection.number ≡ s.connection.number
later-number Later.now = refl
later-number (Later.call {s' = s'} room xs r s'' n l e) = next-number s'.connection s''.connection (next s' room xs r s'' n e) ∙ later-number l
later-number (Later.elsewhere s'' l e) = ap (λ (c : state.Connection). c.number) e ∙ later-number l

-- ---- a sequence that is not above the last accepted stays so

abbrev Past : ℕ → state.Connection → Type 0
Past q c = above_last q c.last ≡ false

lt-past : (x l z : ℤ) → lt_z l x ≡ false → lt_z l z ≡ true → lt_z z x ≡ false
lt-past (pos x) (pos l) (pos z) e f = le-ltb z x (omega (arith, ltb-false l x e, ltb-true l z f))
lt-past (pos x) (pos l) (negsuc z) e f = never (cc)
lt-past (pos x) (negsuc l) z e f = never (cc)
lt-past (negsuc x) l (pos z) e f = refl
lt-past (negsuc x) (pos l) (negsuc z) e f = never (cc)
lt-past (negsuc x) (negsuc l) (negsuc z) e f = le-ltb x z (omega (arith, ltb-false x l e, ltb-true z l f))

above-past : (q l p : ℕ) → above q l ≡ false → above p l ≡ true → above q p ≡ false
unfolding above
above-past q l p e f = lt-past (signed_of q) (signed_of l) (signed_of p) e f

past-heard : (q p : ℕ) (o : Option ℕ) → above_last q o ≡ false → above_last p o ≡ true → above_last q (some p) ≡ false
past-heard q p none e f = never (cc)
past-heard q p (some l) e f = above-past q l p e f

next_past : (q : ℕ) (c d : state.Connection) → Past q c → Next c d → Past q d
next_past q c d h same = h
next_past q c d h shut = h
next_past q c d h (heard p l) = past-heard q p c.last h l

later-past : (q : ℕ) {s s' : State} → Past q s.connection → Later s s' → Past q s'.connection
later-past q h Later.now = h
later-past q h (Later.call {s' = s'} room xs r s'' n l e) = next_past q s'.connection s''.connection (later-past q h l) (next s' room xs r s'' n e)
later-past q h (Later.elsewhere s'' l e) = ap (λ (c : state.Connection). above_last q c.last) e ∙ later-past q h l

-- ---- the same message again

-- it is the same command still, or its identity has no key that makes its hmac right
abbrev Again : ℕ → Tree → reads.Reading → Type 0
Again i t d = (d ≡ reads.closing 2) ⊎ ((key : List ℕ) × (d ≡ read i key t))

again : (key_of : ℕ → Option (List ℕ)) (m : List ℕ) {i : ℕ} {t : Tree} (sig c : List ℕ) → read_message m ≡ some (envelope i sig c) → decodes c ≡ some t
    → Again i t (reading_by hmac key_of m)
unfolding reading_by
again key_of m {i} {t} sig c e says = subst (Again i t) (sym (ap (opened hmac key_of) e)) (go (key_of i))
  where
    tested : (key' : List ℕ) (b : Bool) → Again i t (cond b (decoded i key' (decodes c)) (reads.closing 2))
    tested key' true = inr (key', ap (decoded i key') says)
    tested key' false = inl refl

    go : (o : Option (List ℕ)) → Again i t (verified hmac key_of i sig c o)
    go none = inl refl
    go (some key') = tested key' (same_bytes sig (hmac key' c))

-- a message with HMAC_FAILURE: the connection is closed, and the reply says so
module _ (s : State) (room : ℕ) (xs m v rest r : List ℕ) (s' : State) (n : ℕ) (d : frame_of xs ≡ whole m v rest) (e : answers s room xs ≡ answered r s' n)
    (wrong : reading box s m ≡ reads.closing 2) where
  closes-it : s' ≡ state.closing s
  closes-it =
      let k = 9 + length m + length v in
      let w : answered (closing_reply s.connection.number 2) (state.closing s) k ≡ answered r s' n =
      sym (ap (λ x. taking k (respond box s v x)) wrong) ∙ (answered-whole s room xs m v rest r s' n d e).2 in
      let z : state.closing s ≡ s' = cc in
      sym z

  says_so : s.connection.number < 2 ^ 64 → Replies r 2 bare []
  says_so word =
      let x = reply-says s room xs r s' n word e in
      let w : some (closing_with s.connection.number 2) ≡ some x.message =
      sym (ap (λ y. some (message_in (respond box s v y))) wrong) ∙ sym (ap (reply_to s) d) ∙ x.is in
      let z : closing_with s.connection.number 2 ≡ x.message = cc in
      record {
        message = reply_tree (closing_with s.connection.number 2);
        command = closing_command s.connection.number 2;
        says = subst (SaysReply r) (sym z) x.says;
        code_read = refl;
        body_read = refl;
      }

-- A MESSAGE IS NEVER OBEYED TWICE: sent again on its connection after its sequence was accepted, with whatever value part and whatever came between, it changes
-- nothing (but closes the connection, if its hmac is no longer right), and the reply is not SUCCESS
pub never-obeyed-twice : {s s' s₂ s₃ : State} {t : Tree} {v r : List ℕ} {q : ℕ} (a : Answered s t v r s') → Passes s (command_of t) q
    → Later s' s₂
    → (room : ℕ) (xs v' rest r' : List ℕ) (n : ℕ) → frame_of xs ≡ whole a.message v' rest → answers s₂ room xs ≡ answered r' s₃ n
    → ((s₃ ≡ s₂) ⊎ (s₃ ≡ state.closing s₂)) × ((b : ReplyBody) (x : List ℕ) → Replies r' SUCCESS b x → ⊥)
never-obeyed-twice {s} {s'} {s₂} {s₃} {t} {v} {r} {q} a h l room xs v' rest r' n d e =
    go (again (box.key_of s₂) a.message (hmac a.key p.command_bytes) p.command_bytes (steps-open box s a.message p) (steps-decoded box s a.message p))
  where
    p : FirstSteps box s a.message a.identity a.key t
    p = steps-passed box s a.message a.reads

    left : s'.connection ≡ with_sequence s.connection q
    left = ap (λ s. s.connection) (sym (came a).state) ∙ counted s (came a).acl (command_of t) v q h

    word : s₂.connection.number < 2 ^ 64
    word = omega (arith, a.word, later-number l, ap (λ (c : state.Connection). c.number) left)

    past : Past q s₂.connection
    past = later-past q (ap (λ (c : state.Connection). above_last q c.last) left ∙ not-above-self q) l

    stops : {A : Type 0} (p : ℕ) → Passes s₂ (command_of t) p → A
    stops p k =
        let f : some h.header ≡ some k.header = sym h.there ∙ k.there in
        let g : h.header ≡ k.header = cc in
        let i : some q ≡ some p = sym h.sequence ∙ ap (λ h. h.sequence) g ∙ k.sequence in
        let j : q ≡ p = cc in
        let z : false ≡ true = sym past ∙ ap (λ p. above_last p s₂.connection.last) j ∙ k.later in
        never (cc)

    judged : (b : Answered s₂ t v' r' s₃) (x : Result) → Judged s₂ (came b).acl (command_of t) v' x → (x.state ≡ s₂) × (x.code ≡ SUCCESS → ⊥)
    judged b x (before n k) = (refl, n)
    judged b x (after {q = p} w n k) = stops p w
    judged b x (obeyed {q = p} w e f m) = stops p w

    go : Again a.identity t (reading box s₂ a.message) → ((s₃ ≡ s₂) ⊎ (s₃ ≡ state.closing s₂)) × ((b : ReplyBody) (x : List ℕ) → Replies r' SUCCESS b x → ⊥)
    go (inl z) = (
      inr (closes-it s₂ room xs a.message v' rest r' s₃ n d e z),
      λ b x ok. omega (arith, (one-reply (says_so s₂ room xs a.message v' rest r' s₃ n d e z word) ok).0),
    )
    go (inr (key, z)) =
        let b : Answered s₂ t v' r' s₃ =
        record {
          room = room;
          input = xs;
          message = a.message;
          rest = rest;
          taken = n;
          identity = a.identity;
          key = key;
          word = word;
          framed = d;
          reads = z;
          answer = e;
        } in
        let j = judged b (judge s₂ (came b).acl (command_of t) v') (judge-cases s₂ (came b).acl (command_of t) v') in
        (inl (sym (came b).state ∙ j.0), λ y x ok. j.1 (result b ok))

-- A CLOSED CONNECTION STAYS CLOSED: no call on it is answered, whatever comes
pub closed-stays : {s s' : State} → s.connection.closed ≡ true → Later s s'
    → (s'.connection.closed ≡ true) × ((room : ℕ) (xs r : List ℕ) (s'' : State) (n : ℕ) → answers s' room xs ≡ answered r s'' n → ⊥)
closed-stays {s} {s'} h l = (still l, λ room xs r s'' n e. never (let z : true ≡ false = sym (still l) ∙ not-closed s' room xs r s'' n e in cc))
  where
    still : {s' : State} → Later s s' → s'.connection.closed ≡ true
    still Later.now = h
    still (Later.call {s' = s'} room xs r s'' n l e) = never (let z : true ≡ false = sym (still l) ∙ not-closed s' room xs r s'' n e in cc)
    still (Later.elsewhere s'' l e) = ap (λ (c : state.Connection). c.closed) e ∙ still l
