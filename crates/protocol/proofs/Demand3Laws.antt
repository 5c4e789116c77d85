-- Demand 3 for the box: the two theorems, with the second one's reply spelled out.
use Rattle.std.specs.Prelude.{ℕ, suc, ◌-◌, ◌≡◌, List, [], ◌++◌, length}
use Rattle.fields_schema.specs.Tree.{Tree}
use Rattle.fields_encoding.specs.Encode.{int_o}
use Rattle.protocol.specs.Frame.{frame, Fits}
use Rattle.protocol.specs.Reading.{undecodable, read}
use Rattle.protocol.specs.State.{State}
use Rattle.protocol.specs.Answer.{answered, reading}
use Rattle.protocol.specs.Demand.{Edited, RefusedOr, Signed, UnknownFieldsSame, RefusedInsideSecurity}
use Rattle.protocol.proofs.Demand3StepLaws.{same_answer, refused-inside}
use Rattle.protocol.specs.Reply.{signed_reply}
use Rattle.protocol.specs.Box.{box, answers}
use Rattle.protocol.specs.InvalidTree.{invalid_tree}

-- fields put in outside the security part: the same command is read; the same refusal or the same reply, store, record and connection
pub same : UnknownFieldsSame box
same = same_answer box

-- one or more inside the security part: refused like the message without them, or INVALID_REQUEST, and what is lent stays as it is
pub refused-inside-security : RefusedInsideSecurity box
refused-inside-security = refused-inside box

-- the second half, its reply and its state written out
pub refused-inside-security-reply :
    (s : State) (out : ℕ) (m m' v rest rest' : List ℕ) (i : ℕ) (key : List ℕ) (t : Tree) (c : ℕ)
    → reading box s m ≡ read i key t → Fits m v
    → Edited (suc c) m m' → Signed box key m' → Fits m' v
    → (reading box s m' ≡ undecodable i key)
    × RefusedOr (length (frame m v)) (answers s out (frame m v ++ rest)) (answers s out (frame m' v ++ rest'))
    (answered (signed_reply i key (invalid_tree s.connection.number) []) s (length (frame m' v)))
unfolding int_o
refused-inside-security-reply s out m m' v rest rest' i key t c e f r g f' = refused-inside-security s out m m' v rest rest' i key t c e f r g f'
