-- What the answers of frame_at mean.
use Rattle.std.specs.Prelude.{ℕ, ◌+◌, ◌≤◌, ◌≡◌, List, length, take, drop}
use Rattle.protocol.specs.Frame.{Framing, more, closes, whole, frame_of}
use Rattle.request_frame.specs.declared.Framed.{Framed}
use Rattle.request_frame.specs.declared.Framed.TheVariants.{More, Closes, Whole}

-- the framing that each case stands for
abbrev pub framing : List ℕ → Framed → Framing
framing s More = more
framing s Closes = closes
framing s (Whole m v) = whole (take m (drop 9 s)) (take v (drop (9 + m) s)) (drop (9 + m + v) s)

-- where the parts of a whole frame lie
abbrev pub Inside : List ℕ → Framed → Type 0
Inside s More = Unit {0}
Inside s Closes = Unit {0}
Inside s (Whole m v) = (9 + m + v ≤ length s) × (m ≤ 8192) × (v ≤ 1024)

pub record FramedAs (s : List ℕ) (r : Framed) : Type 0 where
  pub same : framing s r ≡ frame_of s
  pub inside : Inside s r
