-- A digest has 20 bytes, whatever the key and the text.
use Rattle.std.specs.Prelude.{ℕ, ◌≡◌, List, length}
use Rattle.signature_hmac.specs.Hmac.{hmac}
use Rattle.signature_hmac.specs.HmacLaws.{bytes-length}

pub hmac-length : (key text : List ℕ) → length (hmac key text) ≡ 20
unfolding hmac
hmac-length key text = bytes-length _
