-- Numbers in bytes, low byte first.
use Rattle.std.specs.Prelude.{List, [], ◌∷◌, ℕ, zero, suc, ◌+◌, ◌*◌, ◌/◌, ◌%◌, ◌<◌, min, get_or}
use Rattle.std.proofs.lemmas.List.Edits.{sets}

-- the number that the first k bytes are
unfoldable pub number_of : ℕ → List ℕ → ℕ
number_of zero l = 0
number_of (suc k) [] = 0
number_of (suc k) (b ∷ l) = b + 256 * number_of k l

-- the k bytes of a number
unfoldable pub number_bytes : ℕ → ℕ → List ℕ
number_bytes zero v = []
number_bytes (suc k) v = v % 256 ∷ number_bytes k (v / 256)

-- a word is 8 bytes, a short number 2
abbrev pub word_of : List ℕ → ℕ
word_of l = number_of 8 l

abbrev pub word_bytes : ℕ → List ℕ
word_bytes v = number_bytes 8 v

abbrev pub short_of : List ℕ → ℕ
short_of l = number_of 2 l

abbrev pub short_bytes : ℕ → List ℕ
short_bytes v = number_bytes 2 v

abbrev pub byte_of : List ℕ → ℕ
byte_of l = get_or l 0 0

-- a number above 255 is written as 255
abbrev pub byte_for : ℕ → List ℕ
byte_for v = min v 255 ∷ []

-- the bytes of old, with new over them from a place on
unfoldable pub lay : List ℕ → ℕ → List ℕ → List ℕ
lay old at new = sets old at new

-- each is a byte
abbrev pub Bytes : List ℕ → Type 0
Bytes l = (i : ℕ) → get_or l i 0 < 256
