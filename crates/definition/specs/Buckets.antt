-- The search for names by a bucket table: FNV-1a, and the words that a search looks at (02, 2.8).
use Rattle.std.specs.Prelude.{ℕ, zero, suc, ◌+◌, ◌*◌, ◌/◌, ◌%◌, Bool, true, false, ◌||◌, List, [], ◌∷◌, eqb, length, get_or, set, replicate}

-- ---- FNV-1a, 32 bits

-- the exclusive-or of two numbers' n low bits
unfoldable pub exclusive_or : ℕ → ℕ → ℕ → ℕ
exclusive_or zero a b = 0
exclusive_or (suc n) a b = exclusive_or n (a / 2) (b / 2) * 2 + (a + b) % 2

-- "for each byte exclusive-or, then multiply by 16777619, keeping the low 32 bits"
unfoldable pub fnv_from : ℕ → List ℕ → ℕ
fnv_from k [] = k
fnv_from k (b ∷ bs) = fnv_from (exclusive_or 32 k b * 16777619 % 4294967296) bs

-- "start 2166136261"
unfoldable pub fnv_1a : List ℕ → ℕ
fnv_1a name = fnv_from 2166136261 name

-- ---- searches

-- a bucket table, and how many words were looked at so far; a word holds a node's number, or zero: node 0 is no symbol
pub record Buckets : Type 0 where
  pub words : List ℕ
  pub looked : ℕ

-- "goes up, wrapping": the i-th word, counted round
unfoldable pub bucket : List ℕ → ℕ → ℕ
bucket ws i = get_or ws (i % length ws) 0

-- "to its node or a zero word"
unfoldable pub ends : ℕ → ℕ → Bool
ends h w = eqb w h || eqb w 0

-- how many words stand before that one, from the i-th on, of n at most; whether the i-th is it is given
unfoldable pub words_passed : ℕ → Bool → List ℕ → ℕ → ℕ → ℕ
words_passed zero end? ws h i = 0
words_passed (suc n) true ws h i = 0
words_passed (suc n) false ws h i = suc (words_passed n (ends h (bucket ws (suc i))) ws h (suc i))

-- the search for node h "starts at the word numbered hash modulo the table's words": how many words it passes
unfoldable pub distance : List ℕ → ℕ → ℕ → ℕ
distance ws k h = words_passed (length ws) (ends h (bucket ws k)) ws h k

-- the search for node h, whose name's hash is k: where it ends h stands, "a new name is put" there; "the last included"
unfoldable pub search : ℕ → ℕ → Buckets → Buckets
search k h t = record { words = set t.words ((k + distance t.words k h) % length t.words) h; looked = t.looked + suc (distance t.words k h) }

-- a search for each of these nodes in turn; the hashes of their names are given
unfoldable pub searches : (ℕ → ℕ) → List ℕ → Buckets → Buckets
searches hash_of [] t = t
searches hash_of (h ∷ hs) t = searches hash_of hs (search (hash_of h) h t)

-- m zero words, of which none was looked at
abbrev pub empty : ℕ → Buckets
empty m = record { words = replicate m 0; looked = 0 }
