-- What the hashed load answers and what it leaves in the tables and the bucket table (02, 2.8).
use Rattle.std.specs.Prelude.{ℕ, zero, suc, ◌/◌, Bool, ◌||◌, List, [], ◌∷◌, ◌++◌, ltb, length, get_or, Result, Ok, Err}
use Rattle.definition.specs.Run.{Outcome, ok, refused}
use Rattle.definition.specs.Node.{nil, width}
use Rattle.definition.specs.Slice.{BUCKETS}
use Rattle.definition.specs.Arena.{name_of, too_long, lowest, zeroed}
use Rattle.definition.specs.Buckets.{fnv_1a, searches, empty}
use Rattle.definition.specs.State.{State}
use Rattle.definition.specs.Load.{LoadAnswer, load_answer, Lists, LoadCall, load, room_of, load_tests, load_done, load_if}
use Rattle.definition.specs.declared.Hashed.{Hashed}
use Rattle.definition.specs.declared.Refusal.{Refusal}

-- what it answers
pub record HashedAnswer : Type 0 where
  pub load : LoadAnswer
  pub looked : ℕ

-- by the code's Result; "0 when refused"
unfoldable pub hashed_answer : Result Hashed Refusal → HashedAnswer
hashed_answer (Ok r) = record { load = load_answer (Ok r.load); looked = r.looked }
hashed_answer (Err q) = record { load = load_answer (Err q); looked = 0 }

-- its answer, and everything lent as it then stands, the bucket table too
pub record HashedCall : Type 0 where
  pub answer : HashedAnswer
  pub lent : Lists
  pub buckets : List ℕ

-- the three put together
abbrev pub hashed_call_of : HashedAnswer → Lists → List ℕ → HashedCall
hashed_call_of a T B = record { answer = a; lent = T; buckets = B }

-- "adds the number of words looked at" to load's answer
abbrev pub looking : ℕ → List ℕ → LoadCall → HashedCall
looking looked buckets c = record { answer = record { load = c.answer; looked = looked }; lent = c.lent; buckets = buckets }

-- the hash of a symbol's name
unfoldable pub hash_at : State → ℕ → ℕ
hash_at s h = fnv_1a (name_of s.bytes (get_or s.nodes h nil))

-- the words of m looked at: each `:` name is searched for once, in the order of the symbol list, to which its node is then appended
unfoldable pub words_looked : ℕ → State → ℕ
words_looked m s = (searches (hash_at s) s.symbols (empty m)).looked

-- "one word or more for each node of the table", and 01's greatest length
unfoldable pub bad_buckets : ℕ → ℕ → Bool
bad_buckets nodes m = ltb m nodes || too_long m

-- "a shorter one is BAD-TABLES, slice 11"
unfoldable pub hashed_wrong : List ℕ → Lists → List ℕ → ℕ → ℕ
hashed_wrong input T B limit = lowest (load_tests input T limit ++ ((BUCKETS, bad_buckets (length T.nodes / width) (length B)) ∷ []))

-- "After any answer but BAD-TABLES it is zero"; "0 when refused"
unfoldable pub hashed_done : Lists → List ℕ → Outcome State ℕ → HashedCall
hashed_done T B (refused r) = looking 0 (zeroed B) (load_done T (refused r))
hashed_done T B (ok h s) = looking (words_looked (length B) s) (zeroed B) (load_done T (ok h s))

-- after 1 nothing is touched
unfoldable pub hashed_if : ℕ → List ℕ → Lists → List ℕ → ℕ → HashedCall
hashed_if zero input T B limit = hashed_done T B (load input (room_of T) limit)
hashed_if (suc slice) input T B limit = looking 0 B (load_if (suc slice) input T limit)

-- the hashed load's whole call
unfoldable pub hashed_call : List ℕ → Lists → List ℕ → ℕ → HashedCall
hashed_call input T B limit = hashed_if (hashed_wrong input T B limit) input T B limit
