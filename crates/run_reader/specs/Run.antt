-- The words of a list, and what a run of integers and symbol links takes of them.
use Rattle.load_state.specs.declared.Progress.{Progress}
use Rattle.std.specs.Prelude.{ℕ, zero, suc, ◌+◌, ◌%◌, ◌≤◌, ◌<◌, ◌≡◌, true, List, [], ◌∷◌, ◌⊎◌, eqb, length, get_or}
use Rattle.definition.specs.Run.{pure, pick, ◌>>=◌}
use Rattle.definition.specs.Integer.{form, value, integer_bytes}
use Rattle.definition.specs.Kind.{FIXNUM, SYMBOL_LINK}
use Rattle.definition.specs.State.{Reader}
use Rattle.definition.specs.Load.{put_reference}
use Rattle.reader.specs.Integers.{dumped_at}

-- ---- the words of a list: values, or names and values in turn

-- what stands in reference word `to`: a name where its parity is `names`, else a value
abbrev pub slot : Reader ℕ → Reader ℕ → ℕ → ℕ → Reader ℕ
slot name inner names to = pick (eqb (to % 2) names) name inner

-- n words from `to` on
unfoldable pub slots : Reader ℕ → Reader ℕ → ℕ → ℕ → ℕ → Reader (Unit {0})
slots name inner names zero to = pure tt
slots name inner names (suc n) to = slot name inner names to >>= λ v. put_reference to v >>= λ _. slots name inner names n (suc to)

-- so many values more, none or one, of which the last is given
unfoldable pub more_of : Reader ℕ → ℕ → Reader ℕ
more_of inner zero = pure 0
more_of inner (suc n) = inner

-- the words of a list, and what comes after them
abbrev pub members : Reader ℕ → Reader ℕ → ℕ → ℕ → ℕ → ℕ → Reader ℕ
members name inner names more n to = slots name inner names n to >>= λ _. more_of inner more

-- ---- what a run of integers and symbol links takes

-- a link of the one byte b in dump form, to entry n of those known
abbrev pub Link : ℕ → ℕ → ℕ → Type 0
Link b known n = (b ≤ 127) × (n ≤ 122) × (form b ≡ value n) × (integer_bytes n ≡ b ∷ []) × (n < known)

-- an integer or a symbol link comes next, with a level for it
abbrev pub Next : List ℕ → ℕ → ℕ → Type 0
Next input at levels = (levels ≡ 0 → ⊥) × (at < length input) × ((get_or input at 0 ≡ FIXNUM) ⊎ (get_or input at 0 ≡ SYMBOL_LINK))

-- a link of one byte to a known symbol, or an integer in dump form for word `to` where no name is wanted and a node has room
abbrev pub Either : List ℕ → Progress → ℕ → ℕ → Type 0
Either input c names to = ((get_or input c.at 0 ≡ SYMBOL_LINK) × ((n : ℕ) × Link (get_or input (c.at + 1) 0) c.symbols n)) ⊎ ((get_or input c.at 0 ≡ FIXNUM) × (dumped_at input (c.at + 1) ≡ true) × (to % 2 ≡ names → ⊥) × (c.nodes < c.room))

-- one of them comes next, and six bytes are there
pub record Coming (input : List ℕ) (c : Progress) (names to : ℕ) : Type 0 where
  pub six : c.at + 6 ≤ length input
  pub kind : Either input c names to
