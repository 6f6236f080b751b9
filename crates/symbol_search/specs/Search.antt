-- What the searches for a name answer.
use Rattle.std.specs.Prelude as code
use Rattle.std.specs.Prelude.{ℕ, ◌+◌, ◌-◌, ◌*◌, ◌≤◌, ◌<◌, ◌≡◌, true, false, List, ◌⊎◌, length, get_or, Some, None, IfSome, MatchResult}
use Rattle.std.proofs.Math.Option.{Option, none, some}
use Rattle.definition.specs.Node.{Row, nil, equal, width, START, LENGTH}
use Rattle.definition.specs.Arena.{named, find_symbol, bytes_compared, compared_with}
use Rattle.definition.specs.Buckets.{bucket}
use Rattle.definition.specs.State.{State}
use Rattle.load_state.specs.Holds.{Symbolic}

-- what a search answers, as the definition says it
abbrev pub answered : code.Option ℕ → Option ℕ
answered None = none
answered (Some h) = some h

-- the lowest symbol with the name, or that there is none
pub record Found (s : State) (name : List ℕ) (r : code.Option ℕ) : Type 0 where
  pub same : find_symbol s.bytes name s.nodes 0 ≡ answered r
  pub symbol : IfSome r (λ h. Symbolic (get_or s.nodes h nil))

-- a name of n bytes, of which, if it has any, `last` is the last
abbrev pub Ends : List ℕ → ℕ → ℕ → Type 0
Ends name n last = (length name ≡ n) × (last ≡ get_or name (n - 1) 0)

-- the words of node h and the bytes lent say a name of n bytes, of which, if it has any, `last` is the last
abbrev pub Like : List ℕ → List ℕ → ℕ → ℕ → ℕ → Type 0
Like nodes bytes h n last = (get_or nodes (h * width + LENGTH) 0 ≡ n) × ((n ≡ 0 → ⊥) → get_or bytes (get_or nodes (h * width + START) 0 + (n - 1)) 0 ≡ last)

-- the first r of n bytes are alike, and no more
pub record Alike (xs ys : List ℕ) (n r : ℕ) : Type 0 where
  pub most : r ≤ n
  pub whole : r ≡ n → (equal xs ys ≡ true) × (bytes_compared xs ys ≡ n)
  pub part : (r ≡ n → ⊥) → (equal xs ys ≡ false) × (bytes_compared xs ys ≡ r + 1)

-- a name against a symbol's, by an answer with the bytes compared: Ok where it is its name, else an error
abbrev pub Compared : State → List ℕ → Row → code.Result ℕ ℕ → Type 0
Compared s name row r = MatchResult r (λ k. (named s.bytes name row ≡ true) × (compared_with s.bytes name row ≡ k)) (λ k. (named s.bytes name row ≡ false) × (compared_with s.bytes name row ≡ k))

-- r words of the bucket table from word k on that are not zero and name others
abbrev pub Passing : State → List ℕ → List ℕ → ℕ → ℕ → Type 0
Passing s name B k r = (q : ℕ) → q < r → (bucket B (k + q) ≡ 0 → ⊥) × (named s.bytes name (get_or s.nodes (bucket B (k + q)) nil) ≡ false)

-- how far the search for a name from word k on goes: r words are passed, and then it ends
pub record Probe (s : State) (name B : List ℕ) (k r : ℕ) : Type 0 where
  pub inside : r < length B
  pub before : Passing s name B k r
  pub ends : (bucket B (k + r) ≡ 0) ⊎ (named s.bytes name (get_or s.nodes (bucket B (k + r)) nil) ≡ true)
