-- What the program cost answers, by the definitions of the programs' load and of batch_cost: the root is an array of two hashes, the recipe and the prices.
use Rattle.std.specs.Prelude.{ℕ, Bool, ◌&&◌, List, [], ◌∷◌, eqb}
use Rattle.definition.specs.Run.{Run, refused, refuse, look, pick}
use Rattle.definition.specs.Node.{Row, nil, bool, fixnum, symbol, array, hash, object, string, user, float, bignum, kind}
use Rattle.definition.specs.Arena.{Arena, node, range}
use Rattle.definition.specs.Build.{Lent, lent, held}
use Rattle.definition.specs.Cost.{batch_cost, cost_done}
use Rattle.definition.specs.Load.{Lists, LoadCall}
use Rattle.definition.specs.Refused.{Answer}
use Rattle.definition.specs.Refused.{Accepted, Refused}
use Rattle.definition.specs.Cost.{CostAnswer}
use Rattle.definition.specs.declared.Refusal.TheVariants.{NotARecipe}
use Rattle.console.specs.Call.{input_call}

-- an array's elements
unfoldable pub elements : Arena → Row → List ℕ
elements A nil = []
elements A (bool b) = []
elements A (fixnum w) = []
elements A (symbol s l) = []
elements A (array s n w) = range A.references s n
elements A (hash s n d w) = []
elements A (object s n c) = []
elements A (string s l v w) = []
elements A (user s l c v) = []
elements A (float s l) = []
elements A (bignum low high m) = []

unfoldable pub is_hash : Arena → ℕ → Bool
is_hash A h = eqb (kind (node A h)) 5

-- another shape: 20 with the root
unfoldable pub other_shape : Run Lent ℕ
other_shape = look λ L. refuse (NotARecipe L.counts.root)

-- two elements: the recipe, then the prices
unfoldable pub cost_pair : ℕ → ℕ → Run Lent ℕ
cost_pair recipe prices = look λ L. pick (is_hash (held L) recipe && is_hash (held L) prices) (batch_cost recipe prices) other_shape

-- just two
unfoldable pub cost_elements : List ℕ → Run Lent ℕ
cost_elements [] = other_shape
cost_elements (a ∷ []) = other_shape
cost_elements (a ∷ b ∷ []) = cost_pair a b
cost_elements (a ∷ b ∷ c ∷ l) = other_shape

-- the root's
unfoldable pub cost_root : Run Lent ℕ
cost_root = look λ L. cost_elements (elements (held L) (node (held L) L.counts.root))

-- the cost in the arena that load left, or load's refusal
unfoldable pub cost_loaded : Answer → Lent → CostAnswer
cost_loaded Accepted L = cost_done (cost_root L)
cost_loaded (Refused q) L = cost_done (refused q)

abbrev pub cost_after : LoadCall → CostAnswer
cost_after k = cost_loaded k.answer.answer (lent k.lent.nodes k.lent.references k.lent.bytes k.answer.counts)

unfoldable pub cost_call : List ℕ → Lists → CostAnswer
cost_call input T = cost_after (input_call input T)
