-- How many bytes a search for a name compares at most.
use Rattle.std.specs.Prelude.{ℕ, ◌+◌, ◌*◌, ◌≤◌, Bool, true, false, ◌&&◌, List, [], ◌∷◌, eqb, length}
use Rattle.std.proofs.Common.{arith, mul-add}
use Rattle.definition.specs.Run.{pick}
use Rattle.definition.specs.Node.{Row, kind}
use Rattle.definition.specs.Arena.{name_of, named, bytes_compared, compared_with, compared_among}

-- how many of these nodes are symbols
abbrev pub symbol_count : List Row → ℕ
symbol_count [] = 0
symbol_count (r ∷ rows) = pick (eqb (kind r) 3) 1 0 + symbol_count rows

pick_first : (t : Bool) (n : ℕ) → pick t n 0 ≤ n
unfolding pick
pick_first true n = omega arith
pick_first false n = omega arith

pick_second : (t : Bool) (n : ℕ) → pick t 0 n ≤ n
unfolding pick
pick_second true n = omega arith
pick_second false n = omega arith

pub symbol_count_most : (rows : List Row) → symbol_count rows ≤ length rows
symbol_count_most [] = omega arith
symbol_count_most (r ∷ rows) = omega (arith, pick_first (eqb (kind r) 3) 1, symbol_count_most rows)

bytes_most : (xs ys : List ℕ) → bytes_compared xs ys ≤ length xs
unfolding bytes_compared
bytes_most [] ys = omega arith
bytes_most (x ∷ xs) [] = omega arith
bytes_most (x ∷ xs) (y ∷ ys) = omega (arith, pick_first (eqb x y) (bytes_compared xs ys), bytes_most xs ys)

with_most : (bytes name : List ℕ) (r : Row) → compared_with bytes name r ≤ length name * pick (eqb (kind r) 3) 1 0
unfolding compared_with pick
with_most bytes name r = go (eqb (kind r) 3)
  where
    go : (t : Bool) → pick (t && eqb (length name) (length (name_of bytes r))) (bytes_compared name (name_of bytes r)) 0 ≤ length name * pick t 1 0
    go true = omega (arith, pick_first (eqb (length name) (length (name_of bytes r))) (bytes_compared name (name_of bytes r)), bytes_most name (name_of bytes r))
    go false = omega arith

-- no more than the name's bytes with every symbol
pub among_most : (bytes name : List ℕ) (rows : List Row) → compared_among bytes name rows ≤ length name * symbol_count rows
unfolding compared_among
among_most bytes name [] = omega arith
among_most bytes name (r ∷ rows) =
    omega (arith, with_most bytes name r, pick_second (named bytes name r) (compared_among bytes name rows), among_most bytes name rows, mul-add (length name) (pick (eqb (kind r) 3) 1 0) (symbol_count rows))
