-- The tests of a plain value and of a byte string, and then its node.
use Rattle.std.specs.Prelude.{ℕ, List, [], ◌∷◌}
use Rattle.definition.specs.Run.{Run, ◌>>=◌}
use Rattle.definition.specs.Node.{Row}
use Rattle.definition.specs.Build.{Lent, check, byte_slice, add}

-- the arena tested, then a value by m; then its row added, with neither bytes nor a list
unfoldable pub plain : Run Lent (Unit {0}) → Row → Run Lent ℕ
plain m row = check [] >>= λ _. m >>= λ _. add [] [] λ b r. row

-- a byte string tested, then added with its row
unfoldable pub text : List ℕ → (ℕ → ℕ → Row) → Run Lent ℕ
text bs row = check (byte_slice bs ∷ []) >>= λ _. add bs [] row
