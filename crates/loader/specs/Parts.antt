-- Variables set, and what comes after `I`.
use Rattle.std.specs.Prelude.{ℕ, List, get_or}
use Rattle.definition.specs.Run.{look, ◌>>=◌}
use Rattle.definition.specs.Node.{nil}
use Rattle.definition.specs.State.{Reader}
use Rattle.definition.specs.Load.{note, takes_variables, set_variables}

-- variables are set, or 10
abbrev pub settle : ℕ → ℕ → ℕ → Reader ℕ
settle h start n = look λ s. set_variables h start n (get_or s.nodes h nil)

-- what comes directly after `I` is noted, and read
abbrev pub after_i : List ℕ → Reader ℕ → Reader ℕ
after_i input inner = look λ s. note (takes_variables (get_or input s.at 0)) >>= λ _. inner
