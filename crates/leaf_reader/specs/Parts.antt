-- Kind bytes without members, and the rest of a Bignum after its sign.
use Rattle.std.specs.Prelude.{ℕ, ◌≡◌, List}
use Rattle.definition.specs.Run.{◌>>=◌}
use Rattle.definition.specs.Kind.{INSTANCE_VARIABLES, ARRAY, HASH, HASH_DEFAULT, OBJECT, USER_CLASS}
use Rattle.definition.specs.State.{Room, Reader}
use Rattle.definition.specs.Load.{read_unit_count, read_magnitude}

-- a kind byte of no value that has members
pub record Leaf (k : ℕ) : Type 0 where
  pub array : k ≡ ARRAY → ⊥
  pub hash : k ≡ HASH → ⊥
  pub default : k ≡ HASH_DEFAULT → ⊥
  pub object : k ≡ OBJECT → ⊥
  pub variables : k ≡ INSTANCE_VARIABLES → ⊥
  pub class : k ≡ USER_CLASS → ⊥

-- the rest of a Bignum whose sign byte was b
abbrev pub read_number : List ℕ → Room → ℕ → Reader ℕ
read_number input room b = read_unit_count input >>= read_magnitude input room b

-- a magnitude is two words of its node, each below this
abbrev pub WORD : ℕ
WORD = 4294967296
