-- A class, read before the kind byte that it belongs to, and the value of a kind byte with a class.
use Rattle.std.specs.Prelude.{ℕ, zero, suc, ◌≡◌, Bool, true, ◌||◌, List, ltb, eqb, length, get_or}
use Rattle.definition.specs.Run.{pure, refuse, ◌>>=◌, look, pick}
use Rattle.definition.specs.Kind.{STRING, ARRAY, HASH, HASH_DEFAULT, USER_CLASS}
use Rattle.definition.specs.State.{Room, Reader}
use Rattle.definition.specs.Load.{read_byte, read_symbol_like, read_wrapped, value_of, head}
use Rattle.definition.specs.declared.Refusal.TheVariants.{ShortInput, NotWrappable}

-- the kind bytes that `C` may stand before
unfoldable pub wrappable : ℕ → Bool
wrappable k = eqb k STRING || eqb k ARRAY || eqb k HASH || eqb k HASH_DEFAULT

-- the class whose name is node c, where such a kind byte comes next, which is left
unfoldable pub wrapping : List ℕ → ℕ → Reader ℕ
wrapping input c =
    look λ s. pick (ltb s.at (length input)) (pick (wrappable (get_or input s.at 0)) (pure (suc c)) (refuse (NotWrappable (get_or input s.at 0)))) (refuse ShortInput)

-- `C` and its name
unfoldable pub named_class : List ℕ → Room → Reader ℕ
named_class input room = read_byte input >>= λ _. read_symbol_like input room >>= wrapping input

-- a class where `C` comes next, else none
unfoldable pub read_class : List ℕ → Room → Reader ℕ
read_class input room = look λ s. pick (eqb (get_or input s.at 0) USER_CLASS) (named_class input room) (pure 0)

-- the value of kind byte k with the class w
unfoldable pub valued : List ℕ → Room → Reader ℕ → ℕ → ℕ → Reader ℕ
valued input room inner k zero = value_of input room inner k (head k)
valued input room inner k (suc c) = read_wrapped input room inner k (suc c)

-- what a kind byte is after a class or none
pub record Follows (w k : ℕ) : Type 0 where
  pub none : w ≡ 0 → k ≡ USER_CLASS → ⊥
  pub one : (w ≡ 0 → ⊥) → wrappable k ≡ true
