-- The last pair with a name: what survives gives just what these give.
use Rattle.std.specs.Prelude.{ℕ, ◌≡◌, refl, Bool, true, false, ◌||◌, List, [], ◌∷◌}
use Rattle.std.proofs.Common.{sym, ap, ◌∙◌}
use Rattle.std.proofs.Math.Option.{Option, none, some}
use Rattle.definition.specs.Run.{pick}
use Rattle.definition.specs.Node.{equal}
use Rattle.definition.specs.Cost.{Line, has_name, surviving, price}
use Rattle.lists.specs.Lists.{apart}
use Rattle.lists.specs.Joined.{or_none}
use Rattle.lists.specs.Words.{equal_true}

-- the first of two that is there
abbrev pub or_else : Option ℕ → Option ℕ → Option ℕ
or_else none o = o
or_else (some a) o = some a

-- what a pair gives under a name
abbrev pub here : List ℕ → Line → Option ℕ
here name l = pick (equal name l.name) (some l.amount) none

-- what the last pair with that name gives
unfoldable pub latest : List ℕ → List Line → Option ℕ
latest name [] = none
latest name (l ∷ ls) = or_else (latest name ls) (here name l)

pub or_none_else : (o : Option ℕ) → or_else o none ≡ o
or_none_else none = refl
or_none_else (some a) = refl

-- there is one where a pair has the name, and none else
pub found : (name : List ℕ) (ls : List Line) → has_name name ls ≡ true → (a : ℕ) × (latest name ls ≡ some a)
unfolding has_name latest pick
found name [] e = apart (cc)
found name (l ∷ ls) e = go (equal name l.name) (latest name ls) refl e (found name ls)
  where
    go : (b : Bool) (o : Option ℕ) → latest name ls ≡ o → b || has_name name ls ≡ true → (has_name name ls ≡ true → (a : ℕ) × (latest name ls ≡ some a))
        → (a : ℕ) × (or_else o (pick b (some l.amount) none) ≡ some a)
    go b (some a) p e f = (a, refl)
    go true none p e f = (l.amount, refl)
    go false none p e f = let (a, q) = f e in (a, sym p ∙ q)

pub absent : (name : List ℕ) (ls : List Line) → has_name name ls ≡ false → latest name ls ≡ none
unfolding has_name latest pick
absent name [] e = refl
absent name (l ∷ ls) e = let (p, q) = or_none (equal name l.name) (has_name name ls) e in rw (p, absent name ls q) refl

-- a superseded pair gives nothing
pub latest_covered : (name : List ℕ) (p : Line) (ls : List Line) → has_name p.name ls ≡ true → latest name (p ∷ ls) ≡ latest name ls
unfolding latest pick
latest_covered name p ls h = go (equal name p.name) refl
  where
    go : (b : Bool) → equal name p.name ≡ b → or_else (latest name ls) (pick b (some p.amount) none) ≡ latest name ls
    go true e = let (a, q) = found name ls (ap (λ (n : List ℕ). has_name n ls) (equal_true name p.name e) ∙ h) in rw q refl
    go false e = or_none_else (latest name ls)

-- what survives gives just what the last pairs give
pub price_latest : (name : List ℕ) (ls : List Line) → price name (surviving ls) ≡ latest name ls
unfolding price surviving latest pick
price_latest name [] = refl
price_latest name (l ∷ ls) = go (has_name l.name ls) refl (price_latest name ls)
  where
    first : (b : Bool) → equal name l.name ≡ b → has_name l.name ls ≡ false → pick b (some l.amount) (latest name ls) ≡ or_else (latest name ls) (pick b (some l.amount) none)
    first true e h = let q = absent name ls (ap (λ (n : List ℕ). has_name n ls) (equal_true name l.name e) ∙ h) in rw q refl
    first false e h = sym (or_none_else (latest name ls))

    go : (b : Bool) → has_name l.name ls ≡ b → price name (surviving ls) ≡ latest name ls → price name (pick b (surviving ls) (l ∷ surviving ls)) ≡ latest name (l ∷ ls)
    go true h ih = ih ∙ sym (latest_covered name l ls h)
    go false h ih = ap (pick (equal name l.name) (some l.amount)) ih ∙ first (equal name l.name) refl h
