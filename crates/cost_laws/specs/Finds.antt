-- Pairs that give the same amounts under the same names: whatever the order of different names, and without what is superseded.
use Rattle.std.specs.Prelude.{ℕ, ◌≡◌, refl, Bool, true, false, List, [], ◌∷◌, ◌++◌}
use Rattle.std.proofs.Common.{sym, ap, ◌∙◌}
use Rattle.std.proofs.Math.Option.{Option, none, some}
use Rattle.definition.specs.Run.{pick}
use Rattle.definition.specs.Node.{equal}
use Rattle.definition.specs.Cost.{Line, has_name, surviving, price}
use Rattle.lists.specs.Lists.{apart}
use Rattle.lists.specs.Latest.{or_else, here, latest, or_none_else, latest_covered, price_latest}
use Rattle.lists.specs.Words.{equal_true, equal_self}

-- the same amounts under the same names
abbrev pub Finds : List Line → List Line → Type 0
Finds ls ls' = (name : List ℕ) → price name (surviving ls) ≡ price name (surviving ls')

-- any number of steps may follow one another, either way
pub finds_self : (ls : List Line) → Finds ls ls
finds_self ls name = refl

pub finds_back : (ls ls' : List Line) → Finds ls ls' → Finds ls' ls
finds_back ls ls' f name = sym (f name)

pub finds_then : (ls ls' ls'' : List Line) → Finds ls ls' → Finds ls' ls'' → Finds ls ls''
finds_then ls ls' ls'' f g name = f name ∙ g name

-- ---- the last pair with a name, in a list after another

or_else_assoc : (a b c : Option ℕ) → or_else (or_else a b) c ≡ or_else a (or_else b c)
or_else_assoc none b c = refl
or_else_assoc (some x) b c = refl

-- a later list comes first
latest_append : (name : List ℕ) (pre post : List Line) → latest name (pre ++ post) ≡ or_else (latest name post) (latest name pre)
unfolding latest
latest_append name [] post = sym (or_none_else (latest name post))
latest_append name (l ∷ pre) post =
    ap (λ (o : Option ℕ). or_else o (here name l)) (latest_append name pre post) ∙ or_else_assoc (latest name post) (latest name pre) (here name l)

-- ---- steps

-- lists that agree from some pair on
behind : (pre post post' : List Line) → ((name : List ℕ) → latest name post ≡ latest name post') → Finds (pre ++ post) (pre ++ post')
behind pre post post' h name =
    price_latest name (pre ++ post)
    ∙ latest_append name pre post
    ∙ ap (λ (o : Option ℕ). or_else o (latest name pre)) (h name)
    ∙ sym (latest_append name pre post')
    ∙ sym (price_latest name (pre ++ post'))

-- two names that differ don't both give something
latest_swapped : (name : List ℕ) (p q : Line) (ls : List Line) → equal p.name q.name ≡ false → latest name (p ∷ q ∷ ls) ≡ latest name (q ∷ p ∷ ls)
unfolding latest pick
latest_swapped name p q ls h = go (equal name p.name) (equal name q.name) refl refl
  where
    go : (b c : Bool) → equal name p.name ≡ b → equal name q.name ≡ c
        → or_else (or_else (latest name ls) (pick c (some q.amount) none)) (pick b (some p.amount) none)
        ≡ or_else (or_else (latest name ls) (pick b (some p.amount) none)) (pick c (some q.amount) none)
    go false c e f = or_none_else _ ∙ ap (λ (o : Option ℕ). or_else o (pick c (some q.amount) none)) (sym (or_none_else (latest name ls)))
    go true false e f = ap (λ (o : Option ℕ). or_else o (some p.amount)) (or_none_else (latest name ls)) ∙ sym (or_none_else _)
    go true true e f =
        let same : p.name ≡ q.name = sym (equal_true name p.name e) ∙ equal_true name q.name f in
        let yes : equal p.name q.name ≡ true = ap (equal p.name) (sym same) ∙ equal_self p.name in
        apart (cc)

-- neighbours with different names may change places
pub swapped : (pre : List Line) (p q : Line) (post : List Line) → equal p.name q.name ≡ false → Finds (pre ++ (p ∷ q ∷ post)) (pre ++ (q ∷ p ∷ post))
swapped pre p q post h = behind pre (p ∷ q ∷ post) (q ∷ p ∷ post) (λ name. latest_swapped name p q post h)

-- a pair whose name comes again may be left out
pub superseded : (pre : List Line) (p : Line) (post : List Line) → has_name p.name post ≡ true → Finds (pre ++ (p ∷ post)) (pre ++ post)
superseded pre p post h = behind pre (p ∷ post) post (λ name. latest_covered name p post h)
