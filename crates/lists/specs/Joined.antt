-- Tests joined by and, or and pick.
use Rattle.std.specs.Prelude.{◌≡◌, refl, Bool, true, false, ◌&&◌, ◌||◌}
use Rattle.definition.specs.Run.{pick}
use Rattle.lists.specs.Lists.{apart}

pub and_left : (a b : Bool) → a && b ≡ true → a ≡ true
and_left true b e = refl
and_left false b e = e

pub and_right : (a b : Bool) → a && b ≡ true → b ≡ true
and_right true b e = e
and_right false b e = apart (cc)

pub yes_and : (a b : Bool) → a ≡ true → b ≡ true → a && b ≡ true
yes_and a b p q = rw (p, q)

pub or_none : (a b : Bool) → a || b ≡ false → (a ≡ false) × (b ≡ false)
or_none false b e = (refl, e)
or_none true b e = apart (cc)

pub pick_true : (a b : Bool) → pick a b false ≡ true → (a ≡ true) × (b ≡ true)
unfolding pick
pick_true true b e = (refl, e)
pick_true false b e = apart (cc)
