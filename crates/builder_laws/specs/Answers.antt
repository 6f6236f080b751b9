-- A builder's call by its answer: accepted, its laws hold of all that is lent; refused, nothing is changed.
use Rattle.std.specs.Prelude.{ℕ, ◌≡◌, refl}
use Rattle.definition.specs.Run.{Run, Outcome, ok, refused}
use Rattle.definition.specs.Build.{Lent, build_done, build_call}
use Rattle.definition.specs.Refused.{Accepted, Refused}
use Rattle.definition.specs.declared.Refusal.{Refusal}
use Rattle.lists.specs.Lists.{apart}

-- what is lent, as the call leaves it
abbrev pub left_by : Run Lent ℕ → Lent → Lent
left_by m L = record { tables = (build_call m L).tables; counts = (build_call m L).answer.counts }

pub build_accepted : (m : Run Lent ℕ) (L : Lent) → (build_call m L).answer.answer ≡ Accepted → m L ≡ ok (build_call m L).answer.handle (left_by m L)
unfolding build_call build_done
build_accepted m L e = go (m L) e
  where
    go : (o : Outcome Lent ℕ) → (build_done L o).answer.answer ≡ Accepted
        → o ≡ ok (build_done L o).answer.handle (record { tables = (build_done L o).tables; counts = (build_done L o).answer.counts })
    go (ok h M) e = refl
    go (refused r) e = apart (cc)

pub build_refused : (m : Run Lent ℕ) (L : Lent) (r : Refusal) → (build_call m L).answer.answer ≡ Refused r → left_by m L ≡ L
unfolding build_call build_done
build_refused m L r e = go (m L) e
  where
    go : (o : Outcome Lent ℕ) → (build_done L o).answer.answer ≡ Refused r → record { tables = (build_done L o).tables; counts = (build_done L o).answer.counts } ≡ L
    go (ok h M) e = apart (cc)
    go (refused s) e = refl
