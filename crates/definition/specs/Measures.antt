-- What the measuring load adds to load (02, 2.3): its answer and tables are load's, and counts computed from the definitions.
use Rattle.std.specs.Prelude.{ℕ, zero, suc, ◌≡◌, refl, List, [], ◌∷◌}
use Rattle.definition.specs.Run.{Outcome, ok, refused}
use Rattle.definition.specs.State.{State}
use Rattle.definition.specs.Load.{Lists, LoadCall, load, room_of, load_wrong, load_done, load_if, load_call}
use Rattle.definition.specs.LoadMeasured.{MeasuredCall, measured_done, measured_if, measured_call}
use Rattle.definition.specs.Starred.{measures, holds}

-- the counts left out
abbrev pub unmeasured : MeasuredCall → LoadCall
unmeasured c = record { answer = c.answer.load; lent = c.lent }

-- "A measuring load adds two counts to load's answer"
pub measured_is_load : (input : List ℕ) (T : Lists) (limit : ℕ) → unmeasured (measured_call input T limit) ≡ load_call input T limit
unfolding measured_call measured_if measured_done load_call load_if
measured_is_load input T limit = by_wrong (load_wrong input T limit)
  where
    by_outcome : (o : Outcome State ℕ) → unmeasured (measured_done T o) ≡ load_done T o
    by_outcome (ok h s) = refl
    by_outcome (refused r) = refl

    by_wrong : (n : ℕ) → unmeasured (measured_if n input T limit) ≡ load_if n input T limit
    by_wrong zero = by_outcome (load input (room_of T) limit)
    by_wrong (suc n) = refl

-- the bytes copied and compared
abbrev counts : List (List ℕ × (ℕ × ℕ))
counts =
    -- a name met again is compared with itself
    (0x04 ∷ 0x08 ∷ 0x5B ∷ 0x07 ∷ 0x3A ∷ 0x06 ∷ 0x61 ∷ 0x3A ∷ 0x06 ∷ 0x61 ∷ [], (1, 1))
    -- another of its length, up to the first difference
    ∷ (0x04 ∷ 0x08 ∷ 0x5B ∷ 0x07 ∷ 0x3A ∷ 0x06 ∷ 0x61 ∷ 0x3A ∷ 0x06 ∷ 0x62 ∷ [], (2, 1))
    -- another length costs nothing
    ∷ (0x04 ∷ 0x08 ∷ 0x5B ∷ 0x07 ∷ 0x3A ∷ 0x06 ∷ 0x61 ∷ 0x3A ∷ 0x07 ∷ 0x61 ∷ 0x62 ∷ [], (3, 0))
    -- each time it is met
    ∷ (0x04 ∷ 0x08 ∷ 0x5B ∷ 0x08 ∷ 0x3A ∷ 0x06 ∷ 0x61 ∷ 0x3A ∷ 0x06 ∷ 0x61 ∷ 0x3A ∷ 0x06 ∷ 0x61 ∷ [], (1, 2))
    -- from the lowest node to the match: two bytes of ab, then two of ab and two of ac
    ∷ (0x04 ∷ 0x08 ∷ 0x5B ∷ 0x08 ∷ 0x3A ∷ 0x07 ∷ 0x61 ∷ 0x62 ∷ 0x3A ∷ 0x07 ∷ 0x61 ∷ 0x63 ∷ 0x3A ∷ 0x07 ∷ 0x61 ∷ 0x63 ∷ [], (4, 6))
    -- a node that is on the symbol list twice is compared once
    ∷ (0x04 ∷ 0x08 ∷ 0x5B ∷ 0x08 ∷ 0x3A ∷ 0x06 ∷ 0x61 ∷ 0x3A ∷ 0x06 ∷ 0x61 ∷ 0x3A ∷ 0x06 ∷ 0x62 ∷ [], (2, 2))
    -- the first difference ends it
    ∷ (0x04 ∷ 0x08 ∷ 0x5B ∷ 0x07 ∷ 0x3A ∷ 0x07 ∷ 0x61 ∷ 0x62 ∷ 0x3A ∷ 0x07 ∷ 0x63 ∷ 0x62 ∷ [], (4, 1))
    -- at a name's place, and not by a link
    ∷ (0x04 ∷ 0x08 ∷ 0x6F ∷ 0x3A ∷ 0x06 ∷ 0x61 ∷ 0x06 ∷ 0x3A ∷ 0x06 ∷ 0x61 ∷ 0x30 ∷ [], (1, 1))
    ∷ (0x04 ∷ 0x08 ∷ 0x6F ∷ 0x3A ∷ 0x06 ∷ 0x61 ∷ 0x06 ∷ 0x3B ∷ 0x00 ∷ 0x30 ∷ [], (1, 0))
    -- a class's name
    ∷ (0x04 ∷ 0x08 ∷ 0x5B ∷ 0x07 ∷ 0x43 ∷ 0x3A ∷ 0x06 ∷ 0x61 ∷ 0x5B ∷ 0x00 ∷ 0x43 ∷ 0x3A ∷ 0x06 ∷ 0x61 ∷ 0x5B ∷ 0x00 ∷ [], (1, 1))
    -- a string and a Float are copied, and compared with nothing
    ∷ (0x04 ∷ 0x08 ∷ 0x5B ∷ 0x07 ∷ 0x22 ∷ 0x06 ∷ 0x61 ∷ 0x3A ∷ 0x06 ∷ 0x61 ∷ [], (2, 0))
    ∷ (0x04 ∷ 0x08 ∷ 0x5B ∷ 0x07 ∷ 0x66 ∷ 0x06 ∷ 0x61 ∷ 0x3A ∷ 0x06 ∷ 0x61 ∷ [], (2, 0))
    -- the empty name
    ∷ (0x04 ∷ 0x08 ∷ 0x5B ∷ 0x07 ∷ 0x3A ∷ 0x00 ∷ 0x3A ∷ 0x00 ∷ [], (0, 0))
    -- refused
    ∷ (0x04 ∷ 0x08 ∷ 0x5B ∷ 0x08 ∷ 0x3A ∷ 0x06 ∷ 0x61 ∷ 0x3A ∷ 0x06 ∷ 0x61 ∷ [], (0, 0))
    ∷ []

counted : holds measures counts
unfolding holds measures
counted = refl
