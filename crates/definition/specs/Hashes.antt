-- The hashed load (02, 2.8): its answer and tables are load's, and hashes and words looked at, computed from the definitions.
use Rattle.std.specs.Prelude.{ℕ, zero, suc, ◌/◌, ◌≡◌, refl, Bool, true, false, List, [], ◌∷◌, ◌++◌, ℤ, pos, length}
use Rattle.definition.specs.Run.{Outcome, ok, refused, pick}
use Rattle.definition.specs.Node.{width}
use Rattle.definition.specs.Arena.{lowest}
use Rattle.definition.specs.Buckets.{exclusive_or, fnv_from, fnv_1a}
use Rattle.definition.specs.State.{State}
use Rattle.definition.specs.Load.{Lists, LoadCall, load, room_of, load_tests, load_wrong, load_done, load_if, load_call}
use Rattle.definition.specs.LoadHashed.{HashedCall, bad_buckets, hashed_wrong, hashed_done, hashed_if, hashed_call}
use Rattle.definition.specs.Starred.{looks, holds}

-- the words looked at and the bucket table left out
abbrev pub unhashed : HashedCall → LoadCall
unhashed c = record { answer = c.answer.load; lent = c.lent }

-- a last test that does not hold
pub last_passes : (ts : List (ℕ × Bool)) (n : ℕ) → lowest (ts ++ ((n, false) ∷ [])) ≡ lowest ts
unfolding lowest pick
last_passes [] n = refl
last_passes ((m, true) ∷ ts) n = refl
last_passes ((m, false) ∷ ts) n = last_passes ts n

-- "with the bucket table allowed, the hashed load and the searching load give the same answer and tables on every input"
pub hashed_is_load : (input : List ℕ) (T : Lists) (B : List ℕ) (limit : ℕ)
    → bad_buckets (length T.nodes / width) (length B) ≡ false → unhashed (hashed_call input T B limit) ≡ load_call input T limit
unfolding hashed_call hashed_if hashed_done hashed_wrong load_call load_if load_wrong
hashed_is_load input T B limit e = rw e (rw (last_passes (load_tests input T limit) 11) (by_wrong (lowest (load_tests input T limit))))
  where
    by_outcome : (o : Outcome State ℕ) → unhashed (hashed_done T B o) ≡ load_done T o
    by_outcome (ok h s) = refl
    by_outcome (refused r) = refl

    by_wrong : (n : ℕ) → unhashed (hashed_if n input T B limit) ≡ load_if n input T limit
    by_wrong zero = by_outcome (load input (room_of T) limit)
    by_wrong (suc n) = refl

-- FNV-1a of no byte, of a and of foobar
hashes : holds fnv_1a (([], 2166136261) ∷ (0x61 ∷ [], 3826002220) ∷ (0x66 ∷ 0x6F ∷ 0x6F ∷ 0x62 ∷ 0x61 ∷ 0x72 ∷ [], 3214735720) ∷ [])
unfolding holds fnv_1a fnv_from exclusive_or
hashes = refl

-- room for so many nodes, so many words in the bucket table, and an input: the answer and the words looked at
abbrev searched : List ((ℕ × ℕ × List ℕ) × ((ℕ × ℤ × ℤ) × ℕ))
searched =
    -- nothing is searched for
    ((2, 2, 0x04 ∷ 0x08 ∷ 0x30 ∷ []), ((0, pos 0, pos 0), 0))
    -- a name, and the same again: one word each
    ∷ ((2, 2, 0x04 ∷ 0x08 ∷ 0x3A ∷ 0x06 ∷ 0x61 ∷ []), ((0, pos 0, pos 0), 1))
    ∷ ((3, 3, 0x04 ∷ 0x08 ∷ 0x5B ∷ 0x07 ∷ 0x3A ∷ 0x06 ∷ 0x61 ∷ 0x3A ∷ 0x06 ∷ 0x61 ∷ []), ((0, pos 0, pos 0), 2))
    -- two names that start at words 0 and 3 of 4, and at one word: 0, then 1
    ∷ ((4, 4, 0x04 ∷ 0x08 ∷ 0x5B ∷ 0x07 ∷ 0x3A ∷ 0x06 ∷ 0x61 ∷ 0x3A ∷ 0x06 ∷ 0x64 ∷ []), ((0, pos 0, pos 0), 2))
    ∷ ((4, 4, 0x04 ∷ 0x08 ∷ 0x5B ∷ 0x07 ∷ 0x3A ∷ 0x06 ∷ 0x61 ∷ 0x3A ∷ 0x06 ∷ 0x65 ∷ []), ((0, pos 0, pos 0), 3))
    ∷ ((4, 4, 0x04 ∷ 0x08 ∷ 0x5B ∷ 0x07 ∷ 0x3A ∷ 0x06 ∷ 0x62 ∷ 0x3A ∷ 0x06 ∷ 0x66 ∷ []), ((0, pos 0, pos 0), 3))
    -- from the last word to the first, zero or not
    ∷ ((4, 4, 0x04 ∷ 0x08 ∷ 0x5B ∷ 0x07 ∷ 0x3A ∷ 0x06 ∷ 0x64 ∷ 0x3A ∷ 0x06 ∷ 0x68 ∷ []), ((0, pos 0, pos 0), 3))
    ∷ ((5, 5, 0x04 ∷ 0x08 ∷ 0x5B ∷ 0x08 ∷ 0x3A ∷ 0x06 ∷ 0x61 ∷ 0x3A ∷ 0x06 ∷ 0x65 ∷ 0x3A ∷ 0x06 ∷ 0x6A ∷ []), ((0, pos 0, pos 0), 5))
    ∷ ((5, 5, 0x04 ∷ 0x08 ∷ 0x5B ∷ 0x09 ∷ 0x3A ∷ 0x06 ∷ 0x61 ∷ 0x3A ∷ 0x06 ∷ 0x65 ∷ 0x3A ∷ 0x06 ∷ 0x6A ∷ 0x3A ∷ 0x06 ∷ 0x6A ∷ []), ((0, pos 0, pos 0), 8))
    -- more words than nodes
    ∷ ((4, 9, 0x04 ∷ 0x08 ∷ 0x5B ∷ 0x07 ∷ 0x3A ∷ 0x06 ∷ 0x61 ∷ 0x3A ∷ 0x06 ∷ 0x65 ∷ []), ((0, pos 0, pos 0), 2))
    -- at a name's place, and not by a link
    ∷ ((4, 4, 0x04 ∷ 0x08 ∷ 0x6F ∷ 0x3A ∷ 0x06 ∷ 0x61 ∷ 0x06 ∷ 0x3A ∷ 0x06 ∷ 0x61 ∷ 0x30 ∷ []), ((0, pos 0, pos 0), 2))
    ∷ ((4, 4, 0x04 ∷ 0x08 ∷ 0x6F ∷ 0x3A ∷ 0x06 ∷ 0x61 ∷ 0x06 ∷ 0x3B ∷ 0x00 ∷ 0x30 ∷ []), ((0, pos 0, pos 0), 1))
    -- a class's name
    ∷ ((5, 5, 0x04 ∷ 0x08 ∷ 0x5B ∷ 0x07 ∷ 0x43 ∷ 0x3A ∷ 0x06 ∷ 0x61 ∷ 0x5B ∷ 0x00 ∷ 0x43 ∷ 0x3A ∷ 0x06 ∷ 0x61 ∷ 0x5B ∷ 0x00 ∷ []), ((0, pos 0, pos 0), 2))
    -- the empty name
    ∷ ((3, 3, 0x04 ∷ 0x08 ∷ 0x5B ∷ 0x07 ∷ 0x3A ∷ 0x00 ∷ 0x3A ∷ 0x00 ∷ []), ((0, pos 0, pos 0), 2))
    -- refused
    ∷ ((4, 4, 0x04 ∷ 0x08 ∷ 0x5B ∷ 0x08 ∷ 0x3A ∷ 0x06 ∷ 0x61 ∷ 0x3A ∷ 0x06 ∷ 0x61 ∷ []), ((4, pos 0, pos 0), 0))
    ∷ ((1, 1, 0x04 ∷ 0x08 ∷ 0x3A ∷ 0x00 ∷ []), ((12, pos 1, pos 0), 0))
    -- too few words, after every lower slice
    ∷ ((4, 3, 0x04 ∷ 0x08 ∷ 0x30 ∷ []), ((1, pos 11, pos 0), 0))
    ∷ ((0, 0, 0x04 ∷ 0x08 ∷ 0x30 ∷ []), ((1, pos 1, pos 0), 0))
    ∷ []

looked : holds looks searched
unfolding holds looks
looked = refl
