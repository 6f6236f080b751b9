-- Dumps that stand one after the other in one input, loaded one after the other.
use Rattle.std.specs.Prelude.{ℕ, ◌+◌, ◌≤◌, ◌≡◌, refl, Bool, true, false, List, [], ◌∷◌, ◌++◌, leb, length, drop}
use Rattle.std.proofs.Common.{ap, sym, ◌∙◌, subst, leb-true, leb-false, arith}
use Rattle.definition.specs.Slice.{greatest_length}
use Rattle.definition.specs.Arena.{Arena, arena, tables_of}
use Rattle.definition.specs.Load.{Lists, LoadCall, load_call}
use Rattle.definition.specs.Reader.{load_next, offset_after}
use Rattle.definition.specs.Graph.{SameGraph}
use Rattle.definition.specs.Refused.{Accepted, Refused}
use Rattle.definition.specs.declared.Refusal.{Refusal}
use Rattle.lists.specs.Offsets.{next_allowed, next_denied}
use Rattle.load_text.specs.Input.{Ahead, ahead_past}
use Rattle.round_trip.specs.Statement.{AreBytes, LoadAllowed, NoSmaller, LoadAccepted, DumpAccepted, tables, counts, filled, written, Again}
use Rattle.round_trip.specs.Theorem.{round_trip}
use Rattle.streams.specs.Longer.{Lendable, accepted_goes_on, refused_none}

-- ---- the statement

-- one dump of a stream, as demand 3 has it, and what is lent to the call that is to load it
pub record Part : Type 0 where
  -- X is loaded by an accepted call
  pub X : List ℕ
  pub T : Lists
  pub limit_x : ℕ
  pub are_bytes : AreBytes X
  pub loaded : LoadAccepted X T limit_x
  -- the arena filled is dumped by an accepted call
  pub scratch_p : List ℕ
  pub output_p : List ℕ
  pub limit_p : ℕ
  pub dumped : DumpAccepted (tables X T limit_x) (counts X T limit_x) scratch_p output_p limit_p
  -- to be loaded with allowed tables and lists, each no smaller, and a limit no lower
  pub T' : Lists
  pub limit : ℕ
  pub allowed : LoadAllowed T' limit
  pub no_smaller : NoSmaller T T'
  pub no_lower : limit_p ≤ limit

module _ (p : Part) where
  -- the arena that was filled and dumped, and the bytes written
  abbrev pub P : Arena
  P = filled p.X p.T p.limit_x

  abbrev pub C : List ℕ
  C = written (tables p.X p.T p.limit_x) (counts p.X p.T p.limit_x) p.scratch_p p.output_p p.limit_p

-- C₁ ++ … ++ Cₙ
abbrev pub stream : List Part → List ℕ
stream [] = []
stream (p ∷ ps) = C p ++ stream ps

-- the arena that a call filled
abbrev pub arena_in : LoadCall → Arena
arena_in c = arena (tables_of c.lent.nodes c.lent.references c.lent.bytes) c.answer.counts

-- the load at an offset where a part stands
pub record LoadsPart (input : List ℕ) (offset : ℕ) (p : Part) : Type 1 where
  pub accepted : (load_next input offset p.T' p.limit).answer.answer ≡ Accepted
  -- it fills an arena that holds the same graph as P
  pub same : SameGraph (P p) (arena_in (load_next input offset p.T' p.limit))
  -- it leaves the offset at the end of C
  pub ends : offset_after input offset p.T' p.limit ≡ offset + length (C p)
  -- its answer, and everything lent as it then stands, are those of a load of C alone
  pub as_alone : load_next input offset p.T' p.limit ≡ load_call (C p) p.T' p.limit

-- the parts are loaded one after the other from an offset on; after the last the offset is the length of the input
pub data Loads (input : List ℕ) : ℕ → List Part → Type 1 where
  none_left : {offset : ℕ} → offset ≡ length input → Loads input offset []
  one_more : {offset : ℕ} {p : Part} {ps : List Part} → LoadsPart input offset p → Loads input (offset_after input offset p.T' p.limit) ps → Loads input offset (p ∷ ps)

-- any dumps one after the other, together no longer than a lent slice may be
abbrev pub StreamLoads : Type 1
StreamLoads = (ps : List Part) → Lendable (stream ps) → Loads (stream ps) 0 ps

-- ---- the proof

-- a refused load leaves the offset
pub refused_stays : (input : List ℕ) (offset : ℕ) (T : Lists) (limit : ℕ) (r : Refusal) → (load_next input offset T limit).answer.answer ≡ Refused r → offset_after input offset T limit ≡ offset
refused_stays input offset T limit r e = by (leb (length input) greatest_length) refl
  where
    -- a call that is load's, of some input
    stays : (i : List ℕ) → load_next input offset T limit ≡ load_call i T limit → offset_after input offset T limit ≡ offset
    stays i f = let u : (load_next input offset T limit).answer.used ≡ 0 = ap (λ (c : LoadCall). c.answer.used) f ∙ refused_none i T limit r (sym (ap (λ (c : LoadCall). c.answer.answer) f) ∙ e) in omega (arith, u)

    by : (t : Bool) → leb (length input) greatest_length ≡ t → offset_after input offset T limit ≡ offset
    by true q = stays (drop offset input) (next_allowed input offset T limit (leb-true _ _ q))
    by false q = stays input (next_denied input offset T limit (leb-false _ _ q))

again : (p : Part) → Again (P p) (C p) p.T' p.limit
again p =
    (round_trip p.X p.X p.T p.T p.limit_x p.limit_x p.are_bytes p.are_bytes p.loaded p.loaded
    p.scratch_p p.scratch_p p.output_p p.output_p p.limit_p p.limit_p p.dumped p.dumped).1 p.T' p.limit p.allowed p.no_smaller p.no_lower

-- a part with anything behind it
loads_part : (input : List ℕ) (offset : ℕ) (p : Part) (more : List ℕ) → Lendable input → Ahead input offset (C p ++ more) → LoadsPart input offset p
loads_part input offset p more m a =
    let g = again p in
    let e : load_next input offset p.T' p.limit ≡ load_call (C p) p.T' p.limit =
    next_allowed input offset p.T' p.limit m ∙ ap (λ (i : List ℕ). load_call i p.T' p.limit) a.rest ∙ accepted_goes_on (C p) more p.T' p.limit (omega (arith, a.size)) g.accepted in
    record {
      accepted = ap (λ (c : LoadCall). c.answer.answer) e ∙ g.accepted;
      same = subst (SameGraph (P p)) (sym (ap arena_in e)) g.same;
      ends = ap (λ (c : LoadCall). offset + c.answer.used) e ∙ ap (λ (u : ℕ). offset + u) g.all_used;
      as_alone = e;
    }

from_offset : (input : List ℕ) (offset : ℕ) (ps : List Part) → Lendable input → Ahead input offset (stream ps) → Loads input offset ps
from_offset input offset [] m a = none_left {offset = offset} (omega (arith, a.size))
from_offset input offset (p ∷ ps) m a =
    let l = loads_part input offset p (stream ps) m a in
    one_more l (subst (λ (k : ℕ). Loads input k ps) (sym l.ends) (from_offset input (offset + length (C p)) ps m (ahead_past (C p) (stream ps) a)))

pub stream_loads : StreamLoads
stream_loads ps m = from_offset (stream ps) 0 ps m (record { rest = refl; size = omega arith })
