-- A loaded arena has no two symbols of one name.
use Rattle.std.specs.Prelude.{ℕ, zero, suc, ◌≡◌, List}
use Rattle.definition.specs.Run.{ok}
use Rattle.definition.specs.State.{State, Room}
use Rattle.definition.specs.Load.{begin, load}
use Rattle.lists.specs.Lists.{apart}
use Rattle.graph.specs.Build.{Names, names}
use Rattle.graph.specs.View.{see, seen, arena_of, state_seen}
use Rattle.load_forest.specs.Sound.{load_sound}
use Rattle.states.specs.States.{seen_root}
use Rattle.definition.specs.Graph.{header}

-- at the beginning there is only nil
begin_names : Names (state_seen begin).nodes
unfolding state_seen seen see header
begin_names zero j b e f = apart (cc)
begin_names (suc i) j b e f = apart (cc)

pub load_names : (input : List ℕ) (room : Room) (limit h : ℕ) (s : State) → load input room limit ≡ ok h s → Names (state_seen s).nodes
load_names input room limit h s e = names (load_sound input room limit h s e).1 begin_names

pub load_arena_names : (input : List ℕ) (room : Room) (limit h : ℕ) (s : State) → load input room limit ≡ ok h s → Names (seen (arena_of s h))
load_arena_names input room limit h s e = rw (seen_root s h) (load_names input room limit h s e)
