-- The steps of a load that have room.
use Rattle.std.specs.Prelude.{ℕ, suc, ◌+◌, ◌-◌, ◌≤◌, ◌<◌, ◌≡◌, refl, Bool, true, List}
use Rattle.std.proofs.Common.{◌∙◌, arith, le-leb}
use Rattle.std.proofs.Math.ListN.{length}
use Rattle.definition.specs.Run.{Run, ok, next, ◌>>=◌, pick}
use Rattle.definition.specs.Node.{Row}
use Rattle.definition.specs.State.{Room, State, compared_more}
use Rattle.definition.specs.Load.{note, compare, add_node, reserve, add_bytes, add_symbol, add_object, add_object_node, put_reference, entry}
use Rattle.lists.specs.Lists.{At, at_lt, get_d_at}
use Rattle.states.specs.States.{with_node, with_object, with_symbol, with_object_node, with_bytes, with_word, with_room}

-- a step that went well, then the rest
pub step : {S A B : Type 0} (m : Run S A) (f : A → Run S B) (s : S) (a : A) (t : S) → m s ≡ ok a t → (m >>= f) s ≡ f a t
unfolding ◌>>=◌ next
step m f s a t e = rw e

-- a test that holds changes no note
pub note_runs : (b : Bool) (s : State) → b ≡ true → note b s ≡ ok tt s
unfolding note
note_runs b s e = rw e

pub compare_runs : (n : ℕ) (s : State) → compare n s ≡ ok tt (compared_more n s)
unfolding compare
compare_runs n s = refl

module _ (room : Room) (s : State) where
  pub add_node_runs : (r : Row) → length s.nodes < room.nodes → add_node room r s ≡ ok (length s.nodes) (with_node r s)
  unfolding add_node pick
  add_node_runs r h = rw (le-leb (suc (length s.nodes)) room.nodes h)

  pub reserve_runs : (n : ℕ) → length s.references + n ≤ room.references → reserve room n s ≡ ok (length s.references) (with_room n s)
  unfolding reserve pick
  reserve_runs n h = rw (le-leb n (room.references - length s.references) (omega arith))

  pub add_bytes_runs : (b : List ℕ) → length s.bytes + length b ≤ room.bytes → add_bytes room b s ≡ ok (length s.bytes) (with_bytes b s)
  unfolding add_bytes pick
  add_bytes_runs b h = rw (le-leb (length b) (room.bytes - length s.bytes) (omega arith))

  pub add_symbol_runs : (h : ℕ) → length s.symbols < room.symbols → add_symbol room h s ≡ ok h (with_symbol h s)
  unfolding add_symbol pick
  add_symbol_runs h l = rw (le-leb (suc (length s.symbols)) room.symbols l)

  pub add_object_runs : (h : ℕ) → length s.objects < room.objects → add_object room h s ≡ ok h (with_object h s)
  unfolding add_object pick
  add_object_runs h l = rw (le-leb (suc (length s.objects)) room.objects l)

pub add_object_node_runs : (room : Room) (s : State) (r : Row) → length s.nodes < room.nodes → length s.objects < room.objects
    → add_object_node room r s ≡ ok (length s.nodes) (with_object_node r s)
unfolding add_object_node
add_object_node_runs room s r h k = step _ _ s _ _ (add_node_runs room s r h) ∙ add_object_runs room (with_node r s) (length s.nodes) k

pub put_runs : (i v : ℕ) (s : State) → put_reference i v s ≡ ok tt (with_word i v s)
unfolding put_reference
put_runs i v s = refl

pub entry_runs : (l : List ℕ) (i v : ℕ) (s : State) → At l i v → (x : _) → entry l i x s ≡ ok v s
unfolding entry pick
entry_runs l i v s a x = rw (le-leb (suc i) (length l) (at_lt l i v a), get_d_at l i 0 v a)
