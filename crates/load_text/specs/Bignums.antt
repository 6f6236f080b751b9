-- A Bignum: the sign, the count and the units that dump writes are read, and say the number.
use Prim.Native.Nat.{ℕ, ◌+◌, ◌*◌, ◌/◌, ◌%◌, ◌≤◌, ◌<◌}
use Rattle.std.specs.Prelude.{◌≡◌, Bool, true, false, eqb}
use Rattle.std.proofs.Math.Path.{refl}
use Rattle.std.proofs.Common.{ap, sym as psym, ◌∙◌, eq-eqb, le-leb}
use mathlib.Core.List.{List, [], ◌∷◌, ◌++◌, append_assoc}
use Rattle.std.proofs.Math.ListN.{length, length-append}
use native.Mathlib.Omega.{arith}
use Rattle.definition.specs.Run.{ok, pure, pick}
use Rattle.definition.specs.Integer.{integer_bytes}
use Rattle.definition.specs.Magnitude.{fewest_units, sign_byte, unit_bytes, bignum_bytes, bignum_row}
use Rattle.definition.specs.Kind.{PLUS, MINUS}
use Rattle.definition.specs.Node.{bignum}
use Rattle.definition.specs.State.{Room, State, at_set}
use Rattle.definition.specs.Load.{read_bytes, read_sign, read_unit_count, add_bignum, read_magnitude, read_bignum}
use Rattle.definition.specs.Graph.{header_of}
use Rattle.lists.specs.Lists.{len_snoc}
use Rattle.lists.specs.Joined.{yes_and}
use Rattle.lists.specs.Words.{equal_self, length_low}
use Rattle.lists.specs.Magnitudes.{few_units, unit_bytes_say, of_words}
use Rattle.graph.specs.Forest.{Node, Num, add_o, F, f_end, f_box}
use Rattle.graph.specs.Build.{b_end}
use Rattle.graph.specs.View.{arena_of, state_seen}
use Rattle.well_formed.specs.Right.{NumberRight}
use Rattle.states.specs.Rows.{see_bignum}
use Rattle.states.specs.States.{with_object_node, inside_bignum, above_bignum, frame_at_set, keeps_refl}
use Rattle.states.specs.Right.{sign_kept}
use Rattle.load_text.specs.Steps.{step, note_runs, add_object_node_runs}
use Rattle.load_text.specs.Input.{Ahead, ahead_past, ahead_as, read_byte_ahead, read_bytes_ahead, read_count_ahead}
use Rattle.load_text.specs.Items.{Takes}
use Rattle.load_text.specs.Boxes.{node_step}

-- ---- the sign

sign_ahead : (input : List ℕ) (s : State) (minus : Bool) (x : List ℕ) → Ahead input s.at (sign_byte minus ∷ x) → read_sign input s ≡ ok (sign_byte minus) (at_set (s.at + 1) s)
unfolding read_sign sign_byte pick pure
sign_ahead input s true x a = step _ _ s MINUS _ (read_byte_ahead input s MINUS x a)
sign_ahead input s false x a = step _ _ s PLUS _ (read_byte_ahead input s PLUS x a)

-- the sign byte says the sign
pub sign_said : (minus : Bool) → eqb (sign_byte minus) MINUS ≡ minus
unfolding sign_byte
sign_said true = refl
sign_said false = refl

-- ---- the count and the units

unit_count_ahead : (input : List ℕ) (s : State) (n : ℕ) (x : List ℕ) → n ≤ 4 → Ahead input s.at (integer_bytes n ++ x)
    → read_unit_count input s ≡ ok n (at_set (s.at + length (integer_bytes n)) s)
unfolding read_unit_count pick pure
unit_count_ahead input s n x h a = step _ _ s n _ (read_count_ahead input s n x (omega arith) a) ∙ rw (le-leb n 4 h)

units_ahead : (input : List ℕ) (s : State) (m : ℕ) (x : List ℕ) → Ahead input s.at (unit_bytes m ++ x)
    → read_bytes input (fewest_units m * 2) s ≡ ok (unit_bytes m) (at_set (s.at + length (unit_bytes m)) s)
unfolding unit_bytes
units_ahead input s m x a = ap (λ (n : ℕ). read_bytes input n s) (psym (length_low (fewest_units m * 2) m)) ∙ read_bytes_ahead input s (unit_bytes m) x a

-- ---- the node

module _ (input : List ℕ) (room : Room) where
  -- as dump writes it, so nothing is noted
  add_runs : (m : ℕ) (minus : Bool) → NumberRight m minus → (s : State) → length s.nodes < room.nodes → length s.objects < room.objects
      → add_bignum room (sign_byte minus) (unit_bytes m) m s ≡ ok (length s.nodes) (with_object_node (bignum (m % 4294967296) (m / 4294967296) minus) s)
  unfolding add_bignum bignum_row
  add_runs m minus h s l₁ l₂ =
      let e = sign_kept m minus h in
      rw (sign_said minus, e)
      (step _ _ s tt s (note_runs _ s (yes_and _ _ (eq-eqb (sign_byte minus) (sign_byte minus) refl) (equal_self (unit_bytes m))))
      ∙ add_object_node_runs room s (bignum (m % 4294967296) (m / 4294967296) minus) l₁ l₂)

  bignum_runs : (m : ℕ) (minus : Bool) → NumberRight m minus → (s : State) (y : List ℕ) → Ahead input s.at (bignum_bytes minus m ++ y)
      → length s.nodes < room.nodes → length s.objects < room.objects
      → read_bignum input room s ≡ ok (length s.nodes) (with_object_node (bignum (m % 4294967296) (m / 4294967296) minus) (at_set (s.at + length (bignum_bytes minus m)) s))
  unfolding read_bignum read_magnitude bignum_bytes pick
  bignum_runs m minus h s y a l₁ l₂ =
      let n = fewest_units m in
      let c = integer_bytes n in
      let bs = unit_bytes m in
      let s₁ = at_set (s.at + 1) s in
      let s₂ = at_set (s.at + 1 + length c) s in
      let s₃ = at_set (s.at + 1 + length c + length bs) s in
      let a₁ : Ahead input (s.at + 1) (c ++ (bs ++ y)) = ahead_as _ _ (append_assoc c bs y) (ahead_past (sign_byte minus ∷ []) (c ++ bs ++ y) a) in
      let a₂ = ahead_past c (bs ++ y) a₁ in
      let e : s.at + 1 + length c + length bs ≡ s.at + length (sign_byte minus ∷ (c ++ bs)) = omega (arith, length-append c bs) in
      step _ _ s (sign_byte minus) s₁ (sign_ahead input s minus (c ++ bs ++ y) a) ∙ step _ _ s₁ n s₂ (unit_count_ahead input s₁ n (bs ++ y) (few_units m) a₁)
      ∙ step _ _ s₂ bs s₃ (units_ahead input s₂ m y a₂) ∙ rw (unit_bytes_say m h.0, h.0, ← e) (add_runs m minus h s₃ l₁ l₂)

  pub takes_bignum : (P : List Node) (m : ℕ) (minus : Bool) → NumberRight m minus → (r : F) (σ : Num) (v : ℕ)
      → Takes input room P (read_bignum input room) (f_box (header_of 10 m [] 0 minus false) f_end f_end r) r (bignum_bytes minus m) σ (add_o v σ)
  unfolding state_seen pick
  takes_bignum P m minus h r σ v s y i a b g =
      let low : ℕ = m % 4294967296 in
      let high : ℕ = m / 4294967296 in
      let w = at_set (s.at + length (bignum_bytes minus m)) s in
      let l₁ = len_snoc s.nodes (bignum low high minus) in
      let l₂ = len_snoc s.objects (length s.nodes) in
      node_step input room P (read_bignum input room) (header_of 10 m [] 0 minus false) (bignum low high minus) f_end r σ v s w [] y
      (bignum_runs m minus h s y b (omega (arith, g.nodes)) (omega (arith, g.objects))) b_end (omega arith) (see_bignum (arena_of w 0) low high m minus (of_words m))
      (ahead_past (bignum_bytes minus m) y b) i a (inside_bignum low high minus w) (above_bignum _ low high minus) (frame_at_set _ _ s) (keeps_refl s w refl) refl
      (record { nodes = omega arith; objects = omega arith; symbols = omega arith; references = omega arith; bytes = omega arith })
