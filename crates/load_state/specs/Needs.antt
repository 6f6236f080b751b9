-- What is held, for the code's needs.
use Rattle.std.specs.Prelude.{ℕ, zero, suc, ◌+◌, ◌*◌, ◌≤◌, ◌<◌, true, ◌≡◌, List, length, get_or}
use Rattle.std.proofs.Common.{arith, sym, subst, length-take, length-drop, Fits}
use Rattle.definition.specs.Node.{nil, width}
use Rattle.definition.specs.State.{Room, State}
use Rattle.definition.specs.Slice.{greatest_length}
use Rattle.load_state.specs.declared.Progress.{Progress}
use Rattle.load_state.specs.Holds.{Lent, Holds, Held, Symbolic, span, span_of}
use Rattle.load_state.specs.Stores.{at_held}
use Rattle.std.specs.Int.{w32}

pub object_below : {input : List ℕ} {T : Lent} {c : Progress} {i : ℕ} → Held input T c → i < c.objects → get_or T.objects i 0 < c.nodes
object_below {i = i} H l =
    let lt : i < length H.state.objects = omega arith in
    omega (arith, at_held i H.holds.laid.objects lt, H.holds.known.below i lt)

-- the symbol that an entry of the list is
pub entry_symbolic : {input : List ℕ} {room : Room} {s : State} {T : Lent} {c : Progress} (i : ℕ) → T.symbols.searched ≡ true → Holds input room s T c → i < c.symbols → Symbolic (get_or s.nodes (get_or T.symbols.list i 0) nil)
entry_symbolic {s = s} i a H l =
    let lt : i < length s.symbols = omega (arith, H.counted.count_symbols) in
    subst (λ (h : ℕ). Symbolic (get_or s.nodes h nil)) (sym (at_held i H.laid.symbols lt)) ((H.known.names a).interned.symbolic i lt)

pub symbol_below : {input : List ℕ} {T : Lent} {c : Progress} {i : ℕ} → Held input T c → i < c.symbols → get_or T.symbols.list i 0 < c.nodes
symbol_below {i = i} H l =
    let lt : i < length H.state.symbols = omega arith in
    omega (arith, at_held i H.holds.laid.symbols lt, H.holds.known.entries i lt)

-- ---- what is held, for the code's needs

module _ {input : List ℕ} {T : Lent} {c : Progress} (H : Held input T c) where
  pub at_inside : c.at ≤ length input
  at_inside = omega arith

  pub nodes_small : length T.nodes ≤ greatest_length
  nodes_small = omega arith

  pub space_fits : c.room * width ≤ length T.nodes
  space_fits = omega arith

  pub slot_room : {h : ℕ} → h < c.nodes → h * width + width ≤ length T.nodes
  slot_room l = omega arith

  pub next_fits : {h : ℕ} → h < c.nodes → Fits w32 (h + 1)
  next_fits l = record { fits = omega arith }

pub twice_at_most : (n e : ℕ) → n < 2147483648 → e ≤ 2 → n * e < 18446744073709551616
twice_at_most n zero l h = omega arith
twice_at_most n (suc zero) l h = omega arith
twice_at_most n (suc (suc zero)) l h = omega arith
twice_at_most n (suc (suc (suc e))) l h = absurd (omega arith)

pub span_length : (input : List ℕ) (c : Progress) (n : ℕ) → n ≤ c.at → c.at ≤ length input → length (span_of input c n) ≡ n
span_length input c n l h = simp (length-take, length-drop) (omega arith)

pub length_span : (input : List ℕ) (at n : ℕ) → n ≤ at → at ≤ length input → length (span input at n) ≡ n
length_span input at n l h = simp (length-take, length-drop) (omega arith)
