-- An entry of the symbol list or the object list.
use Prim.Native.Nat.{ℕ, ◌≤◌, ◌<◌}
use native.Mathlib.Omega.{arith}
use mathlib.Core.Path.{◌≡◌, refl, sym, ap}
use mathlib.Core.List.{List}
use lib.ListN.{length, get_or}
use Rattle.std.specs.Prelude.{Ok, Err}
use borrow.Author.Tests.{lt-ltb, le-ltb}
use Rattle.definition.specs.Run.{ok, pure, look, pick}
use Rattle.definition.specs.State.{Room, State}
use Rattle.definition.specs.Load.{entry}
use Rattle.definition.specs.declared.Refusal.{Refusal}
use Rattle.reader.specs.Answers.{refusal_at}
use Rattle.reader.specs.declared.Stop.{Stop}
use Rattle.load_state.specs.declared.Progress.{Progress}
use Rattle.load_state.specs.Holds.{Symbols, Lent, lent, Holds, Goes, Meets}
use Rattle.load_state.specs.Stores.{at_held}
use Rattle.load_state.specs.Laws.{denied, given, still}
use Rattle.load_state.specs.Changed.{went, grown_rows}
use Rattle.load_state.specs.Behind.{behind_still}

-- a list lent of which the first `known` are the state's list
abbrev pub Listed : List ℕ → ℕ → List ℕ → Type 0
Listed t known l = (known ≡ length l) × ((i : ℕ) → i < length l → get_or t i 0 ≡ get_or l i 0)

pub objects_listed : {input : List ℕ} {room : Room} {T : Lent} {c : Progress} (s : State) → Holds input room s T c → Listed T.objects c.objects s.objects
objects_listed s H = (H.counted.count_objects, λ i l. at_held i H.laid.objects l)

pub symbols_listed : {input : List ℕ} {room : Room} {T : Lent} {c : Progress} (s : State) → Holds input room s T c → Listed T.symbols.list c.symbols s.symbols
symbols_listed s H = (H.counted.count_symbols, λ i l. at_held i H.laid.symbols l)

-- ---- an entry of a list

module _ {input : List ℕ} {room : Room} {limit : ℕ} {T : Lent} {c : Progress} (t : List ℕ) {known : ℕ} (l : State → List ℕ) (n : ℕ) (q : Refusal) (y : (s : State) → Holds input room s T c → Listed t known (l s)) where
  pub linked : n < known → Meets input room limit (look λ s. entry (l s) n q) T c (Ok (get_or t n 0)) T c
  unfolding look entry pick pure
  linked h = given (still (λ s H. let lt : n < length (l s) = omega (arith, (y s H).0, h) in simp (lt-ltb _ _ lt) (ap (λ (v : ℕ). ok v s) (sym ((y s H).1 n lt)))))

  pub unlinked : {T' : Lent} {c' : Progress} {s : Stop} → known ≤ n → refusal_at limit s.code ≡ q → Meets input room limit (look λ s. entry (l s) n q) T c (Err s) T' c'
  unfolding look entry pick
  unlinked h e = denied q e (record { refuses = λ s H. let le : length (l s) ≤ n = omega (arith, (y s H).0, h) in simp (le-ltb _ _ le) })

module _ {input : List ℕ} {room : Room} {c : Progress} {no re by : List ℕ} {sy : Symbols} {ob : List ℕ} where
  pub symbol_listed : (i : ℕ) (q : Refusal) → i < c.symbols → Goes input room (look λ s. entry s.symbols i q) (lent no re by sy ob) c (pure (get_or sy.list i 0)) (lent no re by sy ob) c
  unfolding look entry pick
  symbol_listed i q l = record {
    goes = λ s H.
        let lt : i < length s.symbols = omega arith in
        went H (simp (lt-ltb _ _ lt, at_held i H.laid.symbols lt)) (grown_rows refl (omega arith)) (behind_still refl refl refl refl refl);
    counts = refl;
  }
