-- A name read, searched for on the list, found or made.
use Rattle.std.specs.Prelude as code
use Rattle.std.specs.Prelude.{Some, None, IfSome, is_some, Err}
use Prim.Native.Nat.{ℕ, ◌+◌, ◌-◌, ◌*◌, ◌≤◌, ◌<◌}
use native.Mathlib.Omega.{arith}
use mathlib.Core.Path.{◌≡◌, refl, sym, ap, ◌∙◌, subst}
use mathlib.Core.Bool.{false}
use mathlib.Core.List.{List}
use mathlib.Core.Option.{Option}
use lib.Dec.{eqb}
use lib.ListN.{length, get_or, take, drop}
use borrow.Author.Tests.{ne_eqb, eq-eqb, le-leb}
use Rattle.definition.specs.Run.{pure, refuse, pick, look, ◌>>=◌}
use Rattle.definition.specs.Kind.{SYMBOL, SYMBOL_LINK}
use Rattle.definition.specs.Node.{nil, symbol}
use Rattle.definition.specs.Arena.{range, find_symbol, compared_among}
use Rattle.definition.specs.State.{Room, State, Reader, at_set, compared_more}
use Rattle.definition.specs.Load.{note, compare, read_symbol, read_symbol_link, read_symbol_like, read_bytes, intern, intern_as, add_symbol, add_bytes, add_node}
use Rattle.definition.specs.declared.Refusal.TheVariants.{NotASymbol}
use Rattle.load_state.specs.declared.Progress.{Progress}
use Rattle.load_state.specs.Holds.{Lent, Holds, Goes, Leads, Symbolic, span}
use Rattle.symbol_search.specs.Search.{Found}
use Rattle.symbol_reader.specs.Parts.{read_name, add_name}
use Rattle.table_writer.specs.Parts.{new_symbol}
use Rattle.reader.specs.Answers.{refusal_at, stop}
use Rattle.reader.specs.declared.Stop.{Stop}
use Rattle.load_state.specs.Laws.{still, goes_to, goes_first, lead_first, lead_after, lead_stop, refuses, bind_assoc}
use Rattle.load_state.specs.Changed.{grown_rows, name_passed}
use Rattle.load_state.specs.Needs.{length_span}
use Rattle.input_reader.proofs.Input.{lost, byte_goes, byte_missing}
use Rattle.symbol_search.proofs.Turns.{rows_most}
use Rattle.symbol_search.proofs.Looked.{is_there}
use Rattle.load_state.specs.Behind.{behind_still}

-- ---- a name

module _ {input : List ℕ} {room : Room} {T : Lent} {c : Progress} (l : c.at < length input) where
  like : Goes input room (read_symbol_like input room) T c (pick (eqb (get_or input c.at 0) SYMBOL) (read_symbol input room) (pick (eqb (get_or input c.at 0) SYMBOL_LINK) (read_symbol_link input) (refuse (NotASymbol (get_or input c.at 0))))) T (record c { at = c.at + 1 })
  unfolding read_symbol_like
  like = goes_first _ (byte_goes l)

  pub like_symbol : get_or input c.at 0 ≡ SYMBOL → Goes input room (read_symbol_like input room) T c (read_symbol input room) T (record c { at = c.at + 1 })
  unfolding pick
  like_symbol e = goes_to (simp (eq-eqb _ _ e)) like

  pub like_link : get_or input c.at 0 ≡ SYMBOL_LINK → Goes input room (read_symbol_like input room) T c (read_symbol_link input) T (record c { at = c.at + 1 })
  unfolding pick
  like_link e = goes_to (rw e refl) like

  pub like_neither : {limit : ℕ} {T' : Lent} {c' : Progress} {V : Type 0} {m' : V → Reader ℕ} {s : Stop} → refusal_at limit s.code ≡ NotASymbol (get_or input c.at 0) → (get_or input c.at 0 ≡ SYMBOL → ⊥) → (get_or input c.at 0 ≡ SYMBOL_LINK → ⊥) → Leads input room limit (read_symbol_like input room) m' T c (Err s) T' c'
  unfolding pick
  like_neither h a b = lead_after (goes_to (simp (ne_eqb _ _ a, ne_eqb _ _ b)) like) (refuses (NotASymbol (get_or input c.at 0)) h)

pub like_missing : {input : List ℕ} {room : Room} {limit : ℕ} {T T' : Lent} {c c' : Progress} {V : Type 0} {m' : V → Reader ℕ} → length input ≤ c.at → Leads input room limit (read_symbol_like input room) m' T c (Err (stop 4 0)) T' c'
unfolding read_symbol_like
like_missing {T = T} {c = c} l = lead_stop {T' = T} {c' = c} (lead_first {a = λ v. v} _ (byte_missing l))

-- ---- a symbol found or made

module _ {input : List ℕ} {room : Room} {T : Lent} {c : Progress} (n : ℕ) (r : code.Option ℕ) (h : c.at + n ≤ length input) (f : (s : State) → Holds input room s T c → Found s (span input (c.at + n) n) r) where
  -- the bytes that a search for the name compares
  abbrev costs : State → ℕ
  costs s = compared_among s.bytes (span input (c.at + n) n) s.nodes

  costs_most : (s : State) → costs s ≤ n * length s.nodes
  costs_most s = let z = length_span input (c.at + n) n (omega arith) h in rw z at (rows_most s.bytes (span input (c.at + n) n) s.nodes)

  -- a name was passed and searched for, and what is counted is o
  sought : (o : code.Option ℕ) → ((s : State) → Holds input room s T c → IfSome o (λ k. k ≡ s.notes.compared + costs s)) → is_some o ≡ is_some c.compared → Goes input room (read_name input room n) T c (add_name room (span input (c.at + n) n) r) T (record c { at = c.at + n; compared = o })
  unfolding read_bytes range intern look compare pick ◌>>=◌ Rattle.definition.specs.Run.next
  sought o g k = record {
    goes = λ s H.
        let e : c.at ≡ s.at = H.counted.count_at in
        let le : n ≤ length input - s.at = omega (arith, e, h) in
        let q : s.at ≡ c.at + n - n = omega (arith, e) in
        let z : s.at + n ≡ c.at + n = omega (arith, e) in
        record {
          state = _;
          holds = name_passed n o H (g s H) k h (costs_most s);
          same =
              rw (le-leb _ _ le)
              ((λ j. (intern_as room (take n (drop (q j) input)) (find_symbol s.bytes (take n (drop (q j) input)) s.nodes 0) >>= add_symbol room) (compared_more (compared_among s.bytes (take n (drop (q j) input)) s.nodes) (at_set (z j) s)))
              ∙ ap (λ (o : Option ℕ). (intern_as room (span input (c.at + n) n) o >>= add_symbol room) (compared_more (costs s) (at_set (c.at + n) s))) (f s H).same);
          grown = grown_rows refl (omega arith);
          behind = behind_still refl refl refl refl refl;
        };
    counts = k;
  }

  -- where nothing is counted
  pub searched_plainly : c.compared ≡ None → Goes input room (read_name input room n) T c (add_name room (span input (c.at + n) n) r) T (record c { at = c.at + n })
  searched_plainly e = sought c.compared (λ s H. subst (λ (o : code.Option ℕ). IfSome o (λ k. k ≡ s.notes.compared + costs s)) (sym e) tt) refl

  -- where it is
  pub searched_counting : (x y : ℕ) → c.compared ≡ Some x → ((s : State) → Holds input room s T c → y ≡ x + costs s) → Goes input room (read_name input room n) T c (add_name room (span input (c.at + n) n) r) T (record c { at = c.at + n; compared = Some y })
  searched_counting x y e d = sought (Some y) (λ s H. d s H ∙ ap (λ (k : ℕ). k + costs s) (rw e at H.noted.counted)) (ap is_some (sym e))

module _ {input : List ℕ} {room : Room} {T : Lent} {c : Progress} (name : List ℕ) where
  pub known : (h : ℕ) → Goes input room (add_name room name (Some h)) T c (add_symbol room h) T (record c { form = false })
  unfolding intern_as note pure pick ◌>>=◌ Rattle.definition.specs.Run.next
  known h = lost (λ s H. refl)

  pub unknown : Goes input room (add_name room name None) T c (add_bytes room name >>= λ start. new_symbol room start (length name)) T c
  unfolding intern_as pick
  unknown = still (λ s H. bind_assoc (add_bytes room name) (λ start. add_node room (symbol start (length name))) (add_symbol room) s)

-- a symbol that was found is a node
pub known_there : {input : List ℕ} {room : Room} {s : State} {T : Lent} {c : Progress} (v : code.Option ℕ) → IfSome v (λ h. Symbolic (get_or s.nodes h nil)) → Holds input room s T c → IfSome v (λ h. h < c.nodes)
known_there None y H = tt
known_there (Some h) y H = is_there H h y
