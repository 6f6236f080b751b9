-- Demand 3, proved.
use Rattle.std.specs.Prelude.{ℕ, ◌+◌, ◌≤◌, ◌≡◌, false, ◌↔◌, List, [], ◌∷◌, length, take}
use Rattle.std.proofs.Common.{ap, subst, sym as psym, ◌∙◌, append-nil, arith}
use Rattle.std.proofs.Math.Option.{none}
use Rattle.std.proofs.lemmas.Bool.{lt-leb}
use Rattle.definition.specs.Run.{Outcome, ok}
use Rattle.definition.specs.Arena.{Arena, Tables, arena, too_long, fault}
use Rattle.definition.specs.State.{State, Room}
use Rattle.definition.specs.Load.{Lists, room_of, load, load_wrong}
use Rattle.definition.specs.Dump.{Written, dump, dump_wrong, DumpCall}
use Rattle.definition.specs.Graph.{SameGraph}
use Rattle.definition.specs.Slice.{greatest_length}
use Rattle.definition.specs.declared.Counts.{Counts}
use Rattle.definition.specs.Load.{LoadAnswer}
use Rattle.lists.specs.Slices.{lowest_none, short, tables_right}
use Rattle.graph.specs.Forest.{F, Num, fresh, Text, values}
use Rattle.graph.specs.Describe.{E, Says}
use Rattle.graph.specs.Build.{Names}
use Rattle.graph.specs.View.{seen, arena_of}
use Rattle.well_formed.specs.Right.{Right, fault_right}
use Rattle.dump_forest.specs.Writers.{num, written as written_as}
use Rattle.dump_forest.specs.Sound.{dump_sound}
use Rattle.dump_forest.specs.Complete.{dump_complete, text_up}
use Rattle.dump_forest.specs.Same.{graph_of, one_graph, same_forest, same_sym, same_trans}
use Rattle.dump_forest.specs.Alike.{one_text}
use Rattle.dump_forest.specs.Call.{call_accepted, accepted_call}
use Rattle.load_forest.specs.Bytes.{load_small}
use Rattle.load_forest.specs.Names.{load_arena_names}
use Rattle.load_forest.specs.Call.{load_allowed, load_accepted, accepted_load, call_arena, call_well_formed, some_nodes, take_padded}
use Rattle.load_text.specs.Leaves.{Small}
use Rattle.load_text.specs.Back.{RoomFor, Back, load_back}
use Rattle.round_trip.specs.Statement.{AreBytes, LoadAllowed, NoSmaller, LoadAccepted, used, tables, counts, filled, DumpAllowed, DumpAccepted, written, Again, RoundTrip}
use Rattle.round_trip.specs.Space.{room_for}

-- ---- rooms

pub record Smaller (room room' : Room) : Type 0 where
  nodes : room.nodes ≤ room'.nodes
  references : room.references ≤ room'.references
  bytes : room.bytes ≤ room'.bytes
  symbols : room.symbols ≤ room'.symbols
  objects : room.objects ≤ room'.objects

-- no slice is longer
abbrev pub largest : Room
largest = record { nodes = greatest_length; references = greatest_length; bytes = greatest_length; symbols = greatest_length; objects = greatest_length }

room_up : (room room' : Room) (g : F) → Smaller room room' → RoomFor room g → RoomFor room' g
room_up room room' g l r = record {
  nodes = omega (arith, l.nodes, r.nodes);
  objects = omega (arith, l.objects, r.objects);
  symbols = omega (arith, l.symbols, r.symbols);
  references = omega (arith, l.references, r.references);
  bytes = omega (arith, l.bytes, r.bytes);
}

small : (room : Room) → Smaller room largest → Small room
small room l = record { references = omega (arith, l.references); bytes = omega (arith, l.bytes); symbols = omega (arith, l.symbols); objects = omega (arith, l.objects) }

pub room_largest : (input : List ℕ) (T : Lists) (limit : ℕ) → load_wrong input T limit ≡ 0 → Smaller (room_of T) largest
unfolding room_of
room_largest input T limit e =
    let a = load_allowed input T limit e in
    record {
      nodes = omega (arith, a.nodes_most);
      references = a.references_most;
      bytes = a.bytes_most;
      symbols = a.symbols_most;
      objects = a.objects_most;
    }

pub room_larger : (T U : Lists) → NoSmaller T U → Smaller (room_of T) (room_of U)
unfolding room_of
room_larger T U l = record { nodes = omega (arith, l.nodes); references = l.references; bytes = l.bytes; symbols = l.symbols; objects = l.objects }

-- ---- what is lent and allowed

output_most : (T : Tables) (scratch output : List ℕ) (limit : ℕ) → dump_wrong T scratch output limit ≡ 0 → length output ≤ greatest_length
unfolding dump_wrong
output_most T scratch output limit e =
    short (length output) (lowest_none 5 _ _ (tables_right _ _ _ _ e).1).0

pub not_long : (n : ℕ) → n ≤ greatest_length → too_long n ≡ false
unfolding too_long
not_long n h = lt-leb 2147483648 n (omega arith)

-- an input that isn't too long is allowed wherever the empty one is
pub input_allowed : (input : List ℕ) (T : Lists) (limit : ℕ) → length input ≤ greatest_length → LoadAllowed T limit → load_wrong input T limit ≡ 0
unfolding load_wrong
input_allowed input T limit h e = rw (not_long (length input) h) (rw (not_long 0 (omega arith)) at e)

-- ---- a load and a dump of the arena filled, both accepted

-- the arena P was loaded in this room; dumping it within this limit wrote C
pub record Trip (P : Arena) (room : Room) (C : List ℕ) (limit : ℕ) : Type 0 where
  pub forest : F
  pub text : List ℕ
  numbers : Num
  pub is : C ≡ 0x04 ∷ 0x08 ∷ text
  writes : Text values limit forest text
  says : E (seen P) forest (P.root ∷ []) fresh numbers
  right : Right P
  names : Names (seen P)
  fits : RoomFor room forest
  in_largest : Smaller room largest
  pub length_most : length C ≤ greatest_length

trip_of : (X : List ℕ) (room : Room) (limit h : ℕ) (s : State) → AreBytes X → 1 ≤ room.nodes → Smaller room largest → load X room limit ≡ ok h s → Right (arena_of s h)
    → (size : ℕ) → size ≤ greatest_length → (dump-limit : ℕ) (w : Written) → dump size (arena_of s h) dump-limit ≡ ok tt w → Trip (arena_of s h) room w.bytes dump-limit
trip_of X room limit h s by one sm e ρ size m dump-limit w f =
    let d = dump_sound size (arena_of s h) dump-limit w ρ (load_small X room limit h s by e).fixnums f in
    record {
      forest = d.forest;
      text = d.text;
      numbers = num w;
      is = d.is;
      writes = d.writes;
      says = d.says;
      right = ρ;
      names = load_arena_names X room limit h s e;
      fits = room_for X room limit h s one e d.forest (num w) d.says;
      in_largest = sm;
      length_most = omega (arith, d.fits);
    }

pub trip : (X : List ℕ) (T : Lists) (limit : ℕ) → AreBytes X → LoadAccepted X T limit
    → (scratch output : List ℕ) (dump-limit : ℕ) → DumpAccepted (tables X T limit) (counts X T limit) scratch output dump-limit
    → Trip (filled X T limit) (room_of T) (written (tables X T limit) (counts X T limit) scratch output dump-limit) dump-limit
trip X T limit by l scratch output dump-limit k =
    let a = load_accepted X T limit l in
    let c = call_accepted (tables X T limit) (counts X T limit) scratch output dump-limit k in
    let al = load_allowed X T limit a.none_wrong in
    let is : filled X T limit ≡ arena_of a.state a.root = call_arena X T limit a in
    let x : written (tables X T limit) (counts X T limit) scratch output dump-limit ≡ c.state.bytes = ap (λ (q : DumpCall). take q.answer.written q.output) c.call ∙ take_padded output c.state.bytes in
    let t = trip_of X (room_of T) limit a.root a.state by (some_nodes T al.nodes_some) (room_largest X T limit a.none_wrong) a.loads
    (subst Right is (fault_right (tables X T limit) (counts X T limit) c.no_fault))
    (length output) (output_most (tables X T limit) scratch output dump-limit c.no_wrong) dump-limit c.state
    (subst (λ (A : Arena). dump (length output) A dump-limit ≡ ok tt c.state) is c.dumped) in
    subst (λ (A : Arena). Trip A (room_of T) (written (tables X T limit) (counts X T limit) scratch output dump-limit) dump-limit) (psym is)
    (subst (λ (C : List ℕ). Trip (arena_of a.state a.root) (room_of T) C dump-limit) (psym x) t)

-- ---- the first part

pub same_load : (o : Outcome State ℕ) (h h' : ℕ) (s s' : State) → o ≡ ok h s → o ≡ ok h' s' → (h ≡ h') × (s ≡ s')
same_load o h h' s s' e e' = (cc, cc)

pub same_text : (x y : List ℕ) → ◌≡◌ {A = List ℕ} (0x04 ∷ 0x08 ∷ x) (0x04 ∷ 0x08 ∷ y) → x ≡ y
same_text x y e = cc

-- what was written is loaded in any room that is large enough, whatever follows it
pub back : (P : Arena) (room : Room) (C : List ℕ) (l : ℕ) (t : Trip P room C l) (y : List ℕ) (room' : Room) (limit : ℕ) → Smaller room room' → Smaller room' largest → l ≤ limit
    → Back room' limit t.forest t.text y
back P room C l t y room' limit up sm h =
    load_back (seen P) t.names limit P.root t.forest t.text y t.numbers room' (small room' sm) (room_up room room' t.forest up t.fits) (text_up limit h t.writes) t.says

as_arena : (s s' : State) (h h' : ℕ) → h ≡ h' → s ≡ s' → arena_of s h ≡ arena_of s' h'
as_arena s s' h h' p q = rw (p, q)

-- one load fills one arena: both graphs are its
loaded_same : (P Q : Arena) (room : Room) (limit : ℕ) (g g' : F) (x : List ℕ) → Says (graph_of P) g → Says (graph_of Q) g' → Back room limit g x [] → Back room limit g' x [] → SameGraph P Q
loaded_same P Q room limit g g' x d d' b b' =
    let A = arena_of b.state b.root in
    let A' = arena_of b'.state b'.root in
    let (p, q) = same_load _ b.root b'.root b.state b'.state b.runs b'.runs in
    let e : A ≡ A' = as_arena b.state b'.state b.root b'.root p q in
    let r : SameGraph Q A = subst (SameGraph Q) (psym e) (one_graph Q A' g' d' (b'.num, b'.says)) in
    same_trans P A Q (one_graph P A g d (b.num, b.says)) (same_sym Q A r)

pub up_refl : (room : Room) → Smaller room room
up_refl room = record { nodes = omega arith; references = omega arith; bytes = omega arith; symbols = omega arith; objects = omega arith }

same_bytes : (P Q : Arena) (room room' : Room) (C D : List ℕ) (l l' : ℕ) → Trip P room C l → Trip Q room' D l' → ((C ≡ D) ↔ SameGraph P Q)
same_bytes P Q room room' C D l l' t t' = (to_graph, to_bytes)
  where
    to_graph : C ≡ D → SameGraph P Q
    to_graph e =
        let z : t'.text ≡ t.text = same_text t'.text t.text (psym t'.is ∙ psym e ∙ t.is) in
        let b = back P room C l t [] largest (l + l') t.in_largest (up_refl largest) (omega arith) in
        let b' = back Q room' D l' t' [] largest (l + l') t'.in_largest (up_refl largest) (omega arith) in
        loaded_same P Q largest (l + l') t.forest t'.forest t.text (t.numbers, t.says) (t'.numbers, t'.says) b
        (subst (λ (x : List ℕ). Back largest (l + l') t'.forest x []) z b')

    to_bytes : SameGraph P Q → C ≡ D
    to_bytes s =
        let d = same_forest P Q t.right t'.right s t.forest (t.numbers, t.says) in
        let z : t.text ≡ t'.text = one_text Q l l' t.forest t'.forest t.text t'.text t.writes t'.writes d (t'.numbers, t'.says) in
        t.is ∙ ap (λ (x : List ℕ). 0x04 ∷ 0x08 ∷ x) z ∙ psym t'.is

-- ---- the second part

-- an allowed load that is accepted: the call's answer and the arena filled
pub record Filled (input : List ℕ) (T : Lists) (limit h : ℕ) (s : State) : Type 0 where
  pub accepted : LoadAccepted input T limit
  pub uses : used input T limit ≡ s.at
  pub arena_is : filled input T limit ≡ arena_of s h
  pub no_fault : fault (tables input T limit) (counts input T limit) ≡ none

pub fills : (input : List ℕ) (T : Lists) (limit h : ℕ) (s : State) → load_wrong input T limit ≡ 0 → load input (room_of T) limit ≡ ok h s → Filled input T limit h s
fills input T limit h s w e =
    let a = accepted_load input T limit h s w e in
    let (p, q) = same_load _ a.root h a.state s a.loads e in
    record {
      accepted = ap (λ (r : LoadAnswer). r.answer) a.answered;
      uses = ap (λ (r : LoadAnswer). r.used) a.answered ∙ ap (λ (r : State). r.at) q;
      arena_is = call_arena input T limit a ∙ as_arena a.state s a.root h p q;
      no_fault = call_well_formed input T limit a;
    }

-- an arena without fault that a forest describes is dumped
pub dumps_text : (T : Tables) (c : Counts) (limit : ℕ) (g : F) (x : List ℕ) → fault T c ≡ none → Text values limit g x → Says (graph_of (arena T c)) g
    → (scratch output : List ℕ) → DumpAllowed T scratch output limit → length x + 2 ≤ length output
    → DumpAccepted T c scratch output limit × (written T c scratch output limit ≡ 0x04 ∷ 0x08 ∷ x)
dumps_text T c limit g x nf t (σ, d) scratch output al h =
    let C : List ℕ = 0x04 ∷ 0x08 ∷ x in
    let e = accepted_call T c scratch output limit (written_as C σ) al nf (dump_complete (length output) (arena T c) limit g x σ t d h) in
    (ap (λ (q : DumpCall). q.answer.answer) e, ap (λ (q : DumpCall). take q.answer.written q.output) e ∙ take_padded output C)

again_of : (P : Arena) (T : Lists) (limit : ℕ) (g : F) (x : List ℕ) → Says (graph_of P) g → Text values limit g x → load_wrong (0x04 ∷ 0x08 ∷ x) T limit ≡ 0
    → Back (room_of T) limit g x [] → Again P (0x04 ∷ 0x08 ∷ x) T limit
again_of P T limit g x d t w b =
    let C : List ℕ = 0x04 ∷ 0x08 ∷ x in
    let f = fills C T limit b.root b.state w (subst (λ (z : List ℕ). load (0x04 ∷ 0x08 ∷ z) (room_of T) limit ≡ ok b.root b.state) (append-nil x) b.runs) in
    let d' : Says (graph_of (filled C T limit)) g = subst (λ (A : Arena). Says (graph_of A) g) (psym f.arena_is) (b.num, b.says) in
    record {
      accepted = f.accepted;
      all_used = f.uses ∙ b.used ∙ omega arith;
      same = one_graph P (filled C T limit) g d d';
      dumps = λ scratch output al h. dumps_text (tables C T limit) (counts C T limit) limit g x f.no_fault t d' scratch output al (omega arith);
    }

again : (P : Arena) (T T' : Lists) (C : List ℕ) (l limit : ℕ) → Trip P (room_of T) C l → LoadAllowed T' limit → NoSmaller T T' → l ≤ limit → Again P C T' limit
again P T T' C l limit t al up h =
    let w : load_wrong C T' limit ≡ 0 = input_allowed C T' limit t.length_most al in
    let b = back P (room_of T) C l t [] (room_of T') limit (room_larger T T' up) (room_largest C T' limit w) h in
    subst (λ (c : List ℕ). Again P c T' limit) (psym t.is)
    (again_of P T' limit t.forest t.text (t.numbers, t.says) (text_up limit h t.writes) (subst (λ (c : List ℕ). load_wrong c T' limit ≡ 0) t.is w) b)

pub round_trip : RoundTrip
round_trip X Y T U limit_x limit-y bx by lx ly scratch_p scratch-q output_p output-q limit_p limit-q dp dq =
    let t = trip X T limit_x bx lx scratch_p output_p limit_p dp in
    let u = trip Y U limit-y by ly scratch-q output-q limit-q dq in
    (same_bytes _ _ _ _ _ _ _ _ t u, λ T' limit al up h. again _ T T' _ limit_p limit t al up h)
