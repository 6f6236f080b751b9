-- The members of what has some: their words as slots, one turn of the loop over them, and what comes after.
use Prim.Native.Nat.{ℕ, zero, suc, ◌+◌, ◌-◌, ◌*◌, ◌%◌, ◌≤◌, ◌<◌}
use native.Mathlib.Omega.{arith}
use mathlib.Core.Path.{◌≡◌, refl, sym, ap, ◌∙◌, subst}
use mathlib.Core.Logic.{◌⊎◌, inl, inr}
use mathlib.Core.Bool.{Bool, true, false}
use mathlib.Core.List.{List}
use lib.Dec.{eqb, ltb}
use Rattle.std.specs.Prelude.{Result, Ok, Err}
use lib.ListN.{length, get_or, set}
use borrow.Author.Tests.{eq-eqb, ne_eqb, ltb-true, ltb-false}
use mir.Syntax.{w32}
use mir.Val.{Fits}
use Rattle.definition.specs.Run.{pure, pick, look, next, ◌>>=◌}
use Rattle.definition.specs.Kind.{INSTANCE_VARIABLES, ARRAY, HASH, HASH_DEFAULT, OBJECT, STRING}
use Rattle.definition.specs.Node.{array, hash, object}
use Rattle.definition.specs.State.{Room, Reader}
use Rattle.definition.specs.Load.{note, read_byte, read_hash, read_variables, read_instance_variables, read_elements, read_pairs, read_default, read_value, read_symbol_like, put_reference, fill, counted}
use Rattle.definition.specs.Slice.{greatest_length}
use Rattle.load_state.specs.declared.Progress.{Progress}
use Rattle.load_state.specs.Holds.{Symbols, Lent, lent, Held, Goes, Leads, Meets, Numbered, Free}
use Rattle.leaf_reader.specs.Parts.{Leaf}
use Rattle.leaf_reader.specs.Classes.{read_class, valued, Follows}
use Rattle.leaf_reader.proofs.Classes.{kinded, class_first, hash_valued, default_valued, string_only, no_second}
use Rattle.run_reader.specs.Run.{slot, slots, more_of, members}
use Rattle.loader.specs.Parts.{settle, after_i}
use Rattle.load_state.specs.Laws.{then, still, held, held_goes, goes_to, goes_part, goes_first, grew_there, still_below, lead_part, lead_first, lead_after, lead_stop, lead_as, gives, bind_assoc}
use Rattle.input_reader.proofs.Input.{byte_goes, byte_missing}
use Rattle.run_reader.proofs.Run.{slot_put, slot_value}
use Rattle.reader.specs.Answers.{stop}
use Rattle.reader.specs.declared.Stop.{Stop}

-- ---- words as elements and as pairs

module _ (name inner : Reader ℕ) where
  pub slots_elements : (n to : ℕ) → slots name inner 2 n to ≡ read_elements inner n to
  unfolding slots read_elements
  slots_elements zero to = refl
  slots_elements (suc n) to =
      let no_name : to % 2 ≡ 2 → ⊥ = omega arith in
      ap (λ (m : Reader ℕ). m >>= λ v. put_reference to v >>= λ _. slots name inner 2 n (suc to)) (slot_value name inner 2 to no_name)
      ∙ λ i. inner >>= λ v. put_reference to v >>= λ _. slots_elements n (suc to) i

  slot_name : (names to : ℕ) → to % 2 ≡ names → slot name inner names to ≡ name
  unfolding pick
  slot_name names to e = rw (eq-eqb (to % 2) names e)

  pub slots_pairs : (names n to : ℕ) → to % 2 ≡ names → slots name inner names (n * 2) to ≡ read_pairs name inner n to
  unfolding slots read_pairs
  slots_pairs names zero to e = refl
  slots_pairs names (suc n) to e =
      let odd : suc to % 2 ≡ names → ⊥ = omega arith in
      let even : suc (suc to) % 2 ≡ names = omega arith in
      let k : suc n * 2 ≡ suc (suc (n * 2)) = omega arith in
      ap (λ (m : ℕ). slots name inner names m to) k
      ∙ (λ i. slot_name names to e i >>= λ c. put_reference to c >>= λ _. slot_value name inner names (suc to) odd i >>= λ v. put_reference (suc to) v >>= λ _. slots_pairs names n (suc (suc to)) even i)

-- ---- what comes after the words

module _ {A : Type 0} (name inner : Reader ℕ) (names more : ℕ) where
  -- the rest g of a list, which is given the value after the words
  abbrev pub rest : (ℕ → Reader A) → ℕ → ℕ → Reader A
  rest g n to = slots name inner names n to >>= λ _. more_of inner more >>= g

  module _ {input : List ℕ} {room : Room} {limit : ℕ} {T T' : Lent} {c c' : Progress} (g : ℕ → Reader A) (start end n : ℕ) (e : end - start ≡ n) where
    through_members : {r : Result ℕ Stop} → Meets input room limit (members name inner names more (end - start) start) T c r T' c' → Leads input room limit (rest g n start) g T c r T' c'
    through_members {r} k = subst (λ (x : ℕ). Leads input room limit (rest g x start) g T c r T' c') e (lead_as (λ i s. sym (bind_assoc (slots name inner names (end - start) start) (λ _. more_of inner more) g s) i) (lead_first g k))

    -- the members are read, and then the rest; one of them is refused
    pub rest_goes : {w : ℕ} {m' : A → Reader A} {r : Result A Stop} {T'' : Lent} {c'' : Progress} → Meets input room limit (members name inner names more (end - start) start) T c (Ok w) T' c' → Leads input room limit (g w) m' T' c' r T'' c'' → Leads input room limit (rest g n start) m' T c r T'' c''
    rest_goes k m = lead_after (through_members k).led m

    pub rest_stops : {q : Stop} {m' : A → Reader A} {T'' : Lent} {c'' : Progress} → Meets input room limit (members name inner names more (end - start) start) T c (Err q) T' c' → Leads input room limit (rest g n start) m' T c (Err q) T'' c''
    rest_stops k = lead_stop (through_members k)

-- what comes after the count, by the kind: the members, and then the node
module _ (name inner : Reader ℕ) (h : ℕ) where
  abbrev pub array_of : ℕ → ℕ → ℕ → Reader ℕ
  array_of class p n = read_elements inner n p >>= λ _. fill h (array p n class)

  abbrev pub hash_of : ℕ → ℕ → ℕ → ℕ → Reader ℕ
  hash_of more class p n = read_elements inner (n * 2) p >>= λ _. read_default (eqb more 1) inner class h p n

  abbrev pub object_of : ℕ → ℕ → ℕ → Reader ℕ
  object_of w p n = read_pairs name inner n p >>= λ _. fill h (object p n w)

  abbrev pub variables_of : ℕ → ℕ → Reader ℕ
  variables_of p n = read_pairs name inner n p >>= λ _. settle h p n

  module _ (p n : ℕ) where
    pub array_rest : (class : ℕ) → array_of class p n ≡ rest name inner 2 0 (λ _. fill h (array p n class)) (n * 1) p
    unfolding more_of pure ◌>>=◌ next
    array_rest class =
        let e : n ≡ n * 1 = omega arith in
        ap (λ (m : Reader (Unit {0})). m >>= λ _. fill h (array p n class)) (ap (λ (k : ℕ). read_elements inner k p) e ∙ sym (slots_elements name inner (n * 1) p))

    pub hash_rest : (more class : ℕ) → more ≤ 1 → hash_of more class p n ≡ rest name inner 2 more (λ d. fill h (hash p n (d + more) class)) (n * 2) p
    unfolding more_of read_default pure ◌>>=◌ next
    hash_rest zero class l = ap (λ (m : Reader (Unit {0})). m >>= λ _. fill h (hash p n 0 class)) (sym (slots_elements name inner (n * 2) p))
    hash_rest (suc zero) class l = ap (λ (m : Reader (Unit {0})). m >>= λ _. inner >>= λ d. fill h (hash p n (d + 1) class)) (sym (slots_elements name inner (n * 2) p))
    hash_rest (suc (suc more)) class l = absurd (omega arith)

    pub object_rest : (names w : ℕ) → p % 2 ≡ names → object_of w p n ≡ rest name inner names 0 (λ _. fill h (object p n w)) (n * 2) p
    unfolding more_of pure ◌>>=◌ next
    object_rest names w e = ap (λ (m : Reader (Unit {0})). m >>= λ _. fill h (object p n w)) (sym (slots_pairs name inner names n p e))

    pub variables_rest : (names : ℕ) → p % 2 ≡ names → variables_of p n ≡ rest name inner names 0 (λ _. settle h p n) (n * 2) p
    unfolding more_of pure ◌>>=◌ next
    variables_rest names e = ap (λ (m : Reader (Unit {0})). m >>= λ _. settle h p n) (sym (slots_pairs name inner names n p e))

-- the count and the words are read, then the members: one is refused, or the rest is left
module _ {input : List ℕ} {room : Room} {limit : ℕ} {T T₁ : Lent} {c c₁ : Progress} (name inner : Reader ℕ) (k : ℕ → ℕ → Reader ℕ) (each names more n start end : ℕ) (g : ℕ → Reader ℕ) (f : k start n ≡ rest name inner names more g (n * each) start) (p : end - n * each ≡ start) (e : n * each ≤ end) (W : Leads input room limit (counted input room each k) (λ n. k (end - n * each) n) T c (Ok n) T₁ c₁) where
  come_in : Goes input room (counted input room each k) T c (rest name inner names more g (n * each) start) T₁ c₁
  come_in = goes_to (ap (λ (x : ℕ). k x n) p ∙ f) W.led

  sized : end - start ≡ n * each
  sized = omega arith

  pub contained_stops : {q : Stop} {T₂ : Lent} {c₂ : Progress} {m' : ℕ → Reader ℕ} {T' : Lent} {c' : Progress} → Meets input room limit (members name inner names more (end - start) start) T₁ c₁ (Err q) T₂ c₂ → Leads input room limit (counted input room each k) m' T c (Err q) T' c'
  contained_stops M = lead_after come_in (rest_stops name inner names more g start end (n * each) sized M)

  pub contained : {w : ℕ} {T₂ : Lent} {c₂ : Progress} {m' : ℕ → Reader ℕ} {T' : Lent} {c' : Progress} {r : Result ℕ Stop} → Meets input room limit (members name inner names more (end - start) start) T₁ c₁ (Ok w) T₂ c₂ → Leads input room limit (g w) m' T₂ c₂ r T' c' → Leads input room limit (counted input room each k) m' T c r T' c'
  contained M m = lead_after come_in (rest_goes name inner names more g start end (n * each) sized M m)

-- what the reader of members asks of a list that ends at `end`, and of no value more
pub inside : (end k : ℕ) → (end - k ≤ end) × (end ≤ end)
inside end k = (omega arith, omega arith)

pub no_more : 0 ≤ 1
no_more = omega arith

pub names_any : (names : ℕ) → ◌≡◌ {A = ℕ} 0 1 → names ≡ 2
names_any names e = absurd (omega (arith, e))

-- where a list starts that ends at `end`
pub one_each : (end n : ℕ) → end - n * 1 ≡ end - n
one_each end n = omega arith

pub list_parity : (end n : ℕ) → n * 2 ≤ end → (end - n * 2) % 2 ≡ end % 2
list_parity end n l = omega arith

-- what comes after `I`: the value, noted, and then its variables
pub variables_after : (input : List ℕ) (room : Room) (inner : Reader ℕ) → read_variables input room inner ≡ (after_i input inner >>= λ h. read_instance_variables input room inner (settle h))
unfolding read_variables look note ◌>>=◌ next
variables_after input room inner = refl

-- no words, and one value
pub after_members : (name inner : Reader ℕ) (names to : ℕ) → members name inner names 1 (0 - 0) to ≡ inner
unfolding slots more_of pure ◌>>=◌ next
after_members name inner names to = refl

-- a name's word is among the list's
pub named_below : (to end more names : ℕ) → more ≤ 1 → (more ≡ 1 → names ≡ 2) → to < end + more → to % 2 ≡ names → to < end
named_below to end zero names l f h e = omega arith
named_below to end (suc zero) names l f h e = absurd (omega (arith, f refl, e))
named_below to end (suc (suc more)) names l f h e = absurd (omega arith)

-- a default's word
pub default_fits : (d more n : ℕ) → more ≤ 1 → (more ≡ 0 → d ≡ 0) → (more ≡ 1 → d < n) → n ≤ greatest_length → Fits w32 (d + more)
default_fits d zero n l f g h = record { fits = omega (arith, f refl) }
default_fits d (suc zero) n l f g h = record { fits = omega (arith, g refl) }
default_fits d (suc (suc more)) n l f g h = absurd (omega arith)

pub nodes_few : {input : List ℕ} {T : Lent} {c : Progress} → Held input T c → c.nodes ≤ greatest_length
nodes_few H = omega arith

-- a hash by either kind byte
module _ {k more : ℕ} (h : (k ≡ HASH) ⊎ (k ≡ HASH_DEFAULT)) (f : (k ≡ HASH_DEFAULT → ⊥) → more ≡ 0) (g : k ≡ HASH_DEFAULT → more ≡ 1) where
  by_hash : {A : Type 0} → (k ≡ HASH → more ≡ 0 → A) → (k ≡ HASH_DEFAULT → more ≡ 1 → A) → A
  by_hash {A} y n = go h
    where
      go : (k ≡ HASH) ⊎ (k ≡ HASH_DEFAULT) → A
      go (inl e) = y e (f (λ q. omega (arith, e, q)))
      go (inr e) = n e (g e)

  pub defaults_one : more ≤ 1
  defaults_one = by_hash (λ e z. omega (arith, z)) (λ e z. omega (arith, z))

  pub hash_headed : {input : List ℕ} {room : Room} {limit : ℕ} {T T' : Lent} {c c' : Progress} {r : Result ℕ Stop} {m' : ℕ → Reader ℕ} (inner : Reader ℕ) (w : ℕ) → Leads input room limit (read_hash (eqb more 1) input room inner w) m' T c r T' c' → Leads input room limit (valued input room inner k w) m' T c r T' c'
  hash_headed {input} {room} inner w m =
      by_hash
      (λ e z. lead_as (hash_valued input room inner w e ∙ ap (λ (x : ℕ). read_hash (eqb x 1) input room inner w) (sym z)) m)
      (λ e z. lead_as (default_valued input room inner w e ∙ ap (λ (x : ℕ). read_hash (eqb x 1) input room inner w) (sym z)) m)

-- ---- a value: its class, and its kind byte

module _ {input : List ℕ} {room : Room} {limit : ℕ} {T T' : Lent} {c c' : Progress} (levels : ℕ) (n : levels ≡ 0 → ⊥) where
  -- the class is read, and the kind byte is left
  class_led : {r : Result ℕ Stop} → Meets input room limit (read_class input room) T c r T' c' → Leads input room limit (read_value input room limit levels) (kinded input room (read_value input room limit (levels - 1))) T c r T' c'
  unfolding read_value
  class_led {r} m =
      let a : levels ≡ suc (levels - 1) = omega arith in
      subst (λ (x : ℕ). Leads input room limit (read_value input room limit x) (kinded input room (read_value input room limit (levels - 1))) T c r T' c') (sym a)
      (lead_as (λ i s. class_first input room (read_value input room limit (levels - 1)) s i) (lead_first (kinded input room (read_value input room limit (levels - 1))) m))

  pub class_refused : {q : Stop} {m' : ℕ → Reader ℕ} {T'' : Lent} {c'' : Progress} → Meets input room limit (read_class input room) T c (Err q) T' c' → Leads input room limit (read_value input room limit levels) m' T c (Err q) T'' c''
  class_refused m = lead_stop (class_led m)

  pub no_kind : {w : ℕ} {m' : ℕ → Reader ℕ} {T'' : Lent} {c'' : Progress} → Meets input room limit (read_class input room) T c (Ok w) T' c' → length input ≤ c'.at → Leads input room limit (read_value input room limit levels) m' T c (Err (stop 4 0)) T'' c''
  no_kind m h = lead_after (class_led m).led (lead_stop {T' = T'} {c' = c'} (lead_first {V = ℕ} {a = λ v. v} _ (byte_missing h)))

  -- and the kind byte
  pub kind_led : {w : ℕ} → Meets input room limit (read_class input room) T c (Ok w) T' c' → c'.at < length input → Goes input room (read_value input room limit levels) T c (valued input room (read_value input room limit (levels - 1)) (get_or input c'.at 0) w) T' (record c' { at = c'.at + 1 })
  kind_led m h = then (class_led m).led (goes_first _ (byte_goes h))

-- a state is held after both
pub kind_held : {input : List ℕ} {T T' : Lent} {c c' : Progress} {w : ℕ} → Held input T c → ((room : Room) → Meets input room 0 (read_class input room) T c (Ok w) T' c') → c'.at < length input → Held input T' (record c' { at = c'.at + 1 })
kind_held H m h = held_goes {m = λ room. read_byte _} {m' = λ room. _} (held {m = λ room. read_class _ room} {m' = λ room. _} H m) (λ room. byte_goes h)

-- another kind byte than those of values with members, and whether it can have the class
pub leaf_kind : (w k : ℕ) → Follows w k → (k ≡ ARRAY → ⊥) → ((k ≡ HASH) ⊎ (k ≡ HASH_DEFAULT) → ⊥) → (k ≡ OBJECT → ⊥) → (k ≡ INSTANCE_VARIABLES → ⊥) → Leaf k × ((w ≡ 0) ⊎ (k ≡ STRING))
leaf_kind w k f a h o i = (
  record { array = a; hash = λ e. h (inl e); default = λ e. h (inr e); object = o; variables = i; class = no_second w k f },
  string_only w k f a (λ e. h (inl e)) (λ e. h (inr e)),
)

-- a string's kind byte is no container's
pub string_leaf : Leaf STRING
string_leaf = record { array = omega arith; hash = omega arith; default = omega arith; object = omega arith; variables = omega arith; class = omega arith }

-- ---- a node whose members are read

-- node h is there and, where it is new, no symbol: it is still to be filled
pub record Open (input : List ℕ) (T : Lent) (c : Progress) (h : ℕ) (new : Type 0) : Type 0 where
  pub held : Held input T c
  pub below : h < c.nodes
  pub free : new → Free T.nodes h

-- it stays open while more is read
pub open_on : {A : Type 0} {input : List ℕ} {T T' : Lent} {c c' : Progress} {h : ℕ} {new : Type 0} {m m' : Room → Reader A} → Open input T c h new → ((room : Room) → Goes input room (m room) T c (m' room) T' c') → Open input T' c' h new
open_on {m = m} {m'} O g =
    let w = grew_there {m = m} {m' = m'} O.held g in
    record { held = held_goes {m = m} {m' = m'} O.held g; below = still_below O.below w; free = λ n. w.free _ O.below (O.free n) }

-- a node is opened; a value is read, which gets variables
module _ {input : List ℕ} {T T' : Lent} {c c' : Progress} {h : ℕ} {m m' : Room → Reader ℕ} (H : Held input T c) (g : (room : Room) → Goes input room (m room) T c (m' room) T' c') where
  pub opened : Numbered c' h × Free T'.nodes h → Open input T' c' h (Unit {0})
  opened b = record { held = held_goes {m = m} {m' = m'} H g; below = b.0.0; free = λ _. b.1 }

  pub opened_value : Numbered c' h → Open input T' c' h ⊥
  opened_value b = record { held = held_goes {m = m} {m' = m'} H g; below = b.0; free = λ n. absurd n }

-- ---- the loop

-- what the loop over the members keeps: it has come to word `to`
pub record Turning (input no₀ re₀ by₀ : List ℕ) (sy₀ : Symbols) (ob₀ : List ℕ) (c₀ : Progress) (start end names levels : ℕ) (no re by : List ℕ) (sy : Symbols) (ob : List ℕ) (c : Progress) (to : ℕ) : Type 0 where
  pub within : to ≤ end
  pub inside : end ≤ c.references
  pub nodes : length no ≡ length no₀
  pub references : length re ≡ length re₀
  pub bytes : length by ≡ length by₀
  pub symbols : length sy.list ≡ length sy₀.list
  pub buckets : length sy.buckets ≡ length sy₀.buckets
  pub objects : length ob ≡ length ob₀
  pub held : Held input (lent no re by sy ob) c
  pub goes : (room : Room) (limit : ℕ) → Goes input room (slots (read_symbol_like input room) (read_value input room limit levels) names (end - start) start) (lent no₀ re₀ by₀ sy₀ ob₀) c₀ (slots (read_symbol_like input room) (read_value input room limit levels) names (end - to) to) (lent no re by sy ob) c

pub turning_start : {input no re by : List ℕ} {sy : Symbols} {ob : List ℕ} {c : Progress} {start end names levels : ℕ} → start ≤ end → end ≤ c.references → Held input (lent no re by sy ob) c → Turning input no re by sy ob c start end names levels no re by sy ob c start
turning_start l h H = record { within = l; inside = h; nodes = refl; references = refl; bytes = refl; symbols = refl; buckets = refl; objects = refl; held = H; goes = λ room limit. still (λ s G. refl) }

-- the same word by another name
pub come_to : {input no₀ re₀ by₀ : List ℕ} {sy₀ : Symbols} {ob₀ : List ℕ} {c₀ : Progress} {start end names levels : ℕ} {no re by : List ℕ} {sy : Symbols} {ob : List ℕ} {c : Progress} {to to' : ℕ} → Turning input no₀ re₀ by₀ sy₀ ob₀ c₀ start end names levels no re by sy ob c to' → to' ≡ to → Turning input no₀ re₀ by₀ sy₀ ob₀ c₀ start end names levels no re by sy ob c to
come_to {input} {no₀} {re₀} {by₀} {sy₀} {ob₀} {c₀} {start} {end} {names} {levels} {no} {re} {by} {sy} {ob} {c} R e = subst (λ x. Turning input no₀ re₀ by₀ sy₀ ob₀ c₀ start end names levels no re by sy ob c x) e R

-- the words left, and what comes after them
abbrev pub left : List ℕ → Room → ℕ → ℕ → ℕ → ℕ → ℕ → ℕ → Reader ℕ
left input room limit levels names more end to = members (read_symbol_like input room) (read_value input room limit levels) names more (end - to) to

module _ {input no₀ re₀ by₀ : List ℕ} {sy₀ : Symbols} {ob₀ : List ℕ} {c₀ : Progress} {start end names levels : ℕ} {no re by : List ℕ} {sy : Symbols} {ob : List ℕ} {c : Progress} {to : ℕ} (R : Turning input no₀ re₀ by₀ sy₀ ob₀ c₀ start end names levels no re by sy ob c to) where
  -- it has come to another word
  module _ {no' re' by' : List ℕ} {sy' : Symbols} {ob' : List ℕ} {c' : Progress} (to' : ℕ) (l : to' ≤ end) (n : length no' ≡ length no) (r : length re' ≡ length re) (b : length by' ≡ length by) (s : length sy'.list ≡ length sy.list) (u : length sy'.buckets ≡ length sy.buckets) (o : length ob' ≡ length ob) (g : (room : Room) (limit : ℕ) → Goes input room (slots (read_symbol_like input room) (read_value input room limit levels) names (end - to) to) (lent no re by sy ob) c (slots (read_symbol_like input room) (read_value input room limit levels) names (end - to') to') (lent no' re' by' sy' ob') c') where
    pub turned : Turning input no₀ re₀ by₀ sy₀ ob₀ c₀ start end names levels no' re' by' sy' ob' c' to'
    turned = record {
      within = l;
      inside = omega (arith, R.inside, (grew_there {m = λ room. slots _ _ names (end - to) to} {m' = λ room. slots _ _ names (end - to') to'} R.held (λ room. g room 0)).references);
      nodes = n ∙ R.nodes;
      references = r ∙ R.references;
      bytes = b ∙ R.bytes;
      symbols = s ∙ R.symbols;
      buckets = u ∙ R.buckets;
      objects = o ∙ R.objects;
      held = held_goes {m = λ room. slots _ _ names (end - to) to} {m' = λ room. slots _ _ names (end - to') to'} R.held (λ room. g room 0);
      goes = λ room limit. then (R.goes room limit) (g room limit);
    }

  -- all that is left to do
  come : (more : ℕ) (room : Room) (limit : ℕ) → Goes input room (left input room limit levels names more end start) (lent no₀ re₀ by₀ sy₀ ob₀) c₀ (left input room limit levels names more end to) (lent no re by sy ob) c
  come more room limit = goes_part (λ _. more_of (read_value input room limit levels) more) (R.goes room limit)

  -- nothing is left
  pub all_turned : (more : ℕ) → end + more ≤ to → (room : Room) (limit : ℕ) → Meets input room limit (left input room limit levels names more end start) (lent no₀ re₀ by₀ sy₀ ob₀) c₀ (Ok 0) (lent no re by sy ob) c
  unfolding slots more_of pure ◌>>=◌ next
  all_turned more l room limit =
      let e : end - to ≡ 0 = omega arith in
      let z : more ≡ 0 = omega (arith, R.within) in
      lead_after (come more room limit) (lead_as (λ i. members (read_symbol_like input room) (read_value input room limit levels) names (z i) (e i) to) (gives 0))

  -- a member is refused
  module _ {V : Type 0} {m' : V → Reader ℕ} {T' T'' : Lent} {c' c'' : Progress} {q : Stop} (more : ℕ) (room : Room) (limit : ℕ) where
    slot_stop : to < end → Leads input room limit (slot (read_symbol_like input room) (read_value input room limit levels) names to) m' (lent no re by sy ob) c (Err q) T' c' → Meets input room limit (left input room limit levels names more end start) (lent no₀ re₀ by₀ sy₀ ob₀) c₀ (Err q) T'' c''
    unfolding slots
    slot_stop l k =
        let e : end - to ≡ suc (end - (to + 1)) = omega arith in
        let name = read_symbol_like input room in
        let inner = read_value input room limit levels in
        lead_after (come more room limit)
        (lead_as (λ i. members name inner names more (e i) to)
        (lead_stop (lead_part (λ _. more_of inner more) (lead_part (λ v. put_reference to v >>= λ _. slots name inner names (end - (to + 1)) (suc to)) k))))

    pub name_stop : to < end → to % 2 ≡ names → Leads input room limit (read_symbol_like input room) m' (lent no re by sy ob) c (Err q) T' c' → Meets input room limit (left input room limit levels names more end start) (lent no₀ re₀ by₀ sy₀ ob₀) c₀ (Err q) T'' c''
    unfolding pick
    name_stop l e k = slot_stop l (lead_as (rw (eq-eqb (to % 2) names e)) k)

  -- the value after the words
  after_words : (more : ℕ) → end ≤ to → to < end + more → more ≤ 1 → (room : Room) (limit : ℕ) → left input room limit levels names more end to ≡ read_value input room limit levels
  unfolding slots more_of pure ◌>>=◌ next
  after_words more l h k room limit =
      let e : end - to ≡ 0 = omega arith in
      let z : more ≡ 1 = omega arith in
      λ i. members (read_symbol_like input room) (read_value input room limit levels) names (z i) (e i) to

  pub value_stop : {T' T'' : Lent} {c' c'' : Progress} {q : Stop} (more : ℕ) → to < end + more → more ≤ 1 → (room : Room) (limit : ℕ) → (to % 2 ≡ names → ⊥) → Meets input room limit (read_value input room limit levels) (lent no re by sy ob) c (Err q) T' c' → Meets input room limit (left input room limit levels names more end start) (lent no₀ re₀ by₀ sy₀ ob₀) c₀ (Err q) T'' c''
  value_stop {T'} {T''} {c'} {c''} {q} more k one room limit n m = go (ltb to end) refl
    where
      go : (t : Bool) → ltb to end ≡ t → Meets input room limit (left input room limit levels names more end start) (lent no₀ re₀ by₀ sy₀ ob₀) c₀ (Err q) T'' c''
      go true e = slot_stop more room limit (ltb-true to end e) (lead_as (slot_value _ _ names to n) m)
      go false e = lead_after (come more room limit) (lead_as (after_words more (ltb-false to end e) k one room limit) (lead_stop m))

  pub value_last : {T' : Lent} {c' : Progress} {r : Result ℕ Stop} (more : ℕ) → to < end + more → more ≤ 1 → to ≡ end → (room : Room) (limit : ℕ) → Meets input room limit (read_value input room limit levels) (lent no re by sy ob) c r T' c' → Meets input room limit (left input room limit levels names more end start) (lent no₀ re₀ by₀ sy₀ ob₀) c₀ r T' c'
  value_last more k one e room limit m = lead_after (come more room limit) (lead_as (after_words more (omega arith) k one room limit) m)

  -- a name is read, or a value, and stored
  module _ {no' re' by' : List ℕ} {sy' : Symbols} {ob' : List ℕ} {c' : Progress} (l : to < end) (n : length no' ≡ length no) (r : length re' ≡ length re) (b : length by' ≡ length by) (s : length sy'.list ≡ length sy.list) (u : length sy'.buckets ≡ length sy.buckets) (o : length ob' ≡ length ob) where
    stored : (v : ℕ) → ((room : Room) (limit : ℕ) → Goes input room (slot (read_symbol_like input room) (read_value input room limit levels) names to) (lent no re by sy ob) c (pure v) (lent no' re' by' sy' ob') c') → Turning input no₀ re₀ by₀ sy₀ ob₀ c₀ start end names levels no' (set re' to v) by' sy' ob' c' (to + 1)
    stored v g =
        let grew = grew_there {m = λ room. slot _ _ names to} {m' = λ room. pure v} R.held (λ room. g room 0) in
        turned (to + 1) (omega arith) n (lib.ListN.length-set re' to v ∙ r) b s u o
        (λ room limit. slot_put (read_symbol_like input room) (read_value input room limit levels) names v end to l (omega (arith, R.inside, grew.references)) (g room limit))

    pub name_turned : {v : ℕ} → to % 2 ≡ names → ((room : Room) (limit : ℕ) → Meets input room limit (read_symbol_like input room) (lent no re by sy ob) c (Ok v) (lent no' re' by' sy' ob') c') → Turning input no₀ re₀ by₀ sy₀ ob₀ c₀ start end names levels no' (set re' to v) by' sy' ob' c' (to + 1)
    unfolding pick
    name_turned e k = stored _ (λ room limit. rw (eq-eqb (to % 2) names e) (k room limit).led)

    pub value_turned : {v : ℕ} → (to % 2 ≡ names → ⊥) → ((room : Room) (limit : ℕ) → Meets input room limit (read_value input room limit levels) (lent no re by sy ob) c (Ok v) (lent no' re' by' sy' ob') c') → Turning input no₀ re₀ by₀ sy₀ ob₀ c₀ start end names levels no' (set re' to v) by' sy' ob' c' (to + 1)
    unfolding pick
    value_turned e k = stored _ (λ room limit. rw (ne_eqb (to % 2) names e) (k room limit).led)

-- ---- the measures: 4 l for a value, 1 more for members, 2 more for the value after `I`, 3 more for what has members

pub down_1 : (l t : ℕ) → 4 * l + 1 ≡ t → 4 * l < t
down_1 l t e = omega arith

pub down_2 : (l t : ℕ) → 4 * l + 2 ≡ t → 4 * l + 1 < t
down_2 l t e = omega arith

pub down_3 : (l t : ℕ) → 4 * l + 3 ≡ t → 4 * l + 1 < t
down_3 l t e = omega arith

pub down_inner : (l t : ℕ) → 4 * l + 3 ≡ t → 4 * l + 2 < t
down_inner l t e = omega arith

pub down_0 : (l t : ℕ) → (l ≡ 0 → ⊥) → 4 * l ≡ t → 4 * (l - 1) + 3 < t
down_0 l t n e = omega arith
