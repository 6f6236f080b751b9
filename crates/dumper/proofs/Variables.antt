-- A variable list: its pairs as elements, and its first name.
use Prim.Native.Nat.{ℕ, suc, ◌-◌, ◌*◌, ◌<◌}
use native.Mathlib.Omega.{arith}
use mathlib.Core.Path.{◌≡◌, refl, sym, ap, ◌∙◌, subst}
use mathlib.Core.List.{List, [], ◌∷◌}
use lib.ListN.{length, get_or}
use Rattle.definition.specs.Run.{refuse}
use Rattle.definition.specs.Integer.{integer_bytes}
use Rattle.definition.specs.Node.{symbol}
use Rattle.definition.specs.Arena.{Arena, range, firsts}
use Rattle.definition.specs.Dump.{Writer, ◌>>◌, write, write_elements, write_pairs, write_name, write_value, write_instance_variables}
use Rattle.definition.specs.declared.Refusal.TheVariants.{TooDeep}
use Rattle.lists.specs.Lists.{At, at_get_d}
use Rattle.lists.specs.Ranges.{length_range, range_next, range_none}
use Rattle.well_formed.specs.Nodes.{node_at}
use Rattle.well_formed.specs.Right.{PairsIn}
use Rattle.std.specs.declared.result.Result.TheVariants.{Ok, Err}
use Rattle.writer.specs.declared.Progress.{Progress}
use Rattle.writer.specs.declared.Stop.{Stop}
use Rattle.writer.specs.declared.Stop.TheVariants.{TooDeep as Deep}
use Rattle.writer.specs.Held.{Buffers, Listed, IsSymbol, Goes, Meets}
use Rattle.writer.specs.Laws.{Passed, assoc, unit_right, then, goes_as, goes_first, lead_first}
use Rattle.writer.proofs.Names.{is_symbol}
use Rattle.writer.proofs.Scalars.{symbol_same}
use Rattle.writer.proofs.Members.{listed_at, value_deep, value_row}
use Rattle.object_writer.specs.Values.{Beginning, Heads}
use Rattle.object_writer.specs.Laws.{deep, head_stop, head_after}

first_of : (l : List ℕ) → 0 < length l → At (firsts l) 0 (get_or l 0 0)
unfolding firsts
first_of [] h = absurd (omega arith)
first_of (a ∷ []) h = refl
first_of (a ∷ b ∷ l) h = refl

pairs_elements : (name inner : ℕ → Writer) (l : List ℕ) → ((k a : ℕ) → At (firsts l) k a → name a ≡ inner a) → write_pairs name inner l ≡ write_elements inner l
unfolding write_pairs write_elements firsts
pairs_elements name inner [] f = refl
pairs_elements name inner (a ∷ []) f = f 0 a refl ∙ sym (unit_right (inner a))
pairs_elements name inner (a ∷ b ∷ l) f =
    assoc (name a) (inner b) (write_pairs name inner l)
    ∙ ap (λ (m : Writer). m >> (inner b >> write_pairs name inner l)) (f 0 a refl)
    ∙ ap (λ (m : Writer). inner a >> (inner b >> m)) (pairs_elements name inner l (λ k x h. f (suc k) x h))

-- a variable list: its count, and something
pub variables_counted : (room : ℕ) (A : Arena) (inner : ℕ → Writer) (start n : ℕ) → write_instance_variables room A inner start n ≡ write room (integer_bytes n) >> write_pairs (write_name room A) inner (range A.references start (n * 2))
unfolding write_instance_variables
variables_counted room A inner start n = refl

module _ (room : ℕ) {A : Arena} (limit levels start n : ℕ) (P : PairsIn A start n) where
  -- names, which have no level, are written as values are
  pub variables_elements : (levels ≡ 0 → ⊥) → write_instance_variables room A (write_value room A limit levels) start n ≡ write room (integer_bytes n) >> write_elements (write_value room A limit levels) (range A.references start (n * 2))
  unfolding write_instance_variables
  variables_elements e =
      ap (λ (m : Writer). write room (integer_bytes n) >> m) (pairs_elements (write_name room A) (write_value room A limit levels) (range A.references start (n * 2)) name)
    where
      name : (k a : ℕ) → At (firsts (range A.references start (n * 2))) k a → write_name room A a ≡ write_value room A limit levels a
      name k a h =
          let (s, l, q) = P.names k a h in
          sym (value_row room A limit levels a e ∙ symbol_same room A _ _ a s l (node_at A a (symbol s l) q))

  pub variables_none : n ≡ 0 → write_instance_variables room A (write_value room A limit levels) start n ≡ write room (integer_bytes n) >> write_elements (write_value room A limit levels) (range A.references start (n * 2))
  unfolding write_instance_variables write_pairs write_elements
  variables_none e = rw (e, range_none A.references start) refl

  -- the first name, where there is a pair
  module _ {re : List ℕ} (L : Listed A re) (some : n ≡ 0 → ⊥) (a j : ℕ) (place : j ≡ start) (e : a ≡ get_or re j 0) where
    first_here : At A.references start a
    first_here = subst (At A.references start) (listed_at start L (omega (arith, P.list.inside)) ∙ sym (e ∙ ap (λ (i : ℕ). get_or re i 0) place)) (at_get_d A.references start 0 (omega (arith, P.list.inside)))

    first_range : range A.references start (n * 2) ≡ a ∷ range A.references (suc start) (n * 2 - 1)
    first_range =
        let k : n * 2 ≡ suc (n * 2 - 1) = omega arith in
        ap (range A.references start) k ∙ range_next A.references start (n * 2 - 1) a first_here

    pub first_name : IsSymbol A a
    unfolding firsts
    first_name =
        let z : get_or (range A.references start (n * 2)) 0 0 ≡ a = ap (λ (l : List ℕ). get_or l 0 0) first_range in
        is_symbol a (P.names 0 a (subst (λ (x : ℕ). At (firsts (range A.references start (n * 2))) 0 x) z (first_of (range A.references start (n * 2)) (omega (arith, length_range A.references start (n * 2) P.list.inside)))))

    -- its value has no level
    variables_deep : levels ≡ 0 → (m : Writer) × (write_instance_variables room A (write_value room A limit levels) start n ≡ write room (integer_bytes n) >> (write_name room A a >> (refuse (TooDeep limit) >> m)))
    unfolding write_instance_variables write_pairs
    variables_deep z =
        let b = get_or A.references (suc start) 0 in
        let here : At A.references (suc start) b = at_get_d A.references (suc start) 0 (omega (arith, P.list.inside)) in
        let k : n * 2 - 1 ≡ suc (n * 2 - 2) = omega arith in
        let two : range A.references start (n * 2) ≡ a ∷ b ∷ range A.references (suc (suc start)) (n * 2 - 2) = first_range ∙ ap (λ (l : List ℕ). a ∷ l) (ap (range A.references (suc start)) k ∙ range_next A.references (suc start) (n * 2 - 2) b here) in
        let rest = write_pairs (write_name room A) (write_value room A limit levels) (range A.references (suc (suc start)) (n * 2 - 2)) in (
          rest,
          ap (λ (l : List ℕ). write room (integer_bytes n) >> write_pairs (write_name room A) (write_value room A limit levels) l) two
              ∙ ap (λ (m : Writer). write room (integer_bytes n) >> m) (assoc (write_name room A a) (write_value room A limit levels b) rest)
              ∙ ap (λ (m : Writer). write room (integer_bytes n) >> (write_name room A a >> (m >> rest))) (value_deep room A limit levels b z),
        )

    -- the call that writes the name, after the one that writes the count
    module _ {B B₁ : Buffers} {c c₁ : Progress} {u : Unit {0}} (z : levels ≡ 0) (count : Meets A room limit (write room (integer_bytes n)) B c (Ok u) B₁ c₁) where
      name_next : Goes A room (write_instance_variables room A (write_value room A limit levels) start n) B c (write_name room A a >> (refuse (TooDeep limit) >> (variables_deep z).0)) B₁ c₁
      name_next = goes_as (variables_deep z).1 (goes_first _ count.leads)

      pub name_stops : {B₂ : Buffers} {c₂ : Progress} {m : Writer} {q : Stop} {s : Beginning} → Passed s q → (IsSymbol A a → Meets A room limit (write_name room A a) B₁ c₁ (Err q) B₂ c₂) → Heads A room limit (write_instance_variables room A (write_value room A limit levels) start n) m B c s B₂ c₂
      name_stops p name = head_after name_next (head_stop _ p (lead_first _ (name first_name)).leads)

      pub name_deep : {B₂ : Buffers} {c₂ : Progress} {m : Writer} {w : Unit {0}} → (IsSymbol A a → Meets A room limit (write_name room A a) B₁ c₁ (Ok w) B₂ c₂) → Heads A room limit (write_instance_variables room A (write_value room A limit levels) start n) m B c (Err Deep) B₂ c₂
      name_deep name = head_after (then name_next (goes_first _ (name first_name).leads)) (record { heads = deep limit _ })
