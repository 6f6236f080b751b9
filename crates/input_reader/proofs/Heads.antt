-- A value by its kind byte.
use Prim.Native.Nat.{ℕ, suc, ◌+◌, ◌-◌, ◌<◌}
use native.Mathlib.Omega.{arith}
use mathlib.Core.Path.{◌≡◌, sym, ap, subst}
use mathlib.Core.List.{List}
use lib.ListN.{length, get_or}
use Rattle.std.specs.Prelude.{Result, Err}
use Rattle.reader.specs.declared.Stop.{Stop}
use Rattle.definition.specs.State.{Room, Reader}
use Rattle.definition.specs.Load.{Head, head, value_of, read_value}
use Rattle.definition.specs.declared.Refusal.TheVariants.{TooDeep}
use Rattle.load_state.specs.declared.Progress.{Progress}
use Rattle.load_state.specs.Holds.{Lent, Goes, Leads}
use Rattle.reader.specs.Answers.{stop, at_level}
use Rattle.load_state.specs.Laws.{goes_first, lead_as, refuses}
use Rattle.input_reader.proofs.Input.{byte_goes}

-- ---- a value after its kind byte

module _ {input : List ℕ} {room : Room} {T : Lent} {c : Progress} (limit levels : ℕ) where
  -- the kind byte is read, and the rest is left
  pub kind_read : (levels ≡ 0 → ⊥) → c.at < length input → Goes input room (read_value input room limit levels) T c (value_of input room (read_value input room limit (levels - 1)) (get_or input c.at 0) (head (get_or input c.at 0))) T (record c { at = c.at + 1 })
  unfolding read_value
  kind_read n l =
      let a : levels ≡ suc (levels - 1) = omega arith in
      let rest = read_value input room limit (levels - 1) in
      subst (λ x. Goes input room (read_value input room limit x) T c (value_of input room rest (get_or input c.at 0) (head (get_or input c.at 0))) T (record c { at = c.at + 1 })) (sym a) (goes_first (λ k. value_of input room rest k (head k)) (byte_goes l))

  pub level_missing : {V : Type 0} {T' : Lent} {c' : Progress} {m' : V → Reader ℕ} → levels ≡ 0 → Leads input room limit (read_value input room limit levels) m' T c (Err (stop 11 0)) T' c'
  unfolding read_value
  level_missing {T'} {c'} {m'} e = rw e (refuses (TooDeep limit) (at_level limit))

-- the rest of a value by its head
pub headed : {input : List ℕ} {room : Room} {limit : ℕ} {T T' : Lent} {c c' : Progress} {V : Type 0} {r : Result V Stop} {m' : V → Reader ℕ} (inner : Reader ℕ) (k : ℕ) (hd : Head) → head k ≡ hd → Leads input room limit (value_of input room inner k hd) m' T c r T' c' → Leads input room limit (value_of input room inner k (head k)) m' T c r T' c'
headed {input} {room} inner k hd e m = lead_as (ap (λ h. value_of input room inner k h) e) m
