-- The proof of read_class_name.
use native.Mathlib.Omega.{arith}
use mathlib.Core.Path.{sym, ◌∙◌}
use Rattle.definition.specs.Load.{read_byte, read_symbol_like}
use Rattle.lists.specs.Runs.{err_is}
use Rattle.load_state.specs.Laws.{held, held_goes, lead_first, lead_after, lead_stop}
use Rattle.load_state.specs.Needs.{next_fits}
use Rattle.input_reader.proofs.Input.{byte_goes}
use Rattle.leaf_reader.proofs.Classes.{class_passed, wrapped_missing, wrapped_other, wrapped_right, follows_one}
use Rattle.leaf_reader.proofs.read_class_name.Goals as goal

pub read_symbol_like-requires : goal.read_symbol_like-requires
read_symbol_like-requires c =
    (_, _, held_goes {m = λ room. read_byte _} {m' = λ room. _} c.requires.1.2 (λ room. byte_goes c.requires.0))

pub returns-in_err-name : goal.returns-in_err-name
returns-in_err-name c =
    rw (err_is c.from_residual.result c.from_residual.ensures.1) (record { meets = λ room limit re ob. lead_after (class_passed c.requires.0) (lead_stop (lead_first _ (c.in_err-name.ensures.meets room limit re ob))); follows = tt })

pub returns-then-input-at : goal.returns-then-input-at
returns-then-input-at c =
    record { meets = λ room limit re ob. lead_after (class_passed c.requires.0) (lead_after (lead_first _ (c.in_ok-name.ensures.meets room limit re ob)).led (wrapped_missing _ c.if-input-at.true)); follows = tt }

pub returns-then-not-is_wrappable : goal.returns-then-not-is_wrappable
returns-then-not-is_wrappable c =
    let e = c.is_wrappable.ensures in record {
      meets = λ room limit re ob.
          lead_after (class_passed c.requires.0)
          (lead_after (lead_first _ (c.in_ok-name.ensures.meets room limit re ob)).led (wrapped_other _ c.if-input-at.false (c.not_wrappable.ensures limit) (sym e ∙ c.if-not-is_wrappable.true)));
      follows = tt;
    }

pub returns : goal.returns
returns c =
    let k = c.in_ok-name.ensures in
    let e = sym c.is_wrappable.ensures ∙ c.if-not-is_wrappable.false in
    let H = held_goes {m = λ room. read_byte _} {m' = λ room. _} c.requires.1.2 (λ room. byte_goes c.requires.0) in
    let G = held {m = λ room. read_symbol_like _ room} {m' = λ room. _} H (λ room. k.meets room 0 _ _) in
    record { meets = λ room limit re ob. lead_after (class_passed c.requires.0) (lead_after (lead_first _ (k.meets room limit re ob)).led (wrapped_right _ c.if-input-at.false e)); follows = (follows_one _ e, omega (arith, next_fits G k.upper_bound.0)) }
