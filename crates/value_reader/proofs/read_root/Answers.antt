-- The proof of read_root.
use native.Mathlib.Omega.{arith}
use mathlib.Core.Path.{refl, sym}
use Rattle.std.proofs.lemmas.Result.{IfOk-weaker}
use Rattle.definition.specs.Load.{read_header, read_symbol_like}
use Rattle.definition.specs.Load as D
use Rattle.lists.specs.Runs.{err_is}
use Rattle.load_state.specs.Laws.{held, lead_first, lead_after, lead_stop, lead_as}
use Rattle.value_reader.proofs.Members.{after_members}
use Rattle.value_reader.proofs.read_root.Goals as goal

pub returns-in_err-read_header : goal.returns-in_err-read_header
returns-in_err-read_header c =
    rw (err_is c.from_residual.result c.from_residual.ensures.1) (record { meets = λ room. lead_stop (lead_first _ (c.in_err-read_header.ensures room _ _)); upper_bound = tt })

pub read_members-requires : goal.read_members-requires
read_members-requires c =
    let H = held {m = λ room. read_header _} {m' = λ room. _} c.requires (λ room. c.in_ok-read_header.ensures room 0 _) in
    (omega arith, omega arith, omega arith, λ e. refl, H)

pub returns : goal.returns
returns c =
    let a = c.args in
    let k = c.read_members.ensures in record {
      meets = λ room.
          lead_after (lead_first _ (c.in_ok-read_header.ensures room a.limit _)).led
          (lead_as (sym (after_members (read_symbol_like a.input.now room) (D.read_value a.input.now room a.limit a.limit) 2 0)) (k.meets room a.limit));
      upper_bound = IfOk-weaker c.read_members.result _ _ (λ v q. q.1 refl) k.value;
    }
