-- The proof of read_user_defined.
use mathlib.Core.Path.{refl}
use Rattle.definition.specs.Node.{user, absent, words, kind}
use Rattle.definition.specs.Load.{read_user_defined, read_symbol_like}
use Rattle.lists.specs.Runs.{err_is}
use Rattle.load_state.specs.Laws.{held, lead_first, lead_after, lead_stop}
use Rattle.load_state.specs.Names.{other_kind}
use Rattle.leaf_reader.proofs.read_user_defined.Goals as goal

pub returns-in_err-name : goal.returns-in_err-name
unfolding read_user_defined
returns-in_err-name c =
    rw (err_is c.from_residual.result c.from_residual.ensures.1) (record { meets = λ room limit re. lead_stop (lead_first _ (c.in_err-name.ensures.meets room limit _ _)); upper_bound = tt })

pub read_text-requires : goal.read_text-requires
read_text-requires c =
    let H = held {m = λ room. read_symbol_like _ room} {m' = λ room. _} c.requires.1 (λ room. c.in_ok-name.ensures.meets room 0 _ _) in
    (_, _, H)

pub returns : goal.returns
unfolding read_user_defined kind words
returns c =
    let text = c.read_text.ensures in record {
      meets = λ room limit re.
          lead_after (lead_first _ (c.in_ok-name.ensures.meets room limit _ _)).led
          (text.by_index room limit (λ start n. user start n _ absent) _ _ (λ start n. refl) (λ start n. other_kind (user start n 0 absent) refl));
      upper_bound = text.upper_bound;
    }
