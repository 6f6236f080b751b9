-- The proof of set_variables.
use native.Mathlib.Omega.{arith}
use mathlib.Core.Path.{refl}
use Rattle.loader.proofs.Variables.{variables_set, variables_refused}
use Rattle.loader.proofs.set_variables.Goals as goal

pub returns-then-kind-lt-STRING : goal.returns-then-kind-lt-STRING
returns-then-kind-lt-STRING c =
    record { by_index = λ input room limit re by sy ob k l. variables_refused _ _ _ l (omega arith) (omega arith); value = tt }

pub returns-then-kind-gt-USER_DEFINED : goal.returns-then-kind-gt-USER_DEFINED
returns-then-kind-gt-USER_DEFINED c =
    record { by_index = λ input room limit re by sy ob k l. variables_refused _ _ _ l (omega arith) (omega arith); value = tt }

pub returns : goal.returns
returns c =
    record { by_index = λ input room limit re by sy ob k l. variables_set _ _ _ l c.if-kind-lt-STRING.false c.if-kind-gt-USER_DEFINED.false c.put_node.ensures; value = refl }
