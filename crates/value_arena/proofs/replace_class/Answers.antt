-- The proof of replace_class.
use mathlib.Core.Path.{refl}
use mathlib.Core.List.{◌∷◌}
use Rattle.definition.specs.Node.{optional_node}
use Rattle.definition.specs.Build.{lent, handles_checked, check_class, check_names, exchange_class}
use Rattle.value_arena.proofs.Building.{build_on, build_stop, class_set}
use Rattle.value_arena.proofs.replace_class.Goals as goal

pub returns : goal.returns
unfolding exchange_class
returns c =
    let a = c.args in
    let L = lent a.nodes.now a.references.now a.bytes.now a.counts in
    build_on (handles_checked (a.h ∷ optional_node a.class)) _ L (c.in_ok-begin_class.ensures.says)
    (build_on (check_class a.h) _ L (c.in_ok-check_class.ensures L refl refl)
    (build_on (check_names (optional_node a.class)) _ L (c.in_ok-check_class_name.ensures L refl refl)
    (class_set a.nodes.now a.references.now a.bytes.now a.counts a.h a.class c.in_ok-begin_class.ensures.fits_if.1 (c.in_ok-check_class.ensures L refl refl))))

pub returns-in_err-check_class_name : goal.returns-in_err-check_class_name
unfolding exchange_class
returns-in_err-check_class_name c =
    let a = c.args in
    let L = lent a.nodes.now a.references.now a.bytes.now a.counts in
    build_on (handles_checked (a.h ∷ optional_node a.class)) _ L (c.in_ok-begin_class.ensures.says)
    (build_on (check_class a.h) _ L (c.in_ok-check_class.ensures L refl refl)
    (build_stop (check_names (optional_node a.class)) _ L _ c.from_residual-in_err-check_class_name.ensures.1 (c.in_err-check_class_name.ensures L refl refl)))

pub returns-in_err-check_class : goal.returns-in_err-check_class
unfolding exchange_class
returns-in_err-check_class c =
    let a = c.args in
    let L = lent a.nodes.now a.references.now a.bytes.now a.counts in
    build_on (handles_checked (a.h ∷ optional_node a.class)) _ L (c.in_ok-begin_class.ensures.says)
    (build_stop (check_class a.h) _ L _ c.from_residual-in_err-check_class.ensures.1 (c.in_err-check_class.ensures L refl refl))

pub returns-in_err-begin_class : goal.returns-in_err-begin_class
unfolding exchange_class
returns-in_err-begin_class c =
    let a = c.args in
    let L = lent a.nodes.now a.references.now a.bytes.now a.counts in
    build_stop (handles_checked (a.h ∷ optional_node a.class)) _ L _ c.from_residual.ensures.1 (c.in_err-begin_class.ensures.says)
