-- The proof of open_variables.
use mathlib.Core.Path.{refl}
use Rattle.writer.specs.Laws.{goes_as, goes_first, lead_first, ready, ready_as}
use Rattle.object_writer.specs.Laws.{head_stop, head_as}
use Rattle.dumper.proofs.Variables.{variables_counted, variables_elements, variables_none, first_name, name_stops, name_deep}
use Rattle.dumper.proofs.open_variables.Goals as goal

pub returns-in_err-write_fixnum : goal.returns-in_err-write_fixnum
returns-in_err-write_fixnum c = λ A room limit l li p. head_as (variables_counted room A _ c.args.start c.args.n) (head_stop _ c.from_residual.ensures (lead_first _ (c.in_err-write_fixnum.ensures A room limit _)).leads)

pub returns-then-levels-ne0 : goal.returns-then-levels-ne0
returns-then-levels-ne0 c = λ A room limit l li p. record { heads = goes_as (variables_elements room limit c.args.levels c.args.start c.args.n p c.if-levels-ne0.true) (goes_first _ (c.in_ok-write_fixnum.ensures A room limit _).leads) }

pub returns-then-n-eq0 : goal.returns-then-n-eq0
returns-then-n-eq0 c = λ A room limit l li p. record { heads = goes_as (variables_none room limit c.args.levels c.args.start c.args.n p c.if-n-eq0.true) (goes_first _ (c.in_ok-write_fixnum.ensures A room limit _).leads) }

pub write_symbol-requires : goal.write_symbol-requires
write_symbol-requires c = ready_as (λ A f. (f.0, first_name 0 0 0 c.args.start c.args.n f.2 f.1 c.if-n-eq0.false _ _ refl refl)) (ready _ _ c.requires (λ A room f. c.in_ok-write_fixnum.ensures A room 0 _))

pub returns-in_err-write_symbol : goal.returns-in_err-write_symbol
returns-in_err-write_symbol c = λ A room limit l li p. name_stops room limit c.args.levels c.args.start c.args.n p li c.if-n-eq0.false _ _ refl refl c.if-levels-ne0.false (c.in_ok-write_fixnum.ensures A room limit _) c.from_residual-in_err-write_symbol.ensures (c.in_err-write_symbol.ensures A room limit l)

pub returns : goal.returns
returns c = λ A room limit l li p. name_deep room limit c.args.levels c.args.start c.args.n p li c.if-n-eq0.false _ _ refl refl c.if-levels-ne0.false (c.in_ok-write_fixnum.ensures A room limit _) (c.in_ok-write_symbol.ensures A room limit l)
