-- The proof of takes_integer.
use borrow.Author.Rules.{rules}
use borrow.Author.Tests.{lt-ltb}
use Rattle.load_state.specs.Names.{untrue}
use Rattle.run_reader.proofs.takes_integer.Goals as goal

pub returns-then-k-ne-FIXNUM : goal.returns-then-k-ne-FIXNUM
returns-then-k-ne-FIXNUM c = record { k_value = λ e. untrue e; value = λ k n l. absurd (c.if-k-ne-FIXNUM.true k) }

pub returns-then-to-names : goal.returns-then-to-names
returns-then-to-names c = record { k_value = λ e. untrue e; value = λ k n l. absurd (n c.if-to-names.true) }

pub returns : goal.returns
returns c = record { k_value = search rules; value = λ k n l. lt-ltb _ _ l }
