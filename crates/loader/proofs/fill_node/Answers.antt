-- The proof of fill_node.
use Rattle.table_writer.proofs.Added.{row_filled}
use Rattle.loader.proofs.fill_node.Goals as goal

pub returns : goal.returns
returns c = λ input room row re by sy ob l e f h q. row_filled _ row _ e f h q c.put_node.ensures
