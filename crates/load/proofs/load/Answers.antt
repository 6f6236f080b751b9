-- The proof of load: what load_next says of the reader at the start is said of the input.
use Rattle.definition.specs.Load.{load_call}
use Rattle.load.proofs.load.Goals as goal

pub returns : goal.returns
unfolding load_call
returns c =
    let (e, o) = c.start.ensures in
    rw (e, o) at c.load_next.ensures
