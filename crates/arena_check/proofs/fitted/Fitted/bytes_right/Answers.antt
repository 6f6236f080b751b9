-- The proof of bytes_right.
use Rattle.arena_check.proofs.Rights.{bytes_at}
use Rattle.arena_check.proofs.fitted.Fitted.bytes_right.Goals as goal

pub returns : goal.returns
returns c =
    let a = c.args in
    λ A H. bytes_at A a.start a.n a.self.stored H.bytes_same
