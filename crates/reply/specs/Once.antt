-- What the answer words say is all of it: no two details are told by one word.
use Rattle.std.specs.Prelude.{◌<◌, ◌≡◌, ℤ, pos, negsuc}
use Rattle.std.proofs.Common.{arith, ap}
use Rattle.reply.specs.Reply.{word}

-- an integer of 64 bits; details are, since they run from -2^31 to 2^32 - 1
abbrev pub Narrow : ℤ → Type 0
Narrow (pos n) = n < 9223372036854775808
Narrow (negsuc n) = n < 9223372036854775808

pub word_once : (a b : ℤ) → Narrow a → Narrow b → word a ≡ word b → a ≡ b
unfolding word
word_once (pos m) (pos n) h k e = ap pos e
word_once (pos m) (negsuc n) h k e = absurd (omega arith)
word_once (negsuc m) (pos n) h k e = absurd (omega arith)
word_once (negsuc m) (negsuc n) h k e = let z : m ≡ n = omega arith in ap negsuc z
