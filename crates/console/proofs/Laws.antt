-- What the programs' load leaves, by the input's length.
use Prim.Native.Nat.{ℕ, ◌≤◌, ◌<◌}
use mathlib.Core.Path.{◌≡◌, refl}
use mathlib.Core.List.{List}
use lib.ListN.{length}
use borrow.Author.Tests.{lt-ltb, le-ltb}
use Rattle.std.specs.Prelude.{Result, Ok, Err}
use Rattle.definition.specs.Run.{pick}
use Rattle.definition.specs.Slice.{INPUT}
use Rattle.definition.specs.Arena.{counts_of}
use Rattle.definition.specs.Load.{Lists, LoadAnswer, load_answer, LoadCall, load_call}
use Rattle.definition.specs.declared.Loaded.{Loaded}
use Rattle.definition.specs.declared.Refusal.{Refusal}
use Rattle.definition.specs.declared.Refusal.TheVariants.{NoSpace}
use Rattle.console.specs.Call.{refused_answer, input_answer, too_long, input_call}

module _ (input : List ℕ) (T : Lists) where
  pub not_loaded : 16384 < length input → too_long T ≡ input_call input T
  unfolding input_call pick
  not_loaded h = rw (lt-ltb 16384 (length input) h) refl

  pub loaded : {k : LoadCall} → length input ≤ 16384 → k ≡ load_call input T 64 → k ≡ input_call input T
  unfolding input_call pick
  loaded h e = rw (le-ltb 16384 (length input) h) e

module _ (input : List ℕ) where
  -- of an input that is not too long the answer is load's
  pub answers : (r : Result Loaded Refusal) {a : LoadAnswer} → length input ≤ 16384 → load_answer r ≡ a → input_answer input r ≡ a
  unfolding load_answer pick
  answers (Ok r) h e = e
  answers (Err q) h e = rw (le-ltb 16384 (length input) h) e

  -- of one that is, nothing is counted
  pub long_answer : {a : LoadAnswer} → 16384 < length input → refused_answer (counts_of 0 0 0 0) (NoSpace INPUT) ≡ a → input_answer input (Err (NoSpace INPUT)) ≡ a
  unfolding pick
  long_answer h e = rw (lt-ltb 16384 (length input) h) e
