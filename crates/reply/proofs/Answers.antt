-- Each answer by its Result, whose value is by unwrap_or.
use Prim.Native.Nat.{ℕ}
use mathlib.Core.List.{List}
use mathlib.Core.Path.{◌≡◌, refl}
use lib.ListN.{replicate}
use lib.Ieee.{of_bits, binary64}
use Rattle.std.specs.Prelude.{Result, Ok, Err}
use Rattle.std.specs.Result.{result_unwrap_or}
use Rattle.definition.specs.Arena.{counts_of}
use Rattle.definition.specs.Refused.{answer_of}
use Rattle.definition.specs.Dump.{dump_answer}
use Rattle.definition.specs.Build.{build_answer, new_answer, number_answer, words_answer, name_answer}
use Rattle.definition.specs.Weight.{reading_answer, weighed_answer}
use Rattle.definition.specs.Cost.{cost_answer}
use Rattle.definition.specs.declared.Counts.{Counts}
use Rattle.definition.specs.declared.Created.{Created}
use Rattle.definition.specs.declared.Name.{Name}
use Rattle.definition.specs.declared.Reading.{Reading}
use Rattle.definition.specs.declared.Reading.TheVariants.{NotANumber}
use Rattle.definition.specs.declared.Refusal.{Refusal}
use Rattle.definition.specs.declared.Weighing.{Weighing}

pub dumped : (r : Result ℕ Refusal) → dump_answer r ≡ record { answer = answer_of r; written = result_unwrap_or r 0 }
unfolding dump_answer answer_of
dumped (Ok x) = refl
dumped (Err q) = refl

pub begun : (r : Result Counts Refusal) → new_answer r ≡ record { answer = answer_of r; counts = result_unwrap_or r (counts_of 0 0 0 0) }
unfolding new_answer answer_of
begun (Ok x) = refl
begun (Err q) = refl

pub number : (r : Result ℕ Refusal) → number_answer r ≡ record { answer = answer_of r; value = result_unwrap_or r 0 }
unfolding number_answer answer_of
number (Ok x) = refl
number (Err q) = refl

pub node : (r : Result (List ℕ) Refusal) → words_answer r ≡ record { answer = answer_of r; words = result_unwrap_or r (replicate 8 0) }
unfolding words_answer answer_of
node (Ok x) = refl
node (Err q) = refl

pub name : (r : Result Name Refusal) → name_answer r ≡ let n = result_unwrap_or r (record { start = 0; length = 0 }) in record { answer = answer_of r; start = n.start; length = n.length }
unfolding name_answer answer_of
name (Ok x) = refl
name (Err q) = refl

pub created : (given : Counts) (r : Result Created Refusal) → build_answer given r ≡ let a = result_unwrap_or r (record { handle = 0; counts = given }) in record { answer = answer_of r; handle = a.handle; counts = a.counts }
unfolding build_answer answer_of
created given (Ok x) = refl
created given (Err q) = refl

pub reading : (r : Result Reading Refusal) → reading_answer r ≡ record { answer = answer_of r; reading = result_unwrap_or r NotANumber }
unfolding reading_answer answer_of
reading (Ok x) = refl
reading (Err q) = refl

pub weighed : (r : Result Weighing Refusal) → weighed_answer r ≡ record { answer = answer_of r; weighing = result_unwrap_or r (record { dry = of_bits binary64 0; moisture = of_bits binary64 0; wet = of_bits binary64 0 }) }
unfolding weighed_answer answer_of of_bits
weighed (Ok x) = refl
weighed (Err q) = refl

pub costed : (r : Result ℕ Refusal) → cost_answer r ≡ record { answer = answer_of r; cents = result_unwrap_or r 0 }
unfolding cost_answer answer_of
costed (Ok x) = refl
costed (Err q) = refl
