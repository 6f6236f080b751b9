-- The same graph: an equivalence, and all that a dump sees of an arena.
use Rattle.std.specs.Prelude.{ℕ, ◌≡◌, refl, List, length}
use Rattle.std.proofs.Common.{subst}
use Rattle.std.proofs.Math.Option.{none}
use Rattle.definition.specs.Run.{Outcome, pure, next, ◌>>=◌}
use Rattle.definition.specs.Arena.{Tables, arena, allowed, sound, fault, padded, zeroed}
use Rattle.definition.specs.Graph.{SameGraph}
use Rattle.definition.specs.Dump.{Written, dump, dump_done, dump_checked, dump_call}
use Rattle.definition.specs.Refused.{Accepted}
use Rattle.definition.specs.declared.Counts.{Counts}
use Rattle.definition.specs.Dump.{DumpAnswer}
use Rattle.well_formed.specs.Right.{fault_right}
use Rattle.dump_forest.specs.Answers.{Answered, with_bytes, with_refusal, dump_answered}
use Rattle.round_trip.specs.Statement.{DumpAllowed}
-- ---- an equivalence

pub use Rattle.dump_forest.specs.Same.{same_refl, same_sym, same_trans}

-- ---- dump sees nothing else

-- a dump that is neither refused with 1 nor with 2
dump_goes : (T : Tables) (c : Counts) (scratch output : List ℕ) (limit : ℕ) → DumpAllowed T scratch output limit → fault T c ≡ none
    → dump_call T c scratch output limit ≡ dump_done scratch output (dump (length output) (arena T c) limit)
unfolding dump_call dump_checked allowed sound pure ◌>>=◌ next
dump_goes T c scratch output limit a e = rw (a, e)

padded_same : (t u l m : List ℕ) → length t ≡ length u → l ≡ m → padded t l ≡ padded u m
unfolding padded
padded_same t u l m e f = rw (e, f)

zeroed_same : (t u : List ℕ) → length t ≡ length u → zeroed t ≡ zeroed u
unfolding zeroed
zeroed_same t u e = rw e

done_alike : (scratch scratch' output output' : List ℕ) → length output ≡ length output' → {o o' : Outcome Written (Unit {0})} → Answered o o'
    → ((dump_done scratch output o).answer ≡ (dump_done scratch' output' o').answer) × ((dump_done scratch output o).output ≡ (dump_done scratch' output' o').output)
unfolding dump_done
done_alike scratch scratch' output output' e (with_bytes {s = s} {t = t} b) = (answers s.bytes t.bytes b, padded_same output output' s.bytes t.bytes e b)
  where
    answers : (l m : List ℕ) → l ≡ m → ◌≡◌ {A = DumpAnswer} (record { answer = Accepted; written = length l }) (record { answer = Accepted; written = length m })
    answers l m q = rw q
done_alike scratch scratch' output output' e with_refusal = (refl, zeroed_same output output' e)

-- well-formed arenas with the same graph, one limit, outputs of one size: one answer, and one output
pub dump_sees_graph : (T U : Tables) (c d : Counts) → fault T c ≡ none → fault U d ≡ none → SameGraph (arena T c) (arena U d)
    → (scratch scratch' output output' : List ℕ) (limit : ℕ) → DumpAllowed T scratch output limit → DumpAllowed U scratch' output' limit → length output ≡ length output'
    → ((dump_call T c scratch output limit).answer ≡ (dump_call U d scratch' output' limit).answer) × ((dump_call T c scratch output limit).output ≡ (dump_call U d scratch' output' limit).output)
dump_sees_graph T U c d e e' s scratch scratch' output output' limit a a' l =
    let x = dump_answered (arena T c) (arena U d) (fault_right T c e) (fault_right U d e') s (length output) limit in
    let y : Answered (dump (length output) (arena T c) limit) (dump (length output') (arena U d) limit) = subst (λ (n : ℕ). Answered (dump (length output) (arena T c) limit) (dump n (arena U d) limit)) l x in
    rw (dump_goes T c scratch output limit a e, dump_goes U d scratch' output' limit a' e') (done_alike scratch scratch' output output' l y)
