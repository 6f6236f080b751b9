-- A dump call that is accepted, and when it is.
use Rattle.std.specs.Prelude.{ℕ, zero, suc, ◌≡◌, List, length}
use Rattle.std.proofs.Math.Path.{refl}
use Rattle.std.proofs.Math.Option.{Option, none, some}
use Rattle.definition.specs.Run.{Outcome, ok, refused, pure, refuse, next, ◌>>=◌}
use Rattle.definition.specs.Arena.{Tables, arena, allowed, fault, sound, padded, zeroed}
use Rattle.definition.specs.Dump.{Written, dump, dump_wrong, dump_call_of, dump_done, dump_checked, dump_call}
use Rattle.definition.specs.Refused.{Accepted}
use Rattle.definition.specs.declared.Counts.{Counts}
use Rattle.definition.specs.declared.Fault.{Fault}
use Rattle.lists.specs.Lists.{apart}

module _ (T : Tables) (c : Counts) (scratch output : List ℕ) (limit : ℕ) where
  pub record AcceptedCall : Type 0 where
    pub no_wrong : dump_wrong T scratch output limit ≡ 0
    pub no_fault : fault T c ≡ none
    pub state : Written
    pub dumped : dump (length output) (arena T c) limit ≡ ok tt state
    pub call : dump_call T c scratch output limit ≡ dump_call_of Accepted (length state.bytes) (zeroed scratch) (padded output state.bytes)

  -- nothing is wrong, no fault, and the dump is accepted
  pub accepted_call : (w : Written) → dump_wrong T scratch output limit ≡ 0 → fault T c ≡ none → dump (length output) (arena T c) limit ≡ ok tt w
      → dump_call T c scratch output limit ≡ dump_call_of Accepted (length w.bytes) (zeroed scratch) (padded output w.bytes)
  unfolding dump_call dump_checked dump_done allowed sound pure ◌>>=◌ next
  accepted_call w p q e = rw (p, q, e)

  pub call_accepted : (dump_call T c scratch output limit).answer.answer ≡ Accepted → AcceptedCall
  unfolding dump_call dump_checked dump_done allowed sound pure refuse ◌>>=◌ next
  call_accepted a = wrong (dump_wrong T scratch output limit) refl a
    where
      done : (o : Outcome Written (Unit {0})) → dump_wrong T scratch output limit ≡ 0 → fault T c ≡ none → dump (length output) (arena T c) limit ≡ o
          → (dump_done scratch output o).answer.answer ≡ Accepted → AcceptedCall
      done (ok u w) p q e a = record { no_wrong = p; no_fault = q; state = w; dumped = e; call = accepted_call w p q e }
      done (refused r) p q e a = apart (cc)

      faulty : (f : Option Fault) → dump_wrong T scratch output limit ≡ 0 → fault T c ≡ f
          → (dump_checked T c scratch output limit (sound f tt)).answer.answer ≡ Accepted → AcceptedCall
      faulty none p q a = done (dump (length output) (arena T c) limit) p q refl a
      faulty (some f) p q a = apart (cc)

      wrong : (k : ℕ) → dump_wrong T scratch output limit ≡ k
          → (dump_checked T c scratch output limit ((allowed k >>= λ _. sound (fault T c)) tt)).answer.answer ≡ Accepted → AcceptedCall
      wrong zero p a = faulty (fault T c) p refl a
      wrong (suc k) p a = apart (cc)
