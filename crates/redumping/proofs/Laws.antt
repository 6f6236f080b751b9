-- What redump leaves, by load's answer.
use Prim.Native.Nat.{ℕ}
use mathlib.Core.Path.{◌≡◌, ap, ◌∙◌}
use mathlib.Core.List.{List}
use Rattle.std.specs.Prelude.{Ok, Err}
use Rattle.definition.specs.Load.{Lists, load_answer, LoadCall, load_call_of}
use Rattle.definition.specs.Dump.{dump_answer, DumpCall, dump_call, dump_call_of}
use Rattle.definition.specs.Refused.{Answer, Refused}
use Rattle.definition.specs.declared.Loaded.{Loaded}
use Rattle.definition.specs.declared.Refusal.{Refusal}
use Rattle.console.specs.Call.{input_call}
use Rattle.redumping.specs.Redump.{redump_loaded, redump_after, redump_call}

module _ (input : List ℕ) (T : Lists) (scratch output : List ℕ) where
  abbrev k : LoadCall
  k = input_call input T

  -- the load was accepted, with r, and left T'
  pub dumped : (r : Loaded) (T' : Lists) → load_answer (Ok r) ≡ k.answer → T' ≡ k.lent → {d : DumpCall} → d ≡ dump_call (record { nodes = T'.nodes; references = T'.references; bytes = T'.bytes }) r.counts scratch output 64 → d ≡ redump_call input T scratch output
  unfolding redump_call redump_loaded load_answer
  dumped r T' e f h =
      let same : load_call_of (load_answer (Ok r)) T' ≡ k = λ i. load_call_of (e i) (f i) in
      h ∙ ap (λ (x : LoadCall). redump_after x scratch output) same

  -- its refusal is handed on
  pub handed_on : (q : Refusal) → Refused q ≡ k.answer.answer → dump_call_of (dump_answer (Err q)).answer (dump_answer (Err q)).written scratch output ≡ redump_call input T scratch output
  unfolding redump_call redump_loaded dump_answer
  handed_on q e = ap (λ (x : Answer). redump_loaded x (record { nodes = k.lent.nodes; references = k.lent.references; bytes = k.lent.bytes }) k.answer.counts scratch output) e
