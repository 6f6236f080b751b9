-- What redump answers and leaves, by the definitions of the programs' load and of dump's call.
use Rattle.std.specs.Prelude.{ℕ, List}
use Rattle.definition.specs.Arena.{Tables}
use Rattle.definition.specs.Load.{Lists, LoadCall}
use Rattle.definition.specs.Dump.{DumpCall, dump_call, dump_call_of}
use Rattle.definition.specs.Refused.{Answer}
use Rattle.definition.specs.Refused.{Accepted, Refused}
use Rattle.definition.specs.declared.Counts.{Counts}
use Rattle.console.specs.Call.{input_call}

-- the arena that load left is dumped, or load's refusal is handed on
unfoldable pub redump_loaded : Answer → Tables → Counts → List ℕ → List ℕ → DumpCall
redump_loaded Accepted T c scratch output = dump_call T c scratch output 64
redump_loaded (Refused q) T c scratch output = dump_call_of (Refused q) 0 scratch output

abbrev pub redump_after : LoadCall → List ℕ → List ℕ → DumpCall
redump_after k scratch output = redump_loaded k.answer.answer (record { nodes = k.lent.nodes; references = k.lent.references; bytes = k.lent.bytes }) k.answer.counts scratch output

unfoldable pub redump_call : List ℕ → Lists → List ℕ → List ℕ → DumpCall
redump_call input T scratch output = redump_after (input_call input T) scratch output
