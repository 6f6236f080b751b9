-- What each of the three loads answers of the load that all are, and answers by their fields.
use Rattle.std.specs.Prelude.{ℕ, Bool, Result, Ok, Err}
use Rattle.definition.specs.Arena.{counts_of}
use Rattle.definition.specs.Load.{LoadAnswer, load_answer}
use Rattle.definition.specs.LoadMeasured.{MeasuredAnswer, measured_answer}
use Rattle.definition.specs.LoadHashed.{HashedAnswer, hashed_answer}
use Rattle.definition.specs.declared.Loaded.{Loaded}
use Rattle.definition.specs.declared.Refusal.{Refusal}
use Rattle.load.specs.declared.Counted.{Counted}

abbrev pub load_of : Result Counted Refusal → LoadAnswer
load_of (Ok r) = load_answer (Ok r.load)
load_of (Err q) = load_answer (Err q)

abbrev pub measured_of : Result Counted Refusal → MeasuredAnswer
measured_of (Ok r) = measured_answer (Ok (record { load = r.load; copied = r.copied; compared = r.compared }))
measured_of (Err q) = measured_answer (Err q)

abbrev pub hashed_of : Result Counted Refusal → HashedAnswer
hashed_of (Ok r) = hashed_answer (Ok (record { load = r.load; looked = r.looked }))
hashed_of (Err q) = hashed_answer (Err q)

-- the counts of nodes, references and bytes, the root, the bytes used, and whether dump writes just these
abbrev pub loaded_as : ℕ → ℕ → ℕ → ℕ → ℕ → Bool → Loaded
loaded_as n r b h u f = record { counts = counts_of n r b h; used = u; form = f }

-- with all that the three loads tell
abbrev pub counted_as : Loaded → ℕ → ℕ → ℕ → Counted
counted_as l copied compared looked = record { load = l; copied = copied; compared = compared; looked = looked }
