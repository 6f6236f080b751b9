-- An object's beginning, and what code that writes it has to meet.
use Rattle.std.specs.Prelude.{ℕ, zero, suc, ◌<◌, List, [], ◌∷◌, length}
use Rattle.std.specs.declared.result.Result.{Result}
use Rattle.std.specs.declared.result.Result.TheVariants.{Ok, Err}
use Rattle.definition.specs.Run.{pure}
use Rattle.definition.specs.Kind.{INSTANCE_VARIABLES}
use Rattle.definition.specs.Node.{kind}
use Rattle.definition.specs.Arena.{Arena, node}
use Rattle.definition.specs.Dump.{Writer, ◌>>◌, write, write_class, write_object_or_link}
use Rattle.writer.specs.declared.Progress.{Progress}
use Rattle.writer.specs.declared.Stop.{Stop}
use Rattle.writer.specs.Held.{Buffers, Goes, Refuses, stopped}
use Rattle.object_writer.specs.declared.Opened.{Opened}
use Rattle.object_writer.specs.declared.Opened.TheVariants.{More, Whole}

-- node v is of kinds 4 to 10
pub record IsObject (A : Arena) (v : ℕ) : Type 0 where
  pub below : v < length A.nodes
  pub kind_above : 3 < kind (node A v)

-- what code answers that begins a value
abbrev pub Beginning : Type 0
Beginning = Result Opened Stop

-- by the answer: m has come to m', or m is done with the whole value (a link, a scalar, a float, a bignum, or a string or user-defined value without variables), or it is refused
abbrev pub HeadCase : Arena → ℕ → ℕ → Writer → Writer → Buffers → Progress → Beginning → Buffers → Progress → Type 0
HeadCase A room limit m m' B c (Ok More) B' c' = Goes A room m B c m' B' c'
HeadCase A room limit m m' B c (Ok Whole) B' c' = Goes A room m B c (pure tt) B' c'
HeadCase A room limit m m' B c (Err q) B' c' = Refuses A room m B c (stopped limit q)

pub record Heads (A : Arena) (room limit : ℕ) (m m' : Writer) (B : Buffers) (c : Progress) (r : Beginning) (B' : Buffers) (c' : Progress) : Type 0 where
  pub heads : HeadCase A room limit m m' B c r B' c'

-- an object's beginning, which m puts before any rest
abbrev pub Opens : Arena → ℕ → ℕ → (Writer → Writer) → Buffers → Progress → Beginning → Buffers → Progress → Type 0
Opens A room limit m B c r B' c' = (rest : Writer) → Heads A room limit (m rest) rest B c r B' c'

-- `I` and the level where the mark f says that there are variables, and then the rest
unfoldable pub begun : ℕ → Writer → ℕ → Writer → Writer
begun room level zero rest = rest
begun room level (suc f) rest = write room (INSTANCE_VARIABLES ∷ []) >> level >> rest

-- the bytes first given of an object that is not linked, and then the rest
abbrev pub opened : ℕ → ℕ → List ℕ → Writer → Writer
opened room v bs rest = write_object_or_link room v (write room bs >> rest)

-- likewise after the class
abbrev pub classed : ℕ → Arena → ℕ → ℕ → List ℕ → Writer → Writer
classed room A v w bs rest = write_object_or_link room v (write_class room A w >> (write room bs >> rest))

-- likewise after `I` and the level, where there are variables, and the class
abbrev pub texted : ℕ → Arena → ℕ → Writer → ℕ → ℕ → List ℕ → Writer → Writer
texted room A v level f w bs rest = write_object_or_link room v (begun room level f (write_class room A w >> (write room bs >> rest)))
