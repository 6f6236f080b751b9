-- What load works on: the room there is, and what stands in tables and lists so far (01, "load"; 02, 2.2 and 2.3).
use Rattle.std.specs.Prelude.{ℕ, ◌+◌, Bool, ◌&&◌, List}
use Rattle.definition.specs.Run.{Run}
use Rattle.definition.specs.Node.{Row}

-- how many nodes, references, bytes and entries of the two lists there is room for
pub record Room : Type 0 where
  pub nodes : ℕ
  pub references : ℕ
  pub bytes : ℕ
  pub symbols : ℕ
  pub objects : ℕ

-- what load notes that no table holds: is all that was read so far as dump writes it; how many bytes were copied to the byte table, and how many compared
pub record Notes : Type 0 where
  pub form : Bool
  pub copied : ℕ
  pub compared : ℕ

-- the offset in the input, what the tables and lists hold so far, and what is noted
pub record State : Type 0 where
  pub at : ℕ
  pub nodes : List Row
  pub references : List ℕ
  pub bytes : List ℕ
  pub symbols : List ℕ
  pub objects : List ℕ
  pub notes : Notes

-- a step of load that gives an A
abbrev pub Reader : Type 0 → Type 0
Reader A = Run State A

-- a state with one part changed: the offset, the nodes, the references, the bytes, either list, the notes
abbrev pub at_set : ℕ → State → State
at_set x s = record { at = x; nodes = s.nodes; references = s.references; bytes = s.bytes; symbols = s.symbols; objects = s.objects; notes = s.notes }

abbrev pub nodes_set : List Row → State → State
nodes_set x s = record { at = s.at; nodes = x; references = s.references; bytes = s.bytes; symbols = s.symbols; objects = s.objects; notes = s.notes }

abbrev pub references_set : List ℕ → State → State
references_set x s = record { at = s.at; nodes = s.nodes; references = x; bytes = s.bytes; symbols = s.symbols; objects = s.objects; notes = s.notes }

abbrev pub bytes_set : List ℕ → State → State
bytes_set x s = record { at = s.at; nodes = s.nodes; references = s.references; bytes = x; symbols = s.symbols; objects = s.objects; notes = s.notes }

abbrev pub symbols_set : List ℕ → State → State
symbols_set x s = record { at = s.at; nodes = s.nodes; references = s.references; bytes = s.bytes; symbols = x; objects = s.objects; notes = s.notes }

abbrev pub objects_set : List ℕ → State → State
objects_set x s = record { at = s.at; nodes = s.nodes; references = s.references; bytes = s.bytes; symbols = s.symbols; objects = x; notes = s.notes }

abbrev pub notes_set : Notes → State → State
notes_set x s = record { at = s.at; nodes = s.nodes; references = s.references; bytes = s.bytes; symbols = s.symbols; objects = s.objects; notes = x }

-- ---- what is noted

-- as dump writes it so far, if the test holds too
abbrev pub noted : Bool → State → State
noted b s = notes_set (record { form = b && s.notes.form; copied = s.notes.copied; compared = s.notes.compared }) s

-- n bytes more are copied
abbrev pub copied_more : ℕ → State → State
copied_more n s = notes_set (record { form = s.notes.form; copied = s.notes.copied + n; compared = s.notes.compared }) s

-- n bytes more are compared
abbrev pub compared_more : ℕ → State → State
compared_more n s = notes_set (record { form = s.notes.form; copied = s.notes.copied; compared = s.notes.compared + n }) s
