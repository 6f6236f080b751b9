-- What of a value comes after its beginning: its members, by the words of its node.
use Rattle.std.specs.Prelude.{ℕ, ◌+◌, ◌*◌, ◌≤◌, List, eqb, length, get_or}
use Rattle.definition.specs.Run.{pick}
use Rattle.definition.specs.Node.{width, LIST, COUNT, DEFAULT}
use Rattle.definition.specs.Arena.{Arena, range}
use Rattle.definition.specs.Dump.{Writer, ◌>>◌, write_elements, write_default}
use Rattle.well_formed.specs.Right.{ListIn}

-- how many words a list of n elements or pairs has, by the kind; the default, as word 6 has it
unfoldable pub listed : ℕ → ℕ → ℕ
listed k n = pick (eqb k 4) n (n * 2)

unfoldable pub default_of : ℕ → ℕ → ℕ
default_of k f = pick (eqb k 5) f 0

-- what of a value of kinds 4 to 8 comes after its beginning: k, start, n and f are its words 0, 3, 4 and 6
abbrev pub members_of : ℕ → Arena → (ℕ → Writer) → ℕ → ℕ → ℕ → ℕ → Writer
members_of room A inner k start n f = write_elements inner (range A.references start (listed k n)) >> write_default room A inner (default_of k f)

-- its list is inside the references, its default below the node count
abbrev pub MembersIn : Arena → List ℕ → ℕ → Type 0
MembersIn A t v = ListIn A (get_or t (v * width + LIST) 0) (listed (get_or t (v * width) 0) (get_or t (v * width + COUNT) 0)) × (default_of (get_or t (v * width) 0) (get_or t (v * width + DEFAULT) 0) ≤ length A.nodes)
