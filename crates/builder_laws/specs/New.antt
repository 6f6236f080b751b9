-- The node that a create call answers: its header and its links are those asked for.
use Rattle.std.specs.Prelude.{ℕ, ◌+◌, ◌*◌, ◌/◌, ◌≡◌, true, length}
use Rattle.std.proofs.Math.Path.{refl, ap}
use Rattle.std.proofs.Common.{sym, ◌∙◌}
use Rattle.std.proofs.Math.Bool.{false}
use Rattle.std.proofs.Math.Option.{none, some}
use mathlib.Core.List.{List, [], ◌∷◌, ◌++◌}
use Rattle.definition.specs.Run.{ok, look, pure}
use Rattle.definition.specs.Node.{symbol, optional_present, optional_node}
use Rattle.definition.specs.Magnitude.{sign, magnitude}
use Rattle.definition.specs.Arena.{Arena, node, range, fault, find_symbol}
use Rattle.definition.specs.Build.{Lent, held, bits, byte_slice, known_or_new, create_symbol}
use Rattle.definition.specs.Graph.{Header, header_of, vars_count, vars_present, header, vars_links, links}
use Rattle.lists.specs.Lists.{apart}
use Rattle.well_formed.specs.Nodes.{node_at}
use Rattle.well_formed.specs.Right.{fault_fit}
use Rattle.builder_laws.specs.Grown.{grown, range_added, node_added}
use Rattle.builder_laws.specs.Append.{held_appended}
use Rattle.well_formed.specs.Checks.{after_check}
use Rattle.builder_laws.specs.Calls.{Builder, make_nil, make_bool, make_fixnum, make_new_symbol, make_symbol, make_array, make_hash, make_object, make_string, make_user_defined, make_float, make_bignum, move_root, run, Makes, Even, made_bytes, made_list, made_row, AddedBy, Did, added, known, moved, did}
use Rattle.builder_laws.specs.Built.{known_row}

-- what is asked for
abbrev pub made_header : Builder → Header
made_header make_nil = header_of 0 0 [] 0 false false
made_header (make_bool false) = header_of 1 0 [] 0 false false
made_header (make_bool true) = header_of 1 1 [] 0 false false
made_header (make_fixnum z) = header_of 2 (bits z) [] 0 false false
made_header (make_new_symbol name) = header_of 3 0 name 0 false false
made_header (make_symbol name) = header_of 3 0 name 0 false false
made_header (make_array ms) = header_of 4 0 [] (length ms) false false
made_header (make_hash ps d) = header_of 5 0 [] (length ps / 2) (optional_present d) false
made_header (make_object c ps) = header_of 6 0 [] (length ps / 2) false false
made_header (make_string bs) = header_of 7 0 bs 0 false false
made_header (make_user_defined c bs) = header_of 8 0 bs 0 false false
made_header (make_float bs) = header_of 9 0 bs 0 false false
made_header (make_bignum minus low high) = header_of 10 (magnitude low high) [] 0 (sign minus (magnitude low high)) false
made_header (move_root h) = header_of 0 0 [] 0 false false

abbrev pub made_links : Builder → List ℕ
made_links make_nil = []
made_links (make_bool v) = []
made_links (make_fixnum z) = []
made_links (make_new_symbol name) = []
made_links (make_symbol name) = []
made_links (make_array ms) = ms
made_links (make_hash ps d) = ps ++ optional_node d
made_links (make_object c ps) = c ∷ ps
made_links (make_string bs) = []
made_links (make_user_defined c bs) = c ∷ []
made_links (make_float bs) = []
made_links (make_bignum minus low high) = []
made_links (move_root h) = []

-- ---- the row made, in the arena that holds its bytes and its list

module _ (A : Arena) (b r : ℕ) (p : length A.bytes ≡ b) (q : length A.references ≡ r) where
  abbrev G : Builder → Arena
  G c = grown A (made_bytes c) (made_list c) (made_row c b r)

  bytes_are : (bs : List ℕ) → range (A.bytes ++ bs) b (length bs) ≡ bs
  bytes_are bs = range_added A.bytes bs b (length bs) p refl

  list_is : (ms : List ℕ) (n : ℕ) → length ms ≡ n → range (A.references ++ ms) r n ≡ ms
  list_is ms n e = range_added A.references ms r n q e

  made_header_is : (c : Builder) → Makes c → header (G c) (made_row c b r) ≡ made_header c
  unfolding header vars_count vars_present optional_present
  made_header_is make_nil m = refl
  made_header_is (make_bool false) m = refl
  made_header_is (make_bool true) m = refl
  made_header_is (make_fixnum z) m = refl
  made_header_is (make_new_symbol name) m = ap (λ (x : List ℕ). header_of 3 0 x 0 false false) (bytes_are name)
  made_header_is (make_symbol name) m = ap (λ (x : List ℕ). header_of 3 0 x 0 false false) (bytes_are name)
  made_header_is (make_array ms) m = refl
  made_header_is (make_hash ps d) m = refl
  made_header_is (make_object c ps) m = refl
  made_header_is (make_string bs) m = ap (λ (x : List ℕ). header_of 7 0 x 0 false false) (bytes_are bs)
  made_header_is (make_user_defined c bs) m = ap (λ (x : List ℕ). header_of 8 0 x 0 false false) (bytes_are bs)
  made_header_is (make_float bs) m = ap (λ (x : List ℕ). header_of 9 0 x 0 false false) (bytes_are bs)
  made_header_is (make_bignum minus low high) m = refl
  made_header_is (move_root n) m = absurd m

  made_links_are : (c : Builder) → Makes c → Even c → links (G c) (made_row c b r) ≡ made_links c
  unfolding links vars_links optional_node
  made_links_are make_nil m e = refl
  made_links_are (make_bool v) m e = refl
  made_links_are (make_fixnum z) m e = refl
  made_links_are (make_new_symbol name) m e = refl
  made_links_are (make_symbol name) m e = refl
  made_links_are (make_array ms) m e = list_is ms (length ms) refl
  made_links_are (make_hash ps d) m e = ap (λ (l : List ℕ). l ++ optional_node d) (list_is ps (length ps / 2 * 2) e)
  made_links_are (make_object c ps) m e = ap (λ (l : List ℕ). c ∷ l) (list_is ps (length ps / 2 * 2) e)
  made_links_are (make_string bs) m e = refl
  made_links_are (make_user_defined c bs) m e = refl
  made_links_are (make_float bs) m e = refl
  made_links_are (make_bignum minus low high) m e = refl
  made_links_are (move_root n) m e = absurd m

-- ---- the laws

-- the node answered reads as asked for
pub record Made (c : Builder) (M : Lent) (h : ℕ) : Type 0 where
  pub header_is : header (held M) (node (held M) h) ≡ made_header c
  pub links_are : links (held M) (node (held M) h) ≡ made_links c

-- a node is added, and is the one answered
pub record Appended (c : Builder) (L M : Lent) (h : ℕ) : Type 0 where
  pub handle : h ≡ L.counts.nodes
  pub node_count : M.counts.nodes ≡ L.counts.nodes + 1
  pub reference_count : M.counts.references ≡ L.counts.references + length (made_list c)
  pub byte_count : M.counts.bytes ≡ L.counts.bytes + length (made_bytes c)
  pub row_is : node (held M) h ≡ made_row c L.counts.bytes L.counts.references
  pub holds : held M ≡ grown (held L) (made_bytes c) (made_list c) (made_row c L.counts.bytes L.counts.references)

-- a call that adds a node: all that make one, `create_symbol` when the name is new
abbrev pub Adds : Builder → Lent → Type 0
Adds make_nil L = Unit {0}
Adds (make_bool v) L = Unit {0}
Adds (make_fixnum z) L = Unit {0}
Adds (make_new_symbol name) L = Unit {0}
Adds (make_symbol name) L = find_symbol (held L).bytes name (held L).nodes 0 ≡ none
Adds (make_array ms) L = Unit {0}
Adds (make_hash ps d) L = Unit {0}
Adds (make_object c ps) L = Unit {0}
Adds (make_string bs) L = Unit {0}
Adds (make_user_defined c bs) L = Unit {0}
Adds (make_float bs) L = Unit {0}
Adds (make_bignum minus low high) L = Unit {0}
Adds (move_root n) L = ⊥

module _ (L M : Lent) (h : ℕ) where
  appended_of : (c : Builder) → fault L.tables L.counts ≡ none → AddedBy c L h M → Appended c L M h
  appended_of c s a =
      let f = fault_fit L.tables L.counts s in
      let ho : held M ≡ grown (held L) (made_bytes c) (made_list c) (made_row c L.counts.bytes L.counts.references) = rw a.left (held_appended L (made_bytes c) (made_list c) _ a.room) in
      record {
        handle = a.handle;
        node_count = rw a.left;
        reference_count = rw a.left;
        byte_count = rw a.left;
        row_is = rw ho (node_added (held L) (made_bytes c) (made_list c) _ h (a.handle ∙ sym f.nodes));
        holds = ho;
      }

  made_of : (c : Builder) → Makes c → Even c → fault L.tables L.counts ≡ none → AddedBy c L h M → Made c M h
  made_of c m v s a =
      let f = fault_fit L.tables L.counts s in
      let x = appended_of c s a in
      record {
        header_is = rw (x.row_is, x.holds) (made_header_is (held L) L.counts.bytes L.counts.references f.bytes f.references c m);
        links_are = rw (x.row_is, x.holds) (made_links_are (held L) L.counts.bytes L.counts.references f.bytes f.references c m v);
      }

  known_made : (name : List ℕ) → find_symbol (held L).bytes name (held L).nodes 0 ≡ some h → Made (make_symbol name) L h
  unfolding header links
  known_made name p =
      let (a, l, x, y) = known_row (held L) name h p in
      let z = node_at (held L) h (symbol a l) x in
      record { header_is = rw (z, y); links_are = rw z }

  -- every create call answers a node with the header and the links asked for
  pub built_made : (c : Builder) → Makes c → run c L ≡ ok h M → Made c M h
  built_made c m e = let (s, d) = did L M h c e in go m s d
    where
      go : {c : Builder} → Makes c → fault L.tables L.counts ≡ none → Did L h M c → Made c M h
      go {c} m s (added _ v a) = made_of c m v s a
      go m s (known {name} p q) = rw q (known_made name p)
      go m s (moved l p q) = absurd m

  -- and where it adds one, that is the node after the last
  pub built_new : (c : Builder) → Adds c L → run c L ≡ ok h M → Appended c L M h
  built_new c m e = let (s, d) = did L M h c e in go m s d
    where
      go : {c : Builder} → Adds c L → fault L.tables L.counts ≡ none → Did L h M c → Appended c L M h
      go {c} m s (added _ v a) = appended_of c s a
      go m s (known {name} p q) = apart (cc)
      go m s (moved l p q) = absurd m

  -- a known name adds nothing, and answers the lowest symbol node with it
  pub built_known : (name : List ℕ) (i : ℕ) → find_symbol (held L).bytes name (held L).nodes 0 ≡ some i → create_symbol name L ≡ ok h M → (h ≡ i) × (M ≡ L)
  unfolding create_symbol look known_or_new pure
  built_known name i k e =
      let (w, s, e₁) = after_check (byte_slice name ∷ []) _ L M h e in
      let z : known_or_new name (some i) L ≡ ok h M = rw k at e₁ in
      (cc, cc)
