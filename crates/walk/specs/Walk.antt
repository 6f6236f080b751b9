-- All readers of load walked once, for any relation between two loads: what the relation must keep is said by the record Walk, and then two loads are related.
use Prim.Native.Nat.{ℕ, zero, suc, ◌+◌, ◌*◌}
use Rattle.std.specs.Prelude.{◌≡◌, Bool, List, length, get_or}
use Rattle.std.proofs.Common.{subst, arith}
use Rattle.std.proofs.Math.Bool.{true, false}
use Rattle.std.proofs.Math.Option.{Option, none, some}
use Rattle.definition.specs.declared.Refusal.{Refusal}
use Rattle.definition.specs.declared.Refusal.TheVariants.{TooDeep}
use Rattle.definition.specs.Run.{pure, refuse, ◌>>=◌, look, pick}
use Rattle.definition.specs.Integer.{Form, value, data_bytes, form}
use Rattle.definition.specs.Node.{Row, nil, fixnum, symbol}
use Rattle.definition.specs.Arena.{find_symbol}
use Rattle.definition.specs.State.{State, Room, Reader}
use Rattle.definition.specs.Load.{Head, takes_variables}
use Rattle.definition.specs.Load as L

-- so many levels, and extra ones
unfoldable pub raised : ℕ → ℕ → ℕ
raised extra zero = extra
raised extra (suc levels) = suc (raised extra levels)

pub raised_sum : (extra levels : ℕ) → raised extra levels ≡ levels + extra
unfolding raised
raised_sum extra zero = omega arith
raised_sum extra (suc levels) = omega (arith, raised_sum extra levels)

-- a relation between readers, for every result
abbrev pub Relation : Type 1
Relation = (A : Type 0) → Reader A → Reader A → Type 0

-- what a relation R between the readers of one load and those of another must keep; Inner is what is known of two readers of a member
pub record Walk (R : Relation) (Inner : Reader ℕ → Reader ℕ → Type 0) (input input' : List ℕ) (room room' : Room) (limit limit' extra : ℕ) : Type 1 where
  -- what readers are made of
  pub then : {A B : Type 0} {m m' : Reader A} {f g : A → Reader B} → R A m m' → ((a : A) → R B (f a) (g a)) → R B (m >>= f) (m' >>= g)
  pub give : {A : Type 0} (a : A) → R A (pure a) (pure a)
  pub stop : {A : Type 0} (r : Refusal) → R A (refuse r) (refuse r)
  pub looking : {A : Type 0} {f g : State → Reader A} → ((s : State) → R A (f s) (g s)) → R A (look f) (look g)
  -- steps that look at neither the input nor the room
  pub note : (b : Bool) → R (Unit {0}) (L.note b) (L.note b)
  pub compare : (k : ℕ) → R (Unit {0}) (L.compare k) (L.compare k)
  pub fill : (i : ℕ) (r : Row) → R ℕ (L.fill i r) (L.fill i r)
  pub put_reference : (i v : ℕ) → R (Unit {0}) (L.put_reference i v) (L.put_reference i v)
  pub entry : (l : List ℕ) (i : ℕ) (r : Refusal) → R ℕ (L.entry l i r) (L.entry l i r)
  -- the input
  pub read_byte : R ℕ (L.read_byte input) (L.read_byte input')
  pub read_bytes : (k : ℕ) → R (List ℕ) (L.read_bytes input k) (L.read_bytes input' k)
  -- the room
  pub add_node : (r : Row) → R ℕ (L.add_node room r) (L.add_node room' r)
  pub reserve : (k : ℕ) → R ℕ (L.reserve room k) (L.reserve room' k)
  pub add_bytes : (bs : List ℕ) → R ℕ (L.add_bytes room bs) (L.add_bytes room' bs)
  pub add_symbol : (h : ℕ) → R ℕ (L.add_symbol room h) (L.add_symbol room' h)
  pub add_object : (h : ℕ) → R ℕ (L.add_object room h) (L.add_object room' h)
  -- no level left in the one load, and the levels that the other has more
  pub deep : R ℕ (refuse (TooDeep limit)) (L.read_value input' room' limit' extra)
  -- two readers of a member: they are related; they stay so where the byte ahead of them is noted; and values are such readers once they are related
  pub plain : {v w : Reader ℕ} → Inner v w → R ℕ v w
  pub ahead : {v w : Reader ℕ} → Inner v w → {A : Type 0} {f g : ℕ → Reader A} → ((h : ℕ) → R A (f h) (g h))
      → R A (look λ s. L.note (takes_variables (get_or input s.at 0)) >>= λ _. v >>= f) (look λ s. L.note (takes_variables (get_or input' s.at 0)) >>= λ _. w >>= g)
  pub value : (levels : ℕ) → R ℕ (L.read_value input room limit levels) (L.read_value input' room' limit' (raised extra levels)) → Inner (L.read_value input room limit levels) (L.read_value input' room' limit' (raised extra levels))

module _ {R : Relation} {Inner : Reader ℕ → Reader ℕ → Type 0} {input input' : List ℕ} {room room' : Room} {limit limit' extra : ℕ} (walk : Walk R Inner input input' room room' limit limit' extra) where
  either : {A : Type 0} (b : Bool) {m m' k k' : Reader A} → R A m m' → R A k k' → R A (pick b m k) (pick b m' k')
  unfolding pick
  either true x y = x
  either false x y = y

  -- ---- integers and byte strings

  tell : (b : ℕ) (bs : List ℕ) (w : ℕ) → R ℕ (L.integer_of b bs w) (L.integer_of b bs w)
  unfolding L.integer_of
  tell b bs w = either _ (walk.stop _) (walk.then (walk.note _) λ _. walk.give w)

  read_header : R (Unit {0}) (L.read_header input) (L.read_header input')
  unfolding L.read_header
  read_header = walk.then walk.read_byte λ major. walk.then walk.read_byte λ minor. either _ (walk.note _) (walk.stop _)

  read_form : (b : ℕ) (f : Form) → R ℕ (L.read_form input b f) (L.read_form input' b f)
  unfolding L.read_form
  read_form b (value w) = tell b _ w
  read_form b (data_bytes k above) = walk.then (walk.read_bytes k) λ bs. tell b bs _

  read_integer : R ℕ (L.read_integer input) (L.read_integer input')
  unfolding L.read_integer
  read_integer = walk.then walk.read_byte λ b. read_form b (form b)

  read_count : R ℕ (L.read_count input) (L.read_count input')
  unfolding L.read_count
  read_count = walk.then read_integer λ w. either _ (walk.give w) (walk.stop _)

  read_sign : R ℕ (L.read_sign input) (L.read_sign input')
  unfolding L.read_sign
  read_sign = walk.then walk.read_byte λ b. either _ (walk.give b) (walk.stop _)

  read_unit_count : R ℕ (L.read_unit_count input) (L.read_unit_count input')
  unfolding L.read_unit_count
  read_unit_count = walk.then read_count λ k. either _ (walk.give k) (walk.stop _)

  read_byte_string : R (List ℕ) (L.read_byte_string input) (L.read_byte_string input')
  unfolding L.read_byte_string
  read_byte_string = walk.then read_count walk.read_bytes

  -- ---- symbols, links and leaves

  read_symbol_link : R ℕ (L.read_symbol_link input) (L.read_symbol_link input')
  unfolding L.read_symbol_link
  read_symbol_link = walk.then read_count λ i. walk.looking λ s. walk.entry s.symbols i _

  read_object_link : R ℕ (L.read_object_link input) (L.read_object_link input')
  unfolding L.read_object_link
  read_object_link = walk.then read_count λ i. walk.looking λ s. walk.entry s.objects i _

  add_object_node : (r : Row) → R ℕ (L.add_object_node room r) (L.add_object_node room' r)
  unfolding L.add_object_node
  add_object_node r = walk.then (walk.add_node r) walk.add_object

  intern_as : (name : List ℕ) (o : Option ℕ) → R ℕ (L.intern_as room name o) (L.intern_as room' name o)
  unfolding L.intern_as
  intern_as name (some h) = walk.then (walk.note false) λ _. walk.give h
  intern_as name none = walk.then (walk.add_bytes name) λ start. walk.add_node (symbol start (length name))

  intern : (name : List ℕ) → R ℕ (L.intern room name) (L.intern room' name)
  unfolding L.intern
  intern name = walk.looking λ s. walk.then (walk.compare _) λ _. intern_as name (find_symbol s.bytes name s.nodes 0)

  read_symbol : R ℕ (L.read_symbol input room) (L.read_symbol input' room')
  unfolding L.read_symbol
  read_symbol = walk.then read_byte_string λ name. walk.then (intern name) walk.add_symbol

  read_symbol_like : R ℕ (L.read_symbol_like input room) (L.read_symbol_like input' room')
  unfolding L.read_symbol_like
  read_symbol_like = walk.then walk.read_byte λ k. either _ read_symbol (either _ read_symbol_link (walk.stop _))

  read_fixnum : R ℕ (L.read_fixnum input room) (L.read_fixnum input' room')
  unfolding L.read_fixnum
  read_fixnum = walk.then read_integer λ w. walk.add_node (fixnum w)

  read_text : (row : ℕ → ℕ → Row) → R ℕ (L.read_text input room row) (L.read_text input' room' row)
  unfolding L.read_text
  read_text row = walk.then read_byte_string λ bs. walk.then (walk.add_bytes bs) λ start. add_object_node _

  read_user_defined : R ℕ (L.read_user_defined input room) (L.read_user_defined input' room')
  unfolding L.read_user_defined
  read_user_defined = walk.then read_symbol_like λ c. read_text _

  read_magnitude : (b k : ℕ) → R ℕ (L.read_magnitude input room b k) (L.read_magnitude input' room' b k)
  unfolding L.read_magnitude L.add_bignum
  read_magnitude b k = walk.then (walk.read_bytes (k * 2)) λ bs. either _ (walk.then (walk.note _) λ _. add_object_node _) (walk.stop _)

  read_bignum : R ℕ (L.read_bignum input room) (L.read_bignum input' room')
  unfolding L.read_bignum
  read_bignum = walk.then read_sign λ b. walk.then read_unit_count (read_magnitude b)

  set_variables : (h start k : ℕ) (r : Row) → R ℕ (L.set_variables h start k r) (L.set_variables h start k r)
  unfolding L.set_variables
  set_variables h start k r = either _ (walk.fill _ _) (walk.stop _)

  counted : {A : Type 0} (each : ℕ) {f g : ℕ → ℕ → Reader A} → ((start k : ℕ) → R A (f start k) (g start k)) → R A (L.counted input room each f) (L.counted input' room' each g)
  unfolding L.counted
  counted each x = walk.then read_count λ k. walk.then (walk.reserve (k * each)) λ start. x start k

  -- ---- values; v and w read a value one level deeper
  module _ {v w : Reader ℕ} (inner : Inner v w) where
    read_elements : (k i : ℕ) → R (Unit {0}) (L.read_elements v k i) (L.read_elements w k i)
    unfolding L.read_elements
    read_elements zero i = walk.give tt
    read_elements (suc k) i = walk.then (walk.plain inner) λ x. walk.then (walk.put_reference i x) λ _. read_elements k (suc i)

    read_pairs : (k i : ℕ) → R (Unit {0}) (L.read_pairs (L.read_symbol_like input room) v k i) (L.read_pairs (L.read_symbol_like input' room') w k i)
    unfolding L.read_pairs
    read_pairs zero i = walk.give tt
    read_pairs (suc k) i = walk.then read_symbol_like λ c. walk.then (walk.put_reference i c) λ _. walk.then (walk.plain inner) λ x. walk.then (walk.put_reference (suc i) x) λ _. read_pairs k (suc (suc i))

    read_instance_variables : {A : Type 0} {f g : ℕ → ℕ → Reader A} → ((start k : ℕ) → R A (f start k) (g start k)) → R A (L.read_instance_variables input room v f) (L.read_instance_variables input' room' w g)
    unfolding L.read_instance_variables
    read_instance_variables x = counted 2 λ start k. walk.then (read_pairs k start) λ _. x start k

    read_array : (class : ℕ) → R ℕ (L.read_array input room v class) (L.read_array input' room' w class)
    unfolding L.read_array
    read_array class = walk.then (add_object_node nil) λ h. counted 1 λ start k. walk.then (read_elements k start) λ _. walk.fill h _

    read_default : (b : Bool) (class h start k : ℕ) → R ℕ (L.read_default b v class h start k) (L.read_default b w class h start k)
    unfolding L.read_default
    read_default true class h start k = walk.then (walk.plain inner) λ d. walk.fill h _
    read_default false class h start k = walk.fill h _

    read_hash : (b : Bool) (class : ℕ) → R ℕ (L.read_hash b input room v class) (L.read_hash b input' room' w class)
    unfolding L.read_hash
    read_hash b class = walk.then (add_object_node nil) λ h. counted 2 λ start k. walk.then (read_elements (k * 2) start) λ _. read_default b class h start k

    read_object : R ℕ (L.read_object input room v) (L.read_object input' room' w)
    unfolding L.read_object
    read_object = walk.then (add_object_node nil) λ h. walk.then read_symbol_like λ c. read_instance_variables λ start k. walk.fill h _

    read_variables : R ℕ (L.read_variables input room v) (L.read_variables input' room' w)
    unfolding L.read_variables
    read_variables = walk.ahead inner λ h. read_instance_variables λ start k. walk.looking λ u. set_variables h start k _

    read_user_class : R ℕ (L.read_user_class input room v) (L.read_user_class input' room' w)
    unfolding L.read_user_class L.read_wrapped L.read_string
    read_user_class = walk.then read_symbol_like λ c. walk.then walk.read_byte λ k. either _ (read_text _) (either _ (read_array _) (either _ (read_hash false _) (either _ (read_hash true _) (walk.stop _))))

    value_of : (k : ℕ) (h : Head) → R ℕ (L.value_of input room v k h) (L.value_of input' room' w k h)
    unfolding L.value_of L.read_string L.read_float
    value_of k Head.Nil = walk.add_node _
    value_of k Head.True = walk.add_node _
    value_of k Head.False = walk.add_node _
    value_of k Head.Fixnum = read_fixnum
    value_of k Head.Symbol = read_symbol
    value_of k Head.SymbolLink = read_symbol_link
    value_of k Head.ObjectLink = read_object_link
    value_of k Head.InstanceVariables = read_variables
    value_of k Head.Array = read_array 0
    value_of k Head.Hash = read_hash false 0
    value_of k Head.HashDefault = read_hash true 0
    value_of k Head.Object = read_object
    value_of k Head.String = read_text _
    value_of k Head.UserDefined = read_user_defined
    value_of k Head.Float = read_text _
    value_of k Head.Bignum = read_bignum
    value_of k Head.UserClass = read_user_class
    value_of k Head.Unknown = walk.stop _

  pub read_value : (levels : ℕ) → R ℕ (L.read_value input room limit levels) (L.read_value input' room' limit' (raised extra levels))
  unfolding L.read_value raised
  read_value zero = walk.deep
  read_value (suc levels) = walk.then walk.read_byte λ k. value_of (walk.value levels (read_value levels)) k (L.head k)

  -- the header and the root value, as load reads them
  pub whole : raised extra limit ≡ limit' → R ℕ (L.read_header input >>= λ _. L.read_value input room limit limit) (L.read_header input' >>= λ _. L.read_value input' room' limit' limit')
  whole e = walk.then read_header λ _. subst (λ (n : ℕ). R ℕ (L.read_value input room limit limit) (L.read_value input' room' limit' n)) e (read_value limit)
