-- What 02, 2.7 says of recipes and prices, computed from the definitions.
use Rattle.std.specs.Prelude.{ℕ, ◌*◌, ◌-◌, ◌/◌, refl, List, [], ◌∷◌, ℤ, pos, length, replicate}
use Rattle.definition.specs.Run.{Outcome, ok, refused, pure, refuse, next, ◌>>=◌, look, pick}
use Rattle.definition.specs.Refused.{signed, place, numbers}
use Rattle.definition.specs.Node as N
use Rattle.definition.specs.Node.{Row, nil, fixnum, symbol, array, hash}
use Rattle.definition.specs.Magnitude.{fits, magnitude}
use Rattle.definition.specs.Arena as A
use Rattle.definition.specs.Build as B
use Rattle.definition.specs.Starred.{holds}
use Rattle.definition.specs.Cost as C

-- ---- a line: kilograms, cents per tonne, and what they cost

line : ℕ × ℕ → ℕ
unfolding C.line_cost C.rounded
line l = C.line_cost l.0 l.1

abbrev costs : List ((ℕ × ℕ) × ℕ)
costs =
    -- below a half, a half, above it
    ((499, 1), 0)
    ∷ ((500, 1), 1)
    ∷ ((501, 1), 1)
    ∷ ((1499, 1), 1)
    ∷ ((1500, 1), 2)
    ∷ ((2500, 1), 3)
    ∷ ((500, 3), 2)
    ∷ ((250, 2), 1)
    ∷ ((0, 2147483647), 0)
    ∷ ((2147483647, 0), 0)
    ∷ ((2147483647, 2147483647), 4611686014132421)
    ∷ []

-- ---- calls

-- an arena of these rows, references and bytes, and the two nodes
record Case : Type 0 where
  rows : List Row
  references : List ℕ
  bytes : List ℕ
  recipe : ℕ
  prices : ℕ

-- the cents, or the refusal's three numbers
data Result : Type 0 where
  cents : ℕ → Result
  refused_with : ℕ × ℤ × ℤ → Result

result : Outcome B.Lent ℕ → Result
unfolding numbers signed place pick
result (ok n L) = cents n
result (refused r) = refused_with (numbers r)

costed : Case → Result
unfolding result C.batch_cost C.cost_nodes C.sum C.priced C.line_cost C.rounded C.price C.surviving C.has_name C.check_prices C.check_recipe C.check_pairs C.check_entries C.check_number C.check_kind C.right_if C.pairs C.lines C.line C.is_amount C.amount C.entries B.handles_checked B.check B.check_handles B.wrong A.allowed A.lowest A.bad_nodes A.too_long A.sound A.fault A.fault_if A.faulty A.counts_fit A.node_right A.row_right A.number_right A.class_right A.bytes_right A.list_right A.all_below A.vars_right A.pairs_right A.all_names A.is_name A.name_of A.firsts A.range A.node A.arena N.is_row N.equal N.rows N.row N.row_of N.optional_node N.vars N.words N.flat N.kind fits magnitude signed numbers pure refuse next ◌>>=◌ look pick
costed c =
    result (C.batch_cost c.recipe c.prices (B.lent (N.flat c.rows) c.references c.bytes
    (A.counts_of (length c.rows) (length c.references) (length c.bytes) 0)))

-- nodes 1 and 2 are the names a and b, 3 is a again, 4 A, 5 a NUL, 6 the empty name; 7 to 11 are 500, 1, 1500, 0 and −1; from 12 on stand the recipe and the prices
abbrev basis : Row → Row → List Row
basis recipe prices =
    nil ∷ (symbol 0 1) ∷ (symbol 1 1) ∷ (symbol 0 1) ∷ (symbol 2 1) ∷ (symbol 3 2) ∷ (symbol 0 0) ∷ (fixnum 500) ∷ (fixnum 1) ∷ (fixnum 1500) ∷ (fixnum 0) ∷ (fixnum 4294967295) ∷ recipe ∷ prices ∷ []

-- the recipe's n keys and values, then the prices
abbrev case : ℕ → List ℕ → Case
case n refs = record { rows = basis (hash 0 n 0 0) (hash (n * 2) (length refs / 2 - n) 0 0); references = refs; bytes = 0x61 ∷ 0x62 ∷ 0x41 ∷ 0x61 ∷ 0 ∷ []; recipe = 12; prices = 13 }

abbrev calls : List (Case × Result)
calls =
    -- one line, two rounded one by one, none
    (case 1 (1 ∷ 7 ∷ 1 ∷ 8 ∷ []), cents 1)
    ∷ (case 2 (1 ∷ 7 ∷ 2 ∷ 7 ∷ 1 ∷ 8 ∷ 2 ∷ 8 ∷ []), cents 2)
    ∷ (case 0 (1 ∷ 8 ∷ []), cents 0)
    ∷ (case 0 [], cents 0)
    -- a later pair supersedes, in the recipe and in the prices; names by bytes
    ∷ (case 2 (1 ∷ 9 ∷ 1 ∷ 7 ∷ 1 ∷ 8 ∷ []), cents 1)
    ∷ (case 2 (1 ∷ 7 ∷ 1 ∷ 9 ∷ 1 ∷ 8 ∷ []), cents 2)
    ∷ (case 2 (1 ∷ 9 ∷ 3 ∷ 7 ∷ 1 ∷ 8 ∷ []), cents 1)
    ∷ (case 1 (1 ∷ 9 ∷ 1 ∷ 8 ∷ 3 ∷ 10 ∷ []), cents 0)
    ∷ (case 1 (1 ∷ 7 ∷ 1 ∷ 7 ∷ 1 ∷ 8 ∷ []), cents 1)
    ∷ (case 3 (1 ∷ 7 ∷ 2 ∷ 7 ∷ 1 ∷ 9 ∷ 1 ∷ 8 ∷ 2 ∷ 8 ∷ []), cents 3)
    ∷ (case 1 (6 ∷ 7 ∷ 6 ∷ 8 ∷ []), cents 1)
    -- no price: the first surviving pair, by its own key; A, a NUL and the empty name are other names
    ∷ (case 1 (1 ∷ 7 ∷ 4 ∷ 8 ∷ 5 ∷ 8 ∷ 6 ∷ 8 ∷ []), refused_with (21, pos 1, pos 0))
    ∷ (case 3 (1 ∷ 7 ∷ 2 ∷ 7 ∷ 1 ∷ 9 ∷ []), refused_with (21, pos 2, pos 0))
    ∷ (case 2 (1 ∷ 7 ∷ 3 ∷ 7 ∷ []), refused_with (21, pos 3, pos 0))
    ∷ (case 1 (1 ∷ 10 ∷ []), refused_with (21, pos 1, pos 0))
    ∷ (case 2 (1 ∷ 7 ∷ 2 ∷ 7 ∷ 1 ∷ 8 ∷ []), refused_with (21, pos 2, pos 0))
    -- a wrong kind or a negative Fixnum: the recipe before the prices, key before value, superseded pairs too; before 21
    ∷ (case 1 (0 ∷ 11 ∷ 0 ∷ 8 ∷ []), refused_with (20, pos 0, pos 0))
    ∷ (case 1 (7 ∷ 11 ∷ 0 ∷ 8 ∷ []), refused_with (20, pos 7, pos 0))
    ∷ (case 2 (1 ∷ 11 ∷ 1 ∷ 7 ∷ 1 ∷ 8 ∷ []), refused_with (20, pos 11, pos 0))
    ∷ (case 2 (1 ∷ 11 ∷ 0 ∷ 7 ∷ 1 ∷ 8 ∷ []), refused_with (20, pos 11, pos 0))
    ∷ (case 1 (1 ∷ 2 ∷ 1 ∷ 8 ∷ []), refused_with (20, pos 2, pos 0))
    ∷ (case 1 (1 ∷ 7 ∷ 2 ∷ 11 ∷ []), refused_with (20, pos 11, pos 0))
    ∷ (case 1 (1 ∷ 7 ∷ 2 ∷ 11 ∷ 2 ∷ 8 ∷ 1 ∷ 8 ∷ []), refused_with (20, pos 11, pos 0))
    -- 512 binds the recipe alone, as written, and its number comes before its pairs
    ∷ (case 512 (replicate 1024 10), refused_with (20, pos 10, pos 0))
    ∷ (case 513 (replicate 1026 10), refused_with (20, pos 12, pos 0))
    ∷ (case 0 (replicate 1026 1), refused_with (20, pos 1, pos 0))
    -- the kind of either; handles, the recipe's first; the arena before them; defaults play no part; one hash for both
    ∷ (record { rows = basis (array 0 2 0) nil; references = 1 ∷ 7 ∷ []; bytes = 0x61 ∷ 0x62 ∷ 0x41 ∷ 0x61 ∷ 0 ∷ []; recipe = 12; prices = 13 }, refused_with (20, pos 12, pos 0))
    ∷ (record { rows = basis (hash 0 1 0 0) (array 0 2 0); references = 1 ∷ 7 ∷ []; bytes = 0x61 ∷ 0x62 ∷ 0x41 ∷ 0x61 ∷ 0 ∷ []; recipe = 12; prices = 13 }, refused_with (20, pos 13, pos 0))
    ∷ (record { rows = basis (hash 0 1 1 0) (hash 0 1 8 0); references = 1 ∷ 7 ∷ []; bytes = 0x61 ∷ 0x62 ∷ 0x41 ∷ 0x61 ∷ 0 ∷ []; recipe = 12; prices = 12 }, cents 250)
    -- hashes in a class
    ∷ (record { rows = basis (hash 0 1 0 2) (hash 0 1 0 2); references = 1 ∷ 7 ∷ []; bytes = 0x61 ∷ 0x62 ∷ 0x41 ∷ 0x61 ∷ 0 ∷ []; recipe = 12; prices = 13 }, cents 250)
    ∷ (record { rows = basis (hash 0 1 0 0) (hash 0 0 8 0); references = 1 ∷ 7 ∷ []; bytes = 0x61 ∷ 0x62 ∷ 0x41 ∷ 0x61 ∷ 0 ∷ []; recipe = 12; prices = 13 }, refused_with (21, pos 1, pos 0))
    ∷ (record { rows = basis nil nil; references = []; bytes = 0x61 ∷ 0x62 ∷ 0x41 ∷ 0x61 ∷ 0 ∷ []; recipe = 14; prices = 15 }, refused_with (13, pos 14, pos 0))
    ∷ (record { rows = basis nil nil; references = []; bytes = 0x61 ∷ 0x62 ∷ 0x41 ∷ 0x61 ∷ 0 ∷ []; recipe = 12; prices = 15 }, refused_with (13, pos 15, pos 0))
    ∷ (record { rows = basis (hash 0 1 0 0) nil; references = []; bytes = 0x61 ∷ 0x62 ∷ 0x41 ∷ 0x61 ∷ 0 ∷ []; recipe = 14; prices = 15 }, refused_with (2, pos 12, pos 0))
    ∷ []

computed : holds line costs × holds costed calls
unfolding holds line costed
computed = (refl, refl)
