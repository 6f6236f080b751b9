-- The bucket table: what is held of it while the tables grow.
use Rattle.std.specs.Prelude.{ℕ, Bool, ◌≤◌, ◌<◌, ◌≡◌, List, [], ◌∷◌, ◌++◌, length, set, get_or}
use Rattle.std.proofs.Common.{arith, le_trans, sym, ap, ◌∙◌, subst, length-append, length-set, get_or-set_other}
use Rattle.std.proofs.Math.ListN.{get_or-append}
use Rattle.definition.specs.Node.{Row, nil}
use Rattle.definition.specs.Arena.{name_of}
use Rattle.definition.specs.Buckets.{fnv_1a, empty}
use Rattle.lists.specs.Buckets.{searches_by}
use Rattle.load_state.specs.Holds.{Plain, Symbolic, AllFit, AllSymbolic, Hashing, name_at, hashes}
use Rattle.load_state.specs.Names.{name_more, fit_any, symbolic_below}

-- the names on the list are kept
pub hashing_kept : {n : ℕ} {bytes bytes' : List ℕ} {rows rows' : List Row} {l B : List ℕ} {k : ℕ} {t : Bool} → length rows ≤ length rows' → ((i : ℕ) → i < length l → name_at bytes' rows' (get_or l i 0) ≡ name_at bytes rows (get_or l i 0)) → Hashing n bytes rows l B k t → Hashing n bytes' rows' l B k t
hashing_kept {bytes = bytes} {bytes'} {rows} {rows'} {l} {B} g k Z = record { enough = Z.enough; short = Z.short; filled = searches_by (hashes bytes' rows') (hashes bytes rows) l (empty (length B)) (λ i u. ap fnv_1a (k i u)) ∙ Z.filled; unique = λ i j u v e. Z.unique i j u v (sym (k i u) ∙ e ∙ k j v); nonzero = Z.nonzero; one = le_trans Z.one g; uncounted = Z.uncounted }

pub hashing_bytes : {n k : ℕ} {t : Bool} (b bs : List ℕ) (rows : List Row) (l B : List ℕ) → AllFit (length b) rows → Hashing n b rows l B k t → Hashing n (b ++ bs) rows l B k t
hashing_bytes b bs rows l B f Z = hashing_kept (omega arith) (λ i u. name_more b bs (get_or rows (get_or l i 0) nil) (fit_any (length b) rows (get_or l i 0) f)) Z

-- a node more, or another row where no symbol stands
pub hashing_more : {n k : ℕ} {t : Bool} (b : List ℕ) (rows : List Row) (r : Row) (l B : List ℕ) → AllSymbolic rows l → Hashing n b rows l B k t → Hashing n b (rows ++ (r ∷ [])) l B k t
hashing_more b rows r l B y Z = hashing_kept (simp length-append (omega arith)) (λ i u. ap (λ (x : Row). name_of b x) (get_or-append rows (r ∷ []) nil (get_or l i 0) (symbolic_below rows (get_or l i 0) (y i u)))) Z

pub hashing_set : {n v : ℕ} {t : Bool} (b : List ℕ) (rows : List Row) (k : ℕ) (r : Row) (l B : List ℕ) → Plain (get_or rows k nil) → AllSymbolic rows l → Hashing n b rows l B v t → Hashing n b (set rows k r) l B v t
hashing_set b rows k r l B p y Z = hashing_kept (omega (arith, length-set rows k r)) (λ i u. ap (λ (x : Row). name_of b x) (get_or-set_other rows k (get_or l i 0) r nil (λ e. p (subst (λ (h : ℕ). Symbolic (get_or rows h nil)) e (y i u))))) Z
