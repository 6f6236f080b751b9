-- A row's ranges, its bytes and the words of its list, and the node that is seen of it by them.
use Rattle.std.specs.Prelude.{ℕ, suc, ◌+◌, ◌*◌, ◌≤◌, ◌≡◌, refl, Bool, true, false, List, [], ◌∷◌, ◌++◌, length}
use Rattle.std.proofs.Common.{ap, ◌∙◌, append-nil, arith}
use Rattle.definition.specs.Node.{Row, Vars, nil, bool, fixnum, symbol, array, hash, object, string, user, float, bignum, absent, present, optional_node, optional_present}
use Rattle.definition.specs.Magnitude.{magnitude}
use Rattle.definition.specs.Arena.{Arena, range}
use Rattle.definition.specs.Graph.{header, header_of, links, vars_links, vars_count, vars_present}
use Rattle.lists.specs.Lists.{apart}
use Rattle.graph.specs.Forest.{sym, box}
use Rattle.graph.specs.View.{see}

-- ---- the ranges of a row: its bytes, and the words of its list

unfoldable pub vars_start : Vars → ℕ
vars_start absent = 0
vars_start (present s n) = s

unfoldable pub vars_length : Vars → ℕ
vars_length absent = 0
vars_length (present s n) = n * 2

pub record Ranges : Type 0 where
  pub first_byte : ℕ
  pub byte_count : ℕ
  pub first_word : ℕ
  pub word_count : ℕ

abbrev ranged : ℕ → ℕ → ℕ → ℕ → Ranges
ranged b l w n = record { first_byte = b; byte_count = l; first_word = w; word_count = n }

-- 0 for a range that a row doesn't have
unfoldable pub ranges : Row → Ranges
ranges nil = ranged 0 0 0 0
ranges (bool b) = ranged 0 0 0 0
ranges (fixnum w) = ranged 0 0 0 0
ranges (symbol s l) = ranged s l 0 0
ranges (array s n w) = ranged 0 0 s n
ranges (hash s n d w) = ranged 0 0 s (n * 2)
ranges (object s n c) = ranged 0 0 s (n * 2)
ranges (string s l v w) = ranged s l (vars_start v) (vars_length v)
ranges (user s l c v) = ranged s l (vars_start v) (vars_length v)
ranges (float s l) = ranged s l 0 0
ranges (bignum low high m) = ranged 0 0 0 0

unfoldable pub bytes_start : Row → ℕ
bytes_start r = (ranges r).first_byte

unfoldable pub bytes_length : Row → ℕ
bytes_length r = (ranges r).byte_count

unfoldable pub list_start : Row → ℕ
list_start r = (ranges r).first_word

unfoldable pub list_length : Row → ℕ
list_length r = (ranges r).word_count

-- a row's ranges lie inside
pub record Within (references bytes : List ℕ) (r : Row) : Type 0 where
  pub bytes_inside : bytes_start r + bytes_length r ≤ length bytes
  pub list_inside : list_start r + list_length r ≤ length references

-- a row's range of bytes, its list's words
abbrev pub row_bytes : Arena → Row → List ℕ
row_bytes A r = range A.bytes (bytes_start r) (bytes_length r)

abbrev pub row_words : Arena → Row → List ℕ
row_words A r = range A.references (list_start r) (list_length r)

pub vars_links_same : (A A' : Arena) (v : Vars) → range A'.references (vars_start v) (vars_length v) ≡ range A.references (vars_start v) (vars_length v) → vars_links A' v ≡ vars_links A v
unfolding vars_links vars_start vars_length
vars_links_same A A' absent w = refl
vars_links_same A A' (present s n) w = w

pub links_same : (A B : Arena) (r : Row) → row_words B r ≡ row_words A r → links B r ≡ links A r
unfolding links list_start list_length ranges
links_same A B nil e = refl
links_same A B (bool b) e = refl
links_same A B (fixnum w) e = refl
links_same A B (symbol s l) e = refl
links_same A B (array s n w) e = ap (λ (l : List ℕ). optional_node w ++ l) e
links_same A B (hash s n d w) e = ap (λ (l : List ℕ). optional_node w ++ (l ++ optional_node d)) e
links_same A B (object s n c) e = ap (λ (l : List ℕ). c ∷ l) e
links_same A B (string s l v w) e = ap (λ (x : List ℕ). optional_node w ++ x) (vars_links_same A B v e)
links_same A B (user s l c v) e = ap (λ (x : List ℕ). c ∷ x) (vars_links_same A B v e)
links_same A B (float s l) e = refl
links_same A B (bignum low high m) e = refl

pub header_same : (A A' : Arena) (r : Row) → row_bytes A' r ≡ row_bytes A r → header A' r ≡ header A r
unfolding header bytes_start bytes_length ranges
header_same A A' nil b = refl
header_same A A' (bool false) b = refl
header_same A A' (bool true) b = refl
header_same A A' (fixnum w) b = refl
header_same A A' (symbol s l) b = ap (λ (x : List ℕ). header_of 3 0 x 0 false false) b
header_same A A' (array s n w) b = refl
header_same A A' (hash s n d w) b = refl
header_same A A' (object s n c) b = refl
header_same A A' (string s l v w) b = ap (λ (x : List ℕ). header_of 7 0 x (vars_count v) (vars_present v) (optional_present w)) b
header_same A A' (user s l c v) b = ap (λ (x : List ℕ). header_of 8 0 x (vars_count v) (vars_present v) false) b
header_same A A' (float s l) b = ap (λ (x : List ℕ). header_of 9 0 x 0 false false) b
header_same A A' (bignum low high m) b = refl

-- a row is seen alike where its two ranges hold the same
pub see_same : (A A' : Arena) (r : Row) → row_bytes A' r ≡ row_bytes A r → row_words A' r ≡ row_words A r → see A' r ≡ see A r
unfolding see
see_same A A' r b w = rw (header_same A A' r b, links_same A A' r w)

-- a row whose members are its class and the words from p on
pub data Listed (p : ℕ) : Row → Type 0 where
  is_array : (n w : ℕ) → Listed p (array p n w)
  is_hash : (n w : ℕ) → Listed p (hash p n 0 w)

-- a row with n pairs of variables from p on, in place of what variables it had
pub data Varied (p n : ℕ) : Row → Row → Type 0 where
  varied_string : {s l w : ℕ} {v : Vars} → Varied p n (string s l v w) (string s l (present p n) w)
  varied_user : {s l c : ℕ} {v : Vars} → Varied p n (user s l c v) (user s l c (present p n))

pub varied_some : {p n : ℕ} {r r' : Row} → Varied p n r r' → r ≡ nil → ⊥
varied_some varied_string e = apart (cc)
varied_some varied_user e = apart (cc)

-- ---- how a row is seen, once its words are known

pub see_array : (A : Arena) (p n w : ℕ) (ms : List ℕ) → range A.references p n ≡ ms → see A (array p n w) ≡ box (header_of 4 0 [] n false (optional_present w)) (optional_node w ++ ms)
unfolding see header links
see_array A p n w ms e = ap (λ (l : List ℕ). box (header_of 4 0 [] n false (optional_present w)) (optional_node w ++ l)) e

pub see_hash : (A : Arena) (p n w : ℕ) (ms : List ℕ) → range A.references p (n * 2) ≡ ms → see A (hash p n 0 w) ≡ box (header_of 5 0 [] n false (optional_present w)) (optional_node w ++ ms)
unfolding see header links optional_node optional_present
see_hash A p n w ms e = ap (λ (l : List ℕ). box (header_of 5 0 [] n false (optional_present w)) (optional_node w ++ l)) (append-nil (range A.references p (n * 2)) ∙ e)

pub see_hash_default : (A : Arena) (p n d w : ℕ) (ms : List ℕ) → range A.references p (n * 2) ≡ ms → see A (hash p n (d + 1) w) ≡ box (header_of 5 0 [] n true (optional_present w)) (optional_node w ++ (ms ++ (d ∷ [])))
unfolding see header links optional_node optional_present
see_hash_default A p n d w ms e =
    let z : d + 1 ≡ suc d = omega arith in
    rw z (ap (λ (l : List ℕ). box (header_of 5 0 [] n true (optional_present w)) (optional_node w ++ (l ++ (d ∷ [])))) e)

pub see_object : (A : Arena) (p n c : ℕ) (ms : List ℕ) → range A.references p (n * 2) ≡ ms → see A (object p n c) ≡ box (header_of 6 0 [] n false false) (c ∷ ms)
unfolding see header links
see_object A p n c ms e = ap (λ (l : List ℕ). box (header_of 6 0 [] n false false) (c ∷ l)) e

pub see_string_variables : (A : Arena) (s l p n w : ℕ) (b ms : List ℕ) → range A.bytes s l ≡ b → range A.references p (n * 2) ≡ ms
    → see A (string s l (present p n) w) ≡ box (header_of 7 0 b n true (optional_present w)) (optional_node w ++ ms)
unfolding see header links vars_count vars_present vars_links
see_string_variables A s l p n w b ms e f =
    ap (λ (x : List ℕ). box (header_of 7 0 x n true (optional_present w)) (optional_node w ++ range A.references p (n * 2))) e
    ∙ ap (λ (x : List ℕ). box (header_of 7 0 b n true (optional_present w)) (optional_node w ++ x)) f

pub see_user : (A : Arena) (s l c : ℕ) (b : List ℕ) → range A.bytes s l ≡ b → see A (user s l c absent) ≡ box (header_of 8 0 b 0 false false) (c ∷ [])
unfolding see header links vars_count vars_present vars_links
see_user A s l c b e = ap (λ (x : List ℕ). box (header_of 8 0 x 0 false false) (c ∷ [])) e

pub see_user_variables : (A : Arena) (s l c p n : ℕ) (b ms : List ℕ) → range A.bytes s l ≡ b → range A.references p (n * 2) ≡ ms → see A (user s l c (present p n)) ≡ box (header_of 8 0 b n true false) (c ∷ ms)
unfolding see header links vars_count vars_present vars_links
see_user_variables A s l c p n b ms e w = ap (λ (x : List ℕ). box (header_of 8 0 x n true false) (c ∷ range A.references p (n * 2))) e ∙ ap (λ (x : List ℕ). box (header_of 8 0 b n true false) (c ∷ x)) w

pub see_bignum : (A : Arena) (low high n : ℕ) (m : Bool) → magnitude low high ≡ n → see A (bignum low high m) ≡ box (header_of 10 n [] 0 m false) []
unfolding see header links
see_bignum A low high n m e = ap (λ (x : ℕ). box (header_of 10 x [] 0 m false) []) e

pub see_symbol : (A : Arena) (s l : ℕ) (b : List ℕ) → range A.bytes s l ≡ b → see A (symbol s l) ≡ sym b
unfolding see header
see_symbol A s l b e = ap sym e
