-- Which refusal a reader's stop is.
use Rattle.std.specs.Prelude.{ℕ, ◌+◌, ◌*◌, ◌/◌, ◌%◌, ◌≤◌, ◌<◌, ◌≡◌, eqb, Bool, true, false, Result, Ok, Err}
use Rattle.reader.specs.declared.Stop.{Stop}
use native.Mathlib.Omega.{arith}
use Rattle.std.proofs.Math.Path.{refl, ap}
use Rattle.std.proofs.Common.{◌∙◌, ne_eqb}
use Rattle.definition.specs.Run.{ok, refused, pick}
use Rattle.definition.specs.Arena.{counts_of}
use Rattle.definition.specs.State.{State, Reader, at_set, noted}
use Rattle.definition.specs.Load.{counts_left}
use Rattle.definition.specs.declared.Refusal.{Refusal}
use Rattle.definition.specs.declared.Refusal.TheVariants.{InvalidVersion, ShortInput, InvalidKind, NegativeCount, MissingSymbol, MissingObject, NotASymbol, NotAnObject, TooDeep, NoSpace, BadSign, TooBig, WrongSign, NotWrappable}

-- the refusal of number n with detail d; the detail of 11 is the limit, which readers do not know
unfoldable pub refusal_of : ℕ → ℕ → ℕ → Refusal
refusal_of limit n d =
    pick (eqb n 3) (InvalidVersion (d / 256 % 256) (d % 256))
    (pick (eqb n 4) ShortInput
    (pick (eqb n 5) (InvalidKind (d % 256))
    (pick (eqb n 6) (NegativeCount d)
    (pick (eqb n 7) (MissingSymbol d)
    (pick (eqb n 8) (MissingObject d)
    (pick (eqb n 9) (NotASymbol (d % 256))
    (pick (eqb n 10) NotAnObject
    (pick (eqb n 11) (TooDeep limit)
    (pick (eqb n 15) (BadSign (d % 256))
    (pick (eqb n 16) (TooBig d)
    (pick (eqb n 19) (WrongSign (d % 256))
    (pick (eqb n 22) (NotWrappable (d % 256))
    (NoSpace d)))))))))))))

-- the refusal that a code says
unfoldable pub refusal_at : ℕ → ℕ → Refusal
refusal_at limit r = refusal_of limit (r / 4294967296) (r % 4294967296)

-- the code that says it
abbrev pub coded : ℕ → ℕ → ℕ
coded n d = n * 4294967296 + d

abbrev pub stop : ℕ → ℕ → Stop
stop n d = record { code = coded n d }

pub at_parts : (limit n d : ℕ) {r : ℕ} → r ≡ coded n d → d < 4294967296 → refusal_at limit r ≡ refusal_of limit n d
unfolding refusal_at
at_parts limit n d {r} e l =
    let q : r / 4294967296 ≡ n = omega arith in
    let m : r % 4294967296 ≡ d = omega arith in
    rw (q, m)

module _ (limit : ℕ) where
  pub at_short : refusal_at limit (coded 4 0) ≡ ShortInput
  unfolding refusal_of pick
  at_short = at_parts limit 4 0 refl (omega arith)

  pub at_version : (major minor : ℕ) → major ≤ 255 → minor ≤ 255 → refusal_at limit (coded 3 (major * 256 + minor)) ≡ InvalidVersion major minor
  unfolding refusal_of pick
  at_version major minor k l =
      let x : (major * 256 + minor) / 256 % 256 ≡ major = omega arith in
      let y : (major * 256 + minor) % 256 ≡ minor = omega arith in
      at_parts limit 3 (major * 256 + minor) refl (omega arith) ∙ λ i. InvalidVersion (x i) (y i)

  pub at_kind : (k : ℕ) → k ≤ 255 → refusal_at limit (coded 5 k) ≡ InvalidKind k
  unfolding refusal_of pick
  at_kind k l = let e : k % 256 ≡ k = omega arith in at_parts limit 5 k refl (omega arith) ∙ ap InvalidKind e

  pub at_negative : (w : ℕ) → w < 4294967296 → refusal_at limit (coded 6 w) ≡ NegativeCount w
  unfolding refusal_of pick
  at_negative w l = at_parts limit 6 w refl l

  pub at_symbol : (i : ℕ) → i < 4294967296 → refusal_at limit (coded 7 i) ≡ MissingSymbol i
  unfolding refusal_of pick
  at_symbol i l = at_parts limit 7 i refl l

  pub at_object : (i : ℕ) → i < 4294967296 → refusal_at limit (coded 8 i) ≡ MissingObject i
  unfolding refusal_of pick
  at_object i l = at_parts limit 8 i refl l

  pub at_name : (k : ℕ) → k ≤ 255 → refusal_at limit (coded 9 k) ≡ NotASymbol k
  unfolding refusal_of pick
  at_name k l = let e : k % 256 ≡ k = omega arith in at_parts limit 9 k refl (omega arith) ∙ ap NotASymbol e

  pub at_variables : refusal_at limit (coded 10 0) ≡ NotAnObject
  unfolding refusal_of pick
  at_variables = at_parts limit 10 0 refl (omega arith)

  pub at_level : refusal_at limit (coded 11 0) ≡ TooDeep limit
  unfolding refusal_of pick
  at_level = at_parts limit 11 0 refl (omega arith)

  pub at_space : (slice : ℕ) → slice < 4294967296 → refusal_at limit (coded 12 slice) ≡ NoSpace slice
  unfolding refusal_of pick
  at_space slice l = at_parts limit 12 slice refl l

  pub at_sign : (b : ℕ) → b ≤ 255 → refusal_at limit (coded 15 b) ≡ BadSign b
  unfolding refusal_of pick
  at_sign b l = let e : b % 256 ≡ b = omega arith in at_parts limit 15 b refl (omega arith) ∙ ap BadSign e

  pub at_big : (n : ℕ) → n < 4294967296 → refusal_at limit (coded 16 n) ≡ TooBig n
  unfolding refusal_of pick
  at_big n l = at_parts limit 16 n refl l

  pub at_wrong_sign : (b : ℕ) → b ≤ 255 → refusal_at limit (coded 19 b) ≡ WrongSign b
  unfolding refusal_of pick
  at_wrong_sign b l = let e : b % 256 ≡ b = omega arith in at_parts limit 19 b refl (omega arith) ∙ ap WrongSign e

  pub at_wrapped : (k : ℕ) → k ≤ 255 → refusal_at limit (coded 22 k) ≡ NotWrappable k
  unfolding refusal_of pick
  at_wrapped k l = let e : k % 256 ≡ k = omega arith in at_parts limit 22 k refl (omega arith) ∙ ap NotWrappable e

-- what is left where no other number is
pub refusal_last : (limit r : ℕ) → (r / 4294967296 ≡ 3 → ⊥) → (r / 4294967296 ≡ 4 → ⊥) → (r / 4294967296 ≡ 5 → ⊥) → (r / 4294967296 ≡ 6 → ⊥) → (r / 4294967296 ≡ 7 → ⊥) → (r / 4294967296 ≡ 8 → ⊥) → (r / 4294967296 ≡ 9 → ⊥) → (r / 4294967296 ≡ 10 → ⊥) → (r / 4294967296 ≡ 11 → ⊥) → (r / 4294967296 ≡ 15 → ⊥) → (r / 4294967296 ≡ 16 → ⊥) → (r / 4294967296 ≡ 19 → ⊥) → (r / 4294967296 ≡ 22 → ⊥) → NoSpace (r % 4294967296) ≡ refusal_at limit r
unfolding refusal_at refusal_of pick
refusal_last limit r c d e f g h i j k l m o p =
    let n = r / 4294967296 in
    simp (ne_eqb n 3 c, ne_eqb n 4 d, ne_eqb n 5 e, ne_eqb n 6 f, ne_eqb n 7 g, ne_eqb n 8 h, ne_eqb n 9 i, ne_eqb n 10 j, ne_eqb n 11 k, ne_eqb n 15 l, ne_eqb n 16 m, ne_eqb n 19 o, ne_eqb n 22 p)

-- a refused load leaves the counts of nil alone, whatever a reader said: a code says all but BAD-TABLES
picked : (b : Bool) (x y : Refusal) → counts_left x ≡ counts_of 1 0 0 0 → counts_left y ≡ counts_of 1 0 0 0 → counts_left (pick b x y) ≡ counts_of 1 0 0 0
unfolding pick
picked true x y e f = e
picked false x y e f = f

pub nil_left : (limit r : ℕ) → counts_left (refusal_at limit r) ≡ counts_of 1 0 0 0
unfolding refusal_at refusal_of counts_left
nil_left limit r =
    picked _ _ _ refl (picked _ _ _ refl (picked _ _ _ refl (picked _ _ _ refl (picked _ _ _ refl (picked _ _ _ refl (picked _ _ _ refl (picked _ _ _ refl (picked _ _ _ refl (picked _ _ _ refl (picked _ _ _ refl (picked _ _ _ refl (picked _ _ _ refl refl))))))))))))

-- a reader m at the offset `at`, which answered r: it has come to the offset given, and r says whether dump writes what it read; or it is refused
abbrev pub Reads : Reader (Unit {0}) → ℕ → Result Bool Stop → ℕ → Type 0
Reads m at (Ok t) next = (s : State) → s.at ≡ at → m s ≡ ok tt (noted t (at_set next s))
Reads m at (Err q) next = (limit : ℕ) (s : State) → s.at ≡ at → m s ≡ refused (refusal_at limit q.code)
