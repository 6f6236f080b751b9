-- What stands ahead in the input, and what the readers of bytes, integers and byte strings make of it.
use Rattle.std.specs.Prelude.{ℕ, suc, ◌+◌, ◌-◌, ◌<◌, ◌≡◌, true, List, [], ◌∷◌, ◌++◌, length, get_or, drop}
use Rattle.std.proofs.Common.{ap, subst, sym as psym, ◌∙◌, append_assoc, length-append, get_or-drop, drop-drop, arith, le-leb}
use Rattle.std.proofs.Math.Seq.{take-append_seam, drop-append_seam}
use Rattle.definition.specs.Run.{ok, pure, next, ◌>>=◌, pick}
use Rattle.definition.specs.Integer.{value, form, integer_bytes}
use Rattle.definition.specs.Node.{equal}
use Rattle.definition.specs.Arena.{range}
use Rattle.definition.specs.State.{State, at_set}
use Rattle.definition.specs.Load.{read_byte, read_bytes, note, integer_of, read_form, read_integer, read_count, read_byte_string}
use Rattle.definition.specs.Dump.{byte_string_bytes}
use Rattle.lists.specs.Words.{equal_self}
use Rattle.lists.specs.Integers.{form_agrees}
use Rattle.load_text.specs.Steps.{step}
use Rattle.load_text.specs.Codec.{Codes, short, long, codes}

-- from offset n on the input is x
pub record Ahead (input : List ℕ) (n : ℕ) (x : List ℕ) : Type 0 where
  pub rest : drop n input ≡ x
  pub size : length input ≡ n + length x

pub ahead_past : {input : List ℕ} {n : ℕ} (bs x : List ℕ) → Ahead input n (bs ++ x) → Ahead input (n + length bs) x
ahead_past {input = input} {n = n} bs x a = record {
  rest = psym (drop-drop (length bs) n input) ∙ ap (drop (length bs)) a.rest ∙ drop-append_seam bs x;
  size = omega (arith, a.size, length-append bs x);
}

-- the same bytes, parted otherwise
pub ahead_as : {input : List ℕ} {n : ℕ} (x y : List ℕ) → x ≡ y → Ahead input n x → Ahead input n y
ahead_as {input = input} {n = n} x y e a = subst (Ahead input n) e a

pub first_ahead : (input : List ℕ) (n b : ℕ) (x : List ℕ) → Ahead input n (b ∷ x) → get_or input n 0 ≡ b
first_ahead input n b x a =
    let z : n ≡ n + 0 = omega arith in
    ap (λ (k : ℕ). get_or input k 0) z ∙ psym (get_or-drop n input 0 0) ∙ ap (λ (l : List ℕ). get_or l 0 0) a.rest

pub read_byte_ahead : (input : List ℕ) (s : State) (b : ℕ) (x : List ℕ) → Ahead input s.at (b ∷ x) → read_byte input s ≡ ok b (at_set (s.at + 1) s)
unfolding read_byte pick
read_byte_ahead input s b x a = rw (le-leb (suc s.at) (length input) (omega (arith, a.size)), first_ahead input s.at b x a)

pub read_bytes_ahead : (input : List ℕ) (s : State) (bs x : List ℕ) → Ahead input s.at (bs ++ x) → read_bytes input (length bs) s ≡ ok bs (at_set (s.at + length bs) s)
unfolding read_bytes range pick
read_bytes_ahead input s bs x a =
    rw (le-leb (length bs) (length input - s.at) (omega (arith, a.size, length-append bs x)), a.rest, take-append_seam bs x)

-- ---- integers

-- bytes that dump writes say their word
tell_dumped : (b : ℕ) (bs : List ℕ) (w : ℕ) (s : State) → w < 4294967296 → equal (b ∷ bs) (integer_bytes w) ≡ true → integer_of b bs w s ≡ ok w s
unfolding integer_of note pure ◌>>=◌ next pick
tell_dumped b bs w s u q = rw (form_agrees w b bs u q, q)

-- bytes that say w, and are those that dump writes
read_coded : (input : List ℕ) (s : State) (w : ℕ) (bs x : List ℕ) → w < 4294967296 → Codes w bs → equal bs (integer_bytes w) ≡ true → Ahead input s.at (bs ++ x)
    → read_integer input s ≡ ok w (at_set (s.at + length bs) s)
unfolding read_integer read_form
read_coded input s w _ x u (short b f) q a = step _ _ s b _ (read_byte_ahead input s b x a) ∙ go f q
  where
    go : form b ≡ value w → equal (b ∷ []) (integer_bytes w) ≡ true → read_form input b (form b) (at_set (s.at + 1) s) ≡ ok w (at_set (s.at + 1) s)
    go e q = rw e (tell_dumped b [] w (at_set (s.at + 1) s) u q)
read_coded input s w _ x u (long b n hi bs f l e) q a =
    step _ _ s b _ (read_byte_ahead input s b (bs ++ x) a) ∙ go (ahead_past (b ∷ []) (bs ++ x) a) q
  where
    go : Ahead input (s.at + 1) (bs ++ x) → equal (b ∷ bs) (integer_bytes w) ≡ true → read_form input b (form b) (at_set (s.at + 1) s) ≡ ok w (at_set (s.at + length (b ∷ bs)) s)
    go h q =
        let z : s.at + 1 + length bs ≡ s.at + suc (length bs) = omega arith in
        rw (f, ← l) (step _ _ _ bs _ (read_bytes_ahead input (at_set (s.at + 1) s) bs x h) ∙ rw (e, z) (tell_dumped b bs w (at_set (s.at + suc (length bs)) s) u q))

pub read_integer_ahead : (input : List ℕ) (s : State) (w : ℕ) (x : List ℕ) → w < 4294967296 → Ahead input s.at (integer_bytes w ++ x)
    → read_integer input s ≡ ok w (at_set (s.at + length (integer_bytes w)) s)
read_integer_ahead input s w x h a = read_coded input s w (integer_bytes w) x h (codes w h) (equal_self (integer_bytes w)) a

pub read_count_ahead : (input : List ℕ) (s : State) (w : ℕ) (x : List ℕ) → w < 2147483648 → Ahead input s.at (integer_bytes w ++ x)
    → read_count input s ≡ ok w (at_set (s.at + length (integer_bytes w)) s)
unfolding read_count pick pure
read_count_ahead input s w x h a = step _ _ s w _ (read_integer_ahead input s w x (omega arith) a) ∙ rw (le-leb (suc w) 2147483648 h)

-- ---- byte strings

pub read_byte_string_ahead : (input : List ℕ) (s : State) (b x : List ℕ) → length b < 2147483648 → Ahead input s.at (byte_string_bytes b ++ x)
    → read_byte_string input s ≡ ok b (at_set (s.at + length (byte_string_bytes b)) s)
unfolding read_byte_string byte_string_bytes
read_byte_string_ahead input s b x h a =
    let n = length (integer_bytes (length b)) in
    let a₁ : Ahead input s.at (integer_bytes (length b) ++ (b ++ x)) = ahead_as _ _ (append_assoc (integer_bytes (length b)) b x) a in
    let a₂ = ahead_past (integer_bytes (length b)) (b ++ x) a₁ in
    let z : s.at + n + length b ≡ s.at + length (integer_bytes (length b) ++ b) = omega (arith, length-append (integer_bytes (length b)) b) in
    step _ _ s (length b) _ (read_count_ahead input s (length b) (b ++ x) h a₁)
    ∙ read_bytes_ahead input (at_set (s.at + n) s) b x a₂ ∙ rw z
