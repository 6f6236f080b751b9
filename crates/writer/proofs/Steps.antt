-- What is held after bytes are written and after a number is given.
use Prim.Native.Nat.{ℕ, zero, suc, ◌+◌, ◌-◌, ◌≤◌, ◌<◌}
use native.Mathlib.Omega.{arith}
use native.Mathlib.Numerals.{add-one}
use mathlib.Core.Bool.{Bool, true, false}
use mathlib.Core.Option.{Option, none, some}
use mathlib.Core.Path.{◌≡◌, refl, sym, ap, ◌∙◌, subst}
use mathlib.Core.List.{List, [], ◌∷◌, ◌++◌}
use lib.Dec.{eqb}
use lib.ListN.{length, get_or, set, take, length-append, length-set}
use lib.Seq.{sets, length-sets, get_or-set_same, get_or-set_other}
use borrow.Author.Tests.{le-leb, lt-leb, eqb-true, eqb-false, eq-eqb, ne_eqb}
use Rattle.definition.specs.Run.{pure, next, ◌>>=◌, pick}
use Rattle.definition.specs.Node.{kind}
use Rattle.definition.specs.Arena.{Arena, node}
use Rattle.definition.specs.Dump.{Written, Writer, ◌>>◌, write, number_in, number_symbol}
use Rattle.definition.specs.Slice.{greatest_length}
use Rattle.lists.specs.Lists.{stored_behind}
use Rattle.std.specs.declared.result.Result.TheVariants.{Ok, Err}
use Rattle.writer.specs.declared.Progress.{Progress}
use Rattle.writer.specs.declared.Stop.TheVariants.{NoSpace}
use Rattle.writer.specs.Held.{Buffers, buffers, with_written, with_symbols, word, marked, marks, Holds, Goes, stopped, Meets}

-- ---- numbers

number_same : (l : List ℕ) (h i : ℕ) → number_in l h i ≡ none → number_in (l ++ (h ∷ [])) h i ≡ some (i + length l)
unfolding number_in pick
number_same [] h i e = rw (eq-eqb h h refl) (ap some (omega arith))
number_same (x ∷ l) h i e = go (eqb x h) refl e (λ q. number_same l h (suc i) q)
  where
    go : (b : Bool) → eqb x h ≡ b → pick b (some i) (number_in l h (suc i)) ≡ none → (number_in l h (suc i) ≡ none → number_in (l ++ (h ∷ [])) h (suc i) ≡ some (suc i + length l)) → pick (eqb x h) (some i) (number_in (l ++ (h ∷ [])) h (suc i)) ≡ some (i + suc (length l))
    go true p q f = let z : ◌≡◌ {A = ℕ} 0 1 = cc in absurd (omega arith)
    go false p q f = rw p (f q ∙ ap some (omega arith))

number_other : (l : List ℕ) (h k i : ℕ) → (h ≡ k → ⊥) → number_in (l ++ (h ∷ [])) k i ≡ number_in l k i
unfolding number_in pick
number_other [] h k i n = rw (ne_eqb h k n) refl
number_other (x ∷ l) h k i n = ap (λ (o : Option ℕ). pick (eqb x k) (some i) o) (number_other l h k (suc i) n)

number_new : (l : List ℕ) (h : ℕ) → number_in l h 0 ≡ none → suc (length l) ≡ word (number_in (l ++ (h ∷ [])) h 0)
unfolding word
number_new l h e = sym (ap word (number_same l h 0 e) ∙ omega arith)

pub word_none : (o : Option ℕ) (x : ℕ) → x ≡ word o → x ≡ 0 → o ≡ none
unfolding word
word_none none x e z = refl
word_none (some i) x e z = absurd (omega arith)

pub word_some : (o : Option ℕ) (x : ℕ) → x ≡ word o → (x ≡ 0 → ⊥) → o ≡ some (x - 1)
unfolding word
word_some none x e n = absurd (n e)
word_some (some i) x e n = ap some (omega arith)

-- each node's word, once node v, which has none, is numbered too
pub words_numbered : (l sc : List ℕ) (v x i : ℕ) → v < length sc → get_or sc v 0 ≡ 0 → x ≡ length l → get_or sc v 0 ≡ word (number_in l v 0) → get_or sc i 0 ≡ word (number_in l i 0) → get_or (set sc v (x + 1)) i 0 ≡ word (number_in (l ++ (v ∷ [])) i 0)
words_numbered l sc v x i in-scratch zero_word count at-v at_i = go (eqb i v) refl
  where
    go : (b : Bool) → eqb i v ≡ b → get_or (set sc v (x + 1)) i 0 ≡ word (number_in (l ++ (v ∷ [])) i 0)
    go true q = rw (eqb-true i v q) (get_or-set_same sc v _ 0 in-scratch ∙ add-one _ ∙ ap suc count ∙ number_new l v (word_none _ _ at-v zero_word))
    go false q =
        let other : (i ≡ v → ⊥) = eqb-false i v q in
        get_or-set_other sc v i _ 0 other ∙ at_i ∙ sym (ap word (number_other l v i 0 (λ p. other (sym p))))

-- ---- words that are not zero

pub marks_set : (l : List ℕ) (i x : ℕ) → i < length l → get_or l i 0 ≡ 0 → marks (set l i (suc x)) ≡ suc (marks l)
unfolding marks marked
marks_set [] i x h e = absurd (omega arith)
marks_set (y ∷ l) zero x h e = rw e (omega arith)
marks_set (y ∷ l) (suc i) x h e = rw (marks_set l i x (omega arith) e) (omega arith)

marked_le : (x : ℕ) → marked x ≤ 1
unfolding marked
marked_le zero = omega arith
marked_le (suc x) = omega arith

marks_le : (l : List ℕ) → marks l ≤ length l
unfolding marks
marks_le [] = omega arith
marks_le (x ∷ l) = omega (arith, marked_le x, marks_le l)

marks_lt : (l : List ℕ) (i : ℕ) → i < length l → get_or l i 0 ≡ 0 → marks l < length l
unfolding marks marked
marks_lt [] i h e = absurd (omega arith)
marks_lt (x ∷ l) zero h e = rw e (omega (arith, marks_le l))
marks_lt (x ∷ l) (suc i) h e = omega (arith, marked_le x, marks_lt l i (omega arith) e)

-- ---- bytes

module _ {A : Arena} {room : ℕ} {sc out : List ℕ} {c : Progress} where
  -- bytes where there is room
  pub chunk : (bs : List ℕ) (n : ℕ) → length bs ≡ n → c.written + n ≤ length out → Goes A room (write room bs) (buffers sc out) c (pure tt) (buffers sc (sets out (c.written) bs)) (with_written c (c.written + n))
  unfolding write pick pure
  chunk bs n z h = record {
    goes = λ s H.
        let at : c.written ≡ length s.bytes = H.count_written in
        let le : length bs ≤ room - length s.bytes = omega (arith, H.sized) in
        let len = length-append s.bytes bs in
        record {
          state = record { bytes = s.bytes ++ bs; symbols = s.symbols; objects = s.objects };
          holds = record {
            small = H.small;
            sized = length-sets out (c.written) bs ∙ H.sized;
            fits = omega (arith, len, H.fits);
            same = ap (λ (k : ℕ). take (length (s.bytes ++ bs)) (sets out k bs)) at ∙ stored_behind s.bytes bs out H.same (omega arith);
            count_written = omega (arith, len);
            count_symbols = H.count_symbols;
            count_objects = H.count_objects;
            scratch_small = H.scratch_small;
            scratch_fits = H.scratch_fits;
            numbered = H.numbered;
            symbol_words = H.symbol_words;
            object_words = H.object_words;
          };
          same = rw (le-leb (length bs) (room - length s.bytes) le) refl;
        };
  }

  -- the same, stored by another's hand
  pub chunk_stored : {limit : ℕ} {out' : List ℕ} (bs : List ℕ) (n : ℕ) → length bs ≡ n → c.written + n ≤ length out → out' ≡ sets out (c.written) bs → Meets A room limit (write room bs) (buffers sc out) c (Ok tt) (buffers sc out') (with_written c (c.written + n))
  chunk_stored {limit} bs n z h e = subst (λ (o : List ℕ). Meets A room limit (write room bs) (buffers sc out) c (Ok tt) (buffers sc o) (with_written c (c.written + n))) (sym e) (record { leads = chunk bs n z h })

  -- a kind byte and more, and the place after them
  pub tagged_goes : {out' : List ℕ} {p : ℕ} (k : ℕ) (bs : List ℕ) → c.written + 1 + length bs ≤ length out → out' ≡ sets out (c.written) (k ∷ bs) → p ≡ c.written + 1 + length bs → Goes A room (write room (k ∷ bs)) (buffers sc out) c (pure tt) (buffers sc out') (with_written c p)
  tagged_goes {out'} {p} k bs h e q =
      let z : p ≡ c.written + suc (length bs) = omega (arith, q) in
      subst (λ (o : List ℕ). Goes A room (write room (k ∷ bs)) (buffers sc out) c (pure tt) (buffers sc o) (with_written c p)) (sym e)
      (subst (λ (x : ℕ). Goes A room (write room (k ∷ bs)) (buffers sc out) c (pure tt) (buffers sc (sets out (c.written) (k ∷ bs))) (with_written c x)) (sym z)
      (chunk (k ∷ bs) (suc (length bs)) refl (omega arith)))

  pub tagged_stored : {limit : ℕ} {out' : List ℕ} {p : ℕ} (k : ℕ) (bs : List ℕ) → c.written + 1 + length bs ≤ length out → out' ≡ sets out (c.written) (k ∷ bs) → p ≡ c.written + 1 + length bs → Meets A room limit (write room (k ∷ bs)) (buffers sc out) c (Ok tt) (buffers sc out') (with_written c p)
  tagged_stored k bs h e q = record { leads = tagged_goes k bs h e q }

  pub no_chunk : {limit : ℕ} {B' : Buffers} {c' : Progress} (bs : List ℕ) (n : ℕ) → length bs ≡ n → length out < c.written + n → Meets A room limit (write room bs) (buffers sc out) c (Err NoSpace) B' c'
  unfolding write pick stopped
  no_chunk bs n z h = record {
    leads = λ s H.
        let lt : room - length s.bytes < length bs = omega (arith, H.sized, H.count_written, H.fits) in
        rw (lt-leb (length bs) (room - length s.bytes) lt) refl;
  }

  -- ---- a symbol's number

  symbol_held : (v : ℕ) (s : Written) → v < length A.nodes → kind (node A v) ≡ 3 → get_or sc v 0 ≡ 0 → Holds A room s (buffers sc out) c → Holds A room (record { bytes = s.bytes; symbols = s.symbols ++ (v ∷ []); objects = s.objects }) (buffers (set sc v (c.symbols + 1)) out) (with_symbols c (c.symbols + 1))
  unfolding word
  symbol_held v s below three e H =
      let len = length-append s.symbols (v ∷ []) in
      let in-scratch : v < length sc = omega (arith, below, H.scratch_fits) in
      record {
        small = H.small;
        sized = H.sized;
        fits = H.fits;
        same = H.same;
        count_written = H.count_written;
        count_symbols = omega (arith, len, H.count_symbols);
        count_objects = H.count_objects;
        scratch_small = rw (length-set sc v (c.symbols + 1)) H.scratch_small;
        scratch_fits = rw (length-set sc v (c.symbols + 1)) H.scratch_fits;
        numbered = omega (arith, len, H.numbered, ap (λ (x : ℕ). marks (set sc v x)) (add-one (c.symbols)) ∙ marks_set sc v (c.symbols) in-scratch e);
        symbol_words = λ i l k. words_numbered s.symbols sc v _ i in-scratch e H.count_symbols (H.symbol_words v below three) (H.symbol_words i l k);
        object_words = λ i l k. get_or-set_other sc v i _ 0 (λ q. let z = ap (λ (j : ℕ). kind (node A j)) q in omega (arith, three)) ∙ H.object_words i l k;
      }

  pub symbol_numbered : (v : ℕ) (rest : Writer) → v < length A.nodes → kind (node A v) ≡ 3 → get_or sc v 0 ≡ 0 → Goes A room (number_symbol v >> rest) (buffers sc out) c rest (buffers (set sc v (c.symbols + 1)) out) (with_symbols c (c.symbols + 1))
  unfolding number_symbol ◌>>◌ ◌>>=◌ next
  symbol_numbered v rest below three e = record {
    goes = λ s H. record {
      state = record { bytes = s.bytes; symbols = s.symbols ++ (v ∷ []); objects = s.objects };
      holds = symbol_held v s below three e H;
      same = refl;
    };
  }

-- the number's place is a word
pub number_fits : {A : Arena} {room : ℕ} {s : Written} {sc out : List ℕ} {c : Progress} → Holds A room s (buffers sc out) c → (v : ℕ) → v < length A.nodes → get_or sc v 0 ≡ 0 → c.symbols + c.objects < greatest_length
number_fits {sc = sc} H v l e = omega (arith, H.numbered, H.count_symbols, H.count_objects, H.scratch_small, marks_lt sc v (omega (arith, H.scratch_fits)) e)
