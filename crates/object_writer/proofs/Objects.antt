-- What is held after an object is given its number, and where it is linked.
use Prim.Native.Nat.{ℕ, ◌+◌, ◌-◌, ◌<◌}
use native.Mathlib.Omega.{arith}
use native.Mathlib.Numerals.{add-one}
use mathlib.Core.Path.{◌≡◌, refl, ap, ◌∙◌}
use mathlib.Core.List.{List, [], ◌∷◌, ◌++◌}
use lib.ListN.{length, get_or, set, length-append, length-set}
use lib.Seq.{get_or-set_other}
use Rattle.definition.specs.Run.{next, ◌>>=◌, look}
use Rattle.definition.specs.Integer.{integer_bytes}
use Rattle.definition.specs.Kind.{OBJECT_LINK}
use Rattle.definition.specs.Node.{kind}
use Rattle.definition.specs.Arena.{Arena, node}
use Rattle.definition.specs.Dump.{Written, Writer, ◌>>◌, write, number_object, link_or, write_object_or_link}
use Rattle.writer.specs.declared.Progress.{Progress}
use Rattle.writer.specs.Held.{buffers, with_objects, word, marks, Holds, Goes}
use Rattle.writer.proofs.Steps.{words_numbered, word_none, word_some, marks_set}
use Rattle.object_writer.specs.Values.{IsObject}

module _ {A : Arena} {room : ℕ} {sc out : List ℕ} {c : Progress} where
  object_held : (v : ℕ) (s : Written) → IsObject A v → get_or sc v 0 ≡ 0 → Holds A room s (buffers sc out) c → Holds A room (record { bytes = s.bytes; symbols = s.symbols; objects = s.objects ++ (v ∷ []) }) (buffers (set sc v (c.objects + 1)) out) (with_objects c (c.objects + 1))
  unfolding word
  object_held v s o e H =
      let len = length-append s.objects (v ∷ []) in
      let in-scratch : v < length sc = omega (arith, o.below, H.scratch_fits) in
      record {
        small = H.small;
        sized = H.sized;
        fits = H.fits;
        same = H.same;
        count_written = H.count_written;
        count_symbols = H.count_symbols;
        count_objects = omega (arith, len, H.count_objects);
        scratch_small = rw (length-set sc v (c.objects + 1)) H.scratch_small;
        scratch_fits = rw (length-set sc v (c.objects + 1)) H.scratch_fits;
        numbered = omega (arith, len, H.numbered, ap (λ (x : ℕ). marks (set sc v x)) (add-one (c.objects)) ∙ marks_set sc v (c.objects) in-scratch e);
        symbol_words = λ i l k. get_or-set_other sc v i _ 0 (λ q. let z = ap (λ (j : ℕ). kind (node A j)) q in omega (arith, o.kind_above)) ∙ H.symbol_words i l k;
        object_words = λ i l k. words_numbered s.objects sc v _ i in-scratch e H.count_objects (H.object_words v o.below o.kind_above) (H.object_words i l k);
      }

  -- node v, which has no number, gets one before the rest
  pub object_numbered : (v : ℕ) (rest : Writer) → IsObject A v → get_or sc v 0 ≡ 0 → Goes A room (write_object_or_link room v rest) (buffers sc out) c rest (buffers (set sc v (c.objects + 1)) out) (with_objects c (c.objects + 1))
  unfolding write_object_or_link look link_or number_object ◌>>◌ ◌>>=◌ next
  object_numbered v rest o e = record {
    goes = λ s H. record {
      state = record { bytes = s.bytes; symbols = s.symbols; objects = s.objects ++ (v ∷ []) };
      holds = object_held v s o e H;
      same = rw (word_none _ _ (H.object_words v o.below o.kind_above) e) refl;
    };
  }

  pub object_linked : (v : ℕ) (rest : Writer) → IsObject A v → (get_or sc v 0 ≡ 0 → ⊥) → Goes A room (write_object_or_link room v rest) (buffers sc out) c (write room (OBJECT_LINK ∷ integer_bytes (get_or sc v 0 - 1))) (buffers sc out) c
  unfolding write_object_or_link look link_or
  object_linked v rest o n = record {
    goes = λ s H. record {
      state = s;
      holds = H;
      same = rw (word_some _ _ (H.object_words v o.below o.kind_above) n) refl;
    };
  }
