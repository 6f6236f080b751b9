-- From the tests of a getter to its answer.
use Prim.Native.Nat.{ℕ, ◌+◌, ◌-◌, ◌*◌, ◌≤◌, ◌<◌}
use native.Mathlib.Omega.{arith}
use mathlib.Core.List.{List, [], ◌∷◌}
use mathlib.Core.Path.{◌≡◌, sym, ap, ◌∙◌}
use lib.ListN.{length, get_or, take, drop}
use Rattle.definition.specs.Run.{ok, refused, pure, ◌>>=◌, look}
use Rattle.definition.specs.Node.{width, START, LENGTH, LIST, COUNT, NAME, DEFAULT, CLASS}
use Rattle.definition.specs.Build.{Lent, number_answer, words_answer, name_answer, number_done, words_done, name_done, check, check_names, handles_checked, words_at, get_words, get_kind, get_name, get_root}
use Rattle.std.specs.Prelude.{Ok, Err}
use Rattle.definition.specs.declared.Counts.{Counts}
use Rattle.definition.specs.declared.Refusal.{Refusal}
use Rattle.arena_check.proofs.Rights.{node_words}
use Rattle.call_check.specs.Tests.{Fit}
use Rattle.call_check.proofs.Answers.{stop, on}

module _ (L : Lent) where
  pub root_ok : check [] L ≡ ok tt L → number_answer (Ok (L.counts.root)) ≡ number_done (get_root L)
  unfolding ◌>>=◌ get_root number_done number_answer look pure
  root_ok p = sym (ap number_done (on _ p))

  pub root_no : (q : Refusal) → check [] L ≡ refused q → number_answer (Err q) ≡ number_done (get_root L)
  unfolding ◌>>=◌ get_root number_done number_answer
  root_no q p = sym (ap number_done (stop _ p))

  get_ok : (h : ℕ) → handles_checked (h ∷ []) L ≡ ok tt L → get_words h L ≡ ok (words_at L.tables.nodes h) L
  unfolding ◌>>=◌ get_words look pure
  get_ok h p = on _ p

  get_no : (h : ℕ) (q : Refusal) → handles_checked (h ∷ []) L ≡ refused q → get_words h L ≡ refused q
  unfolding ◌>>=◌ get_words
  get_no h q p = stop _ p

  abbrev word : ℕ → ℕ → ℕ
  word h k = get_or L.tables.nodes (h * width + k) 0

  -- a node's words, where it is below the table's end
  words_are : (h : ℕ) → h * width + width ≤ length L.tables.nodes → words_at L.tables.nodes h ≡ get_or L.tables.nodes (h * width) 0 ∷ word h START ∷ word h LENGTH ∷ word h LIST ∷ word h COUNT ∷ word h NAME ∷ word h DEFAULT ∷ word h CLASS ∷ []
  unfolding words_at
  words_are h l = node_words L.tables.nodes (h * width) l

  pub get_all : (h : ℕ) (ws : List ℕ) → ws ≡ take (h * width + width - h * width) (drop (h * width) L.tables.nodes) → handles_checked (h ∷ []) L ≡ ok tt L → words_answer (Ok ws) ≡ words_done (get_words h L)
  unfolding words_done words_answer words_at
  get_all h ws e p =
      let z : h * width + width - h * width ≡ width = omega arith in
      ap (λ (l : List ℕ). words_answer (Ok l)) (e ∙ ap (λ (n : ℕ). take n (drop (h * width) L.tables.nodes)) z) ∙ sym (ap words_done (get_ok h p))

  pub get_none : (h : ℕ) (q : Refusal) → handles_checked (h ∷ []) L ≡ refused q → words_answer (Err q) ≡ words_done (get_words h L)
  unfolding words_done words_answer
  get_none h q p = sym (ap words_done (get_no h q p))

  pub kind_ok : (h : ℕ) → h * width + width ≤ length L.tables.nodes → handles_checked (h ∷ []) L ≡ ok tt L → number_answer (Ok (get_or L.tables.nodes (h * width) 0)) ≡ number_done (get_kind h L)
  unfolding ◌>>=◌ number_done number_answer get_kind pure
  kind_ok h l p = sym (ap number_done (on _ (get_ok h p)) ∙ λ i. number_answer (Ok (get_or (words_are h l i) 0 0)))

  pub kind_no : (h : ℕ) (q : Refusal) → handles_checked (h ∷ []) L ≡ refused q → number_answer (Err q) ≡ number_done (get_kind h L)
  unfolding ◌>>=◌ number_done number_answer get_kind
  kind_no h q p = sym (ap number_done (stop _ (get_no h q p)))

  pub name_ok : (h : ℕ) → h * width + width ≤ length L.tables.nodes → handles_checked (h ∷ []) L ≡ ok tt L → check_names (h ∷ []) L ≡ ok tt L → name_answer (Ok (record { start = word h START; length = word h LENGTH })) ≡ name_done (get_name h L)
  unfolding ◌>>=◌ name_done name_answer get_name look pure
  name_ok h l p q =
      sym (ap name_done (on _ p ∙ on _ q) ∙ λ i. name_answer (Ok (record { start = get_or (take 2 (drop 1 (words_are h l i))) 0 0; length = get_or (take 2 (drop 1 (words_are h l i))) 1 0 })))

  pub name_no : (h : ℕ) (q : Refusal) → handles_checked (h ∷ []) L ≡ ok tt L → check_names (h ∷ []) L ≡ refused q → name_answer (Err q) ≡ name_done (get_name h L)
  unfolding ◌>>=◌ name_done name_answer get_name
  name_no h q p r = sym (ap name_done (on _ p ∙ stop _ r))

  pub name_stop : (h : ℕ) (q : Refusal) → handles_checked (h ∷ []) L ≡ refused q → name_answer (Err q) ≡ name_done (get_name h L)
  unfolding ◌>>=◌ name_done name_answer get_name
  name_stop h q p = sym (ap name_done (stop _ p))

-- a handle's words lie inside the table
pub inside : {h : ℕ} {n e b more : ℕ} {c : Counts} → Fit n e b more c → h < c.nodes → h * width + width ≤ n
inside f l = omega (arith, f.fits.nodes_fit)
