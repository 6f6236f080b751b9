-- What the tests before a builder's work say where they let it go on.
use Rattle.std.specs.Prelude.{ℕ, suc, ◌-◌, ◌/◌, ◌≤◌, ◌≡◌, refl, Bool, true, false, List, [], ◌∷◌, ltb, leb, length}
use Rattle.std.proofs.Common.{sym, ◌∙◌, arith, leb-true}
use Rattle.std.proofs.Math.Option.{none}
use Rattle.definition.specs.Run.{Run, Outcome, ok, refused, pure, refuse, next, ◌>>=◌, look, pick}
use Rattle.definition.specs.Node.{Row, width, kind}
use Rattle.definition.specs.Arena.{node, all_below, is_name, all_names, fault}
use Rattle.definition.specs.Magnitude.{fits}
use Rattle.definition.specs.Build.{Lent, held, check, check_handles, check_names, handles_checked, takes_class, check_class, check_magnitude, check_space, append, add}
use Rattle.definition.specs.Slice.{BYTES, NODES, REFERENCES}
use Rattle.definition.specs.declared.Refusal.{Refusal}
use Rattle.definition.specs.declared.Refusal.TheVariants.{WrongKind, NoSpace, TooBig}
use Rattle.lists.specs.Runs.{no_ok}
use Rattle.well_formed.specs.Checks.{after_check, after_handles}
use Rattle.builder_laws.specs.Append.{Room, appended}

bind_assoc : {A B C : Type 0} (m : Run Lent A) (f : A → Run Lent B) (k : B → Run Lent C) (L : Lent) → (m >>= f >>= k) L ≡ (m >>= λ a. f a >>= k) L
unfolding ◌>>=◌ next
bind_assoc {A = A} m f k L = go (m L)
  where
    go : (o : Outcome Lent A) → next (next o f) k ≡ next o (λ a s. next (f a s) k)
    go (ok a s) = refl
    go (refused r) = refl

-- the arena is well formed and the handles are nodes
pub after_handles_checked : {A : Type 0} (hs : List ℕ) (k : Unit {0} → Run Lent A) (L M : Lent) (a : A) → (handles_checked hs >>= k) L ≡ ok a M
    → (fault L.tables L.counts ≡ none) × (all_below L.counts.nodes hs ≡ true) × (k tt L ≡ ok a M)
unfolding handles_checked
after_handles_checked hs k L M a e =
    let (w, s, e₁) = after_check [] (λ u. check_handles hs >>= k) L M a (sym (bind_assoc (check []) (λ u. check_handles hs) k L) ∙ e) in
    let (b, e₂) = after_handles hs k L M a e₁ in
    (s, b, e₂)

-- the names are symbols
pub after_names : {A : Type 0} (hs : List ℕ) (k : Unit {0} → Run Lent A) (L M : Lent) (a : A) → (check_names hs >>= k) L ≡ ok a M
    → (all_names (held L) hs ≡ true) × (k tt L ≡ ok a M)
unfolding ◌>>=◌ check_names look pure next all_names pick refuse
after_names [] k L M a e = (refl, e)
after_names (h ∷ hs) k L M a e = go (is_name (held L) h) (after_names hs k L M a) e
  where
    go : (b : Bool) → ((check_names hs >>= k) L ≡ ok a M → (all_names (held L) hs ≡ true) × (k tt L ≡ ok a M))
        → next (pick b (check_names hs) (refuse (WrongKind h)) L) k ≡ ok a M → (pick b (all_names (held L) hs) false ≡ true) × (k tt L ≡ ok a M)
    go true f e = f e
    go false f e = no_ok e

-- one test
after_test : {A : Type 0} (t : Bool) (r : Refusal) (k : Unit {0} → Run Lent A) (L M : Lent) (a : A) → next (pick t (pure tt) (refuse r) L) k ≡ ok a M → (t ≡ true) × (k tt L ≡ ok a M)
unfolding pure next pick refuse
after_test true r k L M a e = (refl, e)
after_test false r k L M a e = no_ok e

-- the magnitude fits
pub after_magnitude : {A : Type 0} (m : ℕ) (k : Unit {0} → Run Lent A) (L M : Lent) (a : A) → (check_magnitude m >>= k) L ≡ ok a M → (fits m ≡ true) × (k tt L ≡ ok a M)
unfolding ◌>>=◌ check_magnitude
after_magnitude m k L M a e = after_test (fits m) (TooBig 4) k L M a e

-- the node takes a class
pub after_class : {A : Type 0} (h : ℕ) (k : Unit {0} → Run Lent A) (L M : Lent) (a : A) → (check_class h >>= k) L ≡ ok a M → (takes_class (kind (node (held L) h)) ≡ true) × (k tt L ≡ ok a M)
unfolding ◌>>=◌ check_class look
after_class h k L M a e = after_test (takes_class (kind (node (held L) h))) (WrongKind h) k L M a e

-- there is room
after_space : {A : Type 0} (bs ms : List ℕ) (k : Unit {0} → Run Lent A) (L M : Lent) (a : A) → L.counts.bytes ≤ length L.tables.bytes → L.counts.references ≤ length L.tables.references
    → (check_space bs ms >>= k) L ≡ ok a M → Room L bs ms × (k tt L ≡ ok a M)
unfolding ◌>>=◌ check_space next pick
after_space bs ms k L M a b r e =
    go (leb (length bs) (length L.tables.bytes - L.counts.bytes)) (leb (length ms) (length L.tables.references - L.counts.references)) (ltb L.counts.nodes (length L.tables.nodes / width)) refl refl refl e
  where
    go : (x y z : Bool) → leb (length bs) (length L.tables.bytes - L.counts.bytes) ≡ x → leb (length ms) (length L.tables.references - L.counts.references) ≡ y → ltb L.counts.nodes (length L.tables.nodes / width) ≡ z
        → next (pick x (pick y (pick z (ok tt L) (refused (NoSpace NODES))) (refused (NoSpace REFERENCES))) (refused (NoSpace BYTES))) k ≡ ok a M → Room L bs ms × (k tt L ≡ ok a M)
    go true true true p q s e = (
      record {
        bytes = omega (arith, leb-true (length bs) (length L.tables.bytes - L.counts.bytes) p);
        references = omega (arith, leb-true (length ms) (length L.tables.references - L.counts.references) q);
        nodes = omega (arith, leb-true (suc L.counts.nodes) (length L.tables.nodes / width) s);
      },
      e,
    )
    go true true false p q s e = no_ok e
    go true false z p q s e = no_ok e
    go false y z p q s e = no_ok e

-- a node was added
pub after_add : (bs ms : List ℕ) (row : ℕ → ℕ → Row) (L M : Lent) (h : ℕ) → L.counts.bytes ≤ length L.tables.bytes → L.counts.references ≤ length L.tables.references
    → add bs ms row L ≡ ok h M → Room L bs ms × (h ≡ L.counts.nodes) × (M ≡ appended L bs ms (row L.counts.bytes L.counts.references))
unfolding add append
after_add bs ms row L M h b r e =
    let (ρ, q) = after_space bs ms (λ u. append bs ms row) L M h b r e in
    (ρ, cc, cc)
