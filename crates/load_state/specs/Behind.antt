-- Behind what is held each table and list is what it was: one law for each way a table changes, and for steps joined.
use Rattle.std.specs.Prelude.{ℕ, suc, ◌+◌, ◌-◌, ◌≤◌, ◌≡◌, refl, false, List, [], ◌∷◌, length, drop, set}
use Rattle.std.proofs.Common.{arith, sym, ap, ◌∙◌, drop-drop, drop-set-lt}
use Rattle.std.proofs.lemmas.List.Edits.{sets}
use Rattle.definition.specs.Node.{Row, flat}
use Rattle.definition.specs.State.{State, nodes_set, references_set, bytes_set, objects_set, copied_more}
use Rattle.load_state.specs.Holds.{Symbols, Lent, lent, Kept, Behind}

-- ---- one table

pub kept_as : {l l' : List ℕ} (t : List ℕ) → l ≡ l' → Kept l l' t t
kept_as t e = record { longer = omega (arith, ap length e); behind = refl }

kept_then : {l l' l'' t t' t'' : List ℕ} → Kept l l' t t' → Kept l' l'' t' t'' → Kept l l'' t t''
kept_then {l} {l'} {l''} {t} {t'} {t''} a b =
    let e : length l' + (length l'' - length l') ≡ length l'' = omega (arith, b.longer) in
    let f : (x : List ℕ) → drop (length l'') x ≡ drop (length l'' - length l') (drop (length l') x) = λ x. sym (drop-drop (length l'' - length l') (length l') x ∙ ap (λ (k : ℕ). drop k x) e) in
    record { longer = omega (arith, a.longer, b.longer); behind = b.behind ∙ f t' ∙ ap (λ (x : List ℕ). drop (length l'' - length l') x) a.behind ∙ sym (f t) }

drop_sets : (vs t : List ℕ) (n i : ℕ) → i + length vs ≤ n → drop n (sets t i vs) ≡ drop n t
drop_sets [] t n i h = refl
drop_sets (v ∷ vs) t n i h = drop_sets vs (set t i v) n (suc i) (omega arith) ∙ drop-set-lt n t i v (omega arith)

-- a store inside what is held after it
pub kept_sets : {l l' t t' : List ℕ} (i : ℕ) (vs : List ℕ) → t' ≡ sets t i vs → i + length vs ≤ length l' → length l ≤ length l' → Kept l l' t t'
kept_sets {l' = l'} {t} i vs e h k = record { longer = k; behind = ap (λ (x : List ℕ). drop (length l') x) e ∙ drop_sets vs t (length l') i h }

-- ---- all of them

pub behind_still : {s s' : State} {T : Lent} → s.nodes ≡ s'.nodes → s.references ≡ s'.references → s.bytes ≡ s'.bytes → s.symbols ≡ s'.symbols → s.objects ≡ s'.objects → T.symbols.searched ≡ false → Behind s s' T T
behind_still {T = T} n r b y o a = record { searched = a; nodes = kept_as T.nodes (ap flat n); references = kept_as T.references r; bytes = kept_as T.bytes b; symbols = kept_as T.symbols.list y; objects = kept_as T.objects o }

pub behind_then : {s s' s'' : State} {T T' T'' : Lent} → Behind s s' T T' → Behind s' s'' T' T'' → Behind s s'' T T''
behind_then a b = record { searched = b.searched; nodes = kept_then a.nodes b.nodes; references = kept_then a.references b.references; bytes = kept_then a.bytes b.bytes; symbols = kept_then a.symbols b.symbols; objects = kept_then a.objects b.objects }

module _ {s : State} {no re by : List ℕ} {sy : Symbols} {ob : List ℕ} where
  pub behind_nodes : {rows : List Row} {no' : List ℕ} → Kept (flat s.nodes) (flat rows) no no' → sy.searched ≡ false → Behind s (nodes_set rows s) (lent no re by sy ob) (lent no' re by sy ob)
  behind_nodes k a = record { searched = a; nodes = k; references = kept_as re refl; bytes = kept_as by refl; symbols = kept_as sy.list refl; objects = kept_as ob refl }

  pub behind_references : {l re' : List ℕ} → Kept s.references l re re' → sy.searched ≡ false → Behind s (references_set l s) (lent no re by sy ob) (lent no re' by sy ob)
  behind_references k a = record { searched = a; nodes = kept_as no refl; references = k; bytes = kept_as by refl; symbols = kept_as sy.list refl; objects = kept_as ob refl }

  pub behind_bytes : {l by' : List ℕ} (n : ℕ) → Kept s.bytes l by by' → sy.searched ≡ false → Behind s (copied_more n (bytes_set l s)) (lent no re by sy ob) (lent no re by' sy ob)
  behind_bytes n k a = record { searched = a; nodes = kept_as no refl; references = kept_as re refl; bytes = k; symbols = kept_as sy.list refl; objects = kept_as ob refl }

  pub behind_objects : {l ob' : List ℕ} → Kept s.objects l ob ob' → sy.searched ≡ false → Behind s (objects_set l s) (lent no re by sy ob) (lent no re by sy ob')
  behind_objects k a = record { searched = a; nodes = kept_as no refl; references = kept_as re refl; bytes = kept_as by refl; symbols = kept_as sy.list refl; objects = k }
