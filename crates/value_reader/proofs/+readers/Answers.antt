-- The proofs of the readers that call one another.
use native.Mathlib.Omega.{arith}
use Prim.Native.Nat.{ℕ, ◌+◌, ◌-◌, ◌<◌}
use mathlib.Core.Path.{refl, ◌≡◌, sym, ap}
use Rattle.definition.specs.Run.{pure, pick}
use Rattle.definition.specs.Node.{array, words, kind, hash, object}
use Rattle.definition.specs.Load.{read_symbol_like, head, value_of, read_byte, read_instance_variables}
use Rattle.definition.specs.Load as D
use Rattle.load_state.specs.Laws.{given, lead_first, lead_after, lead_stop, held_goes, lead_as, goes_to, held, grew}
use Rattle.std.proofs.lemmas.Result.{IfOk-weaker}
use Rattle.lists.specs.Runs.{err_is}
use Rattle.load_state.specs.Needs.{nodes_small, space_fits, slot_room}
use Rattle.value_reader.proofs.Members.{opened, open_on, array_of, array_rest, contained, contained_stops, inside, no_more, names_any, one_each, down_3, hash_of, hash_rest, default_fits, nodes_few, after_members, string_leaf, down_2, turning_start, turned, all_turned, name_stop, value_stop, value_last, name_turned, value_turned, named_below, come_to, down_1, object_of, object_rest, list_parity, class_refused, no_kind, kind_led, kind_held, leaf_kind, defaults_one, hash_headed, down_0, opened_value, variables_after, variables_of, variables_rest, down_inner}
use Rattle.load_state.specs.Names.{other_kind}
use mathlib.Core.Logic.{inl}
use Rattle.loader.specs.Parts.{after_i}
use Rattle.input_reader.proofs.Heads.{kind_read, level_missing}
use Rattle.leaf_reader.specs.Classes.{valued, wrappable}
use Rattle.loader.proofs.Variables.{after_takes, takes_string}
use Rattle.input_reader.proofs.Input.{byte_goes}
use Rattle.leaf_reader.proofs.Classes.{array_valued, none_valued}
use Rattle.value_reader.proofs.+readers.Goals as goal

pub read_array-open_node-requires : goal.read_array-open_node-requires
read_array-open_node-requires t c =
    (nodes_small c.requires, space_fits c.requires)

pub read_array-returns-in_err-h : goal.read_array-returns-in_err-h
unfolding D.read_array
read_array-returns-in_err-h t c =
    rw (err_is c.from_residual.result c.from_residual.ensures.1) (record { meets = λ room limit. lead_stop (lead_first _ (c.in_err-h.ensures.by_index _ room limit _ _ _)); upper_bound = tt })

pub read_array-read_words-requires : goal.read_array-read_words-requires
read_array-read_words-requires t c =
    let opened_at = opened c.requires (λ room. (c.in_ok-h.ensures.by_index _ room 0 _ _ _).led) c.in_ok-h.ensures.upper_bound in
    (omega arith, (_, _, _, _, opened_at.held))

pub read_array-returns-in_err-n : goal.read_array-returns-in_err-n
unfolding D.read_array
read_array-returns-in_err-n t c =
    rw (err_is c.from_residual-in_err-n.result c.from_residual-in_err-n.ensures.1) (record {
      meets = λ room limit. lead_after (lead_first _ (c.in_ok-h.ensures.by_index _ room limit _ _ _)).led
          (lead_stop (c.in_err-n.ensures.leads room limit _ _ _ _ _));
      upper_bound = tt;
    })

pub read_array-overflow_sub-start : goal.read_array-overflow_sub-start
read_array-overflow_sub-start t c =
    omega (arith, c.in_ok-n.ensures.upper_bound)

pub read_array-read_members-requires : goal.read_array-read_members-requires
read_array-read_members-requires t c =
    let opened_at = opened c.requires (λ room. (c.in_ok-h.ensures.by_index _ room 0 _ _ _).led) c.in_ok-h.ensures.upper_bound in
    let words_at = open_on opened_at (λ room. (c.in_ok-n.ensures.leads room 0 _ _ _ _ (λ p n. pure p)).led) in
    (down_3 _ t c.decreases, ((inside _ _).0, (inside _ 0).1, no_more, names_any _, words_at.held))

pub read_array-returns-in_err-read_members : goal.read_array-returns-in_err-read_members
unfolding D.read_array
read_array-returns-in_err-read_members t c =
    let h = c.in_ok-h.h in
    let n = c.in_ok-n.n in
    let q = c.in_ok-n.ensures.upper_bound in rw (err_is c.from_residual-in_err-read_members.result c.from_residual-in_err-read_members.ensures.1) (record {
      meets = λ room limit.
          let name = read_symbol_like c.args.input.now room in
          let inner = D.read_value c.args.input.now room limit c.args.levels in
          lead_after (lead_first _ (c.in_ok-h.ensures.by_index _ room limit _ _ _)).led
          (contained_stops name inner (array_of name inner h c.args.class) 1 2 0 n _ _ _ (array_rest name inner h _ n c.args.class) (one_each _ n) q.1 (c.in_ok-n.ensures.leads room limit _ _ _ _ _) (c.in_err-read_members.ensures.meets room limit));
      upper_bound = tt;
    })

pub read_array-overflow_cast-start : goal.read_array-overflow_cast-start
read_array-overflow_cast-start t c =
    let opened_at = opened c.requires (λ room. (c.in_ok-h.ensures.by_index _ room 0 _ _ _).led) c.in_ok-h.ensures.upper_bound in
    let words_at = open_on opened_at (λ room. (c.in_ok-n.ensures.leads room 0 _ _ _ _ (λ p n. pure p)).led) in
    let H = words_at.held.holds in
    omega (arith, c.in_ok-n.ensures.upper_bound.1, H.counted.count_references, H.laid.references.fits, H.fixed.small.references)

pub read_array-fill_node-requires : goal.read_array-fill_node-requires
read_array-fill_node-requires t c =
    let opened_at = opened c.requires (λ room. (c.in_ok-h.ensures.by_index _ room 0 _ _ _).led) c.in_ok-h.ensures.upper_bound in
    let words_at = open_on opened_at (λ room. (c.in_ok-n.ensures.leads room 0 _ _ _ _ (λ p n. pure p)).led) in
    let members_at = open_on words_at (λ room. (c.in_ok-read_members.ensures.meets room 0).led) in
    let O = members_at in
    slot_room O.held O.below

pub read_array-returns : goal.read_array-returns
unfolding D.read_array kind words
read_array-returns t c =
    let opened_at = opened c.requires (λ room. (c.in_ok-h.ensures.by_index _ room 0 _ _ _).led) c.in_ok-h.ensures.upper_bound in
    let words_at = open_on opened_at (λ room. (c.in_ok-n.ensures.leads room 0 _ _ _ _ (λ p n. pure p)).led) in
    let members_at = open_on words_at (λ room. (c.in_ok-read_members.ensures.meets room 0).led) in
    let O = members_at in
    let h = c.in_ok-h.h in
    let n = c.in_ok-n.n in
    let q = c.in_ok-n.ensures.upper_bound in record {
      meets = λ room limit.
          let name = read_symbol_like c.args.input.now room in
          let inner = D.read_value c.args.input.now room limit c.args.levels in
          lead_after (lead_first _ (c.in_ok-h.ensures.by_index _ room limit _ _ _)).led
          (contained name inner (array_of name inner h c.args.class) 1 2 0 n _ _ _ (array_rest name inner h _ n c.args.class) (one_each _ n) q.1 (c.in_ok-n.ensures.leads room limit _ _ _ _ _) (c.in_ok-read_members.ensures.meets room limit)
          (given (c.fill_node.ensures _ room (array _ n c.args.class) _ _ _ _ _ refl (other_kind (array 0 0 0) refl) O.below (λ _. O.free tt))));
      upper_bound = (O.below, c.in_ok-h.ensures.upper_bound.0.1);
    }

pub read_hash-open_node-requires : goal.read_hash-open_node-requires
read_hash-open_node-requires t c =
    (nodes_small c.requires.1, space_fits c.requires.1)

pub read_hash-returns-in_err-h : goal.read_hash-returns-in_err-h
unfolding D.read_hash
read_hash-returns-in_err-h t c =
    rw (err_is c.from_residual.result c.from_residual.ensures.1) (record { meets = λ room limit. lead_stop (lead_first _ (c.in_err-h.ensures.by_index _ room limit _ _ _)); upper_bound = tt })

pub read_hash-read_words-requires : goal.read_hash-read_words-requires
read_hash-read_words-requires t c =
    let opened_at = opened c.requires.1 (λ room. (c.in_ok-h.ensures.by_index _ room 0 _ _ _).led) c.in_ok-h.ensures.upper_bound in
    (omega arith, (_, _, _, _, opened_at.held))

pub read_hash-returns-in_err-n : goal.read_hash-returns-in_err-n
unfolding D.read_hash
read_hash-returns-in_err-n t c =
    rw (err_is c.from_residual-in_err-n.result c.from_residual-in_err-n.ensures.1) (record {
      meets = λ room limit. lead_after (lead_first _ (c.in_ok-h.ensures.by_index _ room limit _ _ _)).led
          (lead_stop (c.in_err-n.ensures.leads room limit _ _ _ _ _));
      upper_bound = tt;
    })

pub read_hash-overflow_sub-start : goal.read_hash-overflow_sub-start
read_hash-overflow_sub-start t c =
    omega (arith, c.in_ok-n.ensures.upper_bound)

pub read_hash-read_members-requires : goal.read_hash-read_members-requires
read_hash-read_members-requires t c =
    let opened_at = opened c.requires.1 (λ room. (c.in_ok-h.ensures.by_index _ room 0 _ _ _).led) c.in_ok-h.ensures.upper_bound in
    let words_at = open_on opened_at (λ room. (c.in_ok-n.ensures.leads room 0 _ _ _ _ (λ p n. pure p)).led) in
    (down_3 _ t c.decreases, ((inside _ _).0, (inside _ 0).1, c.requires.0, λ e. refl, words_at.held))

pub read_hash-returns-in_err-d : goal.read_hash-returns-in_err-d
unfolding D.read_hash
read_hash-returns-in_err-d t c =
    let h = c.in_ok-h.h in
    let n = c.in_ok-n.n in
    let q = c.in_ok-n.ensures.upper_bound in rw (err_is c.from_residual-in_err-d.result c.from_residual-in_err-d.ensures.1) (record {
      meets = λ room limit.
          let name = read_symbol_like c.args.input.now room in
          let inner = D.read_value c.args.input.now room limit c.args.levels in
          lead_after (lead_first _ (c.in_ok-h.ensures.by_index _ room limit _ _ _)).led
          (contained_stops name inner (hash_of name inner h c.args.more c.args.class) 2 2 c.args.more n _ _ _ (hash_rest name inner h _ n c.args.more c.args.class c.requires.0) refl q.1 (c.in_ok-n.ensures.leads room limit _ _ _ _ _) (c.in_err-d.ensures.meets room limit));
      upper_bound = tt;
    })

pub read_hash-overflow_cast-start : goal.read_hash-overflow_cast-start
read_hash-overflow_cast-start t c =
    let opened_at = opened c.requires.1 (λ room. (c.in_ok-h.ensures.by_index _ room 0 _ _ _).led) c.in_ok-h.ensures.upper_bound in
    let words_at = open_on opened_at (λ room. (c.in_ok-n.ensures.leads room 0 _ _ _ _ (λ p n. pure p)).led) in
    let H = words_at.held.holds in
    omega (arith, c.in_ok-n.ensures.upper_bound.1, H.counted.count_references, H.laid.references.fits, H.fixed.small.references)

pub read_hash-overflow_cast-more : goal.read_hash-overflow_cast-more
read_hash-overflow_cast-more t c =
    omega (arith, c.requires.0)

pub read_hash-overflow_add-d : goal.read_hash-overflow_add-d
read_hash-overflow_add-d t c =
    let opened_at = opened c.requires.1 (λ room. (c.in_ok-h.ensures.by_index _ room 0 _ _ _).led) c.in_ok-h.ensures.upper_bound in
    let words_at = open_on opened_at (λ room. (c.in_ok-n.ensures.leads room 0 _ _ _ _ (λ p n. pure p)).led) in
    let members_at = open_on words_at (λ room. (c.in_ok-d.ensures.meets room 0).led) in
    let O = members_at in
    let d = c.in_ok-d.ensures.value in
    default_fits _ _ _ c.requires.0 d.0 (λ e. (d.1 e).0) (nodes_few O.held)

pub read_hash-fill_node-requires : goal.read_hash-fill_node-requires
read_hash-fill_node-requires t c =
    let opened_at = opened c.requires.1 (λ room. (c.in_ok-h.ensures.by_index _ room 0 _ _ _).led) c.in_ok-h.ensures.upper_bound in
    let words_at = open_on opened_at (λ room. (c.in_ok-n.ensures.leads room 0 _ _ _ _ (λ p n. pure p)).led) in
    let members_at = open_on words_at (λ room. (c.in_ok-d.ensures.meets room 0).led) in
    let O = members_at in
    slot_room O.held O.below

pub read_hash-returns : goal.read_hash-returns
unfolding D.read_hash kind words
read_hash-returns t c =
    let opened_at = opened c.requires.1 (λ room. (c.in_ok-h.ensures.by_index _ room 0 _ _ _).led) c.in_ok-h.ensures.upper_bound in
    let words_at = open_on opened_at (λ room. (c.in_ok-n.ensures.leads room 0 _ _ _ _ (λ p n. pure p)).led) in
    let members_at = open_on words_at (λ room. (c.in_ok-d.ensures.meets room 0).led) in
    let O = members_at in
    let h = c.in_ok-h.h in
    let n = c.in_ok-n.n in
    let q = c.in_ok-n.ensures.upper_bound in record {
      meets = λ room limit.
          let name = read_symbol_like c.args.input.now room in
          let inner = D.read_value c.args.input.now room limit c.args.levels in
          lead_after (lead_first _ (c.in_ok-h.ensures.by_index _ room limit _ _ _)).led
          (contained name inner (hash_of name inner h c.args.more c.args.class) 2 2 c.args.more n _ _ _ (hash_rest name inner h _ n c.args.more c.args.class c.requires.0) refl q.1 (c.in_ok-n.ensures.leads room limit _ _ _ _ _) (c.in_ok-d.ensures.meets room limit)
          (given (c.fill_node.ensures _ room (hash _ n (c.in_ok-d.d + c.args.more) c.args.class) _ _ _ _ _ refl (other_kind (hash 0 0 0 0) refl) O.below (λ _. O.free tt))));
      upper_bound = (O.below, c.in_ok-h.ensures.upper_bound.0.1);
    }

pub read_inner-read_leaf-requires : goal.read_inner-read_leaf-requires
read_inner-read_leaf-requires t c =
    (_, held_goes {m = λ room. read_byte _} {m' = λ room. _} c.requires (λ room. byte_goes c.if-at-input.true))

pub read_inner-returns-then-input-at-eq-STRING : goal.read_inner-returns-then-input-at-eq-STRING
unfolding head pick valued
read_inner-returns-then-input-at-eq-STRING t c =
    let c-read-leaf = c.read_leaf in
    let c-args = c.args in
    let some : c-args.levels ≡ 0 → ⊥ = omega (arith, c.if-levels-gt0.true) in record {
      meets = λ room limit.
          lead_after (after_takes _ (takes_string c.if-input-at-eq-STRING.true))
          (lead_after (goes_to (ap (λ (x : ℕ). value_of c-args.input.now room (D.read_value c-args.input.now room limit (c-args.levels - 1)) x (head x)) c.if-input-at-eq-STRING.true) (kind_read limit c-args.levels some c.if-at-input.true))
          (c-read-leaf.ensures.meets room limit (D.read_value c-args.input.now room limit (c-args.levels - 1)) _ string_leaf (inl refl)));
      upper_bound = c-read-leaf.ensures.upper_bound;
    }

pub read_inner-note_inner-requires : goal.read_inner-note_inner-requires
read_inner-note_inner-requires t c =
    record { tables = _; held = c.requires }

pub read_inner-read_members-requires : goal.read_inner-read_members-requires
read_inner-read_members-requires t c =
    let H = held_goes {m = λ room. after_i c.args.input.now (pure 0)} {m' = λ room. pure 0} c.requires (λ room. c.note_inner.ensures room _ (pure 0)) in
    (down_2 _ t c.decreases, (omega arith, omega arith, omega arith, λ e. refl, H))

pub read_inner-returns : goal.read_inner-returns
read_inner-returns t c =
    let c-args = c.args in
    let k = c.read_members.ensures in record {
      meets = λ room limit.
          let inner = D.read_value c-args.input.now room limit c-args.levels in
          lead_after (c.note_inner.ensures room _ inner) (lead_as (sym (after_members (read_symbol_like c-args.input.now room) inner 2 0)) (k.meets room limit));
      upper_bound = IfOk-weaker c.read_members.result _ _ (λ v q. q.1 refl) k.value;
    }

pub read_members-loop-to-init : goal.read_members-loop-to-init
read_members-loop-to-init t c =
    let p = c.requires in
    turning_start p.0 p.1 p.4

pub read_members-overflow_add-end : goal.read_members-overflow_add-end
read_members-overflow_add-end t c =
    let R = c.loop-to.invariant in
    let H = R.held.holds in
    record { fits = omega (arith, c.requires.2, R.inside, H.counted.count_references, H.laid.references.fits, H.fixed.small.references) }

pub read_members-read_run-next-requires : goal.read_members-read_run-next-requires
read_members-read_run-next-requires t c =
    let R = c.loop-to.invariant in
    (R.within, R.inside, (_, _, _, R.held))

pub read_members-loop-to-smaller-then-to-next : goal.read_members-loop-to-smaller-then-to-next
read_members-loop-to-smaller-then-to-next t c =
    omega (arith, c.if-to-next.true, c.read_run-next.ensures.lower_bound.1)

pub read_members-loop-to-preserved-then-to-next : goal.read_members-loop-to-preserved-then-to-next
read_members-loop-to-preserved-then-to-next t c =
    let c-read-run = c.read_run-next in
    let R = c.loop-to.invariant in
    let k = c-read-run.ensures in
    turned R c-read-run.result k.lower_bound.1 c-read-run.auto.nodes c-read-run.auto.references refl refl refl refl (λ room limit. k.goes room limit _ _ _)

pub read_members-read_symbol_like-requires : goal.read_members-read_symbol_like-requires
read_members-read_symbol_like-requires t c =
    let run_none = let r = c.read_run-next in let k = r.ensures in let same : r.result ≡ c.loop-to.to = omega (arith, k.lower_bound.0, c.if-to-next.false) in come_to (turned c.loop-to.invariant r.result k.lower_bound.1 r.auto.nodes r.auto.references refl refl refl refl (λ room limit. k.goes room limit _ _ _)) same in
    let S = run_none in
    (_, _, S.held)

pub read_members-returns-in_err-name : goal.read_members-returns-in_err-name
read_members-returns-in_err-name t c =
    let run_none = let r = c.read_run-next in let k = r.ensures in let same : r.result ≡ c.loop-to.to = omega (arith, k.lower_bound.0, c.if-to-next.false) in come_to (turned c.loop-to.invariant r.result k.lower_bound.1 r.auto.nodes r.auto.references refl refl refl refl (λ room limit. k.goes room limit _ _ _)) same in
    let c-if2 = c.if-to-names in
    let S = run_none in
    let lt = named_below _ _ _ _ c.requires.2 c.requires.3 c.loop-to-test.true c-if2.true in
    rw (err_is c.from_residual.result c.from_residual.ensures.1) (record { meets = λ room limit. name_stop S c.args.more room limit lt c-if2.true (c.in_err-name.ensures.meets room limit _ _); value = tt })

pub read_members-bounds-references-to : goal.read_members-bounds-references-to
read_members-bounds-references-to t c =
    let run_none = let r = c.read_run-next in let k = r.ensures in let same : r.result ≡ c.loop-to.to = omega (arith, k.lower_bound.0, c.if-to-next.false) in come_to (turned c.loop-to.invariant r.result k.lower_bound.1 r.auto.nodes r.auto.references refl refl refl refl (λ room limit. k.goes room limit _ _ _)) same in
    let S = run_none in
    let lt = named_below _ _ _ _ c.requires.2 c.requires.3 c.loop-to-test.true c.if-to-names.true in
    let H = S.held.holds in
    omega (arith, lt, S.inside, H.counted.count_references, H.laid.references.fits, H.laid.references.sized)

pub read_members-loop-to-preserved-then-to-names : goal.read_members-loop-to-preserved-then-to-names
read_members-loop-to-preserved-then-to-names t c =
    let run_none = let r = c.read_run-next in let k = r.ensures in let same : r.result ≡ c.loop-to.to = omega (arith, k.lower_bound.0, c.if-to-next.false) in come_to (turned c.loop-to.invariant r.result k.lower_bound.1 r.auto.nodes r.auto.references refl refl refl refl (λ room limit. k.goes room limit _ _ _)) same in
    let k = c.read_symbol_like.auto in
    let c-if2 = c.if-to-names in
    let S = run_none in
    let lt = named_below _ _ _ _ c.requires.2 c.requires.3 c.loop-to-test.true c-if2.true in
    name_turned S lt k.nodes refl k.bytes k.symbols k.buckets refl c-if2.true (λ room limit. c.in_ok-name.ensures.meets room limit _ _)

pub read_members-read_value-requires : goal.read_members-read_value-requires
read_members-read_value-requires t c =
    let run_none = let r = c.read_run-next in let k = r.ensures in let same : r.result ≡ c.loop-to.to = omega (arith, k.lower_bound.0, c.if-to-next.false) in come_to (turned c.loop-to.invariant r.result k.lower_bound.1 r.auto.nodes r.auto.references refl refl refl refl (λ room limit. k.goes room limit _ _ _)) same in
    let S = run_none in
    (down_1 _ t c.decreases, S.held)

pub read_members-returns-in_err-v : goal.read_members-returns-in_err-v
read_members-returns-in_err-v t c =
    let run_none = let r = c.read_run-next in let k = r.ensures in let same : r.result ≡ c.loop-to.to = omega (arith, k.lower_bound.0, c.if-to-next.false) in come_to (turned c.loop-to.invariant r.result k.lower_bound.1 r.auto.nodes r.auto.references refl refl refl refl (λ room limit. k.goes room limit _ _ _)) same in
    let S = run_none in
    rw (err_is c.from_residual-in_err-v.result c.from_residual-in_err-v.ensures.1) (record { meets = λ room limit. value_stop S c.args.more c.loop-to-test.true c.requires.2 room limit c.if-to-names.false (c.in_err-v.ensures.meets room limit); value = tt })

pub read_members-returns-then-to-end : goal.read_members-returns-then-to-end
read_members-returns-then-to-end t c =
    let run_none = let r = c.read_run-next in let k = r.ensures in let same : r.result ≡ c.loop-to.to = omega (arith, k.lower_bound.0, c.if-to-next.false) in come_to (turned c.loop-to.invariant r.result k.lower_bound.1 r.auto.nodes r.auto.references refl refl refl refl (λ room limit. k.goes room limit _ _ _)) same in
    let c-if5 = c.if-to-end in
    let c-loop-test = c.loop-to-test in
    let c-args = c.args in
    let S = run_none in
    let one : c-args.more ≡ 0 → ⊥ = omega (arith, c-loop-test.true, c-if5.true) in
    record { meets = λ room limit. value_last S c-args.more c-loop-test.true c.requires.2 c-if5.true room limit (c.in_ok-v.ensures.meets room limit); value = (λ e. absurd (one e), λ e. c.in_ok-v.ensures.upper_bound) }

pub read_members-offset_bounds-references-to-in-loop-to : goal.read_members-offset_bounds-references-to-in-loop-to
read_members-offset_bounds-references-to-in-loop-to t c =
    let R = c.loop-to.invariant in
    let H = R.held.holds in
    record { fits = omega (arith, R.within, R.inside, H.counted.count_references, H.laid.references.fits, H.fixed.small.references) }

pub read_members-bounds-references-to-in-loop-to : goal.read_members-bounds-references-to-in-loop-to
read_members-bounds-references-to-in-loop-to t c =
    let run_none = let r = c.read_run-next in let k = r.ensures in let same : r.result ≡ c.loop-to.to = omega (arith, k.lower_bound.0, c.if-to-next.false) in come_to (turned c.loop-to.invariant r.result k.lower_bound.1 r.auto.nodes r.auto.references refl refl refl refl (λ room limit. k.goes room limit _ _ _)) same in
    let S = run_none in
    let v = held {m = λ room. D.read_value _ room 0 _} {m' = λ room. _} S.held (λ room. c.in_ok-v.ensures.meets room 0) in
    let w = grew {m = λ room. D.read_value _ room 0 _} {m' = λ room. _} S.held (λ room. c.in_ok-v.ensures.meets room 0) in
    let H = v.holds in
    omega (arith, c.if-to-end.false, S.within, S.inside, w.references, H.counted.count_references, H.laid.references.fits, H.laid.references.sized)

pub read_members-overflow_add-to-in-loop-to : goal.read_members-overflow_add-to-in-loop-to
read_members-overflow_add-to-in-loop-to t c =
    let R = c.loop-to.invariant in
    let H = R.held.holds in
    record { fits = omega (arith, R.within, R.inside, H.counted.count_references, H.laid.references.fits, H.fixed.small.references) }

pub read_members-loop-to-preserved : goal.read_members-loop-to-preserved
read_members-loop-to-preserved t c =
    let run_none = let r = c.read_run-next in let k = r.ensures in let same : r.result ≡ c.loop-to.to = omega (arith, k.lower_bound.0, c.if-to-next.false) in come_to (turned c.loop-to.invariant r.result k.lower_bound.1 r.auto.nodes r.auto.references refl refl refl refl (λ room limit. k.goes room limit _ _ _)) same in
    let c-read-run = c.read_run-next in
    let c-loop = c.loop-to in
    let S = run_none in
    let lt : c-loop.to < c.args.end = omega (arith, c.if-to-end.false, S.within) in
    let k = c.read_value.auto in
    value_turned S lt k.nodes k.references k.bytes k.symbols k.buckets k.objects c.if-to-names.false (λ room limit. c.in_ok-v.ensures.meets room limit)

pub read_members-returns : goal.read_members-returns
read_members-returns t c =
    let c-loop-test = c.loop-to-test in
    let c-loop = c.loop-to in
    record { meets = λ room limit. all_turned c-loop.invariant c.args.more c-loop-test.false room limit; value = (λ e. refl, λ e. absurd (omega (arith, e, c-loop-test.false, c-loop.invariant.within))) }

pub read_object-open_node-requires : goal.read_object-open_node-requires
read_object-open_node-requires t c =
    (nodes_small c.requires, space_fits c.requires)

pub read_object-returns-in_err-h : goal.read_object-returns-in_err-h
unfolding D.read_object read_instance_variables
read_object-returns-in_err-h t c =
    rw (err_is c.from_residual.result c.from_residual.ensures.1) (record { meets = λ room limit. lead_stop (lead_first _ (c.in_err-h.ensures.by_index _ room limit _ _ _)); upper_bound = tt })

pub read_object-read_symbol_like-requires : goal.read_object-read_symbol_like-requires
read_object-read_symbol_like-requires t c =
    let opened_at = opened c.requires (λ room. (c.in_ok-h.ensures.by_index _ room 0 _ _ _).led) c.in_ok-h.ensures.upper_bound in
    (_, _, opened_at.held)

pub read_object-returns-in_err-name : goal.read_object-returns-in_err-name
unfolding D.read_object read_instance_variables
read_object-returns-in_err-name t c =
    rw (err_is c.from_residual-in_err-name.result c.from_residual-in_err-name.ensures.1) (record { meets = λ room limit. lead_after (lead_first _ (c.in_ok-h.ensures.by_index _ room limit _ _ _)).led (lead_stop (lead_first _ (c.in_err-name.ensures.meets room limit _ _))); upper_bound = tt })

pub read_object-read_words-requires : goal.read_object-read_words-requires
read_object-read_words-requires t c =
    let opened_at = opened c.requires (λ room. (c.in_ok-h.ensures.by_index _ room 0 _ _ _).led) c.in_ok-h.ensures.upper_bound in
    let named_at = open_on opened_at (λ room. (c.in_ok-name.ensures.meets room 0 _ _).led) in
    (omega arith, (_, _, _, _, named_at.held))

pub read_object-returns-in_err-n : goal.read_object-returns-in_err-n
unfolding D.read_object read_instance_variables
read_object-returns-in_err-n t c =
    rw (err_is c.from_residual-in_err-n.result c.from_residual-in_err-n.ensures.1) (record {
      meets = λ room limit. lead_after (lead_first _ (c.in_ok-h.ensures.by_index _ room limit _ _ _)).led
          (lead_after (lead_first _ (c.in_ok-name.ensures.meets room limit _ _)).led
          (lead_stop (c.in_err-n.ensures.leads room limit _ _ _ _ _)));
      upper_bound = tt;
    })

pub read_object-overflow_sub-start : goal.read_object-overflow_sub-start
read_object-overflow_sub-start t c =
    omega (arith, c.in_ok-n.ensures.upper_bound)

pub read_object-read_members-requires : goal.read_object-read_members-requires
read_object-read_members-requires t c =
    let opened_at = opened c.requires (λ room. (c.in_ok-h.ensures.by_index _ room 0 _ _ _).led) c.in_ok-h.ensures.upper_bound in
    let named_at = open_on opened_at (λ room. (c.in_ok-name.ensures.meets room 0 _ _).led) in
    let words_at = open_on named_at (λ room. (c.in_ok-n.ensures.leads room 0 _ _ _ _ (λ p n. pure p)).led) in
    (down_3 _ t c.decreases, ((inside _ _).0, (inside _ 0).1, no_more, names_any _, words_at.held))

pub read_object-returns-in_err-read_members : goal.read_object-returns-in_err-read_members
unfolding D.read_object read_instance_variables
read_object-returns-in_err-read_members t c =
    let h = c.in_ok-h.h in
    let w = c.in_ok-name.name in
    let n = c.in_ok-n.n in
    let q = c.in_ok-n.ensures.upper_bound in rw (err_is c.from_residual-in_err-read_members.result c.from_residual-in_err-read_members.ensures.1) (record {
      meets = λ room limit.
          let name = read_symbol_like c.args.input.now room in
          let inner = D.read_value c.args.input.now room limit c.args.levels in
          lead_after (lead_first _ (c.in_ok-h.ensures.by_index _ room limit _ _ _)).led
          (lead_after (lead_first _ (c.in_ok-name.ensures.meets room limit _ _)).led
          (contained_stops name inner (object_of name inner h w) 2 _ 0 n _ _ _ (object_rest name inner h _ n _ w (list_parity _ n q.1)) refl q.1 (c.in_ok-n.ensures.leads room limit _ _ _ _ _) (c.in_err-read_members.ensures.meets room limit)));
      upper_bound = tt;
    })

pub read_object-overflow_cast-start : goal.read_object-overflow_cast-start
read_object-overflow_cast-start t c =
    let opened_at = opened c.requires (λ room. (c.in_ok-h.ensures.by_index _ room 0 _ _ _).led) c.in_ok-h.ensures.upper_bound in
    let named_at = open_on opened_at (λ room. (c.in_ok-name.ensures.meets room 0 _ _).led) in
    let words_at = open_on named_at (λ room. (c.in_ok-n.ensures.leads room 0 _ _ _ _ (λ p n. pure p)).led) in
    let H = words_at.held.holds in
    omega (arith, c.in_ok-n.ensures.upper_bound.1, H.counted.count_references, H.laid.references.fits, H.fixed.small.references)

pub read_object-fill_node-requires : goal.read_object-fill_node-requires
read_object-fill_node-requires t c =
    let opened_at = opened c.requires (λ room. (c.in_ok-h.ensures.by_index _ room 0 _ _ _).led) c.in_ok-h.ensures.upper_bound in
    let named_at = open_on opened_at (λ room. (c.in_ok-name.ensures.meets room 0 _ _).led) in
    let words_at = open_on named_at (λ room. (c.in_ok-n.ensures.leads room 0 _ _ _ _ (λ p n. pure p)).led) in
    let members_at = open_on words_at (λ room. (c.in_ok-read_members.ensures.meets room 0).led) in
    let O = members_at in
    slot_room O.held O.below

pub read_object-returns : goal.read_object-returns
unfolding D.read_object read_instance_variables kind words
read_object-returns t c =
    let opened_at = opened c.requires (λ room. (c.in_ok-h.ensures.by_index _ room 0 _ _ _).led) c.in_ok-h.ensures.upper_bound in
    let named_at = open_on opened_at (λ room. (c.in_ok-name.ensures.meets room 0 _ _).led) in
    let words_at = open_on named_at (λ room. (c.in_ok-n.ensures.leads room 0 _ _ _ _ (λ p n. pure p)).led) in
    let members_at = open_on words_at (λ room. (c.in_ok-read_members.ensures.meets room 0).led) in
    let O = members_at in
    let h = c.in_ok-h.h in
    let w = c.in_ok-name.name in
    let n = c.in_ok-n.n in
    let q = c.in_ok-n.ensures.upper_bound in record {
      meets = λ room limit.
          let name = read_symbol_like c.args.input.now room in
          let inner = D.read_value c.args.input.now room limit c.args.levels in
          lead_after (lead_first _ (c.in_ok-h.ensures.by_index _ room limit _ _ _)).led
          (lead_after (lead_first _ (c.in_ok-name.ensures.meets room limit _ _)).led
          (contained name inner (object_of name inner h w) 2 _ 0 n _ _ _ (object_rest name inner h _ n _ w (list_parity _ n q.1)) refl q.1 (c.in_ok-n.ensures.leads room limit _ _ _ _ _) (c.in_ok-read_members.ensures.meets room limit)
          (given (c.fill_node.ensures _ room (object _ n w) _ _ _ _ _ refl (other_kind (object 0 0 0) refl) O.below (λ _. O.free tt)))));
      upper_bound = (O.below, c.in_ok-h.ensures.upper_bound.0.1);
    }

pub read_value-returns-then-levels-eq0 : goal.read_value-returns-then-levels-eq0
read_value-returns-then-levels-eq0 t c =
    record { meets = λ room limit. level_missing limit c.args.levels c.if-levels-eq0.true; upper_bound = tt }

pub read_value-read_class-requires : goal.read_value-read_class-requires
read_value-read_class-requires t c =
    (_, _, c.requires)

pub read_value-returns-in_err-class : goal.read_value-returns-in_err-class
read_value-returns-in_err-class t c =
    let k = c.in_err-class.ensures in
    rw (err_is c.from_residual.result c.from_residual.ensures.1) (record { meets = λ room limit. class_refused c.args.levels c.if-levels-eq0.false (k.meets room limit _ _); upper_bound = tt })

pub read_value-returns-then-input-at : goal.read_value-returns-then-input-at
read_value-returns-then-input-at t c =
    let k = c.in_ok-class.ensures in
    record { meets = λ room limit. no_kind c.args.levels c.if-levels-eq0.false (k.meets room limit _ _) c.if-input-at.true; upper_bound = tt }

pub read_value-read_array-requires : goal.read_value-read_array-requires
read_value-read_array-requires t c =
    let k = c.in_ok-class.ensures in
    let H = kind_held c.requires (λ room. k.meets room 0 _ _) c.if-input-at.false in
    (down_0 _ t c.if-levels-eq0.false c.decreases, H)

pub read_value-read_hash-requires : goal.read_value-read_hash-requires
read_value-read_hash-requires t c =
    let k = c.in_ok-class.ensures in
    let H = kind_held c.requires (λ room. k.meets room 0 _ _) c.if-input-at.false in
    (down_0 _ t c.if-levels-eq0.false c.decreases, (defaults_one c.in-123.is c.defaults.ensures.0 c.defaults.ensures.1, H))

pub read_value-read_object-requires : goal.read_value-read_object-requires
read_value-read_object-requires t c =
    let k = c.in_ok-class.ensures in
    let H = kind_held c.requires (λ room. k.meets room 0 _ _) c.if-input-at.false in
    (down_0 _ t c.if-levels-eq0.false c.decreases, H)

pub read_value-read_variables-requires : goal.read_value-read_variables-requires
read_value-read_variables-requires t c =
    let k = c.in_ok-class.ensures in
    let H = kind_held c.requires (λ room. k.meets room 0 _ _) c.if-input-at.false in
    (down_0 _ t c.if-levels-eq0.false c.decreases, H)

pub read_value-read_leaf-requires : goal.read_value-read_leaf-requires
read_value-read_leaf-requires t c =
    let k = c.in_ok-class.ensures in
    let H = kind_held c.requires (λ room. k.meets room 0 _ _) c.if-input-at.false in
    (_, H)

pub read_value-returns-in-91 : goal.read_value-returns-in-91
read_value-returns-in-91 t c =
    let a = c.args in
    let k = c.in_ok-class.ensures in record {
      meets = λ room limit.
          let inner = D.read_value a.input.now room limit (a.levels - 1) in
          lead_after (kind_led a.levels c.if-levels-eq0.false (k.meets room limit _ _) c.if-input-at.false)
          (lead_as (array_valued a.input.now room inner _ c.in-91.is) (c.read_array.ensures.meets room limit));
      upper_bound = c.read_array.ensures.upper_bound;
    }

pub read_value-returns-in-123 : goal.read_value-returns-in-123
read_value-returns-in-123 t c =
    let a = c.args in
    let k = c.in_ok-class.ensures in record {
      meets = λ room limit.
          let inner = D.read_value a.input.now room limit (a.levels - 1) in
          lead_after (kind_led a.levels c.if-levels-eq0.false (k.meets room limit _ _) c.if-input-at.false)
          (hash_headed c.in-123.is c.defaults.ensures.0 c.defaults.ensures.1 inner _ (c.read_hash.ensures.meets room limit));
      upper_bound = c.read_hash.ensures.upper_bound;
    }

pub read_value-returns-in-111 : goal.read_value-returns-in-111
unfolding head pick value_of wrappable
read_value-returns-in-111 t c =
    let a = c.args in
    let k = c.in_ok-class.ensures in record {
      meets = λ room limit.
          let inner = D.read_value a.input.now room limit (a.levels - 1) in
          lead_after (kind_led a.levels c.if-levels-eq0.false (k.meets room limit _ _) c.if-input-at.false)
          (lead_as (none_valued a.input.now room inner _ k.follows.0 c.in-111.is refl) (c.read_object.ensures.meets room limit));
      upper_bound = c.read_object.ensures.upper_bound;
    }

pub read_value-returns-in-73 : goal.read_value-returns-in-73
unfolding head pick value_of wrappable
read_value-returns-in-73 t c =
    let a = c.args in
    let k = c.in_ok-class.ensures in record {
      meets = λ room limit.
          let inner = D.read_value a.input.now room limit (a.levels - 1) in
          lead_after (kind_led a.levels c.if-levels-eq0.false (k.meets room limit _ _) c.if-input-at.false)
          (lead_as (none_valued a.input.now room inner _ k.follows.0 c.in-73.is refl) (c.read_variables.ensures.meets room limit));
      upper_bound = c.read_variables.ensures.upper_bound;
    }

pub read_value-returns-in_default : goal.read_value-returns-in_default
read_value-returns-in_default t c =
    let a = c.args in
    let k = c.in_ok-class.ensures in record {
      meets = λ room limit.
          let inner = D.read_value a.input.now room limit (a.levels - 1) in
          lead_after (kind_led a.levels c.if-levels-eq0.false (k.meets room limit _ _) c.if-input-at.false)
          (let o = c.in_default.in_default-own.rest in
          let n = leaf_kind _ _ k.follows.0 o.0.0.0.1 o.0.0.1 o.0.1 o.1 in
          c.read_leaf.ensures.meets room limit inner _ n.0 n.1);
      upper_bound = c.read_leaf.ensures.upper_bound;
    }

pub read_variables-read_inner-requires : goal.read_variables-read_inner-requires
read_variables-read_inner-requires t c =
    (down_inner _ t c.decreases, c.requires)

pub read_variables-returns-in_err-h : goal.read_variables-returns-in_err-h
read_variables-returns-in_err-h t c =
    let a = c.args in
    rw (err_is c.from_residual.result c.from_residual.ensures.1) (record { meets = λ room limit. lead_as (variables_after a.input.now room (D.read_value a.input.now room limit a.levels)) (lead_stop (lead_first _ (c.in_err-h.ensures.meets room limit))); upper_bound = tt })

pub read_variables-read_words-requires : goal.read_variables-read_words-requires
read_variables-read_words-requires t c =
    let opened_at = opened_value c.requires (λ room. (c.in_ok-h.ensures.meets room 0).led) c.in_ok-h.ensures.upper_bound in
    (omega arith, (_, _, _, _, opened_at.held))

pub read_variables-returns-in_err-n : goal.read_variables-returns-in_err-n
unfolding read_instance_variables
read_variables-returns-in_err-n t c =
    let a = c.args in
    rw (err_is c.from_residual-in_err-n.result c.from_residual-in_err-n.ensures.1) (record { meets = λ room limit. lead_as (variables_after a.input.now room (D.read_value a.input.now room limit a.levels)) (lead_after (lead_first _ (c.in_ok-h.ensures.meets room limit)).led (lead_stop (c.in_err-n.ensures.leads room limit _ _ _ _ _))); upper_bound = tt })

pub read_variables-overflow_sub-start : goal.read_variables-overflow_sub-start
read_variables-overflow_sub-start t c =
    omega (arith, c.in_ok-n.ensures.upper_bound)

pub read_variables-read_members-requires : goal.read_variables-read_members-requires
read_variables-read_members-requires t c =
    let opened_at = opened_value c.requires (λ room. (c.in_ok-h.ensures.meets room 0).led) c.in_ok-h.ensures.upper_bound in
    let words_at = open_on opened_at (λ room. (c.in_ok-n.ensures.leads room 0 _ _ _ _ (λ p n. pure p)).led) in
    (down_3 _ t c.decreases, ((inside _ _).0, (inside _ 0).1, no_more, names_any _, words_at.held))

pub read_variables-returns-in_err-read_members : goal.read_variables-returns-in_err-read_members
unfolding read_instance_variables
read_variables-returns-in_err-read_members t c =
    let h = c.in_ok-h.h in
    let n = c.in_ok-n.n in
    let q = c.in_ok-n.ensures.upper_bound in rw (err_is c.from_residual-in_err-read_members.result c.from_residual-in_err-read_members.ensures.1) (record {
      meets = λ room limit.
          let name = read_symbol_like c.args.input.now room in
          let inner = D.read_value c.args.input.now room limit c.args.levels in
          lead_as (variables_after c.args.input.now room inner)
          (lead_after (lead_first _ (c.in_ok-h.ensures.meets room limit)).led
          (contained_stops name inner (variables_of name inner h) 2 _ 0 n _ _ _ (variables_rest name inner h _ n _ (list_parity _ n q.1)) refl q.1 (c.in_ok-n.ensures.leads room limit _ _ _ _ _) (c.in_err-read_members.ensures.meets room limit)));
      upper_bound = tt;
    })

pub read_variables-overflow_cast-start : goal.read_variables-overflow_cast-start
read_variables-overflow_cast-start t c =
    let opened_at = opened_value c.requires (λ room. (c.in_ok-h.ensures.meets room 0).led) c.in_ok-h.ensures.upper_bound in
    let words_at = open_on opened_at (λ room. (c.in_ok-n.ensures.leads room 0 _ _ _ _ (λ p n. pure p)).led) in
    let H = words_at.held.holds in
    omega (arith, c.in_ok-n.ensures.upper_bound.1, H.counted.count_references, H.laid.references.fits, H.fixed.small.references)

pub read_variables-set_variables-requires : goal.read_variables-set_variables-requires
read_variables-set_variables-requires t c =
    let opened_at = opened_value c.requires (λ room. (c.in_ok-h.ensures.meets room 0).led) c.in_ok-h.ensures.upper_bound in
    let words_at = open_on opened_at (λ room. (c.in_ok-n.ensures.leads room 0 _ _ _ _ (λ p n. pure p)).led) in
    let members_at = open_on words_at (λ room. (c.in_ok-read_members.ensures.meets room 0).led) in
    let O = members_at in
    slot_room O.held O.below

pub read_variables-returns : goal.read_variables-returns
unfolding read_instance_variables
read_variables-returns t c =
    let opened_at = opened_value c.requires (λ room. (c.in_ok-h.ensures.meets room 0).led) c.in_ok-h.ensures.upper_bound in
    let words_at = open_on opened_at (λ room. (c.in_ok-n.ensures.leads room 0 _ _ _ _ (λ p n. pure p)).led) in
    let members_at = open_on words_at (λ room. (c.in_ok-read_members.ensures.meets room 0).led) in
    let O = members_at in
    let h = c.in_ok-h.h in
    let n = c.in_ok-n.n in
    let q = c.in_ok-n.ensures.upper_bound in record {
      meets = λ room limit.
          let name = read_symbol_like c.args.input.now room in
          let inner = D.read_value c.args.input.now room limit c.args.levels in
          lead_as (variables_after c.args.input.now room inner)
          (lead_after (lead_first _ (c.in_ok-h.ensures.meets room limit)).led
          (contained name inner (variables_of name inner h) 2 _ 0 n _ _ _ (variables_rest name inner h _ n _ (list_parity _ n q.1)) refl q.1 (c.in_ok-n.ensures.leads room limit _ _ _ _ _) (c.in_ok-read_members.ensures.meets room limit)
          (c.set_variables.ensures.by_index _ room limit _ _ _ _ _ O.below)));
      upper_bound = IfOk-weaker c.set_variables.result _ _ (λ v q. (omega (arith, q, O.below), omega (arith, q, c.in_ok-h.ensures.upper_bound))) c.set_variables.ensures.value;
    }
