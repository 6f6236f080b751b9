-- The proof of read_leaf.
use native.Mathlib.Omega.{arith}
use mathlib.Core.Bool.{true, false}
use mathlib.Core.Path.{refl, ap}
use mathlib.Core.Logic.{inl}
use Rattle.definition.specs.Run.{pick}
use Rattle.definition.specs.Node.{nil, bool, words, kind}
use Rattle.definition.specs.Load.{head, value_of, Nil, True, False, Fixnum, Symbol, SymbolLink, ObjectLink, UserDefined, Bignum, Unknown}
use Rattle.definition.specs.declared.Refusal.TheVariants.{InvalidKind}
use Rattle.std.proofs.lemmas.Result.{IfOk-weaker}
use Rattle.load_state.specs.Laws.{refuses}
use Rattle.input_reader.proofs.Heads.{headed}
use Rattle.leaf_reader.proofs.Leaves.{plain, other_byte, text_headed, other}
use Rattle.load_state.specs.Names.{nil_plain, other_kind}
use Rattle.leaf_reader.proofs.read_leaf.Goals as goal

pub returns-in-105 : goal.returns-in-105
unfolding head pick value_of
returns-in-105 c =
    let c-read-fixnum = c.read_fixnum in
    record { meets = λ room limit inner re l u. plain inner u (other_byte c.in-105.is (omega arith)) (headed inner c.args.k Fixnum (ap head c.in-105.is) (c-read-fixnum.ensures.meets room limit _ _ _ _)); upper_bound = c-read-fixnum.ensures.upper_bound }

pub returns-in-59 : goal.returns-in-59
unfolding head pick value_of
returns-in-59 c =
    let c-read-symbol-link = c.read_symbol_link in
    record { meets = λ room limit inner re l u. plain inner u (other_byte c.in-59.is (omega arith)) (headed inner c.args.k SymbolLink (ap head c.in-59.is) (c-read-symbol-link.ensures.meets room limit _ _ _ _ _)); upper_bound = c-read-symbol-link.ensures.upper_bound }

pub returns-in-34 : goal.returns-in-34
returns-in-34 c =
    let c-read-text = c.read_text in
    let c-text-kind = c.text_kind in
    record { meets = λ room limit inner re l u. text_headed inner _ u c.in-34.is c-text-kind.ensures.0 c-text-kind.ensures.1 (λ row. c-read-text.ensures.by_index room limit row _ _); upper_bound = c-read-text.ensures.upper_bound }

pub returns-in-58 : goal.returns-in-58
unfolding head pick value_of
returns-in-58 c =
    let c-read-symbol = c.read_symbol in
    record { meets = λ room limit inner re l u. plain inner u (other_byte c.in-58.is (omega arith)) (headed inner c.args.k Symbol (ap head c.in-58.is) (c-read-symbol.ensures.meets room limit _ _)); upper_bound = c-read-symbol.ensures.upper_bound }

pub returns-in-48 : goal.returns-in-48
unfolding head pick value_of kind words
returns-in-48 c =
    let k = c.add_node.ensures in
    record { meets = λ room limit inner re l u. plain inner u (other_byte c.in-48.is (omega arith)) (headed inner c.args.k Nil (ap head c.in-48.is) (k.by_index _ room limit nil _ _ _ _ refl nil_plain)); upper_bound = IfOk-weaker c.add_node.result _ _ (λ h q. q.0) k.upper_bound }

pub returns-in-84 : goal.returns-in-84
unfolding head pick value_of kind words
returns-in-84 c =
    let k = c.add_node-in-84.ensures in
    record { meets = λ room limit inner re l u. plain inner u (other_byte c.in-84.is (omega arith)) (headed inner c.args.k True (ap head c.in-84.is) (k.by_index _ room limit (bool true) _ _ _ _ refl (other_kind (bool true) refl))); upper_bound = IfOk-weaker c.add_node-in-84.result _ _ (λ h q. q.0) k.upper_bound }

pub returns-in-70 : goal.returns-in-70
unfolding head pick value_of kind words
returns-in-70 c =
    let k = c.add_node-in-70.ensures in
    record { meets = λ room limit inner re l u. plain inner u (other_byte c.in-70.is (omega arith)) (headed inner c.args.k False (ap head c.in-70.is) (k.by_index _ room limit (bool false) _ _ _ _ refl (other_kind (bool false) refl))); upper_bound = IfOk-weaker c.add_node-in-70.result _ _ (λ h q. q.0) k.upper_bound }

pub returns-in-64 : goal.returns-in-64
unfolding head pick value_of
returns-in-64 c =
    let c-read-object-link = c.read_object_link in
    record { meets = λ room limit inner re l u. plain inner u (other_byte c.in-64.is (omega arith)) (headed inner c.args.k ObjectLink (ap head c.in-64.is) (c-read-object-link.ensures.meets room limit _ _ _ _)); upper_bound = c-read-object-link.ensures.upper_bound }

pub returns-in-117 : goal.returns-in-117
unfolding head pick value_of
returns-in-117 c =
    let c-read-user-defined = c.read_user_defined in
    record { meets = λ room limit inner re l u. plain inner u (other_byte c.in-117.is (omega arith)) (headed inner c.args.k UserDefined (ap head c.in-117.is) (c-read-user-defined.ensures.meets room limit _)); upper_bound = c-read-user-defined.ensures.upper_bound }

pub returns-in-108 : goal.returns-in-108
unfolding head pick value_of
returns-in-108 c =
    let c-read-bignum = c.read_bignum in
    record { meets = λ room limit inner re l u. plain inner u (other_byte c.in-108.is (omega arith)) (headed inner c.args.k Bignum (ap head c.in-108.is) (c-read-bignum.ensures.meets room limit _ _ _)); upper_bound = c-read-bignum.ensures.upper_bound }

pub returns-in_default : goal.returns-in_default
unfolding value_of
returns-in_default c =
    let c-args = c.args in
    let r = c.in_default.in_default-own.rest in record {
      meets = λ room limit inner re l u.
          plain inner u (λ e. r.0.0.0.0.0.0.0.1 (inl e)) (headed inner c-args.k Unknown
          (other c-args.k l r.0.0.0.0.0.0.0.0.0.1 r.0.0.0.0.0.0.0.0.1 r.0.0.0.0.0.0.0.1 r.0.0.0.0.0.0.1
          r.0.0.0.0.0.1 r.0.0.0.0.1 r.0.0.0.1 r.0.0.1 r.0.1 r.1)
          (refuses (InvalidKind c-args.k) (c.invalid_kind.ensures limit)));
      upper_bound = tt;
    }
