-- The proof of put_node.
use native.Mathlib.Omega.{arith}
use native.Mathlib.Numerals.{towards_suc}
use lib.ListN.{length-set}
use Rattle.store.proofs.put_node.Goals as goal

pub bounds-nodes-base-2 : goal.bounds-nodes-base-2
bounds-nodes-base-2 c =
    simp length-set (omega arith)

pub bounds-nodes-base-3 : goal.bounds-nodes-base-3
bounds-nodes-base-3 c =
    simp length-set (omega arith)

pub bounds-nodes-base-4 : goal.bounds-nodes-base-4
bounds-nodes-base-4 c =
    simp length-set (omega arith)

pub bounds-nodes-base-5 : goal.bounds-nodes-base-5
bounds-nodes-base-5 c =
    simp length-set (omega arith)

pub bounds-nodes-base-6 : goal.bounds-nodes-base-6
bounds-nodes-base-6 c =
    simp length-set (omega arith)

pub bounds-nodes-base-7 : goal.bounds-nodes-base-7
bounds-nodes-base-7 c =
    simp length-set (omega arith)

pub bounds-nodes-base-8 : goal.bounds-nodes-base-8
bounds-nodes-base-8 c =
    simp length-set (omega arith)

pub returns : goal.returns
returns c =
    simp towards_suc
