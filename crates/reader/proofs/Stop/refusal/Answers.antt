-- The proof of refusal.
use mathlib.Core.Path.{refl}
use Rattle.definition.specs.Run.{pick}
use Rattle.reader.specs.Answers.{refusal_of, refusal_at, refusal_last}
use Rattle.reader.proofs.Stop.refusal.Goals as goal

pub returns-in-3 : goal.returns-in-3
unfolding refusal_at refusal_of pick
returns-in-3 c =
    let e = c.in-3.is in
    rw e refl

pub returns-in-4 : goal.returns-in-4
unfolding refusal_at refusal_of pick
returns-in-4 c =
    let e = c.in-4.is in
    rw e refl

pub returns-in-5 : goal.returns-in-5
unfolding refusal_at refusal_of pick
returns-in-5 c =
    let e = c.in-5.is in
    rw e refl

pub returns-in-6 : goal.returns-in-6
unfolding refusal_at refusal_of pick
returns-in-6 c =
    let e = c.in-6.is in
    rw e refl

pub returns-in-7 : goal.returns-in-7
unfolding refusal_at refusal_of pick
returns-in-7 c =
    let e = c.in-7.is in
    rw e refl

pub returns-in-8 : goal.returns-in-8
unfolding refusal_at refusal_of pick
returns-in-8 c =
    let e = c.in-8.is in
    rw e refl

pub returns-in-9 : goal.returns-in-9
unfolding refusal_at refusal_of pick
returns-in-9 c =
    let e = c.in-9.is in
    rw e refl

pub returns-in-10 : goal.returns-in-10
unfolding refusal_at refusal_of pick
returns-in-10 c =
    let e = c.in-10.is in
    rw e refl

pub returns-in-11 : goal.returns-in-11
unfolding refusal_at refusal_of pick
returns-in-11 c =
    let e = c.in-11.is in
    rw e refl

pub returns-in-15 : goal.returns-in-15
unfolding refusal_at refusal_of pick
returns-in-15 c =
    let e = c.in-15.is in
    rw e refl

pub returns-in-16 : goal.returns-in-16
unfolding refusal_at refusal_of pick
returns-in-16 c =
    let e = c.in-16.is in
    rw e refl

pub returns-in-19 : goal.returns-in-19
unfolding refusal_at refusal_of pick
returns-in-19 c =
    let e = c.in-19.is in
    rw e refl

pub returns-in-22 : goal.returns-in-22
unfolding refusal_at refusal_of pick
returns-in-22 c =
    let e = c.in-22.is in
    rw e refl

pub returns-in_default : goal.returns-in_default
returns-in_default c =
    let r = c.in_default.in_default-own.rest in
    refusal_last _ _ r.0.0.0.0.0.0.0.0.0.0.0.0.1 r.0.0.0.0.0.0.0.0.0.0.0.1 r.0.0.0.0.0.0.0.0.0.0.1 r.0.0.0.0.0.0.0.0.0.1 r.0.0.0.0.0.0.0.0.1 r.0.0.0.0.0.0.0.1 r.0.0.0.0.0.0.1 r.0.0.0.0.0.1 r.0.0.0.0.1 r.0.0.0.1 r.0.0.1 r.0.1 r.1
