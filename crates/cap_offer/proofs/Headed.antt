-- What is offered at a statement.
use Rattle.std.proofs.Common.{◌≡◌, refl}
use Rattle.cap_prog.specs.Program.{PlainAct, set, read, write, cas, faa, dispose, alloc, call, fork, branch, loop, check, give_back, PlainProgram}
use Rattle.cap_goal_spec.specs.States.{PlainGoal}
use Rattle.cap_offer_spec.specs.Offering.{at_statement}
use Rattle.cap_offer.specs.Heads.{rule_of, by_rule}

pub statement-choices : (p : PlainProgram) (g : PlainGoal) (a : PlainAct) → at_statement p g a ≡ by_rule p g a (rule_of a)
statement-choices p g (set x t) = refl
statement-choices p g (read x a) = refl
statement-choices p g (write a t) = refl
statement-choices p g (cas x a old new) = refl
statement-choices p g (faa x a t) = refl
statement-choices p g (dispose a) = refl
statement-choices p g (alloc x n) = refl
statement-choices p g (call x f args) = refl
statement-choices p g (fork f args) = refl
statement-choices p g (branch c a b) = refl
statement-choices p g (loop c i a) = refl
statement-choices p g (check c) = refl
statement-choices p g (give_back t) = refl
