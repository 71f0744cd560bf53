-- The track of a run: of each region and of each frame what it owns, and how a derivation says it.
use Rattle.std.specs.Prelude.{ℕ, ℤ, List, map, find, Option}
use Rattle.cap_rules.specs.cap_goal_spec.cap_lin.Linear.{same_number}
use Rattle.cap_rules.specs.cap_goal_spec.States.{PlainGoal}
use Rattle.cap_rules.specs.cap_goal_spec.Choices.{PlainTree}
use Rattle.cap_machine.specs.declared.event.Event.{Event}
use Rattle.cap_machine_accounts.specs.Assertions.{NameValue}
use Rattle.cap_machine_accounts.specs.Accounts.{Held, OwnedRegion, Account}

-- by what the items of an assertion are met: the values of its names and of each `_` in order, and
-- the regions of its facts with the states in which they are
pub record Fill : Type 0 where
  pub names : List NameValue
  pub wildcards : List NameValue
  pub facts : List (ℤ × ℤ)

-- a goal with its tree
pub record Place : Type 0 where
  pub goal : PlainGoal
  pub tree : PlainTree

-- a region with its part, and the case and what it was by which it owns that
pub record TrackedRegion : Type 0 where
  pub owned : OwnedRegion
  pub case : ℕ
  pub fill : Fill

-- what a frame was given: the stability of the assertion, with values of what is known there, and
-- by what the assertion was met
pub record GivenAssertion : Type 0 where
  pub stability : Option Place
  pub values : List NameValue
  pub fill : Fill

-- A frame has a seat: the node to which its last heap statement, call or fork led, before its facts
-- are settled, or the root where it begins, with values of the variables there. What it was given
-- since, and its own steps since, lead from the seat to where it stands. A frame that waits for a
-- result has a variable for it.
pub record TrackedFrame : Type 0 where
  pub held : Held
  pub seat : Place
  pub values : List NameValue
  pub given : Option GivenAssertion
  pub since : List Event
  pub awaited : ℕ

-- of each thread its frames, the top one first
pub record Track : Type 0 where
  pub regions : List TrackedRegion
  pub threads : List (List TrackedFrame)

abbrev pub account_of : Track → Account
account_of k = record {
  regions = map (λ r. r.owned) k.regions;
  threads = map (map (λ f. f.held)) k.threads;
}

-- the region of this number
abbrev pub tracked_at : List TrackedRegion → ℤ → Option TrackedRegion
tracked_at rs n = find (λ r. same_number r.owned.region.number n) rs
