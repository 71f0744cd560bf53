-- How far a move is known before the pieces of its indexed atoms are named.
use Rattle.std.specs.Prelude.{◌≡◌, ℕ, List, Option, Some, Result, Ok, Err}
use Rattle.std.specs.Global.{Vec}
use Rattle.cap_lin.specs.declared.row.Row.{Row}
use Rattle.cap_prog.specs.Program.{PlainCase, PlainAction}
use Rattle.cap_goal_spec.specs.States.{PlainFact, PlainEnv, PlainState}
use Rattle.cap_rules.specs.Attempts.{Attempt}
use Rattle.cap_rules.specs.Answers.{Answer, owed_lists, proofs_of}
use Rattle.cap_rules.specs.Closing.{indexed_of}
use Rattle.cap_rules_steps.specs.Judging.{lists_view}
use Rattle.cap_rules_steps.specs.declared.error.RuleError.{RuleError}
use Rattle.cap_open_moves.specs.Views.{turn_view}
use Rattle.cap_open_moves.specs.declared.turning.Turn as code
use Rattle.cap_offer_spec.specs.Deciding.{Noted, ◌>>=◌, certified_by}
use Rattle.cap_offer_spec.specs.Shifting.{spans_at}
use Rattle.cap_offer_spec.specs.Turning.{Turn, up_to_spans, but_spans, with_lists}

-- the lists that are owed before the spans, or the first failure among all terms but theirs
abbrev pub lists_before :
    PlainState → ℕ → PlainFact → PlainCase → PlainEnv → PlainAction → Answer (List (List Row))
lists_before s o f x env a =
    with_lists (owed_lists (up_to_spans s f x env a).events)
    (proofs_of (but_spans s o f x env a))

abbrev pub turn_lists : code.Turn × Vec (Vec Row) → List (List Row)
turn_lists t = lists_view t.1

-- a call that succeeds gives the attempt's value
abbrev pub Turns : Result (code.Turn × Vec (Vec Row)) RuleError → Attempt Turn → Type 0
Turns (Ok t) o = o.value ≡ Some (turn_view t.0)
Turns (Err e) o = Unit {0}

-- the pieces of the indexed atoms, of which there are some
abbrev pub turned_spans :
    PlainState → ℕ → PlainFact → PlainCase → PlainEnv → PlainAction → Noted (Option (List ℕ))
turned_spans s o f x env a = do
  cs ← certified_by (lists_before s o f x env a)
  spans_at s f (indexed_of a) (up_to_spans s f x env a).value cs
