-- A fact keeps its state: how that ends.
use Rattle.std.proofs.Common.{◌≡◌, ℕ, List, None, subst}
use Rattle.std.specs.Prelude.{slice_set, Ok, Err}
use Rattle.cap_lin.specs.Steps.{first_wide}
use Rattle.cap_lin.specs.Rows.{row_of, row_of_steps}
use Rattle.cap_lin.specs.declared.row.Row.{Row}
use Rattle.cap_lin.specs.declared.row.Op.TheVariants.{Eq as Equal}
use Rattle.cap_lin.specs.declared.row.Sort.TheVariants.{Int}
use Rattle.cap_prog.specs.Program.{PlainRegionType}
use Rattle.cap_goal_spec.specs.States.{PlainFact, PlainState, with_state}
use Rattle.cap_goal_spec.specs.Candidates.{later_state}
use Rattle.cap_rules.specs.Resting.{prove_kept, keep}
use Rattle.cap_rules_steps.specs.Walks.{Claims}
use Rattle.cap_rules_steps.specs.declared.error.RuleError.{RuleError}
use Rattle.cap_rules_steps.proofs.Walking.{done, weaker, claims_then, claims_fail, narrow_claims}

abbrev Lists : Type 0
Lists = List (List Row)

pub keep_fails : (k : PlainRegionType) (s : PlainState) (j : ℕ) (f : PlainFact) (same : Row) (e : RuleError) (before after : Lists) → first_wide (row_of_steps (later_state s) Equal f.state Int) ≡ None → same ≡ row_of (later_state s) Equal f.state Int → Claims (Err e) before after (prove_kept k s f same k.actions) → Claims (Err e) before after (keep k s j f)
keep_fails k s j f same e before after n q c =
    let now : Row = row_of (later_state s) Equal f.state Int in
    narrow_claims _ (row_of_steps (later_state s) Equal f.state Int) _ before after n (claims_fail e (prove_kept k s f now k.actions) _ before after (subst (λ r. Claims (Err e) before after (prove_kept k s f r k.actions)) q c))

pub keep_made : (k : PlainRegionType) (s : PlainState) (j : ℕ) (f : PlainFact) (same : Row) (before after : Lists) → first_wide (row_of_steps (later_state s) Equal f.state Int) ≡ None → same ≡ row_of (later_state s) Equal f.state Int → Claims (Ok tt) before after (prove_kept k s f same k.actions) → Claims (Ok (record s { facts = slice_set s.facts j (with_state f f.state) })) before after (keep k s j f)
keep_made k s j f same before after n q c =
    let now : Row = row_of (later_state s) Equal f.state Int in
    narrow_claims _ (row_of_steps (later_state s) Equal f.state Int) _ before after n (claims_then _ (prove_kept k s f now k.actions) _ tt before after after (subst (λ r. Claims (Ok tt) before after (prove_kept k s f r k.actions)) q c) (weaker _ _ after (done _)))
