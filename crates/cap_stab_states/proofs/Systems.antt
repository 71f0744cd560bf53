-- How the system of an action fails, and what it is.
use Rattle.std.proofs.Common.{◌≡◌, ℕ, List, ◌∷◌, ◌++◌, None}
use Rattle.std.specs.Prelude.{Ok, Err}
use Rattle.cap_lin.specs.Linear.{Linear}
use Rattle.cap_lin.specs.Steps.{Step, first_wide}
use Rattle.cap_lin.specs.Exact.{Explains}
use Rattle.cap_lin.specs.Rows.{row_of, row_of_steps}
use Rattle.cap_lin.specs.declared.error.LinError.{LinError}
use Rattle.cap_lin.specs.declared.row.Row.{Row}
use Rattle.cap_lin.specs.declared.row.Op.TheVariants.{Eq as Equal}
use Rattle.cap_lin.specs.declared.row.Sort.TheVariants.{Int}
use Rattle.cap_gsolve.specs.declared.piece.Form.{Form}
use Rattle.cap_gsolve.specs.Compat.{compat, compat_steps}
use Rattle.cap_prog.specs.Program.{PlainAction, PlainRegionType}
use Rattle.cap_goal_spec.specs.Terms.{term_over, term_over_steps}
use Rattle.cap_goal_spec.specs.States.{PlainFact, PlainState}
use Rattle.cap_goal_spec.specs.Candidates.{later_state}
use Rattle.cap_rules.specs.Resting.{first_names, rows_over, want_all, joined_rows, system}
use Rattle.cap_rules_steps.specs.Errors.{rule_error}
use Rattle.cap_rules_steps.specs.Places.{term_among}
use Rattle.cap_rules_steps.specs.Walks.{Makes}
use Rattle.cap_rules_steps.specs.declared.error.RuleError.{RuleError}
use Rattle.cap_rules_steps.proofs.Walking.{then_made, unmade, then_narrow, wide, done}

-- the source, and the row that it is the later state
abbrev pub source_of : PlainAction → List Linear → Linear
source_of a names = term_over (term_among names) a.source

abbrev pub source_steps : PlainAction → List Linear → List Step
source_steps a names = term_over_steps (term_among names) a.source

abbrev pub same_of : PlainState → PlainAction → List Linear → Row
same_of s a names = row_of (source_of a names) Equal (later_state s) Int

abbrev pub same_steps : PlainState → PlainAction → List Linear → List Step
same_steps s a names = row_of_steps (source_of a names) Equal (later_state s) Int

-- the first parts were made
pub record Begun (s : PlainState) (a : PlainAction) (names : List Linear) : Type 0 where
  pub source : first_wide (source_steps a names) ≡ None
  pub same : first_wide (same_steps s a names) ≡ None

pub record Asked (s : PlainState) (f : PlainFact) (a : PlainAction) (names : List Linear) (cs : List Row) (ws : List (ℕ × Form)) : Type 0 where
  pub begun : Begun s a names
  pub conditions : Makes (Ok cs) (rows_over names a.when)
  pub wanted : Makes (Ok ws) (want_all names (first_names s f) a.guards)

pub source_fails : (k : PlainRegionType) (s : PlainState) (f : PlainFact) (known : List Row) (a : PlainAction) (names : List Linear) (e : LinError) → Explains e (source_steps a names) → Makes (Err (rule_error e)) (system k s f known a names)
source_fails k s f known a names e h = wide e (source_steps a names) _ h

pub same_fails : (k : PlainRegionType) (s : PlainState) (f : PlainFact) (known : List Row) (a : PlainAction) (names : List Linear) (e : LinError) → first_wide (source_steps a names) ≡ None → Explains e (same_steps s a names) → Makes (Err (rule_error e)) (system k s f known a names)
same_fails k s f known a names e n h = then_narrow _ (source_steps a names) _ n (wide e (same_steps s a names) _ h)

pub conditions_fail : (k : PlainRegionType) (s : PlainState) (f : PlainFact) (known : List Row) (a : PlainAction) (names : List Linear) (e : RuleError) → Begun s a names → Makes (Err e) (rows_over names a.when) → Makes (Err e) (system k s f known a names)
conditions_fail k s f known a names e b m =
    then_narrow _ (source_steps a names) _ b.source (then_narrow _ (same_steps s a names) _ b.same (unmade e (rows_over names a.when) _ m))

pub wanted_fail : (k : PlainRegionType) (s : PlainState) (f : PlainFact) (known : List Row) (a : PlainAction) (names : List Linear) (cs : List Row) (e : RuleError) → Begun s a names → Makes (Ok cs) (rows_over names a.when) → Makes (Err e) (want_all names (first_names s f) a.guards) → Makes (Err e) (system k s f known a names)
wanted_fail k s f known a names cs e b c m =
    then_narrow _ (source_steps a names) _ b.source (then_narrow _ (same_steps s a names) _ b.same (then_made _ (rows_over names a.when) _ cs c (unmade e (want_all names (first_names s f) a.guards) _ m)))

pub compat_fails : (k : PlainRegionType) (s : PlainState) (f : PlainFact) (known : List Row) (a : PlainAction) (names : List Linear) (cs : List Row) (ws : List (ℕ × Form)) (e : LinError) → Asked s f a names cs ws → Explains e (compat_steps k.algebra s.guards f.region f.kind ws) → Makes (Err (rule_error e)) (system k s f known a names)
compat_fails k s f known a names cs ws e b h =
    then_narrow _ (source_steps a names) _ b.begun.source (then_narrow _ (same_steps s a names) _ b.begun.same (then_made _ (rows_over names a.when) _ cs b.conditions (then_made _ (want_all names (first_names s f) a.guards) _ ws b.wanted (wide e (compat_steps k.algebra s.guards f.region f.kind ws) _ h))))

pub system_made : (k : PlainRegionType) (s : PlainState) (f : PlainFact) (known : List Row) (a : PlainAction) (names : List Linear) (cs : List Row) (ws : List (ℕ × Form)) → Asked s f a names cs ws → first_wide (compat_steps k.algebra s.guards f.region f.kind ws) ≡ None → Makes (Ok (joined_rows (s.rows ++ (known ++ same_of s a names ∷ cs)) (compat k.algebra s.guards f.region f.kind ws))) (system k s f known a names)
system_made k s f known a names cs ws b n =
    then_narrow _ (source_steps a names) _ b.begun.source (then_narrow _ (same_steps s a names) _ b.begun.same (then_made _ (rows_over names a.when) _ cs b.conditions (then_made _ (want_all names (first_names s f) a.guards) _ ws b.wanted (then_narrow _ (compat_steps k.algebra s.guards f.region f.kind ws) _ n (done _)))))
