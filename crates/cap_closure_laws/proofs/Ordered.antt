-- The parts of the terms of candidates ascend.
use Rattle.std.proofs.Common.{Bool, true, false, List, [], ◌∷◌, ◌++◌, length, subst, flat_map, refl}
use Rattle.std.specs.Prelude.{◌&&◌, if◌then◌else◌}
use Rattle.std.specs.List.{AllByRecursion, list_any}
use Rattle.cap_lin.specs.Linear.{Linear}
use Rattle.cap_lin.specs.Steps.{first_wide}
use Rattle.cap_lin.specs.declared.row.Op.TheVariants.{Eq as Equal, Le as AtMost}
use Rattle.cap_lin.specs.declared.row.Sort.TheVariants.{Int}
use Rattle.cap_gsolve.specs.declared.piece.Form.{Form}
use Rattle.cap_gsolve.specs.declared.piece.Form.TheVariants.{Span}
use Rattle.cap_gsolve.specs.Pieces.{of_guards}
use Rattle.cap_prog.specs.Program.{PlainCase, PlainAction, PlainRegionType}
use Rattle.cap_goal_spec.specs.States.{PlainFact, PlainState}
use Rattle.cap_goal_spec.specs.Environments.{region_env}
use Rattle.cap_goal_spec.specs.Candidates.{form_bounds, piece_bounds, MadeRow, is_over_params, bounds_by, action_bounds, all_candidates, is_made, repeats, without_repeats, later_state, candidates}
use Rattle.cap_rules_ascending.specs.Ascending.{TermAscends, RowAscends, FormAscends, PieceAscends, FactAscends}
use Rattle.cap_rules_ascending.proofs.Lists.{IfSome, all-join, all-get, all-flat, all-any}
use Rattle.cap_rules_ascending.proofs.Safe.{IsAny}
use Rattle.cap_rules_ascending.proofs.Terms.{variable-ascends, row-ascends, in-ascends, region-ascends}
use Rattle.cap_offer_spec.specs.Closures.{Listed}
use Rattle.cap_closure_laws.proofs.Named.{IsCandidate, narrow-by}

pub record MadeOrdered (m : MadeRow) : Type 0 where
  pub row : RowAscends m.row

by-if : (b : Bool) (xs : List MadeRow) → AllByRecursion MadeOrdered xs → AllByRecursion MadeOrdered (if b then xs else [])
by-if true xs h = h
by-if false xs h = tt

by-ordered : (k : PlainRegionType) (f : PlainFact) (u t : Linear) → FactAscends f → TermAscends u → AllByRecursion MadeOrdered (bounds_by k f u t)
by-ordered k f u t h g =
    let e = in-ascends (region_env f []) t (region-ascends f [] h tt) in
    by-if (is_over_params k t) _ (record { row = row-ascends _ AtMost u Int e g }, (record { row = row-ascends u AtMost _ Int g e }, tt))

action-ordered : (k : PlainRegionType) (f : PlainFact) (u : Linear) (a : PlainAction) → FactAscends f → TermAscends u → AllByRecursion MadeOrdered (action_bounds k f u a)
action-ordered k f u a h g = all-join MadeOrdered (bounds_by k f u a.source) (bounds_by k f u a.target) (by-ordered k f u a.source h g) (by-ordered k f u a.target h g)

all-ordered : (k : PlainRegionType) (f : PlainFact) (u : Linear) → FactAscends f → TermAscends u → AllByRecursion MadeOrdered (all_candidates k f u)
all-ordered k f u h g =
    let cases = flat_map (λ (c : PlainCase). bounds_by k f u c.state) k.cases in
    let actions = flat_map (action_bounds k f u) k.actions in (
      record { row = row-ascends u Equal f.state Int g h.state },
      (
        record { row = row-ascends f.state AtMost u Int h.state g },
        (
          record { row = row-ascends u AtMost f.state Int g h.state },
          all-join MadeOrdered cases actions (all-flat IsAny MadeOrdered (λ (c : PlainCase). bounds_by k f u c.state) (λ c i. by-ordered k f u c.state h g) k.cases (all-any IsAny (λ x. tt) k.cases)) (all-flat IsAny MadeOrdered (action_bounds k f u) (λ a i. action-ordered k f u a h g) k.actions (all-any IsAny (λ x. tt) k.actions)),
        ),
      ),
    )

unless-repeated : (b : Bool) (m : MadeRow) (xs ys : List MadeRow) → MadeOrdered m → AllByRecursion MadeOrdered xs → AllByRecursion MadeOrdered ys → AllByRecursion MadeOrdered (if b then xs else m ∷ ys)
unless-repeated true m xs ys h k g = k
unless-repeated false m xs ys h k g = (h, g)

without-ordered : (earlier ms : List MadeRow) → AllByRecursion MadeOrdered ms → AllByRecursion MadeOrdered (without_repeats earlier ms)
without-ordered earlier [] h = tt
without-ordered earlier (m ∷ ms) h = unless-repeated (is_made m && list_any (repeats m) earlier) m (without_repeats earlier ms) (without_repeats (m ∷ earlier) ms) h.0 (without-ordered earlier ms h.1) (without-ordered (m ∷ earlier) ms h.1)

form-ordered : (u : Linear) (f : Form) → TermAscends u → FormAscends f → AllByRecursion MadeOrdered (form_bounds u f)
form-ordered u (Span a e) h k = (record { row = row-ascends a AtMost u Int k.0 h }, (record { row = row-ascends u AtMost a Int h k.0 }, tt))
form-ordered u f h k = tt

pub candidates-ordered : (k : PlainRegionType) (s : PlainState) (f : PlainFact) → FactAscends f → AllByRecursion PieceAscends s.guards → AllByRecursion MadeOrdered (candidates k s f)
candidates-ordered k s f h g =
    let u = later_state s in
    let e = variable-ascends (length s.sorts) in
    without-ordered [] (all_candidates k f u ++ flat_map (piece_bounds f u) s.guards) (all-join MadeOrdered (all_candidates k f u) (flat_map (piece_bounds f u) s.guards) (all-ordered k f u h e) (all-flat PieceAscends MadeOrdered (piece_bounds f u) (λ q i. by-if (of_guards f.region f.kind q) (form_bounds u q.form) (form-ordered u q.form e i.form)) s.guards g))

pub candidate-ordered : (all : List MadeRow) (x : Listed) → AllByRecursion MadeOrdered all → IsCandidate all x → RowAscends x.row
candidate-ordered all x h c =
    let o : MadeOrdered c.made = subst (IfSome MadeOrdered) c.at (all-get MadeOrdered all x.number h) in
    subst RowAscends (narrow-by c.made x.row (first_wide c.made.steps) refl c.is).row o.row
