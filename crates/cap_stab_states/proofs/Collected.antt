-- Rows and wanted guards of an action are made one after the other.
use Rattle.std.proofs.Common.{◌≡◌, ℕ, zero, suc, ◌+◌, List, [], ◌∷◌, ◌++◌, map, drop, get_or, refl, sym, ap, subst, ◌∙◌, arith, append_assoc, append-nil, length, Option, Some, None}
use Rattle.std.specs.Prelude.{Ok, Err}
use Rattle.cap_lin.specs.Linear.{Linear}
use Rattle.cap_lin.specs.Rows.{row_of, row_of_steps}
use Rattle.cap_lin.specs.declared.row.Row.{Row}
use Rattle.cap_gsolve.specs.declared.piece.Form.{Form}
use Rattle.cap_prog.specs.declared.assertion.Asked.{Asked}
use Rattle.cap_goal_spec.specs.Terms.{term_over, term_over_steps}
use Rattle.cap_rules.specs.Attempts.{Event, makes, Attempt, unit, go_on}
use Rattle.cap_rules.specs.Resting.{Names, ask, rows_over, want_form, want_all}
use Rattle.cap_rules_steps.specs.Places.{term_among}
use Rattle.cap_rules_steps.specs.Walks.{Makes}
use Rattle.cap_rules_steps.specs.declared.error.RuleError.{RuleError}
use Rattle.cap_rules_steps.proofs.Walking.{then_made, unmade, done}
use Rattle.cap_stab_states.specs.Asking.{starts_of}
use Rattle.cap_stab_states.specs.Wanting.{row_among, wanted_one, wanted_from}
use Rattle.cap_stab_states.proofs.Collecting.{Collects}

regroup : {A : Type 0} (a b c d : List A) → a ++ (b ++ (c ++ d)) ≡ (a ++ (b ++ c)) ++ d
regroup a b c d = ap (λ l. a ++ l) (sym (append_assoc b c d)) ∙ sym (append_assoc a (b ++ c) d)

pub rows_collect : (names : List Linear) → Collects {S = Unit {0}} (λ s cs. rows_over names cs) (λ s c. row_among names c) (λ s c. s)
rows_collect names = record {
  none = λ s. refl;
  more = λ s c cs. (
      let l : Linear = term_over (term_among names) c.left in
      let r : Linear = term_over (term_among names) c.right in
      let rest : Attempt (List Row) = go_on (rows_over names cs).events (rows_over names cs).value (λ more. unit (row_of l c.op r c.sort ∷ more)) in
      ap (λ es. record { events = es; value = rest.value }) (regroup (map makes (term_over_steps (term_among names) c.left)) (map makes (term_over_steps (term_among names) c.right)) (map makes (row_of_steps l c.op r c.sort)) rest.events));
}

pub wanted_collect : (names : List Linear) → Collects (wanted_from names) (λ ws g. wanted_one names (get_or ws 0 0) g) (λ ws g. drop 1 ws)
wanted_collect names = record { none = λ s. refl; more = λ s g gs. refl }

pub first_behind : (xs : List ℕ) (i : ℕ) → get_or (drop i xs) 0 0 ≡ get_or xs i 0
first_behind [] zero = refl
first_behind [] (suc i) = refl
first_behind (x ∷ xs) zero = refl
first_behind (x ∷ xs) (suc i) = first_behind xs i

pub one_behind : (xs : List ℕ) (i : ℕ) → drop 1 (drop i xs) ≡ drop (i + 1) xs
one_behind xs i = step xs i ∙ ap (λ j. drop j xs) (more i)
  where
    more : (i : ℕ) → suc i ≡ i + 1
    more i = omega arith

    step : (xs : List ℕ) (i : ℕ) → drop 1 (drop i xs) ≡ drop (suc i) xs
    step [] zero = refl
    step [] (suc i) = refl
    step (x ∷ xs) zero = refl
    step (x ∷ xs) (suc i) = step xs i

pub wanted_made : (names : List Linear) (ws : List ℕ) (i : ℕ) (g : ℕ × Asked) (f : Form) → Makes (Ok f) (want_form names (get_or ws i 0) g.1) → Makes (Ok (g.0, f)) (wanted_one names (get_or (drop i ws) 0 0) g)
wanted_made names ws i g f m =
    subst (λ x. Makes (Ok (g.0, f)) (wanted_one names x g)) (sym (first_behind ws i)) (then_made (Ok (g.0, f)) (want_form names (get_or ws i 0) g.1) (λ h. unit (g.0, h)) f m (done (g.0, f)))

pub wanted_fails : (names : List Linear) (ws : List ℕ) (i : ℕ) (g : ℕ × Asked) (e : RuleError) → Makes (Err e) (want_form names (get_or ws i 0) g.1) → Makes (Err e) (wanted_one names (get_or (drop i ws) 0 0) g)
wanted_fails names ws i g e m =
    subst (λ x. Makes (Err e) (wanted_one names x g)) (sym (first_behind ws i)) (unmade e (want_form names (get_or ws i 0) g.1) (λ h. unit (g.0, h)) m)

go-unit : {A B C : Type 0} (es : List Event) (v : Option A) (k : A → B) (h : B → Attempt C) → go_on (go_on es v (λ f. unit (k f))).events (go_on es v (λ f. unit (k f))).value h ≡ go_on es v (λ f. h (k f))
go-unit es None k h = refl
go-unit es (Some x) k h = ap (λ l. record { events = l ++ (h (k x)).events; value = (h (k x)).value }) (append-nil es)

-- the variables of wildcards are those that come up
pub want_all_from : (names : List Linear) (w : Names) (gs : List (ℕ × Asked)) → wanted_from names (starts_of w gs) gs ≡ want_all names w gs
want_all_from names w [] = refl
want_all_from names w (g ∷ gs) =
    go-unit (want_form names w.next g.1).events (want_form names w.next g.1).value (λ f. (g.0, f)) (λ x. go_on (wanted_from names (starts_of (ask w g.1) gs) gs).events (wanted_from names (starts_of (ask w g.1) gs) gs).value (λ more. unit (x ∷ more)))
    ∙ ap (λ o. go_on (want_form names w.next g.1).events (want_form names w.next g.1).value (λ f. go_on o.events o.value (λ more. unit ((g.0, f) ∷ more)))) (want_all_from names (ask w g.1) gs)

pub starts_length : (w : Names) (gs : List (ℕ × Asked)) → length (starts_of w gs) ≡ length gs
starts_length w [] = refl
starts_length w (g ∷ gs) = ap suc (starts_length (ask w g.1) gs)
