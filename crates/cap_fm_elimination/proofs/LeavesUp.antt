-- The loop upwards over a history, which makes the multipliers of the rows on the way.
use Rattle.std.proofs.Common.{◌≡◌, ℕ, ℤ, ◌+◌, ◌<◌, ◌≤◌, List, [], ◌∷◌, ◌++◌, length, map, drop, get_or, arith, refl, subst, sym, ap, ◌∙◌, Bool, true, false, Option, None}
use Rattle.std.specs.Prelude.{◌==◌}
use Rattle.std.proofs.lemmas.Bool.{false≢true}
use Rattle.std.proofs.lemmas.List.{get_or_read, length_push}
use Rattle.cap_lin.specs.Linear.{Linear}
use Rattle.cap_lin.specs.Steps.{Step, first_wide}
use Rattle.cap_lin.proofs.Results.{first_wide-nil, first-narrow}
use Rattle.cap_fm_spec.specs.Runs.{Origin}
use Rattle.cap_fm_spec.specs.Leaf.{multipliers_of, multipliers, own_steps, way_steps}
use Rattle.cap_fm_elimination.specs.declared.entry.Origin as entry
use Rattle.cap_fm_elimination.specs.declared.entry.Origin.TheVariants.{Given}
use Rattle.cap_fm_elimination.specs.declared.error.SolveError.{SolveError}
use Rattle.cap_fm_elimination.specs.Answers.{ExplainsSteps}
use Rattle.cap_fm_elimination.specs.Views.{origin_view, history_view}
use Rattle.cap_fm_elimination.specs.Way.{is_marked, RowsBelow, AreEarlier, steps_at, rising_steps, IsWay, term_at}
use Rattle.cap_fm_elimination.proofs.LeavesSteps.{earlier-error, same-error}
use Rattle.cap_fm_elimination.proofs.LeavesWay.{IsRest, AreMade, here, steps-here, steps-end, same-steps, same-multipliers, made-more, rest-whole}

-- the terms so far are the multipliers of their rows, and what is left makes the results of the whole
pub record IsUp (history : List entry.Origin) (way : ℕ → Bool) (terms : ℕ → Linear) (place : ℕ) (made : List Linear) (whole : Option (ℤ × ℤ)) : Type 0 where
  pub count : length made ≡ place
  pub rest : IsRest way terms place (drop place (map origin_view history))
  pub are : AreMade way terms made
  pub steps : first_wide (rising_steps way terms place (drop place (map origin_view history))) ≡ whole

abbrev pub origin_at : List entry.Origin → ℕ → Origin
origin_at history place = origin_view (get_or history place (Given 0))

pub begun : (history : List entry.Origin) (last : ℕ) (marks : List Bool) (made : List Linear) → AreEarlier 0 (map origin_view history) → IsWay (map origin_view history) last marks → made ≡ [] → IsUp history (is_marked marks) (multipliers (history_view history)) 0 made (first_wide (rising_steps (is_marked marks) (multipliers (history_view history)) 0 (map origin_view history)))
begun history last marks made h w e = record {
  count = ap length e;
  rest = rest-whole history last marks h w;
  are = λ i l m. absurd (omega (arith, ap length e));
  steps = refl;
}

pub rows-here : (history : List entry.Origin) (way : ℕ → Bool) (terms : ℕ → Linear) (place : ℕ) (made read : List Linear) (whole : Option (ℤ × ℤ)) → IsUp history way terms place made whole → place < length history → read ≡ made → RowsBelow (length read) (origin_at history place)
rows-here history way terms place made read whole u l e = subst (λ n. RowsBelow n (origin_at history place)) (sym (ap length e ∙ u.count)) (here history way terms place l u.rest).below

own-same : (history : List entry.Origin) (way : ℕ → Bool) (terms : ℕ → Linear) (place : ℕ) (made : List Linear) (whole : Option (ℤ × ℤ)) → IsUp history way terms place made whole → place < length history → way place ≡ true → own_steps (origin_at history place) (term_at made) ≡ own_steps (origin_at history place) terms
own-same history way terms place made whole u l w = same-steps (origin_at history place) way terms made (rows-here history way terms place made made whole u l refl) ((here history way terms place l u.rest).reached w) u.are

pub stops : (history : List entry.Origin) (way : ℕ → Bool) (terms : ℕ → Linear) (place : ℕ) (made read : List Linear) (whole : Option (ℤ × ℤ)) (e : SolveError) (all : List Step) → IsUp history way terms place made whole → place < length history → way place ≡ true → read ≡ made → ExplainsSteps e (own_steps (origin_at history place) (term_at read)) → first_wide all ≡ whole → ExplainsSteps e all
stops history way terms place made read whole e all u l w r x f =
    let y : ExplainsSteps e (steps_at (way place) (origin_at history place) terms) = rw (w, ← own-same history way terms place made whole u l w, ← r) x in
    same-error e all (rising_steps way terms place (drop place (map origin_view history))) (f ∙ sym u.steps) (subst (ExplainsSteps e) (sym (steps-here history way terms place l)) (earlier-error e _ _ y))

-- a row on the way adds its multipliers, and one that is not adds any term
goes_on : (history : List entry.Origin) (way : ℕ → Bool) (terms : ℕ → Linear) (place : ℕ) (made : List Linear) (t : Linear) (whole : Option (ℤ × ℤ)) → IsUp history way terms place made whole → place < length history → first_wide (steps_at (way place) (origin_at history place) terms) ≡ None → (way place ≡ true → t ≡ terms place) → IsUp history way terms (place + 1) (made ++ (t ∷ [])) whole
goes_on history way terms place made t whole u l n h = record {
  count = length_push made t ∙ ap (λ k. k + 1) u.count;
  rest = (here history way terms place l u.rest).rest;
  are = made-more way terms made t u.are (λ w. h (sym (ap way u.count) ∙ w) ∙ ap terms (sym u.count));
  steps = sym (ap first_wide (steps-here history way terms place l) ∙ first-narrow _ _ n) ∙ u.steps;
}

pub passes : (history : List entry.Origin) (way : ℕ → Bool) (terms : ℕ → Linear) (place : ℕ) (made read new : List Linear) (t s : Linear) (whole : Option (ℤ × ℤ)) → IsUp history way terms place made whole → place < length history → way place ≡ true → read ≡ made → first_wide (own_steps (origin_at history place) (term_at read)) ≡ None → s ≡ multipliers_of (origin_at history place) (term_at read) → t ≡ s → new ≡ made ++ (t ∷ []) → IsUp history way terms (place + 1) new whole
passes history way terms place made read new t s whole u l w r n m q e =
    let x : first_wide (steps_at (way place) (origin_at history place) terms) ≡ None = rw (w, ← own-same history way terms place made whole u l w, ← r) n in
    let y : multipliers_of (origin_at history place) (term_at read) ≡ multipliers_of (origin_at history place) terms = rw r (same-multipliers (origin_at history place) way terms made (rows-here history way terms place made made whole u l refl) ((here history way terms place l u.rest).reached w) u.are) in
    rw e (goes_on history way terms place made t whole u l x (λ w. q ∙ m ∙ y ∙ sym (here history way terms place l u.rest).made))

pub passes-by : (history : List entry.Origin) (way : ℕ → Bool) (terms : ℕ → Linear) (place : ℕ) (made new : List Linear) (t : Linear) (whole : Option (ℤ × ℤ)) → IsUp history way terms place made whole → place < length history → way place ≡ false → new ≡ made ++ (t ∷ []) → IsUp history way terms (place + 1) new whole
passes-by history way terms place made new t whole u l w e =
    let x : first_wide (steps_at (way place) (origin_at history place) terms) ≡ None = rw w first_wide-nil in
    rw e (goes_on history way terms place made t whole u l x (λ v. absurd (false≢true (sym w ∙ v))))

pub ends : (history : List entry.Origin) (last place : ℕ) (marks : List Bool) (made : List Linear) (t : Linear) → IsWay (map origin_view history) last marks → IsUp history (is_marked marks) (multipliers (history_view history)) place made (first_wide (rising_steps (is_marked marks) (multipliers (history_view history)) 0 (map origin_view history))) → length history ≤ place → last < length made → t ≡ get_or made last t → (first_wide (way_steps (history_view history) (λ i. i == last)) ≡ None) × (t ≡ multipliers (history_view history) last)
ends history last place marks made t w u l k e =
    let n = steps-end history (is_marked marks) (multipliers (history_view history)) place l in
    (ap first_wide (sym w.steps) ∙ sym u.steps ∙ ap first_wide n ∙ first_wide-nil, get_or_read made last t k e _ ∙ u.are last k w.own)
