-- Runs, one after the other: what they find, and which limit is the first that they pass.
use Rattle.std.proofs.Common.{◌≡◌, ℤ, ◌+ℤ◌, ◌*ℤ◌, List, [], ◌∷◌, ◌++◌, refl, subst, sym, ap, ◌∙◌, Bool, true, false, Option, Some, None}
use Rattle.std.specs.Prelude.{if◌then◌else◌}
use Rattle.cap_lin.specs.Steps.{Step, sum_of, product_of, fits, first_wide}
use Rattle.cap_fm_spec.specs.Events.{Event, made, counted, Limit, wide, many, made_all, wide_or, is_too_many, first_limit}
use Rattle.cap_fm_spec.specs.Runs.{Entry, Stage, Found, going, contradiction, Run, Elimination, done, go_on, results, ◌>>=◌}
use Rattle.cap_lin.specs.Exact as lin
use Rattle.cap_lin.specs.declared.error.LinError.{LinError}
use Rattle.cap_lin.specs.declared.error.LinError.TheVariants as wrong
use Rattle.cap_fm_elimination.specs.Errors.{solve_error}
use Rattle.cap_fm_elimination.specs.Answers.{Explains, ExplainsSteps, Is, Same}
use Rattle.cap_fm_elimination.specs.declared.error.SolveError.{SolveError}
use Rattle.cap_fm_elimination.specs.declared.error.SolveError.TheVariants as error

-- ---- limits

abbrev or_first : Option Limit → Option Limit → Option Limit
or_first (Some l) later = Some l
or_first None later = later

wide-or : (w : Option (ℤ × ℤ)) (l m : Option Limit) → wide_or w (or_first l m) ≡ or_first (wide_or w l) m
wide-or (Some p) l m = refl
wide-or None l m = refl

test-or : (b : Bool) (l m : Option Limit) → (if b then Some many else or_first l m) ≡ or_first (if b then Some many else l) m
test-or true l m = refl
test-or false l m = refl

limit-append : (es fs : List Event) → first_limit (es ++ fs) ≡ or_first (first_limit es) (first_limit fs)
unfolding first_limit
limit-append [] fs = refl
limit-append (made s ∷ es) fs = ap (wide_or (first_wide (s ∷ []))) (limit-append es fs) ∙ wide-or (first_wide (s ∷ [])) (first_limit es) (first_limit fs)
limit-append (counted n ∷ es) fs = ap (λ l. if is_too_many n then Some many else l) (limit-append es fs) ∙ test-or (is_too_many n) (first_limit es) (first_limit fs)

pub limit-later : (es fs : List Event) → first_limit es ≡ None → first_limit (es ++ fs) ≡ first_limit fs
limit-later es fs n = limit-append es fs ∙ ap (λ l. or_first l (first_limit fs)) n

pub limit-earlier : (es fs : List Event) (l : Limit) → first_limit es ≡ Some l → first_limit (es ++ fs) ≡ Some l
limit-earlier es fs l n = limit-append es fs ∙ ap (λ l. or_first l (first_limit fs)) n

one-step : (b : Bool) (p : ℤ × ℤ) (w : Option (ℤ × ℤ)) → wide_or (if b then None else Some p) (wide_or w None) ≡ wide_or (if b then w else Some p) None
one-step true p w = refl
one-step false p w = refl

steps-limit : (steps : List Step) → first_limit (made_all steps) ≡ wide_or (first_wide steps) None
unfolding first_limit first_wide
steps-limit [] = refl
steps-limit (sum_of a b ∷ steps) = ap (wide_or (first_wide (sum_of a b ∷ []))) (steps-limit steps) ∙ one-step (fits (a +ℤ b)) (a, b) (first_wide steps)
steps-limit (product_of a b ∷ steps) = ap (wide_or (first_wide (product_of a b ∷ []))) (steps-limit steps) ∙ one-step (fits (a *ℤ b)) (a, b) (first_wide steps)

pub steps-narrow : (steps : List Step) → first_wide steps ≡ None → first_limit (made_all steps) ≡ None
steps-narrow steps n = steps-limit steps ∙ ap (λ w. wide_or w None) n

pub steps-wide : (steps : List Step) (a b : ℤ) → first_wide steps ≡ Some (a, b) → first_limit (made_all steps) ≡ Some (wide a b)
steps-wide steps a b n = steps-limit steps ∙ ap (λ w. wide_or w None) n

-- ---- errors

pub explains-steps : (e : SolveError) (steps : List Step) → ExplainsSteps e steps → Explains e (made_all steps)
explains-steps (error.Wide a b) steps h = steps-wide steps a b h
explains-steps error.Rows steps h = absurd h
explains-steps error.OutOfMemory steps h = tt

pub explains-lin : (e : LinError) (steps : List Step) → lin.Explains e steps → ExplainsSteps (solve_error e) steps
explains-lin (wrong.Wide a b) steps h = h
explains-lin wrong.OutOfMemory steps h = tt

pub explains-earlier : (e : SolveError) (es fs : List Event) → Explains e es → Explains e (es ++ fs)
explains-earlier (error.Wide a b) es fs h = limit-earlier es fs _ h
explains-earlier error.Rows es fs h = limit-earlier es fs _ h
explains-earlier error.OutOfMemory es fs h = tt

pub explains-later : (e : SolveError) (es fs : List Event) → first_limit es ≡ None → Explains e fs → Explains e (es ++ fs)
explains-later (error.Wide a b) es fs n h = limit-later es fs n ∙ h
explains-later error.Rows es fs n h = limit-later es fs n ∙ h
explains-later error.OutOfMemory es fs n h = tt

-- ---- one run after the other

going-on : {A B : Type 0} (es : List Event) (s t : Stage) (found : Found A) (x : A) (f : A → Elimination B) → first_limit es ≡ None → going x ≡ found → s ≡ t → Same (go_on es t found f) (f x s)
going-on es s t found x f n g e = subst (λ d. Same (go_on es t d f) (f x s)) g (subst (λ u. Same (go_on es u (going x) f) (f x s)) e (record { limit = limit-later es (f x s).events n; found = refl; stage = refl }))

pub then-continues : {A B : Type 0} (m : Elimination A) (f : A → Elimination B) (s t : Stage) (x : A) → Is (going x) t (m s) → Same ((m >>= f) s) (f x t)
then-continues m f s t x i = going-on (m s).events t (m s).stage (m s).found x f i.within i.found i.stage

stopping : {A B : Type 0} (es : List Event) (s t : Stage) (found : Found A) (e : Entry) (f : A → Elimination B) → first_limit es ≡ None → contradiction e ≡ found → s ≡ t → Is (contradiction e) s (go_on es t found f)
stopping es s t found e f n g q = subst (λ d. Is (contradiction e) s (go_on es t d f)) g (record { within = n; found = refl; stage = q })

pub then-stops : {A B : Type 0} (m : Elimination A) (f : A → Elimination B) (s t : Stage) (e : Entry) → Is (contradiction e) t (m s) → Is (contradiction e) t ((m >>= f) s)
then-stops m f s t e i = stopping (m s).events t (m s).stage (m s).found e f i.within i.found i.stage

failing : {A B : Type 0} (es : List Event) (t : Stage) (found : Found A) (e : SolveError) (f : A → Elimination B) → Explains e es → Explains e (go_on es t found f).events
failing es t (going x) e f h = explains-earlier e es (f x t).events h
failing es t (contradiction d) e f h = h

pub then-fails : {A B : Type 0} (m : Elimination A) (f : A → Elimination B) (s : Stage) (e : SolveError) → Explains e (m s).events → Explains e ((m >>= f) s).events
then-fails m f s e h = failing (m s).events (m s).stage (m s).found e f h

-- ---- runs that are the same but for events within the limits

pub same-is : {A : Type 0} (found : Found A) (stage : Stage) (r s : Run A) → Same r s → Is found stage s → Is found stage r
same-is found stage r s e i = record { within = e.limit ∙ i.within; found = i.found ∙ sym e.found; stage = i.stage ∙ sym e.stage }

pub same-explains : {A : Type 0} (e : SolveError) (r s : Run A) → Same r s → Explains e s.events → Explains e r.events
same-explains (error.Wide a b) r s q h = q.limit ∙ h
same-explains error.Rows r s q h = q.limit ∙ h
same-explains error.OutOfMemory r s q h = tt

pub same-then : {A : Type 0} (r s t : Run A) → Same r s → Same s t → Same r t
same-then r s t p q = record { limit = p.limit ∙ q.limit; found = p.found ∙ q.found; stage = p.stage ∙ q.stage }

pub same-refl : {A : Type 0} (r : Run A) → Same r r
same-refl r = record { limit = refl; found = refl; stage = refl }

-- a run that does nothing

pub done-is : {A : Type 0} (x : A) (s : Stage) → Is (going x) s (done x s)
unfolding first_limit
done-is x s = record { within = refl; found = refl; stage = refl }

-- results alone

pub results-are : (steps : List Step) (s : Stage) → first_wide steps ≡ None → Is (going tt) s (results steps s)
results-are steps s n = record { within = steps-narrow steps n; found = refl; stage = refl }
