-- How a region is closed: the names of a case, and the move that keeps the state.
use Rattle.std.proofs.Common.{◌≡◌, ℕ, zero, suc, ◌+◌, Bool, true, false, List, [], ◌∷◌, map, length, Option, None, refl, sym, ap, subst, ◌∙◌}
use Rattle.std.specs.Prelude.{◌==◌, if◌then◌else◌, replicate, Result, Ok}
use Rattle.std.specs.List.{range_with_len}
use Rattle.cap_lin.specs.Linear.{Linear}
use Rattle.cap_prog.specs.Program.{PlainCase, PlainRegionType}
use Rattle.cap_goal_spec.specs.States.{PlainFact, PlainEnv}
use Rattle.cap_goal_spec.specs.Environments.{is_bound_by, unbound, region_env}
use Rattle.cap_rules.specs.Attempts.{Attempt, unit, ◌>>=◌}
use Rattle.cap_rules.specs.Making.{is_empty}
use Rattle.cap_rules.specs.Closing.{move_target}
use Rattle.cap_rules.specs.Taking.{binds_all, names_with, case_env}
use Rattle.cap_rules_steps.specs.Walks.{Makes}
use Rattle.cap_rules_steps.specs.declared.error.RuleError.{RuleError}
use Rattle.cap_rules_steps.proofs.Walking.{done_as}
use Rattle.cap_take_holdings.specs.Holdings.{names_given}

-- ---- the names of a case

abbrev nothing : Option Linear
nothing = None

none-either : (b : Bool) → (if b then nothing else nothing) ≡ nothing
none-either true = refl
none-either false = refl

none-from : (p : ℕ → Bool) (xs : List ℕ) → map (λ x. if p x then nothing else nothing) xs ≡ replicate (length xs) nothing
none-from p [] = refl
none-from p (x ∷ xs) = ap (λ (o : Option Linear). o ∷ map (λ y. if p y then nothing else nothing) xs) (none-either (p x)) ∙ ap (λ (os : PlainEnv). nothing ∷ os) (none-from p xs)

so-many : (a n : ℕ) → length (range_with_len a n) ≡ n
so-many a zero = refl
so-many a (suc n) = ap suc (so-many (a + 1) n)

none-given : (p : ℕ → Bool) (a n : ℕ) → map (λ x. if p x then nothing else nothing) (range_with_len a n) ≡ unbound n
none-given p a n = none-from p (range_with_len a n) ∙ ap (λ m. replicate m nothing) (so-many a n)

pub case-bound : (b : Bool) (k : PlainRegionType) (x : PlainCase) (f : PlainFact) (other : Attempt Linear) (e : PlainEnv) → b ≡ binds_all k x → b ≡ true → e ≡ region_env f (names_given k x None) → Makes (Ok e) (case_env k x f other)
case-bound b k x f other e h t q =
    subst (λ d. Makes (Ok e) (if d then unit (region_env f (unbound (length x.names))) else (other >>= λ t. unit (region_env f (names_with k x t))))) (sym t ∙ h)
    (done_as e (region_env f (unbound (length x.names))) (q ∙ ap (region_env f) (none-given (λ n. is_bound_by n x.items) k.params (length x.names))))

pub case-wanting : (b : Bool) (k : PlainRegionType) (x : PlainCase) (f : PlainFact) (other : Attempt Linear) (r : Result PlainEnv RuleError) → b ≡ binds_all k x → b ≡ false → Makes r (other >>= λ t. unit (region_env f (names_with k x t))) → Makes r (case_env k x f other)
case-wanting b k x f other r h t m =
    subst (λ d. Makes r (if d then unit (region_env f (unbound (length x.names))) else (other >>= λ t. unit (region_env f (names_with k x t))))) (sym t ∙ h) m

-- ---- the move that keeps the state

pub stays-there : (k : PlainRegionType) (f : PlainFact) (m : ℕ) (t : Linear) → m ≡ 0 → t ≡ f.state → Makes (Ok t) (move_target k f m)
stays-there k f m t h e = rw h (done_as t f.state e)

-- a member is there
pub some-there : {A : Type 0} (xs : List A) → (length xs == 0) ≡ false → is_empty xs ≡ false
some-there [] h = h
some-there (x ∷ xs) h = refl
