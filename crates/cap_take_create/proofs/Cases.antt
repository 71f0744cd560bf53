-- The environment of a case, whether or not it wants another value.
use Rattle.std.proofs.Common.{◌≡◌, ℕ, zero, suc, ◌+◌, Bool, true, false, ◌∷◌, map, length, Option, Some, None, refl, ap, ◌∙◌}
use Rattle.std.specs.Prelude.{if◌then◌else◌, replicate, Result, Ok, Err}
use Rattle.std.specs.List.{range_with_len}
use Rattle.cap_lin.specs.Linear.{Linear}
use Rattle.cap_prog.specs.Program.{PlainCase, PlainRegionType}
use Rattle.cap_goal_spec.specs.States.{PlainEnv, PlainFact}
use Rattle.cap_goal_spec.specs.Environments.{is_bound_by, region_env, unbound}
use Rattle.cap_rules.specs.Attempts.{Attempt, unit}
use Rattle.cap_rules.specs.Taking.{binds_all, names_with, case_env}
use Rattle.cap_rules_steps.specs.Walks.{Makes}
use Rattle.cap_rules_steps.specs.declared.error.RuleError.{RuleError}
use Rattle.cap_rules_steps.proofs.Walking.{then_made, unmade, done_as}
use Rattle.cap_take_holdings.specs.Holdings.{names_given}

abbrev nothing : Option Linear
nothing = None

none-either : (b : Bool) → (if b then nothing else nothing) ≡ nothing
none-either true = refl
none-either false = refl

abbrev none-if : (ℕ → Bool) → ℕ → Option Linear
none-if p x = if p x then nothing else nothing

none-each : (p : ℕ → Bool) (a n : ℕ) → map (none-if p) (range_with_len a n) ≡ replicate n nothing
none-each p a zero = refl
none-each p a (suc n) = ap (λ x. x ∷ map (none-if p) (range_with_len (a + 1) n)) (none-either (p a)) ∙ ap (λ xs. nothing ∷ xs) (none-each p (a + 1) n)

-- without a value all names of the case are unbound
names-none : (k : PlainRegionType) (c : PlainCase) → names_given k c None ≡ unbound (length c.names)
names-none k c = none-each (λ x. is_bound_by x c.items) k.params (length c.names)

first-of : {A : Type 0} (b : Bool) (x y : Attempt A) (r : Result A RuleError) → b ≡ true → Makes r x → Makes r (if b then x else y)
first-of true x y r h m = m
first-of false x y r h m = cc

second-of : {A : Type 0} (b : Bool) (x y : Attempt A) (r : Result A RuleError) → b ≡ false → Makes r y → Makes r (if b then x else y)
second-of false x y r h m = m
second-of true x y r h m = cc

abbrev all-unbound : PlainRegionType → PlainCase → PlainFact → Attempt PlainEnv
all-unbound k c f = unit (region_env f (unbound (length c.names)))

abbrev with-value : PlainRegionType → PlainCase → PlainFact → Linear → Attempt PlainEnv
with-value k c f t = unit (region_env f (names_with k c t))

pub env-unbound : (k : PlainRegionType) (c : PlainCase) (f : PlainFact) (o : Attempt Linear) (e : PlainEnv) → binds_all k c ≡ true → e ≡ region_env f (names_given k c None) → Makes (Ok e) (case_env k c f o)
env-unbound k c f o e h q = first-of (binds_all k c) (all-unbound k c f) _ (Ok e) h (done_as e (region_env f (unbound (length c.names))) (q ∙ ap (region_env f) (names-none k c)))

pub env-given : (k : PlainRegionType) (c : PlainCase) (f : PlainFact) (o : Attempt Linear) (t : Linear) (e : PlainEnv) → binds_all k c ≡ false → Makes (Ok t) o → e ≡ region_env f (names_given k c (Some t)) → Makes (Ok e) (case_env k c f o)
env-given k c f o t e h m q = second-of (binds_all k c) (all-unbound k c f) _ (Ok e) h (then_made (Ok e) o (with-value k c f) t m (done_as e (region_env f (names_with k c t)) q))

pub env-fails : (k : PlainRegionType) (c : PlainCase) (f : PlainFact) (o : Attempt Linear) (e : RuleError) → binds_all k c ≡ false → Makes (Err e) o → Makes (Err e) (case_env k c f o)
env-fails k c f o e h m = second-of (binds_all k c) (all-unbound k c f) _ (Err e) h (unmade e o (with-value k c f) m)
