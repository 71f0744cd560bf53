-- Ways in which nothing is taken out of a piece.
use Rattle.std.proofs.Common.{◌≡◌, ℕ, zero, suc, List, Option, Some, None, refl}
use Rattle.std.specs.Prelude.{Err}
use Rattle.cap_lin.specs.Linear.{Linear}
use Rattle.cap_lin.specs.declared.row.Row.{Row}
use Rattle.cap_goal_spec.specs.States.{PlainEnv, PlainState}
use Rattle.cap_goal_spec.specs.Environments.{settled, open_to, stuck}
use Rattle.cap_rules.specs.Taking.{cut_one, cut_share, cut_source, cut_tokens, cut_new_tokens, cut_index, cut_onwards}
use Rattle.cap_rules_steps.specs.Walks.{Makes, Claims}
use Rattle.cap_rules_steps.specs.declared.error.RuleError.TheVariants.{NotApplicable}
use Rattle.cap_rules_steps.proofs.Walking.{inapplicable, weaker}

abbrev Lists : Type 0
Lists = List (List Row)

pub no-one : (s : PlainState) (env : PlainEnv) (way : ℕ) → (way ≡ 0 → ⊥) → Makes (Err NotApplicable) (cut_one s env way)
no-one s env zero h = absurd (h refl)
no-one s env (suc way) h = inapplicable

-- ---- what a term stands for

pub no-share-by : (s : PlainState) (env : PlainEnv) (a t : Linear) (way : ℕ) (ls : Lists) → (way ≡ 0 → ⊥) → (way ≡ 1 → ⊥) → Claims (Err NotApplicable) ls ls (cut_share s env a way (settled t))
no-share-by s env a t zero ls h k = absurd (h refl)
no-share-by s env a t (suc zero) ls h k = absurd (k refl)
no-share-by s env a t (suc (suc way)) ls h k = weaker _ _ ls inapplicable

pub no-source-by : (s : PlainState) (env : PlainEnv) (m t : Linear) (way : ℕ) (ls : Lists) → (way ≡ 0 → ⊥) → (way ≡ 1 → ⊥) → Claims (Err NotApplicable) ls ls (cut_source s env m way (settled t))
no-source-by s env m t zero ls h k = absurd (h refl)
no-source-by s env m t (suc zero) ls h k = absurd (k refl)
no-source-by s env m t (suc (suc way)) ls h k = weaker _ _ ls inapplicable

pub no-tokens-by : (s : PlainState) (env : PlainEnv) (m t : Linear) (way : ℕ) (ls : Lists) → (way ≡ 0 → ⊥) → (way ≡ 1 → ⊥) → Claims (Err NotApplicable) ls ls (cut_tokens s env m way (settled t))
no-tokens-by s env m t zero ls h k = absurd (h refl)
no-tokens-by s env m t (suc zero) ls h k = absurd (k refl)
no-tokens-by s env m t (suc (suc way)) ls h k = weaker _ _ ls inapplicable

pub no-new-tokens-by : (s : PlainState) (env : PlainEnv) (m t : Linear) (way : ℕ) (ls : Lists) → (way ≡ 1 → ⊥) → Claims (Err NotApplicable) ls ls (cut_new_tokens s env m way (settled t))
no-new-tokens-by s env m t zero ls h = weaker _ _ ls inapplicable
no-new-tokens-by s env m t (suc zero) ls h = absurd (h refl)
no-new-tokens-by s env m t (suc (suc way)) ls h = weaker _ _ ls inapplicable

-- ---- an open slot

pub no-share-as : (s : PlainState) (env : PlainEnv) (a : Linear) (x : Option ℕ) (way : ℕ) → (way ≡ 1 → ⊥) → Makes (Err NotApplicable) (cut_share s env a way (open_to x))
no-share-as s env a x zero h = inapplicable
no-share-as s env a x (suc zero) h = absurd (h refl)
no-share-as s env a x (suc (suc way)) h = inapplicable

pub no-source-as : (s : PlainState) (env : PlainEnv) (m : Linear) (x : Option ℕ) (way : ℕ) → (way ≡ 0 → ⊥) → Makes (Err NotApplicable) (cut_source s env m way (open_to x))
no-source-as s env m x zero h = absurd (h refl)
no-source-as s env m x (suc zero) h = inapplicable
no-source-as s env m x (suc (suc way)) h = inapplicable

pub no-tokens-as : (s : PlainState) (env : PlainEnv) (m : Linear) (x : Option ℕ) (way : ℕ) → (way ≡ 0 → ⊥) → Makes (Err NotApplicable) (cut_tokens s env m way (open_to x))
no-tokens-as s env m x zero h = absurd (h refl)
no-tokens-as s env m x (suc zero) h = inapplicable
no-tokens-as s env m x (suc (suc way)) h = inapplicable

pub no-new-tokens-as : (s : PlainState) (env : PlainEnv) (m : Linear) (x : Option ℕ) (way : ℕ) (ls : Lists) → Claims (Err NotApplicable) ls ls (cut_new_tokens s env m way (open_to x))
no-new-tokens-as s env m x zero ls = weaker _ _ ls inapplicable
no-new-tokens-as s env m x (suc zero) ls = weaker _ _ ls inapplicable
no-new-tokens-as s env m x (suc (suc way)) ls = weaker _ _ ls inapplicable

-- ---- a term with an unbound name

pub no-share : (s : PlainState) (env : PlainEnv) (a : Linear) (way : ℕ) (ls : Lists) → Claims (Err NotApplicable) ls ls (cut_share s env a way stuck)
no-share s env a zero ls = weaker _ _ ls inapplicable
no-share s env a (suc zero) ls = weaker _ _ ls inapplicable
no-share s env a (suc (suc way)) ls = weaker _ _ ls inapplicable

pub no-source : (s : PlainState) (env : PlainEnv) (m : Linear) (way : ℕ) (ls : Lists) → Claims (Err NotApplicable) ls ls (cut_source s env m way stuck)
no-source s env m zero ls = weaker _ _ ls inapplicable
no-source s env m (suc zero) ls = weaker _ _ ls inapplicable
no-source s env m (suc (suc way)) ls = weaker _ _ ls inapplicable

pub no-tokens : (s : PlainState) (env : PlainEnv) (m : Linear) (way : ℕ) (ls : Lists) → Claims (Err NotApplicable) ls ls (cut_tokens s env m way stuck)
no-tokens s env m zero ls = weaker _ _ ls inapplicable
no-tokens s env m (suc zero) ls = weaker _ _ ls inapplicable
no-tokens s env m (suc (suc way)) ls = weaker _ _ ls inapplicable

pub no-new-tokens : (s : PlainState) (env : PlainEnv) (m : Linear) (way : ℕ) (ls : Lists) → Claims (Err NotApplicable) ls ls (cut_new_tokens s env m way stuck)
no-new-tokens s env m zero ls = weaker _ _ ls inapplicable
no-new-tokens s env m (suc zero) ls = weaker _ _ ls inapplicable
no-new-tokens s env m (suc (suc way)) ls = weaker _ _ ls inapplicable

-- ---- indices

pub no-index-by : (s : PlainState) (env : PlainEnv) (a : Linear) (e : Option Linear) (t : Linear) (way : ℕ) (ls : Lists) → (way ≡ 0 → ⊥) → (way ≡ 1 → ⊥) → Claims (Err NotApplicable) ls ls (cut_index s env a e way (settled t))
no-index-by s env a e t zero ls h k = absurd (h refl)
no-index-by s env a e t (suc zero) ls h k = absurd (k refl)
no-index-by s env a None t (suc (suc way)) ls h k = weaker _ _ ls inapplicable
no-index-by s env a (Some x) t (suc (suc way)) ls h k = weaker _ _ ls inapplicable

pub no-index-as : (s : PlainState) (env : PlainEnv) (a : Linear) (e : Option Linear) (x : Option ℕ) (way : ℕ) (ls : Lists) → (way ≡ 1 → ⊥) → Claims (Err NotApplicable) ls ls (cut_index s env a e way (open_to x))
no-index-as s env a None x zero ls h = weaker _ _ ls inapplicable
no-index-as s env a (Some y) x zero ls h = weaker _ _ ls inapplicable
no-index-as s env a e x (suc zero) ls h = absurd (h refl)
no-index-as s env a None x (suc (suc way)) ls h = weaker _ _ ls inapplicable
no-index-as s env a (Some y) x (suc (suc way)) ls h = weaker _ _ ls inapplicable

pub no-index : (s : PlainState) (env : PlainEnv) (a : Linear) (e : Option Linear) (way : ℕ) (ls : Lists) → Claims (Err NotApplicable) ls ls (cut_index s env a e way stuck)
no-index s env a None zero ls = weaker _ _ ls inapplicable
no-index s env a None (suc zero) ls = weaker _ _ ls inapplicable
no-index s env a None (suc (suc way)) ls = weaker _ _ ls inapplicable
no-index s env a (Some y) zero ls = weaker _ _ ls inapplicable
no-index s env a (Some y) (suc zero) ls = weaker _ _ ls inapplicable
no-index s env a (Some y) (suc (suc way)) ls = weaker _ _ ls inapplicable

pub no-onwards-by : (s : PlainState) (env : PlainEnv) (a t : Linear) (way : ℕ) (ls : Lists) → (way ≡ 0 → ⊥) → (way ≡ 1 → ⊥) → Claims (Err NotApplicable) ls ls (cut_onwards s env a way (settled t))
no-onwards-by s env a t zero ls h k = absurd (h refl)
no-onwards-by s env a t (suc zero) ls h k = absurd (k refl)
no-onwards-by s env a t (suc (suc way)) ls h k = weaker _ _ ls inapplicable

pub no-onwards-as : (s : PlainState) (env : PlainEnv) (a : Linear) (x : Option ℕ) (way : ℕ) → (way ≡ 0 → ⊥) → Makes (Err NotApplicable) (cut_onwards s env a way (open_to x))
no-onwards-as s env a x zero h = absurd (h refl)
no-onwards-as s env a x (suc zero) h = inapplicable
no-onwards-as s env a x (suc (suc way)) h = inapplicable

pub no-onwards : (s : PlainState) (env : PlainEnv) (a : Linear) (way : ℕ) (ls : Lists) → Claims (Err NotApplicable) ls ls (cut_onwards s env a way stuck)
no-onwards s env a zero ls = weaker _ _ ls inapplicable
no-onwards s env a (suc zero) ls = weaker _ _ ls inapplicable
no-onwards s env a (suc (suc way)) ls = weaker _ _ ls inapplicable
