-- Slots against terms, one after the other.
use Rattle.std.proofs.Common.{◌≡◌, ℕ, suc, ◌+◌, List, ◌∷◌, map, sym, ap, subst, ◌∙◌, ◌<◌, ◌≤◌, length, get_or, drop, drop-cons, add-one}
use Rattle.std.proofs.lemmas.List.{drop_all, get_or-map}
use Rattle.std.specs.Prelude.{Ok, Err}
use Rattle.cap_lin.specs.Linear.{Linear}
use Rattle.cap_lin.specs.declared.row.Row.{Row}
use Rattle.cap_prog.specs.declared.assertion.Slot.{Slot}
use Rattle.cap_prog.specs.declared.assertion.Slot.TheVariants.{Any}
use Rattle.cap_rules_steps.specs.cap_goal_spec.States.{PlainEnv}
use Rattle.cap_rules_steps.specs.cap_goal_spec.Environments.{zero_value}
use Rattle.cap_rules_steps.specs.cap_rules.Attempts.{Attempt, go_on}
use Rattle.cap_rules_steps.specs.cap_rules.Making.{match_slot, match_slots}
use Rattle.cap_rules_steps.specs.Walks.{Claims}
use Rattle.cap_rules_steps.specs.declared.error.RuleError.{RuleError}
use Rattle.cap_rules_steps.specs.declared.error.RuleError.TheVariants.{NotApplicable}
use Rattle.cap_rules_steps.proofs.Listing.{LeadsClaims}
use Rattle.cap_rules_steps.proofs.Walking.{weaker, done, inapplicable, split-at, claims_then, claims_fail}

abbrev Lists : Type 0
Lists = List (List Row)

abbrev after-slot : List Row → List Slot → List Linear → PlainEnv → Attempt PlainEnv
after-slot rows xs ts env = match_slots rows env xs ts

slot-more : (rows : List Row) (env : PlainEnv) (xs : List Slot) (ts : List Linear) (i : ℕ) (x : Slot) (t : Linear) → i < length xs → x ≡ get_or xs i x → i < length ts → t ≡ get_or ts i t → match_slots rows env (drop i xs) (drop i ts) ≡ go_on (match_slot rows env x t).events (match_slot rows env x t).value (after-slot rows (drop (suc i) xs) (drop (suc i) ts))
slot-more rows env xs ts i x t h e k q = ap (λ l. match_slots rows env l (drop i ts)) (split-at xs i x h e) ∙ ap (λ l. match_slots rows env (x ∷ drop (suc i) xs) l) (split-at ts i t k q)

pub slots-next : (rows : List Row) (env env' : PlainEnv) (xs : List Slot) (ts : List Linear) (i : ℕ) (x : Slot) (t : Linear) (before middle next : Lists) (whole : Attempt PlainEnv) → i < length xs → x ≡ get_or xs i x → i < length ts → t ≡ get_or ts i t → Claims (Ok env') middle next (match_slot rows env x t) → LeadsClaims before middle (match_slots rows env (drop i xs) (drop i ts)) whole → LeadsClaims before next (match_slots rows env' (drop (i + 1) xs) (drop (i + 1) ts)) whole
slots-next rows env env' xs ts i x t before middle next whole h e k q m l =
    rw add-one (record { leads = λ r after c. l.leads r after (subst (Claims r middle after) (sym (slot-more rows env xs ts i x t h e k q)) (claims_then r (match_slot rows env x t) (after-slot rows (drop (suc i) xs) (drop (suc i) ts)) env' middle next after m c)) })

pub slots-fail : (rows : List Row) (env : PlainEnv) (xs : List Slot) (ts : List Linear) (i : ℕ) (x : Slot) (t : Linear) (before middle next : Lists) (whole : Attempt PlainEnv) (f : RuleError) → i < length xs → x ≡ get_or xs i x → i < length ts → t ≡ get_or ts i t → Claims (Err f) middle next (match_slot rows env x t) → LeadsClaims before middle (match_slots rows env (drop i xs) (drop i ts)) whole → Claims (Err f) before next whole
slots-fail rows env xs ts i x t before middle next whole f h e k q m l =
    l.leads (Err f) next (subst (Claims (Err f) middle next) (sym (slot-more rows env xs ts i x t h e k q)) (claims_fail f (match_slot rows env x t) (after-slot rows (drop (suc i) xs) (drop (suc i) ts)) middle next m))

-- terms or slots alone are left over
pub slots-short : (rows : List Row) (env : PlainEnv) (xs : List Slot) (ts : List Linear) (i : ℕ) (before middle : Lists) (whole : Attempt PlainEnv) → i < length xs → length ts ≤ i → LeadsClaims before middle (match_slots rows env (drop i xs) (drop i ts)) whole → Claims (Err NotApplicable) before middle whole
slots-short rows env xs ts i before middle whole h k l =
    l.leads (Err NotApplicable) middle (rw (drop-cons xs i Any h, drop_all i ts k) (weaker _ _ middle inapplicable))

pub slots-long : (rows : List Row) (env : PlainEnv) (xs : List Slot) (ts : List Linear) (i : ℕ) (before middle : Lists) (whole : Attempt PlainEnv) → length xs ≤ i → i < length ts → LeadsClaims before middle (match_slots rows env (drop i xs) (drop i ts)) whole → Claims (Err NotApplicable) before middle whole
slots-long rows env xs ts i before middle whole h k l =
    l.leads (Err NotApplicable) middle (rw (drop_all i xs h, drop-cons ts i zero_value k) (weaker _ _ middle inapplicable))

pub slots-end : (rows : List Row) (env : PlainEnv) (xs : List Slot) (ts : List Linear) (i : ℕ) (before middle : Lists) (whole : Attempt PlainEnv) → length xs ≤ i → length ts ≤ i → LeadsClaims before middle (match_slots rows env (drop i xs) (drop i ts)) whole → Claims (Ok env) before middle whole
slots-end rows env xs ts i before middle whole h k l =
    l.leads (Ok env) middle (rw (drop_all i xs h, drop_all i ts k) (weaker _ _ middle (done env)))

pub member-seen : {X Y : Type 0} (f : X → Y) (xs : List X) (i : ℕ) (b : X) → i < length xs → b ≡ get_or xs i b → f b ≡ get_or (map f xs) i (f b)
member-seen f xs i b h e = ap f e ∙ sym (get_or-map f xs i b (f b) h)
