-- Rows that terms equal others, one after the other.
use Rattle.std.proofs.Common.{◌≡◌, ℕ, suc, ◌+◌, List, [], ◌∷◌, sym, ap, subst, ◌∙◌, ◌<◌, ◌≤◌, length, get_or, drop, add-one}
use Rattle.std.proofs.lemmas.List.{drop_all}
use Rattle.std.specs.Prelude.{Ok, Err}
use Rattle.cap_lin.specs.Linear.{Linear}
use Rattle.cap_lin.specs.declared.row.Sort.TheVariants.{Int}
use Rattle.cap_lin.specs.declared.row.Op.TheVariants.{Eq as Equal}
use Rattle.cap_rules_steps.specs.cap_goal_spec.States.{PlainState}
use Rattle.cap_rules_steps.specs.cap_rules.Attempts.{Attempt, go_on}
use Rattle.cap_rules_steps.specs.cap_rules.Making.{with_comparison, with_equalities}
use Rattle.cap_rules_steps.specs.Walks.{Makes}
use Rattle.cap_rules_steps.specs.declared.error.RuleError.{RuleError}
use Rattle.cap_rules_steps.proofs.Walking.{Leads, then_made, unmade, done, split-at}

abbrev after-row : List Linear → List Linear → PlainState → Attempt PlainState
after-row as' bs s = with_equalities s as' bs

row-more : (s : PlainState) (as' bs : List Linear) (i : ℕ) (a b : Linear) → i < length as' → a ≡ get_or as' i a → i < length bs → b ≡ get_or bs i b → with_equalities s (drop i as') (drop i bs) ≡ go_on (with_comparison s a Equal b Int).events (with_comparison s a Equal b Int).value (after-row (drop (suc i) as') (drop (suc i) bs))
row-more s as' bs i a b h e k q = ap (λ l. with_equalities s l (drop i bs)) (split-at as' i a h e) ∙ ap (λ l. with_equalities s (a ∷ drop (suc i) as') l) (split-at bs i b k q)

pub rows-next : (s t : PlainState) (as' bs : List Linear) (i : ℕ) (a b : Linear) (whole : Attempt PlainState) → i < length as' → a ≡ get_or as' i a → i < length bs → b ≡ get_or bs i b → Makes (Ok t) (with_comparison s a Equal b Int) → Leads (with_equalities s (drop i as') (drop i bs)) whole → Leads (with_equalities t (drop (i + 1) as') (drop (i + 1) bs)) whole
rows-next s t as' bs i a b whole h e k q m l =
    rw add-one (record { leads = λ r c. l.leads r (subst (Makes r) (sym (row-more s as' bs i a b h e k q)) (then_made r (with_comparison s a Equal b Int) (after-row (drop (suc i) as') (drop (suc i) bs)) t m c)) })

pub rows-fail : (s : PlainState) (as' bs : List Linear) (i : ℕ) (a b : Linear) (whole : Attempt PlainState) (f : RuleError) → i < length as' → a ≡ get_or as' i a → i < length bs → b ≡ get_or bs i b → Makes (Err f) (with_comparison s a Equal b Int) → Leads (with_equalities s (drop i as') (drop i bs)) whole → Makes (Err f) whole
rows-fail s as' bs i a b whole f h e k q m l =
    l.leads (Err f) (subst (Makes (Err f)) (sym (row-more s as' bs i a b h e k q)) (unmade f (with_comparison s a Equal b Int) (after-row (drop (suc i) as') (drop (suc i) bs)) m))

right-ends : (s : PlainState) (as' : List Linear) → Makes (Ok s) (with_equalities s as' [])
right-ends s [] = done s
right-ends s (a ∷ as') = done s

pub rows-short : (s : PlainState) (as' bs : List Linear) (i : ℕ) (whole : Attempt PlainState) → length bs ≤ i → Leads (with_equalities s (drop i as') (drop i bs)) whole → Makes (Ok s) whole
rows-short s as' bs i whole k l = l.leads (Ok s) (rw (drop_all i bs k) (right-ends s (drop i as')))

pub rows-end : (s : PlainState) (as' bs : List Linear) (i : ℕ) (whole : Attempt PlainState) → length as' ≤ i → Leads (with_equalities s (drop i as') (drop i bs)) whole → Makes (Ok s) whole
rows-end s as' bs i whole k l = l.leads (Ok s) (rw (drop_all i as' k) (done s))
