-- Rows that are added leave the facts as they are.
use Rattle.std.proofs.Common.{◌≡◌, ℕ, ◌<◌, Bool, true, false, List, [], ◌∷◌, ◌++◌, Option, Some, None, refl, sym, ap, subst, ◌∙◌, length}
use Rattle.std.specs.Prelude.{nat_lt, find, Ok, Err, Result}
use Rattle.std.specs.List.{list_any}
use Rattle.cap_lin.specs.Linear.{Linear}
use Rattle.cap_lin.specs.Rows.{row_of}
use Rattle.cap_lin.specs.declared.row.Row.{Row}
use Rattle.cap_lin.specs.declared.row.Sort.{Sort}
use Rattle.cap_lin.specs.declared.row.Sort.TheVariants.{Int}
use Rattle.cap_lin.specs.declared.row.Op.{Op}
use Rattle.cap_lin.specs.declared.row.Op.TheVariants.{Eq as Equal}
use Rattle.cap_rules_steps.specs.cap_goal_spec.States.{PlainFact, PlainState, longest_list}
use Rattle.cap_rules_steps.specs.cap_goal_spec.Environments.{zero_value, one_value}
use Rattle.cap_rules_steps.specs.cap_rules.Attempts.{Attempt, Event, unit, ◌>>=◌, go_on, need, appended}
use Rattle.cap_rules_steps.specs.cap_rules.Making.{with_row, with_comparison, with_equalities, with_same, with_false, with_fact, without_first, is_of_region, is_of_other_type}
use Rattle.cap_rules_steps.specs.Walks.{Makes}
use Rattle.cap_rules_steps.specs.declared.error.RuleError.{RuleError}
use Rattle.cap_rules_steps.proofs.Walking.{then_made, unmade}
use Rattle.std.specs.Prelude.{position, IfSome}
use Rattle.cap_take_holdings.specs.Holdings.{with_last_fact, without_place}
use Rattle.cap_take_holdings.proofs.Places.{without-placed, place-below}

-- whatever state the attempt comes to, its facts are these
pub record KeepsFacts (fs : List PlainFact) (o : Attempt PlainState) : Type 0 where
  pub keeps : (t : PlainState) → o.value ≡ Some t → t.facts ≡ fs

same : {A : Type 0} {x y : A} → Some x ≡ Some y → y ≡ x
same e = cc

clash : {A : Type 0} {x : A} → None ≡ Some x → ⊥
clash e = cc

row-value : (b : Bool) (s t : PlainState) (rows : List Row) → ((need b >>= λ _. unit rows) >>= λ all. unit (record s { rows = all })).value ≡ Some t → t.facts ≡ s.facts
row-value true s t rows e = ap (λ (u : PlainState). u.facts) (same e)
row-value false s t rows e = absurd (clash e)

comparison-value : (s t : PlainState) (l : Linear) (op : Op) (r : Linear) (o : Sort) → (with_comparison s l op r o).value ≡ Some t → t.facts ≡ s.facts
comparison-value s t l op r o e = row-value (nat_lt (length s.rows) longest_list) s t (s.rows ++ row_of l op r o ∷ []) e

pub comparison-keeps : (s : PlainState) (l : Linear) (op : Op) (r : Linear) (o : Sort) → KeepsFacts s.facts (with_comparison s l op r o)
comparison-keeps s l op r o = record { keeps = λ t e. comparison-value s t l op r o e }

value-keeps : {fs : List PlainFact} (es : List Event) (v : Option PlainState) (f : PlainState → Attempt PlainState) (t : PlainState) → ((u : PlainState) → v ≡ Some u → u.facts ≡ fs) → ((u : PlainState) → u.facts ≡ fs → KeepsFacts fs (f u)) → (go_on es v f).value ≡ Some t → t.facts ≡ fs
value-keeps es None f t h k e = absurd (clash e)
value-keeps es (Some u) f t h k e = (k u (h u refl)).keeps t e

-- one attempt after another
pub then-keeps : (fs : List PlainFact) (o : Attempt PlainState) (f : PlainState → Attempt PlainState) → KeepsFacts fs o → ((u : PlainState) → u.facts ≡ fs → KeepsFacts fs (f u)) → KeepsFacts fs (go_on o.events o.value f)
then-keeps fs o f h k = record { keeps = λ t e. value-keeps o.events o.value f t h.keeps k e }

pub unit-keeps : (fs : List PlainFact) (s : PlainState) → s.facts ≡ fs → KeepsFacts fs (unit s)
unit-keeps fs s e = record { keeps = λ t q. ap (λ (u : PlainState). u.facts) (same q) ∙ e }

comparison-after : (fs : List PlainFact) (s : PlainState) (l : Linear) (op : Op) (r : Linear) (o : Sort) → s.facts ≡ fs → KeepsFacts fs (with_comparison s l op r o)
comparison-after fs s l op r o e = record { keeps = λ t q. comparison-value s t l op r o q ∙ e }

equalities-keep : (fs : List PlainFact) (s : PlainState) (as' bs : List Linear) → s.facts ≡ fs → KeepsFacts fs (with_equalities s as' bs)
equalities-keep fs s [] bs e = unit-keeps fs s e
equalities-keep fs s (a ∷ as') [] e = unit-keeps fs s e
equalities-keep fs s (a ∷ as') (b ∷ bs) e = then-keeps fs (with_comparison s a Equal b Int) (λ u. with_equalities u as' bs) (comparison-after fs s a Equal b Int e) (λ u q. equalities-keep fs u as' bs q)

same-keeps : (s : PlainState) (f : PlainFact) (o : Option PlainFact) → KeepsFacts s.facts (with_same s f o)
same-keeps s f None = unit-keeps s.facts s refl
same-keeps s f (Some g) = then-keeps s.facts (with_equalities s g.args f.args) (λ u. with_comparison u g.state Equal f.state Int) (equalities-keep s.facts s g.args f.args refl) (λ u q. comparison-after s.facts u g.state Equal f.state Int q)

false-keeps : (s : PlainState) (b : Bool) → KeepsFacts s.facts (with_false s b)
false-keeps s true = comparison-keeps s zero_value Equal one_value Int
false-keeps s false = unit-keeps s.facts s refl

pub kept : (fs : List PlainFact) (o : Attempt PlainState) (t : PlainState) → KeepsFacts fs o → Makes (Ok t) o → t.facts ≡ fs
kept fs o t k m = k.keeps t (m.ends []).1

pub same-kept : (s t : PlainState) (f : PlainFact) (o : Option PlainFact) → Makes (Ok t) (with_same s f o) → t.facts ≡ s.facts
same-kept s t f o m = kept s.facts (with_same s f o) t (same-keeps s f o) m

pub false-kept : (s t : PlainState) (b : Bool) → Makes (Ok t) (with_false s b) → t.facts ≡ s.facts
false-kept s t b m = kept s.facts (with_false s b) t (false-keeps s b) m

-- ---- a fact is added, from part to part

abbrev last-of : PlainState → PlainFact → List PlainFact → PlainState → Attempt PlainState
last-of s f fs t = appended (without_first (is_of_region f) fs) f >>= λ facts. unit (record t { facts = facts })

abbrev after-false : PlainState → PlainFact → PlainState → Attempt PlainState
after-false s f u = with_false u (list_any (is_of_other_type f) s.facts) >>= λ t. last-of s f s.facts t

pub fact-differs : (s : PlainState) (f : PlainFact) (e : RuleError) → Makes (Err e) (with_same s f (find (is_of_region f) s.facts)) → Makes (Err e) (with_fact s f)
fact-differs s f e m = unmade e (with_same s f (find (is_of_region f) s.facts)) (after-false s f) m

pub fact-clashes : (s u : PlainState) (f : PlainFact) (e : RuleError) → Makes (Ok u) (with_same s f (find (is_of_region f) s.facts)) → Makes (Err e) (with_false u (list_any (is_of_other_type f) s.facts)) → Makes (Err e) (with_fact s f)
fact-clashes s u f e m k = then_made (Err e) (with_same s f (find (is_of_region f) s.facts)) (after-false s f) u m (unmade e (with_false u (list_any (is_of_other_type f) s.facts)) (last-of s f s.facts) k)

pub fact-added : (s u t w : PlainState) (f : PlainFact) (o : Option ℕ) (r : Result PlainState RuleError) → o ≡ position (is_of_region f) s.facts → Makes (Ok u) (with_same s f (find (is_of_region f) s.facts)) → Makes (Ok t) (with_false u (list_any (is_of_other_type f) s.facts)) → w ≡ record t { facts = without_place o t.facts } → Makes r (with_last_fact w f) → Makes r (with_fact s f)
fact-added s u t w f o r p m k e h =
    let q = false-kept u t (list_any (is_of_other_type f) s.facts) k ∙ same-kept s u f (find (is_of_region f) s.facts) m in
    let left : without_place o t.facts ≡ without_first (is_of_region f) s.facts = ap (without_place o) q ∙ without-placed (is_of_region f) s.facts o p in
    let made = subst (λ x. Makes r (with_last_fact x f)) e h in
    then_made r (with_same s f (find (is_of_region f) s.facts)) (after-false s f) u m (then_made r (with_false u (list_any (is_of_other_type f) s.facts)) (last-of s f s.facts) t k (subst (λ fs. Makes r (appended fs f >>= λ facts. unit (record t { facts = facts }))) left made))

-- the place is one of the later facts too
pub place-kept : (s u t : PlainState) (f : PlainFact) (i : ℕ) (o : Option ℕ) → o ≡ Some i → o ≡ position (is_of_region f) s.facts → Makes (Ok u) (with_same s f (find (is_of_region f) s.facts)) → Makes (Ok t) (with_false u (list_any (is_of_other_type f) s.facts)) → i < length t.facts
place-kept s u t f i o e p m k =
    let q = false-kept u t (list_any (is_of_other_type f) s.facts) k ∙ same-kept s u f (find (is_of_region f) s.facts) m in
    subst (λ fs. i < length fs) (sym q) (place-below (is_of_region f) s.facts i (sym p ∙ e))

some-below : (o : Option ℕ) (fs : List PlainFact) → ((i : ℕ) → o ≡ Some i → i < length fs) → IfSome o (λ i. i < length fs)
some-below None fs h = tt
some-below (Some i) fs h = h i refl

pub place-stands : (s u t : PlainState) (f : PlainFact) (o : Option ℕ) → o ≡ position (is_of_region f) s.facts → Makes (Ok u) (with_same s f (find (is_of_region f) s.facts)) → Makes (Ok t) (with_false u (list_any (is_of_other_type f) s.facts)) → IfSome o (λ i. i < length t.facts)
place-stands s u t f o p m k = some-below o t.facts (λ i e. place-kept s u t f i o e p m k)
