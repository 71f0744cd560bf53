-- What facts say of a table, where there are region types: adding one, and giving one up.
use Rattle.cap_account_resources.proofs.Heaps.{both-true}
use Rattle.std.proofs.Common.{◌≡◌, ◌≢◌, ℕ, ◌<◌, ℤ, List, [], ◌∷◌, ◌++◌, length, map, drop, get_or, cond, arith, refl, sym, ap, ◌∙◌, subst, Option, Some, None, Bool, true, false}
use Rattle.std.specs.Prelude.{slice_get, find, not, ◌&&◌, ◌||◌, ◌==◌, if◌then◌else◌}
use Rattle.std.specs.List.{AllByRecursion, list_any}
use Rattle.std.proofs.lemmas.Bool.Decides.{nat_tests}
use Rattle.cap_lin.specs.Linear.{Linear, variable, same_term}
use Rattle.cap_lin.specs.Rows.{row_of}
use Rattle.cap_lin.specs.Values.{Valuation, value}
use Rattle.cap_lin.specs.Solves.{Holds}
use Rattle.cap_lin.specs.Laws.Sameness.{same_term-decides}
use Rattle.cap_lin.specs.declared.row.Row.{Row}
use Rattle.cap_lin.specs.declared.row.Sort.{Sort}
use Rattle.cap_lin.specs.declared.row.Sort.TheVariants.{Int}
use Rattle.cap_lin.specs.declared.row.Op.TheVariants.{Eq as Equal}
use Rattle.cap_lin.proofs.Rows.{row_of-means}
use Rattle.cap_prog.specs.declared.assertion.Slot.{Slot}
use Rattle.cap_prog.specs.declared.assertion.Slot.TheVariants.{Is}
use Rattle.cap_prog.specs.Scopes.{Scope, SlotFits}
use Rattle.cap_machine_accounts.specs.Assertions.{SlotIs, SlotsAre}
use Rattle.cap_machine_accounts.specs.Accounts.{EachTwo}
use Rattle.cap_goal_spec.specs.States.{PlainFact, PlainEnv, PlainState}
use Rattle.cap_goal_spec.specs.Environments.{reading}
use Rattle.cap_rules.specs.Attempts.{Attempt, unit, ◌>>=◌, appended}
use Rattle.cap_rules.specs.Making.{match_slot, match_slots, is_of_region, is_of_other_type, without_first, with_comparison, with_equalities, with_same, with_false, with_fact}
use Rattle.cap_account_states.proofs.Alike.{values-alike, Alike, alike-same, alike-less, value-alike}
use Rattle.cap_account_states.specs.Nodes.{Comes}
use Rattle.cap_account_resources.specs.Parts.{known_as, Table}
use Rattle.cap_account_resources.proofs.Lists.{some-same, none-some, join-nil, join-assoc, map-join, all-both, all-more, Among}
use Rattle.cap_account_states.proofs.Terms.{Over, vars-more, RowOver, row-over, agree-same}
use Rattle.cap_account_states.proofs.Attempts.{comes-bind, comes-appended, comes-comparison, after-comparison}
use Rattle.cap_account_states.proofs.Meets.{Free, Usable, usable-old, usable-on, Meets, Old, Same, variable-value}
use Rattle.cap_account_states.proofs.Naming.{Placed, Means, Stays, means-back}
use Rattle.cap_account_states.proofs.Matching.{Outside, met_env, matching}

-- the state of a loose fact isn't known
abbrev pub StateHolds : Bool → Option ℤ → ℤ → Type 0
StateHolds true o z = Unit {0}
StateHolds false o z = o ≡ Some z

abbrev pub FactHolds : Valuation → Table → PlainFact → Type 0
FactHolds v T f =
    (o : Option ℤ)
    × (T (value v.whole f.region) ≡ Some (known_as f.kind (map (value v.whole) f.args) o))
    × StateHolds f.loose o (value v.whole f.state)

-- the variables of a fact; a loose one's state isn't looked at
abbrev pub StateOver : (ℕ → Type 0) → Bool → Linear → Type 0
StateOver P true t = Unit {0}
StateOver P false t = Over P t

abbrev pub FactOver : (ℕ → Type 0) → PlainFact → Type 0
FactOver P f = Over P f.region × AllByRecursion (Over P) f.args × StateOver P f.loose f.state

-- a loose fact's state is one of the variables that are kept free, and no other loose fact's
abbrev pub LooseState : List ℕ → List Sort → PlainFact → Type 0
LooseState ks sorts f =
    f.loose ≡ true →
    (x : ℕ) × (f.state ≡ variable x) × Among x ks × (slice_get sorts x ≡ Some Int)

abbrev pub StatesDiffer : PlainFact → PlainFact → Type 0
StatesDiffer f g = f.loose ≡ true → g.loose ≡ true → f.state ≢ g.state

-- the facts of a state hold of the table
pub record Facts (ks : List ℕ) (v : Valuation) (T : Table) (s : PlainState) : Type 0 where
  pub holds : AllByRecursion (FactHolds v T) s.facts
  pub over : AllByRecursion (FactOver (Usable ks s.sorts Int)) s.facts
  pub loose : AllByRecursion (LooseState ks s.sorts) s.facts
  pub differ : EachTwo StatesDiffer s.facts

-- ---- at alike values, and in a later state

state-alike :
    (P : ℕ → Type 0) (v w : Valuation) → Alike P v w → (b : Bool) (o : Option ℤ) (t : Linear) →
    StateOver P b t → StateHolds b o (value v.whole t) → StateHolds b o (value w.whole t)
state-alike P v w a true o t k h = tt
state-alike P v w a false o t k h = h ∙ ap Some (sym (value-alike P v w a t k))

fact-alike :
    (P : ℕ → Type 0) (v w : Valuation) (T : Table) → Alike P v w → (f : PlainFact) → FactOver P f →
    FactHolds v T f → FactHolds w T f
fact-alike P v w T a f b h = (
  h.0,
  ap T (value-alike P v w a f.region b.0) ∙ h.1 ∙ ap (λ zs. Some (known_as f.kind zs h.0))
      (sym (values-alike P v w a f.args b.1)),
  state-alike P v w a f.loose h.0 f.state b.2 h.2,
)

pub facts-alike :
    (P : ℕ → Type 0) (v w : Valuation) (T : Table) → Alike P v w → (fs : List PlainFact) →
    AllByRecursion (FactOver P) fs → AllByRecursion (FactHolds v T) fs →
    AllByRecursion (FactHolds w T) fs
facts-alike P v w T a [] b h = tt
facts-alike P v w T a (f ∷ fs) b h =
    (fact-alike P v w T a f b.0 h.0, facts-alike P v w T a fs b.1 h.1)

pub fact-more :
    (P Q : ℕ → Type 0) → ((x : ℕ) → P x → Q x) → (f : PlainFact) → FactOver P f → FactOver Q f
fact-more P Q g f h = (
  vars-more P Q g f.region.parts h.0,
  all-more (Over P) (Over Q) (λ t. vars-more P Q g t.parts) f.args h.1,
  by f.loose h.2,
)
  where
    by : (b : Bool) → StateOver P b f.state → StateOver Q b f.state
    by true k = tt
    by false k = vars-more P Q g f.state.parts k

-- the states of loose facts may have any values
pub facts-later :
    (ks : List ℕ) (v w : Valuation) (T : Table) (s t : PlainState) →
    ((x : ℕ) (o : Sort) → slice_get s.sorts x ≡ Some o → slice_get t.sorts x ≡ Some o) →
    t.facts ≡ s.facts → Alike (λ x. (x < length s.sorts) × Free ks x) v w → Facts ks v T s →
    Facts ks w T t
facts-later ks v w T s t sorts e a f =
    let R = Usable ks s.sorts Int in
    let S = Usable ks t.sorts Int in
    let P : ℕ → Type 0 = λ x. (x < length s.sorts) × Free ks x in
    let near = all-more (FactOver R) (FactOver P)
    (fact-more R P (λ x h. (usable-old ks s.sorts Int x h, h.1))) s.facts f.over in
    let over = all-more (FactOver R) (FactOver S)
    (fact-more R S (usable-on ks s.sorts t.sorts sorts Int)) s.facts f.over in
    let loose = all-more (LooseState ks s.sorts) (LooseState ks t.sorts)
    (λ g h l. let q = h l in (q.0, q.1, q.2, sorts q.0 Int q.3)) s.facts f.loose in
    record {
      holds =
          subst (AllByRecursion (FactHolds w T)) (sym e)
          (facts-alike P v w T a s.facts near f.holds);
      over = subst (AllByRecursion (FactOver S)) (sym e) over;
      loose = subst (AllByRecursion (LooseState ks t.sorts)) (sym e) loose;
      differ = subst (EachTwo StatesDiffer) (sym e) f.differ;
    }

-- in a state with the same sorts and facts
pub facts-same :
    (ks : List ℕ) (v : Valuation) (T : Table) (s t : PlainState) → t.sorts ≡ s.sorts →
    t.facts ≡ s.facts → Facts ks v T s → Facts ks v T t
facts-same ks v T s t ss e f =
    facts-later ks v v T s t (λ x o h. ap (λ us. slice_get us x) ss ∙ h) e
    (alike-same (λ x. (x < length s.sorts) × Free ks x) v) f

pub facts-on :
    (ks : List ℕ) (v w : Valuation) (T : Table) (s t : PlainState) → Same s t →
    Alike (Old s) v w → Facts ks v T s → Facts ks w T t
facts-on ks v w T s t m a f =
    facts-later ks v w T s t m.sorts m.facts
    (alike-less (λ x. (x < length s.sorts) × Free ks x) (Old s) v w (λ x h. h.0) a) f

-- ---- what adding a fact makes of a state

abbrev pub equal_rows : List Linear → List Linear → List Row
equal_rows (a ∷ as') (b ∷ bs) = row_of a Equal b Int ∷ equal_rows as' bs
equal_rows _ _ = []

-- the rows that a fact which is there already adds
abbrev pub merging_rows : PlainFact → Option PlainFact → List Row
merging_rows f None = []
merging_rows f (Some g) = equal_rows g.args f.args ++ row_of g.state Equal f.state Int ∷ []

abbrev rows_added : PlainState → List Row → PlainState
rows_added s rs = record s { rows = s.rows ++ rs }

none-added : (s : PlainState) (P : PlainState → Type 0) → P s → P (rows_added s [])
none-added s P h = subst (λ rs. P (record s { rows = rs })) (sym (join-nil s.rows)) h

comes-equalities :
    (as' bs : List Linear) (s : PlainState) (P : PlainState → Type 0) →
    Comes (with_equalities s as' bs) P → P (rows_added s (equal_rows as' bs))
comes-equalities [] [] s P h = none-added s P h.1
comes-equalities [] (b ∷ bs) s P h = none-added s P h.1
comes-equalities (a ∷ as') [] s P h = none-added s P h.1
comes-equalities (a ∷ as') (b ∷ bs) s P h =
    let k = after-comparison s a Equal b Int (λ s'. with_equalities s' as' bs) P h in
    subst (λ rs. P (record s { rows = rs }))
    (sym (join-assoc s.rows (row_of a Equal b Int ∷ []) (equal_rows as' bs)))
    (comes-equalities as' bs (rows_added s (row_of a Equal b Int ∷ [])) P k)

comes-same :
    (s : PlainState) (f : PlainFact) (g : Option PlainFact) (P : PlainState → Type 0) →
    Comes (with_same s f g) P → P (rows_added s (merging_rows f g))
comes-same s f None P h = none-added s P h.1
comes-same s f (Some g) P h =
    let k = comes-equalities g.args f.args s
    (λ s'. Comes (with_comparison s' g.state Equal f.state Int) P)
    (comes-bind (with_equalities s g.args f.args)
    (λ s'. with_comparison s' g.state Equal f.state Int) P h) in
    subst (λ rs. P (record s { rows = rs }))
    (sym (join-assoc s.rows (equal_rows g.args f.args) (row_of g.state Equal f.state Int ∷ [])))
    (comes-comparison (rows_added s (equal_rows g.args f.args)) g.state Equal f.state Int P k)

-- the state with the fact, where none of its region has another type
abbrev pub fact_added : PlainState → PlainFact → PlainState
fact_added s f = record s {
  rows = s.rows ++ merging_rows f (find (is_of_region f) s.facts);
  facts = without_first (is_of_region f) s.facts ++ f ∷ [];
}

pub comes-fact :
    (s : PlainState) (f : PlainFact) (P : PlainState → Type 0) →
    list_any (is_of_other_type f) s.facts ≡ false → Comes (with_fact s f) P → P (fact_added s f)
comes-fact s f P e h =
    let o = find (is_of_region f) s.facts in
    let last : PlainState → Attempt PlainState = λ s''. appended
    (without_first (is_of_region f) s.facts) f >>= λ facts. unit
    (record s'' { facts = facts }) in
    let rest : PlainState → Attempt PlainState = λ s'. with_false s'
    (list_any (is_of_other_type f) s.facts) >>= last in
    let s1 = rows_added s (merging_rows f o) in
    let k1 = comes-same s f o (λ s'. Comes (rest s') P) (comes-bind (with_same s f o) rest P h) in
    let k2 : Comes (last s1) P =
    (subst (λ b. Comes (with_false s1 b) (λ s'. Comes (last s') P)) e
    (comes-bind (with_false s1 (list_any (is_of_other_type f) s.facts)) last P k1)).1 in
    (comes-appended (without_first (is_of_region f) s.facts) f
    (λ facts. Comes (unit (record s1 { facts = facts })) P)
    (comes-bind (appended (without_first (is_of_region f) s.facts) f)
    (λ facts. unit (record s1 { facts = facts })) P k2)).1

-- ---- it holds, where the fact does

-- two facts of one region say the same of it
pub knowns-same :
    (v : Valuation) (T : Table) (f g : PlainFact) →
    value v.whole g.region ≡ value v.whole f.region → (h : FactHolds v T f) →
    (k : FactHolds v T g) → (g.kind ≡ f.kind)
    × (map (value v.whole) g.args ≡ map (value v.whole) f.args) × (k.0 ≡ h.0)
knowns-same v T f g e h k =
    let q = some-same (known_as g.kind (map (value v.whole) g.args) k.0)
    (known_as f.kind (map (value v.whole) f.args) h.0) (sym k.1 ∙ ap T e ∙ h.1) in
    (ap (λ r. r.kind) q, ap (λ r. r.args) q, ap (λ r. r.state) q)

heads-same : (x y : ℤ) (xs ys : List ℤ) → x ∷ xs ≡ y ∷ ys → (x ≡ y) × (xs ≡ ys)
heads-same x y xs ys e = (ap (λ zs. get_or zs 0 x) e, ap (drop 1) e)

pub equal-hold :
    (v : Valuation) (as' bs : List Linear) → map (value v.whole) as' ≡ map (value v.whole) bs →
    AllByRecursion (Holds v) (equal_rows as' bs)
equal-hold v [] [] e = tt
equal-hold v [] (b ∷ bs) e = tt
equal-hold v (a ∷ as') [] e = tt
equal-hold v (a ∷ as') (b ∷ bs) e =
    let q = heads-same (value v.whole a) (value v.whole b) (map (value v.whole) as')
    (map (value v.whole) bs) e in
    ((row_of-means v a Equal b Int).1 q.0, equal-hold v as' bs q.1)

pub equal-over :
    (R : Sort → ℕ → Type 0) (as' bs : List Linear) → AllByRecursion (Over (R Int)) as' →
    AllByRecursion (Over (R Int)) bs → AllByRecursion (RowOver R) (equal_rows as' bs)
equal-over R [] [] h k = tt
equal-over R [] (b ∷ bs) h k = tt
equal-over R (a ∷ as') [] h k = tt
equal-over R (a ∷ as') (b ∷ bs) h k =
    (row-over R a Equal b Int h.0 k.0, equal-over R as' bs h.1 k.1)

pub found-all :
    {X : Type 0} (P : X → Type 0) (test : X → Bool) (xs : List X) (x : X) → AllByRecursion P xs →
    find test xs ≡ Some x → P x × (test x ≡ true)
found-all P test [] x h e = absurd (none-some e)
found-all P test (y ∷ xs) x h e = by (test y) refl e (λ k. found-all P test xs x h.1 k)
  where
    by :
        (b : Bool) → test y ≡ b → cond b (Some y) (find test xs) ≡ Some x →
        (find test xs ≡ Some x → P x × (test x ≡ true)) → P x × (test x ≡ true)
    by true q e f = let r = some-same y x e in (subst P r h.0, subst (λ z. test z ≡ true) r q)
    by false q e f = f e

pub all-without :
    {X : Type 0} (P : X → Type 0) (test : X → Bool) (xs : List X) → AllByRecursion P xs →
    AllByRecursion P (without_first test xs)
all-without P test [] h = tt
all-without P test (x ∷ xs) h = by (test x) (all-without P test xs h.1)
  where
    by :
        (b : Bool) → AllByRecursion P (without_first test xs) →
        AllByRecursion P (if b then xs else x ∷ without_first test xs)
    by true k = h.1
    by false k = (h.0, k)

pub tight-state : (b : Bool) (q : Option ℤ) (z : ℤ) → b ≡ false → StateHolds b q z → q ≡ Some z
tight-state true q z e m = absurd (cc)
tight-state false q z e m = m

-- the rows that merging adds hold, where the fact that was there isn't loose
pub merging-holds :
    (ks : List ℕ) (v : Valuation) (T : Table) (s : PlainState)
    (f : PlainFact) → Facts ks v T s → AllByRecursion
    (λ g. g.loose ≡ false) s.facts → f.loose ≡ false → FactHolds v T f → FactOver
    (Usable ks s.sorts Int) f →
    AllByRecursion (Holds v) (merging_rows f (find (is_of_region f) s.facts)) × AllByRecursion
    (RowOver (Usable ks s.sorts)) (merging_rows f (find (is_of_region f) s.facts))
merging-holds ks v T s f fs tight ft h o = by (find (is_of_region f) s.facts) refl
  where
    by :
        (m : Option PlainFact) → find (is_of_region f) s.facts ≡ m →
        AllByRecursion (Holds v) (merging_rows f m)
        × AllByRecursion (RowOver (Usable ks s.sorts)) (merging_rows f m)
    by None e = (tt, tt)
    by (Some g) e =
        let R = Usable ks s.sorts in
        let a = found-all (FactHolds v T) (is_of_region f) s.facts g fs.holds e in
        let b = found-all (FactOver (R Int)) (is_of_region f) s.facts g fs.over e in
        let c = found-all (λ g. g.loose ≡ false) (is_of_region f) s.facts g tight e in
        let t = both-true (same_term g.region f.region) (g.kind == f.kind) a.1 in
        let same = knowns-same v T f g
        (ap (value v.whole) ((same_term-decides g.region f.region).0 t.0)) h a.0 in
        let state-over : (b : Bool) → b ≡ false → (t : Linear) → StateOver (R Int) b t →
        Over (R Int) t = λ b e t k. subst (λ c. StateOver (R Int) c t) e k in
        let st : value v.whole g.state ≡ value v.whole f.state = some-same (value v.whole g.state)
        (value v.whole f.state)
        (sym (tight-state g.loose a.0.0 (value v.whole g.state) c.0 a.0.2) ∙ same.2
        ∙ tight-state f.loose h.0 (value v.whole f.state) ft h.2) in
        let r = row_of g.state Equal f.state Int in (
          all-both (Holds v) (equal_rows g.args f.args) (r ∷ []) (equal-hold v g.args f.args same.1)
              ((row_of-means v g.state Equal f.state Int).1 st, tt),
          all-both (RowOver R) (equal_rows g.args f.args) (r ∷ [])
              (equal-over R g.args f.args b.0.1 o.1) (
                row-over R g.state Equal f.state Int (state-over g.loose c.0 g.state b.0.2)
                    (state-over f.loose ft f.state o.2),
                tt,
              ),
        )

-- no fact of the region has another type
pub no-other-type :
    (v : Valuation) (T : Table) (f : PlainFact) (fs : List PlainFact) → FactHolds v T f →
    AllByRecursion (FactHolds v T) fs → list_any (is_of_other_type f) fs ≡ false
no-other-type v T f [] h k = refl
no-other-type v T f (g ∷ fs) h k =
    by (same_term g.region f.region) refl (g.kind == f.kind) refl (no-other-type v T f fs h k.1)
  where
    by :
        (a : Bool) → same_term g.region f.region ≡ a → (b : Bool) → (g.kind == f.kind) ≡ b →
        list_any (is_of_other_type f) fs ≡ false →
        ((a && not b) || list_any (is_of_other_type f) fs) ≡ false
    by true x true y e = e
    by true x false y e =
        let same =
        (knowns-same v T f g
        (ap (value v.whole) ((same_term-decides g.region f.region).0 x)) h k.0).0 in
        let q : (g.kind == f.kind) ≡ true = grind (arith, nat_tests) in
        absurd (cc)
    by false x b y e = e

pub each-without :
    {X : Type 0} (R : X → X → Type 0) (test : X → Bool) (xs : List X) → EachTwo R xs →
    EachTwo R (without_first test xs)
each-without R test [] h = tt
each-without R test (x ∷ xs) h = by (test x) (each-without R test xs h.1)
  where
    by :
        (b : Bool) → EachTwo R (without_first test xs) →
        EachTwo R (if b then xs else x ∷ without_first test xs)
    by true k = h.1
    by false k = (all-without (R x) test xs h.0, k)

pub each-last :
    {X : Type 0} (R : X → X → Type 0) (xs : List X) (y : X) → EachTwo R xs → ((x : X) → R x y) →
    EachTwo R (xs ++ y ∷ [])
each-last R [] y h f = (tt, tt)
each-last R (x ∷ xs) y h f =
    (all-both (R x) xs (y ∷ []) h.0 (f x, tt), each-last R xs y h.1 f)

-- the facts with the new one, which isn't loose
pub facts-added :
    (ks : List ℕ) (v : Valuation) (T : Table) (s : PlainState) (f : PlainFact) → Facts ks v T s →
    f.loose ≡ false → FactHolds v T f → FactOver (Usable ks s.sorts Int) f →
    Facts ks v T (fact_added s f)
facts-added ks v T s f fs ft h o = record {
  holds =
      all-both (FactHolds v T) (without_first (is_of_region f) s.facts) (f ∷ [])
      (all-without (FactHolds v T) (is_of_region f) s.facts fs.holds) (h, tt);
  over =
      all-both (FactOver (Usable ks s.sorts Int)) (without_first (is_of_region f) s.facts) (f ∷ [])
      (all-without (FactOver (Usable ks s.sorts Int)) (is_of_region f) s.facts fs.over) (o, tt);
  loose =
      all-both (LooseState ks s.sorts) (without_first (is_of_region f) s.facts) (f ∷ [])
      (all-without (LooseState ks s.sorts) (is_of_region f) s.facts fs.loose)
      ((λ l. absurd (cc)), tt);
  differ =
      each-last StatesDiffer (without_first (is_of_region f) s.facts) f
      (each-without StatesDiffer (is_of_region f) s.facts fs.differ) (λ g a b e. absurd (cc));
}

-- ---- giving a fact up

-- the environment once slots are met by terms, in turn
abbrev pub all_met_env : PlainEnv → List Slot → List Linear → PlainEnv
all_met_env env (x ∷ xs) (t ∷ ts) = all_met_env (met_env env (reading env x) t) xs ts
all_met_env env xs ts = env

pub record MatchingAll (ks : List ℕ) (sc : Scope) (sorts : List Sort) (v : Valuation)
    (env : PlainEnv) (xs : List Slot) (ts : List Linear) (P : PlainEnv → Type 0) : Type 0 where
  pub later : PlainEnv
  pub later_is : later ≡ all_met_env env xs ts
  pub placed : Placed ks sc sorts later
  pub stays : Stays sc env later
  pub outside : Outside sc env later
  pub size : length later ≡ length env
  pub means :
      (w : Valuation) → Alike (λ y. y < length sorts) v w → (a : Valuation) → Means sc w later a →
      SlotsAre a xs (map (value v.whole) ts)
  pub comes : P later

pub matching-all :
    (ks : List ℕ) (sc : Scope) (v : Valuation) (s : PlainState) (env : PlainEnv) (xs : List Slot)
    (ts : List Linear) (P : PlainEnv → Type 0) → Meets ks v s → Placed ks sc s.sorts env →
    AllByRecursion (SlotFits sc Int) xs → AllByRecursion (Over (Usable ks s.sorts Int)) ts →
    Comes (match_slots s.rows env xs ts) P → MatchingAll ks sc s.sorts v env xs ts P
matching-all ks sc v s env [] [] P me pl h o c = record {
  later = env;
  later_is = refl;
  placed = pl;
  stays = λ x o i t e. e;
  outside = λ x n. refl;
  size = refl;
  means = λ w l a n. tt;
  comes = c.1;
}
matching-all ks sc v s env [] (t ∷ ts) P me pl h o c = absurd c.1
matching-all ks sc v s env (x ∷ xs) [] P me pl h o c = absurd c.1
matching-all ks sc v s env (x ∷ xs) (t ∷ ts) P me pl h o c =
    let n1 = matching ks sc v s env x t
    (λ later. Comes (match_slots s.rows later xs ts) P) me pl h.0 o.0
    (comes-bind (match_slot s.rows env x t)
    (λ later. match_slots s.rows later xs ts) P c) in
    let n2 = matching-all ks sc v s n1.later xs ts P me n1.placed h.1 o.1 n1.comes in
    record {
      later = n2.later;
      later_is = n2.later_is ∙ ap (λ e. all_met_env e xs ts) n1.later_is;
      placed = n2.placed;
      stays = λ z p i t q. n2.stays z p i t (n1.stays z p i t q);
      outside = λ z n. n2.outside z n ∙ n1.outside z n;
      size = n2.size ∙ n1.size;
      means =
          λ w g a n. (
            n1.means w g a
                (means-back ks sc s w w n1.later n2.later a n1.placed
                (agree-same (Old s) w) n2.stays n),
            n2.means w g a n,
          );
      comes = n2.comes;
    }

pub slots-split :
    (a : Valuation) (xs : List Slot) (x : Slot) (zs : List ℤ) (z : ℤ) →
    SlotsAre a (xs ++ x ∷ []) (zs ++ z ∷ []) → SlotsAre a xs zs × SlotIs a x z
slots-split a [] x [] z h = (tt, h.0)
slots-split a [] x (y ∷ []) z h = absurd h.1
slots-split a [] x (y ∷ w ∷ zs) z h = absurd h.1
slots-split a (u ∷ []) x [] z h = absurd h.1
slots-split a (u ∷ w ∷ xs) x [] z h = absurd h.1
slots-split a (u ∷ xs) x (y ∷ zs) z h = let r = slots-split a xs x zs z h.1 in ((h.0, r.0), r.1)

-- a fact that isn't loose meets the item that it was matched with
abbrev pub fact-meets :
    (v : Valuation) (T : Table) (f : PlainFact) (a : Valuation) (r : ℕ) (args : List Slot)
    (x : Slot) → FactHolds v T f → f.loose ≡ false →
    SlotsAre a (Is (variable r) ∷ (args ++ x ∷ []))
    (map (value v.whole) (f.region ∷ (f.args ++ f.state ∷ []))) →
    (zs : List ℤ) × (z : ℤ) × (T (a.whole r) ≡ Some (known_as f.kind zs (Some z)))
    × SlotsAre a args zs × SlotIs a x z
fact-meets v T f a r args x h tight m =
    let e : a.whole r ≡ value v.whole f.region = sym (variable-value a r) ∙ m.0 in
    let sp = slots-split a args x (map (value v.whole) f.args) (value v.whole f.state)
    (subst (SlotsAre a (args ++ x ∷ []))
    (map-join (value v.whole) f.args (f.state ∷ [])) m.1) in (
      map (value v.whole) f.args,
      value v.whole f.state,
      ap T e ∙ h.1 ∙ ap (λ o. Some (known_as f.kind (map (value v.whole) f.args) o))
          (tight-state f.loose h.0 (value v.whole f.state) tight h.2),
      sp.0,
      sp.1,
    )
