-- The system of an action: what it takes doesn't depend on what is known before the action, and it has
-- more rows where more is known.
use Rattle.std.proofs.Common.{◌≡◌, ℕ, List, [], ◌∷◌, ◌++◌, Option, Some, None, refl, sym, ap, subst, ◌∙◌, append_assoc}
use Rattle.cap_lin.specs.Linear.{Linear}
use Rattle.cap_lin.specs.Steps.{Step, first_wide}
use Rattle.cap_lin.specs.declared.row.Row.{Row}
use Rattle.cap_lin.specs.declared.row.Op.TheVariants.{Eq as Equal}
use Rattle.cap_lin.specs.declared.row.Sort.TheVariants.{Int}
use Rattle.cap_gsolve.specs.declared.piece.Form.{Form}
use Rattle.cap_gsolve.specs.declared.piece.Form.TheVariants as form
use Rattle.cap_gsolve.specs.Compat.{compat, compat_steps}
use Rattle.cap_prog.specs.declared.assertion.Comp.{Comp}
use Rattle.cap_prog.specs.declared.assertion.Slot.{Slot}
use Rattle.cap_prog.specs.declared.assertion.Slot.TheVariants.{Any, Is}
use Rattle.cap_prog.specs.declared.assertion.Asked.{Asked}
use Rattle.cap_prog.specs.declared.assertion.Asked.TheVariants.{One, Share, Src, Tok, At, From}
use Rattle.cap_prog.specs.Program.{PlainAction, PlainRegionType}
use Rattle.cap_goal_spec.specs.States.{PlainFact, PlainState}
use Rattle.cap_goal_spec.specs.Candidates.{later_state}
use Rattle.cap_goal_spec.specs.Environments.{one_value}
use Rattle.cap_rules.specs.Making.{sum}
use Rattle.cap_rules.specs.Attempts.{owed, Event, makes, claims, Attempt, unit, go_on, ◌>>=◌, computed, comparison_row}
use Rattle.cap_rules.specs.Answers.{steps_of, owed_lists}
use Rattle.cap_rules.specs.Resting.{Names, ask, first_names, value_over, rows_over, want_slot, want_form, want_all, joined_rows, system}
use Rattle.cap_offer_spec.proofs.Trying.{Runs}
use Rattle.cap_closure_laws.proofs.Fewer.{AreIn, in-self, in-both}
use Rattle.cap_closure_laws.proofs.Meeting.{made-lists, Meets}

-- ---- attempts that differ in their values alone

abbrev pub BothOrNone : {A : Type 0} → (A → A → Type 0) → Option A → Option A → Type 0
BothOrNone R None None = Unit {0}
BothOrNone R (Some x) (Some y) = R x y
BothOrNone R None (Some y) = ⊥
BothOrNone R (Some x) None = ⊥

pub record Like {A : Type 0} (R : A → A → Type 0) (o p : Attempt A) : Type 0 where
  pub events : o.events ≡ p.events
  pub values : BothOrNone R o.value p.value

like-by : {A B : Type 0} (R : B → B → Type 0) (es : List Event) (v : Option A) (f g : A → Attempt B) → ((x : A) → Like R (f x) (g x)) → Like R (go_on es v f) (go_on es v g)
like-by R es None f g h = record { events = refl; values = tt }
like-by R es (Some x) f g h = record { events = ap (λ e. es ++ e) (h x).events; values = (h x).values }

like-chain : {A B : Type 0} (R : B → B → Type 0) (o : Attempt A) (f g : A → Attempt B) → ((x : A) → Like R (f x) (g x)) → Like R (o >>= f) (o >>= g)
like-chain R o f g h = like-by R o.events o.value f g h

pub record Alike {A : Type 0} (R : A → A → Type 0) (o : Attempt A) (x : A) (ls : List (List Row)) : Type 0 where
  pub result : A
  pub runs : Runs o ls result
  pub related : R x result

none-some : {A : Type 0} {x : A} → None ≡ Some x → ⊥
none-some e = cc

same-some : {A : Type 0} (x y : A) → Some x ≡ Some y → x ≡ y
same-some x y e = cc

alike-by : {A : Type 0} (R : A → A → Type 0) (o p : Attempt A) (x : A) (ls : List (List Row)) (v w : Option A) → o.value ≡ v → p.value ≡ w → BothOrNone R v w → o.events ≡ p.events → Runs o ls x → Alike R p x ls
alike-by R o p x ls None w a b r e h = absurd (none-some (sym a ∙ h.value))
alike-by R o p x ls (Some y) None a b r e h = absurd r
alike-by R o p x ls (Some y) (Some z) a b r e h =
    let k : y ≡ x = same-some y x (sym a ∙ h.value) in
    record {
      result = z;
      runs = record { value = b; narrow = ap (λ es. first_wide (steps_of es)) (sym e) ∙ h.narrow; lists = ap owed_lists (sym e) ∙ h.lists };
      related = subst (λ u. R u z) k r;
    }

pub alike : {A : Type 0} (R : A → A → Type 0) (o p : Attempt A) (x : A) (ls : List (List Row)) → Like R o p → Runs o ls x → Alike R p x ls
alike R o p x ls l h = alike-by R o p x ls o.value p.value refl refl l.values l.events h

-- ---- systems where more is known

abbrev pub HasMore : Option (List Row) → Option (List Row) → Type 0
HasMore o p = BothOrNone AreIn o p

abbrev at_end : PlainState → List Row → Row → List Row → Option (List Row) → Attempt (Option (List Row))
at_end s known q conditions compatible = unit (joined_rows (s.rows ++ (known ++ q ∷ conditions)) compatible)

abbrev at_wanted : PlainRegionType → PlainState → PlainFact → List Row → Row → List Row → List (ℕ × Form) → Attempt (Option (List Row))
at_wanted k s f known q conditions wanted = computed (compat k.algebra s.guards f.region f.kind wanted) (compat_steps k.algebra s.guards f.region f.kind wanted) >>= at_end s known q conditions

abbrev at_conditions : PlainRegionType → PlainState → PlainFact → List Row → PlainAction → List Linear → Row → List Row → Attempt (Option (List Row))
at_conditions k s f known a names q conditions = want_all names (first_names s f) a.guards >>= at_wanted k s f known q conditions

abbrev at_row : PlainRegionType → PlainState → PlainFact → List Row → PlainAction → List Linear → Row → Attempt (Option (List Row))
at_row k s f known a names q = rows_over names a.when >>= at_conditions k s f known a names q

abbrev at_source : PlainRegionType → PlainState → PlainFact → List Row → PlainAction → List Linear → Linear → Attempt (Option (List Row))
at_source k s f known a names source = comparison_row source Equal (later_state s) Int >>= at_row k s f known a names

joined-more : (xs ys : List Row) (o : Option (List Row)) → AreIn xs ys → HasMore (joined_rows xs o) (joined_rows ys o)
joined-more xs ys None h = tt
joined-more xs ys (Some more) h = in-both xs more ys more h (in-self more)

pub system-like : (k : PlainRegionType) (s : PlainState) (f : PlainFact) (known more : List Row) (a : PlainAction) (names : List Linear) → AreIn known more → Like HasMore (system k s f known a names) (system k s f more a names)
system-like k s f known more a names h =
    like-chain HasMore (value_over names a.source) (at_source k s f known a names) (at_source k s f more a names)
    (λ source. like-chain HasMore (comparison_row source Equal (later_state s) Int) (at_row k s f known a names) (at_row k s f more a names)
    (λ q. like-chain HasMore (rows_over names a.when) (at_conditions k s f known a names q) (at_conditions k s f more a names q)
    (λ conditions. like-chain HasMore (want_all names (first_names s f) a.guards) (at_wanted k s f known q conditions) (at_wanted k s f more q conditions)
    (λ wanted. like-chain HasMore (computed (compat k.algebra s.guards f.region f.kind wanted) (compat_steps k.algebra s.guards f.region f.kind wanted)) (at_end s known q conditions) (at_end s more q conditions)
    (λ compatible. record {
      events = refl;
      values = joined-more (s.rows ++ (known ++ q ∷ conditions)) (s.rows ++ (more ++ q ∷ conditions)) compatible (in-both s.rows (known ++ q ∷ conditions) s.rows (more ++ q ∷ conditions) (in-self s.rows) (in-both known (q ∷ conditions) more (q ∷ conditions) h (in-self (q ∷ conditions))));
    })))))

-- ---- a system has a value, and claims nothing

pub record Plain {A : Type 0} (o : Attempt A) : Type 0 where
  pub result : A
  pub value : o.value ≡ Some result
  pub lists : owed_lists o.events ≡ []

lists-join : (es fs : List Event) → owed_lists (es ++ fs) ≡ owed_lists es ++ owed_lists fs
lists-join [] fs = refl
lists-join (makes x ∷ es) fs = lists-join es fs
lists-join (claims c ∷ es) fs = ap (λ r. owed c ++ r) (lists-join es fs) ∙ sym (append_assoc (owed c) (owed_lists es) (owed_lists fs))

plain-by : {A B : Type 0} (es : List Event) (v : Option A) (x : A) (f : A → Attempt B) → v ≡ Some x → owed_lists es ≡ [] → ((x : A) → Plain (f x)) → Plain (go_on es v f)
plain-by es None x f e l h = absurd (none-some e)
plain-by es (Some y) x f e l h =
    let p = h y in
    record { result = p.result; value = p.value; lists = lists-join es (f y).events ∙ (ap (λ r. r ++ owed_lists (f y).events) l ∙ p.lists) }

plain-chain : {A B : Type 0} (o : Attempt A) (f : A → Attempt B) → Plain o → ((x : A) → Plain (f x)) → Plain (o >>= f)
plain-chain o f p h = plain-by o.events o.value p.result f p.value p.lists h

plain-unit : {A : Type 0} (x : A) → Plain (unit x)
plain-unit x = record { result = x; value = refl; lists = refl }

plain-computed : {A : Type 0} (x : A) (steps : List Step) → Plain (computed x steps)
plain-computed x steps = record { result = x; value = refl; lists = made-lists steps }

abbrev one_row : Comp → Linear → Linear → Attempt Row
one_row c l r = comparison_row l c.op r c.sort

abbrev rows_behind : List Linear → List Comp → Row → Attempt (List Row)
rows_behind names cs q = rows_over names cs >>= λ more. unit (q ∷ more)

rows-plain : (names : List Linear) (cs : List Comp) → Plain (rows_over names cs)
rows-plain names [] = plain-unit []
rows-plain names (c ∷ cs) =
    plain-chain (value_over names c.left) (λ l. value_over names c.right >>= λ r. comparison_row l c.op r c.sort >>= λ q. rows_over names cs >>= λ more. unit (q ∷ more)) (plain-computed _ _)
    (λ l. plain-chain (value_over names c.right) (λ r. comparison_row l c.op r c.sort >>= λ q. rows_over names cs >>= λ more. unit (q ∷ more)) (plain-computed _ _)
    (λ r. plain-chain (comparison_row l c.op r c.sort) (λ q. rows_over names cs >>= λ more. unit (q ∷ more)) (plain-computed _ _)
    (λ q. plain-chain (rows_over names cs) (λ more. unit (q ∷ more)) (rows-plain names cs) (λ more. plain-unit (q ∷ more)))))

slot-plain : (names : List Linear) (x : ℕ) (slot : Slot) → Plain (want_slot names x slot)
slot-plain names x Any = plain-unit _
slot-plain names x (Is t) = plain-computed _ _

form-plain : (names : List Linear) (x : ℕ) (asked : Asked) → Plain (want_form names x asked)
form-plain names x One = plain-unit _
form-plain names x (Share t) = plain-chain (want_slot names x t) (λ a. unit (form.Share a)) (slot-plain names x t) (λ a. plain-unit _)
form-plain names x (Src t) = plain-chain (want_slot names x t) (λ a. unit (form.Src a)) (slot-plain names x t) (λ a. plain-unit _)
form-plain names x (Tok t) = plain-chain (want_slot names x t) (λ a. unit (form.Tok a)) (slot-plain names x t) (λ a. plain-unit _)
form-plain names x (At t) = plain-chain (want_slot names x t) (λ i. sum i one_value >>= λ next. unit (form.Span i (Some next))) (slot-plain names x t) (λ i. plain-chain (sum i one_value) (λ next. unit (form.Span i (Some next))) (plain-computed _ _) (λ next. plain-unit _))
form-plain names x (From t) = plain-chain (want_slot names x t) (λ i. unit (form.Span i None)) (slot-plain names x t) (λ i. plain-unit _)

want-plain : (names : List Linear) (w : Names) (gs : List (ℕ × Asked)) → Plain (want_all names w gs)
want-plain names w [] = plain-unit []
want-plain names w (g ∷ gs) =
    plain-chain (want_form names w.next g.1) (λ f. want_all names (ask w g.1) gs >>= λ more. unit ((g.0, f) ∷ more)) (form-plain names w.next g.1)
    (λ f. plain-chain (want_all names (ask w g.1) gs) (λ more. unit ((g.0, f) ∷ more)) (want-plain names (ask w g.1) gs) (λ more. plain-unit _))

pub system-plain : (k : PlainRegionType) (s : PlainState) (f : PlainFact) (known : List Row) (a : PlainAction) (names : List Linear) → Plain (system k s f known a names)
system-plain k s f known a names =
    plain-chain (value_over names a.source) (at_source k s f known a names) (plain-computed _ _)
    (λ source. plain-chain (comparison_row source Equal (later_state s) Int) (at_row k s f known a names) (plain-computed _ _)
    (λ q. plain-chain (rows_over names a.when) (at_conditions k s f known a names q) (rows-plain names a.when)
    (λ conditions. plain-chain (want_all names (first_names s f) a.guards) (at_wanted k s f known q conditions) (want-plain names (first_names s f) a.guards)
    (λ wanted. plain-chain (computed (compat k.algebra s.guards f.region f.kind wanted) (compat_steps k.algebra s.guards f.region f.kind wanted)) (at_end s known q conditions) (plain-computed _ _) (λ compatible. plain-unit _)))))

pub plain-meets : {A : Type 0} (P : List Row → Type 0) (o : Attempt A) (p : Plain o) → first_wide (steps_of o.events) ≡ None → Meets P o p.result
plain-meets P o p n = record { lists = []; runs = record { value = p.value; narrow = n; lists = p.lists }; each = tt }

-- whatever is known, it is within 128 bits where it is with nothing known
pub system-narrow : (k : PlainRegionType) (s : PlainState) (f : PlainFact) (known : List Row) (a : PlainAction) (names : List Linear) → first_wide (steps_of (system k s f [] a names).events) ≡ None → first_wide (steps_of (system k s f known a names).events) ≡ None
system-narrow k s f known a names n = ap (λ es. first_wide (steps_of es)) (sym (system-like k s f [] known a names tt).events) ∙ n
