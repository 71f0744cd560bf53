-- Values by name where opened regions are closed: what the case's items are taken at, and what the join
-- makes of these; the region keeps its case at what the case's environment says then.
use Rattle.std.proofs.Common.{length, ◌+◌, ◌≡◌, ℕ, ◌<◌, ℤ, pos, ◌*ℤ◌, List, [], ◌∷◌, ◌++◌, map, find, nat_eq, if◌then◌else◌, Bool, true, false, Option, Some, None, sym, subst}
use Rattle.std.specs.List.{AllByRecursion}
use Rattle.cap_lin.specs.Values.{Valuation, value}
use Rattle.cap_prog.specs.Program.{PlainProgram}
use Rattle.cap_goal_spec.specs.States.{PlainFact, PlainEnv}
use Rattle.cap_rules.specs.Making.{is_of_region}
use Rattle.cap_account_resources.specs.Parts.{Table}
use Rattle.cap_account_resources.proofs.Stocks.{Stock}
use Rattle.cap_account_resources.proofs.Tables.{KeepsStates}
use Rattle.cap_account_resources.proofs.Owners.{Owner}
use Rattle.cap_account_states.proofs.Terms.{Over, Agree, agree-trans, value-agree}
use Rattle.cap_account_states.proofs.Brought.{Bring, Brings, HasHalves, bring_values, halves-agree, here-agrees}
use Rattle.cap_account_states.proofs.Alike.{Alike}
use Rattle.cap_account_states.proofs.Naming.{values_in}
use Rattle.cap_account_assertions.proofs.Asserted.{OwnsCase, case-kept}
use Rattle.cap_account_assertions.proofs.Laws.{Creation, KeepsCreated}
use Rattle.cap_account_assertions.proofs.NewRegions.{created-on}
use Rattle.cap_account_assertions.proofs.Named.{set_to, lone, joined_values}

-- one region is closed: values, facts and count of variables once its case's items are taken; its fact,
-- its case, the environment of the case's names, and what it gets; and the regions that taking them
-- created
pub record Shut : Type 0 where
  pub took : Valuation
  pub brings : List Bring
  pub facts : List PlainFact
  pub later : ℕ
  pub fact : PlainFact
  pub number : ℕ
  pub env : PlainEnv
  pub stock : Stock
  pub created : List Creation

-- what the join makes of values once the case's items are taken
abbrev pub shut_from : Shut → Valuation → Valuation
shut_from c u = joined_values u c.fact (find (is_of_region c.fact) c.facts)

abbrev pub shut_values : Shut → Valuation
shut_values c = shut_from c c.took

abbrev pub shut_owner : Shut → Owner
shut_owner c = record {
  number = value c.took.whole c.fact.region;
  kind = c.fact.kind;
  args = map (value c.took.whole) c.fact.args;
  state = value c.took.whole c.fact.state;
  stock = c.stock;
}

-- its Take leads from n variables and their values to these, over the denominator that there is as long
-- as there are halves
pub record ShutFrom (n : ℕ) (v : Valuation) (c : Shut) : Type 0 where
  pub alike : Alike (λ x. x < n) v c.took
  pub once : HasHalves v n c.brings → Agree (λ x. x < n) v c.took
  pub count : c.later ≡ n + length c.brings
  pub brought : Brings c.took n c.brings
  pub over : Over (λ x. x < c.later) c.fact.state

-- from n variables and their values over these closings to m and theirs; each Take brings what is said
abbrev pub Leads : ℕ → Valuation → List Shut → ℕ → Valuation → Type 0
Leads n v [] m w = (m ≡ n) × (w ≡ v)
Leads n v (c ∷ cs) m w = ShutFrom n v c × Leads c.later (shut_values c) cs m w

-- the region has its case at the values of the case's environment
abbrev pub KeepsCase : PlainProgram → Table → Shut → Type 0
KeepsCase p U c = OwnsCase p U (shut_owner c) c.number (values_in c.took c.env)

-- also by a table that keeps known states
pub keeps-on :
    (p : PlainProgram) (T U : Table) → KeepsStates T U → (c : Shut) → KeepsCase p T c →
    KeepsCase p U c
keeps-on p T U f c k = case-kept p T U f (shut_owner c) c.number (values_in c.took c.env) k

-- those that were created have theirs, at all values alike to those once the items are taken
abbrev pub KeepsNew : PlainProgram → Table → Shut → Type 0
KeepsNew p U c = AllByRecursion (KeepsCreated p U (λ x. x < c.later) c.took) c.created

pub keeps-new-on :
    (p : PlainProgram) (T U : Table) → KeepsStates T U → (c : Shut) → KeepsNew p T c →
    KeepsNew p U c
keeps-new-on p T U f c k =
    let P = λ (x : ℕ). x < c.later in created-on p T U f P P c.took c.took (λ x l. l) c.created k

-- all that were created
abbrev pub new_owners : List Shut → List Owner
new_owners [] = []
new_owners (c ∷ cs) = map (λ d. d.owner) c.created ++ new_owners cs

-- ---- over one denominator

-- each share that is halved has, in turn, a half over the denominator that there is
abbrev pub HaveHalves : ℕ → Valuation → List Shut → Type 0
HaveHalves n v [] = Unit {0}
HaveHalves n v (c ∷ cs) =
    (k : HasHalves v n c.brings)
    × HaveHalves c.later (shut_from c (bring_values v n c.brings k)) cs

-- then these are the values in the end
abbrev pub closed_values : (n : ℕ) (v : Valuation) (cs : List Shut) → HaveHalves n v cs → Valuation
closed_values n v [] k = v
closed_values n v (c ∷ cs) k =
    closed_values c.later (shut_from c (bring_values v n c.brings k.0)) cs k.1

-- and each case's items are taken at those that are brought there
abbrev pub TookHere : (n : ℕ) (v : Valuation) (cs : List Shut) → HaveHalves n v cs → Type 0
TookHere n v [] k = Unit {0}
TookHere n v (c ∷ cs) k =
    Agree (λ x. x < c.later) (bring_values v n c.brings k.0) c.took
    × TookHere c.later (shut_from c (bring_values v n c.brings k.0)) cs k.1

set-agree :
    (P : ℕ → Type 0) (u v : Valuation) (x : ℕ) (y z : ℤ) → z ≡ y → Agree P u v →
    Agree P (set_to u x y) (set_to v x z)
set-agree P u v x y z e a = record {
  under = a.under;
  whole = λ i h j. if nat_eq i x then e j else a.whole i h j;
  share = λ i h j. if nat_eq i x then e j *ℤ pos (a.under j + 1) else a.share i h j;
}

-- the join of values that agree
joined-agree :
    (P : ℕ → Type 0) (u v : Valuation) (f : PlainFact) (o : Option PlainFact) → Over P f.state →
    Agree P u v → Agree P (joined_values u f o) (joined_values v f o)
joined-agree P u v f None o a = a
joined-agree P u v f (Some h) o a = by h.loose
  where
    by :
        (b : Bool) →
        Agree P (if b then set_to u (lone h.state) (value u.whole f.state) else u)
        (if b then set_to v (lone h.state) (value v.whole f.state) else v)
    by true =
        set-agree P u v (lone h.state) (value u.whole f.state) (value v.whole f.state)
        (value-agree P u v a f.state o) a
    by false = a

pub leads-here :
    (n : ℕ) (u v : Valuation) (cs : List Shut) (m : ℕ) (w : Valuation) →
    Agree (λ x. x < n) u v → Leads n v cs m w → (k : HaveHalves n u cs) →
    TookHere n u cs k × Agree (λ x. x < m) (closed_values n u cs k) w
leads-here n u v [] m w a l k =
    (tt, subst (λ x. Agree (λ i. i < m) u x) (sym l.1) (subst (λ j. Agree (λ i. i < j) u v) (sym l.0) a))
leads-here n u v (c ∷ cs) m w a l k =
    let s = l.0 in
    let here = bring_values u n c.brings k.0 in
    let before =
    agree-trans (λ x. x < n) u v c.took a
    (s.once (halves-agree c.took u v n c.brings s.brought a k.0)) in
    let took =
    subst (λ i. Agree (λ x. x < i) here c.took) (sym s.count)
    (here-agrees c.took u n c.brings s.brought before k.0) in
    let rest =
    leads-here c.later (shut_from c here) (shut_values c) cs m w
    (joined-agree (λ x. x < c.later) here c.took c.fact (find (is_of_region c.fact) c.facts) s.over
    took) l.1 k.1 in
    ((took, rest.0), rest.1)
