-- The indexed guards of an action take their turn, each with the number of a piece.
use Rattle.std.proofs.Common.{◌≡◌, ℕ, zero, suc, ◌+◌, ◌<◌, ◌≤◌, arith, Bool, true, false, List, [], ◌∷◌, ◌++◌, drop, length, get_or, filter, add-one, Option, Some, None, refl, sym, ap, subst, ◌∙◌}
use Rattle.std.specs.Prelude.{nat_eq, slice_get, if◌then◌else◌, Result, Ok, Err}
use Rattle.std.proofs.Math.Dec.{eqb-zero-suc, eqb-suc-suc}
use Rattle.std.proofs.lemmas.List.{drop_all, append_assoc}
use Rattle.cap_lin.specs.Linear.{Linear}
use Rattle.cap_lin.specs.declared.row.Row.{Row}
use Rattle.cap_gsolve.specs.Pieces.{of_atom}
use Rattle.cap_prog.specs.declared.assertion.Asked.{Asked}
use Rattle.cap_goal_spec.specs.States.{PlainFact, PlainEnv, PlainState}
use Rattle.cap_goal_spec.specs.Environments.{asked_slot}
use Rattle.cap_rules.specs.Attempts.{Attempt, Event, ◌>>=◌, go_on, behind, found, need, not_applicable}
use Rattle.cap_rules.specs.Making.{determined_slot}
use Rattle.cap_rules.specs.Closing.{is_indexed, prove_within, match_spans}
use Rattle.cap_rules_steps.specs.Walks.{Makes, Claims, giving}
use Rattle.cap_rules_steps.specs.declared.error.RuleError.{RuleError}
use Rattle.cap_rules_steps.proofs.Listing.{LeadsClaims}
use Rattle.cap_rules_steps.proofs.Walking.{Leads, split-at, then_made, unmade, claims_then, claims_fail, weaker, done}
use Rattle.cap_offer_spec.specs.Turning.{indices_known}
use Rattle.cap_open_moves.specs.Moves.{one_span}

abbrev Lists : Type 0
Lists = List (List Row)

abbrev Guards : Type 0
Guards = List (ℕ × Asked)

-- ---- one attempt in another

behind-on : {A B : Type 0} (es fs : List Event) (v : Option A) (g : A → Attempt B) → go_on (es ++ fs) v g ≡ behind es (go_on fs v g)
behind-on es fs None g = refl
behind-on es fs (Some x) g = ap (λ (all : List Event). record { events = all; value = (g x).value }) (append_assoc es fs (g x).events)

in-turn : {A B C : Type 0} (es : List Event) (v : Option A) (f : A → Attempt B) (g : B → Attempt C) → go_on (go_on es v f).events (go_on es v f).value g ≡ go_on es v (λ x. go_on (f x).events (f x).value g)
in-turn es None f g = refl
in-turn es (Some x) f g = behind-on es (f x).events (f x).value g

on-value : {A B : Type 0} (es : List Event) (v : Option A) (f g : A → Attempt B) → ((x : A) → f x ≡ g x) → go_on es v f ≡ go_on es v g
on-value es None f g h = refl
on-value es (Some x) f g h = ap (behind es) (h x)

-- ---- the indexed ones

abbrev pub spans_of :
    PlainState → PlainFact → PlainEnv → List (ℕ × Asked) → List ℕ → Attempt (Unit {0})
spans_of s f env gs js = match_spans s f env (filter is_indexed gs) js

-- the index, then the number, then the piece
abbrev numbered : PlainState → PlainFact → ℕ × Asked → Linear → ℕ → Attempt (Unit {0})
numbered s f g i j = found (slice_get s.before j) >>= λ q. need (of_atom f.region f.kind g.0 q) >>= λ u. prove_within s g.1 q.form i

numbered-turn : (s : PlainState) (f : PlainFact) (g : ℕ × Asked) (i : Linear) (j : ℕ) (rest : Unit {0} → Attempt (Unit {0})) → go_on (numbered s f g i j).events (numbered s f g i j).value rest ≡ (found (slice_get s.before j) >>= λ q. need (of_atom f.region f.kind g.0 q) >>= λ u. prove_within s g.1 q.form i >>= rest)
numbered-turn s f g i j rest =
    in-turn [] (slice_get s.before j) (λ q. need (of_atom f.region f.kind g.0 q) >>= λ u. prove_within s g.1 q.form i) rest
    ∙ on-value [] (slice_get s.before j)
    (λ q. go_on (need (of_atom f.region f.kind g.0 q) >>= λ u. prove_within s g.1 q.form i).events (need (of_atom f.region f.kind g.0 q) >>= λ u. prove_within s g.1 q.form i).value rest)
    (λ q. need (of_atom f.region f.kind g.0 q) >>= λ u. prove_within s g.1 q.form i >>= rest)
    (λ q. in-turn (need (of_atom f.region f.kind g.0 q)).events (need (of_atom f.region f.kind g.0 q)).value (λ u. prove_within s g.1 q.form i) rest)

-- no number is left, or this one
none-left : (d : Attempt Linear) (k : Linear → ℕ → Attempt (Unit {0})) (rest : Unit {0} → Attempt (Unit {0})) → (d >>= λ i. not_applicable) ≡ go_on (d >>= λ i. found None >>= k i).events (d >>= λ i. found None >>= k i).value rest
none-left d k rest = sym (in-turn d.events d.value (λ i. found None >>= k i) rest)

one-left : (s : PlainState) (f : PlainFact) (g : ℕ × Asked) (d : Attempt Linear) (j : ℕ) (rest : Unit {0} → Attempt (Unit {0})) → (d >>= λ i. found (slice_get s.before j) >>= λ q. need (of_atom f.region f.kind g.0 q) >>= λ u. prove_within s g.1 q.form i >>= rest) ≡ go_on (d >>= λ i. found (Some j) >>= numbered s f g i).events (d >>= λ i. found (Some j) >>= numbered s f g i).value rest
one-left s f g d j rest =
    sym (in-turn d.events d.value (λ i. found (Some j) >>= numbered s f g i) rest
    ∙ on-value d.events d.value
    (λ i. go_on (numbered s f g i j).events (numbered s f g i j).value rest)
    (λ i. found (slice_get s.before j) >>= λ q. need (of_atom f.region f.kind g.0 q) >>= λ u. prove_within s g.1 q.form i >>= rest)
    (λ i. numbered-turn s f g i j rest))

-- the first guard, with the numbers from a place on
first-span : (s : PlainState) (f : PlainFact) (env : PlainEnv) (g : ℕ × Asked) (gs : Guards) (js : List ℕ) (n : ℕ) → match_spans s f env (g ∷ gs) (drop n js) ≡ go_on (one_span s f env g js n).events (one_span s f env g js n).value (λ u. match_spans s f env gs (drop (suc n) js))
first-span s f env g gs [] zero = none-left (determined_slot env (asked_slot g.1)) (numbered s f g) (λ u. match_spans s f env gs [])
first-span s f env g gs [] (suc n) = none-left (determined_slot env (asked_slot g.1)) (numbered s f g) (λ u. match_spans s f env gs [])
first-span s f env g gs (j ∷ js) zero = one-left s f g (determined_slot env (asked_slot g.1)) j (λ u. match_spans s f env gs js)
first-span s f env g gs (j ∷ js) (suc n) = first-span s f env g gs js n

indexed-split : (gs : Guards) (i : ℕ) (g : ℕ × Asked) (b : Bool) → i < length gs → g ≡ get_or gs i g → is_indexed g ≡ b → filter is_indexed (drop i gs) ≡ (if b then g ∷ filter is_indexed (drop (suc i) gs) else filter is_indexed (drop (suc i) gs))
indexed-split gs i g b h e t =
    ap (filter is_indexed) (split-at gs i g h e)
    ∙ ap (λ c. if c then g ∷ filter is_indexed (drop (suc i) gs) else filter is_indexed (drop (suc i) gs)) t

-- a guard that isn't indexed has no turn
pub span-skips : (s : PlainState) (f : PlainFact) (env : PlainEnv) (gs : List (ℕ × Asked)) (i : ℕ) (g : ℕ × Asked) (js : List ℕ) (before middle : List (List Row)) (whole : Attempt (Unit {0})) → i < length gs → g ≡ get_or gs i g → is_indexed g ≡ false → LeadsClaims before middle (spans_of s f env (drop i gs) js) whole → LeadsClaims before middle (spans_of s f env (drop (i + 1) gs) js) whole
span-skips s f env gs i g js before middle whole h e t l =
    rw add-one (subst (λ (all : Guards). LeadsClaims before middle (match_spans s f env all js) whole) (indexed-split gs i g false h e t) l)

-- the turn of an indexed guard
turn : (s : PlainState) (f : PlainFact) (env : PlainEnv) (gs : Guards) (i : ℕ) (g : ℕ × Asked) (js : List ℕ) (n : ℕ) → i < length gs → g ≡ get_or gs i g → is_indexed g ≡ true → spans_of s f env (drop i gs) (drop n js) ≡ go_on (one_span s f env g js n).events (one_span s f env g js n).value (λ u. spans_of s f env (drop (suc i) gs) (drop (suc n) js))
turn s f env gs i g js n h e t =
    ap (λ (all : Guards). match_spans s f env all (drop n js)) (indexed-split gs i g true h e t)
    ∙ first-span s f env g (filter is_indexed (drop (suc i) gs)) js n

pub span-next : (s : PlainState) (f : PlainFact) (env : PlainEnv) (gs : List (ℕ × Asked)) (i : ℕ) (g : ℕ × Asked) (js : List ℕ) (n : ℕ) (before middle next : List (List Row)) (whole : Attempt (Unit {0})) → i < length gs → g ≡ get_or gs i g → is_indexed g ≡ true → Claims (Ok tt) middle next (one_span s f env g js n) → LeadsClaims before middle (spans_of s f env (drop i gs) (drop n js)) whole → LeadsClaims before next (spans_of s f env (drop (i + 1) gs) (drop (n + 1) js)) whole
span-next s f env gs i g js n before middle next whole h e t m l =
    rw (add-one, add-one) (record { leads = λ r after x. l.leads r after (subst (Claims r middle after) (sym (turn s f env gs i g js n h e t)) (claims_then r (one_span s f env g js n) (λ u. spans_of s f env (drop (suc i) gs) (drop (suc n) js)) tt middle next after m x)) })

pub span-fails : (s : PlainState) (f : PlainFact) (env : PlainEnv) (gs : List (ℕ × Asked)) (i : ℕ) (g : ℕ × Asked) (js : List ℕ) (n : ℕ) (before middle next : List (List Row)) (whole : Attempt (Unit {0})) (u : RuleError) → i < length gs → g ≡ get_or gs i g → is_indexed g ≡ true → Claims (Err u) middle next (one_span s f env g js n) → LeadsClaims before middle (spans_of s f env (drop i gs) (drop n js)) whole → Claims (Err u) before next whole
span-fails s f env gs i g js n before middle next whole u h e t m l =
    l.leads (Err u) next (subst (Claims (Err u) middle next) (sym (turn s f env gs i g js n h e t)) (claims_fail u (one_span s f env g js n) (λ v. spans_of s f env (drop (suc i) gs) (drop (suc n) js)) middle next m))

-- each guard has had its turn
all-named : (s : PlainState) (f : PlainFact) (env : PlainEnv) (js : List ℕ) (n : ℕ) → n ≤ length js → match_spans s f env [] (drop n js) ≡ need (nat_eq n (length js))
all-named s f env [] zero h = refl
all-named s f env [] (suc n) h = absurd (omega arith)
all-named s f env (j ∷ js) zero h = ap need (sym (eqb-zero-suc (length js)))
all-named s f env (j ∷ js) (suc n) h = all-named s f env js n (omega arith) ∙ ap need (sym (eqb-suc-suc n (length js)))

pub spans-end : (s : PlainState) (f : PlainFact) (env : PlainEnv) (gs : List (ℕ × Asked)) (i : ℕ) (js : List ℕ) (n : ℕ) (before middle : List (List Row)) (whole : Attempt (Unit {0})) (r : Result (Unit {0}) RuleError) → length gs ≤ i → n ≤ length js → Makes r (need (nat_eq n (length js))) → LeadsClaims before middle (spans_of s f env (drop i gs) (drop n js)) whole → Claims r before middle whole
spans-end s f env gs i js n before middle whole r h k m l =
    l.leads r middle (subst (λ (all : Guards). Claims r middle middle (spans_of s f env all (drop n js))) (sym (drop_all i gs h)) (weaker _ _ middle (subst (Makes r) (sym (all-named s f env js n k)) m)))

-- ---- one of them alone, out of one piece

pub span-alone : (s : PlainState) (f : PlainFact) (env : PlainEnv) (g : ℕ × Asked) (j : ℕ) (r : Result (Unit {0}) RuleError) (before after : List (List Row)) → Claims (giving r tt) before after (one_span s f env g (j ∷ []) 0) → Claims (giving r tt) before after (match_spans s f env (g ∷ []) (j ∷ []))
span-alone s f env g j (Ok u) before after m =
    subst (Claims (Ok tt) before after) (sym (first-span s f env g [] (j ∷ []) 0))
    (claims_then (Ok tt) (one_span s f env g (j ∷ []) 0) (λ v. match_spans s f env [] []) tt before after after m (weaker _ _ after (done tt)))
span-alone s f env g j (Err e) before after m =
    subst (Claims (Err e) before after) (sym (first-span s f env g [] (j ∷ []) 0))
    (claims_fail e (one_span s f env g (j ∷ []) 0) (λ v. match_spans s f env [] []) before after m)

-- ---- whether their indices are known

abbrev pub indices_of : PlainEnv → List (ℕ × Asked) → Attempt (Unit {0})
indices_of env gs = indices_known env (filter is_indexed gs)

-- a guard that isn't indexed is passed over
pub index-skips : (env : PlainEnv) (gs : List (ℕ × Asked)) (i : ℕ) (g : ℕ × Asked) (whole : Attempt (Unit {0})) → i < length gs → g ≡ get_or gs i g → is_indexed g ≡ false → Leads (indices_of env (drop i gs)) whole → Leads (indices_of env (drop (i + 1) gs)) whole
index-skips env gs i g whole h e t l =
    rw add-one (subst (λ (all : Guards). Leads (indices_known env all) whole) (indexed-split gs i g false h e t) l)

pub index-next : (env : PlainEnv) (gs : List (ℕ × Asked)) (i : ℕ) (g : ℕ × Asked) (x : Linear) (whole : Attempt (Unit {0})) → i < length gs → g ≡ get_or gs i g → is_indexed g ≡ true → Makes (Ok x) (determined_slot env (asked_slot g.1)) → Leads (indices_of env (drop i gs)) whole → Leads (indices_of env (drop (i + 1) gs)) whole
index-next env gs i g x whole h e t m l =
    rw add-one (record { leads = λ r k. l.leads r (subst (λ (all : Guards). Makes r (indices_known env all)) (sym (indexed-split gs i g true h e t)) (then_made r (determined_slot env (asked_slot g.1)) (λ y. indices_of env (drop (suc i) gs)) x m k)) })

pub index-fails : (env : PlainEnv) (gs : List (ℕ × Asked)) (i : ℕ) (g : ℕ × Asked) (whole : Attempt (Unit {0})) (u : RuleError) → i < length gs → g ≡ get_or gs i g → is_indexed g ≡ true → Makes (Err u) (determined_slot env (asked_slot g.1)) → Leads (indices_of env (drop i gs)) whole → Makes (Err u) whole
index-fails env gs i g whole u h e t m l =
    l.leads (Err u) (subst (λ (all : Guards). Makes (Err u) (indices_known env all)) (sym (indexed-split gs i g true h e t)) (unmade u (determined_slot env (asked_slot g.1)) (λ y. indices_of env (drop (suc i) gs)) m))

pub index-end : (env : PlainEnv) (gs : List (ℕ × Asked)) (i : ℕ) (whole : Attempt (Unit {0})) → length gs ≤ i → Leads (indices_of env (drop i gs)) whole → Makes (Ok tt) whole
index-end env gs i whole h l =
    l.leads (Ok tt) (subst (λ (all : Guards). Makes (Ok tt) (indices_of env all)) (sym (drop_all i gs h)) (done tt))
