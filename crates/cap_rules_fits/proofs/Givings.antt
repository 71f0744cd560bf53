-- An assertion is given: what it adds to a state fits.
use Rattle.std.proofs.Common.{ℕ, ℤ, suc, List, [], ◌∷◌, ◌++◌, length, Option, Some, None, refl, sym, ap, ◌∙◌, subst}
use Rattle.std.specs.Prelude.{slice_get, get_or, IsSomeAnd}
use Rattle.std.specs.List.{AllByRecursion}
use Rattle.cap_lin.specs.Linear.{Linear, variable, plus, IsBelow}
use Rattle.cap_lin.specs.declared.row.Sort.{Sort}
use Rattle.cap_lin.specs.declared.row.Sort.TheVariants.{Int, Perm}
use Rattle.cap_lin.specs.declared.row.Op.TheVariants.{Ge as AtLeast}
use Rattle.cap_galg.specs.Algebras.{PlainAlgebra, unique, divisible, counting, indexed, atom_algebra}
use Rattle.cap_gsolve.specs.declared.piece.Form.{Form}
use Rattle.cap_gsolve.specs.declared.piece.Form.TheVariants as form
use Rattle.cap_gsolve.specs.Pieces.{piece}
use Rattle.cap_gsolve.specs.Meaning.{Takes}
use Rattle.cap_fm_spec.proofs.Lists.{each-left, each-right, each-join}
use Rattle.cap_prog.specs.declared.assertion.Comp.{Comp}
use Rattle.cap_prog.specs.declared.assertion.Slot.{Slot}
use Rattle.cap_prog.specs.declared.assertion.Slot.TheVariants.{Any, Is}
use Rattle.cap_prog.specs.declared.assertion.Asked.{Asked}
use Rattle.cap_prog.specs.declared.assertion.Asked.TheVariants.{One, Share, Src, Tok, At, From}
use Rattle.cap_prog.specs.Program.{PlainItem, compare, choose, fact, atom, cell, Items, none, item, append_items, PlainProgram}
use Rattle.cap_prog.specs.Parts.{side_items, all_items}
use Rattle.cap_prog.specs.Scopes.{Scope}
use Rattle.cap_prog.specs.WellFormed.{AskedFits, FactFits, ItemFits}
use Rattle.cap_goal_spec.specs.States.{PlainEnv, PlainState, PlainTask, to_give, goals_of}
use Rattle.cap_goal_spec.specs.Environments.{one_value, term_of, with_name}
use Rattle.cap_goal_spec.specs.Fits.{FormIsBelow, KnownFactFits, StateFits, ItemsFitEnv, TaskFits, WaitingFits}
use Rattle.cap_rules.specs.Attempts.{unit, ◌>>=◌}
use Rattle.cap_rules.specs.Making.{sum, value_by, opposite, fresh, env_at, with_env_at, fact_of}
use Rattle.cap_rules.specs.Giving.{name_as, name_parts, Given, given, give_term, give_slot, give_slots, give_form, give_sides, give_item, give}
use Rattle.cap_rules_fits.specs.Kept.{ChecksNoMove}
use Rattle.cap_rules_fits.proofs.Wider.{some-weaker}
use Rattle.cap_rules_fits.proofs.Values.{plus-is-below, wider-env, EnvKept, named}
use Rattle.cap_rules_fits.proofs.Growing.{Next, here, further}
use Rattle.cap_rules_fits.proofs.Makings.{count, one-below, by-fits, AreValues, with-sort-fits, fresh-below, later-term, later-terms, with-comparison-fits, with-cell-fits, env-at-fits, env-set-fits, with-fact-fits, on}
use Rattle.cap_rules_fits.proofs.Pieces.{with-piece-fits}
use Rattle.cap_rules_fits.proofs.Reaching.{Reaches, chain, at, at-computed}
use Rattle.cap_rules_fits.proofs.Waiting.{task-stays, no-moves-stay, no-moves-first, AreKept, goals-kept}

-- ---- names get variables

name-fits : (p : PlainProgram) (s : PlainState) (e : ℕ) (o : Sort) (x : ℕ) (t : Option Linear) → StateFits p s → Reaches (Next p s) (name_as s e o x t)
name-fits p s e o x (Some t) h = at (Next p s) s (here p s h)
name-fits p s e o x None h =
    chain _ _ (with-sort-fits p s o h)
    (λ t i.
    let old : EnvKept (count t) (env_at s e) (with_name (env_at s e) x (fresh s)) = named (count t) (env_at s e) x (fresh s) (wider-env (count s) (count t) (env_at s e) i.next.grows.sorts (env-at-fits p s e h)) (fresh-below p s t i) in
    let kept : EnvKept (count t) (env_at t e) (with_name (env_at s e) x (fresh s)) = subst (λ env. EnvKept (count t) env (with_name (env_at s e) x (fresh s))) (ap (λ envs. get_or envs e []) (sym i.envs)) old in
    at (Next p s) (with_env_at t e (with_name (env_at s e) x (fresh s))) (further p s t _ i.next (env-set-fits p t e (with_name (env_at s e) x (fresh s)) i.next.fits kept)))

parts-fit : (p : PlainProgram) (s : PlainState) (e : ℕ) (o : Sort) (ps : List (ℕ × ℤ)) → StateFits p s → Reaches (Next p s) (name_parts s e o ps)
parts-fit p s e o [] h = at (Next p s) s (here p s h)
parts-fit p s e o (q ∷ ps) h = chain _ _ (name-fits p s e o q.0 (term_of (env_at s e) q.0) h) (λ t i. on i (parts-fit p t e o ps i.fits))

-- what is given fits the state in which it is
record Gives (p : PlainProgram) (s : PlainState) {A : Type 0} (P : ℕ → A → Type 0) (g : Given A) : Type 0 where
  next : Next p s g.state
  value : P (count g.state) g.value

gives : {A : Type 0} (p : PlainProgram) (s t : PlainState) (P : ℕ → A → Type 0) (x : A) → Next p s t → P (count t) x → Reaches (Gives p s P) (unit (given t x))
gives p s t P x h k = at (Gives p s P) (given t x) (record { next = h; value = k })

term-gives : (p : PlainProgram) (s : PlainState) (e : ℕ) (o : Sort) (t : Linear) → StateFits p s → Reaches (Gives p s IsBelow) (give_term s e o t)
term-gives p s e o t h =
    chain _ _ (parts-fit p s e o t.parts h)
    (λ v i. chain (value_by (env_at v e) t) (λ u. unit (given v u)) (by-fits (count v) (env_at v e) t (env-at-fits p v e i.fits)) (λ u j. gives p s v IsBelow u i j))

slot-gives : (p : PlainProgram) (s : PlainState) (e : ℕ) (o : Sort) (x : Slot) → StateFits p s → Reaches (Gives p s IsBelow) (give_slot s e o x)
slot-gives p s e o Any h = chain _ _ (with-sort-fits p s o h) (λ t i. gives p s t IsBelow (fresh s) i.next (fresh-below p s t i))
slot-gives p s e o (Is t) h = term-gives p s e o t h

slots-give : (p : PlainProgram) (s : PlainState) (e : ℕ) (xs : List Slot) → StateFits p s → Reaches (Gives p s (λ n ts. AreValues n (length xs) ts)) (give_slots s e xs)
slots-give p s e [] h = gives p s s (λ n ts. AreValues n 0 ts) [] (here p s h) (record { each = tt; size = refl })
slots-give p s e (x ∷ xs) h =
    chain _ _ (slot-gives p s e Int x h)
    (λ g i. chain _ _ (slots-give p g.state e xs i.next.fits)
    (λ more j. gives p s more.state (λ n ts. AreValues n (suc (length xs)) ts) (g.value ∷ more.value) (further p s g.state more.state i.next j.next) (record { each = (later-term p g.state more.state g.value j.next i.value, j.value.each); size = ap suc j.value.size })))

-- a form of what is asked
record IsForm (x : Asked) (n : ℕ) (f : Form) : Type 0 where
  below : FormIsBelow n f
  takes : (scope : Scope) (a : PlainAlgebra) → AskedFits scope a x → Takes a f

one-takes : (scope : Scope) (a : PlainAlgebra) → AskedFits scope a One → Takes a form.One
one-takes scope unique h = tt
one-takes scope a h = absurd h

share-takes : (scope : Scope) (a : PlainAlgebra) (x : Slot) (t : Linear) → AskedFits scope a (Share x) → Takes a (form.Share t)
share-takes scope divisible x t h = tt
share-takes scope a x t h = absurd h

source-takes : (scope : Scope) (a : PlainAlgebra) (x : Slot) (t : Linear) → AskedFits scope a (Src x) → Takes a (form.Src t)
source-takes scope counting x t h = tt
source-takes scope a x t h = absurd h

tokens-takes : (scope : Scope) (a : PlainAlgebra) (x : Slot) (t : Linear) → AskedFits scope a (Tok x) → Takes a (form.Tok t)
tokens-takes scope counting x t h = tt
tokens-takes scope a x t h = absurd h

index-takes : (scope : Scope) (a : PlainAlgebra) (x : Slot) (t : Linear) (o : Option Linear) → AskedFits scope a (At x) → Takes a (form.Span t o)
index-takes scope indexed x t o h = tt
index-takes scope a x t o h = absurd h

onwards-takes : (scope : Scope) (a : PlainAlgebra) (x : Slot) (t : Linear) (o : Option Linear) → AskedFits scope a (From x) → Takes a (form.Span t o)
onwards-takes scope indexed x t o h = tt
onwards-takes scope a x t o h = absurd h

form-gives : (p : PlainProgram) (s : PlainState) (e : ℕ) (x : Asked) → StateFits p s → Reaches (Gives p s (IsForm x)) (give_form s e x)
form-gives p s e One h = gives p s s (IsForm One) form.One (here p s h) (record { below = tt; takes = one-takes })
form-gives p s e (Share x) h = chain _ _ (slot-gives p s e Perm x h) (λ g i. gives p s g.state (IsForm (Share x)) (form.Share g.value) i.next (record { below = i.value; takes = λ scope a k. share-takes scope a x g.value k }))
form-gives p s e (Src x) h = chain _ _ (slot-gives p s e Int x h) (λ g i. gives p s g.state (IsForm (Src x)) (form.Src g.value) i.next (record { below = i.value; takes = λ scope a k. source-takes scope a x g.value k }))
form-gives p s e (Tok x) h = chain _ _ (slot-gives p s e Int x h) (λ g i. gives p s g.state (IsForm (Tok x)) (form.Tok g.value) i.next (record { below = i.value; takes = λ scope a k. tokens-takes scope a x g.value k }))
form-gives p s e (At x) h =
    chain _ _ (slot-gives p s e Int x h)
    (λ g i. chain (sum g.value one_value) (λ next. unit (given g.state (form.Span g.value (Some next)))) (at-computed (IsBelow (count g.state)) (plus g.value one_value) _ (plus-is-below (count g.state) g.value one_value i.value (one-below (count g.state))))
    (λ next j. gives p s g.state (IsForm (At x)) (form.Span g.value (Some next)) i.next (record { below = (i.value, j); takes = λ scope a k. index-takes scope a x g.value (Some next) k })))
form-gives p s e (From x) h = chain _ _ (slot-gives p s e Int x h) (λ g i. gives p s g.state (IsForm (From x)) (form.Span g.value None) i.next (record { below = i.value; takes = λ scope a k. onwards-takes scope a x g.value None k }))

record AreBelow (n : ℕ) (x : Linear × Linear) : Type 0 where
  left : IsBelow n x.0
  right : IsBelow n x.1

sides-give : (p : PlainProgram) (s : PlainState) (e : ℕ) (c : Comp) → StateFits p s → Reaches (Gives p s AreBelow) (give_sides s e c)
sides-give p s e c h =
    chain _ _ (term-gives p s e c.sort c.left h)
    (λ l i. chain _ _ (term-gives p l.state e c.sort c.right i.next.fits)
    (λ r j. gives p s r.state AreBelow (l.value, r.value) (further p s l.state r.state i.next j.next) (record { left = later-term p l.state r.state l.value j.next i.value; right = j.value })))

-- ---- items

fact-fits : (p : PlainProgram) (n : ℕ) (scope : Scope) (r : Linear) (k : ℕ) (args : List Slot) (x : Slot) (vs : List Linear) (u : Linear) → IsSomeAnd (slice_get p.regions k) (λ y. FactFits scope y args x) → IsBelow n r → AreValues n (length args) vs → IsBelow n u → KnownFactFits p n (fact_of r k vs u)
fact-fits p n scope r k args x vs u f h g i = record {
  region = h;
  arity = some-weaker (slice_get p.regions k) _ _ (λ y j. j.arity ∙ ap suc (sym g.size)) f;
  args = g.each;
  state = i;
}

item-gives : (p : PlainProgram) (s : PlainState) (e : ℕ) (scope : Scope) (i : PlainItem) → StateFits p s → ItemFits p scope i → Reaches (Next p s) (give_item p s e i)
item-gives p s e scope (compare c) h f = chain _ _ (sides-give p s e c h) (λ g i. on i.next (with-comparison-fits p g.state g.value.0 c.op g.value.1 c.sort i.next.fits i.value.left i.value.right))
item-gives p s e scope (choose c a b) h f = at (Next p s) s (here p s h)
item-gives p s e scope (fact place r k args x) h f =
    chain _ _ (term-gives p s e Int (variable r) h)
    (λ region i. chain _ _ (slots-give p region.state e args i.next.fits)
    (λ values j. chain _ _ (slot-gives p values.state e Int x j.next.fits)
    (λ state l.
    let n = further p region.state values.state state.state j.next l.next in
    let values-later : AreValues (count state.state) (length args) values.value = record { each = later-terms p values.state state.state values.value l.next j.value.each; size = j.value.size } in
    on (further p s region.state state.state i.next n) (with-fact-fits p state.state (fact_of region.value k values.value state.value) l.next.fits (fact-fits p (count state.state) scope region.value k args x values.value state.value f.1 (later-term p region.state state.state region.value n i.value) values-later l.value)))))
item-gives p s e scope (atom place r k m asked) h f =
    chain _ _ (term-gives p s e Int (variable r) h)
    (λ region i. chain _ _ (form-gives p region.state e asked i.next.fits)
    (λ g j. on (further p s region.state g.state i.next j.next) (with-piece-fits p g.state (piece region.value k m g.value) j.next.fits (record {
      region = later-term p region.state g.state region.value j.next i.value;
      form = j.value.below;
      atom = some-weaker (slice_get p.regions k) _ _ (λ y q. (q.exists, j.value.takes scope (atom_algebra y.algebra m) q.form)) f.1;
    }))))
item-gives p s e scope (cell place a x) h f =
    chain _ _ (term-gives p s e Int a h)
    (λ address i. chain _ _ (slot-gives p address.state e Int x i.next.fits)
    (λ content j. chain _ _ (with-cell-fits p content.state address.value content.value j.next.fits (later-term p address.state content.state address.value j.next i.value) j.value)
    (λ t l.
    let n = further p address.state content.state t j.next l in
    on (further p s address.state t i.next n) (with-comparison-fits p t address.value AtLeast one_value Int l.fits (later-term p address.state t address.value n i.value) (one-below (count t))))))

-- ---- all items

pub items-append : (P : PlainItem → Type 0) (a b : Items) → AllByRecursion P (all_items a) → AllByRecursion P (all_items b) → AllByRecursion P (all_items (append_items a b))
items-append P none b h k = k
items-append P (item i a) b h k = (h.0, each-join P (side_items i) (all_items (append_items a b)) (each-left P (side_items i) (all_items a) h.1) (items-append P a b (each-right P (side_items i) (all_items a) h.1) k))

-- the first item, over some scope
pub first-item : (p : PlainProgram) (i : PlainItem) (more : Items) (o : Option PlainEnv) → IsSomeAnd o (λ env. ItemsFitEnv p env (item i more)) → (scope : Scope) × ItemFits p scope i
first-item p i more None h = absurd h
first-item p i more (Some env) h = (h.scope, h.each.0)

pub other-items : (p : PlainProgram) (i : PlainItem) (more : Items) (o : Option PlainEnv) → IsSomeAnd o (λ env. ItemsFitEnv p env (item i more)) → IsSomeAnd o (λ env. ItemsFitEnv p env more)
other-items p i more o h = some-weaker o _ _ (λ env k. record { scope = k.scope; names = k.names; each = each-right (ItemFits p k.scope) (side_items i) (all_items more) k.each.1 }) h

pub left-items : (p : PlainProgram) (c : Comp) (a b more : Items) (o : Option PlainEnv) → IsSomeAnd o (λ env. ItemsFitEnv p env (item (choose c a b) more)) → IsSomeAnd o (λ env. ItemsFitEnv p env (append_items a more))
left-items p c a b more o h =
    some-weaker o _ _ (λ env k.
    let sides = each-left (ItemFits p k.scope) (all_items a ++ all_items b) (all_items more) k.each.1 in
    record { scope = k.scope; names = k.names; each = items-append (ItemFits p k.scope) a more (each-left (ItemFits p k.scope) (all_items a) (all_items b) sides) (each-right (ItemFits p k.scope) (all_items a ++ all_items b) (all_items more) k.each.1) }) h

pub right-items : (p : PlainProgram) (c : Comp) (a b more : Items) (o : Option PlainEnv) → IsSomeAnd o (λ env. ItemsFitEnv p env (item (choose c a b) more)) → IsSomeAnd o (λ env. ItemsFitEnv p env (append_items b more))
right-items p c a b more o h =
    some-weaker o _ _ (λ env k.
    let sides = each-left (ItemFits p k.scope) (all_items a ++ all_items b) (all_items more) k.each.1 in
    record { scope = k.scope; names = k.names; each = items-append (ItemFits p k.scope) b more (each-right (ItemFits p k.scope) (all_items a) (all_items b) sides) (each-right (ItemFits p k.scope) (all_items a ++ all_items b) (all_items more) k.each.1) }) h

-- what is given next, where it is given in any state that has grown
next-kept : (p : PlainProgram) (s : PlainState) (e n : ℕ) (ts : List PlainTask) (i : PlainItem) (more : Items) → StateFits p s → TaskFits p s (to_give (item i more) e n) → ((t : PlainState) → Next p s t → TaskFits p t (to_give more e n) → Reaches (AreKept p) (give p t e n ts more)) → Reaches (AreKept p) (give_item p s e i >>= λ t. give p t e n ts more)
next-kept p s e n ts i more h k f =
    let first = first-item p i more (slice_get s.envs e) k in
    chain _ _ (item-gives p s e first.0 i h first.1)
    (λ t j. f t j (task-stays p s t (to_give more e n) j.grows tt (other-items p i more (slice_get s.envs e) k)))

pub give-kept : (p : PlainProgram) (s : PlainState) (e n : ℕ) (ts : List PlainTask) (is : Items) → StateFits p s → TaskFits p s (to_give is e n) → AllByRecursion ChecksNoMove ts → AllByRecursion (WaitingFits p s) ts → Reaches (AreKept p) (give p s e n ts is)
give-kept p s e n ts none h k c w = at (AreKept p) (goals_of s ts) (goals-kept p s ts h w (no-moves-first ts c))
give-kept p s e n ts (item (choose c a b) more) h k d w =
    chain _ _ (sides-give p s e c h)
    (λ g i. chain _ _ (with-comparison-fits p g.state g.value.0 c.op g.value.1 c.sort i.next.fits i.value.left i.value.right)
    (λ t j. chain _ _ (with-comparison-fits p g.state g.value.0 (opposite c.op) g.value.1 c.sort i.next.fits i.value.left i.value.right)
    (λ u l.
    let at-t = further p s g.state t i.next j in
    let at-u = further p s g.state u i.next l in
    at (AreKept p) (goals_of t (to_give (append_items a more) e n ∷ ts) ++ goals_of u (to_give (append_items b more) e n ∷ ts))
    (each-join _ (goals_of t (to_give (append_items a more) e n ∷ ts)) (goals_of u (to_give (append_items b more) e n ∷ ts))
    (goals-kept p t (to_give (append_items a more) e n ∷ ts) j.fits (task-stays p s t (to_give (append_items a more) e n) at-t.grows tt (left-items p c a b more (slice_get s.envs e) k), no-moves-stay p s t ts at-t.grows d w) d)
    (goals-kept p u (to_give (append_items b more) e n ∷ ts) l.fits (task-stays p s u (to_give (append_items b more) e n) at-u.grows tt (right-items p c a b more (slice_get s.envs e) k), no-moves-stay p s u ts at-u.grows d w) d)))))
give-kept p s e n ts (item (compare c) more) h k d w = next-kept p s e n ts (compare c) more h k (λ t i f. give-kept p t e n ts more i.fits f d (no-moves-stay p s t ts i.grows d w))
give-kept p s e n ts (item (fact a b c q x) more) h k d w = next-kept p s e n ts (fact a b c q x) more h k (λ t i f. give-kept p t e n ts more i.fits f d (no-moves-stay p s t ts i.grows d w))
give-kept p s e n ts (item (atom a b c q x) more) h k d w = next-kept p s e n ts (atom a b c q x) more h k (λ t i f. give-kept p t e n ts more i.fits f d (no-moves-stay p s t ts i.grows d w))
give-kept p s e n ts (item (cell a b x) more) h k d w = next-kept p s e n ts (cell a b x) more h k (λ t i f. give-kept p t e n ts more i.fits f d (no-moves-stay p s t ts i.grows d w))
