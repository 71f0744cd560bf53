-- The item that comes first is taken.
use Rattle.std.proofs.Common.{◌≡◌, ℕ, Bool, true, false, List, [], ◌∷◌, drop, Option, Some, None, refl, sym, ap, subst, ◌∙◌}
use Rattle.std.specs.Prelude.{slice_get, Result, Err}
use Rattle.cap_prog.specs.Program.{PlainItem, Items, none, item, PlainProgram}
use Rattle.cap_goal.specs.Views.{has_no_items}
use Rattle.cap_goal_spec.specs.States.{PlainEnv, PlainState, PlainTask, to_take}
use Rattle.cap_goal_spec.specs.Choices.{PlainChoice, by_enter, by_create}
use Rattle.cap_rules.specs.Making.{env_at}
use Rattle.cap_machine_accounts.specs.Assertions.{NameValue}
use Rattle.cap_owners_spec.specs.Traced.{Traced, traced, past_width, untold, ◌>>=◌, found}
use Rattle.cap_owners_spec.specs.Filling.{names_in}
use Rattle.cap_owners_spec.specs.Walks.{Taking, Walk, Descent, descends, with_top, Interpreting, pass_task, pass_item, taken_at}
use Rattle.cap_owners_passes.specs.declared.items.Taken.{Taken}
use Rattle.cap_owners_passes.specs.Views.{first_item, creates_by, item_goes, Passes, Takes, with_new, with_values}
use Rattle.cap_owners_values.proofs.Tracing.{stops_same}
use Rattle.cap_owners_values.specs.declared.error.TraceError.{TraceError}
use Rattle.cap_owners_values.specs.declared.value.Value.{Value}

false-true : false ≡ true → ⊥
false-true e = cc

none-some : {X : Type 0} (x : X) → None ≡ Some x → ⊥
none-some x e = cc

same-pair : (x y : PlainItem × Bool) → Some x ≡ Some y → x ≡ y
same-pair x y e = cc

pub creates-is : (c : PlainChoice) → creates_by c ≡ true → (x : ℕ) × (c ≡ by_create x)
creates-is (by_create x) e = (x, refl)
creates-is c e = absurd (false-true e)

-- its names are those of now
abbrev pub named : Taking → List NameValue → Taking
named t names = record t { fill = record t.fill { names = names } }

take-head : (enter : Interpreting) (p : PlainProgram) (s : PlainState) (c : PlainChoice) (i : PlainItem) (more : Items) (e left n : ℕ) (ts : List PlainTask) (w : Walk) → pass_task enter p s c (to_take (item i more) e left n) ts w ≡ taken_at s e w >>= (λ t. pass_item p s c i more e left n ts t w)
take-head enter p s (by_enter j cs) i more e left n ts w = refl
take-head enter p s c i more e left n ts w = refl

regroup : (t : Taking) (names : Traced (List NameValue)) (f : Taking → Traced Descent) → (names >>= (λ vs. traced (named t vs))) >>= f ≡ names >>= (λ vs. f (named t vs))
regroup t (traced vs) f = refl
regroup t past_width f = refl
regroup t untold f = refl

-- by the names of now, whatever follows
abbrev pub item_by :
    PlainProgram → PlainState → PlainChoice → PlainItem → Items → ℕ → ℕ → ℕ → List PlainTask →
    Taking → Walk → Traced Descent
item_by p s c i more e left n ts t w =
    names_in w.values (env_at s e) >>= (λ vs. pass_item p s c i more e left n ts (named t vs) w)

-- what follows the first item
pub record Following (items : Items) (i : PlainItem) (last : Bool) : Type 0 where
  pub more : Items
  pub items_are : items ≡ item i more
  pub is_last : has_no_items more ≡ last

pub follows : (items : Items) (i : PlainItem) (last : Bool) → first_item items ≡ Some (i, last) → Following items i last
follows none i last e = absurd (none-some (i, last) e)
follows (item j more) i last e =
    let k = same-pair (j, has_no_items more) (i, last) e in
    record {
      more = more;
      items_are = ap (λ (x : PlainItem × Bool). item x.0 more) k;
      is_last = ap (λ (x : PlainItem × Bool). x.1) k;
    }

pub take-first : (enter : Interpreting) (p : PlainProgram) (s : PlainState) (c : PlainChoice) (items : Items) (i : PlainItem) (more : Items) (e left n : ℕ) (ts : List PlainTask) (t : Taking) (w : Walk) → items ≡ item i more → slice_get w.taken 0 ≡ Some t → pass_task enter p s c (to_take items e left n) ts w ≡ item_by p s c i more e left n ts t w
take-first enter p s c items i more e left n ts t w h k =
    let f : Taking → Traced Descent = λ x. pass_item p s c i more e left n ts x w in
    ap (λ is. pass_task enter p s c (to_take is e left n) ts w) h ∙ (take-head enter p s c i more e left n ts w ∙ (ap (λ o. (found o >>= (λ x. names_in w.values (env_at s e) >>= (λ vs. traced (named x vs)))) >>= f) k ∙ regroup t (names_in w.values (env_at s e)) f))

all-taken : (ts : List Taking) (t : Taking) → slice_get ts 0 ≡ Some t → t ∷ drop 1 ts ≡ ts
all-taken [] t e = absurd (none-some t e)
all-taken (x ∷ ts) t e = ap (λ y. y ∷ ts) (same x t e)
  where
    same : (x t : Taking) → Some x ≡ Some t → t ≡ x
    same x t e = cc

-- what was taken last is under way again, as it was
pub back-again : (w rest again : Walk) (t : Taking) → slice_get w.taken 0 ≡ Some t → rest ≡ record w { taken = drop 1 w.taken } → again ≡ record rest { taken = t ∷ rest.taken } → again ≡ w
back-again w rest again t h f g =
    g ∙ (ap (λ (v : Walk). record v { taken = t ∷ v.taken }) f ∙ ap (λ (ts : List Taking). record w { taken = ts }) (all-taken w.taken t h))

-- ---- what is passed by what an item comes to

-- by the names that there are
by-names : (enter : Interpreting) (p : PlainProgram) (s : PlainState) (c : PlainChoice) (items : Items) (i : PlainItem) (more : Items) (e left n : ℕ) (ts : List PlainTask) (t : Taking) (w : Walk) (env : PlainEnv) (vs names : List NameValue) → items ≡ item i more → slice_get w.taken 0 ≡ Some t → vs ≡ w.values → env ≡ env_at s e → names_in vs env ≡ traced names → pass_task enter p s c (to_take items e left n) ts w ≡ pass_item p s c i more e left n ts (named t names) w
by-names enter p s c items i more e left n ts t w env vs names h k v f m =
    let g : names_in w.values (env_at s e) ≡ traced names = ap (λ us. names_in us (env_at s e)) (sym v) ∙ (ap (names_in vs) (sym f) ∙ m) in
    take-first enter p s c items i more e left n ts t w h k ∙ ap (λ u. u >>= (λ us. pass_item p s c i more e left n ts (named t us) w)) g

pub created-goes : (enter : Interpreting) (p : PlainProgram) (s : PlainState) (c : PlainChoice) (items : Items) (i : PlainItem) (last : Bool) (e left n : ℕ) (ts : List PlainTask) (w rest again new : Walk) (t : Taking) (r : Result (Option ℕ) TraceError) (env : PlainEnv) (vs names : List NameValue) → first_item items ≡ Some (i, last) → slice_get w.taken 0 ≡ Some t → vs ≡ w.values → env ≡ env_at s e → names_in vs env ≡ traced names → creates_by c ≡ true → rest ≡ record w { taken = drop 1 w.taken } → again ≡ record rest { taken = t ∷ rest.taken } → ((x : ℕ) (more : Items) (u : Taking) → Passes r new (pass_item p s (by_create x) i more e left n ts u again)) → Passes r new (pass_task enter p s c (to_take items e left n) ts w)
created-goes enter p s c items i last e left n ts w rest again new t r env vs names a k v f m g h j go =
    let q : Following items i last = follows items i last a in
    let x : (x : ℕ) × (c ≡ by_create x) = creates-is c g in
    let b : again ≡ w = back-again w rest again t k h j in
    let d = by-names enter p s c items i q.more e left n ts t w env vs names q.items_are k v f m in
    let l = ap (λ (y : PlainChoice). pass_item p s y i q.more e left n ts (named t names) w) x.1 in
    let o = ap (λ (u : Walk). pass_item p s (by_create x.0) i q.more e left n ts (named t names) u) (sym b) in
    subst (λ (y : Traced Descent). Passes r new y) (sym (d ∙ (l ∙ o))) (go x.0 q.more (named t names))

-- the same walk
same-values : (w : Walk) (vs : List NameValue) → vs ≡ w.values → with_values w vs ≡ w
same-values w vs v = ap (λ (us : List NameValue). record w { values = us }) v

pub taken-fails : (enter : Interpreting) (p : PlainProgram) (s : PlainState) (c : PlainChoice) (items : Items) (i : PlainItem) (last : Bool) (e left n : ℕ) (ts : List PlainTask) (w new : Walk) (t u o : Taking) (x : TraceError) (env : PlainEnv) (vs names : List NameValue) → first_item items ≡ Some (i, last) → slice_get w.taken 0 ≡ Some t → vs ≡ w.values → env ≡ env_at s e → names_in vs env ≡ traced names → ((more : Items) → has_no_items more ≡ last → Takes (Err x) (with_values w vs) u (pass_item p s c i more e left n ts o (with_values w vs))) → o ≡ named t names → Passes (Err x) new (pass_task enter p s c (to_take items e left n) ts w)
taken-fails enter p s c items i last e left n ts w new t u o x env vs names a k v f m go g =
    let q : Following items i last = follows items i last a in
    let d = by-names enter p s c items i q.more e left n ts t w env vs names q.items_are k v f m in
    let l = ap (λ (y : Taking). pass_item p s c i q.more e left n ts y w) (sym g) in
    let z = ap (λ (y : Walk). pass_item p s c i q.more e left n ts o y) (sym (same-values w vs v)) in
    subst (λ (y : Traced Descent). Passes (Err x) new y) (sym (d ∙ (l ∙ z))) (stops_same x (item_goes (with_values w vs) u) (λ j. descends j new) (pass_item p s c i q.more e left n ts o (with_values w vs)) (go q.more q.is_last))

put-back : (w : Walk) (u : Taking) (new : Option Value) → with_top (with_new w new) u ≡ with_new (record w { taken = u ∷ drop 1 w.taken }) new
put-back w u None = refl
put-back w u (Some v) = refl

pub taken-goes : (enter : Interpreting) (p : PlainProgram) (s : PlainState) (c : PlainChoice) (items : Items) (i : PlainItem) (last : Bool) (e left n : ℕ) (ts : List PlainTask) (w rest again after : Walk) (t u o : Taking) (x : Taken) (env : PlainEnv) (vs names : List NameValue) → first_item items ≡ Some (i, last) → slice_get w.taken 0 ≡ Some t → vs ≡ w.values → env ≡ env_at s e → names_in vs env ≡ traced names → ((more : Items) → has_no_items more ≡ last → pass_item p s c i more e left n ts o (with_values w vs) ≡ traced (item_goes (with_values w vs) u x)) → o ≡ named t names → rest ≡ record w { taken = drop 1 w.taken } → again ≡ record rest { taken = u ∷ rest.taken } → after ≡ with_new again x.new → pass_task enter p s c (to_take items e left n) ts w ≡ traced (descends x.child after)
taken-goes enter p s c items i last e left n ts w rest again after t u o x env vs names a k v f m go g h j l =
    let q : Following items i last = follows items i last a in
    let d = by-names enter p s c items i q.more e left n ts t w env vs names q.items_are k v f m in
    let y = ap (λ (b : Taking). pass_item p s c i q.more e left n ts b w) (sym g) in
    let same = same-values w vs v in
    let z = ap (λ (b : Walk). pass_item p s c i q.more e left n ts o b) (sym same) in
    let r = ap (λ (b : Walk). traced (item_goes b u x)) same in
    let back = put-back w u x.new in
    let there = ap (λ (b : Walk). with_new (record b { taken = u ∷ b.taken }) x.new) (sym h) ∙ (ap (λ (b : Walk). with_new b x.new) (sym j) ∙ sym l) in
    d ∙ (y ∙ (z ∙ (go q.more q.is_last ∙ (r ∙ ap (λ (b : Walk). traced (descends x.child b)) (back ∙ there)))))
