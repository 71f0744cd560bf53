-- Names and slots that are met, one after the other.
use Rattle.std.proofs.Common.{◌≡◌, ℕ, suc, ◌+◌, ◌<◌, ◌≤◌, List, [], ◌∷◌, ◌++◌, map, length, get_or, drop, drop-cons, add-one, refl, sym, ap, ◌∙◌, Result, Ok, Err}
use Rattle.std.proofs.lemmas.List.{drop_all, append_assoc, append-nil}
use Rattle.cap_lin.specs.Linear.{Linear}
use Rattle.cap_prog.specs.declared.assertion.Slot.{Slot}
use Rattle.cap_goal_spec.specs.Environments.{Reading}
use Rattle.cap_goal_spec.specs.States.{PlainFact}
use Rattle.cap_machine_accounts.specs.Assertions.{NameValue}
use Rattle.cap_owners_spec.specs.Traced.{Traced, traced, past_width, untold, ◌>>=◌, each}
use Rattle.cap_owners_spec.specs.Track.{Fill}
use Rattle.cap_owners_spec.specs.Filling.{met_by_term, all_met}
use Rattle.cap_owners_values.specs.declared.error.TraceError.{TraceError}
use Rattle.cap_owners_values.specs.Views.{Traces}
use Rattle.cap_owners_values.proofs.Tracing.{stops, goes, traces_same}

pub split_at : {X : Type 0} (xs : List X) (i : ℕ) (x : X) → i < length xs → x ≡ get_or xs i x → drop i xs ≡ x ∷ drop (i + 1) xs
split_at xs i x h e = rw add-one (drop-cons xs i x h ∙ ap (λ y. y ∷ drop (suc i) xs) (sym e))

-- ---- a list that is made

-- what is left of it, behind its first members
abbrev pub behind : {B : Type 0} → List B → Traced (List B) → Traced (List B)
behind ys (traced zs) = traced (ys ++ zs)
behind ys past_width = past_width
behind ys untold = untold

abbrev with_first : {B : Type 0} → Traced (List B) → B → Traced (List B)
with_first rest y = rest >>= λ zs. traced (y ∷ zs)

abbrev pub behind_more : {B : Type 0} → List B → Traced (List B) → B → Traced (List B)
behind_more ys rest y = behind (ys ++ y ∷ []) rest

with_one : {B : Type 0} (ys : List B) (y : B) (rest : Traced (List B)) → behind ys (with_first rest y) ≡ behind_more ys rest y
with_one ys y (traced zs) = ap traced (sym (append_assoc ys (y ∷ []) zs))
with_one ys y past_width = refl
with_one ys y untold = refl

with_next : {B : Type 0} (t : Traced B) (rest : Traced (List B)) (ys : List B) → behind ys (t >>= with_first rest) ≡ t >>= behind_more ys rest
with_next (traced y) rest ys = with_one ys y rest
with_next past_width rest ys = refl
with_next untold rest ys = refl

-- the whole, where a member is next
each_next : {A B : Type 0} (f : A → Traced B) (xs : List A) (i : ℕ) (x : A) (ys : List B) (whole : Traced (List B)) → i < length xs → x ≡ get_or xs i x → behind ys (each f (drop i xs)) ≡ whole → whole ≡ f x >>= behind_more ys (each f (drop (i + 1) xs))
each_next f xs i x ys whole h e w = sym w ∙ (ap (λ zs. behind ys (each f zs)) (split_at xs i x h e) ∙ with_next (f x) (each f (drop (i + 1) xs)) ys)

pub each_goes : {A B C : Type 0} (view : C → B) (f : A → Traced B) (xs : List A) (i : ℕ) (x : A) (y : C) (ys : List B) (whole : Traced (List B)) → i < length xs → x ≡ get_or xs i x → Traces (Ok y) view (f x) → behind ys (each f (drop i xs)) ≡ whole → behind (ys ++ view y ∷ []) (each f (drop (i + 1) xs)) ≡ whole
each_goes view f xs i x y ys whole h e t w = sym (each_next f xs i x ys whole h e w ∙ goes y view (f x) (behind_more ys (each f (drop (i + 1) xs))) t)

pub each_stops : {A B C D : Type 0} (e : TraceError) (view : C → B) (other : D → List B) (f : A → Traced B) (xs : List A) (i : ℕ) (x : A) (ys : List B) (whole : Traced (List B)) → i < length xs → x ≡ get_or xs i x → Traces {A = B} {B = C} (Err e) view (f x) → behind ys (each f (drop i xs)) ≡ whole → Traces {A = List B} {B = D} (Err e) other whole
each_stops e view other f xs i x ys whole h q t w = traces_same (Err e) other whole _ (each_next f xs i x ys whole h q w) (stops e view other (f x) (behind_more ys (each f (drop (i + 1) xs))) t)

pub each_ends : {A B : Type 0} (f : A → Traced B) (xs : List A) (i : ℕ) (ys : List B) (whole : Traced (List B)) → length xs ≤ i → behind ys (each f (drop i xs)) ≡ whole → whole ≡ traced ys
each_ends f xs i ys whole h w = sym w ∙ (ap (λ zs. behind ys (each f zs)) (drop_all i xs h) ∙ ap traced (append-nil ys))

-- ---- slots

-- slots from a place on are met by terms from there on
abbrev pub met_from : List NameValue → (Slot → Reading) → List Slot → List Linear → ℕ → Fill → Traced Fill
met_from vs read slots terms i f = all_met vs (map read (drop i slots)) (drop i terms) f

met_next : (vs : List NameValue) (read : Slot → Reading) (slots : List Slot) (terms : List Linear) (i : ℕ) (x : Slot) (t : Linear) (f : Fill) (whole : Traced Fill) → i < length slots → i < length terms → x ≡ get_or slots i x → t ≡ get_or terms i t → met_from vs read slots terms i f ≡ whole → whole ≡ met_by_term vs (read x) t f >>= met_from vs read slots terms (i + 1)
met_next vs read slots terms i x t f whole h k e q w =
    sym w ∙ (ap (λ xs. all_met vs (map read xs) (drop i terms) f) (split_at slots i x h e) ∙ ap (λ ts. all_met vs (read x ∷ map read (drop (i + 1) slots)) ts f) (split_at terms i t k q))

pub met_goes : (vs : List NameValue) (read : Slot → Reading) (slots : List Slot) (terms : List Linear) (i : ℕ) (x : Slot) (t : Linear) (f f' : Fill) (whole : Traced Fill) → i < length slots → i < length terms → x ≡ get_or slots i x → t ≡ get_or terms i t → met_by_term vs (read x) t f ≡ traced f' → met_from vs read slots terms i f ≡ whole → met_from vs read slots terms (i + 1) f' ≡ whole
met_goes vs read slots terms i x t f f' whole h k e q m w =
    sym (met_next vs read slots terms i x t f whole h k e q w ∙ ap (λ u. u >>= met_from vs read slots terms (i + 1)) m)

pub met_stops : {C D : Type 0} (e : TraceError) (view : C → Fill) (other : D → Fill) (vs : List NameValue) (read : Slot → Reading) (slots : List Slot) (terms : List Linear) (i : ℕ) (x : Slot) (t : Linear) (f : Fill) (whole : Traced Fill) → i < length slots → i < length terms → x ≡ get_or slots i x → t ≡ get_or terms i t → Traces {A = Fill} {B = C} (Err e) view (met_by_term vs (read x) t f) → met_from vs read slots terms i f ≡ whole → Traces {A = Fill} {B = D} (Err e) other whole
met_stops e view other vs read slots terms i x t f whole h k p q m w =
    traces_same (Err e) other whole _ (met_next vs read slots terms i x t f whole h k p q w) (stops e view other (met_by_term vs (read x) t f) (met_from vs read slots terms (i + 1)) m)

pub no_slots : (vs : List NameValue) (read : Slot → Reading) (slots : List Slot) (terms : List Linear) (i : ℕ) (f : Fill) (whole : Traced Fill) → length slots ≤ i → met_from vs read slots terms i f ≡ whole → whole ≡ traced f
no_slots vs read slots terms i f whole h w = sym w ∙ ap (λ xs. all_met vs (map read xs) (drop i terms) f) (drop_all i slots h)

none_met : (vs : List NameValue) (rs : List Reading) (f : Fill) → all_met vs rs [] f ≡ traced f
none_met vs [] f = refl
none_met vs (r ∷ rs) f = refl

pub no_terms : (vs : List NameValue) (read : Slot → Reading) (slots : List Slot) (terms : List Linear) (i : ℕ) (f : Fill) (whole : Traced Fill) → length terms ≤ i → met_from vs read slots terms i f ≡ whole → whole ≡ traced f
no_terms vs read slots terms i f whole h w =
    sym w ∙ (ap (λ ts. all_met vs (map read (drop i slots)) ts f) (drop_all i terms h) ∙ none_met vs (map read (drop i slots)) f)

-- ---- with one slot and one term more

ends_so : (vs : List NameValue) (rs : List Reading) (t : Traced Fill) → t >>= all_met vs rs [] ≡ t
ends_so vs rs (traced f) = none_met vs rs f
ends_so vs rs past_width = refl
ends_so vs rs untold = refl

ends_with : (vs : List NameValue) (ts : List Linear) (t : Traced Fill) → t >>= all_met vs [] ts ≡ t
ends_with vs ts (traced f) = refl
ends_with vs ts past_width = refl
ends_with vs ts untold = refl

onward : (t : Traced Fill) (g h k : Fill → Traced Fill) → ((f : Fill) → g f ≡ h f >>= k) → t >>= g ≡ (t >>= h) >>= k
onward (traced f) g h k e = e f
onward past_width g h k e = refl
onward untold g h k e = refl

pub one_more : (vs : List NameValue) (read : Slot → Reading) (slots : List Slot) (x : Slot) (terms : List Linear) (t : Linear) (f : Fill) → all_met vs (map read (slots ++ x ∷ [])) (terms ++ t ∷ []) f ≡ all_met vs (map read slots) terms f >>= met_by_term vs (read (get_or slots (length terms) x)) (get_or terms (length slots) t)
one_more vs read [] x [] t f = ends_so vs [] (met_by_term vs (read x) t f)
one_more vs read [] x (u ∷ terms) t f = ends_with vs (terms ++ t ∷ []) (met_by_term vs (read x) u f)
one_more vs read (y ∷ slots) x [] t f = ends_so vs (map read (slots ++ x ∷ [])) (met_by_term vs (read y) t f)
one_more vs read (y ∷ slots) x (u ∷ terms) t f =
    onward (met_by_term vs (read y) u f) (all_met vs (map read (slots ++ x ∷ [])) (terms ++ t ∷ [])) (all_met vs (map read slots) terms) (met_by_term vs (read (get_or slots (length terms) x)) (get_or terms (length slots) t)) (one_more vs read slots x terms t)

-- ---- the slots of a region fact

-- behind its region
behind_first : (vs : List NameValue) (read : Slot → Reading) (x : Slot) (args : List Slot) (state : Slot) (fact : PlainFact) (region : Linear) (fargs : List Linear) (fstate : Linear) (f f1 : Fill) → region ≡ fact.region → fargs ≡ fact.args → fstate ≡ fact.state → met_by_term vs (read x) region f ≡ traced f1 → all_met vs (map read (x ∷ (args ++ state ∷ []))) (fact.region ∷ (fact.args ++ fact.state ∷ [])) f ≡ all_met vs (map read args) fargs f1 >>= met_by_term vs (read (get_or args (length fargs) state)) (get_or fargs (length args) fstate)
behind_first vs read x args state fact region fargs fstate f f1 e1 e2 e3 h =
    ap (λ u. all_met vs (map read (x ∷ (args ++ state ∷ []))) (u ∷ (fact.args ++ fact.state ∷ [])) f) (sym e1)
    ∙ (ap (λ us. all_met vs (map read (x ∷ (args ++ state ∷ []))) (region ∷ (us ++ fact.state ∷ [])) f) (sym e2)
    ∙ (ap (λ u. all_met vs (map read (x ∷ (args ++ state ∷ []))) (region ∷ (fargs ++ u ∷ [])) f) (sym e3)
    ∙ (ap (λ t. t >>= all_met vs (map read (args ++ state ∷ [])) (fargs ++ fstate ∷ [])) h
    ∙ one_more vs read args state fargs fstate f1)))

pub terms_fail : {C D : Type 0} (e : TraceError) (view : C → Fill) (other : D → Fill) (vs : List NameValue) (read : Slot → Reading) (x : Slot) (args : List Slot) (state : Slot) (fact : PlainFact) (region : Linear) (fargs : List Linear) (fstate : Linear) (f f1 : Fill) → region ≡ fact.region → fargs ≡ fact.args → fstate ≡ fact.state → met_by_term vs (read x) region f ≡ traced f1 → Traces {A = Fill} {B = C} (Err e) view (all_met vs (map read args) fargs f1) → Traces {A = Fill} {B = D} (Err e) other (all_met vs (map read (x ∷ (args ++ state ∷ []))) (fact.region ∷ (fact.args ++ fact.state ∷ [])) f)
terms_fail e view other vs read x args state fact region fargs fstate f f1 e1 e2 e3 h k =
    traces_same (Err e) other _ _ (behind_first vs read x args state fact region fargs fstate f f1 e1 e2 e3 h) (stops e view other (all_met vs (map read args) fargs f1) (met_by_term vs (read (get_or args (length fargs) state)) (get_or fargs (length args) fstate)) k)

pub last_met : {D : Type 0} (r : Result D TraceError) (other : D → Fill) (vs : List NameValue) (read : Slot → Reading) (x : Slot) (args : List Slot) (state : Slot) (fact : PlainFact) (region : Linear) (fargs : List Linear) (fstate : Linear) (n : ℕ) (s : Slot) (t : Linear) (f f1 f2 : Fill) → region ≡ fact.region → fargs ≡ fact.args → fstate ≡ fact.state → n ≡ length fargs → s ≡ get_or args n state → t ≡ get_or fargs (length args) fstate → met_by_term vs (read x) region f ≡ traced f1 → all_met vs (map read args) fargs f1 ≡ traced f2 → Traces r other (met_by_term vs (read s) t f2) → Traces r other (all_met vs (map read (x ∷ (args ++ state ∷ []))) (fact.region ∷ (fact.args ++ fact.state ∷ [])) f)
last_met r other vs read x args state fact region fargs fstate n s t f f1 f2 e1 e2 e3 en es et h k w =
    traces_same r other _ (met_by_term vs (read s) t f2) (behind_first vs read x args state fact region fargs fstate f f1 e1 e2 e3 h
    ∙ (ap (λ u. u >>= met_by_term vs (read (get_or args (length fargs) state)) (get_or fargs (length args) fstate)) k
    ∙ (ap (λ u. met_by_term vs (read u) (get_or fargs (length args) fstate) f2) (sym (es ∙ ap (λ m. get_or args m state) en))
    ∙ ap (λ u. met_by_term vs (read s) u f2) (sym et)))) w
