-- What is taken out of a piece leaves the list of pieces as it is, and two forms stay of it only where
-- one piece more has room.
use Rattle.std.proofs.Common.{◌≡◌, ℕ, zero, suc, Bool, true, false, List, [], ◌∷◌, ◌++◌, Option, Some, None, refl, ap, sym, subst, ◌∙◌, arith, ◌<◌, ◌≤◌, ◌⊎◌, inl, inr}
use Rattle.std.proofs.lemmas.Bool.Decides.{nat_tests}
use Rattle.std.specs.Prelude.{nat_lt, Ok, length}
use Rattle.cap_lin.specs.Linear.{Linear, plus}
use Rattle.cap_lin.specs.Rows.{row_of}
use Rattle.cap_lin.specs.declared.row.Row.{Row}
use Rattle.cap_lin.specs.declared.row.Sort.{Sort}
use Rattle.cap_lin.specs.declared.row.Sort.TheVariants.{Perm}
use Rattle.cap_lin.specs.declared.row.Op.{Op}
use Rattle.cap_lin.specs.declared.row.Op.TheVariants.{Lt as Less, Gt as Greater}
use Rattle.cap_gsolve.specs.declared.piece.Form.{Form}
use Rattle.cap_gsolve.specs.declared.piece.Form.TheVariants as form
use Rattle.cap_gsolve.specs.declared.piece.Piece.{Piece}
use Rattle.cap_prog.specs.declared.assertion.Asked.{Asked}
use Rattle.cap_prog.specs.declared.assertion.Asked.TheVariants.{One, Share, Src, Tok, At, From}
use Rattle.cap_goal_spec.specs.States.{PlainEnv, PlainState, longest_list}
use Rattle.cap_goal_spec.specs.Environments.{zero_value, one_value, term_in, Reading, settled, open_to, stuck, reading}
use Rattle.cap_rules.specs.Attempts.{Attempt, Event, unit, ◌>>=◌, go_on, need}
use Rattle.cap_rules.specs.Making.{fresh, with_sort, with_comparison}
use Rattle.cap_rules.specs.Taking.{Cut, cut, cut_one, cut_share, cut_source, cut_tokens, cut_new_tokens, cut_index, cut_onwards, cut_form}
use Rattle.cap_rules_steps.specs.Walks.{Claims}

-- whatever value the attempt comes to, this holds of it
record Only {A : Type 0} (P : A → Type 0) (o : Attempt A) : Type 0 where
  only : (x : A) → o.value ≡ Some x → P x

same : {A : Type 0} {x y : A} → Some x ≡ Some y → y ≡ x
same e = cc

clash : {A : Type 0} {x : A} → None ≡ Some x → ⊥
clash e = cc

value-only : {A B : Type 0} (P : A → Type 0) (Q : B → Type 0) (es : List Event) (v : Option A) (f : A → Attempt B) (y : B) → ((x : A) → v ≡ Some x → P x) → ((x : A) → P x → Only Q (f x)) → (go_on es v f).value ≡ Some y → Q y
value-only P Q es None f y h k e = absurd (clash e)
value-only P Q es (Some x) f y h k e = (k x (h x refl)).only y e

then-only : {A B : Type 0} (P : A → Type 0) (Q : B → Type 0) (o : Attempt A) (f : A → Attempt B) → Only P o → ((x : A) → P x → Only Q (f x)) → Only Q (go_on o.events o.value f)
then-only P Q o f h k = record { only = λ y e. value-only P Q o.events o.value f y h.only k e }

-- ---- the pieces of states and cuts

abbrev StateHolds : List Piece → PlainState → Type 0
StateHolds gs s = s.guards ≡ gs

-- at most one form stays, or one piece more has room
abbrev pub HasRoom : List Piece → Cut → Type 0
HasRoom gs c = (length c.left ≤ 1) ⊎ (length gs < longest_list)

abbrev CutHolds : List Piece → Cut → Type 0
CutHolds gs c = (c.state.guards ≡ gs) × HasRoom gs c

sort-value : (b : Bool) (s t : PlainState) (sorts : List Sort) → ((need b >>= λ _. unit sorts) >>= λ all. unit (record s { sorts = all })).value ≡ Some t → t.guards ≡ s.guards
sort-value true s t sorts e = ap (λ (u : PlainState). u.guards) (same e)
sort-value false s t sorts e = absurd (clash e)

row-value : (b : Bool) (s t : PlainState) (rows : List Row) → ((need b >>= λ _. unit rows) >>= λ all. unit (record s { rows = all })).value ≡ Some t → t.guards ≡ s.guards
row-value true s t rows e = ap (λ (u : PlainState). u.guards) (same e)
row-value false s t rows e = absurd (clash e)

sort-holds : (s : PlainState) (o : Sort) → Only (StateHolds s.guards) (with_sort s o)
sort-holds s o = record { only = λ t e. sort-value (nat_lt (length s.sorts) longest_list) s t (s.sorts ++ o ∷ []) e }

comparison-holds : (gs : List Piece) (s : PlainState) (l : Linear) (op : Op) (r : Linear) (o : Sort) → s.guards ≡ gs → Only (StateHolds gs) (with_comparison s l op r o)
comparison-holds gs s l op r o h = record { only = λ t e. row-value (nat_lt (length s.rows) longest_list) s t (s.rows ++ row_of l op r o ∷ []) e ∙ h }

-- a cut that is made in this state
made : (gs : List Piece) (c : Cut) (o : Attempt Cut) → o.value ≡ Some c → c.state.guards ≡ gs → length c.left ≤ 1 → Only (CutHolds gs) o
made gs c o q h l = record { only = λ d e. subst (CutHolds gs) (sym (same (first q e))) (h, inl l) }
  where
    first : {A : Type 0} {v : Option A} {x y : A} → v ≡ Some x → v ≡ Some y → Some x ≡ Some y
    first q e = cc

lacks : (gs : List Piece) (o : Attempt Cut) → o.value ≡ None → Only (CutHolds gs) o
lacks gs o q = record { only = λ d e. absurd (none q e) }
  where
    none : {A : Type 0} {v : Option A} {x : A} → v ≡ None → v ≡ Some x → ⊥
    none q e = cc

one-holds : (s : PlainState) (env : PlainEnv) (way : ℕ) → Only (CutHolds s.guards) (cut_one s env way)
one-holds s env zero = made s.guards (cut env s []) _ refl refl (omega arith)
one-holds s env (suc way) = lacks s.guards _ refl

share-holds : (s : PlainState) (env : PlainEnv) (a : Linear) (way : ℕ) (r : Reading) → Only (CutHolds s.guards) (cut_share s env a way r)
share-holds s env a zero (settled t) = made s.guards _ _ refl refl (omega arith)
share-holds s env a zero (open_to x) = lacks s.guards _ refl
share-holds s env a zero stuck = lacks s.guards _ refl
share-holds s env a (suc zero) (settled t) = made s.guards _ _ refl refl (omega arith)
share-holds s env a (suc zero) (open_to x) =
    then-only (StateHolds s.guards) (CutHolds s.guards) (with_sort s Perm) _ (sort-holds s Perm)
    (λ t h. then-only (StateHolds s.guards) (CutHolds s.guards) (with_comparison t (fresh s) Greater zero_value Perm) _ (comparison-holds s.guards t (fresh s) Greater zero_value Perm h)
    (λ u k. then-only (StateHolds s.guards) (CutHolds s.guards) (with_comparison u (fresh s) Less a Perm) _ (comparison-holds s.guards u (fresh s) Less a Perm k)
    (λ v l. made s.guards _ _ refl l (omega arith))))
share-holds s env a (suc zero) stuck = lacks s.guards _ refl
share-holds s env a (suc (suc way)) r = lacks s.guards _ refl

source-holds : (s : PlainState) (env : PlainEnv) (m : Linear) (way : ℕ) (r : Reading) → Only (CutHolds s.guards) (cut_source s env m way r)
source-holds s env m zero (open_to x) = made s.guards _ _ refl refl (omega arith)
source-holds s env m zero (settled t) = made s.guards _ _ refl refl (omega arith)
source-holds s env m zero stuck = lacks s.guards _ refl
source-holds s env m (suc zero) (settled t) = made s.guards _ _ refl refl (omega arith)
source-holds s env m (suc zero) (open_to x) = lacks s.guards _ refl
source-holds s env m (suc zero) stuck = lacks s.guards _ refl
source-holds s env m (suc (suc way)) r = lacks s.guards _ refl

tokens-hold : (s : PlainState) (env : PlainEnv) (m : Linear) (way : ℕ) (r : Reading) → Only (CutHolds s.guards) (cut_tokens s env m way r)
tokens-hold s env m zero (open_to x) = made s.guards _ _ refl refl (omega arith)
tokens-hold s env m zero (settled t) = made s.guards _ _ refl refl (omega arith)
tokens-hold s env m zero stuck = lacks s.guards _ refl
tokens-hold s env m (suc zero) (settled t) = made s.guards _ _ refl refl (omega arith)
tokens-hold s env m (suc zero) (open_to x) = lacks s.guards _ refl
tokens-hold s env m (suc zero) stuck = lacks s.guards _ refl
tokens-hold s env m (suc (suc way)) r = lacks s.guards _ refl

new-tokens-hold : (s : PlainState) (env : PlainEnv) (m : Linear) (way : ℕ) (r : Reading) → Only (CutHolds s.guards) (cut_new_tokens s env m way r)
new-tokens-hold s env m zero r = lacks s.guards _ refl
new-tokens-hold s env m (suc zero) (settled t) = made s.guards _ _ refl refl (omega arith)
new-tokens-hold s env m (suc zero) (open_to x) = lacks s.guards _ refl
new-tokens-hold s env m (suc zero) stuck = lacks s.guards _ refl
new-tokens-hold s env m (suc (suc way)) r = lacks s.guards _ refl

below : (n m : ℕ) → nat_lt n m ≡ true → n < m
below n m h = grind (arith, nat_tests)

room-value : (b : Bool) (c d : Cut) → (need b >>= λ _. unit c).value ≡ Some d → (b ≡ true) × (d ≡ c)
room-value true c d e = (refl, same e)
room-value false c d e = absurd (clash e)

roomy : (gs : List Piece) (c d : Cut) → c.state.guards ≡ gs → (nat_lt (length gs) longest_list ≡ true) × (d ≡ c) → CutHolds gs d
roomy gs c d h k = subst (CutHolds gs) (sym k.1) (h, inr (below (length gs) longest_list k.0))

-- what stays on either side of an index
abbrev both_of : PlainState → PlainEnv → Linear → Option Linear → Linear → Cut
both_of s env a e t =
    let i = term_in env t in
    cut env s (form.Span a (Some i) ∷ form.Span (plus i one_value) e ∷ [])

index-holds : (s : PlainState) (env : PlainEnv) (a : Linear) (e : Option Linear) (way : ℕ) (r : Reading) → Only (CutHolds s.guards) (cut_index s env a e way r)
index-holds s env a None zero (settled t) = lacks s.guards _ refl
index-holds s env a (Some x) zero (settled t) = made s.guards _ _ refl refl (omega arith)
index-holds s env a None zero (open_to x) = lacks s.guards _ refl
index-holds s env a (Some y) zero (open_to x) = lacks s.guards _ refl
index-holds s env a None zero stuck = lacks s.guards _ refl
index-holds s env a (Some y) zero stuck = lacks s.guards _ refl
index-holds s env a None (suc zero) (settled t) = record { only = λ d e. roomy s.guards (both_of s env a None t) d refl (room-value (nat_lt (length s.guards) longest_list) (both_of s env a None t) d e) }
index-holds s env a (Some x) (suc zero) (settled t) = record { only = λ d e. roomy s.guards (both_of s env a (Some x) t) d refl (room-value (nat_lt (length s.guards) longest_list) (both_of s env a (Some x) t) d e) }
index-holds s env a None (suc zero) (open_to x) = made s.guards _ _ refl refl (omega arith)
index-holds s env a (Some y) (suc zero) (open_to x) = made s.guards _ _ refl refl (omega arith)
index-holds s env a None (suc zero) stuck = lacks s.guards _ refl
index-holds s env a (Some y) (suc zero) stuck = lacks s.guards _ refl
index-holds s env a None (suc (suc way)) r = lacks s.guards _ refl
index-holds s env a (Some y) (suc (suc way)) r = lacks s.guards _ refl

onwards-hold : (s : PlainState) (env : PlainEnv) (a : Linear) (way : ℕ) (r : Reading) → Only (CutHolds s.guards) (cut_onwards s env a way r)
onwards-hold s env a zero (open_to x) = made s.guards _ _ refl refl (omega arith)
onwards-hold s env a zero (settled t) = made s.guards _ _ refl refl (omega arith)
onwards-hold s env a zero stuck = lacks s.guards _ refl
onwards-hold s env a (suc zero) (settled t) = made s.guards _ _ refl refl (omega arith)
onwards-hold s env a (suc zero) (open_to x) = lacks s.guards _ refl
onwards-hold s env a (suc zero) stuck = lacks s.guards _ refl
onwards-hold s env a (suc (suc way)) r = lacks s.guards _ refl

form-holds : (s : PlainState) (env : PlainEnv) (x : Asked) (f : Form) (way : ℕ) → Only (CutHolds s.guards) (cut_form s env x f way)
form-holds s env One form.One way = one-holds s env way
form-holds s env One (form.Share a) way = lacks s.guards _ refl
form-holds s env One (form.Src m) way = lacks s.guards _ refl
form-holds s env One (form.Tok m) way = lacks s.guards _ refl
form-holds s env One (form.Span a e) way = lacks s.guards _ refl
form-holds s env (Share x) form.One way = lacks s.guards _ refl
form-holds s env (Share x) (form.Share a) way = share-holds s env a way (reading env x)
form-holds s env (Share x) (form.Src m) way = lacks s.guards _ refl
form-holds s env (Share x) (form.Tok m) way = lacks s.guards _ refl
form-holds s env (Share x) (form.Span a e) way = lacks s.guards _ refl
form-holds s env (Src x) form.One way = lacks s.guards _ refl
form-holds s env (Src x) (form.Share a) way = lacks s.guards _ refl
form-holds s env (Src x) (form.Src m) way = source-holds s env m way (reading env x)
form-holds s env (Src x) (form.Tok m) way = lacks s.guards _ refl
form-holds s env (Src x) (form.Span a e) way = lacks s.guards _ refl
form-holds s env (Tok x) form.One way = lacks s.guards _ refl
form-holds s env (Tok x) (form.Share a) way = lacks s.guards _ refl
form-holds s env (Tok x) (form.Src m) way = new-tokens-hold s env m way (reading env x)
form-holds s env (Tok x) (form.Tok m) way = tokens-hold s env m way (reading env x)
form-holds s env (Tok x) (form.Span a e) way = lacks s.guards _ refl
form-holds s env (At x) form.One way = lacks s.guards _ refl
form-holds s env (At x) (form.Share a) way = lacks s.guards _ refl
form-holds s env (At x) (form.Src m) way = lacks s.guards _ refl
form-holds s env (At x) (form.Tok m) way = lacks s.guards _ refl
form-holds s env (At x) (form.Span a e) way = index-holds s env a e way (reading env x)
form-holds s env (From x) form.One way = lacks s.guards _ refl
form-holds s env (From x) (form.Share a) way = lacks s.guards _ refl
form-holds s env (From x) (form.Src m) way = lacks s.guards _ refl
form-holds s env (From x) (form.Tok m) way = lacks s.guards _ refl
form-holds s env (From x) (form.Span a None) way = onwards-hold s env a way (reading env x)
form-holds s env (From x) (form.Span a (Some e)) way = lacks s.guards _ refl

pub cut-keeps : (s : PlainState) (env : PlainEnv) (x : Asked) (f : Form) (way : ℕ) (c : Cut) (before after : List (List Row)) → Claims (Ok c) before after (cut_form s env x f way) → (c.state.guards ≡ s.guards) × HasRoom s.guards c
cut-keeps s env x f way c before after h = (form-holds s env x f way).only c h.ends.1

-- the state that a cut leaves has room for what stays
pub room-there : (c : Cut) (gs : List Piece) → (c.state.guards ≡ gs) × HasRoom gs c → (length c.left ≤ 1) ⊎ (length c.state.guards < longest_list)
room-there c gs h = subst (λ (ps : List Piece). (length c.left ≤ 1) ⊎ (length ps < longest_list)) (sym h.0) h.1
