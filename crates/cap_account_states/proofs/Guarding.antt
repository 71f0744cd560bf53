-- What an assertion asks of a guard is cut out of a piece's form, but for an open amount.
use Rattle.std.proofs.Common.{◌≡◌, ℕ, zero, suc, ◌+◌, ℤ, pos, ◌+ℤ◌, ◌*ℤ◌, ◌≤ℤ◌, ◌<ℤ◌, arith, Bool, true, false, List, [], ◌∷◌, length, Option, Some, None, refl, sym, ap, ◌∙◌, subst}
use Rattle.std.specs.Prelude.{if◌then◌else◌, nat_lt}
use Rattle.std.specs.List.{AllByRecursion}
use Rattle.std.proofs.lemmas.Int.{ints}
use Rattle.cap_lin.specs.Linear.{Linear, variable, plus, minus}
use Rattle.cap_lin.specs.Steps.{plus_steps, minus_steps}
use Rattle.cap_lin.specs.Rows.{row_of}
use Rattle.cap_lin.specs.Values.{Valuation, value, amount}
use Rattle.cap_lin.specs.Solves.{value_by_sort, Relates, Proves}
use Rattle.cap_lin.specs.declared.row.Sort.{Sort}
use Rattle.cap_lin.specs.declared.row.Sort.TheVariants.{Int, Perm}
use Rattle.cap_lin.specs.declared.row.Op.{Op}
use Rattle.cap_lin.specs.declared.row.Op.TheVariants.{Eq as Equal, Le as AtMost, Lt as Less, Gt as Greater}
use Rattle.cap_lin.proofs.Rows.{row_of-means}
use Rattle.cap_lin.proofs.Values.{value-plus}
use Rattle.cap_galg_indices.specs.Sets.{one_index, indices_from, index_range}
use Rattle.cap_galg.specs.cap_galg_spec.declared.fraction.Fraction.{Fraction}
use Rattle.cap_galg.specs.Fractions.{IsShare}
use Rattle.cap_galg.specs.Elements.{Element, one, share, src, tokens, indices, index_set}
use Rattle.cap_galg.specs.Algebras.{PlainAlgebra, divisible, counting, indexed, unique, IsElement}
use Rattle.cap_galg.specs.Laws.Kin.{tokens-is}
use Rattle.cap_gsolve.specs.declared.piece.Form.{Form}
use Rattle.cap_gsolve.specs.declared.piece.Form.TheVariants as form
use Rattle.cap_gsolve.specs.Meaning.{IsValueOf, IsFormElement, Takes}
use Rattle.cap_gsolve.proofs.Amounts.{zero-amount, zero-value}
use Rattle.cap_gsolve.proofs.CutSpans.{Cuts, single-set, cut-index, cut-index-open, cut-from, cut-first, cut-first-open}
use Rattle.cap_prog.specs.declared.assertion.Slot.{Slot}
use Rattle.cap_prog.specs.declared.assertion.Slot.TheVariants.{Any, Is}
use Rattle.cap_prog.specs.declared.assertion.Asked.{Asked}
use Rattle.cap_prog.specs.declared.assertion.Asked.TheVariants.{One, Share, Src, Tok, At, From}
use Rattle.cap_prog.specs.Scopes.{Scope, SlotFits}
use Rattle.cap_machine_accounts.specs.Assertions.{SlotIs}
use Rattle.cap_goal_spec.specs.Terms.{lone_variable}
use Rattle.cap_goal_spec.specs.States.{PlainEnv, PlainState, longest_list}
use Rattle.cap_goal_spec.specs.Environments.{zero_value, one_value, is_determined, term_in, term_in_steps, Reading, settled, open_to, stuck, read_name, reading, asked_slot, bind_open}
use Rattle.cap_rules.specs.Attempts.{Attempt, unit, ◌>>=◌, need, prove_that}
use Rattle.cap_rules.specs.Making.{sum, difference, value_by, match_reading}
use Rattle.cap_rules.specs.Taking.{Cut, cut, cut_share, cut_source, cut_tokens, cut_new_tokens, cut_index, cut_onwards, prove_end, cut_form}
use Rattle.cap_account_states.specs.Nodes.{Comes}
use Rattle.cap_account_states.proofs.Terms.{Over, vars-more, over-plus, over-minus, row-over}
use Rattle.cap_account_states.proofs.Attempts.{comes-bind, comes-proved, after-computed, after-need, after-proved}
use Rattle.cap_account_states.proofs.Meets.{Usable, usable-old, Old, Meets, proved-holds}
use Rattle.cap_account_states.proofs.Alike.{Alike, value-alike}
use Rattle.cap_account_states.proofs.Wants.{AmountIs, Wants, value-of-alike, share-wants}
use Rattle.cap_account_states.proofs.Naming.{Placed, Means, Stays, term-over, term-number, bound-of}
use Rattle.cap_account_states.proofs.Matching.{Outside, met_env, matching}
use Rattle.cap_account_states.proofs.Asking.{AskedOver}
use Rattle.cap_account_states.proofs.Cutting.{cut-all, one-is}
use Rattle.cap_account_states.proofs.Cutting as cutting

-- the variables of an end, and of a form
abbrev pub EndOver : (Sort → ℕ → Type 0) → Option Linear → Type 0
EndOver R None = Unit {0}
EndOver R (Some e) = Over (R Int) e

abbrev pub FormOver : (Sort → ℕ → Type 0) → Form → Type 0
FormOver R form.One = Unit {0}
FormOver R (form.Share t) = Over (R Perm) t
FormOver R (form.Src t) = Over (R Int) t
FormOver R (form.Tok t) = Over (R Int) t
FormOver R (form.Span a e) = Over (R Int) a × EndOver R e

-- an amount that is `_` or an unbound name
abbrev pub is_open_reading : Reading → Bool
is_open_reading (open_to y) = true
is_open_reading r = false

abbrev pub is_open : Asked → PlainEnv → Bool
is_open (Share x) env = is_open_reading (reading env x)
is_open asked env = false

-- it is asked for at all values that are alike to these, whatever the names are
abbrev pub WantedNear :
    Scope → (ℕ → Type 0) → Valuation → PlainEnv → Asked → Element → Type 0
WantedNear sc P v env asked y =
    (w : Valuation) → Alike P v w → (X : Valuation) → Means sc w env X → Wants X asked y

-- the same, of this term
abbrev pub asked_of : Asked → Linear → Asked
asked_of One t = One
asked_of (Share x) t = Share (Is t)
asked_of (Src x) t = Src (Is t)
asked_of (Tok x) t = Tok (Is t)
asked_of (At x) t = At (Is t)
asked_of (From x) t = From (Is t)

-- how much a form is, or where it begins
abbrev pub first_term : Form → Linear
first_term form.One = zero_value
first_term (form.Share t) = t
first_term (form.Src t) = t
first_term (form.Tok t) = t
first_term (form.Span a e) = a

-- what a slot that is open stands for: a new variable where it is an amount
abbrev pub open_term : Asked → Form → ℕ → Linear
open_term (Share x) f n = variable n
open_term asked f n = first_term f

-- where the slot is open, that is what is taken
abbrev pub OpenGets : Valuation → Asked → Reading → Linear → Element → Type 0
OpenGets v asked (open_to o) t y = Wants v (asked_of asked t) y
OpenGets v asked r t y = Unit {0}

-- this can be cut out of such a form
abbrev pub CutFrom : Asked → Form → Type 0
CutFrom One form.One = Unit {0}
CutFrom (Share x) (form.Share a) = Unit {0}
CutFrom (Src x) (form.Src m) = Unit {0}
CutFrom (Tok x) (form.Tok m) = Unit {0}
CutFrom (Tok x) (form.Src m) = Unit {0}
CutFrom (At x) (form.Span a e) = Unit {0}
CutFrom (From x) (form.Span a e) = Unit {0}
CutFrom asked f = ⊥

-- a cut leaves the state but for an environment; the form is what is asked, at all values of the
-- names, and what stays
pub record CutOk (ks : List ℕ) (sc : Scope) (v : Valuation) (s : PlainState) (env : PlainEnv)
    (asked : Asked) (f : Form) (P : Cut → Type 0) : Type 0 where
  pub later : PlainEnv
  pub later_is :
      later ≡ met_env env (reading env (asked_slot asked)) (open_term asked f (length s.sorts))
  pub left : List Form
  pub placed : Placed ks sc s.sorts later
  pub stays : Stays sc env later
  pub outside : Outside sc env later
  pub size : length later ≡ length env
  pub left_over : AllByRecursion (FormOver (Usable ks s.sorts)) left
  pub fits : (b : PlainAlgebra) → Takes b f → AllByRecursion (Takes b) left
  pub cuts :
      (own : Element) → IsFormElement v f own →
      (y : Element)
      × WantedNear sc (Old s) v later asked y
      × ((b : PlainAlgebra) → Takes b f → IsElement b y)
      × Cuts v own y left
      × OpenGets v asked (reading env (asked_slot asked)) (open_term asked f (length s.sorts)) y
  pub comes : P (cut later s left)

-- ---- slots

-- a slot that stands for a term
pub record IsSettled (ks : List ℕ) (sc : Scope) (s : PlainState) (env : PlainEnv) (x : Slot)
    (o : Sort) (t : Linear) : Type 0 where
  pub is : x ≡ Is t
  pub over : Over (Usable ks s.sorts o) (term_in env t)
  pub number_is :
      (w X : Valuation) → Means sc w env X → value_by_sort o w (term_in env t) ≡ value_by_sort o X t

settled-same : (t u : Linear) → settled t ≡ settled u → t ≡ u
settled-same t u e = cc

open-settled : (y : Option ℕ) (u : Linear) → open_to y ≡ settled u → ⊥
open-settled y u e = cc

name-settled : (y : Option ℕ) (u : Linear) → read_name y ≡ settled u → ⊥
name-settled None u e = absurd (cc)
name-settled (Some x) u e = absurd (cc)

pub settled-slot :
    (ks : List ℕ) (sc : Scope) (s : PlainState) (env : PlainEnv) (x : Slot) (o : Sort)
    (t : Linear) → Placed ks sc s.sorts env → SlotFits sc o x →
    reading env x ≡ settled t → IsSettled ks sc s env x o t
settled-slot ks sc s env Any o t pl h e = absurd (open-settled None t e)
settled-slot ks sc s env (Is u) o t pl h e = by (is_determined env u) refl e
  where
    by :
        (b : Bool) → is_determined env u ≡ b →
        (if b then settled u else read_name (lone_variable u)) ≡ settled t →
        IsSettled ks sc s env (Is u) o t
    by true d e =
        let same = settled-same u t e in
        let b = bound-of env u.parts d in
        subst (IsSettled ks sc s env (Is u) o) same (record {
          is = refl;
          over = term-over ks sc s.sorts env o u pl h b;
          number_is = λ w X m. term-number sc w env X o u m h b;
        })
    by false d e = absurd (name-settled (lone_variable u) t e)

-- what the rows prove of two terms
pub proved-relates :
    (ks : List ℕ) (v : Valuation) (s : PlainState) (l : Linear) (op : Op) (r : Linear) (o : Sort) →
    Meets ks v s → Proves s.rows (row_of l op r o) → Over (Usable ks s.sorts o) l →
    Over (Usable ks s.sorts o) r → Relates op (value_by_sort o v l) (value_by_sort o v r)
proved-relates ks v s l op r o m h a b =
    (row_of-means v l op r o).0
    (proved-holds ks ks v s (row_of l op r o) m h (row-over (Usable ks s.sorts) l op r o a b))

-- a slot's value
pub slot-is :
    (X : Valuation) (x : Slot) (t : Linear) (z y : ℤ) → x ≡ Is t → z ≡ value X.whole t → z ≡ y →
    SlotIs X x y
slot-is X x t z y e a b = subst (λ u. SlotIs X u y) (sym e) (sym a ∙ b)

counted :
    (b : PlainAlgebra) (m : Linear) (x : Element) → IsElement counting x → Takes b (form.Src m) →
    IsElement b x
counted counting m x h t = h
counted b m x h t = absurd t

counted-too :
    (b : PlainAlgebra) (m : Linear) (x : Element) → IsElement counting x → Takes b (form.Tok m) →
    IsElement b x
counted-too counting m x h t = h
counted-too b m x h t = absurd t

pub shared :
    (b : PlainAlgebra) (a : Linear) (x : Element) → IsElement divisible x → Takes b (form.Share a) →
    IsElement b x
shared divisible a x h t = h
shared b a x h t = absurd t

-- what takes a form takes what stays of it
pub share-takes :
    (b : PlainAlgebra) (a e : Linear) → Takes b (form.Share a) → Takes b (form.Share e)
share-takes divisible a e t = tt
share-takes b a e t = absurd t

source-tokens : (b : PlainAlgebra) (m n : Linear) → Takes b (form.Src m) → Takes b (form.Tok n)
source-tokens counting m n t = tt
source-tokens b m n t = absurd t

source-source : (b : PlainAlgebra) (m n : Linear) → Takes b (form.Src m) → Takes b (form.Src n)
source-source counting m n t = tt
source-source b m n t = absurd t

tokens-tokens : (b : PlainAlgebra) (m n : Linear) → Takes b (form.Tok m) → Takes b (form.Tok n)
tokens-tokens counting m n t = tt
tokens-tokens b m n t = absurd t

pub spanned :
    (b : PlainAlgebra) (a : Linear) (e : Option Linear) (x : Element) → IsElement indexed x →
    Takes b (form.Span a e) → IsElement b x
spanned indexed a e x h t = h
spanned b a e x h t = absurd t

pub span-takes :
    (b : PlainAlgebra) (a : Linear) (e : Option Linear) (c : Linear) (d : Option Linear) →
    Takes b (form.Span a e) → Takes b (form.Span c d)
span-takes indexed a e c d t = tt
span-takes b a e c d t = absurd t

pub single-element : (k : ℕ) → IsElement indexed (indices (one_index k))
single-element k = ((omega arith, (omega arith, tt)), refl)

pub onwards-element : (k : ℕ) → IsElement indexed (indices (indices_from k))
onwards-element k = ((omega arith, tt), refl)

-- a span whose end is one more than its start
single-own :
    (v : Valuation) (a e : Linear) (own : Element) → IsFormElement v (form.Span a (Some e)) own →
    value v.whole e ≡ value v.whole a +ℤ pos 1 →
    (k : ℕ) × (value v.whole a ≡ pos k) × (own ≡ indices (one_index k))
single-own v a e own w h =
    let i = w.0 in
    let j = w.1 in
    let ai = w.2 in
    let ej = w.3 in
    let n : j ≡ i + 1 = omega (arith, ints, h, ai, ej) in
    (i, ai, w.5 ∙ ap (λ m. index_set (index_range i m)) n ∙ single-set i)

-- an end, where there is one, is at least this
abbrev pub IsAbove : Valuation → Linear → Option Linear → Type 0
IsAbove v next None = Unit {0}
IsAbove v next (Some e) = value v.whole next ≤ℤ value v.whole e

-- an index out of a span, and its first one
pub cut-any :
    (v : Valuation) (a x y : Linear) (e : Option Linear) (held : Element) →
    IsFormElement v (form.Span a e) held → value v.whole a ≤ℤ value v.whole x →
    value v.whole y ≡ value v.whole x +ℤ pos 1 → IsAbove v y e →
    (k : ℕ) × (value v.whole x ≡ pos k)
    × Cuts v held (indices (one_index k)) (form.Span a (Some x) ∷ (form.Span y e ∷ []))
cut-any v a x y None held h l n m = cut-index-open v a x y held h l n
cut-any v a x y (Some e) held h l n m = cut-index v a e x y held h l n m

cut-start :
    (v : Valuation) (a y : Linear) (e : Option Linear) (held : Element) →
    IsFormElement v (form.Span a e) held → value v.whole y ≡ value v.whole a +ℤ pos 1 →
    IsAbove v y e →
    (k : ℕ) × (value v.whole a ≡ pos k)
    × Cuts v held (indices (one_index k)) (form.Span y e ∷ [])
cut-start v a y None held h n m = cut-first-open v a y held h n
cut-start v a y (Some e) held h n m = cut-first v a e y held h n m

alone : (b : PlainAlgebra) → Takes b form.One → IsElement b one
alone unique t = tt
alone b t = absurd t

module _ (ks : List ℕ) (sc : Scope) (v : Valuation) (s : PlainState) (me : Meets ks v s)
    (env : PlainEnv) (pl : Placed ks sc s.sorts env) (P : Cut → Type 0) where
  -- the environment stays
  abbrev kept :
      (asked : Asked) (f : Form) (left : List Form) →
      AllByRecursion (FormOver (Usable ks s.sorts)) left →
      ((b : PlainAlgebra) → Takes b f → AllByRecursion (Takes b) left) →
      ((own : Element) → IsFormElement v f own → (y : Element) ×
      WantedNear sc (Old s) v env asked y ×
      ((b : PlainAlgebra) → Takes b f → IsElement b y) × Cuts v own y left
      × OpenGets v asked (reading env (asked_slot asked)) (open_term asked f (length s.sorts)) y) →
      P (cut env s left) →
      env ≡ met_env env (reading env (asked_slot asked)) (open_term asked f (length s.sorts)) →
      CutOk ks sc v s env asked f P
  kept asked f left lo t g c is = record {
    later = env;
    later_is = is;
    left = left;
    placed = pl;
    stays = λ x o i t h. h;
    outside = λ x n. refl;
    size = refl;
    left_over = lo;
    fits = t;
    cuts = g;
    comes = c;
  }

  settled-stays :
      (asked : Asked) (t : Linear) → reading env (asked_slot asked) ≡ settled t → (m : Linear) →
      env ≡ met_env env (reading env (asked_slot asked)) m
  settled-stays asked t e m = ap (λ r. met_env env r m) (sym e)

  open-binds :
      (asked : Asked) (o : Option ℕ) → reading env (asked_slot asked) ≡ open_to o → (m : Linear) →
      bind_open env o m ≡ met_env env (reading env (asked_slot asked)) m
  open-binds asked o e m = ap (λ r. met_env env r m) (sym e)

  settled-gets :
      (asked : Asked) (t : Linear) → reading env (asked_slot asked) ≡ settled t → (m : Linear)
      (y : Element) → OpenGets v asked (reading env (asked_slot asked)) m y
  settled-gets asked t e m y = subst (λ r. OpenGets v asked r m y) (sym e) tt

  open-gets :
      (asked : Asked) (o : Option ℕ) → reading env (asked_slot asked) ≡ open_to o → (m : Linear)
      (y : Element) → Wants v (asked_of asked m) y →
      OpenGets v asked (reading env (asked_slot asked)) m y
  open-gets asked o e m y h = subst (λ r. OpenGets v asked r m y) (sym e) h

  -- the slot is open to a term: its name is bound, and these forms stay
  bound-left :
      (x : Slot) (y : Option ℕ) (m : Linear) (asked : Asked) (f : Form) (left : List Form) →
      reading env x ≡ open_to y → SlotFits sc Int x → Over (Usable ks s.sorts Int) m →
      AllByRecursion (FormOver (Usable ks s.sorts)) left →
      ((b : PlainAlgebra) → Takes b f → AllByRecursion (Takes b) left) →
      ((later : PlainEnv) →
      ((w : Valuation) → Alike (Old s) v w → (X : Valuation) → Means sc w later X →
      SlotIs X x (value v.whole m)) → (own : Element) → IsFormElement v f own → (w : Element) ×
      WantedNear sc (Old s) v later asked w ×
      ((b : PlainAlgebra) → Takes b f → IsElement b w) × Cuts v own w left
      × OpenGets v asked (reading env (asked_slot asked)) (open_term asked f (length s.sorts)) w) →
      P (cut (bind_open env y m) s left) →
      bind_open env y m
      ≡ met_env env (reading env (asked_slot asked)) (open_term asked f (length s.sorts)) →
      CutOk ks sc v s env asked f P
  bound-left x y m asked f left e h o lo t g c is =
      let k = matching ks sc v s env x m (λ later. later ≡ bind_open env y m) me pl h o
      (subst (λ r. Comes (match_reading s.rows env m r) (λ later. later ≡ bind_open env y m))
      (sym e) (tt, refl)) in
      record {
        later = k.later;
        later_is = k.comes ∙ is;
        left = left;
        placed = k.placed;
        stays = k.stays;
        outside = k.outside;
        size = k.size;
        left_over = lo;
        fits = t;
        cuts = g k.later k.means;
        comes = subst (λ l. P (cut l s left)) (sym k.comes) c;
      }

  bound-to :
      (x : Slot) (y : Option ℕ) (m : Linear) (asked : Asked) (f : Form) →
      reading env x ≡ open_to y → SlotFits sc Int x → Over (Usable ks s.sorts Int) m →
      ((later : PlainEnv) →
      ((w : Valuation) → Alike (Old s) v w → (X : Valuation) → Means sc w later X →
      SlotIs X x (value v.whole m)) → (own : Element) → IsFormElement v f own → (w : Element) ×
      WantedNear sc (Old s) v later asked w ×
      ((b : PlainAlgebra) → Takes b f → IsElement b w) × Cuts v own w []
      × OpenGets v asked (reading env (asked_slot asked)) (open_term asked f (length s.sorts)) w) →
      P (cut (bind_open env y m) s []) →
      bind_open env y m
      ≡ met_env env (reading env (asked_slot asked)) (open_term asked f (length s.sorts)) →
      CutOk ks sc v s env asked f P
  bound-to x y m asked f e h o g c is = bound-left x y m asked f [] e h o tt (λ b tk. tt) g c is

  -- a settled slot has its value at all alike values
  old-over : (o : Sort) (t : Linear) → Over (Usable ks s.sorts o) t → Over (Old s) t
  old-over o t h = vars-more (Usable ks s.sorts o) (Old s) (usable-old ks s.sorts o) t.parts h

  wanted-slot :
      (x : Slot) (t : Linear) → IsSettled ks sc s env x Int t → (z : ℤ) →
      value v.whole (term_in env t) ≡ z → (w : Valuation) → Alike (Old s) v w → (X : Valuation) →
      Means sc w env X → SlotIs X x z
  wanted-slot x t i z e w l X n =
      slot-is X x t (value w.whole (term_in env t)) z i.is (i.number_is w X n)
      (value-alike (Old s) v w l (term_in env t) (old-over Int (term_in env t) i.over) ∙ e)

  wanted-share :
      (x : Slot) (t : Linear) → IsSettled ks sc s env x Perm t → (f : Fraction) → IsShare f →
      IsValueOf v (term_in env t) f → WantedNear sc (Old s) v env (Share x) (share f)
  wanted-share x t i f h e w l X n =
      let u = term_in env t in
      share-wants X w x u f n.under
      (subst (λ z. AmountIs X z (amount w.fraction u)) (sym i.is) (sym (i.number_is w X n)))
      h (value-of-alike (Old s) v w l u (old-over Perm u i.over) f e)

  zero-over : Over (Usable ks s.sorts Int) zero_value
  zero-over = tt

  low : (e : Linear) → value v.whole zero_value ≤ℤ value v.whole e → pos 0 ≤ℤ value v.whole e
  low e h = subst (λ z. z ≤ℤ value v.whole e) (zero-value v.whole) h

  share-cut :
      (x : Slot) (a : Linear) (way : ℕ) (r : Reading) → reading env x ≡ r →
      is_open_reading r ≡ false → SlotFits sc Perm x → Over (Usable ks s.sorts Perm) a →
      Comes (cut_share s env a way r) P → CutOk ks sc v s env (Share x) (form.Share a) P
  share-cut x a zero (settled t) e op h o c =
      let i = settled-slot ks sc s env x Perm t pl h e in
      let u = term_in env t in
      let k1 = after-computed u (term_in_steps env t)
      (λ w. prove_that s.rows a Equal w Perm >>= λ _. unit (cut env s [])) P c in
      let k2 = after-proved s.rows a Equal u Perm (λ _. unit (cut env s [])) P k1 in
      let eq : amount v.fraction a ≡ amount v.fraction u =
      proved-relates ks v s a Equal u Perm me k2.0 o i.over in
      kept (Share x) (form.Share a) [] tt (λ b tk. tt) (λ own w. (
        own,
        subst (WantedNear sc (Old s) v env (Share x)) (sym w.3)
            (wanted-share x t i w.0 w.1 (w.2 ∙ ap (λ z. z *ℤ pos w.0.den) eq)),
        (λ b tk. shared b a own (subst (IsElement divisible) (sym w.3) w.1) tk),
        cut-all v own,
        settled-gets (Share x) t e (variable (length s.sorts)) own,
      )) k2.1.1 (settled-stays (Share x) t e (variable (length s.sorts)))
  share-cut x a (suc zero) (settled t) e op h o c =
      let i = settled-slot ks sc s env x Perm t pl h e in
      let u = term_in env t in
      let last : Linear → Attempt Cut = λ rest. unit (cut env s (form.Share rest ∷ [])) in
      let fourth : Linear → Attempt Cut = λ w. difference a w >>= last in
      let third : Linear → Attempt Cut = λ w. prove_that s.rows w Less a Perm >>= λ _. fourth w in
      let second : Linear → Attempt Cut =
      λ w. prove_that s.rows w Greater zero_value Perm >>= λ _. third w in
      let k1 = after-computed u (term_in_steps env t) second P c in
      let k2 = after-proved s.rows u Greater zero_value Perm (λ _. third u) P k1 in
      let k3 = after-proved s.rows u Less a Perm (λ _. fourth u) P k2.1 in
      let k4 = after-computed (minus a u) (minus_steps a u) last P k3.1 in
      let up : pos 0 <ℤ amount v.fraction u = subst (λ z. z <ℤ amount v.fraction u)
      (zero-amount v.fraction)
      (proved-relates ks v s u Greater zero_value Perm me k2.0 i.over tt) in
      let lt : amount v.fraction u <ℤ amount v.fraction a =
      proved-relates ks v s u Less a Perm me k3.0 i.over o in
      kept (Share x) (form.Share a) (form.Share (minus a u) ∷ [])
      (over-minus (Usable ks s.sorts Perm) a u o i.over, tt)
      (λ b tk. (share-takes b a (minus a u) tk, tt)) (λ own w.
      let k = cutting.cut-share v a u w.0 w.1 w.2 up lt in (
        share k.0,
        wanted-share x t i k.0 k.1 k.2,
        (λ b tk. shared b a (share k.0) k.1 tk),
        subst (λ z. Cuts v z (share k.0) (form.Share (minus a u) ∷ [])) (sym w.3) k.3,
        settled-gets (Share x) t e (variable (length s.sorts)) (share k.0),
      )) k4.1 (settled-stays (Share x) t e (variable (length s.sorts)))
  share-cut x a (suc (suc way)) (settled t) e op h o c = absurd c.1
  share-cut x a way (open_to y) e op h o c = absurd (cc)
  share-cut x a zero stuck e op h o c = absurd c.1
  share-cut x a (suc zero) stuck e op h o c = absurd c.1
  share-cut x a (suc (suc way)) stuck e op h o c = absurd c.1

  source-cut :
      (x : Slot) (m : Linear) (way : ℕ) (r : Reading) → reading env x ≡ r → SlotFits sc Int x →
      Over (Usable ks s.sorts Int) m → Comes (cut_source s env m way r) P →
      CutOk ks sc v s env (Src x) (form.Src m) P
  source-cut x m zero (open_to y) e h o c =
      bound-to x y m (Src x) (form.Src m) e h o (λ later means own w. (
        own,
        (λ y l X n. (w.0, subst (SlotIs X x) w.1 (means y l X n), w.2)),
        (λ b tk. counted b m own (subst (IsElement counting) (sym w.2) tt) tk),
        cut-all v own,
        open-gets (Src x) y e m own (w.0, w.1, w.2),
      )) c.1 (open-binds (Src x) y e m)
  source-cut x m zero (settled t) e h o c =
      let i = settled-slot ks sc s env x Int t pl h e in
      let u = term_in env t in
      let k1 = after-computed u (term_in_steps env t)
      (λ w. prove_that s.rows m Equal w Int >>= λ _. unit (cut env s [])) P c in
      let k2 = after-proved s.rows m Equal u Int (λ _. unit (cut env s [])) P k1 in
      let eq : value v.whole m ≡ value v.whole u =
      proved-relates ks v s m Equal u Int me k2.0 o i.over in
      kept (Src x) (form.Src m) [] tt (λ b tk. tt) (λ own w. (
        own,
        (λ y l X n. (w.0, wanted-slot x t i (pos w.0) (sym eq ∙ w.1) y l X n, w.2)),
        (λ b tk. counted b m own (subst (IsElement counting) (sym w.2) tt) tk),
        cut-all v own,
        settled-gets (Src x) t e m own,
      )) k2.1.1 (settled-stays (Src x) t e m)
  source-cut x m (suc zero) (settled t) e h o c =
      let i = settled-slot ks sc s env x Int t pl h e in
      let u = term_in env t in
      let last : Linear → Attempt Cut = λ rest. unit (cut env s (form.Tok rest ∷ [])) in
      let second : Linear → Attempt Cut = λ w. prove_that s.rows m AtMost w Int >>= λ _.
      (difference w m >>= last) in
      let k1 = after-computed u (term_in_steps env t) second P c in
      let k2 = after-proved s.rows m AtMost u Int (λ _. difference u m >>= last) P k1 in
      let k3 = after-computed (minus u m) (minus_steps u m) last P k2.1 in
      let le : value v.whole m ≤ℤ value v.whole u =
      proved-relates ks v s m AtMost u Int me k2.0 o i.over in
      kept (Src x) (form.Src m) (form.Tok (minus u m) ∷ [])
      (over-minus (Usable ks s.sorts Int) u m i.over o, tt)
      (λ b tk. (source-tokens b m (minus u m) tk, tt)) (λ own w.
      let k = cutting.cut-source v m u w.0 w.1 le in (
        src k.0,
        (λ y l X n. (k.0, wanted-slot x t i (pos k.0) k.1 y l X n, refl)),
        (λ b tk. counted b m (src k.0) tt tk),
        subst (λ z. Cuts v z (src k.0) (form.Tok (minus u m) ∷ [])) (sym w.2) k.2,
        settled-gets (Src x) t e m (src k.0),
      )) k3.1 (settled-stays (Src x) t e m)
  source-cut x m (suc zero) (open_to y) e h o c = absurd c.1
  source-cut x m (suc (suc way)) (settled t) e h o c = absurd c.1
  source-cut x m (suc (suc way)) (open_to y) e h o c = absurd c.1
  source-cut x m zero stuck e h o c = absurd c.1
  source-cut x m (suc zero) stuck e h o c = absurd c.1
  source-cut x m (suc (suc way)) stuck e h o c = absurd c.1

  tokens-cut :
      (x : Slot) (m : Linear) (way : ℕ) (r : Reading) → reading env x ≡ r → SlotFits sc Int x →
      Over (Usable ks s.sorts Int) m → Comes (cut_tokens s env m way r) P →
      CutOk ks sc v s env (Tok x) (form.Tok m) P
  tokens-cut x m zero (open_to y) e h o c =
      bound-to x y m (Tok x) (form.Tok m) e h o (λ later means own w. (
        own,
        (λ y l X n. (w.0, subst (SlotIs X x) w.1 (means y l X n), w.2)),
        (λ b tk. counted-too b m own (subst (IsElement counting) (sym w.2) (tokens-is w.0)) tk),
        cut-all v own,
        open-gets (Tok x) y e m own (w.0, w.1, w.2),
      )) c.1 (open-binds (Tok x) y e m)
  tokens-cut x m zero (settled t) e h o c =
      let i = settled-slot ks sc s env x Int t pl h e in
      let u = term_in env t in
      let k1 = after-computed u (term_in_steps env t)
      (λ w. prove_that s.rows m Equal w Int >>= λ _. unit (cut env s [])) P c in
      let k2 = after-proved s.rows m Equal u Int (λ _. unit (cut env s [])) P k1 in
      let eq : value v.whole m ≡ value v.whole u =
      proved-relates ks v s m Equal u Int me k2.0 o i.over in
      kept (Tok x) (form.Tok m) [] tt (λ b tk. tt) (λ own w. (
        own,
        (λ y l X n. (w.0, wanted-slot x t i (pos w.0) (sym eq ∙ w.1) y l X n, w.2)),
        (λ b tk. counted-too b m own (subst (IsElement counting) (sym w.2) (tokens-is w.0)) tk),
        cut-all v own,
        settled-gets (Tok x) t e m own,
      )) k2.1.1 (settled-stays (Tok x) t e m)
  tokens-cut x m (suc zero) (settled t) e h o c =
      let i = settled-slot ks sc s env x Int t pl h e in
      let u = term_in env t in
      let last : Linear → Attempt Cut = λ rest. unit (cut env s (form.Tok rest ∷ [])) in
      let third : Linear → Attempt Cut = λ w. prove_that s.rows w AtMost m Int >>= λ _.
      (difference m w >>= last) in
      let second : Linear → Attempt Cut =
      λ w. prove_that s.rows zero_value AtMost w Int >>= λ _. third w in
      let k1 = after-computed u (term_in_steps env t) second P c in
      let k2 = after-proved s.rows zero_value AtMost u Int (λ _. third u) P k1 in
      let k3 = after-proved s.rows u AtMost m Int (λ _. difference m u >>= last) P k2.1 in
      let k4 = after-computed (minus m u) (minus_steps m u) last P k3.1 in
      let up = low u (proved-relates ks v s zero_value AtMost u Int me k2.0 zero-over i.over) in
      let le : value v.whole u ≤ℤ value v.whole m =
      proved-relates ks v s u AtMost m Int me k3.0 i.over o in
      kept (Tok x) (form.Tok m) (form.Tok (minus m u) ∷ [])
      (over-minus (Usable ks s.sorts Int) m u o i.over, tt)
      (λ b tk. (tokens-tokens b m (minus m u) tk, tt)) (λ own w.
      let k = cutting.cut-tokens v m u w.0 w.1 up le in (
        tokens k.0,
        (λ y l X n. (k.0, wanted-slot x t i (pos k.0) k.1 y l X n, refl)),
        (λ b tk. counted-too b m (tokens k.0) (tokens-is k.0) tk),
        subst (λ z. Cuts v z (tokens k.0) (form.Tok (minus m u) ∷ [])) (sym w.2) k.2,
        settled-gets (Tok x) t e m (tokens k.0),
      )) k4.1 (settled-stays (Tok x) t e m)
  tokens-cut x m (suc zero) (open_to y) e h o c = absurd c.1
  tokens-cut x m (suc (suc way)) (settled t) e h o c = absurd c.1
  tokens-cut x m (suc (suc way)) (open_to y) e h o c = absurd c.1
  tokens-cut x m zero stuck e h o c = absurd c.1
  tokens-cut x m (suc zero) stuck e h o c = absurd c.1
  tokens-cut x m (suc (suc way)) stuck e h o c = absurd c.1

  new-tokens-cut :
      (x : Slot) (m : Linear) (way : ℕ) (r : Reading) → reading env x ≡ r → SlotFits sc Int x →
      Over (Usable ks s.sorts Int) m → Comes (cut_new_tokens s env m way r) P →
      CutOk ks sc v s env (Tok x) (form.Src m) P
  new-tokens-cut x m (suc zero) (settled t) e h o c =
      let i = settled-slot ks sc s env x Int t pl h e in
      let u = term_in env t in
      let last : Linear → Attempt Cut = λ rest. unit (cut env s (form.Src rest ∷ [])) in
      let second : Linear → Attempt Cut = λ w. prove_that s.rows zero_value AtMost w Int >>= λ _.
      (sum m w >>= last) in
      let k1 = after-computed u (term_in_steps env t) second P c in
      let k2 = after-proved s.rows zero_value AtMost u Int (λ _. sum m u >>= last) P k1 in
      let k3 = after-computed (plus m u) (plus_steps m u) last P k2.1 in
      let up = low u (proved-relates ks v s zero_value AtMost u Int me k2.0 zero-over i.over) in
      kept (Tok x) (form.Src m) (form.Src (plus m u) ∷ [])
      (over-plus (Usable ks s.sorts Int) m u o i.over, tt)
      (λ b tk. (source-source b m (plus m u) tk, tt)) (λ own w.
      let k = cutting.cut-new-tokens v m u w.0 w.1 up in (
        tokens k.0,
        (λ y l X n. (k.0, wanted-slot x t i (pos k.0) k.1 y l X n, refl)),
        (λ b tk. counted b m (tokens k.0) (tokens-is k.0) tk),
        subst (λ z. Cuts v z (tokens k.0) (form.Src (plus m u) ∷ [])) (sym w.2) k.2,
        settled-gets (Tok x) t e m (tokens k.0),
      )) k3.1 (settled-stays (Tok x) t e m)
  new-tokens-cut x m zero (settled t) e h o c = absurd c.1
  new-tokens-cut x m (suc (suc way)) (settled t) e h o c = absurd c.1
  new-tokens-cut x m zero (open_to y) e h o c = absurd c.1
  new-tokens-cut x m (suc zero) (open_to y) e h o c = absurd c.1
  new-tokens-cut x m (suc (suc way)) (open_to y) e h o c = absurd c.1
  new-tokens-cut x m zero stuck e h o c = absurd c.1
  new-tokens-cut x m (suc zero) stuck e h o c = absurd c.1
  new-tokens-cut x m (suc (suc way)) stuck e h o c = absurd c.1

  -- one more than a term
  abbrev next_of : Linear → Linear
  next_of t = plus t one_value

  next-over :
      (t : Linear) → Over (Usable ks s.sorts Int) t → Over (Usable ks s.sorts Int) (next_of t)
  next-over t o = over-plus (Usable ks s.sorts Int) t one_value o tt

  next-is : (t : Linear) → value v.whole (next_of t) ≡ value v.whole t +ℤ pos 1
  next-is t =
      value-plus v.whole t one_value ∙ ap (λ z. value v.whole t +ℤ z) (one-is v.whole)

  -- an end that is proved to be at least a term
  end-above :
      (e : Option Linear) (next : Linear) (Q : Unit {0} → Type 0) →
      Over (Usable ks s.sorts Int) next → EndOver (Usable ks s.sorts) e →
      Comes (prove_end s.rows e next) Q → IsAbove v next e × Q tt
  end-above None next Q o u c = (tt, c.1)
  end-above (Some e) next Q o u c =
      let k = comes-proved s.rows next AtMost e Int Q c in
      (proved-relates ks v s next AtMost e Int me k.0 o u, k.1)

  -- an index within a span
  inner-cut :
      (x : Slot) (a : Linear) (e : Option Linear) (t : Linear) → reading env x ≡ settled t →
      SlotFits sc Int x → FormOver (Usable ks s.sorts) (form.Span a e) →
      Comes (value_by env t >>= λ w. (prove_that s.rows a AtMost w Int >>= λ _.
      (sum w one_value >>= λ next. (prove_end s.rows e next >>= λ _.
      (need (nat_lt (length s.guards) longest_list) >>= λ _.
      unit (cut env s (form.Span a (Some w) ∷ (form.Span next e ∷ [])))))))) P →
      CutOk ks sc v s env (At x) (form.Span a e) P
  inner-cut x a e t q h o c =
      let i = settled-slot ks sc s env x Int t pl h q in
      let u = term_in env t in
      let left = form.Span a (Some u) ∷ (form.Span (next_of u) e ∷ []) in
      let last : Attempt Cut = unit (cut env s left) in
      let fifth : Attempt Cut = need (nat_lt (length s.guards) longest_list) >>= λ _. last in
      let fourth : Linear → Attempt Cut = λ next. prove_end s.rows e next >>= λ _.
      (need (nat_lt (length s.guards) longest_list) >>= λ _.
      unit (cut env s (form.Span a (Some u) ∷ (form.Span next e ∷ [])))) in
      let third : Linear → Attempt Cut = λ w. sum w one_value >>= λ next.
      (prove_end s.rows e next >>= λ _.
      (need (nat_lt (length s.guards) longest_list) >>= λ _.
      unit (cut env s (form.Span a (Some w) ∷ (form.Span next e ∷ []))))) in
      let second : Linear → Attempt Cut = λ w. prove_that s.rows a AtMost w Int >>= λ _. third w in
      let k1 = after-computed u (term_in_steps env t) second P c in
      let k2 = after-proved s.rows a AtMost u Int (λ _. third u) P k1 in
      let k3 = after-computed (next_of u) (plus_steps u one_value) fourth P k2.1 in
      let k4 = end-above e (next_of u) (λ _. Comes fifth P) (next-over u i.over) o.1
      (comes-bind (prove_end s.rows e (next_of u)) (λ _. fifth) P k3) in
      let k5 = after-need (nat_lt (length s.guards) longest_list) (λ _. last) P k4.1 in
      let le : value v.whole a ≤ℤ value v.whole u =
      proved-relates ks v s a AtMost u Int me k2.0 o.0 i.over in
      kept (At x) (form.Span a e) left
      ((o.0, i.over), ((next-over u i.over, o.1), tt))
      (λ b tk. (span-takes b a e a (Some u) tk, (span-takes b a e (next_of u) e tk, tt)))
      (λ own w.
      let k = cut-any v a u (next_of u) e own w le (next-is u) k4.0 in (
        indices (one_index k.0),
        (λ y l X n. (k.0, wanted-slot x t i (pos k.0) k.1 y l X n, refl)),
        (λ b tk. spanned b a e (indices (one_index k.0)) (single-element k.0) tk),
        k.2,
        settled-gets (At x) t q a (indices (one_index k.0)),
      )) k5.1.1 (settled-stays (At x) t q a)

  -- the first index of a span
  first-cut :
      (x : Slot) (a : Linear) (e : Option Linear) (y : Option ℕ) → reading env x ≡ open_to y →
      SlotFits sc Int x → FormOver (Usable ks s.sorts) (form.Span a e) →
      Comes (sum a one_value >>= λ next. (prove_end s.rows e next >>= λ _.
      unit (cut (bind_open env y a) s (form.Span next e ∷ [])))) P →
      CutOk ks sc v s env (At x) (form.Span a e) P
  first-cut x a e y q h o c =
      let last : Attempt Cut = unit (cut (bind_open env y a) s (form.Span (next_of a) e ∷ [])) in
      let fourth : Linear → Attempt Cut = λ next. prove_end s.rows e next >>= λ _.
      unit (cut (bind_open env y a) s (form.Span next e ∷ [])) in
      let k3 = after-computed (next_of a) (plus_steps a one_value) fourth P c in
      let k4 = end-above e (next_of a) (λ _. Comes last P) (next-over a o.0) o.1
      (comes-bind (prove_end s.rows e (next_of a)) (λ _. last) P k3) in
      bound-left x y a (At x) (form.Span a e) (form.Span (next_of a) e ∷ []) q h o.0
      ((next-over a o.0, o.1), tt) (λ b tk. (span-takes b a e (next_of a) e tk, tt))
      (λ later means own w.
      let k = cut-start v a (next_of a) e own w (next-is a) k4.0 in (
        indices (one_index k.0),
        (λ z l X n. (k.0, subst (SlotIs X x) k.1 (means z l X n), refl)),
        (λ b tk. spanned b a e (indices (one_index k.0)) (single-element k.0) tk),
        k.2,
        open-gets (At x) y q a (indices (one_index k.0)) (k.0, k.1, refl),
      )) k4.1.1 (open-binds (At x) y q a)

  index-cut :
      (x : Slot) (a : Linear) (e : Option Linear) (way : ℕ) (r : Reading) → reading env x ≡ r →
      SlotFits sc Int x → FormOver (Usable ks s.sorts) (form.Span a e) →
      Comes (cut_index s env a e way r) P → CutOk ks sc v s env (At x) (form.Span a e) P
  index-cut x a (Some e) zero (settled t) q h o c =
      let i = settled-slot ks sc s env x Int t pl h q in
      let u = term_in env t in
      let fourth : Linear → Attempt Cut = λ next. prove_that s.rows e Equal next Int >>= λ _.
      unit (cut env s []) in
      let third : Linear → Attempt Cut = λ w. sum w one_value >>= fourth in
      let second : Linear → Attempt Cut = λ w. prove_that s.rows a Equal w Int >>= λ _. third w in
      let k1 = after-computed u (term_in_steps env t) second P c in
      let k2 = after-proved s.rows a Equal u Int (λ _. third u) P k1 in
      let k3 = after-computed (next_of u) (plus_steps u one_value) fourth P k2.1 in
      let k4 = after-proved s.rows e Equal (next_of u) Int (λ _. unit (cut env s [])) P k3 in
      let eq : value v.whole a ≡ value v.whole u =
      proved-relates ks v s a Equal u Int me k2.0 o.0 i.over in
      let en : value v.whole e ≡ value v.whole (next_of u) =
      proved-relates ks v s e Equal (next_of u) Int me k4.0 o.1 (next-over u i.over) in
      kept (At x) (form.Span a (Some e)) [] tt (λ b tk. tt) (λ own w.
      let one = single-own v a e own w (en ∙ next-is u ∙ ap (λ z. z +ℤ pos 1) (sym eq)) in (
        own,
        (λ y l X n. (one.0, wanted-slot x t i (pos one.0) (sym eq ∙ one.1) y l X n, one.2)),
        (λ b tk. spanned b a (Some e) own
            (subst (IsElement indexed) (sym one.2) (single-element one.0)) tk),
        cut-all v own,
        settled-gets (At x) t q a own,
      )) k4.1.1 (settled-stays (At x) t q a)
  index-cut x a None (suc zero) (settled t) q h o c = inner-cut x a None t q h o c
  index-cut x a (Some e) (suc zero) (settled t) q h o c = inner-cut x a (Some e) t q h o c
  index-cut x a None (suc zero) (open_to y) q h o c = first-cut x a None y q h o c
  index-cut x a (Some e) (suc zero) (open_to y) q h o c = first-cut x a (Some e) y q h o c
  index-cut x a None zero (settled t) q h o c = absurd c.1
  index-cut x a None zero (open_to y) q h o c = absurd c.1
  index-cut x a (Some e) zero (open_to y) q h o c = absurd c.1
  index-cut x a None zero stuck q h o c = absurd c.1
  index-cut x a (Some e) zero stuck q h o c = absurd c.1
  index-cut x a None (suc zero) stuck q h o c = absurd c.1
  index-cut x a (Some e) (suc zero) stuck q h o c = absurd c.1
  index-cut x a None (suc (suc way)) (settled t) q h o c = absurd c.1
  index-cut x a None (suc (suc way)) (open_to y) q h o c = absurd c.1
  index-cut x a None (suc (suc way)) stuck q h o c = absurd c.1
  index-cut x a (Some e) (suc (suc way)) (settled t) q h o c = absurd c.1
  index-cut x a (Some e) (suc (suc way)) (open_to y) q h o c = absurd c.1
  index-cut x a (Some e) (suc (suc way)) stuck q h o c = absurd c.1

  onwards-cut :
      (x : Slot) (a : Linear) (way : ℕ) (r : Reading) → reading env x ≡ r →
      SlotFits sc Int x → FormOver (Usable ks s.sorts) (form.Span a None) →
      Comes (cut_onwards s env a way r) P → CutOk ks sc v s env (From x) (form.Span a None) P
  onwards-cut x a zero (open_to y) q h o c =
      bound-to x y a (From x) (form.Span a None) q h o.0 (λ later means own w. (
        own,
        (λ z l X n. (w.0, subst (SlotIs X x) w.1 (means z l X n), w.2)),
        (λ b tk. spanned b a None own
            (subst (IsElement indexed) (sym w.2) (onwards-element w.0)) tk),
        cut-all v own,
        open-gets (From x) y q a own (w.0, w.1, w.2),
      )) c.1 (open-binds (From x) y q a)
  onwards-cut x a zero (settled t) q h o c =
      let i = settled-slot ks sc s env x Int t pl h q in
      let u = term_in env t in
      let k1 = after-computed u (term_in_steps env t)
      (λ w. prove_that s.rows a Equal w Int >>= λ _. unit (cut env s [])) P c in
      let k2 = after-proved s.rows a Equal u Int (λ _. unit (cut env s [])) P k1 in
      let eq : value v.whole a ≡ value v.whole u =
      proved-relates ks v s a Equal u Int me k2.0 o.0 i.over in
      kept (From x) (form.Span a None) [] tt (λ b tk. tt) (λ own w. (
        own,
        (λ y l X n. (w.0, wanted-slot x t i (pos w.0) (sym eq ∙ w.1) y l X n, w.2)),
        (λ b tk. spanned b a None own
            (subst (IsElement indexed) (sym w.2) (onwards-element w.0)) tk),
        cut-all v own,
        settled-gets (From x) t q a own,
      )) k2.1.1 (settled-stays (From x) t q a)
  onwards-cut x a (suc zero) (settled t) q h o c =
      let i = settled-slot ks sc s env x Int t pl h q in
      let u = term_in env t in
      let second : Linear → Attempt Cut = λ w. prove_that s.rows a AtMost w Int >>= λ _.
      unit (cut env s (form.Span a (Some w) ∷ [])) in
      let k1 = after-computed u (term_in_steps env t) second P c in
      let k2 = after-proved s.rows a AtMost u Int
      (λ _. unit (cut env s (form.Span a (Some u) ∷ []))) P k1 in
      let le : value v.whole a ≤ℤ value v.whole u =
      proved-relates ks v s a AtMost u Int me k2.0 o.0 i.over in
      kept (From x) (form.Span a None) (form.Span a (Some u) ∷ [])
      ((o.0, i.over), tt) (λ b tk. (span-takes b a None a (Some u) tk, tt)) (λ own w.
      let k = cut-from v a u own w le in (
        indices (indices_from k.0),
        (λ y l X n. (k.0, wanted-slot x t i (pos k.0) k.1 y l X n, refl)),
        (λ b tk. spanned b a None (indices (indices_from k.0)) (onwards-element k.0) tk),
        k.2,
        settled-gets (From x) t q a (indices (indices_from k.0)),
      )) k2.1.1 (settled-stays (From x) t q a)
  onwards-cut x a (suc zero) (open_to y) q h o c = absurd c.1
  onwards-cut x a zero stuck q h o c = absurd c.1
  onwards-cut x a (suc zero) stuck q h o c = absurd c.1
  onwards-cut x a (suc (suc way)) (settled t) q h o c = absurd c.1
  onwards-cut x a (suc (suc way)) (open_to y) q h o c = absurd c.1
  onwards-cut x a (suc (suc way)) stuck q h o c = absurd c.1

  pub is-cut-from :
      (asked : Asked) (f : Form) (way : ℕ) → Comes (cut_form s env asked f way) P → CutFrom asked f
  is-cut-from One form.One way c = tt
  is-cut-from (Share x) (form.Share a) way c = tt
  is-cut-from (Src x) (form.Src m) way c = tt
  is-cut-from (Tok x) (form.Tok m) way c = tt
  is-cut-from (Tok x) (form.Src m) way c = tt
  is-cut-from (At x) (form.Span a e) way c = tt
  is-cut-from (From x) (form.Span a None) way c = tt
  is-cut-from asked f way c = absurd c.1

  pub form-cut :
      (asked : Asked) (f : Form) (way : ℕ) → AskedOver sc asked → FormOver (Usable ks s.sorts) f →
      is_open asked env ≡ false → Comes (cut_form s env asked f way) P →
      CutOk ks sc v s env asked f P
  form-cut One form.One zero h o op c =
      kept One form.One [] tt (λ b tk. tt)
      (λ own w. (
        own,
        (λ y l X m. w),
        (λ b tk. subst (IsElement b) (sym w) (alone b tk)),
        cut-all v own,
        w,
      )) c.1 refl
  form-cut One form.One (suc way) h o op c = absurd c.1
  form-cut (Share x) (form.Share a) way h o op c = share-cut x a way (reading env x) refl op h o c
  form-cut (Src x) (form.Src m) way h o op c = source-cut x m way (reading env x) refl h o c
  form-cut (Tok x) (form.Tok m) way h o op c = tokens-cut x m way (reading env x) refl h o c
  form-cut (Tok x) (form.Src m) way h o op c = new-tokens-cut x m way (reading env x) refl h o c
  form-cut (At x) (form.Span a e) way h o op c = index-cut x a e way (reading env x) refl h o c
  form-cut (From x) (form.Span a None) way h o op c = onwards-cut x a way (reading env x) refl h o c
  form-cut asked f way h o op c = absurd c.1
