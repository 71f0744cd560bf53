-- What an action asks for, as forms over variables: each `_` gets a variable of its value.
use Rattle.cap_account_resources.proofs.Order.{grouped}
use Rattle.std.proofs.Common.{◌≡◌, ℕ, ◌+◌, ◌≤◌, ◌<◌, ℤ, pos, ◌+ℤ◌, ◌*ℤ◌, List, [], ◌∷◌, length, Option, Some, None, refl, sym, ap, ◌∙◌, arith}
use Rattle.cap_lin.specs.Linear.{Linear, variable, plus}
use Rattle.cap_lin.specs.Steps.{plus_steps}
use Rattle.cap_lin.specs.Values.{Valuation, denominator, value, amount}
use Rattle.cap_lin.specs.Solves.{IsWholeAt}
use Rattle.cap_lin.specs.declared.row.Sort.TheVariants.{Int, Perm}
use Rattle.cap_lin.proofs.Values.{value-plus}
use Rattle.cap_galg_indices.specs.Sets.{one_index}
use Rattle.cap_galg.specs.Elements.{Element, indices}
use Rattle.cap_gsolve.specs.declared.piece.Form.{Form}
use Rattle.cap_gsolve.specs.declared.piece.Form.TheVariants as form
use Rattle.cap_gsolve.specs.Meaning.{IsFormElement}
use Rattle.cap_gsolve.proofs.CutSpans.{single-set}
use Rattle.cap_prog.specs.declared.assertion.Slot.{Slot}
use Rattle.cap_prog.specs.declared.assertion.Slot.TheVariants.{Any, Is}
use Rattle.cap_prog.specs.declared.assertion.Asked.{Asked}
use Rattle.cap_prog.specs.declared.assertion.Asked.TheVariants.{One, Share, Src, Tok, At, From}
use Rattle.cap_prog.specs.Program.{PlainProgram}
use Rattle.cap_prog.specs.Scopes.{Scope, HasSort, SlotFits}
use Rattle.cap_goal_spec.specs.Environments.{one_value}
use Rattle.cap_rules.specs.Attempts.{unit, ◌>>=◌}
use Rattle.cap_rules.specs.Making.{sum}
use Rattle.cap_rules.specs.Resting.{Names, names_below, end_of, ask_slot, ask, ask_all, want_slot, want_form, want_all}
use Rattle.cap_machine_accounts.specs.Assertions.{IsAsked}
use Rattle.cap_account_states.specs.Nodes.{Comes}
use Rattle.cap_account_states.proofs.Terms.{Over, over-plus, Agree, agree-same, agree-trans, agree-less}
use Rattle.cap_account_states.proofs.Meets.{with_value, new-whole, new-share, variable-value, variable-amount}
use Rattle.cap_account_states.proofs.Attempts.{comes-bind, after-computed}
use Rattle.cap_account_states.proofs.Cutting.{one-is}
use Rattle.cap_account_resources.proofs.Marks.{Mark}
use Rattle.cap_account_resources.proofs.Interference.{AsksAtoms}
use Rattle.cap_account_states.proofs.Wanting.{Low, named_term, NamesOk, names-agree, fresh-agree, names-up, named-value, named-amount, named-whole, scope-low}

-- ---- forms over names; this variable stands for `_`

abbrev pub slot_over : List Linear → ℕ → Slot → Linear
slot_over ts n Any = variable n
slot_over ts n (Is t) = named_term ts t

abbrev pub form_over : List Linear → ℕ → Asked → Form
form_over ts n One = form.One
form_over ts n (Share s) = form.Share (slot_over ts n s)
form_over ts n (Src s) = form.Src (slot_over ts n s)
form_over ts n (Tok s) = form.Tok (slot_over ts n s)
form_over ts n (At s) = form.Span (slot_over ts n s) (Some (plus (slot_over ts n s) one_value))
form_over ts n (From s) = form.Span (slot_over ts n s) None

abbrev pub forms_over : List Linear → Names → List (ℕ × Asked) → List (ℕ × Form)
forms_over ts W [] = []
forms_over ts W (g ∷ gs) = (g.0, form_over ts W.next g.1) ∷ forms_over ts (ask W g.1) gs

comes-slot :
    (ts : List Linear) (n : ℕ) (s : Slot) (P : Linear → Type 0) → Comes (want_slot ts n s) P →
    P (slot_over ts n s)
comes-slot ts n Any P h = h.1
comes-slot ts n (Is t) P h = h.1

comes-form :
    (ts : List Linear) (n : ℕ) (asked : Asked) (P : Form → Type 0) →
    Comes (want_form ts n asked) P →
    P (form_over ts n asked)
comes-form ts n One P h = h.1
comes-form ts n (Share s) P h =
    (comes-slot ts n s (λ u. Comes (unit (form.Share u)) P)
    (comes-bind (want_slot ts n s) (λ u. unit (form.Share u)) P h)).1
comes-form ts n (Src s) P h =
    (comes-slot ts n s (λ u. Comes (unit (form.Src u)) P)
    (comes-bind (want_slot ts n s) (λ u. unit (form.Src u)) P h)).1
comes-form ts n (Tok s) P h =
    (comes-slot ts n s (λ u. Comes (unit (form.Tok u)) P)
    (comes-bind (want_slot ts n s) (λ u. unit (form.Tok u)) P h)).1
comes-form ts n (At s) P h =
    let last = λ (u next : Linear). unit (form.Span u (Some next)) in
    let more = λ (u : Linear). sum u one_value >>= last u in
    let k = comes-slot ts n s (λ u. Comes (more u) P) (comes-bind (want_slot ts n s) more P h) in
    let u = slot_over ts n s in
    (after-computed (plus u one_value) (plus_steps u one_value) (last u) P k).1
comes-form ts n (From s) P h =
    (comes-slot ts n s (λ u. Comes (unit (form.Span u None)) P)
    (comes-bind (want_slot ts n s) (λ u. unit (form.Span u None)) P h)).1

pub comes-forms :
    (ts : List Linear) (W : Names) (gs : List (ℕ × Asked)) (P : List (ℕ × Form) → Type 0) →
    Comes (want_all ts W gs) P → P (forms_over ts W gs)
comes-forms ts W [] P h = h.1
comes-forms ts W (g ∷ gs) P h =
    let f = form_over ts W.next g.1 in
    let more = λ (f : Form). want_all ts (ask W g.1) gs >>= λ ws. unit ((g.0, f) ∷ ws) in
    let k = comes-form ts W.next g.1 (λ f. Comes (more f) P)
    (comes-bind (want_form ts W.next g.1) more P h) in
    (comes-forms ts (ask W g.1) gs (λ ws. Comes (unit ((g.0, f) ∷ ws)) P)
    (comes-bind (want_all ts (ask W g.1) gs) (λ ws. unit ((g.0, f) ∷ ws)) P k)).1

-- ---- where amounts are over the valuation's denominator

-- the amount of `_` is
abbrev pub IsFine : (X : Valuation) (asked : Asked) (x : Element) → IsAsked X asked x → Type 0
IsFine X One x h = Unit {0}
IsFine X (Share Any) x h = (q : ℤ) × (denominator X.fraction ≡ q *ℤ pos h.0.den)
IsFine X (Share (Is t)) x h = Unit {0}
IsFine X (Src s) x h = Unit {0}
IsFine X (Tok s) x h = Unit {0}
IsFine X (At s) x h = Unit {0}
IsFine X (From s) x h = Unit {0}

-- the slot is over the names, of its sort
abbrev pub AskedOver : Scope → Asked → Type 0
AskedOver sc One = Unit {0}
AskedOver sc (Share s) = SlotFits sc Perm s
AskedOver sc (Src s) = SlotFits sc Int s
AskedOver sc (Tok s) = SlotFits sc Int s
AskedOver sc (At s) = SlotFits sc Int s
AskedOver sc (From s) = SlotFits sc Int s

-- the element of one index, which a term says
abbrev pub IsSingle : Valuation → Linear → Element → Type 0
IsSingle w t x = (i : ℕ) × (value w.whole t ≡ pos i) × (x ≡ indices (one_index i))

pub single-form :
    (w : Valuation) (t : Linear) (x : Element) → IsSingle w t x →
    IsFormElement w (form.Span t (Some (plus t one_value))) x
single-form w t x h = (
  h.0,
  h.0 + 1,
  h.1,
  value-plus w.whole t one_value
      ∙ ap (λ z. z +ℤ value w.whole one_value) h.1
      ∙ ap (λ z. pos h.0 +ℤ z) (one-is w.whole)
      ∙ up h.0,
  omega arith,
  h.2 ∙ sym (single-set h.0),
)
  where
    up : (i : ℕ) → pos i +ℤ pos 1 ≡ pos (i + 1)
    up i = refl

-- the variable that stands for `_` has its value
abbrev pub SlotOk : Valuation → ℕ → Asked → Element → Type 0
SlotOk w n One x = Unit {0}
SlotOk w n (Share Any) x = IsFormElement w (form.Share (variable n)) x
SlotOk w n (Share (Is t)) x = Unit {0}
SlotOk w n (Src Any) x = IsFormElement w (form.Src (variable n)) x × IsWholeAt w n
SlotOk w n (Src (Is t)) x = Unit {0}
SlotOk w n (Tok Any) x = IsFormElement w (form.Tok (variable n)) x × IsWholeAt w n
SlotOk w n (Tok (Is t)) x = Unit {0}
SlotOk w n (At Any) x = IsSingle w (variable n) x × IsWholeAt w n
SlotOk w n (At (Is t)) x = Unit {0}
SlotOk w n (From Any) x = IsFormElement w (form.Span (variable n) None) x × IsWholeAt w n
SlotOk w n (From (Is t)) x = Unit {0}

-- an integer form's variables are whole
abbrev pub EndWhole : Valuation → Option Linear → Type 0
EndWhole w None = Unit {0}
EndWhole w (Some e) = Over (IsWholeAt w) e

abbrev pub FormWhole : Valuation → Form → Type 0
FormWhole w form.One = Unit {0}
FormWhole w (form.Share t) = Unit {0}
FormWhole w (form.Src t) = Over (IsWholeAt w) t
FormWhole w (form.Tok t) = Over (IsWholeAt w) t
FormWhole w (form.Span t e) = Over (IsWholeAt w) t × EndWhole w e

module _ (p : PlainProgram) (X : Valuation) (sc : Scope)
    (normal : (x : ℕ) → HasSort sc Int x → IsWholeAt X x) (k : ℕ) where
  abbrev pub AllFine : (gs : List (ℕ × Asked)) (m : Option Mark) → AsksAtoms p X k gs m → Type 0
  AllFine [] m asks = Unit {0}
  AllFine (g ∷ gs) m asks =
      IsFine X g.1 asks.2.element asks.2.is_asked × AllFine gs asks.1 asks.3

  abbrev pub SlotsOk : Valuation → Names → (gs : List (ℕ × Asked)) (m : Option Mark) →
      AsksAtoms p X k gs m → Type 0
  SlotsOk w W [] m asks = Unit {0}
  SlotsOk w W (g ∷ gs) m asks =
      SlotOk w W.next g.1 asks.2.element × SlotsOk w (ask W g.1) gs asks.1 asks.3

  abbrev Ok : Valuation → Names → Type 0
  Ok w W = NamesOk X sc normal w W.terms W.next

  -- ---- there are values for all of them

  pub record Answered (w : Valuation) (W to : Names) (P : Valuation → Type 0) : Type 0 where
    pub v : Valuation
    pub agree : Agree (Low W.next) w v
    pub ok : Ok v to
    pub more : W.next ≤ to.next
    pub slot : P v

  wild :
      (w : Valuation) (W : Names) (z y : ℤ) → Ok w W →
      Ok (with_value w W.next z y) (record W { next = W.next + 1 })
  wild w W z y h =
      names-agree X sc normal w (with_value w W.next z y) W.terms W.next (W.next + 1)
      (fresh-agree X sc normal w W.next z y) (omega arith) h

  named : (w : Valuation) (W : Names) (n : ℕ) (P : Valuation → Type 0) → ((v : Valuation) → P v) →
      Ok w W → Answered w W (names_below W n) P
  named w W n P f h =
      let m = names-up X sc normal w W n h in
      record { v = m.to; agree = m.agree; ok = m.ok; more = m.more; slot = f m.to }

  -- a whole number
  wild-number : (w : Valuation) (W : Names) (z : ℤ) (P : Valuation → Type 0) → Ok w W →
      ((v : Valuation) → value v.whole (variable W.next) ≡ z → IsWholeAt v W.next → P v) →
      Answered w W (record W { next = W.next + 1 }) P
  wild-number w W z P h f =
      let y = z *ℤ denominator w.fraction in
      let v = with_value w W.next z y in
      record {
        v = v;
        agree = fresh-agree X sc normal w W.next z y;
        ok = wild w W z y h;
        more = omega arith;
        slot = f v (variable-value v W.next ∙ new-whole w W.next z y)
            (new-share w W.next z y ∙ ap (λ u. u *ℤ denominator w.fraction)
            (sym (new-whole w W.next z y)));
      }

  asked-one :
      (w : Valuation) (W : Names) (asked : Asked) (x : Element) (h : IsAsked X asked x) →
      IsFine X asked x h → Ok w W → Answered w W (ask W asked) (λ v. SlotOk v W.next asked x)
  asked-one w W One x h fine ok =
      record { v = w; agree = agree-same (Low W.next) w; ok = ok; more = omega arith; slot = tt }
  asked-one w W (Share Any) x h fine ok =
      let y = pos h.0.num *ℤ fine.0 in
      let v = with_value w W.next (pos 0) y in
      let d : denominator v.fraction ≡ fine.0 *ℤ pos h.0.den = ap (λ u. pos (u + 1)) ok.under
      ∙ fine.1 in
      let a : amount v.fraction (variable W.next) ≡ y = variable-amount v W.next
      ∙ new-share w W.next (pos 0) y in
      record {
        v = v;
        agree = fresh-agree X sc normal w W.next (pos 0) y;
        ok = wild w W (pos 0) y ok;
        more = omega arith;
        slot = (
          h.0,
          h.1,
          ap (λ u. pos h.0.num *ℤ u) d
              ∙ (sym (grouped (pos h.0.num) fine.0 (pos h.0.den))
              ∙ ap (λ u. u *ℤ pos h.0.den) (sym a)),
          h.3,
        );
      }
  asked-one w W (Share (Is t)) x h fine ok = named w W (end_of t.parts) (λ v. Unit {0}) (λ v. tt) ok
  asked-one w W (Src Any) x h fine ok =
      wild-number w W (pos h.0) (λ v. SlotOk v W.next (Src Any) x) ok (λ v e i. ((h.0, e, h.2), i))
  asked-one w W (Src (Is t)) x h fine ok = named w W (end_of t.parts) (λ v. Unit {0}) (λ v. tt) ok
  asked-one w W (Tok Any) x h fine ok =
      wild-number w W (pos h.0) (λ v. SlotOk v W.next (Tok Any) x) ok (λ v e i. ((h.0, e, h.2), i))
  asked-one w W (Tok (Is t)) x h fine ok = named w W (end_of t.parts) (λ v. Unit {0}) (λ v. tt) ok
  asked-one w W (At Any) x h fine ok =
      wild-number w W (pos h.0) (λ v. SlotOk v W.next (At Any) x) ok (λ v e i. ((h.0, e, h.2), i))
  asked-one w W (At (Is t)) x h fine ok = named w W (end_of t.parts) (λ v. Unit {0}) (λ v. tt) ok
  asked-one w W (From Any) x h fine ok =
      wild-number w W (pos h.0) (λ v. SlotOk v W.next (From Any) x) ok (λ v e i. ((h.0, e, h.2), i))
  asked-one w W (From (Is t)) x h fine ok = named w W (end_of t.parts) (λ v. Unit {0}) (λ v. tt) ok

  -- ---- values that agree on what there is so far

  number-later : (v w : Valuation) (m n : ℕ) (z : ℤ) → Agree (Low m) v w → n < m →
      value v.whole (variable n) ≡ z → value w.whole (variable n) ≡ z
  number-later v w m n z a l e = variable-value w n ∙ (a.whole n l ∙ (sym (variable-value v n) ∙ e))

  whole-later : (v w : Valuation) (m n : ℕ) → Agree (Low m) v w → n < m → IsWholeAt v n →
      IsWholeAt w n
  whole-later v w m n a l h =
      a.share n l
      ∙ (h
      ∙ (ap (λ z. z *ℤ denominator v.fraction) (sym (a.whole n l))
      ∙ ap (λ u. w.whole n *ℤ pos (u + 1)) (sym a.under)))

  slot-later :
      (v w : Valuation) (m : ℕ) (W : Names) (asked : Asked) (x : Element) → Agree (Low m) v w →
      (ask W asked).next ≤ m → SlotOk v W.next asked x → SlotOk w W.next asked x
  slot-later v w m W One x a le h = tt
  slot-later v w m W (Share Any) x a le h =
      let l : W.next < m = omega (arith, le) in (
        h.0,
        h.1,
        ap (λ u. pos h.0.num *ℤ pos (u + 1)) a.under
            ∙ (h.2
            ∙ ap (λ u. u *ℤ pos h.0.den)
            (variable-amount v W.next ∙ (sym (a.share W.next l) ∙ sym (variable-amount w W.next)))),
        h.3,
      )
  slot-later v w m W (Share (Is t)) x a le h = tt
  slot-later v w m W (Src Any) x a le h =
      let l : W.next < m = omega (arith, le) in (
        (h.0.0, number-later v w m W.next (pos h.0.0) a l h.0.1, h.0.2),
        whole-later v w m W.next a l h.1,
      )
  slot-later v w m W (Src (Is t)) x a le h = tt
  slot-later v w m W (Tok Any) x a le h =
      let l : W.next < m = omega (arith, le) in (
        (h.0.0, number-later v w m W.next (pos h.0.0) a l h.0.1, h.0.2),
        whole-later v w m W.next a l h.1,
      )
  slot-later v w m W (Tok (Is t)) x a le h = tt
  slot-later v w m W (At Any) x a le h =
      let l : W.next < m = omega (arith, le) in (
        (h.0.0, number-later v w m W.next (pos h.0.0) a l h.0.1, h.0.2),
        whole-later v w m W.next a l h.1,
      )
  slot-later v w m W (At (Is t)) x a le h = tt
  slot-later v w m W (From Any) x a le h =
      let l : W.next < m = omega (arith, le) in (
        (h.0.0, number-later v w m W.next (pos h.0.0) a l h.0.1, h.0.2),
        whole-later v w m W.next a l h.1,
      )
  slot-later v w m W (From (Is t)) x a le h = tt

  slot-more : (W : Names) (s : Slot) → W.next ≤ (ask_slot W s).next
  slot-more W Any = omega arith
  slot-more W (Is t) = omega arith

  ask-more : (W : Names) (asked : Asked) → W.next ≤ (ask W asked).next
  ask-more W One = omega arith
  ask-more W (Share s) = slot-more W s
  ask-more W (Src s) = slot-more W s
  ask-more W (Tok s) = slot-more W s
  ask-more W (At s) = slot-more W s
  ask-more W (From s) = slot-more W s

  all-more' : (W : Names) (gs : List (ℕ × Asked)) → W.next ≤ (ask_all W gs).next
  all-more' W [] = omega arith
  all-more' W (g ∷ gs) = let a = ask-more W g.1 in let b =
      all-more' (ask W g.1) gs in omega (arith, a, b)

  slots-later :
      (v w : Valuation) (m : ℕ) (W : Names) (gs : List (ℕ × Asked)) (o : Option Mark)
      (asks : AsksAtoms p X k gs o) → Agree (Low m) v w → (ask_all W gs).next ≤ m →
      SlotsOk v W gs o asks → SlotsOk w W gs o asks
  slots-later v w m W [] o asks a le h = tt
  slots-later v w m W (g ∷ gs) o asks a le h =
      let b = all-more' (ask W g.1) gs in (
        slot-later v w m W g.1 asks.2.element a (omega (arith, b, le)) h.0,
        slots-later v w m (ask W g.1) gs asks.1 asks.3 a le h.1,
      )

  asked-all :
      (gs : List (ℕ × Asked)) (w : Valuation) (W : Names) (o : Option Mark)
      (asks : AsksAtoms p X k gs o) → AllFine gs o asks → Ok w W →
      Answered w W (ask_all W gs) (λ v. SlotsOk v W gs o asks)
  asked-all [] w W o asks fine ok =
      record { v = w; agree = agree-same (Low W.next) w; ok = ok; more = omega arith; slot = tt }
  asked-all (g ∷ gs) w W o asks fine ok =
      let a = asked-one w W g.1 asks.2.element asks.2.is_asked fine.0 ok in
      let asked = ask W g.1 in
      let b = asked-all gs a.v asked asks.1 asks.3 fine.1 a.ok in
      let le1 = a.more in
      let le2 = b.more in
      record {
        v = b.v;
        agree = agree-trans (Low W.next) w a.v b.v a.agree
            (agree-less (Low W.next) (Low asked.next) a.v b.v (λ x l. omega (arith, l, le1)) b.agree);
        ok = b.ok;
        more = omega (arith, le1, le2);
        slot = (
          slot-later a.v b.v asked.next W g.1 asks.2.element b.agree (omega arith) a.slot,
          b.slot,
        );
      }

  -- all names have terms, and each `_` its variable
  pub all-asked :
      (gs : List (ℕ × Asked)) (w : Valuation) (W : Names) (o : Option Mark)
      (asks : AsksAtoms p X k gs o) (n : ℕ) → AllFine gs o asks → Ok w W →
      Answered w W (names_below (ask_all W gs) n) (λ v. SlotsOk v W gs o asks)
  all-asked gs w W o asks n fine ok =
      let a = asked-all gs w W o asks fine ok in
      let m = names-up X sc normal a.v (ask_all W gs) n a.ok in
      let le1 = a.more in
      let le2 = m.more in
      record {
        v = m.to;
        agree = agree-trans (Low W.next) w a.v m.to a.agree
            (agree-less (Low W.next) (Low (ask_all W gs).next) a.v m.to
            (λ x l. omega (arith, l, le1)) m.agree);
        ok = m.ok;
        more = omega (arith, le1, le2);
        slot = slots-later a.v m.to (ask_all W gs).next W gs o asks m.agree (omega arith) a.slot;
      }

  -- ---- the forms that are wanted are the elements that are asked for

  pub form-element :
      (w : Valuation) (ts : List Linear) (next n : ℕ) (asked : Asked) (x : Element) →
      NamesOk X sc normal w ts next → length sc ≤ length ts → AskedOver sc asked →
      IsAsked X asked x → SlotOk w n asked x → IsFormElement w (form_over ts n asked) x
  form-element w ts next n One x ok le f h s = h
  form-element w ts next n (Share Any) x ok le f h s = s
  form-element w ts next n (Share (Is t)) x ok le f h s = (
    h.0,
    h.1,
    ap (λ u. pos h.0.num *ℤ pos (u + 1)) ok.under
        ∙ (sym h.2
        ∙ ap (λ u. u *ℤ pos h.0.den)
        (sym (named-amount X sc normal w ts next ok t
        (scope-low X sc normal (length ts) Perm t le f)))),
    h.3,
  )
  form-element w ts next n (Src Any) x ok le f h s = s.0
  form-element w ts next n (Src (Is t)) x ok le f h s = (
    h.0,
    named-value X sc normal w ts next ok t (scope-low X sc normal (length ts) Int t le f)
        ∙ h.1,
    h.2,
  )
  form-element w ts next n (Tok Any) x ok le f h s = s.0
  form-element w ts next n (Tok (Is t)) x ok le f h s = (
    h.0,
    named-value X sc normal w ts next ok t (scope-low X sc normal (length ts) Int t le f)
        ∙ h.1,
    h.2,
  )
  form-element w ts next n (At Any) x ok le f h s = single-form w (variable n) x s.0
  form-element w ts next n (At (Is t)) x ok le f h s = single-form w (named_term ts t) x (
    h.0,
    named-value X sc normal w ts next ok t (scope-low X sc normal (length ts) Int t le f)
        ∙ h.1,
    h.2,
  )
  form-element w ts next n (From Any) x ok le f h s = s.0
  form-element w ts next n (From (Is t)) x ok le f h s = (
    h.0,
    named-value X sc normal w ts next ok t (scope-low X sc normal (length ts) Int t le f)
        ∙ h.1,
    h.2,
  )

  pub form-whole :
      (w : Valuation) (ts : List Linear) (next n : ℕ) (asked : Asked) (x : Element) →
      NamesOk X sc normal w ts next → length sc ≤ length ts → AskedOver sc asked →
      SlotOk w n asked x → FormWhole w (form_over ts n asked)
  form-whole w ts next n One x ok le f s = tt
  form-whole w ts next n (Share y) x ok le f s = tt
  form-whole w ts next n (Src Any) x ok le f s = (s.1, tt)
  form-whole w ts next n (Src (Is t)) x ok le f s = named-whole X sc normal w ts next ok le t f
  form-whole w ts next n (Tok Any) x ok le f s = (s.1, tt)
  form-whole w ts next n (Tok (Is t)) x ok le f s = named-whole X sc normal w ts next ok le t f
  form-whole w ts next n (At Any) x ok le f s =
      ((s.1, tt), over-plus (IsWholeAt w) (variable n) one_value (s.1, tt) tt)
  form-whole w ts next n (At (Is t)) x ok le f s =
      let h = named-whole X sc normal w ts next ok le t f in
      (h, over-plus (IsWholeAt w) (named_term ts t) one_value h tt)
  form-whole w ts next n (From Any) x ok le f s = ((s.1, tt), tt)
  form-whole w ts next n (From (Is t)) x ok le f s =
      (named-whole X sc normal w ts next ok le t f, tt)
