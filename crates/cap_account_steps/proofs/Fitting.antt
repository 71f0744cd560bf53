-- What an action of others asks for, as wanted guards: where they compose with what is held, the
-- rows of compatibility hold.
use Rattle.std.proofs.Common.{◌≡◌, ◌≢◌, ◌⊎◌, inl, inr, ℕ, ◌≤◌, List, [], ◌∷◌, length, Option, Some, None, refl, sym, ap, ◌∙◌, subst}
use Rattle.std.specs.List.{AllByRecursion}
use Rattle.cap_lin.specs.Linear.{Linear}
use Rattle.cap_lin.specs.Values.{Valuation, value}
use Rattle.cap_lin.specs.Solves.{IsWholeAt}
use Rattle.cap_lin.specs.declared.row.Sort.TheVariants.{Int}
use Rattle.cap_galg.specs.Elements.{Element, nothing, is_unit, bind, compose}
use Rattle.cap_galg.specs.Algebras.{atom_element}
use Rattle.cap_galg.specs.Laws.Composition.{true_or_false, unit-is, composed-not-unit, compose-nothing, compose-comm}
use Rattle.cap_gsolve.specs.declared.piece.Form.{Form}
use Rattle.cap_gsolve.specs.declared.piece.Piece.{Piece}
use Rattle.cap_gsolve.specs.Compat.{compat}
use Rattle.cap_gsolve.specs.Meaning.{IsFormElement, ComposeAt, AllHold, wanted_pieces}
use Rattle.cap_gsolve.proofs.Means.{compat-means}
use Rattle.cap_prog.specs.declared.assertion.Asked.{Asked}
use Rattle.cap_prog.specs.Program.{PlainProgram}
use Rattle.cap_prog.specs.Scopes.{Scope, HasSort}
use Rattle.cap_rules.specs.Resting.{Names, ask}
use Rattle.cap_machine_accounts.specs.Parts.{algebra_of}
use Rattle.cap_account_resources.proofs.Lists.{some-same, none-some}
use Rattle.cap_account_resources.proofs.Marks.{Mark, of, joins-law}
use Rattle.cap_account_resources.proofs.Covering.{join_marks, first-some, free-right, IsPartOf, mark, mark-unit, mark-of, composed, elements-moved, Covered}
use Rattle.cap_account_resources.proofs.Interference.{AsksAtoms, less-composes}
use Rattle.cap_account_states.proofs.Wanting.{NamesOk}
use Rattle.cap_account_states.proofs.Asking.{AskedOver, SlotsOk, forms_over, form-element}
use Rattle.cap_account_states.proofs.Pieces.{composed-sound}

-- ---- marks of one type

-- elements whose marks join compose
pub record MarksJoin (p : PlainProgram) (k : ℕ) (x y : Element) : Type 0 where
  pub element : Element
  pub composed : compose x y ≡ Some element
  pub joined : join_marks p (mark k x) (mark k y) ≡ mark k element

pub marks-join :
    (p : PlainProgram) (k : ℕ) (x y : Element) → join_marks p (mark k x) (mark k y) ≢ None →
    MarksJoin p k x y
marks-join p k x y ne = elim (true_or_false (is_unit x)) [
  | inl t ↦ record {
    element = y;
    composed = ap (λ z. compose z y) (unit-is x t);
    joined = ap (λ z. join_marks p z (mark k y)) (mark-unit k x t)
        ∙ (joins-law p).zero_left (mark k y);
  }
  | inr f ↦ elim (true_or_false (is_unit y)) [
    | inl t ↦ record {
      element = x;
      composed = ap (compose x) (unit-is y t) ∙ compose-nothing x;
      joined = ap (join_marks p (mark k x)) (mark-unit k y t) ∙ free-right p (mark k x);
    }
    | inr g ↦
        let e : join_marks p (mark k x) (mark k y)
        ≡ join_marks p (Some (of k x)) (Some (of k y)) =
        ap (λ z. join_marks p z (mark k y)) (mark-of k x f)
        ∙ ap (join_marks p (Some (of k x))) (mark-of k y g) in
        let c = composed p k x k y (λ q. ne (e ∙ q)) in
        record {
          element = c.element;
          composed = c.composed;
          joined = e
              ∙ (c.joined
              ∙ sym (mark-of k c.element (composed-not-unit x y c.element f c.composed)));
        }
  ]
]

-- no guard, or one of the type
abbrev pub IsOfKind : ℕ → Mark → Type 0
IsOfKind k None = Unit {0}
IsOfKind k (Some g) = g.kind ≡ k

-- a part of it is of the type too
pub kind-of-part :
    (p : PlainProgram) (j : ℕ) (x : Element) (k : ℕ) (h : Mark) → IsOfKind k h →
    IsPartOf p (mark j x) (Some h) → (j ≡ k) ⊎ (x ≡ nothing)
kind-of-part p j x k h o le = elim (true_or_false (is_unit x)) [
  | inl t ↦ inr (unit-is x t)
  | inr f ↦ inl (by le.0 (ap (λ z. join_marks p z le.0) (sym (mark-of j x f)) ∙ le.1))
]
  where
    by : (rest : Option Mark) → join_marks p (Some (of j x)) rest ≡ Some h → j ≡ k
    by None e = absurd (none-some e)
    by (Some None) e = subst (IsOfKind k) (sym (some-same (of j x) h e)) o
    by (Some (Some g)) e =
        let c = composed p j x g.kind g.element (λ q. none-some (sym q ∙ e)) in
        subst (IsOfKind k) (some-same h (of j c.element) (sym e ∙ c.joined)) o

-- ---- wanted guards

module _ (p : PlainProgram) (X w : Valuation) (k : ℕ) where
  -- each wanted form is the element that is asked for
  abbrev pub AreForms :
      (gs : List (ℕ × Asked)) (m : Option Mark) → AsksAtoms p X k gs m → List (ℕ × Form) → Type 0
  AreForms [] m asks [] = Unit {0}
  AreForms (g ∷ gs) m asks (f ∷ fs) =
      (f.0 ≡ g.0) × IsFormElement w f.1 asks.2.element × AreForms gs asks.1 asks.3 fs
  AreForms gs m asks fs = ⊥

  pub record Wants (r : Linear) (m : Option Mark) (ws : List (ℕ × Form)) : Type 0 where
    pub element : Element
    pub is : ComposeAt (algebra_of p k) k w (value w.whole r) (wanted_pieces r k ws) element
    pub is_mark : m ≡ mark k element

  pub wants :
      (r : Linear) (gs : List (ℕ × Asked)) (m : Option Mark) (asks : AsksAtoms p X k gs m)
      (ws : List (ℕ × Form)) → AreForms gs m asks ws → m ≢ None → Wants r m ws
  wants r [] m asks [] h ne = record { element = nothing; is = ([], tt, refl); is_mark = asks }
  wants r [] m asks (f ∷ ws) h ne = absurd h
  wants r (g ∷ gs) m asks [] h ne = absurd h
  wants r (g ∷ gs) m asks (f ∷ ws) h ne =
      let a = algebra_of p k in
      let others : asks.1 ≢ None = λ e.
      ne (asks.4 ∙ ((joins-law p).comm asks.0 asks.1 ∙ ap (λ z. join_marks p z asks.0) e)) in
      let o = wants r gs asks.1 asks.3 ws h.2 others in
      let x = atom_element a g.0 asks.2.element in
      let all : m ≡ join_marks p (mark k x) (mark k o.element) =
      asks.4
      ∙ (ap (λ z. join_marks p z asks.1) asks.2.is_mark
      ∙ ap (join_marks p (mark k x)) o.is_mark) in
      let j = marks-join p k x o.element (λ e. ne (all ∙ e)) in
      record {
        element = j.element;
        is = (
          x ∷ o.is.0,
          (
            inl (
              refl,
              (asks.2.element, h.1, ap (λ i. atom_element a i asks.2.element) (sym h.0)),
              inl refl,
            ),
            o.is.1,
          ),
          ap (λ q. bind q (λ y. compose x y)) o.is.2 ∙ j.composed,
        );
        is_mark = all ∙ j.joined;
      }

  -- where they compose with what covers the pieces
  pub wanted-compatible :
      (r : Linear) (ps : List Piece) (gs : List (ℕ × Asked)) (m : Option Mark)
      (asks : AsksAtoms p X k gs m) (ws : List (ℕ × Form)) (h : Mark) → AreForms gs m asks ws →
      IsOfKind k h → Covered p w ps (value w.whole r) (Some h) → join_marks p m (Some h) ≢ None →
      AllHold w (compat (algebra_of p k) ps r k ws)
  wanted-compatible r ps gs m asks ws h forms o c ne =
      let n = value w.whole r in
      let y = wants r gs m asks ws forms (first-some p m (Some h) ne) in
      let of_kind = kind-of-part p c.kind c.element k h o c.part in
      let held : ComposeAt (algebra_of p k) k w n ps c.element = elim of_kind [
        | inl e ↦ subst (λ l. ComposeAt (algebra_of p l) l w n ps c.element) e c.is
        | inr e ↦
            let q =
            elements-moved (algebra_of p c.kind) (algebra_of p k) c.kind k w n ps c.is.0 c.is.1
            (c.is.2 ∙ ap Some e) in
            subst (ComposeAt (algebra_of p k) k w n ps) (sym e) (q.elements, q.are, q.unit)
      ] in
      let same : mark c.kind c.element ≡ mark k c.element = elim of_kind [
        | inl e ↦ ap (λ l. mark l c.element) e
        | inr e ↦ ap (mark c.kind) e ∙ ap (mark k) (sym e)
      ] in
      let j =
      marks-join p k y.element c.element
      (λ e.
      less-composes p m (mark c.kind c.element) (Some h) c.part ne
      (ap (λ z. join_marks p z (mark c.kind c.element)) y.is_mark
      ∙ (ap (join_marks p (mark k y.element)) same ∙ e))) in
      compat-means (algebra_of p k) ps r k ws w c.element y.element j.element held y.is
      (compose-comm c.element y.element (composed-sound (algebra_of p k) k w n ps c.element held)
      (composed-sound (algebra_of p k) k w n (wanted_pieces r k ws) y.element y.is) ∙ j.composed)

  pub are-forms :
      (sc : Scope) (normal : (x : ℕ) → HasSort sc Int x → IsWholeAt X x) (ts : List Linear)
      (next : ℕ) → NamesOk X sc normal w ts next → length sc ≤ length ts → (W : Names)
      (gs : List (ℕ × Asked)) (m : Option Mark) (asks : AsksAtoms p X k gs m) →
      AllByRecursion (λ g. AskedOver sc g.1) gs → SlotsOk p X sc normal k w W gs m asks →
      AreForms gs m asks (forms_over ts W gs)
  are-forms sc normal ts next ok le W [] m asks f s = tt
  are-forms sc normal ts next ok le W (g ∷ gs) m asks f s = (
    refl,
    form-element p X sc normal k w ts next W.next g.1 asks.2.element ok le f.0 asks.2.is_asked
        s.0,
    are-forms sc normal ts next ok le (ask W g.1) gs asks.1 asks.3 f.1 s.1,
  )
