-- The variables of compatibility's rows; and what is held covers the pieces also at alike values.
use Rattle.std.proofs.Common.{inl, inr, ℕ, ℤ, Bool, true, false, List, [], ◌∷◌, ◌++◌, Option, Some, None, sym, ◌∙◌, subst}
use Rattle.std.specs.Prelude.{if◌then◌else◌}
use Rattle.std.specs.List.{AllByRecursion}
use Rattle.cap_lin.specs.Linear.{Linear, plus, minus}
use Rattle.cap_lin.specs.Rows.{row_of}
use Rattle.cap_lin.specs.Values.{Valuation}
use Rattle.cap_lin.specs.Solves.{IsWholeAt}
use Rattle.cap_lin.specs.declared.row.Row.{Row}
use Rattle.cap_lin.specs.declared.row.Sort.{Sort}
use Rattle.cap_lin.specs.declared.row.Sort.TheVariants.{Int, Perm}
use Rattle.cap_lin.specs.declared.row.Op.TheVariants.{Le as AtMost, Gt as Greater, Ge as AtLeast, Ne as Unequal}
use Rattle.cap_galg.specs.Elements.{Element}
use Rattle.cap_galg.specs.Algebras.{PlainAlgebra}
use Rattle.cap_galg.specs.Laws.Composition.{true_or_false}
use Rattle.cap_gsolve.specs.declared.piece.Form.{Form}
use Rattle.cap_gsolve.specs.declared.piece.Form.TheVariants.{One, Share, Src, Tok, Span}
use Rattle.cap_gsolve.specs.declared.piece.Piece.{Piece}
use Rattle.cap_gsolve.specs.Pieces.{piece, joins, is_single}
use Rattle.cap_gsolve.specs.Merge.{zero_term, one_term, beside, there}
use Rattle.cap_gsolve.specs.Compat.{share_there, fits_rows, wanted_alone, wanted_beside, off_rows, one_rows, wanted_rows, clashes_some, compat}
use Rattle.cap_gsolve.specs.Meaning.{IsFormElement, IsElementAt, AreElementsAt}
use Rattle.cap_gsolve.proofs.Held.{there-same, there-other}
use Rattle.cap_prog.specs.Program.{PlainProgram}
use Rattle.cap_machine_accounts.specs.Parts.{algebra_of}
use Rattle.cap_account_resources.proofs.Lists.{all-both}
use Rattle.cap_account_states.proofs.Terms.{Vars, Over, vars-more, RowOver, row-over, over-plus, over-minus}
use Rattle.cap_account_states.proofs.Alike.{Alike, value-alike}
use Rattle.cap_account_states.proofs.Wants.{value-of-alike}
use Rattle.cap_account_resources.proofs.Marks.{Mark}
use Rattle.cap_account_resources.proofs.Covering.{Covered}
use Rattle.cap_account_states.proofs.Guarding.{FormOver}
use Rattle.cap_account_states.proofs.Adding.{PieceOver, beside-over}
use Rattle.cap_account_states.proofs.Asking.{FormWhole}

-- ---- variables

abbrev OptionOver : (Sort → ℕ → Type 0) → Option Form → Type 0
OptionOver R None = Unit {0}
OptionOver R (Some f) = FormOver R f

there-over :
    (R : Sort → ℕ → Type 0) (ps : List Piece) (q : Piece) → AllByRecursion (PieceOver R) ps →
    OptionOver R (there ps q)
there-over R [] q h = tt
there-over R (r ∷ ps) q h = elim (true_or_false (joins r q)) [
  | inl t ↦ subst (OptionOver R) (sym (there-same r ps q t)) h.0.1
  | inr f ↦ subst (OptionOver R) (sym (there-other r ps q f)) (there-over R ps q h.1)
]

share-over :
    (R : Sort → ℕ → Type 0) (o : Option Form) → OptionOver R o → Over (R Perm) (share_there o)
share-over R None h = tt
share-over R (Some One) h = tt
share-over R (Some (Share t)) h = h
share-over R (Some (Src t)) h = tt
share-over R (Some (Tok t)) h = tt
share-over R (Some (Span t e)) h = tt

form-rows-over :
    (R : Sort → ℕ → Type 0) (f : Form) → FormOver R f →
    AllByRecursion (RowOver R) (wanted_alone f)
form-rows-over R One h = tt
form-rows-over R (Share t) h = (row-over R t Greater zero_term Perm h tt, tt)
form-rows-over R (Src t) h = (row-over R t AtLeast zero_term Int h tt, tt)
form-rows-over R (Tok t) h = (row-over R t AtLeast zero_term Int h tt, tt)
form-rows-over R (Span t e) h = (row-over R t AtLeast zero_term Int h.0 tt, tt)

fit-over :
    (R : Sort → ℕ → Type 0) (o : Option Form) (f : Form) → OptionOver R o → FormOver R f →
    AllByRecursion (RowOver R) (fits_rows o f)
fit-over R o (Share e) h k = (
  row-over R (plus e (share_there o)) AtMost one_term Perm
      (over-plus (R Perm) e (share_there o) k (share-over R o h)) tt,
  tt,
)
fit-over R None One h k = tt
fit-over R None (Src n) h k = tt
fit-over R None (Tok n) h k = tt
fit-over R (Some One) One h k = tt
fit-over R (Some One) (Src n) h k = tt
fit-over R (Some One) (Tok n) h k = tt
fit-over R (Some (Share t)) One h k = tt
fit-over R (Some (Share t)) (Src n) h k = tt
fit-over R (Some (Share t)) (Tok n) h k = tt
fit-over R (Some (Src t)) One h k = tt
fit-over R (Some (Src t)) (Src n) h k = tt
fit-over R (Some (Src t)) (Tok n) h k = (row-over R n AtMost t Int k h, tt)
fit-over R (Some (Tok t)) One h k = tt
fit-over R (Some (Tok t)) (Src n) h k = (row-over R t AtMost n Int h k, tt)
fit-over R (Some (Tok t)) (Tok n) h k = tt
fit-over R None (Span t e) h k = tt
fit-over R (Some One) (Span t e) h k = tt
fit-over R (Some (Share t)) (Span u e) h k = tt
fit-over R (Some (Src t)) (Span u e) h k = tt
fit-over R (Some (Tok t)) (Span u e) h k = tt
fit-over R (Some (Span t e)) One h k = tt
fit-over R (Some (Span t e)) (Src n) h k = tt
fit-over R (Some (Span t e)) (Tok n) h k = tt
fit-over R (Some (Span t e)) (Span u d) h k = tt

off-over :
    (R : Sort → ℕ → Type 0) (f g : Form) → FormOver R f → FormOver R g →
    AllByRecursion (RowOver R) (wanted_beside f g)
off-over R (Span a e) (Span i d) h k = by (is_single i d) e
  where
    off : (e : Option Linear) → AllByRecursion (RowOver R) (off_rows a e i)
    off None =
        (row-over R i AtMost (minus a one_term) Int k.0 (over-minus (R Int) a one_term h.0 tt), tt)
    off (Some e) = at (is_single a (Some e))
      where
        at : (b : Bool) → AllByRecursion (RowOver R) (if b then row_of i Unequal a Int ∷ [] else [])
        at true = (row-over R i Unequal a Int k.0 h.0, tt)
        at false = tt

    by :
        (b : Bool) (e : Option Linear) →
        AllByRecursion (RowOver R) (if b then off_rows a e i else [])
    by true e = off e
    by false e = tt
off-over R f g h k = tt

wanted-over :
    (R : Sort → ℕ → Type 0) (ps : List Piece) (r : Linear) (k : ℕ) (ws : List (ℕ × Form)) →
    AllByRecursion (PieceOver R) ps → AllByRecursion (λ w. FormOver R w.1) ws →
    AllByRecursion (RowOver R) (wanted_rows ps r k ws)
unfolding wanted_rows
wanted-over R ps r k [] h g = tt
wanted-over R ps r k (w ∷ ws) h g =
    all-both (RowOver R) (one_rows ps r k w) (wanted_rows ps r k ws)
    (all-both (RowOver R) (wanted_alone w.1)
    (fits_rows (there ps (piece r k w.0 w.1)) w.1 ++ beside wanted_beside ps (piece r k w.0 w.1))
    (form-rows-over R w.1 g.0)
    (all-both (RowOver R) (fits_rows (there ps (piece r k w.0 w.1)) w.1)
    (beside wanted_beside ps (piece r k w.0 w.1))
    (fit-over R (there ps (piece r k w.0 w.1)) w.1 (there-over R ps (piece r k w.0 w.1) h) g.0)
    (beside-over R wanted_beside ps (piece r k w.0 w.1) (λ f o. off-over R f w.1 o g.0) h)))
    (wanted-over R ps r k ws h g.1)

-- where there are rows
abbrev pub AnswerOver : (Sort → ℕ → Type 0) → Option (List Row) → Type 0
AnswerOver R None = Unit {0}
AnswerOver R (Some rows) = AllByRecursion (RowOver R) rows

pub compat-over :
    (R : Sort → ℕ → Type 0) (a : PlainAlgebra) (ps : List Piece) (r : Linear) (k : ℕ)
    (ws : List (ℕ × Form)) → AllByRecursion (PieceOver R) ps →
    AllByRecursion (λ w. FormOver R w.1) ws → AnswerOver R (compat a ps r k ws)
unfolding compat
compat-over R a ps r k ws h g = by (clashes_some a ps r k ws) (wanted-over R ps r k ws h g)
  where
    by : (b : Bool) → AllByRecursion (RowOver R) (wanted_rows ps r k ws) →
        AnswerOver R (if b then None else Some (wanted_rows ps r k ws))
    by true g = tt
    by false g = g

-- a variable of sort Int is whole
abbrev pub Whole : Valuation → Sort → ℕ → Type 0
Whole w Int x = IsWholeAt w x
Whole w Perm x = Unit {0}

pub form-over-whole : (w : Valuation) (f : Form) → FormWhole w f → FormOver (Whole w) f
form-over-whole w One h = tt
form-over-whole w (Share t) h = units t.parts
  where
    units : (ps : List (ℕ × ℤ)) → Vars (Whole w Perm) ps
    units [] = tt
    units (p ∷ ps) = (tt, units ps)
form-over-whole w (Src t) h = h
form-over-whole w (Tok t) h = h
form-over-whole w (Span t None) h = (h.0, tt)
form-over-whole w (Span t (Some e)) h = h

pub form-more :
    (R S : Sort → ℕ → Type 0) → ((o : Sort) (x : ℕ) → R o x → S o x) → (f : Form) →
    FormOver R f → FormOver S f
form-more R S g One h = tt
form-more R S g (Share t) h = vars-more (R Perm) (S Perm) (g Perm) t.parts h
form-more R S g (Src t) h = vars-more (R Int) (S Int) (g Int) t.parts h
form-more R S g (Tok t) h = vars-more (R Int) (S Int) (g Int) t.parts h
form-more R S g (Span t None) h = (vars-more (R Int) (S Int) (g Int) t.parts h.0, tt)
form-more R S g (Span t (Some e)) h =
    (vars-more (R Int) (S Int) (g Int) t.parts h.0, vars-more (R Int) (S Int) (g Int) e.parts h.1)

pub pieces-more :
    (R S : Sort → ℕ → Type 0) → ((o : Sort) (x : ℕ) → R o x → S o x) → (ps : List Piece) →
    AllByRecursion (PieceOver R) ps → AllByRecursion (PieceOver S) ps
pieces-more R S g [] h = tt
pieces-more R S g (q ∷ ps) h = (
  (
    vars-more (R Int) (S Int) (g Int) q.region.parts h.0.0,
    form-more R S g q.form h.0.1,
  ),
  pieces-more R S g ps h.1,
)

-- ---- elements at alike values

pub form-alike :
    (P : ℕ → Type 0) (v w : Valuation) → Alike P v w → (f : Form) → FormOver (λ o. P) f →
    (x : Element) → IsFormElement v f x → IsFormElement w f x
form-alike P v w a One o x h = h
form-alike P v w a (Share t) o x h = (h.0, h.1, value-of-alike P v w a t o h.0 h.2, h.3)
form-alike P v w a (Src t) o x h = (h.0, value-alike P v w a t o ∙ h.1, h.2)
form-alike P v w a (Tok t) o x h = (h.0, value-alike P v w a t o ∙ h.1, h.2)
form-alike P v w a (Span t None) o x h = (h.0, value-alike P v w a t o.0 ∙ h.1, h.2)
form-alike P v w a (Span t (Some e)) o x h =
    (h.0, h.1, value-alike P v w a t o.0 ∙ h.2, value-alike P v w a e o.1 ∙ h.3, h.4, h.5)

module _ (a : PlainAlgebra) (k : ℕ) (P : ℕ → Type 0) (v w : Valuation) (l : Alike P v w)
    (n : ℤ) where
  element-alike :
      (q : Piece) (x : Element) → PieceOver (λ o. P) q → IsElementAt a k v n q x →
      IsElementAt a k w n q x
  element-alike q x o (inl i) =
      let m = i.1 in
      inl (
        value-alike P v w l q.region o.0 ∙ i.0,
        (m.0, form-alike P v w l q.form o.1 m.0 m.1, m.2),
        i.2,
      )
  element-alike q x o (inr i) =
      inr (λ e. i.0 (sym (value-alike P v w l q.region o.0) ∙ e), i.1)

  elements-alike :
      (ps : List Piece) (xs : List Element) → AllByRecursion (PieceOver (λ o. P)) ps →
      AreElementsAt a k v n ps xs → AreElementsAt a k w n ps xs
  elements-alike [] [] o e = tt
  elements-alike [] (x ∷ xs) o e = absurd e
  elements-alike (q ∷ ps) [] o e = absurd e
  elements-alike (q ∷ ps) (x ∷ xs) o e =
      (element-alike q x o.0 e.0, elements-alike ps xs o.1 e.1)

-- what is held covers the pieces at both
pub covered-alike :
    (p : PlainProgram) (P : ℕ → Type 0) (v w : Valuation) → Alike P v w → (ps : List Piece) (n : ℤ)
    (m : Option Mark) → AllByRecursion (PieceOver (λ o. P)) ps → Covered p v ps n m →
    Covered p w ps n m
covered-alike p P v w l ps n m o c = record {
  kind = c.kind;
  element = c.element;
  is = (
    c.is.0,
    elements-alike (algebra_of p c.kind) c.kind P v w l n ps c.is.0 o c.is.1,
    c.is.2,
  );
  part = c.part;
}
