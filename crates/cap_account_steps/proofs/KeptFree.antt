-- Variables that are kept free: one of them gets another value, and fewer of them are.
use Rattle.std.proofs.Common.{◌≡◌, ◌≢◌, ◌⊎◌, ℕ, ◌<◌, ℤ, ◌*ℤ◌, List, [], ◌∷◌, ◌++◌, length, Some, inl, inr, Bool, true, false, arith, sym, ap, ◌∙◌, subst, refl}
use Rattle.std.specs.Prelude.{slice_get, nat_eq}
use Rattle.std.specs.List.{AllByRecursion}
use Rattle.std.proofs.lemmas.Bool.{cases_eq}
use Rattle.std.proofs.lemmas.Bool.Decides.{nat_tests}
use Rattle.cap_lin.specs.Linear.{variable}
use Rattle.cap_lin.specs.Values.{Valuation, denominator, value}
use Rattle.cap_lin.specs.Solves.{IsWholeAt}
use Rattle.cap_lin.specs.declared.row.Sort.{Sort}
use Rattle.cap_lin.specs.declared.row.Sort.TheVariants.{Int}
use Rattle.cap_prog.specs.Program.{PlainProgram}
use Rattle.cap_goal_spec.specs.States.{PlainState}
use Rattle.cap_account_resources.proofs.Lists.{all-more, get-first, Among}
use Rattle.cap_account_states.proofs.Terms.{RowOver, Agree, agree-less}
use Rattle.cap_account_states.proofs.Attempts.{sort_added}
use Rattle.cap_account_states.proofs.Compatible.{pieces-more}
use Rattle.cap_account_states.proofs.Meets.{Free, Usable, usable-on, Old, CellOver, cell-more, row-more, new-whole, new-share, with-agrees, variable-value}
use Rattle.cap_account_states.proofs.Alike.{meets-fresh, meets-agree}
use Rattle.cap_account_states.proofs.Backed.{Grounded}
use Rattle.cap_account_assertions.proofs.Named.{set_to}

-- ---- one variable gets a number

module _ (v : Valuation) (x : ℕ) (z : ℤ) where
  pub set-agrees : Agree (λ y. y ≢ x) v (set_to v x z)
  set-agrees = with-agrees (λ y. y ≢ x) v x z (z *ℤ denominator v.fraction) (λ y ne. ne)

  pub set-is : value (set_to v x z).whole (variable x) ≡ z
  set-is = variable-value (set_to v x z) x ∙ new-whole v x z (z *ℤ denominator v.fraction)

  pub set-here-whole : IsWholeAt (set_to v x z) x
  set-here-whole =
      new-share v x z (z *ℤ denominator v.fraction)
      ∙ ap (λ u. u *ℤ denominator v.fraction)
      (sym (new-whole v x z (z *ℤ denominator v.fraction)))

  pub set-whole : (y : ℕ) → IsWholeAt v y → IsWholeAt (set_to v x z) y
  set-whole y h = elim (cases_eq y x) [
    | inl e ↦ subst (IsWholeAt (set_to v x z)) (sym e) set-here-whole
    | inr ne ↦
        set-agrees.share y ne ∙ h
        ∙ ap (λ u. u *ℤ denominator v.fraction) (sym (set-agrees.whole y ne))
  ]

-- ---- other values of variables that are kept free

pub kept-other : (ks : List ℕ) (x y : ℕ) → Among x ks → Free ks y → y ≢ x
kept-other [] x y a h e = absurd a
kept-other (k ∷ ks) x y (inl q) h e = h.0 (e ∙ sym q)
kept-other (k ∷ ks) x y (inr a) h e = kept-other ks x y a h.1 e

abbrev pub AllSorted : List Sort → Valuation → Type 0
AllSorted sorts v = (x : ℕ) → slice_get sorts x ≡ Some Int → IsWholeAt v x

module _ (p : PlainProgram) (s : PlainState) where
  pub grounded-at :
      (ks : List ℕ) (v w : Valuation) → Agree (Free ks) v w → AllSorted s.sorts w →
      Grounded p ks v s → Grounded p ks w s
  grounded-at ks v w a sorted g =
      let P : ℕ → Type 0 = λ x. (x < length s.sorts) × Free ks x in
      record {
        meets = meets-agree ks v w s (agree-less P (Free ks) v w (λ x h. h.1) a) sorted g.meets;
        pieces_over = g.pieces_over;
        pieces_fit = g.pieces_fit;
      }

  -- fewer variables are kept free
  pub usable-free :
      (ks js : List ℕ) → ((y : ℕ) → Free ks y → Free js y) → (o : Sort) (x : ℕ) →
      Usable ks s.sorts o x → Usable js s.sorts o x
  usable-free ks js f o x h = (h.0, f x h.1)

  pub grounded-free :
      (ks js : List ℕ) (v : Valuation) →
      ((o : Sort) (x : ℕ) → Usable ks s.sorts o x → Usable js s.sorts o x) →
      Grounded p ks v s → Grounded p js v s
  grounded-free ks js v more g =
      let R = Usable ks s.sorts in
      let S = Usable js s.sorts in
      let m = g.meets in
      record {
        meets = record {
          sorted = m.sorted;
          rows = m.rows;
          rows_over = all-more (RowOver R) (RowOver S) (row-more R S more) s.rows m.rows_over;
          cells_over = all-more (CellOver R) (CellOver S) (cell-more R S more) s.cells m.cells_over;
          positive = m.positive;
          store_over = m.store_over;
        };
        pieces_over = pieces-more R S more s.guards g.pieces_over;
        pieces_fit = g.pieces_fit;
      }

  -- a new variable of sort Int
  pub grounded-fresh :
      (ks : List ℕ) (v w : Valuation) → Agree (Old s) v w → IsWholeAt w (length s.sorts) →
      Grounded p ks v s → Grounded p ks w (sort_added s Int)
  grounded-fresh ks v w a whole g =
      let grow = λ (x : ℕ) (o : Sort) (e : slice_get s.sorts x ≡ Some o).
      get-first s.sorts (Int ∷ []) x o e in
      record {
        meets = meets-fresh ks v w s Int a whole g.meets;
        pieces_over =
            pieces-more (Usable ks s.sorts) (Usable ks (s.sorts ++ Int ∷ []))
            (usable-on ks s.sorts (s.sorts ++ Int ∷ []) grow) s.guards g.pieces_over;
        pieces_fit = g.pieces_fit;
      }

-- ---- all of them but one

abbrev kept_unless : Bool → ℕ → List ℕ → List ℕ
kept_unless true k ks = ks
kept_unless false k ks = k ∷ ks

abbrev pub all_but : ℕ → List ℕ → List ℕ
all_but x [] = []
all_but x (k ∷ ks) = kept_unless (nat_eq k x) k (all_but x ks)

kept-all :
    (P : ℕ → Type 0) (b : Bool) (k : ℕ) (ks : List ℕ) → (b ≡ false → P k) → AllByRecursion P ks →
    AllByRecursion P (kept_unless b k ks)
kept-all P true k ks h r = r
kept-all P false k ks h r = (h refl, r)

pub all-but :
    (P : ℕ → Type 0) (x : ℕ) (ks : List ℕ) → AllByRecursion P ks → AllByRecursion P (all_but x ks)
all-but P x [] h = tt
all-but P x (k ∷ ks) h =
    kept-all P (nat_eq k x) k (all_but x ks) (λ e. h.0) (all-but P x ks h.1)

pub but-free : (x : ℕ) (ks : List ℕ) → Free (all_but x ks) x
but-free x [] = tt
but-free x (k ∷ ks) =
    kept-all (λ j. x ≢ j) (nat_eq k x) k (all_but x ks) (λ e. differ e) (but-free x ks)
  where
    differ : nat_eq k x ≡ false → x ≢ k
    differ e = grind (arith, nat_tests, e)

pub among-but : (x y : ℕ) (ks : List ℕ) → y ≢ x → Among y ks → Among y (all_but x ks)
among-but x y [] ne a = absurd a
among-but x y (k ∷ ks) ne (inl q) = by (nat_eq k x) refl
  where
    by : (b : Bool) → nat_eq k x ≡ b → Among y (kept_unless b k (all_but x ks))
    by true e = absurd (ne (let same : k ≡ y = q in grind (arith, nat_tests, e, same)))
    by false e = inl q
among-but x y (k ∷ ks) ne (inr m) = by (nat_eq k x) (among-but x y ks ne m)
  where
    by :
        (b : Bool) → Among y (all_but x ks) → Among y (kept_unless b k (all_but x ks))
    by true r = r
    by false r = inr r

-- a variable that is none of the others is none of them, or the one
pub but-or :
    (x y : ℕ) (ks : List ℕ) → Free (all_but x ks) y → Free ks y ⊎ (y ≡ x)
but-or x y [] h = inl tt
but-or x y (k ∷ ks) h = by (nat_eq k x) refl h (λ m. but-or x y ks m)
  where
    by :
        (b : Bool) → nat_eq k x ≡ b → Free (kept_unless b k (all_but x ks)) y →
        (Free (all_but x ks) y → Free ks y ⊎ (y ≡ x)) → Free (k ∷ ks) y ⊎ (y ≡ x)
    by true e m later = elim (later m) [
      | inl f ↦ elim (cases_eq y k) [
        | inl same ↦ inr (let q : k ≡ x = grind (arith, nat_tests, e) in same ∙ q)
        | inr ne ↦ inl (ne, f)
      ]
      | inr same ↦ inr same
    ]
    by false e m later = elim (later m.1) [
      | inl f ↦ inl (m.0, f)
      | inr same ↦ inr same
    ]
