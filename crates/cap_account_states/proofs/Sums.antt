-- Full pieces compose to a full element and fit, and those of the two sides of a sum are one
-- element.
use Rattle.std.proofs.Common.{◌≡◌, ℕ, zero, suc, ◌+◌, ◌-◌, ◌<◌, arith, List, Bool, true, false, Option, Some, None, refl, sym, ap, ◌∙◌, subst}
use Rattle.std.specs.Prelude.{if◌then◌else◌, nat_lt}
use Rattle.std.specs.List.{AllByRecursion}
use Rattle.cap_lin.specs.Linear.{Linear}
use Rattle.cap_lin.specs.Values.{Valuation, value}
use Rattle.cap_lin.specs.declared.row.Sort.{Sort}
use Rattle.cap_lin.specs.declared.row.Sort.TheVariants.{Int, Perm}
use Rattle.cap_galg.specs.Elements.{Element, nothing, both, whole, left, right, on_left, on_right}
use Rattle.cap_galg.specs.Algebras.{PlainAlgebra, unique, divisible, counting, indexed, product, sum, atoms, atom_algebra, full}
use Rattle.cap_galg.specs.Laws.Algebras.{full-full}
use Rattle.cap_galg.specs.Laws.Atoms.{lt-true, lt-false}
use Rattle.cap_gsolve.specs.declared.piece.Form.{Form}
use Rattle.cap_gsolve.specs.declared.piece.Form.TheVariants.{One, Share, Src, Tok, Span}
use Rattle.cap_gsolve.specs.declared.piece.Piece.{Piece}
use Rattle.cap_gsolve.specs.Pieces.{piece, pieces_of, full_forms, full_pieces}
use Rattle.cap_gsolve.specs.Merge.{zero_term, one_term}
use Rattle.cap_gsolve.specs.Meaning.{ComposeAt, Takes, Fits}
use Rattle.cap_gsolve.proofs.FullPieces.{Stands, itself, in-first, in-second, in-side, in-other-side, full-from}
use Rattle.cap_prog.specs.Program.{PlainProgram}
use Rattle.cap_machine_accounts.specs.Parts.{algebra_of}
use Rattle.cap_rules.specs.Taking.{Sides, sides_of, sum_count, sum_in, side_pieces}
use Rattle.cap_account_resources.proofs.Lists.{some-same, none-some, map-join, all-more, all-both}
use Rattle.cap_account_states.proofs.Terms.{Over}
use Rattle.cap_account_states.proofs.Guarding.{FormOver}
use Rattle.cap_account_states.proofs.Pieces.{AllFit}
use Rattle.cap_account_states.proofs.Adding.{PieceOver}

-- ---- algebras within another

-- the atoms of the second algebra are those of the first from a number on
abbrev AtomsFrom : PlainAlgebra → PlainAlgebra → ℕ → Type 0
AtomsFrom w a i =
    (j : ℕ) → j < atoms a → (i + j < atoms w) × (atom_algebra w (i + j) ≡ atom_algebra a j)

-- the second algebra stands in the first from an atom on
record Within (w a : PlainAlgebra) (i : ℕ) : Type 0 where
  place : Element → Element
  stands : Stands w a i place
  atoms_from : AtomsFrom w a i

abbrev all-within : (w : PlainAlgebra) → Within w w 0
all-within w = record {
  place = λ x. x;
  stands = itself w;
  atoms_from =
      λ j l. let e : j ≡ 0 + j = omega arith in
      subst (λ n. (n < atoms w) × (atom_algebra w n ≡ atom_algebra w j)) e (l, refl);
}

-- of two algebras beside each other, or two sides: the atoms of the first, and of the second
atoms-first :
    (w a b : PlainAlgebra) (i : ℕ) → AtomsFrom w (product a b) i → AtomsFrom w a i
atoms-first w a b i h j l =
    let m : j < atoms a + atoms b = omega (arith, l) in
    let q = h j m in (
      q.0,
      q.1 ∙ ap (λ t. if t then atom_algebra a j else atom_algebra b (j - atoms a))
          (lt-true j (atoms a) l),
    )

atoms-second :
    (w a b : PlainAlgebra) (i : ℕ) → AtomsFrom w (product a b) i → AtomsFrom w b (i + atoms a)
atoms-second w a b i h j l =
    let m : atoms a + j < atoms a + atoms b = omega (arith, l) in
    let past : atoms a + j - atoms a ≡ j = omega arith in
    let same : i + (atoms a + j) ≡ i + atoms a + j = omega arith in
    let q = h (atoms a + j) m in
    subst (λ n. (n < atoms w) × (atom_algebra w n ≡ atom_algebra b j)) same (
      q.0,
      q.1
          ∙ (ap (λ t. if t then atom_algebra a (atoms a + j)
          else atom_algebra b (atoms a + j - atoms a))
          (lt-false (atoms a + j) (atoms a) (omega arith)) ∙ ap (atom_algebra b) past),
    )

abbrev first-of :
    (w a b : PlainAlgebra) (i : ℕ) → Within w (product a b) i → Within w a i
first-of w a b i h = record {
  place = λ x. h.place (both x nothing);
  stands = in-first w a b i h.place h.stands;
  atoms_from = atoms-first w a b i h.atoms_from;
}

abbrev second-of :
    (w a b : PlainAlgebra) (i : ℕ) → Within w (product a b) i → Within w b (i + atoms a)
second-of w a b i h = record {
  place = λ x. h.place (both nothing x);
  stands = in-second w a b i h.place h.stands;
  atoms_from = atoms-second w a b i h.atoms_from;
}

abbrev left-of :
    (w a b : PlainAlgebra) (i : ℕ) → Within w (sum a b) i → Within w a i
left-of w a b i h = record {
  place = λ x. h.place (on_left x);
  stands = in-side w a b i h.place h.stands;
  atoms_from = atoms-first w a b i h.atoms_from;
}

abbrev right-of :
    (w a b : PlainAlgebra) (i : ℕ) → Within w (sum a b) i → Within w b (i + atoms a)
right-of w a b i h = record {
  place = λ x. h.place (on_right x);
  stands = in-other-side w a b i h.place h.stands;
  atoms_from = atoms-second w a b i h.atoms_from;
}

-- ---- full pieces

-- a form that holds all of a guard
abbrev pub IsFull : Form → Type 0
IsFull One = Unit {0}
IsFull (Share t) = t ≡ one_term
IsFull (Src t) = t ≡ zero_term
IsFull (Tok t) = ⊥
IsFull (Span t None) = t ≡ zero_term
IsFull (Span t (Some e)) = ⊥

-- all of one guard of a region's
pub record FullPiece (w : PlainAlgebra) (r : Linear) (k : ℕ) (q : Piece) : Type 0 where
  pub region_is : q.region ≡ r
  pub kind_is : q.kind ≡ k
  pub fits : Fits w q
  pub full : IsFull q.form

one-full :
    (w a : PlainAlgebra) (r : Linear) (k i : ℕ) (f : Form) → 0 < atoms a →
    Takes (atom_algebra a 0) f → IsFull f → AtomsFrom w a i → FullPiece w r k (piece r k i f)
one-full w a r k i f l t h from =
    let q = from 0 l in
    let e : i + 0 ≡ i = omega arith in
    record {
      region_is = refl;
      kind_is = refl;
      fits =
          subst (λ n. (n < atoms w) × Takes (atom_algebra w n) f) e
          (q.0, subst (λ b. Takes b f) (sym q.1) t);
      full = h;
    }

each-full :
    (a w : PlainAlgebra) (r : Linear) (k i : ℕ) → AtomsFrom w a i →
    AllByRecursion (FullPiece w r k) (pieces_of r k (full_forms a i))
each-full unique w r k i h = (one-full w unique r k i One (omega arith) tt tt h, tt)
each-full divisible w r k i h =
    (one-full w divisible r k i (Share one_term) (omega arith) tt refl h, tt)
each-full counting w r k i h =
    (one-full w counting r k i (Src zero_term) (omega arith) tt refl h, tt)
each-full indexed w r k i h =
    (one-full w indexed r k i (Span zero_term None) (omega arith) tt refl h, tt)
each-full (product a b) w r k i h =
    let j = i + atoms a in
    subst (AllByRecursion (FullPiece w r k))
    (sym (map-join (λ f. piece r k f.0 f.1) (full_forms a i) (full_forms b j)))
    (all-both (FullPiece w r k) (pieces_of r k (full_forms a i)) (pieces_of r k (full_forms b j))
    (each-full a w r k i (atoms-first w a b i h))
    (each-full b w r k j (atoms-second w a b i h)))
each-full (sum a b) w r k i h = each-full a w r k i (atoms-first w a b i h)

-- such pieces fit their type, and are over what the region's term is over
pub full-fit :
    (p : PlainProgram) (r : Linear) (k : ℕ) (ps : List Piece) →
    AllByRecursion (FullPiece (algebra_of p k) r k) ps → AllFit p ps
full-fit p r k ps h =
    all-more (FullPiece (algebra_of p k) r k) (λ q. Fits (algebra_of p q.kind) q)
    (λ q f. subst (λ n. Fits (algebra_of p n) q) (sym f.kind_is) f.fits) ps h

pub full-over :
    (R : Sort → ℕ → Type 0) (w : PlainAlgebra) (r : Linear) (k : ℕ) (ps : List Piece) →
    Over (R Int) r → AllByRecursion (FullPiece w r k) ps → AllByRecursion (PieceOver R) ps
full-over R w r k ps o h =
    all-more (FullPiece w r k) (PieceOver R)
    (λ q f. (subst (Over (R Int)) (sym f.region_is) o, form q.form f.full)) ps h
  where
    form : (f : Form) → IsFull f → FormOver R f
    form One h = tt
    form (Share t) h = subst (Over (R Perm)) (sym h) tt
    form (Src t) h = subst (Over (R Int)) (sym h) tt
    form (Tok t) h = absurd h
    form (Span t None) h = (subst (Over (R Int)) (sym h) tt, tt)
    form (Span t (Some e)) h = absurd h

-- pieces of a region, each all of a guard, that compose to this element
pub record Full (w : PlainAlgebra) (k : ℕ) (v : Valuation) (r : Linear) (ps : List Piece)
    (x : Element) : Type 0 where
  pub composes : ComposeAt w k v (value v.whole r) ps x
  pub each : AllByRecursion (FullPiece w r k) ps

full-within :
    (w a : PlainAlgebra) (k : ℕ) (v : Valuation) (r : Linear) (i : ℕ) (h : Within w a i) →
    Full w k v r (pieces_of r k (full_forms a i)) (h.place (full a))
full-within w a k v r i h = record {
  composes = full-from a w k v r i h.place h.stands;
  each = each-full a w r k i h.atoms_from;
}

-- those of all of a region's guards
pub all-full :
    (w : PlainAlgebra) (k : ℕ) (v : Valuation) (r : Linear) →
    Full w k v r (full_pieces w r k) (full w)
all-full w k v r = full-within w w k v r 0 (all-within w)

-- ---- the two sides of a sum

-- the sides are those of a sum that stands in the algebra
record SumWithin (w : PlainAlgebra) (x : Sides) : Type 0 where
  first : PlainAlgebra
  second : PlainAlgebra
  atom : ℕ
  within : Within w (sum first second) atom
  are : sides_of first second atom ≡ x

by-test :
    {A : Type 0} (c : Bool) (m n : Option A) (x : A) (R : Type 0) →
    (if c then m else n) ≡ Some x → (m ≡ Some x → R) → (n ≡ Some x → R) → R
by-test true m n x R e f g = f e
by-test false m n x R e f g = g e

sum-within :
    (a w : PlainAlgebra) (i : ℕ) → Within w a i → (n : ℕ) (x : Sides) → sum_in a i n ≡ Some x →
    SumWithin w x
sum-within unique w i h n x e = absurd (none-some e)
sum-within divisible w i h n x e = absurd (none-some e)
sum-within counting w i h n x e = absurd (none-some e)
sum-within indexed w i h n x e = absurd (none-some e)
sum-within (product a b) w i h n x e =
    let j = i + atoms a in
    let m = n - sum_count a in
    by-test (nat_lt n (sum_count a)) (sum_in a i n) (sum_in b j m) x (SumWithin w x) e
    (sum-within a w i (first-of w a b i h) n x) (sum-within b w j (second-of w a b i h) m x)
sum-within (sum a b) w i h zero x e = record {
  first = a;
  second = b;
  atom = i;
  within = h;
  are = some-same (sides_of a b i) x e;
}
sum-within (sum a b) w i h (suc n) x e =
    let j = i + atoms a in
    let m = n - sum_count a in
    by-test (nat_lt n (sum_count a)) (sum_in a i n) (sum_in b j m) x (SumWithin w x) e
    (sum-within a w i (left-of w a b i h) n x) (sum-within b w j (right-of w a b i h) m x)

-- both sides are full, and one element
pub record SidesFull (w : PlainAlgebra) (k : ℕ) (v : Valuation) (r : Linear)
    (x : Sides) : Type 0 where
  pub element : Element
  pub left : Full w k v r (side_pieces x.left r k) element
  pub right : Full w k v r (side_pieces x.right r k) element

pub sides-full :
    (w : PlainAlgebra) (k : ℕ) (v : Valuation) (r : Linear) (n : ℕ) (x : Sides) →
    sum_in w 0 n ≡ Some x → SidesFull w k v r x
sides-full w k v r n x e =
    let s = sum-within w w 0 (all-within w) n x e in
    let a = s.first in
    let b = s.second in
    let i = s.atom in
    let h = s.within in
    subst (SidesFull w k v r) s.are (record {
      element = h.place whole;
      left =
          subst (λ t. Full w k v r (pieces_of r k (full_forms a i))
          (h.place (if t then whole else left (full a)))) (full-full a)
          (full-within w a k v r i (left-of w a b i h));
      right =
          subst (λ t. Full w k v r (pieces_of r k (full_forms b (i + atoms a)))
          (h.place (if t then whole else right (full b)))) (full-full b)
          (full-within w b k v r (i + atoms a) (right-of w a b i h));
    })
