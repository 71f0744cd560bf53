-- What is asked of different atoms, each cut out of the piece that is found for it, is together
-- part of what covers the pieces.
use Rattle.std.proofs.Common.{◌≡◌, ◌≢◌, ℕ, zero, suc, ◌+◌, Bool, true, false, List, [], ◌∷◌, ◌++◌, map, take, drop, cond, Option, Some, refl, sym, ap, ◌∙◌, arith}
use Rattle.std.specs.Prelude.{slice_get, nat_eq, find}
use Rattle.std.specs.List.{AllByRecursion, IsDistinct}
use Rattle.std.proofs.lemmas.Bool.Decides.{nat_tests}
use Rattle.std.proofs.lemmas.Map.Keys.{IsDistinct-head, IsDistinct-tail}
use Rattle.cap_lin.specs.Linear.{Linear}
use Rattle.cap_lin.specs.Values.{Valuation, value}
use Rattle.cap_galg.specs.Elements.{Element}
use Rattle.cap_galg.specs.Algebras.{PlainAlgebra, IsElement, atom_algebra, atom_element}
use Rattle.cap_gsolve.specs.declared.piece.Form.{Form}
use Rattle.cap_gsolve.specs.declared.piece.Piece.{Piece}
use Rattle.cap_gsolve.specs.Pieces.{piece, of_atom}
use Rattle.cap_gsolve.specs.Meaning.{Fits}
use Rattle.cap_gsolve.proofs.Held.{part-is}
use Rattle.cap_prog.specs.declared.assertion.Asked.{Asked}
use Rattle.cap_prog.specs.Program.{PlainProgram}
use Rattle.cap_machine_accounts.specs.Parts.{algebra_of}
use Rattle.cap_rules.specs.Taking.{with_form}
use Rattle.cap_account_resources.proofs.Lists.{some-same, none-some, all-at}
use Rattle.cap_account_resources.proofs.Marks.{Mark, free, joins-law}
use Rattle.cap_account_resources.proofs.Covering.{join_marks, IsPartOf, mark, part-trans, Covered}
use Rattle.cap_account_resources.proofs.Interference.{AsksAtom, AsksAtoms}
use Rattle.cap_account_states.proofs.Wants.{Wants, wants-asked}
use Rattle.cap_account_states.proofs.Pieces.{AllFit, left_pieces, cut-here}
use Rattle.cap_account_states.proofs.Guards.{forms-fit, left-fits}
use Rattle.cap_account_steps.proofs.Offers.{Offers}

-- ---- the first that passes a test

-- it has a number, and passes
pub found-at :
    {A : Type 0} (test : A → Bool) (xs : List A) (x : A) → find test xs ≡ Some x →
    (j : ℕ) × (slice_get xs j ≡ Some x) × (test x ≡ true)
found-at test [] x e = absurd (none-some e)
found-at {A} test (y ∷ xs) x e = by (test y) refl e (λ g. found-at test xs x g)
  where
    At : List A → Type 0
    At ys = (j : ℕ) × (slice_get ys j ≡ Some x) × (test x ≡ true)

    by : (b : Bool) → test y ≡ b → cond b (Some y) (find test xs) ≡ Some x →
        (find test xs ≡ Some x → At xs) → At (y ∷ xs)
    by true t g more = (0, g, ap test (sym (some-same y x g)) ∙ t)
    by false t g more = let m = more g in (suc m.0, m.1, m.2)

-- ---- an element of a list stays where others take the place of another one

behind :
    {A : Type 0} (new xs : List A) (j : ℕ) →
    (m : ℕ) × (slice_get (new ++ xs) m ≡ slice_get xs j)
behind [] xs j = (j, refl)
behind (y ∷ new) xs j = let m = behind new xs j in (suc m.0, m.1)

still-there :
    {A : Type 0} (xs : List A) (j n : ℕ) (x y : A) (new : List A) → slice_get xs j ≡ Some x →
    slice_get xs n ≡ Some y → x ≢ y →
    (m : ℕ) × (slice_get (take n xs ++ (new ++ drop (n + 1) xs)) m ≡ Some x)
still-there [] j n x y new e g ne = absurd (none-some e)
still-there (z ∷ xs) zero zero x y new e g ne =
    absurd (ne (sym (some-same z x e) ∙ some-same z y g))
still-there (z ∷ xs) (suc j) zero x y new e g ne =
    let m = behind new xs j in (m.0, m.1 ∙ e)
still-there (z ∷ xs) zero (suc n) x y new e g ne = (0, e)
still-there (z ∷ xs) (suc j) (suc n) x y new e g ne =
    let next : suc n + 1 ≡ suc (n + 1) = omega arith in
    let m = still-there xs j n x y new e g ne in (
      suc m.0,
      ap (λ i. slice_get (take (suc n) (z ∷ xs) ++ (new ++ drop i (z ∷ xs))) (suc m.0)) next
          ∙ m.1,
    )

-- ---- pieces of a region's atoms

part-beside :
    (p : PlainProgram) (a b c : Option Mark) → IsPartOf p b c →
    IsPartOf p (join_marks p a b) (join_marks p a c)
part-beside p a b c h = (h.0, (joins-law p).assoc a b h.0 ∙ ap (join_marks p a) h.1)

-- a piece of an atom of a region's guards
pub is-piece :
    (r : Linear) (k i : ℕ) (q : Piece) → of_atom r k i q ≡ true → q ≡ piece r k i q.form
is-piece r k i q e =
    let m = part-is q (piece r k i q.form) e in
    λ t. record { region = m.region t; kind = m.kind t; atom = m.atom t; form = q.form }

module _ (p : PlainProgram) (v X : Valuation) (r : Linear) (k : ℕ) where
  abbrev b : ℕ → PlainAlgebra
  b i = atom_algebra (algebra_of p k) i

  -- a piece of the atom, by its number, offers what is asked of it
  pub record Found (ps : List Piece) (g : ℕ × Asked) : Type 0 where
    pub number : ℕ
    pub form : Form
    pub found : slice_get ps number ≡ Some (piece r k g.0 form)
    pub offers : Offers (b g.0) v X form g.1

  -- a piece of one atom is none of another
  other-atom :
      (i j : ℕ) (f h : Form) → nat_eq i j ≡ false → piece r k j h ≢ piece r k i f
  other-atom i j f h d e =
      let same : j ≡ i = ap (λ (q : Piece). q.atom) e in
      let t : nat_eq i j ≡ true = grind (arith, nat_tests, same) in
      absurd (let clash : true ≡ false = sym t ∙ d in cc)

  -- where a piece of one atom was cut, those of others are still there
  still-found :
      (ps : List Piece) (i : ℕ) (f : Form) (n : ℕ) (left : List Form) (gs : List (ℕ × Asked)) →
      slice_get ps n ≡ Some (piece r k i f) →
      AllByRecursion (λ j. nat_eq i j ≡ false) (map (λ g. g.0) gs) →
      AllByRecursion (Found ps) gs →
      AllByRecursion (Found (left_pieces ps n (piece r k i f) left)) gs
  still-found ps i f n left [] e d h = tt
  still-found ps i f n left (g ∷ gs) e d h =
      let w = h.0 in
      let m = still-there ps w.number n (piece r k g.0 w.form) (piece r k i f)
      (map (with_form (piece r k i f)) left) w.found e (other-atom i g.0 f w.form d.0) in (
        record { number = m.0; form = w.form; found = m.1; offers = w.offers },
        still-found ps i f n left gs e d.1 h.1,
      )

  -- what is asked of one atom, and of others beside it
  asks-of :
      (g : ℕ × Asked) (y : Element) → Wants X g.1 y → IsElement (b g.0) y →
      AsksAtom p X k g (mark k (atom_element (algebra_of p k) g.0 y))
  asks-of g y w e =
      record { element = y; is_asked = wants-asked X g.1 y w; of_atom = e; is_mark = refl }

  asks-both :
      (g : ℕ × Asked) (gs : List (ℕ × Asked)) (m n : Option Mark) → AsksAtom p X k g m →
      AsksAtoms p X k gs n → AsksAtoms p X k (g ∷ gs) (join_marks p m n)
  asks-both g gs m n h hs = (m, n, h, hs, refl)

  pub guards-within :
      (gs : List (ℕ × Asked)) (ps : List Piece) (m : Option Mark) → AllFit p ps →
      Covered p v ps (value v.whole r) m → IsDistinct nat_eq (map (λ g. g.0) gs) →
      AllByRecursion (Found ps) gs →
      (t : Option Mark) × AsksAtoms p X k gs t × IsPartOf p t m
  guards-within [] ps m fit c d h = (Some free, refl, (m, (joins-law p).zero_left m))
  guards-within (g ∷ gs) ps m fit c d h =
      let w = h.0 in
      let i = g.0 in
      let q = piece r k i w.form in
      let left = w.offers.left in
      let j = w.number in
      let here = cut-here p v ps j q (value v.whole r) m fit w.found refl c in
      let o = w.offers.cut here.own here.is_own in
      let own_fits = all-at (λ x. Fits (algebra_of p x.kind) x) ps j q fit w.found in
      let fits = forms-fit p q left own_fits w.offers.takes in
      let u = here.cut o.0 left o.2 fits o.3 in
      let names = map (λ (x : ℕ × Asked). x.0) gs in
      let more = guards-within gs (left_pieces ps j q left) u.rest
      (left-fits p ps j q left fit fits) u.covered (IsDistinct-tail nat_eq i names d)
      (still-found ps i w.form j left gs w.found (IsDistinct-head nat_eq i names d) h.1) in
      let a = mark k (atom_element (algebra_of p k) i o.0) in (
        join_marks p a more.0,
        asks-both g gs a more.0 (asks-of g o.0 o.1 o.2) more.1,
        part-trans p (join_marks p a more.0) (join_marks p a u.rest) m
            (part-beside p a more.0 u.rest more.2) u.within,
      )
