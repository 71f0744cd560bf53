-- What is held of a region's guards covers the pieces of a state, also with one piece more.
use Rattle.std.proofs.Common.{◌≡◌, ◌≢◌, ◌⊎◌, inl, inr, ℕ, ℤ, Bool, true, false, List, [], ◌∷◌, ◌++◌, Option, Some, None, refl, sym, ap, ◌∙◌, subst}
use Rattle.std.specs.List.{AllByRecursion}
use Rattle.cap_lin.specs.Values.{Valuation}
use Rattle.cap_lin.specs.Solves.{Holds}
use Rattle.cap_galg.specs.Elements.{Element, nothing, is_unit, bind, compose}
use Rattle.cap_galg.specs.Lists.{compose_all}
use Rattle.cap_galg.specs.Algebras.{PlainAlgebra, atom_element}
use Rattle.cap_galg.specs.Laws.Composition.{true_or_false, bind-is, unit-is, made_of_nothing, composed-not-unit, compose-nothing}
use Rattle.cap_galg.specs.Laws.Placing.{atom-some}
use Rattle.cap_gsolve.specs.declared.piece.Piece.{Piece}
use Rattle.cap_gsolve.specs.Merge.{merged, merge_rows}
use Rattle.cap_gsolve.specs.Meaning.{IsFormElement, IsPieceElement, region_of, IsElementAt, AreElementsAt, ComposeAt, Kinds, Fits}
use Rattle.cap_gsolve.proofs.Forms.{form-sound}
use Rattle.cap_gsolve.proofs.Held.{merged-composes, in-a-row}
use Rattle.cap_gsolve.proofs.Means.{merge-means}
use Rattle.cap_prog.specs.Program.{PlainProgram}
use Rattle.cap_machine_accounts.specs.Parts.{algebra_of, guard_of}
use Rattle.cap_account_resources.proofs.Monoid.{lift}
use Rattle.cap_account_resources.proofs.Marks.{is, Mark, free, of, meet, fitting, fit, joins-law}

-- ---- marks together

abbrev pub join_marks : PlainProgram → Option Mark → Option Mark → Option Mark
join_marks p a b = lift (meet p) a b

-- something joins with the first to the second
abbrev pub IsPartOf : PlainProgram → Option Mark → Option Mark → Type 0
IsPartOf p a b = (c : Option Mark) × (join_marks p a c ≡ b)

-- of an element of a type's guards; the unit is no guard
abbrev pub mark : ℕ → Element → Option Mark
mark k x = Some (guard_of k x)

pub mark-unit : (k : ℕ) (x : Element) → is_unit x ≡ true → mark k x ≡ Some free
mark-unit k x e = rw e refl

pub mark-of : (k : ℕ) (x : Element) → is_unit x ≡ false → mark k x ≡ Some (of k x)
mark-of k x e = rw e refl

pub first-some : (p : PlainProgram) (a b : Option Mark) → join_marks p a b ≢ None → a ≢ None
first-some p a b ne e = ne (ap (λ x. join_marks p x b) e)

pub free-right : (p : PlainProgram) (a : Option Mark) → join_marks p a (Some free) ≡ a
free-right p a = (joins-law p).comm a (Some free) ∙ (joins-law p).zero_left a

-- two guards that join are of one type, are elements, and compose
pub record Composed (p : PlainProgram) (k : ℕ) (x : Element) (j : ℕ) (y : Element) : Type 0 where
  pub same : k ≡ j
  pub first : is p k x ≡ true
  pub second : is p j y ≡ true
  pub element : Element
  pub composed : compose x y ≡ Some element
  pub joined : join_marks p (Some (of k x)) (Some (of j y)) ≡ Some (of k element)

pub composed :
    (p : PlainProgram) (k : ℕ) (x : Element) (j : ℕ) (y : Element) →
    join_marks p (Some (of k x)) (Some (of j y)) ≢ None → Composed p k x j y
composed p k x j y ne = by (fit p k x j y) refl (compose x y) refl
  where
    never : {A : Type 0} → meet p (of k x) (of j y) ≡ None → A
    never e = absurd (ne e)

    by :
        (b : Bool) → fit p k x j y ≡ b → (o : Option Element) → compose x y ≡ o → Composed p k x j y
    by true e None q = never (rw (e, q) refl)
    by true e (Some z) q =
        let f = fitting p k x j y e in
        record {
          same = f.same;
          first = f.first;
          second = f.second;
          element = z;
          composed = q;
          joined = rw (e, q) refl;
        }
    by false e o q = never (rw e refl)

-- ---- pieces that are nothing are so by any algebra

pub unit-form :
    (a : PlainAlgebra) (v : Valuation) (q : Piece) (y : Element) → IsFormElement v q.form y →
    nothing ≡ atom_element a q.atom y → is_unit y ≡ true
unit-form a v q y h e = elim (true_or_false (is_unit y)) [
  | inl t ↦ t
  | inr f ↦
      let s = atom-some a q.atom y (record { sound = form-sound v q.form y h; some = f }) in
      let u : is_unit nothing ≡ false = ap is_unit (e ∙ s.0) ∙ s.1.some in
      absurd (cc)
]

element-moved :
    (a b : PlainAlgebra) (k l : ℕ) (v : Valuation) (r : ℤ) (q : Piece) →
    IsElementAt a k v r q nothing → IsElementAt b l v r q nothing
element-moved a b k l v r q (inl h) =
    let u = unit-form a v q h.1.0 h.1.1 h.1.2 in
    inl (h.0, (h.1.0, h.1.1, rw u refl), inr refl)
element-moved a b k l v r q (inr h) = inr h

pub record Moved (b : PlainAlgebra) (l : ℕ) (v : Valuation) (r : ℤ) (ps : List Piece) : Type 0 where
  pub elements : List Element
  pub are : AreElementsAt b l v r ps elements
  pub unit : compose_all elements ≡ Some nothing

pub elements-moved :
    (a b : PlainAlgebra) (k l : ℕ) (v : Valuation) (r : ℤ) (ps : List Piece) (xs : List Element) →
    AreElementsAt a k v r ps xs → compose_all xs ≡ Some nothing → Moved b l v r ps
elements-moved a b k l v r [] [] h e = record { elements = []; are = tt; unit = refl }
elements-moved a b k l v r [] (x ∷ xs) h e = absurd h
elements-moved a b k l v r (q ∷ ps) [] h e = absurd h
elements-moved a b k l v r (q ∷ ps) (x ∷ xs) h e =
    let t = bind-is (compose_all xs) (λ y. compose x y) nothing e in
    let n = made_of_nothing x t.0 nothing t.2 refl in
    let m = elements-moved a b k l v r ps xs h.1 (t.1 ∙ ap Some n.1) in
    record {
      elements = nothing ∷ m.elements;
      are = (element-moved a b k l v r q (subst (IsElementAt a k v r q) n.0 h.0), m.are);
      unit = ap (λ o. bind o (λ y. compose nothing y)) m.unit;
    }

-- ---- what covers pieces

-- at this region the pieces compose to a part of what is held
pub record Covered (p : PlainProgram) (v : Valuation) (ps : List Piece) (n : ℤ)
    (m : Option Mark) : Type 0 where
  pub kind : ℕ
  pub element : Element
  pub is : ComposeAt (algebra_of p kind) kind v n ps element
  pub part : IsPartOf p (mark kind element) m

pub covered-none : (p : PlainProgram) (v : Valuation) (n : ℤ) (m : Option Mark) → Covered p v [] n m
covered-none p v n m = record {
  kind = 0;
  element = nothing;
  is = ([], tt, refl);
  part = (m, (joins-law p).zero_left m);
}

pub part-trans :
    (p : PlainProgram) (a b c : Option Mark) → IsPartOf p a b → IsPartOf p b c → IsPartOf p a c
part-trans p a b c h k = (
  join_marks p h.0 k.0,
  sym ((joins-law p).assoc a h.0 k.0) ∙ ap (λ x. join_marks p x k.0) h.1
      ∙ k.1,
)

pub covered-more :
    (p : PlainProgram) (v : Valuation) (ps : List Piece) (n : ℤ) (a b : Option Mark) →
    IsPartOf p a b → Covered p v ps n a → Covered p v ps n b
covered-more p v ps n a b h c = record {
  kind = c.kind;
  element = c.element;
  is = c.is;
  part = part-trans p (mark c.kind c.element) a b c.part h;
}

-- ---- one piece more

-- the piece is these guards at its region, and none elsewhere
pub record IsPieceMark (p : PlainProgram) (v : Valuation) (q : Piece) (y : Element) (n : ℤ)
    (b : Option Mark) : Type 0 where
  pub at : (region_of v q ≡ n) → b ≡ mark q.kind y
  pub away : (region_of v q ≢ n) → b ≡ Some free
  pub or_not : (region_of v q ≡ n) ⊎ (region_of v q ≢ n)

-- the pieces and the new one, each by itself and all together
pub record Together (p : PlainProgram) (v : Valuation) (ps : List Piece) (q : Piece) (n : ℤ)
    (m : Option Mark) : Type 0 where
  pub kind : ℕ
  pub firsts : List Element
  pub second : Element
  pub others : Element
  pub all : Element
  pub are : AreElementsAt (algebra_of p kind) kind v n ps firsts
  pub is_second : IsElementAt (algebra_of p kind) kind v n q second
  pub first_all : compose_all firsts ≡ Some others
  pub both : compose others second ≡ Some all
  pub part : IsPartOf p (mark kind all) m

-- a piece that is nothing here adds nothing
with-nothing :
    (p : PlainProgram) (v : Valuation) (ps : List Piece) (q : Piece) (n : ℤ) (a : Option Mark) →
    (c : Covered p v ps n a) → IsElementAt (algebra_of p c.kind) c.kind v n q nothing →
    Together p v ps q n a
with-nothing p v ps q n a c h = record {
  kind = c.kind;
  firsts = c.is.0;
  second = nothing;
  others = c.element;
  all = c.element;
  are = c.is.1;
  is_second = h;
  first_all = c.is.2;
  both = compose-nothing c.element;
  part = c.part;
}

pub together :
    (p : PlainProgram) (v : Valuation) (ps : List Piece) (q : Piece) (y : Element) (n : ℤ)
    (a b : Option Mark) → Covered p v ps n a → IsPieceElement
    (algebra_of p q.kind) v q y → IsPieceMark p v q y n b → join_marks p a b ≢ None →
    Together p v ps q n (join_marks p a b)
together p v ps q y n a b c h m ne = elim m.or_not [
  | inr away ↦
      let e : join_marks p a b ≡ a = ap (join_marks p a) (m.away away) ∙ free-right p a in
      subst (Together p v ps q n) (sym e) (with-nothing p v ps q n a c (inr (away, refl)))
  | inl here ↦ elim (true_or_false (is_unit y)) [
    | inl u ↦
        let e : join_marks p a b ≡ a = ap (join_marks p a) (m.at here ∙ mark-unit q.kind y u)
        ∙ free-right p a in
        let z : y ≡ nothing = unit-is y u in
        let own : IsElementAt (algebra_of p q.kind) q.kind v n q nothing = inl
        (here, subst (IsPieceElement (algebra_of p q.kind) v q) z h, inr refl) in
        subst (Together p v ps q n) (sym e)
        (with-nothing p v ps q n a c
        (element-moved (algebra_of p q.kind) (algebra_of p c.kind) q.kind c.kind v n q own))
    | inr f ↦ elim (true_or_false (is_unit c.element)) [
      | inl u ↦ first-nothing here f u
      | inr g ↦ both-some here f g
    ]
  ]
]
  where
    -- the others are nothing
    first-nothing :
        region_of v q ≡ n → is_unit y ≡ false → is_unit c.element ≡ true →
        Together p v ps q n (join_marks p a b)
    first-nothing here f u =
        let k = elements-moved (algebra_of p c.kind)
        (algebra_of p q.kind) c.kind q.kind v n ps c.is.0 c.is.1
        (c.is.2 ∙ ap Some (unit-is c.element u)) in
        record {
          kind = q.kind;
          firsts = k.elements;
          second = y;
          others = nothing;
          all = y;
          are = k.are;
          is_second = inl (here, h, inl refl);
          first_all = k.unit;
          both = refl;
          part = (a, (joins-law p).comm (mark q.kind y) a ∙ ap (join_marks p a) (sym (m.at here)));
        }

    both-some :
        region_of v q ≡ n → is_unit y ≡ false → is_unit c.element ≡ false →
        Together p v ps q n (join_marks p a b)
    both-some here f g =
        let x = c.element in
        let mx = Some (of c.kind x) in
        let my = Some (of q.kind y) in
        let ex : mark c.kind x ≡ mx = mark-of c.kind x g in
        let ey : b ≡ my = m.at here ∙ mark-of q.kind y f in
        let rest = c.part.0 in
        let ea : join_marks p mx rest ≡ a = ap (λ z. join_marks p z rest) (sym ex) ∙ c.part.1 in
        -- a with b is the two with the rest
        let sum : join_marks p a b ≡ join_marks p (join_marks p mx my) rest =
        ap (λ z. join_marks p z b) (sym ea)
        ∙ ap (join_marks p (join_marks p mx rest)) ey
        ∙ (joins-law p).assoc mx rest my
        ∙ ap (join_marks p mx) ((joins-law p).comm rest my)
        ∙ sym ((joins-law p).assoc mx my rest) in
        let both-ne : join_marks p mx my ≢ None = first-some p (join_marks p mx my) rest
        (λ e. ne (sum ∙ e)) in
        let w = composed p c.kind x q.kind y both-ne in
        let k = w.same in
        let h' : IsPieceElement (algebra_of p c.kind) v q y = subst
        (λ l. IsPieceElement (algebra_of p l) v q y) (sym k) h in
        let u : is_unit w.element ≡ false = composed-not-unit x y w.element g w.composed in
        record {
          kind = c.kind;
          firsts = c.is.0;
          second = y;
          others = x;
          all = w.element;
          are = c.is.1;
          is_second = inl (here, h', inl (sym k));
          first_all = c.is.2;
          both = w.composed;
          part = (
            rest,
            ap (λ z. join_marks p z rest) (mark-of c.kind w.element u ∙ sym w.joined)
                ∙ sym sum,
          );
        }

-- and so the merged pieces are covered
pub covered-merged :
    (p : PlainProgram) (v : Valuation) (ps : List Piece) (q : Piece) (n : ℤ)
    (m : Option Mark) → AllByRecursion (λ r. Fits (algebra_of p r.kind) r) ps → Fits
    (algebra_of p q.kind) q → Together p v ps q n m → Covered p v (merged ps q) n m
covered-merged p v ps q n m fits fit t = record {
  kind = t.kind;
  element = t.all;
  is =
      merged-composes (algebra_of p q.kind)
      (algebra_of p t.kind) t.kind v n ps q t.firsts t.second t.others t.all
      (fits-kind ps fits) fit t.are t.is_second t.first_all t.both;
  part = t.part;
}
  where
    fits-kind :
        (rs : List Piece) → AllByRecursion (λ r. Fits (algebra_of p r.kind) r) rs →
        AllByRecursion (λ r. r.kind ≡ q.kind → Fits (algebra_of p q.kind) r) rs
    fits-kind [] h = tt
    fits-kind (r ∷ rs) h = (λ e. subst (λ k. Fits (algebra_of p k) r) e h.0, fits-kind rs h.1)

-- the rows of merging hold, where all regions cover
pub merging-rows-hold :
    (p : PlainProgram) (v : Valuation) (ps : List Piece) (q : Piece)
    (total : ℤ → Option Mark) → AllByRecursion (λ r. Fits (algebra_of p r.kind) r) ps → Fits
    (algebra_of p q.kind) q → ((n : ℤ) → Together p v ps q n (total n)) → AllByRecursion
    (Holds v) (merge_rows (algebra_of p q.kind) ps q)
merging-rows-hold p v ps q total fits fit t =
    (merge-means (algebra_of p q.kind) ps q kinds (λ n. (t n).all) v refl (fits-kind ps fits) fit
    (λ n. ((t n).all, row n, (nothing, tt, compose-nothing (t n).all)))).1
  where
    kinds : Kinds
    kinds = record { algebra = algebra_of p; kind = λ n. (t n).kind }

    fits-kind :
        (rs : List Piece) → AllByRecursion (λ r. Fits (algebra_of p r.kind) r) rs →
        AllByRecursion (λ r. r.kind ≡ q.kind → Fits (algebra_of p q.kind) r) rs
    fits-kind [] h = tt
    fits-kind (r ∷ rs) h = (λ e. subst (λ k. Fits (algebra_of p k) r) e h.0, fits-kind rs h.1)

    row : (n : ℤ) → ComposeAt (algebra_of p (t n).kind) (t n).kind v n (ps ++ q ∷ []) (t n).all
    row n =
        let s = t n in
        in-a-row (algebra_of p s.kind) s.kind v n ps (q ∷ []) s.others s.second s.all
        (s.firsts, s.are, s.first_all)
        (s.second ∷ [], (s.is_second, tt), compose-nothing s.second) s.both
