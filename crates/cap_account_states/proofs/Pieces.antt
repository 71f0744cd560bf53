-- A guard is taken out of one of a state's pieces: what was held is what is taken and what covers
-- the pieces that stay.
use Rattle.std.proofs.Common.{◌≡◌, ◌≢◌, ◌⊎◌, inl, inr, ℕ, zero, suc, ◌+◌, ℤ, Bool, true, false, List, [], ◌∷◌, ◌++◌, map, take, drop, Option, Some, None, refl, sym, ap, ◌∙◌, subst, arith}
use Rattle.std.specs.Prelude.{slice_get, ◌==◌, if◌then◌else◌}
use Rattle.std.specs.List.{AllByRecursion}
use Rattle.std.proofs.lemmas.Bool.Decides.{nat_tests}
use Rattle.cap_lin.specs.Values.{Valuation}
use Rattle.cap_galg_indices.specs.Sets.{AreBounds, is_empty, indices_from, index_range}
use Rattle.cap_galg_indices.specs.Laws.Members.{range-ascends, from-ascends}
use Rattle.cap_galg.specs.Elements.{Element, nothing, indices, index_set, is_unit, bind, compose}
use Rattle.cap_galg.specs.Lists.{compose_all}
use Rattle.cap_galg.specs.Algebras.{PlainAlgebra, unique, divisible, counting, indexed, IsElement, atom_algebra, atom_element}
use Rattle.cap_galg.specs.Laws.Composition.{true_or_false, bind-is, unit-is, made_of_nothing, composed-not-unit, compose-nothing, IsSound, sound-composed}
use Rattle.cap_galg.specs.Laws.Algebras.{sound-of, closed}
use Rattle.cap_galg.specs.Laws.Atoms.{atom-is}
use Rattle.cap_galg.specs.Laws.Kin.{tokens-is}
use Rattle.cap_galg.specs.Laws.Lists.{all-sound, grouped, regrouped, exchanged, swapped}
use Rattle.cap_galg.specs.Laws.Placing.{atom-composed}
use Rattle.cap_gsolve.specs.declared.piece.Form.{Form}
use Rattle.cap_gsolve.specs.declared.piece.Form.TheVariants.{One, Share, Src, Tok, Span}
use Rattle.cap_gsolve.specs.declared.piece.Piece.{Piece}
use Rattle.cap_gsolve.specs.Meaning.{IsFormElement, region_of, IsElementAt, AreElementsAt, ComposeAt, Takes, Fits}
use Rattle.cap_gsolve.proofs.Forms.{form-sound}
use Rattle.cap_gsolve.proofs.CutSpans.{AreLeft, Cuts}
use Rattle.cap_gsolve.proofs.Held.{element-sound, elements-sound, in-a-row, IsOwn, at-own}
use Rattle.cap_prog.specs.Program.{PlainProgram}
use Rattle.cap_machine_accounts.specs.Parts.{algebra_of}
use Rattle.cap_rules.specs.Taking.{with_form}
use Rattle.cap_account_resources.proofs.Lists.{some-same, none-some, all-at, all-both}
use Rattle.cap_account_resources.proofs.Marks.{Mark, free, of, fit, wrap, is-by, joins-law}
use Rattle.cap_account_resources.proofs.Covering.{join_marks, IsPartOf, mark, mark-unit, mark-of, free-right, Covered, unit-form}

-- ---- a piece among the others

pub record SplitAt (a : PlainAlgebra) (k : ℕ) (v : Valuation) (n : ℤ) (ps : List Piece) (j : ℕ)
    (q : Piece) (u : Element) : Type 0 where
  pub own : Element
  pub before : Element
  pub after : Element
  pub others : Element
  pub is_own : IsElementAt a k v n q own
  pub befores : ComposeAt a k v n (take j ps) before
  pub afters : ComposeAt a k v n (drop (j + 1) ps) after
  pub joined : compose before after ≡ Some others
  pub whole : compose own others ≡ Some u

pub composed-sound :
    (a : PlainAlgebra) (k : ℕ) (v : Valuation) (n : ℤ) (ps : List Piece) (x : Element) →
    ComposeAt a k v n ps x → IsSound x
composed-sound a k v n ps x c = all-sound c.0 x (elements-sound a k v n ps c.0 c.1) c.2

pub split-at :
    (a : PlainAlgebra) (k : ℕ) (v : Valuation) (n : ℤ) (ps : List Piece) (j : ℕ) (q : Piece)
    (xs : List Element) (u : Element) → slice_get ps j ≡ Some q → AreElementsAt a k v n ps xs →
    compose_all xs ≡ Some u → SplitAt a k v n ps j q u
split-at a k v n [] j q xs u e h c = absurd (none-some e)
split-at a k v n (r ∷ ps) j q [] u e h c = absurd h
split-at a k v n (r ∷ ps) zero q (x ∷ xs) u e h c =
    let t = bind-is (compose_all xs) (λ y. compose x y) u c in
    record {
      own = x;
      before = nothing;
      after = t.0;
      others = t.0;
      is_own = subst (λ s. IsElementAt a k v n s x) (some-same r q e) h.0;
      befores = ([], tt, refl);
      afters = (xs, h.1, t.1);
      joined = refl;
      whole = t.2;
    }
split-at a k v n (r ∷ ps) (suc j) q (x ∷ xs) u e h c =
    let t = bind-is (compose_all xs) (λ y. compose x y) u c in
    let m = split-at a k v n ps j q xs t.0 e h.1 t.1 in
    let sx = element-sound a k v n r x h.0 in
    let so = element-sound a k v n q m.own m.is_own in
    let sb = composed-sound a k v n (take j ps) m.before m.befores in
    let sa = composed-sound a k v n (drop (j + 1) ps) m.after m.afters in
    let sw = sound-composed m.before m.after m.others sb sa m.joined in
    let s1 = grouped x m.own m.others t.0 u sx so sw m.whole t.2 in
    let s2 = exchanged x m.own m.others s1.middle u sx so sw s1.inner s1.outer in
    let s3 = grouped x m.before m.after m.others s2.middle sx sb sa m.joined s2.inner in
    let more : suc (j + 1) ≡ suc j + 1 = omega arith in
    record {
      own = m.own;
      before = s3.middle;
      after = m.after;
      others = s2.middle;
      is_own = m.is_own;
      befores = (
        x ∷ m.befores.0,
        (h.0, m.befores.1),
        ap (λ o. bind o (λ y. compose x y)) m.befores.2
            ∙ s3.inner,
      );
      afters = subst (λ i. ComposeAt a k v n (drop i (r ∷ ps)) m.after) more m.afters;
      joined = s3.outer;
      whole =
          swapped s2.middle m.own (Some u) (sound-composed x m.others s2.middle sx sw s2.inner) so
          s2.outer;
    }

-- other pieces in its place
pub put-at :
    (a : PlainAlgebra) (k : ℕ) (v : Valuation) (n : ℤ) (ps : List Piece) (j : ℕ) (q : Piece)
    (u : Element) (s : SplitAt a k v n ps j q u) (qs : List Piece) (z t : Element) →
    ComposeAt a k v n qs z → compose z s.others ≡ Some t →
    ComposeAt a k v n (take j ps ++ (qs ++ drop (j + 1) ps)) t
put-at a k v n ps j q u s qs z t c e =
    let sz = composed-sound a k v n qs z c in
    let sb = composed-sound a k v n (take j ps) s.before s.befores in
    let sa = composed-sound a k v n (drop (j + 1) ps) s.after s.afters in
    let g1 = grouped z s.before s.after s.others t sz sb sa s.joined e in
    let g2 = regrouped s.before z s.after g1.middle t sb sz sa
    (swapped z s.before (Some g1.middle) sz sb g1.inner) g1.outer in
    in-a-row a k v n (take j ps) (qs ++ drop (j + 1) ps) s.before g2.middle t s.befores
    (in-a-row a k v n qs (drop (j + 1) ps) z s.after g2.middle c s.afters g2.inner) g2.outer

-- ---- elements of a type's guards

pub indices-after : (i : ℕ) → IsElement indexed (indices (indices_from i))
indices-after i = (from-ascends i, refl)

set-element :
    (b : Bool) (xs : List ℕ) → is_empty xs ≡ b → AreBounds xs →
    IsElement indexed (if b then nothing else indices xs)
set-element true xs e h = tt
set-element false xs e h = (h, e)

range-element : (i j : ℕ) → IsElement indexed (index_set (index_range i j))
range-element i j =
    set-element (is_empty (index_range i j)) (index_range i j) refl (range-ascends i j)

pub form-element :
    (b : PlainAlgebra) (v : Valuation) (f : Form) (x : Element) → Takes b f → IsFormElement v f x →
    IsElement b x
form-element unique v One x t h = subst (IsElement unique) (sym h) tt
form-element divisible v (Share a) x t h = subst (IsElement divisible) (sym h.3) h.1
form-element counting v (Src a) x t h = subst (IsElement counting) (sym h.2) tt
form-element counting v (Tok a) x t h = subst (IsElement counting) (sym h.2) (tokens-is h.0)
form-element indexed v (Span a None) x t h = subst (IsElement indexed) (sym h.2) (indices-after h.0)
form-element indexed v (Span a (Some e)) x t h =
    subst (IsElement indexed) (sym h.5) (range-element h.0 h.1)
form-element b v f x t h = absurd t

abbrev pub AllFit : PlainProgram → List Piece → Type 0
AllFit p ps = AllByRecursion (λ r. Fits (algebra_of p r.kind) r) ps

pub element-of :
    (p : PlainProgram) (k : ℕ) (v : Valuation) (n : ℤ) (q : Piece) (x : Element) →
    Fits (algebra_of p q.kind) q → IsElementAt (algebra_of p k) k v n q x →
    IsElement (algebra_of p k) x
element-of p k v n q x f (inr h) = subst (IsElement (algebra_of p k)) (sym h.1) tt
element-of p k v n q x f (inl h) = elim h.2 [
  | inr e ↦ subst (IsElement (algebra_of p k)) (sym e) tt
  | inl e ↦
      let g : Fits (algebra_of p k) q = subst (λ l. Fits (algebra_of p l) q) e f in
      subst (IsElement (algebra_of p k)) (sym h.1.2)
      (atom-is (algebra_of p k) q.atom h.1.0 g.0
      (form-element (atom_algebra (algebra_of p k) q.atom) v q.form h.1.0 g.1 h.1.1))
]

pub elements-of :
    (p : PlainProgram) (k : ℕ) (v : Valuation) (n : ℤ) (ps : List Piece) (xs : List Element)
    (u : Element) → AllFit p ps → AreElementsAt (algebra_of p k) k v n ps xs →
    compose_all xs ≡ Some u → IsElement (algebra_of p k) u
elements-of p k v n [] [] u f h e = subst (IsElement (algebra_of p k)) (some-same nothing u e) tt
elements-of p k v n [] (x ∷ xs) u f h e = absurd h
elements-of p k v n (q ∷ ps) [] u f h e = absurd h
elements-of p k v n (q ∷ ps) (x ∷ xs) u f h e =
    let t = bind-is (compose_all xs) (λ y. compose x y) u e in
    closed (algebra_of p k) x t.0 u (element-of p k v n q x f.0 h.0)
    (elements-of p k v n ps xs t.0 f.1 h.1 t.1) t.2

pub all-take :
    {X : Type 0} (P : X → Type 0) (xs : List X) (j : ℕ) → AllByRecursion P xs →
    AllByRecursion P (take j xs)
all-take P [] zero h = tt
all-take P [] (suc j) h = tt
all-take P (x ∷ xs) zero h = tt
all-take P (x ∷ xs) (suc j) h = (h.0, all-take P xs j h.1)

pub all-drop :
    {X : Type 0} (P : X → Type 0) (xs : List X) (j : ℕ) → AllByRecursion P xs →
    AllByRecursion P (drop j xs)
all-drop P [] zero h = tt
all-drop P [] (suc j) h = tt
all-drop P (x ∷ xs) zero h = h
all-drop P (x ∷ xs) (suc j) h = all-drop P xs j h.1

-- elements of one type that compose, as marks
pub mark-joined :
    (p : PlainProgram) (k : ℕ) (x y z : Element) → IsElement (algebra_of p k) x →
    IsElement (algebra_of p k) y → compose x y ≡ Some z →
    join_marks p (mark k x) (mark k y) ≡ mark k z
mark-joined p k x y z h g e = elim (true_or_false (is_unit x)) [
  | inl t ↦
      let w : y ≡ z = some-same y z (ap (λ i. compose i y) (sym (unit-is x t)) ∙ e) in
      ap (λ i. join_marks p i (mark k y)) (mark-unit k x t) ∙ (joins-law p).zero_left (mark k y)
      ∙ ap (mark k) w
  | inr f ↦ elim (true_or_false (is_unit y)) [
    | inl t ↦
        let w : x ≡ z = some-same x z
        (sym (compose-nothing x) ∙ ap (compose x) (sym (unit-is y t)) ∙ e) in
        ap (join_marks p (mark k x)) (mark-unit k y t) ∙ free-right p (mark k x) ∙ ap (mark k) w
    | inr i ↦
        let a = is-by p k x h f in
        let b = is-by p k y g i in
        let c : (k == k) ≡ true = grind (arith, nat_tests) in
        let d : fit p k x k y ≡ true = rw (c, a, b) refl in
        ap (λ j. join_marks p j (mark k y)) (mark-of k x f)
        ∙ ap (join_marks p (Some (of k x))) (mark-of k y i)
        ∙ rw d (ap (wrap k) e)
        ∙ sym (mark-of k z (composed-not-unit x y z f e))
  ]
]

-- ---- taking

abbrev pub left_pieces : List Piece → ℕ → Piece → List Form → List Piece
left_pieces ps j q fs = take j ps ++ (map (with_form q) fs ++ drop (j + 1) ps)

-- what stays covers the pieces that stay, and with what is taken is what was held
pub record CutAt (p : PlainProgram) (v : Valuation) (left : List Piece) (n : ℤ)
    (taken m : Option Mark) : Type 0 where
  pub rest : Option Mark
  pub covered : Covered p v left n rest
  pub within : IsPartOf p (join_marks p taken rest) m

-- elsewhere nothing changes
all-nothing :
    (a : PlainAlgebra) (k : ℕ) (v : Valuation) (n : ℤ) (q : Piece) (fs : List Form) →
    region_of v q ≢ n → ComposeAt a k v n (map (with_form q) fs) nothing
all-nothing a k v n q [] ne = ([], tt, refl)
all-nothing a k v n q (f ∷ fs) ne =
    let r = all-nothing a k v n q fs ne in
    (nothing ∷ r.0, (inr (ne, refl), r.1), ap (λ o. bind o (λ y. compose nothing y)) r.2)

pub cut-away :
    (p : PlainProgram) (v : Valuation) (ps : List Piece) (j : ℕ) (q : Piece) (fs : List Form)
    (n : ℤ) (m : Option Mark) → slice_get ps j ≡ Some q → region_of v q ≢ n → Covered p v ps n m →
    CutAt p v (left_pieces ps j q fs) n (Some free) m
cut-away p v ps j q fs n m e ne c =
    let a = algebra_of p c.kind in
    let s = split-at a c.kind v n ps j q c.is.0 c.element e c.is.1 c.is.2 in
    let o : s.own ≡ nothing = away s.own s.is_own in
    let w : compose nothing s.others ≡ Some c.element = ap (λ x. compose x s.others) (sym o)
    ∙ s.whole in
    record {
      rest = m;
      covered = record {
        kind = c.kind;
        element = c.element;
        is =
            put-at a c.kind v n ps j q c.element s (map (with_form q) fs) nothing c.element
            (all-nothing a c.kind v n q fs ne) w;
        part = c.part;
      };
      within = (Some free, free-right p (join_marks p (Some free) m) ∙ (joins-law p).zero_left m);
    }
  where
    away : (x : Element) → IsElementAt (algebra_of p c.kind) c.kind v n q x → x ≡ nothing
    away x (inl h) = absurd (ne h.0)
    away x (inr h) = h.1

-- the form's element at the piece's own region, and what taking makes of it
pub record CutHere (p : PlainProgram) (v : Valuation) (ps : List Piece) (j : ℕ) (q : Piece) (n : ℤ)
    (m : Option Mark) : Type 0 where
  pub own : Element
  pub is_own : IsFormElement v q.form own
  pub cut :
      (y : Element) (fs : List Form) → IsElement (atom_algebra (algebra_of p q.kind) q.atom) y →
      AllFit p (map (with_form q) fs) → Cuts v own y fs →
      CutAt p v (left_pieces ps j q fs) n
      (mark q.kind (atom_element (algebra_of p q.kind) q.atom y)) m

left-sound : (v : Valuation) (fs : List Form) (z : Element) → AreLeft v fs z → IsSound z
left-sound v [] z h = subst IsSound (sym h) tt
left-sound v (f ∷ fs) z h =
    sound-composed h.0 h.1 z (form-sound v f h.0 h.2) (left-sound v fs h.1 h.3) h.4

left-at :
    (a : PlainAlgebra) (k : ℕ) (v : Valuation) (n : ℤ) (q : Piece) (fs : List Form) (z : Element) →
    region_of v q ≡ n → ((q.kind ≡ k) ⊎ (z ≡ nothing)) → AreLeft v fs z →
    ComposeAt a k v n (map (with_form q) fs) (atom_element a q.atom z)
left-at a k v n q [] z e o h = ([], tt, ap (λ x. Some (atom_element a q.atom x)) (sym h))
left-at a k v n q (f ∷ fs) z e o h =
    let x = h.0 in
    let y = h.1 in
    let m = left-at a k v n q fs y e (second o) h.3 in (
      atom_element a q.atom x ∷ m.0,
      (inl (e, (x, h.2, refl), first o), m.1),
      ap (λ r. bind r (λ w. compose (atom_element a q.atom x) w)) m.2
          ∙ atom-composed a q.atom x y (form-sound v f x h.2) (left-sound v fs y h.3)
          ∙ ap (λ r. bind r (λ w. Some (atom_element a q.atom w))) h.4,
    )
  where
    first : (q.kind ≡ k) ⊎ (z ≡ nothing) → (q.kind ≡ k) ⊎ (atom_element a q.atom h.0 ≡ nothing)
    first (inl i) = inl i
    first (inr i) =
        inr (ap (atom_element a q.atom) (made_of_nothing h.0 h.1 z h.4 (ap is_unit i)).0)

    second : (q.kind ≡ k) ⊎ (z ≡ nothing) → (q.kind ≡ k) ⊎ (h.1 ≡ nothing)
    second (inl i) = inl i
    second (inr i) = inr (made_of_nothing h.0 h.1 z h.4 (ap is_unit i)).1

pub cut-here :
    (p : PlainProgram) (v : Valuation) (ps : List Piece) (j : ℕ) (q : Piece) (n : ℤ)
    (m : Option Mark) → AllFit p ps → slice_get ps j ≡ Some q → region_of v q ≡ n →
    Covered p v ps n m → CutHere p v ps j q n m
cut-here p v ps j q n m fits e here c = record {
  own = o.own;
  is_own = o.form;
  cut = λ y fs h ff cuts. by y fs h ff cuts o.kind;
}
  where
    k : ℕ
    k = c.kind

    a : PlainAlgebra
    a = algebra_of p c.kind

    s : SplitAt a k v n ps j q c.element
    s = split-at a k v n ps j q c.is.0 c.element e c.is.1 c.is.2

    o : IsOwn a k v q s.own
    o = at-own a k v n q s.own here s.is_own

    by :
        (y : Element) (fs : List Form) → IsElement (atom_algebra (algebra_of p q.kind) q.atom) y →
        AllFit p (map (with_form q) fs) → Cuts v o.own y fs → (q.kind ≡ k) ⊎ (s.own ≡ nothing) →
        CutAt p v (left_pieces ps j q fs) n
        (mark q.kind (atom_element (algebra_of p q.kind) q.atom y)) m
    by y fs h ff cuts (inl same) =
        let hy : IsElement (atom_algebra a q.atom) y = subst
        (λ l. IsElement (atom_algebra (algebra_of p l) q.atom) y) same h in
        let g : Fits a q = subst (λ l. Fits (algebra_of p l) q) same
        (all-at (λ r. Fits (algebra_of p r.kind) r) ps j q fits e) in
        let z = cuts.rest in
        let y' = atom_element a q.atom y in
        let z' = atom_element a q.atom z in
        let sy = sound-of (atom_algebra a q.atom) y hy in
        let sz = left-sound v fs z cuts.are_left in
        let iy = atom-is a q.atom y g.0 hy in
        let join-own : compose y' z' ≡ Some s.own =
        atom-composed a q.atom y z sy sz
        ∙ ap (λ w. bind w (λ x. Some (atom_element a q.atom x))) cuts.composed
        ∙ ap Some (sym o.is) in
        let cz = left-at a k v n q fs z here (inl same) cuts.are_left in
        let sb = composed-sound a k v n (take j ps) s.before s.befores in
        let sa = composed-sound a k v n (drop (j + 1) ps) s.after s.afters in
        let so = sound-composed s.before s.after s.others sb sa s.joined in
        let r = regrouped y' z' s.others s.own c.element (sound-of a y' iy)
        (composed-sound a k v n (map (with_form q) fs) z' cz) so join-own s.whole in
        let put = put-at a k v n ps j q c.element s (map (with_form q) fs) z' r.middle cz r.inner in
        let P : Piece → Type 0 = λ r. Fits (algebra_of p r.kind) r in
        let left-fit : AllFit p (left_pieces ps j q fs) = all-both P (take j ps)
        (map (with_form q) fs ++ drop (j + 1) ps) (all-take P ps j fits)
        (all-both P (map (with_form q) fs) (drop (j + 1) ps) ff
        (all-drop P ps (j + 1) fits)) in
        let ir = elements-of p k v n (left_pieces ps j q fs) put.0 r.middle left-fit put.1 put.2 in
        let sum : join_marks p (mark k y')
        (mark k r.middle) ≡ mark k c.element =
        mark-joined p k y' r.middle c.element iy ir r.outer in
        let taken : mark q.kind (atom_element (algebra_of p q.kind) q.atom y) ≡ mark k y' = ap
        (λ l. mark l (atom_element (algebra_of p l) q.atom y)) same in
        record {
          rest = mark k r.middle;
          covered = record {
            kind = k;
            element = r.middle;
            is = put;
            part = (Some free, free-right p (mark k r.middle));
          };
          within =
              subst (λ x. IsPartOf p x m)
              (sym (ap (λ x. join_marks p x (mark k r.middle)) taken ∙ sum)) c.part;
        }
    by y fs h ff cuts (inr none) =
        let z = cuts.rest in
        let u = unit-form a v q o.own o.form (sym none ∙ o.is) in
        let own : o.own ≡ nothing = unit-is o.own u in
        let parts = made_of_nothing y z o.own cuts.composed u in
        let cz = left-at a k v n q fs z here (inr parts.1) cuts.are_left in
        let z' : atom_element a q.atom z ≡ nothing = ap (atom_element a q.atom) parts.1 in
        let w : compose (atom_element a q.atom z) s.others ≡ Some c.element = ap
        (λ x. compose x s.others) (z' ∙ sym none) ∙ s.whole in
        let put = put-at a k v n ps j q c.element s (map (with_form q) fs)
        (atom_element a q.atom z) c.element cz w in
        let taken : mark q.kind (atom_element (algebra_of p q.kind) q.atom y) ≡ Some free = ap
        (λ x. mark q.kind (atom_element (algebra_of p q.kind) q.atom x)) parts.0 in
        record {
          rest = m;
          covered = record { kind = k; element = c.element; is = put; part = c.part };
          within = (
            Some free,
            free-right p
                (join_marks p (mark q.kind (atom_element (algebra_of p q.kind) q.atom y)) m) ∙ ap
                (λ x. join_marks p x m) taken ∙ (joins-law p).zero_left m,
          );
        }
