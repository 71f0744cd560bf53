-- Pieces whose elements compose at a region: a new one with the piece of its part, and with those on other sides.
use Rattle.std.proofs.Common.{◌≡◌, ℕ, suc, ◌+◌, ◌<◌, ◌≤◌, arith, ℤ, refl, sym, ap, ◌∙◌, subst, List, [], ◌∷◌, ◌++◌, length, ◌⊎◌, inl, inr, Bool, true, false, Option, Some, None}
use Rattle.std.specs.Prelude.{◌==◌, ◌||◌, nat_lt, cond, not, option_map, position, if◌then◌else◌}
use Rattle.std.specs.List.{AllByRecursion, list_any, position_or_len}
use Rattle.std.proofs.lemmas.Bool.{cases_lt}
use Rattle.cap_lin.specs.Values.{Valuation, value}
use Rattle.cap_galg.specs.Elements.{Element, nothing, is_unit, bind, compose}
use Rattle.cap_galg.specs.Lists.{compose_all}
use Rattle.cap_galg.specs.Algebras.{PlainAlgebra, are_apart, atom_algebra, at_atom, atom_element}
use Rattle.cap_galg.specs.Laws.Composition.{true_or_false, true-eq, and-true, bind-is, some-same, IsSound, not-unit, compose-nothing}
use Rattle.cap_galg.specs.Laws.Atoms.{lt-true, lt-false}
use Rattle.cap_galg.specs.Laws.Placing.{atom-sound, atom-some, atom-composed, apart-never}
use Rattle.cap_galg.specs.Laws.Lists.{HasPart, part-meets, part-later, swapped, exchanged, regrouped, all-sound, appended}
use Rattle.cap_gsolve.specs.declared.piece.Form.{Form}
use Rattle.cap_gsolve.specs.declared.piece.Piece.{Piece}
use Rattle.cap_gsolve.specs.Pieces.{of_guards, same_part, is_joined, joins, is_surely_some}
use Rattle.cap_gsolve.specs.Merge.{combined, form_at, there, place, merged, merged_at, beside, clashes_at, clashes}
use Rattle.cap_gsolve.specs.Meaning.{IsFormElement, region_of, IsElementAt, AreElementsAt, ComposeAt, Takes, Fits}
use Rattle.cap_lin.specs.Laws.Sameness.{same_term-decides}
use Rattle.cap_gsolve.proofs.Forms.{Meet, combine, form-sound, surely-some}

-- ---- the place of a part

first-place : (k n : ℕ) → k ≡ 0 → cond (nat_lt k (suc n)) (Some k) None ≡ Some 0
first-place k n e = rw (e, lt-true 0 (suc n) (let l : 0 < suc n = omega arith in l)) refl

later-place : (k m n : ℕ) → k ≡ suc m → cond (nat_lt k (suc n)) (Some k) None ≡ option_map suc (cond (nat_lt m n) (Some m) None)
later-place k m n e = elim (cases_lt m n) [
  | inl l ↦ rw (e, lt-true m n l, lt-true (suc m) (suc n) (let h : suc m < suc n = omega arith in h)) refl
  | inr l ↦ rw (e, lt-false m n l, lt-false (suc m) (suc n) (let h : suc n ≤ suc m = omega arith in h)) refl
]

place-same : {A : Type 0} (test : A → Bool) (q : A) (qs : List A) → test q ≡ true → position test (q ∷ qs) ≡ Some 0
place-same test q qs e = first-place (position_or_len test (q ∷ qs)) (length qs) (ap (λ b. cond (not b) (1 + position_or_len test qs) 0) e)

place-other : {A : Type 0} (test : A → Bool) (q : A) (qs : List A) → test q ≡ false → position test (q ∷ qs) ≡ option_map suc (position test qs)
place-other test q qs e =
    let s : 1 + position_or_len test qs ≡ suc (position_or_len test qs) = omega arith in
    later-place (position_or_len test (q ∷ qs)) (position_or_len test qs) (length qs) (ap (λ b. cond (not b) (1 + position_or_len test qs) 0) e ∙ s)

-- the new piece in the place of one of its part
abbrev pub as_one : Piece → Piece → Piece
as_one q p = record p { form = combined q.form p.form }

merged-by : (q : Piece) (qs : List Piece) (p : Piece) (o : Option ℕ) → merged_at (q ∷ qs) p (option_map suc o) ≡ q ∷ merged_at qs p o
merged-by q qs p None = refl
merged-by q qs p (Some i) = refl

pub merged-same : (q : Piece) (qs : List Piece) (p : Piece) → joins q p ≡ true → merged (q ∷ qs) p ≡ as_one q p ∷ qs
merged-same q qs p e = ap (merged_at (q ∷ qs) p) (place-same (λ t. joins t p) q qs e)

pub merged-other : (q : Piece) (qs : List Piece) (p : Piece) → joins q p ≡ false → merged (q ∷ qs) p ≡ q ∷ merged qs p
merged-other q qs p e = ap (merged_at (q ∷ qs) p) (place-other (λ t. joins t p) q qs e) ∙ merged-by q qs p (place qs p)

there-by : (q : Piece) (qs : List Piece) (p : Piece) (o : Option ℕ) → option_map (form_at (q ∷ qs) p) (option_map suc o) ≡ option_map (form_at qs p) o
there-by q qs p None = refl
there-by q qs p (Some i) = refl

pub there-same : (q : Piece) (qs : List Piece) (p : Piece) → joins q p ≡ true → there (q ∷ qs) p ≡ Some q.form
there-same q qs p e = ap (option_map (form_at (q ∷ qs) p)) (place-same (λ t. joins t p) q qs e)

pub there-other : (q : Piece) (qs : List Piece) (p : Piece) → joins q p ≡ false → there (q ∷ qs) p ≡ there qs p
there-other q qs p e = ap (option_map (form_at (q ∷ qs) p)) (place-other (λ t. joins t p) q qs e) ∙ there-by q qs p (place qs p)

-- ---- two pieces

pub record IsPart (q p : Piece) : Type 0 where
  pub region : q.region ≡ p.region
  pub kind : q.kind ≡ p.kind
  pub atom : q.atom ≡ p.atom

pub part-is : (q p : Piece) → same_part q p ≡ true → IsPart q p
part-is q p e =
    let s = and-true (of_guards p.region p.kind q) (q.atom == p.atom) e in
    let t = and-true _ (q.kind == p.kind) s.0 in
    record { region = (same_term-decides q.region p.region).0 t.0; kind = true-eq q.kind p.kind t.1; atom = true-eq q.atom p.atom s.1 }

pub joined-part : (q p : Piece) → joins q p ≡ true → same_part q p ≡ true
joined-part q p e = (and-true (same_part q p) (is_joined p.form) e).0

pub joined-form : (q p : Piece) → joins q p ≡ true → is_joined p.form ≡ true
joined-form q p e = (and-true (same_part q p) (is_joined p.form) e).1

pub element-sound : (a : PlainAlgebra) (k : ℕ) (v : Valuation) (r : ℤ) (p : Piece) (x : Element) → IsElementAt a k v r p x → IsSound x
element-sound a k v r p x (inl h) = subst IsSound (sym h.1.2) (atom-sound a p.atom h.1.0 (form-sound v p.form h.1.0 h.1.1))
element-sound a k v r p x (inr h) = subst IsSound (sym h.1) tt

pub elements-sound : (a : PlainAlgebra) (k : ℕ) (v : Valuation) (r : ℤ) (ps : List Piece) (xs : List Element) → AreElementsAt a k v r ps xs → AllByRecursion IsSound xs
elements-sound a k v r [] [] h = tt
elements-sound a k v r (p ∷ ps) (x ∷ xs) h = (element-sound a k v r p x h.0, elements-sound a k v r ps xs h.1)
elements-sound a k v r [] (x ∷ xs) h = absurd h
elements-sound a k v r (p ∷ ps) [] h = absurd h

-- two lists of pieces in a row compose to what these compose to
elements-append : (a : PlainAlgebra) (k : ℕ) (v : Valuation) (r : ℤ) (ps qs : List Piece) (xs ys : List Element) → AreElementsAt a k v r ps xs → AreElementsAt a k v r qs ys → AreElementsAt a k v r (ps ++ qs) (xs ++ ys)
elements-append a k v r [] qs [] ys h j = j
elements-append a k v r [] qs (x ∷ xs) ys h j = absurd h
elements-append a k v r (p ∷ ps) qs [] ys h j = absurd h
elements-append a k v r (p ∷ ps) qs (x ∷ xs) ys h j = (h.0, elements-append a k v r ps qs xs ys h.1 j)

pub in-a-row : (a : PlainAlgebra) (k : ℕ) (v : Valuation) (r : ℤ) (ps qs : List Piece) (x y z : Element) → ComposeAt a k v r ps x → ComposeAt a k v r qs y → compose x y ≡ Some z → ComposeAt a k v r (ps ++ qs) z
in-a-row a k v r ps qs x y z c d e =
    (c.0 ++ d.0, elements-append a k v r ps qs c.0 d.0 c.1 d.1, appended c.0 d.0 x y z (elements-sound a k v r ps c.0 c.1) (elements-sound a k v r qs d.0 d.1) c.2 d.2 e)

-- what a piece is at its own region
pub record IsOwn (a : PlainAlgebra) (k : ℕ) (v : Valuation) (p : Piece) (x : Element) : Type 0 where
  pub own : Element
  pub form : IsFormElement v p.form own
  pub is : x ≡ atom_element a p.atom own
  pub kind : (p.kind ≡ k) ⊎ (x ≡ nothing)

pub at-own : (a : PlainAlgebra) (k : ℕ) (v : Valuation) (r : ℤ) (p : Piece) (x : Element) → region_of v p ≡ r → IsElementAt a k v r p x → IsOwn a k v p x
at-own a k v r p x e (inl h) = record { own = h.1.0; form = h.1.1; is = h.1.2; kind = h.2 }
at-own a k v r p x e (inr h) = absurd (h.0 e)

-- the forms of two pieces of one part meet where their elements compose
pub record Joined (a : PlainAlgebra) (v : Valuation) (q p : Piece) (s : Element) : Type 0 where
  pub inner : Element
  pub meet : Meet v q.form p.form inner
  pub is : s ≡ atom_element a p.atom inner

pub joins-in : (a : PlainAlgebra) (k : ℕ) (v : Valuation) (q p : Piece) (x y s : Element) → IsPart q p → IsOwn a k v q x → IsOwn a k v p y → compose x y ≡ Some s → Joined a v q p s
joins-in a k v q p x y s e h j w =
    let x' : x ≡ atom_element a p.atom h.own = h.is ∙ ap (λ i. atom_element a i h.own) e.atom in
    let c = sym (atom-composed a p.atom h.own j.own (form-sound v q.form h.own h.form) (form-sound v p.form j.own j.form)) ∙ ap (λ z. compose z (atom_element a p.atom j.own)) (sym x') ∙ ap (compose x) (sym j.is) ∙ w in
    let r = bind-is (compose h.own j.own) (λ z. Some (atom_element a p.atom z)) s c in
    record { inner = r.0; meet = record { first = h.own; second = j.own; is_first = h.form; is_second = j.form; whole = r.1 }; is = sym (some-same _ _ r.2) }

nothing-joined : (x y s : Element) → x ≡ nothing → y ≡ nothing → compose x y ≡ Some s → s ≡ nothing
nothing-joined x y s e f w = some-same _ _ (sym w ∙ ap (λ z. compose z y) e ∙ ap (λ z. Some z) f)

kind-joined : (k : ℕ) (q p : Piece) (x y s : Element) → q.kind ≡ p.kind → (q.kind ≡ k) ⊎ (x ≡ nothing) → (p.kind ≡ k) ⊎ (y ≡ nothing) → compose x y ≡ Some s → (p.kind ≡ k) ⊎ (s ≡ nothing)
kind-joined k q p x y s e (inl f) j w = inl (sym e ∙ f)
kind-joined k q p x y s e (inr f) (inl g) w = inl g
kind-joined k q p x y s e (inr f) (inr g) w = inr (nothing-joined x y s f g w)

-- what two pieces of one part compose to is the element of the joined piece
pub joined-element : (b a : PlainAlgebra) (k : ℕ) (v : Valuation) (r : ℤ) (q p : Piece) (x y s : Element) → is_joined p.form ≡ true → IsPart q p → Fits b q → Fits b p
    → IsElementAt a k v r q x → IsElementAt a k v r p y → compose x y ≡ Some s → IsElementAt a k v r (as_one q p) s
joined-element b a k v r q p x y s jf e f g (inl h) (inl j) w =
    let m = joins-in a k v q p x y s e (at-own a k v r q x h.0 (inl h)) (at-own a k v r p y j.0 (inl j)) w in
    let t : Takes (atom_algebra b p.atom) q.form = subst (λ i. Takes (atom_algebra b i) q.form) e.atom f.1 in
    let c = combine (atom_algebra b p.atom) v q.form p.form m.inner jf t g.1 m.meet in
    inl (j.0, (m.inner, c.element, m.is), kind-joined k q p x y s e.kind h.2 j.2 w)
joined-element b a k v r q p x y s jf e f g (inr h) (inr j) w = inr (j.0, nothing-joined x y s h.1 j.1 w)
joined-element b a k v r q p x y s jf e f g (inl h) (inr j) w = absurd (j.0 (ap (λ t. value v.whole t) (sym e.region) ∙ h.0))
joined-element b a k v r q p x y s jf e f g (inr h) (inl j) w = absurd (h.0 (ap (λ t. value v.whole t) e.region ∙ j.0))

-- ---- the pieces that are held, and a new one

-- the merged pieces compose to what the pieces and the new one do
pub merged-composes : (b a : PlainAlgebra) (k : ℕ) (v : Valuation) (r : ℤ) (ps : List Piece) (p : Piece) (xs : List Element) (y u w : Element)
    → AllByRecursion (λ q. q.kind ≡ p.kind → Fits b q) ps → Fits b p
    → AreElementsAt a k v r ps xs → IsElementAt a k v r p y → compose_all xs ≡ Some u → compose u y ≡ Some w
    → ComposeAt a k v r (merged ps p) w
merged-composes b a k v r [] p [] y u w f g h j e c =
    let s : y ≡ w = some-same _ _ (ap (λ z. compose z y) (some-same _ _ e) ∙ c) in
    (y ∷ [], (j, tt), compose-nothing y ∙ ap (λ z. Some z) s)
merged-composes b a k v r [] p (x ∷ xs) y u w f g h j e c = absurd h
merged-composes b a k v r (q ∷ ps) p [] y u w f g h j e c = absurd h
merged-composes b a k v r (q ∷ ps) p (x ∷ xs) y u w f g h j e c =
    let t = bind-is (compose_all xs) (λ z. compose x z) u e in
    let sx = element-sound a k v r q x h.0 in
    let sy = element-sound a k v r p y j in
    let st = all-sound xs t.0 (elements-sound a k v r ps xs h.1) t.1 in
    elim (true_or_false (joins q p)) [
      | inl same ↦
          let i = part-is q p (joined-part q p same) in
          let m = exchanged x t.0 y u w sx st sy t.2 c in
          let d = joined-element b a k v r q p x y m.middle (joined-form q p same) i (f.0 i.kind) g h.0 j m.inner in
          rw (merged-same q ps p same) (m.middle ∷ xs, (d, h.1), ap (λ o. bind o (λ z. compose m.middle z)) t.1 ∙ m.outer)
      | inr other ↦
          let m = regrouped x t.0 y u w sx st sy t.2 c in
          let d = merged-composes b a k v r ps p xs y t.0 m.middle f.1 g h.1 j t.1 m.inner in
          rw (merged-other q ps p other) (x ∷ d.0, (h.0, d.1), ap (λ o. bind o (λ z. compose x z)) d.2 ∙ m.outer)
    ]

-- a piece among others, and its element as a part of what they compose to
pub record Among (a : PlainAlgebra) (k : ℕ) (v : Valuation) (r : ℤ) (P : Piece → Type 0) (u : Element) : Type 0 where
  pub piece : Piece
  pub element : Element
  pub such : P piece
  pub is : IsElementAt a k v r piece element
  pub part : HasPart element u

here : (a : PlainAlgebra) (k : ℕ) (v : Valuation) (r : ℤ) (P : Piece → Type 0) (q : Piece) (x t u : Element) → P q → IsElementAt a k v r q x → IsSound t → compose x t ≡ Some u → Among a k v r P u
here a k v r P q x t u p h s e = record { piece = q; element = x; such = p; is = h; part = record { rest = t; sound = s; whole = e } }

later : (a : PlainAlgebra) (k : ℕ) (v : Valuation) (r : ℤ) (P : Piece → Type 0) (x t u : Element) → IsSound x → compose x t ≡ Some u → Among a k v r P t → Among a k v r P u
later a k v r P x t u s e m = record { piece = m.piece; element = m.element; such = m.such; is = m.is; part = part-later m.element t x u (element-sound a k v r m.piece m.element m.is) s m.part e }

-- the piece of a part is among the pieces

pub finds-there : (a : PlainAlgebra) (k : ℕ) (v : Valuation) (r : ℤ) (ps : List Piece) (p : Piece) (f : Form) (xs : List Element) (u : Element) → there ps p ≡ Some f → AreElementsAt a k v r ps xs → compose_all xs ≡ Some u → Among a k v r (λ q. IsPart q p × (q.form ≡ f)) u
finds-there a k v r [] p f [] u e h c = cc
finds-there a k v r [] p f (x ∷ xs) u e h c = absurd h
finds-there a k v r (q ∷ ps) p f [] u e h c = absurd h
finds-there a k v r (q ∷ ps) p f (x ∷ xs) u e h c =
    let t = bind-is (compose_all xs) (λ z. compose x z) u c in
    let st = all-sound xs t.0 (elements-sound a k v r ps xs h.1) t.1 in
    elim (true_or_false (joins q p)) [
      | inl same ↦ here a k v r (λ q. IsPart q p × (q.form ≡ f)) q x t.0 u (part-is q p (joined-part q p same), some-same _ _ (sym (there-same q ps p same) ∙ e)) h.0 st t.2
      | inr other ↦ later a k v r (λ q. IsPart q p × (q.form ≡ f)) x t.0 u (element-sound a k v r q x h.0) t.2 (finds-there a k v r ps p f xs t.0 (sym (there-other q ps p other) ∙ e) h.1 t.1)
    ]

pub finds-some : (a : PlainAlgebra) (k : ℕ) (v : Valuation) (r : ℤ) (test : Piece → Bool) (ps : List Piece) (xs : List Element) (u : Element) → list_any test ps ≡ true → AreElementsAt a k v r ps xs → compose_all xs ≡ Some u → Among a k v r (λ q. test q ≡ true) u
finds-some a k v r test [] [] u e h c = cc
finds-some a k v r test [] (x ∷ xs) u e h c = absurd h
finds-some a k v r test (q ∷ ps) [] u e h c = absurd h
finds-some a k v r test (q ∷ ps) (x ∷ xs) u e h c =
    let t = bind-is (compose_all xs) (λ z. compose x z) u c in
    let st = all-sound xs t.0 (elements-sound a k v r ps xs h.1) t.1 in
    elim (true_or_false (test q)) [
      | inl passed ↦ here a k v r (λ q. test q ≡ true) q x t.0 u passed h.0 st t.2
      | inr failed ↦ later a k v r (λ q. test q ≡ true) x t.0 u (element-sound a k v r q x h.0) t.2 (finds-some a k v r test ps xs t.0 (ap (λ b. b || list_any test ps) (sym failed) ∙ e) h.1 t.1)
    ]

-- the form of a new piece meets the one that is there
pub meets-there : (a : PlainAlgebra) (k : ℕ) (v : Valuation) (ps : List Piece) (p : Piece) (f : Form) (xs : List Element) (y u w : Element)
    → there ps p ≡ Some f → AreElementsAt a k v (region_of v p) ps xs → IsElementAt a k v (region_of v p) p y → compose_all xs ≡ Some u → compose u y ≡ Some w
    → (s : Element) × Meet v f p.form s
meets-there a k v ps p f xs y u w e h j c d =
    let m = finds-there a k v (region_of v p) ps p f xs u e h c in
    let s = part-meets m.element u y w (element-sound a k v _ m.piece m.element m.is) (element-sound a k v _ p y j) m.part d in
    let i = joins-in a k v m.piece p m.element y s.0 m.such.0 (at-own a k v _ m.piece m.element (ap (λ t. value v.whole t) m.such.0.region) m.is) (at-own a k v _ p y refl j) s.1 in
    (i.inner, subst (λ g. Meet v g p.form i.inner) m.such.1 i.meet)

-- the form of a new piece meets that of each of its part
pub meets-one : (a : PlainAlgebra) (k : ℕ) (v : Valuation) (q p : Piece) (x y u w : Element) → same_part q p ≡ true → IsElementAt a k v (region_of v p) q x → IsElementAt a k v (region_of v p) p y → HasPart x u → compose u y ≡ Some w
    → (s : Element) × Meet v q.form p.form s
meets-one a k v q p x y u w e h j c d =
    let n = part-is q p e in
    let s = part-meets x u y w (element-sound a k v _ q x h) (element-sound a k v _ p y j) c d in
    let i = joins-in a k v q p x y s.0 n (at-own a k v _ q x (ap (λ t. value v.whole t) n.region) h) (at-own a k v _ p y refl j) s.1 in
    (i.inner, i.meet)

pub beside-holds : {A : Type 0} (P : A → Type 0) (of : Form → Form → List A) (a : PlainAlgebra) (k : ℕ) (v : Valuation) (ps : List Piece) (p : Piece) (xs : List Element) (y u w : Element)
    → ((f : Form) (s : Element) → Meet v f p.form s → AllByRecursion P (of f p.form))
    → AreElementsAt a k v (region_of v p) ps xs → IsElementAt a k v (region_of v p) p y → compose_all xs ≡ Some u → compose u y ≡ Some w
    → AllByRecursion P (beside of ps p)
beside-holds {A = A} P of a k v [] p [] y u w f h j c d = tt
beside-holds {A = A} P of a k v [] p (x ∷ xs) y u w f h j c d = absurd h
beside-holds {A = A} P of a k v (q ∷ ps) p [] y u w f h j c d = absurd h
beside-holds {A = A} P of a k v (q ∷ ps) p (x ∷ xs) y u w f h j c d =
    let t = bind-is (compose_all xs) (λ z. compose x z) u c in
    let sx = element-sound a k v _ q x h.0 in
    let sy = element-sound a k v _ p y j in
    let st = all-sound xs t.0 (elements-sound a k v _ ps xs h.1) t.1 in
    let tail : HasPart t.0 u = record { rest = x; sound = sx; whole = swapped x t.0 (Some u) sx st t.2 } in
    let m = part-meets t.0 u y w st sy tail d in
    both-lists (same_part q p) refl (beside-holds {A = A} P of a k v ps p xs y t.0 m.0 f h.1 j t.1 m.1)
    (λ e. let i = meets-one a k v q p x y u w e h.0 j (record { rest = t.0; sound = st; whole = t.2 }) d in f q.form i.0 i.1)
  where
    put : (xs ys : List A) → AllByRecursion P xs → AllByRecursion P ys → AllByRecursion P (xs ++ ys)
    put [] ys h k = k
    put (x ∷ xs) ys h k = (h.0, put xs ys h.1 k)

    both-lists : (b : Bool) → same_part q p ≡ b → AllByRecursion P (beside of ps p) → (same_part q p ≡ true → AllByRecursion P (of q.form p.form)) → AllByRecursion P ((if b then of q.form p.form else []) ++ beside of ps p)
    both-lists true e r g = put (of q.form p.form) (beside of ps p) (g e) r
    both-lists false e r g = r

-- no piece that is held clashes with a new one
kind-known : (k : ℕ) (p : Piece) (x : Element) → (p.kind ≡ k) ⊎ (x ≡ nothing) → is_unit x ≡ false → p.kind ≡ k
kind-known k p x (inl e) u = e
kind-known k p x (inr n) u = absurd (not-unit x u n)

surely-placed : (a : PlainAlgebra) (k : ℕ) (v : Valuation) (p : Piece) (x : Element) → is_surely_some p.form ≡ true → IsOwn a k v p x → (own : Element) × (x ≡ at_atom a p.atom own) × (p.kind ≡ k)
surely-placed a k v p x e h =
    let s = atom-some a p.atom h.own (record { sound = form-sound v p.form h.own h.form; some = surely-some v p.form h.own e h.form }) in
    (h.own, h.is ∙ s.0, kind-known k p x h.kind (ap is_unit (h.is ∙ s.0) ∙ s.1.some))

pub never-clashes : (b a : PlainAlgebra) (k : ℕ) (v : Valuation) (ps : List Piece) (p : Piece) (xs : List Element) (y u w : Element) → (p.kind ≡ k → b ≡ a)
    → AreElementsAt a k v (region_of v p) ps xs → IsElementAt a k v (region_of v p) p y → compose_all xs ≡ Some u → compose u y ≡ Some w
    → clashes b ps p.region p.kind p.atom p.form ≡ false
never-clashes b a k v ps p xs y u w n h j c d = elim (true_or_false (clashes b ps p.region p.kind p.atom p.form)) [
  | inr apart ↦ apart
  | inl clash ↦ absurd (
      let m = finds-some a k v (region_of v p) (λ q. clashes_at b p.region p.kind p.atom p.form q) ps xs u clash h c in
      let e = and-true (of_guards p.region p.kind m.piece) _ m.such in
      let g = and-true _ (m.piece.kind == p.kind) e.0 in
      let f = and-true (are_apart b p.atom m.piece.atom) _ e.1 in
      let o = and-true (is_surely_some p.form) (is_surely_some m.piece.form) f.1 in
      let s = part-meets m.element u y w (element-sound a k v _ m.piece m.element m.is) (element-sound a k v _ p y j) m.part d in
      let q = surely-placed a k v m.piece m.element o.1 (at-own a k v _ m.piece m.element (ap (λ t. value v.whole t) ((same_term-decides m.piece.region p.region).0 g.0)) m.is) in
      let r = surely-placed a k v p y o.0 (at-own a k v _ p y refl j) in
      let apart : are_apart a p.atom m.piece.atom ≡ true = ap (λ z. are_apart z p.atom m.piece.atom) (sym (n r.2)) ∙ f.0 in
      let z : None ≡ Some s.0 = sym (apart-never a p.atom m.piece.atom r.0 q.0 apart) ∙ ap (λ z. compose z (at_atom a m.piece.atom q.0)) (sym r.1) ∙ ap (compose y) (sym q.1) ∙ swapped m.element y (Some s.0) (element-sound a k v _ m.piece m.element m.is) (element-sound a k v _ p y j) s.1 in
      cc)
]
