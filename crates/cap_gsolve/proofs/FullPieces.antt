-- The full pieces of a region's guards compose to the full element.
use Rattle.std.proofs.Common.{◌≡◌, ℕ, ◌+◌, ◌-◌, ◌<◌, arith, pos, ◌*ℤ◌, refl, sym, ap, ◌∙◌, subst, List, [], ◌∷◌, inl, true, false, Option, Some, None}
use Rattle.std.specs.Prelude.{if◌then◌else◌}
use Rattle.std.proofs.lemmas.Int.{ints}
use Rattle.cap_lin.specs.Linear.{Linear}
use Rattle.cap_lin.specs.Values.{Valuation, value, amount, denominator}
use Rattle.cap_galg.specs.Fractions.{fraction}
use Rattle.cap_galg_indices.specs.Sets.{all_indices}
use Rattle.cap_galg.specs.Elements.{Element, nothing, one, share, src, indices, both, whole, left, right, is_full, on_left, on_right, bind, compose}
use Rattle.cap_galg.specs.Algebras.{PlainAlgebra, unique, divisible, counting, indexed, product, sum, atoms, at_atom, atom_element, full}
use Rattle.cap_galg.specs.Laws.Fractions.{whole-share}
use Rattle.cap_galg.specs.Laws.Composition.{compose-nothing}
use Rattle.cap_galg.specs.Laws.Algebras.{sound-of, full-element, full-present, full-full}
use Rattle.cap_galg.specs.Laws.Atoms.{lt-true, lt-false}
use Rattle.cap_galg.specs.Laws.Placing.{IsSome, product-some, left-some, right-some, left-both, right-both, bind-map}
use Rattle.cap_gsolve.specs.declared.piece.Form.{Form}
use Rattle.cap_gsolve.specs.declared.piece.Form.TheVariants.{One, Share, Src, Span}
use Rattle.cap_gsolve.specs.declared.piece.Piece.{Piece}
use Rattle.cap_gsolve.specs.Pieces.{piece, pieces_of, full_forms, full_pieces}
use Rattle.cap_gsolve.specs.Merge.{zero_term, one_term}
use Rattle.cap_gsolve.specs.Meaning.{IsFormElement, ComposeAt, AreAll}
use Rattle.std.proofs.lemmas.List.{map-append}
use Rattle.cap_gsolve.proofs.Amounts.{one-amount, zero-value}
use Rattle.cap_gsolve.proofs.Held.{in-a-row}

-- an algebra stands in another one from an atom on: what its elements are there
pub record Stands (w a : PlainAlgebra) (i : ℕ) (e : Element → Element) : Type 0 where
  place : (j : ℕ) (x : Element) → j < atoms a → at_atom w (i + j) x ≡ e (at_atom a j x)
  follows : (x y : Element) → IsSome x → IsSome y → compose (e x) (e y) ≡ bind (compose x y) (λ z. Some (e z))
  some : (x : Element) → IsSome x → IsSome (e x)

full-some : (a : PlainAlgebra) → IsSome (full a)
full-some a = record { sound = sound-of a (full a) (full-element a); some = full-present a }

pub itself : (a : PlainAlgebra) → Stands a a 0 (λ x. x)
itself a = record {
  place = λ j x l. ap (λ n. at_atom a n x) (let e : 0 + j ≡ j = omega arith in e);
  follows = λ x y p q. sym (bind-some (compose x y));
  some = λ x p. p;
}
  where
    bind-some : (o : Option Element) → bind o (λ z. Some z) ≡ o
    bind-some None = refl
    bind-some (Some z) = refl

first-place : (a b : PlainAlgebra) (j : ℕ) (x : Element) → j < atoms a → at_atom (product a b) j x ≡ both (at_atom a j x) nothing
first-place a b j x l = ap (λ t. if t then both (at_atom a j x) nothing else both nothing (at_atom b (j - atoms a) x)) (lt-true j (atoms a) l)

second-place : (a b : PlainAlgebra) (j : ℕ) (x : Element) → at_atom (product a b) (atoms a + j) x ≡ both nothing (at_atom b j x)
second-place a b j x =
    let d : atoms a + j - atoms a ≡ j = omega arith in
    ap (λ t. if t then both (at_atom a (atoms a + j) x) nothing else both nothing (at_atom b (atoms a + j - atoms a) x)) (lt-false (atoms a + j) (atoms a) (omega arith)) ∙ ap (λ n. both nothing (at_atom b n x)) d

side-place : (a b : PlainAlgebra) (j : ℕ) (x : Element) → j < atoms a → at_atom (sum a b) j x ≡ on_left (at_atom a j x)
side-place a b j x l = ap (λ t. if t then on_left (at_atom a j x) else on_right (at_atom b (j - atoms a) x)) (lt-true j (atoms a) l)

other-side-place : (a b : PlainAlgebra) (j : ℕ) (x : Element) → at_atom (sum a b) (atoms a + j) x ≡ on_right (at_atom b j x)
other-side-place a b j x =
    let d : atoms a + j - atoms a ≡ j = omega arith in
    ap (λ t. if t then on_left (at_atom a (atoms a + j) x) else on_right (at_atom b (atoms a + j - atoms a) x)) (lt-false (atoms a + j) (atoms a) (omega arith)) ∙ ap (λ n. on_right (at_atom b n x)) d

first-part : (x : Element) → IsSome x → IsSome (both x nothing)
first-part x p = product-some true x x p p

second-part : (x : Element) → IsSome x → IsSome (both nothing x)
second-part x p = product-some false x x p p

pub in-first : (w a b : PlainAlgebra) (i : ℕ) (e : Element → Element) → Stands w (product a b) i e → Stands w a i (λ x. e (both x nothing))
in-first w a b i e s = record {
  place = λ j x l. s.place j x (let m : j < atoms a + atoms b = omega arith in m) ∙ ap e (first-place a b j x l);
  follows = λ x y p q. s.follows (both x nothing) (both y nothing) (first-part x p) (first-part y q) ∙ bind-map (compose x y) (λ u. both u nothing) e;
  some = λ x p. s.some (both x nothing) (first-part x p);
}

pub in-second : (w a b : PlainAlgebra) (i : ℕ) (e : Element → Element) → Stands w (product a b) i e → Stands w b (i + atoms a) (λ x. e (both nothing x))
in-second w a b i e s = record {
  place = λ j x l.
      ap (λ n. at_atom w n x) (let d : i + atoms a + j ≡ i + (atoms a + j) = omega arith in d)
      ∙ s.place (atoms a + j) x (let m : atoms a + j < atoms a + atoms b = omega arith in m) ∙ ap e (second-place a b j x);
  follows = λ x y p q. s.follows (both nothing x) (both nothing y) (second-part x p) (second-part y q) ∙ bind-map (compose x y) (λ u. both nothing u) e;
  some = λ x p. s.some (both nothing x) (second-part x p);
}

pub in-side : (w a b : PlainAlgebra) (i : ℕ) (e : Element → Element) → Stands w (sum a b) i e → Stands w a i (λ x. e (on_left x))
in-side w a b i e s = record {
  place = λ j x l. s.place j x (let m : j < atoms a + atoms b = omega arith in m) ∙ ap e (side-place a b j x l);
  follows = λ x y p q.
      s.follows (on_left x) (on_left y) (left-some (is_full x) x refl p) (left-some (is_full y) y refl q)
      ∙ ap (λ o. bind o (λ z. Some (e z))) (left-both (is_full x) (is_full y) x y refl refl p q)
      ∙ bind-map (compose x y) (λ z. on_left z) e;
  some = λ x p. s.some (on_left x) (left-some (is_full x) x refl p);
}

pub in-other-side : (w a b : PlainAlgebra) (i : ℕ) (e : Element → Element) → Stands w (sum a b) i e → Stands w b (i + atoms a) (λ x. e (on_right x))
in-other-side w a b i e s = record {
  place = λ j x l.
      ap (λ n. at_atom w n x) (let d : i + atoms a + j ≡ i + (atoms a + j) = omega arith in d)
      ∙ s.place (atoms a + j) x (let m : atoms a + j < atoms a + atoms b = omega arith in m) ∙ ap e (other-side-place a b j x);
  follows = λ x y p q.
      s.follows (on_right x) (on_right y) (right-some (is_full x) x refl p) (right-some (is_full y) y refl q)
      ∙ ap (λ o. bind o (λ z. Some (e z))) (right-both (is_full x) (is_full y) x y refl refl p q)
      ∙ bind-map (compose x y) (λ z. on_right z) e;
  some = λ x p. s.some (on_right x) (right-some (is_full x) x refl p);
}

-- one piece
pub lone : (w a : PlainAlgebra) (k : ℕ) (v : Valuation) (r : Linear) (i : ℕ) (e : Element → Element) (f : Form) (x : Element) → 0 < atoms a → Stands w a i e → at_atom a 0 x ≡ x → IsSome x → IsFormElement v f x
    → ComposeAt w k v (value v.whole r) (piece r k i f ∷ []) (e x)
lone w a k v r i e f x l s t p h =
    let n : i ≡ i + 0 = omega arith in
    let q : e x ≡ at_atom w i x = sym (ap (λ n. at_atom w n x) n ∙ s.place 0 x l ∙ ap e t) in
    let g : e x ≡ atom_element w i x = q ∙ sym (ap (λ b. if b then nothing else at_atom w i x) p.some) in
    (e x ∷ [], (inl (refl, (x, h, g), inl refl), tt), compose-nothing (e x))

pub full-from : (a w : PlainAlgebra) (k : ℕ) (v : Valuation) (r : Linear) (i : ℕ) (e : Element → Element) → Stands w a i e → ComposeAt w k v (value v.whole r) (pieces_of r k (full_forms a i)) (e (full a))
full-from unique w k v r i e s = lone w unique k v r i e One one (omega arith) s refl (full-some unique) refl
full-from divisible w k v r i e s =
    let m : pos 1 *ℤ denominator v.fraction ≡ amount v.fraction one_term *ℤ pos 1 = rw (one-amount v.fraction) (omega (arith, ints)) in
    lone w divisible k v r i e (Share one_term) (share (fraction 1 1)) (omega arith) s refl (full-some divisible) (fraction 1 1, whole-share, m, refl)
full-from counting w k v r i e s = lone w counting k v r i e (Src zero_term) (src 0) (omega arith) s refl (full-some counting) (0, zero-value v.whole, refl)
full-from indexed w k v r i e s = lone w indexed k v r i e (Span zero_term None) (indices all_indices) (omega arith) s refl (full-some indexed) (0, zero-value v.whole, refl)
full-from (product a b) w k v r i e s =
    let c = full-from a w k v r i (λ x. e (both x nothing)) (in-first w a b i e s) in
    let d = full-from b w k v r (i + atoms a) (λ x. e (both nothing x)) (in-second w a b i e s) in
    let f : compose (e (both (full a) nothing)) (e (both nothing (full b))) ≡ Some (e (both (full a) (full b))) =
    s.follows (both (full a) nothing) (both nothing (full b)) (first-part (full a) (full-some a)) (second-part (full b) (full-some b))
    ∙ ap (λ o. bind (bind o (λ x. Some (both x (full b)))) (λ z. Some (e z))) (compose-nothing (full a)) in
    rw (map-append (λ p. piece r k p.0 p.1) (full_forms a i) (full_forms b (i + atoms a))) (in-a-row w k v (value v.whole r) _ _ _ _ _ c d f)
full-from (sum a b) w k v r i e s =
    let c = full-from a w k v r i (λ x. e (on_left x)) (in-side w a b i e s) in
    subst (λ t. ComposeAt w k v (value v.whole r) (pieces_of r k (full_forms a i)) (e (if t then whole else left (full a)))) (full-full a) c

pub full-means : (a : PlainAlgebra) (r : Linear) (k : ℕ) → AreAll a r k (full_pieces a r k)
full-means a r k v = full-from a a k v r 0 (λ x. x) (itself a)

pub all-means : (a : PlainAlgebra) (r : Linear) (k : ℕ) (ps : List Piece) → ps ≡ full_pieces a r k → AreAll a r k ps
all-means a r k ps e = rw e (full-means a r k)

-- the right side of a sum has all of it too
pub right-means : (a b : PlainAlgebra) (r : Linear) (k : ℕ) → AreAll (sum a b) r k (pieces_of r k (full_forms b (atoms a)))
right-means a b r k v =
    let c = full-from b (sum a b) k v r (0 + atoms a) (λ x. on_right x) (in-other-side (sum a b) a b 0 (λ x. x) (itself (sum a b))) in
    let n : 0 + atoms a ≡ atoms a = omega arith in
    let d = subst (λ t. ComposeAt (sum a b) k v (value v.whole r) (pieces_of r k (full_forms b (0 + atoms a))) (if t then whole else right (full b))) (full-full b) c in
    subst (λ n. ComposeAt (sum a b) k v (value v.whole r) (pieces_of r k (full_forms b n)) whole) n d
