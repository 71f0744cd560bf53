-- An index, or all indices from one on, cut out of a span.
use Rattle.std.proofs.Common.{◌≡◌, ℕ, ◌+◌, ◌≤◌, ℤ, pos, ◌+ℤ◌, ◌≤ℤ◌, arith, refl, sym, ap, ◌∙◌, subst, List, [], ◌∷◌, Some, None}
use Rattle.std.proofs.lemmas.Int.{ints}
use Rattle.cap_lin.specs.Linear.{Linear}
use Rattle.cap_lin.specs.Values.{Valuation, value}
use Rattle.cap_galg_indices.specs.Sets.{one_index, indices_from, index_range}
use Rattle.cap_galg_indices.specs.Laws.Members.{range-ascends, from-ascends}
use Rattle.cap_galg_indices.specs.Laws.Composition.{ranges-compose, range-and-rest-compose}
use Rattle.cap_galg.specs.Elements.{Element, nothing, indices, index_set, bind, compose}
use Rattle.cap_galg.specs.Laws.Composition.{IsSound, compose-comm, compose-nothing}
use Rattle.cap_galg.specs.Laws.Lists.{grouped, regrouped, swapped}
use Rattle.cap_galg.proofs.Sets.{sets-compose}
use Rattle.cap_gsolve.specs.declared.piece.Form.{Form}
use Rattle.cap_gsolve.specs.declared.piece.Form.TheVariants.{Span}
use Rattle.cap_gsolve.specs.Meaning.{IsFormElement}
use Rattle.cap_gsolve.proofs.Ranges.{range-sound, range-some}

-- ---- what stays of a form: the elements of a list of forms, together

abbrev pub AreLeft : Valuation → List Form → Element → Type 0
AreLeft v [] z = z ≡ nothing
AreLeft v (f ∷ fs) z = (x : Element) × (y : Element) × IsFormElement v f x × AreLeft v fs y × (compose x y ≡ Some z)

-- what is taken, with what stays, is what was held
pub record Cuts (v : Valuation) (held taken : Element) (left : List Form) : Type 0 where
  pub rest : Element
  pub are_left : AreLeft v left rest
  pub composed : compose taken rest ≡ Some held

pub left-one : (v : Valuation) (f : Form) (x : Element) → IsFormElement v f x → AreLeft v (f ∷ []) x
left-one v f x h = (x, nothing, h, refl, compose-nothing x)

pub left-two : (v : Valuation) (f g : Form) (x y z : Element) → IsFormElement v f x → IsFormElement v g y → compose x y ≡ Some z → AreLeft v (f ∷ (g ∷ [])) z
left-two v f g x y z h k e = (x, y, h, (y, nothing, k, refl, compose-nothing y), e)

-- ---- ranges that meet, one behind the other

pub ranges-meet : (i j k : ℕ) → i ≤ j → j ≤ k → compose (index_set (index_range i j)) (index_set (index_range j k)) ≡ Some (index_set (index_range i k))
ranges-meet i j k a b =
    sets-compose (index_range i j) (index_range j k) (range-ascends i j) (range-ascends j k)
    ∙ ap (λ o. bind o (λ zs. Some (index_set zs))) (ranges-compose i j k a b)

pub range-open : (i j : ℕ) → i ≤ j → compose (index_set (index_range i j)) (indices (indices_from j)) ≡ Some (indices (indices_from i))
range-open i j a =
    sets-compose (index_range i j) (indices_from j) (range-ascends i j) (from-ascends j)
    ∙ ap (λ o. bind o (λ zs. Some (index_set zs))) (range-and-rest-compose i j a)

-- the middle one of three ranges that meet is taken, the outer two stay
record Outer (left taken right held : Element) : Type 0 where
  rest : Element
  stays : compose left right ≡ Some rest
  composed : compose taken rest ≡ Some held

outer : (l t r u w : Element) → IsSound l → IsSound t → IsSound r → compose t r ≡ Some u → compose l u ≡ Some w → Outer l t r w
outer l t r u w p q s e f =
    let g = grouped l t r u w p q s e f in
    let h = regrouped t l r g.middle w q p s (swapped l t (Some g.middle) p q g.inner) g.outer in
    record { rest = h.middle; stays = h.inner; composed = h.outer }

-- one index as a range
pub single-set : (k : ℕ) → index_set (index_range k (k + 1)) ≡ indices (one_index k)
single-set k = range-some k (k + 1) (omega arith)

natural : (i : ℕ) (z : ℤ) → pos i ≤ℤ z → (k : ℕ) × (z ≡ pos k) × (i ≤ k)
natural i (pos k) h = (k, refl, omega (arith, ints, h))
natural i z h = absurd (omega (arith, ints, h))

open-sound : (i : ℕ) → IsSound (indices (indices_from i))
open-sound i = (from-ascends i, refl)

-- an index out of a span with an end; `y` is one more than the index
pub cut-index : (v : Valuation) (a b x y : Linear) (held : Element) → IsFormElement v (Span a (Some b)) held
    → value v.whole a ≤ℤ value v.whole x → value v.whole y ≡ value v.whole x +ℤ pos 1 → value v.whole y ≤ℤ value v.whole b
    → (k : ℕ) × (value v.whole x ≡ pos k) × Cuts v held (indices (one_index k)) (Span a (Some x) ∷ (Span y (Some b) ∷ []))
cut-index v a b x y held h l n m =
    let i = h.0 in
    let j = h.1 in
    let ai = h.2 in
    let bj = h.3 in
    let c = natural i (value v.whole x) (subst (λ z. z ≤ℤ value v.whole x) ai l) in
    let k = c.0 in
    let xk = c.1 in
    let yk : value v.whole y ≡ pos (k + 1) = omega (arith, ints, n, xk) in
    let kj : k + 1 ≤ j = omega (arith, ints, m, yk, bj) in
    let e : compose (index_set (index_range k (k + 1))) (index_set (index_range (k + 1) j)) ≡ Some (index_set (index_range k j)) = ranges-meet k (k + 1) j (omega arith) kj in
    let f : compose (index_set (index_range i k)) (index_set (index_range k j)) ≡ Some (index_set (index_range i j)) = ranges-meet i k j c.2 (omega (arith, kj)) in
    let o = outer (index_set (index_range i k)) (index_set (index_range k (k + 1))) (index_set (index_range (k + 1) j)) (index_set (index_range k j)) (index_set (index_range i j))
    (range-sound i k) (range-sound k (k + 1)) (range-sound (k + 1) j) e f in (
      k,
      xk,
      record {
        rest = o.rest;
        are_left = left-two v (Span a (Some x)) (Span y (Some b)) (index_set (index_range i k)) (index_set (index_range (k + 1) j)) o.rest (i, k, ai, xk, c.2, refl) (k + 1, j, yk, bj, kj, refl) o.stays;
        composed = ap (λ t. compose t o.rest) (sym (single-set k)) ∙ o.composed ∙ ap (λ t. Some t) (sym h.5);
      },
    )

-- and out of one without
pub cut-index-open : (v : Valuation) (a x y : Linear) (held : Element) → IsFormElement v (Span a None) held
    → value v.whole a ≤ℤ value v.whole x → value v.whole y ≡ value v.whole x +ℤ pos 1
    → (k : ℕ) × (value v.whole x ≡ pos k) × Cuts v held (indices (one_index k)) (Span a (Some x) ∷ (Span y None ∷ []))
cut-index-open v a x y held h l n =
    let i = h.0 in
    let ai = h.1 in
    let c = natural i (value v.whole x) (subst (λ z. z ≤ℤ value v.whole x) ai l) in
    let k = c.0 in
    let xk = c.1 in
    let yk : value v.whole y ≡ pos (k + 1) = omega (arith, ints, n, xk) in
    let e : compose (index_set (index_range k (k + 1))) (indices (indices_from (k + 1))) ≡ Some (indices (indices_from k)) = range-open k (k + 1) (omega arith) in
    let f : compose (index_set (index_range i k)) (indices (indices_from k)) ≡ Some (indices (indices_from i)) = range-open i k c.2 in
    let o = outer (index_set (index_range i k)) (index_set (index_range k (k + 1))) (indices (indices_from (k + 1))) (indices (indices_from k)) (indices (indices_from i))
    (range-sound i k) (range-sound k (k + 1)) (open-sound (k + 1)) e f in (
      k,
      xk,
      record {
        rest = o.rest;
        are_left = left-two v (Span a (Some x)) (Span y None) (index_set (index_range i k)) (indices (indices_from (k + 1))) o.rest (i, k, ai, xk, c.2, refl) (k + 1, yk, refl) o.stays;
        composed = ap (λ t. compose t o.rest) (sym (single-set k)) ∙ o.composed ∙ ap (λ t. Some t) (sym h.2);
      },
    )

-- all indices from one on, out of a span without an end
pub cut-from : (v : Valuation) (a x : Linear) (held : Element) → IsFormElement v (Span a None) held
    → value v.whole a ≤ℤ value v.whole x
    → (k : ℕ) × (value v.whole x ≡ pos k) × Cuts v held (indices (indices_from k)) (Span a (Some x) ∷ [])
cut-from v a x held h l =
    let i = h.0 in
    let ai = h.1 in
    let c = natural i (value v.whole x) (subst (λ z. z ≤ℤ value v.whole x) ai l) in
    let k = c.0 in (
      k,
      c.1,
      record {
        rest = index_set (index_range i k);
        are_left = left-one v (Span a (Some x)) (index_set (index_range i k)) (i, k, ai, c.1, c.2, refl);
        composed = compose-comm (indices (indices_from k)) (index_set (index_range i k)) (open-sound k) (range-sound i k) ∙ range-open i k c.2 ∙ ap (λ t. Some t) (sym h.2);
      },
    )

-- the first index of a span, where there is one
pub cut-first : (v : Valuation) (a b y : Linear) (held : Element) → IsFormElement v (Span a (Some b)) held
    → value v.whole y ≡ value v.whole a +ℤ pos 1 → value v.whole y ≤ℤ value v.whole b
    → (k : ℕ) × (value v.whole a ≡ pos k) × Cuts v held (indices (one_index k)) (Span y (Some b) ∷ [])
cut-first v a b y held h n m =
    let i = h.0 in
    let j = h.1 in
    let ai = h.2 in
    let bj = h.3 in
    let yk : value v.whole y ≡ pos (i + 1) = omega (arith, ints, n, ai) in
    let kj : i + 1 ≤ j = omega (arith, ints, m, yk, bj) in (
      i,
      ai,
      record {
        rest = index_set (index_range (i + 1) j);
        are_left = left-one v (Span y (Some b)) (index_set (index_range (i + 1) j)) (i + 1, j, yk, bj, kj, refl);
        composed = ap (λ t. compose t (index_set (index_range (i + 1) j))) (sym (single-set i)) ∙ ranges-meet i (i + 1) j (omega arith) kj ∙ ap (λ t. Some t) (sym h.5);
      },
    )

pub cut-first-open : (v : Valuation) (a y : Linear) (held : Element) → IsFormElement v (Span a None) held
    → value v.whole y ≡ value v.whole a +ℤ pos 1
    → (k : ℕ) × (value v.whole a ≡ pos k) × Cuts v held (indices (one_index k)) (Span y None ∷ [])
cut-first-open v a y held h n =
    let i = h.0 in
    let ai = h.1 in
    let yk : value v.whole y ≡ pos (i + 1) = omega (arith, ints, n, ai) in (
      i,
      ai,
      record {
        rest = indices (indices_from (i + 1));
        are_left = left-one v (Span y None) (indices (indices_from (i + 1))) (i + 1, yk, refl);
        composed = ap (λ t. compose t (indices (indices_from (i + 1)))) (sym (single-set i)) ∙ range-open i (i + 1) (omega arith) ∙ ap (λ t. Some t) (sym h.2);
      },
    )
