-- What holds of two spans of one atom whose elements compose.
use Rattle.std.proofs.Common.{◌≡◌, ◌≢◌, ℕ, ◌≤◌, ◌<◌, pos, ◌+ℤ◌, ◌≤ℤ◌, negsuc, arith, refl, sym, ap, ◌∙◌, [], ◌∷◌, inl, inr, Bool, true, false, Some, None}
use Rattle.std.specs.Prelude.{◌&&◌, if◌then◌else◌}
use Rattle.std.specs.List.{AllByRecursion}
use Rattle.std.proofs.lemmas.Int.{ints}
use Rattle.std.proofs.lemmas.Bool.{cases_lt}
use Rattle.cap_lin.specs.Linear.{Linear, minus, negative}
use Rattle.cap_lin.specs.Values.{Valuation, parts_value, value}
use Rattle.cap_lin.specs.Rows.{row_of}
use Rattle.cap_lin.specs.Solves.{Holds}
use Rattle.cap_lin.specs.declared.row.Sort.TheVariants.{Int}
use Rattle.cap_lin.specs.declared.row.Op.TheVariants.{Le as AtMost, Ne as Unequal}
use Rattle.cap_lin.proofs.Rows.{row_of-means}
use Rattle.cap_lin.proofs.Values.{value-plus, value-times}
use Rattle.cap_galg.specs.Elements.{Element, indices, compose}
use Rattle.cap_galg.specs.Laws.Composition.{and-true}
use Rattle.cap_gsolve.specs.declared.piece.Form.{Form}
use Rattle.cap_gsolve.specs.declared.piece.Form.TheVariants.{Span}
use Rattle.cap_gsolve.specs.Pieces.{has_indices, is_single}
use Rattle.cap_gsolve.specs.Merge.{one_term, parted_rows}
use Rattle.cap_gsolve.specs.Compat.{off_rows, wanted_beside, are_endless}
use Rattle.cap_gsolve.proofs.Ranges.{range-some, open-has, range-has, not-both, indices-below, single-next}
use Rattle.cap_gsolve.proofs.Forms.{Meet, turned-whole}

-- the sets of two forms compose
sets : (v : Valuation) (f g : Form) (s x y : Element) → (m : Meet v f g s) → m.first ≡ x → m.second ≡ y
    → compose x y ≡ Some s
sets v f g s x y m p q = ap (compose x) (sym q) ∙ ap (λ z. compose z m.second) (sym p) ∙ m.whole

larger : (i j : ℕ) → (n : ℕ) × (i ≤ n) × (j ≤ n)
larger i j = elim (cases_lt i j) [
  | inl l ↦ (j, omega arith, omega arith)
  | inr l ↦ (i, omega arith, omega arith)
]

pub endless-apart : (v : Valuation) (a b : Linear) (s : Element) → Meet v (Span a None) (Span b None) s → ⊥
endless-apart v a b s m =
    let h = m.is_first in
    let k = m.is_second in
    let n = larger h.0 k.0 in
    not-both (h.0 ∷ []) (k.0 ∷ []) s n.0 (sets v (Span a None) (Span b None) s (indices (h.0 ∷ [])) (indices (k.0 ∷ [])) m h.2 k.2) (open-has h.0 n.0 n.1) (open-has k.0 n.0 n.2)

pub never-endless : (v : Valuation) (f g : Form) (s : Element) → are_endless f g ≡ true → Meet v f g s → ⊥
never-endless v (Span a None) (Span b None) s e m = endless-apart v a b s m
never-endless v f g s e m = cc

-- two single ones
single-apart : (v : Valuation) (a e b d : Linear) (s : Element) → is_single a (Some e) ≡ true
    → is_single b (Some d) ≡ true → Meet v (Span a (Some e)) (Span b (Some d)) s
    → value v.whole a ≢ value v.whole b
single-apart v a e b d s p q m t =
    let h = m.is_first in
    let k = m.is_second in
    let x = single-next v a e h.0 h.1 p h.2 h.3 in
    let y = single-next v b d k.0 k.1 q k.2 k.3 in
    let c = sets v (Span a (Some e)) (Span b (Some d)) s (indices (h.0 ∷ (h.1 ∷ []))) (indices (k.0 ∷ (k.1 ∷ []))) m (h.5 ∙ range-some h.0 h.1 (omega arith)) (k.5 ∙ range-some k.0 k.1 (omega arith)) in
    let z : h.0 ≡ k.0 = (let u : pos h.0 ≡ pos k.0 = sym h.2 ∙ t ∙ k.2 in omega (arith, ints, u)) in
    not-both (h.0 ∷ (h.1 ∷ [])) (k.0 ∷ (k.1 ∷ [])) s h.0 c (range-has h.0 h.1 h.0 (omega arith) (omega arith)) (range-has k.0 k.1 h.0 (omega arith) (omega arith))

-- one that has an index, and one without an end
ends-before : (v : Valuation) (a e b : Linear) (s : Element) → has_indices a (Some e) ≡ true
    → Meet v (Span a (Some e)) (Span b None) s → value v.whole e ≤ℤ value v.whole b
ends-before v a e b s p m =
    let h = m.is_first in
    let k = m.is_second in
    let l = indices-below v a e h.0 h.1 p h.2 h.3 in
    let c = sets v (Span a (Some e)) (Span b None) s (indices (h.0 ∷ (h.1 ∷ []))) (indices (k.0 ∷ [])) m (h.5 ∙ range-some h.0 h.1 l) k.2 in
    let i = h.3 in
    let j = k.1 in
    elim (cases_lt k.0 h.1) [
      | inr o ↦ omega (arith, ints, i, j, o)
      | inl o ↦ absurd (middle h.0 h.1 k.0 c l o)
    ]
  where
    middle : (i j n : ℕ) → compose (indices (i ∷ (j ∷ []))) (indices (n ∷ [])) ≡ Some s → i < j → n < j → ⊥
    middle i j n c l o = elim (cases_lt i n) [
      | inl x ↦ not-both (i ∷ (j ∷ [])) (n ∷ []) s n c (range-has i j n (omega arith) o) (open-has n n (omega arith))
      | inr x ↦ not-both (i ∷ (j ∷ [])) (n ∷ []) s i c (range-has i j i (omega arith) l) (open-has n i x)
    ]

pub turned : (v : Valuation) (f g : Form) (s : Element) → Meet v f g s → Meet v g f s
turned v f g s m = record {
  first = m.second;
  second = m.first;
  is_first = m.is_second;
  is_second = m.is_first;
  whole = turned-whole v f g s m;
}

-- the rows of a new span beside one that is there
pub parted-hold : (v : Valuation) (f g : Form) (s : Element) → Meet v f g s → AllByRecursion (Holds v) (parted_rows f g)
parted-hold v (Span a None) (Span b None) s m = absurd (endless-apart v a b s m)
parted-hold v (Span a None) (Span b (Some d)) s m = by (has_indices b (Some d)) refl
  where
    by : (t : Bool) → has_indices b (Some d) ≡ t → AllByRecursion (Holds v) (if t then row_of d AtMost a Int ∷ [] else [])
    by true e = ((row_of-means v d AtMost a Int).1 (ends-before v b d a s e (turned v _ _ s m)), tt)
    by false e = tt
parted-hold v (Span a (Some e)) (Span b None) s m = by (has_indices a (Some e)) refl
  where
    by : (t : Bool) → has_indices a (Some e) ≡ t → AllByRecursion (Holds v) (if t then row_of e AtMost b Int ∷ [] else [])
    by true p = ((row_of-means v e AtMost b Int).1 (ends-before v a e b s p m), tt)
    by false p = tt
parted-hold v (Span a (Some e)) (Span b (Some d)) s m = by (is_single a (Some e) && is_single b (Some d)) refl
  where
    by : (t : Bool) → (is_single a (Some e) && is_single b (Some d)) ≡ t → AllByRecursion (Holds v) (if t then row_of a Unequal b Int ∷ [] else [])
    by true p = let r = and-true (is_single a (Some e)) (is_single b (Some d)) p in ((row_of-means v a Unequal b Int).1 (single-apart v a e b d s r.0 r.1 m), tt)
    by false p = tt
parted-hold v f g s m = tt

-- the rows of a wanted index beside a span that is there
less-one : (v : Valuation) (a : Linear) → value v.whole (minus a one_term) ≡ value v.whole a +ℤ negsuc 0
unfolding value parts_value
less-one v a = value-plus v.whole a (negative one_term) ∙ ap (λ z. value v.whole a +ℤ z) (value-times v.whole (negsuc 0) one_term ∙ omega (arith, ints))

off-hold : (v : Valuation) (a i d : Linear) (s : Element) → is_single i (Some d) ≡ true
    → Meet v (Span a None) (Span i (Some d)) s → value v.whole i ≤ℤ value v.whole (minus a one_term)
off-hold v a i d s p m =
    let h = m.is_first in
    let k = m.is_second in
    let x = single-next v i d k.0 k.1 p k.2 k.3 in
    let c = sets v (Span a None) (Span i (Some d)) s (indices (h.0 ∷ [])) (indices (k.0 ∷ (k.1 ∷ []))) m h.2 (k.5 ∙ range-some k.0 k.1 (omega arith)) in
    let q = h.1 in
    let r = k.2 in
    let z = less-one v a in
    elim (cases_lt k.0 h.0) [
      | inl o ↦ omega (arith, ints, q, r, z, o)
      | inr o ↦ absurd (not-both (h.0 ∷ []) (k.0 ∷ (k.1 ∷ [])) s k.0 c (open-has h.0 k.0 o) (range-has k.0 k.1 k.0 (omega arith) (omega arith)))
    ]

pub wanted-beside-hold : (v : Valuation) (f g : Form) (s : Element) → Meet v f g s → AllByRecursion (Holds v) (wanted_beside f g)
wanted-beside-hold v (Span a None) (Span i None) s m = tt
wanted-beside-hold v (Span a (Some e)) (Span i None) s m = tt
wanted-beside-hold v (Span a None) (Span i (Some d)) s m = by (is_single i (Some d)) refl
  where
    by : (t : Bool) → is_single i (Some d) ≡ t → AllByRecursion (Holds v) (if t then off_rows a None i else [])
    by true p = ((row_of-means v i AtMost (minus a one_term) Int).1 (off-hold v a i d s p m), tt)
    by false p = tt
wanted-beside-hold v (Span a (Some e)) (Span i (Some d)) s m = by (is_single i (Some d)) refl (is_single a (Some e)) refl
  where
    by : (t : Bool) → is_single i (Some d) ≡ t → (u : Bool) → is_single a (Some e) ≡ u → AllByRecursion (Holds v) (if t then (if u then row_of i Unequal a Int ∷ [] else []) else [])
    by true p true q = ((row_of-means v i Unequal a Int).1 (λ z. single-apart v a e i d s q p m (sym z)), tt)
    by true p false q = tt
    by false p u q = tt
wanted-beside-hold v f g s m = tt
