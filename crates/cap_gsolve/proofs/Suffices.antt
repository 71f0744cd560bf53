-- A part that holds merged pieces holds what was merged, where the rows hold.
use Rattle.std.proofs.Common.{◌≡◌, ℕ, suc, ◌+◌, ◌*◌, ◌-◌, ◌≤◌, ◌<◌, ℤ, pos, negsuc, ◌+ℤ◌, ◌*ℤ◌, ◌≤ℤ◌, ◌<ℤ◌, arith, refl, sym, ap, ◌∙◌, subst, List, [], ◌∷◌, ◌++◌, ◌⊎◌, inl, inr, Some}
use Rattle.std.specs.Prelude.{if◌then◌else◌, None}
use Rattle.std.specs.List.{AllByRecursion}
use Rattle.std.proofs.lemmas.Int.{ints}
use Rattle.std.proofs.Math.Nat.{mul-le-mul_right}
use Rattle.cap_lin.specs.Linear.{Linear, plus, minus}
use Rattle.cap_lin.specs.Values.{Valuation, parts_value, value, amount}
use Rattle.cap_lin.specs.Rows.{row_of}
use Rattle.cap_lin.specs.Solves.{Holds}
use Rattle.cap_lin.specs.declared.row.Row.{Row}
use Rattle.cap_lin.specs.declared.row.Sort.TheVariants.{Int, Perm}
use Rattle.cap_lin.specs.declared.row.Op.TheVariants.{Le as AtMost, Eq as Equal, Gt as Greater, Ge as AtLeast}
use Rattle.cap_lin.proofs.Rows.{row_of-means}
use Rattle.cap_lin.proofs.Values.{amount-plus}
use Rattle.cap_galg.specs.cap_galg_spec.declared.fraction.Fraction.{Fraction}
use Rattle.cap_galg.specs.Fractions.{IsShare, crossed, lowest, plus as sum_of}
use Rattle.cap_galg.specs.Elements.{Element, nothing, share, src, tokens, is_unit, bind, compose}
use Rattle.cap_galg.specs.Algebras.{PlainAlgebra, atom_element}
use Rattle.cap_galg.specs.Lists.{compose_all}
use Rattle.cap_galg.specs.Laws.Fractions.{cancel, cancel-le, equal, lowest-is, plus-share, reduced-share}
use Rattle.cap_galg.specs.Laws.Composition.{true_or_false, le-true, bind-is, compose-comm, compose-nothing, made_of_nothing}
use Rattle.cap_galg.specs.Laws.Lists.{exchanged, all-sound}
use Rattle.cap_galg.specs.Laws.Placing.{atom-composed}
use Rattle.cap_gsolve.specs.declared.piece.Form.{Form}
use Rattle.cap_gsolve.specs.declared.piece.Form.TheVariants.{Share, Src, Tok}
use Rattle.cap_gsolve.specs.declared.piece.Piece.{Piece}
use Rattle.cap_gsolve.specs.Pieces.{joins}
use Rattle.cap_gsolve.specs.Merge.{zero_term, one_term, false_row, added_rows, combined, combined_rows, there, met_rows, parted_rows, beside, clash, clash_rows, merged, merge_rows}
use Rattle.cap_gsolve.specs.Meaning.{IsValueOf, IsFormElement, IsElementAt, AreElementsAt, ComposeAt, HasElement, MergeSuffices}
use Rattle.cap_gsolve.proofs.Amounts.{one-amount, zero-amount, zero-value, natural-amount, sum-number, sum-is, counts-rest, counts-sum}
use Rattle.cap_gsolve.proofs.Forms.{Meet, form-sound, tokens-sound, src-give, tokens-add}
use Rattle.cap_gsolve.proofs.Held.{as_one, merged-same, merged-other, there-same, there-other, IsPart, part-is, joined-part, element-sound, elements-sound, in-a-row}

-- ---- amounts

-- a share is known by its value
same-ratio : (fn fd gn gd u k : ℕ) → fn * suc u ≡ k * fd → gn * suc u ≡ k * gd → suc u * (fn * gd) ≡ suc u * (gn * fd)
same-ratio fn fd gn gd u k e h = omega (arith, ap (λ w. w * gd) e, ap (λ w. w * fd) h)

same-number : (m n : ℕ) (z : ℤ) → z ≡ pos m → z ≡ pos n → m ≡ n
same-number m n z e h = let k : pos m ≡ pos n = sym e ∙ h in omega (arith, ints, k)

same-share : (v : Valuation) (t : Linear) (f g : Fraction) → IsShare f → IsShare g → IsValueOf v t f → IsValueOf v t g → f ≡ g
same-share v t f g p q e h =
    let m = natural-amount v t f p e in
    let n = natural-amount v t g q h in
    let s : n.number ≡ m.number = same-number n.number m.number (amount v.fraction t) n.is m.is in
    let r : g.num * suc v.fraction.under ≡ m.number * g.den = n.ratio ∙ ap (λ k. k * g.den) s in
    equal f g p.amount.lowest q.amount.lowest (cancel (suc v.fraction.under) (f.num * g.den) (g.num * f.den) (omega arith) (same-ratio f.num f.den g.num g.den v.fraction.under m.number m.ratio r))

-- the share whose value a term is
record OfAmount (v : Valuation) (t : Linear) (n : ℕ) : Type 0 where
  is_share : IsShare (lowest n (suc v.fraction.under))
  value_of : IsValueOf v t (lowest n (suc v.fraction.under))
  ratio : (lowest n (suc v.fraction.under)).num * suc v.fraction.under ≡ n * (lowest n (suc v.fraction.under)).den

value-from : (n u num den : ℕ) → n * den ≡ num * suc u → pos num *ℤ pos (u + 1) ≡ pos n *ℤ pos den
value-from n u num den e = omega (arith, ints, e)

of-amount : (v : Valuation) (t : Linear) (n : ℕ) → amount v.fraction t ≡ pos n → 0 < n → n ≤ suc v.fraction.under → OfAmount v t n
of-amount v t n e p l =
    let u = v.fraction.under in
    let r = lowest-is n (suc u) (omega arith) in
    let f = lowest n (suc u) in
    record {
      is_share = reduced-share n (suc u) f p (omega arith) l r;
      value_of = rw e (value-from n u f.num f.den r.value);
      ratio = sym r.value;
    }

-- what the rows of two shares say of the second
natural-rest : (a b : ℤ) (m u : ℕ) → a ≡ pos m → pos 0 <ℤ b → (a +ℤ b) ≤ℤ pos (u + 1) → (n : ℕ) × (b ≡ pos n) × (0 < n) × (m + n ≤ suc u)
natural-rest a (pos n) m u e p l =
    let s : (pos m +ℤ pos n) ≤ℤ pos (u + 1) = rw e at l in
    (n, refl, omega (arith, ints, p), omega (arith, ints, s))
natural-rest a (negsuc n) m u e p l = absurd (omega (arith, ints, p))

crossed-fits : (fn fd gn gd u m n : ℕ) → fn * suc u ≡ m * fd → gn * suc u ≡ n * gd → m + n ≤ suc u → fn * gd + gn * fd ≤ fd * gd
crossed-fits fn fd gn gd u m n e h l =
    let s = sum-number fn fd gn gd u m n e h in
    let k : (m + n) * (fd * gd) ≤ suc u * (fd * gd) = mul-le-mul_right (fd * gd) l in
    cancel-le (suc u) (fn * gd + gn * fd) (fd * gd) (omega arith) (omega (arith, s, k))

-- ---- two forms of one atom

one-value : (n : ℕ → ℤ) → value n one_term ≡ pos 1
unfolding value parts_value
one-value n = refl

never-holds : (v : Valuation) → Holds v false_row → ⊥
never-holds v h =
    let e = rw (zero-value v.whole, one-value v.whole) at ((row_of-means v zero_term Equal one_term Int).0 h) in
    omega (arith, ints, e)

shares-meet : (v : Valuation) (a b : Linear) (x s : Element) → IsFormElement v (Share a) x → AllByRecursion (Holds v) (added_rows (Share b)) → AllByRecursion (Holds v) (combined_rows (Share a) (Share b)) → IsFormElement v (combined (Share a) (Share b)) s → Meet v (Share a) (Share b) s
shares-meet v a b x s h added rows j =
    let u = v.fraction.under in
    let m = natural-amount v a h.0 h.1 h.2 in
    let p = rw (zero-amount v.fraction) at ((row_of-means v b Greater zero_term Perm).0 added.0) in
    let l = rw (one-amount v.fraction, amount-plus v.fraction a b) at ((row_of-means v (plus a b) AtMost one_term Perm).0 rows.0) in
    let n = natural-rest (amount v.fraction a) (amount v.fraction b) m.number u m.is p l in
    let o = of-amount v b n.0 n.1 n.2 (let k = n.3 in omega arith) in
    let g = lowest n.0 (suc u) in
    let c : crossed h.0 g ≤ h.0.den * g.den = crossed-fits h.0.num h.0.den g.num g.den u m.number n.0 m.ratio o.ratio n.3 in
    let e : j.0 ≡ sum_of h.0 g = same-share v (plus a b) j.0 (sum_of h.0 g) j.1 (plus-share h.0 g h.1 o.is_share c) j.2 (sum-is v a b h.0 g h.1 o.is_share h.2 o.value_of) in
    let w : compose (share h.0) (share g) ≡ Some (share (sum_of h.0 g)) = ap (λ t. if t then Some (share (sum_of h.0 g)) else None) (le-true (crossed h.0 g) (h.0.den * g.den) c) in
    record {
      first = share h.0;
      second = share g;
      is_first = (h.0, h.1, h.2, refl);
      is_second = (g, o.is_share, o.value_of, refl);
      whole = w ∙ ap (λ f. Some (share f)) (sym e) ∙ ap (λ z. Some z) (sym j.3);
    }

-- what a count's row says
natural-count : (z : ℤ) → pos 0 ≤ℤ z → (k : ℕ) × (z ≡ pos k)
natural-count (pos k) h = (k, refl)
natural-count (negsuc k) h = absurd (omega (arith, ints, h))

count-of : (v : Valuation) (t : Linear) → Holds v (row_of t AtLeast zero_term Int) → (k : ℕ) × (value v.whole t ≡ pos k)
count-of v t h = natural-count (value v.whole t) (rw (zero-value v.whole) at ((row_of-means v t AtLeast zero_term Int).0 h))

at-most-count : (y z : ℤ) (k n : ℕ) → y ≡ pos k → z ≡ pos n → y ≤ℤ z → k ≤ n
at-most-count y z k n e f h = let l = rw (e, f) at h in omega (arith, ints, l)

-- the source with as many fewer out as there are tokens
returned : (v : Valuation) (n k : Linear) (i j : ℕ) (s : Element) → value v.whole n ≡ pos i → value v.whole k ≡ pos j → Holds v (row_of k AtMost n Int) → IsFormElement v (Src (minus n k)) s → compose (src i) (tokens j) ≡ Some s
returned v n k i j s e f h c =
    let l = at-most-count (value v.whole k) (value v.whole n) j i f e ((row_of-means v k AtMost n Int).0 h) in
    let m = same-number (i - j) c.0 (value v.whole (minus n k)) (counts-rest v n k i j e f l) c.1 in
    src-give i j l ∙ ap (λ z. Some (src z)) m ∙ ap (λ z. Some z) (sym c.2)

-- where the form that is there has an element and the rows hold, an element of the joined form is what elements of
-- the two forms compose to
meet : (v : Valuation) (f g : Form) (x s : Element) → IsFormElement v f x → AllByRecursion (Holds v) (added_rows g) → AllByRecursion (Holds v) (combined_rows f g) → IsFormElement v (combined f g) s → Meet v f g s
meet v (Share a) (Share b) x s h added rows c = shares-meet v a b x s h added rows c
meet v (Src n) (Tok k) x s h added rows c =
    let j = count-of v k added.0 in
    record {
      first = src h.0;
      second = tokens j.0;
      is_first = (h.0, h.1, refl);
      is_second = (j.0, j.1, refl);
      whole = returned v n k h.0 j.0 s h.1 j.1 rows.0 c;
    }
meet v (Tok k) (Src n) x s h added rows c =
    let i = count-of v n added.0 in
    record {
      first = tokens h.0;
      second = src i.0;
      is_first = (h.0, h.1, refl);
      is_second = (i.0, i.1, refl);
      whole = compose-comm (tokens h.0) (src i.0) (tokens-sound h.0) tt ∙ returned v n k i.0 h.0 s i.1 h.1 rows.0 c;
    }
meet v (Tok j) (Tok k) x s h added rows c =
    let i = count-of v k added.0 in
    let m = same-number (h.0 + i.0) c.0 (value v.whole (plus j k)) (counts-sum v j k h.0 i.0 h.1 i.1) c.1 in
    record {
      first = tokens h.0;
      second = tokens i.0;
      is_first = (h.0, h.1, refl);
      is_second = (i.0, i.1, refl);
      whole = tokens-add h.0 i.0 ∙ ap (λ n. Some (tokens n)) m ∙ ap (λ z. Some z) (sym c.2);
    }
meet v f g x s h added rows c = absurd (never-holds v rows.0)

-- ---- two pieces of one part

record Both (a : PlainAlgebra) (k : ℕ) (v : Valuation) (r : ℤ) (q p : Piece) (s : Element) : Type 0 where
  first : Element
  second : Element
  is_first : IsElementAt a k v r q first
  is_second : IsElementAt a k v r p second
  composed : compose first second ≡ Some s

kind-of-both : (k : ℕ) (q p : Piece) (x y s : Element) → q.kind ≡ p.kind → compose x y ≡ Some s → (p.kind ≡ k) ⊎ (s ≡ nothing) → ((q.kind ≡ k) ⊎ (x ≡ nothing)) × ((p.kind ≡ k) ⊎ (y ≡ nothing))
kind-of-both k q p x y s e c (inl h) = (inl (e ∙ h), inl h)
kind-of-both k q p x y s e c (inr h) = let n = made_of_nothing x y s c (ap is_unit h) in (inr n.0, inr n.1)

unjoined : (a : PlainAlgebra) (k : ℕ) (v : Valuation) (r : ℤ) (q p : Piece) (s : Element) → IsPart q p → HasElement v q → AllByRecursion (Holds v) (added_rows p.form) → AllByRecursion (Holds v) (combined_rows q.form p.form) → IsElementAt a k v r (as_one q p) s → Both a k v r q p s
unjoined a k v r q p s i e added rows (inl h) =
    let m = meet v q.form p.form e.0 h.1.0 e.1 added rows h.1.1 in
    let x = atom_element a q.atom m.first in
    let y = atom_element a p.atom m.second in
    let z = ap (λ n. compose (atom_element a n m.first) y) i.atom
    ∙ atom-composed a p.atom m.first m.second (form-sound v q.form m.first m.is_first) (form-sound v p.form m.second m.is_second)
    ∙ ap (λ o. bind o (λ w. Some (atom_element a p.atom w))) m.whole in
    let c : compose x y ≡ Some s = z ∙ ap (λ w. Some w) (sym h.1.2) in
    let n = kind-of-both k q p x y s i.kind c h.2 in
    record {
      first = x;
      second = y;
      is_first = inl (ap (λ t. value v.whole t) i.region ∙ h.0, (m.first, m.is_first, refl), n.0);
      is_second = inl (h.0, (m.second, m.is_second, refl), n.1);
      composed = c;
    }
unjoined a k v r q p s i e added rows (inr h) = record {
  first = nothing;
  second = nothing;
  is_first = inr (λ d. h.0 (ap (λ t. value v.whole t) (sym i.region) ∙ d), refl);
  is_second = inr (h.0, refl);
  composed = ap (λ w. Some w) (sym h.1);
}

-- ---- the pieces that are held, and the new one

pieces-of-joined : (a : PlainAlgebra) (k : ℕ) (v : Valuation) (r : ℤ) (q : Piece) (ps : List Piece) (p : Piece) (zs : List Element) (w : Element) → IsPart q p → HasElement v q → AllByRecursion (Holds v) (added_rows p.form) → AllByRecursion (Holds v) (combined_rows q.form p.form)
    → AreElementsAt a k v r (as_one q p ∷ ps) zs → compose_all zs ≡ Some w → ComposeAt a k v r ((q ∷ ps) ++ (p ∷ [])) w
pieces-of-joined a k v r q ps p [] w i e added rows h c = absurd h
pieces-of-joined a k v r q ps p (z ∷ xs) w i e added rows h c =
    let b = unjoined a k v r q p z i e added rows h.0 in
    let t = bind-is (compose_all xs) (λ y. compose z y) w c in
    let sx = element-sound a k v r q b.first b.is_first in
    let sy = element-sound a k v r p b.second b.is_second in
    let st = all-sound xs t.0 (elements-sound a k v r ps xs h.1) t.1 in
    let m = exchanged b.first b.second t.0 z w sx sy st b.composed t.2 in
    in-a-row a k v r (q ∷ ps) (p ∷ []) m.middle b.second w
    (b.first ∷ xs, (b.is_first, h.1), ap (λ o. bind o (λ y. compose b.first y)) t.1 ∙ m.inner)
    (b.second ∷ [], (b.is_second, tt), compose-nothing b.second) m.outer

-- what the merged pieces compose to, the pieces and the new one do
pieces-of-merged : (a : PlainAlgebra) (k : ℕ) (v : Valuation) (r : ℤ) (ps : List Piece) (p : Piece) (w : Element) → AllByRecursion (HasElement v) ps → AllByRecursion (Holds v) (added_rows p.form) → AllByRecursion (Holds v) (met_rows (there ps p) p.form)
    → ComposeAt a k v r (merged ps p) w → ComposeAt a k v r (ps ++ (p ∷ [])) w
pieces-of-merged a k v r [] p w e added rows c = c
pieces-of-merged a k v r (q ∷ ps) p w e added rows c = elim (true_or_false (joins q p)) [
  | inl same ↦
      let d = rw (merged-same q ps p same) at c in
      pieces-of-joined a k v r q ps p d.0 w (part-is q p (joined-part q p same)) e.0 added (subst (λ o. AllByRecursion (Holds v) (met_rows o p.form)) (there-same q ps p same) rows) d.1 d.2
  | inr other ↦
      let d = rw (merged-other q ps p other) at c in
      let rest = subst (λ o. AllByRecursion (Holds v) (met_rows o p.form)) (there-other q ps p other) rows in
      behind d.0 d.1 d.2 (λ u h. pieces-of-merged a k v r ps p u e.1 added rest h)
]
  where
    behind : (zs : List Element) → AreElementsAt a k v r (q ∷ merged ps p) zs → compose_all zs ≡ Some w → ((u : Element) → ComposeAt a k v r (merged ps p) u → ComposeAt a k v r (ps ++ (p ∷ [])) u) → ComposeAt a k v r ((q ∷ ps) ++ (p ∷ [])) w
    behind [] h f rest = absurd h
    behind (z ∷ zs) h f rest =
        let t = bind-is (compose_all zs) (λ y. compose z y) w f in
        let d = rest t.0 (zs, h.1, t.1) in
        (z ∷ d.0, (h.0, d.1), ap (λ o. bind o (λ y. compose z y)) d.2 ∙ t.2)

-- ---- the law

all-split : {A : Type 0} (P : A → Type 0) (xs ys : List A) → AllByRecursion P (xs ++ ys) → AllByRecursion P xs × AllByRecursion P ys
all-split P [] ys h = (tt, h)
all-split P (x ∷ xs) ys h = let s = all-split P xs ys h.1 in ((h.0, s.0), s.1)

pub merge-suffices : (a : PlainAlgebra) (ps : List Piece) (p : Piece) → MergeSuffices ps p (merged ps p) (merge_rows a ps p)
unfolding merge_rows
merge-suffices a ps p g part v each rows h r =
    let s = all-split (Holds v) (added_rows p.form) (met_rows (there ps p) p.form ++ (beside parted_rows ps p ++ clash_rows (clash a ps p))) rows in
    let t = all-split (Holds v) (met_rows (there ps p) p.form) (beside parted_rows ps p ++ clash_rows (clash a ps p)) s.1 in
    let c = h r in
    (c.0, pieces-of-merged (g.algebra (g.kind r)) (g.kind r) v r ps p c.0 each s.0 t.0 c.1, c.2)

pub merged-suffices : (a : PlainAlgebra) (ps qs : List Piece) (p : Piece) (rows : List Row) → qs ≡ merged ps p → rows ≡ merge_rows a ps p → MergeSuffices ps p qs rows
merged-suffices a ps qs p rows e f = rw (e, f) (merge-suffices a ps p)
