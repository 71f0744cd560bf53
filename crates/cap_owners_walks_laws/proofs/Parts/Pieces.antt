-- What pieces are together, each by its element, and that putting their guards into a part is told
-- of.
use Rattle.std.proofs.Common.{◌≡◌, ◌≢◌, inl, inr, ℕ, ℤ, Bool, true, false, List, [], ◌∷◌, Some, None, refl, sym, ap, ◌∙◌, subst, arith}
use Rattle.std.specs.Prelude.{if◌then◌else◌}
use Rattle.std.specs.List.{AllZip}
use Rattle.cap_lin.specs.Values.{Valuation}
use Rattle.cap_galg.specs.Elements.{Element, nothing, compose}
use Rattle.cap_galg.specs.Lists.{compose_all}
use Rattle.cap_galg.specs.Algebras.{atom_element}
use Rattle.cap_galg.specs.Laws.Composition.{bind-is, unit-is, some-same}
use Rattle.cap_gsolve.specs.declared.piece.Piece.{Piece}
use Rattle.cap_gsolve.specs.Meaning.{IsFormElement, region_of, IsElementAt, AreElementsAt}
use Rattle.cap_gsolve.proofs.Held.{at-own}
use Rattle.cap_prog.specs.Program.{PlainProgram}
use Rattle.cap_machine_accounts.specs.Parts.{join, algebra_of, atom_guard, with_guard, Part, guard_at}
use Rattle.cap_machine_accounts.specs.Assertions.{NameValue}
use Rattle.cap_account_resources.proofs.Order.{same-or}
use Rattle.cap_account_resources.proofs.Marks.{Mark, of, joins-law, meets-join}
use Rattle.cap_account_resources.proofs.Covering.{join_marks, mark, free-right, composed, unit-form}
use Rattle.cap_account_resources.proofs.Room.{alone-here, alone-away}
use Rattle.cap_account_resources.proofs.Stocks.{Stock, no_stock, guard_stock, both, Composes, stock-laws, same-stock, none-right}
use Rattle.cap_account_states.proofs.Pieces.{AllFit, element-of, elements-of, mark-joined}
use Rattle.cap_account_states.proofs.PiecesHeld.{piece_stock}
use Rattle.cap_account.proofs.Stocked.{part_stock}
use Rattle.cap_account.proofs.Drawn.{changed-here, changed-away}
use Rattle.cap_owners_spec.specs.Traced.{traced, past_width, ◌>>=◌, found, valuation, number_in}
use Rattle.cap_owners_spec.specs.Filling.{form_element, counts_fit, fitting, joined, with_more, with_pieces}
use Rattle.cap_owners_laws.specs.Owned.{IsTold}
use Rattle.cap_owners_walks_laws.proofs.Parts.Telling.{told-on, told-more}
use Rattle.cap_owners_walks_laws.proofs.Parts.Forms.{number-so, form-only, form-told}

-- these are the elements of the pieces' forms
abbrev pub AreForms : Valuation → List Piece → List Element → Type 0
AreForms v ps xs = AllZip (λ (g : Piece) (x : Element). IsFormElement v g.form x) ps xs

-- all of the pieces, by their elements
abbrev pub pieces_stock : PlainProgram → Valuation → List Piece → List Element → Stock
pieces_stock p v (g ∷ gs) (x ∷ xs) = both p (piece_stock p v g x) (pieces_stock p v gs xs)
pieces_stock p v gs xs = no_stock

-- ---- their elements

-- where they have elements at each region, each has one at its own
pub own-elements :
    (p : PlainProgram) (v : Valuation) (gs : List Piece) →
    ((n : ℤ) → (k : ℕ) × (ys : List Element) × AreElementsAt (algebra_of p k) k v n gs ys) →
    (xs : List Element) × AreForms v gs xs
own-elements p v [] at = ([], tt)
own-elements p v (g ∷ gs) at =
    let here = at (region_of v g) in
    let x = own here.0 here.1 here.2 in
    let more = own-elements p v gs (λ n. (let h = at n in tail h.0 n h.1 h.2)) in
    (x.0 ∷ more.0, (x.1, more.1))
  where
    own :
        (k : ℕ) (ys : List Element) →
        AreElementsAt (algebra_of p k) k v (region_of v g) (g ∷ gs) ys →
        (x : Element) × IsFormElement v g.form x
    own k [] h = absurd h
    own k (y ∷ ys) h =
        let o = at-own (algebra_of p k) k v (region_of v g) g y refl h.0 in (o.own, o.form)

    tail :
        (k : ℕ) (n : ℤ) (ys : List Element) →
        AreElementsAt (algebra_of p k) k v n (g ∷ gs) ys →
        (k : ℕ) × (ys : List Element) × AreElementsAt (algebra_of p k) k v n gs ys
    tail k n [] h = absurd h
    tail k n (y ∷ ys) h = (k, ys, h.1)

module _ (p : PlainProgram) (v : Valuation) where
  -- a piece at a region is what it is there by any of the region's algebras
  pub piece-at :
      (k : ℕ) (n : ℤ) (g : Piece) (x y : Element) → IsFormElement v g.form x →
      IsElementAt (algebra_of p k) k v n g y → (piece_stock p v g x).guards n ≡ mark k y
  piece-at k n g x y f (inr h) =
      alone-away (region_of v g) (mark g.kind (atom_element (algebra_of p g.kind) g.atom x)) n h.0
      ∙ ap (mark k) (sym h.1)
  piece-at k n g x y f (inl h) =
      let same : x ≡ h.1.0 = form-only v g.form x h.1.0 f h.1.1 in
      alone-here (region_of v g) (mark g.kind (atom_element (algebra_of p g.kind) g.atom x)) n h.0
      ∙ ap (λ w. mark g.kind (atom_element (algebra_of p g.kind) g.atom w)) same
      ∙ elim h.2 [
        | inl e ↦ ap (λ l. mark l (atom_element (algebra_of p l) g.atom h.1.0)) e
            ∙ ap (mark k) (sym h.1.2)
        | inr e ↦
            let u = unit-form (algebra_of p k) v g h.1.0 h.1.1 (sym e ∙ h.1.2) in
            ap (λ w. mark g.kind (atom_element (algebra_of p g.kind) g.atom w))
            (unit-is h.1.0 u) ∙ ap (mark k) (sym e)
      ]

  -- what they compose to at a region is what they have there
  pub pieces-at :
      (k : ℕ) (n : ℤ) (gs : List Piece) (xs ys : List Element) (z : Element) → AllFit p gs →
      AreForms v gs xs → AreElementsAt (algebra_of p k) k v n gs ys → compose_all ys ≡ Some z →
      (pieces_stock p v gs xs).guards n ≡ mark k z
  pieces-at k n [] [] [] z fit f h e = ap (mark k) (some-same nothing z e)
  pieces-at k n [] [] (y ∷ ys) z fit f h e = absurd h
  pieces-at k n [] (x ∷ xs) ys z fit f h e = absurd f
  pieces-at k n (g ∷ gs) [] ys z fit f h e = absurd f
  pieces-at k n (g ∷ gs) (x ∷ xs) [] z fit f h e = absurd h
  pieces-at k n (g ∷ gs) (x ∷ xs) (y ∷ ys) z fit f h e =
      let t = bind-is (compose_all ys) (λ w. compose y w) z e in
      ap (λ m. join_marks p m ((pieces_stock p v gs xs).guards n)) (piece-at k n g x y f.0 h.0)
      ∙ ap (join_marks p (mark k y)) (pieces-at k n gs xs ys t.0 fit.1 f.1 h.1 t.1)
      ∙ mark-joined p k y t.0 z (element-of p k v n g y fit.0 h.0)
      (elements-of p k v n gs ys t.0 fit.1 h.1 t.1) t.2

-- ---- guards that are put into a part

module _ (p : PlainProgram) where
  -- marks that join are guards that do
  join-is :
      (g h : Mark) → join_marks p (Some g) (Some h) ≢ None →
      (m : Mark) × (join g h ≡ Some m) × (join_marks p (Some g) (Some h) ≡ Some m)
  join-is None h ne = (h, refl, refl)
  join-is (Some g) None ne = (Some g, refl, refl)
  join-is (Some g) (Some h) ne =
      let c = composed p g.kind g.element h.kind h.element ne in (
        of g.kind c.element,
        sym (meets-join p g h c.first c.second) ∙ c.joined,
        c.joined,
      )

  fitting-so : (m : Mark) → IsTold (λ h. h ≡ m) (fitting m)
  fitting-so None = refl
  fitting-so (Some g) = by (counts_fit g.element)
    where
      by : (b : Bool) → IsTold (λ h. h ≡ Some g) (if b then traced (Some g) else past_width)
      by true = refl
      by false = tt

  joined-so : (g h m : Mark) → join g h ≡ Some m → IsTold (λ k. k ≡ m) (joined g h)
  joined-so g h m e =
      subst (λ o. IsTold (λ k. k ≡ m) (found o >>= fitting)) (sym e) (fitting-so m)

  with-guard-stock :
      (q : Part) (n : ℤ) (h m k : Mark) → k ≡ m →
      join_marks p (Some (guard_at q n)) (Some h) ≡ Some m →
      part_stock (with_guard q n k) ≡ both p (part_stock q) (guard_stock n (Some h))
  with-guard-stock q n h m k e j =
      same-stock (part_stock (with_guard q n k)) (both p (part_stock q) (guard_stock n (Some h)))
      (λ a z. omega arith)
      (λ i. elim (same-or n i) [
        | inl s ↦ ap Some (changed-here q.guards n i k (sym s) ∙ e) ∙ sym j
            ∙ ap (λ w. join_marks p (Some (guard_at q w)) (Some h)) s
            ∙ ap (join_marks p (Some (guard_at q i))) (sym (alone-here n (Some h) i s))
        | inr ne ↦ ap Some (changed-away q.guards n i k (λ s. ne (sym s)))
            ∙ sym (free-right p (Some (guard_at q i)))
            ∙ ap (join_marks p (Some (guard_at q i))) (sym (alone-away n (Some h) i ne))
      ])

  -- one guard more is just that
  pub more-told :
      (q : Part) (n : ℤ) (h : Mark) → join_marks p (Some (guard_at q n)) (Some h) ≢ None →
      IsTold (λ r. part_stock r ≡ both p (part_stock q) (guard_stock n (Some h))) (with_more q n h)
  more-told q n h ne =
      let j = join-is (guard_at q n) h ne in
      told-on (λ k. k ≡ j.0)
      (λ r. part_stock r ≡ both p (part_stock q) (guard_stock n (Some h))) (joined (guard_at q n) h)
      (λ k. traced (with_guard q n k)) (joined-so (guard_at q n) h j.0 j.1)
      (λ k e. with-guard-stock q n h j.0 k e j.2)

module _ (p : PlainProgram) (vs : List NameValue) where
  abbrev v : Valuation
  v = valuation vs

  -- where all compose with the part, it gets just them, unless a number leaves its bounds
  pub pieces-told :
      (gs : List Piece) (xs : List Element) (q : Part) → AreForms v gs xs →
      Composes (both p (part_stock q) (pieces_stock p v gs xs)) →
      IsTold (λ r. part_stock r ≡ both p (part_stock q) (pieces_stock p v gs xs))
      (with_pieces p vs q gs)
  pieces-told [] [] q f ne = sym (none-right p (part_stock q))
  pieces-told [] (x ∷ xs) q f ne = absurd f
  pieces-told (g ∷ gs) [] q f ne = absurd f
  pieces-told (g ∷ gs) (x ∷ xs) q f ne =
      let P : Part → Type 0 = λ r. part_stock r
      ≡ both p (part_stock q) (pieces_stock p v (g ∷ gs) (x ∷ xs)) in
      told-on (λ n. n ≡ region_of v g) P (number_in vs g.region)
      (λ n. form_element vs g.form
      >>= λ y. with_more q n (atom_guard p g.kind g.atom y) >>= λ r. with_pieces p vs r gs)
      (number-so vs g.region)
      (λ n e. told-on (λ y. y ≡ x) P (form_element vs g.form)
      (λ y. with_more q n (atom_guard p g.kind g.atom y) >>= λ r. with_pieces p vs r gs)
      (form-told vs g.form x f.0)
      (λ y i. subst (λ m. IsTold P
      (with_more q m (atom_guard p g.kind g.atom y) >>= λ r. with_pieces p vs r gs)) (sym e)
      (subst (λ z. IsTold P
      (with_more q (region_of v g) (atom_guard p g.kind g.atom z) >>= λ r. with_pieces p vs r gs))
      (sym i)
      (on (λ r h. pieces-told gs xs r f.1 h)))))
    where
      rest : Stock
      rest = pieces_stock p v gs xs

      one : Stock
      one = piece_stock p v g x

      here : Mark
      here = atom_guard p g.kind g.atom x

      first : join_marks p (Some (guard_at q (region_of v g))) (Some here) ≢ None
      first e =
          let a = Some (guard_at q (region_of v g)) in
          let b = one.guards (region_of v g) in
          let c = rest.guards (region_of v g) in
          ne (region_of v g)
          (sym ((joins-law p).assoc a b c)
          ∙ ap (λ w. join_marks p w c)
          (ap (join_marks p a) (alone-here (region_of v g) (Some here) (region_of v g) refl) ∙ e))

      on :
          ((r : Part) → Composes (both p (part_stock r) rest) →
          IsTold (λ t. part_stock t ≡ both p (part_stock r) rest) (with_pieces p vs r gs)) →
          IsTold (λ r. part_stock r ≡ both p (part_stock q) (both p one rest))
          (with_more q (region_of v g) here >>= λ r. with_pieces p vs r gs)
      on later =
          told-on (λ r. part_stock r ≡ both p (part_stock q) one)
          (λ r. part_stock r ≡ both p (part_stock q) (both p one rest))
          (with_more q (region_of v g) here) (λ r. with_pieces p vs r gs)
          (more-told p q (region_of v g) here first)
          (λ r e.
          let same = ap (λ w. both p w rest) e ∙ (stock-laws p).assoc (part_stock q) one rest in
          told-more (λ t. part_stock t ≡ both p (part_stock r) rest)
          (λ t. part_stock t ≡ both p (part_stock q) (both p one rest)) (with_pieces p vs r gs)
          (λ t h. h ∙ same) (later r (subst Composes (sym same) ne)))
