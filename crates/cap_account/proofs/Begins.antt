-- Main's start is sound: where there is no region yet, a part without guards that meets an
-- assertion owns it as a stock, and main's body stands with the whole heap.
use Rattle.cap_account_resources.proofs.Order.{same-or}
use Rattle.std.proofs.Common.{◌≡◌, inl, inr, ℕ, zero, suc, ℤ, Bool, true, false, List, [], ◌∷◌, Option, Some, None, refl, sym, ap, ◌∙◌, subst, arith}
use Rattle.std.specs.Prelude.{◌==◌, if◌then◌else◌, option_to_list, option_map}
use Rattle.std.specs.Ordering.{int_cmp}
use Rattle.std.specs.FinMap.{get, get-empty}
use Rattle.cap_lin.specs.Values.{Valuation, value}
use Rattle.cap_galg.specs.Elements.{Element, is_unit, compose}
use Rattle.cap_galg.specs.Algebras.{PlainAlgebra, IsElement, atom_algebra, atom_element}
use Rattle.cap_galg.specs.Laws.Composition.{composed-not-unit, true_or_false}
use Rattle.cap_galg.specs.Laws.Algebras.{sound-of}
use Rattle.cap_galg.specs.Laws.Placing.{atom-some}
use Rattle.cap_prog.specs.declared.assertion.Asked.{Asked}
use Rattle.cap_prog.specs.declared.assertion.Asked.TheVariants.{One, Share, Src, Tok, At, From}
use Rattle.cap_prog.specs.Program.{PlainItem, compare, choose, fact, atom, cell, Items, none, item, PlainFunction, PlainProgram}
use Rattle.cap_machine.specs.Machine.{Heap, Frame, new_frame}
use Rattle.cap_machine_accounts.specs.Parts.{Guard, join, guard_of, or_none, algebra_of, with_guard, Part, guard_at, without_cell}
use Rattle.cap_machine_accounts.specs.Assertions.{NameValue, IsAsked, Takes, TakesAll, MeetsRequires}
use Rattle.cap_machine_accounts.specs.Accounts.{Held}
use Rattle.cap_machine_accounts.specs.Safety.{whole_part, first_account}
use Rattle.cap_account_resources.specs.Parts.{no_regions}
use Rattle.cap_account_resources.proofs.Lists.{some-same, none-some}
use Rattle.cap_account_resources.proofs.Heaps.{removed}
use Rattle.cap_account_resources.proofs.Monoid.{none as empty_sum, atom as at, both as plus}
use Rattle.cap_account_resources.proofs.Marks.{Mark, free, of, joins-law}
use Rattle.cap_account_resources.proofs.Covering.{join_marks, mark, mark-unit, mark-of}
use Rattle.cap_account_resources.proofs.Room.{alone-here, alone-away}
use Rattle.cap_account_resources.proofs.Stocks.{Stock, cell_stock, guard_stock, both, same-stock, inside-is, reordered}
use Rattle.cap_account_resources.proofs.Tables.{FitsRoom}
use Rattle.cap_account_states.proofs.Checked.{Checked}
use Rattle.cap_account_states.proofs.Wants.{Wants}
use Rattle.cap_account_assertions.proofs.Asserted.{Draws, DrawsAll, OwnsRequires}
use Rattle.cap_account_steps.proofs.Frames.{Stands, Roomy}
use Rattle.cap_account_steps.proofs.Statements.{BodyLaw}
use Rattle.cap_account.proofs.Stocked.{part_stock, StackStands, EachStands, StartLaw, Sound, account_stock}
use Rattle.cap_account.proofs.Drawn.{changed-here, changed-away}

-- ---- guards that join to none

-- no guard does
never-none :
    (k : ℕ) (x : Element) (h : Option Guard) → is_unit x ≡ false → join (of k x) h ≡ Some None → ⊥
never-none k x None u e = cc
never-none k x (Some h) u e = by (k == h.kind) (compose x h.element) refl e
  where
    by :
        (b : Bool) (o : Option Element) → compose x h.element ≡ o →
        (if b then or_none k o else None) ≡ Some None → ⊥
    by true None d q = cc
    by true (Some z) d q =
        let f = composed-not-unit x h.element z u d in
        let m : Some (of k z) ≡ Some None = sym (mark-of k z f) ∙ q in
        cc
    by false o d q = cc

-- so the guard is none, and the other one as well
joined-none :
    (k : ℕ) (x : Element) (h : Option Guard) → join (guard_of k x) h ≡ Some None →
    (is_unit x ≡ true) × (h ≡ None)
joined-none k x h e = elim (true_or_false (is_unit x)) [
  | inl u ↦
      let g : guard_of k x ≡ None = some-same (guard_of k x) None (mark-unit k x u) in
      (u, some-same h None (ap (λ y. join y h) (sym g) ∙ e))
  | inr f ↦
      let g : guard_of k x ≡ of k x = some-same (guard_of k x) (of k x) (mark-of k x f) in
      absurd (never-none k x h f (ap (λ y. join y h) (sym g) ∙ e))
]

-- what is asked of an atom and is nothing is asked at the values' denominator too: it is no share
nothing-wanted :
    (a : PlainAlgebra) (i : ℕ) (v : Valuation) (asked : Asked) (x : Element) →
    IsElement (atom_algebra a i) x → is_unit (atom_element a i x) ≡ true → IsAsked v asked x →
    Wants v asked x
nothing-wanted a i v One x e u h = h
nothing-wanted a i v (Share s) x e u h =
    let p = atom-some a i x
    (record { sound = sound-of (atom_algebra a i) x e; some = ap is_unit h.3 }) in
    let no_unit : true ≡ false = sym u ∙ ap is_unit p.0 ∙ p.1.some in
    absurd (cc)
nothing-wanted a i v (Src s) x e u h = h
nothing-wanted a i v (Tok s) x e u h = h
nothing-wanted a i v (At s) x e u h = h
nothing-wanted a i v (From s) x e u h = h

-- ---- parts without guards

abbrev Bare : Part → Type 0
Bare q = (n : ℤ) → guard_at q n ≡ None

bare-like : (q r : Part) → part_stock r ≡ part_stock q → Bare q → Bare r
bare-like q r e b n =
    some-same (guard_at r n) (guard_at q n) (ap (λ (s : Stock). s.guards n) e) ∙ b n

guard-kept :
    (q : Part) (n : ℤ) (g : Option Guard) → g ≡ guard_at q n →
    part_stock (with_guard q n g) ≡ part_stock q
guard-kept q n g e =
    same-stock (part_stock (with_guard q n g)) (part_stock q) (λ a z. refl) (λ k. ap Some
    (elim (same-or k n) [
      | inl c ↦ changed-here q.guards n k g c ∙ e ∙ ap (guard_at q) (sym c)
      | inr c ↦ changed-away q.guards n k g c
    ]))

module _ (p : PlainProgram) where
  nothing-drawn :
      (n : ℤ) (m : Option Mark) (q : Stock) → m ≡ Some free → both p (guard_stock n m) q ≡ q
  nothing-drawn n m q e =
      same-stock (both p (guard_stock n m) q) q (λ a z. omega arith) (λ k.
      ap (λ x. join_marks p x (q.guards k)) (elim (same-or n k) [
        | inl c ↦ alone-here n m k c ∙ e
        | inr c ↦ alone-away n m k c
      ])
      ∙ (joins-law p).zero_left (q.guards k))

  cell-back :
      (q : Part) (a z : ℤ) → get q.cells a ≡ Some z →
      both p (cell_stock a z) (part_stock (without_cell q a)) ≡ part_stock q
  cell-back q a z e =
      same-stock (both p (cell_stock a z) (part_stock (without_cell q a))) (part_stock q)
      (λ b y. let m = removed q.cells a z b y e in omega (arith, m))
      (λ n. (joins-law p).zero_left (Some (guard_at q n)))

  -- ---- items

  mutual
    item-drawn :
        (v : Valuation) (i : PlainItem) (q r : Part) → Bare q → Takes p [] v i q r →
        Bare r × Draws p no_regions v i (part_stock q) (part_stock r)
    item-drawn v (compare c) q r b h =
        let e = ap part_stock h.1 in
        (bare-like q r e b, (h.0, inside-is p (part_stock r) (part_stock q) e))
    item-drawn v (choose c x y) q r b h = elim h [
      | inl m ↦ let k = all-drawn v x q r b m.1 in (k.0, inl (m.0, k.1))
      | inr m ↦ let k = all-drawn v y q r b m.1 in (k.0, inr (m.0, k.1))
    ]
    item-drawn v (fact place n k args s) q r b h = absurd (none-some h.0.is_region)
    item-drawn v (atom place n k i asked) q r b h =
        let z = v.whole n in
        let t = h.1 in
        let y = atom_element (algebra_of p k) i t.element in
        let j = joined-none k y h.0 (t.joined ∙ ap Some (b z)) in
        let e = ap part_stock h.2 ∙ guard-kept q z h.0 (j.1 ∙ sym (b z)) in (
          bare-like q r e b,
          (
            mark k y,
            record {
              element = t.element;
              wanted = nothing-wanted (algebra_of p k) i v asked t.element t.of_atom j.0 t.is_asked;
              of_atom = t.of_atom;
              is_mark = refl;
            },
            inside-is p (both p (guard_stock z (mark k y)) (part_stock r)) (part_stock q)
                (nothing-drawn z (mark k y) (part_stock r) (mark-unit k y j.0) ∙ e),
          ),
        )
    item-drawn v (cell place a s) q r b h =
        let x = value v.whole a in
        let own = h.0 in
        let e = ap part_stock h.1 in (
          bare-like (without_cell q x) r e b,
          (
            own.number,
            own.positive,
            own.content_is,
            inside-is p (both p (cell_stock x own.number) (part_stock r)) (part_stock q)
                (ap (both p (cell_stock x own.number)) e ∙ cell-back q x own.number own.is_cell),
          ),
        )

    all-drawn :
        (v : Valuation) (xs : Items) (q r : Part) → Bare q → TakesAll p [] v xs q r →
        Bare r × DrawsAll p no_regions v xs (part_stock q) (part_stock r)
    all-drawn v none q r b h =
        let e = ap part_stock h in
        (bare-like q r e b, inside-is p (part_stock r) (part_stock q) e)
    all-drawn v (item i more) q r b h =
        let one = item-drawn v i q h.0 b h.1 in
        let rest = all-drawn v more h.0 r one.0 h.2 in
        (rest.0, (part_stock h.0, one.1, rest.1))

  pub requires-owned :
      (f : PlainFunction) (q : Part) (args : List ℤ) (fixed : List NameValue) → Bare q →
      MeetsRequires p [] q f args fixed → OwnsRequires p no_regions (part_stock q) f args fixed
  requires-owned f q args fixed b m = record {
    values = m.values;
    args_are = m.args_are;
    fixed_are = m.fixed_are;
    met = (part_stock m.met.0, (all-drawn m.values f.requires q m.met.0 b m.met.1).1);
  }

-- ---- the start

-- the whole heap, without guards, is within the room of no regions
whole-fits : (p : PlainProgram) (heap : Heap) → FitsRoom p no_regions (part_stock (whole_part heap))
whole-fits p heap n = (Some free, ap (λ g. join_marks p (Some g) (Some free)) (get-empty int_cmp n))

whole-roomy : (p : PlainProgram) (heap : Heap) → Roomy p no_regions (part_stock (whole_part heap))
whole-roomy p heap = record {
  fits = λ n e h. absurd (none-some h);
  full = λ n e h. absurd (none-some h);
  room = whole-fits p heap;
  bound = [];
  listed = λ n e h. absurd (none-some h);
}

-- the first account has nothing else
first-stock :
    (p : PlainProgram) (heap : Heap) (fixed : List NameValue) →
    account_stock p (first_account heap fixed) ≡ part_stock (whole_part heap)
first-stock p heap fixed =
    let q = part_stock (whole_part heap) in
    reordered p (q ∷ []) (plus (plus (plus (at 0) empty_sum) empty_sum) empty_sum) (at 0) refl

one-frame :
    (p : Checked) (heap : Heap) (fixed : List NameValue) (f : Frame) →
    Stands p (part_stock (whole_part heap)) no_regions fixed f →
    Sound p (record { heap = heap; threads = (f ∷ []) ∷ [] }) (first_account heap fixed)
one-frame p heap fixed f st = record {
  count = refl;
  heap = λ x z. omega arith;
  room =
      subst (FitsRoom p.program no_regions) (sym (first-stock p.program heap fixed))
      (whole-fits p.program heap);
  differ = tt;
  regions = tt;
  stacks = only;
}
  where
    h : Held
    h = record { part = whole_part heap; fixed = fixed }

    only : EachStands p no_regions ((f ∷ []) ∷ []) ((h ∷ []) ∷ [])
    only zero t hs x y =
        subst (λ u. StackStands p no_regions u hs) (some-same (f ∷ []) t x)
        (subst (StackStands p no_regions (f ∷ [])) (some-same (h ∷ []) hs y) (st, tt))
    only (suc i) t hs x y = absurd (none-some x)

pub body-begins : (p : Checked) → BodyLaw p → StartLaw p
body-begins p bodies heap main fixed args s =
    let n = p.program.main in
    let q = whole_part heap in
    let owned = requires-owned p.program main q args fixed (λ k. get-empty int_cmp k) s.meets in
    let stands = bodies n main s.is_main no_regions (part_stock q) args fixed None
    (whole-roomy p.program heap) s.arity s.values_fit owned in
    subst (λ o. Sound p (record {
      heap = heap;
      threads = option_to_list (option_map (λ f. new_frame n f args None) o) ∷ [];
    }) (first_account heap fixed)) (sym s.is_main)
    (one-frame p heap fixed (new_frame n main args None) stands)
