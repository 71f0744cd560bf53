-- Parts before and after a step: no cell and no guard is invented.
use Rattle.cap_account_resources.proofs.Tables.{fits-composes, FitsRoom, guards_if_new, new_guards}
use Rattle.std.proofs.Common.{◌≡◌, ◌⊎◌, inl, inr, ℤ, Bool, true, false, List, [], ◌∷◌, Option, Some, None, sym, ap, ◌∙◌, subst, arith}
use Rattle.std.specs.Prelude.{filter, if◌then◌else◌, option_map}
use Rattle.std.specs.FinMap.{get}
use Rattle.cap_lin.specs.Linear.{same_number}
use Rattle.cap_galg.specs.Algebras.{full}
use Rattle.cap_prog.specs.Program.{PlainProgram}
use Rattle.cap_machine.specs.Machine.{Heap}
use Rattle.cap_machine_accounts.specs.Parts.{Guard, IsGuard, GuardAtMost, algebra_of, full_guard, Part, guards_at, Region, region_at}
use Rattle.cap_machine_accounts.specs.Accounts.{OwnedRegion, table_of}
use Rattle.cap_machine_accounts.specs.Following.{is_opened, opened_parts, SomeHasCell, Exchanges}
use Rattle.cap_account_resources.specs.Parts.{Known, Table}
use Rattle.cap_account_resources.proofs.Lists.{some-same, none-some}
use Rattle.cap_account_resources.proofs.Marks.{Mark, free, is-full, is-present}
use Rattle.cap_account_resources.proofs.Covering.{join_marks, IsPartOf, part-trans, free-right, mark-of}
use Rattle.cap_account_resources.proofs.Interference.{met-joins, met-guard}
use Rattle.cap_account_resources.proofs.Room.{room, room_of, in-room}
use Rattle.cap_account_resources.proofs.Stocks.{Stock, both, Inside, inside-cells, inside-guards}
use Rattle.cap_account.proofs.Stocked.{part_stock, sum_by, owner_of, owners, owner_at, known_by, table_by}
use Rattle.cap_account.proofs.Totals.{parts_stock, sum-map, sum-guards}
use Rattle.cap_account.proofs.Parts.{plain, plain-is, room-is-guard, cell-counted, counted-cell}
use Rattle.cap_account.proofs.Drawn.{tells}
use Rattle.cap_account.proofs.Chosen.{sum-filter, if_numbered}
use Rattle.cap_account.proofs.Changes.{Recells}

-- ---- the parts of opened regions, as stocks

pub opened-sum :
    (p : PlainProgram) (ns : List ℤ) (rs : List OwnedRegion) →
    parts_stock p (opened_parts ns rs) ≡ sum_by p (if_numbered ns) (owners rs)
opened-sum p ns rs =
    sum-map p part_stock (λ (r : OwnedRegion). r.part) (filter (is_opened ns) rs)
    ∙ sum-filter p (is_opened ns) (λ r. part_stock r.part) rs
    ∙ sym (sum-map p (if_numbered ns) owner_of rs)

-- a region of the account is one of the table
pub region-told :
    (rs : List OwnedRegion) (n : ℤ) (r : Region) → region_at (table_of rs) n ≡ Some r →
    table_by (owners rs) n ≡ Some (tells r)
region-told [] n r e = absurd (none-some e)
region-told (y ∷ rs) n r e = by (same_number y.region.number n) e (λ k. region-told rs n r k)
  where
    by :
        (b : Bool) → (if b then Some y.region else region_at (table_of rs) n) ≡ Some r →
        (region_at (table_of rs) n ≡ Some r → table_by (owners rs) n ≡ Some (tells r)) →
        option_map known_by (if b then Some (owner_of y) else owner_at (owners rs) n)
        ≡ Some (tells r)
    by true e f = ap (λ s. Some (tells s)) (some-same y.region r e)
    by false e f = f e

module _ (p : PlainProgram) (T : Table) where
  -- what is within the room is a guard
  mark-is-guard : (n : ℤ) (m : Mark) → IsPartOf p (Some m) (room p T n) → IsGuard p m
  mark-is-guard n None h = tt
  mark-is-guard n (Some g) h = room-is-guard p T n g (in-room p T n g.kind g.element h)

  -- and part of more is at most that
  at-most :
      (n : ℤ) (g h : Mark) → IsPartOf p (Some h) (room p T n) → IsPartOf p (Some g) (Some h) →
      GuardAtMost p g h
  at-most n g h roomy (None, e) = absurd (none-some e)
  at-most n g h roomy (Some c, e) =
      (c, met-guard p g c h e (mark-is-guard n h roomy), met-joins p g c h e)

  -- guards of parts within the room compose
  pub parts-compose :
      (qs : List Part) → FitsRoom p T (parts_stock p qs) → (n : ℤ) →
      (g : Option Guard) × (guards_at qs n ≡ Some g) × ((parts_stock p qs).guards n ≡ Some g)
  parts-compose qs roomy n =
      let o = (parts_stock p qs).guards n in
      let is = sym (plain-is o (fits-composes p T (parts_stock p qs) roomy n)) in
      (plain o, sum-guards p qs n (plain o) is, is)

  composed-are :
      (qs : List Part) → FitsRoom p T (parts_stock p qs) → (n : ℤ) (g : Option Guard) →
      guards_at qs n ≡ Some g → (parts_stock p qs).guards n ≡ Some g
  composed-are qs roomy n g e =
      let c = parts-compose qs roomy n in c.2 ∙ sym c.1 ∙ e

-- ---- nothing is invented

-- parts before and after, by two tables; what was held then was of the parts before
pub record Exchanged (p : PlainProgram) (old_heap heap : Heap) (V U : Table)
    (before after : List Part) : Type 0 where
  pub entered : Stock
  pub held : Stock
  pub recells : Recells entered held old_heap heap
  pub was : Inside p entered (parts_stock p before)
  pub budget : Inside p (parts_stock p after) (both p held (new_guards p V U))
  pub room_before : FitsRoom p V (parts_stock p before)
  pub room_after : FitsRoom p U (parts_stock p after)

module _ (p : PlainProgram) (old_heap heap : Heap) (V U : Table) (before after : List Part)
    (x : Exchanged p old_heap heap V U before after) where
  cell-was : (a : ℤ) → SomeHasCell after a → SomeHasCell before a ⊎ (get old_heap a ≡ None)
  cell-was a h =
      let c = cell-counted p heap after a h in
      let i = inside-cells p (parts_stock p after) (both p x.held (new_guards p V U)) x.budget a
      c.0 in
      let k = c.1 in
      elim (x.recells.come a c.0 (omega (arith, i, k))) [
        | inl y ↦
            let m = inside-cells p x.entered (parts_stock p before) x.was a y.0 in
            let n = y.1 in
            inl (counted-cell p heap before a y.0 (omega (arith, m, n)))
        | inr none ↦ inr none
      ]

  -- of a region that was there, no more than before
  old-guards :
      (n : ℤ) (e : Known) → V n ≡ Some e →
      IsPartOf p ((parts_stock p after).guards n) ((parts_stock p before).guards n)
  old-guards n e known =
      part-trans p ((parts_stock p after).guards n) (x.entered.guards n)
      ((parts_stock p before).guards n)
      (subst (IsPartOf p ((parts_stock p after).guards n))
      (ap (λ o. join_marks p (x.held.guards n) (guards_if_new p o (U n))) known
      ∙ free-right p (x.held.guards n)
      ∙ x.recells.guards n)
      (inside-guards p (parts_stock p after) (both p x.held (new_guards p V U)) x.budget n))
      (inside-guards p x.entered (parts_stock p before) x.was n)

  -- a new region has all its guards
  full-room : (n : ℤ) (e : Known) → U n ≡ Some e → room p U n ≡ Some (full_guard p e.kind)
  full-room n e known =
      ap (room_of p) known
      ∙ sym (mark-of e.kind (full (algebra_of p e.kind))
      (is-present p e.kind (full (algebra_of p e.kind)) (is-full p e.kind)))

  pub exchanges :
      (old made : List Region) →
      ((n : ℤ) (r : Region) → region_at old n ≡ Some r → V n ≡ Some (tells r)) →
      ((n : ℤ) (r : Region) → region_at made n ≡ Some r → U n ≡ Some (tells r)) →
      Exchanges p old_heap old made before after
  exchanges old made was is = record {
    cells = cell-was;
    guards = λ n g h eg bound.
        let mine = composed-are p U after x.room_after n g eg in
        elim bound [
          | inl b ↦
              let all = composed-are p V before x.room_before n h b.2 in
              at-most p V n g h
              (subst (λ o. IsPartOf p o (room p V n)) all (x.room_before n))
              (subst (λ o. IsPartOf p o (Some h)) mine
              (subst (IsPartOf p ((parts_stock p after).guards n)) all
              (old-guards n (tells b.0) (was n b.0 b.1))))
          | inr b ↦
              let all = full-room n (tells b.0) (is n b.0 b.1) ∙ ap Some (sym b.2) in
              at-most p U n g h (
                Some free,
                ap (λ o. join_marks p o (Some free)) (sym all)
                    ∙ free-right p (room p U n),
              )
              (subst (λ o. IsPartOf p o (Some h)) mine
              (subst (IsPartOf p ((parts_stock p after).guards n)) all (x.room_after n)))
        ];
  }
