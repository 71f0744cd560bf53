-- Parts as stocks: nothing is taken at first, the pieces of what is backed have elements, and what
-- is left where a region is created.
use Rattle.std.proofs.Common.{◌≡◌, ℕ, zero, suc, ◌+◌, ◌≤◌, ℤ, List, [], ◌∷◌, Some, refl, ap, subst, arith}
use Rattle.std.specs.Prelude.{slice_get}
use Rattle.std.specs.FinMap.{get-empty}
use Rattle.std.specs.Ordering.{int_cmp}
use Rattle.cap_lin.specs.Values.{Valuation}
use Rattle.cap_galg.specs.Elements.{Element}
use Rattle.cap_gsolve.specs.declared.piece.Piece.{Piece}
use Rattle.cap_gsolve.specs.Meaning.{IsFormElement}
use Rattle.cap_prog.specs.Program.{PlainProgram}
use Rattle.cap_goal_spec.specs.States.{PlainState}
use Rattle.cap_machine_accounts.specs.Parts.{no_part}
use Rattle.cap_account_resources.specs.Parts.{count_of}
use Rattle.cap_account_resources.proofs.Lists.{some-same, none-some}
use Rattle.cap_account_resources.proofs.Covering.{join_marks, IsPartOf, part-trans}
use Rattle.cap_account_resources.proofs.Interference.{Holding, ArePartOf}
use Rattle.cap_account_resources.proofs.Monoid.{atom, both as plus}
use Rattle.cap_account_resources.proofs.Owners.{Owner, owned, guards_of_all, no-cells-in}
use Rattle.cap_account_resources.proofs.Room.{part-join}
use Rattle.cap_account_resources.proofs.Stocks.{Stock, no_stock, same-stock, both, Inside, reordered, inside-same, inside-trans, inside-first, inside-both, inside-guards}
use Rattle.cap_account_states.proofs.Backed.{Backed}
use Rattle.cap_account.proofs.Stocked.{part_stock}
use Rattle.cap_owners_walks_laws.proofs.Parts.Pieces.{AreForms}
use Rattle.cap_owners_walks_laws.proofs.Parts.Held.{backed-elements}

pub none-held : part_stock no_part ≡ no_stock
none-held =
    same-stock (part_stock no_part) no_stock (λ a z. ap (λ o. count_of o z) (get-empty int_cmp a))
    (λ n. ap (λ o. Some o) (get-empty int_cmp n))

form-at :
    (v : Valuation) (gs : List Piece) (xs : List Element) (k : ℕ) (g : Piece) →
    AreForms v gs xs → slice_get gs k ≡ Some g → (x : Element) × IsFormElement v g.form x
form-at v [] xs k g h e = absurd (none-some e)
form-at v (q ∷ gs) [] k g h e = absurd h
form-at v (q ∷ gs) (x ∷ xs) zero g h e =
    (x, subst (λ (y : Piece). IsFormElement v y.form x) (some-same q g e) h.0)
form-at v (q ∷ gs) (x ∷ xs) (suc k) g h e = form-at v gs xs k g h.1 e

-- each piece that is backed has an element
pub own-form :
    (p : PlainProgram) (v : Valuation) (s : PlainState) (q : Stock) (k : ℕ) (g : Piece) →
    Backed p v s q → slice_get s.guards k ≡ Some g → (x : Element) × IsFormElement v g.form x
own-form p v s q k g b e =
    let xs = backed-elements p v s q b in form-at v s.guards xs.0 k g xs.1 e

-- ---- what is left of what was held, beside the full guards of a region and of others

module _ (p : PlainProgram) (new : List Owner) (left given c full : Stock)
    (budget : Inside p (both p (both p left given) (owned p new))
    (both p (both p c full) (guards_of_all p new))) where
  pub left-cells :
      (a z : ℤ) → left.cells a z ≤ c.cells a z + full.cells a z
  left-cells a z =
      let e = ap (λ (q : Stock). q.cells a z) budget.1 in
      let none = no-cells-in p new a z in omega (arith, e, none)

  -- a part beside it is within what has room then
  pub left-guards :
      (q : Stock) (lim : Holding) → ArePartOf p (both p q c).guards lim → (n : ℤ) →
      IsPartOf p ((both p q left).guards n)
      (join_marks p (join_marks p (lim n) (full.guards n)) ((guards_of_all p new).guards n))
  left-guards q lim h n =
      let guards = guards_of_all p new in
      let given_too = both p left given in
      let atoms = q ∷ c ∷ full ∷ guards ∷ [] in
      let one = plus (atom 0) (plus (plus (atom 1) (atom 2)) (atom 3)) in
      let other = plus (plus (plus (atom 0) (atom 1)) (atom 2)) (atom 3) in
      let le = inside-both p q q left (both p (both p c full) guards) (inside-same p q)
      (inside-trans p left (both p given_too (owned p new)) (both p (both p c full) guards)
      (inside-trans p left given_too (both p given_too (owned p new)) (inside-first p left given)
      (inside-first p given_too (owned p new))) budget) in
      let there = subst (Inside p (both p q left)) (reordered p atoms one other refl) le in
      part-trans p ((both p q left).guards n)
      ((both p (both p (both p q c) full) guards).guards n)
      (join_marks p (join_marks p (lim n) (full.guards n)) (guards.guards n))
      (inside-guards p (both p q left) (both p (both p (both p q c) full) guards) there n)
      (part-join p ((both p (both p q c) full).guards n)
      (join_marks p (lim n) (full.guards n)) (guards.guards n)
      (part-join p ((both p q c).guards n) (lim n) (full.guards n) (h n)))
