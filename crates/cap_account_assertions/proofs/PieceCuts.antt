-- What is held once guards are cut out of a piece: at the piece's region less, elsewhere the same.
use Rattle.cap_account_resources.proofs.Order.{same-or}
use Rattle.std.proofs.Common.{◌≡◌, ◌≢◌, ℤ, List, Bool, true, false, Option, Some, refl, sym, subst, arith, inl, inr}
use Rattle.std.specs.Prelude.{if◌then◌else◌}
use Rattle.cap_lin.specs.Linear.{same_number}
use Rattle.cap_lin.specs.Values.{Valuation}
use Rattle.cap_gsolve.specs.declared.piece.Piece.{Piece}
use Rattle.cap_prog.specs.Program.{PlainProgram}
use Rattle.cap_account_resources.proofs.Marks.{Mark, free, joins-law}
use Rattle.cap_account_resources.proofs.Covering.{join_marks, IsPartOf}
use Rattle.cap_account_resources.proofs.Interference.{Holding}
use Rattle.cap_account_resources.proofs.Room.{alone, alone-here, alone-away, alone-join}
use Rattle.cap_account_resources.proofs.Stocks.{Stock, no_stock, same-stock, guard_stock, both, Inside, inside-by}
use Rattle.cap_account_states.proofs.Pieces.{CutAt}

-- ---- guards at one region

-- none are held as nothing is
pub none-alone : (n : ℤ) → guard_stock n (Some free) ≡ no_stock
none-alone n =
    same-stock (guard_stock n (Some free)) no_stock (λ a z. refl) (λ z. by (same_number n z))
  where
    by : (b : Bool) → (if b then Some free else Some free) ≡ Some free
    by true = refl
    by false = refl

pub guards-joined :
    (p : PlainProgram) (n : ℤ) (a b : Option Mark) →
    both p (guard_stock n a) (guard_stock n b) ≡ guard_stock n (join_marks p a b)
guards-joined p n a b =
    same-stock (both p (guard_stock n a) (guard_stock n b)) (guard_stock n (join_marks p a b))
    (λ y z. omega arith) (alone-join p n a b)

-- ---- cuts

module _ (p : PlainProgram) (v : Valuation) (left : List Piece) (n : ℤ)
    (taken : Option Mark) where
  abbrev pub CutsOut : Holding → Type 0
  CutsOut held = (z : ℤ) → CutAt p v left z (alone n taken z) (held z)

  pub cuts-out :
      (held : Holding) → CutAt p v left n taken (held n) →
      ((z : ℤ) → n ≢ z → CutAt p v left z (Some free) (held z)) → CutsOut held
  cuts-out held here away z = elim (same-or n z) [
    | inl e ↦ subst (λ m. CutAt p v left z m (held z)) (sym (alone-here n taken z e))
        (subst (λ y. CutAt p v left y taken (held y)) e here)
    | inr ne ↦ subst (λ m. CutAt p v left z m (held z)) (sym (alone-away n taken z ne))
        (away z ne)
  ]

  module _ (c : Stock) (cuts : CutsOut c.guards) where
    abbrev pub stock_left : Stock
    stock_left = record { cells = c.cells; guards = λ z. (cuts z).rest }

    pub left-apart : Inside p (both p stock_left (guard_stock n taken)) c
    left-apart =
        inside-by p (both p stock_left (guard_stock n taken)) c (λ a z. omega arith)
        (λ z. subst (λ q. IsPartOf p q (c.guards z))
        ((joins-law p).comm (alone n taken z) (cuts z).rest) (cuts z).within)
