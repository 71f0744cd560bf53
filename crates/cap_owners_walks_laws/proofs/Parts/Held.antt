-- The part of a state by a track's values: it is told of, is just what the state has, and is within
-- what backs the state.
use Rattle.std.proofs.Common.{◌≡◌, ◌+◌, ◌≤◌, ℤ, List, [], ◌∷◌, Option, Some, None, refl, sym, ap, ◌∙◌, subst, arith}
use Rattle.std.specs.FinMap.{get, get-empty}
use Rattle.std.specs.Ordering.{int_cmp}
use Rattle.cap_lin.specs.Values.{Valuation}
use Rattle.cap_galg.specs.Elements.{Element}
use Rattle.cap_gsolve.specs.declared.piece.Piece.{Piece}
use Rattle.cap_prog.specs.Program.{PlainProgram}
use Rattle.cap_goal_spec.specs.States.{PlainState}
use Rattle.cap_machine.specs.Machine.{Heap}
use Rattle.cap_machine_accounts.specs.Parts.{Part, no_part, guard_at}
use Rattle.cap_machine_accounts.specs.Assertions.{NameValue}
use Rattle.cap_account_resources.specs.Parts.{count_of, cells_of}
use Rattle.cap_account_resources.proofs.Marks.{Mark, free, joins-law}
use Rattle.cap_account_resources.proofs.Covering.{join_marks, mark, IsPartOf, free-right, Covered}
use Rattle.cap_account_resources.proofs.Stocks.{Stock, both, Inside, inside-by}
use Rattle.cap_account_states.proofs.Meets.{need}
use Rattle.cap_account_states.proofs.Pieces.{AllFit}
use Rattle.cap_account_states.proofs.Backed.{Backed}
use Rattle.cap_account.proofs.Stocked.{part_stock}
use Rattle.cap_owners_spec.specs.Traced.{valuation}
use Rattle.cap_owners_spec.specs.Filling.{with_cells, with_pieces, part_held}
use Rattle.cap_owners_laws.specs.Owned.{IsTold}
use Rattle.cap_owners_walks_laws.proofs.Parts.Telling.{told-on, told-more}
use Rattle.cap_owners_walks_laws.proofs.Parts.Putting.{cells-told}
use Rattle.cap_owners_walks_laws.proofs.Parts.Pieces.{AreForms, pieces_stock, own-elements, pieces-at, pieces-told}

-- ---- just what a state has

-- its cells, and its pieces by their elements
pub record IsOf (p : PlainProgram) (v : Valuation) (s : PlainState) (q : Stock) : Type 0 where
  pub elements : List Element
  pub forms : AreForms v s.guards elements
  pub cells : (a z : ℤ) → q.cells a z ≡ need v s.cells a z
  pub guards : (n : ℤ) → q.guards n ≡ (pieces_stock p v s.guards elements).guards n

module _ (p : PlainProgram) (v : Valuation) where
  -- what covers pieces at a region is what they have there, and perhaps more
  pub covered-is :
      (gs : List Piece) (xs : List Element) (n : ℤ) (m : Option Mark) → AllFit p gs →
      AreForms v gs xs → (c : Covered p v gs n m) →
      (pieces_stock p v gs xs).guards n ≡ mark c.kind c.element
  covered-is gs xs n m fit f c = pieces-at p v c.kind n gs xs c.is.0 c.element fit f c.is.1 c.is.2

  -- what backs a state backs its pieces by their elements
  pub backed-elements :
      (s : PlainState) (q : Stock) → Backed p v s q →
      (xs : List Element) × AreForms v s.guards xs
  backed-elements s q b =
      own-elements p v s.guards (λ n. (let c = b.guards n in (c.kind, c.is.0, c.is.1)))

  module _ (s : PlainState) (q r : Stock) (fit : AllFit p s.guards) (b : Backed p v s q)
      (h : IsOf p v s r) where
    -- what the state has at a region
    at-region : (n : ℤ) → r.guards n ≡ mark (b.guards n).kind (b.guards n).element
    at-region n =
        h.guards n ∙ covered-is s.guards h.elements n (q.guards n) fit h.forms (b.guards n)

    -- it backs the state
    pub own-backed : Backed p v s r
    own-backed = record {
      cells = λ a z. (let e = h.cells a z in omega (arith, e));
      guards = λ n.
          let c = b.guards n in
          record {
            kind = c.kind;
            element = c.element;
            is = c.is;
            part = (Some free, free-right p (mark c.kind c.element) ∙ sym (at-region n));
          };
    }

    -- and is within whatever does
    pub own-inside : Inside p r q
    own-inside =
        inside-by p r q (λ a z. (let e = h.cells a z in let l = b.cells a z in omega (arith, e, l)))
        (λ n. subst (λ m. IsPartOf p m (q.guards n)) (sym (at-region n)) (b.guards n).part)

  -- ---- what a state has

  -- a stock that is just that
  pub record Own (s : PlainState) (held : Stock) : Type 0 where
    pub own : Stock
    pub just : IsOf p v s own
    pub backed : Backed p v s own
    pub inside : Inside p own held

  -- whatever backs a state has it
  pub own-of : (s : PlainState) (held : Stock) → AllFit p s.guards → Backed p v s held → Own s held
  own-of s held fit b =
      let xs = backed-elements s held b in
      let own : Stock = record {
        cells = need v s.cells;
        guards = (pieces_stock p v s.guards xs.0).guards;
      } in
      let just : IsOf p v s own =
      record { elements = xs.0; forms = xs.1; cells = λ a z. refl; guards = λ n. refl } in
      record {
        own = own;
        just = just;
        backed = own-backed s held own fit b just;
        inside = own-inside s held own fit b just;
      }

-- ---- the part of a state

no-cells-of :
    (p : PlainProgram) (v : Valuation) (gs : List Piece) (xs : List Element) (a z : ℤ) →
    (pieces_stock p v gs xs).cells a z ≡ 0
no-cells-of p v [] [] a z = refl
no-cells-of p v [] (x ∷ xs) a z = refl
no-cells-of p v (g ∷ gs) [] a z = refl
no-cells-of p v (g ∷ gs) (x ∷ xs) a z =
    let e = no-cells-of p v gs xs a z in omega (arith, e)

-- it is just what the state has, where that is within a heap, unless a number leaves its bounds
pub part-of :
    (p : PlainProgram) (vs : List NameValue) (s : PlainState) (q : Stock) (h : Heap) →
    AllFit p s.guards → Backed p (valuation vs) s q →
    ((a z : ℤ) → q.cells a z ≤ cells_of h a z) →
    IsTold (λ r. IsOf p (valuation vs) s (part_stock r)) (part_held p s vs)
part-of p vs s q h fit b le =
    told-on
    (λ r. (r.guards ≡ no_part.guards)
    × ((a z : ℤ) → cells_of r.cells a z ≡ cells_of no_part.cells a z + need v s.cells a z))
    (λ r. IsOf p v s (part_stock r)) (with_cells vs no_part s.cells)
    (λ r. with_pieces p vs r s.guards)
    (cells-told vs h s.cells no_part (λ a z.
    let none = no-cells a z in
    let l = b.cells a z in
    let m = le a z in
    omega (arith, none, l, m)))
    (λ r e. told-more
    (λ t. part_stock t ≡ both p (part_stock r) (pieces_stock p v s.guards xs.0))
    (λ t. IsOf p v s (part_stock t)) (with_pieces p vs r s.guards)
    (λ t i. record {
      elements = xs.0;
      forms = xs.1;
      cells = λ a z.
          let same = ap (λ (w : Stock). w.cells a z) i in
          let put = e.1 a z in
          let none = no-cells a z in
          let nothing = no-cells-of p v s.guards xs.0 a z in
          omega (arith, same, put, none, nothing);
      guards = λ n. ap (λ (w : Stock). w.guards n) i ∙ alone r e.0 n;
    })
    (pieces-told p vs s.guards xs.0 r xs.1 (λ n none. composes n (sym (alone r e.0 n) ∙ none))))
  where
    v : Valuation
    v = valuation vs

    xs : (xs : List Element) × AreForms (valuation vs) s.guards xs
    xs = backed-elements p (valuation vs) s q b

    no-cells : (a z : ℤ) → cells_of no_part.cells a z ≡ 0
    no-cells a z = ap (λ o. count_of o z) (get-empty int_cmp a)

    -- it has no guards yet
    alone :
        (r : Part) → r.guards ≡ no_part.guards → (n : ℤ) →
        join_marks p (Some (guard_at r n)) ((pieces_stock p (valuation vs) s.guards xs.0).guards n)
        ≡ (pieces_stock p (valuation vs) s.guards xs.0).guards n
    alone r e n =
        let m = (pieces_stock p (valuation vs) s.guards xs.0).guards n in
        ap (λ o. join_marks p (Some o) m) (ap (λ gs. get gs n) e ∙ get-empty int_cmp n)
        ∙ (joins-law p).zero_left m

    composes : (n : ℤ) → (pieces_stock p (valuation vs) s.guards xs.0).guards n ≡ None → ⊥
    composes n e =
        let c = covered-is p (valuation vs) s.guards xs.0 n (q.guards n) fit xs.1 (b.guards n) in
        cc

-- it backs the state, and is within what does
pub part-held :
    (p : PlainProgram) (vs : List NameValue) (s : PlainState) (q : Stock) (h : Heap) →
    AllFit p s.guards → Backed p (valuation vs) s q →
    ((a z : ℤ) → q.cells a z ≤ cells_of h a z) →
    IsTold (λ r. Backed p (valuation vs) s (part_stock r) × Inside p (part_stock r) q)
    (part_held p s vs)
part-held p vs s q h fit b le =
    told-more (λ r. IsOf p (valuation vs) s (part_stock r))
    (λ r. Backed p (valuation vs) s (part_stock r) × Inside p (part_stock r) q)
    (part_held p s vs)
    (λ r o. (
      own-backed p (valuation vs) s q (part_stock r) fit b o,
      own-inside p (valuation vs) s q (part_stock r) fit b o,
    ))
    (part-of p vs s q h fit b le)
