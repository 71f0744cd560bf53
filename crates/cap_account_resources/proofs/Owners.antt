-- Regions with what they own: in a row, numbered, and put into a table.
use Rattle.std.proofs.Common.{◌≡◌, ◌≢◌, ℕ, ℤ, pos, ◌+ℤ◌, ◌≤ℤ◌, ◌<ℤ◌, List, [], ◌∷◌, ◌++◌, map, Some, refl, sym, ap, ◌∙◌, subst, arith, inl, inr}
use Rattle.std.specs.List.{AllByRecursion}
use Rattle.std.proofs.lemmas.Int.{ints}
use Rattle.cap_prog.specs.Program.{PlainProgram}
use Rattle.cap_machine_accounts.specs.Accounts.{EachTwo}
use Rattle.cap_account_resources.proofs.Lists.{Among}
use Rattle.cap_account_resources.proofs.Marks.{free, joins-law}
use Rattle.cap_account_resources.proofs.Covering.{join_marks}
use Rattle.cap_account_resources.proofs.Room.{all_guards, alone-away}
use Rattle.cap_account_resources.proofs.Stocks.{Stock, no_stock, guard_stock, both, stock-laws}

-- ---- owners

pub record Owner : Type 0 where
  pub number : ℤ
  pub kind : ℕ
  pub args : List ℤ
  pub state : ℤ
  pub stock : Stock

-- what they own, and all guards of these regions
abbrev pub owned : PlainProgram → List Owner → Stock
owned p [] = no_stock
owned p (r ∷ rs) = both p r.stock (owned p rs)

abbrev pub guards_of_all : PlainProgram → List Owner → Stock
guards_of_all p [] = no_stock
guards_of_all p (r ∷ rs) = both p (guard_stock r.number (all_guards p r.kind)) (guards_of_all p rs)

abbrev pub numbers_of : List Owner → List ℤ
numbers_of rs = map (λ r. r.number) rs

pub owned-join :
    (p : PlainProgram) (rs ss : List Owner) → owned p (rs ++ ss) ≡ both p (owned p rs) (owned p ss)
owned-join p [] ss = sym ((stock-laws p).zero_left (owned p ss))
owned-join p (r ∷ rs) ss =
    ap (both p r.stock) (owned-join p rs ss)
    ∙ sym ((stock-laws p).assoc r.stock (owned p rs) (owned p ss))

pub guards-join :
    (p : PlainProgram) (rs ss : List Owner) →
    guards_of_all p (rs ++ ss) ≡ both p (guards_of_all p rs) (guards_of_all p ss)
guards-join p [] ss = sym ((stock-laws p).zero_left (guards_of_all p ss))
guards-join p (r ∷ rs) ss =
    let g = guard_stock r.number (all_guards p r.kind) in
    ap (both p g) (guards-join p rs ss)
    ∙ sym ((stock-laws p).assoc g (guards_of_all p rs) (guards_of_all p ss))

-- ---- numbered from a number on

-- in their order, from the first number to before the last
abbrev pub Numbered : ℤ → List Owner → ℤ → Type 0
Numbered from [] to = to ≡ from
Numbered from (r ∷ rs) to = (r.number ≡ from) × Numbered (from +ℤ pos 1) rs to

pub numbered-join :
    (a b c : ℤ) (rs ss : List Owner) → Numbered a rs b → Numbered b ss c → Numbered a (rs ++ ss) c
numbered-join a b c [] ss h k = subst (λ n. Numbered n ss c) h k
numbered-join a b c (r ∷ rs) ss h k = (h.0, numbered-join (a +ℤ pos 1) b c rs ss h.1 k)

pub numbered-up : (a b : ℤ) (rs : List Owner) → Numbered a rs b → a ≤ℤ b
numbered-up a b [] h = omega (arith, ints, h)
numbered-up a b (r ∷ rs) h =
    let k = numbered-up (a +ℤ pos 1) b rs h.1 in omega (arith, ints, k)

-- each of their numbers lies between
pub numbered-between :
    (a b : ℤ) (rs : List Owner) → Numbered a rs b → (n : ℤ) → Among n (numbers_of rs) →
    (a ≤ℤ n) × (n <ℤ b)
numbered-between a b [] h n m = absurd m
numbered-between a b (r ∷ rs) h n (inl here) =
    let k = numbered-up (a +ℤ pos 1) b rs h.1 in
    let at = h.0 in
    (omega (arith, ints, here, at), omega (arith, ints, here, at, k))
numbered-between a b (r ∷ rs) h n (inr later) =
    let k = numbered-between (a +ℤ pos 1) b rs h.1 n later in
    let low = k.0 in
    (omega (arith, ints, low), k.1)

all-others :
    (z : ℤ) (rs : List Owner) → (Among z (numbers_of rs) → ⊥) →
    AllByRecursion (λ s. z ≢ s.number) rs
all-others z [] f = tt
all-others z (r ∷ rs) f = ((λ e. f (inl (sym e))), all-others z rs (λ m. f (inr m)))

-- no two of them have one number
pub numbered-differ :
    (a b : ℤ) (rs : List Owner) → Numbered a rs b → EachTwo (λ r s. r.number ≢ s.number) rs
numbered-differ a b [] h = tt
numbered-differ a b (r ∷ rs) h = (
  all-others r.number rs (λ m.
      let k = numbered-between (a +ℤ pos 1) b rs h.1 r.number m in
      let low = k.0 in
      let at = h.0 in omega (arith, ints, low, at)),
  numbered-differ (a +ℤ pos 1) b rs h.1,
)

-- a number that is none of theirs has none of these guards
pub no-guards-of :
    (p : PlainProgram) (rs : List Owner) (n : ℤ) → (Among n (numbers_of rs) → ⊥) →
    (guards_of_all p rs).guards n ≡ Some free
no-guards-of p [] n f = refl
no-guards-of p (r ∷ rs) n f =
    ap (λ m. join_marks p m ((guards_of_all p rs).guards n))
    (alone-away r.number (all_guards p r.kind) n (λ e. f (inl e)))
    ∙ (joins-law p).zero_left ((guards_of_all p rs).guards n)
    ∙ no-guards-of p rs n (λ m. f (inr m))

-- guards hold no cells
pub no-cells-in : (p : PlainProgram) (rs : List Owner) (a z : ℤ) →
    (guards_of_all p rs).cells a z ≡ 0
no-cells-in p [] a z = refl
no-cells-in p (r ∷ rs) a z = let k = no-cells-in p rs a z in omega (arith, k)
