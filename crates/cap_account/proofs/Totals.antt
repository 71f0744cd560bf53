-- What lists have together, as sums of stocks: of joined, mapped and changed lists, and all that an
-- account accounts for.
use Rattle.std.proofs.Common.{◌≡◌, ℕ, zero, suc, ℤ, List, [], ◌∷◌, ◌++◌, map, Option, Some, None, refl, sym, ap, ◌∙◌}
use Rattle.std.specs.Prelude.{slice_get, slice_set, remove, flat_map}
use Rattle.std.specs.List.{AllByRecursion}
use Rattle.cap_prog.specs.Program.{PlainProgram}
use Rattle.cap_machine_accounts.specs.Parts.{Guard, Part, join_with, guard_at, guards_at}
use Rattle.cap_machine_accounts.specs.Accounts.{Held, OwnedRegion, Account, parts}
use Rattle.cap_account_resources.proofs.Lists.{some-same, none-some, all-more}
use Rattle.cap_account_resources.proofs.Monoid.{atom as at, both as plus}
use Rattle.cap_account_resources.proofs.Marks.{Mark}
use Rattle.cap_account_resources.proofs.Covering.{join_marks}
use Rattle.cap_account_resources.proofs.Interference.{met-joins}
use Rattle.cap_account_resources.proofs.Stocks.{Stock, both, Inside, stock-laws, none-right, reordered, inside-first, inside-second, inside-trans}
use Rattle.cap_account_resources.proofs.Owners.{owned}
use Rattle.cap_account.proofs.Stocked.{part_stock, sum_by, frames_stock, threads_stock, owners, account_stock}

-- ---- sums over any list

module _ {A : Type 0} (p : PlainProgram) (f : A → Stock) where
  pub sum-join : (xs ys : List A) → sum_by p f (xs ++ ys) ≡ both p (sum_by p f xs) (sum_by p f ys)
  sum-join [] ys = sym ((stock-laws p).zero_left (sum_by p f ys))
  sum-join (x ∷ xs) ys =
      ap (both p (f x)) (sum-join xs ys)
      ∙ sym ((stock-laws p).assoc (f x) (sum_by p f xs) (sum_by p f ys))

  pub sum-last : (xs : List A) (x : A) → sum_by p f (xs ++ x ∷ []) ≡ both p (sum_by p f xs) (f x)
  sum-last xs x = sum-join xs (x ∷ []) ∙ ap (both p (sum_by p f xs)) (none-right p (f x))

  -- one of them, and the others
  pub sum-at :
      (xs : List A) (i : ℕ) (x : A) → slice_get xs i ≡ Some x →
      sum_by p f xs ≡ both p (f x) (sum_by p f (remove xs i))
  sum-at [] i x e = absurd (none-some e)
  sum-at (y ∷ xs) zero x e = ap (λ z. both p (f z) (sum_by p f xs)) (some-same y x e)
  sum-at (y ∷ xs) (suc i) x e =
      ap (both p (f y)) (sum-at xs i x e)
      ∙ reordered p (f y ∷ f x ∷ sum_by p f (remove xs i) ∷ []) (plus (at 0) (plus (at 1) (at 2)))
      (plus (at 1) (plus (at 0) (at 2))) refl

  -- another one in its place
  pub sum-set :
      (xs : List A) (i : ℕ) (x z : A) → slice_get xs i ≡ Some x →
      sum_by p f (slice_set xs i z) ≡ both p (f z) (sum_by p f (remove xs i))
  sum-set [] i x z e = absurd (none-some e)
  sum-set (y ∷ xs) zero x z e = refl
  sum-set (y ∷ xs) (suc i) x z e =
      ap (both p (f y)) (sum-set xs i x z e)
      ∙ reordered p (f y ∷ f z ∷ sum_by p f (remove xs i) ∷ []) (plus (at 0) (plus (at 1) (at 2)))
      (plus (at 1) (plus (at 0) (at 2))) refl

  -- each of them is in their sum
  pub sum-each : (xs : List A) → AllByRecursion (λ x. Inside p (f x) (sum_by p f xs)) xs
  sum-each [] = tt
  sum-each (x ∷ xs) =
      let all = sum_by p f xs in (
        inside-first p (f x) all,
        all-more (λ y. Inside p (f y) all) (λ y. Inside p (f y) (both p (f x) all))
            (λ y h. inside-trans p (f y) all (both p (f x) all) h (inside-second p (f x) all)) xs
            (sum-each xs),
      )

pub sum-map :
    {A B : Type 0} (p : PlainProgram) (f : B → Stock) (g : A → B) (xs : List A) →
    sum_by p f (map g xs) ≡ sum_by p (λ x. f (g x)) xs
sum-map p f g [] = refl
sum-map p f g (x ∷ xs) = ap (both p (f (g x))) (sum-map p f g xs)

-- ---- all parts of an account

abbrev pub parts_stock : PlainProgram → List Part → Stock
parts_stock p qs = sum_by p part_stock qs

module _ (p : PlainProgram) where
  threads-sum :
      (hss : List (List Held)) →
      parts_stock p (flat_map (map (λ (h : Held). h.part)) hss) ≡ threads_stock p hss
  threads-sum [] = refl
  threads-sum (hs ∷ hss) =
      let rest = flat_map (map (λ (h : Held). h.part)) hss in
      sum-join p part_stock (map (λ h. h.part) hs) rest
      ∙ ap (λ q. both p q (parts_stock p rest)) (sum-map p part_stock (λ h. h.part) hs)
      ∙ ap (both p (frames_stock p hs)) (threads-sum hss)

  pub owners-sum :
      (rs : List OwnedRegion) → parts_stock p (map (λ r. r.part) rs) ≡ owned p (owners rs)
  owners-sum [] = refl
  owners-sum (r ∷ rs) = ap (both p (part_stock r.part)) (owners-sum rs)

  pub account-sum : (a : Account) → parts_stock p (parts a) ≡ account_stock p a
  account-sum a =
      let own = map (λ (r : OwnedRegion). r.part) a.regions in
      let all = flat_map (map (λ (h : Held). h.part)) a.threads in
      sum-join p part_stock own all
      ∙ (stock-laws p).comm (parts_stock p own) (parts_stock p all)
      ∙ ap (λ q. both p q (parts_stock p own)) (threads-sum a.threads)
      ∙ ap (both p (threads_stock p a.threads)) (owners-sum a.regions)

  -- where marks meet, guards join to the same
  join-met :
      (a m : Mark) (o : Option Mark) (g : Option (Option Guard)) →
      ((x : Mark) → o ≡ Some x → g ≡ Some x) → join_marks p (Some a) o ≡ Some m →
      join_with a g ≡ Some m
  join-met a m None g f e = absurd (none-some e)
  join-met a m (Some x) g f e = ap (join_with a) (f x refl) ∙ met-joins p a x m e

  pub sum-guards :
      (qs : List Part) (n : ℤ) (m : Mark) → (parts_stock p qs).guards n ≡ Some m →
      guards_at qs n ≡ Some m
  sum-guards [] n m e = e
  sum-guards (q ∷ qs) n m e =
      join-met (guard_at q n) m ((parts_stock p qs).guards n) (guards_at qs n)
      (λ x d. sum-guards qs n x d) e
