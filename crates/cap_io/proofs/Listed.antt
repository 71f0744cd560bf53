-- How many of the calls so far are listed, after one more call, after none, and by an empty list.
use Rattle.std.proofs.Common.{arith, ◌≡◌, ℕ, zero, suc, ◌+◌, true, false, List, [], refl}
use Rattle.cap_io.specs.Memory.{listed_among, is_listed}

suc_hit : (l : List ℕ) (n : ℕ) → is_listed l (suc n) ≡ true → listed_among l (suc n) ≡ suc (listed_among l n)
unfolding listed_among
suc_hit l n h = rw h refl

suc_miss : (l : List ℕ) (n : ℕ) → is_listed l (suc n) ≡ false → listed_among l (suc n) ≡ listed_among l n
unfolding listed_among
suc_miss l n h = rw h refl

pub listed_hit : (l : List ℕ) (n : ℕ) → is_listed l (n + 1) ≡ true → listed_among l (n + 1) ≡ listed_among l n + 1
listed_hit l n h = grind (arith, suc_hit l n)

pub listed_miss : (l : List ℕ) (n : ℕ) → is_listed l (n + 1) ≡ false → listed_among l (n + 1) ≡ listed_among l n
listed_miss l n h = grind (arith, suc_miss l n)

pub listed_zero : (l : List ℕ) → listed_among l 0 ≡ 0
unfolding listed_among
listed_zero l = refl

-- an empty list lists no call
pub listed_none : (n : ℕ) → listed_among [] n ≡ 0
unfolding listed_among
listed_none zero = refl
listed_none (suc n) = listed_none n
