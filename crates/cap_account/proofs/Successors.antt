-- The account after a step, by what the step leaves of regions and frames, and that it follows.
use Rattle.std.proofs.Common.{◌≡◌, inl, inr, ◌≤◌, ℤ, List, [], ◌∷◌, ◌++◌, map, refl, sym, ap, ◌∙◌, subst, arith}
use Rattle.std.specs.Prelude.{remove}
use Rattle.std.specs.List.{AllByRecursion}
use Rattle.std.specs.FinMap.{get-empty}
use Rattle.std.specs.Ordering.{int_cmp}
use Rattle.cap_prog.specs.Program.{PlainProgram}
use Rattle.cap_machine.specs.Machine.{Heap}
use Rattle.cap_machine_accounts.specs.Parts.{Part, no_part}
use Rattle.cap_machine_accounts.specs.Accounts.{Held, OwnedRegion, Account, table_of, CellsWithin, GuardsFit}
use Rattle.cap_machine_accounts.specs.Following.{FollowsRegion, FollowRegions}
use Rattle.cap_account_resources.specs.Parts.{cells_of}
use Rattle.cap_account_resources.proofs.Lists.{none-some, Among, all-more, map-join}
use Rattle.cap_account_resources.proofs.Monoid.{atom as at, both as plus}
use Rattle.cap_account_resources.proofs.Stocks.{Stock, both, Inside, stock-laws, some-inside, inside-trans, inside-cells}
use Rattle.cap_account_resources.proofs.Tables.{FitsRoom, fits-less}
use Rattle.cap_account_resources.proofs.Owners.{Owner, owned, numbers_of}
use Rattle.cap_account_states.proofs.Checked.{Checked}
use Rattle.cap_account_steps.proofs.Regained.{Stable}
use Rattle.cap_account.proofs.Stocked.{part_stock, sum_by, frames_stock, owner_of, owners, owner_at, table_by, account_table, account_stock, Turn}
use Rattle.cap_account.proofs.Totals.{sum-at, sum-each}
use Rattle.cap_account.proofs.Parts.{part_for, part-has, part-within}
use Rattle.cap_account.proofs.Valid.{guards-fit}
use Rattle.cap_account.proofs.Chosen.{of-member, found, missing, look, owned-sum}
use Rattle.cap_account.proofs.Renewed.{from, renewed}
use Rattle.cap_account.proofs.Changes.{Scene, Change, free_regions, all_after, room-after, cells-after, regions_after, is-table, listed-after}

-- ---- the scene of a step

-- what other frames have
abbrev pub others : (p : Checked) → Turn p → Stock
others p x =
    both p.program (frames_stock p.program x.waiting)
    (sum_by p.program (frames_stock p.program) (remove x.a.threads x.thread))

pub turn-stock :
    (p : Checked) (x : Turn p) →
    account_stock p.program x.a
    ≡ both p.program (both p.program (part_stock x.held.part) (others p x))
    (owned p.program (owners x.a.regions))
turn-stock p x =
    let P = p.program in
    let rest = sum_by P (frames_stock P) (remove x.a.threads x.thread) in
    ap (λ q. both P q (owned P (owners x.a.regions)))
    (sum-at P (frames_stock P) x.a.threads x.thread (x.held ∷ x.waiting) x.has_parts
    ∙ (stock-laws P).assoc (part_stock x.held.part) (frames_stock P x.waiting) rest)

abbrev pub scene : (p : Checked) → Turn p → Scene p.program
scene p x = record {
  rs = owners x.a.regions;
  part = part_stock x.held.part;
  others = others p x;
  heap = x.c.heap;
  differ = x.sound.differ;
  room = subst (FitsRoom p.program (account_table x.a)) (turn-stock p x) x.sound.room;
  cells = λ a z.
      subst (λ (q : Stock). q.cells a z ≤ cells_of x.c.heap a z) (turn-stock p x)
      (x.sound.heap a z);
  own = x.sound.regions;
}

-- ---- regions with parts

-- what was there, closed with the part that is cut for it
abbrev pub kept_of : (Stock → Part) → List Owner → OwnedRegion → OwnedRegion
kept_of cut closed r = record {
  region = record {
    number = r.region.number;
    kind = r.region.kind;
    args = r.region.args;
    state = from (λ o. o.state) r.region.state (owner_at closed r.region.number);
  };
  part = from (λ o. cut o.stock) r.part (owner_at closed r.region.number);
}

abbrev pub made_of : (Stock → Part) → Owner → OwnedRegion
made_of cut o = record {
  region = record { number = o.number; kind = o.kind; args = o.args; state = o.state };
  part = cut o.stock;
}

abbrev IsCut : (Stock → Part) → Owner → Type 0
IsCut cut o = part_stock (cut o.stock) ≡ o.stock

module _ (cut : Stock → Part) where
  kept-owner :
      (closed : List Owner) → AllByRecursion (IsCut cut) closed → (r : OwnedRegion) →
      owner_of (kept_of cut closed r) ≡ renewed closed (owner_of r)
  kept-owner closed h r =
      let same : part_stock (from (λ o. cut o.stock) r.part (owner_at closed r.region.number))
      ≡ from (λ o. o.stock) (part_stock r.part) (owner_at closed r.region.number) =
      elim (look closed r.region.number) [
        | found o m e q ↦
            ap (λ y. part_stock (from (λ o. cut o.stock) r.part y)) q
            ∙ of-member (IsCut cut) o closed m h
            ∙ ap (from (λ o. o.stock) (part_stock r.part)) (sym q)
        | missing f q ↦
            ap (λ y. part_stock (from (λ o. cut o.stock) r.part y)) q
            ∙ ap (from (λ o. o.stock) (part_stock r.part)) (sym q)
      ] in
      ap (λ t. record {
        number = r.region.number;
        kind = r.region.kind;
        args = r.region.args;
        state = from (λ o. o.state) r.region.state (owner_at closed r.region.number);
        stock = t;
      }) same

  kept-owners :
      (closed : List Owner) → AllByRecursion (IsCut cut) closed → (rs : List OwnedRegion) →
      owners (map (kept_of cut closed) rs) ≡ map (renewed closed) (owners rs)
  kept-owners closed h [] = refl
  kept-owners closed h (r ∷ rs) =
      ap (λ o. o ∷ owners (map (kept_of cut closed) rs)) (kept-owner closed h r)
      ∙ ap (λ os. renewed closed (owner_of r) ∷ os) (kept-owners closed h rs)

  made-owners :
      (os : List Owner) → AllByRecursion (IsCut cut) os → owners (map (made_of cut) os) ≡ os
  made-owners [] h = refl
  made-owners (o ∷ os) h =
      ap (λ t. record {
        number = o.number;
        kind = o.kind;
        args = o.args;
        state = o.state;
        stock = t;
      } ∷ owners (map (made_of cut) os)) h.0
      ∙ ap (λ ys. o ∷ ys) (made-owners os h.1)

pub region-among :
    (rs : List OwnedRegion) (r : OwnedRegion) → Among r rs → Among (owner_of r) (owners rs)
region-among [] r m = m
region-among (y ∷ rs) r (inl e) = inl (ap owner_of e)
region-among (y ∷ rs) r (inr m) = inr (region-among rs r m)

pub follow-each :
    (p : PlainProgram) (frame : Part) (ns : List ℤ) (f : OwnedRegion → OwnedRegion)
    (rs : List OwnedRegion) → AllByRecursion (λ r. FollowsRegion p frame ns r (f r)) rs →
    FollowRegions p frame ns rs (map f rs)
follow-each p frame ns f [] h = tt
follow-each p frame ns f (r ∷ rs) h = (h.0, follow-each p frame ns f rs h.1)

-- ---- a step

-- the heap afterwards, and what goes to the frames that the stepping one leaves
pub record Stride (p : Checked) (x : Turn p) : Type 0 where
  pub heap : Heap
  pub left : Stock
  pub change : Change p.program (scene p x) heap left

module _ (p : Checked) (stable : Stable p.program) (x : Turn p) (y : Stride p x) where
  abbrev P : PlainProgram
  P = p.program

  abbrev s : Scene p.program
  s = scene p x

  abbrev ch : Change p.program (scene p x) y.heap y.left
  ch = y.change

  abbrev pub all : Stock
  all = all_after p.program (scene p x) y.heap y.left y.change

  abbrev pub cut : Stock → Part
  cut q =
      part_for y.heap (numbers_of (regions_after p.program (scene p x) y.heap y.left y.change)) q

  pub cut-is : (q : Stock) → Inside p.program q all → part_stock (cut q) ≡ q
  cut-is q le =
      part-has P ch.by.U y.heap (numbers_of (regions_after P s y.heap y.left ch)) q
      (listed-after P s y.heap y.left ch stable)
      (fits-less P ch.by.U q all le (room-after P s y.heap y.left ch)) (λ a z.
      let i = inside-cells P q all le a z in
      let k = cells-after P s y.heap y.left ch a z in
      omega (arith, i, k))

  abbrev rest : Stock
  rest = both p.program (others p x) (free_regions p.program (scene p x) y.heap y.left y.change)

  pub left-inside : Inside p.program (both p.program y.left (others p x)) all
  left-inside =
      some-inside P
      (y.left ∷ others p x ∷ owned P ch.by.closed ∷ owned P ch.by.made
      ∷ free_regions P s y.heap y.left ch ∷ []) (plus (at 0) (at 1))
      (plus (plus (at 0) (plus (at 2) (at 3))) (plus (at 1) (at 4))) (2 ∷ 3 ∷ 4 ∷ []) refl

  owners-cut :
      (os : List Owner) → Inside p.program (owned p.program os) all →
      AllByRecursion (IsCut cut) os
  owners-cut os le =
      all-more (λ o. Inside P o.stock (sum_by P (λ o. o.stock) os)) (IsCut cut) (λ o i.
      cut-is o.stock
      (inside-trans P o.stock (owned P os) all
      (subst (Inside P o.stock) (sym (owned-sum P os)) i) le))
      os (sum-each P (λ o. o.stock) os)

  closed-cut : AllByRecursion (IsCut cut) y.change.by.closed
  closed-cut =
      owners-cut ch.by.closed
      (some-inside P (y.left ∷ owned P ch.by.closed ∷ owned P ch.by.made ∷ rest ∷ []) (at 1)
      (plus (plus (at 0) (plus (at 1) (at 2))) (at 3)) (0 ∷ 2 ∷ 3 ∷ []) refl)

  made-cut : AllByRecursion (IsCut cut) y.change.by.made
  made-cut =
      owners-cut ch.by.made
      (some-inside P (y.left ∷ owned P ch.by.closed ∷ owned P ch.by.made ∷ rest ∷ []) (at 2)
      (plus (plus (at 0) (plus (at 1) (at 2))) (at 3)) (0 ∷ 1 ∷ 3 ∷ []) refl)

  abbrev pub kept : List OwnedRegion
  kept = map (kept_of cut y.change.by.closed) x.a.regions

  abbrev pub news : List OwnedRegion
  news = map (made_of cut) y.change.by.made

  abbrev pub account : List (List Held) → Account
  account hss = record { regions = kept ++ news; threads = hss }

  pub kept-are :
      owners kept ≡ map (renewed y.change.by.closed) (owners x.a.regions)
  kept-are = kept-owners cut ch.by.closed closed-cut x.a.regions

  pub news-are : owners news ≡ y.change.by.made
  news-are = made-owners cut ch.by.made made-cut

  pub owners-are :
      owners (kept ++ news) ≡ regions_after p.program (scene p x) y.heap y.left y.change
  owners-are =
      map-join owner_of kept news
      ∙ ap (λ os. os ++ owners news) kept-are
      ∙ ap (λ os. map (renewed ch.by.closed) (owners x.a.regions) ++ os) news-are

  pub table-is : table_by (owners (kept ++ news)) ≡ y.change.by.U
  table-is = ap table_by owners-are ∙ is-table P s y.heap y.left ch

  -- ---- what is handed over

  pub handed-fits :
      (q : Stock) → Inside p.program q all → GuardsFit p.program (table_of (kept ++ news)) (cut q)
  handed-fits q le =
      guards-fit P (kept ++ news) (cut q)
      (subst (λ T. FitsRoom P T (part_stock (cut q))) (sym table-is)
      (subst (FitsRoom P ch.by.U) (sym (cut-is q le))
      (fits-less P ch.by.U q all le (room-after P s y.heap y.left ch))))

  pub handed-within : (q : Stock) → Inside p.program q all → CellsWithin y.heap (cut q)
  handed-within q le =
      part-within y.heap (cut q) (λ a z.
      let i = inside-cells P q all le a z in
      let j = cells-after P s y.heap y.left ch a z in
      let k = ap (λ (t : Stock). t.cells a z) (cut-is q le) in
      omega (arith, i, j, k))

  pub nothing-fits : GuardsFit p.program (table_of (kept ++ news)) no_part
  nothing-fits n g e = absurd (none-some (sym (get-empty int_cmp n) ∙ e))

pub nothing-within : (heap : Heap) → CellsWithin heap no_part
nothing-within heap a z e = absurd (none-some (sym (get-empty int_cmp a) ∙ e))
