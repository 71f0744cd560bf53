-- A step in terms of what is held: what is there afterwards is within heap and room, and for all
-- others the step is interference.
use Rattle.cap_account_resources.proofs.Tables.{fits-composes, TableFits, NoneOpen, AreListed, FitsRoom, guards_if_new, new_guards, fits-less, fits-later, relies-types}
use Rattle.cap_account_steps.proofs.SettledTables.{opened-apart}
use Rattle.std.proofs.Common.{◌≡◌, ◌⊎◌, ℕ, suc, ◌+◌, ◌≤◌, ℤ, Bool, true, false, List, [], ◌∷◌, length, Option, Some, None, refl, sym, ap, ◌∙◌, subst, arith}
use Rattle.std.specs.Prelude.{slice_get, option_map}
use Rattle.std.specs.List.{AllByRecursion}
use Rattle.std.specs.FinMap.{get}
use Rattle.cap_prog.specs.Program.{PlainRegionType, PlainProgram}
use Rattle.cap_machine.specs.Machine.{Heap}
use Rattle.cap_account_resources.specs.Parts.{Known, known_as, Table, cells_of}
use Rattle.cap_account_resources.proofs.Lists.{some-same, none-some, Among}
use Rattle.cap_account_resources.proofs.Monoid.{atom as at, both as plus}
use Rattle.cap_account_resources.proofs.Covering.{join_marks, IsPartOf}
use Rattle.cap_account_resources.proofs.Interference.{Relies, guarantees-relies, relies-less}
use Rattle.cap_account_resources.proofs.Room.{room}
use Rattle.cap_account_resources.proofs.Stocks.{Stock, both, all_of, Inside, reordered, some-inside, inside-same, inside-trans, inside-first, inside-second, inside-both, inside-cells, inside-guards}
use Rattle.cap_account_resources.proofs.Owners.{Owner, owned, numbers_of}
use Rattle.cap_account_assertions.proofs.Asserted.{OwnsRegion}
use Rattle.cap_account_assertions.proofs.Laws.{Reached}
use Rattle.cap_account_steps.proofs.Regained.{Stable}
use Rattle.cap_account_steps.proofs.Frames.{Roomy}
use Rattle.cap_account_steps.proofs.Worlds.{Differ, World, opened_at, opened_table, SettlesBy}
use Rattle.cap_account.proofs.Stocked.{sum_by, known_by, table_by, stock_or_none, share_by, OwnsItsOwn}
use Rattle.cap_account.proofs.Chosen.{of-member, has_number, found, missing, look, Apart, number-among, if_numbered, unless_numbered, sum-split, owned-sum, of-numbers, numbers-less}
use Rattle.cap_account.proofs.Renewed.{Shift, the_state, after, free_stock, opened_stock, table-after, guarantees, owned-before, own-after}

-- ---- tables of owners

module _ (p : PlainProgram) (T : Table) (rs : List Owner)
    (own : AllByRecursion (OwnsItsOwn p T) rs) where
  -- an owner that the table tells of
  told :
      (n : ℤ) (e : Known) → table_by rs n ≡ Some e →
      (r : Owner) × Among r rs × (r.number ≡ n) × (known_by r ≡ e) × (share_by rs n ≡ r.stock)
  told n e h = elim (look rs n) [
    | found r m k q ↦ (
      r,
      m,
      k,
      some-same (known_by r) e (sym (ap (option_map known_by) q) ∙ h),
      ap stock_or_none q,
    )
    | missing f q ↦ absurd (none-some (sym (ap (option_map known_by) q) ∙ h))
  ]

  pub owners-fit : TableFits p (table_by rs)
  owners-fit n e h =
      let t = told n e h in
      let i = of-member (OwnsItsOwn p T) t.0 rs t.1 own in
      subst (λ (k : Known). (y : PlainRegionType) × (slice_get p.regions k.kind ≡ Some y)
      × (y.params ≡ suc (length k.args))) t.3 (i.type, i.is_type, i.arity)

  pub owners-full : NoneOpen (table_by rs)
  owners-full n e h =
      let t = told n e h in (t.0.state, ap (λ (k : Known). k.state) (sym t.3))

  pub owners-listed : AreListed (numbers_of rs) (table_by rs)
  owners-listed n e h =
      let t = told n e h in
      subst (λ m. Among m (numbers_of rs)) t.2 (number-among rs t.0 t.1)

  pub owners-own :
      (n : ℤ) (k : ℕ) (args : List ℤ) (b : ℤ) →
      table_by rs n ≡ Some (known_as k args (Some b)) →
      OwnsRegion p T n k args b (share_by rs n)
  owners-own n k args b h =
      let t = told n (known_as k args (Some b)) h in
      let q = t.0.stock in
      subst (OwnsRegion p T n k args b) (sym t.4)
      (subst (λ m. OwnsRegion p T m k args b q) t.2
      (subst (λ (e : Known). OwnsRegion p T t.0.number e.kind e.args (the_state e.state b) q)
      t.3 (of-member (OwnsItsOwn p T) t.0 rs t.1 own)))

-- ---- tables in which regions are open

pub new-opened :
    (p : PlainProgram) (ns : List ℤ) (V U : Table) →
    new_guards p (opened_table ns V) U ≡ new_guards p V U
new-opened p ns V U i =
    record { cells = λ a z. 0; guards = λ n. by (has_number ns n) (V n) (U n) i }
  where
    by :
        (b : Bool) (o u : Option Known) →
        guards_if_new p (opened_at b o) u ≡ guards_if_new p o u
    by true None u = refl
    by true (Some e) u = refl
    by false None u = refl
    by false (Some e) u = refl

-- ---- a step

-- what the stepping frame has, what other frames have, and the regions
pub record Scene (p : PlainProgram) : Type 0 where
  pub rs : List Owner
  pub part : Stock
  pub others : Stock
  pub heap : Heap
  pub differ : Apart rs
  pub room : FitsRoom p (table_by rs) (both p (both p part others) (owned p rs))
  pub cells : (a z : ℤ) → (both p (both p part others) (owned p rs)).cells a z ≤ cells_of heap a z
  pub own : AllByRecursion (OwnsItsOwn p (table_by rs)) rs

-- cells that are held go to others of another heap: none is invented
pub record Recells (q r : Stock) (old new : Heap) : Type 0 where
  pub guards : (n : ℤ) → r.guards n ≡ q.guards n
  pub fit :
      (a z : ℤ) (m : ℕ) → q.cells a z + m ≤ cells_of old a z → r.cells a z + m ≤ cells_of new a z
  pub come :
      (a z : ℤ) → 1 ≤ r.cells a z → ((y : ℤ) × (1 ≤ q.cells a y)) ⊎ (get old a ≡ None)

abbrev pub entered_stock : (p : PlainProgram) → Scene p → List ℤ → Stock
entered_stock p s ns = both p s.part (all_of p ns (share_by s.rs))

-- these regions are entered, cells change, and regions are closed and made; this is left to frames
pub record Change (p : PlainProgram) (s : Scene p) (heap : Heap) (left : Stock) : Type 0 where
  pub entered : List ℤ
  pub differ : Differ entered
  pub two : length entered ≤ 2
  pub held : Stock
  pub recells : Recells (entered_stock p s entered) held s.heap heap
  pub by :
      SettlesBy p (table_by s.rs) (opened_table entered (table_by s.rs)) s.part held entered left

module _ (p : PlainProgram) (s : Scene p) where
  abbrev V : Table
  V = table_by s.rs

  abbrev everything : Stock
  everything = both p (both p s.part s.others) (owned p s.rs)

  pub part-inside : Inside p s.part everything
  part-inside =
      inside-trans p s.part (both p s.part s.others) everything (inside-first p s.part s.others)
      (inside-first p (both p s.part s.others) (owned p s.rs))

  entered-inside : (ns : List ℤ) → Differ ns → Inside p (entered_stock p s ns) everything
  entered-inside ns d =
      inside-both p s.part (both p s.part s.others) (all_of p ns (share_by s.rs)) (owned p s.rs)
      (inside-first p s.part s.others)
      (subst (λ q. Inside p q (owned p s.rs)) (of-numbers p ns d s.rs s.differ)
      (subst (Inside p (sum_by p (if_numbered ns) s.rs))
      (sym (owned-sum p s.rs
      ∙ sum-split p (λ r. has_number ns r.number) (λ r. r.stock) s.rs))
      (inside-first p (sum_by p (if_numbered ns) s.rs) (sum_by p (unless_numbered ns) s.rs))))

  pub world : World p V (share_by s.rs) s.part s.heap
  world = record {
    fits = owners-fit p V s.rs s.own;
    full = owners-full p V s.rs s.own;
    owns = owners-own p V s.rs s.own;
    room = λ ns d there.
        fits-less p V (entered_stock p s ns) everything (entered-inside ns d) s.room;
    cells = λ ns d there a z.
        let i = inside-cells p (entered_stock p s ns) everything (entered-inside ns d) a z in
        let k = s.cells a z in
        omega (arith, i, k);
    bound = numbers_of s.rs;
    listed = owners-listed p V s.rs s.own;
  }

  pub roomy : Roomy p V s.part
  roomy = record {
    fits = owners-fit p V s.rs s.own;
    full = owners-full p V s.rs s.own;
    room = fits-less p V s.part everything part-inside s.room;
    bound = numbers_of s.rs;
    listed = owners-listed p V s.rs s.own;
  }

module _ (p : PlainProgram) (s : Scene p) (heap : Heap) (left : Stock)
    (ch : Change p s heap left) where
  abbrev W : Table
  W = opened_table ch.entered (table_by s.rs)

  abbrev E : Stock
  E = all_of p ch.entered (share_by s.rs)

  abbrev pub shift : Shift p s.rs
  shift = record {
    differ = s.differ;
    part = s.part;
    W = opened_table ch.entered (table_by s.rs);
    U = ch.by.U;
    opened = ch.by.opened;
    closed = ch.by.closed;
    made = ch.by.made;
    settles = ch.by.settles;
    away = λ n f.
        opened-apart ch.entered (table_by s.rs) n (λ m. f (ch.by.all_of_them n m));
  }

  abbrev pub free_regions : Stock
  free_regions = free_stock p s.rs shift

  -- what the stepping frame, closed and made regions have afterwards
  abbrev pub step_stock : Stock
  step_stock = both p left (both p (owned p ch.by.closed) (owned p ch.by.made))

  -- what others have all along
  abbrev pub rest_stock : Stock
  rest_stock = both p s.others (free_stock p s.rs shift)

  abbrev pub all_after : Stock
  all_after = both p step_stock rest_stock

  abbrev new : Stock
  new = new_guards p (table_by s.rs) ch.by.U

  pub step-budget : Inside p step_stock (both p ch.held new)
  step-budget =
      subst (λ q. Inside p step_stock (both p ch.held q))
      (new-opened p ch.entered (table_by s.rs) ch.by.U) ch.by.budget

  -- what was entered is of the opened regions
  pub entered-opened : Inside p E (opened_stock p s.rs shift)
  entered-opened =
      subst (λ q. Inside p q (opened_stock p s.rs shift))
      (of-numbers p ch.entered ch.differ s.rs s.differ)
      (numbers-less p ch.entered ch.by.opened ch.by.all_of_them s.rs)

  before-inside :
      Inside p (both p (both p s.part E) rest_stock)
      (both p (both p s.part s.others) (owned p s.rs))
  before-inside =
      let more = entered-opened.0 in
      let was = both p s.part s.others in
      subst (λ q. Inside p (both p (both p s.part E) rest_stock) (both p was q))
      (ap (λ q. both p q free_regions) entered-opened.1 ∙ sym (owned-before p s.rs shift))
      (some-inside p (s.part ∷ s.others ∷ E ∷ more ∷ free_regions ∷ [])
      (plus (plus (at 0) (at 2)) (plus (at 1) (at 4)))
      (plus (plus (at 0) (at 1)) (plus (plus (at 2) (at 3)) (at 4))) (3 ∷ []) refl)

  after-inside : Inside p all_after (both p (both p ch.held rest_stock) new)
  after-inside =
      subst (Inside p all_after)
      (reordered p (ch.held ∷ new ∷ rest_stock ∷ []) (plus (plus (at 0) (at 1)) (at 2))
      (plus (plus (at 0) (at 2)) (at 1)) refl)
      (inside-both p step_stock (both p ch.held new) rest_stock rest_stock step-budget
      (inside-same p rest_stock))

  room-before : FitsRoom p (table_by s.rs) (both p (both p s.part E) rest_stock)
  room-before =
      fits-less p (table_by s.rs) (both p (both p s.part E) rest_stock)
      (both p (both p s.part s.others) (owned p s.rs)) before-inside s.room

  -- ---- interference for others

  pub relies-rest : Relies p rest_stock.guards (table_by s.rs) ch.by.U
  relies-rest =
      let q = both p s.part rest_stock in
      guarantees-relies p s.part.guards rest_stock.guards (table_by s.rs) ch.by.U
      (fits-composes p (table_by s.rs) q
      (fits-less p (table_by s.rs) q (both p (both p s.part E) rest_stock)
      (inside-both p s.part (both p s.part E) rest_stock rest_stock (inside-first p s.part E)
      (inside-same p rest_stock)) room-before))
      (guarantees p s.rs shift)

  pub relies-for : (q : Stock) → Inside p q rest_stock → Relies p q.guards (table_by s.rs) ch.by.U
  relies-for q le =
      relies-less p q.guards rest_stock.guards (table_by s.rs) ch.by.U
      (inside-guards p q rest_stock le) relies-rest

  -- ---- what all have afterwards

  pub room-after : FitsRoom p ch.by.U all_after
  room-after =
      fits-less p ch.by.U all_after (both p (both p ch.held rest_stock) new) after-inside
      (fits-later p (table_by s.rs) ch.by.U (both p ch.held rest_stock)
      (relies-types p (table_by s.rs) ch.by.U rest_stock (owners-full p (table_by s.rs) s.rs s.own)
      relies-rest) (λ n.
      subst (λ g. IsPartOf p (join_marks p g (rest_stock.guards n)) (room p (table_by s.rs) n))
      (sym (ch.recells.guards n)) (room-before n)))

  pub cells-after : (a z : ℤ) → all_after.cells a z ≤ cells_of heap a z
  cells-after a z =
      let i = inside-cells p (both p (both p s.part E) rest_stock)
      (both p (both p s.part s.others) (owned p s.rs)) before-inside a z in
      let j = s.cells a z in
      let k = ch.recells.fit a z (rest_stock.cells a z) (omega (arith, i, j)) in
      let m = inside-cells p all_after (both p (both p ch.held rest_stock) new) after-inside a z in
      omega (arith, k, m)

  reached : (q : Stock) → Inside p q free_regions → Reached p (table_by s.rs) ch.by.U q
  reached q le =
      let rest = inside-trans p q free_regions rest_stock le
      (inside-second p s.others free_regions) in
      record {
        fits = owners-fit p (table_by s.rs) s.rs s.own;
        full = owners-full p (table_by s.rs) s.rs s.own;
        room =
            fits-less p (table_by s.rs) q (both p (both p s.part E) rest_stock)
            (inside-trans p q rest_stock (both p (both p s.part E) rest_stock) rest
            (inside-second p (both p s.part E) rest_stock)) room-before;
        relies = relies-for q rest;
      }

  -- ---- the regions afterwards

  abbrev pub regions_after : List Owner
  regions_after = after p s.rs shift

  pub is-table : table_by regions_after ≡ ch.by.U
  is-table i n = table-after p s.rs shift n i

  pub own-regions : Stable p → AllByRecursion (OwnsItsOwn p ch.by.U) regions_after
  own-regions stable = own-after p s.rs shift stable s.own reached

  pub listed-after : Stable p → AreListed (numbers_of regions_after) ch.by.U
  listed-after stable =
      subst (AreListed (numbers_of regions_after)) is-table
      (owners-listed p ch.by.U regions_after (own-regions stable))

  pub roomy-after : Stable p → (q : Stock) → Inside p q all_after → Roomy p ch.by.U q
  roomy-after stable q le = record {
    fits =
        subst (TableFits p) is-table
        (owners-fit p ch.by.U regions_after (own-regions stable));
    full =
        subst NoneOpen is-table (owners-full p ch.by.U regions_after (own-regions stable));
    room = fits-less p ch.by.U q all_after le room-after;
    bound = numbers_of regions_after;
    listed = listed-after stable;
  }
