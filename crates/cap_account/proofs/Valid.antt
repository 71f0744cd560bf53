-- The account of a sound configuration is valid.
use Rattle.cap_account_resources.proofs.Tables.{fits-composes, FitsRoom, fits-less}
use Rattle.std.proofs.Common.{◌≡◌, ◌≢◌, suc, List, [], ◌∷◌, map, length, refl, sym, ap, ◌∙◌, subst, arith}
use Rattle.std.specs.Prelude.{flat_map}
use Rattle.std.specs.List.{AllByRecursion}
use Rattle.cap_prog.specs.Program.{PlainFunction, PlainProgram}
use Rattle.cap_machine.specs.Machine.{Frame, Thread}
use Rattle.cap_machine_accounts.specs.Parts.{Part}
use Rattle.cap_machine_accounts.specs.Assertions.{IsInterpreted}
use Rattle.cap_machine_accounts.specs.Accounts.{Held, OwnedRegion, table_of, parts, FrameHolds, ThreadHolds, ThreadsHold, EachTwo, GuardsFit}
use Rattle.cap_account_resources.specs.Parts.{Known, Table}
use Rattle.cap_account_resources.proofs.Lists.{all-more, all-first}
use Rattle.cap_account_resources.proofs.Stocks.{Inside, inside-same}
use Rattle.cap_account_states.proofs.Checked.{Checked}
use Rattle.cap_account_steps.proofs.Points.{FrameOk}
use Rattle.cap_account.proofs.Stocked.{part_stock, owners, table_by, account_table, Callee, callee_of, AllWait, StackStands, EachStands, OwnsItsOwn, ValidLaw}
use Rattle.cap_account.proofs.Totals.{parts_stock, sum-each, sum-guards, account-sum}
use Rattle.cap_account.proofs.Parts.{plain, plain-is, guard-in-room, room-is-guard, fits-guards, Together, all-within, all-apart}
use Rattle.cap_account.proofs.Drawn.{region-there, region-met}

-- ---- frames have what they are to have

frame-holds :
    (p : PlainProgram) (fn : PlainFunction) (f : Frame) (h : Held) → FrameOk p fn h.fixed f →
    FrameHolds p f h
frame-holds p fn f h ok = (fn, ok.is_fn, ok.values)

module _ (p : Checked) (T : Table) where
  waiting-hold :
      (y : Callee) (fs : List Frame) (hs : List Held) → AllWait p T y fs hs →
      ThreadHolds p.program fs hs
  waiting-hold y [] [] w = tt
  waiting-hold y [] (h ∷ hs) w = absurd w
  waiting-hold y (f ∷ fs) [] w = absurd w
  waiting-hold y (f ∷ fs) (h ∷ hs) w =
      (frame-holds p.program w.0.fn f h w.0.ok, waiting-hold (callee_of f h) fs hs w.1)

  stack-holds : (t : Thread) (hs : List Held) → StackStands p T t hs → ThreadHolds p.program t hs
  stack-holds [] [] s = tt
  stack-holds [] (h ∷ hs) s = absurd s
  stack-holds (f ∷ fs) [] s = absurd s
  stack-holds (f ∷ fs) (h ∷ hs) s =
      (frame-holds p.program s.0.fn f h s.0.ok, waiting-hold (callee_of f h) fs hs s.1)

  threads-hold :
      (ts : List Thread) (hss : List (List Held)) → length hss ≡ length ts →
      EachStands p T ts hss → ThreadsHold p.program ts hss
  threads-hold [] [] n f = tt
  threads-hold [] (hs ∷ hss) n f = absurd (omega (arith, n))
  threads-hold (t ∷ ts) [] n f = absurd (omega (arith, n))
  threads-hold (t ∷ ts) (hs ∷ hss) n f = (
    stack-holds t hs (f 0 t hs refl refl),
    threads-hold ts hss (omega (arith, n)) (λ i. f (suc i)),
  )

-- ---- regions

numbers-apart :
    (r : OwnedRegion) (rs : List OwnedRegion) →
    AllByRecursion (λ s. r.region.number ≢ s.number) (owners rs) →
    AllByRecursion (λ s. r.region.number ≢ s.number) (table_of rs)
numbers-apart r [] h = tt
numbers-apart r (s ∷ rs) h = (h.0, numbers-apart r rs h.1)

numbers-differ :
    (rs : List OwnedRegion) → EachTwo (λ r s. r.number ≢ s.number) (owners rs) →
    EachTwo (λ r s. r.number ≢ s.number) (table_of rs)
numbers-differ [] h = tt
numbers-differ (r ∷ rs) h = (numbers-apart r rs h.0, numbers-differ rs h.1)

module _ (p : PlainProgram) (all : List OwnedRegion) where
  abbrev FitsTable : Part → Type 0
  FitsTable q = FitsRoom p (table_by (owners all)) (part_stock q)

  -- guards within the room are of regions in the table, and of their types
  pub guards-fit : (q : Part) → FitsTable q → GuardsFit p (table_of all) q
  guards-fit q h n g e =
      let T = table_by (owners all) in
      let i = guard-in-room p T q h n g e in
      let r = region-there all n i.known i.is_known in (
        (r.0, r.1, ap (λ (k : Known). k.kind) r.2 ∙ i.of_kind),
        room-is-guard p T n g i,
      )

  -- parts that are within the room together are so each by itself
  pub each-fits :
      (qs : List Part) → FitsRoom p (table_by (owners all)) (parts_stock p qs) →
      AllByRecursion FitsTable qs
  each-fits qs h =
      all-more (λ q. Inside p (part_stock q) (parts_stock p qs)) FitsTable
      (λ q i. fits-less p (table_by (owners all)) (part_stock q) (parts_stock p qs) i h) qs
      (sum-each p part_stock qs)

  regions-met :
      (rs : List OwnedRegion) →
      AllByRecursion (OwnsItsOwn p (table_by (owners all))) (owners rs) →
      AllByRecursion FitsTable (map (λ r. r.part) rs) →
      AllByRecursion (λ r. IsInterpreted p (table_of all) r.region r.part) rs
  regions-met [] h k = tt
  regions-met (r ∷ rs) h k = (
    region-met p all r.region (part_stock r.part) r.part
        (record {
          inside = inside-same p (part_stock r.part);
          guards = fits-guards p (table_by (owners all)) r.part k.0;
        }) h.0,
    regions-met rs h.1 k.1,
  )

-- ---- the account

pub accounts-are-valid : (p : Checked) → ValidLaw p
accounts-are-valid p c a s =
    let T = account_table a in
    let sum = account-sum p.program a in
    let roomy = subst (FitsRoom p.program T) (sym sum) s.room in
    let within = subst (Together c.heap) (sym sum) s.heap in
    let each = each-fits p.program a.regions (parts a) roomy in
    record {
      frames = threads-hold p T c.threads a.threads s.count s.stacks;
      numbers = numbers-differ a.regions s.differ;
      guards_fit =
          all-more (FitsTable p.program a.regions) (GuardsFit p.program (table_of a.regions))
          (guards-fit p.program a.regions) (parts a) each;
      cells_apart = all-apart p.program c.heap (parts a) within;
      cells_within = all-within p.program c.heap (parts a) within;
      guards_compose = λ n.
          let o = (parts_stock p.program (parts a)).guards n in (
            plain o,
            sum-guards p.program (parts a) n (plain o)
                (sym (plain-is o
                (fits-composes p.program T (parts_stock p.program (parts a)) roomy n))),
          );
      interpreted =
          regions-met p.program a.regions a.regions s.regions
          (all-first (FitsTable p.program a.regions) (map (λ r. r.part) a.regions)
          (flat_map (map (λ h. h.part)) a.threads) each);
    }
