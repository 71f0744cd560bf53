-- The account after a step follows the one before.
use Rattle.std.proofs.Common.{◌≡◌, inl, inr, ◌≤◌, ℤ, List, [], ◌∷◌, ◌++◌, map, Some, None, refl, sym, ap, ◌∙◌, subst, arith}
use Rattle.std.specs.Prelude.{IsTrue}
use Rattle.cap_prog.specs.Program.{PlainProgram}
use Rattle.cap_machine.specs.declared.event.Event.{Event}
use Rattle.cap_machine_accounts.specs.Parts.{Part, guard_at, Region, region_at}
use Rattle.cap_machine_accounts.specs.Assertions.{Acts}
use Rattle.cap_machine_accounts.specs.Accounts.{Held, OwnedRegion, table_of, CellsWithin, GuardsFit}
use Rattle.cap_machine_accounts.specs.Following.{is_opened, Moves, FollowsRegion, opened_parts, Stepping, FramesFollow, accesses, SomeHasCell, Follows}
use Rattle.cap_account_resources.specs.Parts.{Known, known_as, Table}
use Rattle.cap_account_resources.proofs.Lists.{some-same, Among, all-more}
use Rattle.cap_account_resources.proofs.Interference.{can-acts}
use Rattle.cap_account_resources.proofs.Stocks.{Stock, both, all_of, Inside, inside-same, inside-first, inside-both, inside-cells}
use Rattle.cap_account_resources.proofs.Tables.{FitsRoom, new_guards, fits-less}
use Rattle.cap_account_resources.proofs.Owners.{Owner, owned, numbers_of}
use Rattle.cap_account_states.proofs.Checked.{Checked}
use Rattle.cap_account_steps.proofs.Regained.{Stable}
use Rattle.cap_account.proofs.Stocked.{part_stock, sum_by, owner_of, owner_at, known_by, table_by, share_by, account_table, Turn}
use Rattle.cap_account.proofs.Totals.{parts_stock, sum-join, owners-sum}
use Rattle.cap_account.proofs.Parts.{fits-guards, Together, all-apart, counted-cell}
use Rattle.cap_account.proofs.Drawn.{tells}
use Rattle.cap_account.proofs.Chosen.{members, test-all, found, missing, look, number-among, if_numbered}
use Rattle.cap_account.proofs.Renewed.{from, renewed, known-at, known-after, guarantees, closed-sum, closed-numbers, opened_stock, free_stock, owned-before, made-known}
use Rattle.cap_account.proofs.Changes.{Scene, Change, entered_stock, roomy, shift, step_stock, rest_stock, all_after, step-budget, entered-opened, room-after, cells-after}
use Rattle.cap_account.proofs.Exchanging.{opened-sum, region-told, parts-compose, Exchanged, exchanges}
use Rattle.cap_account.proofs.Successors.{others, scene, kept_of, region-among, follow-each, Stride, cut, kept, news, account, kept-are, news-are}

abbrev pub stepping : {p : Checked} → Turn p → Stepping
stepping x = record {
  thread = x.thread;
  top = x.held;
  below = x.waiting;
  threads = x.a.threads;
}

module _ (p : Checked) (stable : Stable p.program) (x : Turn p) (y : Stride p x) where
  abbrev P : PlainProgram
  P = p.program

  abbrev s : Scene p.program
  s = scene p x

  abbrev ch : Change p.program (scene p x) y.heap y.left
  ch = y.change

  abbrev V : Table
  V = account_table x.a

  abbrev opened : List ℤ
  opened = y.change.by.opened

  abbrev closed : List Owner
  closed = y.change.by.closed

  -- ---- regions

  is-opened : (r : OwnedRegion) (o : Owner) → Among o closed → o.number ≡ r.region.number →
      IsTrue (is_opened opened r)
  is-opened r o m e = elim (test-all r.region.number ch.by.opened) [
    | inl t ↦ t.1
    | inr t ↦
        absurd (t.0 (closed-numbers P s.rs (shift P s y.heap y.left ch) r.region.number
        (subst (λ n. Among n (numbers_of ch.by.closed)) e (number-among ch.by.closed o m))))
  ]

  moves :
      (r : OwnedRegion) → Among r x.a.regions →
      Moves p.program x.held.part opened r
      (from (λ o. o.state) r.region.state (owner_at closed r.region.number))
  moves r m =
      let sh = shift P s y.heap y.left ch in
      let o = owner_of r in
      let k = region-among x.a.regions r m in
      let did = guarantees P s.rs sh o.number o.kind o.args o.state (known-at P s.rs sh o k) in
      let mine = owner_at ch.by.closed r.region.number in
      let new = from (λ (o : Owner). o.state) r.region.state mine in
      let same : did.0 ≡ new = some-same did.0 new
      (ap (λ (e : Known). e.state)
      (some-same (known_as o.kind o.args (Some did.0)) (known_by (renewed ch.by.closed o))
      (sym did.1 ∙ known-after P s.rs sh o k))) in
      elim (look ch.by.closed r.region.number) [
        | found c j e q ↦ elim did.2 [
          | inl stayed ↦ inl (sym same ∙ stayed)
          | inr can ↦ inr (
            is-opened r c j e,
            subst (λ z. Acts P r.region (guard_at x.held.part r.region.number) z) same
                (can-acts P r.region (guard_at x.held.part r.region.number) did.0
                (fits-guards P V x.held.part (roomy P s).room r.region.number) can),
          )
        ]
        | missing f q ↦ inl (ap (from (λ o. o.state) r.region.state) q)
      ]

  region-follows :
      (r : OwnedRegion) → Among r x.a.regions →
      FollowsRegion p.program x.held.part opened r (kept_of (cut p stable x y) closed r)
  region-follows r m = record {
    number = refl;
    kind = refl;
    args = refl;
    moves = moves r m;
    keeps = λ shut. elim (look ch.by.closed r.region.number) [
      | found c j e q ↦ absurd (shut (is-opened r c j e))
      | missing f q ↦ ap (from (λ o. cut p stable x y o.stock) r.part) q
    ];
  }

  -- ---- parts

  abbrev pub before : List Part
  before = x.held.part ∷ opened_parts y.change.by.opened x.a.regions

  abbrev behind : List Part
  behind =
      opened_parts y.change.by.opened (kept p stable x y)
      ++ map (λ r. r.part) (news p stable x y)

  behind-is :
      parts_stock p.program behind
      ≡ both p.program (owned p.program y.change.by.closed) (owned p.program y.change.by.made)
  behind-is =
      let new_parts = map (λ (r : OwnedRegion). r.part) (news p stable x y) in
      sum-join P part_stock (opened_parts ch.by.opened (kept p stable x y)) new_parts
      ∙ ap (λ q. both P q (parts_stock P new_parts))
      (opened-sum P ch.by.opened (kept p stable x y)
      ∙ ap (sum_by P (if_numbered ch.by.opened)) (kept-are p stable x y)
      ∙ closed-sum P s.rs (shift P s y.heap y.left ch))
      ∙ ap (both P (owned P ch.by.closed))
      (owners-sum P (news p stable x y) ∙ ap (owned P) (news-are p stable x y))

  pub after-is :
      (lefts : List Part) → parts_stock p.program lefts ≡ y.left →
      parts_stock p.program (lefts ++ behind)
      ≡ step_stock p.program (scene p x) y.heap y.left y.change
  after-is lefts e =
      sum-join P part_stock lefts behind
      ∙ ap (λ q. both P q (parts_stock P behind)) e
      ∙ ap (both P y.left) behind-is

  entered-before :
      Inside p.program (entered_stock p.program (scene p x) y.change.entered)
      (parts_stock p.program before)
  entered-before =
      let part = part_stock x.held.part in
      let was = parts_stock P (opened_parts ch.by.opened x.a.regions) in
      inside-both P part part (all_of P ch.entered (share_by s.rs)) was (inside-same P part)
      (subst (Inside P (all_of P ch.entered (share_by s.rs)))
      (sym (opened-sum P ch.by.opened x.a.regions)) (entered-opened P s y.heap y.left ch))

  pub cell-before :
      (a z : ℤ) → 1 ≤ (entered_stock p.program (scene p x) y.change.entered).cells a z →
      SomeHasCell before a
  cell-before a z h =
      let i = inside-cells P (entered_stock P s ch.entered) (parts_stock P before) entered-before
      a z in
      counted-cell P y.heap before a z (omega (arith, h, i))

  before-roomy : FitsRoom p.program (account_table x.a) (parts_stock p.program before)
  before-roomy =
      let sh = shift P s y.heap y.left ch in
      let part = part_stock x.held.part in
      let open_now = opened_stock P s.rs sh in
      let all = both P (both P part (others p x)) (owned P s.rs) in
      fits-less P V (parts_stock P before) all
      (subst (λ q. Inside P (both P part q) all) (sym (opened-sum P ch.by.opened x.a.regions))
      (inside-both P part (both P part (others p x)) open_now (owned P s.rs)
      (inside-first P part (others p x))
      (subst (Inside P open_now) (sym (owned-before P s.rs sh))
      (inside-first P open_now (free_stock P s.rs sh)))))
      s.room

  step-inside :
      Inside p.program (step_stock p.program (scene p x) y.heap y.left y.change)
      (all_after p.program (scene p x) y.heap y.left y.change)
  step-inside =
      inside-first P (step_stock P s y.heap y.left ch) (rest_stock P s y.heap y.left ch)

  module _ (lefts : List Part) (e : parts_stock p.program lefts ≡ y.left) where
    abbrev after : List Part
    after = lefts ++ behind

    after-roomy : FitsRoom p.program y.change.by.U (parts_stock p.program (lefts ++ behind))
    after-roomy =
        subst (FitsRoom P ch.by.U) (sym (after-is lefts e))
        (fits-less P ch.by.U (step_stock P s y.heap y.left ch) (all_after P s y.heap y.left ch)
        step-inside (room-after P s y.heap y.left ch))

    after-within : Together y.heap (parts_stock p.program (lefts ++ behind))
    after-within a z =
        let i = ap (λ (q : Stock). q.cells a z) (after-is lefts e) in
        let j = inside-cells P (step_stock P s y.heap y.left ch) (all_after P s y.heap y.left ch)
        step-inside a z in
        let k = cells-after P s y.heap y.left ch a z in
        omega (arith, i, j, k)

    exchanged :
        Exchanged p.program x.c.heap y.heap (account_table x.a) y.change.by.U before
        (lefts ++ behind)
    exchanged = record {
      entered = entered_stock P s ch.entered;
      held = ch.held;
      recells = ch.recells;
      was = entered-before;
      budget =
          subst (λ q. Inside P q (both P ch.held (new_guards P V ch.by.U))) (sym (after-is lefts e))
          (step-budget P s y.heap y.left ch);
      room_before = before-roomy;
      room_after = after-roomy;
    }

    -- a made region is in the table afterwards
    news-told :
        (n : ℤ) (r : Region) → region_at (table_of (news p stable x y)) n ≡ Some r →
        y.change.by.U n ≡ Some (tells r)
    news-told n r h =
        made-known P s.rs (shift P s y.heap y.left ch) n (tells r)
        (ap (λ os. table_by os n) (sym (news-are p stable x y))
        ∙ region-told (news p stable x y) n r h)

    pub follows :
        (event : Event) (hss : List (List Held)) (handed : Part) →
        FramesFollow event (stepping x) hss handed lefts →
        GuardsFit p.program (table_of (kept p stable x y ++ news p stable x y)) handed →
        CellsWithin x.c.heap handed → (accesses event ≡ None → y.change.by.opened ≡ []) →
        ((z : ℤ) → accesses event ≡ Some z → SomeHasCell before z) →
        Follows p.program x.c.heap x.thread event x.a (account p stable x y hss) handed
    follows event hss handed frames fit within shut access = record {
      top = x.held;
      below = x.waiting;
      is_stepping = x.has_parts;
      opened = ch.by.opened;
      at_most_two = (let i = ch.two in let j = ch.by.count in omega (arith, i, j));
      only_at_access = shut;
      kept = kept p stable x y;
      made = news p stable x y;
      regions = refl;
      old_regions =
          follow-each P x.held.part ch.by.opened (kept_of (cut p stable x y) ch.by.closed)
          x.a.regions
          (all-more (λ r. Among r x.a.regions) (λ r. FollowsRegion P x.held.part ch.by.opened r
          (kept_of (cut p stable x y) ch.by.closed r)) region-follows x.a.regions
          (members x.a.regions));
      left = lefts;
      frames = frames;
      handed_fits = fit;
      handed_within = within;
      left_apart = all-apart P y.heap after after-within;
      left_compose = λ n.
          let c = parts-compose P ch.by.U after after-roomy n in (c.0, c.1);
      access = access;
      exchanges =
          exchanges P x.c.heap y.heap V ch.by.U before after exchanged
          (table_of x.a.regions) (table_of (news p stable x y))
          (λ n r h. region-told x.a.regions n r h) news-told;
    }
