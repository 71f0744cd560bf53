-- An act along a walk, and then the closings: what is known at the walk's values when they begin.
use Rattle.std.proofs.Common.{◌≡◌, inl, inr, ℕ, ◌<◌, ◌≤◌, ℤ, ◌<ℤ◌, List, [], length, map, Option, Some, refl, sym, ap, ◌∙◌, subst, arith}
use Rattle.std.specs.Prelude.{is_some}
use Rattle.std.specs.List.{AllByRecursion}
use Rattle.std.proofs.lemmas.Slice.Zip.{AllZip-long}
use Rattle.cap_lin.specs.Linear.{Linear}
use Rattle.cap_lin.specs.Values.{value}
use Rattle.cap_lin.specs.declared.row.Sort.TheVariants.{Int}
use Rattle.cap_farkas.specs.declared.cert.Cert.{Cert}
use Rattle.cap_prog.specs.Program.{Label, PlainAct, Block, first, PlainFunction}
use Rattle.cap_goal_spec.specs.States.{PlainState, Home, PlainFact, goal}
use Rattle.cap_goal_spec.specs.Choices.{node, by_act, PlainTrees}
use Rattle.cap_rules.specs.Closing.{address_of}
use Rattle.cap_machine.specs.Machine.{Heap, Frame, value_in, with_rest}
use Rattle.cap_machine_accounts.specs.Assertions.{NameValue}
use Rattle.cap_account_resources.specs.Parts.{cells_of, Table}
use Rattle.cap_account_resources.proofs.Lists.{all-more, within}
use Rattle.cap_account_resources.proofs.Stocks.{Stock, both, all_of}
use Rattle.cap_account_resources.proofs.Tables.{TableFits, AreListed, FitsRoom}
use Rattle.cap_account_states.proofs.Alike.{agree-alike}
use Rattle.cap_account_states.proofs.Backed.{IsFirm}
use Rattle.cap_account_states.proofs.Checked.{Checked}
use Rattle.cap_account_states.proofs.Facts.{FactHolds, FactOver}
use Rattle.cap_account_states.proofs.KnowsLater.{Steady}
use Rattle.cap_account_states.proofs.Meets.{Usable}
use Rattle.cap_account_assertions.proofs.MadeTables.{among-or}
use Rattle.cap_account_steps.proofs.Acts.{act_number, Done}
use Rattle.cap_account_steps.proofs.AtCell.{AtCell}
use Rattle.cap_account_steps.proofs.Entering.{firm-exact, firm-over}
use Rattle.cap_account_steps.proofs.Exact.{all-two, over-more}
use Rattle.cap_account_steps.proofs.OpenTables.{open-fits, open-listed}
use Rattle.cap_account_steps.proofs.SettledTables.{opened-apart}
use Rattle.cap_account_steps.proofs.StillOpen.{regions-later}
use Rattle.cap_account_steps.proofs.Stores.{Store, running}
use Rattle.cap_account_steps.proofs.Worlds.{IsThere, regions_of, Opening, opened_table, after_act, recelled, AllOver, IsStillOpen}
use Rattle.cap_owners_spec.specs.Traced.{valuation}
use Rattle.cap_owners_spec.specs.Track.{TrackedRegion}
use Rattle.cap_owners_walks_laws.proofs.Values.More.{FitsSort}
use Rattle.cap_owners_walks_laws.proofs.Fills.Drawn.{Tells}
use Rattle.cap_owners_walks_laws.proofs.Walks.Leading.{Left}
use Rattle.cap_owners_walks_laws.proofs.Regions.Acted.{cell, content, done, act_values, act-agree, act-sorted, act-closing}
use Rattle.cap_owners_walks_laws.proofs.Regions.Closes.{Closes}
use Rattle.cap_owners_walks_laws.proofs.Regions.Marked.{SaysAt, all-marks-say}
use Rattle.cap_owners_walks_laws.proofs.Regions.Open.{TellsOpen, numbers_in, AreAscending, first-open}
use Rattle.cap_owners_walks_laws.proofs.Regions.Regiven.{AreSorted}
use Rattle.cap_owners_walks_laws.proofs.Regions.Says.{SaysOr}

-- what says what the table does, says so while others are open
says-open :
    (vs : List NameValue) (V : Table) (ns : List ℤ) (f : PlainFact) → SaysAt vs V f →
    SaysOr (valuation vs) (opened_table ns V) ns f
says-open vs V ns f h =
    let n = value (valuation vs).whole f.region in
    elim (among-or n ns) [ inl a ↦ inl a | inr away ↦ inr (opened-apart ns V n away ∙ h.1) ]

module _ (p : Checked) (V : Table) (share : ℤ → Stock) (part : Stock) (fn : PlainFunction)
    (fixed : List NameValue) (size : length fixed ≡ length fn.fixed) (f : Frame) (l : Label)
    (a : PlainAct) (b : Block) (h : Home) (x : Linear) (address : address_of a ≡ Some x)
    (vs : List NameValue) (s : PlainState)
    (o : Opening p.program V share part (valuation vs) s)
    (room : FitsRoom p.program V
    (both p.program part (all_of p.program (regions_of (valuation vs) s.opened) share)))
    (st : Store (valuation vs) s h fn fixed (with_rest f (first l a b))) (j : ℕ) (cs : List Cert)
    (ms : List (Option Cert)) (ks : PlainTrees)
    (valid : p.N (node (by_act j cs ms) ks) s (running (first l a b) h))
    (sorted : AreSorted s.sorts vs) where
  abbrev ns : List ℤ
  ns = regions_of (valuation vs) s.opened

  abbrev held : Stock
  held = both p.program part (all_of p.program (regions_of (valuation vs) s.opened) share)

  abbrev d : Done p (Left p (by_act j cs ms) ks (goal s (running (first l a b) h))) V part held ns
      fn fixed f h l.number b x (valuation vs) s (map is_some ms) a
      (cell p V share part fn fixed size f l a b h x address vs s o room st j cs ms ks valid)
      (after_act a f b
      (content p V share part fn fixed size f l a b h x address vs s o room st j cs ms ks valid))
      (act_number a f
      (content p V share part fn fixed size f l a b h x address vs s o room st j cs ms ks valid))
  d = done p V share part fn fixed size f l a b h x address vs s o room st j cs ms ks valid

  abbrev k : AtCell p (Left p (by_act j cs ms) ks (goal s (running (first l a b) h))) V part held ns
      fn fixed f h l.number a b (value_in f.store x) (valuation vs) s (map is_some ms)
  k = cell p V share part fn fixed size f l a b h x address vs s o room st j cs ms ks valid

  abbrev pub then_values : List NameValue
  then_values = act_values p V share part fn fixed size f l a b h x address vs s o room st j cs ms ks
      valid

  -- what is held then
  abbrev pub then_held : Stock
  then_held =
      recelled (both p.program part (all_of p.program (regions_of (valuation vs) s.opened) share))
      (value_in f.store x)
      (content p V share part fn fixed size f l a b h x address vs s o room st j cs ms ks valid)
      (after_act a f b
      (content p V share part fn fixed size f l a b h x address vs s o room st j cs ms ks valid)).0

  pub regions-then :
      regions_of (valuation then_values) d.t.opened ≡ regions_of (valuation vs) s.opened
  regions-then =
      let agree = act-agree p V share part fn fixed size f l a b h x address vs s o room st j cs ms
      ks valid sorted in
      let still = IsStillOpen k.ks k.v V (opened_table ns V) d.t in
      regions-later p.program k.ks k.ks k.v (valuation then_values) d.t d.t (record {
        alike = agree-alike (Steady k.ks d.t) k.v (valuation then_values) agree;
        sorts = λ y o e. e;
        count = omega arith;
        less = λ y i. i.1;
        store = refl;
      }) d.t.opened
      (all-more still (AllOver (Usable k.ks d.t.sorts Int)) (λ g i. i.0) d.t.opened
      d.ready.closing.opened)
      ∙ ap (regions_of k.v) d.opened
      ∙ k.regions

  says-before : AllByRecursion (SaysAt vs V) s.facts
  says-before =
      let v = valuation vs in
      let R = Usable [] s.sorts Int in
      let count = AllZip-long FitsSort s.sorts vs sorted in
      all-two (λ g. IsFirm g × FactHolds v V g) (FactOver R) (SaysAt vs V)
      (λ g i over. (
        over-more R (λ y. y < length vs)
            (λ y u. (let low = within s.sorts y Int u.0 in omega (arith, low, count))) g
            (firm-over R g i.0 over),
        firm-exact v V g i.0 i.1,
      )) s.facts
      (all-two IsFirm (FactHolds v V) (λ g. IsFirm g × FactHolds v V g) (λ g i k. (i, k)) s.facts
      o.firm o.facts.holds) o.facts.over

  pub says-then :
      AllByRecursion (SaysOr (valuation then_values)
      (opened_table (regions_of (valuation vs) s.opened) V)
      (regions_of (valuation then_values) d.t.opened)) d.t.facts
  says-then =
      let S = λ (ms : List ℤ). SaysOr (valuation then_values) (opened_table ns V) ms in
      subst (λ ms. AllByRecursion (S ms) d.t.facts) (sym regions-then)
      (subst (AllByRecursion (S ns)) (sym d.facts)
      (all-more (SaysAt then_values V) (S ns) (says-open then_values V ns) k.s.facts
      (all-marks-say V vs s k.s ms (sym (AllZip-long FitsSort s.sorts vs sorted)) says-before
      k.marked)))

  -- closing begins so
  pub act-closes :
      (heap : Heap) → TableFits p.program V → (bound : List ℤ) → AreListed bound V →
      AllByRecursion (IsThere V) (regions_of (valuation vs) s.opened) → (rs : List TrackedRegion)
      (next : ℤ) → Tells rs V → AreAscending (numbers_in rs) →
      AllByRecursion (λ n. n <ℤ next) (numbers_in rs) →
      ((c z : ℤ) → then_held.cells c z ≤ cells_of heap c z) →
      Closes p heap V part (opened_table (regions_of (valuation vs) s.opened) V) k.ks then_values d.t
      then_held rs next
  act-closes heap fits bound listed there rs next tells ascending below cells = record {
    closing = act-closing p V share part fn fixed size f l a b h x address vs s o room st j cs ms ks
        valid sorted;
    sorted = act-sorted p V share part fn fixed size f l a b h x address vs s o room st j cs ms ks
        valid sorted;
    says = says-then;
    fits = open-fits p.program ns V fits;
    bound = bound;
    listed = open-listed p.program ns V bound listed;
    tells =
        subst (λ ms. TellsOpen ms rs (opened_table ns V)) (sym regions-then)
        (first-open ns rs V there tells);
    ascending = ascending;
    below = below;
    cells = cells;
  }
