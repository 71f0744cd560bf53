-- The table in which regions are open: types, arguments and room are as they were.
use Rattle.std.proofs.Common.{◌≡◌, ℤ, List, [], ◌∷◌, map, Option, Some, None, Bool, true, false, refl, ap, ◌∙◌, sym, subst}
use Rattle.std.specs.List.{AllByRecursion, list_any}
use Rattle.cap_lin.specs.Linear.{same_number}
use Rattle.cap_lin.specs.Values.{Valuation, value}
use Rattle.cap_lin.specs.declared.row.Sort.TheVariants.{Int}
use Rattle.cap_prog.specs.Program.{PlainProgram}
use Rattle.cap_goal_spec.specs.States.{PlainFact, PlainState}
use Rattle.cap_account_resources.specs.Parts.{Known, known_as, Table}
use Rattle.cap_account_resources.proofs.Lists.{some-same, none-some}
use Rattle.cap_account_resources.proofs.Covering.{IsPartOf}
use Rattle.cap_account_resources.proofs.Room.{room_of}
use Rattle.cap_account_resources.proofs.Stocks.{Stock}
use Rattle.cap_account_resources.proofs.Tables.{TableFits, FitsRoom, AreListed}
use Rattle.cap_account_states.proofs.Meets.{Usable}
use Rattle.cap_account_steps.proofs.Worlds.{AllOver, IsThere, Exact, regions_of, opened_at, opened_table}

-- an entry of which the state is forgotten
forgotten : (b : Bool) (o : Option Known) → opened_at true (opened_at b o) ≡ opened_at true o
forgotten true None = refl
forgotten true (Some e) = refl
forgotten false None = refl
forgotten false (Some e) = refl

-- there was such an entry with some state, or none
remembered :
    (o : Option Known) (e : Known) → opened_at true o ≡ opened_at true (Some e) →
    (z : Option ℤ) × (o ≡ Some (known_as e.kind e.args z))
remembered None e h = absurd (none-some h)
remembered (Some d) e h = (
  d.state,
  ap (λ (k : Known). Some (known_as k.kind k.args d.state))
      (some-same (known_as d.kind d.args None) (known_as e.kind e.args None) h),
)

module _ (p : PlainProgram) (ns : List ℤ) (V : Table) where
  entry-before :
      (n : ℤ) (e : Known) → opened_table ns V n ≡ Some e →
      (z : Option ℤ) × (V n ≡ Some (known_as e.kind e.args z))
  entry-before n e h =
      remembered (V n) e
      (sym (forgotten (list_any (same_number n) ns) (V n)) ∙ ap (opened_at true) h)

  pub open-fits : TableFits p V → TableFits p (opened_table ns V)
  open-fits fits n e h = let b = entry-before n e h in fits n (known_as e.kind e.args b.0) b.1

  pub open-listed : (bound : List ℤ) → AreListed bound V → AreListed bound (opened_table ns V)
  open-listed bound listed n e h =
      let b = entry-before n e h in listed n (known_as e.kind e.args b.0) b.1

  room-forgotten : (o : Option Known) → room_of p (opened_at true o) ≡ room_of p o
  room-forgotten None = refl
  room-forgotten (Some e) = refl

  pub open-room : (q : Stock) → FitsRoom p V q → FitsRoom p (opened_table ns V) q
  open-room q fits n =
      let W = opened_table ns V in
      let e = sym (room-forgotten (V n))
      ∙ ap (room_of p) (sym (forgotten (list_any (same_number n) ns) (V n)))
      ∙ room-forgotten (W n) in
      subst (IsPartOf p (q.guards n)) e (fits n)

-- opened regions are in the table
pub opened-there :
    (v : Valuation) (V : Table) (s : PlainState) →
    AllByRecursion (λ f. AllOver (Usable [] s.sorts Int) f × Exact v V f) s.opened →
    AllByRecursion (IsThere V) (regions_of v s.opened)
opened-there v V s os = each s.opened os
  where
    each :
        (fs : List PlainFact) →
        AllByRecursion (λ f. AllOver (Usable [] s.sorts Int) f × Exact v V f) fs →
        AllByRecursion (IsThere V) (regions_of v fs)
    each [] h = tt
    each (f ∷ fs) h = (
      (known_as f.kind (map (value v.whole) f.args) (Some (value v.whole f.state)), h.0.1),
      each fs h.1,
    )
