-- The table once an open region is closed, and once regions are made: how each settles.
use Rattle.cap_account_resources.proofs.Order.{same-or}
use Rattle.std.proofs.Common.{◌≡◌, inl, inr, ℕ, ℤ, List, [], ◌∷◌, map, Some, None, Bool, true, false, refl, sym, ap, ◌∙◌}
use Rattle.cap_lin.specs.Values.{Valuation, value}
use Rattle.cap_prog.specs.Program.{PlainProgram}
use Rattle.cap_goal_spec.specs.States.{PlainFact, PlainState}
use Rattle.cap_account_resources.specs.Parts.{Known, known_as, Table}
use Rattle.cap_account_resources.proofs.Lists.{some-same, none-some, all-more}
use Rattle.cap_account_resources.proofs.Monoid.{none, atom}
use Rattle.cap_account_resources.proofs.Monoid as monoid
use Rattle.cap_account_resources.proofs.Room.{with_known}
use Rattle.cap_account_resources.proofs.Stocks.{Stock, no_stock, both, Inside, some-inside, inside-first, inside-trans}
use Rattle.cap_account_resources.proofs.Tables.{KeepsStates, KeepsTypes, FitsRoom, new_guards, fits-less, fits-later}
use Rattle.cap_account_resources.proofs.Owners.{Owner, owned}
use Rattle.cap_account_states.proofs.Facts.{StateHolds, FactHolds, Facts}
use Rattle.cap_account_assertions.proofs.Asserted.{OwnsRegion, region-kept}
use Rattle.cap_account_assertions.proofs.Laws.{Made}
use Rattle.cap_account_assertions.proofs.NewRegions.{told-here, told-apart}
use Rattle.cap_account_steps.proofs.Worlds.{HasMoved, Settles, SettlesBy}
use Rattle.cap_account_steps.proofs.SettledTables.{told_of, open_of, stateless}

-- ---- a region is closed

abbrev pub closed_table : Table → Owner → Table
closed_table T r = with_known T r.number (told_of r)

module _ (T : Table) (r : Owner) (is_open : T r.number ≡ Some (open_of r)) where
  pub closed-states : KeepsStates T (closed_table T r)
  closed-states n k zs b h = elim (same-or r.number n) [
    | inl e ↦ stateless r.kind k r.args zs b (sym is_open ∙ ap T e ∙ h)
    | inr ne ↦ told-apart T r.number n (told_of r) ne ∙ h
  ]

  -- a fact of the region is loose, and says nothing of its state
  fact-closed :
      (v : Valuation) (f : PlainFact) → FactHolds v T f → FactHolds v (closed_table T r) f
  fact-closed v f h = elim (same-or r.number n) [
    | inl e ↦
        let same = some-same (open_of r) (known_as f.kind zs h.0) (sym is_open ∙ ap T e ∙ h.1) in (
          Some r.state,
          ap (closed_table T r) (sym e) ∙ told-here T r.number (told_of r)
              ∙ ap (λ (x : Known). Some (record x { state = Some r.state })) same,
          anything f.loose (ap (λ (x : Known). x.state) same) h.2,
        )
    | inr ne ↦ (h.0, told-apart T r.number n (told_of r) ne ∙ h.1, h.2)
  ]
    where
      n : ℤ
      n = value v.whole f.region

      zs : List ℤ
      zs = map (value v.whole) f.args

      b : ℤ
      b = value v.whole f.state

      anything :
          (l : Bool) → None ≡ h.0 → StateHolds l h.0 (value v.whole f.state) →
          StateHolds l (Some r.state) (value v.whole f.state)
      anything true e k = tt
      anything false e k = absurd (none-some (e ∙ k))

  pub facts-closed :
      (ks : List ℕ) (v : Valuation) (s : PlainState) → Facts ks v T s →
      Facts ks v (closed_table T r) s
  facts-closed ks v s f = record {
    holds =
        all-more (FactHolds v T) (FactHolds v (closed_table T r)) (fact-closed v) s.facts f.holds;
    over = f.over;
    loose = f.loose;
    differ = f.differ;
  }

  module _ (p : PlainProgram) (V : Table) (part : Stock) (moved : HasMoved p V part r)
      (owns : OwnsRegion p T r.number r.kind r.args r.state r.stock) where
    pub settles-closed :
        Settles p V T (closed_table T r) part (r.number ∷ []) (r ∷ []) []
    settles-closed = record {
      moved = (moved, tt);
      were_open = (is_open, tt);
      closed_owners = (
        record {
          known = told-here T r.number (told_of r);
          owns =
              region-kept p T (closed_table T r) closed-states r.number r.kind r.args r.state
              r.stock owns;
        },
        tt,
      );
      made_owners = tt;
      closed_differ = (tt, tt);
      made_differ = tt;
      numbers = refl;
      absent = tt;
      others = λ n f g. told-apart T r.number n (told_of r) (λ e. f (inl e));
    }

    -- what it gets was held
    abbrev pub closes-by :
        (left : Stock) → SettlesBy p V T part (both p left r.stock) (r.number ∷ []) left
    closes-by left = record {
      U = closed_table T r;
      opened = r.number ∷ [];
      all_of_them = λ n a. a;
      count = refl;
      closed = r ∷ [];
      made = [];
      settles = settles-closed;
      budget =
          some-inside p (left ∷ r.stock ∷ new_guards p T (closed_table T r) ∷ [])
          (monoid.both (atom 0) (monoid.both (monoid.both (atom 1) none) none))
          (monoid.both (monoid.both (atom 0) (atom 1)) (atom 2)) (2 ∷ []) refl;
    }

-- ---- regions are made

module _ (p : PlainProgram) (V W U : Table) (part : Stock) (new : List Owner)
    (m : Made p W U new) where
  pub settles-made : Settles p V W U part [] [] new
  settles-made = record {
    moved = tt;
    were_open = tt;
    closed_owners = tt;
    made_owners = m.owners;
    closed_differ = tt;
    made_differ = m.differ;
    numbers = refl;
    absent = m.absent;
    others = λ n f g. m.others n g;
  }

  abbrev pub makes-by :
      (held kept : Stock) →
      Inside p (both p kept (owned p new)) (both p held (new_guards p W U)) →
      SettlesBy p V W part held [] kept
  makes-by held kept budget = record {
    U = U;
    opened = [];
    all_of_them = λ n a. a;
    count = refl;
    closed = [];
    made = new;
    settles = settles-made;
    budget =
        inside-trans p (both p kept (both p no_stock (owned p new))) (both p kept (owned p new))
        (both p held (new_guards p W U))
        (some-inside p (kept ∷ owned p new ∷ [])
        (monoid.both (atom 0) (monoid.both none (atom 1))) (monoid.both (atom 0) (atom 1)) []
        refl)
        budget;
  }

-- nothing is closed or made
pub made-none : (p : PlainProgram) (T : Table) → Made p T T []
made-none p T = record { absent = tt; differ = tt; others = λ n f. refl; owners = tt }

-- ---- room

pub room-kept :
    (p : PlainProgram) (T U : Table) (q : Stock) → KeepsTypes T U → FitsRoom p T q →
    FitsRoom p U q
room-kept p T U q f h =
    let more = both p q (new_guards p T U) in
    fits-less p U q more (inside-first p q (new_guards p T U)) (fits-later p T U q f h)
