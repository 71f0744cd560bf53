-- One turn of a chain of Rests, where the fact gets a new variable as its state: it has the number
-- to which others led the region, and the candidates hold of it.
use Rattle.std.proofs.Common.{◌≡◌, ℕ, ◌<◌, ℤ, ◌*ℤ◌, List, [], ◌∷◌, ◌++◌, length, Some, true, false, Bool, refl, sym, ap, ◌∙◌, subst, arith}
use Rattle.std.specs.Prelude.{slice_get, nat_eq, if◌then◌else◌}
use Rattle.std.specs.List.{AllByRecursion}
use Rattle.cap_lin.specs.Linear.{replaced}
use Rattle.cap_lin.specs.Values.{Valuation, denominator, value}
use Rattle.cap_lin.specs.Solves.{value_by_sort, HoldsAs, Holds, Proves}
use Rattle.cap_lin.specs.declared.row.Row.{Row}
use Rattle.cap_lin.specs.declared.row.Sort.{Sort}
use Rattle.cap_lin.specs.declared.row.Sort.TheVariants.{Int}
use Rattle.cap_prog.specs.Program.{PlainRegionType, PlainProgram}
use Rattle.cap_goal_spec.specs.States.{PlainFact, PlainState, with_state}
use Rattle.cap_goal_spec.specs.Candidates.{later_state}
use Rattle.cap_rules.specs.Resting.{prove_stable}
use Rattle.cap_account_states.specs.Nodes.{Comes}
use Rattle.cap_account_resources.specs.Parts.{Table}
use Rattle.cap_account_resources.proofs.Lists.{push-length, set-length, get-first, get-last, all-more, all-both}
use Rattle.cap_account_resources.proofs.Stocks.{Stock}
use Rattle.cap_account_states.proofs.Terms.{Over, vars-more, RowOver, fits-sort, Agree, value-agree}
use Rattle.cap_account_states.proofs.Alike.{agree-alike, meets-fresh}
use Rattle.cap_account_states.proofs.Attempts.{sort_added}
use Rattle.cap_account_states.proofs.Compatible.{pieces-more}
use Rattle.cap_account_states.proofs.Meets.{Free, Usable, usable-on, usable-old, Old, Meets, solves, new-whole, new-share, with-agrees, variable-value}
use Rattle.cap_account_assertions.proofs.Named.{set_to}
use Rattle.cap_account_steps.proofs.Others.{first_values}
use Rattle.cap_account_steps.proofs.Settling.{changed, replaced-value, replaced-over, IsCandidate, HoldsAt, row_at}
use Rattle.cap_account_steps.proofs.Worlds.{Exact, AllOver}
use Rattle.cap_account_steps.proofs.Exact.{told-alike, over-more, covered-old, all-two}
use Rattle.cap_account_steps.proofs.Turning.{Midway, Turned, settled_state, Turn, own as own-of, told as told-of, later, due-set, candidates-stay}

module _ (p : PlainProgram) (ks : List ℕ) (part : Stock) (T U : Table) (j : ℕ) (v : Valuation)
    (s : PlainState) (turn : Turn p ks part T U j v s) where
  abbrev f : PlainFact
  f = turn.f

  abbrev k : PlainRegionType
  k = turn.k

  abbrev b : ℤ
  b = value v.whole turn.f.state

  abbrev mid : Midway p ks part T U j v s
  mid = turn.midway

  own : AllOver (Usable ks s.sorts Int) f
  own = own-of p ks part T U j v s turn

  abbrev told : ℤ
  told = told-of p ks part T U j v s turn

  abbrev more : List Sort
  more = s.sorts ++ Int ∷ []

  abbrev grow : (x : ℕ) (o : Sort) → slice_get s.sorts x ≡ Some o → slice_get more x ≡ Some o
  grow x o e = get-first s.sorts (Int ∷ []) x o e

  no-old : (is : List ℕ) → AllByRecursion (λ i. i < length s.sorts) is → Free is (length s.sorts)
  no-old [] h = tt
  no-old (i ∷ is) h = ((λ e. let l = h.0 in omega (arith, l, e)), no-old is h.1)

  -- the new variable isn't kept free
  pub new-free : Free ks (length s.sorts)
  new-free = no-old ks mid.old

  new-usable : Usable ks more Int (length s.sorts)
  new-usable = (get-last s.sorts Int, new-free)

  own-more : AllOver (Usable ks more Int) f
  own-more =
      over-more (Usable ks s.sorts Int) (Usable ks more Int) (usable-on ks s.sorts more grow Int) f
      own

  -- values at which the new variable is this number
  abbrev at-value : ℤ → Valuation
  at-value z = first_values v s z

  agrees : (z : ℤ) → Agree (Old s) v (at-value z)
  agrees z =
      with-agrees (Old s) v (length s.sorts) z (z *ℤ denominator v.fraction)
      (λ x l e. omega (arith, l, e))

  new-is : (z : ℤ) → (at-value z).whole (length s.sorts) ≡ z
  new-is z = new-whole v (length s.sorts) z (z *ℤ denominator v.fraction)

  meets-more : (z : ℤ) → Meets ks (at-value z) (sort_added s Int)
  meets-more z =
      meets-fresh ks v (at-value z) s Int (agrees z)
      (new-share v (length s.sorts) z (z *ℤ denominator v.fraction)
      ∙ ap (λ y. y *ℤ denominator v.fraction) (sym (new-is z)))
      mid.grounded.meets

  abbrev Known : ℕ → Type 0
  Known x = slice_get more x ≡ Some Int

  module _ (named : List Row) (are : AllByRecursion (IsCandidate s) named)
      (over_named : AllByRecursion (RowOver (Usable ks more)) named) where
    -- a row that follows with the state that was there in the place of the new variable
    holds-first :
        (r : Row) → IsCandidate s r → Proves s.rows (row_at s f.state r) →
        HoldsAt v s b r
    holds-first r i proves =
        let w = at-value b in
        let m = meets-more b in
        let size = length s.sorts in
        let placed = replaced size f.state r.term in
        let over = replaced-over Known size f.state r.term known-state i.1 in
        let holds = proves w (solves ks w (sort_added s Int) m)
        (fits-sort (λ o. Known) w m.sorted (row_at s f.state r) over) in
        subst (HoldsAs r.kind)
        (replaced-value w.whole size f.state r.term
        ∙ ap (λ z. value (changed w.whole size z) r.term) state-is
        ∙ ap (λ g. value g r.term) (λ d x. twice (nat_eq x size) (v.whole x) d))
        (subst (λ o. HoldsAs r.kind (value_by_sort o w placed)) i.0 holds)
      where
        known-state : Over Known f.state
        known-state =
            vars-more (Usable ks s.sorts Int) Known (λ x u. grow x Int u.0) f.state.parts own.2

        state-is : value (at-value b).whole f.state ≡ b
        state-is =
            value-agree (Old s) v (at-value b) (agrees b) f.state
            (vars-more (Usable ks s.sorts Int) (Old s) (usable-old ks s.sorts Int) f.state.parts
            own.2)

        twice :
            (t : Bool) (z : ℤ) →
            (if t then b else (if t then b else z)) ≡ (if t then b else z)
        twice true z = refl
        twice false z = refl

    -- what holds of the new variable's number is a row that holds
    holds-more :
        (z : ℤ) (r : Row) → IsCandidate s r → HoldsAt v s z r → Holds (at-value z) r
    holds-more z r i h =
        subst (λ o. HoldsAs r.kind (value_by_sort o (at-value z) r.term)) (sym i.0) h

    pub settled :
        AllByRecursion (λ r. Proves s.rows (row_at s f.state r)) named →
        Comes (prove_stable k s f named k.actions) (λ x. Unit {0}) →
        Turned p ks part T U j v (set_to v (length s.sorts) told) s (settled_state s j f named)
    settled proved c =
        let hold =
        candidates-stay p ks part T U j v s turn named are c
        (all-two (IsCandidate s) (λ r. Proves s.rows (row_at s f.state r))
        (HoldsAt v s b) holds-first named are proved) in
        let z = told in
        let w = at-value z in
        let g = with_state f (later_state s) in
        let m = meets-more z in
        record {
          before = record {
            agree = agrees z;
            goes_on = record {
              sorts = grow;
              count = (let q = push-length s.sorts Int in omega (arith, q));
              store = refl;
              opened = refl;
              before = refl;
              envs = omega arith;
            };
            facts = set-length s.facts j g;
            cells = refl;
            guards = refl;
            envs = refl;
          };
          midway = record {
            old =
                all-more (λ i. i < length s.sorts) (λ i. i < length more)
                (λ i l. let q = push-length s.sorts Int in omega (arith, l, q)) ks mid.old;
            grounded = record {
              meets = record {
                sorted = m.sorted;
                rows = all-both (Holds w) s.rows named m.rows
                    (all-two (IsCandidate s) (HoldsAt v s z) (Holds w) (holds-more z)
                    named are hold);
                rows_over = all-both (RowOver (Usable ks more)) s.rows named m.rows_over over_named;
                cells_over = m.cells_over;
                positive = m.positive;
                store_over = m.store_over;
              };
              pieces_over =
                  pieces-more (Usable ks s.sorts) (Usable ks more) (usable-on ks s.sorts more grow)
                  s.guards mid.grounded.pieces_over;
              pieces_fit = mid.grounded.pieces_fit;
            };
            due = due-set p ks part T U j v s turn more w g grow (agrees z)
                (own-more.0, own-more.1, (new-usable, tt)) new-exact refl;
            covered = λ i.
                covered-old p ks v w s (agree-alike (Old s) v w (agrees z)) mid.grounded i
                (part.guards i) (mid.covered i);
          };
        }
      where
        new-exact : Exact (at-value told) U (with_state f (later_state s))
        new-exact =
            let low = over-more (Usable ks s.sorts Int) (Old s) (usable-old ks s.sorts Int) f own in
            told-alike (Old s) v (at-value told) U
            (agree-alike (Old s) v (at-value told) (agrees told)) f (later_state s) told
            low.0 low.1
            (variable-value (at-value told) (length s.sorts) ∙ new-is told)
            (later p ks part T U j v s turn).1
