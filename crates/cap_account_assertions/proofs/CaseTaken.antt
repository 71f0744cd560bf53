-- Rule `create` once the case is taken: the region is made, and the fact is to be taken again.
use Rattle.std.proofs.Common.{◌≡◌, ℕ, zero, suc, ◌<◌, ℤ, pos, ◌+ℤ◌, ◌≤ℤ◌, ◌<ℤ◌, List, [], ◌∷◌, ◌++◌, length, arith, refl, sym, ap, ◌∙◌, subst, inr, true, false, Some, None}
use Rattle.std.specs.Prelude.{get_or}
use Rattle.std.proofs.lemmas.Int.{ints}
use Rattle.cap_lin.specs.Values.{Valuation}
use Rattle.cap_lin.specs.declared.row.Sort.TheVariants.{Int}
use Rattle.cap_prog.specs.Program.{PlainItem, Items, item}
use Rattle.cap_prog.specs.Scopes.{region_scope}
use Rattle.cap_goal_spec.specs.States.{PlainState, PlainTask, PlainGoal}
use Rattle.cap_goal_spec.specs.Environments.{term_of}
use Rattle.cap_rules.specs.Making.{fresh, env_at}
use Rattle.cap_account_resources.specs.Parts.{Known, known_as, Table}
use Rattle.cap_account_resources.proofs.Lists.{get-first, push-length, all-both, all-more, Among}
use Rattle.cap_account_resources.proofs.Marks.{free, joins-law}
use Rattle.cap_account_resources.proofs.Covering.{join_marks, IsPartOf, part-trans}
use Rattle.cap_account_resources.proofs.Interference.{Holding}
use Rattle.cap_account_resources.proofs.Room.{all_guards, with_known, part-join}
use Rattle.cap_account_resources.proofs.Stocks.{Stock, guard_stock, both, inside-first, inside-trans, inside-guards}
use Rattle.cap_account_resources.proofs.Owners.{owned, guards_of_all, numbers_of, numbered-up, numbered-between, numbered-differ}
use Rattle.cap_account_states.proofs.Alike.{value-alike}
use Rattle.cap_account_states.proofs.Meets.{usable-on, usable-old, Old}
use Rattle.cap_account_states.proofs.Checked.{Checked}
use Rattle.cap_account_states.proofs.Naming.{Placed, placed-more}
use Rattle.cap_account_states.proofs.Items.{AreFit}
use Rattle.cap_account_states.proofs.Backed.{GoesOn}
use Rattle.cap_account_assertions.proofs.Follows.{Follows, alike-between}
use Rattle.cap_account_assertions.proofs.NewRegions.{told-apart, guards-outside, composes-with-new}
use Rattle.cap_account_assertions.proofs.TakeSteps.{Job, tasks_of, TakeStart, Took}
use Rattle.cap_account_assertions.proofs.FreshRegions.{fresh_values, fresh-number, fresh-alike, fresh-usable}
use Rattle.cap_account_assertions.proofs.MadeRegions.{with_new_fact, Pending, RegionMade, param-sort}
use Rattle.cap_account_assertions.proofs.CaseStarts.{known-at, state-at, lim_with, lim-above, case_state, case_job, fact_job, CaseStart}

get-or-before :
    {A : Type 0} (xs ys : List A) (i : ℕ) (d : A) → i < length xs →
    get_or (xs ++ ys) i d ≡ get_or xs i d
get-or-before [] ys i d l = absurd (omega (arith, l))
get-or-before (x ∷ xs) ys zero d l = refl
get-or-before (x ∷ xs) ys (suc i) d l = get-or-before xs ys i d (omega (arith, l))

module _ (p : Checked) (ks : List ℕ) (T : Table) (next : ℤ) (lim : Holding) (j : Job)
    (v : Valuation) (s : PlainState) (c : Stock) (k n left : ℕ) (i : PlainItem) (more : Items)
    (P : List PlainGoal → Type 0) (a : CaseStart p.program ks T next lim j v s c k n left i more P)
    (size : ℕ) where
  abbrev pub CaseTook : Type 0
  CaseTook =
      Took p ks T (next +ℤ pos 1)
      (case_job j s a.y a.z k n left (tasks_of (fact_job j i more left))) (fresh_values s v next)
      (case_state s a.rows a.guards a.env) (both p.program c
      (guard_stock next (all_guards p.program k))) size

  module _ (st : TakeStart p.program ks T next lim j v s c) (some : 0 < j.most)
      (t : CaseTook) where
    abbrev at_case : PlainState
    at_case = case_state s a.rows a.guards a.env

    -- the numbers of the regions that the case made
    above-next : (m : ℤ) → Among m (numbers_of t.new) → (next <ℤ m) × (m <ℤ t.later)
    above-next m h =
        let between = numbered-between (next +ℤ pos 1) t.later t.new t.made.numbered m h in
        let low = between.0 in (omega (arith, ints, low), between.1)

    pub past : (next +ℤ pos 1) ≤ℤ t.later
    past = numbered-up (next +ℤ pos 1) t.later t.new t.made.numbered

    none-next : t.U next ≡ None
    none-next =
        t.made.others next (λ h. (let l = (above-next next h).0 in omega (arith, ints, l)))
        ∙ st.absent some next (omega (arith, ints))

    -- the region's case is given up
    pub case-pending :
        Pending p.program ks t.U next t.w t.after t.left t.given a.y a.z (length s.envs) (fresh s)
    case-pending =
        let here = length s.envs in
        let sc = region_scope a.y a.z.names in
        let at = fresh-usable ks s st.low in
        let known = known-at p.program ks t.U sc here t.w t.after t.left t.ready t.backed in
        let size = t.follows.size in
        let same = ap length a.env_is in
        let room = a.room in
        record {
          type_fits = a.type_fits;
          case_fits = a.case_fits;
          known = known;
          absent = none-next;
          placed = t.ready.placed;
          room = omega (arith, size, same, room);
          first =
              t.follows.stays 0 Int (param-sort a.y a.z.names 0 a.type_fits.itself) (fresh s)
              (ap (λ e. term_of e 0) a.env_is ∙ a.first);
          number =
              value-alike (Old at_case) (fresh_values s v next) t.w t.follows.alike (fresh s)
              (usable-old ks at_case.sorts Int (length s.sorts) at, tt)
              ∙ fresh-number s v next;
          over = (
            usable-on ks at_case.sorts t.after.sorts t.follows.goes_on.sorts Int
                (length s.sorts) at,
            tt,
          );
          draws = t.draws;
        }

    goes-fresh : GoesOn s at_case
    goes-fresh = record {
      sorts = λ x o h. get-first s.sorts (Int ∷ []) x o h;
      count = (let l = push-length s.sorts Int in omega (arith, l));
      store = refl;
      opened = refl;
      before = refl;
      envs = (let l = push-length s.envs a.env in omega (arith, l));
    }

    module _ (ts : List PlainTask) (Q : List PlainGoal → Type 0)
        (m : RegionMade p.program ks t.U next t.w t.after t.left t.given k n (length s.envs) Q
        ts) where
      abbrev pub made_state : PlainState
      made_state = with_new_fact t.after m.fact

      abbrev pub made_known : Known
      made_known = known_as k m.args (Some m.state)

      -- all environments that were there stay
      pub envs-stay : (x : ℕ) → x < length s.envs → env_at made_state x ≡ env_at s x
      envs-stay x l =
          let on = goes-fresh.envs in
          t.follows.others x (omega (arith, l, on)) (λ e. omega (arith, l, e))
          ∙ get-or-before s.envs (a.env ∷ []) x [] l

      pub made-follows : Follows j.scope j.env v s t.w made_state
      made-follows =
          let there = st.ready.there in
          let same = envs-stay j.env there in
          let on = t.follows.goes_on in
          let first = goes-fresh in
          record {
            alike =
                alike-between s at_case v (fresh_values s v next) t.w goes-fresh
                (fresh-alike s v next) t.follows.alike;
            goes_on = record {
              sorts = λ x o h. on.sorts x o (first.sorts x o h);
              count = (let e = first.count in let f = on.count in omega (arith, e, f));
              store = on.store;
              opened = on.opened;
              before = on.before;
              envs = (let e = first.envs in let f = on.envs in omega (arith, e, f));
            };
            loose =
                all-both (λ f. f.loose ≡ true → Among f s.facts) t.after.facts (m.fact ∷ [])
                t.follows.loose ((λ l. absurd (firm-not-loose (sym m.firm ∙ l))), tt);
            stays = λ x o h u e. ap (λ env. term_of env x) same ∙ e;
            outside = λ x h. ap (λ env. term_of env x) same;
            size = ap length same;
            others = λ x l ne. envs-stay x l;
          }
        where
          firm-not-loose : false ≡ true → ⊥
          firm-not-loose e = cc

      -- what has room then
      abbrev pub lim_made : Holding
      lim_made x =
          join_marks p.program (lim_with p.program lim next k x)
          ((guards_of_all p.program t.new).guards x)

      no-room-above : (x : ℤ) → (next +ℤ pos 1) ≤ℤ x → lim_with p.program lim next k x ≡ Some free
      no-room-above = lim-above p.program lim next k (st.unheld some)

      left-room :
          (x : ℤ) → IsPartOf p.program (t.left.guards x) (lim_made x)
      left-room x =
          let q = both p.program c (guard_stock next (all_guards p.program k)) in
          let new = guards_of_all p.program t.new in
          let first = both p.program t.left t.given in
          let all = both p.program first (owned p.program t.new) in
          part-trans p.program (t.left.guards x) ((both p.program q new).guards x) (lim_made x)
          (inside-guards p.program t.left (both p.program q new)
          (inside-trans p.program t.left first (both p.program q new)
          (inside-first p.program t.left t.given)
          (inside-trans p.program first all (both p.program q new)
          (inside-first p.program first (owned p.program t.new)) t.budget)) x)
          (part-join p.program (q.guards x) (lim_with p.program lim next k x) (new.guards x)
          (a.start.within x))

      -- what taking the fact again starts from
      pub start-again :
          j.items ≡ item i more →
          TakeStart p.program ks (with_known t.U next made_known) t.later lim_made
          (fact_job j i more left) t.w made_state t.left
      start-again are =
          let pp = p.program in
          let there = st.ready.there in
          let same = envs-stay j.env there in
          let on = made-follows.goes_on in
          let later = past in
          record {
            ready =
                state-at pp ks (with_known t.U next made_known) j.scope j.env t.w made_state t.left
                m.known (let e = on.envs in omega (arith, there, e))
                (subst (Placed ks j.scope made_state.sorts) (sym same)
                (placed-more ks j.scope s.sorts made_state.sorts (env_at s j.env) on.sorts
                st.ready.placed));
            backed = m.known.backed;
            low =
                all-more (λ x. x < length s.sorts) (λ x. x < length made_state.sorts)
                (λ x l. (let e = on.count in omega (arith, l, e))) ks st.low;
            fits = subst (AreFit pp j.scope) are st.fits;
            absent = λ h x l.
                told-apart t.U next x made_known (λ e. omega (arith, ints, e, l, later))
                ∙ (t.made.others x (λ b. (let u = (above-next x b).1 in omega (arith, ints, u, l)))
                ∙ st.absent some x (omega (arith, ints, l, later)));
            unheld = λ h x l.
                ap (λ o. join_marks pp o ((guards_of_all pp t.new).guards x))
                (no-room-above x (omega (arith, ints, l, later)))
                ∙ ((joins-law pp).zero_left ((guards_of_all pp t.new).guards x)
                ∙ guards-outside pp (next +ℤ pos 1) t.later t.new t.made.numbered x (inr l));
            within = left-room;
            composes =
                composes-with-new pp t.U t.new (lim_with pp lim next k)
                (numbered-differ (next +ℤ pos 1) t.later t.new t.made.numbered) t.made.owners
                a.start.composes
                (λ x h. (let l = (above-next x h).0 in no-room-above x (omega (arith, ints, l))));
          }
