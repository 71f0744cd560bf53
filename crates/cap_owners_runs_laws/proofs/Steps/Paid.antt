-- A walk that owes what its function ensures pays that: what is drawn is given up, met by the fill
-- on top, and the walk ends. So returns are kept.
use Rattle.std.proofs.Common.{◌≡◌, ◌⊎◌, inl, inr, ◌+◌, ◌≤◌, ℤ, pos, ◌+ℤ◌, List, [], ◌++◌, length, Option, Some, None, refl, sym, ap, ◌∙◌, subst, arith}
use Rattle.std.proofs.lemmas.Int.{ints}
use Rattle.cap_lin.specs.Linear.{Linear}
use Rattle.cap_lin.specs.declared.row.Sort.TheVariants.{Int}
use Rattle.cap_prog.specs.Program.{give_back, Block, first, PlainFunction}
use Rattle.cap_prog.specs.Scopes.{Scope, ensures_scope}
use Rattle.cap_prog.specs.WellFormed.{IsWellFormed}
use Rattle.cap_goal_spec.specs.States.{PlainEnv}
use Rattle.cap_goal_spec.specs.Choices.{by_return, PlainTree, node}
use Rattle.cap_goal_spec.specs.Environments.{unbound}
use Rattle.cap_rules.specs.Making.{env_at}
use Rattle.cap_machine.specs.Machine.{Frame, with_rest}
use Rattle.cap_machine.specs.declared.event.Event.{Event}
use Rattle.cap_account_resources.specs.Parts.{cells_of, Table}
use Rattle.cap_account_resources.proofs.Lists.{some-same, none-some}
use Rattle.cap_account_resources.proofs.Stocks.{Stock, no_stock}
use Rattle.cap_account_states.proofs.Checked.{Checked}
use Rattle.cap_account_states.proofs.Items.{AreFit}
use Rattle.cap_account_states.proofs.Meets.{Usable}
use Rattle.cap_account_states.proofs.Naming.{Placed, values_in, values-mean}
use Rattle.cap_account_states.proofs.Roots.{function-fits}
use Rattle.cap_account_states.proofs.Scopes.{unbound-none}
use Rattle.cap_account_states.proofs.Terms.{Over}
use Rattle.cap_account_assertions.proofs.Asserted.{OwnsEnsures, owns-all}
use Rattle.cap_account_assertions.proofs.Laws.{TakenLaw}
use Rattle.cap_account_steps.proofs.Frames.{Roomy, Returns}
use Rattle.cap_account_steps.proofs.Regained.{Stable}
use Rattle.cap_account_steps.proofs.Returning.{return_env, return-placed, return-owns}
use Rattle.cap_account_steps.proofs.Statements.{Statements}
use Rattle.cap_account_steps.proofs.Stores.{running, here, here-over}
use Rattle.cap_account.proofs.Changes.{roomy}
use Rattle.cap_account.proofs.Stocked.{part_stock, account_table}
use Rattle.cap_account.proofs.Successors.{scene}
use Rattle.cap_owners_spec.specs.Traced.{past_width}
use Rattle.cap_owners_spec.specs.Track.{TrackedRegion, account_of}
use Rattle.cap_owners_spec.specs.Steps.{interpreted}
use Rattle.cap_owners_laws.specs.Owned.{IsTold}
use Rattle.cap_owners_walks_laws.proofs.Passes.Takes.{AreNameTerms, AreBelow}
use Rattle.cap_owners_runs_laws.proofs.Tracks.Saying.{track-tells}
use Rattle.cap_owners_runs_laws.proofs.Tracks.Steps.{EachTurn, DoesKept}
use Rattle.cap_owners_runs_laws.proofs.Tracks.Tied.{derivation}
use Rattle.cap_owners_runs_laws.proofs.Tracks.Turns.{own}
use Rattle.cap_owners_runs_laws.proofs.Steps.Created.{numbered-below}
use Rattle.cap_owners_runs_laws.proofs.Steps.OwnTerms.{own-terms}
use Rattle.cap_owners_runs_laws.proofs.Steps.Owed.{Owes, OwedTaken, owed-takes, owed-wide, as_taken, all_drawn, given_up, just_drawn, owed-met, owed-drawn, owed-fits, hands_over, owed-made, left_walk, owed-leaves}
use Rattle.cap_owners_runs_laws.proofs.Steps.Paying.{ReturnHere, result_of, walk_then, Pays, Owing, PayLaw, returns-kept}
use Rattle.cap_owners_runs_laws.proofs.Steps.Returned.{EndsSo}

module _ (p : Checked) (trees : List (Option PlainTree)) (ls : Statements p)
    (stable : Stable p.program) (wf : IsWellFormed p.program) (law : TakenLaw p) where
  module _ (r : ReturnHere p trees ls stable wf law) (event : Event) where
    abbrev part : Stock
    part = part_stock r.x.top.held.part

    abbrev T : Table
    T = account_table (account_of r.x.track)

    abbrev room : Roomy p.program T part
    room = roomy p.program (scene p (own p trees r.x))

    abbrev fn : PlainFunction
    fn = r.tied.stood.fn

    abbrev f : Frame
    f = r.x.turn.frame

    abbrev r0 : Block
    r0 = first r.l (give_back r.t) r.b

    abbrev rs : List TrackedRegion
    rs = r.x.track.regions

    abbrev sc : Scope
    sc = ensures_scope fn fn.ensures.names

    low : AreBelow (pos (1 + length r.x.track.regions)) r.x.track.regions
    low =
        let same : pos 1 +ℤ pos (length rs) ≡ pos (1 + length rs) = omega (arith, ints) in
        subst (λ m. AreBelow m rs) same (numbered-below (pos 1) rs r.x.kept.numbered)

    within :
        (a z : ℤ) → (part_stock r.x.top.held.part).cells a z ≤ cells_of r.x.turn.c.heap a z
    within a z = let l = (scene p (own p trees r.x)).cells a z in omega (arith, l)

    module _ (o : Owing p trees ls stable wf law r event) where
      abbrev env : PlainEnv
      env = return_env p wf law part T fn r.x.top.held.fixed room o.n.state o.n.home r.t

      placed : Placed [] sc o.n.state.sorts env
      placed =
          return-placed p wf law part T fn r.x.top.held.fixed room f r0 r.t (node by_return o.ks)
          r.tied.stood.ok o.n

      terms : AreNameTerms o.n.state.sorts env
      terms =
          let s = o.n.state in
          own-terms o.n.v s o.n.home fn r.x.top.held.fixed (with_rest f r0) o.n.store
          o.n.grounded.meets (unbound fn.locals) (Some (here s r.t)) (length fn.ensures.names)
          (λ i u e. absurd (none-some (sym (unbound-none fn.locals i) ∙ e)))
          (λ u e. subst (Over (Usable [] s.sorts Int)) (some-same (here s r.t) u e)
          (here-over [] o.n.v s r.t o.n.grounded.meets))

      fits : AreFit p.program sc fn.ensures.items
      fits = (function-fits p.program wf f.function fn r.tied.stood.ok.is_fn).ensures.items.items

      -- what the function ensures is owed
      abbrev owes : Owes p part T rs
      owes = record {
        tells = track-tells r.x.track;
        low = low;
        heap = r.x.turn.c.heap;
        within = within;
        fn = fn;
        fixed = r.x.top.held.fixed;
        frame = with_rest f r0;
        tasks = running r0;
        tree = node by_return o.ks;
        n = o.n;
        values = o.w.values;
        valued = o.valued;
        sorted = o.sorted;
        scope = sc;
        env = env;
        items = fn.ensures.items;
        number = r.l.number;
        kids = o.ks;
        placed = placed;
        terms = terms;
        fits = fits;
        goes = o.goes;
      }

      module _ (t : OwedTaken p wf part T room rs owes) where
        -- the function ensures what is drawn
        abbrev meets :
            OwnsEnsures p.program t.took.U (given_up p wf part T room rs owes t) fn f.arguments
            r.x.top.held.fixed (result_of p trees ls stable wf law r)
        meets =
            let w = t.took.w in
            let later = env_at t.took.after (length o.n.state.envs) in
            let tk = as_taken p wf part T room rs owes t in
            let own = return-owns p wf law part T fn r.x.top.held.fixed room f r0 r.t
            (node by_return o.ks) r.tied.stood.ok o.n tk w (values_in w later) tk.alike
            (values-mean sc w later)
            (owns-all p.program t.took.U (values_in w later) fn.ensures.items t.took.given
            (all_drawn p wf part T room rs owes t)) in
            record {
              values = own.values;
              args_are = own.args_are;
              fixed_are = own.fixed_are;
              result_is = own.result_is;
              met = (no_stock, just_drawn p wf part T room rs owes t);
            }

        abbrev gives :
            Returns p.program (part_stock r.x.top.held.part) (account_table (account_of r.x.track))
            r.tied.stood.fn r.x.top.held.fixed r.x.turn.frame
            (result_of p trees ls stable wf law r)
        gives = record {
          given = given_up p wf part T room rs owes t;
          over = hands_over p wf part T room rs owes t;
          meets = meets;
        }

        pays : Pays p trees ls stable wf law r event
        pays = record {
          gives = gives;
          fill = t.taken.fill;
          met = owed-met p wf part T room rs owes t;
          fits = owed-fits p wf part T room rs owes t;
          made = t.made;
          so = owed-made p wf part T room rs owes t trees;
          drawn = owed-drawn p wf part T room rs owes t;
          ends =
              let enter = interpreted (derivation p trees) in
              subst
              (IsTold (EndsSo p trees ls stable r.x fn r.tied.stood.ok.is_fn
              (result_of p trees ls stable wf law r) gives t.taken.fill t.made
              (owed-made p wf part T room rs owes t trees)))
              (sym (o.walks
              ∙ owed-leaves p wf part T room rs owes t enter o.w refl o.regions o.next o.taken))
              (record {
                w = left_walk p wf part T room rs owes t o.w;
                leaving = refl;
                regions_are = ap (λ qs. qs ++ t.made) o.regions;
                taken = t.taken;
                is_taken = refl;
                fill_is = refl;
              });
        }

      pay :
          (walk_then p trees ls stable wf law r event ≡ past_width)
          ⊎ Pays p trees ls stable wf law r event
      pay =
          let enter = interpreted (derivation p trees) in
          elim (owed-takes p wf part T room rs owes) [
            | inl wide ↦
                inl (o.walks
                ∙ owed-wide p wf part T room rs owes wide enter o.w refl o.regions o.next o.taken)
            | inr t ↦ inr (pays t)
          ]

  pub pay-law : PayLaw p trees ls stable wf law
  pay-law r event o = pay r event o

  -- returns
  pub returns-are-kept :
      EachTurn p trees (λ x l b. (t : Linear) → DoesKept p trees x l (give_back t) b None)
  returns-are-kept x l b t = returns-kept p trees ls stable wf law pay-law x l b t
