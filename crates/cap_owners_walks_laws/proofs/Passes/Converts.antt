-- A walk converts guards: the item stays.
use Rattle.std.proofs.Common.{◌⊎◌, inl, inr, ℕ, ℤ, List, [], refl, sym, ◌∙◌, arith}
use Rattle.cap_syntax.specs.declared.place.Place.{Place}
use Rattle.cap_farkas.specs.declared.cert.Cert.{Cert}
use Rattle.cap_prog.specs.declared.assertion.Asked.{Asked}
use Rattle.cap_prog.specs.Program.{atom, Items, item}
use Rattle.cap_goal_spec.specs.States.{PlainState, goals_of}
use Rattle.cap_goal_spec.specs.Choices.{by_convert, node, PlainTrees, no_trees, tree}
use Rattle.cap_machine_accounts.specs.Assertions.{NameValue}
use Rattle.cap_account_resources.specs.Parts.{Table}
use Rattle.cap_account_resources.proofs.Lists.{join-nil}
use Rattle.cap_account_resources.proofs.Interference.{Holding}
use Rattle.cap_account_resources.proofs.Room.{part-some}
use Rattle.cap_account_resources.proofs.Stocks.{Stock, no_stock, both, none-right, inside-second, inside-same}
use Rattle.cap_account_states.proofs.Checked.{Checked}
use Rattle.cap_account_assertions.proofs.Asserted.{draws-all-more}
use Rattle.cap_account_assertions.proofs.TakeSteps.{Job, with_items, tasks_of}
use Rattle.cap_account_assertions.proofs.TakeConvert.{convert-turned}
use Rattle.cap_owners_spec.specs.Traced.{valuation}
use Rattle.cap_owners_spec.specs.Walks.{Taking}
use Rattle.cap_owners_walks_laws.proofs.Walks.Leading.{node-leads}
use Rattle.cap_account.proofs.Stocked.{part_stock}
use Rattle.cap_owners_walks_laws.proofs.Passes.Meets.{items-met-out, items-told-out, met-items, told-items}
use Rattle.cap_rules.specs.Making.{env_at}
use Rattle.cap_owners_walks_laws.proofs.Passes.Names.{shaped-same}
use Rattle.cap_owners_walks_laws.proofs.Passes.Takes.{taking_on}
use Rattle.cap_owners_walks_laws.proofs.Passes.Steps.{node-to, AtNode}
use Rattle.cap_owners_walks_laws.proofs.Passes.Plain.{Starting, Wide, Steps, named_top, with-names}

module _ (p : Checked) (ks : List ℕ) (T : Table) (next : ℤ) (lim : Holding) (j : Job)
    (vs : List NameValue) (s : PlainState) (c : Stock) (top : Taking) where
  pub convert-step :
      (m side : ℕ) (cs : List Cert) (place : Place) (n k i : ℕ) (asked : Asked) (more : Items)
      (kids : PlainTrees) →
      Starting p ks T next lim j vs s c top (item (atom place n k i asked) more) →
      p.N (node (by_convert m side cs) kids) s
      (tasks_of (with_items j (item (atom place n k i asked) more))) →
      Wide p ks T next lim j vs s c top (item (atom place n k i asked) more)
      (tree (node (by_convert m side cs) kids) no_trees)
      ⊎ Steps p ks T next lim j vs s c top (item (atom place n k i asked) more)
      (tree (node (by_convert m side cs) kids) no_trees)
  convert-step m side cs place n k i asked more kids f h =
      with-names p ks T next lim j vs s c top (atom place n k i asked) more (by_convert m side cs)
      kids (λ enter w. refl) f (λ ns so pass.
      let pp = p.program in
      let one = atom place n k i asked in
      let it = item one more in
      let of_atom = with_items j (item one more) in
      let turned = convert-turned pp ks T of_atom (valuation vs) s c f.start.ready f.start.backed
      (AtNode p ks T next j one more (by_convert m side cs) kids vs (valuation vs) s c top) m side n
      k one more refl f.start.fits f.start.fits.0.0
      (λ z. part-some pp (c.guards z) (lim z) (f.start.within z) (f.start.composes z))
      (node-leads p (by_convert m side cs) kids s (tasks_of of_atom) h) in
      inr (record {
        brings = [];
        head = turned.head;
        rest = turned.rest;
        fits = turned.fits;
        turns = turned.turns;
        children = kids;
        no_larger = omega arith;
        goes = turned.goes.1;
        values = vs;
        valued = refl;
        sorted = f.sorted;
        terms = f.terms;
        now = named_top p ks T next lim j vs s c top ns;
        names = so.same;
        have = so.fits;
        binds = λ x has e. inl e;
        shaped = shaped-same j.scope vs (env_at s j.env) (env_at s j.env) ns so (λ b. b);
        wildcards = [];
        facts = [];
        more_wildcards = sym (join-nil top.fill.wildcards);
        more_facts = sym (join-nil top.fill.facts);
        met = λ U g w l a x q r d under.
            let le = inside-second pp no_stock q in
            let out = draws-all-more pp U a it q (both pp no_stock q) r r le (inside-same pp r) d
            in (
              met-items pp U a it it (both pp no_stock q) r (sym refl) out
                  ∙ items-met-out pp U a it q (both pp no_stock q) r r le (inside-same pp r) d,
              told-items pp U a it it (both pp no_stock q) r (sym refl) out
                  ∙ items-told-out pp U a it q (both pp no_stock q) r r le (inside-same pp r) d,
            );
        part = sym (none-right pp (part_stock top.part));
        leads = λ seating enter w under.
            node-to p ks T next seating enter one more j (by_convert m side cs) kids s
            (goals_of turned.head.after (tasks_of (with_items of_atom it)))
            (taking_on p ks vs top under w)
            (taking_on p ks vs (named_top p ks T next lim j vs s c top ns) under w)
            turned.goes.0 (pass enter w under);
      }))
