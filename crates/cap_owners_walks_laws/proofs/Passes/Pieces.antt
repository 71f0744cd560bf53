-- A walk takes guards: none, or out of a piece.
use Rattle.std.proofs.Common.{◌⊎◌, inr, ℕ, ℤ, List, [], refl, sym}
use Rattle.std.specs.Prelude.{slice_get}
use Rattle.std.specs.Prelude.{◌==◌}
use Rattle.cap_syntax.specs.declared.place.Place.{Place}
use Rattle.cap_farkas.specs.declared.cert.Cert.{Cert}
use Rattle.cap_prog.specs.declared.assertion.Slot.{Slot}
use Rattle.cap_prog.specs.declared.assertion.Slot.TheVariants.{Any, Is}
use Rattle.cap_prog.specs.declared.assertion.Asked.TheVariants.{Tok}
use Rattle.cap_prog.specs.Program.{atom, Items, item}
use Rattle.cap_goal_spec.specs.States.{PlainState, PlainGoal}
use Rattle.cap_goal_spec.specs.Choices.{by_guard, node, PlainTrees, no_trees, tree}
use Rattle.cap_goal_spec.specs.Environments.{zero_value}
use Rattle.cap_rules.specs.Attempts.{◌>>=◌}
use Rattle.cap_rules.specs.Making.{env_at, determined_slot, prove_equal}
use Rattle.cap_rules.specs.Rules.{goes, at_no_tokens, Remaining}
use Rattle.cap_machine_accounts.specs.Assertions.{NameValue}
use Rattle.cap_account_resources.specs.Parts.{Table}
use Rattle.cap_account_resources.proofs.Lists.{join-nil}
use Rattle.cap_account_resources.proofs.Interference.{Holding}
use Rattle.cap_account_resources.proofs.Stocks.{Stock, none-right}
use Rattle.cap_account_states.specs.Nodes.{Comes}
use Rattle.cap_account_states.proofs.Attempts.{after-need}
use Rattle.cap_account_states.proofs.Checked.{Checked}
use Rattle.cap_account_states.proofs.Items.{fits-more}
use Rattle.cap_account_assertions.proofs.TakeSteps.{Job, with_items, tasks_of, remaining}
use Rattle.cap_account_assertions.proofs.TakeAtoms.{none-found, none-goes}
use Rattle.cap_owners_spec.specs.Traced.{valuation}
use Rattle.cap_owners_spec.specs.Walks.{Taking}
use Rattle.cap_owners_walks_laws.proofs.Walks.Leading.{node-leads}
use Rattle.cap_account.proofs.Stocked.{part_stock}
use Rattle.cap_rules.specs.Making.{env_at}
use Rattle.cap_owners_walks_laws.proofs.Passes.Bindings.{slot-int, tok-fits}
use Rattle.cap_owners_walks_laws.proofs.Passes.Names.{shaped-same}
use Rattle.cap_owners_walks_laws.proofs.Passes.Steps.{AtNode, item-step}
use Rattle.cap_owners_walks_laws.proofs.Passes.Plain.{Starting, Wide, Steps, named_top, with-names}

-- no tokens are taken by `_`
none-by-any :
    (s : PlainState) (k : ℕ) (r : Remaining) (P : List PlainGoal → Type 0) →
    Comes (at_no_tokens s k Any r) P → ⊥
none-by-any s k r P h =
    (after-need (k == 0)
    (λ u. determined_slot (env_at s r.env) Any >>= λ t. prove_equal s t zero_value >>= λ u.
    goes s r) P h).1.1

module _ (p : Checked) (ks : List ℕ) (T : Table) (next : ℤ) (lim : Holding) (j : Job)
    (vs : List NameValue) (s : PlainState) (c : Stock) (top : Taking) where
  pub none-step :
      (k : ℕ) (cs : List Cert) (place : Place) (n r m : ℕ) (x : Slot) (more : Items)
      (kids : PlainTrees) →
      Starting p ks T next lim j vs s c top (item (atom place n r m (Tok x)) more) →
      p.N (node (by_guard k 2 cs) kids) s
      (tasks_of (with_items j (item (atom place n r m (Tok x)) more))) →
      Wide p ks T next lim j vs s c top (item (atom place n r m (Tok x)) more)
      (tree (node (by_guard k 2 cs) kids) no_trees)
      ⊎ Steps p ks T next lim j vs s c top (item (atom place n r m (Tok x)) more)
      (tree (node (by_guard k 2 cs) kids) no_trees)
  none-step k cs place n r m Any more kids f h =
      let of_atom = with_items j (item (atom place n r m (Tok Any)) more) in
      absurd (none-by-any s k (remaining of_atom more)
      (AtNode p ks T next j (atom place n r m (Tok Any)) more (by_guard k 2 cs) kids vs
      (valuation vs) s c top) (node-leads p (by_guard k 2 cs) kids s (tasks_of of_atom) h))
  none-step k cs place n r m (Is u) more kids f h =
      with-names p ks T next lim j vs s c top (atom place n r m (Tok (Is u))) more (by_guard k 2 cs)
      kids (λ enter w. refl) f (λ ns so pass.
      let pp = p.program in
      let one = atom place n r m (Tok (Is u)) in
      let of_atom = with_items j (item one more) in
      let P = AtNode p ks T next j one more (by_guard k 2 cs) kids vs (valuation vs) s c top in
      let g = none-found pp ks T of_atom (valuation vs) s c f.start.ready f.start.backed P k place n
      r m (Is u) more f.start.fits.0 (node-leads p (by_guard k 2 cs) kids s (tasks_of of_atom) h) in
      let it = none-goes pp ks T of_atom (valuation vs) s c f.start.ready f.start.backed P place n r
      m (Is u) more g in
      inr (item-step p ks T next j one more (by_guard k 2 cs) kids vs (valuation vs) s c top
      (fits-more pp j.scope one more f.start.fits) [] it (record {
        values = vs;
        valued = refl;
        sorted = f.sorted;
        terms = f.terms;
        now = named_top p ks T next lim j vs s c top ns;
        names = so.same;
        have = so.fits;
        binds_it = λ x has e.
            absurd (slot-int j.scope x (Is u)
            (tok-fits j.scope (slice_get pp.regions r) m (Is u) f.start.fits.0.1) has e);
        shaped = shaped-same j.scope vs (env_at s j.env) (env_at s j.env) ns so (λ b. b);
        wildcards = [];
        facts = [];
        more_wildcards = sym (join-nil top.fill.wildcards);
        more_facts = sym (join-nil top.fill.facts);
        met = λ y l a x q under. (refl, refl);
        part = sym (none-right pp (part_stock top.part));
        passes = pass;
      })))
