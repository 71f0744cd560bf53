-- Where all facts rest, each says what a table does that others can reach, also where some were loose.
use Rattle.std.proofs.Common.{◌≡◌, ℕ, ◌<◌, ℤ, List, [], ◌∷◌, length, Some, Bool, true, false, refl, ap, ◌∙◌}
use Rattle.std.specs.Prelude.{if◌then◌else◌}
use Rattle.std.specs.List.{AllByRecursion}
use Rattle.cap_lin.specs.Linear.{Linear}
use Rattle.cap_lin.specs.Values.{Valuation, value}
use Rattle.cap_lin.specs.declared.row.Sort.TheVariants.{Int}
use Rattle.cap_prog.specs.WellFormed.{IsWellFormed}
use Rattle.cap_goal_spec.specs.States.{PlainFact, PlainState, PlainTask, to_rest}
use Rattle.cap_goal_spec.specs.Choices.{PlainTrees}
use Rattle.cap_account_states.proofs.KnowsLater.{backed-at}
use Rattle.cap_account_states.specs.Nodes.{Open}
use Rattle.cap_account_resources.specs.Parts.{Table}
use Rattle.cap_account_resources.proofs.Lists.{all-more}
use Rattle.cap_account_resources.proofs.Stocks.{Stock}
use Rattle.cap_account_states.proofs.Checked.{Checked}
use Rattle.cap_account_states.proofs.Terms.{Over, Agree, agree-trans, agree-less}
use Rattle.cap_account_states.proofs.Alike.{agree-alike}
use Rattle.cap_account_states.proofs.Meets.{Free, Usable, Old}
use Rattle.cap_account_states.proofs.Facts.{FactHolds, FactOver, StateHolds, StateOver, Facts}
use Rattle.cap_account_states.proofs.Backed.{IsFirm, Backed, Grounded, GoesOn}
use Rattle.cap_account_assertions.proofs.Named.{set_to, lone, told_state, rest_values, rest_counts, rest_children}
use Rattle.cap_account_assertions.proofs.Laws.{Reached, RestsLaw}
use Rattle.cap_account_steps.proofs.Worlds.{Exact, AllOver}
use Rattle.cap_account_steps.proofs.FirmStates.{firm-loose, firm-differ}
use Rattle.cap_account_steps.proofs.Turning.{backed-before, Reaching}
use Rattle.cap_account_steps.proofs.Resting.{at-rest}
use Rattle.cap_account_steps.proofs.Firming.{firm_values, firmed}

-- firm facts that say just what the table does
pub exact-facts :
    (v : Valuation) (T : Table) (s : PlainState) → AllByRecursion IsFirm s.facts →
    AllByRecursion (Exact v T) s.facts →
    AllByRecursion (AllOver (Usable [] s.sorts Int)) s.facts → Facts [] v T s
exact-facts v T s firm exact over = record {
  holds = all-more (Exact v T) (FactHolds v T)
      (λ f e. (Some (value v.whole f.state), e, known f.loose (value v.whole f.state))) s.facts
      exact;
  over = all-more (AllOver (Usable [] s.sorts Int)) (FactOver (Usable [] s.sorts Int))
      (λ f o. (o.0, o.1, state-over f.loose f.state o.2)) s.facts over;
  loose = firm-loose [] s.sorts s.facts firm;
  differ = firm-differ s.facts firm;
}
  where
    known : (b : Bool) (z : ℤ) → StateHolds b (Some z) z
    known true z = tt
    known false z = refl

    state-over :
        (b : Bool) (t : Linear) → Over (Usable [] s.sorts Int) t →
        StateOver (Usable [] s.sorts Int) b t
    state-over true t o = tt
    state-over false t o = o

-- what Rests lead to from a state with loose facts: their states may have got other values
pub record Settled (p : Checked) (ks : List ℕ) (T U : Table) (v : Valuation) (part : Stock)
    (s : PlainState) (ts : List PlainTask) (trees : PlainTrees) : Type 0 where
  pub w : Valuation
  pub named :
      w ≡ rest_values U s.facts trees (length s.sorts) (firm_values T v s.facts)
  pub after : PlainState
  pub count : length after.sorts ≡ rest_counts s.facts trees (length s.sorts)
  pub children : PlainTrees
  pub leads : children ≡ rest_children s.facts trees
  pub goes : Open p.N children after ts
  pub grounded : Grounded p.program [] w after
  pub facts : Facts [] w U after
  pub firm : AllByRecursion IsFirm after.facts
  pub backed : Backed p.program w after part
  pub agree : Agree (λ x. (x < length s.sorts) × Free ks x) v w
  pub goes_on : GoesOn s after
  pub envs : after.envs ≡ s.envs

pub rests-loose :
    (p : Checked) → IsWellFormed p.program → (ks : List ℕ) (part : Stock) (T U : Table) (n : ℕ)
    (ts : List PlainTask) (trees : PlainTrees) (v : Valuation) (s : PlainState) →
    Reached p.program T U part → Open p.N trees s (to_rest 0 n ∷ ts) →
    Grounded p.program ks v s → Facts ks v T s → Backed p.program v s part →
    Settled p ks T U v part s ts trees
rests-loose p wf ks part T U n ts trees v s reached goes g fs backed =
    let q = p.program in
    let fm = firmed q ks T v s reached.full g fs in
    let b = backed-at q s ks (Free ks) v fm.w part (λ o x h. h.1)
    (agree-alike (Free ks) v fm.w fm.agree) g backed in
    let reaching : Reaching q part T U = record {
      regions = wf.regions;
      fits = reached.fits;
      room = reached.room;
      relies = reached.relies;
    } in
    let r = at-rest p [] part T U reaching n ts trees fm.w s tt fm.grounded fm.over fm.exact
    b.guards
    goes in
    let c = r.as_before in
    let P : ℕ → Type 0 = λ x. (x < length s.sorts) × Free ks x in
    record {
      w = r.w;
      named =
          r.named ∙ ap (rest_values U s.facts trees (length s.sorts)) fm.named;
      after = r.after;
      count = r.count;
      children = r.children;
      leads = r.leads;
      goes = r.goes;
      grounded = r.grounded;
      facts = exact-facts r.w U r.after r.firm r.exact r.over;
      firm = r.firm;
      backed = backed-before q [] fm.w r.w s r.after c fm.grounded part b;
      agree =
          agree-trans P v fm.w r.w (agree-less P (Free ks) v fm.w (λ x h. h.1) fm.agree)
          (agree-less P (Old s) fm.w r.w (λ x h. h.0) c.agree);
      goes_on = c.goes_on;
      envs = c.envs;
    }

-- where all facts are firm, the values stay
pub none-loose :
    (T : Table) (v : Valuation) (fs : List PlainFact) → AllByRecursion IsFirm fs →
    firm_values T v fs ≡ v
none-loose T v [] h = refl
none-loose T v (f ∷ fs) h =
    ap (λ b. if b then set_to (firm_values T v fs) (lone f.state) (told_state T v f)
    else firm_values T v fs) h.0
    ∙ none-loose T v fs h.1

pub rests : (p : Checked) → IsWellFormed p.program → RestsLaw p
rests p wf part T U n ts trees v s reached goes g fs firm backed =
    let r = rests-loose p wf [] part T U n ts trees v s reached goes g fs backed in
    record {
      w = r.w;
      named =
          r.named ∙ ap (rest_values U s.facts trees (length s.sorts)) (none-loose T v s.facts firm);
      after = r.after;
      count = r.count;
      children = r.children;
      leads = r.leads;
      goes = r.goes;
      grounded = r.grounded;
      facts = r.facts;
      firm = r.firm;
      backed = r.backed;
      agree = agree-less (Old s)
          (λ x. (x < length s.sorts) × Free [] x) v r.w (λ x h. (h, tt)) r.agree;
      goes_on = r.goes_on;
      envs = r.envs;
    }
