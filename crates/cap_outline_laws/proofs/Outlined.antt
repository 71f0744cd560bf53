-- Of a top frame one of the states at its next statement holds, all along a run.
use Rattle.std.proofs.Common.{◌≡◌, inl, inr, ℕ, List, [], ◌∷◌, ◌++◌, refl, sym, ap, ◌∙◌, subst, Option, Some, None, true}
use Rattle.std.specs.Prelude.{slice_get, flat_map, ◌==◌}
use Rattle.cap_galg.specs.Laws.Composition.{eq-true}
use Rattle.cap_prog.specs.Program.{PlainFunction, PlainProgram}
use Rattle.cap_prog.specs.WellFormed.{IsWellFormed}
use Rattle.cap_goal_spec.specs.States.{goal}
use Rattle.cap_goal_spec.specs.Choices.{PlainTree}
use Rattle.cap_rules.specs.Valid.{Valid}
use Rattle.cap_rules_nodes.specs.Nodes.{GoalNode, program_nodes}
use Rattle.cap_machine.specs.declared.event.Entry.{Entry}
use Rattle.cap_machine.specs.Machine.{Frame, Configuration, step, start}
use Rattle.cap_machine_accounts.specs.Accounts.{Held, Account, IsValidAccount, table}
use Rattle.cap_machine_accounts.specs.Safety.{top_of, first_account}
use Rattle.cap_account_resources.proofs.Lists.{Among, some-same, none-some}
use Rattle.cap_account_states.proofs.Checked.{Checked}
use Rattle.cap_account_steps.proofs.Bundles.{unit-roots}
use Rattle.cap_account_steps.proofs.Frames.{Node}
use Rattle.cap_account_steps.proofs.Regained.{Stable}
use Rattle.cap_account_steps.proofs.StableLaws.{valid-stable}
use Rattle.cap_account_steps.proofs.Statements.{Statements}
use Rattle.cap_account_steps.proofs.StatementLaws.{statements}
use Rattle.cap_account_steps.proofs.Stores.{running}
use Rattle.cap_account.proofs.Begins.{body-begins}
use Rattle.cap_account.proofs.Returning.{all-advance}
use Rattle.cap_account.proofs.Stocked.{part_stock, account_table, AllSit}
use Rattle.cap_account.proofs.Tracks.{Along, followed-more, seen}
use Rattle.cap_account.proofs.Valid.{accounts-are-valid}
use Rattle.cap_outline_spec.specs.Standing.{first_number, Standing, standing_of, standing_among, standing}
use Rattle.cap_outline_laws.specs.Holding.{HoldsOf}
use Rattle.cap_outline_laws.specs.Laws.{OneIs, AreOutlined, IsOutlined, DerivationsOutline}
use Rattle.cap_outline_laws.proofs.Listed.{listed, roots-listed, first-listed}
use Rattle.cap_outline_laws.proofs.Sitting.{top-guards, holds-at}

-- ---- one of a list

one-left : {X : Type 0} (P : X → Type 0) (xs ys : List X) → OneIs P xs → OneIs P (xs ++ ys)
one-left P [] ys h = absurd h
one-left P (x ∷ xs) ys (inl h) = inl h
one-left P (x ∷ xs) ys (inr h) = inr (one-left P xs ys h)

one-right : {X : Type 0} (P : X → Type 0) (xs ys : List X) → OneIs P ys → OneIs P (xs ++ ys)
one-right P [] ys h = h
one-right P (x ∷ xs) ys h = inr (one-right P xs ys h)

one-standing :
    (P : Standing → Type 0) (f k : ℕ) (ns : List GoalNode) (n : GoalNode) →
    OneIs P (standing_of f k n) → Among n ns → OneIs P (standing_among f k ns)
one-standing P f k [] n h m = absurd m
one-standing P f k (z ∷ ns) n h (inl e) =
    one-left P (standing_of f k z) (standing_among f k ns)
    (subst (λ y. OneIs P (standing_of f k y)) (sym e) h)
one-standing P f k (z ∷ ns) n h (inr m) =
    one-right P (standing_of f k z) (standing_among f k ns) (one-standing P f k ns n h m)

-- ---- top frames

top-is :
    {X : Type 0} (o : Option (List X)) (x : X) → top_of o ≡ Some x →
    (xs : List X) × (o ≡ Some (x ∷ xs))
top-is None x e = absurd (none-some e)
top-is (Some []) x e = absurd (none-some e)
top-is (Some (y ∷ ys)) x e = (ys, ap (λ z. Some (z ∷ ys)) (some-same y x e))

module _ (p : PlainProgram) (trees : List (Option PlainTree)) where
  abbrev nodes : List GoalNode
  nodes = program_nodes p trees

  abbrev these : Checked
  these = listed p nodes

  -- the node's state is one of those at the frame's statement
  node-stands :
      (P : Standing → Type 0) (part : Held) (a : Account) (fn : PlainFunction) (f : Frame)
      (t : PlainTree) (k : ℕ) → first_number f.rest ≡ Some k →
      (n : Node these (part_stock part.part) (account_table a) fn part.fixed f (running f.rest) t) →
      P (record { home = n.home; state = n.state }) → OneIs P (standing p trees f.function k)
  node-stands P part a fn f t k e n h =
      let m = first-listed p nodes t n.state (running f.rest n.home) n.valid in
      let here = n.none_open in
      let function = eq-true n.home.function f.function n.store.home in
      let number = eq-true k k refl in
      let stands : standing_of f.function k
      (record { goal = goal n.state (running f.rest n.home); choice = m.0 })
      ≡ record { home = n.home; state = n.state } ∷ [] = rw (here, e, function, number) refl in
      one-standing P f.function k nodes
      (record { goal = goal n.state (running f.rest n.home); choice = m.0 })
      (subst (OneIs P) (sym stands) (inl h)) m.1

  tops-outlined :
      (c : Configuration) (a : Account) → IsValidAccount p c a → AllSit these c a →
      AreOutlined p trees c a
  tops-outlined c a valid sit i t k e =
      let fs = top-is (slice_get c.threads i) t.frame t.is_frame in
      let hs = top-is (slice_get a.threads i) t.held t.is_held in
      let s = sit i t.frame fs.0 t.held hs.0 fs.1 hs.1 in
      let n = s.1.at_node in
      node-stands (HoldsOf p (table a) t.frame t.held) t.held a s.0 t.frame s.1.tree k e n (
        n.v,
        holds-at these a s.0 t.frame t.held (running t.frame.rest) s.1.tree
            (top-guards p a i t.held hs.0 valid.guards_fit hs.1) n,
      )

  -- ---- runs

  run-outlined :
      (es : List Entry) (c : Configuration) (a : Account) →
      Along p (λ d b. IsValidAccount p d b × AllSit these d b) es c a → IsOutlined p trees es c a
  run-outlined [] c a h = (h.0, tops-outlined c a h.0 h.1)
  run-outlined (e ∷ es) c a h = (
    h.0.0,
    tops-outlined c a h.0.0 h.0.1,
    followed-more p e.thread c a
        (λ d b. Along p (λ x y. IsValidAccount p x y × AllSit these x y) es d b)
        (λ d b. IsOutlined p trees es d b) (run-outlined es) (step p c e) h.1,
  )

pub derivations-outline : DerivationsOutline
derivations-outline program trees well valid main args heap fixed es s =
    let p : Checked = listed program (program_nodes program trees) in
    let stable : Stable program = valid-stable program trees well valid in
    let roots = unit-roots p (roots-listed program trees valid) in
    let laws : Statements p = statements p well roots stable in
    let a = first_account heap fixed in
    run-outlined program trees es (start program args heap) a
    (seen p (all-advance p laws stable) (accounts-are-valid p) es (start program args heap) a
    (body-begins p laws.bodies heap main fixed args s))
