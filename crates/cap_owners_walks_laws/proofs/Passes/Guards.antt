-- A walk takes guards, whichever way.
use Rattle.std.proofs.Common.{◌≡◌, ◌⊎◌, ℕ, zero, suc, ℤ, List, Option, Some, None, refl, ap, ◌∙◌}
use Rattle.std.specs.Prelude.{slice_get, ◌==◌, ◌&&◌, IsSomeAnd}
use Rattle.cap_lin.specs.Linear.{Linear}
use Rattle.cap_lin.specs.declared.row.Sort.TheVariants.{Int}
use Rattle.cap_lin.specs.declared.row.Op.TheVariants.{Eq as Equal}
use Rattle.cap_galg.specs.Algebras.{atom_algebra}
use Rattle.cap_gsolve.specs.declared.piece.Form.{Form}
use Rattle.cap_gsolve.specs.declared.piece.Form.TheVariants as form
use Rattle.cap_gsolve.specs.declared.piece.Piece.{Piece}
use Rattle.cap_farkas.specs.declared.cert.Cert.{Cert}
use Rattle.cap_syntax.specs.declared.place.Place.{Place}
use Rattle.cap_prog.specs.declared.assertion.Slot.{Slot}
use Rattle.cap_prog.specs.declared.assertion.Asked.{Asked}
use Rattle.cap_prog.specs.declared.assertion.Asked.TheVariants.{One, Share, Src, Tok, At, From}
use Rattle.cap_prog.specs.Program.{atom, Items, item, PlainRegionType}
use Rattle.cap_prog.specs.Scopes.{Scope}
use Rattle.cap_prog.specs.WellFormed.{AtomFits}
use Rattle.cap_goal_spec.specs.States.{PlainState, PlainGoal}
use Rattle.cap_goal_spec.specs.Choices.{by_guard, node, PlainTrees, no_trees, tree}
use Rattle.cap_goal_spec.specs.Environments.{term_of, Reading, settled, open_to, stuck, reading, asked_slot}
use Rattle.cap_rules.specs.Attempts.{Attempt, ◌>>=◌, need, found}
use Rattle.cap_rules.specs.Making.{env_at, prove_equal}
use Rattle.cap_rules.specs.Rules.{Remaining, goes, at_piece}
use Rattle.cap_rules.specs.Taking.{Cut, cut_form, after_cut}
use Rattle.cap_machine_accounts.specs.Assertions.{NameValue}
use Rattle.cap_account_resources.specs.Parts.{Table}
use Rattle.cap_account_resources.proofs.Interference.{Holding}
use Rattle.cap_account_resources.proofs.Stocks.{Stock}
use Rattle.cap_account_states.specs.Nodes.{Comes}
use Rattle.cap_account_states.proofs.Asking.{AskedOver}
use Rattle.cap_account_states.proofs.Attempts.{comes-bind, after-found, after-need, after-proved}
use Rattle.cap_account_states.proofs.Checked.{Checked}
use Rattle.cap_account_states.proofs.Guarding.{CutFrom, is_open_reading}
use Rattle.cap_account_states.proofs.Wants.{asked-over}
use Rattle.cap_account_assertions.proofs.TakeSteps.{Job, with_items, tasks_of, remaining}
use Rattle.cap_account_assertions.proofs.TakeAtoms.{piece-found}
use Rattle.cap_owners_spec.specs.Traced.{past_width, valuation}
use Rattle.cap_owners_spec.specs.Filling.{atom_met}
use Rattle.cap_owners_spec.specs.Walks.{Taking, Walk, asked_reading, pass_piece, pass_guard}
use Rattle.cap_owners_walks_laws.proofs.Walks.Leading.{node-leads}
use Rattle.cap_owners_walks_laws.proofs.Passes.Names.{NamesSo}
use Rattle.cap_owners_walks_laws.proofs.Passes.Takes.{taking_on}
use Rattle.cap_owners_walks_laws.proofs.Passes.Steps.{AtNode}
use Rattle.cap_owners_walks_laws.proofs.Passes.Plain.{Starting, Wide, Steps, named_top, with-names}
use Rattle.cap_owners_walks_laws.proofs.Passes.TakesAll.{GuardSteps}
use Rattle.cap_owners_walks_laws.proofs.Passes.Pieces.{none-step}
use Rattle.cap_owners_walks_laws.proofs.Passes.Cuts.{Found, Value, piece-step}
use Rattle.cap_owners_walks_laws.proofs.Passes.Values.{stuck-none, settled-value, unique-value, counted-open}
use Rattle.cap_owners_walks_laws.proofs.Passes.Halves.{share-value}

-- what a piece is cut for can be read
piece-read :
    (s : PlainState) (j way n k i : ℕ) (asked : Asked) (r : Remaining)
    (P : List PlainGoal → Type 0) → Comes (at_piece s j way n k i asked r) P →
    reading (env_at s r.env) (asked_slot asked) ≡ stuck → ⊥
piece-read s j way n k i asked r P c e =
    let env = env_at s r.env in
    let fifth : Piece → Cut → Attempt (List PlainGoal) = λ q x. goes (after_cut r.env j q x) r in
    let fourth : Piece → Attempt (List PlainGoal) =
    λ q. cut_form s env asked q.form way >>= fifth q in
    let third : Piece → Linear → Attempt (List PlainGoal) =
    λ q t. prove_equal s q.region t >>= λ u. fourth q in
    let second : Piece → Attempt (List PlainGoal) = λ q. found (term_of env n) >>= third q in
    let first : Piece → Attempt (List PlainGoal) = λ q. need
    ((q.kind == k) && (q.atom == i)) >>= λ u. second q in
    let k1 = after-found (slice_get s.guards j) first P c in
    let q = k1.0 in
    let k2 = after-need ((q.kind == k) && (q.atom == i)) (λ u. second q) P k1.2 in
    let k3 = after-found (term_of env n) (third q) P k2.1 in
    let k4 = after-proved s.rows q.region Equal k3.0 Int (λ u. fourth q) P k3.2 in
    stuck-none s env asked q.form way (λ x. Comes (fifth q x) P) e
    (comes-bind (cut_form s env asked q.form way) (fifth q) P k4.1)

share-form :
    (x : Slot) (f : Form) → CutFrom (Share x) f → (a : Linear) × (f ≡ form.Share a)
share-form x (form.Share a) c = (a, refl)
share-form x f c = absurd c

asked-fits :
    (sc : Scope) (o : Option PlainRegionType) (i : ℕ) (asked : Asked) →
    IsSomeAnd o (λ type. AtomFits sc type i asked) → AskedOver sc asked
asked-fits sc None i asked h = absurd h
asked-fits sc (Some type) i asked h = asked-over sc (atom_algebra type.algebra i) asked h.form

module _ (p : Checked) (ks : List ℕ) (T : Table) (next : ℤ) (lim : Holding) (j : Job)
    (vs : List NameValue) (s : PlainState) (c : Stock) (top : Taking) (k way : ℕ)
    (cs : List Cert) (place : Place) (n r m : ℕ) where
  -- by which value the atom is met, or it is too wide
  abbrev Valued :
      (asked : Asked) (more : Items) (kids : PlainTrees)
      (f : Starting p ks T next lim j vs s c top (item (atom place n r m asked) more)) →
      Found p ks T next lim j vs s c top k way cs place n r m asked more kids f →
      List NameValue → Type 0
  Valued asked more kids f g ns =
      (atom_met vs ns g.piece.form (asked_reading (env_at s j.env) asked) ≡ past_width)
      ⊎ Value p ks T next lim j vs s c top k way cs place n r m asked more kids f g ns

  -- what is known of it in each way
  abbrev ByReading : Asked → Type 0
  ByReading asked =
      (more : Items) (kids : PlainTrees)
      (f : Starting p ks T next lim j vs s c top (item (atom place n r m asked) more))
      (g : Found p ks T next lim j vs s c top k way cs place n r m asked more kids f)
      (ns : List NameValue) → NamesSo j.scope vs (env_at s j.env) ns →
      (reading (env_at s j.env) (asked_slot asked) ≡ stuck → ⊥) → Valued asked more kids f g ns

  src-valued : (x : Slot) → ByReading (Src x)
  src-valued x more kids f g ns so read = by (reading (env_at s j.env) x) refl
    where
      by :
          (d : Reading) → reading (env_at s j.env) x ≡ d →
          Valued (Src x) more kids f g ns
      by stuck e = absurd (read e)
      by (settled t) e =
          settled-value p ks T next lim j vs s c top k way cs place n r m (Src x) more kids f g ns
          so refl t refl e (λ y. refl)
      by (open_to o) e =
          counted-open p ks T next lim j vs s c top k way cs place n r m (Src x) more kids f g ns
          so refl tt (λ q. absurd (cc)) refl refl
          (asked-fits j.scope (slice_get p.program.regions r) m (Src x) f.start.fits.0.1)
          (λ d y. refl) o e

  tok-valued : (x : Slot) → ByReading (Tok x)
  tok-valued x more kids f g ns so read = by (reading (env_at s j.env) x) refl
    where
      by :
          (d : Reading) → reading (env_at s j.env) x ≡ d →
          Valued (Tok x) more kids f g ns
      by stuck e = absurd (read e)
      by (settled t) e =
          settled-value p ks T next lim j vs s c top k way cs place n r m (Tok x) more kids f g ns
          so refl t refl e (λ y. refl)
      by (open_to o) e =
          counted-open p ks T next lim j vs s c top k way cs place n r m (Tok x) more kids f g ns
          so refl tt (λ q. absurd (cc)) refl refl
          (asked-fits j.scope (slice_get p.program.regions r) m (Tok x) f.start.fits.0.1)
          (λ d y. refl) o e

  at-valued : (x : Slot) → ByReading (At x)
  at-valued x more kids f g ns so read = by (reading (env_at s j.env) x) refl
    where
      by :
          (d : Reading) → reading (env_at s j.env) x ≡ d →
          Valued (At x) more kids f g ns
      by stuck e = absurd (read e)
      by (settled t) e =
          settled-value p ks T next lim j vs s c top k way cs place n r m (At x) more kids f g ns
          so refl t refl e (λ y. refl)
      by (open_to o) e =
          counted-open p ks T next lim j vs s c top k way cs place n r m (At x) more kids f g ns
          so refl tt (λ q. absurd (cc)) refl refl
          (asked-fits j.scope (slice_get p.program.regions r) m (At x) f.start.fits.0.1)
          (λ d y. refl) o e

  from-valued : (x : Slot) → ByReading (From x)
  from-valued x more kids f g ns so read = by (reading (env_at s j.env) x) refl
    where
      by :
          (d : Reading) → reading (env_at s j.env) x ≡ d →
          Valued (From x) more kids f g ns
      by stuck e = absurd (read e)
      by (settled t) e =
          settled-value p ks T next lim j vs s c top k way cs place n r m (From x) more kids f g ns
          so refl t refl e (λ y. refl)
      by (open_to o) e =
          counted-open p ks T next lim j vs s c top k way cs place n r m (From x) more kids f g ns
          so refl tt (λ q. absurd (cc)) refl refl
          (asked-fits j.scope (slice_get p.program.regions r) m (From x) f.start.fits.0.1)
          (λ d y. refl) o e

  share-valued : (x : Slot) → ByReading (Share x)
  share-valued x more kids f g ns so read = by (reading (env_at s j.env) x) refl
    where
      by :
          (d : Reading) → reading (env_at s j.env) x ≡ d →
          Valued (Share x) more kids f g ns
      by stuck e = absurd (read e)
      by (settled t) e =
          settled-value p ks T next lim j vs s c top k way cs place n r m (Share x) more kids f g ns
          so (ap is_open_reading e) t refl e (λ y. refl)
      by (open_to o) e =
          let a = share-form x g.piece.form g.cut_from in
          share-value p ks T next lim j vs s c top k way cs place n r m x more kids f g ns so o e
          a.0 a.1 (asked-fits j.scope (slice_get p.program.regions r) m (Share x) f.start.fits.0.1)

  valued : (asked : Asked) → ByReading asked
  valued One more kids f g ns so read =
      unique-value p ks T next lim j vs s c top k way cs place n r m One more kids f g ns so refl
      refl
  valued (Share x) more kids f g ns so read = share-valued x more kids f g ns so read
  valued (Src x) more kids f g ns so read = src-valued x more kids f g ns so read
  valued (Tok x) more kids f g ns so read = tok-valued x more kids f g ns so read
  valued (At x) more kids f g ns so read = at-valued x more kids f g ns so read
  valued (From x) more kids f g ns so read = from-valued x more kids f g ns so read

  abbrev Answer : Asked → Items → PlainTrees → Type 0
  Answer asked more kids =
      Wide p ks T next lim j vs s c top (item (atom place n r m asked) more)
      (tree (node (by_guard k way cs) kids) no_trees)
      ⊎ Steps p ks T next lim j vs s c top (item (atom place n r m asked) more)
      (tree (node (by_guard k way cs) kids) no_trees)

  pub cut-step :
      (asked : Asked) (more : Items) (kids : PlainTrees)
      (f : Starting p ks T next lim j vs s c top (item (atom place n r m asked) more)) →
      Comes (at_piece s k way n r m asked
      (remaining (with_items j (item (atom place n r m asked) more)) more))
      (AtNode p ks T next j (atom place n r m asked) more (by_guard k way cs) kids vs
      (valuation vs) s c top) →
      ((t : Taking) (w : Walk) →
      pass_guard p.program s (env_at s j.env) k way r m asked t w
      ≡ pass_piece p.program s (env_at s j.env) k r m asked t w) → Answer asked more kids
  cut-step asked more kids f h is =
      with-names p ks T next lim j vs s c top (atom place n r m asked) more (by_guard k way cs) kids
      (λ enter w. refl) f (λ ns so pass.
      let of_atom = with_items j (item (atom place n r m asked) more) in
      let P = AtNode p ks T next j (atom place n r m asked) more (by_guard k way cs) kids vs
      (valuation vs) s c top in
      let g = piece-found p.program ks T of_atom (valuation vs) s c f.start.ready f.start.backed P k
      way place n r m asked more f.start.low f.start.fits.0 h in
      piece-step p ks T next lim j vs s c top k way cs place n r m asked more kids f g ns
      (λ enter w under. pass enter w under
      ∙ is (named_top p ks T next lim j vs s c top ns) (taking_on p ks vs top under w))
      (valued asked more kids f g ns so
      (piece-read s k way n r m asked (remaining of_atom more) P h)))

-- ---- the law

pub guard-steps : (p : Checked) (ks : List ℕ) → GuardSteps p ks
guard-steps p ks T next lim j vs s c top i (suc (suc zero)) cs place n k m (Tok x) more kids f h =
    none-step p ks T next lim j vs s c top i cs place n k m x more kids f h
guard-steps p ks T next lim j vs s c top i (suc (suc zero)) cs place n k m One more kids f h =
    cut-step p ks T next lim j vs s c top i 2 cs place n k m One more kids f
    (node-leads p (by_guard i 2 cs) kids s
    (tasks_of (with_items j (item (atom place n k m One) more))) h) (λ t w. refl)
guard-steps p ks T next lim j vs s c top i (suc (suc zero)) cs place n k m (Share x) more kids f h =
    cut-step p ks T next lim j vs s c top i 2 cs place n k m (Share x) more kids f
    (node-leads p (by_guard i 2 cs) kids s
    (tasks_of (with_items j (item (atom place n k m (Share x)) more))) h) (λ t w. refl)
guard-steps p ks T next lim j vs s c top i (suc (suc zero)) cs place n k m (Src x) more kids f h =
    cut-step p ks T next lim j vs s c top i 2 cs place n k m (Src x) more kids f
    (node-leads p (by_guard i 2 cs) kids s
    (tasks_of (with_items j (item (atom place n k m (Src x)) more))) h) (λ t w. refl)
guard-steps p ks T next lim j vs s c top i (suc (suc zero)) cs place n k m (At x) more kids f h =
    cut-step p ks T next lim j vs s c top i 2 cs place n k m (At x) more kids f
    (node-leads p (by_guard i 2 cs) kids s
    (tasks_of (with_items j (item (atom place n k m (At x)) more))) h) (λ t w. refl)
guard-steps p ks T next lim j vs s c top i (suc (suc zero)) cs place n k m (From x) more kids f h =
    cut-step p ks T next lim j vs s c top i 2 cs place n k m (From x) more kids f
    (node-leads p (by_guard i 2 cs) kids s
    (tasks_of (with_items j (item (atom place n k m (From x)) more))) h) (λ t w. refl)
guard-steps p ks T next lim j vs s c top i zero cs place n k m asked more kids f h =
    cut-step p ks T next lim j vs s c top i 0 cs place n k m asked more kids f
    (node-leads p (by_guard i 0 cs) kids s
    (tasks_of (with_items j (item (atom place n k m asked) more))) h) (λ t w. refl)
guard-steps p ks T next lim j vs s c top i (suc zero) cs place n k m asked more kids f h =
    cut-step p ks T next lim j vs s c top i 1 cs place n k m asked more kids f
    (node-leads p (by_guard i 1 cs) kids s
    (tasks_of (with_items j (item (atom place n k m asked) more))) h) (λ t w. refl)
guard-steps p ks T next lim j vs s c top i (suc (suc (suc way))) cs place n k m asked more kids f
    h =
    cut-step p ks T next lim j vs s c top i (suc (suc (suc way))) cs place n k m asked more kids f
    (node-leads p (by_guard i (suc (suc (suc way))) cs) kids s
    (tasks_of (with_items j (item (atom place n k m asked) more))) h) (λ t w. refl)
