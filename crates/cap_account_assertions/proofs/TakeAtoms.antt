-- Guards are taken: no tokens, and atoms cut out of a piece (the rule `guard`).
use Rattle.std.proofs.Common.{◌≡◌, ◌≢◌, ℕ, ◌<◌, ℤ, List, [], length, arith, refl, sym, ap, ◌∙◌, subst, Option, Some, None}
use Rattle.cap_account_states.proofs.Wants.{asked-over}
use Rattle.std.specs.Prelude.{slice_get, IsSomeAnd}
use Rattle.std.specs.List.{AllByRecursion}
use Rattle.cap_lin.specs.Values.{Valuation}
use Rattle.cap_lin.specs.declared.row.Sort.TheVariants.{Int}
use Rattle.cap_galg.specs.Elements.{Element, nothing}
use Rattle.cap_galg.specs.Algebras.{IsElement, atom_algebra, atom_element}
use Rattle.cap_gsolve.specs.declared.piece.Piece.{Piece}
use Rattle.cap_gsolve.specs.Meaning.{region_of}
use Rattle.cap_syntax.specs.declared.place.Place.{Place}
use Rattle.cap_prog.specs.declared.assertion.Slot.{Slot}
use Rattle.cap_prog.specs.declared.assertion.Asked.{Asked}
use Rattle.cap_prog.specs.declared.assertion.Asked.TheVariants.{Tok}
use Rattle.cap_prog.specs.Program.{atom, Items, PlainRegionType, PlainProgram}
use Rattle.cap_prog.specs.Scopes.{Scope}
use Rattle.cap_prog.specs.WellFormed.{AtomFits, ItemFits}
use Rattle.cap_machine_accounts.specs.Parts.{algebra_of}
use Rattle.cap_goal_spec.specs.States.{PlainState, PlainGoal}
use Rattle.cap_rules.specs.Making.{env_at}
use Rattle.cap_rules.specs.Rules.{goes, at_no_tokens, at_piece}
use Rattle.cap_account_resources.specs.Parts.{Table}
use Rattle.cap_account_resources.proofs.Lists.{all-more}
use Rattle.cap_account_resources.proofs.Marks.{Mark, free}
use Rattle.cap_account_resources.proofs.Covering.{mark, Covered}
use Rattle.cap_account_resources.proofs.Stocks.{Stock, no_stock, guard_stock, both, Inside, inside-same, inside-is}
use Rattle.cap_account_states.specs.Nodes.{Comes}
use Rattle.cap_account_states.proofs.Alike.{Alike, need-alike}
use Rattle.cap_account_states.proofs.Brought.{Bring, piece_brings}
use Rattle.cap_account_states.proofs.Meets.{Usable, usable-old, need, Old, same-trans}
use Rattle.cap_account_states.proofs.Asking.{AskedOver}
use Rattle.cap_account_states.proofs.Guarding.{WantedNear, is_open}
use Rattle.cap_account_states.proofs.Naming.{Means}
use Rattle.cap_account_states.proofs.Adding.{PieceOver}
use Rattle.cap_account_states.proofs.Pieces.{AllFit, left_pieces}
use Rattle.cap_account_states.proofs.Guards.{GuardTaken, guard-taken, no-tokens-taken}
use Rattle.cap_account_states.proofs.Backed.{Backed, Grounded}
use Rattle.cap_account_assertions.proofs.Asserted.{WantsAtom}
use Rattle.cap_account_assertions.proofs.Laws.{StateAt}
use Rattle.cap_account_assertions.proofs.PieceCuts.{none-alone, CutsOut, cuts-out, stock_left, left-apart}
use Rattle.cap_account_assertions.proofs.TakeSteps.{Job, remaining, Head, Claim}
use Rattle.cap_account_assertions.proofs.TakeHeads.{same-parts, means-bound, head-same, head-kept, head-bound, ItemTaken}

-- ---- what is asked

atom-over :
    (sc : Scope) (o : Option PlainRegionType) (i : ℕ) (asked : Asked) →
    IsSomeAnd o (λ type. AtomFits sc type i asked) → AskedOver sc asked
atom-over sc None i asked h = absurd h
atom-over sc (Some type) i asked h = asked-over sc (atom_algebra type.algebra i) asked h.form

-- of a piece's kind and atom, which are those that are asked
pub is-atom :
    (p : PlainProgram) (k k' m m' : ℕ) → k ≡ k' → m ≡ m' → (y : Element) →
    IsElement (atom_algebra (algebra_of p k) m) y → IsElement (atom_algebra (algebra_of p k') m') y
is-atom p k k' m m' e f y h =
    subst (λ b. IsElement (atom_algebra (algebra_of p k') b) y) f
    (subst (λ b. IsElement (atom_algebra (algebra_of p b) m) y) e h)

pub mark-of :
    (p : PlainProgram) (k k' m m' : ℕ) → k ≡ k' → m ≡ m' → (y : Element) →
    mark k (atom_element (algebra_of p k) m y) ≡ mark k' (atom_element (algebra_of p k') m' y)
mark-of p k k' m m' e f y =
    ap (λ b. mark b (atom_element (algebra_of p b) m y)) e
    ∙ ap (λ b. mark k' (atom_element (algebra_of p k') b y)) f

module _ (p : PlainProgram) (ks : List ℕ) (T : Table) (j : Job) (v : Valuation) (s : PlainState)
    (c : Stock) (st : StateAt p ks T j.scope j.env v s) (backed : Backed p v s c)
    (P : List PlainGoal → Type 0) where
  -- no tokens are wanted
  abbrev pub NoTokens : Slot → Items → Type 0
  NoTokens x more =
      WantedNear j.scope (Old s) v (env_at s j.env) (Tok x) nothing
      × Comes (goes s (remaining j more)) P

  pub none-found :
      (i : ℕ) (place : Place) (n k m : ℕ) (x : Slot) (more : Items) →
      ItemFits p j.scope (atom place n k m (Tok x)) →
      Comes (at_no_tokens s i x (remaining j more)) P → NoTokens x more
  none-found i place n k m x more fits h =
      no-tokens-taken ks j.scope v s i x (remaining j more) P st.grounded.meets st.placed
      (atom-over j.scope (slice_get p.regions k) m (Tok x) fits.1) h

  abbrev pub none-goes :
      (place : Place) (n k m : ℕ) (x : Slot) (more : Items) → NoTokens x more →
      ItemTaken p ks T j v s c P [] (atom place n k m (Tok x)) more
  none-goes place n k m x more g =
      record {
        head = head-same p ks T j v s c st backed;
        claim = λ w l a y r. (
          Some free,
          record { element = nothing; wanted = g.0 w l a y; of_atom = tt; is_mark = refl },
          inside-is p (both p (guard_stock (a.whole n) (Some free)) r)
              (both p no_stock r) (ap (λ q. both p q r) (none-alone (a.whole n))),
        );
        goes = g.1.1;
      }

  pub none-taken :
      (i : ℕ) (place : Place) (n k m : ℕ) (x : Slot) (more : Items) →
      ItemFits p j.scope (atom place n k m (Tok x)) →
      Comes (at_no_tokens s i x (remaining j more)) P →
      ItemTaken p ks T j v s c P [] (atom place n k m (Tok x)) more
  none-taken i place n k m x more fits h =
      none-goes place n k m x more (none-found i place n k m x more fits h)

  -- ---- out of a piece

  abbrev pub PieceFound : ℕ → ℕ → ℕ → ℕ → Asked → Items → Type 0
  PieceFound i n k m asked more =
      GuardTaken p ks j.scope v s i n k m asked (remaining j more) c.guards P

  module _ (i n k m : ℕ) (asked : Asked) (more : Items)
      (g : PieceFound i n k m asked more) where
    -- the guards that are taken, and of which region
    abbrev guards_taken : Option Mark
    guards_taken =
        mark g.piece.kind
        (atom_element (algebra_of p g.piece.kind) g.piece.atom g.taken)

    abbrev region_taken : ℤ
    region_taken = region_of g.w g.piece

    abbrev pieces_then : List Piece
    pieces_then = left_pieces s.guards i g.piece g.left

    abbrev cuts : CutsOut p g.w pieces_then region_taken guards_taken c.guards
    cuts =
        cuts-out p g.w pieces_then region_taken guards_taken c.guards g.here g.away

    -- the state without them, and what it has
    abbrev state_left : PlainState
    state_left = record g.after { guards = left_pieces g.after.guards i g.piece g.left }

    abbrev rest : Stock
    rest = stock_left p g.w pieces_then region_taken guards_taken c cuts

    pub pieces-left : state_left.guards ≡ pieces_then
    pieces-left = ap (λ qs. left_pieces qs i g.piece g.left) g.guards

    pub grounded-left : Grounded p ks g.w state_left
    grounded-left = record {
      meets = record {
        sorted = g.meets.sorted;
        rows = g.meets.rows;
        rows_over = g.meets.rows_over;
        cells_over = g.meets.cells_over;
        positive = g.meets.positive;
        store_over = g.meets.store_over;
      };
      pieces_over =
          subst (AllByRecursion (PieceOver (Usable ks g.after.sorts))) (sym pieces-left)
          g.pieces_over;
      pieces_fit = subst (AllFit p) (sym pieces-left) g.fit;
    }

    pub backed-left : Backed p g.w state_left rest
    backed-left = record {
      cells = λ a z.
          let R = Usable ks s.sorts in
          let held = backed.cells a z in
          let same = ap (λ cs. need g.w cs a z) g.cells
          ∙ need-alike R (Old s) v g.w (usable-old ks s.sorts Int) g.alike s.cells
          st.grounded.meets.cells_over a z in
          omega (arith, held, same);
      guards = λ z.
          subst (λ qs. Covered p g.w qs z (cuts z).rest) (sym pieces-left) (cuts z).covered;
    }

    -- half of the share out of which an open amount is cut, or nothing
    abbrev piece_brought : List Bring
    piece_brought = piece_brings (is_open asked (env_at s j.env)) (slice_get s.guards i)

    abbrev head-piece : Head p ks T j v s c piece_brought
    head-piece =
        head-bound p ks T j v s c st
        (head-kept p ks T j v s c st g.w state_left rest
        (guard_stock region_taken guards_taken)
        (same-trans s g.after state_left g.same
        (same-parts g.after g.after.rows g.after.cells state_left.guards)) g.envs g.alike
        (record { count = g.brought.count; are = g.brought.are }) grounded-left backed-left
        (left-apart p g.w pieces_then region_taken guards_taken c cuts)) g.later g.placed
        g.stays g.outside g.size

    pub there-left : j.env < length state_left.envs
    there-left = subst (λ es. j.env < length es) (sym g.envs) st.there

    -- at alike values it wants these guards
    abbrev wants_taken :
        (x : Valuation) → Alike (Old head-piece.after) g.w x → (a : Valuation) →
        Means j.scope x (env_at head-piece.after j.env) a →
        WantsAtom p a k (m, asked) guards_taken
    wants_taken x l a y = record {
      element = g.taken;
      wanted = g.wanted x l a (means-bound j.scope j.env state_left g.later there-left x a y);
      of_atom = is-atom p g.piece.kind k g.piece.atom m g.of_kind g.of_atom g.taken g.is_element;
      is_mark = mark-of p g.piece.kind k g.piece.atom m g.of_kind g.of_atom g.taken;
    }

    abbrev piece-claim :
        (place : Place) →
        Claim p T j.scope g.w head-piece.after j.env (atom place n k m asked)
        (guard_stock region_taken guards_taken)
    piece-claim place x l a y r =
        let names = means-bound j.scope j.env state_left g.later there-left x a y in
        let held = both p (guard_stock region_taken guards_taken) r in (
          guards_taken,
          wants_taken x l a y,
          subst (λ z. Inside p (both p (guard_stock z guards_taken) r) held)
              (sym (g.region x l a names)) (inside-same p held),
        )

  pub piece-found :
      (i way : ℕ) (place : Place) (n k m : ℕ) (asked : Asked) (more : Items) →
      AllByRecursion (λ y. y < length s.sorts) ks →
      ItemFits p j.scope (atom place n k m asked) →
      Comes (at_piece s i way n k m asked (remaining j more)) P → PieceFound i n k m asked more
  piece-found i way place n k m asked more low fits h =
      let apart = all-more (λ y. y < length s.sorts) (λ y. length s.sorts ≢ y)
      (λ y l e. omega (arith, l, e)) ks low in
      guard-taken p ks j.scope v s i way n k m asked (remaining j more) c.guards P
      st.grounded.meets apart st.grounded.pieces_over st.grounded.pieces_fit backed.guards
      st.placed fits.0 (atom-over j.scope (slice_get p.regions k) m asked fits.1) h

  abbrev pub piece-goes :
      (i : ℕ) (place : Place) (n k m : ℕ) (asked : Asked) (more : Items) →
      PieceFound i n k m asked more →
      ItemTaken p ks T j v s c P
      (piece_brings (is_open asked (env_at s j.env)) (slice_get s.guards i))
      (atom place n k m asked) more
  piece-goes i place n k m asked more g = record {
    head = head-piece i n k m asked more g;
    claim = piece-claim i n k m asked more g place;
    goes = g.comes.1;
  }

  pub piece-taken :
      (i way : ℕ) (place : Place) (n k m : ℕ) (asked : Asked) (more : Items) →
      AllByRecursion (λ y. y < length s.sorts) ks →
      ItemFits p j.scope (atom place n k m asked) →
      Comes (at_piece s i way n k m asked (remaining j more)) P →
      ItemTaken p ks T j v s c P
      (piece_brings (is_open asked (env_at s j.env)) (slice_get s.guards i))
      (atom place n k m asked) more
  piece-taken i way place n k m asked more low fits h =
      piece-goes i place n k m asked more (piece-found i way place n k m asked more low fits h)
