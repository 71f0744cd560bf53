-- States that fit, and what stays of one while it grows.
use Rattle.std.proofs.Common.{◌≡◌, ◌≤◌, ℕ, zero, suc, List, [], ◌∷◌, ◌++◌, length, Some, refl, ◌∙◌, arith, None}
use Rattle.std.specs.Prelude.{slice_get, slice_set, IsSomeAnd}
use Rattle.std.specs.List.{AllByRecursion}
use Rattle.cap_lin.specs.Linear.{Linear, IsBelow}
use Rattle.cap_lin.specs.declared.row.Row.{Row}
use Rattle.cap_lin.specs.declared.row.Sort.{Sort}
use Rattle.cap_gsolve.specs.declared.piece.Form.{Form}
use Rattle.cap_gsolve.specs.declared.piece.Form.TheVariants.{One, Share, Src, Tok, Span}
use Rattle.cap_gsolve.specs.declared.piece.Piece.{Piece}
use Rattle.cap_fm_spec.proofs.Lists.{each-map}
use Rattle.cap_prog.specs.Program.{PlainProgram}
use Rattle.cap_goal_spec.specs.States.{PlainFact, PlainEnv, PlainState, longest_list}
use Rattle.cap_goal_spec.specs.Fits.{FormIsBelow, KnownFactFits, PieceFits, AreParted, StateFits}
use Rattle.cap_rules_fits.proofs.Values.{wider-below, EnvBelow, wider-env}

-- ---- one list is another

abbrev pub RowsBelow : ℕ → List Row → Type 0
RowsBelow n rows = AllByRecursion (λ r. IsBelow n r.term) rows

pub with-rows-fit : (p : PlainProgram) (s : PlainState) (rows : List Row) → StateFits p s → RowsBelow (length s.sorts) rows → length rows ≤ longest_list → StateFits p (record s { rows = rows })
with-rows-fit p s rows h k l = record {
  rows = k;
  store = h.store;
  addresses = h.addresses;
  contents = h.contents;
  facts = h.facts;
  guards = h.guards;
  guards_parted = h.guards_parted;
  before = h.before;
  before_parted = h.before_parted;
  opened = h.opened;
  envs = h.envs;
  room = record { sorts = h.room.sorts; rows = l; store = h.room.store; cells = h.room.cells; facts = h.room.facts; guards = h.room.guards; before = h.room.before; opened = h.room.opened; envs = h.room.envs };
}

pub with-store-fits : (p : PlainProgram) (s : PlainState) (store : List Linear) → StateFits p s → AllByRecursion (IsBelow (length s.sorts)) store → length store ≤ longest_list → StateFits p (record s { store = store })
with-store-fits p s store h k l = record {
  rows = h.rows;
  store = k;
  addresses = h.addresses;
  contents = h.contents;
  facts = h.facts;
  guards = h.guards;
  guards_parted = h.guards_parted;
  before = h.before;
  before_parted = h.before_parted;
  opened = h.opened;
  envs = h.envs;
  room = record { sorts = h.room.sorts; rows = h.room.rows; store = l; cells = h.room.cells; facts = h.room.facts; guards = h.room.guards; before = h.room.before; opened = h.room.opened; envs = h.room.envs };
}

-- addresses and contents together
pub record CellBelow (n : ℕ) (c : Linear × Linear) : Type 0 where
  pub address : IsBelow n c.0
  pub content : IsBelow n c.1

pub cells-below : (p : PlainProgram) (s : PlainState) → StateFits p s → AllByRecursion (CellBelow (length s.sorts)) s.cells
cells-below p s h = both s.cells h.addresses h.contents
  where
    both : (cs : List (Linear × Linear)) → AllByRecursion (λ c. IsBelow (length s.sorts) c.0) cs → AllByRecursion (λ c. IsBelow (length s.sorts) c.1) cs → AllByRecursion (CellBelow (length s.sorts)) cs
    both [] a b = tt
    both (c ∷ cs) a b = (record { address = a.0; content = b.0 }, both cs a.1 b.1)

pub with-cells-fit : (p : PlainProgram) (s : PlainState) (cells : List (Linear × Linear)) → StateFits p s → AllByRecursion (CellBelow (length s.sorts)) cells → length cells ≤ longest_list → StateFits p (record s { cells = cells })
with-cells-fit p s cells h k l = record {
  rows = h.rows;
  store = h.store;
  addresses = each-map _ _ cells k (λ c i. i.address);
  contents = each-map _ _ cells k (λ c i. i.content);
  facts = h.facts;
  guards = h.guards;
  guards_parted = h.guards_parted;
  before = h.before;
  before_parted = h.before_parted;
  opened = h.opened;
  envs = h.envs;
  room = record { sorts = h.room.sorts; rows = h.room.rows; store = h.room.store; cells = l; facts = h.room.facts; guards = h.room.guards; before = h.room.before; opened = h.room.opened; envs = h.room.envs };
}

pub with-facts-fit : (p : PlainProgram) (s : PlainState) (facts : List PlainFact) → StateFits p s → AllByRecursion (KnownFactFits p (length s.sorts)) facts → length facts ≤ longest_list → StateFits p (record s { facts = facts })
with-facts-fit p s facts h k l = record {
  rows = h.rows;
  store = h.store;
  addresses = h.addresses;
  contents = h.contents;
  facts = k;
  guards = h.guards;
  guards_parted = h.guards_parted;
  before = h.before;
  before_parted = h.before_parted;
  opened = h.opened;
  envs = h.envs;
  room = record { sorts = h.room.sorts; rows = h.room.rows; store = h.room.store; cells = h.room.cells; facts = l; guards = h.room.guards; before = h.room.before; opened = h.room.opened; envs = h.room.envs };
}

pub record GuardsFit (p : PlainProgram) (n : ℕ) (guards : List Piece) : Type 0 where
  pub each : AllByRecursion (PieceFits p n) guards
  pub parted : AreParted guards
  pub room : length guards ≤ longest_list

pub guards-fit : (p : PlainProgram) (s : PlainState) → StateFits p s → GuardsFit p (length s.sorts) s.guards
guards-fit p s h = record { each = h.guards; parted = h.guards_parted; room = h.room.guards }

pub with-guards-fit : (p : PlainProgram) (s : PlainState) (guards : List Piece) → StateFits p s → GuardsFit p (length s.sorts) guards → StateFits p (record s { guards = guards })
with-guards-fit p s guards h k = record {
  rows = h.rows;
  store = h.store;
  addresses = h.addresses;
  contents = h.contents;
  facts = h.facts;
  guards = k.each;
  guards_parted = k.parted;
  before = h.before;
  before_parted = h.before_parted;
  opened = h.opened;
  envs = h.envs;
  room = record { sorts = h.room.sorts; rows = h.room.rows; store = h.room.store; cells = h.room.cells; facts = h.room.facts; guards = k.room; before = h.room.before; opened = h.room.opened; envs = h.room.envs };
}

pub with-before-fits : (p : PlainProgram) (s : PlainState) (guards : List Piece) → StateFits p s → GuardsFit p (length s.sorts) guards → StateFits p (record s { before = guards })
with-before-fits p s guards h k = record {
  rows = h.rows;
  store = h.store;
  addresses = h.addresses;
  contents = h.contents;
  facts = h.facts;
  guards = h.guards;
  guards_parted = h.guards_parted;
  before = k.each;
  before_parted = k.parted;
  opened = h.opened;
  envs = h.envs;
  room = record { sorts = h.room.sorts; rows = h.room.rows; store = h.room.store; cells = h.room.cells; facts = h.room.facts; guards = h.room.guards; before = k.room; opened = h.room.opened; envs = h.room.envs };
}

pub with-opened-fit : (p : PlainProgram) (s : PlainState) (opened : List PlainFact) → StateFits p s → AllByRecursion (KnownFactFits p (length s.sorts)) opened → length opened ≤ longest_list → StateFits p (record s { opened = opened })
with-opened-fit p s opened h k l = record {
  rows = h.rows;
  store = h.store;
  addresses = h.addresses;
  contents = h.contents;
  facts = h.facts;
  guards = h.guards;
  guards_parted = h.guards_parted;
  before = h.before;
  before_parted = h.before_parted;
  opened = k;
  envs = h.envs;
  room = record { sorts = h.room.sorts; rows = h.room.rows; store = h.room.store; cells = h.room.cells; facts = h.room.facts; guards = h.room.guards; before = h.room.before; opened = l; envs = h.room.envs };
}

pub with-envs-fit : (p : PlainProgram) (s : PlainState) (envs : List PlainEnv) → StateFits p s → AllByRecursion (EnvBelow (length s.sorts)) envs → length envs ≤ longest_list → StateFits p (record s { envs = envs })
with-envs-fit p s envs h k l = record {
  rows = h.rows;
  store = h.store;
  addresses = h.addresses;
  contents = h.contents;
  facts = h.facts;
  guards = h.guards;
  guards_parted = h.guards_parted;
  before = h.before;
  before_parted = h.before_parted;
  opened = h.opened;
  envs = k;
  room = record { sorts = h.room.sorts; rows = h.room.rows; store = h.room.store; cells = h.room.cells; facts = h.room.facts; guards = h.room.guards; before = h.room.before; opened = h.room.opened; envs = l };
}

-- ---- more variables

pub wider-form : (n m : ℕ) (f : Form) → n ≤ m → FormIsBelow n f → FormIsBelow m f
wider-form n m One l h = tt
wider-form n m (Share a) l h = wider-below n m a l h
wider-form n m (Src a) l h = wider-below n m a l h
wider-form n m (Tok a) l h = wider-below n m a l h
wider-form n m (Span a None) l h = wider-below n m a l h
wider-form n m (Span a (Some e)) l h = (wider-below n m a l h.0, wider-below n m e l h.1)

pub wider-fact : (p : PlainProgram) (n m : ℕ) (f : PlainFact) → n ≤ m → KnownFactFits p n f → KnownFactFits p m f
wider-fact p n m f l h = record { region = wider-below n m f.region l h.region; arity = h.arity; args = each-map _ _ f.args h.args (λ t k. wider-below n m t l k); state = wider-below n m f.state l h.state }

pub wider-piece : (p : PlainProgram) (n m : ℕ) (q : Piece) → n ≤ m → PieceFits p n q → PieceFits p m q
wider-piece p n m q l h = record { region = wider-below n m q.region l h.region; form = wider-form n m q.form l h.form; atom = h.atom }

pub with-sorts-fit : (p : PlainProgram) (s : PlainState) (sorts : List Sort) → StateFits p s → length s.sorts ≤ length sorts → length sorts ≤ longest_list → StateFits p (record s { sorts = sorts })
with-sorts-fit p s sorts h m l =
    let n : ℕ = length s.sorts in
    let k : ℕ = length sorts in
    record {
      rows = each-map _ _ s.rows h.rows (λ r i. wider-below n k r.term m i);
      store = each-map _ _ s.store h.store (λ t i. wider-below n k t m i);
      addresses = each-map _ _ s.cells h.addresses (λ c i. wider-below n k c.0 m i);
      contents = each-map _ _ s.cells h.contents (λ c i. wider-below n k c.1 m i);
      facts = each-map _ _ s.facts h.facts (λ f i. wider-fact p n k f m i);
      guards = each-map _ _ s.guards h.guards (λ q i. wider-piece p n k q m i);
      guards_parted = h.guards_parted;
      before = each-map _ _ s.before h.before (λ q i. wider-piece p n k q m i);
      before_parted = h.before_parted;
      opened = each-map _ _ s.opened h.opened (λ f i. wider-fact p n k f m i);
      envs = each-map _ _ s.envs h.envs (λ e i. wider-env n k e m i);
      room = record { sorts = l; rows = h.room.rows; store = h.room.store; cells = h.room.cells; facts = h.room.facts; guards = h.room.guards; before = h.room.before; opened = h.room.opened; envs = h.room.envs };
    }

-- ---- what stays

-- the environments are there, of as many names
abbrev pub EnvsStay : List PlainEnv → List PlainEnv → Type 0
EnvsStay [] new = Unit {0}
EnvsStay (x ∷ xs) [] = ⊥
EnvsStay (x ∷ xs) (y ∷ ys) = (length y ≡ length x) × EnvsStay xs ys

pub envs-same : (xs : List PlainEnv) → EnvsStay xs xs
envs-same [] = tt
envs-same (x ∷ xs) = (refl, envs-same xs)

pub envs-then : (xs ys zs : List PlainEnv) → EnvsStay xs ys → EnvsStay ys zs → EnvsStay xs zs
envs-then [] ys zs h k = tt
envs-then (x ∷ xs) [] zs h k = absurd h
envs-then (x ∷ xs) (y ∷ ys) [] h k = absurd k
envs-then (x ∷ xs) (y ∷ ys) (z ∷ zs) h k = (k.0 ∙ h.0, envs-then xs ys zs h.1 k.1)

pub envs-more : (xs ys : List PlainEnv) → EnvsStay xs (xs ++ ys)
envs-more [] ys = tt
envs-more (x ∷ xs) ys = (refl, envs-more xs ys)

pub envs-set : (xs : List PlainEnv) (e : ℕ) (env : PlainEnv) → ((old : PlainEnv) → slice_get xs e ≡ Some old → length env ≡ length old) → EnvsStay xs (slice_set xs e env)
envs-set [] e env h = tt
envs-set (x ∷ xs) zero env h = (h x refl, envs-same xs)
envs-set (x ∷ xs) (suc e) env h = (refl, envs-set xs e env h)

-- what depends on an environment's length alone
pub env-stays : (P : PlainEnv → Type 0) → ((x y : PlainEnv) → length y ≡ length x → P x → P y) → (xs ys : List PlainEnv) (e : ℕ) → EnvsStay xs ys → IsSomeAnd (slice_get xs e) P → IsSomeAnd (slice_get ys e) P
env-stays P f [] ys e h k = absurd k
env-stays P f (x ∷ xs) [] e h k = absurd h
env-stays P f (x ∷ xs) (y ∷ ys) zero h k = f x y h.0 k
env-stays P f (x ∷ xs) (y ∷ ys) (suc e) h k = env-stays P f xs ys e h.1 k

-- the second state has the first's variables, as long a store, and the environments
pub record Grows (s t : PlainState) : Type 0 where
  pub sorts : length s.sorts ≤ length t.sorts
  pub store : length t.store ≡ length s.store
  pub envs : EnvsStay s.envs t.envs

pub grows-then : (s t u : PlainState) → Grows s t → Grows t u → Grows s u
grows-then s t u h k = record { sorts = let a = h.sorts in let b = k.sorts in omega arith; store = k.store ∙ h.store; envs = envs-then s.envs t.envs u.envs h.envs k.envs }

-- and what it knows fits; the same regions are open
pub record Next (p : PlainProgram) (s t : PlainState) : Type 0 where
  pub fits : StateFits p t
  pub grows : Grows s t
  pub opened : t.opened ≡ s.opened

pub here : (p : PlainProgram) (s : PlainState) → StateFits p s → Next p s s
here p s h = record { fits = h; grows = record { sorts = omega arith; store = refl; envs = envs-same s.envs }; opened = refl }

pub further : (p : PlainProgram) (s t u : PlainState) → Next p s t → Next p t u → Next p s u
further p s t u h k = record { fits = k.fits; grows = grows-then s t u h.grows k.grows; opened = k.opened ∙ h.opened }
