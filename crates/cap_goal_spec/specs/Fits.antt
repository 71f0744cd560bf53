-- Which states and goals fit a program: each number in them names what exists, in the program or in
-- the state.
use Rattle.std.specs.Prelude.{◌≡◌, ℕ, suc, ◌+◌, ◌≤◌, false, List, [], ◌∷◌, length, slice_get, Option, Some, None, IsSomeAnd}
use Rattle.std.specs.List.{AllByRecursion, list_any}
use Rattle.cap_fm_spec.specs.cap_lin.Linear.{Linear, IsBelow}
use Rattle.cap_gsolve.specs.declared.piece.Form.{Form}
use Rattle.cap_gsolve.specs.declared.piece.Form.TheVariants.{One, Share, Src, Tok, Span}
use Rattle.cap_gsolve.specs.declared.piece.Piece.{Piece}
use Rattle.cap_gsolve.specs.Pieces.{joins}
use Rattle.cap_gsolve.specs.Meaning.{Fits}
use Rattle.cap_prog.specs.Program.{Items, PlainRegionType, loop, Block, first, PlainFunction, PlainProgram}
use Rattle.cap_prog.specs.Parts.{all_items, all_statements}
use Rattle.cap_prog.specs.Scopes.{Scope, fixed_start}
use Rattle.cap_prog.specs.WellFormed.{ItemFits, ActFits, EndsInReturn}
use Rattle.cap_goal_spec.specs.States.{PlainFact, PlainEnv, PlainState, longest_list, Home, PlainTask, to_run, to_turn, to_give, to_take, to_make, to_close, to_shift, to_rest, PlainGoal}

-- ---- states; the number is that of the variables

abbrev pub FormIsBelow : ℕ → Form → Type 0
FormIsBelow count One = Unit {0}
FormIsBelow count (Share a) = IsBelow count a
FormIsBelow count (Src n) = IsBelow count n
FormIsBelow count (Tok k) = IsBelow count k
FormIsBelow count (Span a None) = IsBelow count a
FormIsBelow count (Span a (Some e)) = IsBelow count a × IsBelow count e

abbrev pub NameIsBelow : ℕ → Option Linear → Type 0
NameIsBelow count None = Unit {0}
NameIsBelow count (Some t) = IsBelow count t

-- of a region type that exists, with as many arguments as it takes
pub record KnownFactFits (p : PlainProgram) (count : ℕ) (f : PlainFact) : Type 0 where
  pub region : IsBelow count f.region
  pub arity : IsSomeAnd (slice_get p.regions f.kind) (λ k. k.params ≡ suc (length f.args))
  pub args : AllByRecursion (IsBelow count) f.args
  pub state : IsBelow count f.state

-- of a region type that exists, with a form that fits its atom
pub record PieceFits (p : PlainProgram) (count : ℕ) (q : Piece) : Type 0 where
  pub region : IsBelow count q.region
  pub form : FormIsBelow count q.form
  pub atom : IsSomeAnd (slice_get p.regions q.kind) (λ k. Fits k.algebra q)

-- none of the pieces would have become one with an earlier one
abbrev pub AreParted : List Piece → Type 0
AreParted [] = Unit {0}
AreParted (q ∷ qs) = (list_any (joins q) qs ≡ false) × AreParted qs

pub record HasRoom (s : PlainState) : Type 0 where
  pub sorts : length s.sorts ≤ longest_list
  pub rows : length s.rows ≤ longest_list
  pub store : length s.store ≤ longest_list
  pub cells : length s.cells ≤ longest_list
  pub facts : length s.facts ≤ longest_list
  pub guards : length s.guards ≤ longest_list
  pub before : length s.before ≤ longest_list
  pub opened : length s.opened ≤ longest_list
  pub envs : length s.envs ≤ longest_list

pub record StateFits (p : PlainProgram) (s : PlainState) : Type 0 where
  pub rows : AllByRecursion (λ r. IsBelow (length s.sorts) r.term) s.rows
  pub store : AllByRecursion (IsBelow (length s.sorts)) s.store
  pub addresses : AllByRecursion (λ c. IsBelow (length s.sorts) c.0) s.cells
  pub contents : AllByRecursion (λ c. IsBelow (length s.sorts) c.1) s.cells
  pub facts : AllByRecursion (KnownFactFits p (length s.sorts)) s.facts
  pub guards : AllByRecursion (PieceFits p (length s.sorts)) s.guards
  pub guards_parted : AreParted s.guards
  pub before : AllByRecursion (PieceFits p (length s.sorts)) s.before
  pub before_parted : AreParted s.before
  pub opened : AllByRecursion (KnownFactFits p (length s.sorts)) s.opened
  pub envs : AllByRecursion (AllByRecursion (NameIsBelow (length s.sorts))) s.envs
  pub room : HasRoom s

-- ---- tasks

-- the statements are those of a function, and the last is a return; the state has the function's
-- store, and its fixed names have variables
pub record RunFits (p : PlainProgram) (s : PlainState) (home : Home) (b : Block)
    (f : PlainFunction) : Type 0 where
  pub store : length s.store ≡ fixed_start f
  pub fixed : home.fixed + length f.fixed ≤ length s.sorts
  pub statements : AllByRecursion (λ t. ActFits p f t.act) (all_statements b)
  pub closing : EndsInReturn b

abbrev pub StartsWithLoop : Block → Type 0
StartsWithLoop (first l (loop c i a) rest) = Unit {0}
StartsWithLoop _ = ⊥

-- the items are over the names of the environment, by some sorts of these
pub record ItemsFitEnv (p : PlainProgram) (env : PlainEnv) (items : Items) : Type 0 where
  pub scope : Scope
  pub names : length scope ≡ length env
  pub each : AllByRecursion (ItemFits p scope) (all_items items)

-- the environment has the region type's parameters and the names of its case
abbrev pub CaseEnvFits : PlainState → PlainRegionType → ℕ → ℕ → Type 0
CaseEnvFits s k c e =
    IsSomeAnd (slice_get k.cases c)
    (λ x. IsSomeAnd (slice_get s.envs e) (λ env. length env ≡ k.params + length x.names))

-- a move is 0 or the number of an action
pub record ShiftFits (s : PlainState) (c m e : ℕ) (k : PlainRegionType) : Type 0 where
  pub move : m ≤ length k.actions
  pub env : CaseEnvFits s k c e

abbrev pub TaskFits : PlainProgram → PlainState → PlainTask → Type 0
TaskFits p s (to_run home b) = IsSomeAnd (slice_get p.functions home.function) (RunFits p s home b)
TaskFits p s (to_turn home b) =
    IsSomeAnd (slice_get p.functions home.function) (RunFits p s home b) × StartsWithLoop b
TaskFits p s (to_give items e n) = IsSomeAnd (slice_get s.envs e) (λ env. ItemsFitEnv p env items)
TaskFits p s (to_take items e left n) =
    IsSomeAnd (slice_get s.envs e) (λ env. ItemsFitEnv p env items)
TaskFits p s (to_make k c e t n) =
    IsSomeAnd (slice_get p.regions k) (λ type. CaseEnvFits s type c e) × IsBelow (length s.sorts) t
TaskFits p s (to_close any n) = Unit {0}
TaskFits p s (to_shift o c m e n) =
    IsSomeAnd (slice_get s.opened o)
    (λ f. IsSomeAnd (slice_get p.regions f.kind) (ShiftFits s c m e))
TaskFits p s (to_rest j n) = j ≤ length s.facts

-- a Rest begins with the first fact once it is the first task
abbrev pub WaitingFits : PlainProgram → PlainState → PlainTask → Type 0
WaitingFits p s (to_rest j n) = j ≡ 0
WaitingFits p s t = TaskFits p s t

abbrev pub TasksFit : PlainProgram → PlainState → List PlainTask → Type 0
TasksFit p s [] = Unit {0}
TasksFit p s (t ∷ ts) = TaskFits p s t × AllByRecursion (WaitingFits p s) ts

pub record GoalFits (p : PlainProgram) (g : PlainGoal) : Type 0 where
  pub state : StateFits p g.state
  pub tasks : TasksFit p g.state g.tasks
