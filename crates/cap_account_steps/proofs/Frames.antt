-- The invariant of a frame: whatever others do, some node of a derivation holds of it.
use Rattle.std.specs.Prelude.{◌≡◌, ℕ, ◌<◌, ℤ, List, [], length, map, slice_get, Option, Some}
use Rattle.std.specs.List.{AllByRecursion}
use Rattle.cap_lin.specs.Values.{Valuation}
use Rattle.cap_prog.specs.Program.{PlainAssertion, PlainFunction, PlainProgram}
use Rattle.cap_prog.specs.Scopes.{ensures_scope}
use Rattle.cap_goal_spec.specs.States.{PlainEnv, PlainState, Home, PlainTask}
use Rattle.cap_goal_spec.specs.Choices.{PlainTree}
use Rattle.cap_machine.specs.Machine.{Frame, receives}
use Rattle.cap_machine_accounts.specs.Assertions.{NameValue, ValuesFit}
use Rattle.cap_account_resources.specs.Parts.{Table}
use Rattle.cap_account_resources.proofs.Interference.{Relies, relies-same, relies-trans}
use Rattle.cap_account_resources.proofs.Stocks.{Stock, both, no_stock, Inside}
use Rattle.cap_account_resources.proofs.Tables.{TableFits, NoneOpen, FitsRoom, AreListed, new_guards}
use Rattle.cap_account_resources.proofs.Owners.{Owner, owned}
use Rattle.cap_account_states.proofs.Alike.{Alike}
use Rattle.cap_account_states.proofs.Brought.{Bring, Brings}
use Rattle.cap_account_states.proofs.Checked.{Checked}
use Rattle.cap_account_states.proofs.Facts.{Facts}
use Rattle.cap_account_states.proofs.Filled.{Filled}
use Rattle.cap_account_states.proofs.Meets.{Old}
use Rattle.cap_account_states.proofs.Naming.{values_in}
use Rattle.cap_account_states.proofs.Backed.{IsFirm, Backed, Grounded}
use Rattle.cap_account_assertions.proofs.Asserted.{DrawsAll, OwnsCase, OwnsRequires, OwnsEnsures, OwnsInvariant}
use Rattle.cap_account_assertions.proofs.FilledAlike.{FilledLike}
use Rattle.cap_account_assertions.proofs.Laws.{Made, Creation}
use Rattle.cap_account_assertions.proofs.Passages.{EndsAt}
use Rattle.cap_account_steps.proofs.Points.{FrameOk}
use Rattle.cap_account_steps.proofs.Regained.{Regained, given_ensures}
use Rattle.cap_account_steps.proofs.Stores.{Store, running}

-- ---- a frame that runs

-- a node with these tasks, whose state holds of the frame and of what it has
pub record Node (p : Checked) (part : Stock) (T : Table) (fn : PlainFunction)
    (fixed : List NameValue) (f : Frame) (tasks : Home → List PlainTask)
    (tree : PlainTree) : Type 0 where
  pub state : PlainState
  pub v : Valuation
  pub home : Home
  pub valid : p.N tree state (tasks home)
  pub none_open : state.opened ≡ []
  pub grounded : Grounded p.program [] v state
  pub facts : Facts [] v T state
  pub firm : AllByRecursion IsFirm state.facts
  pub backed : Backed p.program v state part
  pub store : Store v state home fn fixed f

-- some node at the frame's statements holds of it
pub record Sits (p : Checked) (part : Stock) (T : Table) (fn : PlainFunction)
    (fixed : List NameValue) (f : Frame) : Type 0 where
  pub tree : PlainTree
  pub at_node : Node p part T fn fixed f (running f.rest) tree

-- and its state holds at these values
pub record SitsAt (p : Checked) (part : Stock) (T : Table) (fn : PlainFunction)
    (fixed : List NameValue) (f : Frame) (w : Valuation) : Type 0 where
  pub sits : Sits p part T fn fixed f
  pub named : sits.at_node.v ≡ w

-- and so it does by each table that others can lead to
pub record Stands (p : Checked) (part : Stock) (T : Table) (fixed : List NameValue)
    (f : Frame) : Type 0 where
  pub fn : PlainFunction
  pub ok : FrameOk p.program fn fixed f
  pub all : (U : Table) → Relies p.program part.guards T U → Sits p part U fn fixed f

-- where that table is U, its state holds at these values
pub record StandsAt (p : Checked) (part : Stock) (T : Table) (fixed : List NameValue)
    (f : Frame) (w : Table → Valuation) : Type 0 where
  pub stands : Stands p part T fixed f
  pub named :
      (U : Table) (r : Relies p.program part.guards T U) → (stands.all U r).at_node.v ≡ w U

-- something that it owns is owned again by each such table: at whichever values that is, it sits at a
-- node of which N says at which values it holds
pub record StandsAgain (p : Checked) (part : Stock) (T : Table) (fixed : List NameValue) (f : Frame)
    (start : Filled) (M : Table → Type 0) (values : (U : Table) → M U → Valuation)
    (N : (U : Table) → M U → PlainState → Valuation → Type 0) : Type 0 where
  pub stands : Stands p part T fixed f
  pub owned :
      (U : Table) → Relies p.program part.guards T U → Regained U start (M U) (values U)
  pub each :
      (U : Table) (r : Relies p.program part.guards T U) (x : Valuation)
      (e : EndsAt U start (owned U r).passage x) →
      (s : Sits p part U stands.fn fixed f)
      × N U ((owned U r).each x e).0 s.at_node.state s.at_node.v
  pub are :
      (U : Table) (r : Relies p.program part.guards T U) →
      stands.all U r ≡ (each U r (owned U r).u (owned U r).ends).0

-- ---- a frame that waits

-- a full table whose room has what is held
pub record Roomy (p : PlainProgram) (T : Table) (part : Stock) : Type 0 where
  pub fits : TableFits p T
  pub full : NoneOpen T
  pub room : FitsRoom p T part
  pub bound : List ℤ
  pub listed : AreListed bound T

-- with whatever the callee hands over and returns, the frame stands
pub record Waits (p : Checked) (part : Stock) (T : Table) (fixed : List NameValue) (f : Frame)
    (destination : Option ℕ) (callee : ℕ) (args : List ℤ)
    (callee_fixed : List NameValue) : Type 0 where
  pub fn : PlainFunction
  pub ok : FrameOk p.program fn fixed f
  pub all :
      (U : Table) → Relies p.program part.guards T U → (handed : Stock) (r : ℤ)
      (g : PlainFunction) → slice_get p.program.functions callee ≡ Some g →
      Roomy p.program U (both p.program part handed) →
      OwnsEnsures p.program U handed g args callee_fixed r →
      Stands p (both p.program part handed) U fixed (receives destination r f)

-- before the caller is given the promise its state has these variables, of values alike to these, and
-- after it those that the promise's items are given
pub record GivenBack (p : PlainProgram) (W : Table) (g : PlainFunction) (handed : Stock)
    (start : Filled) (a : Valuation) (r : Stock) (d : DrawsAll p W a g.ensures.items handed r)
    (s : PlainState) (v : Valuation) : Type 0 where
  pub before : Alike (λ y. y < start.next) start.values v
  pub all :
      FilledLike p W (ensures_scope g g.ensures.names) g.ensures.items handed start a r d s v

-- where the callee returned r and the table is W, the names of the callee's environment, the variables
-- and their values, before the promise is given again
pub record WaitsLike (p : Checked) (part : Stock) (T : Table) (fixed : List NameValue) (f : Frame)
    (destination : Option ℕ) (callee : ℕ) (args : List ℤ) (callee_fixed : List NameValue)
    (start : Table → ℤ → Filled) : Type 0 where
  pub fn : PlainFunction
  pub ok : FrameOk p.program fn fixed f
  pub back :
      (U : Table) → Relies p.program part.guards T U → (handed : Stock) (r : ℤ)
      (g : PlainFunction) → slice_get p.program.functions callee ≡ Some g →
      Roomy p.program U (both p.program part handed) →
      (owns : OwnsEnsures p.program U handed g args callee_fixed r) →
      StandsAgain p (both p.program part handed) U fixed (receives destination r f)
      (given_ensures p.program U handed callee g args callee_fixed r owns)
      (λ W. OwnsEnsures p.program W handed g args callee_fixed r) (λ W m. m.values)
      (λ W m s v. GivenBack p.program W g handed (start W r) m.values m.met.0 m.met.1 s v)

abbrev pub waits_so :
    (p : Checked) (part : Stock) (T : Table) (fixed : List NameValue) (f : Frame)
    (destination : Option ℕ) (callee : ℕ) (args : List ℤ) (callee_fixed : List NameValue)
    (start : Table → ℤ → Filled) →
    WaitsLike p part T fixed f destination callee args callee_fixed start →
    Waits p part T fixed f destination callee args callee_fixed
waits_so p part T fixed f destination callee args callee_fixed start w = record {
  fn = w.fn;
  ok = w.ok;
  all = λ U relies handed r g is_g roomy owns.
      (w.back U relies handed r g is_g roomy owns).stands;
}

module _ (p : Checked) where
  pub stands-on :
      (part : Stock) (T U : Table) (fixed : List NameValue) (f : Frame) →
      Relies p.program part.guards T U → Stands p part T fixed f → Stands p part U fixed f
  stands-on part T U fixed f r s = record {
    fn = s.fn;
    ok = s.ok;
    all = λ W later. s.all W (relies-trans p.program part.guards T U W r later);
  }

  pub sits-now :
      (part : Stock) (T : Table) (fixed : List NameValue) (f : Frame) →
      (s : Stands p part T fixed f) → Sits p part T s.fn fixed f
  sits-now part T fixed f s = s.all T (relies-same p.program part.guards T)

  pub waits-on :
      (part : Stock) (T U : Table) (fixed : List NameValue) (f : Frame) (destination : Option ℕ)
      (callee : ℕ) (args : List ℤ) (callee_fixed : List NameValue) →
      Relies p.program part.guards T U →
      Waits p part T fixed f destination callee args callee_fixed →
      Waits p part U fixed f destination callee args callee_fixed
  waits-on part T U fixed f destination callee args callee_fixed r w = record {
    fn = w.fn;
    ok = w.ok;
    all = λ W later. w.all W (relies-trans p.program part.guards T U W r later);
  }

-- ---- what is handed over

-- of a part some is kept and some is given, and regions may be created out of the rest
pub record HandsOver (p : PlainProgram) (T : Table) (part kept given : Stock) : Type 0 where
  pub U : Table
  pub new : List Owner
  pub made : Made p T U new
  pub budget :
      Inside p (both p (both p kept given) (owned p new)) (both p part (new_guards p T U))

-- a callee gets its `requires`, and of what is kept this holds, with the values of the callee's
-- fixed names
pub record Hands (p : Checked) (part : Stock) (T : Table) (g : PlainFunction) (args : List ℤ)
    (K : Stock → Table → List NameValue → Type 0) : Type 0 where
  pub kept : Stock
  pub given : Stock
  pub over : HandsOver p.program T part kept given
  pub fixed : List NameValue
  pub fit : ValuesFit g.fixed fixed
  pub meets : OwnsRequires p.program over.U given g args fixed
  pub goes_on : K kept over.U fixed

-- a call leaves a caller that waits, a fork one that goes on
abbrev pub Calls :
    Checked → Stock → Table → List NameValue → Frame → Option ℕ → ℕ → PlainFunction → List ℤ →
    Type 0
Calls p part T fixed f destination n g args =
    Hands p part T g args
    (λ kept U callee_fixed. Waits p kept U fixed f destination n args callee_fixed)

abbrev pub Forks :
    Checked → Stock → Table → List NameValue → Frame → PlainFunction → List ℤ → Type 0
Forks p part T fixed f g args =
    Hands p part T g args (λ kept U callee_fixed. Stands p kept U fixed f)

-- all of a part is given up for what this says
pub record GivesUp (p : PlainProgram) (part : Stock) (T : Table)
    (M : Table → Stock → Type 0) : Type 0 where
  pub given : Stock
  pub over : HandsOver p T part no_stock given
  pub meets : M over.U given

abbrev pub Returns :
    PlainProgram → Stock → Table → PlainFunction → List NameValue → Frame → ℤ → Type 0
Returns p part T fn fixed f r =
    GivesUp p part T (λ U given. OwnsEnsures p U given fn f.arguments fixed r)

abbrev pub ComesRound :
    PlainProgram → Stock → Table → PlainFunction → List NameValue → Frame → PlainAssertion → Type 0
ComesRound p part T fn fixed f i =
    GivesUp p part T (λ U given. OwnsInvariant p U given fn f.store fixed i)

-- all of a part is given up, at whichever values of which the same is brought, and names have what
-- they stand for; so have those of the cases that created regions have
pub record GivesUpAt (p : PlainProgram) (part : Stock) (T : Table) (M : Table → Stock → Type 0)
    (values : (U : Table) (q : Stock) → M U q → Valuation) (v : Valuation)
    (s : PlainState) : Type 0 where
  pub given : Stock
  pub over : HandsOver p T part no_stock given
  pub brings : List Bring
  pub env : PlainEnv
  pub took : Valuation
  pub alike : Alike (Old s) v took
  pub brought : Brings took (length s.sorts) brings
  pub each :
      (x : Valuation) → Alike (Old s) v x → Brings x (length s.sorts) brings →
      (m : M over.U given) × (values over.U given m ≡ values_in x env)
  pub created : List Creation
  pub are_created : over.new ≡ map (λ c. c.owner) created
  pub keeps :
      (x : Valuation) → Alike (Old s) v x → Brings x (length s.sorts) brings →
      AllByRecursion (λ c. OwnsCase p over.U c.owner c.number (values_in x c.env)) created

abbrev pub gives_up :
    (p : PlainProgram) (part : Stock) (T : Table) (M : Table → Stock → Type 0)
    (values : (U : Table) (q : Stock) → M U q → Valuation) (v : Valuation) (s : PlainState) →
    GivesUpAt p part T M values v s → GivesUp p part T M
gives_up p part T M values v s g = record {
  given = g.given;
  over = g.over;
  meets = (g.each g.took g.alike g.brought).0;
}
