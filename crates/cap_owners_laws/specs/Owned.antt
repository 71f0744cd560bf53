-- What is promised of a run with its accounts, by a valid derivation from a start of main: each
-- account that is printed is valid where it stands and follows the one before, contracts are kept,
-- and each frame is at a node of the derivation whose state holds of it by the values that the run
-- brought. The derivation always tells of the next step.
use Rattle.std.specs.Prelude.{◌≡◌, ◌⊎◌, ℕ, suc, ◌+◌, ◌<◌, ℤ, pos, ◌+ℤ◌, true, false, List, [], ◌∷◌, ◌++◌, map, length, slice_get, Option, Some, None}
use Rattle.std.specs.List.{AllByRecursion, range_with_len}
use Rattle.cap_rules.specs.cap_goal_spec.cap_lin.Linear.{Linear}
use Rattle.cap_rules.specs.cap_goal_spec.cap_prog.declared.assertion.Slot.{Slot}
use Rattle.cap_rules.specs.cap_goal_spec.cap_prog.declared.assertion.Slot.TheVariants.{Any, Is}
use Rattle.cap_rules.specs.cap_goal_spec.cap_prog.Program.{compare, cell, Items, none, item, PlainFunction, PlainProgram}
use Rattle.cap_rules.specs.cap_goal_spec.cap_prog.Scopes.{fixed_start}
use Rattle.cap_rules.specs.cap_goal_spec.cap_prog.WellFormed.{IsWellFormed}
use Rattle.cap_rules.specs.cap_goal_spec.States.{Home, PlainTask, to_run, to_give}
use Rattle.cap_rules.specs.cap_goal_spec.Choices.{PlainChoice, PlainTree, node}
use Rattle.cap_rules.specs.cap_goal_spec.Terms.{lone_variable}
use Rattle.cap_rules.specs.cap_goal_spec.Environments.{is_bound_by}
use Rattle.cap_rules.specs.Valid.{Valid}
use Rattle.cap_rules_nodes.specs.Nodes.{program_nodes}
use Rattle.cap_machine.specs.declared.event.Entry.{Entry}
use Rattle.cap_machine.specs.declared.event.Event.{Event}
use Rattle.cap_machine.specs.Machine.{Heap, Frame, Thread, Configuration, Outcome, next, fault, disabled, step, start, IsPositive}
use Rattle.cap_machine.specs.Ready.{ahead}
use Rattle.cap_machine_accounts.specs.Parts.{Part, Region}
use Rattle.cap_machine_accounts.specs.Assertions.{NameValue}
use Rattle.cap_machine_accounts.specs.Accounts.{Held, table, IsValidAccount}
use Rattle.cap_machine_accounts.specs.Following.{Follows}
use Rattle.cap_machine_accounts.specs.Safety.{KeepsContracts, IfStepped, first_account, Start}
use Rattle.cap_replay.specs.declared.playing.End.TheVariants.{Ended, NotEnabled, Wide}
use Rattle.cap_replay.specs.RunText.{step_line, RunText, ends, in_front}
use Rattle.cap_outline_laws.specs.Holding.{HoldsAt}
use Rattle.cap_outline_laws.specs.Laws.{OneIs}
use Rattle.cap_owners_spec.specs.Traced.{Traced, traced, past_width, untold, valuation}
use Rattle.cap_owners_spec.specs.Track.{Place, TrackedRegion, TrackedFrame, Track, account_of}
use Rattle.cap_owners_spec.specs.Walks.{Halt, stands, leaves}
use Rattle.cap_owners_spec.specs.Steps.{Proved, frame_walk, follow}
use Rattle.cap_owners_spec.specs.Start.{first_track}
use Rattle.cap_owners_spec.specs.Texts.{account_text}
use Rattle.cap_owners_spec.specs.Owners.{shown, owned_from, start_line, begun}

-- ---- what comes

-- it comes to something of which this holds, or a number leaves its bounds on the way; it is told of
abbrev pub IsTold : {A : Type 0} → (A → Type 0) → Traced A → Type 0
IsTold P (traced x) = P x
IsTold P past_width = Unit {0}
IsTold P untold = ⊥

-- ---- where frames are

abbrev pub choice_at : PlainTree → PlainChoice
choice_at (node c ts) = c

-- a node of the derivation
abbrev pub IsNodeOf : Proved → Place → Type 0
IsNodeOf d q =
    OneIs (λ n. n ≡ record { goal = q.goal; choice = choice_at q.tree })
    (program_nodes d.program d.trees)

-- the frame's statements are to be run from the next one on
abbrev pub IsRunning : Frame → Home → List PlainTask → Type 0
IsRunning f h ts = ts ≡ to_run h f.rest ∷ []

-- before that it is to be given what its callee ensures, if that is anything
abbrev pub IsWaiting : Frame → Home → List PlainTask → Type 0
IsWaiting f h ts =
    IsRunning f h ts
    ⊎ ((items : Items) × (e : ℕ) × (n : ℕ) × (ts ≡ to_give items e n ∷ to_run h f.rest ∷ []))

-- A frame is at a place: a node at its statements, where no region is open, and by these values the
-- state there holds of the frame and of what it has. Of a frame that waits the result's variable has
-- the value that its destination has still.
pub record IsAt (Due : Frame → Home → List PlainTask → Type 0) (d : Proved) (regions : List Region)
    (f : Frame) (held : Held) (q : Place) (vs : List NameValue) : Type 0 where
  pub home : Home
  pub of_function : home.function ≡ f.function
  pub is_node : IsNodeOf d q
  pub due : Due f home q.goal.tasks
  pub all_closed : q.goal.state.opened ≡ []
  pub valued : length vs ≡ length q.goal.state.sorts
  pub holds :
      HoldsAt d.program regions (record { home = home; state = q.goal.state }) f held (valuation vs)

abbrev pub StopsWhere : (Place → List NameValue → Type 0) → Halt → Type 0
StopsWhere P (stands q w) = P q w.values
StopsWhere P (leaves w) = ⊥

-- the frame is where its walk stops, which catches up with these regions
abbrev pub IsFound :
    (Frame → Home → List PlainTask → Type 0) → Proved → List TrackedRegion → List Region → Frame →
    TrackedFrame → Type 0
IsFound Due d rs regions f t =
    IsTold (StopsWhere (IsAt Due d regions f t.held)) (frame_walk d false rs t t.since)

-- each frame, one for one: the top one is to run its next statement, those below wait
abbrev pub AreWaiting :
    Proved → List TrackedRegion → List Region → List Frame → List TrackedFrame → Type 0
AreWaiting d rs regions [] [] = Unit {0}
AreWaiting d rs regions (f ∷ fs) (t ∷ ts) =
    IsFound IsWaiting d rs regions f t × AreWaiting d rs regions fs ts
AreWaiting d rs regions fs ts = ⊥

abbrev pub IsThreadFound :
    Proved → List TrackedRegion → List Region → Thread → List TrackedFrame → Type 0
IsThreadFound d rs regions [] [] = Unit {0}
IsThreadFound d rs regions (f ∷ fs) (t ∷ ts) =
    IsFound IsRunning d rs regions f t × AreWaiting d rs regions fs ts
IsThreadFound d rs regions fs ts = ⊥

abbrev pub AreThreadsFound :
    Proved → List TrackedRegion → List Region → List Thread → List (List TrackedFrame) → Type 0
AreThreadsFound d rs regions [] [] = Unit {0}
AreThreadsFound d rs regions (t ∷ ts) (k ∷ ks) =
    IsThreadFound d rs regions t k × AreThreadsFound d rs regions ts ks
AreThreadsFound d rs regions ts ks = ⊥

-- the regions have the numbers from this one on
abbrev pub AreNumbered : ℤ → List Region → Type 0
AreNumbered n [] = Unit {0}
AreNumbered n (r ∷ rs) = (r.number ≡ n) × AreNumbered (n +ℤ pos 1) rs

-- a track at a configuration: its account is valid, its frames are where it says, and its regions
-- are numbered from 1 on
pub record IsTrackOf (d : Proved) (c : Configuration) (k : Track) : Type 0 where
  pub valid : IsValidAccount d.program c (account_of k)
  pub found : AreThreadsFound d k.regions (table (account_of k)) c.threads k.threads
  pub numbered : AreNumbered (pos 1) (table (account_of k))

-- ---- along a run

-- the account of the second track follows that of the first by this step, and where the step is a
-- call, a fork or a return the contract is met
abbrev pub GoesOver : Proved → ℕ → Event → Configuration → Configuration → Track → Track → Type 0
GoesOver d thread event c after k later =
    (handed : Part)
    × Follows d.program c.heap thread event (account_of k) (account_of later) handed
    × KeepsContracts d.program thread event c after (account_of k) (account_of later) handed

-- So it is from here on, along these entries: no step is a fault, and each comes to such a track,
-- unless a number on the way leaves its bounds.
abbrev pub IsOwnedFrom : Proved → List Entry → Configuration → Track → Type 0
IsOwnedFrom d [] c k = IsTrackOf d c k
IsOwnedFrom d (e ∷ es) c k =
    IsTrackOf d c k
    × IfStepped (λ after event.
    IsTold (λ later. GoesOver d e.thread event c after k later × IsOwnedFrom d es after later)
    (follow d k e.thread event c after)) (step d.program c e)

-- ---- programs of a text

-- what the function requires binds each of its fixed names, outside the sides of conditionals
abbrev pub BindsFixed : PlainFunction → Type 0
BindsFixed f =
    (i : ℕ) → i < length f.fixed → is_bound_by (fixed_start f + i) f.requires ≡ true

-- all names of the term are among these
abbrev pub AreKnown : List ℕ → Linear → Type 0
AreKnown known t = AllByRecursion (λ q. OneIs (λ x. x ≡ q.0) known) t.parts

abbrev pub names_of : Slot → List ℕ
names_of Any = []
names_of (Is t) = map (λ q. q.0) t.parts

-- a slot says `_`, what is known, or a name alone
abbrev pub IsPlainSlot : List ℕ → Slot → Type 0
IsPlainSlot known Any = Unit {0}
IsPlainSlot known (Is t) = AreKnown known t ⊎ ((x : ℕ) × (lone_variable t ≡ Some x))

-- comparisons and cells alone, of names that are known or are so by an earlier cell
abbrev pub AsksForCells : List ℕ → Items → Type 0
AsksForCells known none = Unit {0}
AsksForCells known (item (compare c) more) =
    AreKnown known c.left × AreKnown known c.right × AsksForCells known more
AsksForCells known (item (cell place a s) more) =
    AreKnown known a × IsPlainSlot known s × AsksForCells (names_of s ++ known) more
AsksForCells known (item i more) = ⊥

-- so it is with the program of a text: names that are new in `requires` first stand so that they get
-- a value, and main asks for no more than cells
pub record IsTextual (p : PlainProgram) : Type 0 where
  pub fixed : AllByRecursion BindsFixed p.functions
  pub main : (f : PlainFunction) → slice_get p.functions p.main ≡ Some f →
      AsksForCells (range_with_len 0 f.params) f.requires

-- ---- the theorem

abbrev pub proved : PlainProgram → List (Option PlainTree) → Proved
proved p trees = record { program = p; trees = trees }

-- every run from every start that is met, along every schedule, whatever the threads do
abbrev pub RunsAreOwned : Type 0
RunsAreOwned =
    (p : PlainProgram) (trees : List (Option PlainTree)) → IsWellFormed p → IsTextual p →
    Valid p trees →
    (main : PlainFunction) (args : List ℤ) (heap : Heap) (k : Track) (es : List Entry) →
    slice_get p.functions p.main ≡ Some main → length args ≡ main.params → IsPositive heap →
    first_track (proved p trees) args heap ≡ traced (Some k) →
    IsOwnedFrom (proved p trees) es (start p args heap) k

-- of each start it is told whether it is met, unless a number leaves its bounds
abbrev pub StartsAreTold : Type 0
StartsAreTold =
    (p : PlainProgram) (trees : List (Option PlainTree)) → IsWellFormed p → IsTextual p →
    Valid p trees →
    (main : PlainFunction) (args : List ℤ) (heap : Heap) →
    slice_get p.functions p.main ≡ Some main → length args ≡ main.params →
    IsTold (λ o. Unit {0}) (first_track (proved p trees) args heap)

-- ---- the text

-- behind the line of a step comes the account after it, which is as said, and then what is shown from
-- there; or the step is too wide
abbrev pub ShowsStep :
    Proved → ℕ → ℕ → (Event → List ℕ) → Configuration → Track → RunText →
    (Configuration → Track → RunText → Type 0) → Configuration → Event → Type 0
ShowsStep d number thread line c k r More after event =
    (r ≡ ends (Wide number))
    ⊎ ((later : Track) × (more : RunText)
    × GoesOver d thread event c after k later
    × IsTrackOf d after later
    × More after later more
    × (r ≡ in_front (line event)
    (in_front (account_text d.program after (account_of later)) more)))

-- the outcome of a step is shown: it is no fault
abbrev pub ShowsOutcome : ℕ → RunText → (Configuration → Event → Type 0) → Outcome → Type 0
ShowsOutcome number r P (next after event) = P after event
ShowsOutcome number r P (fault event) = ⊥
ShowsOutcome number r P disabled = r ≡ ends (NotEnabled number)

-- the text shows the machine's run along these entries, from a track whose account was shown
abbrev pub ShowsOwned : Proved → ℕ → Configuration → Track → List Entry → RunText → Type 0
ShowsOwned d n c k [] r = r ≡ ends (Ended n)
ShowsOwned d n c k (e ∷ es) r =
    ShowsOutcome (suc n) r
    (ShowsStep d (suc n) e.thread (step_line (suc n) e.thread (ahead c e.thread)) c k r
    (λ after later more. ShowsOwned d (suc n) after later es more))
    (step d.program c e)

-- where a text with accounts is none, the arguments and the heap are no start; else it begins with
-- the account of a start, and shows the run from there along these entries
abbrev pub IsOwnedText :
    PlainProgram → List (Option PlainTree) → List ℤ → Heap → List Entry → Option RunText → Type 0
IsOwnedText p trees args heap es None =
    (main : PlainFunction) (fixed : List NameValue) → ¬ Start p main args heap fixed
IsOwnedText p trees args heap es (Some r) =
    (r ≡ ends (Wide 0))
    ⊎ ((main : PlainFunction) × (fixed : List NameValue) × (k : Track) × (more : RunText)
    × Start p main args heap fixed
    × (account_of k ≡ first_account heap fixed)
    × IsTrackOf (proved p trees) (start p args heap) k
    × ShowsOwned (proved p trees) 0 (start p args heap) k es more
    × (r
    ≡ in_front start_line
    (in_front (account_text p (start p args heap) (account_of k)) more)))

-- the text of the run with its accounts
abbrev pub owned_text : Proved → List ℤ → Heap → List Entry → Option RunText
owned_text d args heap es =
    begun (shown d (start d.program args heap) (owned_from d 0 (start d.program args heap) es))
    (first_track d args heap)

-- by a valid derivation, for as many arguments as main has and positive addresses
abbrev pub TextsAreOwned : Type 0
TextsAreOwned =
    (p : PlainProgram) (trees : List (Option PlainTree)) (args : List ℤ) (heap : Heap)
    (es : List Entry) → IsWellFormed p → IsTextual p → Valid p trees → (main : PlainFunction) →
    slice_get p.functions p.main ≡ Some main → length args ≡ main.params → IsPositive heap →
    IsOwnedText p trees args heap es (owned_text (proved p trees) args heap es)

-- the text's promise follows from that of runs
abbrev pub OwnedRunsAreShown : Type 0
OwnedRunsAreShown = RunsAreOwned → StartsAreTold → TextsAreOwned
