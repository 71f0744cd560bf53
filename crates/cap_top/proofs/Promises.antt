-- What a run promises, by what was found and put.
use Rattle.std.proofs.Common.{◌≡◌, ◌≢◌, ℕ, ◌≤◌, ◌⊎◌, ◌↔◌, inl, inr, Bool, true, false, List, [], ◌∷◌, length, Option, Some, None, IfSome, Result, Ok, Err, refl, sym, ap, ◌∙◌, subst, arith}
use Rattle.cap_io.specs.Files.{Files, content, SeenShelf}
use Rattle.cap_io.specs.Outside.{SeenSink, longest, Rose, Gains}
use Rattle.cap_parse_tree.specs.Tree.{ProgramTree}
use Rattle.cap_parse_tree.specs.Canonical.{canonical_text}
use Rattle.cap_parse_laws.specs.Texts.{Spells}
use Rattle.cap_top_reading.specs.Refused.{SpellNone, IsRefused, IsTextOf}
use Rattle.cap_top_reading.specs.declared.refusal.Refusal.{Refusal}
use Rattle.cap_top_commands.specs.declared.status.Status.{Status}
use Rattle.cap_top_commands.specs.declared.status.Status.TheVariants.{Good, Bad, Refused, Usage, ReadFault, WriteFault, NoMemory, NotEnabled, Wide}
use Rattle.cap_prog.specs.Program.{PlainProgram}
use Rattle.cap_replay.specs.declared.playing.End.{End}
use Rattle.cap_replay.specs.RunText.{RunText}
use Rattle.cap_replay.specs.declared.playing.End.TheVariants as ends
use Rattle.cap_top_commands.specs.cap_kernel_check_steps.declared.error.CheckError.{CheckError}
use Rattle.cap_deriv_write.specs.Written.{derivation_text}
use Rattle.cap_top_commands.specs.cap_top_report.Found.{found_trees}
use Rattle.cap_top_commands.specs.Derivations.{SaysLines, SaysBadLines, IsDerivation, IsChecked}
use Rattle.cap_top_commands.specs.Startless.{SaysEmpty, IsStartlessText}
use Rattle.cap_top_commands.specs.Answers.{Fetched, held, unread, long, After, ByOne, SaysCause, SaysRefusal, IsVerified, IsTrial, IsStray, IsStrayed, IsCored, drawn_output, IsOnly, FaultsAlong, StraysFault, SafeTextsHaveNoStray, IsDerived, IsShown, IsOutput, IsOnlyOutput, Agree, GoodAnswersAreSafe, GoodTrialsAreSafe, AcceptedAreSafe, DerivedAreAccepted, EmptyAnswersHaveNoStart}
use Rattle.cap_top_commands.specs.Schedules.{IsPlayed}
use Rattle.cap_gen.specs.Trial.{trial_text}
use Rattle.cap_gen_schedules.specs.Drawn.{seeded, first_fault}
use Rattle.cap_gen_schedules.specs.Laws.{AsksForNothing, SafeProgramsHaveNone}
use Rattle.cap_machine.specs.declared.event.Entry.{Entry}
use Rattle.cap_goal_spec.specs.Choices.{PlainChoice}
use Rattle.cap_goal_spec.specs.Roots.{units}
use Rattle.cap_top_commands.specs.cap_kernel_check_steps.Owed.{preorder}
use Rattle.cap_top_commands.specs.cap_top_report.Report.{proved_count, report_text, all_proved, is_good}
use Rattle.cap_top_commands.specs.cap_top_report.Cores.{cores_text}
use Rattle.cap_top_words.specs.Meaning.{PlainCommand, verify, derive, check, show, replay, trial, outline, owners, stray, core, default_budget}
use Rattle.cap_top_commands.specs.Commands.{files_of}
use Rattle.cap_top_commands.specs.Output.{Output, usage_output, unreadable_output, long_output, refusal_output, report_output, derivation_output, long_derivation_output, bad_derivation_output, judged_output, judged_status, outline_output, tree_output, schedule_output, run_output, owners_output, trial_output, no_start_output, report_status, end_status}
use Rattle.cap_top_commands.specs.Good.{IsProvedText}
use Rattle.cap_top_commands.specs.Needed.{TellsCores, CoresAreTold}
use Rattle.cap_top_commands.specs.Outlines.{IsOutline, CheckedAreOutlined, OutlinesAreTold}
use Rattle.cap_top_commands.specs.Owners.{TellsLines, owned_along, SaysOwners, IsOwners}
use Rattle.cap_top_commands.specs.SafeText.{IsSafeText}
use Rattle.cap_top_accounts.specs.Laws.{OwnersAreTold, AreLinesOfValid, AcceptedHaveTrees, RefusedStartsAreNone}
use Rattle.cap_top_laws.specs.Given.{given_by, AreGiven}
use Rattle.cap_top.specs.Reads.{IsFetched, AreFetched, AreRead}
use Rattle.cap_top.specs.Run.{IsSaid, IsRun}
use Rattle.cap_top.specs.Verified.{IsRead, VerifiesFile}
use Rattle.cap_top.specs.Promise.{AreBothRead, ProvesFile, FailsFile, DerivesFile, ChecksFiles, OutlinesFiles, AreAllRead, OwnsFiles, RejectsFiles, HoldRun, EndsOwners, IsShownAs, ShowsFile, StraysFile, CoresFile, HoldsSafe, EndsRun, ReplaysFiles, Ends, NoFault, Says, SaysOutput, AnswersFiles, HoldsGood, HoldAccepted, HoldsTree, IsTextFor, Refuses, IsOneOf, ReadFails}
use Rattle.cap_top.proofs.Reading.{held-given, were-given, agree-given, first-given, given-held, given-unread}

-- ---- the statuses of outputs

-- the status of what was said of a text or a schedule
abbrev IsAnswer : Status → Type 0
IsAnswer Good = Unit {0}
IsAnswer Bad = Unit {0}
IsAnswer Refused = Unit {0}
IsAnswer NotEnabled = Unit {0}
IsAnswer Wide = Unit {0}
IsAnswer Usage = ⊥
IsAnswer ReadFault = ⊥
IsAnswer WriteFault = ⊥
IsAnswer NoMemory = ⊥

same_status : (o p : Output) → o ≡ p → o.status ≡ p.status
same_status o p e = ap (λ (q : Output). q.status) e

same_text : (o p : Output) → o ≡ p → o.text ≡ p.text
same_text o p e = ap (λ (q : Output). q.text) e

answer_as : (o p : Output) → o ≡ p → IsAnswer p.status → IsAnswer o.status
answer_as o p e h = subst IsAnswer (sym (same_status o p e)) h

report_answers : (b : Bool) → IsAnswer (report_status b)
report_answers true = tt
report_answers false = tt

end_answers : (x : End) → IsAnswer (end_status x)
end_answers (ends.Ended k) = tt
end_answers (ends.Stopped k) = tt
end_answers (ends.NotEnabled k) = tt
end_answers (ends.Wide k) = tt

cause_answers : (IsCaused : Refusal → Type 0) (o : Output) → SaysCause IsCaused o → IsAnswer o.status
cause_answers IsCaused o c = answer_as o (refusal_output c.cause) c.whole tt

verified_answers : (budget : ℕ) (bytes : List ℕ) (o : Output) → IsVerified budget bytes o → IsAnswer o.status
verified_answers budget bytes o (inl c) = cause_answers (IsRefused bytes) o c
verified_answers budget bytes o (inr s) =
    answer_as o (report_output (is_good s.thing budget) (report_text s.thing budget)) s.said (report_answers (is_good s.thing budget))

trial_answers : (n : ℕ) (o : Output) → IsTrial n o → IsAnswer o.status
trial_answers n o (inl c) = cause_answers (IsRefused (trial_text n)) o c
trial_answers n o (inr s) =
    answer_as o (trial_output n (proved_count s.thing default_budget) (length (units s.thing))) s.said
    (report_answers (all_proved s.thing default_budget))

drawn_answers : (count : ℕ) (found : Option (List Entry)) → IsAnswer (drawn_output count found).status
drawn_answers count None = tt
drawn_answers count (Some es) = tt

strayed_answers : (number count : ℕ) (bytes : List ℕ) (o : Output) → IsStrayed number count bytes o → IsAnswer o.status
strayed_answers number count bytes o (inl c) = cause_answers (IsRefused bytes) o c
strayed_answers number count bytes o (inr s) = by s.said
  where
    by : IsStray number count s.thing o → IsAnswer o.status
    by (inl k) = answer_as o no_start_output k.1 tt
    by (inr k) =
        let found = first_fault s.thing count (seeded number) in
        answer_as o (drawn_output count found) k.1 (drawn_answers count found)

cored_answers : (bytes : List ℕ) (o : Output) → IsCored bytes o → IsAnswer o.status
cored_answers bytes o (inl c) = cause_answers (IsRefused bytes) o c
cored_answers bytes o (inr s) =
    answer_as o (report_output (is_good s.thing default_budget) (cores_text s.thing default_budget)) s.said
    (report_answers (is_good s.thing default_budget))

derivation_answers : (budget : ℕ) (p : PlainProgram) (o : Output) → IsDerivation budget p o → IsAnswer o.status
derivation_answers budget p o (inl s) =
    answer_as o (report_output (is_good p budget) (report_text p budget)) s.report (report_answers (is_good p budget))
derivation_answers budget p o (inr (inl s)) = answer_as o long_derivation_output s.whole tt
derivation_answers budget p o (inr (inr s)) = answer_as o (derivation_output (derivation_text (found_trees p budget))) s.whole tt

derived_answers : (budget : ℕ) (bytes : List ℕ) (o : Output) → IsDerived budget bytes o → IsAnswer o.status
derived_answers budget bytes o (inl c) = cause_answers (IsRefused bytes) o c
derived_answers budget bytes o (inr s) = derivation_answers budget s.thing o s.said

judged_answers : (r : Result ℕ CheckError) → IsAnswer (judged_status r)
judged_answers (Ok n) = tt
judged_answers (Err e) = tt

checked_answers : (p : PlainProgram) (bytes : List ℕ) (o : Output) → IsChecked p bytes o → IsAnswer o.status
checked_answers p bytes o (inl k) = answer_as o (bad_derivation_output k.error) k.whole tt
checked_answers p bytes o (inr k) = answer_as o (judged_output k.answer) k.whole (judged_answers k.answer)

outline_answers : (p : PlainProgram) (bytes : List ℕ) (o : Output) → IsOutline p bytes o → IsAnswer o.status
outline_answers p bytes o (inl k) = answer_as o (outline_output _) k.whole tt
outline_answers p bytes o (inr k) = checked_answers p bytes o k.checked

shown_answers : (bytes : List ℕ) (o : Output) → IsShown bytes o → IsAnswer o.status
shown_answers bytes o (inl c) = cause_answers (SpellNone bytes) o c
shown_answers bytes o (inr s) = answer_as o (tree_output (canonical_text s.thing)) s.said tt

played_answers : (p : PlainProgram) (bytes : List ℕ) (o : Output) → IsPlayed p bytes o → IsAnswer o.status
played_answers p bytes o (inl b) = answer_as o (schedule_output b.error) b.whole tt
played_answers p bytes o (inr r) = answer_as o (run_output r.text r.end) r.whole (end_answers r.end)

owned_answers : (r : Option RunText) → IsAnswer (owners_output r).status
owned_answers None = tt
owned_answers (Some r) = end_answers r.end

owners_answers : (p : PlainProgram) (n : ℕ) (cs : List PlainChoice) (bytes : List ℕ) (o : Output) → IsOwners p n cs bytes o → IsAnswer o.status
owners_answers p n cs bytes o (inl b) = answer_as o (schedule_output b.error) b.whole tt
owners_answers p n cs bytes o (inr (inl k)) = answer_as o (judged_output (Err k.error)) k.whole tt
owners_answers p n cs bytes o (inr (inr k)) =
    let r = owned_along p k.trees k.has.schedule in answer_as o (owners_output r) k.whole (owned_answers r)

bad_lines_answer : (bytes : List ℕ) (o : Output) → SaysBadLines bytes o → IsAnswer o.status
bad_lines_answer bytes o k = answer_as o (bad_derivation_output k.error) k.whole tt

-- a file was read and this is an answer, or it could not be read
abbrev IsEnded : Fetched → Status → Type 0
IsEnded x s = IsAnswer s ⊎ ((s ≡ ReadFault) × (x ≡ unread))

after_ended : (IsSaid : List ℕ → Output → Type 0) → ((bytes : List ℕ) (o : Output) → IsSaid bytes o → IsAnswer o.status)
    → (name : List ℕ) (x : Fetched) (o : Output) → After name x IsSaid o → IsEnded x o.status
after_ended IsSaid f name (held bytes) o h = inl (f bytes o h)
after_ended IsSaid f name unread o h = inr (same_status o (unreadable_output name) h, refl)
after_ended IsSaid f name long o h = inl (answer_as o long_output h tt)

module _ (shelf shelf_now : SeenShelf) where
  -- an answer, or a fault of reading
  abbrev IsSettled : Option PlainCommand → Status → Type 0
  IsSettled command s = IsAnswer s ⊎ ((s ≡ ReadFault) × ReadFails command shelf shelf_now)

  settled_by : (command : Option PlainCommand) (name : List ℕ) (x : Fetched) (s : Status) → IsOneOf name (files_of command)
      → IsFetched shelf shelf_now name x → IsEnded x s → IsSettled command s
  settled_by command name x s i f (inl a) = inl a
  settled_by command name x s i f (inr r) =
      inr (r.0, (name, i, subst (IsFetched shelf shelf_now name) r.1 f))

  settled : (t : PlainCommand) (got : List Fetched) (o : Output) → AreFetched shelf shelf_now (files_of (Some t)) got
      → IsOutput (Some t) got o → IsSettled (Some t) o.status
  settled (verify name budget) (x ∷ []) o f h =
      settled_by (Some (verify name budget)) name x o.status (inl refl) f.0 (after_ended (IsVerified budget) (verified_answers budget) name x o h)
  settled (verify name budget) [] o f h = absurd h
  settled (verify name budget) (x ∷ (y ∷ ys)) o f h = absurd h
  settled (derive name budget) (x ∷ []) o f h =
      settled_by (Some (derive name budget)) name x o.status (inl refl) f.0 (after_ended (IsDerived budget) (derived_answers budget) name x o h)
  settled (derive name budget) [] o f h = absurd h
  settled (derive name budget) (x ∷ (y ∷ ys)) o f h = absurd h
  settled (check name s) (x ∷ []) o f h =
      settled_by (Some (check name s)) name x o.status (inl refl) f.0 (after_ended SaysRefusal (λ bytes q c. cause_answers (IsRefused bytes) q c) name x o h)
  settled (check name s) (x ∷ (y ∷ [])) o f h =
      settled_by (Some (check name s)) s y o.status (inr (inl refl)) f.1.0
      (after_ended (IsChecked h.program) (checked_answers h.program) s y o h.said)
  settled (check name s) [] o f h = absurd h
  settled (check name s) (x ∷ (y ∷ (z ∷ zs))) o f h = absurd h
  settled (outline name s) (x ∷ []) o f h =
      settled_by (Some (outline name s)) name x o.status (inl refl) f.0 (after_ended SaysRefusal (λ bytes q c. cause_answers (IsRefused bytes) q c) name x o h)
  settled (outline name s) (x ∷ (y ∷ [])) o f h =
      settled_by (Some (outline name s)) s y o.status (inr (inl refl)) f.1.0
      (after_ended (IsOutline h.program) (outline_answers h.program) s y o h.said)
  settled (outline name s) [] o f h = absurd h
  settled (outline name s) (x ∷ (y ∷ (z ∷ zs))) o f h = absurd h
  settled (owners name s u) (x ∷ []) o f h =
      settled_by (Some (owners name s u)) name x o.status (inl refl) f.0 (after_ended SaysRefusal (λ bytes q c. cause_answers (IsRefused bytes) q c) name x o h)
  settled (owners name s u) (x ∷ (y ∷ [])) o f h =
      settled_by (Some (owners name s u)) s y o.status (inr (inl refl)) f.1.0
      (after_ended SaysBadLines bad_lines_answer s y o h.said)
  settled (owners name s u) (x ∷ (y ∷ (z ∷ []))) o f h =
      let lines = h.said in
      settled_by (Some (owners name s u)) u z o.status (inr (inr (inl refl))) f.1.1.0
      (after_ended (IsOwners h.program lines.trees lines.choices) (owners_answers h.program lines.trees lines.choices) u z o lines.said)
  settled (owners name s u) [] o f h = absurd h
  settled (owners name s u) (x ∷ (y ∷ (z ∷ (w ∷ ws)))) o f h = absurd h
  settled (show name) (x ∷ []) o f h =
      settled_by (Some (show name)) name x o.status (inl refl) f.0 (after_ended IsShown shown_answers name x o h)
  settled (show name) [] o f h = absurd h
  settled (show name) (x ∷ (y ∷ ys)) o f h = absurd h
  settled (replay name s) (x ∷ []) o f h =
      settled_by (Some (replay name s)) name x o.status (inl refl) f.0
      (after_ended SaysRefusal (λ bytes q c. cause_answers (IsRefused bytes) q c) name x o h)
  settled (replay name s) (x ∷ (y ∷ [])) o f h =
      settled_by (Some (replay name s)) s y o.status (inr (inl refl)) f.1.0
      (after_ended (IsPlayed h.program) (played_answers h.program) s y o h.said)
  settled (replay name s) [] o f h = absurd h
  settled (stray name number count) (x ∷ []) o f h =
      settled_by (Some (stray name number count)) name x o.status (inl refl) f.0
      (after_ended (IsStrayed number count) (strayed_answers number count) name x o h)
  settled (stray name number count) [] o f h = absurd h
  settled (stray name number count) (x ∷ (y ∷ ys)) o f h = absurd h
  settled (core name) (x ∷ []) o f h =
      settled_by (Some (core name)) name x o.status (inl refl) f.0 (after_ended IsCored cored_answers name x o h)
  settled (core name) [] o f h = absurd h
  settled (core name) (x ∷ (y ∷ ys)) o f h = absurd h
  settled (trial n) [] o f h = inl (trial_answers n o h)
  settled (trial n) (x ∷ xs) o f h = absurd h
  settled (replay name s) (x ∷ (y ∷ (z ∷ zs))) o f h = absurd h

  -- of words too, where usage is an answer
  abbrev IsFinal : Option PlainCommand → Status → Type 0
  IsFinal None s = s ≡ Usage
  IsFinal (Some t) s = IsSettled (Some t) s

  final : (command : Option PlainCommand) (got : List Fetched) (o : Output) → AreFetched shelf shelf_now (files_of command) got
      → IsOutput command got o → IsFinal command o.status
  final None [] o f h = same_status o usage_output h
  final None (x ∷ xs) o f h = absurd h
  final (Some t) got o f h = settled t got o f h

  final_usage : (command : Option PlainCommand) (s : Status) → IsFinal command s → s ≡ Usage → command ≡ None
  final_usage None s h e = refl
  final_usage (Some t) s (inl a) e = absurd (subst IsAnswer e a)
  final_usage (Some t) s (inr r) e = let g : ReadFault ≡ Usage = sym r.0 ∙ e in absurd cc

  final_read : (command : Option PlainCommand) (s : Status) → IsFinal command s → s ≡ ReadFault → ReadFails command shelf shelf_now
  final_read None s h e = let g : Usage ≡ ReadFault = sym h ∙ e in absurd cc
  final_read (Some t) s (inl a) e = absurd (subst IsAnswer e a)
  final_read (Some t) s (inr r) e = r.1

  final_writes : (command : Option PlainCommand) (s : Status) → IsFinal command s → s ≢ WriteFault
  final_writes None s h e = let g : Usage ≡ WriteFault = sym h ∙ e in cc
  final_writes (Some t) s (inl a) e = subst IsAnswer e a
  final_writes (Some t) s (inr r) e = let g : ReadFault ≡ WriteFault = sym r.0 ∙ e in cc

  final_memory : (command : Option PlainCommand) (s : Status) → IsFinal command s → s ≢ NoMemory
  final_memory None s h e = let g : Usage ≡ NoMemory = sym h ∙ e in cc
  final_memory (Some t) s (inl a) e = subst IsAnswer e a
  final_memory (Some t) s (inr r) e = let g : ReadFault ≡ NoMemory = sym r.0 ∙ e in cc

-- ---- what is said of one file

bad_good : (b : Bool) → b ≡ false → report_status b ≡ Good → ⊥
bad_good false e f = cc
bad_good true e f = cc

-- the statuses of a report
abbrev IsVerdict : Status → Type 0
IsVerdict Good = Unit {0}
IsVerdict Bad = Unit {0}
IsVerdict _ = ⊥

verdict-of : (s : Status) → (s ≡ Good) ⊎ (s ≡ Bad) → IsVerdict s
verdict-of s (inl e) = subst IsVerdict (sym e) tt
verdict-of s (inr e) = subst IsVerdict (sym e) tt

module _ (shelf shelf_now : SeenShelf) (name : List ℕ) (o : Output) where
  no-verdict : (s : Status) → o.status ≡ s → (o.status ≡ Good) ⊎ (o.status ≡ Bad) → IsVerdict s
  no-verdict s e h = subst IsVerdict e (verdict-of o.status h)

  -- one file was read
  read-one : (bytes : List ℕ) → AreRead shelf shelf_now (name ∷ []) (held bytes ∷ []) → IsRead shelf shelf_now name bytes
  read-one bytes f = record { given = f.given; held = f.fetched.0.1 }

  good_by : GoodAnswersAreSafe → (budget : ℕ) (got : List Fetched) → AreRead shelf shelf_now (name ∷ []) got
      → IsOutput (Some (verify name budget)) got o → o.status ≡ Good → ProvesFile shelf shelf_now budget name
  good_by safe budget (held bytes ∷ []) f h e = record { bytes = bytes; read = read-one bytes f; good = safe budget bytes o h e }
  good_by safe budget (unread ∷ []) f h e =
      let g : ReadFault ≡ Good = sym (same_status o (unreadable_output name) h) ∙ e in absurd cc
  good_by safe budget (long ∷ []) f h e = let g : Refused ≡ Good = sym (same_status o long_output h) ∙ e in absurd cc
  good_by safe budget [] f h e = absurd h
  good_by safe budget (x ∷ (y ∷ ys)) f h e = absurd h

  failed_by : (IsAnswer : List ℕ → Output → Type 0)
      → ((bytes : List ℕ) → IsAnswer bytes o → SaysEmpty o → IsStartlessText bytes)
      → (sink sink_now : SeenSink) (got : List Fetched) → AreRead shelf shelf_now (name ∷ []) got
      → ByOne name IsAnswer got o → o.status ≡ Bad
      → Gains sink.written sink_now.written o.text → FailsFile IsAnswer shelf shelf_now name sink sink_now
  failed_by IsAnswer law sink sink_now (held bytes ∷ []) f h e g = record {
    bytes = bytes;
    read = read-one bytes f;
    output = o;
    answer = h;
    bad = e;
    gains = g;
    startless = law bytes h;
  }
  failed_by IsAnswer law sink sink_now (unread ∷ []) f h e g =
      let k : ReadFault ≡ Bad = sym (same_status o (unreadable_output name) h) ∙ e in absurd cc
  failed_by IsAnswer law sink sink_now (long ∷ []) f h e g =
      let k : Refused ≡ Bad = sym (same_status o long_output h) ∙ e in absurd cc
  failed_by IsAnswer law sink sink_now [] f h e g = absurd h
  failed_by IsAnswer law sink sink_now (x ∷ (y ∷ ys)) f h e g = absurd h

  derived_bytes : DerivedAreAccepted → (budget : ℕ) (sink sink_now : SeenSink) (bytes : List ℕ)
      → IsRead shelf shelf_now name bytes → IsDerived budget bytes o → o.status ≡ Good
      → Gains sink.written sink_now.written o.text → DerivesFile shelf shelf_now budget name sink sink_now
  derived_bytes accepts budget sink sink_now bytes c (inl k) e g =
      let f : Refused ≡ Good = sym (same_status o (refusal_output k.cause) k.whole) ∙ e in absurd cc
  derived_bytes accepts budget sink sink_now bytes c (inr s) e g = by s.said
    where
      lines_said : IsDerivation budget s.thing o → SaysLines budget s.thing o
      lines_said (inl k) =
          absurd (bad_good (is_good s.thing budget) k.bad
          (sym (same_status o (report_output (is_good s.thing budget) (report_text s.thing budget)) k.report) ∙ e))
      lines_said (inr (inl k)) = let f : Bad ≡ Good = sym (same_status o long_derivation_output k.whole) ∙ e in absurd cc
      lines_said (inr (inr k)) = k

      by : IsDerivation budget s.thing o → DerivesFile shelf shelf_now budget name sink sink_now
      by d =
          let k : SaysLines budget s.thing o = lines_said d in
          let text = derivation_text (found_trees s.thing budget) in
          let same : o.text ≡ text = same_text o (derivation_output text) k.whole in
          record {
            bytes = bytes;
            read = c;
            program = s.thing;
            text_of_it = s.is_so;
            proved = k.good;
            lines = o.text;
            whole = same;
            short = subst (λ t. length t ≤ longest) (sym same) k.short.bytes;
            accepted = accepts budget bytes s.thing o s.is_so d e;
            gains = g;
          }

  derived_by : DerivedAreAccepted → (budget : ℕ) (sink sink_now : SeenSink) (got : List Fetched)
      → AreRead shelf shelf_now (name ∷ []) got
      → IsOutput (Some (derive name budget)) got o → o.status ≡ Good
      → Gains sink.written sink_now.written o.text → DerivesFile shelf shelf_now budget name sink sink_now
  derived_by accepts budget sink sink_now (held bytes ∷ []) f h e g = derived_bytes accepts budget sink sink_now bytes (read-one bytes f) h e g
  derived_by accepts budget sink sink_now (unread ∷ []) f h e g =
      let k : ReadFault ≡ Good = sym (same_status o (unreadable_output name) h) ∙ e in absurd cc
  derived_by accepts budget sink sink_now (long ∷ []) f h e g =
      let k : Refused ≡ Good = sym (same_status o long_output h) ∙ e in absurd cc
  derived_by accepts budget sink sink_now [] f h e g = absurd h
  derived_by accepts budget sink sink_now (x ∷ (y ∷ ys)) f h e g = absurd h

  shown_bytes : (bytes : List ℕ) → IsShown bytes o → o.status ≡ Good → IsShownAs bytes o.text
  shown_bytes bytes (inl c) e = let g : Refused ≡ Good = sym (same_status o (refusal_output c.cause) c.whole) ∙ e in absurd cc
  shown_bytes bytes (inr s) e =
      record { tree = s.thing; spelled = s.is_so; canonical = same_text o (tree_output (canonical_text s.thing)) s.said }

  shown_by : (sink sink_now : SeenSink) → (got : List Fetched)
      → AreRead shelf shelf_now (name ∷ []) got
      → IsOutput (Some (show name)) got o → o.status ≡ Good
      → Gains sink.written sink_now.written o.text → ShowsFile shelf shelf_now name sink sink_now
  shown_by sink sink_now (held bytes ∷ []) f h e g =
      record { bytes = bytes; read = read-one bytes f; text = o.text; shown = shown_bytes bytes h e; gains = g }
  shown_by sink sink_now (unread ∷ []) f h e g =
      let k : ReadFault ≡ Good = sym (same_status o (unreadable_output name) h) ∙ e in absurd cc
  shown_by sink sink_now (long ∷ []) f h e g = let k : Refused ≡ Good = sym (same_status o long_output h) ∙ e in absurd cc
  shown_by sink sink_now [] f h e g = absurd h
  shown_by sink sink_now (x ∷ (y ∷ ys)) f h e g = absurd h

  strays_by : StraysFault → SafeTextsHaveNoStray → (number count : ℕ) (sink sink_now : SeenSink)
      → (got : List Fetched) → AreRead shelf shelf_now (name ∷ []) got
      → IsOnlyOutput (IsOutput (Some (stray name number count))) got o → o.status ≡ Bad
      → Gains sink.written sink_now.written o.text → StraysFile shelf shelf_now name sink sink_now
  strays_by fault none number count sink sink_now (held bytes ∷ []) f h e g = record {
    bytes = bytes;
    read = read-one bytes f;
    lines = o.text;
    faults = fault number count bytes o h.said e;
    not_safe = λ s.
        none number count bytes o (record { said = h.said; only = λ q k. h.only (held bytes ∷ []) q (refl, tt) k }) s e;
    gains = g;
  }
  strays_by fault none number count sink sink_now (unread ∷ []) f h e g =
      let k : ReadFault ≡ Bad = sym (same_status o (unreadable_output name) h.said) ∙ e in absurd cc
  strays_by fault none number count sink sink_now (long ∷ []) f h e g =
      let k : Refused ≡ Bad = sym (same_status o long_output h.said) ∙ e in absurd cc
  strays_by fault none number count sink sink_now [] f h e g = absurd h.said
  strays_by fault none number count sink sink_now (x ∷ (y ∷ ys)) f h e g = absurd h.said

  cores_by : CoresAreTold → (sink sink_now : SeenSink) (got : List Fetched)
      → AreRead shelf shelf_now (name ∷ []) got
      → IsOutput (Some (core name)) got o → (o.status ≡ Good) ⊎ (o.status ≡ Bad)
      → Gains sink.written sink_now.written o.text → CoresFile shelf shelf_now name sink sink_now o.status
  cores_by told sink sink_now (held bytes ∷ []) f h e g = record {
    bytes = bytes;
    read = read-one bytes f;
    output = o;
    told = told bytes o h e;
    same = refl;
    gains = g;
  }
  cores_by told sink sink_now (unread ∷ []) f h e g = absurd (no-verdict ReadFault (same_status o (unreadable_output name) h) e)
  cores_by told sink sink_now (long ∷ []) f h e g = absurd (no-verdict Refused (same_status o long_output h) e)
  cores_by told sink sink_now [] f h e g = absurd h
  cores_by told sink sink_now (x ∷ (y ∷ ys)) f h e g = absurd h

-- ---- derivations that are judged

module _ (shelf shelf_now : SeenShelf) (file second : List ℕ) where
  -- the first file gave these bytes, by which the second was read, and gave those
  both-read : (bytes more : List ℕ) (x : Fetched) → x ≡ held bytes
      → AreRead shelf shelf_now (file ∷ (second ∷ [])) (x ∷ (held more ∷ []))
      → AreBothRead shelf shelf_now file bytes second more
  both-read bytes more x e f =
      let g : AreRead shelf shelf_now (file ∷ (second ∷ [])) (held bytes ∷ (held more ∷ [])) =
      subst (λ y. AreRead shelf shelf_now (file ∷ (second ∷ [])) (y ∷ (held more ∷ []))) e f in
      record { given = g.given; held = g.fetched.0.1; second_held = g.fetched.1.0.1 }

module _ (shelf shelf_now : SeenShelf) (file derivation : List ℕ) (o : Output) where
  accepted_late : AcceptedAreSafe → (bytes : List ℕ) (p : PlainProgram) (x y : Fetched) → x ≡ held bytes
      → IsTextOf bytes p → AreRead shelf shelf_now (file ∷ (derivation ∷ [])) (x ∷ (y ∷ []))
      → After derivation y (IsChecked p) o → o.status ≡ Good
      → ChecksFiles shelf shelf_now file derivation
  accepted_late safe bytes p x (held lines) gave t f h e = record {
    bytes = bytes;
    lines = lines;
    read = both-read shelf shelf_now file derivation bytes lines x gave f;
    accepted = safe bytes lines p o t h e;
  }
  accepted_late safe bytes p x unread gave t f h e =
      let g : ReadFault ≡ Good = sym (same_status o (unreadable_output derivation) h) ∙ e in absurd cc
  accepted_late safe bytes p x long gave t f h e =
      let g : Refused ≡ Good = sym (same_status o long_output h) ∙ e in absurd cc

  accepted_by : AcceptedAreSafe → (got : List Fetched) → AreRead shelf shelf_now (file ∷ (derivation ∷ [])) got
      → IsOutput (Some (check file derivation)) got o → o.status ≡ Good → ChecksFiles shelf shelf_now file derivation
  accepted_by safe (x ∷ (y ∷ [])) f h e =
      accepted_late safe h.bytes h.program x y h.gave h.text_of_it f h.said e
  accepted_by safe (held bytes ∷ []) f h e =
      let g : Refused ≡ Good = sym (same_status o (refusal_output h.cause) h.whole) ∙ e in absurd cc
  accepted_by safe (unread ∷ []) f h e =
      let g : ReadFault ≡ Good = sym (same_status o (unreadable_output file) h) ∙ e in absurd cc
  accepted_by safe (long ∷ []) f h e = let g : Refused ≡ Good = sym (same_status o long_output h) ∙ e in absurd cc
  accepted_by safe [] f h e = absurd h
  accepted_by safe (x ∷ (y ∷ (z ∷ zs))) f h e = absurd h

-- ---- outlines

module _ (shelf shelf_now : SeenShelf) (sink sink_now : SeenSink) (file derivation : List ℕ) (o : Output) where
  outlined_late : OutlinesAreTold → (bytes : List ℕ) (p : PlainProgram) (x y : Fetched) → x ≡ held bytes
      → IsTextOf bytes p → AreRead shelf shelf_now (file ∷ (derivation ∷ [])) (x ∷ (y ∷ []))
      → After derivation y (IsOutline p) o → o.status ≡ Good → Gains sink.written sink_now.written o.text
      → OutlinesFiles shelf shelf_now file derivation sink sink_now
  outlined_late told bytes p x (held lines) gave t f h e g = record {
    bytes = bytes;
    lines = lines;
    read = both-read shelf shelf_now file derivation bytes lines x gave f;
    text = o.text;
    outlined = told bytes lines p o t h e;
    gains = g;
  }
  outlined_late told bytes p x unread gave t f h e g =
      let k : ReadFault ≡ Good = sym (same_status o (unreadable_output derivation) h) ∙ e in absurd cc
  outlined_late told bytes p x long gave t f h e g =
      let k : Refused ≡ Good = sym (same_status o long_output h) ∙ e in absurd cc

  outlined_by : OutlinesAreTold → (got : List Fetched) → AreRead shelf shelf_now (file ∷ (derivation ∷ [])) got
      → IsOutput (Some (outline file derivation)) got o → o.status ≡ Good → Gains sink.written sink_now.written o.text
      → OutlinesFiles shelf shelf_now file derivation sink sink_now
  outlined_by told (x ∷ (y ∷ [])) f h e g =
      outlined_late told h.bytes h.program x y h.gave h.text_of_it f h.said e g
  outlined_by told (held bytes ∷ []) f h e g =
      let k : Refused ≡ Good = sym (same_status o (refusal_output h.cause) h.whole) ∙ e in absurd cc
  outlined_by told (unread ∷ []) f h e g =
      let k : ReadFault ≡ Good = sym (same_status o (unreadable_output file) h) ∙ e in absurd cc
  outlined_by told (long ∷ []) f h e g = let k : Refused ≡ Good = sym (same_status o long_output h) ∙ e in absurd cc
  outlined_by told [] f h e g = absurd h
  outlined_by told (x ∷ (y ∷ (z ∷ zs))) f h e g = absurd h

-- ---- replays

no_run : (o p : Output) → o ≡ p → EndsRun o.status → EndsRun p.status
no_run o p e r = subst EndsRun (same_status o p e) r

module _ (shelf shelf_now : SeenShelf) (sink sink_now : SeenSink) (file schedule : List ℕ) where
  played_by : (bytes : List ℕ) (p : PlainProgram) (x y : Fetched) (o : Output) → x ≡ held bytes
      → IsTextOf bytes p → AreRead shelf shelf_now (file ∷ (schedule ∷ [])) (x ∷ (y ∷ []))
      → After schedule y (IsPlayed p) o
      → EndsRun o.status → Gains sink.written sink_now.written o.text
      → ReplaysFiles shelf shelf_now file schedule sink sink_now o.status
  played_by bytes p x (held entries) o gave t f (inr k) r g = record {
    bytes = bytes;
    entries = entries;
    read = both-read shelf shelf_now file schedule bytes entries x gave f;
    program = p;
    text_of_it = t;
    text = k.text;
    end = k.end;
    played = k.played;
    ended = same_status o (run_output k.text k.end) k.whole;
    gains = subst (Gains sink.written sink_now.written) (same_text o (run_output k.text k.end) k.whole) g;
  }
  played_by bytes p x (held entries) o gave t f (inl k) r g = absurd (no_run o (schedule_output k.error) k.whole r)
  played_by bytes p x unread o gave t f h r g = absurd (no_run o (unreadable_output schedule) h r)
  played_by bytes p x long o gave t f h r g = absurd (no_run o long_output h r)

  replays_by : (got : List Fetched) (o : Output) → AreRead shelf shelf_now (file ∷ (schedule ∷ [])) got
      → IsOutput (Some (replay file schedule)) got o → EndsRun o.status → Gains sink.written sink_now.written o.text
      → ReplaysFiles shelf shelf_now file schedule sink sink_now o.status
  replays_by (x ∷ (y ∷ [])) o f h r g =
      played_by h.bytes h.program x y o h.gave h.text_of_it f h.said r g
  replays_by (held bytes ∷ []) o f h r g = absurd (no_run o (refusal_output h.cause) h.whole r)
  replays_by (unread ∷ []) o f h r g = absurd (no_run o (unreadable_output file) h r)
  replays_by (long ∷ []) o f h r g = absurd (no_run o long_output h r)
  replays_by [] o f h r g = absurd h
  replays_by (x ∷ (y ∷ (z ∷ zs))) o f h r g = absurd h

-- ---- owners along a run

module _ (shelf shelf_now : SeenShelf) (sink sink_now : SeenSink) (file derivation schedule : List ℕ) where
  -- the first file gave these bytes, the second these, by which the third was read, and gave these
  all-read : (bytes lines entries : List ℕ) (x y : Fetched) → x ≡ held bytes → y ≡ held lines
      → AreRead shelf shelf_now (file ∷ (derivation ∷ (schedule ∷ []))) (x ∷ (y ∷ (held entries ∷ [])))
      → AreAllRead shelf shelf_now file bytes derivation lines schedule entries
  all-read bytes lines entries x y e d f =
      let g : AreRead shelf shelf_now (file ∷ (derivation ∷ (schedule ∷ []))) (held bytes ∷ (held lines ∷ (held entries ∷ []))) =
      subst (λ w. AreRead shelf shelf_now (file ∷ (derivation ∷ (schedule ∷ []))) (held bytes ∷ (w ∷ (held entries ∷ [])))) d
      (subst (λ w. AreRead shelf shelf_now (file ∷ (derivation ∷ (schedule ∷ []))) (w ∷ (y ∷ (held entries ∷ [])))) e f) in
      record { given = g.given; held = g.fetched.0.1; second_held = g.fetched.1.0.1; third_held = g.fetched.1.1.0.1 }

  -- the run is shown, or the derivation is rejected
  abbrev OwnsOrRejects : Status → Type 0
  OwnsOrRejects s =
      OwnsFiles shelf shelf_now file derivation schedule sink sink_now s
      ⊎ RejectsFiles shelf shelf_now file derivation schedule sink sink_now s

  module _ (told : OwnersAreTold) (bytes lines entries : List ℕ) (p : PlainProgram) (n : ℕ) (cs : List PlainChoice) (o : Output)
      (t : IsTextOf bytes p) (l : TellsLines lines n cs) (read : AreAllRead shelf shelf_now file bytes derivation lines schedule entries)
      (g : Gains sink.written sink_now.written o.text) where
    owned_so : (k : SaysOwners p n cs entries o) → (r : Option RunText) → owned_along p k.trees k.has.schedule ≡ r → o ≡ owners_output r
        → EndsRun o.status → OwnsOrRejects o.status
    owned_so k None e w run = absurd (no_run o no_start_output w run)
    owned_so k (Some r) e w run = inl (record {
      bytes = bytes;
      lines = lines;
      entries = entries;
      read = read;
      run = r;
      owned = told bytes lines entries p n cs o t l k r e;
      ended = same_status o (run_output r.text r.end) w;
      gains = subst (Gains sink.written sink_now.written) (same_text o (run_output r.text r.end) w) g;
    })

    owned_by : IsOwners p n cs entries o → EndsRun o.status → OwnsOrRejects o.status
    owned_by (inl k) run = absurd (no_run o (schedule_output k.error) k.whole run)
    owned_by (inr (inl k)) run =
        let bad : o.status ≡ Bad = same_status o (judged_output (Err k.error)) k.whole in
        inr (record {
          bytes = bytes;
          lines = lines;
          entries = entries;
          read = read;
          program = p;
          text_of_it = t;
          has = k.has;
          output = o;
          checked = inr (record { trees = n; choices = cs; told = l; answer = Err k.error; judged = k.judged; whole = k.whole });
          bad = bad;
          same = bad;
          gains = g;
        })
    owned_by (inr (inr k)) run = owned_so k (owned_along p k.trees k.has.schedule) refl k.whole run

  owned_late : OwnersAreTold → (bytes lines : List ℕ) (p : PlainProgram) (n : ℕ) (cs : List PlainChoice) (x y z : Fetched) (o : Output)
      → x ≡ held bytes → y ≡ held lines → IsTextOf bytes p → TellsLines lines n cs
      → AreRead shelf shelf_now (file ∷ (derivation ∷ (schedule ∷ []))) (x ∷ (y ∷ (z ∷ [])))
      → After schedule z (IsOwners p n cs) o → EndsRun o.status → Gains sink.written sink_now.written o.text
      → OwnsOrRejects o.status
  owned_late told bytes lines p n cs x y (held entries) o e d t l f h run g =
      owned_by told bytes lines entries p n cs o t l (all-read bytes lines entries x y e d f) g h run
  owned_late told bytes lines p n cs x y unread o e d t l f h run g = absurd (no_run o (unreadable_output schedule) h run)
  owned_late told bytes lines p n cs x y long o e d t l f h run g = absurd (no_run o long_output h run)

  no_lines : {A : Type 0} (y : Fetched) (o : Output) → After derivation y SaysBadLines o → EndsRun o.status → A
  no_lines (held lines) o h run = absurd (no_run o (bad_derivation_output h.error) h.whole run)
  no_lines unread o h run = absurd (no_run o (unreadable_output derivation) h run)
  no_lines long o h run = absurd (no_run o long_output h run)

  owns_by : OwnersAreTold → (got : List Fetched) (o : Output) → AreRead shelf shelf_now (file ∷ (derivation ∷ (schedule ∷ []))) got
      → IsOutput (Some (owners file derivation schedule)) got o → EndsRun o.status → Gains sink.written sink_now.written o.text
      → OwnsOrRejects o.status
  owns_by told (x ∷ (y ∷ (z ∷ []))) o f h run g =
      let lines = h.said in
      owned_late told h.bytes lines.lines h.program lines.trees lines.choices x y z o h.gave lines.gave h.text_of_it lines.told f lines.said run g
  owns_by told (x ∷ (y ∷ [])) o f h run g = no_lines y o h.said run
  owns_by told (held bytes ∷ []) o f h run g = absurd (no_run o (refusal_output h.cause) h.whole run)
  owns_by told (unread ∷ []) o f h run g = absurd (no_run o (unreadable_output file) h run)
  owns_by told (long ∷ []) o f h run g = absurd (no_run o long_output h run)
  owns_by told [] o f h run g = absurd h
  owns_by told (x ∷ (y ∷ (z ∷ (w ∷ ws)))) o f h run g = absurd h

-- ---- the whole run

module _ (command : Option PlainCommand) (shelf shelf_now : SeenShelf) (sink sink_now : SeenSink) (status : Status)
    (run : IsRun command shelf shelf_now sink sink_now status) where
  abbrev Runs : Type 0
  Runs = IsRun command shelf shelf_now sink sink_now status

  ended_as : (o : Output) → IsSaid shelf shelf_now command o → IsFinal shelf shelf_now command o.status
  ended_as o said = final shelf shelf_now command said.got o said.read.fetched said.output.said

  pub found_run : GoodAnswersAreSafe → (name : List ℕ) (budget : ℕ) → command ≡ Some (verify name budget) → status ≡ Good → ProvesFile shelf shelf_now budget name
  found_run safe name budget t e = by run
    where
      by : Runs → ProvesFile shelf shelf_now budget name
      by (inr m) = let f : NoMemory ≡ Good = sym m.0 ∙ e in absurd cc
      by (inl (o, said, inl p)) =
          good_by shelf shelf_now name o safe budget said.got
          (subst (λ x. AreRead shelf shelf_now (files_of x) said.got) t said.read)
          (subst (λ x. IsOutput x said.got o) t said.output.said) (sym p.0 ∙ e)
      by (inl (o, said, inr p)) = let f : WriteFault ≡ Good = sym p.0 ∙ e in absurd cc

  pub good_run : GoodAnswersAreSafe → (name : List ℕ) (budget : ℕ) → command ≡ Some (verify name budget) → status ≡ Good
      → VerifiesFile shelf shelf_now name
  good_run safe name budget t e =
      let f : ProvesFile shelf shelf_now budget name = found_run safe name budget t e in
      record {
        bytes = f.bytes;
        read = f.read;
        safe = f.good.text;
      }

  pub tried_run : GoodTrialsAreSafe → (n : ℕ) → command ≡ Some (trial n) → status ≡ Good
      → IsProvedText default_budget (trial_text n)
  tried_run safe n t e = by run
    where
      none-read : (got : List Fetched) (o : Output) → IsOutput (Some (trial n)) got o → IsTrial n o
      none-read [] o h = h
      none-read (x ∷ xs) o h = absurd h

      by : Runs → IsProvedText default_budget (trial_text n)
      by (inr m) = let f : NoMemory ≡ Good = sym m.0 ∙ e in absurd cc
      by (inl (o, said, inl p)) =
          safe n o (none-read said.got o (subst (λ x. IsOutput x said.got o) t said.output.said)) (sym p.0 ∙ e)
      by (inl (o, said, inr p)) = let f : WriteFault ≡ Good = sym p.0 ∙ e in absurd cc

  pub tries_run : ¬ Rose sink.faults sink_now.faults → (n : ℕ) → command ≡ Some (trial n)
      → IsProvedText default_budget (trial_text n) → (status ≡ Good) ⊎ (status ≡ NoMemory)
  tries_run wrote n t h = by run
    where
      p : PlainProgram
      p = h.text.program

      q : Output
      q = trial_output n (proved_count p default_budget) (length (units p))

      is : IsTrial n q
      is = inr (record {
        thing = p;
        is_so = record { tree = h.text.tree; spelled = h.text.spelled; stands = h.text.stands };
        said = refl;
      })

      good : q.status ≡ Good
      good = ap report_status h.proved

      said-so : (got : List Fetched) (o : Output) → IsOnlyOutput (IsOutput (Some (trial n))) got o → o ≡ q
      said-so [] o k = k.only [] q tt is
      said-so (x ∷ xs) o k = absurd k.said

      by : Runs → (status ≡ Good) ⊎ (status ≡ NoMemory)
      by (inr m) = inr m.0
      by (inl (o, said, inl put)) =
          let k = said-so said.got o (subst (λ x. IsOnlyOutput (IsOutput x) said.got o) t (record { said = said.output.said; only = said.output.only })) in
          inl (put.0 ∙ (same_status o q k ∙ good))
      by (inl (o, said, inr put)) = absurd (wrote put.1)

  -- an answer with status 1 was put whole
  ended_badly : {A : Type 0} → status ≡ Bad
      → ((o : Output) → IsSaid shelf shelf_now command o → o.status ≡ Bad → Gains sink.written sink_now.written o.text → A) → A
  ended_badly {A} e f = by run
    where
      by : Runs → A
      by (inr m) = let g : NoMemory ≡ Bad = sym m.0 ∙ e in absurd cc
      by (inl (o, said, inl p)) = f o said (sym p.0 ∙ e) p.1
      by (inl (o, said, inr p)) = let g : WriteFault ≡ Bad = sym p.0 ∙ e in absurd cc

  pub empty_run : EmptyAnswersHaveNoStart IsVerified → (name : List ℕ) (budget : ℕ) → command ≡ Some (verify name budget) → status ≡ Bad
      → FailsFile (IsVerified budget) shelf shelf_now name sink sink_now
  empty_run law name budget t e = ended_badly e (λ o said b g.
      failed_by shelf shelf_now name o (IsVerified budget) (λ bytes. law budget bytes o) sink sink_now said.got
      (subst (λ x. AreRead shelf shelf_now (files_of x) said.got) t said.read)
      (subst (λ x. IsOutput x said.got o) t said.output.said) b g)

  pub derive_empty_run : EmptyAnswersHaveNoStart IsDerived → (name : List ℕ) (budget : ℕ) → command ≡ Some (derive name budget) → status ≡ Bad
      → FailsFile (IsDerived budget) shelf shelf_now name sink sink_now
  derive_empty_run law name budget t e = ended_badly e (λ o said b g.
      failed_by shelf shelf_now name o (IsDerived budget) (λ bytes. law budget bytes o) sink sink_now said.got
      (subst (λ x. AreRead shelf shelf_now (files_of x) said.got) t said.read)
      (subst (λ x. IsOutput x said.got o) t said.output.said) b g)

  pub strays_run : StraysFault → SafeTextsHaveNoStray → (name : List ℕ) (number count : ℕ)
      → command ≡ Some (stray name number count) → status ≡ Bad → StraysFile shelf shelf_now name sink sink_now
  strays_run fault none name number count t e = ended_badly e (λ o said b g.
      strays_by shelf shelf_now name o fault none number count sink sink_now said.got
      (subst (λ x. AreRead shelf shelf_now (files_of x) said.got) t said.read)
      (subst (λ x. IsOnlyOutput (IsOutput x) said.got o) t (record { said = said.output.said; only = said.output.only })) b g)

  pub cored_run : CoresAreTold → (name : List ℕ) → command ≡ Some (core name) → (status ≡ Good) ⊎ (status ≡ Bad)
      → CoresFile shelf shelf_now name sink sink_now status
  cored_run told name t e = by run
    where
      by : Runs → CoresFile shelf shelf_now name sink sink_now status
      by (inr m) = absurd (subst IsVerdict m.0 (verdict-of status e))
      by (inl (o, said, inl p)) =
          subst (CoresFile shelf shelf_now name sink sink_now) (sym p.0)
          (cores_by shelf shelf_now name o told sink sink_now said.got
          (subst (λ x. AreRead shelf shelf_now (files_of x) said.got) t said.read)
          (subst (λ x. IsOutput x said.got o) t said.output.said)
          (subst (λ s. (s ≡ Good) ⊎ (s ≡ Bad)) p.0 e) p.1)
      by (inl (o, said, inr p)) = absurd (subst IsVerdict p.0 (verdict-of status e))

  pub derived_run : DerivedAreAccepted → (name : List ℕ) (budget : ℕ) → command ≡ Some (derive name budget) → status ≡ Good
      → DerivesFile shelf shelf_now budget name sink sink_now
  derived_run accepts name budget t e = by run
    where
      by : Runs → DerivesFile shelf shelf_now budget name sink sink_now
      by (inr m) = let f : NoMemory ≡ Good = sym m.0 ∙ e in absurd cc
      by (inl (o, said, inl p)) =
          derived_by shelf shelf_now name o accepts budget sink sink_now said.got
          (subst (λ x. AreRead shelf shelf_now (files_of x) said.got) t said.read)
          (subst (λ x. IsOutput x said.got o) t said.output.said) (sym p.0 ∙ e) p.1
      by (inl (o, said, inr p)) = let f : WriteFault ≡ Good = sym p.0 ∙ e in absurd cc

  pub accepted_run : AcceptedAreSafe → (file derivation : List ℕ) → command ≡ Some (check file derivation) → status ≡ Good
      → ChecksFiles shelf shelf_now file derivation
  accepted_run safe file derivation t e = by run
    where
      by : Runs → ChecksFiles shelf shelf_now file derivation
      by (inr m) = let f : NoMemory ≡ Good = sym m.0 ∙ e in absurd cc
      by (inl (o, said, inl p)) =
          accepted_by shelf shelf_now file derivation o safe said.got
          (subst (λ x. AreRead shelf shelf_now (files_of x) said.got) t said.read)
          (subst (λ x. IsOutput x said.got o) t said.output.said) (sym p.0 ∙ e)
      by (inl (o, said, inr p)) = let f : WriteFault ≡ Good = sym p.0 ∙ e in absurd cc

  pub outlined_run : OutlinesAreTold → (file derivation : List ℕ) → command ≡ Some (outline file derivation) → status ≡ Good
      → OutlinesFiles shelf shelf_now file derivation sink sink_now
  outlined_run told file derivation t e = by run
    where
      by : Runs → OutlinesFiles shelf shelf_now file derivation sink sink_now
      by (inr m) = let f : NoMemory ≡ Good = sym m.0 ∙ e in absurd cc
      by (inl (o, said, inl p)) =
          outlined_by shelf shelf_now sink sink_now file derivation o told said.got
          (subst (λ x. AreRead shelf shelf_now (files_of x) said.got) t said.read)
          (subst (λ x. IsOutput x said.got o) t said.output.said) (sym p.0 ∙ e) p.1
      by (inl (o, said, inr p)) = let f : WriteFault ≡ Good = sym p.0 ∙ e in absurd cc

  pub shown_run : (name : List ℕ) → command ≡ Some (show name) → status ≡ Good → ShowsFile shelf shelf_now name sink sink_now
  shown_run name t e = by run
    where
      by : Runs → ShowsFile shelf shelf_now name sink sink_now
      by (inr m) = let f : NoMemory ≡ Good = sym m.0 ∙ e in absurd cc
      by (inl (o, said, inl p)) =
          shown_by shelf shelf_now name o sink sink_now said.got
          (subst (λ x. AreRead shelf shelf_now (files_of x) said.got) t said.read)
          (subst (λ x. IsOutput x said.got o) t said.output.said) (sym p.0 ∙ e) p.1
      by (inl (o, said, inr p)) = let f : WriteFault ≡ Good = sym p.0 ∙ e in absurd cc

  pub replayed_run : (file schedule : List ℕ) → command ≡ Some (replay file schedule) → EndsRun status
      → ReplaysFiles shelf shelf_now file schedule sink sink_now status
  replayed_run file schedule t r = by run
    where
      by : Runs → ReplaysFiles shelf shelf_now file schedule sink sink_now status
      by (inr m) = absurd (subst EndsRun m.0 r)
      by (inl (o, said, inl p)) =
          subst (ReplaysFiles shelf shelf_now file schedule sink sink_now) (sym p.0)
          (replays_by shelf shelf_now sink sink_now file schedule said.got o
          (subst (λ x. AreRead shelf shelf_now (files_of x) said.got) t said.read)
          (subst (λ x. IsOutput x said.got o) t said.output.said) (subst EndsRun p.0 r) p.1)
      by (inl (o, said, inr p)) = absurd (subst EndsRun p.0 r)

  pub owned_run : OwnersAreTold → (file derivation schedule : List ℕ) → command ≡ Some (owners file derivation schedule) → EndsRun status
      → OwnsFiles shelf shelf_now file derivation schedule sink sink_now status
      ⊎ RejectsFiles shelf shelf_now file derivation schedule sink sink_now status
  owned_run told file derivation schedule t r = by run
    where
      by : Runs → OwnsOrRejects shelf shelf_now sink sink_now file derivation schedule status
      by (inr m) = absurd (subst EndsRun m.0 r)
      by (inl (o, said, inl p)) =
          subst (OwnsOrRejects shelf shelf_now sink sink_now file derivation schedule) (sym p.0)
          (owns_by shelf shelf_now sink sink_now file derivation schedule told said.got o
          (subst (λ x. AreRead shelf shelf_now (files_of x) said.got) t said.read)
          (subst (λ x. IsOutput x said.got o) t said.output.said) (subst EndsRun p.0 r) p.1)
      by (inl (o, said, inr p)) = absurd (subst EndsRun p.0 r)

  pub ends_run : Ends command shelf shelf_now sink sink_now status
  ends_run = by run
    where
      by : Runs → Ends command shelf shelf_now sink sink_now status
      by (inr m) = inr m
      by (inl (o, said, p)) = inl (said.got, said.read, (o, said.output.said, p))

  pub usage_run : status ≡ Usage → command ≡ None
  usage_run e = by run
    where
      by : Runs → command ≡ None
      by (inr m) = let f : NoMemory ≡ Usage = sym m.0 ∙ e in absurd cc
      by (inl (o, said, inl p)) = final_usage shelf shelf_now command o.status (ended_as o said) (sym p.0 ∙ e)
      by (inl (o, said, inr p)) = let f : WriteFault ≡ Usage = sym p.0 ∙ e in absurd cc

  pub command_run : command ≡ None → (status ≡ Usage) ⊎ ((status ≡ WriteFault) ⊎ (status ≡ NoMemory))
  command_run t = by run
    where
      by : Runs → (status ≡ Usage) ⊎ ((status ≡ WriteFault) ⊎ (status ≡ NoMemory))
      by (inr m) = inr (inr m.0)
      by (inl (o, said, inl p)) =
          inl (p.0 ∙ subst (λ x. IsFinal shelf shelf_now x o.status) t (ended_as o said))
      by (inl (o, said, inr p)) = inr (inl p.0)

  pub read_run : status ≡ ReadFault → ReadFails command shelf shelf_now
  read_run e = by run
    where
      by : Runs → ReadFails command shelf shelf_now
      by (inr m) = let f : NoMemory ≡ ReadFault = sym m.0 ∙ e in absurd cc
      by (inl (o, said, inl p)) = final_read shelf shelf_now command o.status (ended_as o said) (sym p.0 ∙ e)
      by (inl (o, said, inr p)) = let f : WriteFault ≡ ReadFault = sym p.0 ∙ e in absurd cc

  pub write_run : status ≡ WriteFault → Rose sink.faults sink_now.faults
  write_run e = by run
    where
      by : Runs → Rose sink.faults sink_now.faults
      by (inr m) = let f : NoMemory ≡ WriteFault = sym m.0 ∙ e in absurd cc
      by (inl (o, said, inl p)) = absurd (final_writes shelf shelf_now command o.status (ended_as o said) (sym p.0 ∙ e))
      by (inl (o, said, inr p)) = p.1

  pub memory_run : status ≡ NoMemory → sink_now.written ≡ sink.written
  memory_run e = by run
    where
      by : Runs → sink_now.written ≡ sink.written
      by (inr m) = m.1
      by (inl (o, said, inl p)) = absurd (final_memory shelf shelf_now command o.status (ended_as o said) (sym p.0 ∙ e))
      by (inl (o, said, inr p)) = let f : WriteFault ≡ NoMemory = sym p.0 ∙ e in absurd cc

-- ---- over files that are told, where no fault comes

module _ (files : Files) (command : Option PlainCommand) (shelf shelf_now : SeenShelf)
    (told : shelf.holds ≡ Some files) (sink sink_now : SeenSink) (status : Status)
    (run : IsRun command shelf shelf_now sink sink_now status)
    (read : ¬ Rose shelf.faults shelf_now.faults) (wrote : ¬ Rose sink.faults sink_now.faults) where
  abbrev RunsOver : Type 0
  RunsOver = IsRun command shelf shelf_now sink sink_now status

  some_told : SaysOutput command files sink sink_now status ⊎ (status ≡ NoMemory)
  some_told = by run
    where
      by : RunsOver → SaysOutput command files sink sink_now status ⊎ (status ≡ NoMemory)
      by (inr m) = inr m.0
      by (inl (p, said, inl put)) =
          let given = were-given files shelf shelf_now told read (files_of command) said.got said.read.fetched in
          inl (record { got = said.got; given = given; said = p; output = said.output.said }, put)
      by (inl (p, said, inr put)) = absurd (wrote put.1)

  each_told : (got : List Fetched) (o : Output) → AreGiven files (files_of command) got → IsOutput command got o
      → Says sink sink_now status o ⊎ (status ≡ NoMemory)
  each_told got o g h = by run
    where
      by : RunsOver → Says sink sink_now status o ⊎ (status ≡ NoMemory)
      by (inr m) = inr m.0
      by (inl (p, said, inl put)) =
          let agree = agree-given files shelf shelf_now told read (files_of command) said.got got said.read.fetched g in
          inl (subst (Says sink sink_now status) (said.output.only got o agree h) put)
      by (inl (p, said, inr put)) = absurd (wrote put.1)

  answers_told : AnswersFiles command files sink sink_now status
  answers_told = record { some = some_told; each = each_told }

  one-file : (name bytes : List ℕ) → content files name ≡ Some bytes → length bytes ≤ longest
      → AreGiven files (name ∷ []) (held bytes ∷ [])
  one-file name bytes e l = (held-given (content files name) bytes e l, tt)

  short : (bytes : List ℕ) (t : ProgramTree) → Spells bytes t → length bytes ≤ longest
  short bytes t s = omega (arith, s.fits)

  good_status : (o : Output) → o.status ≡ Good → Says sink sink_now status o ⊎ (status ≡ NoMemory)
      → (status ≡ Good) ⊎ (status ≡ NoMemory)
  good_status o e (inl s) = inl (s.0 ∙ e)
  good_status o e (inr m) = inr m

  proved_told : (name : List ℕ) (budget : ℕ) → command ≡ Some (verify name budget) → HoldsGood budget name files → (status ≡ Good) ⊎ (status ≡ NoMemory)
  proved_told name budget t h =
      let o : Output = report_output true (report_text h.good.text.program budget) in
      let is : IsVerified budget h.bytes o = inr (record {
        thing = h.good.text.program;
        is_so = record { tree = h.good.text.tree; spelled = h.good.text.spelled; stands = h.good.text.stands };
        said = ap (λ b. report_output b (report_text h.good.text.program budget)) (sym h.good.proved);
      }) in
      good_status o refl
      (each_told (held h.bytes ∷ []) o
      (subst (λ x. AreGiven files (files_of x) (held h.bytes ∷ [])) (sym t) (one-file name h.bytes h.held (short h.bytes h.good.text.tree h.good.text.spelled)))
      (subst (λ x. IsOutput x (held h.bytes ∷ []) o) (sym t) is))

  spares_told : SafeProgramsHaveNone → (name : List ℕ) (number count : ℕ) → command ≡ Some (stray name number count)
      → HoldsSafe name files → (status ≡ Good) ⊎ (status ≡ NoMemory)
  spares_told none name number count t h =
      let p : PlainProgram = h.text.program in
      let o : Output = drawn_output count (first_fault p count (seeded number)) in
      let is : IsStrayed number count h.bytes o = inr (record {
        thing = p;
        is_so = record { tree = h.text.tree; spelled = h.text.spelled; stands = h.text.stands };
        said = inr (h.asks, refl);
      }) in
      good_status o (ap (λ x. (drawn_output count x).status) (none p count (seeded number) h.asks h.text.safe))
      (each_told (held h.bytes ∷ []) o
      (subst (λ x. AreGiven files (files_of x) (held h.bytes ∷ [])) (sym t) (one-file name h.bytes h.held (short h.bytes h.text.tree h.text.spelled)))
      (subst (λ x. IsOutput x (held h.bytes ∷ []) o) (sym t) is))

  shows_told : (name text : List ℕ) → command ≡ Some (show name) → HoldsTree name text files → (status ≡ Good) ⊎ (status ≡ NoMemory)
  shows_told name text t h =
      let o : Output = tree_output (canonical_text h.shown.tree) in
      let is : IsShown h.bytes o = inr (record { thing = h.shown.tree; is_so = h.shown.spelled; said = refl }) in
      good_status o refl
      (each_told (held h.bytes ∷ []) o
      (subst (λ x. AreGiven files (files_of x) (held h.bytes ∷ [])) (sym t) (one-file name h.bytes h.held (short h.bytes h.shown.tree h.shown.spelled)))
      (subst (λ x. IsOutput x (held h.bytes ∷ []) o) (sym t) is))

  accepts_told : (file derivation : List ℕ) → command ≡ Some (check file derivation) → HoldAccepted file derivation files
      → (status ≡ Good) ⊎ (status ≡ NoMemory)
  accepts_told file derivation t h =
      let o : Output = judged_output (Ok h.accepted.nodes) in
      let got : List Fetched = held h.bytes ∷ (held h.lines ∷ []) in
      let given : AreGiven files (file ∷ (derivation ∷ [])) got = (
        held-given (content files file) h.bytes h.held (short h.bytes h.text_of_it.tree h.text_of_it.spelled),
        (held-given (content files derivation) h.lines h.lines_held h.short, tt),
      ) in
      let is : IsOutput (Some (check file derivation)) got o = record {
        bytes = h.bytes;
        gave = refl;
        program = h.program;
        text_of_it = record { tree = h.text_of_it.tree; spelled = h.text_of_it.spelled; stands = h.text_of_it.stands };
        said = h.accepted.checked.said;
      } in
      good_status o refl
      (each_told got o
      (subst (λ x. AreGiven files (files_of x) got) (sym t) given)
      (subst (λ x. IsOutput x got o) (sym t) is))

  outlines_told : CheckedAreOutlined → (file derivation : List ℕ) → command ≡ Some (outline file derivation)
      → HoldAccepted file derivation files → (status ≡ Good) ⊎ (status ≡ NoMemory)
  outlines_told outlines file derivation t h =
      let k = outlines h.program h.lines (judged_output (Ok h.accepted.nodes)) h.accepted.checked.said in
      let got : List Fetched = held h.bytes ∷ (held h.lines ∷ []) in
      let given : AreGiven files (file ∷ (derivation ∷ [])) got = (
        held-given (content files file) h.bytes h.held (short h.bytes h.text_of_it.tree h.text_of_it.spelled),
        (held-given (content files derivation) h.lines h.lines_held h.short, tt),
      ) in
      let is : IsOutput (Some (outline file derivation)) got k.0 = record {
        bytes = h.bytes;
        gave = refl;
        program = h.program;
        text_of_it = record { tree = h.text_of_it.tree; spelled = h.text_of_it.spelled; stands = h.text_of_it.stands };
        said = k.1;
      } in
      good_status k.0 k.2
      (each_told got k.0
      (subst (λ x. AreGiven files (files_of x) got) (sym t) given)
      (subst (λ x. IsOutput x got k.0) (sym t) is))

  -- the status is that of what is written of the run, or memory ran out
  owners_status : (r : Option RunText) → (status ≡ (owners_output r).status) → (status ≡ Refused) ↔ (r ≡ None)
  owners_status None e = (λ _. refl, λ _. e)
  owners_status (Some r) e = (λ f. absurd (not-refused r.end (sym e ∙ f)), λ f. absurd (some-none r f))
    where
      not-refused : (x : End) → end_status x ≡ Refused → ⊥
      not-refused (ends.Ended k) f = let g : Good ≡ Refused = f in cc
      not-refused (ends.Stopped k) f = let g : Bad ≡ Refused = f in cc
      not-refused (ends.NotEnabled k) f = let g : NotEnabled ≡ Refused = f in cc
      not-refused (ends.Wide k) f = let g : Wide ≡ Refused = f in cc

      some-none : (x : RunText) → Some x ≡ None → ⊥
      some-none x f = cc

  owns_told : AcceptedHaveTrees → RefusedStartsAreNone → (file derivation schedule : List ℕ)
      → command ≡ Some (owners file derivation schedule) → (h : HoldRun file derivation schedule files)
      → EndsOwners h.accepted.program h.accepted.lines h.has.schedule status ⊎ (status ≡ NoMemory)
  owns_told have none file derivation schedule t h = by (each_told got o
      (subst (λ x. AreGiven files (files_of x) got) (sym t) given)
      (subst (λ x. IsOutput x got o) (sym t) is))
    where
      a : HoldAccepted file derivation files
      a = h.accepted

      valid : AreLinesOfValid a.program a.lines
      valid = have a.program a.lines a.accepted

      r : Option RunText
      r = owned_along a.program valid.trees h.has.schedule

      o : Output
      o = owners_output r

      got : List Fetched
      got = held a.bytes ∷ (held a.lines ∷ (held h.entries ∷ []))

      given : AreGiven files (file ∷ (derivation ∷ (schedule ∷ []))) got
      given = (
        held-given (content files file) a.bytes a.held (short a.bytes a.text_of_it.tree a.text_of_it.spelled),
        (
          held-given (content files derivation) a.lines a.lines_held a.short,
          (held-given (content files schedule) h.entries h.entries_held h.entries_short, tt),
        ),
      )

      is : IsOutput (Some (owners file derivation schedule)) got o
      is = record {
        bytes = a.bytes;
        gave = refl;
        program = a.program;
        text_of_it = record { tree = a.text_of_it.tree; spelled = a.text_of_it.spelled; stands = a.text_of_it.stands };
        said = record {
          lines = a.lines;
          gave = refl;
          trees = length valid.trees;
          choices = preorder valid.trees;
          told = valid.told;
          said = inr (inr (record {
            trees = valid.trees;
            valid = valid.valid;
            many = refl;
            choices = refl;
            has = record { schedule = h.has.schedule; reads = h.has.reads; takes = h.has.takes };
            whole = refl;
          }));
        };
      }

      by : Says sink sink_now status o ⊎ (status ≡ NoMemory)
          → EndsOwners a.program a.lines h.has.schedule status ⊎ (status ≡ NoMemory)
      by (inr m) = inr m
      by (inl s) = inl (record {
        valid = record { trees = valid.trees; told = valid.told; valid = valid.valid };
        ended = s.0;
        refused = owners_status r s.0;
        no_start = λ e. none a.program valid.trees h.has.schedule h.has.takes ((owners_status r s.0).0 e);
      })

  -- ---- what is said of bytes that are no text for the command

  -- what is said of a file that gives such bytes, or more than a file may have
  refused_after : (IsSaid : List ℕ → Output → Type 0) (name bytes : List ℕ) (x : Fetched) (o : Output)
      → (IsSaid bytes o → o.status ≡ Refused) → given_by (Some bytes) ≡ x → After name x IsSaid o → o.status ≡ Refused
  refused_after IsSaid name bytes (held other) o f e h =
      f (subst (λ b. IsSaid b o) (sym (given-held bytes other e)) h)
  refused_after IsSaid name bytes unread o f e h = absurd (given-unread bytes e)
  refused_after IsSaid name bytes long o f e h = same_status o long_output h

  refused_cause : (IsCaused : Refusal → Type 0) (o : Output) → SaysCause IsCaused o → o.status ≡ Refused
  refused_cause IsCaused o c = same_status o (refusal_output c.cause) c.whole

  refused_program : (budget : ℕ) (bytes : List ℕ) (o : Output) → ((p : PlainProgram) → IsTextOf bytes p → ⊥)
      → IsVerified budget bytes o → o.status ≡ Refused
  refused_program budget bytes o n (inl c) = refused_cause (IsRefused bytes) o c
  refused_program budget bytes o n (inr s) = absurd (n s.thing s.is_so)

  refused_derived : (budget : ℕ) (bytes : List ℕ) (o : Output) → ((p : PlainProgram) → IsTextOf bytes p → ⊥)
      → IsDerived budget bytes o → o.status ≡ Refused
  refused_derived budget bytes o n (inl c) = refused_cause (IsRefused bytes) o c
  refused_derived budget bytes o n (inr s) = absurd (n s.thing s.is_so)

  refused_strayed : (number count : ℕ) (bytes : List ℕ) (o : Output) → ((p : PlainProgram) → IsTextOf bytes p → ⊥)
      → IsStrayed number count bytes o → o.status ≡ Refused
  refused_strayed number count bytes o n (inl c) = refused_cause (IsRefused bytes) o c
  refused_strayed number count bytes o n (inr s) = absurd (n s.thing s.is_so)

  refused_cored : (bytes : List ℕ) (o : Output) → ((p : PlainProgram) → IsTextOf bytes p → ⊥)
      → IsCored bytes o → o.status ≡ Refused
  refused_cored bytes o n (inl c) = refused_cause (IsRefused bytes) o c
  refused_cored bytes o n (inr s) = absurd (n s.thing s.is_so)

  refused_tree : (bytes : List ℕ) (o : Output) → ((t : ProgramTree) → Spells bytes t → ⊥)
      → IsShown bytes o → o.status ≡ Refused
  refused_tree bytes o n (inl c) = refused_cause (SpellNone bytes) o c
  refused_tree bytes o n (inr s) = absurd (n s.thing s.is_so)

  first_gives : (a b : List ℕ) (ns ms : List (List ℕ)) (x : Fetched) (xs : List Fetched) → a ∷ ns ≡ b ∷ ms
      → (bytes : List ℕ) → content files b ≡ Some bytes
      → AreFetched shelf shelf_now (a ∷ ns) (x ∷ xs) → given_by (Some bytes) ≡ x
  first_gives a b ns ms x xs e bytes c f =
      let same : a ≡ b = cc in
      sym (ap given_by c) ∙ (ap (λ n. given_by (content files n)) (sym same) ∙ first-given files shelf shelf_now told read a ns x xs f)

  refused_output : (t : PlainCommand) (name : List ℕ) (names : List (List ℕ)) (bytes : List ℕ) (got : List Fetched) (o : Output)
      → files_of (Some t) ≡ name ∷ names → content files name ≡ Some bytes → (IsTextFor t bytes → ⊥)
      → AreFetched shelf shelf_now (files_of (Some t)) got
      → IsOutput (Some t) got o → o.status ≡ Refused
  refused_output (verify file budget) name names bytes (x ∷ []) o e c n f h =
      refused_after (IsVerified budget) file bytes x o
      (refused_program budget bytes o (λ p t. n (p, t)))
      (first_gives file name [] names x [] e bytes c f) h
  refused_output (derive file budget) name names bytes (x ∷ []) o e c n f h =
      refused_after (IsDerived budget) file bytes x o
      (refused_derived budget bytes o (λ p t. n (p, t)))
      (first_gives file name [] names x [] e bytes c f) h
  refused_output (check file s) name names bytes (x ∷ []) o e c n f h =
      refused_after SaysRefusal file bytes x o (λ k. refused_cause (IsRefused bytes) o k)
      (first_gives file name (s ∷ []) names x [] e bytes c f) h
  refused_output (check file s) name names bytes (x ∷ (y ∷ [])) o e c n f h =
      let g : given_by (Some bytes) ≡ held h.bytes = first_gives file name (s ∷ []) names x (y ∷ []) e bytes c f ∙ h.gave in
      let same : bytes ≡ h.bytes = given-held bytes h.bytes g in
      absurd (n (h.program, subst (λ b. IsTextOf b h.program) (sym same) h.text_of_it))
  refused_output (derive file budget) name names bytes [] o e c n f h = absurd h
  refused_output (derive file budget) name names bytes (x ∷ (y ∷ ys)) o e c n f h = absurd h
  refused_output (check file s) name names bytes [] o e c n f h = absurd h
  refused_output (check file s) name names bytes (x ∷ (y ∷ (z ∷ zs))) o e c n f h = absurd h
  refused_output (show file) name names bytes (x ∷ []) o e c n f h =
      refused_after IsShown file bytes x o
      (refused_tree bytes o (λ p t. n (p, t)))
      (first_gives file name [] names x [] e bytes c f) h
  refused_output (replay file s) name names bytes (x ∷ []) o e c n f h =
      refused_after SaysRefusal file bytes x o (λ k. refused_cause (IsRefused bytes) o k)
      (first_gives file name (s ∷ []) names x [] e bytes c f) h
  refused_output (replay file s) name names bytes (x ∷ (y ∷ [])) o e c n f h =
      let g : given_by (Some bytes) ≡ held h.bytes = first_gives file name (s ∷ []) names x (y ∷ []) e bytes c f ∙ h.gave in
      let same : bytes ≡ h.bytes = given-held bytes h.bytes g in
      absurd (n (h.program, subst (λ b. IsTextOf b h.program) (sym same) h.text_of_it))
  refused_output (outline file s) name names bytes (x ∷ []) o e c n f h =
      refused_after SaysRefusal file bytes x o (λ k. refused_cause (IsRefused bytes) o k)
      (first_gives file name (s ∷ []) names x [] e bytes c f) h
  refused_output (outline file s) name names bytes (x ∷ (y ∷ [])) o e c n f h =
      let g : given_by (Some bytes) ≡ held h.bytes = first_gives file name (s ∷ []) names x (y ∷ []) e bytes c f ∙ h.gave in
      let same : bytes ≡ h.bytes = given-held bytes h.bytes g in
      absurd (n (h.program, subst (λ b. IsTextOf b h.program) (sym same) h.text_of_it))
  refused_output (outline file s) name names bytes [] o e c n f h = absurd h
  refused_output (outline file s) name names bytes (x ∷ (y ∷ (z ∷ zs))) o e c n f h = absurd h
  refused_output (owners file s u) name names bytes (x ∷ []) o e c n f h =
      refused_after SaysRefusal file bytes x o (λ k. refused_cause (IsRefused bytes) o k)
      (first_gives file name (s ∷ (u ∷ [])) names x [] e bytes c f) h
  refused_output (owners file s u) name names bytes (x ∷ (y ∷ [])) o e c n f h =
      let g : given_by (Some bytes) ≡ held h.bytes = first_gives file name (s ∷ (u ∷ [])) names x (y ∷ []) e bytes c f ∙ h.gave in
      let same : bytes ≡ h.bytes = given-held bytes h.bytes g in
      absurd (n (h.program, subst (λ b. IsTextOf b h.program) (sym same) h.text_of_it))
  refused_output (owners file s u) name names bytes (x ∷ (y ∷ (z ∷ []))) o e c n f h =
      let g : given_by (Some bytes) ≡ held h.bytes = first_gives file name (s ∷ (u ∷ [])) names x (y ∷ (z ∷ [])) e bytes c f ∙ h.gave in
      let same : bytes ≡ h.bytes = given-held bytes h.bytes g in
      absurd (n (h.program, subst (λ b. IsTextOf b h.program) (sym same) h.text_of_it))
  refused_output (owners file s u) name names bytes [] o e c n f h = absurd h
  refused_output (owners file s u) name names bytes (x ∷ (y ∷ (z ∷ (w ∷ ws)))) o e c n f h = absurd h
  refused_output (stray file number count) name names bytes (x ∷ []) o e c n f h =
      refused_after (IsStrayed number count) file bytes x o
      (refused_strayed number count bytes o (λ p t. n (p, t)))
      (first_gives file name [] names x [] e bytes c f) h
  refused_output (stray file number count) name names bytes [] o e c n f h = absurd h
  refused_output (stray file number count) name names bytes (x ∷ (y ∷ ys)) o e c n f h = absurd h
  refused_output (core file) name names bytes (x ∷ []) o e c n f h =
      refused_after IsCored file bytes x o
      (refused_cored bytes o (λ p t. n (p, t)))
      (first_gives file name [] names x [] e bytes c f) h
  refused_output (core file) name names bytes [] o e c n f h = absurd h
  refused_output (core file) name names bytes (x ∷ (y ∷ ys)) o e c n f h = absurd h
  refused_output (trial k) name names bytes got o e c n f h = let none : [] ≡ name ∷ names = e in absurd cc
  refused_output (verify file budget) name names bytes [] o e c n f h = absurd h
  refused_output (verify file budget) name names bytes (x ∷ (y ∷ ys)) o e c n f h = absurd h
  refused_output (show file) name names bytes [] o e c n f h = absurd h
  refused_output (show file) name names bytes (x ∷ (y ∷ ys)) o e c n f h = absurd h
  refused_output (replay file s) name names bytes [] o e c n f h = absurd h
  refused_output (replay file s) name names bytes (x ∷ (y ∷ (z ∷ zs))) o e c n f h = absurd h

  refuses_told : Refuses command files status
  refuses_told t name names bytes e f c n = by run
    where
      by : RunsOver → (status ≡ Refused) ⊎ (status ≡ NoMemory)
      by (inr m) = inr m.0
      by (inl (p, said, inl put)) =
          inl (put.0 ∙ refused_output t name names bytes said.got p (ap files_of (sym e) ∙ f) c n
          (subst (λ y. AreFetched shelf shelf_now (files_of y) said.got) e said.read.fetched)
          (subst (λ y. IsOutput y said.got p) e said.output.said))
      by (inl (p, said, inr put)) = absurd (wrote put.1)

-- ---- the same over any shelf

told-some : (o : Option Files) (Q : Files → Type 0) → ((files : Files) → o ≡ Some files → Q files) → IfSome o Q
told-some None Q f = tt
told-some (Some files) Q f = f files refl

module _ (command : Option PlainCommand) (shelf shelf_now : SeenShelf) (sink sink_now : SeenSink) (status : Status)
    (run : IsRun command shelf shelf_now sink sink_now status) where
  -- what is said where the shelf tells its files, and no fault comes
  abbrev Over : (Files → Type 0) → Type 0
  Over P = IfSome shelf.holds (λ files. NoFault shelf shelf_now sink sink_now → P files)

  over : (P : Files → Type 0)
      → ((files : Files) → shelf.holds ≡ Some files → NoFault shelf shelf_now sink sink_now → P files) → Over P
  over P f = told-some shelf.holds (λ files. NoFault shelf shelf_now sink sink_now → P files) f

  pub answers_run : Over (λ files. AnswersFiles command files sink sink_now status)
  answers_run = over (λ files. AnswersFiles command files sink sink_now status)
      (λ files e n. answers_told files command shelf shelf_now e sink sink_now status run n.0 n.1)

  pub proved_run : Over (λ files. (name : List ℕ) (budget : ℕ) → command ≡ Some (verify name budget)
      → HoldsGood budget name files → (status ≡ Good) ⊎ (status ≡ NoMemory))
  proved_run = over (λ files. (name : List ℕ) (budget : ℕ) → command ≡ Some (verify name budget)
      → HoldsGood budget name files → (status ≡ Good) ⊎ (status ≡ NoMemory))
      (λ files e n. proved_told files command shelf shelf_now e sink sink_now status run n.0 n.1)

  pub accepts_run : Over (λ files. (file derivation : List ℕ) → command ≡ Some (check file derivation)
      → HoldAccepted file derivation files → (status ≡ Good) ⊎ (status ≡ NoMemory))
  accepts_run = over (λ files. (file derivation : List ℕ) → command ≡ Some (check file derivation)
      → HoldAccepted file derivation files → (status ≡ Good) ⊎ (status ≡ NoMemory))
      (λ files e n. accepts_told files command shelf shelf_now e sink sink_now status run n.0 n.1)

  pub outlines_run : CheckedAreOutlined → Over (λ files. (file derivation : List ℕ) → command ≡ Some (outline file derivation)
      → HoldAccepted file derivation files → (status ≡ Good) ⊎ (status ≡ NoMemory))
  outlines_run outlines = over (λ files. (file derivation : List ℕ) → command ≡ Some (outline file derivation)
      → HoldAccepted file derivation files → (status ≡ Good) ⊎ (status ≡ NoMemory))
      (λ files e n. outlines_told files command shelf shelf_now e sink sink_now status run n.0 n.1 outlines)

  pub owns_run : AcceptedHaveTrees → RefusedStartsAreNone → Over (λ files. (file derivation schedule : List ℕ)
      → command ≡ Some (owners file derivation schedule) → (h : HoldRun file derivation schedule files)
      → EndsOwners h.accepted.program h.accepted.lines h.has.schedule status ⊎ (status ≡ NoMemory))
  owns_run have none = over (λ files. (file derivation schedule : List ℕ)
      → command ≡ Some (owners file derivation schedule) → (h : HoldRun file derivation schedule files)
      → EndsOwners h.accepted.program h.accepted.lines h.has.schedule status ⊎ (status ≡ NoMemory))
      (λ files e n. owns_told files command shelf shelf_now e sink sink_now status run n.0 n.1 have none)

  pub spares_run : SafeProgramsHaveNone → Over (λ files. (name : List ℕ) (number count : ℕ)
      → command ≡ Some (stray name number count) → HoldsSafe name files → (status ≡ Good) ⊎ (status ≡ NoMemory))
  spares_run none = over (λ files. (name : List ℕ) (number count : ℕ)
      → command ≡ Some (stray name number count) → HoldsSafe name files → (status ≡ Good) ⊎ (status ≡ NoMemory))
      (λ files e n. spares_told files command shelf shelf_now e sink sink_now status run n.0 n.1 none)

  pub shows_run : Over (λ files. (name text : List ℕ) → command ≡ Some (show name)
      → HoldsTree name text files → (status ≡ Good) ⊎ (status ≡ NoMemory))
  shows_run = over (λ files. (name text : List ℕ) → command ≡ Some (show name)
      → HoldsTree name text files → (status ≡ Good) ⊎ (status ≡ NoMemory))
      (λ files e n. shows_told files command shelf shelf_now e sink sink_now status run n.0 n.1)

  pub refuses_run : Over (λ files. Refuses command files status)
  refuses_run = over (λ files. Refuses command files status)
      (λ files e n. refuses_told files command shelf shelf_now e sink sink_now status run n.0 n.1)
