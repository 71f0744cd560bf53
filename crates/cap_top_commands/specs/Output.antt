-- What the tool says, and with which status.
use Rattle.std.specs.Prelude.{ℕ, ◌==◌, Bool, if◌then◌else◌, List, [], ◌++◌, codes}
use Rattle.std.specs.Prelude.{Option, Some, None, Result, Ok, Err}
use Rattle.std.specs.Fmt.{decimal}
use Rattle.cap_replay.specs.declared.playing.End.{End}
use Rattle.cap_replay.specs.declared.playing.End.TheVariants.{Ended, Stopped, NotEnabled, Wide}
use Rattle.cap_replay.specs.RunText.{RunText}
use Rattle.cap_replay_schedules.specs.declared.reading.ScheduleError.{ScheduleError}
use Rattle.cap_replay_schedules.specs.declared.reading.ScheduleError.TheVariants.{BadLine, TooMany, OutOfMemory}
use Rattle.cap_deriv.specs.declared.cursor.DerivError.{DerivError}
use Rattle.cap_deriv.specs.declared.cursor.DerivError.TheVariants as deriv
use Rattle.cap_kernel_check_steps.specs.declared.error.CheckError.{CheckError}
use Rattle.cap_kernel_check_steps.specs.declared.error.CheckError.TheVariants as judge
use Rattle.cap_top_reading.specs.declared.refusal.Refusal.{Refusal}
use Rattle.cap_top_reading.specs.Texts.{refusal_line}
use Rattle.cap_top_commands.specs.declared.status.Status.{Status}
use Rattle.cap_top_commands.specs.declared.status.Status.TheVariants.{Good, Bad, Refused, Usage, ReadFault}
use Rattle.cap_top_commands.specs.declared.status.Status.TheVariants.{NotEnabled as not_enabled, Wide as wide}

pub record Output : Type 0 where
  pub status : Status
  pub text : List ℕ

-- ---- of words and files

abbrev pub usage_line : List ℕ
usage_line =
    codes "usage: caper verify FILE [--budget N] | derive FILE [--budget N] | check FILE DERIVATION | replay FILE SCHEDULE | show FILE | trial N | outline FILE DERIVATION | owners FILE DERIVATION SCHEDULE | stray FILE N M | core FILE\n"

abbrev pub usage_output : Output
usage_output = record { status = Usage; text = usage_line }

abbrev pub unreadable_line : List ℕ → List ℕ
unreadable_line name = codes "cannot read " ++ (name ++ codes "\n")

abbrev pub unreadable_output : List ℕ → Output
unreadable_output name = record { status = ReadFault; text = unreadable_line name }

abbrev pub long_output : Output
long_output = record { status = Refused; text = codes "refused: file too long\n" }

abbrev pub refusal_output : Refusal → Output
refusal_output r = record { status = Refused; text = refusal_line r }

-- ---- of a program and of a tree

-- a report says whether it is good: all of the program is proved, and its `main` can begin
abbrev pub report_status : Bool → Status
report_status good = if good then Good else Bad

abbrev pub report_output : Bool → List ℕ → Output
report_output good text = record { status = report_status good; text = text }

-- of a trial's number, how many units of its program are proved, of how many
abbrev pub trial_line : ℕ → ℕ → ℕ → List ℕ
trial_line n proved all =
    codes "trial " ++ (decimal n ++ (codes ": "
    ++ (decimal all ++ (codes " units, " ++ (decimal proved ++ codes " proved\n")))))

abbrev pub trial_output : ℕ → ℕ → ℕ → Output
trial_output n proved all =
    record { status = report_status (proved == all); text = trial_line n proved all }

abbrev pub tree_output : List ℕ → Output
tree_output text = record { status = Good; text = text }

-- ---- of a derivation

abbrev pub derivation_output : List ℕ → Output
derivation_output text = record { status = Good; text = text }

abbrev pub long_derivation_output : Output
long_derivation_output = record { status = Bad; text = codes "derivation too long\n" }

-- want of memory has no line
abbrev pub derivation_line : DerivError → List ℕ
derivation_line (deriv.BadLine n) =
    codes "refused derivation line " ++ (decimal n ++ codes "\n")
derivation_line deriv.Unended = codes "refused derivation: no end\n"
derivation_line deriv.TooMany = codes "refused derivation: more than 1000000 nodes\n"
derivation_line deriv.OutOfMemory = []

abbrev pub bad_derivation_output : DerivError → Output
bad_derivation_output e = record { status = Refused; text = derivation_line e }

abbrev pub judged_status : Result ℕ CheckError → Status
judged_status (Ok n) = Good
judged_status (Err e) = Bad

abbrev pub judged_line : Result ℕ CheckError → List ℕ
judged_line (Ok n) = codes "accepted " ++ (decimal n ++ codes "\n")
judged_line (Err (judge.Node k)) = codes "rejected node " ++ (decimal k ++ codes "\n")
judged_line (Err (judge.Shape k)) = codes "rejected shape " ++ (decimal k ++ codes "\n")
judged_line (Err judge.OutOfMemory) = []

abbrev pub judged_output : Result ℕ CheckError → Output
judged_output r = record { status = judged_status r; text = judged_line r }

-- the states at each statement
abbrev pub outline_output : List ℕ → Output
outline_output text = record { status = Good; text = text }

-- ---- of a schedule

-- want of memory has no line
abbrev pub schedule_line : ScheduleError → List ℕ
schedule_line (BadLine n) = codes "refused schedule line " ++ (decimal n ++ codes "\n")
schedule_line TooMany = codes "refused schedule: more than 100000 entries\n"
schedule_line OutOfMemory = []

abbrev pub schedule_output : ScheduleError → Output
schedule_output e = record { status = Refused; text = schedule_line e }

-- ---- of schedules that are drawn

-- nothing is drawn where `main` asks for something; nor is there a run from a start that is none
abbrev pub no_start_output : Output
no_start_output = record { status = Refused; text = codes "refused start\n" }

-- the text of the first schedule that ends in a fault, or none of so many does
abbrev pub stray_output : List ℕ → Output
stray_output text = record { status = Bad; text = text }

abbrev pub no_stray_output : ℕ → Output
no_stray_output count =
    record { status = Good; text = codes "stray: none in " ++ (decimal count ++ codes "\n") }

-- ---- of a run

abbrev pub end_status : End → Status
end_status (Ended k) = Good
end_status (Stopped k) = Bad
end_status (NotEnabled k) = not_enabled
end_status (Wide k) = wide

abbrev pub run_output : List ℕ → End → Output
run_output text end = record { status = end_status end; text = text }

-- with its accounts; none where the start is none
abbrev pub owners_output : Option RunText → Output
owners_output None = no_start_output
owners_output (Some r) = run_output r.text r.end
