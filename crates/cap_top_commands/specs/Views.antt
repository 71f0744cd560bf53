-- What is seen of outputs.
use Rattle.cap_top_reading.specs.declared.refusal.Refusal.{Refusal}
use Rattle.cap_top_reading.specs.declared.refusal.Refusal.TheVariants.{OutOfMemory}
use Rattle.cap_top_commands.specs.declared.output.Output as code
use Rattle.cap_top_commands.specs.declared.output.Output.TheVariants.{Usage, Unreadable, TooLong, Refused, Reported, Derived, DerivedTooLong, BadDerivation, Judged, Outlined, Shown, BadSchedule, Played, Tried, NoStart, Stray, NoStray}
use Rattle.cap_top_commands.specs.Output.{Output, usage_output, unreadable_output, long_output, refusal_output, report_output, derivation_output, long_derivation_output, bad_derivation_output, judged_output, outline_output, tree_output, schedule_output, run_output, trial_output, no_start_output, stray_output, no_stray_output}

abbrev pub output_view : code.Output → Output
output_view Usage = usage_output
output_view (Unreadable name) = unreadable_output name.now
output_view TooLong = long_output
output_view (Refused r) = refusal_output r
output_view (Reported r) = report_output r.good r.text.items
output_view (Derived text) = derivation_output text.items
output_view DerivedTooLong = long_derivation_output
output_view (BadDerivation e) = bad_derivation_output e
output_view (Judged r) = judged_output r
output_view (Outlined text) = outline_output text.items
output_view (Shown text) = tree_output text.items
output_view (BadSchedule e) = schedule_output e
output_view (Played p) = run_output p.text.items p.end
output_view (Tried number counts) = trial_output number counts.proved counts.all
output_view NoStart = no_start_output
output_view (Stray text) = stray_output text.items
output_view (NoStray count) = no_stray_output count

-- a cause that lies in the text
abbrev pub IsCause : Refusal → Type 0
IsCause OutOfMemory = ⊥
IsCause _ = Unit {0}
