-- What contracts see of a judge.
use Rattle.cap_prog.specs.Views.{program_view}
use Rattle.cap_kernel_check.specs.declared.judge.Judge.{Judge}
use Rattle.cap_kernel_check_steps.specs.Debts.{owed_view}
use Rattle.cap_kernel_check_steps.specs.Judges.{PlainJudge}

abbrev pub judge_view : Judge → PlainJudge
judge_view j = record {
  program = program_view j.program.now;
  next = j.next;
  owed = owed_view j.owed.items;
  fault = j.fault;
}
