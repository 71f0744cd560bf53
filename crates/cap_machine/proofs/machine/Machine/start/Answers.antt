use Rattle.std.proofs.Common.{refl}
use Rattle.std.specs.Prelude.{false}
use Rattle.std.specs.FinMap.{from_entries}
use Rattle.cap_prog.specs.Views.{program_view}
use Rattle.cap_machine.proofs.StartLemmas.{IsStart, shows_start, runs_start, fits_start}
use Rattle.cap_machine.proofs.machine.Machine.start.Goals as goal

is_start : (c : goal.In_ok-push-2) → IsStart (program_view c.args.program.now) c.args.args.now (from_entries c.args.heap.now) (record { heap = c.in_ok-cells.cells; threads = c.push-2.new.self; stopped = false })
is_start c = record {
  frame = c.in_ok-of.field-0;
  frames = c.push.new.self;
  cells = c.in_ok-cells.ensures;
  threads = rw (c.in_ok-push-2.ensures.items, c.new-threads.ensures.items) refl;
  one = rw (c.in_ok-push.ensures.items, c.new-frames.ensures.items) refl;
  begins = λ g e. rw (← c.main.ensures.main, ← c.in_ok-args.ensures.items) (c.in_ok-of.ensures.begins g (rw c.main.ensures.main e));
  placed = c.in_ok-of.ensures.placed;
  runs = refl;
}

pub returns-clause-begins : goal.returns-clause-begins
returns-clause-begins c = shows_start _ _ _ _ _ c.requires.arguments (is_start c)

pub returns-clause-runs : goal.returns-clause-runs
returns-clause-runs c = runs_start _ _ _ _ (is_start c)

pub returns-clause-fits : goal.returns-clause-fits
returns-clause-fits c = fits_start _ _ _ _ c.main.ensures.well_formed c.requires.arguments (is_start c)
