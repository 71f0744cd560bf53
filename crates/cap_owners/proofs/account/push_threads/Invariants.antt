use Rattle.std.proofs.Common.{◌≡◌, ◌≤◌, ◌++◌, drop, length}
use Rattle.std.specs.List.{zip}
use Rattle.cap_prog.specs.Views.{program_view}
use Rattle.cap_machine.specs.View.{configuration}
use Rattle.cap_owners_spec.specs.Texts.{thread_lines}
use Rattle.cap_owners.specs.Accounts.{all_helds_view}
use Rattle.cap_owners.proofs.account.push_threads.Given as goal

-- what is written and what is left are the whole
abbrev pub invariant-loop-tracked : goal.invariant-loop-tracked
invariant-loop-tracked l =
    let p = program_view l.program in
    let ts = (configuration p l.machine).threads in
    record {
      counted : l.thread ≡ l.tracked-index;
      within : l.thread ≤ length ts;
      written :
          l.text.items ++ thread_lines p l.thread (zip (drop l.thread ts) (all_helds_view (drop l.thread l.threads)))
          ≡ l.fn.text.items ++ thread_lines p 0 (zip ts (all_helds_view l.threads));
    }
