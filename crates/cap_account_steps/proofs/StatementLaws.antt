-- The laws of all statements.
use Rattle.cap_prog.specs.WellFormed.{IsWellFormed}
use Rattle.cap_account_states.proofs.Checked.{Checked}
use Rattle.cap_account_assertions.proofs.GiveLaw.{given-along, given-law}
use Rattle.cap_account_assertions.proofs.Laws.{GivenLaw, TakenLaw, RestsLaw}
use Rattle.cap_account_assertions.proofs.TakeConvert.{taken-always}
use Rattle.cap_account_steps.proofs.Allocating.{alloc-law}
use Rattle.cap_account_steps.proofs.Beginning.{body-law, turn-law}
use Rattle.cap_account_steps.proofs.Bundles.{UnitRoots}
use Rattle.cap_account_steps.proofs.CallLaws.{call-law, fork-law}
use Rattle.cap_account_steps.proofs.Clashing.{clash-law}
use Rattle.cap_account_steps.proofs.Finishing.{acts}
use Rattle.cap_account_steps.proofs.HeapLaws.{heap-law}
use Rattle.cap_account_steps.proofs.Local.{set-law, check-law, branch-law}
use Rattle.cap_account_steps.proofs.Regained.{Stable}
use Rattle.cap_account_steps.proofs.RestLaws.{rests}
use Rattle.cap_account_steps.proofs.Returning.{return-law, loop-head-law}
use Rattle.cap_account_steps.proofs.Statements.{Statements}

pub statements :
    (p : Checked) → IsWellFormed p.program → UnitRoots p → Stable p.program → Statements p
statements p program roots stable =
    let give : GivenLaw p = given-law p in
    let take : TakenLaw p = taken-always p program.regions in
    let rest : RestsLaw p = rests p program in
    record {
      sets = set-law p;
      branches = branch-law p;
      checks = check-law p;
      allocs = alloc-law p;
      calls = call-law p program give take rest stable;
      forks = fork-law p program give take rest stable;
      returns = return-law p program take;
      loop_heads = loop-head-law p program take;
      bodies = body-law p program give stable roots;
      turns = turn-law p program give stable roots;
      heaps = heap-law p program (given-along p) (acts p program take) (clash-law p);
    }
