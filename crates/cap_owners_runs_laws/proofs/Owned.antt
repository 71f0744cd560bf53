-- The promise of runs, from what each statement leads to.
use Rattle.std.proofs.Common.{List, Option}
use Rattle.cap_prog.specs.Program.{PlainProgram}
use Rattle.cap_prog.specs.WellFormed.{IsWellFormed}
use Rattle.cap_goal_spec.specs.Choices.{PlainTree}
use Rattle.cap_rules.specs.Valid.{Valid}
use Rattle.cap_account_assertions.proofs.TakeConvert.{taken-always}
use Rattle.cap_account_states.proofs.Checked.{Checked}
use Rattle.cap_account_steps.proofs.Bundles.{unit-roots}
use Rattle.cap_account_steps.proofs.Regained.{Stable}
use Rattle.cap_account_steps.proofs.StableLaws.{valid-stable}
use Rattle.cap_account_steps.proofs.StatementLaws.{statements}
use Rattle.cap_account_steps.proofs.Statements.{Statements}
use Rattle.cap_outline_laws.proofs.Listed.{roots-listed}
use Rattle.cap_owners_laws.specs.Owned.{IsTextual, RunsAreOwned}
use Rattle.cap_owners_runs_laws.proofs.Tracks.First.{first-kept}
use Rattle.cap_owners_runs_laws.proofs.Tracks.Runs.{Parts, runs-owned}
use Rattle.cap_owners_runs_laws.proofs.Tracks.Saying.{track-says}
use Rattle.cap_owners_runs_laws.proofs.Tracks.Tied.{nodes_of}
use Rattle.cap_owners_runs_laws.proofs.Steps.Ordinary.{sets-kept, checks-kept, branches-kept, allocs-kept}
use Rattle.cap_owners_runs_laws.proofs.Handing.Calls.{calls-kept, forks-kept}
use Rattle.cap_owners_runs_laws.proofs.Handing.Loops.{loops-are-kept}
use Rattle.cap_owners_runs_laws.proofs.Steps.Paid.{returns-are-kept}
use Rattle.cap_owners_runs_laws.proofs.Touching.Touches.{touches-are-kept}

-- of a valid derivation of a textual program
parts :
    (program : PlainProgram) (trees : List (Option PlainTree)) → IsWellFormed program →
    IsTextual program → Valid program trees → Parts program trees
parts program trees well textual valid =
    let p : Checked = nodes_of program trees in
    let stable : Stable program = valid-stable program trees well valid in
    let roots = unit-roots p (roots-listed program trees valid) in
    let ls : Statements p = statements p well roots stable in
    record {
      all = record {
        sets = sets-kept p trees stable;
        allocs = allocs-kept p trees stable;
        checks = checks-kept p trees stable;
        branches = branches-kept p trees stable;
        loops = loops-are-kept program trees well valid stable;
        calls = calls-kept program trees well valid stable ls textual.fixed;
        forks = forks-kept program trees well valid stable ls textual.fixed;
        touches = touches-are-kept program trees well valid stable ls;
        returns = returns-are-kept p trees ls stable well (taken-always p well.regions);
      };
      says = track-says program trees;
      begins = first-kept program trees well textual valid;
    }

pub all-owned : RunsAreOwned
all-owned = runs-owned parts
