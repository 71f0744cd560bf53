use Rattle.cap_owners_laws.proofs.Shown.{texts-owned}
use Rattle.cap_owners_laws.proofs.Starts.{met-start, unmet-start}
use Rattle.cap_owners_laws.proofs.owned_runs_are_shown.Goals as goal

pub returns : goal.returns
returns c =
    texts-owned (record {
      met = λ d main args heap k is arity positive e. met-start d main args heap is arity positive k e;
      unmet = λ d main args heap is arity e. unmet-start d main args heap is arity e;
    })
