use Rattle.cap_owners_laws.proofs.Starts.{met-start, unmet-start}
use Rattle.cap_owners_laws.proofs.starts_are_exact.Goals as goal

pub returns : goal.returns
returns c = record {
  met = λ d main args heap k is arity positive e. met-start d main args heap is arity positive k e;
  unmet = λ d main args heap is arity e. unmet-start d main args heap is arity e;
}
