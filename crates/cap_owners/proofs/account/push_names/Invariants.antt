use Rattle.std.proofs.Common.{◌≡◌, ◌++◌, drop}
use Rattle.std.specs.List.{zip}
use Rattle.cap_owners_spec.specs.Texts.{names_text}
use Rattle.cap_owners.proofs.Writing.{names-left}
use Rattle.cap_owners.proofs.account.push_names.Given as goal

-- what is written and what is left are the whole
abbrev pub invariant-loop-number : goal.invariant-loop-number
invariant-loop-number l =
    l.text.items ++ names-left l.number (zip (drop l.number l.names) (drop l.number l.values))
    ≡ l.fn.text.items ++ names_text (zip l.names l.values)
