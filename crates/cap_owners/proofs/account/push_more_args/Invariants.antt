use Rattle.std.proofs.Common.{◌≡◌, ◌++◌, drop}
use Rattle.std.specs.Prelude.{codes, flat_map}
use Rattle.std.specs.Fmt.{signed_decimal}
use Rattle.cap_owners.proofs.account.push_more_args.Given as goal

-- what is written and what is left are the whole
abbrev pub invariant-loop-number : goal.invariant-loop-number
invariant-loop-number l =
    l.text.items ++ flat_map (λ z. codes ", " ++ signed_decimal z) (drop l.number-index l.args)
    ≡ l.fn.text.items ++ flat_map (λ z. codes ", " ++ signed_decimal z) l.args
