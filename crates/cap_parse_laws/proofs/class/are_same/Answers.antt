use Rattle.std.proofs.Common.{nat_eq, ap, ◌∙◌}
use denote.Enum.Declared.{tag_of}
use Rattle.cap_parse_laws.specs.Classes.{class_number}
use Rattle.cap_parse_laws.specs.contracts.class.Class.{the_type}
use Rattle.cap_parse_laws.proofs.Tags.{number-is}
use Rattle.cap_parse_laws.proofs.class.are_same.Goals as goal

pub returns : goal.returns
returns c =
    c.eq.ensures
    ∙ ap (λ n. nat_eq n (tag_of the_type c.args.b)) (number-is c.args.a)
    ∙ ap (λ n. nat_eq (class_number c.args.a) n) (number-is c.args.b)
