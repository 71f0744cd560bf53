use Rattle.std.proofs.Common.{rules, arith}
use Rattle.cap_top_words.proofs.Numbers.{read_is, refused_is}
use Rattle.cap_top_words.proofs.numeral.number.Goals as goal

pub returns-in-Ok-clause-exact : goal.returns-in-Ok-clause-exact
returns-in-Ok-clause-exact c =
    read_is c.parse.result c.args.text.now c.args.least c.args.most c.in-Ok.number c.parse.ensures.value.0 c.in-Ok.is (search rules) (omega arith) (omega arith)

pub returns-in_default-3-clause-exact : goal.returns-in_default-3-clause-exact
returns-in_default-3-clause-exact c =
    refused_is c.parse.result c.args.text.now c.args.least c.args.most c.in_default.field-0 c.parse.ensures.value.0 c.in_default.is (omega arith) (search rules)
