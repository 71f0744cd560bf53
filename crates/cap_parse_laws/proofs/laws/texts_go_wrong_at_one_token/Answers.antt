use Rattle.cap_parse_laws.proofs.Begins.{goes-on}
use Rattle.cap_parse_laws.proofs.Wrong.{unexpected-exactly, too-deep-exactly, one-of-three}
use Rattle.cap_parse_laws.proofs.laws.texts_go_wrong_at_one_token.Goals as goal

pub returns-clause-unexpected_exactly : goal.returns-clause-unexpected_exactly
returns-clause-unexpected_exactly c = unexpected-exactly

pub returns-clause-too_deep_exactly : goal.returns-clause-too_deep_exactly
returns-clause-too_deep_exactly c = too-deep-exactly

pub returns-clause-one_of_three : goal.returns-clause-one_of_three
returns-clause-one_of_three c = one-of-three

pub returns-clause-goes_on : goal.returns-clause-goes_on
returns-clause-goes_on c = goes-on
