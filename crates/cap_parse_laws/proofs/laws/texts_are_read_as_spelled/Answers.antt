use Rattle.cap_parse_tree.specs.Nesting.{max_nesting}
use Rattle.cap_parse_laws.proofs.Exact.{read-is-spelled, spelled-is-read, spelled-once}
use Rattle.cap_parse_laws.proofs.Plain.{all-plain}
use Rattle.cap_parse_laws.proofs.Unseen.{seen-once}
use Rattle.cap_parse_laws.proofs.laws.texts_are_read_as_spelled.Goals as goal

pub returns-clause-sound : goal.returns-clause-sound
returns-clause-sound c = read-is-spelled max_nesting

pub returns-clause-complete : goal.returns-clause-complete
returns-clause-complete c = spelled-is-read max_nesting

pub returns-clause-spelled_once : goal.returns-clause-spelled_once
returns-clause-spelled_once c = spelled-once

pub returns-clause-seen_once : goal.returns-clause-seen_once
returns-clause-seen_once c ts us p q = seen-once ts us (all-plain ts p) (all-plain us q)
