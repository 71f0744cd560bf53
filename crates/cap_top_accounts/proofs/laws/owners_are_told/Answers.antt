use Rattle.cap_top_accounts.proofs.Showing.{owners_told}
use Rattle.cap_top_accounts.proofs.laws.owners_are_told.Goals as goal

pub returns : goal.returns
returns c =
    owners_told c.derivations_are_sound.ensures
    (λ trees cs bytes e. ((c.readings_are_lines.ensures trees cs bytes).0 e).0)
    c.programs_of_texts_are_well_formed.ensures c.texts_are_owned.ensures c.programs_are_textual.ensures
