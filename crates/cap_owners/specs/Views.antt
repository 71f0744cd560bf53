-- What contracts see of the text of a run with its accounts.
use Rattle.cap_replay.specs.RunText.{RunText}
use Rattle.cap_owners.specs.declared.owned.Owned.{Owned}

abbrev pub owned_view : Owned → RunText
owned_view r = record { text = r.text.items; end = r.end }
