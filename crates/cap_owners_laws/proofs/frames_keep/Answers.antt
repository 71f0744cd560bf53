use Rattle.cap_owners_laws.proofs.Naming.{frames-keep}
use Rattle.cap_owners_laws.proofs.frames_keep.Goals as goal

pub returns : goal.returns
returns c = frames-keep
