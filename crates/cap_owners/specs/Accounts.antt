-- The lines of a thread.
use Rattle.std.specs.Prelude.{ℕ, zero, suc, List, codes, map, reverse}
use Rattle.std.specs.Global.{Vec}
use Rattle.std.specs.List.{zip}
use Rattle.cap_prog.specs.Program.{PlainProgram}
use Rattle.cap_machine.specs.Machine.{Thread}
use Rattle.cap_machine.specs.View.{frame_view as machine_frame}
use Rattle.cap_machine.specs.declared.frame.Frame.{Frame}
use Rattle.cap_machine_accounts.specs.Accounts.{Held}
use Rattle.cap_owners_spec.specs.Texts.{frame_lines}
use Rattle.cap_owners.specs.declared.track.TrackedFrame.{TrackedFrame}
use Rattle.cap_owners.specs.Tracks.{frame_view, frames_view}

-- what is written before a fixed name, by its number
abbrev pub name_joint : ℕ → List ℕ
name_joint zero = codes " with "
name_joint (suc n) = codes ", "

abbrev pub held_view : TrackedFrame → Held
held_view k = (frame_view k).held

-- what the frames of a thread have, the top one first
abbrev pub helds_view : List TrackedFrame → List Held
helds_view ks = map (λ k. k.held) (frames_view ks)

abbrev pub all_helds_view : List (Vec TrackedFrame) → List (List Held)
all_helds_view ts = map (λ (t : Vec TrackedFrame). helds_view t.items) ts

-- from the bottom, the first of which has this number
abbrev pub lines_from :
    PlainProgram → ℕ → ℕ → List Frame → List TrackedFrame → List ℕ
lines_from p thread number fs ks =
    frame_lines p thread number (zip (map (machine_frame p) fs) (map held_view ks))

abbrev pub frames_text : PlainProgram → ℕ → Thread → List Held → List ℕ
frames_text p thread fs hs = frame_lines p thread 0 (reverse (zip fs hs))
