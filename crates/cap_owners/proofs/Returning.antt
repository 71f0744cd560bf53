-- A caller with the result.
use Rattle.std.proofs.Common.{◌≡◌, ◌∙◌, ap, List, [], ◌∷◌, ◌++◌, map, Option, Some, append_assoc}
use Rattle.std.specs.Prelude.{slice_set, ℤ}
use Rattle.cap_machine.specs.Machine.{Frame}
use Rattle.cap_machine_accounts.specs.Assertions.{NameValue, a_number}
use Rattle.cap_goal_spec.specs.Roots.{function_unit}
use Rattle.cap_owners_spec.specs.Track.{Fill, Place, TrackedFrame}
use Rattle.cap_owners_spec.specs.Steps.{Proved, root_at, ensures_root}
use Rattle.cap_owners.specs.Moves.{has_result}

-- with these values, and given this
abbrev pub given_result : TrackedFrame → List NameValue → Option Place → List NameValue → Fill → TrackedFrame
given_result c values stability known x = record c {
  values = values;
  given = Some (record { stability = stability; values = known; fill = x });
}

pub received-same : (d : Proved) (m : Frame) (fixed : List NameValue) (v : ℤ) (c : TrackedFrame) (x : Fill) (values known more numbers : List NameValue) (stability : Option Place) → values ≡ slice_set c.values c.awaited (a_number v) → stability ≡ root_at d (function_unit m.function) ensures_root → numbers ≡ map a_number m.arguments → more ≡ numbers ++ fixed → known ≡ more ++ a_number v ∷ [] → given_result c values stability known x ≡ has_result d m fixed v c x
received-same d m fixed v c x values known more numbers stability e r n g h =
    let k : known ≡ map a_number m.arguments ++ (fixed ++ a_number v ∷ []) =
    h ∙ (ap (λ l. l ++ a_number v ∷ []) (g ∙ ap (λ l. l ++ fixed) n) ∙ append_assoc (map a_number m.arguments) fixed (a_number v ∷ [])) in
    ap (λ l. given_result c l stability known x) e
    ∙ (ap (λ s. given_result c (slice_set c.values c.awaited (a_number v)) s known x) r
    ∙ ap (λ l. given_result c (slice_set c.values c.awaited (a_number v)) (root_at d (function_unit m.function) ensures_root) l x) k)
