-- What is kept of one name more.
use Rattle.std.proofs.Common.{◌≡◌, Bool, true, false, cond, List, [], ◌∷◌, ◌++◌, filter, refl, ap, ◌∙◌, append_assoc}
use Rattle.std.specs.Prelude.{if◌then◌else◌}
use Rattle.cap_resolve_spec.specs.Items.{Occurrence}
use Rattle.cap_resolve_scopes.specs.Lists.{with_kept}

pub kept_step : (p : Occurrence → Bool) (now before : List Occurrence) (b : Bool) (o : Occurrence) (rest : List Occurrence) → b ≡ p o → now ≡ with_kept b before o → now ++ filter p rest ≡ before ++ filter p (o ∷ rest)
kept_step p now before b o rest e h = ap (λ os. os ++ filter p rest) (h ∙ ap (λ c. with_kept c before o) e) ∙ by (p o)
  where
    by : (c : Bool) → with_kept c before o ++ filter p rest ≡ before ++ cond c (o ∷ filter p rest) (filter p rest)
    by true = append_assoc before (o ∷ []) (filter p rest)
    by false = refl
