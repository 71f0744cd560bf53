-- Members of lists that are seen by a view.
use Rattle.std.proofs.Common.{◌≡◌, ℕ, List, map, sym, ap, ◌∙◌, ◌<◌, length, get_or}
use Rattle.std.proofs.lemmas.List.{get_or-map}

pub member-seen : {X Y : Type 0} (f : X → Y) (xs : List X) (i : ℕ) (b : X) → i < length xs → b ≡ get_or xs i b → f b ≡ get_or (map f xs) i (f b)
member-seen f xs i b h e = ap f e ∙ sym (get_or-map f xs i b (f b) h)
