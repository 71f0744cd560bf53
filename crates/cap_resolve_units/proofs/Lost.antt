-- What is noted for one word of an index more.
use Rattle.std.proofs.Common.{◌≡◌, Bool, true, false, cond, List, ◌∷◌, map, fold, filter, Option, refl, ap, ◌∙◌}
use Rattle.cap_parse_tree.specs.declared.word.Word.{Word}
use Rattle.cap_resolve_spec.specs.Finding.{Finding, note, found_if, unknown, unknown_word}

pub lost_step : (n : Option Finding) (b : Bool) (p : Word → Bool) (w : Word) (ws : List Word) → b ≡ p w → fold note (fold note n (found_if b w.place (unknown w.text))) (map unknown_word (filter p ws)) ≡ fold note n (map unknown_word (filter p (w ∷ ws)))
lost_step n b p w ws e =
    ap (λ c. fold note (fold note n (found_if c w.place (unknown w.text))) (map unknown_word (filter p ws))) e ∙ by (p w)
  where
    by : (c : Bool) → fold note (fold note n (found_if c w.place (unknown w.text))) (map unknown_word (filter p ws)) ≡ fold note n (map unknown_word (cond c (w ∷ filter p ws) (filter p ws)))
    by true = refl
    by false = refl
