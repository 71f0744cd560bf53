-- What is noted for one word more.
use Rattle.std.proofs.Common.{◌≡◌, ℕ, zero, suc, ◌+◌, Bool, true, false, not, cond, List, [], ◌∷◌, ◌++◌, map, fold, filter, take, drop, slice_get, Option, Some, None, refl, sym, ap, ◌∙◌}
use Rattle.std.specs.Prelude.{if◌then◌else◌}
use Rattle.std.specs.Borrow.{Bor}
use Rattle.std.proofs.lemmas.List.{map-append}
use Rattle.std.proofs.lemmas.Option.{same_Some}
use Rattle.cap_lin.specs.declared.row.Sort.TheVariants.{Int}
use Rattle.cap_parse_tree.specs.declared.word.Word.{Word}
use Rattle.cap_resolve_spec.specs.Finding.{Finding, Limit, note, found_if, unknown, twice, limit, twice_word}
use Rattle.cap_resolve_spec.specs.Names.{NameScope, knows, known_as, whole_numbers, is_among, repeated, repeated_after, past}
use Rattle.cap_resolve_spec.specs.Functions.{unknown_in}
use Rattle.cap_resolve_parts.specs.Views.{words_view}
use Rattle.cap_resolve_tables.proofs.Firsts.{whole_among}

pub unknown_step : (n : Option Finding) (b : Bool) (s : NameScope) (w : Word) (ws : List Word) → b ≡ knows s w.text → fold note (fold note n (found_if (not b) w.place (unknown w.text))) (unknown_in s ws) ≡ fold note n (unknown_in s (w ∷ ws))
unknown_step n b s w ws e = ap (λ c. fold note (fold note n (found_if (not c) w.place (unknown w.text))) (unknown_in s ws)) e ∙ by (knows s w.text)
  where
    by : (c : Bool) → fold note (fold note n (found_if (not c) w.place (unknown w.text))) (unknown_in s ws) ≡ fold note n (map (λ v. record { place = v.place; cause = unknown v.text }) (cond (not c) (w ∷ filter (λ v. not (knows s v.text)) ws) (filter (λ v. not (knows s v.text)) ws)))
    by true = refl
    by false = refl

-- each word that a scope knows, which knows the words before it as well
abbrev pub repeated_by : NameScope → List Word → List Word
repeated_by seen [] = []
repeated_by seen (w ∷ ws) =
    (if knows seen w.text then w ∷ [] else []) ++ repeated_by (seen ++ known_as Int w ∷ []) ws

repeats : (before ws : List Word) → repeated_by (whole_numbers before) ws ≡ repeated_after before ws
repeats before [] = refl
repeats before (w ∷ ws) =
    ap (λ b. (if b then w ∷ [] else []) ++ repeated_by (whole_numbers before ++ known_as Int w ∷ []) ws) (whole_among before w.text)
    ∙ ap (λ rest. (if is_among before w.text then w ∷ [] else []) ++ rest)
    (ap (λ s. repeated_by s ws) (sym (map-append (known_as Int) before (w ∷ []))) ∙ repeats (before ++ w ∷ []) ws)

pub repeats_all : (ws : List Word) → repeated_by [] ws ≡ repeated ws
repeats_all ws = repeats [] ws

pub repeat_step : (n : Option Finding) (b : Bool) (seen later : NameScope) (w : Word) (ws : List Word) → b ≡ knows seen w.text → later ≡ seen ++ known_as Int w ∷ [] → fold note (fold note n (found_if b w.place (twice w.text))) (map twice_word (repeated_by later ws)) ≡ fold note n (map twice_word (repeated_by seen (w ∷ ws)))
repeat_step n b seen later w ws e s =
    ap (λ c. fold note (fold note n (found_if c w.place (twice w.text))) (map twice_word (repeated_by later ws))) e
    ∙ (ap (λ t. fold note (fold note n (found_if (knows seen w.text) w.place (twice w.text))) (map twice_word (repeated_by t ws))) s
    ∙ by (knows seen w.text) (repeated_by (seen ++ known_as Int w ∷ []) ws))
  where
    by : (c : Bool) (rest : List Word) → fold note (fold note n (found_if c w.place (twice w.text))) (map twice_word rest) ≡ fold note n (map twice_word ((if c then w ∷ [] else []) ++ rest))
    by true rest = refl
    by false rest = refl

pub past_one : (n : ℕ) (l : Limit) (ws : List (Bor Word)) (w : Bor Word) → Some w ≡ slice_get ws n → past n l (words_view ws) ≡ found_if true w.now.place (limit l)
past_one n l [] w e = absurd (cc)
past_one zero l (x ∷ ws) w e = ap (λ (y : Bor Word). record { place = y.now.place; cause = limit l } ∷ []) (sym (same_Some w x e))
past_one (suc n) l (x ∷ ws) w e = past_one n l ws w e
