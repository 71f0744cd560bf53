-- The guards of an action that aren't indexed, which are parts of a move.
use Rattle.std.proofs.Common.{◌≡◌, ℕ, suc, ◌+◌, ◌<◌, Bool, true, false, List, [], ◌∷◌, ◌++◌, drop, length, get_or, map, filter, add-one, refl, sym, ap, ◌∙◌}
use Rattle.std.specs.Prelude.{not, if◌then◌else◌}
use Rattle.std.proofs.lemmas.List.{append_assoc}
use Rattle.cap_prog.specs.declared.assertion.Asked.{Asked}
use Rattle.cap_rules.specs.Closing.{is_indexed, MovePart, guard}
use Rattle.cap_rules_steps.proofs.Walking.{split-at}
use Rattle.cap_open_moves_parts.specs.Parts.{parts_plain}

abbrev Guards : Type 0
Guards = List (ℕ × Asked)

by-turn : (g : ℕ × Asked) (b : Bool) (gs : Guards) → map (λ (h : ℕ × Asked). guard h.0 h.1) (if not b then g ∷ gs else gs) ≡ (if b then map (λ (h : ℕ × Asked). guard h.0 h.1) gs else guard g.0 g.1 ∷ map (λ (h : ℕ × Asked). guard h.0 h.1) gs)
by-turn g true gs = refl
by-turn g false gs = refl

plain-split : (gs : Guards) (i : ℕ) (g : ℕ × Asked) (b : Bool) → i < length gs → g ≡ get_or gs i g → is_indexed g ≡ b → parts_plain (drop i gs) ≡ (if b then parts_plain (drop (suc i) gs) else guard g.0 g.1 ∷ parts_plain (drop (suc i) gs))
plain-split gs i g b h e t =
    ap parts_plain (split-at gs i g h e)
    ∙ (by-turn g (is_indexed g) (filter (λ h. not (is_indexed h)) (drop (suc i) gs))
    ∙ ap (λ c. if c then parts_plain (drop (suc i) gs) else guard g.0 g.1 ∷ parts_plain (drop (suc i) gs)) t)

pub plain-waits : (gs : Guards) (i : ℕ) (g : ℕ × Asked) → i < length gs → g ≡ get_or gs i g → is_indexed g ≡ true → parts_plain (drop (i + 1) gs) ≡ parts_plain (drop i gs)
plain-waits gs i g h e t = rw add-one (sym (plain-split gs i g true h e t))

pub plain-next : (gs : Guards) (i : ℕ) (g : ℕ × Asked) → i < length gs → g ≡ get_or gs i g → is_indexed g ≡ false → parts_plain (drop i gs) ≡ guard g.0 g.1 ∷ parts_plain (drop (i + 1) gs)
plain-next gs i g h e t = rw add-one (plain-split gs i g false h e t)

-- a guard that isn't indexed is a part, and an indexed one is none
pub plain-kept : (done whole : List MovePart) (gs : List (ℕ × Asked)) (i : ℕ) (g : ℕ × Asked) → i < length gs → g ≡ get_or gs i g → is_indexed g ≡ true → done ++ parts_plain (drop i gs) ≡ whole → done ++ parts_plain (drop (i + 1) gs) ≡ whole
plain-kept done whole gs i g h e t inv = ap (λ l. done ++ l) (plain-waits gs i g h e t) ∙ inv

pub plain-pushed : (done done' whole : List MovePart) (gs : List (ℕ × Asked)) (i : ℕ) (g : ℕ × Asked) → i < length gs → g ≡ get_or gs i g → is_indexed g ≡ false → done' ≡ done ++ guard g.0 g.1 ∷ [] → done ++ parts_plain (drop i gs) ≡ whole → done' ++ parts_plain (drop (i + 1) gs) ≡ whole
plain-pushed done done' whole gs i g h e t q inv =
    let rest = parts_plain (drop (i + 1) gs) in
    ap (λ l. l ++ rest) q
    ∙ (append_assoc done (guard g.0 g.1 ∷ []) rest ∙ (ap (λ l. done ++ l) (sym (plain-next gs i g h e t)) ∙ inv))
