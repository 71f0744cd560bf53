-- The rows of the tables of choices, taken back.
use Rattle.std.proofs.Common.{◌≡◌, ℕ, inl, inr, List, [], ◌∷◌, Option, Some, option_map, option_and_then, sym, ap, subst, ◌∙◌}
use Rattle.std.specs.List.{AllByRecursion}
use Rattle.std.specs.Str.{bytes_eq}
use Rattle.serde_json.specs.Data.{Data}
use Rattle.cap_goal_spec.specs.Choices.{PlainChoice}
use Rattle.cap_deriv_choices.specs.Reading.{row_of_word}
use Rattle.cap_deriv_write.specs.Bounds.{IsChoice}
use Rattle.cap_deriv_write.specs.Forms.{headed_form, choice_form}
use Rattle.cap_deriv_write.proofs.Options.{some_same, map_of, then_of, test_of}
use Rattle.cap_deriv_write.proofs.Parts.{word_is}

-- the value is the form of the choice, which is within its bounds
abbrev pub Spells : Data → PlainChoice → Type 0
Spells d c = (d ≡ choice_form c) × IsChoice c

-- what a row reads of these arguments is spelled by its word and them
abbrev pub IsSoundRow : List Data → (List ℕ × Option PlainChoice) → Type 0
IsSoundRow ds row = (c : PlainChoice) → row.1 ≡ Some c → Spells (headed_form row.0 ds) c

pub rows_sound : (w : List ℕ) (ds : List Data) (rows : List (List ℕ × Option PlainChoice)) → AllByRecursion (IsSoundRow ds) rows
    → (c : PlainChoice) → row_of_word w rows ≡ Some c → Spells (headed_form w ds) c
rows_sound w ds [] h c e = absurd (cc)
rows_sound w ds (row ∷ rows) h c e = elim (test_of (bytes_eq w row.0) row.1 (row_of_word w rows) c e) [
  | inl p ↦ subst (λ (v : List ℕ). Spells (headed_form v ds) c) (sym (word_is w row.0 p.0)) (h.0 c p.1)
  | inr p ↦ rows_sound w ds rows h.1 c p.1
]

-- a row without arguments
pub row_of_none : (x : PlainChoice) (w : List ℕ) → Spells (headed_form w []) x → IsSoundRow [] (w, Some x)
row_of_none x w h c e = subst (λ (y : PlainChoice). Spells (headed_form w []) y) (some_same _ _ e) h

-- what is read of a value is what its form stands for, within bounds
abbrev pub IsSoundReading : {A : Type 0} → (Data → Option A) → (A → Data) → (A → Type 0) → Type 0
IsSoundReading {A} f g P = (d : Data) (x : A) → f d ≡ Some x → (d ≡ g x) × P x

pub row_of_one : {A : Type 0} (f : Data → Option A) (g : A → Data) (P : A → Type 0) → IsSoundReading f g P
    → (make : A → PlainChoice) (w : List ℕ) → ((x : A) → P x → Spells (headed_form w (g x ∷ [])) (make x))
    → (a : Data) → IsSoundRow (a ∷ []) (w, option_map make (f a))
row_of_one f g P sound make w made a c e =
    let m = map_of make (f a) c e in
    let x = sound a m.0 m.1 in
    let s = made m.0 x.1 in
    (ap (λ d. headed_form w (d ∷ [])) x.0 ∙ s.0 ∙ ap choice_form m.2, subst IsChoice m.2 s.1)

pub row_of_two : {A B : Type 0} (f : Data → Option A) (g : A → Data) (P : A → Type 0) → IsSoundReading f g P
    → (f2 : Data → Option B) (g2 : B → Data) (P2 : B → Type 0) → IsSoundReading f2 g2 P2
    → (make : A → B → PlainChoice) (w : List ℕ) → ((x : A) (y : B) → P x → P2 y → Spells (headed_form w (g x ∷ g2 y ∷ [])) (make x y))
    → (a b : Data) → IsSoundRow (a ∷ b ∷ []) (w, option_and_then (λ x. option_map (make x) (f2 b)) (f a))
row_of_two f g P sound f2 g2 P2 sound2 make w made a b c e =
    let t = then_of (λ x. option_map (make x) (f2 b)) (f a) c e in
    let m = map_of (make t.0) (f2 b) c t.2 in
    let x = sound a t.0 t.1 in
    let y = sound2 b m.0 m.1 in
    let s = made t.0 m.0 x.1 y.1 in
    (ap (λ d. headed_form w (d ∷ b ∷ [])) x.0 ∙ ap (λ d. headed_form w (g t.0 ∷ d ∷ [])) y.0 ∙ s.0 ∙ ap choice_form m.2, subst IsChoice m.2 s.1)

pub row_of_three : {A B C : Type 0} (f : Data → Option A) (g : A → Data) (P : A → Type 0) → IsSoundReading f g P
    → (f2 : Data → Option B) (g2 : B → Data) (P2 : B → Type 0) → IsSoundReading f2 g2 P2
    → (f3 : Data → Option C) (g3 : C → Data) (P3 : C → Type 0) → IsSoundReading f3 g3 P3
    → (make : A → B → C → PlainChoice) (w : List ℕ)
    → ((x : A) (y : B) (z : C) → P x → P2 y → P3 z → Spells (headed_form w (g x ∷ g2 y ∷ g3 z ∷ [])) (make x y z))
    → (a b d : Data) → IsSoundRow (a ∷ b ∷ d ∷ []) (w, option_and_then (λ x. option_and_then (λ y. option_map (make x y) (f3 d)) (f2 b)) (f a))
row_of_three f g P sound f2 g2 P2 sound2 f3 g3 P3 sound3 make w made a b d c e =
    let t = then_of (λ x. option_and_then (λ y. option_map (make x y) (f3 d)) (f2 b)) (f a) c e in
    let u = then_of (λ y. option_map (make t.0 y) (f3 d)) (f2 b) c t.2 in
    let m = map_of (make t.0 u.0) (f3 d) c u.2 in
    let x = sound a t.0 t.1 in
    let y = sound2 b u.0 u.1 in
    let z = sound3 d m.0 m.1 in
    let s = made t.0 u.0 m.0 x.1 y.1 z.1 in (
      ap (λ v. headed_form w (v ∷ b ∷ d ∷ [])) x.0 ∙ ap (λ v. headed_form w (g t.0 ∷ v ∷ d ∷ [])) y.0
          ∙ ap (λ v. headed_form w (g t.0 ∷ g2 u.0 ∷ v ∷ [])) z.0 ∙ s.0 ∙ ap choice_form m.2,
      subst IsChoice m.2 s.1,
    )
