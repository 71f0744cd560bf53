-- Choices that are tried, and the cell that is sought.
use Rattle.std.proofs.Common.{◌≡◌, ℕ, zero, suc, ◌+◌, ◌<◌, ◌≤◌, List, [], ◌∷◌, ◌++◌, map, Option, Some, None, refl, sym, ap, ◌∙◌, arith, append-nil}
use Rattle.std.specs.Prelude.{option_to_list, flat_map, ◌-◌}
use Rattle.std.specs.List.{range_with_len}
use Rattle.cap_lin.specs.Linear.{Linear}
use Rattle.cap_prog.specs.Program.{PlainAct, PlainProgram}
use Rattle.cap_goal_spec.specs.States.{PlainGoal}
use Rattle.cap_goal_spec.specs.Choices.{PlainChoice, by_clash}
use Rattle.cap_offer_spec.specs.Deciding.{PlainNotes, Outcome, Noted, ◌>>=◌}
use Rattle.cap_offer_spec.specs.Listing.{clashes_with}
use Rattle.cap_offer_spec.specs.Claims.{has_address, has_item_address}
use Rattle.cap_offer_spec.specs.Scanning.{tried, tried_all, first_tried, or_later, unless_over, first_cell, first_act}
use Rattle.cap_offer.specs.Seeking.{of_act, of_item, sought_scan, first_sought}

pub act-sought : (p : PlainProgram) (g : PlainGoal) (a : PlainAct) (j : ℕ) (cs : List (Linear × Linear)) → first_sought p g (of_act a) j cs ≡ first_act p g (has_address g.state a) j cs
unfolding first_sought first_act
act-sought p g a j [] = refl
act-sought p g a j (c ∷ cs) =
    ap (λ (rest : Noted (Option PlainChoice)). sought_scan p g (of_act a) j c >>= (λ x. unless_over x rest)) (act-sought p g a (suc j) cs)

pub item-sought : (p : PlainProgram) (g : PlainGoal) (e : ℕ) (a : Linear) (j : ℕ) (cs : List (Linear × Linear)) → first_sought p g (of_item e a) j cs ≡ first_cell p g (has_item_address g.state e a) j cs
unfolding first_sought first_cell
item-sought p g e a j [] = refl
item-sought p g e a j (c ∷ cs) =
    ap (λ (rest : Noted (Option PlainChoice)). sought_scan p g (of_item e a) j c >>= (λ x. unless_over x rest)) (item-sought p g e a (suc j) cs)

-- one choice is tried
pub alone-tried : (p : PlainProgram) (g : PlainGoal) (c : PlainChoice) (n : PlainNotes) → tried_all p g (c ∷ []) n ≡ record { value = option_to_list (tried p g c n).value; notes = (tried p g c n).notes }
unfolding tried_all
alone-tried p g c n = ap (λ xs. record { value = xs; notes = (tried p g c n).notes }) (append-nil (option_to_list (tried p g c n).value))

later-step : (v : Option PlainChoice) (n : PlainNotes) (first second both : Noted (Option PlainChoice)) → ((m : PlainNotes) → both m ≡ or_later (first m).value second (first m).notes) → or_later v both n ≡ or_later (or_later v first n).value second (or_later v first n).notes
later-step None n first second both h = h n
later-step (Some c) n first second both h = refl

-- the first of two lists
pub first-append : (p : PlainProgram) (g : PlainGoal) (xs ys : List PlainChoice) (n : PlainNotes) → first_tried p g (xs ++ ys) n ≡ or_later (first_tried p g xs n).value (first_tried p g ys) (first_tried p g xs n).notes
unfolding first_tried
first-append p g [] ys n = refl
first-append p g (x ∷ xs) ys n =
    later-step (tried p g x n).value (tried p g x n).notes (first_tried p g xs) (first_tried p g ys) (first_tried p g (xs ++ ys)) (first-append p g xs ys)

pub range-next : (i n : ℕ) → i < n → range_with_len i (n - i) ≡ i ∷ range_with_len (i + 1) (n - (i + 1))
range-next i n h =
    let e : n - i ≡ suc (n - (i + 1)) = omega arith in
    ap (range_with_len i) e

pub range-last : (i n : ℕ) → n ≤ i → range_with_len i (n - i) ≡ []
range-last i n h =
    let e : n - i ≡ 0 = omega arith in
    ap (range_with_len i) e

-- ---- the first that succeeds of the choices for numbers from one on

pub next-fails : (p : PlainProgram) (g : PlainGoal) (f : ℕ → PlainChoice) (i n : ℕ) (old new : PlainNotes) → i < n → (None ≡ (tried p g (f i) old).value) × (new ≡ (tried p g (f i) old).notes) → first_tried p g (map f (range_with_len i (n - i))) old ≡ first_tried p g (map f (range_with_len (i + 1) (n - (i + 1)))) new
unfolding first_tried
next-fails p g f i n old new h e =
    let rest : Noted (Option PlainChoice) = first_tried p g (map f (range_with_len (i + 1) (n - (i + 1)))) in
    ap (λ ns. first_tried p g (map f ns) old) (range-next i n h)
    ∙ (ap (λ v. or_later v rest (tried p g (f i) old).notes) (sym e.0) ∙ ap rest (sym e.1))

pub none-left : (p : PlainProgram) (g : PlainGoal) (f : ℕ → PlainChoice) (i n : ℕ) (old : PlainNotes) → n ≤ i → first_tried p g (map f (range_with_len i (n - i))) old ≡ record { value = None; notes = old }
unfolding first_tried
none-left p g f i n old h = ap (λ ns. first_tried p g (map f ns) old) (range-last i n h)

-- ---- the same of lists of choices

pub part-fails : (p : PlainProgram) (g : PlainGoal) (f : ℕ → List PlainChoice) (i n : ℕ) (old new : PlainNotes) → i < n → (None ≡ (first_tried p g (f i) old).value) × (new ≡ (first_tried p g (f i) old).notes) → first_tried p g (flat_map f (range_with_len i (n - i))) old ≡ first_tried p g (flat_map f (range_with_len (i + 1) (n - (i + 1)))) new
part-fails p g f i n old new h e =
    let more : List PlainChoice = flat_map f (range_with_len (i + 1) (n - (i + 1))) in
    ap (λ ns. first_tried p g (flat_map f ns) old) (range-next i n h)
    ∙ (first-append p g (f i) more old
    ∙ (ap (λ v. or_later v (first_tried p g more) (first_tried p g (f i) old).notes) (sym e.0) ∙ ap (first_tried p g more) (sym e.1)))

pub part-succeeds : (p : PlainProgram) (g : PlainGoal) (f : ℕ → List PlainChoice) (i n : ℕ) (c : PlainChoice) (old new : PlainNotes) → i < n → (Some c ≡ (first_tried p g (f i) old).value) × (new ≡ (first_tried p g (f i) old).notes) → first_tried p g (flat_map f (range_with_len i (n - i))) old ≡ record { value = Some c; notes = new }
part-succeeds p g f i n c old new h e =
    let more : List PlainChoice = flat_map f (range_with_len (i + 1) (n - (i + 1))) in
    ap (λ ns. first_tried p g (flat_map f ns) old) (range-next i n h)
    ∙ (first-append p g (f i) more old
    ∙ (ap (λ v. or_later v (first_tried p g more) (first_tried p g (f i) old).notes) (sym e.0) ∙ ap (λ m. record { value = Some c; notes = m }) (sym e.1)))

pub no-part-left : (p : PlainProgram) (g : PlainGoal) (f : ℕ → List PlainChoice) (i n : ℕ) (old : PlainNotes) → n ≤ i → first_tried p g (flat_map f (range_with_len i (n - i))) old ≡ record { value = None; notes = old }
unfolding first_tried
no-part-left p g f i n old h = ap (λ ns. first_tried p g (flat_map f ns) old) (range-last i n h)

-- ---- what is found of the rest is found of the whole

pub found-so : {A : Type 0} (whole rest after : Outcome A) → (whole.value ≡ rest.value) × (whole.notes ≡ rest.notes) → rest ≡ after → (whole.value ≡ after.value) × (whole.notes ≡ after.notes)
found-so {A} whole rest after h e = (h.0 ∙ ap (λ (o : Outcome A). o.value) e, h.1 ∙ ap (λ (o : Outcome A). o.notes) e)

pub found-first : {A : Type 0} (whole rest after : Outcome A) → (whole.value ≡ rest.value) × (whole.notes ≡ rest.notes) → rest ≡ after → (after.value ≡ whole.value) × (after.notes ≡ whole.notes)
found-first whole rest after h e = let k = found-so whole rest after h e in (sym k.0, sym k.1)

-- later cells, by their own numbers
shifted : {A : Type 0} (f : ℕ → A) (m a k : ℕ) → map (λ d. f (m + d)) (range_with_len a k) ≡ map f (range_with_len (m + a) k)
shifted f m a zero = refl
shifted f m a (suc k) =
    let e : m + (a + 1) ≡ m + a + 1 = omega arith in
    ap (λ xs. f (m + a) ∷ xs) (shifted f m (a + 1) k ∙ ap (λ b. map f (range_with_len b k)) e)

pub later-cells : (i n : ℕ) → clashes_with n i ≡ map (λ j. by_clash i j []) (range_with_len (i + 1) (n - (i + 1)))
later-cells i n =
    let e : suc i + 0 ≡ i + 1 = omega arith in
    let d : n - suc i ≡ n - (i + 1) = omega arith in
    shifted (λ j. by_clash i j []) (suc i) 0 (n - suc i)
    ∙ (ap (λ b. map (λ j. by_clash i j []) (range_with_len b (n - suc i))) e ∙ ap (λ k. map (λ j. by_clash i j []) (range_with_len (i + 1) k)) d)
