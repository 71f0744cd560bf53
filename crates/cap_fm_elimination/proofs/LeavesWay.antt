-- The rows on the way: their marks are found downwards, and with these the results made upwards are the definition's.
use Rattle.std.proofs.Common.{◌≡◌, ℕ, zero, suc, ◌+◌, ◌<◌, ◌≤◌, List, [], ◌∷◌, ◌++◌, ◌-◌, length, map, take, drop, replicate, get_or, set, arith, refl, subst, sym, ap, ◌∙◌, append_assoc, pos, Bool, true, false, inl, inr}
use Rattle.std.specs.Prelude.{◌==◌, ◌||◌, if◌then◌else◌, reverse}
use mathlib.Core.List.{reverse_aux}
use Rattle.std.proofs.lemmas.List.{append-nil, length-set, length-map, length-replicate, length-reverse, length-take-le, get_or-map, get_or-replicate, get_or-set_same, get_or-set_other, get_or_read, reverse-append, take_all, take_at, take_more, drop_more, drop_all, length-append, get_or_append_left, get_or_push}
use Rattle.std.proofs.lemmas.Bool.{eq-eqb, ne_eqb, false≢true, cases_Bool, cases_lt}
use Rattle.std.proofs.lemmas.Bool.Decides.{nat_tests}
use Rattle.cap_lin.specs.Linear.{Linear, number}
use Rattle.cap_lin.specs.Steps.{Step}
use Rattle.cap_fm_spec.specs.Runs.{Origin, given, combined}
use Rattle.cap_fm_spec.specs.Leaf.{multipliers_of, multipliers, and_its_rows, own_steps, way_steps}
use Rattle.cap_fm_elimination.specs.declared.entry.Origin as entry
use Rattle.cap_fm_elimination.specs.declared.entry.Origin.TheVariants.{Given}
use Rattle.cap_fm_elimination.specs.Views.{origin_view, history_view}
use Rattle.cap_fm_elimination.specs.Way.{is_marked, RowsBelow, AreEarlier, IsReached, with_rows, IsClosed, steps_at, rising_steps, IsWay, term_at}

-- from the last row down, the rows that a marked row is a combination of are marked; the history has the last row first
unfoldable pub marked_down : List Origin → List Bool → List Bool
marked_down [] marks = marks
marked_down (o ∷ older) marks = marked_down older (if is_marked marks (length older) then with_rows o marks else marks)

-- ---- the definitions, a row at a time

earlier-cons : (place : ℕ) (o : Origin) (os : List Origin) → AreEarlier place (o ∷ os) → RowsBelow place o × AreEarlier (place + 1) os
unfolding AreEarlier
earlier-cons place o os h = h

down-cons : (o : Origin) (older : List Origin) (marks : List Bool) → marked_down (o ∷ older) marks ≡ marked_down older (if is_marked marks (length older) then with_rows o marks else marks)
unfolding marked_down
down-cons o older marks = refl

down-nil : (marks : List Bool) → marked_down [] marks ≡ marks
unfolding marked_down
down-nil marks = refl

way-nil : (way : ℕ → Bool) → way_steps [] way ≡ []
unfolding way_steps
way-nil way = refl

way-cons : (o : Origin) (older : List Origin) (way : ℕ → Bool) → way_steps (o ∷ older) way ≡ (if way (length older) then way_steps older (and_its_rows o way) ++ own_steps o (multipliers older) else way_steps older way)
unfolding way_steps
way-cons o older way = refl

rising-nil : (way : ℕ → Bool) (terms : ℕ → Linear) (place : ℕ) → rising_steps way terms place [] ≡ []
unfolding rising_steps
rising-nil way terms place = refl

rising-cons : (way : ℕ → Bool) (terms : ℕ → Linear) (place : ℕ) (o : Origin) (os : List Origin) → rising_steps way terms place (o ∷ os) ≡ steps_at (way place) o terms ++ rising_steps way terms (place + 1) os
unfolding rising_steps
rising-cons way terms place o os = refl

closed-nil : (way : ℕ → Bool) (place : ℕ) → IsClosed way place []
unfolding IsClosed
closed-nil way place = tt

closed-cons : (way : ℕ → Bool) (place : ℕ) (o : Origin) (os : List Origin) → (way place ≡ true → IsReached way o) → IsClosed way (place + 1) os → IsClosed way place (o ∷ os)
unfolding IsClosed
closed-cons way place o os h k = (h, k)

multipliers-last : (o : Origin) (older : List Origin) (i : ℕ) → i ≡ length older → multipliers (o ∷ older) i ≡ multipliers_of o (multipliers older)
unfolding multipliers
multipliers-last o older i e = let t : (i == length older) ≡ true = eq-eqb _ _ e in rw t refl

multipliers-older : (o : Origin) (older : List Origin) (i : ℕ) → i < length older → multipliers (o ∷ older) i ≡ multipliers older i
unfolding multipliers
multipliers-older o older i h = let t : (i == length older) ≡ false = ne_eqb _ _ (λ e. absurd (omega arith)) in rw t refl

-- ---- the multipliers of a row don't change when the history grows

pub grown : (os older : List Origin) (i : ℕ) → i < length older → multipliers (reverse_aux os older) i ≡ multipliers older i
grown [] older i h = refl
grown (o ∷ os) older i h = grown os (o ∷ older) i (omega arith) ∙ multipliers-older o older i h

grown-of : (o : Origin) (terms more : ℕ → Linear) (place : ℕ) → RowsBelow place o → ((i : ℕ) → i < place → more i ≡ terms i) → multipliers_of o more ≡ multipliers_of o terms
grown-of (given i) terms more place h e = refl
grown-of (combined a p b q) terms more place h e = rw (e p h.0, e q h.1) refl

grown-steps : (o : Origin) (terms more : ℕ → Linear) (place : ℕ) → RowsBelow place o → ((i : ℕ) → i < place → more i ≡ terms i) → own_steps o more ≡ own_steps o terms
grown-steps (given i) terms more place h e = refl
grown-steps (combined a p b q) terms more place h e = rw (e p h.0, e q h.1) refl

-- ---- the history with the last row first

abbrev AreBelow : List Origin → Type 0
AreBelow [] = Unit {0}
AreBelow (o ∷ older) = RowsBelow (length older) o × AreBelow older

below : (os older : List Origin) (place : ℕ) → place ≡ length older → AreEarlier place os → AreBelow older → AreBelow (reverse_aux os older)
below [] older place e h b = b
below (o ∷ os) older place e h b =
    let k = earlier-cons place o os h in
    let r : RowsBelow (length older) o = rw (← e) k.0 in
    below os (o ∷ older) (place + 1) (omega arith) k.1 (r, b)

-- ---- the multipliers are those that each row makes of earlier ones

abbrev pub AreMultipliers : (ℕ → Linear) → ℕ → List Origin → Type 0
AreMultipliers terms place [] = Unit {0}
AreMultipliers terms place (o ∷ os) = (terms place ≡ multipliers_of o terms) × AreMultipliers terms (place + 1) os

are_multipliers : (os older : List Origin) (place : ℕ) → place ≡ length older → AreEarlier place os → AreMultipliers (multipliers (reverse_aux os older)) place os
are_multipliers [] older place e h = tt
are_multipliers (o ∷ os) older place e h =
    let k = earlier-cons place o os h in
    let r : RowsBelow (length older) o = rw (← e) k.0 in
    let s = grown os (o ∷ older) place (omega arith) ∙ multipliers-last o older place e in
    let t = grown-of o (multipliers older) (multipliers (reverse_aux os (o ∷ older))) (length older) r (λ i l. grown (o ∷ os) older i l) in
    (s ∙ sym t, are_multipliers os (o ∷ older) (place + 1) (omega arith) k.1)

-- ---- the results by marks, the last row first

abbrev marked_steps : List Origin → (ℕ → Bool) → List Step
marked_steps [] way = []
marked_steps (o ∷ older) way = marked_steps older way ++ steps_at (way (length older)) o (multipliers older)

steps-same : (b : Bool) (o : Origin) (terms more : ℕ → Linear) (place : ℕ) → RowsBelow place o → ((i : ℕ) → i < place → more i ≡ terms i) → steps_at b o more ≡ steps_at b o terms
steps-same true o terms more place h e = grown-steps o terms more place h e
steps-same false o terms more place h e = refl

rising : (way : ℕ → Bool) (os older : List Origin) (place : ℕ) → place ≡ length older → AreEarlier place os → marked_steps (reverse_aux os older) way ≡ marked_steps older way ++ rising_steps way (multipliers (reverse_aux os older)) place os
rising way [] older place e h = rw rising-nil (sym (append-nil (marked_steps older way)))
rising way (o ∷ os) older place e h =
    let k = earlier-cons place o os h in
    let r : RowsBelow (length older) o = rw (← e) k.0 in
    let i = rising way os (o ∷ older) (place + 1) (omega arith) k.1 in
    let t = steps-same (way (length older)) o (multipliers older) (multipliers (reverse_aux os (o ∷ older))) (length older) r (λ i l. grown (o ∷ os) older i l) in
    i ∙ (rw (rising-cons, append_assoc, e, ← t) refl)

-- ---- marks

set-or : (marks : List Bool) (p i : ℕ) → i < length marks → get_or (set marks p true) i false ≡ ((i == p) || get_or marks i false)
set-or [] p i h = absurd (omega arith)
set-or (m ∷ marks) zero zero h = refl
set-or (m ∷ marks) zero (suc i) h = let t : (suc i == zero) ≡ false = ne_eqb _ _ (λ e. absurd (omega arith)) in rw t refl
set-or (m ∷ marks) (suc p) zero h = let t : (zero == suc p) ≡ false = ne_eqb _ _ (λ e. absurd (omega arith)) in rw t refl
set-or (m ∷ marks) (suc p) (suc i) h = set-or marks p i (omega arith) ∙ ap (λ b. b || get_or marks i false) (suc-eqb i p)
  where
    suc-eqb : (i p : ℕ) → (i == p) ≡ (suc i == suc p)
    suc-eqb i p = grind (arith, nat_tests)

with_rows-long : (o : Origin) (marks : List Bool) → length (with_rows o marks) ≡ length marks
with_rows-long (given i) marks = refl
with_rows-long (combined a p b q) marks = length-set (set marks p true) q true ∙ length-set marks p true

or-swap : (a b c : Bool) → (a || (b || c)) ≡ (b || (a || c))
or-swap true true c = refl
or-swap true false c = refl
or-swap false true c = refl
or-swap false false c = refl

with_rows-are : (o : Origin) (marks : List Bool) (way : ℕ → Bool) (i : ℕ) → i < length marks → way i ≡ is_marked marks i → and_its_rows o way i ≡ is_marked (with_rows o marks) i
with_rows-are (given j) marks way i h e = e
with_rows-are (combined a p b q) marks way i h e =
    let l : i < length (set marks p true) = omega (arith, length-set marks p true) in
    ap (λ w. (i == p) || ((i == q) || w)) e ∙ or-swap (i == p) (i == q) (is_marked marks i) ∙ ap (λ w. (i == q) || w) (sym (set-or marks p i h)) ∙ sym (set-or (set marks p true) q i l)

with_rows-above : (o : Origin) (marks : List Bool) (place i : ℕ) → RowsBelow place o → place ≤ i → is_marked (with_rows o marks) i ≡ is_marked marks i
with_rows-above (given j) marks place i h l = refl
with_rows-above (combined a p b q) marks place i h l =
    get_or-set_other (set marks p true) q i true false (λ e. absurd (omega arith)) ∙ get_or-set_other marks p i true false (λ e. absurd (omega arith))

set-keeps : (marks : List Bool) (p i : ℕ) → get_or marks i false ≡ true → get_or (set marks p true) i false ≡ true
set-keeps [] p i h = h
set-keeps (m ∷ marks) zero zero h = refl
set-keeps (m ∷ marks) zero (suc i) h = h
set-keeps (m ∷ marks) (suc p) zero h = h
set-keeps (m ∷ marks) (suc p) (suc i) h = set-keeps marks p i h

with_rows-keep : (o : Origin) (marks : List Bool) (i : ℕ) → is_marked marks i ≡ true → is_marked (with_rows o marks) i ≡ true
with_rows-keep (given j) marks i h = h
with_rows-keep (combined a p b q) marks i h = set-keeps (set marks p true) q i (set-keeps marks p i h)

-- ---- downwards

marked_down-long : (older : List Origin) (marks : List Bool) → length (marked_down older marks) ≡ length marks
marked_down-long [] marks = ap length (down-nil marks)
marked_down-long (o ∷ older) marks = ap length (down-cons o older marks) ∙ marked_down-long older _ ∙ by_mark (is_marked marks (length older))
  where
    by_mark : (b : Bool) → length (if b then with_rows o marks else marks) ≡ length marks
    by_mark true = with_rows-long o marks
    by_mark false = refl

marked_down-keeps : (older : List Origin) (marks : List Bool) (i : ℕ) → is_marked marks i ≡ true → is_marked (marked_down older marks) i ≡ true
marked_down-keeps [] marks i h = ap (λ ms. is_marked ms i) (down-nil marks) ∙ h
marked_down-keeps (o ∷ older) marks i h = ap (λ ms. is_marked ms i) (down-cons o older marks) ∙ marked_down-keeps older _ i (by_mark (is_marked marks (length older)))
  where
    by_mark : (b : Bool) → is_marked (if b then with_rows o marks else marks) i ≡ true
    by_mark true = with_rows-keep o marks i h
    by_mark false = h

-- marks from a place on stay as they are
marked_down-above : (older : List Origin) (marks : List Bool) (i : ℕ) → AreBelow older → length older ≤ i → is_marked (marked_down older marks) i ≡ is_marked marks i
marked_down-above [] marks i h l = ap (λ ms. is_marked ms i) (down-nil marks)
marked_down-above (o ∷ older) marks i h l = ap (λ ms. is_marked ms i) (down-cons o older marks) ∙ marked_down-above older _ i h.1 (omega arith) ∙ by_mark (is_marked marks (length older))
  where
    by_mark : (b : Bool) → is_marked (if b then with_rows o marks else marks) i ≡ is_marked marks i
    by_mark true = with_rows-above o marks (length older) i h.0 (omega arith)
    by_mark false = refl

down-marked : (o : Origin) (older : List Origin) (marks : List Bool) → is_marked marks (length older) ≡ true → marked_down (o ∷ older) marks ≡ marked_down older (with_rows o marks)
down-marked o older marks m = down-cons o older marks ∙ ap (λ b. marked_down older (if b then with_rows o marks else marks)) m

down-unmarked : (o : Origin) (older : List Origin) (marks : List Bool) → is_marked marks (length older) ≡ false → marked_down (o ∷ older) marks ≡ marked_down older marks
down-unmarked o older marks m = down-cons o older marks ∙ ap (λ b. marked_down older (if b then with_rows o marks else marks)) m

one-marked : (o : Origin) (older : List Origin) (way : ℕ → Bool) (marks : List Bool) → AreBelow (o ∷ older) → way (length older) ≡ true → is_marked marks (length older) ≡ true → way_steps older (and_its_rows o way) ≡ marked_steps older (is_marked (marked_down older (with_rows o marks))) → way_steps (o ∷ older) way ≡ marked_steps (o ∷ older) (is_marked (marked_down (o ∷ older) marks))
one-marked o older way marks h w m i =
    let a : is_marked (marked_down older (with_rows o marks)) (length older) ≡ true = marked_down-above older (with_rows o marks) (length older) h.1 (omega arith) ∙ with_rows-above o marks (length older) (length older) h.0 (omega arith) ∙ m in
    rw (way-cons, w, down-marked o older marks m, a) (ap (λ steps. steps ++ own_steps o (multipliers older)) i)

one-unmarked : (o : Origin) (older : List Origin) (way : ℕ → Bool) (marks : List Bool) → AreBelow (o ∷ older) → way (length older) ≡ false → is_marked marks (length older) ≡ false → way_steps older way ≡ marked_steps older (is_marked (marked_down older marks)) → way_steps (o ∷ older) way ≡ marked_steps (o ∷ older) (is_marked (marked_down (o ∷ older) marks))
one-unmarked o older way marks h w m i =
    let a : is_marked (marked_down older marks) (length older) ≡ false = marked_down-above older marks (length older) h.1 (omega arith) ∙ m in
    rw (way-cons, w, down-unmarked o older marks m, a) (i ∙ sym (append-nil (marked_steps older (is_marked (marked_down older marks)))))

-- the results on the way are those of the marked rows
descending : (older : List Origin) (way : ℕ → Bool) (marks : List Bool) → AreBelow older → length older ≤ length marks → ((i : ℕ) → i < length older → way i ≡ is_marked marks i) → way_steps older way ≡ marked_steps older (is_marked (marked_down older marks))
descending [] way marks h l e = way-nil way
descending (o ∷ older) way marks h l e = elim (cases_Bool (is_marked marks (length older))) [
  | inl m ↦
      let w : way (length older) ≡ true = e (length older) (omega arith) ∙ m in
      let i = descending older (and_its_rows o way) (with_rows o marks) h.1 (omega (arith, with_rows-long o marks)) (λ i k. with_rows-are o marks way i (omega arith) (e i (omega arith))) in
      one-marked o older way marks h w m i
  | inr m ↦
      let w : way (length older) ≡ false = e (length older) (omega arith) ∙ m in
      let i = descending older way marks h.1 (omega arith) (λ i k. e i (omega arith)) in
      one-unmarked o older way marks h w m i
]

-- ---- the rows that a marked row is a combination of are marked

abbrev AreClosed : (ℕ → Bool) → List Origin → Type 0
AreClosed way [] = Unit {0}
AreClosed way (o ∷ older) = (way (length older) ≡ true → IsReached way o) × AreClosed way older

reached : (o : Origin) (older : List Origin) (marks : List Bool) → RowsBelow (length older) o → length older ≤ length marks → IsReached (is_marked (marked_down older (with_rows o marks))) o
reached (given i) older marks h l = tt
reached (combined a p b q) older marks h l =
    let s : q < length (set marks p true) = omega (arith, length-set marks p true) in
    (marked_down-keeps older (with_rows (combined a p b q) marks) p (set-keeps (set marks p true) q p (get_or-set_same marks p true false (omega arith))), marked_down-keeps older (with_rows (combined a p b q) marks) q (get_or-set_same (set marks p true) q true false s))

closed : (older : List Origin) (marks : List Bool) → AreBelow older → length older ≤ length marks → AreClosed (is_marked (marked_down older marks)) older
closed [] marks h l = tt
closed (o ∷ older) marks h l = elim (cases_Bool (is_marked marks (length older))) [
  | inl m ↦ subst (λ ms. AreClosed (is_marked ms) (o ∷ older)) (sym (down-marked o older marks m)) ((λ k. reached o older marks h.0 (omega arith)), closed older (with_rows o marks) h.1 (omega (arith, with_rows-long o marks)))
  | inr m ↦ subst (λ ms. AreClosed (is_marked ms) (o ∷ older)) (sym (down-unmarked o older marks m)) ((λ k. absurd (false≢true (sym m ∙ sym (marked_down-above older marks (length older) h.1 (omega arith)) ∙ k))), closed older marks h.1 (omega arith))
]

closed_up : (way : ℕ → Bool) (os older : List Origin) (place : ℕ) → place ≡ length older → AreClosed way (reverse_aux os older) → IsClosed way place os × AreClosed way older
closed_up way [] older place e h = (closed-nil way place, h)
closed_up way (o ∷ os) older place e h =
    let r = closed_up way os (o ∷ older) (place + 1) (omega arith) h in
    let c : way place ≡ true → IsReached way o = rw e r.1.0 in
    (closed-cons way place o os c r.0, r.1.1)

-- ---- the whole

pub way-found : (os : List Origin) (last : ℕ) (marks : List Bool) → AreEarlier 0 os → last < length os → length marks ≡ length os → ((i : ℕ) → i < length os → (i == last) ≡ is_marked marks i) → IsWay os last (marked_down (reverse os) marks)
way-found os last marks h l n e =
    let b = below os [] 0 refl h tt in
    let k : length (reverse os) ≤ length marks = omega (arith, length-reverse os) in
    record {
      long = marked_down-long (reverse os) marks ∙ n;
      own = marked_down-keeps (reverse os) marks last (sym (e last l) ∙ eq-eqb last last refl);
      closed = (closed_up _ os [] 0 refl (closed (reverse os) marks b k)).0;
      steps = sym (rising (is_marked (marked_down (reverse os) marks)) os [] 0 refl h) ∙ sym (descending (reverse os) (λ i. i == last) marks b k (λ i j. e i (omega (arith, length-reverse os))));
    }

pub multipliers-found : (os : List Origin) → AreEarlier 0 os → AreMultipliers (multipliers (reverse os)) 0 os
multipliers-found os h = are_multipliers os [] 0 refl h

-- ---- the loop downwards

-- the marks with which it begins
pub marked-last : (n last i : ℕ) → last < n → i < n → (i == last) ≡ is_marked (set (replicate n false) last true) i
marked-last n last i l h =
    let k : i < length (replicate n false) = omega (arith, length-replicate n false) in
    or-false (i == last) ∙ ap (λ b. (i == last) || b) (sym (get_or-replicate n i false false h)) ∙ sym (set-or (replicate n false) last i k)
  where
    or-false : (b : Bool) → b ≡ (b || false)
    or-false true = refl
    or-false false = refl

take-none : (n : ℕ) → take {A = Bool} n [] ≡ []
take-none zero = refl
take-none (suc n) = refl

pub filled : (marks before : List Bool) (n len : ℕ) → marks ≡ take n before ++ replicate (n - len) false → before ≡ [] → len ≡ 0 → marks ≡ replicate n false
filled marks before n len e b l =
    let k : n - len ≡ n = omega arith in
    e ∙ rw (b, k, take-none n) refl

-- a loop over marks gives back what it was lent
pub lent : (marks new : List Bool) (n : ℕ) → n ≡ length marks → length new ≡ length marks → take n (new ++ drop (length new) marks) ≡ new
lent marks new n e h = take_at new (drop (length new) marks) n (h ∙ sym e)

pub marked-long : (o : Origin) (marks new : List Bool) → new ≡ with_rows o marks → length new ≡ length marks
marked-long o marks new e = ap length e ∙ with_rows-long o marks

rows-at : (os : List Origin) (place i : ℕ) (d : Origin) → AreEarlier place os → i < length os → RowsBelow (place + i) (get_or os i d)
rows-at [] place i d h l = absurd (omega arith)
rows-at (o ∷ os) place zero d h l = let e : place ≡ place + 0 = omega arith in subst (λ n. RowsBelow n o) e (earlier-cons place o os h).0
rows-at (o ∷ os) place (suc i) d h l = let e : (place + 1) + i ≡ place + suc i = omega arith in subst (λ n. RowsBelow n (get_or os i d)) e (rows-at os (place + 1) i d (earlier-cons place o os h).1 (omega arith))

rows-more : (o : Origin) (m n : ℕ) → RowsBelow m o → m ≤ n → RowsBelow n o
rows-more (given i) m n h l = tt
rows-more (combined a p b q) m n h l = (omega arith, omega arith)

origin-at : (history : List entry.Origin) (i : ℕ) → i < length history → get_or (map origin_view history) i (given 0) ≡ origin_view (get_or history i (Given 0))
origin-at history i h = get_or-map origin_view history i (Given 0) (given 0) h

pub rows-below : (history : List entry.Origin) (n place : ℕ) → AreEarlier 0 (map origin_view history) → 0 < place → place ≤ length history → n ≡ length history → RowsBelow n (origin_view (get_or history (place - 1) (Given 0)))
rows-below history n place h z l e =
    let i : place - 1 < length (map origin_view history) = omega (arith, length-map history origin_view) in
    let r = rows-at (map origin_view history) 0 (place - 1) (given 0) h i in
    rows-more _ (0 + (place - 1)) n (subst (RowsBelow (0 + (place - 1))) (origin-at history (place - 1) (omega arith)) r) (omega arith)

taken : (history : List entry.Origin) (place : ℕ) → 0 < place → place ≤ length history → reverse (take place (map origin_view history)) ≡ origin_view (get_or history (place - 1) (Given 0)) ∷ reverse (take (place - 1) (map origin_view history))
taken history place z l =
    let i : place - 1 < length (map origin_view history) = omega (arith, length-map history origin_view) in
    let e : place ≡ (place - 1) + 1 = omega arith in
    ap (λ n. reverse (take n (map origin_view history))) e ∙ ap reverse (take_more (map origin_view history) (place - 1) (given 0) i) ∙ reverse-append (take (place - 1) (map origin_view history)) (get_or (map origin_view history) (place - 1) (given 0) ∷ []) ∙ ap (λ o. o ∷ reverse (take (place - 1) (map origin_view history))) (origin-at history (place - 1) (omega arith))

taken-long : (history : List entry.Origin) (place : ℕ) → 0 < place → place ≤ length history → length (reverse (take (place - 1) (map origin_view history))) ≡ place - 1
taken-long history place z l = length-reverse (take (place - 1) (map origin_view history)) ∙ length-take-le (place - 1) (map origin_view history) (omega (arith, length-map history origin_view))

mark-at : (history : List entry.Origin) (place : ℕ) (marks : List Bool) (m : Bool) → 0 < place → place ≤ length history → length marks ≡ length history → m ≡ get_or marks (place - 1) m → is_marked marks (length (reverse (take (place - 1) (map origin_view history)))) ≡ m
mark-at history place marks m z l e h = ap (is_marked marks) (taken-long history place z l) ∙ sym (get_or_read marks (place - 1) m (omega arith) h false)

pub goes-down-marked : (history : List entry.Origin) (place : ℕ) (marks new whole : List Bool) (m : Bool) → 0 < place → place ≤ length history → length marks ≡ length history → m ≡ get_or marks (place - 1) m → m ≡ true → new ≡ with_rows (origin_view (get_or history (place - 1) (Given 0))) marks → marked_down (reverse (take place (map origin_view history))) marks ≡ whole → marked_down (reverse (take (place - 1) (map origin_view history))) new ≡ whole
goes-down-marked history place marks new whole m z l e h t n w =
    ap (marked_down (reverse (take (place - 1) (map origin_view history)))) n ∙ sym (down-marked _ _ marks (mark-at history place marks m z l e h ∙ t)) ∙ ap (λ os. marked_down os marks) (sym (taken history place z l)) ∙ w

pub goes-down-unmarked : (history : List entry.Origin) (place : ℕ) (marks whole : List Bool) (m : Bool) → 0 < place → place ≤ length history → length marks ≡ length history → m ≡ get_or marks (place - 1) m → m ≡ false → marked_down (reverse (take place (map origin_view history))) marks ≡ whole → marked_down (reverse (take (place - 1) (map origin_view history))) marks ≡ whole
goes-down-unmarked history place marks whole m z l e h t w =
    sym (down-unmarked (origin_view (get_or history (place - 1) (Given 0))) _ marks (mark-at history place marks m z l e h ∙ t)) ∙ ap (λ os. marked_down os marks) (sym (taken history place z l)) ∙ w

pub begins : (history : List entry.Origin) (last : ℕ) (marks : List Bool) → marks ≡ replicate (length history) false → marked_down (reverse (take (length history) (map origin_view history))) (set marks last true) ≡ marked_down (history_view history) (set (replicate (length history) false) last true)
begins history last marks e =
    let t : take (length history) (map origin_view history) ≡ map origin_view history = take_all (length history) (map origin_view history) (omega (arith, length-map history origin_view)) in
    rw (e, t) refl

pub way-is : (history : List entry.Origin) (last place : ℕ) (marks : List Bool) → AreEarlier 0 (map origin_view history) → last + 1 ≡ length history → place ≡ 0 → marked_down (reverse (take place (map origin_view history))) marks ≡ marked_down (history_view history) (set (replicate (length history) false) last true) → IsWay (map origin_view history) last marks
way-is history last place marks h l z w =
    let n = length-map history origin_view in
    let s : marks ≡ marked_down (history_view history) (set (replicate (length history) false) last true) = sym (down-nil marks) ∙ ap (λ k. marked_down (reverse (take k (map origin_view history))) marks) (sym z) ∙ w in
    rw s (way-found (map origin_view history) last (set (replicate (length history) false) last true) h (omega arith) (length-set (replicate (length history) false) last true ∙ length-replicate (length history) false ∙ sym n) (λ i k. marked-last (length history) last i (omega arith) (omega arith)))

-- ---- the loop upwards

-- what holds of the rows from a place on
pub record IsRest (way : ℕ → Bool) (terms : ℕ → Linear) (place : ℕ) (os : List Origin) : Type 0 where
  pub earlier : AreEarlier place os
  pub closed : IsClosed way place os
  pub made : AreMultipliers terms place os

-- and what of the first of them
pub record IsHere (way : ℕ → Bool) (terms : ℕ → Linear) (place : ℕ) (o : Origin) (os : List Origin) : Type 0 where
  pub below : RowsBelow place o
  pub reached : way place ≡ true → IsReached way o
  pub made : terms place ≡ multipliers_of o terms
  pub rest : IsRest way terms (place + 1) os

closed-out : (way : ℕ → Bool) (place : ℕ) (o : Origin) (os : List Origin) → IsClosed way place (o ∷ os) → (way place ≡ true → IsReached way o) × IsClosed way (place + 1) os
unfolding IsClosed
closed-out way place o os h = h

here-first : (way : ℕ → Bool) (terms : ℕ → Linear) (place : ℕ) (o : Origin) (os : List Origin) → IsRest way terms place (o ∷ os) → IsHere way terms place o os
here-first way terms place o os h =
    let e = earlier-cons place o os h.earlier in
    let c = closed-out way place o os h.closed in
    record { below = e.0; reached = c.0; made = h.made.0; rest = record { earlier = e.1; closed = c.1; made = h.made.1 } }

dropped : (history : List entry.Origin) (place : ℕ) → place < length history → drop place (map origin_view history) ≡ origin_view (get_or history place (Given 0)) ∷ drop (place + 1) (map origin_view history)
dropped history place l =
    drop_more (map origin_view history) place (given 0) (omega (arith, length-map history origin_view)) ∙ ap (λ o. o ∷ drop (place + 1) (map origin_view history)) (origin-at history place l)

pub here : (history : List entry.Origin) (way : ℕ → Bool) (terms : ℕ → Linear) (place : ℕ) → place < length history → IsRest way terms place (drop place (map origin_view history)) → IsHere way terms place (origin_view (get_or history place (Given 0))) (drop (place + 1) (map origin_view history))
here history way terms place l h = here-first way terms place _ _ (subst (IsRest way terms place) (dropped history place l) h)

pub steps-here : (history : List entry.Origin) (way : ℕ → Bool) (terms : ℕ → Linear) (place : ℕ) → place < length history → rising_steps way terms place (drop place (map origin_view history)) ≡ steps_at (way place) (origin_view (get_or history place (Given 0))) terms ++ rising_steps way terms (place + 1) (drop (place + 1) (map origin_view history))
steps-here history way terms place l = ap (rising_steps way terms place) (dropped history place l) ∙ rising-cons way terms place _ _

pub steps-end : (history : List entry.Origin) (way : ℕ → Bool) (terms : ℕ → Linear) (place : ℕ) → length history ≤ place → rising_steps way terms place (drop place (map origin_view history)) ≡ []
steps-end history way terms place l = ap (rising_steps way terms place) (drop_all place (map origin_view history) (omega (arith, length-map history origin_view))) ∙ rising-nil way terms place

-- the terms so far are the multipliers, where they are on the way
abbrev pub AreMade : (ℕ → Bool) → (ℕ → Linear) → List Linear → Type 0
AreMade way terms made = (i : ℕ) → i < length made → way i ≡ true → term_at made i ≡ terms i

pub same-steps : (o : Origin) (way : ℕ → Bool) (terms : ℕ → Linear) (made : List Linear) → RowsBelow (length made) o → IsReached way o → AreMade way terms made → own_steps o (term_at made) ≡ own_steps o terms
same-steps (given i) way terms made h r m = refl
same-steps (combined a p b q) way terms made h r m = rw (m p h.0 r.0, m q h.1 r.1) refl

pub same-multipliers : (o : Origin) (way : ℕ → Bool) (terms : ℕ → Linear) (made : List Linear) → RowsBelow (length made) o → IsReached way o → AreMade way terms made → multipliers_of o (term_at made) ≡ multipliers_of o terms
same-multipliers (given i) way terms made h r m = refl
same-multipliers (combined a p b q) way terms made h r m = rw (m p h.0 r.0, m q h.1 r.1) refl

pub made-more : (way : ℕ → Bool) (terms : ℕ → Linear) (made : List Linear) (t : Linear) → AreMade way terms made → (way (length made) ≡ true → t ≡ terms (length made)) → AreMade way terms (made ++ (t ∷ []))
made-more way terms made t m h i l w = elim (cases_lt i (length made)) [
  | inl k ↦ get_or_append_left made (t ∷ []) (number (pos 0)) i k ∙ m i k w
  | inr k ↦
      let e : i ≡ length made = omega (arith, length-append made (t ∷ [])) in
      ap (term_at (made ++ (t ∷ []))) e ∙ get_or_push made t (number (pos 0)) (length made) refl ∙ h (sym (ap way e) ∙ w) ∙ ap terms (sym e)
]

pub rest-whole : (history : List entry.Origin) (last : ℕ) (marks : List Bool) → AreEarlier 0 (map origin_view history) → IsWay (map origin_view history) last marks → IsRest (is_marked marks) (multipliers (history_view history)) 0 (map origin_view history)
rest-whole history last marks h w = record { earlier = h; closed = w.closed; made = multipliers-found (map origin_view history) h }
