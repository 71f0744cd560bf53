-- One decision after the other.
use Rattle.std.proofs.Common.{◌≡◌, ◌∙◌, ap, sym, refl, subst, append_assoc, inl, inr, ℕ, zero, suc, ◌<◌, ◌≤◌, ◌-◌, Bool, true, false, List, [], ◌∷◌, ◌++◌, drop, length, arith, None}
use Rattle.std.specs.Prelude.{is_some, remove, if◌then◌else◌}
use Rattle.std.proofs.lemmas.List.{length-append, length-drop}
use Rattle.std.proofs.lemmas.List.Edits.{remove-append_right}
use Rattle.cap_lin.specs.declared.row.Row.{Row}
use Rattle.cap_fm_spec.specs.Events.{Event, wide, many, first_limit}
use Rattle.cap_fm_spec.specs.Solving.{Logged, solved}
use Rattle.cap_fm_elimination.specs.Answers.{Explains}
use Rattle.cap_fm_elimination.specs.declared.error.SolveError.{SolveError}
use Rattle.cap_fm_elimination.specs.declared.error.SolveError.TheVariants as error
use Rattle.cap_fm_elimination.proofs.Runs.{limit-later, limit-earlier}
use Rattle.cap_core.specs.Core.{Numbered, numbered_from, rows_of, numbers_of, Leaves, IsCore}
use Rattle.cap_core.specs.Deciding.{stays_unless, core_from, core_of, Says, IsDecided, IsTried}
use Rattle.cap_core.proofs.Needed.{rows-join, rows-numbered}

-- ---- limits

explains-more : (e : SolveError) (es fs : List Event) → Explains e es → Explains e (es ++ fs)
explains-more (error.Wide a b) es fs h = limit-earlier es fs (wide a b) h
explains-more error.Rows es fs h = limit-earlier es fs many h
explains-more error.OutOfMemory es fs h = tt

explains-same : (e : SolveError) (es fs : List Event) → first_limit es ≡ first_limit fs → Explains e fs → Explains e es
explains-same (error.Wide a b) es fs q h = q ∙ h
explains-same error.Rows es fs q h = q ∙ h
explains-same error.OutOfMemory es fs q h = tt

-- ---- the walk

pub record SameLog (l m : Logged (List ℕ)) : Type 0 where
  pub limit : first_limit l.events ≡ first_limit m.events
  pub value : l.value ≡ m.value

-- so far these rows stay, of these numbers, and the rows from a number on are still to be tried
pub record Goes (rows left : List Row) (numbers : List ℕ) (number : ℕ) : Type 0 where
  pub stay : List Numbered
  pub later : List Row
  pub rest : drop number rows ≡ later
  pub left_are : left ≡ rows_of stay ++ later
  pub numbers_are : numbers ≡ numbers_of stay
  pub few : length stay ≤ number
  pub log : SameLog (core_of rows) (core_from stay (numbered_from number later))
  pub path : (core : List Numbered) → Leaves stay (numbered_from number later) core → Leaves [] (numbered_from 0 rows) core

pub begins : (rows : List Row) → Goes rows rows [] 0
begins rows = record {
  stay = [];
  later = rows;
  rest = refl;
  left_are = refl;
  numbers_are = refl;
  few = omega arith;
  log = record { limit = refl; value = refl };
  path = λ core h. h;
}

numbers-join : (xs ys : List Numbered) → numbers_of (xs ++ ys) ≡ numbers_of xs ++ numbers_of ys
numbers-join [] ys = refl
numbers-join (x ∷ xs) ys = ap (λ l. x.0 ∷ l) (numbers-join xs ys)

length-rows : (xs : List Numbered) → length (rows_of xs) ≡ length xs
length-rows [] = refl
length-rows (x ∷ xs) = ap suc (length-rows xs)

length-numbers : (xs : List Numbered) → length (numbers_of xs) ≡ length xs
length-numbers [] = refl
length-numbers (x ∷ xs) = ap suc (length-numbers xs)

length-pushed : (xs : List Numbered) (x : Numbered) → length (xs ++ x ∷ []) ≡ suc (length xs)
length-pushed [] x = refl
length-pushed (y ∷ xs) x = ap suc (length-pushed xs x)

-- the rows that a decision is about
about : (stay : List Numbered) (later : List Row) (i : ℕ) → rows_of (stay ++ numbered_from i later) ≡ rows_of stay ++ later
about stay later i = rows-join stay (numbered_from i later) ∙ ap (λ l. rows_of stay ++ l) (rows-numbered i later)

place-of : {rows left : List Row} {numbers : List ℕ} {number : ℕ} (g : Goes rows left numbers number) → length (rows_of g.stay) ≡ length numbers
place-of g = length-rows g.stay ∙ (sym (length-numbers g.stay) ∙ ap length (sym g.numbers_are))

take-out : (xs : List Row) (n : ℕ) (r : Row) (ys : List Row) → length xs ≡ n → remove (xs ++ r ∷ ys) n ≡ xs ++ ys
take-out xs n r ys e = remove-append_right xs (r ∷ ys) n n e (omega arith) ∙ ap (λ k. xs ++ remove (r ∷ ys) k) (none n)
  where
    none : (n : ℕ) → n - n ≡ 0
    none n = omega arith

-- what is still to be tried begins with the row of this number
pub record Tried (rows later : List Row) (number : ℕ) : Type 0 where
  pub row : Row
  pub behind : List Row
  pub is : later ≡ row ∷ behind
  pub next : drop (suc number) rows ≡ behind

first-there : (rows : List Row) (n : ℕ) → n < length rows → (r : Row) × (drop n rows ≡ r ∷ drop (suc n) rows)
first-there [] n l = absurd (omega (arith, l))
first-there (r ∷ rows) zero l = (r, refl)
first-there (r ∷ rows) (suc n) l = first-there rows n (omega (arith, l))

none-there : (rows : List Row) (n : ℕ) → length rows ≤ n → drop n rows ≡ []
none-there [] zero l = refl
none-there [] (suc n) l = refl
none-there (r ∷ rows) zero l = absurd (omega (arith, l))
none-there (r ∷ rows) (suc n) l = none-there rows n (omega (arith, l))

to-be-tried : {rows left : List Row} {numbers : List ℕ} {number : ℕ} (g : Goes rows left numbers number) → number < length rows → Tried rows g.later number
to-be-tried {rows} {left} {numbers} {number} g l =
    let f = first-there rows number l in
    record { row = f.0; behind = drop (suc number) rows; is = sym g.rest ∙ f.1; next = refl }

without : {rows left : List Row} {numbers : List ℕ} {number : ℕ} (g : Goes rows left numbers number) (t : Tried rows g.later number) → remove left (length numbers) ≡ rows_of g.stay ++ t.behind
without {rows} {left} {numbers} {number} g t =
    ap (λ l. remove l (length numbers)) (g.left_are ∙ ap (λ l. rows_of g.stay ++ l) t.is)
    ∙ take-out (rows_of g.stay) (length numbers) t.row t.behind (place-of g)

stays-rows : (found : Bool) (stay : List Numbered) (n : Numbered) (later : List Row) → rows_of (stays_unless found stay n) ++ later ≡ (if found then rows_of stay ++ later else rows_of stay ++ n.1 ∷ later)
stays-rows true stay n later = refl
stays-rows false stay n later = ap (λ l. l ++ later) (rows-join stay (n ∷ [])) ∙ append_assoc (rows_of stay) (n.1 ∷ []) later

abbrev pub numbers_unless : Bool → List ℕ → ℕ → List ℕ
numbers_unless found ns n = if found then ns else ns ++ n ∷ []

stays-numbers : (found : Bool) (stay : List Numbered) (n : Numbered) → numbers_of (stays_unless found stay n) ≡ numbers_unless found (numbers_of stay) n.0
stays-numbers true stay n = refl
stays-numbers false stay n = numbers-join stay (n ∷ [])

stays-few : (found : Bool) (stay : List Numbered) (n : Numbered) (i : ℕ) → length stay ≤ i → length (stays_unless found stay n) ≤ suc i
stays-few true stay n i l = omega (arith, l)
stays-few false stay n i l = let e = length-pushed stay n in omega (arith, l, e)

leaves-on :
    (found : Bool) (stay later core : List Numbered) (n : Numbered) → Says found (rows_of (stay ++ later)) →
    Leaves (stays_unless found stay n) later core → Leaves stay (n ∷ later) core
leaves-on true stay later core n s h = inl (s, h)
leaves-on false stay later core n s h = inr (s, h)

same-if : (found : Bool) (a b c d : List Row) → a ≡ c → b ≡ d → (if found then a else b) ≡ (if found then c else d)
same-if true a b c d e f = e
same-if false a b c d e f = f

-- after a decision
pub goes-on :
    (rows left left' : List Row) (numbers numbers' : List ℕ) (number : ℕ) (found : Bool) →
    Goes rows left numbers number → number < length rows → IsTried left (length numbers) left' found →
    numbers' ≡ numbers_unless found numbers number → Goes rows left' numbers' (suc number)
unfolding core_from
goes-on rows left left' numbers numbers' number found g l i e =
    let t = to-be-tried g l in
    let n : Numbered = (number, t.row) in
    let rest = numbered_from (suc number) t.behind in
    let w = without g t in
    let a = about g.stay t.behind (suc number) in
    let d : IsDecided (rows_of (g.stay ++ rest)) found = subst (λ rs. IsDecided rs found) (w ∙ sym a) i.decided in
    let was = subst (λ rs. SameLog (core_of rows) (core_from g.stay (numbered_from number rs))) t.is g.log in
    let path = subst (λ rs. (core : List Numbered) → Leaves g.stay (numbered_from number rs) core → Leaves [] (numbered_from 0 rows) core) t.is g.path in
    record {
      stay = stays_unless found g.stay n;
      later = t.behind;
      rest = t.next;
      left_are = i.left_are
          ∙ (same-if found (remove left (length numbers)) left (rows_of g.stay ++ t.behind) (rows_of g.stay ++ t.row ∷ t.behind)
          w (g.left_are ∙ ap (λ rs. rows_of g.stay ++ rs) t.is)
          ∙ sym (stays-rows found g.stay n t.behind));
      numbers_are = e ∙ (ap (λ ns. numbers_unless found ns number) g.numbers_are ∙ sym (stays-numbers found g.stay n));
      few = stays-few found g.stay n number g.few;
      log = subst (λ b. SameLog (core_of rows) (core_from (stays_unless b g.stay n) rest)) d.is
          (record {
            limit = was.limit ∙ limit-later (solved (rows_of (g.stay ++ rest))).events
                (core_from (stays_unless (is_some (solved (rows_of (g.stay ++ rest))).value) g.stay n) rest).events d.within;
            value = was.value;
          });
      path = λ core h. path core (leaves-on found g.stay rest core n d.says h);
    }

-- a decision that passes a limit
pub fails :
    (rows left : List Row) (numbers : List ℕ) (number : ℕ) (e : SolveError) →
    Goes rows left numbers number → number < length rows →
    Explains e (solved (remove left (length numbers))).events → Explains e (core_of rows).events
unfolding core_from
fails rows left numbers number e g l h =
    let t = to-be-tried g l in
    let rest = numbered_from (suc number) t.behind in
    let was = subst (λ rs. SameLog (core_of rows) (core_from g.stay (numbered_from number rs))) t.is g.log in
    explains-same e (core_of rows).events _ was.limit
    (explains-more e (solved (rows_of (g.stay ++ rest))).events _
    (subst (λ rs. Explains e (solved rs).events) (without g t ∙ sym (about g.stay t.behind (suc number))) h))

pub place-there :
    (rows left : List Row) (numbers : List ℕ) (number : ℕ) → Goes rows left numbers number → number < length rows →
    length numbers < length left
place-there rows left numbers number g l =
    let t = to-be-tried g l in
    let a = place-of g in
    let b = ap length (g.left_are ∙ ap (λ rs. rows_of g.stay ++ rs) t.is) in
    let c = longer (rows_of g.stay) t.row t.behind in
    omega (arith, a, b, c)
  where
    longer : (xs : List Row) (r : Row) (ys : List Row) → length xs < length (xs ++ r ∷ ys)
    longer [] r ys = omega arith
    longer (x ∷ xs) r ys = let h = longer xs r ys in omega (arith, h)

pub no-longer :
    (rows left : List Row) (numbers : List ℕ) (number : ℕ) → Goes rows left numbers number → number ≤ length rows →
    length left ≤ length rows
no-longer rows left numbers number g l =
    let a = length-rows g.stay in
    let b = ap length g.left_are ∙ length-append (rows_of g.stay) g.later in
    let d = length-drop number rows in
    let e = ap length g.rest in
    let f = g.few in
    omega (arith, a, b, d, e, f, l)

-- ---- the end

ends : (rows left : List Row) (numbers : List ℕ) (number : ℕ) (g : Goes rows left numbers number) → length rows ≤ number → g.later ≡ []
ends rows left numbers number g l = sym g.rest ∙ none-there rows number l

pub log-done :
    (rows left : List Row) (numbers : List ℕ) (number : ℕ) → Goes rows left numbers number → length rows ≤ number →
    (first_limit (core_of rows).events ≡ None) × (numbers ≡ (core_of rows).value)
unfolding core_from first_limit
log-done rows left numbers number g l =
    let was = subst (λ rs. SameLog (core_of rows) (core_from g.stay (numbered_from number rs))) (ends rows left numbers number g l) g.log in
    (was.limit, sym (was.value ∙ sym g.numbers_are))

pub core-done : (rows left : List Row) (numbers : List ℕ) (number : ℕ) → Goes rows left numbers number → length rows ≤ number → IsCore rows numbers
core-done rows left numbers number g l = record {
  core = g.stay;
  leaves = subst (λ rs. (core : List Numbered) → Leaves g.stay (numbered_from number rs) core → Leaves [] (numbered_from 0 rows) core)
      (ends rows left numbers number g l) g.path g.stay refl;
  whole = g.numbers_are;
}
