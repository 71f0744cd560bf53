-- How rows arise in an elimination.
use Rattle.std.specs.Prelude.{ℕ, zero, suc, ◌+◌, List, [], ◌∷◌, ◌++◌, length, ℤ, pos, negsuc, Bool}
use Rattle.std.specs.Prelude.{true, false, not, ◌&&◌, if◌then◌else◌}
use Rattle.std.specs.List.{list_any}
use Rattle.cap_lin.specs.Linear.{Linear, is_zero, same_term, coefficient, combination}
use Rattle.cap_lin.specs.Steps.{combination_steps}
use Rattle.cap_lin.specs.declared.row.Kind.{Kind}
use Rattle.cap_lin.specs.declared.row.Kind.TheVariants.{Le, Lt, Eq, Ne}
use Rattle.cap_fm_spec.specs.Events.{counted}
use Rattle.cap_fm_spec.specs.Runs.{Origin, given, combined, Entry, entry, Stage, going, contradiction}
use Rattle.cap_fm_spec.specs.Runs.{Elimination, done, results, ◌>>=◌}

abbrev pub same_kind : Kind → Kind → Bool
same_kind Le Le = true
same_kind Lt Lt = true
same_kind Eq Eq = true
same_kind Ne Ne = true
same_kind k l = false

-- rows are equal in term and kind; their sorts play no part
abbrev pub same_row : Linear → Kind → Linear → Kind → Bool
same_row t k u l = same_kind k l && same_term t u

abbrev pub has_arisen : Linear → Kind → List (Linear × Kind) → Bool
has_arisen t k rows = list_any (λ r. same_row t k r.0 r.1) rows

abbrev pub is_present : Linear → Kind → List Entry → Bool
is_present t k rows = list_any (λ r. same_row t k r.term r.kind) rows

-- a row counts once, however often it arises
abbrev pub count : Linear → Kind → Elimination (Unit {0})
count t k s =
    if has_arisen t k s.arisen
    then done tt s
    else record {
      events = counted (length s.arisen + 1) ∷ [];
      stage = record s { arisen = s.arisen ++ ((t, k) ∷ []) };
      found = going tt;
    }

abbrev pub are_some : List (ℕ × ℤ) → Bool
are_some [] = false
are_some (p ∷ ps) = true

abbrev pub has_parts : Linear → Bool
has_parts t = are_some t.parts

abbrev pub is_positive : ℤ → Bool
is_positive (pos zero) = false
is_positive (pos (suc n)) = true
is_positive (negsuc n) = false

abbrev pub is_negative : ℤ → Bool
is_negative (pos n) = false
is_negative (negsuc n) = true

-- a constant is not as the kind wants it
abbrev pub is_false : Kind → ℤ → Bool
is_false Le c = is_positive c
is_false Lt c = not (is_negative c)
is_false Eq c = not (is_zero c)
is_false Ne c = is_zero c

abbrev pub with_origin : Origin → Stage → Stage
with_origin o s = record s { history = o ∷ s.history }

-- a row is present from now on
abbrev pub keep : Linear → Kind → Origin → Elimination (List Entry)
keep t k o s =
    record {
      events = [];
      stage = with_origin o s;
      found = going (entry t k (length s.history) ∷ []);
    }

abbrev pub fail : Linear → Kind → Origin → Elimination (List Entry)
fail t k o s =
    record {
      events = [];
      stage = with_origin o s;
      found = contradiction (entry t k (length s.history));
    }

-- a row without variables is left out where it is true, and ends the elimination where it is false
abbrev pub look : Linear → Kind → Origin → Elimination (List Entry)
look t k o =
    if has_parts t then keep t k o else (if is_false k t.constant then fail t k o else done [])

-- a row that is equal to one that is present is left out
abbrev pub arise : List Entry → Linear → Kind → Origin → Elimination (List Entry)
arise present t k o = if is_present t k present then done [] else look t k o

-- an input row is counted, and then looked at
abbrev pub arise_given : List Entry → Linear → Kind → ℕ → Elimination (List Entry)
arise_given present t k i = do
  u ← count t k
  arise present t k (given i)

-- a combination is counted where it has variables
abbrev pub arise_combined : List Entry → Linear → Kind → Origin → Elimination (List Entry)
arise_combined present t k o =
    if has_parts t then (count t k >>= (λ u. arise present t k o)) else look t k o

-- a times a row plus b times another: the new row, or none where it is true or equal to one that is
-- present
abbrev pub combine : List Entry → ℤ → Entry → ℤ → Entry → Kind → Elimination (List Entry)
combine present a p b q k = do
  u ← results (combination_steps a p.term b q.term)
  arise_combined present (combination a p.term b q.term) k (combined a p.origin b q.origin)

-- the coefficient of a variable in a row
abbrev pub of_row : ℕ → Entry → ℤ
of_row x r = coefficient x r.term.parts
