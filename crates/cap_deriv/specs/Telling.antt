-- What a cursor has still to tell, and what its answers mean.
use Rattle.std.specs.Prelude.{◌≡◌, ℕ, Option, Some, None, IsSome, Result, Ok, Err, ⊤}
use Rattle.cap_goal.specs.declared.choice.Choice.{Choice}
use Rattle.cap_goal.specs.Views.{choice_view}
use Rattle.cap_deriv.specs.Told.{Told, all_told, bad_told, unended_told, too_many_told, choice_told, Opening, no_opening, bad_opening, opening_told, told_by, ended_lines}
use Rattle.cap_deriv.specs.declared.cursor.DerivError.{DerivError}
use Rattle.cap_deriv.specs.declared.cursor.DerivError.TheVariants.{BadLine, Unended, TooMany, OutOfMemory}
use Rattle.cap_deriv.specs.declared.cursor.Ended.{Ended}
use Rattle.cap_deriv.specs.declared.cursor.Ended.TheVariants.{Complete, Bad, Short, Long}
use Rattle.cap_deriv.specs.declared.cursor.Cursor.{Cursor}

abbrev pub told_by_end : Ended → Told
told_by_end Complete = all_told
told_by_end (Bad n) = bad_told n
told_by_end Short = unended_told
told_by_end Long = too_many_told

abbrev pub unless_ended : Option Ended → Told → Told
unless_ended None t = t
unless_ended (Some e) t = told_by_end e

-- the number of trees of a cursor's first line
abbrev pub trees_of_cursor : Cursor → ℕ
trees_of_cursor c = c.trees

-- what a cursor has still to tell
abbrev pub left_to_tell : Cursor → Told
left_to_tell c = unless_ended c.ended (told_by c.nodes (ended_lines c.rest))

-- a cursor has ended, and answers the same from then on
abbrev pub HasEnded : Cursor → Type 0
HasEnded c = IsSome c.ended

-- the answer is the first of what was left to tell, and what follows is left; an end stays
abbrev pub Tells : Result (Option Choice) DerivError → Told → Told → Type 0
Tells (Ok (Some c)) old new = old ≡ choice_told (choice_view c) new
Tells (Ok None) old new = (old ≡ all_told) × (new ≡ old)
Tells (Err (BadLine n)) old new = (old ≡ bad_told n) × (new ≡ old)
Tells (Err Unended) old new = (old ≡ unended_told) × (new ≡ old)
Tells (Err TooMany) old new = (old ≡ too_many_told) × (new ≡ old)
Tells (Err OutOfMemory) old new = new ≡ old

-- an answer that comes again
abbrev pub IsLastAnswer : Result (Option Choice) DerivError → Type 0
IsLastAnswer (Ok (Some c)) = ⊥
IsLastAnswer (Ok None) = ⊤
IsLastAnswer (Err (BadLine n)) = ⊤
IsLastAnswer (Err Unended) = ⊤
IsLastAnswer (Err TooMany) = ⊤
IsLastAnswer (Err OutOfMemory) = ⊥

-- what the first line gives
abbrev pub Opens : Result Cursor DerivError → Opening → Type 0
Opens (Ok c) o = o ≡ opening_told (trees_of_cursor c) (left_to_tell c)
Opens (Err (BadLine n)) o = (o ≡ bad_opening) × (n ≡ 1)
Opens (Err Unended) o = o ≡ no_opening
Opens (Err TooMany) o = ⊥
Opens (Err OutOfMemory) o = ⊤
