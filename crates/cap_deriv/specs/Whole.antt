-- What reading the whole answers.
use Rattle.std.specs.Prelude.{◌≡◌, map, Result, Ok, Err, ⊤}
use Rattle.cap_goal.specs.Views.{choice_view}
use Rattle.cap_deriv.specs.Told.{choices_told, Told, all_told, bad_told, unended_told, too_many_told, choice_told, Opening, no_opening, bad_opening, opening_told}
use Rattle.cap_deriv.specs.declared.cursor.DerivError.{DerivError}
use Rattle.cap_deriv.specs.declared.cursor.DerivError.TheVariants.{BadLine, Unended, TooMany, OutOfMemory}
use Rattle.cap_deriv.specs.declared.entire.Lines.{Lines}

-- how it ends, behind the choices
abbrev pub told_at_last : Told → Told
told_at_last all_told = all_told
told_at_last (bad_told n) = bad_told n
told_at_last unended_told = unended_told
told_at_last too_many_told = too_many_told
told_at_last (choice_told c t) = told_at_last t

abbrev pub end_of_opening : Opening → Told
end_of_opening no_opening = unended_told
end_of_opening bad_opening = bad_told 1
end_of_opening (opening_told trees t) = told_at_last t

abbrev pub ReadsWhole : Result Lines DerivError → Opening → Type 0
ReadsWhole (Ok l) o =
    o ≡ opening_told l.trees (choices_told (map choice_view l.choices.items) all_told)
ReadsWhole (Err (BadLine n)) o = end_of_opening o ≡ bad_told n
ReadsWhole (Err Unended) o = end_of_opening o ≡ unended_told
ReadsWhole (Err TooMany) o = end_of_opening o ≡ too_many_told
ReadsWhole (Err OutOfMemory) o = ⊤
