-- Texts that are written one by one.
use Rattle.std.specs.Prelude.{ℕ, List, [], ◌++◌, map, Option, Some, None}
use Rattle.std.specs.FinMap.{entries}
use Rattle.std.specs.Fmt.{decimal}
use Rattle.cap_galg.specs.Fractions.{lowest}
use Rattle.cap_prog.specs.Program.{PlainProgram}
use Rattle.cap_machine_accounts.specs.Parts.{Part}
use Rattle.cap_owners_spec.specs.Traced.{over}
use Rattle.cap_owners_spec.specs.Texts.{fraction_text, in_brackets, interval_text, owned_cell_text, guard_text}

abbrev pub shared_text : List ℕ → ℕ → List ℕ
shared_text name n = name ++ in_brackets (fraction_text (lowest n over))

abbrev pub counted_text : List ℕ → List ℕ → ℕ → List ℕ
counted_text word name k = word ++ (name ++ in_brackets (decimal k))

-- an interval without an end, or with one
abbrev pub end_text : Option ℕ → List ℕ
end_text None = []
end_text (Some j) = decimal j

abbrev pub bounded_text : List ℕ → ℕ → Option ℕ → List ℕ
bounded_text name i end = name ++ interval_text i (end_text end)

abbrev pub part_texts : PlainProgram → Part → List (List ℕ)
part_texts p q = map owned_cell_text (entries q.cells) ++ map (guard_text p) (entries q.guards)
