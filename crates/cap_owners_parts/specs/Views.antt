-- What contracts see of parts.
use Rattle.std.specs.Prelude.{ℕ, ℤ, List, map}
use Rattle.std.specs.FinMap.{from_entries}
use Rattle.cap_galg.specs.Elements.{Element, nothing, one, share, tok, src, indices, both, whole, left, right}
use Rattle.cap_galg.specs.Fractions.{lowest}
use Rattle.cap_prog.specs.Program.{PlainProgram}
use Rattle.cap_prog.specs.declared.assertion.Asked.{Asked}
use Rattle.cap_machine_accounts.specs.Parts as plain
use Rattle.cap_machine_accounts.specs.Parts.{Part, atom_guard}
use Rattle.cap_machine_accounts.specs.Assertions.{NameValue}
use Rattle.cap_owners_spec.specs.Traced.{Traced, ◌>>=◌, over}
use Rattle.cap_owners_spec.specs.Filling.{asked_element, with_more}
use Rattle.cap_owners_parts.specs.declared.element.Element as code
use Rattle.cap_owners_parts.specs.declared.element.Element.{fold-Element}
use Rattle.cap_owners_parts.specs.declared.element.Element.TheOpen.{Element-F}
use Rattle.cap_owners_parts.specs.declared.guard.Guard as code_guard

abbrev pub element_step : Element-F Element → Element
element_step Element-F.Nothing = nothing
element_step Element-F.One = one
element_step (Element-F.Share n) = share (lowest n over)
element_step (Element-F.Tok k) = tok k
element_step (Element-F.Src n) = src n
element_step (Element-F.Indices bounds) = indices bounds
element_step (Element-F.Both x y) = both x.value y.value
element_step Element-F.Whole = whole
element_step (Element-F.Left x) = left x.value
element_step (Element-F.Right y) = right y.value

abbrev pub element_view : code.Element → Element
element_view = fold-Element Element element_step

abbrev pub guard_view : code_guard.Guard → plain.Guard
guard_view g = record { kind = g.kind; element = element_view g.element }

abbrev pub entry_view : ℤ × code_guard.Guard → ℤ × plain.Guard
entry_view e = (e.0, guard_view e.1)

abbrev pub part_of : List (ℤ × ℤ) → List (ℤ × code_guard.Guard) → Part
part_of cells guards = record {
  cells = from_entries cells;
  guards = from_entries (map entry_view guards);
}

-- the part with what is asked of a region's guard, met by a value
abbrev pub with_asked :
    PlainProgram → Part → ℤ → ℕ → ℕ → Asked → NameValue → Traced Part
with_asked p q n k i asked v = do
  y ← asked_element asked v
  with_more q n (atom_guard p k i y)
