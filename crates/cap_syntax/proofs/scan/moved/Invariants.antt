use Rattle.std.proofs.Common.{◌≡◌, ◌+◌, ◌≤◌, ◌++◌, List, ℕ, take}
use Rattle.cap_syntax.specs.declared.place.Place.{Place}
use Rattle.cap_syntax.specs.Place.{place_after}
use Rattle.cap_syntax.proofs.scan.moved.Given as goal

abbrev pub invariant-loop-byte : goal.invariant-loop-byte
invariant-loop-byte l = record {
  line_fits : l.line ≤ l.fn.place.line + l.byte-index;
  column_fits : l.column ≤ l.fn.place.column + l.byte-index;
  moved : (front : List ℕ) → l.fn.place ≡ place_after front → ◌≡◌ {A = Place} (record { line = l.line; column = l.column }) (place_after (front ++ take l.byte-index l.passed));
}
