-- Roots as frames have them.
use Rattle.std.proofs.Common.{◌≡◌, ap, sym, Option, Some, None}
use Rattle.std.specs.Prelude.{option_map, option_copied, MatchOption, IfSome}
use Rattle.std.specs.Borrow.{Bor}
use Rattle.cap_prog.specs.Program.{PlainProgram}
use Rattle.cap_owners_spec.specs.Track.{Place}
use Rattle.cap_owners_places.specs.declared.placed.Placed.{Placed}
use Rattle.cap_owners_places.specs.Views.{place_view, IsPlaced}
use Rattle.cap_owners_walks.specs.declared.given.GivenAssertion.{GivenAssertion}
use Rattle.cap_owners_walks.specs.Views.{given_view, lent_given_view}

-- what a root is, if it is there
abbrev pub IsRoot : PlainProgram → Option Place → Option (Bor Placed) → Type 0
IsRoot p root o = MatchOption o (root ≡ None) (λ q. (root ≡ Some (place_view q.now)) × IsPlaced p q.now)

pub root-placed : (p : PlainProgram) (root : Option Place) (o : Option (Bor Placed)) → IsRoot p root o → IfSome o (λ q. IsPlaced p q.now)
root-placed p root None h = tt
root-placed p root (Some q) h = h.1

pub root-seen : (p : PlainProgram) (root : Option Place) (o : Option (Bor Placed)) → IsRoot p root o → option_map (λ q. place_view q.now) o ≡ root
root-seen p root None h = sym h
root-seen p root (Some q) h = sym h.0

-- what is lent
pub lent-seen : (o : Option (Bor GivenAssertion)) (g : Option GivenAssertion) → option_copied o ≡ g → lent_given_view o ≡ option_map given_view g
lent-seen None g e = ap (option_map given_view) e
lent-seen (Some x) g e = ap (option_map given_view) e
