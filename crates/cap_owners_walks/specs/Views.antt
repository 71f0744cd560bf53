-- What contracts see of walks' ends, and of what is given.
use Rattle.std.specs.Prelude.{option_map, Option, Some, None, IfSome}
use Rattle.std.specs.Borrow.{Bor}
use Rattle.cap_prog.specs.Program.{PlainProgram}
use Rattle.cap_owners_spec.specs.Track as plain_track
use Rattle.cap_owners_spec.specs.Walks as plain
use Rattle.cap_owners_spec.specs.Walks.{stands, leaves}
use Rattle.cap_owners_places.specs.declared.placed.Placed.{Placed}
use Rattle.cap_owners_places.specs.Views.{place_view, IsPlaced}
use Rattle.cap_owners_walks.specs.declared.halt.Halt.{Halt}
use Rattle.cap_owners_walks.specs.declared.halt.Halt.TheVariants.{Stands, Leaves}
use Rattle.cap_owners_walks.specs.declared.given.GivenAssertion.{GivenAssertion}
use Rattle.cap_owners_walks.specs.declared.opened.Opened as code_opened
use Rattle.cap_owners_walks.specs.declared.regions.Interpreted.{Interpreted}
use Rattle.cap_owners_walks.specs.Nodes.{Opened}

abbrev pub halt_view : Halt → plain.Halt
halt_view (Stands q w) = stands (place_view q.now) w
halt_view (Leaves w) = leaves w

-- where a walk ends, once it has gone down to a node or to the end of the tree
abbrev pub end_view : Option (Bor Placed) → plain.Walk → plain.Halt
end_view None w = leaves w
end_view (Some q) w = stands (place_view q.now) w

-- where it stands, if it does, each node's children are at the goals that its choice leaves
abbrev pub HaltIsPlaced : PlainProgram → Halt → Type 0
HaltIsPlaced p (Stands q w) = IsPlaced p q.now
HaltIsPlaced p (Leaves w) = Unit {0}

abbrev pub interpreted_view : Interpreted → plain.Interpreted
interpreted_view x = record { case = x.case; fill = x.fill }

abbrev pub opened_view : code_opened.Opened → Opened
opened_view x = record { params = x.params; number = x.number }

abbrev pub given_view : GivenAssertion → plain_track.GivenAssertion
given_view g = record {
  stability = option_map (λ q. place_view q.now) g.stability;
  values = g.values;
  fill = g.fill;
}

abbrev pub lent_given_view : Option (Bor GivenAssertion) → Option plain_track.GivenAssertion
lent_given_view o = option_map (λ g. given_view g.now) o

-- so it is with the tree of its stability
abbrev pub GivenIsPlaced : PlainProgram → GivenAssertion → Type 0
GivenIsPlaced p g = IfSome g.stability (λ q. IsPlaced p q.now)
