-- What is left of the parts of a list, in a loop over them.
use Rattle.std.proofs.Common.{List, map}
use Rattle.cap_syntax.specs.declared.place.Place.{Place}
use Rattle.cap_parse_tree.specs.declared.region.Both.{Both}
use Rattle.cap_parse_tree.specs.declared.region.Either.{Either}
use Rattle.cap_parse_tree.specs.declared.assertion.And.{And}
use Rattle.cap_parse_tree.specs.declared.statement.Statement.{Statement}
use Rattle.cap_parse_tree.specs.Tree.{StatementTrees, ItemTrees, DeclaredTrees, JointTrees}
use Rattle.cap_parse_tree.specs.Views.{behind_view, declareds_of, joints_of, both_view, either_view, items_of, and_view, statements_of, statement_view}

abbrev pub declareds_view : List Both → DeclaredTrees
declareds_view ds = declareds_of (map both_view ds)

abbrev pub joints_view : List Either → JointTrees
joints_view js = joints_of (map either_view js)

-- parts behind their separators
abbrev pub behind : {A B : Type 0} → (A → B) → List (Place × A) → List B
behind view more = map (λ m. m.1) (map (behind_view view) more)

abbrev pub ands_view : List And → ItemTrees
ands_view more = items_of (map and_view more)

abbrev pub statements_view : List Statement → StatementTrees
statements_view ss = statements_of (map statement_view ss)
