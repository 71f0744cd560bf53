-- The text of a state.
use Rattle.std.specs.Prelude.{ℕ, ℤ, Bool, true, false, List, [], ◌∷◌, ◌++◌, map, codes, get_or, Option, Some, None}
use Rattle.std.specs.List.{join_by, zip}
use Rattle.std.specs.Fmt.{decimal, signed_decimal}
use Rattle.cap_lin.specs.Linear.{Linear, is_zero}
use Rattle.cap_lin.specs.declared.row.Row.{Row}
use Rattle.cap_lin.specs.declared.row.Kind.{Kind}
use Rattle.cap_lin.specs.declared.row.Kind.TheVariants.{Le, Lt, Eq, Ne}
use Rattle.cap_gsolve.specs.declared.piece.Form.{Form}
use Rattle.cap_gsolve.specs.declared.piece.Form.TheVariants.{One, Share, Src, Tok, Span}
use Rattle.cap_gsolve.specs.declared.piece.Piece.{Piece}
use Rattle.cap_prog.specs.Program.{Name, PlainProgram}
use Rattle.cap_goal_spec.specs.States.{PlainFact, PlainState}

-- ---- terms and rows

abbrev pub part_text : ℕ × ℤ → List ℕ
part_text q = signed_decimal q.1 ++ (codes "*v" ++ decimal q.0)

-- the constant, unless it is 0 and there are parts, and then the parts
abbrev pub sum_text : Bool → ℤ → List (ℕ × ℤ) → List ℕ
sum_text zero c [] = signed_decimal c
sum_text true c (q ∷ qs) = join_by part_text (codes " + ") (q ∷ qs)
sum_text false c (q ∷ qs) =
    signed_decimal c ++ (codes " + " ++ join_by part_text (codes " + ") (q ∷ qs))

abbrev pub term_text : Linear → List ℕ
term_text t = sum_text (is_zero t.constant) t.constant t.parts

abbrev pub kind_text : Kind → List ℕ
kind_text Le = codes " <= 0"
kind_text Lt = codes " < 0"
kind_text Eq = codes " = 0"
kind_text Ne = codes " != 0"

abbrev pub row_text : Row → List ℕ
row_text r = term_text r.term ++ kind_text r.kind

-- ---- what a frame has

-- a variable with its name
abbrev pub value_text : Name × Linear → List ℕ
value_text q = q.0 ++ (codes " = " ++ term_text q.1)

abbrev pub cell_text : Linear × Linear → List ℕ
cell_text c = term_text c.0 ++ (codes " |-> " ++ term_text c.1)

-- of a region type and of a guard of it, by their numbers
abbrev pub type_name : PlainProgram → ℕ → Name
type_name p k = get_or (map (λ t. t.name) p.regions) k []

abbrev pub atom_name : PlainProgram → ℕ → ℕ → Name
atom_name p k i = get_or (get_or (map (λ t. t.atoms) p.regions) k []) i []

abbrev pub fact_text : PlainProgram → PlainFact → List ℕ
fact_text p f =
    type_name p f.kind
    ++ (codes "(" ++ (join_by term_text (codes ", ") (f.region ∷ f.args)
    ++ (codes "; " ++ (term_text f.state ++ codes ")"))))

abbrev pub amount_text : Linear → List ℕ
amount_text t = codes "[" ++ (term_text t ++ codes "]")

-- a span without an end has no second bound
abbrev pub end_text : Option Linear → List ℕ
end_text None = []
end_text (Some t) = term_text t

abbrev pub form_text : Name → Form → List ℕ
form_text n One = n
form_text n (Share t) = n ++ amount_text t
form_text n (Src t) = codes "src " ++ (n ++ amount_text t)
form_text n (Tok t) = codes "tok " ++ (n ++ amount_text t)
form_text n (Span a e) =
    n ++ (codes "{" ++ (term_text a ++ (codes ".." ++ (end_text e ++ codes "}"))))

abbrev pub piece_text : PlainProgram → Piece → List ℕ
piece_text p q = term_text q.region ++ (codes "@" ++ form_text (atom_name p q.kind q.atom) q.form)

-- ---- a state

abbrev pub items_text : {X : Type 0} → (X → List ℕ) → List X → List ℕ
items_text text xs = join_by text (codes "; ") xs

-- the names are those of the function's variables
abbrev pub state_line : PlainProgram → List Name → PlainState → List ℕ
state_line p names s =
    codes "state rows [" ++ (items_text row_text s.rows
    ++ (codes "] store [" ++ (items_text value_text (zip names s.store)
    ++ (codes "] cells [" ++ (items_text cell_text s.cells
    ++ (codes "] facts [" ++ (items_text (fact_text p) s.facts
    ++ (codes "] guards [" ++ (items_text (piece_text p) s.guards ++ codes "]\n")))))))))
