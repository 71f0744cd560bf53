-- What contracts see of what is taken out of a piece.
use Rattle.std.specs.Prelude.{List, [], ◌∷◌}
use Rattle.std.specs.Borrow.{Bor}
use Rattle.cap_lin.specs.Linear.{Linear}
use Rattle.cap_gsolve.specs.declared.piece.Form.{Form}
use Rattle.cap_gsolve.specs.declared.piece.Piece.{Piece}
use Rattle.cap_rules.specs.Taking.{Cut}
use Rattle.cap_take_guards.specs.declared.cuts.Cut as code
use Rattle.cap_take_guards.specs.declared.cuts.Left.{Left}
use Rattle.cap_take_guards.specs.declared.cuts.Left.TheVariants.{Nothing, One, Both}

abbrev pub left_view : Left → List Form
left_view Nothing = []
left_view (One f) = f ∷ []
left_view (Both f g) = f ∷ g ∷ []

abbrev pub cut_view : code.Cut → Cut
cut_view c = record { env = c.env; state = c.state; left = left_view c.left }

-- a piece that is lent, and a term
abbrev pub piece_lent : Bor Piece → Piece
piece_lent q = q.now

abbrev pub term_lent : Bor Linear → Linear
term_lent t = t.now
