use Rattle.std.proofs.Common.{refl, ◌∙◌}
use Rattle.std.proofs.lemmas.Result.{err_from_is_err_and}
use Rattle.cap_parse_tree.specs.declared.word.Word.{Word}
use Rattle.cap_syntax.specs.declared.place.Place.{Place}
use Rattle.cap_parse_tree.specs.Views.{guard_view}
use Rattle.cap_parse.specs.Parts.{slot_in_brackets_view}
use Rattle.cap_parse.proofs.Parts.{then-stops, counted_parts}
use Rattle.cap_parse.proofs.cursor.Cursor.counted.Goals as goal

pub returns : goal.returns
returns c =
    counted_parts c.args.room c.args.counted c.args.self.now.rest
    ∙ rw (c.in_ok-key.ensures, c.in_ok-name.ensures, c.in_ok-open.ensures) refl

pub returns-in_err-key : goal.returns-in_err-key
returns-in_err-key c =
    let p = err_from_is_err_and c.from_residual.result c.from_residual.ensures.1 in
    rw (p.1, p.2, counted_parts c.args.room c.args.counted c.args.self.now.rest)
    (then-stops {X = Place} (λ p. p) guard_view _ _ _ _ c.in_err-key.ensures)

pub returns-in_err-name : goal.returns-in_err-name
returns-in_err-name c =
    let p = err_from_is_err_and c.from_residual-in_err-name.result c.from_residual-in_err-name.ensures.1 in
    rw (p.1, p.2, counted_parts c.args.room c.args.counted c.args.self.now.rest, c.in_ok-key.ensures)
    (then-stops {X = Word} (λ w. w) guard_view _ _ _ _ c.in_err-name.ensures)

pub returns-in_err-open : goal.returns-in_err-open
returns-in_err-open c =
    let p = err_from_is_err_and c.from_residual-in_err-open.result c.from_residual-in_err-open.ensures.1 in
    rw (p.1, p.2, counted_parts c.args.room c.args.counted c.args.self.now.rest, c.in_ok-key.ensures, c.in_ok-name.ensures)
    (then-stops slot_in_brackets_view guard_view _ _ _ _ c.in_err-open.ensures)
