use Rattle.std.proofs.lemmas.Result.{err_from_is_err_and}
use Rattle.cap_parse_tree.specs.declared.tree.Declaration.{Declaration}
use Rattle.std.proofs.Common.{Vec, Global, map, not, ap, sym, ◌∙◌}
use Rattle.cap_parse_laws.specs.Classes.{are_same}
use Rattle.cap_parse_tree.specs.Views.{declaration_view}
use Rattle.cap_parse_laws.specs.Grammar.{read_declaration}
use Rattle.cap_parse_laws.specs.Readers.{read_while}
use Rattle.cap_parse_laws.specs.declared.class.Class.TheVariants.{End}
use Rattle.cap_parse_laws.specs.Laws.Taking.{declaration-takes}
use Rattle.cap_parse.proofs.Loops.{while-pushed, while-refuses}
use Rattle.cap_parse.proofs.cursor.Cursor.declarations.Goals as goal

pub loop-self-preserved : goal.loop-self-preserved
loop-self-preserved c =
    rw c.in_ok-push.ensures.items
    (while-pushed (λ k. not (are_same End k)) (read_declaration c.args.room) declaration_view (declaration-takes c.args.room) (λ e. cc) c.loop-self.declarations.items c.in_ok-declaration.declaration
    c.loop-self.self.rest c.declaration.new.self.rest (read_while (λ k. not (are_same End k)) (read_declaration c.args.room) c.args.self.now.rest)
    (ap not (sym c.is_ahead.ensures) ∙ ap not c.loop-self-test.true) c.in_ok-declaration.ensures c.loop-self.invariant)

pub loop-self-smaller : goal.loop-self-smaller
loop-self-smaller c =
    ((declaration-takes c.args.room) c.loop-self.self.rest).fewer (declaration_view c.in_ok-declaration.declaration) c.declaration.new.self.rest c.in_ok-declaration.ensures

pub returns-in_err-declaration : goal.returns-in_err-declaration
returns-in_err-declaration c =
    let p = err_from_is_err_and c.from_residual.result c.from_residual.ensures.1 in
    rw (p.1, p.2)
    (while-refuses {Y = Vec Declaration Global} (λ k. not (are_same End k)) (read_declaration c.args.room) declaration_view (λ v. map declaration_view v.items) (declaration-takes c.args.room) (λ e. cc) (map declaration_view c.loop-self.declarations.items)
    c.loop-self.self.rest c.declaration.new.self.rest (read_while (λ k. not (are_same End k)) (read_declaration c.args.room) c.args.self.now.rest) c.in_err-declaration.field-0.0
    (ap not (sym c.is_ahead.ensures) ∙ ap not c.loop-self-test.true) c.in_err-declaration.ensures c.loop-self.invariant)
