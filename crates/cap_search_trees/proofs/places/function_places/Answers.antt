use Rattle.std.proofs.Common.{refl, ◌∙◌}
use Rattle.cap_prog.specs.Program.{done}
use Rattle.cap_prog.specs.Views.{block_view, function_view}
use Rattle.cap_search_trees.proofs.Printing.{block-loops}
use Rattle.cap_search_trees.proofs.places.function_places.Goals as goal

pub returns : goal.returns
returns c =
    let f = c.args.function.now in
    rw (block-loops (function_view f) (block_view f.body.items) done)
    (c.in_ok-push_places.ensures
    ∙ rw (c.in_ok-push-3.ensures.items, c.in_ok-push-2.ensures.items, c.in_ok-push.ensures.items, c.new-places.ensures.items, c.deref.ensures.value, c.first_place-before.ensures, c.first_place.ensures) refl)
