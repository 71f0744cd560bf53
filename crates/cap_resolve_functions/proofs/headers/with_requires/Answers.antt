use Rattle.std.proofs.Common.{[], ◌∷◌, ◌++◌, ◌∙◌, ap}
use Rattle.std.proofs.lemmas.Result.{IfOk-weaker}
use Rattle.cap_prog.specs.Views.{items_view}
use Rattle.cap_parse_tree.specs.Views.{function_view}
use Rattle.cap_resolve_spec.specs.Names.{whole_numbers, hidden}
use Rattle.cap_resolve_spec.specs.Items.{scope_of}
use Rattle.cap_resolve_spec.specs.Functions.{result_entry}
use Rattle.cap_resolve_spec.specs.Program.{new_assertion, body_program}
use Rattle.cap_resolve_functions.specs.Bodies.{context_seen}
use Rattle.cap_resolve_functions.specs.Names.{named_seen}
use Rattle.cap_resolve_functions.proofs.headers.with_requires.Goals as goal

pub returns : goal.returns
returns c =
    IfOk-weaker c.with_ensures.result _ _
    (λ f h. h
    ∙ ap (λ e. record {
      name = c.args.header.name;
      params = c.args.header.params;
      locals = c.args.header.locals;
      fixed = c.args.header.fixed.items;
      variables = c.args.header.variables.items;
      requires = items_view c.args.requires_;
      ensures = e;
      body = body_program (context_seen c.args.body.now) (function_view c.args.function.now).body;
      place = c.args.header.place;
    })
    (c.in_ok-ensures_.ensures
    ∙ ap (new_assertion (context_seen c.args.body.now) (whole_numbers (named_seen c.args.names.now).parameters
    ++ (hidden (named_seen c.args.names.now).locals ++ (scope_of (named_seen c.args.names.now).fixed ++ result_entry ∷ []))))
    c.clause_of.ensures))
    c.with_ensures.ensures
