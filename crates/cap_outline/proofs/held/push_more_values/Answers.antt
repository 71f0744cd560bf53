use Rattle.std.proofs.Common.{◌++◌, inl, inr}
use Rattle.std.specs.Prelude.{codes, flat_map}
use Rattle.std.specs.Iterator.Adapters.{zip_first, zip_second}
use Rattle.std.specs.List.{zip}
use Rattle.std.specs.Slice.Iter.{iter_rest}
use Rattle.cap_outline_spec.specs.Texts.{value_text}
use Rattle.cap_outline.proofs.Reading.{first-ended, second-ended, all-written}
use Rattle.cap_outline.proofs.held.push_more_values.Goals as goal

pub returns : goal.returns
returns c =
    let i = c.loop-name.name-iterator in
    let names = iter_rest (zip_first i) in
    let values = iter_rest (zip_second i) in
    all-written (λ x. codes "; " ++ value_text x) c.loop-name.text.items (c.args.text.now.items ++ flat_map (λ x. codes "; " ++ value_text x) (zip c.args.names.now c.args.values.now)) (zip names values) c.loop-name.invariant
    (elim c.in-None.ensures.steps [ inl a ↦ first-ended names values a.1.0 | inr a ↦ second-ended names values a.1.0 ])
