use Rattle.std.proofs.Common.{◌≡◌, ◌+◌, ◌-◌, ◌<◌, ◌≤◌, [], ◌∷◌, ◌++◌, length, ap, ◌∙◌, arith, rules}
use Rattle.cap_owners_spec.specs.Traced.{number_of}
use Rattle.cap_owners_passes.proofs.Regions.{args-next, args-end}
use Rattle.cap_owners_passes.proofs.closing.args_of.Goals as goal

pub returns-then-name-len : goal.returns-then-name-len
returns-then-name-len c =
    let i = c.loop-name.name in
    let h : length c.args.names.now ≤ (i - 1) + 1 = omega arith in
    args-end c.args.names.now (i - 1) (c.args.params - 1) _ h (omega arith) c.loop-name.invariant.so_far

pub loop-name-preserved : goal.loop-name-preserved
loop-name-preserved c =
    let i = c.loop-name.name in
    let e : i + 1 - 1 ≡ i = omega arith in
    let h : i < length c.args.names.now = omega arith in
    let q : i ≡ (i - 1) + 1 = omega arith in
    let k : c.push.new.self.items ≡ c.loop-name.args.items ++ c.number_of.result ∷ [] = search rules in
    record {
      so_far = rw e (args-next c.args.names.now i (i - 1) _ _ _ q h c.loop-name.invariant.so_far (c.number_of.ensures ∙ ap number_of c.at.ensures) k);
      within = omega arith;
    }

pub returns : goal.returns
returns c =
    let e : c.args.params - 1 ≡ c.loop-name.name - 1 = omega arith in
    rw e c.loop-name.invariant.so_far
