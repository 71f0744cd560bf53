use Rattle.std.proofs.Common.{◌++◌, ◌-◌, refl, rules, drop, get_or, length, pos, take}
use Rattle.std.specs.Prelude.{codes}
use mir.Val.{SFits}
use mir.Syntax.{w128}
use Rattle.std.proofs.lemmas.Int.{to_z-of_z}
use Rattle.cap_owners.proofs.Writing.{args-parts, args-written, ok-appended, ok-same}
use Rattle.cap_owners.proofs.account.push_args.Goals as goal

pub returns : goal.returns
returns c =
    let args = c.args.args.now in
    let text = c.push_more_args.new.text.items in
    let f : SFits w128 (get_or args 0 (pos 0)) = search rules in
    let e = rw (to_z-of_z w128 _ f) at c.in_ok-push_number.ensures in
    ok-same c.extend_from_slice.result c.extend_from_slice.new.self.items (text ++ codes "; ") _
    (args-written args (take (length args - 1) (drop 1 args)) (get_or args 0 (pos 0)) c.args.text.now.items c.push_number.new.text.items text (text ++ codes "; ") (args-parts args c.in-len1-up.len_at_least) e c.in_ok-push_more_args.ensures refl)
    (ok-appended c.extend_from_slice.result c.extend_from_slice.new.self.items text (codes "; ") c.extend_from_slice.ensures.items)
