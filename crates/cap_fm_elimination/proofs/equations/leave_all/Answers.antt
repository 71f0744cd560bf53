use Rattle.std.proofs.Common.{◌≡◌, get_or, ap, ◌∙◌, pos, arith}
use Rattle.std.proofs.lemmas.Int.{ints}
use Rattle.cap_lin.specs.Linear.{Linear, coefficient}
use Rattle.cap_lin.proofs.Results.{is_zero-yes, is_zero-no}
use Rattle.cap_fm_elimination.specs.Views.{entry_of, entries_of}
use Rattle.cap_fm_elimination.proofs.Presence.{none-left, leaves-one, passes-one, still-term, all-looked, all-left}
use Rattle.cap_fm_elimination.proofs.Terms.{no_row, entry-in, below-of, past-of}
use Rattle.cap_fm_elimination.proofs.equations.leave_all.Goals as goal
use Rattle.cap_fm_elimination.proofs.equations.leave_all.Goals.{then-coefficient-ne0, else-coefficient-ne0}

pub loop-row-init : goal.loop-row-init
loop-row-init c = λ n l. none-left _ _

pub loop-row-preserved : goal.loop-row-preserved
loop-row-preserved c = λ n l.
    let s = c.args.stage.now in
    let rows = c.args.rows.now in
    let i = c.loop-row.row-index in
    let d = get_or rows i no_row in
    let b = below-of s rows i c.loop-row-test.true in
    let a = entry-in s rows i c.loop-row-test.true in
    let h = c.loop-row.invariant n l in
    let e = c.coefficient.ensures.coefficient ∙ ap (λ (t : Linear). coefficient c.args.variable t.parts) (c.term.ensures ∙ still-term c.args.variable s c.loop-row.stage _ d.number h) in
    elim c.if-coefficient-ne0.branch [
      | then-coefficient-ne0 w ↦
          let t = w.if-coefficient-ne0.true in
          let z : c.coefficient.result ≡ pos 0 → ⊥ = λ h. omega (arith, ints) in
          rw w.stage-is (leaves-one c.args.variable s c.loop-row.stage _ (entries_of s rows) i (entry_of s d) n l b a (is_zero-no _ (rw e at z)) w.leave.ensures h)
      | else-coefficient-ne0 w ↦
          let t = w.if-coefficient-ne0.false in
          let z : c.coefficient.result ≡ pos 0 = omega (arith, ints) in
          rw w.stage-is (passes-one c.args.variable s c.loop-row.stage (entries_of s rows) i (entry_of s d) b a (is_zero-yes _ (rw e at z)) h)
    ]

pub returns : goal.returns
returns c = λ inputs f. all-left _ _ _ _ _ f (all-looked _ _ _ _ _ (past-of c.args.stage.now c.args.rows.now _ c.loop-row-test.false) (c.loop-row.invariant f.numbered f.marked.long))
