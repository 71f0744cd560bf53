-- Lines that are written one after the other.
use Rattle.std.proofs.Common.{◌≡◌, ◌∙◌, ap, sym, refl, subst, append_assoc, ℕ, zero, suc, ◌+◌, ◌<◌, ◌≤◌, arith, true, false, List, [], ◌∷◌, ◌++◌, drop, get_or, length, map, Option, Some, None}
use Rattle.std.specs.Prelude.{slice_get}
use Rattle.std.proofs.lemmas.List.{append-nil}
use Rattle.std.specs.Global.{Vec}
use Rattle.std.specs.List.{AllByRecursion, AllZip}
use Rattle.cap_lin.specs.Solves.{Infeasible}
use Rattle.cap_lin.specs.declared.row.Row.{Row}
use Rattle.cap_farkas.specs.declared.cert.Cert.{Cert}
use Rattle.cap_farkas.proofs.Sound.{refuted-excludes, excluded-infeasible}
use Rattle.cap_prog.specs.Program.{PlainProgram}
use Rattle.cap_rules_marks.specs.Proven.{RefutesIfGiven, given}
use Rattle.cap_rules_nodes.specs.Nodes.{GoalNode}
use Rattle.cap_kernel_nodes.specs.Laws.{NodeIsProven}
use Rattle.cap_core_text.specs.Lines.{proof_line, proof_lines, owed_by, node_lines}
use Rattle.cap_core_text.proofs.Given.{given_at}

-- ---- the proofs of a node

line-next :
    (k j : ℕ) (ls : List (List Row)) (os : List (Option Cert)) (i : ℕ) (rows : List Row) →
    slice_get ls i ≡ Some rows → given_at os i ≡ Some true →
    proof_lines k j (drop i ls) (drop i os) ≡ proof_line k j rows ++ proof_lines k (suc j) (drop (suc i) ls) (drop (suc i) os)
line-next k j [] os i rows e g = cc
line-next k j (l ∷ ls) [] i rows e g = cc
line-next k j (l ∷ ls) (None ∷ os) zero rows e g = cc
line-next k j (l ∷ ls) (Some c ∷ os) zero rows e g =
    let q : l ≡ rows = cc in ap (λ r. proof_line k j r ++ proof_lines k (suc j) ls os) q
line-next k j (l ∷ ls) (o ∷ os) (suc i) rows e g = line-next k j ls os i rows e g

line-passed :
    (k j : ℕ) (ls : List (List Row)) (os : List (Option Cert)) (i : ℕ) (rows : List Row) →
    slice_get ls i ≡ Some rows → given_at os i ≡ Some false →
    proof_lines k j (drop i ls) (drop i os) ≡ proof_lines k j (drop (suc i) ls) (drop (suc i) os)
line-passed k j [] os i rows e g = cc
line-passed k j (l ∷ ls) [] i rows e g = cc
line-passed k j (l ∷ ls) (None ∷ os) zero rows e g = refl
line-passed k j (l ∷ ls) (Some c ∷ os) zero rows e g = cc
line-passed k j (l ∷ ls) (o ∷ os) (suc i) rows e g = line-passed k j ls os i rows e g

none-left : (k j : ℕ) (ls : List (List Row)) → proof_lines k j ls [] ≡ []
none-left k j [] = refl
none-left k j (r ∷ ls) = refl

lines-done : (k j : ℕ) (ls : List (List Row)) (os : List (Option Cert)) (i : ℕ) → length ls ≤ i → proof_lines k j (drop i ls) (drop i os) ≡ []
lines-done k j [] os zero l = refl
lines-done k j [] os (suc i) l = refl
lines-done k j (r ∷ ls) os zero l = absurd (omega (arith, l))
lines-done k j (r ∷ ls) [] (suc i) l = none-left k j (drop i ls)
lines-done k j (r ∷ ls) (o ∷ os) (suc i) l = lines-done k j ls os i (omega (arith, l))

-- the rows that stand at a place
pub list-at : (ls : List (Vec Row)) (i : ℕ) (v : Vec Row) → i < length ls → v ≡ get_or ls i v → slice_get (map (λ l. l.items) ls) i ≡ Some v.items
list-at [] i v l e = absurd (omega (arith, l))
list-at (x ∷ ls) zero v l e = ap (λ y. Some y.items) (sym e)
list-at (x ∷ ls) (suc i) v l e = list-at ls i v (omega (arith, l)) e

-- the rows for which a certificate is given are infeasible
pub given-infeasible :
    (ls : List (List Row)) (os : List (Option Cert)) (i : ℕ) (rows : List Row) → AllZip RefutesIfGiven ls os →
    slice_get ls i ≡ Some rows → given_at os i ≡ Some true → Infeasible rows
given-infeasible [] os i rows h e g = cc
given-infeasible (l ∷ ls) [] i rows h e g = absurd h
given-infeasible (l ∷ ls) (None ∷ os) zero rows h e g = cc
given-infeasible (l ∷ ls) (Some c ∷ os) zero rows h e g =
    let q : l ≡ rows = cc in
    subst Infeasible q (excluded-infeasible l c (refuted-excludes l c h.0))
given-infeasible (l ∷ ls) (o ∷ os) (suc i) rows h e g = given-infeasible ls os i rows h.1 e g

-- so many lines are written of the lists before a place, and what is left makes it the whole
pub record Goes (k : ℕ) (ls : List (List Row)) (os : List (Option Cert)) (old text : List ℕ) (proofs i : ℕ) : Type 0 where
  pub few : proofs ≤ i
  pub whole : text ++ proof_lines k (suc proofs) (drop i ls) (drop i os) ≡ old ++ proof_lines k 1 ls os

pub begins : (k : ℕ) (ls : List (List Row)) (os : List (Option Cert)) (old : List ℕ) → Goes k ls os old old 0 0
begins k ls os old = record { few = omega arith; whole = refl }

pub goes-on :
    (k : ℕ) (ls : List (List Row)) (os : List (Option Cert)) (old text text' : List ℕ) (proofs proofs' i : ℕ) (rows : List Row) →
    Goes k ls os old text proofs i → slice_get ls i ≡ Some rows → given_at os i ≡ Some true →
    text' ≡ text ++ proof_line k (proofs + 1) rows → proofs' ≡ proofs + 1 → Goes k ls os old text' proofs' (i + 1)
goes-on k ls os old text text' proofs proofs' i rows g e o t q =
    let n : proofs + 1 ≡ suc proofs = omega arith in
    let m : i + 1 ≡ suc i = omega arith in
    let rest = proof_lines k (suc (suc proofs)) (drop (suc i) ls) (drop (suc i) os) in
    let line = proof_line k (suc proofs) rows in
    let written : text' ≡ text ++ line = subst (λ j. text' ≡ text ++ proof_line k j rows) n t in
    let whole : text' ++ rest ≡ old ++ proof_lines k 1 ls os =
    ap (λ s. s ++ rest) written
    ∙ (append_assoc text line rest ∙ (ap (λ s. text ++ s) (sym (line-next k (suc proofs) ls os i rows e o)) ∙ g.whole)) in
    subst (λ a. Goes k ls os old text' a (i + 1)) (sym (q ∙ n))
    (subst (λ b. Goes k ls os old text' (suc proofs) b) (sym m)
    (record { few = let f = g.few in omega (arith, f); whole = whole }))

pub passes :
    (k : ℕ) (ls : List (List Row)) (os : List (Option Cert)) (old text text' : List ℕ) (proofs proofs' i : ℕ) (rows : List Row) →
    Goes k ls os old text proofs i → slice_get ls i ≡ Some rows → given_at os i ≡ Some false →
    text' ≡ text → proofs' ≡ proofs → Goes k ls os old text' proofs' (i + 1)
passes k ls os old text text' proofs proofs' i rows g e o t q =
    let m : i + 1 ≡ suc i = omega arith in
    subst (λ a. Goes k ls os old text' a (i + 1)) (sym q)
    (subst (λ s. Goes k ls os old s proofs (i + 1)) (sym t)
    (subst (λ b. Goes k ls os old text proofs b) (sym m)
    (record {
      few = let f = g.few in omega (arith, f);
      whole = ap (λ s. text ++ s) (sym (line-passed k (suc proofs) ls os i rows e o)) ∙ g.whole;
    })))

pub ends :
    (k : ℕ) (ls : List (List Row)) (os : List (Option Cert)) (old text : List ℕ) (proofs i : ℕ) →
    Goes k ls os old text proofs i → length ls ≤ i → text ≡ old ++ proof_lines k 1 ls os
ends k ls os old text proofs i g l =
    sym (append-nil text) ∙ (ap (λ s. text ++ s) (sym (lines-done k (suc proofs) ls os i l)) ∙ g.whole)

-- ---- the nodes of a unit

-- so many nodes are passed, and those ahead, which are proven, make it the whole
pub record Passes (p : PlainProgram) (all ahead : List GoalNode) (old text : List ℕ) (k : ℕ) : Type 0 where
  pub proven : AllByRecursion (NodeIsProven p) ahead
  pub whole : text ++ node_lines p (suc k) ahead ≡ old ++ node_lines p 1 all

pub starts : (p : PlainProgram) (all : List GoalNode) (old : List ℕ) → AllByRecursion (NodeIsProven p) all → Passes p all all old old 0
starts p all old h = record { proven = h; whole = refl }

-- the node that comes next is proven
pub next-proven : (p : PlainProgram) (ahead after : List GoalNode) (n : GoalNode) → AllByRecursion (NodeIsProven p) ahead → ahead ≡ n ∷ after → NodeIsProven p n
next-proven p ahead after n h e = (subst (AllByRecursion (NodeIsProven p)) e h).0

pub passes-node :
    (p : PlainProgram) (all ahead after : List GoalNode) (n : GoalNode) (old text text' : List ℕ) (k k' : ℕ) →
    Passes p all ahead old text k → ahead ≡ n ∷ after → k' ≡ k + 1 →
    text' ≡ text ++ proof_lines k' 1 (owed_by p n) (given n.choice) → Passes p all after old text' k'
passes-node p all ahead after n old text text' k k' s e q t =
    let m : k' ≡ suc k = omega (arith, q) in
    let lines = proof_lines (suc k) 1 (owed_by p n) (given n.choice) in
    let t' : text' ≡ text ++ lines = subst (λ j. text' ≡ text ++ proof_lines j 1 (owed_by p n) (given n.choice)) m t in
    let h = subst (AllByRecursion (NodeIsProven p)) e s.proven in
    subst (λ j. Passes p all after old text' j) (sym m)
    (record {
      proven = h.1;
      whole = ap (λ s. s ++ node_lines p (suc (suc k)) after) t'
          ∙ (append_assoc text lines (node_lines p (suc (suc k)) after)
          ∙ (ap (λ ns. text ++ node_lines p (suc k) ns) (sym e) ∙ s.whole));
    })

pub all-passed :
    (p : PlainProgram) (all ahead : List GoalNode) (old text : List ℕ) (k : ℕ) →
    Passes p all ahead old text k → ahead ≡ [] → text ≡ old ++ node_lines p 1 all
all-passed p all ahead old text k s e =
    sym (append-nil text) ∙ (ap (λ ns. text ++ node_lines p (suc k) ns) (sym e) ∙ s.whole)
