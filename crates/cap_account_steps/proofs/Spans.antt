-- Indexed atoms of an action, each out of the piece that is named for it.
use Rattle.std.proofs.Common.{◌≡◌, ℕ, pos, ◌+ℤ◌, ◌≤ℤ◌, true, List, [], ◌∷◌, Option, Some, None, refl, ap, ◌∙◌, subst}
use Rattle.std.specs.Prelude.{slice_get}
use Rattle.std.specs.List.{AllByRecursion}
use Rattle.cap_lin.specs.Linear.{Linear, plus}
use Rattle.cap_lin.specs.Steps.{plus_steps}
use Rattle.cap_lin.specs.Values.{Valuation, value}
use Rattle.cap_lin.specs.declared.row.Sort.TheVariants.{Int}
use Rattle.cap_lin.specs.declared.row.Op.TheVariants.{Le as AtMost}
use Rattle.cap_lin.proofs.Values.{value-plus}
use Rattle.cap_galg_indices.specs.Sets.{one_index, indices_from}
use Rattle.cap_galg.specs.Elements.{indices}
use Rattle.cap_galg.specs.Algebras.{PlainAlgebra, atom_algebra}
use Rattle.cap_gsolve.specs.declared.piece.Form.{Form}
use Rattle.cap_gsolve.specs.declared.piece.Form.TheVariants as form
use Rattle.cap_gsolve.specs.declared.piece.Piece.{Piece}
use Rattle.cap_gsolve.specs.Pieces.{piece, of_atom}
use Rattle.cap_gsolve.specs.Meaning.{Takes, Fits}
use Rattle.cap_gsolve.proofs.CutSpans.{cut-from}
use Rattle.cap_prog.specs.declared.assertion.Slot.{Slot}
use Rattle.cap_prog.specs.declared.assertion.Slot.TheVariants.{Any, Is}
use Rattle.cap_prog.specs.declared.assertion.Asked.{Asked}
use Rattle.cap_prog.specs.declared.assertion.Asked.TheVariants.{At, From}
use Rattle.cap_prog.specs.Program.{PlainProgram}
use Rattle.cap_prog.specs.Scopes.{Scope, SlotFits}
use Rattle.cap_machine_accounts.specs.Parts.{algebra_of}
use Rattle.cap_goal_spec.specs.States.{PlainFact, PlainEnv, PlainState}
use Rattle.cap_goal_spec.specs.Environments.{one_value, asked_slot, is_determined, term_in}
use Rattle.cap_rules.specs.Attempts.{Attempt, ◌>>=◌, need, found, not_applicable, prove_that}
use Rattle.cap_rules.specs.Making.{determined_slot}
use Rattle.cap_rules.specs.Closing.{prove_below, prove_within, match_spans}
use Rattle.cap_account_resources.proofs.Lists.{all-at}
use Rattle.cap_account_states.specs.Nodes.{Comes}
use Rattle.cap_account_states.proofs.Terms.{Over, over-plus}
use Rattle.cap_account_states.proofs.Attempts.{comes-bind, comes-proved, after-found, after-need, after-computed, after-determined, after-proved}
use Rattle.cap_account_states.proofs.Meets.{Usable, Meets}
use Rattle.cap_account_states.proofs.Naming.{Placed, Means, bound-of, term-over, term-number}
use Rattle.cap_account_states.proofs.Asking.{AskedOver}
use Rattle.cap_account_states.proofs.Cutting.{one-is}
use Rattle.cap_account_states.proofs.Guarding.{EndOver, FormOver, IsAbove, slot-is, proved-relates, cut-any, spanned, span-takes, single-element, onwards-element}
use Rattle.cap_account_states.proofs.Pieces.{AllFit}
use Rattle.cap_account_states.proofs.Adding.{PieceOver}
use Rattle.cap_account_steps.proofs.Offers.{Offers}
use Rattle.cap_account_steps.proofs.Atoms.{Found, is-piece}

module _ (p : PlainProgram) (ks : List ℕ) (sc : Scope) (v : Valuation) (s : PlainState)
    (me : Meets ks v s) (f : PlainFact)
    (pieces : AllByRecursion (PieceOver (Usable ks s.sorts)) s.before) (fit : AllFit p s.before)
    (env : PlainEnv) (pl : Placed ks sc s.sorts env) (X : Valuation)
    (means : Means sc v env X) where
  abbrev R : Linear → Type 0
  R t = Over (Usable ks s.sorts Int) t

  -- the slot stands for a term
  after-slot :
      {B : Type 0} (x : Slot) (g : Linear → Attempt B) (P : B → Type 0) →
      Comes (determined_slot env x >>= g) P →
      (t : Linear) × (x ≡ Is t) × (is_determined env t ≡ true) × Comes (g (term_in env t)) P
  after-slot Any g P c = absurd (comes-bind not_applicable g P c).1
  after-slot (Is t) g P c = let k = after-determined env t g P c in (t, refl, k.0, k.1)

  below-proved :
      (e : Option Linear) (u : Linear) (P : Unit {0} → Type 0) → R u →
      EndOver (Usable ks s.sorts) e → Comes (prove_below s e u) P →
      IsAbove v (plus u one_value) e × P tt
  below-proved None u P o h c = (tt, c.1)
  below-proved (Some e) u P o h c =
      let next = plus u one_value in
      let last = λ (next : Linear). prove_that s.rows next AtMost e Int in
      let k1 = after-computed next (plus_steps u one_value) last P c in
      let k2 = comes-proved s.rows next AtMost e Int P k1 in (
        proved-relates ks v s next AtMost e Int me k2.0
            (over-plus (Usable ks s.sorts Int) u one_value o tt) h,
        k2.1,
      )

  within-offers :
      (b : PlainAlgebra) (asked : Asked) (q : Form) (t : Linear) → asked_slot asked ≡ Is t →
      is_determined env t ≡ true → AskedOver sc asked → Takes b q →
      FormOver (Usable ks s.sorts) q → (P : Unit {0} → Type 0) →
      Comes (prove_within s asked q (term_in env t)) P → Offers b v X q asked × P tt
  within-offers b (At x) (form.Span a e) t es d h tk o P c =
      let u = term_in env t in
      let next = plus u one_value in
      let bound = bound-of env t.parts d in
      let fits : SlotFits sc Int (Is t) = subst (SlotFits sc Int) es h in
      let uo = term-over ks sc s.sorts env Int t pl fits bound in
      let num : value v.whole u ≡ value X.whole t = term-number sc v env X Int t means fits bound in
      let k1 = after-proved s.rows a AtMost u Int (λ _. prove_below s e u) P c in
      let least : value v.whole a ≤ℤ value v.whole u =
      proved-relates ks v s a AtMost u Int me k1.0 o.0 uo in
      let k2 = below-proved e u P uo o.1 k1.1 in
      let next-is : value v.whole next ≡ value v.whole u +ℤ pos 1 =
      value-plus v.whole u one_value ∙ ap (λ z. value v.whole u +ℤ z) (one-is v.whole) in (
        record {
          left = form.Span a (Some u) ∷ (form.Span next e ∷ []);
          takes = (span-takes b a e a (Some u) tk, (span-takes b a e next e tk, tt));
          cut = λ own w.
              let k = cut-any v a u next e own w least next-is k2.0 in (
                indices (one_index k.0),
                (k.0, slot-is X x t (value v.whole u) (pos k.0) es num k.1, refl),
                spanned b a e (indices (one_index k.0)) (single-element k.0) tk,
                k.2,
              );
        },
        k2.1,
      )
  within-offers b (From x) (form.Span a None) t es d h tk o P c =
      let u = term_in env t in
      let bound = bound-of env t.parts d in
      let fits : SlotFits sc Int (Is t) = subst (SlotFits sc Int) es h in
      let uo = term-over ks sc s.sorts env Int t pl fits bound in
      let num : value v.whole u ≡ value X.whole t = term-number sc v env X Int t means fits bound in
      let k1 = comes-proved s.rows a AtMost u Int P c in
      let least : value v.whole a ≤ℤ value v.whole u =
      proved-relates ks v s a AtMost u Int me k1.0 o.0 uo in (
        record {
          left = form.Span a (Some u) ∷ [];
          takes = (span-takes b a None a (Some u) tk, tt);
          cut = λ own w.
              let k = cut-from v a u own w least in (
                indices (indices_from k.0),
                (k.0, slot-is X x t (value v.whole u) (pos k.0) es num k.1, refl),
                spanned b a None (indices (indices_from k.0)) (onwards-element k.0) tk,
                k.2,
              );
        },
        k1.1,
      )
  within-offers b asked q t es d h tk o P c = absurd c.1

  pub spans-found :
      (gs : List (ℕ × Asked)) (js : List ℕ) → AllByRecursion (λ g. AskedOver sc g.1) gs →
      (P : Unit {0} → Type 0) → Comes (match_spans s f env gs js) P →
      AllByRecursion (Found p v X f.region f.kind s.before) gs × P tt
  spans-found [] [] h P c = (tt, c.1)
  spans-found [] (j ∷ js) h P c = absurd c.1
  spans-found (g ∷ gs) [] h P c =
      absurd (after-slot (asked_slot g.1) (λ i. not_applicable) P c).3.1
  spans-found (g ∷ gs) (j ∷ js) h P c =
      let more = λ (w : Unit {0}). match_spans s f env gs js in
      let third = λ (i : Linear) (q : Piece). prove_within s g.1 q.form i >>= more in
      let second = λ (i : Linear) (q : Piece). need (of_atom f.region f.kind g.0 q) >>= λ _.
      third i q in
      let first = λ (i : Linear). found (slice_get s.before j) >>= second i in
      let k1 = after-slot (asked_slot g.1) first P c in
      let u = term_in env k1.0 in
      let k2 = after-found (slice_get s.before j) (second u) P k1.3 in
      let q = k2.0 in
      let k3 = after-need (of_atom f.region f.kind g.0 q) (λ _. third u q) P k2.2 in
      let is = is-piece f.region f.kind g.0 q k3.0 in
      let own : Fits (algebra_of p f.kind) (piece f.region f.kind g.0 q.form) =
      subst (λ x. Fits (algebra_of p x.kind) x) is
      (all-at (λ x. Fits (algebra_of p x.kind) x) s.before j q fit k2.1) in
      let over = all-at (PieceOver (Usable ks s.sorts)) s.before j q pieces k2.1 in
      let k4 = within-offers (atom_algebra (algebra_of p f.kind) g.0) g.1 q.form k1.0 k1.1 k1.2 h.0
      own.1 over.1 (λ w. Comes (more w) P)
      (comes-bind (prove_within s g.1 q.form u) more P k3.1) in
      let r = spans-found gs js h.1 P k4.1 in (
        (
          record { number = j; form = q.form; found = k2.1 ∙ ap Some is; offers = k4.0 },
          r.0,
        ),
        r.1,
      )
