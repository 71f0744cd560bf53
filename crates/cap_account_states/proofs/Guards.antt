-- Rule `guard` at a piece: what is asked is taken, and the pieces that stay are covered by what is
-- left.
use Rattle.std.proofs.Common.{subst, ap, arith, ◌≡◌, ◌≢◌, ℕ, ◌+◌, ℤ, Bool, true, false, List, [], ◌∷◌, ◌++◌, map, take, drop, length, Option, Some, sym, ◌∙◌, refl, suc, zero}
use Rattle.std.specs.Prelude.{slice_get, ◌==◌, ◌&&◌}
use Rattle.std.specs.List.{AllByRecursion}
use Rattle.std.proofs.lemmas.Bool.Decides.{nat_tests}
use Rattle.cap_lin.specs.Linear.{Linear, minus}
use Rattle.cap_lin.specs.Values.{Valuation, value}
use Rattle.cap_lin.specs.declared.row.Sort.{Sort}
use Rattle.cap_lin.specs.declared.row.Sort.TheVariants.{Int, Perm}
use Rattle.cap_lin.specs.declared.row.Op.TheVariants.{Eq as Equal}
use Rattle.cap_galg.specs.Elements.{Element, share, nothing}
use Rattle.cap_galg.specs.Algebras.{IsElement, atom_algebra, atom_element}
use Rattle.cap_gsolve.specs.declared.piece.Form.{Form}
use Rattle.cap_gsolve.specs.declared.piece.Piece.{Piece}
use Rattle.cap_gsolve.specs.Meaning.{region_of, Takes, Fits, IsFormElement}
use Rattle.cap_prog.specs.declared.assertion.Asked.{Asked}
use Rattle.cap_prog.specs.Program.{PlainProgram}
use Rattle.cap_prog.specs.Scopes.{Scope, HasSort, SlotFits}
use Rattle.cap_machine_accounts.specs.Parts.{algebra_of}
use Rattle.cap_goal_spec.specs.States.{PlainEnv, PlainState, PlainGoal}
use Rattle.cap_goal_spec.specs.Environments.{Reading, settled, stuck, term_of, reading, asked_slot, open_to, bind_open, zero_value, term_in}
use Rattle.cap_rules.specs.Attempts.{Attempt, ◌>>=◌, need, found}
use Rattle.cap_rules.specs.Making.{prove_equal, env_at, fresh, determined_slot}
use Rattle.cap_rules.specs.Taking.{Cut, cut, cut_form, after_cut, with_form, cut_share}
use Rattle.cap_rules.specs.Rules.{Remaining, goes, at_piece, at_no_tokens}
use Rattle.cap_prog.specs.declared.assertion.Slot.{Slot}
use Rattle.cap_prog.specs.declared.assertion.Asked.TheVariants.{One, Share, Src, Tok, At, From}
use Rattle.cap_account_states.proofs.Alike.{usable-alike, Alike, alike-same, alike-on}
use Rattle.cap_account_states.proofs.Terms.{Over, vars-more}
use Rattle.cap_account_states.proofs.Brought.{Brought, form_brings, piece_brings, brought-none}
use Rattle.cap_account_states.proofs.Compatible.{pieces-more, form-alike, covered-alike}
use Rattle.cap_gsolve.proofs.CutSpans.{Cuts}
use Rattle.cap_account_states.proofs.Cutting.{one-fraction}
use Rattle.cap_account_states.proofs.Halving.{halved, half_state, half-cut}
use Rattle.cap_gsolve.specs.declared.piece.Form.TheVariants as form
use Rattle.cap_prog.specs.declared.assertion.Slot.TheVariants.{Any, Is}
use Rattle.cap_gsolve.proofs.Amounts.{zero-value}
use Rattle.cap_account_states.specs.Nodes.{Comes}
use Rattle.cap_account_resources.proofs.Lists.{all-at, all-both, join-nil}
use Rattle.cap_account_states.proofs.Attempts.{comes-bind, after-found, after-need, after-proved, after-determined}
use Rattle.cap_account_states.proofs.Meets.{Usable, usable-on, Meets, Free, Old, Same, same-state, usable-old}
use Rattle.cap_account_states.proofs.Naming.{Placed, Means, Stays, bound-of, term-over, term-number}
use Rattle.cap_account_states.proofs.Matching.{Outside, met_env}
use Rattle.cap_account_states.proofs.Asking.{AskedOver}
use Rattle.cap_account_resources.proofs.Marks.{Mark, free}
use Rattle.cap_account_resources.proofs.Covering.{mark, Covered}
use Rattle.cap_account_states.proofs.Pieces.{AllFit, left_pieces, CutAt, cut-away, cut-here, all-take, all-drop}
use Rattle.cap_account_states.proofs.Adding.{PieceOver}
use Rattle.cap_account_states.proofs.Guarding.{WantedNear, open_term, OpenGets, CutFrom, is-cut-from, is_open, is_open_reading, form-cut, proved-relates, FormOver, share-takes}

-- an open amount gets a variable
abbrev pub open_sorts : Bool → List Sort
open_sorts true = Perm ∷ []
open_sorts false = []

-- the guard is taken at alike values, over a multiple of the denominator, in a state that goes on
-- with the same cells, pieces and environments; it is of the region that is asked, and wanted, at
-- all values that are alike to these
pub record GuardTaken (p : PlainProgram) (ks : List ℕ) (sc : Scope) (v : Valuation) (s : PlainState)
    (j n k i : ℕ) (asked : Asked) (r : Remaining) (held : ℤ → Option Mark)
    (P : List PlainGoal → Type 0) : Type 0 where
  pub w : Valuation
  pub alike : Alike (Old s) v w
  pub after : PlainState
  pub meets : Meets ks w after
  pub same : Same s after
  pub cells : after.cells ≡ s.cells
  pub guards : after.guards ≡ s.guards
  pub envs : after.envs ≡ s.envs
  pub piece : Piece
  pub at : slice_get s.guards j ≡ Some piece
  pub cut_from : CutFrom asked piece.form
  pub sorts : after.sorts ≡ s.sorts ++ open_sorts (is_open asked (env_at s r.env))
  pub of_kind : piece.kind ≡ k
  pub of_atom : piece.atom ≡ i
  pub later : PlainEnv
  pub later_is :
      later
      ≡ met_env (env_at s r.env) (reading (env_at s r.env) (asked_slot asked))
      (open_term asked piece.form (length s.sorts))
  pub left : List Form
  pub placed : Placed ks sc after.sorts later
  pub stays : Stays sc (env_at s r.env) later
  pub outside : Outside sc (env_at s r.env) later
  pub size : length later ≡ length (env_at s r.env)
  pub region :
      (x : Valuation) → Alike (Old after) w x → (X : Valuation) → Means sc x later X →
      X.whole n ≡ region_of w piece
  pub taken : Element
  pub wanted : WantedNear sc (Old after) w later asked taken
  pub gets :
      OpenGets w asked (reading (env_at s r.env) (asked_slot asked))
      (open_term asked piece.form (length s.sorts)) taken
  pub is_element : IsElement (atom_algebra (algebra_of p piece.kind) piece.atom) taken
  pub pieces_over :
      AllByRecursion (PieceOver (Usable ks after.sorts)) (left_pieces s.guards j piece left)
  pub fit : AllFit p (left_pieces s.guards j piece left)
  pub here :
      CutAt p w (left_pieces s.guards j piece left) (region_of w piece)
      (mark piece.kind (atom_element (algebra_of p piece.kind) piece.atom taken))
      (held (region_of w piece))
  pub away :
      (z : ℤ) → region_of w piece ≢ z →
      CutAt p w (left_pieces s.guards j piece left) z (Some free) (held z)
  pub brought :
      Brought s after w (piece_brings (is_open asked (env_at s r.env)) (slice_get s.guards j))
  pub comes : Comes (goes (after_cut r.env j piece (cut later after left)) r) P

-- pieces with other forms that fit the atom
pub forms-fit :
    (p : PlainProgram) (q : Piece) (fs : List Form) → Fits (algebra_of p q.kind) q →
    AllByRecursion (Takes (atom_algebra (algebra_of p q.kind) q.atom)) fs →
    AllFit p (map (with_form q) fs)
forms-fit p q [] f h = tt
forms-fit p q (x ∷ fs) f h = ((f.0, h.0), forms-fit p q fs f h.1)

left-all :
    (P : Piece → Type 0) (ps : List Piece) (j : ℕ) (q : Piece) (fs : List Form) →
    AllByRecursion P ps → AllByRecursion P (map (with_form q) fs) →
    AllByRecursion P (left_pieces ps j q fs)
left-all P ps j q fs h f =
    all-both P (take j ps) (map (with_form q) fs ++ drop (j + 1) ps) (all-take P ps j h)
    (all-both P (map (with_form q) fs) (drop (j + 1) ps) f (all-drop P ps (j + 1) h))

pub left-fits :
    (p : PlainProgram) (ps : List Piece) (j : ℕ) (q : Piece) (fs : List Form) → AllFit p ps →
    AllFit p (map (with_form q) fs) → AllFit p (left_pieces ps j q fs)
left-fits p ps j q fs h f = left-all (λ (r : Piece). Fits (algebra_of p r.kind) r) ps j q fs h f

-- pieces with other forms over such variables
forms-over :
    (R : Sort → ℕ → Type 0) (q : Piece) (fs : List Form) → Over (R Int) q.region →
    AllByRecursion (FormOver R) fs → AllByRecursion (PieceOver R) (map (with_form q) fs)
forms-over R q [] o h = tt
forms-over R q (x ∷ fs) o h = ((o, h.0), forms-over R q fs o h.1)

pub left-over :
    (R : Sort → ℕ → Type 0) (ps : List Piece) (j : ℕ) (q : Piece) (fs : List Form) →
    AllByRecursion (PieceOver R) ps → Over (R Int) q.region → AllByRecursion (FormOver R) fs →
    AllByRecursion (PieceOver R) (left_pieces ps j q fs)
left-over R ps j q fs h o f = left-all (PieceOver R) ps j q fs h (forms-over R q fs o f)

-- the region's number at alike values
region-near :
    (ks : List ℕ) (v w : Valuation) (s : PlainState) (t u : Linear) → Alike (Old s) v w →
    Over (Usable ks s.sorts Int) t → Over (Usable ks s.sorts Int) u →
    value v.whole u ≡ value v.whole t → (x : Valuation) → Alike (Old s) v x → (n : ℤ) →
    value x.whole t ≡ n → n ≡ value w.whole u
region-near ks v w s t u l to uo e x m n h =
    sym h ∙ usable-alike ks s v x m t to ∙ sym e ∙ sym (usable-alike ks s v w l u uo)

kinds : (a b x y : ℕ) → ((a == b) && (x == y)) ≡ true → (a ≡ b) × (x ≡ y)
kinds a b x y h = (grind (arith, nat_tests), grind (arith, nat_tests))

closed-taken :
    (p : PlainProgram) (ks : List ℕ) (sc : Scope) (v : Valuation) (s : PlainState) (j way n k i : ℕ)
    (asked : Asked) (r : Remaining) (held : ℤ → Option Mark) (P : List PlainGoal → Type 0) →
    Meets ks v s → AllByRecursion (PieceOver (Usable ks s.sorts)) s.guards → AllFit p s.guards →
    ((z : ℤ) → Covered p v s.guards z (held z)) → Placed ks sc s.sorts (env_at s r.env) →
    HasSort sc Int n → AskedOver sc asked → is_open asked (env_at s r.env) ≡ false → Comes
    (at_piece s j way n k i asked r) P → GuardTaken p ks sc v s j n k i asked r held P
closed-taken p ks sc v s j way n k i asked r held P me ov fit cover pl hn ao op c =
    let env = env_at s r.env in
    let fifth : Piece → Cut → Attempt (List PlainGoal) = λ q x. goes (after_cut r.env j q x) r in
    let fourth : Piece → Attempt
    (List PlainGoal) = λ q. cut_form s env asked q.form way >>= fifth q in
    let third : Piece → Linear → Attempt
    (List PlainGoal) = λ q t. prove_equal s q.region t >>= λ _. fourth q in
    let second : Piece → Attempt (List PlainGoal) = λ q. found (term_of env n) >>= third q in
    let first : Piece → Attempt (List PlainGoal) = λ q. need
    ((q.kind == k) && (q.atom == i)) >>= λ _. second q in
    let k1 = after-found (slice_get s.guards j) first P c in
    let q = k1.0 in
    let k2 = after-need ((q.kind == k) && (q.atom == i)) (λ _. second q) P k1.2 in
    let k3 = after-found (term_of env n) (third q) P k2.1 in
    let t = k3.0 in
    let k4 = after-proved s.rows q.region Equal t Int (λ _. fourth q) P k3.2 in
    let o = all-at (PieceOver (Usable ks s.sorts)) s.guards j q ov k1.1 in
    let f = all-at (λ (x : Piece). Fits (algebra_of p x.kind) x) s.guards j q fit k1.1 in
    let eq : value v.whole q.region ≡ value v.whole t =
    proved-relates ks v s q.region Equal t Int me k4.0 o.0 (pl.over n Int hn t k3.1) in
    let g = form-cut ks sc v s me env pl (λ x. Comes (fifth q x) P) asked q.form way ao o.1 op
    (comes-bind (cut_form s env asked q.form way) (fifth q) P k4.1) in
    let h = cut-here p v s.guards j q (region_of v q) (held (region_of v q)) fit k1.1 refl
    (cover (region_of v q)) in
    let u = g.cuts h.own h.is_own in
    let lf = forms-fit p q g.left f (g.fits (atom_algebra (algebra_of p q.kind) q.atom) f.1) in
    let el = u.2 (atom_algebra (algebra_of p q.kind) q.atom) f.1 in
    record {
      w = v;
      alike = alike-same (Old s) v;
      after = s;
      meets = me;
      same = same-state s;
      cells = refl;
      guards = refl;
      envs = refl;
      piece = q;
      at = k1.1;
      cut_from = is-cut-from ks sc v s me env pl (λ x. Comes (fifth q x) P) asked q.form way
          (comes-bind (cut_form s env asked q.form way) (fifth q) P k4.1);
      sorts = sym (ap (λ b. s.sorts ++ open_sorts b) op ∙ join-nil s.sorts);
      of_kind = (kinds (q.kind) k (q.atom) i k2.0).0;
      of_atom = (kinds (q.kind) k (q.atom) i k2.0).1;
      later = g.later;
      later_is = g.later_is;
      left = g.left;
      placed = g.placed;
      stays = g.stays;
      outside = g.outside;
      size = g.size;
      region = λ x l X m. region-near ks v v s t q.region (alike-same (Old s) v)
          (pl.over n Int hn t k3.1) o.0 eq x l (X.whole n)
          (m.whole n hn t (g.stays n Int hn t k3.1));
      taken = u.0;
      wanted = u.1;
      gets = u.4;
      is_element = el;
      pieces_over = left-over (Usable ks s.sorts) s.guards j q g.left ov o.0 g.left_over;
      fit = left-fits p s.guards j q g.left fit lf;
      here = h.cut u.0 g.left el lf u.3;
      away = λ z ne. cut-away p v s.guards j q g.left z (held z) k1.1 ne (cover z);
      brought =
          subst (λ o. Brought s s v (piece_brings o (slice_get s.guards j))) (sym op)
          (brought-none s s v refl);
      comes = g.comes;
    }

-- an open amount is cut out of a share alone
open-form :
    (s : PlainState) (env : PlainEnv) (x : Slot) (y : Option ℕ) (f : Form) (way : ℕ)
    (P : Cut → Type 0) → reading env x ≡ open_to y → Comes (cut_form s env (Share x) f way) P →
    (a : Linear) × (f ≡ form.Share a) × Comes (cut_share s env a 1 (open_to y)) P
open-form s env x y (form.Share a) way P e c =
    by way (subst (λ z. Comes (cut_share s env a way z) P) e c)
  where
    by :
        (n : ℕ) → Comes (cut_share s env a n (open_to y)) P → (b : Linear)
        × (form.Share a ≡ form.Share b) × Comes (cut_share s env b 1 (open_to y)) P
    by zero c = absurd c.1
    by (suc zero) c = (a, refl, c)
    by (suc (suc n)) c = absurd c.1
open-form s env x y f way P e c = absurd c.1

open-taken :
    (p : PlainProgram) (ks : List ℕ) (sc : Scope) (v : Valuation) (s : PlainState) (j way n k i : ℕ)
    (x : Slot) (y : Option ℕ) (r : Remaining) (held : ℤ → Option Mark)
    (P : List PlainGoal → Type 0) →
    Meets ks v s → Free ks (length s.sorts) → AllByRecursion
    (PieceOver (Usable ks s.sorts)) s.guards → AllFit p s.guards →
    ((z : ℤ) → Covered p v s.guards z (held z)) → Placed ks sc s.sorts (env_at s r.env) →
    HasSort sc Int n → SlotFits sc Perm x → reading (env_at s r.env) x ≡ open_to y → Comes
    (at_piece s j way n k i (Share x) r) P → GuardTaken p ks sc v s j n k i (Share x) r held P
open-taken p ks sc v s j way n k i x y r held P me apart ov fit cover pl hn ao op c =
    let env = env_at s r.env in
    let fifth : Piece → Cut → Attempt (List PlainGoal) = λ q x. goes (after_cut r.env j q x) r in
    let fourth : Piece → Attempt (List PlainGoal) = λ q. cut_form s env
    (Share x) q.form way >>= fifth q in
    let third : Piece → Linear → Attempt
    (List PlainGoal) = λ q t. prove_equal s q.region t >>= λ _. fourth q in
    let second : Piece → Attempt (List PlainGoal) = λ q. found (term_of env n) >>= third q in
    let first : Piece → Attempt (List PlainGoal) = λ q. need
    ((q.kind == k) && (q.atom == i)) >>= λ _. second q in
    let k1 = after-found (slice_get s.guards j) first P c in
    let q = k1.0 in
    let k2 = after-need ((q.kind == k) && (q.atom == i)) (λ _. second q) P k1.2 in
    let k3 = after-found (term_of env n) (third q) P k2.1 in
    let t = k3.0 in
    let k4 = after-proved s.rows q.region Equal t Int (λ _. fourth q) P k3.2 in
    let o = all-at (PieceOver (Usable ks s.sorts)) s.guards j q ov k1.1 in
    let f = all-at (λ (x : Piece). Fits (algebra_of p x.kind) x) s.guards j q fit k1.1 in
    let tv = pl.over n Int hn t k3.1 in
    let eq : value v.whole q.region ≡ value v.whole t =
    proved-relates ks v s q.region Equal t Int me k4.0 o.0 tv in
    let g = open-form s env x y q.form way (λ x. Comes (fifth q x) P) op
    (comes-bind (cut_form s env (Share x) q.form way) (fifth q) P k4.1) in
    let a = g.0 in
    let w = halved v (length s.sorts) a in
    let hv = cut-here p v s.guards j q (region_of v q) (held (region_of v q)) fit k1.1 refl
    (cover (region_of v q)) in
    let iv : IsFormElement v (form.Share a) hv.own = subst
    (λ l. IsFormElement v l hv.own) g.1 hv.is_own in
    let ho = half-cut ks sc v s env x y a hv.own (λ x. Comes (fifth q x) P) me apart pl ao
    (subst (FormOver (Usable ks s.sorts)) g.1 o.1) op iv g.2 in
    let old = pieces-more (Usable ks s.sorts) (λ o. Old s) (usable-old ks s.sorts) s.guards ov in
    let cw : (z : ℤ) → Covered p w s.guards z (held z) = λ z. covered-alike p (Old s) v w ho.alike
    s.guards z (held z) old (cover z) in
    let hw = cut-here p w s.guards j q (region_of w q) (held (region_of w q)) fit k1.1 refl
    (cw (region_of w q)) in
    let iw : IsFormElement w (form.Share a) hw.own = subst
    (λ l. IsFormElement w l hw.own) g.1 hw.is_own in
    let old-a = vars-more (Usable ks s.sorts Perm) (Old s) (usable-old ks s.sorts Perm) a.parts
    (subst (FormOver (Usable ks s.sorts)) g.1 o.1) in
    let jw : IsFormElement w (form.Share a) hv.own = form-alike (Old s) v w ho.alike (form.Share a)
    old-a hv.own iv in
    let one : hv.own ≡ hw.own = jw.3 ∙ ap share
    (one-fraction w a a jw.0 iw.0 jw.1 iw.1 jw.2 iw.2 refl) ∙ sym iw.3 in
    let left = form.Share (minus a (fresh s)) ∷ [] in
    let takes : Takes (atom_algebra (algebra_of p q.kind) q.atom) (form.Share a) = subst
    (Takes (atom_algebra (algebra_of p q.kind) q.atom)) g.1 f.1 in
    let lf = forms-fit p q left f
    (share-takes (atom_algebra (algebra_of p q.kind) q.atom) a (minus a (fresh s)) takes, tt) in
    let el = ho.is_element (atom_algebra (algebra_of p q.kind) q.atom) takes in
    let b = ho.bound in
    let S = Usable ks (half_state s a).sorts in
    let more = usable-on ks s.sorts (half_state s a).sorts ho.same.sorts in
    record {
      w = w;
      alike = ho.alike;
      after = half_state s a;
      meets = ho.meets;
      same = ho.same;
      cells = refl;
      guards = refl;
      envs = refl;
      piece = q;
      at = k1.1;
      cut_from = is-cut-from ks sc v s me env pl (λ x. Comes (fifth q x) P) (Share x) q.form way
          (comes-bind (cut_form s env (Share x) q.form way) (fifth q) P k4.1);
      sorts = sym (ap (λ d. s.sorts ++ open_sorts (is_open_reading d)) op);
      of_kind = (kinds (q.kind) k (q.atom) i k2.0).0;
      of_atom = (kinds (q.kind) k (q.atom) i k2.0).1;
      later = bind_open env y (fresh s);
      later_is = ap (λ d. met_env env d (fresh s)) (sym op);
      left = left;
      placed = b.placed;
      stays = b.stays;
      outside = b.outside;
      size = b.size;
      region =
          λ x l X m. region-near ks v w s t q.region ho.alike tv o.0 eq x
          (alike-on s (half_state s a) v w x ho.same ho.alike l) (X.whole n)
          (m.whole n hn t (b.stays n Int hn t k3.1));
      taken = ho.taken;
      wanted = ho.wanted;
      gets = subst (λ d. OpenGets w (Share x) d (fresh s) ho.taken) (sym op) ho.gets;
      is_element = el;
      pieces_over = left-over S s.guards j q left
          (pieces-more (Usable ks s.sorts) S more s.guards ov)
          (vars-more (Usable ks s.sorts Int) (S Int) (more Int) q.region.parts o.0)
          (ho.left_over, tt);
      fit = left-fits p s.guards j q left fit lf;
      here = hw.cut ho.taken left el lf (subst (λ z. Cuts w z ho.taken left) one ho.cuts);
      away = λ z ne. cut-away p w s.guards j q left z (held z) k1.1 ne (cw z);
      brought =
          subst (Brought s (half_state s a) w)
          (sym ((λ l. piece_brings (is_open_reading (op l)) (k1.1 l)) ∙ ap form_brings g.1))
          ho.brought;
      comes = ho.comes;
    }

pub guard-taken :
    (p : PlainProgram) (ks : List ℕ) (sc : Scope) (v : Valuation) (s : PlainState) (j way n k i : ℕ)
    (asked : Asked) (r : Remaining) (held : ℤ → Option Mark) (P : List PlainGoal → Type 0) →
    Meets ks v s → Free ks (length s.sorts) → AllByRecursion
    (PieceOver (Usable ks s.sorts)) s.guards → AllFit p s.guards →
    ((z : ℤ) → Covered p v s.guards z (held z)) → Placed ks sc s.sorts (env_at s r.env) →
    HasSort sc Int n → AskedOver sc asked → Comes
    (at_piece s j way n k i asked r) P → GuardTaken p ks sc v s j n k i asked r held P
guard-taken p ks sc v s j way n k i One r held P me apart ov fit cover pl hn ao c =
    closed-taken p ks sc v s j way n k i One r held P me ov fit cover pl hn ao refl c
guard-taken p ks sc v s j way n k i (Src x) r held P me apart ov fit cover pl hn ao c =
    closed-taken p ks sc v s j way n k i (Src x) r held P me ov fit cover pl hn ao refl c
guard-taken p ks sc v s j way n k i (Tok x) r held P me apart ov fit cover pl hn ao c =
    closed-taken p ks sc v s j way n k i (Tok x) r held P me ov fit cover pl hn ao refl c
guard-taken p ks sc v s j way n k i (At x) r held P me apart ov fit cover pl hn ao c =
    closed-taken p ks sc v s j way n k i (At x) r held P me ov fit cover pl hn ao refl c
guard-taken p ks sc v s j way n k i (From x) r held P me apart ov fit cover pl hn ao c =
    closed-taken p ks sc v s j way n k i (From x) r held P me ov fit cover pl hn ao refl c
guard-taken p ks sc v s j way n k i (Share x) r held P me apart ov fit cover pl hn ao c =
    by (reading (env_at s r.env) x) refl
  where
    by :
        (d : Reading) → reading (env_at s r.env) x ≡ d →
        GuardTaken p ks sc v s j n k i (Share x) r held P
    by (open_to y) e =
        open-taken p ks sc v s j way n k i x y r held P me apart ov fit cover pl hn ao e c
    by (settled t) e =
        closed-taken p ks sc v s j way n k i (Share x) r held P me ov fit cover pl hn ao
        (ap is_open_reading e) c
    by stuck e =
        closed-taken p ks sc v s j way n k i (Share x) r held P me ov fit cover pl hn ao
        (ap is_open_reading e) c

-- no tokens are asked for, at all alike values
pub no-tokens-taken :
    (ks : List ℕ) (sc : Scope) (v : Valuation) (s : PlainState) (j : ℕ) (x : Slot) (r : Remaining)
    (P : List PlainGoal → Type 0) → Meets ks v s → Placed ks sc s.sorts (env_at s r.env) →
    SlotFits sc Int x → Comes (at_no_tokens s j x r) P →
    WantedNear sc (Old s) v (env_at s r.env) (Tok x) nothing × Comes (goes s r) P
no-tokens-taken ks sc v s j Any r P me pl h c =
    absurd (after-need (j == 0)
    (λ _. determined_slot
    (env_at s r.env) Any >>= λ t. prove_equal s t zero_value >>= λ _. goes s r) P c).1.1
no-tokens-taken ks sc v s j (Is u) r P me pl h c =
    let env = env_at s r.env in
    let second : Linear → Attempt
    (List PlainGoal) = λ t. prove_equal s t zero_value >>= λ _. goes s r in
    let k1 = after-need (j == 0) (λ _. determined_slot env (Is u) >>= second) P c in
    let k2 = after-determined env u second P k1.1 in
    let b = bound-of env u.parts k2.0 in
    let k3 = after-proved s.rows (term_in env u) Equal zero_value Int (λ _. goes s r) P k2.1 in
    let eq : value v.whole (term_in env u) ≡ value v.whole zero_value =
    proved-relates ks v s (term_in env u) Equal zero_value Int me k3.0
    (term-over ks sc s.sorts env Int u pl h b) tt in
    let over = term-over ks sc s.sorts env Int u pl h b in (
      λ w l X m. (
        0,
        sym (term-number sc w env X Int u m h b)
            ∙ usable-alike ks s v w l (term_in env u) over ∙ eq ∙ zero-value v.whole,
        refl,
      ),
      k3.1,
    )
