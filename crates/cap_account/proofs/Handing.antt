-- Calls and forks: the callee's part is cut out of the stepping frame's.
use Rattle.std.proofs.Common.{◌≡◌, ℕ, ℤ, List, [], ◌∷◌, ◌++◌, map, length, Option, Some, None, refl, sym, ap, ◌∙◌, subst}
use Rattle.std.specs.Prelude.{slice_get, slice_set, IsSomeAnd}
use Rattle.cap_lin.specs.Linear.{Linear}
use Rattle.cap_prog.specs.Program.{PlainProgram, PlainFunction, Label, call, fork, Block, first}
use Rattle.cap_prog.specs.WellFormed.{CallFits}
use Rattle.cap_machine.specs.Machine.{value_in, with_rest, new_frame, calls, forks, does}
use Rattle.cap_machine.specs.declared.event.Event.TheVariants.{Call, Fork}
use Rattle.cap_machine_accounts.specs.Parts.{no_part}
use Rattle.cap_machine_accounts.specs.Assertions.{NameValue, MeetsRequires, Met}
use Rattle.cap_machine_accounts.specs.Accounts.{Held, table_of}
use Rattle.cap_machine_accounts.specs.Following.{SomeHasCell}
use Rattle.cap_machine_accounts.specs.Safety.{top_of}
use Rattle.cap_account_resources.specs.Parts.{Table}
use Rattle.cap_account_resources.proofs.Lists.{within, get-set-same, get-last, set-length, map-length}
use Rattle.cap_account_resources.proofs.Monoid.{none as empty, atom as at, both as plus}
use Rattle.cap_account_resources.proofs.Interference.{relies-same}
use Rattle.cap_account_resources.proofs.Stocks.{Stock, no_stock, both, Inside, reordered, inside-trans, inside-first, inside-second, inside-is}
use Rattle.cap_account_resources.proofs.Tables.{fits-less}
use Rattle.cap_account_states.proofs.Checked.{Checked}
use Rattle.cap_account_assertions.proofs.Asserted.{OwnsRequires, OwnsEnsures}
use Rattle.cap_account_steps.proofs.Regained.{Stable}
use Rattle.cap_account_steps.proofs.Points.{point-act}
use Rattle.cap_account_steps.proofs.Frames.{Stands, Roomy, Waits, Hands}
use Rattle.cap_account_steps.proofs.Statements.{Statements}
use Rattle.cap_account.proofs.Stocked.{part_stock, frames_stock, account_table, Turn, spot_of}
use Rattle.cap_account.proofs.Totals.{parts_stock}
use Rattle.cap_account.proofs.Parts.{fits-guards}
use Rattle.cap_account.proofs.Drawn.{Has, requires-met, ensures-met}
use Rattle.cap_account.proofs.Changes.{roomy, roomy-after}
use Rattle.cap_account.proofs.Successors.{scene, Stride, all, cut, cut-is, kept, news, account, table-is, nothing-fits, nothing-within}
use Rattle.cap_account.proofs.Following.{before, follows}
use Rattle.cap_account.proofs.Succeeding.{below-wait, moved, forked}
use Rattle.cap_account.proofs.Strides.{handing, Goes, no-access, left-all}
use Rattle.cap_account.proofs.Ordinary.{StandsAt, before-act}

-- ---- parts that are cut out of what is left

module _ (p : Checked) (stable : Stable p.program) (x : Turn p) (y : Stride p x) (q : Stock)
    (le : Inside p.program q (all p stable x y)) where
  pub cut-roomy : Roomy p.program y.change.by.U q
  cut-roomy = roomy-after p.program (scene p x) y.heap y.left y.change stable q le

  cut-has : Has p.program (cut p stable x y q) q
  cut-has =
      let is = cut-is p stable x y q le in
      record {
        inside = inside-is p.program q (part_stock (cut p stable x y q)) (sym is);
        guards =
            fits-guards p.program y.change.by.U (cut p stable x y q)
            (fits-less p.program y.change.by.U (part_stock (cut p stable x y q)) q
            (inside-is p.program (part_stock (cut p stable x y q)) q is) cut-roomy.room);
      }

  pub cut-requires :
      (f : PlainFunction) (args : List ℤ) (fixed : List NameValue) →
      OwnsRequires p.program y.change.by.U q f args fixed →
      MeetsRequires p.program (table_of (kept p stable x y ++ news p stable x y))
      (cut p stable x y q) f args fixed
  cut-requires f args fixed h =
      requires-met p.program (kept p stable x y ++ news p stable x y) f q (cut p stable x y q) args
      fixed cut-has
      (subst (λ T. OwnsRequires p.program T q f args fixed) (sym (table-is p stable x y)) h)

  pub cut-ensures :
      (f : PlainFunction) (args : List ℤ) (fixed : List NameValue) (r : ℤ) →
      OwnsEnsures p.program y.change.by.U q f args fixed r →
      Met p.program (table_of (kept p stable x y ++ news p stable x y)) (cut p stable x y q) f args
      fixed r
  cut-ensures f args fixed r h =
      ensures-met p.program (kept p stable x y ++ news p stable x y) f q (cut p stable x y q) args
      fixed r cut-has
      (subst (λ T. OwnsEnsures p.program T q f args fixed r) (sym (table-is p stable x y)) h)

-- ---- the callee's part and the caller's

module _ (p : Checked) (ls : Statements p) (stable : Stable p.program) (x : Turn p)
    (n : ℕ) (g : PlainFunction) (is_g : slice_get p.program.functions n ≡ Some g) (args : List ℤ)
    (arity : length args ≡ g.params)
    (K : Stock → Table → List NameValue → Type 0)
    (h : Hands p (part_stock x.held.part) (account_table x.a) g args K) where
  abbrev P : PlainProgram
  P = p.program

  abbrev y : Stride p x
  y = handing p x h.kept h.given h.over

  given-all : Inside p.program h.given (all p stable x y)
  given-all =
      inside-trans P h.given (both P h.kept h.given) (all p stable x y)
      (inside-second P h.kept h.given) (left-all p stable x y)

  kept-all : Inside p.program h.kept (all p stable x y)
  kept-all =
      inside-trans P h.kept (both P h.kept h.given) (all p stable x y)
      (inside-first P h.kept h.given) (left-all p stable x y)

  abbrev callee : Held
  callee = record { part = cut p stable x y h.given; fixed = h.fixed }

  abbrev caller : Held
  caller = record { part = cut p stable x y h.kept; fixed = x.held.fixed }

  pub callee-is : part_stock (cut p stable x y h.given) ≡ h.given
  callee-is = cut-is p stable x y h.given given-all

  pub caller-is : part_stock (cut p stable x y h.kept) ≡ h.kept
  caller-is = cut-is p stable x y h.kept kept-all

  pub begins :
      (destination : Option ℕ) →
      Stands p (part_stock callee.part) h.over.U h.fixed (new_frame n g args destination)
  begins destination =
      subst (λ q. Stands p q h.over.U h.fixed (new_frame n g args destination)) (sym callee-is)
      (ls.bodies n g is_g h.over.U h.given args h.fixed destination
      (cut-roomy p stable x y h.given given-all) arity h.fit h.meets)

  pub meets-now :
      MeetsRequires p.program (table_of (kept p stable x y ++ news p stable x y)) callee.part g args
      h.fixed
  meets-now = cut-requires p stable x y h.given given-all g args h.fixed h.meets

  pub both-left :
      parts_stock p.program (callee.part ∷ caller.part ∷ []) ≡ both p.program h.kept h.given
  both-left =
      ap (λ q. both P q (both P (part_stock caller.part) no_stock)) callee-is
      ∙ ap (λ q. both P h.given (both P q no_stock)) caller-is
      ∙ reordered P (h.given ∷ h.kept ∷ []) (plus (at 0) (plus (at 1) empty)) (plus (at 1) (at 0))
      refl

  -- ---- a call

  abbrev pub called :
      (destination : Option ℕ) (b : Block) →
      Waits p h.kept h.over.U x.held.fixed (with_rest x.frame b) destination n args h.fixed →
      Goes p x (calls (spot_of x) b n args destination (Some g))
  called destination b wait =
      let new = new_frame n g args destination in
      let fs = new ∷ with_rest x.frame b ∷ x.below in
      let hs = callee ∷ caller ∷ x.waiting in
      let w = frames_stock P x.waiting in (
        account p stable x y (slice_set x.a.threads x.thread hs),
        no_part,
        follows p stable x y (callee.part ∷ caller.part ∷ []) both-left Call
            (slice_set x.a.threads x.thread hs) no_part (callee, caller, refl, refl, refl)
            (nothing-fits p stable x y) (nothing-within x.c.heap) (λ e. refl)
            (no-access (SomeHasCell (before p stable x y)) None refl),
        (
          record {
            frame = new;
            is_frame =
                ap top_of (get-set-same x.c.threads x.thread fs
                (within x.c.threads x.thread (x.frame ∷ x.below) x.has_frames));
            held = callee;
            is_held =
                ap top_of (get-set-same x.a.threads x.thread hs
                (within x.a.threads x.thread (x.held ∷ x.waiting) x.has_parts));
            function = g;
            is_function = is_g;
          },
          meets-now,
        ),
        moved p stable x y fs hs (
          begins destination,
          (
            subst (λ q. Waits p q h.over.U x.held.fixed (with_rest x.frame b) destination n args
                h.fixed) (sym caller-is) wait,
            below-wait p stable x y,
          ),
        )
            (inside-is P (frames_stock P hs) (both P (both P h.kept h.given) w)
            (ap (λ q. both P q (both P (part_stock caller.part) w)) callee-is
            ∙ ap (λ q. both P h.given (both P q w)) caller-is
            ∙ reordered P (h.given ∷ h.kept ∷ w ∷ []) (plus (at 0) (plus (at 1) (at 2)))
            (plus (plus (at 1) (at 0)) (at 2)) refl)),
      )

  -- ---- a fork

  abbrev pub started :
      (b : Block) → Stands p h.kept h.over.U x.held.fixed (with_rest x.frame b) →
      Goes p x (forks (spot_of x) b n args (Some g))
  started b stands =
      let new = new_frame n g args None in
      let fs = with_rest x.frame b ∷ x.below in
      let hs = caller ∷ x.waiting in
      let ts = slice_set x.c.threads x.thread fs in
      let hss = slice_set x.a.threads x.thread hs in
      let w = frames_stock P x.waiting in (
        account p stable x y (hss ++ (callee ∷ []) ∷ []),
        no_part,
        follows p stable x y (callee.part ∷ caller.part ∷ []) both-left (Fork (length x.c.threads))
            (hss ++ (callee ∷ []) ∷ []) no_part (callee, caller, refl, refl, refl)
            (nothing-fits p stable x y) (nothing-within x.c.heap) (λ e. refl)
            (no-access (SomeHasCell (before p stable x y)) None refl),
        (
          record {
            frame = new;
            is_frame =
                subst (λ k. top_of (slice_get (ts ++ (new ∷ []) ∷ []) k) ≡ Some new)
                (set-length x.c.threads x.thread fs) (ap top_of (get-last ts (new ∷ [])));
            held = callee;
            is_held =
                subst (λ k. top_of (slice_get (hss ++ (callee ∷ []) ∷ []) k) ≡ Some callee)
                (set-length x.a.threads x.thread hs ∙ x.sound.count)
                (ap top_of (get-last hss (callee ∷ [])));
            function = g;
            is_function = is_g;
          },
          meets-now,
        ),
        forked p stable x y fs (new ∷ []) hs (callee ∷ []) (
          subst (λ q. Stands p q h.over.U x.held.fixed (with_rest x.frame b)) (sym caller-is)
              stands,
          below-wait p stable x y,
        )
            (begins None, tt)
            (inside-is P (both P (frames_stock P hs) (frames_stock P (callee ∷ [])))
            (both P (both P h.kept h.given) w)
            (ap (λ q. both P (both P q w) (both P (part_stock callee.part) no_stock)) caller-is
            ∙ ap (λ q. both P (both P h.kept w) (both P q no_stock)) callee-is
            ∙ reordered P (h.kept ∷ h.given ∷ w ∷ [])
            (plus (plus (at 0) (at 2)) (plus (at 1) empty)) (plus (plus (at 0) (at 1)) (at 2))
            refl)),
      )

-- ---- the statements

module _ (p : Checked) (ls : Statements p) (stable : Stable p.program) (x : Turn p) where
  abbrev Q : PlainProgram
  Q = p.program

  abbrev values : List Linear → List ℤ
  values args = map (value_in x.frame.store) args

  same-arity :
      (fn g : PlainFunction) (n : ℕ) (args : List Linear) →
      slice_get p.program.functions n ≡ Some g → CallFits p.program fn n args →
      length (values args) ≡ g.params
  same-arity fn g n args e fits =
      map-length (value_in x.frame.store) args
      ∙ subst (λ o. IsSomeAnd o (λ g. length args ≡ g.params)) e fits.arity

  pub act-call :
      (l : Label) (d : Option ℕ) (n : ℕ) (args : List Linear) (b : Block) →
      StandsAt p x (first l (call d n args) b) →
      Goes p x (does p.program (spot_of x) l (call d n args) b None)
  act-call l d n args b s =
      let part = part_stock x.held.part in
      let V = account_table x.a in
      let r = ls.calls part V s.fn x.held.fixed x.frame l b d n args (roomy Q (scene p x))
      (before-act p x l (call d n args) b s V (relies-same Q part.guards V)) in
      let fits = (point-act Q s.fn l (call d n args) b s.ok.point).1 in
      subst (λ o. Goes p x (calls (spot_of x) b n (values args) d o)) (sym r.1)
      (called p ls stable x n r.0 r.1 (values args) (same-arity s.fn r.0 n args r.1 fits)
      (λ kept U fixed. Waits p kept U x.held.fixed (with_rest x.frame b) d n (values args) fixed)
      r.2 d b r.2.goes_on)

  pub act-fork :
      (l : Label) (n : ℕ) (args : List Linear) (b : Block) →
      StandsAt p x (first l (fork n args) b) →
      Goes p x (does p.program (spot_of x) l (fork n args) b None)
  act-fork l n args b s =
      let part = part_stock x.held.part in
      let V = account_table x.a in
      let r = ls.forks part V s.fn x.held.fixed x.frame l b n args (roomy Q (scene p x))
      (before-act p x l (fork n args) b s V (relies-same Q part.guards V)) in
      let fits = point-act Q s.fn l (fork n args) b s.ok.point in
      subst (λ o. Goes p x (forks (spot_of x) b n (values args) o)) (sym r.1)
      (started p ls stable x n r.0 r.1 (values args) (same-arity s.fn r.0 n args r.1 fits)
      (λ kept U fixed. Stands p kept U x.held.fixed (with_rest x.frame b)) r.2 b r.2.goes_on)
