-- Runs of which each step keeps the invariant.
use Rattle.std.proofs.Common.{◌≡◌, ℕ, List, [], ◌∷◌, arith, refl, sym, ◌∙◌, Option, Some, None}
use Rattle.std.specs.Prelude.{slice_get}
use Rattle.cap_prog.specs.Program.{PlainProgram}
use Rattle.cap_machine.specs.declared.event.Entry.{Entry}
use Rattle.cap_machine.specs.Machine.{Thread, Configuration, Outcome, next, fault, disabled, thread_step, step, start}
use Rattle.cap_machine_accounts.specs.Accounts.{Held, Account, IsValidAccount}
use Rattle.cap_machine_accounts.specs.Safety.{IsTracked, first_account, Safe}
use Rattle.cap_account_resources.proofs.Lists.{none-some, within, there-is}
use Rattle.cap_account_states.proofs.Checked.{Checked}
use Rattle.cap_account_steps.proofs.Frames.{sits-now}
use Rattle.cap_account.proofs.Stocked.{part_stock, account_table, Sound, AccountProperty, Followed, Advances, WhereSound, ValidLaw, StartLaw, AllSit}

-- ---- what holds all along a run

abbrev pub Along : PlainProgram → AccountProperty → List Entry → AccountProperty
Along p X [] c a = X c a
Along p X (e ∷ es) c a =
    X c a × Followed p e.thread c a (λ d b. Along p X es d b) (step p c e)

pub followed-more :
    (p : PlainProgram) (i : ℕ) (c : Configuration) (a : Account) (K L : AccountProperty) →
    ((d : Configuration) (b : Account) → K d b → L d b) → (o : Outcome) →
    Followed p i c a K o → Followed p i c a L o
followed-more p i c a K L f (next d event) h = (h.0, h.1, h.2, h.3, f d h.0 h.4)
followed-more p i c a K L f (fault event) h = h
followed-more p i c a K L f disabled h = tt

-- a run along which accounts are valid is tracked
along-tracked :
    (p : PlainProgram) (es : List Entry) (c : Configuration) (a : Account) →
    Along p (IsValidAccount p) es c a → IsTracked p es c a
along-tracked p [] c a h = h
along-tracked p (e ∷ es) c a h = (
  h.0,
  followed-more p e.thread c a (λ d b. Along p (IsValidAccount p) es d b)
      (λ d b. IsTracked p es d b) (λ d b k. along-tracked p es d b k) (step p c e) h.1,
)

-- ---- runs from sound configurations

-- the top frame of each sound configuration sits
pub sound-sits : (p : Checked) → WhereSound p (AllSit p)
sound-sits p c a s i f fs h hs x y =
    let top = (s.stacks i (f ∷ fs) (h ∷ hs) x y).0 in
    (top.fn, sits-now p (part_stock h.part) (account_table a) h.fixed f top)

module _ (p : Checked) (advances : Advances p) where
  entry-leads :
      (c : Configuration) (a : Account) (e : Entry) → Sound p c a → (t : Option Thread) →
      slice_get c.threads e.thread ≡ t → (hs : Option (List Held)) →
      slice_get a.threads e.thread ≡ hs →
      Followed p.program e.thread c a (Sound p) (thread_step p.program c e t)
  entry-leads c a e s None x hs y = tt
  entry-leads c a e s (Some []) x hs y = tt
  entry-leads c a e s (Some (f ∷ fs)) x None y =
      let m = within c.threads e.thread (f ∷ fs) x in
      let n = s.count in
      let k = there-is a.threads e.thread (omega (arith, m, n)) in
      absurd (none-some (sym y ∙ k.1))
  entry-leads c a e s (Some (f ∷ fs)) x (Some []) y = absurd (s.stacks e.thread (f ∷ fs) [] x y)
  entry-leads c a e s (Some (f ∷ fs)) x (Some (h ∷ hs)) y =
      advances (record {
        c = c;
        a = a;
        sound = s;
        thread = e.thread;
        frame = f;
        below = fs;
        held = h;
        waiting = hs;
        has_frames = x;
        has_parts = y;
      }) e.base

  -- what sound configurations have is there all along the run
  pub along :
      (X : AccountProperty) → WhereSound p X → (es : List Entry) (c : Configuration)
      (a : Account) → Sound p c a → Along p.program X es c a
  along X f [] c a s = f c a s
  along X f (e ∷ es) c a s = (
    f c a s,
    followed-more p.program e.thread c a (Sound p) (λ d b. Along p.program X es d b)
        (λ d b k. along X f es d b k) (step p.program c e)
        (entry-leads c a e s (slice_get c.threads e.thread) refl (slice_get a.threads e.thread)
        refl),
  )

  -- what printed states need
  pub seen :
      ValidLaw p → (es : List Entry) (c : Configuration) (a : Account) → Sound p c a →
      Along p.program (λ d b. IsValidAccount p.program d b × AllSit p d b) es c a
  seen valid es c a s =
      along (λ d b. IsValidAccount p.program d b × AllSit p d b)
      (λ d b k. (valid d b k, sound-sits p d b k)) es c a s

  pub safe : ValidLaw p → StartLaw p → Safe p.program
  safe valid begins main args heap fixed es s =
      let c = start p.program args heap in
      let a = first_account heap fixed in
      along-tracked p.program es c a
      (along (IsValidAccount p.program) valid es c a (begins heap main fixed args s))
