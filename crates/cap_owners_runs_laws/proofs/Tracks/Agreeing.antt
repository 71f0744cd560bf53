-- Values that agree where a state looks at them: numbers at variables of whole numbers, and shares at
-- all. A variable of a share may have a number, at which no term of sort Int looks.
use Rattle.std.proofs.Common.{◌≡◌, ℕ, ◌+◌, ◌<◌, pos, suc, ◌*ℤ◌, List, [], length, Some, arith, refl, sym, ap, ◌∙◌}
use Rattle.std.specs.Prelude.{slice_get}
use Rattle.std.specs.List.{AllByRecursion, AllZip}
use Rattle.cap_lin.specs.Values.{Valuation}
use Rattle.cap_lin.specs.declared.row.Sort.{Sort}
use Rattle.cap_lin.specs.declared.row.Sort.TheVariants.{Int, Perm}
use Rattle.cap_prog.specs.Program.{PlainFunction}
use Rattle.cap_prog.specs.Scopes.{Scope}
use Rattle.cap_goal_spec.specs.States.{PlainEnv, PlainState, Home}
use Rattle.cap_rules.specs.Making.{env_at}
use Rattle.cap_machine.specs.Machine.{Frame}
use Rattle.cap_machine_accounts.specs.Assertions.{NameValue, a_number, a_fraction, HasNameSort, ValuesFit, IsNamed}
use Rattle.cap_account_resources.proofs.Lists.{within, there-is}
use Rattle.cap_account_states.proofs.Alike.{agree-alike, values-alike}
use Rattle.cap_account_states.proofs.Meets.{Usable}
use Rattle.cap_account_states.proofs.Naming.{Placed, Means, Ready}
use Rattle.cap_account_states.proofs.Roots.{values-length, fits-at}
use Rattle.cap_account_states.proofs.Terms.{Over, Agree, value-agree, amount-agree}
use Rattle.cap_account_states.proofs.Values.{named-at, named-of}
use Rattle.cap_account_steps.proofs.Stores.{Store}
use Rattle.cap_owners_spec.specs.Traced.{valuation}
use Rattle.cap_owners_walks_laws.proofs.Values.More.{FitsSort}
use Rattle.cap_owners_walks_laws.proofs.Passes.Names.{whole-at}

-- a state without facts, pieces, cells and rows, in which no region is open
pub record IsBare (s : PlainState) : Type 0 where
  pub facts : s.facts ≡ []
  pub guards : s.guards ≡ []
  pub cells : s.cells ≡ []
  pub rows : s.rows ≡ []
  pub opened : s.opened ≡ []

-- the same numbers at variables of sort Int, and the same shares at all
pub record AgreeBy (os : List Sort) (v w : Valuation) : Type 0 where
  pub under : w.fraction.under ≡ v.fraction.under
  pub whole : (x : ℕ) → slice_get os x ≡ Some Int → w.whole x ≡ v.whole x
  pub share : (x : ℕ) → x < length os → w.fraction.numerator x ≡ v.fraction.numerator x

module _ (os : List Sort) (v w : Valuation) (g : AgreeBy os v w) where
  abbrev Whole : ℕ → Type 0
  Whole = Usable [] os Int

  abbrev Shared : ℕ → Type 0
  Shared = Usable [] os Perm

  pub agree-whole : Agree (Usable [] os Int) v w
  agree-whole = record {
    under = g.under;
    whole = λ x u. g.whole x u.0;
    share = λ x u. g.share x (within os x Int u.0);
  }

  -- the shares of one, with the numbers of the other
  agree-share :
      Agree (Usable [] os Perm) v (record { whole = v.whole; fraction = w.fraction })
  agree-share = record {
    under = g.under;
    whole = λ x u. refl;
    share = λ x u. g.share x (within os x u.0.0 u.0.1);
  }

  -- names have the same values
  pub means-by :
      (sc : Scope) (env : PlainEnv) (a : Valuation) → Placed [] sc os env → Means sc v env a →
      Means sc w env a
  means-by sc env a placed m = record {
    under = m.under ∙ sym g.under;
    whole = λ x i t e.
        value-agree Whole v w agree-whole t (placed.over x Int i t e) ∙ m.whole x i t e;
    share = λ x i t e.
        amount-agree Shared v (record { whole = v.whole; fraction = w.fraction }) agree-share t
        (placed.over x Perm i t e)
        ∙ m.share x i t e;
  }

-- what giving starts from, at a root
pub ready-by :
    (sc : Scope) (a v : Valuation) (vs : List NameValue) (s : PlainState) → IsBare s →
    AllZip FitsSort s.sorts vs → AgreeBy s.sorts v (valuation vs) → Ready sc 0 a v s →
    Ready sc 0 a (valuation vs) s
ready-by sc a v vs s bare sorted g r = record {
  meets = record {
    sorted = λ x e. whole-at s.sorts vs sorted x e;
    rows = rw bare.rows tt;
    rows_over = rw bare.rows tt;
    cells_over = rw bare.cells tt;
    positive = rw bare.cells tt;
    store_over = r.meets.store_over;
  };
  there = r.there;
  placed = r.placed;
  means = means-by s.sorts v (valuation vs) g sc (env_at s 0) a r.placed r.means;
}

-- the store and the fixed names are the frame's
pub store-by :
    (v w : Valuation) (s : PlainState) (h : Home) (fn : PlainFunction) (fixed : List NameValue)
    (f : Frame) → AllByRecursion (Over (Usable [] s.sorts Int)) s.store → AgreeBy s.sorts v w →
    ValuesFit fn.fixed fixed → Store v s h fn fixed f → Store w s h fn fixed f
store-by v w s h fn fixed f over g fit st = record {
  home = st.home;
  store =
      values-alike (Usable [] s.sorts Int) v w
      (agree-alike (Usable [] s.sorts Int) v w (agree-whole s.sorts v w g)) s.store over
      ∙ st.store;
  fixed_are = named-of w h.fixed fixed (λ i y e.
      let n = values-length fn.fixed fixed fit in
      let l = within fixed i y e in
      let o = there-is fn.fixed i (omega (arith, l, n)) in
      by i o.0 y (st.fixed_known i o.0 o.1) (fits-at fn.fixed fixed i o.0 y fit o.1 e)
      (named-at v h.fixed fixed i y st.fixed_are e));
  fixed_known = st.fixed_known;
}
  where
    by :
        (i : ℕ) (o : Sort) (y : NameValue) → slice_get s.sorts (h.fixed + i) ≡ Some o →
        HasNameSort o y → IsNamed v (h.fixed + i) y → IsNamed w (h.fixed + i) y
    by i Int (a_number z) known k e = g.whole (h.fixed + i) known ∙ e
    by i Perm (a_number z) known k e = absurd k
    by i Int (a_fraction n d) known k e = absurd k
    by i Perm (a_fraction n d) known k e =
        ap (λ m. m *ℤ pos (suc d)) (g.share (h.fixed + i) (within s.sorts (h.fixed + i) Perm known))
        ∙ e
        ∙ ap (λ m. n *ℤ pos (m + 1)) (sym g.under)
