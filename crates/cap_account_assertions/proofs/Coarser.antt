-- What holds at values holds at alike ones, also where their denominator is coarser. So what taking
-- leads to holds at all values that are alike before and of which the same is brought.
use Rattle.std.proofs.Common.{ℕ, ℤ, List, [], length, refl, inl, inr}
use Rattle.std.specs.List.{AllByRecursion}
use Rattle.cap_lin.specs.Values.{Valuation}
use Rattle.cap_prog.specs.Program.{PlainItem, Items, PlainProgram}
use Rattle.cap_prog.specs.Scopes.{Scope}
use Rattle.cap_goal_spec.specs.States.{PlainState, PlainTask, PlainGoal}
use Rattle.cap_account_resources.specs.Parts.{Table}
use Rattle.cap_account_resources.proofs.Stocks.{Stock}
use Rattle.cap_account_states.proofs.Meets.{usable-old, Old, same-state}
use Rattle.cap_account_states.proofs.Alike.{Alike, agree-alike, alike-same, alike-back, alike-trans, meets-alike}
use Rattle.cap_account_states.proofs.Brought.{Bring, Brings, Brought, brought-named, HasHalves, bring_values, bring-agrees, bring-brings, halves-or}
use Rattle.cap_account_states.proofs.Checked.{Checked}
use Rattle.cap_account_states.proofs.Backed.{Backed, Grounded}
use Rattle.cap_account_states.proofs.KnowsLater.{backed-at}
use Rattle.cap_account_assertions.proofs.Laws.{StateAt, Creation, KeepsCreated, Taken, TakenOnce}
use Rattle.cap_account_assertions.proofs.NewRegions.{created-on}
use Rattle.cap_account_assertions.proofs.Follows.{Follows}
use Rattle.cap_account_assertions.proofs.TakeSteps.{Job, Took, Head}
use Rattle.cap_account_assertions.proofs.TakeHeads.{ready-kept, ItemTaken, ItemsTurned}

-- ---- at alike values

module _ (p : PlainProgram) (ks : List ℕ) (T : Table) (sc : Scope) (e : ℕ) (v w : Valuation)
    (s : PlainState) (l : Alike (Old s) v w) where
  pub grounded-alike : Grounded p ks v s → Grounded p ks w s
  grounded-alike g = record {
    meets = meets-alike ks v w s l g.meets;
    pieces_over = g.pieces_over;
    pieces_fit = g.pieces_fit;
  }

  pub state-alike : StateAt p ks T sc e v s → StateAt p ks T sc e w s
  state-alike st =
      ready-kept sc e v w s s (same-state s) refl l p ks T st (grounded-alike st.grounded)

  pub backed-alike :
      (q : Stock) → StateAt p ks T sc e v s → Backed p v s q → Backed p w s q
  backed-alike q st b = backed-at p s ks (Old s) v w q (usable-old ks s.sorts) l st.grounded b

-- ---- at values of which the same is brought

-- alike before, and so after
pub then-alike :
    (s t : PlainState) (v w u : Valuation) (bs : List Bring) → Brought s t w bs →
    Alike (Old s) v w → Alike (Old s) v u → Brings u (length s.sorts) bs → Alike (Old t) w u
then-alike s t v w u bs h l m k =
    brought-named s t w u bs h
    (alike-trans (Old s) w v u (alike-back (Old s) v w l) m) k

abbrev pub follows-named :
    (sc : Scope) (e : ℕ) (v w u : Valuation) (s t : PlainState) → Follows sc e v s w t →
    Alike (Old s) v u → Follows sc e v s u t
follows-named sc e v w u s t f l = record {
  alike = l;
  goes_on = f.goes_on;
  loose = f.loose;
  stays = f.stays;
  outside = f.outside;
  size = f.size;
  others = f.others;
}

module _ (p : PlainProgram) (ks : List ℕ) (T : Table) (j : Job) (v : Valuation) (s : PlainState)
    (c : Stock) (bs : List Bring) (u : Valuation) (l : Alike (Old s) v u)
    (k : Brings u (length s.sorts) bs) where
  -- a rule's head
  abbrev pub head-named : Head p ks T j v s c bs → Head p ks T j v s c bs
  head-named h =
      let f = h.follows in
      let now = then-alike s h.after v h.w u bs h.brought f.alike l k in
      record {
        w = u;
        after = h.after;
        follows = follows-named j.scope j.env v h.w u s h.after f l;
        brought = record { count = h.brought.count; are = k };
        ready = state-alike p ks T j.scope j.env h.w u h.after now h.ready;
        left = h.left;
        backed = backed-alike p ks T j.scope j.env h.w u h.after now h.left h.ready h.backed;
        taken = h.taken;
        apart = h.apart;
      }

  -- an item that goes
  abbrev pub item-named :
      (P : List PlainGoal → Type 0) (i : PlainItem) (more : Items) →
      ItemTaken p ks T j v s c P bs i more → ItemTaken p ks T j v s c P bs i more
  item-named P i more r =
      let h = r.head in
      let now = then-alike s h.after v h.w u bs h.brought h.follows.alike l k in
      record {
        head = head-named h;
        claim = λ x m. r.claim x (alike-trans (Old h.after) h.w u x now m);
        goes = r.goes;
      }

-- other items are to be taken, at the values before
abbrev pub turned-named :
    (p : PlainProgram) (ks : List ℕ) (T : Table) (j : Job) (v : Valuation) (s : PlainState)
    (c : Stock) (P : List PlainGoal → Type 0) → ItemsTurned p ks T j v s c P →
    ItemsTurned p ks T j v s c P
turned-named p ks T j v s c P r =
    let h = r.head in
    let same = alike-same (Old s) v in
    let now = then-alike s h.after v h.w v [] h.brought h.follows.alike same tt in
    record {
      head = head-named p ks T j v s c [] v same tt h;
      rest = r.rest;
      fits = r.fits;
      turns = λ U g x m. r.turns U g x (alike-trans (Old h.after) h.w v x now m);
      goes = r.goes;
    }

-- regions that were created, at values that are alike
pub created-named :
    (p : PlainProgram) (U : Table) (P : ℕ → Type 0) (w u : Valuation) → Alike P w u →
    (cs : List Creation) → AllByRecursion (KeepsCreated p U P w) cs →
    AllByRecursion (KeepsCreated p U P u) cs
created-named p U P w u l =
    created-on p U U (λ n k zs z h. h) P P w u (λ x m. alike-trans P w u x l m)

-- all items that are taken, with regions numbered from a number on
abbrev pub took-named :
    (p : Checked) (ks : List ℕ) (T : Table) (next : ℤ) (j : Job) (v : Valuation) (s : PlainState)
    (c : Stock) (most_trees : ℕ) (t : Took p ks T next j v s c most_trees) (u : Valuation) →
    Alike (Old s) v u → Brings u (length s.sorts) t.brings → Took p ks T next j v s c most_trees
took-named p ks T next j v s c most_trees t u l k =
    let f = t.follows in
    let now = then-alike s t.after v t.w u t.brings t.brought f.alike l k in
    record {
      w = u;
      after = t.after;
      follows = follows-named j.scope j.env v t.w u s t.after f l;
      brings = t.brings;
      brought = record { count = t.brought.count; are = k };
      children = t.children;
      goes = t.goes;
      no_larger = t.no_larger;
      U = t.U;
      new = t.new;
      later = t.later;
      made = t.made;
      none_made = t.none_made;
      created = t.created;
      are_created = t.are_created;
      keeps = created-named p.program t.U (Old t.after) t.w u now t.created t.keeps;
      ready = state-alike p.program ks t.U j.scope j.env t.w u t.after now t.ready;
      left = t.left;
      backed =
          backed-alike p.program ks t.U j.scope j.env t.w u t.after now t.left t.ready t.backed;
      given = t.given;
      budget = t.budget;
      draws = λ x m. t.draws x (alike-trans (Old t.after) t.w u x now m);
    }

-- all that is taken
abbrev pub taken-named :
    (p : Checked) (ks : List ℕ) (T : Table) (sc : Scope) (e most : ℕ) (v : Valuation)
    (held : Stock) (s : PlainState) (items : Items) (ts : List PlainTask)
    (t : Taken p ks T sc e most v held s items ts) (u : Valuation) → Alike (Old s) v u →
    Brings u (length s.sorts) t.brings → Taken p ks T sc e most v held s items ts
taken-named p ks T sc e most v held s items ts t u l k =
    let now = then-alike s t.after v t.w u t.brings t.brought t.alike l k in
    record {
      w = u;
      alike = l;
      after = t.after;
      brings = t.brings;
      brought = record { count = t.brought.count; are = k };
      children = t.children;
      goes = t.goes;
      U = t.U;
      new = t.new;
      made = t.made;
      none_made = t.none_made;
      created = t.created;
      are_created = t.are_created;
      keeps = created-named p.program t.U (Old t.after) t.w u now t.created t.keeps;
      ready = state-alike p.program ks t.U sc e t.w u t.after now t.ready;
      loose = t.loose;
      goes_on = t.goes_on;
      stays = t.stays;
      outside = t.outside;
      size = t.size;
      others = t.others;
      given = t.given;
      left = t.left;
      backed = backed-alike p.program ks t.U sc e t.w u t.after now t.left t.ready t.backed;
      budget = t.budget;
      draws = λ x m. t.draws x (alike-trans (Old t.after) t.w u x now m);
    }

-- ---- over the denominator before, where each share that is halved has a half there

module _ (s : PlainState) (v : Valuation) (bs : List Bring)
    (k : HasHalves v (length s.sorts) bs) where
  abbrev pub values_here : Valuation
  values_here = bring_values v (length s.sorts) bs k

  pub here-alike : Alike (Old s) v values_here
  here-alike =
      agree-alike (Old s) v values_here (bring-agrees v (length s.sorts) bs k)

  pub here-brings :
      (w : Valuation) → Brings w (length s.sorts) bs → Brings values_here (length s.sorts) bs
  here-brings w h = bring-brings w v (length s.sorts) bs h k

abbrev pub item-here :
    (p : PlainProgram) (ks : List ℕ) (T : Table) (j : Job) (v : Valuation) (s : PlainState)
    (c : Stock) (bs : List Bring) (k : HasHalves v (length s.sorts) bs)
    (P : List PlainGoal → Type 0) (i : PlainItem) (more : Items) →
    ItemTaken p ks T j v s c P bs i more → ItemTaken p ks T j v s c P bs i more
item-here p ks T j v s c bs k P i more r =
    item-named p ks T j v s c bs (values_here s v bs k) (here-alike s v bs k)
    (here-brings s v bs k r.head.w r.head.brought.are) P i more r

abbrev pub took-here :
    (p : Checked) (ks : List ℕ) (T : Table) (next : ℤ) (j : Job) (v : Valuation) (s : PlainState)
    (c : Stock) (most_trees : ℕ) (t : Took p ks T next j v s c most_trees) →
    HasHalves v (length s.sorts) t.brings → Took p ks T next j v s c most_trees
took-here p ks T next j v s c most_trees t k =
    took-named p ks T next j v s c most_trees t (values_here s v t.brings k)
    (here-alike s v t.brings k) (here-brings s v t.brings k t.w t.brought.are)

abbrev pub taken-here :
    (p : Checked) (ks : List ℕ) (T : Table) (sc : Scope) (e most : ℕ) (v : Valuation)
    (held : Stock) (s : PlainState) (items : Items) (ts : List PlainTask)
    (t : Taken p ks T sc e most v held s items ts) → HasHalves v (length s.sorts) t.brings →
    Taken p ks T sc e most v held s items ts
taken-here p ks T sc e most v held s items ts t k =
    taken-named p ks T sc e most v held s items ts t (values_here s v t.brings k)
    (here-alike s v t.brings k) (here-brings s v t.brings k t.w t.brought.are)

-- what is taken is taken over one denominator, as long as there are halves
abbrev pub taken-once :
    (p : Checked) (ks : List ℕ) (T : Table) (sc : Scope) (e most : ℕ) (v : Valuation)
    (held : Stock) (s : PlainState) (items : Items) (ts : List PlainTask) →
    Taken p ks T sc e most v held s items ts → TakenOnce p ks T sc e most v held s items ts
taken-once p ks T sc e most v held s items ts t = elim (halves-or v (length s.sorts) t.brings) [
  | inl k ↦ record {
    taken = taken-here p ks T sc e most v held s items ts t k;
    once = λ h. bring-agrees v (length s.sorts) t.brings k;
  }
  | inr none ↦ record { taken = t; once = λ h. absurd (none h) }
]
