-- Taking an assertion where no region may be created: what is held has it.
use Rattle.std.proofs.Common.{◌≡◌, ℕ, ◌<◌, ℤ, pos, List, [], ◌∷◌, length, arith, refl, sym, ◌∙◌, subst}
use Rattle.std.specs.List.{AllByRecursion}
use Rattle.cap_lin.specs.Values.{Valuation}
use Rattle.cap_prog.specs.Program.{Items, PlainProgram}
use Rattle.cap_prog.specs.Scopes.{Scope}
use Rattle.cap_prog.specs.WellFormed.{RegionFits}
use Rattle.cap_goal_spec.specs.States.{PlainState, PlainTask, to_take}
use Rattle.cap_goal_spec.specs.Choices.{PlainTrees}
use Rattle.cap_rules.specs.Making.{env_at}
use Rattle.cap_account_resources.specs.Parts.{Table}
use Rattle.cap_account_resources.proofs.Lists.{Among}
use Rattle.cap_account_resources.proofs.Monoid.{atom, both as plus}
use Rattle.cap_account_resources.proofs.Room.{room, room-some}
use Rattle.cap_account_resources.proofs.Stocks.{Stock, no_stock, both, Inside, none-right, some-inside, inside-is, inside-trans, inside-same}
use Rattle.cap_account_resources.proofs.Tables.{Extends, extends-states, FitsRoom}
use Rattle.cap_account_resources.proofs.Owners.{Owner, owned, guards_of_all, numbers_of}
use Rattle.cap_account_states.specs.Nodes.{Open}
use Rattle.cap_account_states.proofs.Alike.{Alike, alike-trans}
use Rattle.cap_account_states.proofs.Brought.{Bring, Brings, Brought}
use Rattle.cap_account_states.proofs.Meets.{Old}
use Rattle.cap_account_states.proofs.Checked.{Checked}
use Rattle.cap_account_states.proofs.Naming.{Means}
use Rattle.cap_account_states.proofs.Items.{AreFit}
use Rattle.cap_account_states.proofs.Backed.{Backed}
use Rattle.cap_account_assertions.proofs.Asserted.{Owns, draws-all-kept, draws-all-more}
use Rattle.cap_account_assertions.proofs.Laws.{StateAt}
use Rattle.cap_account_assertions.proofs.Coarser.{then-alike, follows-named, state-alike}
use Rattle.cap_account_assertions.proofs.TreeSizes.{trees_size}
use Rattle.cap_account_assertions.proofs.Follows.{Follows}
use Rattle.cap_account_assertions.proofs.TakeSteps.{Job, TakeStart, Took}
use Rattle.cap_account_assertions.proofs.MadeRegions.{known-extends}
use Rattle.cap_account_assertions.proofs.CaseStarts.{known-at, state-at}
use Rattle.cap_account_assertions.proofs.TakeAll.{ConvertLaw, took}
use Rattle.cap_account_assertions.proofs.TakenLaws.{job_of}
use Rattle.cap_account_assertions.proofs.TakeConvert.{convert-law}

-- new variables have the values that are brought. What is held has the items, by the same table, at all
-- values alike to those in the end
pub record Still (p : Checked) (ks : List ℕ) (T : Table) (sc : Scope) (e : ℕ) (v : Valuation)
    (held : Stock) (s : PlainState) (items : Items) (ts : List PlainTask) : Type 0 where
  pub w : Valuation
  pub after : PlainState
  pub children : PlainTrees
  pub goes : Open p.N children after ts
  pub follows : Follows sc e v s w after
  pub brings : List Bring
  pub brought : Brought s after w brings
  pub ready : StateAt p.program ks T sc e w after
  pub met :
      (x : Valuation) → Alike (Old after) w x → (a : Valuation) → Means sc x (env_at after e) a →
      Owns p.program T held a items

abbrev pub StillLaw : Checked → Type 0
StillLaw p =
    (ks : List ℕ) (T : Table) (sc : Scope) (e n : ℕ) (items : Items) (ts : List PlainTask)
    (trees : PlainTrees) (v : Valuation) (s : PlainState) (held : Stock) →
    Open p.N trees s (to_take items e 0 n ∷ ts) → StateAt p.program ks T sc e v s →
    AllByRecursion (λ k. k < length s.sorts) ks → AreFit p.program sc items →
    Backed p.program v s held → FitsRoom p.program T held → Still p ks T sc e v held s items ts

-- without new regions the table is the same, and what was given was held
pub same-table :
    (T U : Table) (new : List Owner) → new ≡ [] →
    ((n : ℤ) → (Among n (numbers_of new) → ⊥) → U n ≡ T n) → Extends U T
same-table T U new none f n e h =
    sym (f n (λ m. subst (λ rs. Among n (numbers_of rs)) none m)) ∙ h

pub given-held :
    (p : PlainProgram) (left given held : Stock) (new : List Owner) → new ≡ [] →
    Inside p (both p (both p left given) (owned p new)) (both p held (guards_of_all p new)) →
    Inside p given held
given-held p left given held new none h =
    let k = subst (λ rs. Inside p (both p (both p left given) (owned p rs))
    (both p held (guards_of_all p rs))) none h in
    inside-trans p given (both p (both p left given) no_stock) held
    (some-inside p (left ∷ given ∷ no_stock ∷ []) (atom 1)
    (plus (plus (atom 0) (atom 1)) (atom 2)) (0 ∷ 2 ∷ []) refl)
    (subst (Inside p (both p (both p left given) no_stock)) (none-right p held) k)

-- what was taken is held
abbrev pub still-of :
    (p : Checked) (ks : List ℕ) (T : Table) (sc : Scope) (e n : ℕ) (items : Items)
    (ts : List PlainTask) (v : Valuation) (s : PlainState) (held : Stock) (next : ℤ) (size : ℕ) →
    Took p ks T next (job_of sc e 0 n items ts) v s held size →
    Still p ks T sc e v held s items ts
still-of p ks T sc e n items ts v s held next size t =
    let pp = p.program in
    let none = t.none_made refl in
    let back = same-table T t.U t.new none t.made.others in
    let known = known-extends pp ks t.U T t.w t.after t.left back
    (known-at pp ks t.U sc e t.w t.after t.left t.ready t.backed) in
    record {
      w = t.w;
      after = t.after;
      children = t.children;
      goes = t.goes;
      follows = t.follows;
      brings = t.brings;
      brought = t.brought;
      ready = state-at pp ks T sc e t.w t.after t.left known t.ready.there t.ready.placed;
      met = λ x l a m. (
        no_stock,
        draws-all-more pp T a items (both pp t.given no_stock) held no_stock no_stock
            (inside-trans pp (both pp t.given no_stock) t.given held
            (inside-is pp (both pp t.given no_stock) t.given (none-right pp t.given))
            (given-held pp t.left t.given held t.new none t.budget)) (inside-same pp no_stock)
            (draws-all-kept pp t.U T (extends-states t.U T back) a items
            (both pp t.given no_stock) no_stock
            (t.draws x l a m no_stock)),
      );
    }

-- where none may be created, it doesn't matter from which number on there is no region
abbrev pub start-as-it-is :
    (p : PlainProgram) (ks : List ℕ) (T : Table) (next : ℤ) (j : Job) → j.most ≡ 0 →
    (v : Valuation) (s : PlainState) (held : Stock) → StateAt p ks T j.scope j.env v s →
    AllByRecursion (λ k. k < length s.sorts) ks → AreFit p j.scope j.items → Backed p v s held →
    FitsRoom p T held → TakeStart p ks T next (room p T) j v s held
start-as-it-is p ks T next j none v s held at low fits backed inside = record {
  ready = at;
  backed = backed;
  low = low;
  fits = fits;
  absent = λ h m l. absurd (omega (arith, h, none));
  unheld = λ h m l. absurd (omega (arith, h, none));
  within = inside;
  composes = room-some p T;
}

pub still-law :
    (p : Checked) → AllByRecursion (RegionFits p.program) p.program.regions →
    ((ks : List ℕ) → ConvertLaw p ks) → StillLaw p
still-law p regions convert ks T sc e n items ts trees v s held goes at low fits backed inside =
    let j = job_of sc e 0 n items ts in
    still-of p ks T sc e n items ts v s held (pos 1) (trees_size trees)
    (took p regions ks (convert ks) (trees_size trees) T (pos 1) (room p.program T) j trees v s held
    (omega arith) goes
    (start-as-it-is p.program ks T (pos 1) j refl v s held at low fits backed inside))

pub still-always :
    (p : Checked) → AllByRecursion (RegionFits p.program) p.program.regions → StillLaw p
still-always p regions = still-law p regions (convert-law p)

-- ---- at values of which the same is brought

abbrev pub still-named :
    (p : Checked) (ks : List ℕ) (T : Table) (sc : Scope) (e : ℕ) (v : Valuation) (held : Stock)
    (s : PlainState) (items : Items) (ts : List PlainTask) (t : Still p ks T sc e v held s items ts)
    (u : Valuation) → Alike (Old s) v u → Brings u (length s.sorts) t.brings →
    Still p ks T sc e v held s items ts
still-named p ks T sc e v held s items ts t u l k =
    let f = t.follows in
    let now = then-alike s t.after v t.w u t.brings t.brought f.alike l k in
    record {
      w = u;
      after = t.after;
      children = t.children;
      goes = t.goes;
      follows = follows-named sc e v t.w u s t.after f l;
      brings = t.brings;
      brought = record { count = t.brought.count; are = k };
      ready = state-alike p.program ks T sc e t.w u t.after now t.ready;
      met = λ x m. t.met x (alike-trans (Old t.after) t.w u x now m);
    }
