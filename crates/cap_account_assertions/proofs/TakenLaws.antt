-- Taking an assertion by a table whose numbers are listed.
use Rattle.std.proofs.Common.{◌≡◌, ℕ, ◌<◌, ℤ, pos, ◌+ℤ◌, ◌≤ℤ◌, ◌<ℤ◌, List, [], ◌∷◌, length, arith, refl, ap, subst, inl, inr, Option, Some, None}
use Rattle.std.specs.List.{AllByRecursion}
use Rattle.std.proofs.lemmas.Int.{ints}
use Rattle.cap_lin.specs.Values.{Valuation}
use Rattle.cap_prog.specs.Program.{Items, PlainProgram}
use Rattle.cap_prog.specs.Scopes.{Scope}
use Rattle.cap_prog.specs.WellFormed.{RegionFits}
use Rattle.cap_goal_spec.specs.States.{PlainState, PlainTask, to_take}
use Rattle.cap_goal_spec.specs.Choices.{PlainTrees}
use Rattle.cap_account_resources.specs.Parts.{Known, Table}
use Rattle.cap_account_resources.proofs.Lists.{Among}
use Rattle.cap_account_resources.proofs.Room.{room_of, room, room-some}
use Rattle.cap_account_resources.proofs.Stocks.{Stock, both, Inside}
use Rattle.cap_account_resources.proofs.Tables.{FitsRoom}
use Rattle.cap_account_resources.proofs.Owners.{Owner, owned, numbers_of, Numbered, numbered-between, numbered-differ}
use Rattle.cap_account_states.specs.Nodes.{Open}
use Rattle.cap_account_states.proofs.Checked.{Checked}
use Rattle.cap_account_states.proofs.Items.{AreFit}
use Rattle.cap_account_states.proofs.Backed.{Backed}
use Rattle.cap_account_assertions.proofs.TreeSizes.{trees_size}
use Rattle.cap_account_assertions.proofs.NewRegions.{below-or, made-guards}
use Rattle.cap_account_assertions.proofs.TakeSteps.{Job, MadeFrom, TakeStart, Took}
use Rattle.cap_account_assertions.proofs.TakeAll.{ConvertLaw, took}
use Rattle.cap_account_assertions.proofs.Laws.{StateAt, Made, Taken, TakenLaw, TakenOnce, TakenOnceLaw}
use Rattle.cap_account_assertions.proofs.Coarser.{taken-here, taken-once}
use Rattle.cap_account_states.proofs.Brought.{halves-or, bring-agrees}

-- ---- numbers above all

pub above-listed : (ns : List ℤ) → (m : ℤ) × ((n : ℤ) → Among n ns → n <ℤ m)
above-listed [] = (pos 1, λ n h. absurd h)
above-listed (x ∷ ns) =
    let rest = above-listed ns in
    let m = rest.0 in
    elim (below-or x m) [
      | inl l ↦ (m, λ n h. elim h [ inl e ↦ omega (arith, ints, e, l) | inr k ↦ rest.1 n k ])
      | inr l ↦ (
        x +ℤ pos 1,
        λ n h. elim h [
          | inl e ↦ omega (arith, ints, e)
          | inr k ↦ (let low = rest.1 n k in omega (arith, ints, low, l))
        ],
      )
    ]

each-number :
    (P : ℤ → Type 0) (rs : List Owner) → ((n : ℤ) → Among n (numbers_of rs) → P n) →
    AllByRecursion (λ r. P r.number) rs
each-number P [] f = tt
each-number P (r ∷ rs) f = (f r.number (inl refl), each-number P rs (λ n h. f n (inr h)))

-- the table has no region from a number on: regions that are numbered from there are made
abbrev pub FreeFrom : Table → ℤ → Type 0
FreeFrom T next = (n : ℤ) → next ≤ℤ n → T n ≡ None

pub numbered-made :
    (p : Checked) (T U : Table) (next later : ℤ) (new : List Owner) → FreeFrom T next →
    MadeFrom p.program T next U new later → Made p.program T U new
numbered-made p T U next later new free m = record {
  absent =
      each-number (λ n. T n ≡ None) new
      (λ n h. free n (numbered-between next later new m.numbered n h).0);
  differ = numbered-differ next later new m.numbered;
  others = m.others;
  owners = m.owners;
}

-- ---- the law

-- what is taken, with regions numbered from a number on
pub record TakenFrom (p : Checked) (ks : List ℕ) (T : Table) (sc : Scope) (e most : ℕ)
    (v : Valuation) (held : Stock) (s : PlainState) (items : Items) (ts : List PlainTask)
    (next : ℤ) : Type 0 where
  pub taken : Taken p ks T sc e most v held s items ts
  pub later : ℤ
  pub numbered : Numbered next taken.new later

-- what is to be taken, as a job
abbrev pub job_of : Scope → ℕ → ℕ → ℕ → Items → List PlainTask → Job
job_of sc e most n items ts = record {
  scope = sc;
  env = e;
  most = most;
  statement = n;
  items = items;
  tasks = ts;
}

-- with all that items were taken out of within the room of the table
abbrev pub start-in-room :
    (p : PlainProgram) (ks : List ℕ) (T : Table) (next : ℤ) (j : Job) (v : Valuation)
    (s : PlainState) (held : Stock) → StateAt p ks T j.scope j.env v s →
    AllByRecursion (λ k. k < length s.sorts) ks → AreFit p j.scope j.items → Backed p v s held →
    FitsRoom p T held → FreeFrom T next → TakeStart p ks T next (room p T) j v s held
start-in-room p ks T next j v s held at low fits backed inside free = record {
  ready = at;
  backed = backed;
  low = low;
  fits = fits;
  absent = λ h. free;
  unheld = λ h m l. ap (room_of p) (free m l);
  within = inside;
  composes = room-some p T;
}

-- what was taken
abbrev pub taken-of :
    (p : Checked) (ks : List ℕ) (T : Table) (sc : Scope) (e most n : ℕ) (items : Items)
    (ts : List PlainTask) (v : Valuation) (s : PlainState) (held : Stock) (next : ℤ) (size : ℕ) →
    FreeFrom T next → Took p ks T next (job_of sc e most n items ts) v s held size →
    TakenFrom p ks T sc e most v held s items ts next
taken-of p ks T sc e most n items ts v s held next size free t =
    let pp = p.program in
    let made = numbered-made p T t.U next t.later t.new free t.made in
    record {
      taken = record {
        w = t.w;
        alike = t.follows.alike;
        after = t.after;
        brings = t.brings;
        brought = t.brought;
        children = t.children;
        goes = t.goes;
        U = t.U;
        new = t.new;
        made = made;
        none_made = t.none_made;
        created = t.created;
        are_created = t.are_created;
        keeps = t.keeps;
        ready = t.ready;
        loose = t.follows.loose;
        goes_on = t.follows.goes_on;
        stays = t.follows.stays;
        outside = t.follows.outside;
        size = t.follows.size;
        others = t.follows.others;
        given = t.given;
        left = t.left;
        backed = t.backed;
        budget =
            subst (λ g. Inside pp (both pp (both pp t.left t.given) (owned pp t.new))
            (both pp held g)) (made-guards pp T t.U t.new made) t.budget;
        draws = t.draws;
      };
      later = t.later;
      numbered = t.made.numbered;
    }

pub taken-from :
    (p : Checked) → AllByRecursion (RegionFits p.program) p.program.regions → (ks : List ℕ) →
    ConvertLaw p ks → (T : Table) (sc : Scope) (e most n : ℕ) (items : Items)
    (ts : List PlainTask) (trees : PlainTrees) (v : Valuation) (s : PlainState) (held : Stock)
    (next : ℤ) → Open p.N trees s (to_take items e most n ∷ ts) → StateAt p.program ks T sc e v s →
    AllByRecursion (λ k. k < length s.sorts) ks → AreFit p.program sc items →
    Backed p.program v s held → FitsRoom p.program T held → FreeFrom T next →
    TakenFrom p ks T sc e most v held s items ts next
taken-from p regions ks convert T sc e most n items ts trees v s held next goes at low fits backed
    inside free =
    let j = job_of sc e most n items ts in
    taken-of p ks T sc e most n items ts v s held next (trees_size trees) free
    (took p regions ks convert (trees_size trees) T next (room p.program T) j trees v s held
    (omega arith) goes
    (start-in-room p.program ks T next j v s held at low fits backed inside free))

pub taken-law :
    (p : Checked) → AllByRecursion (RegionFits p.program) p.program.regions →
    ((ks : List ℕ) → ConvertLaw p ks) → TakenLaw p
taken-law p regions convert ks T sc e most n items ts trees v s held bound goes at low fits backed
    inside listed =
    let top = above-listed bound in
    (taken-from p regions ks (convert ks) T sc e most n items ts trees v s held top.0 goes at low
    fits backed inside (λ m l. none m l (T m) refl)).taken
  where
    none :
        (m : ℤ) → (above-listed bound).0 ≤ℤ m → (o : Option Known) → T m ≡ o → T m ≡ None
    none m l None q = q
    none m l (Some k) q =
        absurd (let h = (above-listed bound).1 m (listed m k q) in omega (arith, ints, h, l))

-- ---- over one denominator, as long as there are halves

pub once-law : (p : Checked) → TakenLaw p → TakenOnceLaw p
once-law p law ks T sc e most n items ts trees v s held bound goes at low fits backed inside listed =
    taken-once p ks T sc e most v held s items ts
    (law ks T sc e most n items ts trees v s held bound goes at low fits backed inside listed)

-- with regions numbered from a number on
pub record OnceFrom (p : Checked) (ks : List ℕ) (T : Table) (sc : Scope) (e most : ℕ)
    (v : Valuation) (held : Stock) (s : PlainState) (items : Items) (ts : List PlainTask)
    (next : ℤ) : Type 0 where
  pub once : TakenOnce p ks T sc e most v held s items ts
  pub later : ℤ
  pub numbered : Numbered next once.taken.new later

pub once-from :
    (p : Checked) (ks : List ℕ) (T : Table) (sc : Scope) (e most : ℕ) (v : Valuation)
    (held : Stock) (s : PlainState) (items : Items) (ts : List PlainTask) (next : ℤ) →
    TakenFrom p ks T sc e most v held s items ts next →
    OnceFrom p ks T sc e most v held s items ts next
once-from p ks T sc e most v held s items ts next f =
    let t = f.taken in
    elim (halves-or v (length s.sorts) t.brings) [
      | inl k ↦ record {
        once = record {
          taken = taken-here p ks T sc e most v held s items ts t k;
          once = λ h. bring-agrees v (length s.sorts) t.brings k;
        };
        later = f.later;
        numbered = f.numbered;
      }
      | inr none ↦ record {
        once = record { taken = t; once = λ h. absurd (none h) };
        later = f.later;
        numbered = f.numbered;
      }
    ]
