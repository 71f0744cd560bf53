-- Turns one behind the other, and schedules one behind the other.
use Rattle.std.proofs.Common.{◌≡◌, ◌∙◌, ap, sym, refl, subst, ℕ, suc, ◌+◌, ◌-◌, ◌<◌, ◌≤◌}
use Rattle.std.proofs.Common.{false, List, [], length, arith}
use Rattle.std.specs.Prelude.{Option, Some, None, option_map}
use Rattle.std.specs.Global.{Vec}
use Rattle.rand_pcg.specs.Lcg.{Lcg}
use Rattle.cap_prog.specs.Program.{PlainProgram}
use Rattle.cap_machine.specs.declared.event.Entry.{Entry}
use Rattle.cap_machine.specs.declared.machine.Machine.{Machine}
use Rattle.cap_machine.specs.Machine.{Configuration}
use Rattle.cap_machine.specs.View.{configuration, is_stopped, RunsProgram}
use Rattle.cap_gen_schedules.specs.Drawn.{alive, Drawn, faulted, ended, turn, draw, most_entries}
use Rattle.cap_gen_schedules.specs.Drawn.{draw_one, or_later, first_fault}
use Rattle.cap_gen_schedules.specs.declared.drawing.Turn.{Turn}
use Rattle.cap_gen_schedules.specs.declared.drawing.Turn.TheVariants.{GoesOn, Faults, Ends}
use Rattle.cap_gen_schedules.specs.Finding.{drawn_by, Continues, drawn_view}

-- ---- turns

-- after so many turns, what is drawn from here is all that is drawn
pub record Draws (p : PlainProgram) (all : Drawn) (m : Machine) (g : Lcg) (es : List Entry)
    (i : ℕ) : Type 0 where
  pub fits : RunsProgram p m
  pub runs : is_stopped m ≡ false
  pub threads : length (configuration p m).threads ≤ suc i
  pub rest : draw p (1000 - i) g (configuration p m) es ≡ all

-- what one turn gives
abbrev pub Turns :
    PlainProgram → Machine → Machine → Lcg → Lcg → List Entry → List Entry → Turn → Type 0
Turns p m n g h es fs t =
    (more : Configuration → List Entry → Lcg → Drawn) →
    turn p g (configuration p m) es more (alive (configuration p m))
    ≡ drawn_by t more (configuration p n) fs h

draw-next : (p : PlainProgram) (n : ℕ) (g : Lcg) (c : Configuration) (es : List Entry) →
    draw p (suc n) g c es ≡ turn p g c es (λ d fs h. draw p n h d fs) (alive c)
unfolding draw
draw-next p n g c es = refl

pub draws-first :
    (p : PlainProgram) (c : Configuration) (m : Machine) (g : Lcg) (es : List Entry) →
    configuration p m ≡ c → length c.threads ≡ 1 → RunsProgram p m → is_stopped m ≡ false →
    es ≡ [] → Draws p (draw p most_entries g c []) m g es 0
unfolding most_entries
draws-first p c m g es k l f r e = record {
  fits = f;
  runs = r;
  threads =
      let h : length (configuration p m).threads ≡ 1 = ap (λ d. length d.threads) k ∙ l in
      omega arith;
  rest = ap (λ d. draw p 1000 g d es) k ∙ ap (draw p 1000 g c) e;
}

-- what is drawn behind it is all that is drawn
abbrev Behind :
    PlainProgram → Drawn → Machine → Lcg → List Entry → ℕ → Turn → Type 0
Behind p all n h fs i t =
    drawn_by t (λ d xs k. draw p (1000 - (i + 1)) k d xs) (configuration p n) fs h ≡ all

turned :
    (p : PlainProgram) (all : Drawn) (m n : Machine) (g h : Lcg) (es fs : List Entry) (i : ℕ)
    (t : Turn) → Draws p all m g es i → i < 1000 → Turns p m n g h es fs t →
    Behind p all n h fs i t
turned p all m n g h es fs i t d l u =
    let e : 1000 - i ≡ suc (1000 - (i + 1)) = omega arith in
    sym (u (λ d xs k. draw p (1000 - (i + 1)) k d xs))
    ∙ (sym (draw-next p (1000 - (i + 1)) g (configuration p m) es)
    ∙ (ap (λ x. draw p x g (configuration p m) es) (sym e) ∙ d.rest))

pub draws-on :
    (p : PlainProgram) (all : Drawn) (m n : Machine) (g h : Lcg) (es fs : List Entry) (i : ℕ)
    (t : Turn) → Draws p all m g es i → i < 1000 → Turns p m n g h es fs t → t ≡ GoesOn →
    Continues t n → RunsProgram p n →
    length (configuration p n).threads ≤ suc (length (configuration p m).threads) →
    Draws p all n h fs (i + 1)
draws-on p all m n g h es fs i t d l u k r f w =
    let v = turned p all m n g h es fs i t d l u in record {
      fits = f;
      runs = subst (λ x. Continues x n) k r;
      threads = let b = d.threads in omega arith;
      rest = subst (Behind p all n h fs i) k v;
    }

pub draws-fault :
    (p : PlainProgram) (all : Drawn) (m n : Machine) (g h : Lcg) (es fs : List Entry) (i : ℕ)
    (t : Turn) → Draws p all m g es i → i < 1000 → Turns p m n g h es fs t → t ≡ Faults →
    all ≡ faulted fs
draws-fault p all m n g h es fs i t d l u k =
    sym (subst (Behind p all n h fs i) k
    (turned p all m n g h es fs i t d l u))

pub draws-end :
    (p : PlainProgram) (all : Drawn) (m n : Machine) (g h : Lcg) (es fs : List Entry) (i : ℕ)
    (t : Turn) → Draws p all m g es i → i < 1000 → Turns p m n g h es fs t → t ≡ Ends →
    all ≡ ended h
draws-end p all m n g h es fs i t d l u k =
    sym (subst (Behind p all n h fs i) k
    (turned p all m n g h es fs i t d l u))

pub draws-all :
    (p : PlainProgram) (all : Drawn) (m : Machine) (g : Lcg) (es : List Entry) (i : ℕ) →
    Draws p all m g es i → 1000 ≤ i → all ≡ ended g
unfolding draw
draws-all p all m g es i d l =
    let e : 1000 - i ≡ 0 = omega arith in
    sym d.rest ∙ ap (λ x. draw p x g (configuration p m) es) e

-- ---- schedules

first-next : (p : PlainProgram) (n : ℕ) (g : Lcg) →
    first_fault p (suc n) g ≡ or_later (draw_one p g) (λ h. first_fault p n h)
unfolding first_fault
first-next p n g = refl

-- after so many schedules without a fault, what is found of the later ones is found of all
abbrev pub IsLeft : PlainProgram → ℕ → Option (List Entry) → Lcg → ℕ → Type 0
IsLeft p count all g i = first_fault p (count - i) g ≡ all

drawn-next :
    (p : PlainProgram) (count i : ℕ) (all : Option (List Entry)) (g : Lcg) (d : Drawn) →
    IsLeft p count all g i → i < count → draw_one p g ≡ d →
    or_later d (λ k. first_fault p (count - (i + 1)) k) ≡ all
drawn-next p count i all g d h l k =
    let e : count - i ≡ suc (count - (i + 1)) = omega arith in
    ap (λ x. or_later x (λ k. first_fault p (count - (i + 1)) k)) (sym k)
    ∙ (sym (first-next p (count - (i + 1)) g) ∙ (ap (λ x. first_fault p x g) (sym e) ∙ h))

-- what the code tells of one schedule
pub drawn-fault :
    (o : Option (Vec Entry)) (v : Vec Entry) (d : Drawn) (g : Lcg) →
    d ≡ drawn_view (option_map (λ es. es.items) o) g → o ≡ Some v → d ≡ faulted v.items
drawn-fault o v d g h e =
    h ∙ ap (λ (u : Option (Vec Entry)). drawn_view (option_map (λ es. es.items) u) g) e

pub drawn-none :
    (o : Option (Vec Entry)) (d : Drawn) (g : Lcg) →
    d ≡ drawn_view (option_map (λ es. es.items) o) g → o ≡ None → d ≡ ended g
drawn-none o d g h e =
    h ∙ ap (λ (u : Option (Vec Entry)). drawn_view (option_map (λ es. es.items) u) g) e

pub left-on :
    (p : PlainProgram) (count i : ℕ) (all : Option (List Entry)) (g k : Lcg) →
    IsLeft p count all g i → i < count → draw_one p g ≡ ended k → IsLeft p count all k (i + 1)
left-on p count i all g k h l e = drawn-next p count i all g (ended k) h l e

pub left-found :
    (p : PlainProgram) (count i : ℕ) (all : Option (List Entry)) (g : Lcg) (es : List Entry) →
    IsLeft p count all g i → i < count → draw_one p g ≡ faulted es → all ≡ Some es
left-found p count i all g es h l e = sym (drawn-next p count i all g (faulted es) h l e)

pub left-none :
    (p : PlainProgram) (count i : ℕ) (all : Option (List Entry)) (g : Lcg) →
    IsLeft p count all g i → count ≤ i → all ≡ None
unfolding first_fault
left-none p count i all g h l =
    let e : count - i ≡ 0 = omega arith in sym h ∙ ap (λ x. first_fault p x g) e
