-- Frames at places.
use Rattle.std.proofs.Common.{◌≡◌, ℕ, zero, suc, Bool, true, false, cond, List, [], ◌∷◌, ◌++◌, refl, sym, ap, ◌∙◌, subst}
use Rattle.std.specs.Prelude.{Option, Some, None}
use Rattle.cap_prog.specs.Program.{Label, PlainAct, set, read, write, cas, faa, dispose, alloc, call, fork, branch, loop, check, give_back, Block, done, first, append, PlainStatement}
use Rattle.cap_machine.specs.declared.position.Level.{Level}
use Rattle.cap_machine.specs.Places.{skip, inside, side_of, is_loop, behind, behind_act, after, past, block_at, rest_at, here, IsSettled}
use Rattle.cap_machine.specs.Changes.{tail_of}
use Rattle.cap_machine.proofs.PlaceLemmas.{at_head, nothing_left, enters}

skip_tail : (i : ℕ) (b : Block) (l : Label) (a : PlainAct) (c : Block) → skip i b ≡ first l a c → skip i b ≡ first l a (skip (suc i) b)
skip_tail zero done l a c e = absurd (cc)
skip_tail zero (first m s b) l a c e = cc
skip_tail (suc i) done l a c e = absurd (cc)
skip_tail (suc i) (first m s b) l a c e = skip_tail i b l a c e

-- what remains at a place, by the statement there
record At (body : Block) (ls : List Level) (next : ℕ) (l : Label) (a : PlainAct) : Type 0 where
  stands : skip next (block_at body ls) ≡ first l a (skip (suc next) (block_at body ls))
  head : rest_at body ls next ≡ first l a (rest_at body ls (suc next))

at : (body : Block) (ls : List Level) (next : ℕ) (l : Label) (a : PlainAct) (c : Block) → skip next (block_at body ls) ≡ first l a c → At body ls next l a
at body ls next l a c e =
    let s = skip_tail next (block_at body ls) l a c e in
    record { stands = s; head = at_head body ls next l a s }

pub ahead_is : (body : Block) (ls : List Level) (next : ℕ) (o : Option PlainStatement) → IsSettled body ls next → skip next (block_at body ls) ≡ here o (skip (suc next) (block_at body ls)) → rest_at body ls next ≡ here o (tail_of (rest_at body ls next))
ahead_is body ls next None h e = nothing_left body ls next h e
ahead_is body ls next (Some s) h e =
    let k = at_head body ls next s.label s.act e in
    k ∙ ap (λ b. first s.label s.act b) (sym (ap tail_of k))

pub passed_is : (body : Block) (ls : List Level) (next : ℕ) → IsSettled body ls next → rest_at body ls (past (skip next (block_at body ls)) next) ≡ tail_of (rest_at body ls next)
passed_is body ls next h = go (skip next (block_at body ls)) refl
  where
    go : (b : Block) → skip next (block_at body ls) ≡ b → rest_at body ls (past b next) ≡ tail_of (rest_at body ls next)
    go done e = let n = nothing_left body ls next h e in n ∙ sym (ap tail_of n)
    go (first l a b) e = let k = at body ls next l a b e in sym (ap tail_of k.head)

behind_is : (l : Label) (a : PlainAct) (b : Block) → behind_act l a b ≡ cond (is_loop a) (first l a b) b
behind_is l (loop c i a) b = refl
behind_is l (set x t) b = refl
behind_is l (read x a) b = refl
behind_is l (write a t) b = refl
behind_is l (cas x a old new) b = refl
behind_is l (faa x a t) b = refl
behind_is l (dispose a) b = refl
behind_is l (alloc x n) b = refl
behind_is l (call x f args) b = refl
behind_is l (fork f args) b = refl
behind_is l (branch c a d) b = refl
behind_is l (check c) b = refl
behind_is l (give_back t) b = refl

pub entered_is : (body : Block) (ls : List Level) (next : ℕ) (side : Bool) → IsSettled body ls next → append (inside side (skip next (block_at body ls))) (rest_at body ls (after (skip next (block_at body ls)) next)) ≡ append (inside side (rest_at body ls next)) (behind (rest_at body ls next))
entered_is body ls next side h = go (skip next (block_at body ls)) refl
  where
    chosen : (l : Label) (a : PlainAct) (k : Bool) → rest_at body ls next ≡ first l a (rest_at body ls (suc next)) → rest_at body ls (cond k next (suc next)) ≡ cond k (first l a (rest_at body ls (suc next))) (rest_at body ls (suc next))
    chosen l a true e = e
    chosen l a false e = refl

    go : (b : Block) → skip next (block_at body ls) ≡ b → append (inside side b) (rest_at body ls (after b next)) ≡ append (inside side (rest_at body ls next)) (behind (rest_at body ls next))
    go done e = let n = nothing_left body ls next h e in n ∙ sym (ap (λ r. append (inside side r) (behind r)) n)
    go (first l a b) e =
        let k = at body ls next l a b e in
        ap (append (side_of side a)) (chosen l a (is_loop a) k.head ∙ sym (behind_is l a (rest_at body ls (suc next))))
        ∙ sym (ap (λ r. append (inside side r) (behind r)) k.head)

-- the same, of a body that is known by another name
pub ahead_rest : (b c : Block) (ls : List Level) (next : ℕ) (o : Option PlainStatement) → c ≡ b → IsSettled b ls next → skip next (block_at c ls) ≡ here o (skip (suc next) (block_at c ls)) → rest_at b ls next ≡ here o (tail_of (rest_at b ls next))
ahead_rest b c ls next o e h k = ahead_is b ls next o h (subst (λ d. skip next (block_at d ls) ≡ here o (skip (suc next) (block_at d ls))) e k)

pub pass_rest : (b c d : Block) (ls new : List Level) (next n m : ℕ) → c ≡ b → d ≡ block_at c ls → IsSettled b ls next → m ≡ past (skip next d) next → rest_at c new n ≡ rest_at c ls m → rest_at b new n ≡ tail_of (rest_at b ls next)
pass_rest b c d ls new next n m e i h f r =
    ap (λ x. rest_at x new n) (sym e) ∙ (r ∙ (ap (λ x. rest_at x ls m) e ∙ (ap (rest_at b ls) (f ∙ ap (λ x. past (skip next x) next) (i ∙ ap (λ x. block_at x ls) e)) ∙ passed_is b ls next h)))

pub enter_rest : (b c : Block) (ls pushed new : List Level) (next n : ℕ) (side : Bool) → c ≡ b → IsSettled b ls next → pushed ≡ ls ++ record { index = next; side = side } ∷ [] → rest_at c new n ≡ rest_at c pushed 0 → rest_at b new n ≡ append (inside side (rest_at b ls next)) (behind (rest_at b ls next))
enter_rest b c ls pushed new next n side e h p r =
    ap (λ x. rest_at x new n) (sym e) ∙ (r ∙ (ap (λ x. rest_at x pushed 0) e ∙ (enters b pushed ls (record { index = next; side = side }) p ∙ entered_is b ls next side h)))
