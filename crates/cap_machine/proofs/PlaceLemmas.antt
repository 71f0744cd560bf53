-- Places in bodies.
use Rattle.std.proofs.Common.{◌≡◌, ℕ, zero, suc, Bool, true, false, cond, List, [], ◌∷◌, ◌++◌, map, refl, sym, ap, ◌∙◌}
use Rattle.std.specs.Prelude.{slice_get, option_map}
use Rattle.cap_prog.specs.declared.function.Statement.{Statement}
use Rattle.cap_prog.specs.Program.{Label, PlainAct, set, read, write, cas, faa, dispose, alloc, call, fork, branch, loop, check, give_back, Block, done, first, append, PlainStatement, block_of}
use Rattle.cap_prog.specs.Views.{block_view, statement_view}
use Rattle.cap_machine.specs.declared.position.Level.{Level}
use Rattle.cap_machine.specs.Places.{skip, inside, is_loop, behind, after, block_at, rest_at, here, IsFirst, IsSettled}

pub append_assoc : (a b c : Block) → append (append a b) c ≡ append a (append b c)
append_assoc done b c = refl
append_assoc (first l s a) b c = ap (first l s) (append_assoc a b c)

-- a statement of a list, and those behind it
skip_of : (ss : List PlainStatement) (i : ℕ) → skip i (block_of ss) ≡ here (slice_get ss i) (skip (suc i) (block_of ss))
skip_of [] zero = refl
skip_of [] (suc i) = refl
skip_of (s ∷ ss) zero = refl
skip_of (s ∷ ss) (suc i) = skip_of ss i

get_map : {X Y : Type 0} (f : X → Y) (xs : List X) (i : ℕ) → slice_get (map f xs) i ≡ option_map f (slice_get xs i)
get_map f [] i = refl
get_map f (x ∷ xs) zero = refl
get_map f (x ∷ xs) (suc i) = get_map f xs i

pub skip_view : (ss : List Statement) (i : ℕ) → skip i (block_view ss) ≡ here (option_map statement_view (slice_get ss i)) (skip (suc i) (block_view ss))
skip_view ss i = skip_of (map statement_view ss) i ∙ ap (λ o. here o (skip (suc i) (block_view ss))) (get_map statement_view ss i)

behind_skip : (i : ℕ) (b : Block) → behind (skip i b) ≡ skip (after (skip i b) i) b
behind_skip zero done = refl
behind_skip zero (first l (loop c i a) b) = refl
behind_skip zero (first l (set x t) b) = refl
behind_skip zero (first l (read x a) b) = refl
behind_skip zero (first l (write a t) b) = refl
behind_skip zero (first l (cas x a old new) b) = refl
behind_skip zero (first l (faa x a t) b) = refl
behind_skip zero (first l (dispose a) b) = refl
behind_skip zero (first l (alloc x n) b) = refl
behind_skip zero (first l (call x f args) b) = refl
behind_skip zero (first l (fork f args) b) = refl
behind_skip zero (first l (branch c a d) b) = refl
behind_skip zero (first l (check c) b) = refl
behind_skip zero (first l (give_back t) b) = refl
behind_skip (suc i) done = refl
behind_skip (suc i) (first l a b) = behind_skip i b ∙ shift (skip i b)
  where
    shift : (c : Block) → skip (after c i) b ≡ skip (after c (suc i)) (first l a b)
    shift done = refl
    shift (first m s c) = by_kind (is_loop s)
      where
        by_kind : (k : Bool) → skip (cond k i (suc i)) b ≡ skip (cond k (suc i) (suc (suc i))) (first l a b)
        by_kind true = refl
        by_kind false = refl

-- what remains in a block that was entered, and then behind it
pub entered : (body : Block) (ls : List Level) (l : Level) (m : ℕ) → rest_at body (ls ++ l ∷ []) m ≡ append (skip m (inside l.side (skip l.index (block_at body ls)))) (rest_at body ls (after (skip l.index (block_at body ls)) l.index))
entered body [] l m = ap (append (skip m (inside l.side (skip l.index body)))) (behind_skip l.index body)
entered body (k ∷ ls) l m =
    ap (λ r. append r (behind (skip k.index body))) (entered (inside k.side (skip k.index body)) ls l m)
    ∙ append_assoc (skip m (inside l.side (skip l.index (block_at (inside k.side (skip k.index body)) ls)))) (rest_at (inside k.side (skip k.index body)) ls (after (skip l.index (block_at (inside k.side (skip k.index body)) ls)) l.index)) (behind (skip k.index body))

pub inner : (body : Block) (ls : List Level) (l : Level) → block_at body (ls ++ l ∷ []) ≡ inside l.side (skip l.index (block_at body ls))
inner body [] l = refl
inner body (k ∷ ls) l = inner (inside k.side (skip k.index body)) ls l

-- the statement at a place comes first of what remains
pub at_head : (body : Block) (ls : List Level) (next : ℕ) (m : Label) (a : PlainAct) → skip next (block_at body ls) ≡ first m a (skip (suc next) (block_at body ls)) → rest_at body ls next ≡ first m a (rest_at body ls (suc next))
at_head body [] next m a e = e
at_head body (l ∷ ls) next m a e = ap (λ r. append r (behind (skip l.index body))) (at_head (inside l.side (skip l.index body)) ls next m a e)

pub left : (body : Block) (ls : List Level) (l : Level) (m : ℕ) → skip m (block_at body (ls ++ l ∷ [])) ≡ done → rest_at body (ls ++ l ∷ []) m ≡ rest_at body ls (after (skip l.index (block_at body ls)) l.index)
left body ls l m e =
    let f : skip m (inside l.side (skip l.index (block_at body ls))) ≡ done = ap (skip m) (sym (inner body ls l)) ∙ e in
    entered body ls l m ∙ ap (λ b. append b (rest_at body ls (after (skip l.index (block_at body ls)) l.index))) f

-- where no statement is ahead, nothing remains
pub nothing_left : (body : Block) (ls : List Level) (next : ℕ) → IsSettled body ls next → skip next (block_at body ls) ≡ done → rest_at body ls next ≡ done
nothing_left body [] next h e = e
nothing_left body (l ∷ ls) next h e = absurd (never (skip next (block_at body (l ∷ ls))) e h)
  where
    never : (b : Block) → b ≡ done → IsFirst b → ⊥
    never done e h = h
    never (first n a b) e h = absurd (cc)

pub leave : (body : Block) (old ls : List Level) (l : Level) (next : ℕ) → old ≡ ls ++ l ∷ [] → skip next (block_at body old) ≡ done → rest_at body ls (after (skip l.index (block_at body ls)) l.index) ≡ rest_at body old next
leave body old ls l next e h =
    let f : skip next (block_at body (ls ++ l ∷ [])) ≡ done = ap (λ o. skip next (block_at body o)) (sym e) ∙ h in
    sym (left body ls l next f) ∙ ap (λ o. rest_at body o next) (sym e)

pub enters : (body : Block) (new ls : List Level) (l : Level) → new ≡ ls ++ l ∷ [] → rest_at body new 0 ≡ append (inside l.side (skip l.index (block_at body ls))) (rest_at body ls (after (skip l.index (block_at body ls)) l.index))
enters body new ls l e = ap (λ o. rest_at body o 0) e ∙ entered body ls l 0
