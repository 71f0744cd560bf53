-- The lines of a schedule, one behind the other.
use Rattle.std.proofs.Common.{◌≡◌, ◌∙◌, ap, sym, refl, ℕ, List, [], ◌∷◌, ◌++◌, map, flat_map}
use Rattle.std.proofs.Common.{append_assoc}
use Rattle.std.specs.Prelude.{codes}
use Rattle.cap_replay_schedules.specs.Writing.{numbers_text, cell_text, entry_text, PlainSchedule, schedule_text}

abbrev lined : List ℕ → List ℕ
lined line = line ++ codes "\n"

lines-append :
    (ls ms : List (List ℕ)) → flat_map lined (ls ++ ms) ≡ flat_map lined ls ++ flat_map lined ms
lines-append [] ms = refl
lines-append (l ∷ ls) ms =
    ap (λ t. lined l ++ t) (lines-append ls ms)
    ∙ sym (append_assoc (lined l) (flat_map lined ls) (flat_map lined ms))

lines-of :
    {A : Type 0} (f : A → List ℕ) (xs : List A) →
    flat_map lined (map f xs) ≡ flat_map (λ x. f x ++ codes "\n") xs
lines-of f [] = refl
lines-of f (x ∷ xs) = ap (λ t. lined (f x) ++ t) (lines-of f xs)

-- the text, by what stands there after each part of it
pub written :
    (s : PlainSchedule) (a b c d e f : List ℕ) → a ≡ codes "start" → b ≡ a ++ numbers_text s.args →
    c ≡ b ++ codes "\n" → d ≡ c ++ flat_map (λ x. cell_text x ++ codes "\n") s.heap →
    e ≡ d ++ flat_map (λ x. entry_text x ++ codes "\n") s.entries → f ≡ e ++ codes "end\n" →
    f ≡ schedule_text s
written s a b c d e f p q r t u v =
    v
    ∙ (ap (λ l. l ++ codes "end\n") u
    ∙ (ap (λ l. (l ++ steps) ++ codes "end\n") t
    ∙ (ap (λ l. ((l ++ cells) ++ steps) ++ codes "end\n")
    (r ∙ ap (λ l. l ++ codes "\n") (q ∙ ap (λ l. l ++ numbers_text s.args) p))
    ∙ (append_assoc (front ++ cells) steps (codes "end\n")
    ∙ (append_assoc front cells (steps ++ codes "end\n")
    ∙ ap (λ l. front ++ l) (sym behind))))))
  where
    front : List ℕ
    front = (codes "start" ++ numbers_text s.args) ++ codes "\n"

    cells : List ℕ
    cells = flat_map (λ x. cell_text x ++ codes "\n") s.heap

    steps : List ℕ
    steps = flat_map (λ x. entry_text x ++ codes "\n") s.entries

    behind :
        flat_map lined
        (map cell_text s.heap ++ (map entry_text s.entries ++ codes "end" ∷ []))
        ≡ cells ++ (steps ++ codes "end\n")
    behind =
        lines-append (map cell_text s.heap)
        (map entry_text s.entries ++ codes "end" ∷ [])
        ∙ (ap (λ l. l ++ flat_map lined (map entry_text s.entries ++ codes "end" ∷ []))
        (lines-of cell_text s.heap)
        ∙ ap (λ l. cells ++ l)
        (lines-append (map entry_text s.entries) (codes "end" ∷ [])
        ∙ ap (λ l. l ++ codes "end\n") (lines-of entry_text s.entries)))
