-- A production is read as its parts.
use Rattle.std.proofs.Common.{◌≡◌, ℕ, List, Result, Ok, Err, refl, ap, ◌∙◌}
use Rattle.cap_syntax.specs.declared.token.Token.{Token}
use Rattle.cap_parse_tree.specs.declared.word.Word.{Word}
use Rattle.cap_parse_tree.specs.declared.assertion.Counted.{Counted}
use Rattle.cap_parse_tree.specs.Tree.{ComparisonTree, SideTree, BlockTree, load, cas, faa, store, fact, count, choose, branch, loop}
use Rattle.cap_parse_tree.specs.Views.{else_of}
use Rattle.cap_parse_laws.specs.declared.class.Class.TheVariants as c
use Rattle.cap_parse_laws.specs.Classes.{are_same}
use Rattle.cap_parse_laws.specs.Readers.{Fault, Outcome, Reader, ◌>>=◌, next_place, expect, read_name, read_opening, read_optional, read_more, read_listed, read_group}
use Rattle.cap_parse_laws.specs.Grammar.{read_term, read_comparison, read_slot, read_counted, read_fact, choice_by, read_assertion, read_clause, read_load, read_cas, read_faa, read_store, read_else, read_branch, read_loop, read_algebra, read_optional_when, read_guards, read_case, read_action, read_head, read_region, read_function}
use Rattle.cap_parse.specs.declared.cursor.Stop.{Stop}
use Rattle.cap_parse.specs.declared.cursor.Stop.TheVariants.{Unexpected, TooDeep, OutOfMemory}
use Rattle.cap_parse.specs.Reads.{IsRead}
use Rattle.cap_parse.specs.Heads.{read_guarded, read_region_parts, region_tree, read_whole_clause, read_whole_block, read_function_head, read_contract, function_tree}
use Rattle.cap_parse.specs.Parts.{read_term_in_brackets, read_slot_in_brackets, read_fact_front, read_sides, read_operand, read_operands, read_condition, read_case_head, read_action_guards, read_transition, read_action_end}

-- what stops at its first part stops
pub then-stops : {X Y A B : Type 0} (view : X → A) (other : Y → B) (rest : List Token) (e : Stop) (r : Outcome A) (k : A × List Token → Outcome B)
    → IsRead view (Err e) rest r → IsRead other (Err e) rest (r >>= k)
then-stops view other rest Unexpected r k h = ap (λ o. o >>= k) h
then-stops view other rest TooDeep r k h = ap (λ o. o >>= k) h
then-stops view other rest OutOfMemory r k h = tt

-- what follows may be read otherwise
then-same : {A B : Type 0} (r : Result A Fault) (g h : A → Result B Fault) → ((a : A) → g a ≡ h a) → (r >>= g) ≡ (r >>= h)
then-same (Err e) g h same = refl
then-same (Ok a) g h same = same a

-- one to five readings, and what follows them
after-one : {A D E : Type 0} (r : Result A Fault) (k : A → D) (g : D → Result E Fault)
    → (r >>= λ x. g (k x)) ≡ ((r >>= λ x. Ok (k x)) >>= g)
after-one (Err e) k g = refl
after-one (Ok x) k g = refl

after-two : {A B D E : Type 0} (r : Result A Fault) (s : A → Result B Fault) (k : A → B → D) (g : D → Result E Fault)
    → (r >>= λ x. s x >>= λ y. g (k x y)) ≡ ((r >>= λ x. s x >>= λ y. Ok (k x y)) >>= g)
after-two (Err e) s k g = refl
after-two (Ok x) s k g = after-one (s x) (k x) g

after-three : {A B C D E : Type 0} (r : Result A Fault) (s : A → Result B Fault) (t : A → B → Result C Fault) (k : A → B → C → D)
    (g : D → Result E Fault)
    → (r >>= λ x. s x >>= λ y. t x y >>= λ z. g (k x y z)) ≡ ((r >>= λ x. s x >>= λ y. t x y >>= λ z. Ok (k x y z)) >>= g)
after-three (Err e) s t k g = refl
after-three (Ok x) s t k g = after-two (s x) (t x) (k x) g

after-four : {A B C F D E : Type 0} (r : Result A Fault) (s : A → Result B Fault) (t : A → B → Result C Fault)
    (u : A → B → C → Result F Fault) (k : A → B → C → F → D) (g : D → Result E Fault)
    → (r >>= λ x. s x >>= λ y. t x y >>= λ z. u x y z >>= λ w. g (k x y z w))
    ≡ ((r >>= λ x. s x >>= λ y. t x y >>= λ z. u x y z >>= λ w. Ok (k x y z w)) >>= g)
after-four (Err e) s t u k g = refl
after-four (Ok x) s t u k g = after-three (s x) (t x) (u x) (k x) g

after-five : {A B C F G D E : Type 0} (r : Result A Fault) (s : A → Result B Fault) (t : A → B → Result C Fault)
    (u : A → B → C → Result F Fault) (v : A → B → C → F → Result G Fault) (k : A → B → C → F → G → D) (g : D → Result E Fault)
    → (r >>= λ x. s x >>= λ y. t x y >>= λ z. u x y z >>= λ w. v x y z w >>= λ q. g (k x y z w q))
    ≡ ((r >>= λ x. s x >>= λ y. t x y >>= λ z. u x y z >>= λ w. v x y z w >>= λ q. Ok (k x y z w q)) >>= g)
after-five (Err e) s t u v k g = refl
after-five (Ok x) s t u v k g = after-four (s x) (t x) (u x) (v x) (k x) g

pub load_parts : (room : ℕ) (ts : List Token)
    → read_load room ts ≡ (read_term_in_brackets room ts >>= λ b. Ok (load b.0.0 b.0.1 b.0.2, b.1))
load_parts room ts =
    after-three (read_opening room c.OpenBracket ts) (λ o. read_term o.0.0 o.1) (λ o t. expect c.CloseBracket t.1)
    (λ o t q. ((o.0.1, t.0, q.0), q.1)) (λ b. Ok (load b.0.0 b.0.1 b.0.2, b.1))

pub store_parts : (room : ℕ) (ts : List Token)
    → read_store room ts ≡ (read_term_in_brackets room ts >>= λ b. expect c.Becomes b.1 >>= λ r. read_term room r.1 >>= λ t.
    expect c.Semicolon t.1 >>= λ e. Ok (store b.0.0 b.0.1 b.0.2 r.0 t.0 e.0, e.1))
store_parts room ts =
    after-three (read_opening room c.OpenBracket ts) (λ o. read_term o.0.0 o.1) (λ o t. expect c.CloseBracket t.1)
    (λ o t q. ((o.0.1, t.0, q.0), q.1))
    (λ b. expect c.Becomes b.1 >>= λ r. read_term room r.1 >>= λ t. expect c.Semicolon t.1 >>= λ e.
    Ok (store b.0.0 b.0.1 b.0.2 r.0 t.0 e.0, e.1))

pub counted_parts : (room : ℕ) (kind : Counted) (ts : List Token)
    → read_counted room kind ts ≡ (next_place ts >>= λ p. read_name p.1 >>= λ w. read_slot_in_brackets room w.1 >>= λ b.
    Ok (count kind p.0 w.0 b.0.0 b.0.1 b.0.2, b.1))
counted_parts room kind ts =
    then-same (next_place ts) _ _ (λ p. then-same (read_name p.1) _ _ (λ w.
    after-three (read_opening room c.OpenBracket w.1) (λ o. read_slot o.0.0 o.1) (λ o s. expect c.CloseBracket s.1)
    (λ o s q. ((o.0.1, s.0, q.0), q.1)) (λ b. Ok (count kind p.0 w.0 b.0.0 b.0.1 b.0.2, b.1))))

pub fact_parts : (room : ℕ) (w : Word) (ts : List Token)
    → read_fact room w ts ≡ (read_opening room c.Open ts >>= λ o. read_fact_front o.0.0 o.1 >>= λ b. read_slot o.0.0 b.1 >>= λ s.
    expect c.Close s.1 >>= λ e. Ok (fact w o.0.1 b.0.0 b.0.1 b.0.2 s.0 e.0, e.1))
fact_parts room w ts =
    then-same (read_opening room c.Open ts) _ _ (λ o.
    after-three (read_name o.1) (λ r. read_more c.Comma (read_slot o.0.0) r.1) (λ r more. expect c.Semicolon more.1)
    (λ r more q. ((r.0, more.0, q.0), q.1))
    (λ b. read_slot o.0.0 b.1 >>= λ s. expect c.Close s.1 >>= λ e. Ok (fact w o.0.1 b.0.0 b.0.1 b.0.2 s.0 e.0, e.1)))

pub choose_parts : (sides : Reader SideTree) (k : ComparisonTree) (ts : List Token)
    → choice_by sides k c.Question ts ≡ (read_sides sides ts >>= λ b. Ok (choose k b.0.0 b.0.1 b.0.2 b.0.3, b.1))
choose_parts sides k ts =
    after-four (next_place ts) (λ p. sides p.1) (λ p a. expect c.Colon a.1) (λ p a q. sides q.1)
    (λ p a q b. ((p.0, a.0, q.0, b.0), b.1)) (λ b. Ok (choose k b.0.0 b.0.1 b.0.2 b.0.3, b.1))

pub operands_parts : (room : ℕ) (ts : List Token)
    → read_operands room ts ≡ (read_operand room ts >>= λ a. read_operand room a.1 >>= λ e. read_term room e.1 >>= λ f.
    Ok ((a.0.0, a.0.1, e.0.0, e.0.1, f.0), f.1))
operands_parts room ts =
    after-two (read_term room ts) (λ a. expect c.Comma a.1) (λ a m. ((a.0, m.0), m.1))
    (λ a. read_term room a.1 >>= λ e. expect c.Comma e.1 >>= λ n. read_term room n.1 >>= λ f.
    Ok ((a.0.0, a.0.1, e.0, n.0, f.0), f.1))
    ∙ then-same (read_operand room ts) _ _ (λ a.
    after-two (read_term room a.1) (λ e. expect c.Comma e.1) (λ e n. ((e.0, n.0), n.1))
    (λ e. read_term room e.1 >>= λ f. Ok ((a.0.0, a.0.1, e.0.0, e.0.1, f.0), f.1)))

pub cas_parts : (room : ℕ) (ts : List Token)
    → read_cas room ts ≡ (next_place ts >>= λ p. read_opening room c.Open p.1 >>= λ o. read_operands o.0.0 o.1 >>= λ b.
    expect c.Close b.1 >>= λ q. Ok (cas p.0 o.0.1 b.0.0 b.0.1 b.0.2 b.0.3 b.0.4 q.0, q.1))
cas_parts room ts =
    then-same (next_place ts) _ _ (λ p. then-same (read_opening room c.Open p.1) _ _ (λ o.
    after-five (read_term o.0.0 o.1) (λ a. expect c.Comma a.1) (λ a m. read_term o.0.0 m.1) (λ a m e. expect c.Comma e.1)
    (λ a m e n. read_term o.0.0 n.1) (λ a m e n f. ((a.0, m.0, e.0, n.0, f.0), f.1))
    (λ b. expect c.Close b.1 >>= λ q. Ok (cas p.0 o.0.1 b.0.0 b.0.1 b.0.2 b.0.3 b.0.4 q.0, q.1))))

pub faa_parts : (room : ℕ) (ts : List Token)
    → read_faa room ts ≡ (next_place ts >>= λ p. read_opening room c.Open p.1 >>= λ o. read_operand o.0.0 o.1 >>= λ a.
    read_term o.0.0 a.1 >>= λ e. expect c.Close e.1 >>= λ q. Ok (faa p.0 o.0.1 a.0.0 a.0.1 e.0 q.0, q.1))
faa_parts room ts =
    then-same (next_place ts) _ _ (λ p. then-same (read_opening room c.Open p.1) _ _ (λ o.
    after-two (read_term o.0.0 o.1) (λ a. expect c.Comma a.1) (λ a m. ((a.0, m.0), m.1))
    (λ a. read_term o.0.0 a.1 >>= λ e. expect c.Close e.1 >>= λ q. Ok (faa p.0 o.0.1 a.0.0 a.0.1 e.0 q.0, q.1))))

pub branch_parts : (blocks : Reader BlockTree) (room : ℕ) (ts : List Token)
    → read_branch blocks room ts ≡ (read_condition room ts >>= λ k. blocks k.1 >>= λ b.
    read_optional (are_same c.Else) (read_else blocks) b.1 >>= λ e.
    Ok (branch k.0.0 k.0.1 k.0.2 k.0.3 b.0 (else_of e.0), e.1))
branch_parts blocks room ts =
    after-four (next_place ts) (λ p. read_opening room c.Open p.1) (λ p o. read_comparison o.0.0 o.1) (λ p o k. expect c.Close k.1)
    (λ p o k r. ((p.0, o.0.1, k.0, r.0), r.1))
    (λ k. blocks k.1 >>= λ b. read_optional (are_same c.Else) (read_else blocks) b.1 >>= λ e.
    Ok (branch k.0.0 k.0.1 k.0.2 k.0.3 b.0 (else_of e.0), e.1))

pub loop_parts : (blocks : Reader BlockTree) (room : ℕ) (ts : List Token)
    → read_loop blocks room ts ≡ (read_condition room ts >>= λ k.
    read_optional (are_same c.Invariant) (read_clause room c.Invariant) k.1 >>= λ i. blocks i.1 >>= λ b.
    Ok (loop k.0.0 k.0.1 k.0.2 k.0.3 i.0 b.0, b.1))
loop_parts blocks room ts =
    after-four (next_place ts) (λ p. read_opening room c.Open p.1) (λ p o. read_comparison o.0.0 o.1) (λ p o k. expect c.Close k.1)
    (λ p o k r. ((p.0, o.0.1, k.0, r.0), r.1))
    (λ k. read_optional (are_same c.Invariant) (read_clause room c.Invariant) k.1 >>= λ i. blocks i.1 >>= λ b.
    Ok (loop k.0.0 k.0.1 k.0.2 k.0.3 i.0 b.0, b.1))

pub case_parts : (room : ℕ) (ts : List Token)
    → read_case room ts ≡ (read_case_head room ts >>= λ h. read_assertion room h.1 >>= λ a. expect c.Semicolon a.1 >>= λ e.
    Ok (record { state = h.0.0; when = h.0.1; colon = h.0.2; assertion = a.0; semicolon = e.0 }, e.1))
case_parts room ts =
    after-three (read_term room ts) (λ s. read_optional_when room s.1) (λ s w. expect c.Colon w.1)
    (λ s w p. ((s.0, w.0, p.0), p.1))
    (λ h. read_assertion room h.1 >>= λ a. expect c.Semicolon a.1 >>= λ e.
    Ok (record { state = h.0.0; when = h.0.1; colon = h.0.2; assertion = a.0; semicolon = e.0 }, e.1))

pub action_parts : (room : ℕ) (ts : List Token)
    → read_action room ts ≡ (read_action_guards room ts >>= λ g. read_transition room g.1 >>= λ t. read_action_end room t.1 >>= λ e.
    Ok (
      record {
        guards = g.0.0;
        colon = g.0.1;
        source = t.0.0;
        arrow = t.0.1;
        target = t.0.2;
        when = e.0.0;
        semicolon = e.0.1;
      },
      e.1,
    ))
action_parts room ts =
    after-two (read_guards room ts) (λ g. expect c.Colon g.1) (λ g p. ((g.0, p.0), p.1))
    (λ g. read_term room g.1 >>= λ s. expect c.LeadsTo s.1 >>= λ q. read_term room q.1 >>= λ t. read_optional_when room t.1 >>= λ w.
    expect c.Semicolon w.1 >>= λ e.
    Ok (
      record {
        guards = g.0.0;
        colon = g.0.1;
        source = s.0;
        arrow = q.0;
        target = t.0;
        when = w.0;
        semicolon = e.0;
      },
      e.1,
    ))
    ∙ then-same (read_action_guards room ts) _ _ (λ g.
    after-three (read_term room g.1) (λ s. expect c.LeadsTo s.1) (λ s q. read_term room q.1) (λ s q t. ((s.0, q.0, t.0), t.1))
    (λ t. read_optional_when room t.1 >>= λ w. expect c.Semicolon w.1 >>= λ e.
    Ok (
      record {
        guards = g.0.0;
        colon = g.0.1;
        source = t.0.0;
        arrow = t.0.1;
        target = t.0.2;
        when = w.0;
        semicolon = e.0;
      },
      e.1,
    ))
    ∙ then-same (read_transition room g.1) _ _ (λ t.
    after-two (read_optional_when room t.1) (λ w. expect c.Semicolon w.1) (λ w e. ((w.0, e.0), e.1))
    (λ e. Ok (
      record {
        guards = g.0.0;
        colon = g.0.1;
        source = t.0.0;
        arrow = t.0.1;
        target = t.0.2;
        when = e.0.0;
        semicolon = e.0.1;
      },
      e.1,
    ))))

pub region_parts : (room : ℕ) (ts : List Token)
    → read_region room ts ≡ (next_place ts >>= λ key. read_head room key.1 >>= λ h. read_opening room c.OpenBrace h.1 >>= λ o.
    read_region_parts o.0.0 o.1 >>= λ b. Ok (region_tree key.0 h.0 o.0.1 b.0, b.1))
region_parts room ts =
    then-same (next_place ts) _ _ (λ key. then-same (read_head room key.1) _ _ (λ h.
    then-same (read_opening room c.OpenBrace h.1) _ _ (λ o.
    after-three (expect c.Guards o.1) (λ g. read_algebra o.0.0 g.1) (λ g a. expect c.Semicolon a.1)
    (λ g a e. ((g.0, a.0, e.0), e.1))
    (λ g. read_group o.0.0 c.Interpretation read_case g.1 >>= λ cases. read_group o.0.0 c.Actions read_action cases.1 >>= λ actions.
    expect c.CloseBrace actions.1 >>= λ q.
    Ok (region_tree key.0 h.0 o.0.1 (record { guarded = g.0; cases = cases.0; actions = actions.0; end = q.0 }), q.1))
    ∙ after-four (read_guarded o.0.0 o.1) (λ g. read_group o.0.0 c.Interpretation read_case g.1)
    (λ g cases. read_group o.0.0 c.Actions read_action cases.1) (λ g cases actions. expect c.CloseBrace actions.1)
    (λ g cases actions q. (record { guarded = g.0; cases = cases.0; actions = actions.0; end = q.0 }, q.1))
    (λ b. Ok (region_tree key.0 h.0 o.0.1 b.0, b.1)))))

pub function_parts : (room : ℕ) (ts : List Token)
    → read_function room ts ≡ (read_function_head room ts >>= λ h. read_contract room h.1 >>= λ k. read_whole_block room k.1 >>= λ b.
    Ok (function_tree h.0 k.0 b.0, b.1))
unfolding read_whole_clause read_whole_block
function_parts room ts =
    after-three (next_place ts) (λ key. read_name key.1) (λ key w. read_listed room (λ inner. read_name) w.1)
    (λ key w ps. (record { key = key.0; name = w.0; parameters = ps.0 }, ps.1))
    (λ h. read_optional (are_same c.Requires) (read_clause room c.Requires) h.1 >>= λ pre.
    read_optional (are_same c.Ensures) (read_clause room c.Ensures) pre.1 >>= λ post. read_whole_block room post.1 >>= λ b.
    Ok (function_tree h.0 (pre.0, post.0) b.0, b.1))
    ∙ then-same (read_function_head room ts) _ _ (λ h.
    after-two (read_optional (are_same c.Requires) (read_clause room c.Requires) h.1)
    (λ pre. read_optional (are_same c.Ensures) (read_clause room c.Ensures) pre.1) (λ pre post. ((pre.0, post.0), post.1))
    (λ k. read_whole_block room k.1 >>= λ b. Ok (function_tree h.0 k.0 b.0, b.1)))
