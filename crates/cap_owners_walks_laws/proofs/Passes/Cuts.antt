-- A walk takes guards out of a piece.
use Rattle.std.proofs.Common.{◌≡◌, ◌≢◌, ◌⊎◌, inl, inr, ℕ, ℤ, List, [], ◌++◌, length, Some, None, refl, sym, ap, ◌∙◌, subst}
use Rattle.std.specs.Prelude.{slice_get}
use Rattle.std.specs.List.{AllZip}
use Rattle.cap_lin.specs.Values.{value}
use Rattle.cap_lin.specs.Linear.{Linear}
use Rattle.cap_galg.specs.Elements.{Element}
use Rattle.cap_syntax.specs.declared.place.Place.{Place}
use Rattle.cap_farkas.specs.declared.cert.Cert.{Cert}
use Rattle.cap_lin.specs.declared.row.Sort.TheVariants.{Perm}
use Rattle.cap_prog.specs.declared.assertion.Asked.{Asked}
use Rattle.cap_prog.specs.Program.{atom, Items, item}
use Rattle.cap_goal_spec.specs.States.{PlainEnv, PlainState, to_take, PlainGoal}
use Rattle.cap_goal_spec.specs.Choices.{by_guard, node, PlainTrees, no_trees, tree}
use Rattle.cap_goal_spec.specs.Environments.{asked_slot}
use Rattle.cap_rules.specs.Making.{env_at}
use Rattle.cap_machine_accounts.specs.Parts.{Part, guard_at, atom_guard}
use Rattle.cap_machine_accounts.specs.Assertions.{NameValue}
use Rattle.cap_account_resources.specs.Parts.{Table}
use Rattle.cap_account_resources.proofs.Covering.{join_marks, part-trans}
use Rattle.cap_account_resources.proofs.Interference.{Holding}
use Rattle.cap_account_resources.proofs.Lists.{join-nil, all-at}
use Rattle.cap_account_resources.proofs.Marks.{Mark}
use Rattle.cap_account_states.proofs.Adding.{PieceOver}
use Rattle.cap_account_resources.proofs.Room.{alone-here, part-some}
use Rattle.cap_account_resources.proofs.Stocks.{Stock, guard_stock, both, inside-trans, inside-second, inside-same, inside-both, inside-guards}
use Rattle.cap_account_states.proofs.Alike.{Alike, usable-alike}
use Rattle.cap_account_states.proofs.Brought.{Bring, Brings, piece_brings}
use Rattle.cap_account_states.proofs.Checked.{Checked}
use Rattle.cap_account_states.proofs.Guarding.{open_term, asked_of, is_open}
use Rattle.cap_account_states.proofs.Items.{fits-more}
use Rattle.cap_account_states.proofs.Meets.{Usable, Old}
use Rattle.cap_account_states.proofs.Naming.{values_in, at-env}
use Rattle.cap_account_states.proofs.Pieces.{left_pieces}
use Rattle.cap_account_states.proofs.Wants.{Wants}
use Rattle.cap_account_assertions.proofs.Coarser.{item-named}
use Rattle.cap_account_assertions.proofs.TakeHeads.{ItemTaken}
use Rattle.cap_account_assertions.proofs.TakeSteps.{Job, with_items}
use Rattle.cap_account_assertions.proofs.TakeAtoms.{PieceFound, piece-goes, there-left}
use Rattle.cap_owners_spec.specs.Traced.{Traced, traced, past_width, untold, ◌>>=◌, found, valuation, number_in}
use Rattle.cap_owners_spec.specs.Filling.{met, atom_met, asked_element, with_more}
use Rattle.cap_owners_spec.specs.Walks.{Taking, Walk, on, asked_reading, new_share, Interpreting, pass_piece, pass_task}
use Rattle.cap_owners_walks_laws.proofs.Values.Numbers.{number-is}
use Rattle.cap_owners_walks_laws.proofs.Values.More.{FitsSort, number-told}
use Rattle.cap_account.proofs.Stocked.{part_stock}
use Rattle.cap_owners_laws.specs.Owned.{IsTold}
use Rattle.cap_owners_walks_laws.proofs.Parts.Pieces.{more-told}
use Rattle.cap_owners_walks_laws.proofs.Passes.Bindings.{IsBoundIn, slot-binds}
use Rattle.cap_owners_walks_laws.proofs.Passes.Names.{NamesSo, IsShaped, shaped-so, SharesBound, met-facts}
use Rattle.cap_owners_walks_laws.proofs.Passes.Elements.{IsAskedValue, asked_value, asked-so, asked-met-so, asked-wildcards}
use Rattle.cap_owners_walks_laws.proofs.Passes.Takes.{AreNameTerms, taking_on}
use Rattle.cap_owners_walks_laws.proofs.Passes.Steps.{node-wide, AtNode, Passed, item-step}
use Rattle.cap_owners_walks_laws.proofs.Passes.Plain.{Starting, Wide, Steps, named_top}

module _ (p : Checked) (ks : List ℕ) (T : Table) (next : ℤ) (lim : Holding) (j : Job)
    (vs : List NameValue) (s : PlainState) (c : Stock) (top : Taking) (k way : ℕ)
    (cs : List Cert) (place : Place) (n r m : ℕ) (asked : Asked) (more : Items) (kids : PlainTrees)
    (f : Starting p ks T next lim j vs s c top (item (atom place n r m asked) more)) where
  abbrev env : PlainEnv
  env = env_at s j.env

  abbrev of_atom : Job
  of_atom = with_items j (item (atom place n r m asked) more)

  abbrev Here : List PlainGoal → Type 0
  Here =
      AtNode p ks T next j (atom place n r m asked) more (by_guard k way cs) kids vs (valuation vs)
      s c top

  abbrev pub Found : Type 0
  Found =
      PieceFound p.program ks T of_atom (valuation vs) s c f.start.ready f.start.backed Here k n r m
      asked more

  abbrev bs : List Bring
  bs = piece_brings (is_open asked env) (slice_get s.guards k)

  -- the value by which the atom is met, and those that are new; and what is known of them
  pub record Value (g : Found) (ns : List NameValue) : Type 0 where
    pub value_is : NameValue
    pub new : List NameValue
    pub found_it : atom_met vs ns g.piece.form (asked_reading env asked) ≡ traced value_is
    pub new_is : vs ++ new_share asked (asked_reading env asked) value_is ≡ new
    pub alike : Alike (Old s) (valuation vs) (valuation new)
    pub brings : Brings (valuation new) (length s.sorts) bs
    pub sorted : AllZip FitsSort g.after.sorts new
    pub terms : AreNameTerms g.after.sorts g.later
    pub names :
        NamesSo j.scope new g.later
        (met (asked_reading env asked) value_is (record top.fill { names = ns })).names
    pub keeps : SharesBound j.scope vs env → SharesBound j.scope new g.later
    pub by : List NameValue
    pub term : Linear
    pub is_value : IsAskedValue asked (valuation by) term value_is
    pub wants : Wants (valuation by) (asked_of asked term) g.taken

  abbrev piece_top : List NameValue → NameValue → Part → Taking
  piece_top ns y q = record {
    fill = met (asked_reading env asked) y (record top.fill { names = ns });
    part = q;
  }

  abbrev PiecePasses : List NameValue → Type 0
  PiecePasses ns =
      (enter : Interpreting) (w : Walk) (under : List Taking) →
      pass_task enter p.program s (by_guard k way cs)
      (to_take (item (atom place n r m asked) more) j.env j.most j.statement) j.tasks
      (taking_on p ks vs top under w)
      ≡ pass_piece p.program s env k r m asked (named_top p ks T next lim j vs s c top ns)
      (taking_on p ks vs top under w)

  -- by what is computed
  piece-by :
      (g : Found) (ns : List NameValue) → PiecePasses ns → (enter : Interpreting) (w : Walk)
      (under : List Taking) (a : Traced ℤ) (y : Traced NameValue) →
      number_in vs g.piece.region ≡ a →
      atom_met vs ns g.piece.form (asked_reading env asked) ≡ y →
      pass_task enter p.program s (by_guard k way cs)
      (to_take (item (atom place n r m asked) more) j.env j.most j.statement) j.tasks
      (taking_on p ks vs top under w)
      ≡ (a >>= λ a. y >>= λ y. asked_element asked y >>= λ e.
      with_more top.part a (atom_guard p.program r m e) >>= λ q.
      on 0 (taking_on p ks (vs ++ new_share asked (asked_reading env asked) y)
      (piece_top ns y q) under w))
  piece-by g ns pass enter w under a y ea ey =
      pass enter w under
      ∙ ap (λ o. found o >>= λ d. number_in vs d.region >>= λ a.
      atom_met vs ns d.form (asked_reading env asked) >>= λ y. asked_element asked y >>= λ e.
      with_more top.part a (atom_guard p.program r m e) >>= λ q.
      on 0 (taking_on p ks (vs ++ new_share asked (asked_reading env asked) y)
      (piece_top ns y q) under w)) g.at
      ∙ (λ i. ea i >>= λ a. ey i >>= λ y. asked_element asked y >>= λ e.
      with_more top.part a (atom_guard p.program r m e) >>= λ q.
      on 0 (taking_on p ks (vs ++ new_share asked (asked_reading env asked) y)
      (piece_top ns y q) under w))

  module _ (g : Found) (ns : List NameValue) (x : Value g ns) where
    abbrev named :
        ItemTaken p.program ks T of_atom (valuation vs) s c Here bs (atom place n r m asked) more
    named =
        item-named p.program ks T of_atom (valuation vs) s c bs (valuation x.new) x.alike x.brings
        Here (atom place n r m asked) more
        (piece-goes p.program ks T of_atom (valuation vs) s c f.start.ready f.start.backed Here k
        place n r m asked more g)

    -- the guards that are taken are beside those of the part
    part-has-room :
        (a : ℤ) (e : Element) → number_in vs g.piece.region ≡ traced a → e ≡ g.taken →
        guard_stock a (Some (atom_guard p.program r m e)) ≡ named.head.taken
    part-has-room a e ea is =
        let pp = p.program in
        let q = g.piece in
        let o = all-at (PieceOver (Usable ks s.sorts)) s.guards k q
        f.start.ready.grounded.pieces_over g.at in
        let at : a ≡ value g.w.whole q.region =
        number-is vs q.region a ea
        ∙ sym (usable-alike ks s (valuation vs) g.w g.alike q.region o.0) in
        let there = value g.w.whole q.region in
        ap (λ z. guard_stock z (Some (atom_guard pp r m e))) at
        ∙ ap (λ y. guard_stock there (Some (atom_guard pp r m y))) is
        ∙ sym (ap (λ b. guard_stock there (Some (atom_guard pp r b g.taken))) g.of_atom)
        ∙ sym (ap (λ b. guard_stock there (Some (atom_guard pp b q.atom g.taken))) g.of_kind)

    piece-composes :
        (a : ℤ) (h : Mark) → guard_stock a (Some h) ≡ named.head.taken →
        join_marks p.program (Some (guard_at top.part a)) (Some h) ≢ None
    piece-composes a h e none =
        let pp = p.program in
        let q = part_stock top.part in
        let le = inside-both pp q q named.head.taken c (inside-same pp q)
        (inside-trans pp named.head.taken (both pp named.head.left named.head.taken) c
        (inside-second pp named.head.left named.head.taken) named.head.apart) in
        part-some pp ((both pp q named.head.taken).guards a) (lim a)
        (part-trans pp ((both pp q named.head.taken).guards a) ((both pp q c).guards a) (lim a)
        (inside-guards pp (both pp q named.head.taken) (both pp q c) le a) (f.guards a))
        (f.start.composes a)
        (ap (λ (t : Stock). join_marks pp (q.guards a) (t.guards a)) (sym e)
        ∙ ap (join_marks pp (q.guards a)) (alone-here a (Some h) a refl) ∙ none)

    piece-passed :
        PiecePasses ns → (a : ℤ) (e : Element) (q : Part) → number_in vs g.piece.region ≡ traced a →
        asked_element asked x.value_is ≡ traced e →
        with_more top.part a (atom_guard p.program r m e) ≡ traced q → e ≡ g.taken →
        part_stock q ≡ both p.program (part_stock top.part)
        (guard_stock a (Some (atom_guard p.program r m e))) →
        Passed p ks T next j (atom place n r m asked) more (by_guard k way cs) kids vs
        (valuation vs) s c top bs named
    piece-passed pass a e q ea ee eq is put =
        let pp = p.program in
        let here = at-env
        (record g.after { guards = left_pieces g.after.guards k g.piece g.left }) j.env g.later
        (there-left pp ks T of_atom (valuation vs) s c f.start.ready f.start.backed Here k n r m
        asked more g) in
        record {
          values = x.new;
          valued = refl;
          sorted = x.sorted;
          terms = subst (AreNameTerms g.after.sorts) (sym here) x.terms;
          now = piece_top ns x.value_is q;
          names = ap (values_in (valuation x.new)) here ∙ x.names.same;
          have = x.names.fits;
          binds_it = λ i has e.
              subst (λ d. IsBoundIn d i) (sym here)
              (subst (λ d. IsBoundIn d i) (sym g.later_is)
              (slot-binds env (asked_slot asked) (open_term asked g.piece.form (length s.sorts)) i
              (f.start.ready.placed.room i Perm has) e));
          shaped =
              subst (λ d. IsShaped j.scope vs env x.new d (piece_top ns x.value_is q).fill.names)
              (sym here)
              (shaped-so j.scope vs env x.new g.later (piece_top ns x.value_is q).fill.names
              (new_share asked (asked_reading env asked) x.value_is) (sym x.new_is) x.names
              x.keeps);
          wildcards = asked_value asked x.value_is;
          facts = [];
          more_wildcards = asked-wildcards env asked x.value_is (record top.fill { names = ns });
          more_facts =
              met-facts (asked_reading env asked) x.value_is (record top.fill { names = ns })
              ∙ sym (join-nil top.fill.facts);
          met = λ u l b y z under. (
            asked-met-so b asked g.taken _ (valuation x.by) x.term x.value_is x.is_value under
                x.wants,
            refl,
          );
          part = put ∙ ap (both pp (part_stock top.part)) (part-has-room a e ea is);
          passes = λ enter w under.
              piece-by g ns pass enter w under (traced a) (traced x.value_is) ea x.found_it
              ∙ ap (λ o. o >>= λ e. with_more top.part a (atom_guard pp r m e) >>= λ q.
              on 0 (taking_on p ks
              (vs ++ new_share asked (asked_reading env asked) x.value_is)
              (piece_top ns x.value_is q) under w)) ee
              ∙ ap (λ o. o >>= λ q.
              on 0 (taking_on p ks
              (vs ++ new_share asked (asked_reading env asked) x.value_is)
              (piece_top ns x.value_is q) under w)) eq
              ∙ ap (λ us. on 0 (taking_on p ks us (piece_top ns x.value_is q) under w))
              x.new_is;
        }

    abbrev Answer : Type 0
    Answer =
        Wide p ks T next lim j vs s c top (item (atom place n r m asked) more)
        (tree (node (by_guard k way cs) kids) no_trees)
        ⊎ Steps p ks T next lim j vs s c top (item (atom place n r m asked) more)
        (tree (node (by_guard k way cs) kids) no_trees)

    -- by the part that gets them
    piece-put :
        PiecePasses ns → (a : ℤ) (e : Element) → number_in vs g.piece.region ≡ traced a →
        asked_element asked x.value_is ≡ traced e → e ≡ g.taken → (o : Traced Part) →
        with_more top.part a (atom_guard p.program r m e) ≡ o →
        IsTold (λ q. part_stock q ≡ both p.program (part_stock top.part)
        (guard_stock a (Some (atom_guard p.program r m e)))) o → Answer
    piece-put pass a e ea ee is untold eq put = absurd put
    piece-put pass a e ea ee is past_width eq put =
        inl (λ seating enter w under below.
        node-wide p ks T next seating enter (atom place n r m asked) more j (by_guard k way cs) kids s
        (taking_on p ks vs top under w)
        (piece-by g ns pass enter w under (traced a) (traced x.value_is) ea x.found_it
        ∙ ap (λ o. o >>= λ e. with_more top.part a (atom_guard p.program r m e) >>= λ q.
        on 0 (taking_on p ks
        (vs ++ new_share asked (asked_reading env asked) x.value_is)
        (piece_top ns x.value_is q) under w)) ee
        ∙ ap (λ o. o >>= λ q.
        on 0 (taking_on p ks
        (vs ++ new_share asked (asked_reading env asked) x.value_is)
        (piece_top ns x.value_is q) under w)) eq))
    piece-put pass a e ea ee is (traced q) eq put =
        inr (item-step p ks T next j (atom place n r m asked) more (by_guard k way cs) kids vs
        (valuation vs) s c top
        (fits-more p.program j.scope (atom place n r m asked) more f.start.fits) bs named
        (piece-passed pass a e q ea ee eq is put))

    -- by the element that is asked for
    piece-asked :
        PiecePasses ns → (a : ℤ) → number_in vs g.piece.region ≡ traced a → (o : Traced Element) →
        asked_element asked x.value_is ≡ o → IsTold (λ e. e ≡ g.taken) o → Answer
    piece-asked pass a ea untold eo so = absurd so
    piece-asked pass a ea past_width eo so =
        inl (λ seating enter w under below.
        node-wide p ks T next seating enter (atom place n r m asked) more j (by_guard k way cs) kids s
        (taking_on p ks vs top under w)
        (piece-by g ns pass enter w under (traced a) (traced x.value_is) ea x.found_it
        ∙ ap (λ o. o >>= λ e. with_more top.part a (atom_guard p.program r m e) >>= λ q.
        on 0 (taking_on p ks
        (vs ++ new_share asked (asked_reading env asked) x.value_is)
        (piece_top ns x.value_is q) under w)) eo))
    piece-asked pass a ea (traced e) eo so =
        piece-put pass a e ea eo so (with_more top.part a (atom_guard p.program r m e)) refl
        (more-told p.program top.part a (atom_guard p.program r m e)
        (piece-composes a (atom_guard p.program r m e) (part-has-room a e ea so)))

    -- by the region's number
    piece-at :
        PiecePasses ns → (o : Traced ℤ) → number_in vs g.piece.region ≡ o → Answer
    piece-at pass untold eo = absurd (number-told vs g.piece.region eo)
    piece-at pass past_width eo =
        inl (λ seating enter w under below.
        node-wide p ks T next seating enter (atom place n r m asked) more j (by_guard k way cs) kids s
        (taking_on p ks vs top under w)
        (piece-by g ns pass enter w under past_width
        (atom_met vs ns g.piece.form (asked_reading env asked)) eo refl))
    piece-at pass (traced a) eo =
        piece-asked pass a eo (asked_element asked x.value_is) refl
        (asked-so x.by asked x.term x.value_is g.taken x.is_value x.wants)

  -- where a value is found, or is too wide
  pub piece-step :
      (g : Found) (ns : List NameValue) → PiecePasses ns →
      ((atom_met vs ns g.piece.form (asked_reading env asked) ≡ past_width) ⊎ Value g ns) →
      Wide p ks T next lim j vs s c top (item (atom place n r m asked) more)
      (tree (node (by_guard k way cs) kids) no_trees)
      ⊎ Steps p ks T next lim j vs s c top (item (atom place n r m asked) more)
      (tree (node (by_guard k way cs) kids) no_trees)
  piece-step g ns pass (inr x) = piece-at g ns x pass (number_in vs g.piece.region) refl
  piece-step g ns pass (inl wide) = by (number_in vs g.piece.region) refl
    where
      by :
          (o : Traced ℤ) → number_in vs g.piece.region ≡ o →
          Wide p ks T next lim j vs s c top (item (atom place n r m asked) more)
          (tree (node (by_guard k way cs) kids) no_trees)
          ⊎ Steps p ks T next lim j vs s c top (item (atom place n r m asked) more)
          (tree (node (by_guard k way cs) kids) no_trees)
      by untold eo = absurd (number-told vs g.piece.region eo)
      by past_width eo =
          inl (λ seating enter w under below.
          node-wide p ks T next seating enter (atom place n r m asked) more j (by_guard k way cs) kids s
          (taking_on p ks vs top under w)
          (piece-by g ns pass enter w under past_width past_width eo wide))
      by (traced a) eo =
          inl (λ seating enter w under below.
          node-wide p ks T next seating enter (atom place n r m asked) more j (by_guard k way cs) kids s
          (taking_on p ks vs top under w)
          (piece-by g ns pass enter w under (traced a) past_width eo wide))
