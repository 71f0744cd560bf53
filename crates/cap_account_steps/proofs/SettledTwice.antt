-- Regions are closed and made, and then more of them are.
use Rattle.std.proofs.Common.{◌≡◌, ◌≢◌, inl, inr, ◌+◌, ℤ, List, [], ◌∷◌, ◌++◌, length, Option, Some, None, refl, sym, ap, ◌∙◌, subst, arith}
use Rattle.std.specs.List.{AllByRecursion}
use Rattle.cap_prog.specs.Program.{PlainProgram}
use Rattle.cap_machine_accounts.specs.Accounts.{EachTwo}
use Rattle.cap_account_resources.specs.Parts.{Known, Table}
use Rattle.cap_account_resources.proofs.Lists.{none-some, all-both, all-more, map-join, Among, among-left, among-right, among-either}
use Rattle.cap_account_resources.proofs.Monoid.{atom}
use Rattle.cap_account_resources.proofs.Monoid as monoid
use Rattle.cap_account_resources.proofs.Stocks.{Stock, both, Inside, same-stock, reordered, inside-trans, inside-beside}
use Rattle.cap_account_resources.proofs.Tables.{KeepsStates, KeepsTypes, new_guards, new-guards-twice}
use Rattle.cap_account_resources.proofs.Owners.{Owner, owned, owned-join, numbers_of}
use Rattle.cap_account_states.proofs.Scopes.{length-join}
use Rattle.cap_account_assertions.proofs.Asserted.{region-kept}
use Rattle.cap_account_assertions.proofs.Laws.{IsOwner}
use Rattle.cap_account_assertions.proofs.NewRegions.{none-of-both}
use Rattle.cap_account_steps.proofs.Worlds.{HasMoved, Settles, SettlesBy}
use Rattle.cap_account_steps.proofs.SettledTables.{told_of, open_of, stateless, settled-types, settled-states, unsettled}

-- each two of two lists, and each of the one with each of the other
each-two-join :
    {X : Type 0} (R : X → X → Type 0) (xs ys : List X) → EachTwo R xs → EachTwo R ys →
    AllByRecursion (λ x. AllByRecursion (R x) ys) xs → EachTwo R (xs ++ ys)
each-two-join R [] ys h k m = k
each-two-join R (x ∷ xs) ys h k m =
    (all-both (R x) xs ys h.0 m.0, each-two-join R xs ys h.1 k m.1)

-- by a table that keeps known states
owner-kept :
    (p : PlainProgram) (T U : Table) → KeepsStates T U → (r : Owner) → IsOwner p T r → IsOwner p U r
owner-kept p T U f r o = record {
  known = f r.number r.kind r.args r.state o.known;
  owns = region-kept p T U f r.number r.kind r.args r.state r.stock o.owns;
}

abbrev Apart : Owner → Owner → Type 0
Apart r s = r.number ≢ s.number

module _ (p : PlainProgram) (V W T U : Table) (part : Stock) (as' bs : List ℤ)
    (cs cs2 ms ms2 : List Owner) (st : Settles p V W T part as' cs ms)
    (st2 : Settles p V T U part bs cs2 ms2) where
  -- the table between tells a state of the first owners' regions, and none of the second ones'
  abbrev Between : (Owner → Option Known) → Owner → Type 0
  Between o r = T r.number ≡ o r

  apart-of :
      (o : Owner → Option Known) → ((r s : Owner) → Some (told_of r) ≡ o s → ⊥) →
      (rs ss : List Owner) → AllByRecursion (IsOwner p T) rs → AllByRecursion (Between o) ss →
      AllByRecursion (λ r. AllByRecursion (Apart r) ss) rs
  apart-of o ne rs ss h k =
      all-more (IsOwner p T) (λ r. AllByRecursion (Apart r) ss)
      (λ r i. all-more (Between o) (Apart r)
      (λ s j e. ne r s (sym i.known ∙ ap T e ∙ j)) ss k) rs h

  -- what has no state between was so at first
  first-too :
      (o : Owner → Option Known) → ((r s : Owner) → Some (told_of r) ≡ o s → ⊥) →
      (ss : List Owner) → AllByRecursion (Between o) ss →
      AllByRecursion (λ s. W s.number ≡ o s) ss
  first-too o ne ss k =
      all-more (Between o) (λ s. W s.number ≡ o s)
      (λ s j.
      sym (unsettled p V W T part as' cs ms st s.number (λ r u. ne r s (sym u ∙ j))) ∙ j) ss k

  not-open : (r s : Owner) → Some (told_of r) ≡ Some (open_of s) → ⊥
  not-open r s e = stateless s.kind r.kind s.args r.args r.state (sym e)

  not-absent : (r s : Owner) → Some (told_of r) ≡ None → ⊥
  not-absent r s e = none-some (sym e)

  kept : (rs : List Owner) → AllByRecursion (IsOwner p T) rs → AllByRecursion (IsOwner p U) rs
  kept rs h =
      all-more (IsOwner p T) (IsOwner p U)
      (owner-kept p T U (settled-states p V T U part bs cs2 ms2 st2)) rs h

  pub settles-join : Settles p V W U part (as' ++ bs) (cs ++ cs2) (ms ++ ms2)
  settles-join =
      let opens = λ (r : Owner). Some (open_of r) in
      let none : Owner → Option Known = λ r. None in
      record {
        moved = all-both (HasMoved p V part) cs cs2 st.moved st2.moved;
        were_open =
            all-both (λ r. W r.number ≡ Some (open_of r)) cs cs2 st.were_open
            (first-too opens not-open cs2 st2.were_open);
        closed_owners =
            all-both (IsOwner p U) cs cs2 (kept cs st.closed_owners) st2.closed_owners;
        made_owners = all-both (IsOwner p U) ms ms2 (kept ms st.made_owners) st2.made_owners;
        closed_differ =
            each-two-join Apart cs cs2 st.closed_differ st2.closed_differ
            (apart-of opens not-open cs cs2 st.closed_owners st2.were_open);
        made_differ =
            each-two-join Apart ms ms2 st.made_differ st2.made_differ
            (apart-of none not-absent ms ms2 st.made_owners st2.absent);
        numbers =
            map-join (λ r. r.number) cs cs2 ∙ ap (λ ns. ns ++ numbers_of cs2) st.numbers
            ∙ ap (λ ns. as' ++ ns) st2.numbers;
        absent =
            all-both (λ r. W r.number ≡ None) ms ms2 st.absent
            (first-too none not-absent ms2 st2.absent);
        others = λ n f g.
            let c = none-of-both n cs cs2 f in
            let m = none-of-both n ms ms2 g in
            st2.others n c.1 m.1 ∙ st.others n c.0 m.0;
      }

-- ---- and with what is held

-- for numbers that are among them
abbrev pub settles-for :
    (p : PlainProgram) (V W : Table) (part held kept : Stock) (ns ms : List ℤ) →
    ((n : ℤ) → Among n ns → Among n ms) → length ms ≡ length ns →
    SettlesBy p V W part held ms kept → SettlesBy p V W part held ns kept
settles-for p V W part held kept ns ms f e b = record {
  U = b.U;
  opened = b.opened;
  all_of_them = λ n a. b.all_of_them n (f n a);
  count = b.count ∙ e;
  closed = b.closed;
  made = b.made;
  settles = b.settles;
  budget = b.budget;
}

module _ (p : PlainProgram) (W T U : Table) (types : KeepsTypes W T) (types2 : KeepsTypes T U) where
  new-twice : both p (new_guards p W T) (new_guards p T U) ≡ new_guards p W U
  new-twice =
      same-stock (both p (new_guards p W T) (new_guards p T U)) (new_guards p W U)
      (λ a z. omega arith) (new-guards-twice p W T U types types2)

  -- what is kept at last, and what all these owners have, is out of what was held at first
  pub budget-twice :
      (held left kept : Stock) (cs cs2 ms ms2 : List Owner) →
      Inside p (both p left (both p (owned p cs) (owned p ms))) (both p held (new_guards p W T)) →
      Inside p (both p kept (both p (owned p cs2) (owned p ms2)))
      (both p left (new_guards p T U)) →
      Inside p (both p kept (both p (owned p (cs ++ cs2)) (owned p (ms ++ ms2))))
      (both p held (new_guards p W U))
  budget-twice held left kept cs cs2 ms ms2 h k =
      let o = owned p in
      let given = both p (o cs) (o ms) in
      let last = both p (o cs2) (o ms2) in
      let g = new_guards p W T in
      let g2 = new_guards p T U in
      let plus = monoid.both in
      let start = both p kept (both p (o (cs ++ cs2)) (o (ms ++ ms2))) in
      let apart : start ≡ both p (both p kept last) given =
      ap (λ q. both p kept (both p q (o (ms ++ ms2)))) (owned-join p cs cs2)
      ∙ ap (λ q. both p kept (both p (both p (o cs) (o cs2)) q)) (owned-join p ms ms2)
      ∙ reordered p (kept ∷ o cs ∷ o cs2 ∷ o ms ∷ o ms2 ∷ [])
      (plus (atom 0) (plus (plus (atom 1) (atom 2)) (plus (atom 3) (atom 4))))
      (plus (plus (atom 0) (plus (atom 2) (atom 4))) (plus (atom 1) (atom 3))) refl in
      let turn : both p (both p left g2) given ≡ both p (both p left given) g2 =
      reordered p (left ∷ g2 ∷ given ∷ []) (plus (plus (atom 0) (atom 1)) (atom 2))
      (plus (plus (atom 0) (atom 2)) (atom 1)) refl in
      let end : both p (both p held g) g2 ≡ both p held (new_guards p W U) =
      reordered p (held ∷ g ∷ g2 ∷ []) (plus (plus (atom 0) (atom 1)) (atom 2))
      (plus (atom 0) (plus (atom 1) (atom 2))) refl ∙ ap (both p held) new-twice in
      subst (λ q. Inside p q (both p held (new_guards p W U))) (sym apart)
      (inside-trans p (both p (both p kept last) given) (both p (both p left g2) given)
      (both p held (new_guards p W U))
      (inside-beside p (both p kept last) (both p left g2) given k)
      (subst (λ q. Inside p q (both p held (new_guards p W U))) (sym turn)
      (subst (Inside p (both p (both p left given) g2)) end
      (inside-beside p (both p left given) (both p held g) g2 h))))

abbrev pub settles-again :
    (p : PlainProgram) (V W : Table) (part held left kept : Stock) (ns ms : List ℤ) →
    (a : SettlesBy p V W part held ns left) → SettlesBy p V a.U part left ms kept →
    SettlesBy p V W part held (ns ++ ms) kept
settles-again p V W part held left kept ns ms a b = record {
  U = b.U;
  opened = a.opened ++ b.opened;
  all_of_them = λ n i.
      elim (among-either n ns ms i) [
        | inl j ↦ among-left n a.opened b.opened (a.all_of_them n j)
        | inr j ↦ among-right n a.opened b.opened (b.all_of_them n j)
      ];
  count =
      length-join a.opened b.opened ∙ ap (λ n. n + length b.opened) a.count
      ∙ ap (λ n. length ns + n) b.count ∙ sym (length-join ns ms);
  closed = a.closed ++ b.closed;
  made = a.made ++ b.made;
  settles =
      settles-join p V W a.U b.U part a.opened b.opened a.closed b.closed a.made b.made a.settles
      b.settles;
  budget =
      budget-twice p W a.U b.U
      (settled-types p V W a.U part a.opened a.closed a.made a.settles)
      (settled-types p V a.U b.U part b.opened b.closed b.made b.settles) held left kept a.closed
      b.closed a.made b.made a.budget b.budget;
}
