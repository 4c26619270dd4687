-- "A named node that doesn't exist, or is a decision, gets 13.": and so does any node to which no end can belong. Assumes nothing.
use mathlib.Core.Path.{◌≡◌, refl, ap, ap₂, subst, ◌∙◌}
use Prim.Native.Nat.{ℕ, ◌≤◌}
use native.Mathlib.Omega.{arith}
use mathlib.Core.Bool.{Bool, true, false, not, ◌&&◌}
use mathlib.Core.Logic.{⊎_elim}
use mathlib.Core.List.{List, [], ◌∷◌}
use lib.Dec.{ltb, eqb}
use borrow.Author.Tests.{lt-ltb, le-ltb, eqb-true, not-true}
use Rattle.paper.specs.Lists.{any, ◌⇒◌}
use Rattle.paper.specs.Limits.{limits}
use Rattle.paper.specs.Answers.{Answer, refused, good}
use Rattle.paper.specs.Table.{nodes, kind, owner, is_decision, is_pin, is_control_node, one_of, is_object, may_enter}
use Rattle.paper.specs.Offers.{Offer, last_edge, Terms, goes_over, offers, is_end, target_of, belongs}
use Rattle.paper.specs.Choices.{Board, board, taken_ends, acceptable}
use Rattle.paper.specs.Operations.{named, wanted, PickOn, PickIf, Pick}
use Rattle.paper.proofs.Bools.{never, and-true, and_both, and_never, or-true, if_true, false_if}
use Rattle.paper.proofs.Members.{In, none_any}
use Rattle.paper.proofs.Lists.{all-below}
use Rattle.paper.proofs.Tables.{GoodTable, table-good}
use Rattle.paper.proofs.Origins.{in_offers}
use Rattle.paper.proofs.Sameness.{on-last}
use Rattle.paper.proofs.Ends.{in_ends}
use Rattle.paper.proofs.Taken.{taken_in}
use Rattle.paper.proofs.Boards.{GoodBoard, board-good}

-- kinds to which an end can belong: actions, input pins, buffers, outgoing parameters and finals
abbrev pub end_kind : ℕ → Bool
end_kind k = one_of (2 ∷ 3 ∷ 5 ∷ 7 ∷ 12 ∷ 13 ∷ []) k

-- a node of the table to which an end can belong
abbrev pub can_have_end : List ℕ → ℕ → Bool
can_have_end t n = ltb n (nodes t) && end_kind (kind t n)

-- an edge that enters no control node enters a node of such a kind
entered : (b : Bool) (k : ℕ) → k ≤ 13 → may_enter b k ≡ true → is_control_node k ≡ false → end_kind k ≡ true
entered b k l h c = if_true (may_enter b k && not (is_control_node k)) _ (by b) (and_both _ _ h (ap not c))
  where
    by : (b : Bool) → (may_enter b k && not (is_control_node k) ⇒ end_kind k) ≡ true
    by true = all-below (λ k. may_enter true k && not (is_control_node k) ⇒ end_kind k) 14 refl k (omega arith)
    by false = all-below (λ k. may_enter false k && not (is_control_node k) ⇒ end_kind k) 14 refl k (omega arith)

module _ (t b : List ℕ) (w : Terms) (d : Board) (h : board t b w ≡ good d) where
  abbrev facts : GoodBoard t b w d
  facts = board-good t b w d h

  abbrev fine : GoodTable t limits
  fine = table-good t limits facts.table-fine

  -- an end's target is such a node, and so is the action of a pin
  belongs-there : (n : ℕ) (o : Offer) → In o d.all_ends → belongs t n o ≡ true → can_have_end t n ≡ true
  unfolding belongs is_end
  belongs-there n o k y =
      let r = in_ends t (offers t (goes_over w) d.current) (subst (λ (os : List Offer). In o os) facts.facts.is-ends k) in
      let s = in_offers t (goes_over w) d.current r.0 in
      let e : last_edge o ≡ s.0 = on-last t (goes_over w) d.current limits.longest_path s.0 s.2 in
      let f = fine.edge (last_edge o) (omega (arith, s.1)) in
      let p = fine.node (target_of t o) f.target_fits in
      ⊎_elim
      (λ q. subst (λ (i : ℕ). can_have_end t i ≡ true) (eqb-true _ _ q)
      (and_both _ _ (lt-ltb _ _ f.target_fits) (entered (is_object t (last_edge o)) (kind t (target_of t o)) p.kind_to f.may-enter (not-true _ r.1))))
      (λ q. let u = and-true (is_pin (kind t (target_of t o))) _ q in
      let v = and-true (ltb (owner t (target_of t o)) (nodes t)) _ (rw u.0 at p.owner-fine) in
      subst (λ (i : ℕ). can_have_end t i ≡ true) (eqb-true _ _ u.1) (and_both _ _ v.0 (ap end_kind (eqb-true (kind t (owner t (target_of t o))) 2 v.1))))
      (or-true (eqb (target_of t o) n) _ y)

  module _ (n : ℕ) (is-named : named n ≡ true) where
    none-wanted : can_have_end t n ≡ false → (c : ℕ) → wanted d n c ≡ false
    unfolding wanted
    none-wanted q c =
        let e : any (belongs d.table n) (taken_ends d c) ≡ false =
        none_any (belongs d.table n) (taken_ends d c)
        (λ o k. ap (λ (x : List ℕ). belongs x n o) facts.facts.is-table ∙ false_if _ (λ y. never _ (belongs-there n o (taken_in d c k) y) q)) in
        rw (is-named, e) (and_never (acceptable d c))

    on_13 : can_have_end t n ≡ false → (a : Answer (List ℕ)) → PickOn d n a → a ≡ refused 13 n
    on_13 q (refused k p) r = ap₂ refused r.0 r.1
    on_13 q (good ks) r = never (wanted d n r.0) r.1.passes (none-wanted q r.0)

    -- a named node to which no end can belong
    pub pick_13 : can_have_end t n ≡ false → (a : Answer (List ℕ)) → Pick t b w n a → a ≡ refused 13 n
    unfolding Pick
    pick_13 q a r = let s : PickIf (good d) n a = rw h at r in on_13 q a s

    -- "that doesn't exist"
    pub pick_no_node : nodes t ≤ n → (a : Answer (List ℕ)) → Pick t b w n a → a ≡ refused 13 n
    pick_no_node l = pick_13 (rw (le-ltb n (nodes t) l))

    -- "or is a decision"
    pub pick_decision : is_decision (kind t n) ≡ true → (a : Answer (List ℕ)) → Pick t b w n a → a ≡ refused 13 n
    pick_decision e = pick_13 (ap (λ (b : Bool). ltb n (nodes t) && b) (ap end_kind (eqb-true (kind t n) 8 e)) ∙ and_never (ltb n (nodes t)))
