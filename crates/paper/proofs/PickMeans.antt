-- What pick's answer means to a judge, on any board: what it picks can be taken, nothing can be added to it, no other comes before it, an empty answer means
-- that nothing can be taken, and 13 that nothing can be taken for the node. A set of ends is a number below 2 ^ how_many d. Assumes nothing.
use mathlib.Core.Path.{◌≡◌, sym, ap, ◌∙◌}
use Prim.Native.Nat.{ℕ, ◌^◌, ◌<◌}
use mathlib.Core.Bool.{true, false, not}
use mathlib.Core.Logic.{◌⊎◌, ⊎_elim}
use mathlib.Core.List.{List, []}
use borrow.Author.Tests.{not-true}
use Rattle.paper.specs.Lists.{has, any}
use Rattle.paper.specs.Answers.{Answer, refused, good}
use Rattle.paper.specs.Offers.{Terms, belongs}
use Rattle.paper.specs.Choices.{Board, board, how_many, end, taken, taken_ends, acceptable, Before, FirstOf}
use Rattle.paper.specs.Operations.{named, wanted, PickOn, PickIf, Pick}
use Rattle.paper.proofs.Bools.{never, and-true, and_both, or-true, or_right, true_or_false}
use Rattle.paper.proofs.Members.{In, in-none, any_in, in_any, in_each, each_in, in_keep-below, keep_in, below_in}
use Rattle.paper.proofs.Bits.{has-low}
use Rattle.paper.proofs.Picks.{any-wanted}

-- a set of ends that can be taken, and one of which an end belongs to node n
pub record Takable (d : Board) (x : ℕ) : Type 0 where
  pub is_set : x < 2 ^ how_many d
  pub accepted : acceptable d x ≡ true

abbrev pub HasEndOf : Board → ℕ → ℕ → Type 0
HasEndOf d n x = any (belongs d.table n) (taken_ends d x) ≡ true

module _ (d : Board) where
  -- ---- the ends that a set takes
  in_taken : (x k : ℕ) → In k (taken d x) → (k < how_many d) × (has x k ≡ true)
  unfolding taken
  in_taken x k m = in_keep-below (has x) (how_many d) m

  end-taken : (x k : ℕ) → k < how_many d → has x k ≡ true → In k (taken d x)
  unfolding taken
  end-taken x k l h = keep_in (has x) (below_in (how_many d) l) h

  -- a set that holds all that another takes has the ends of a node that the other has
  more-ends : (n c x : ℕ) → ((k : ℕ) → In k (taken d c) → has x k ≡ true) → HasEndOf d n c → HasEndOf d n x
  unfolding taken_ends
  more-ends n c x h y =
      let p = belongs d.table n in
      let a = any_in p (taken_ends d c) y in
      let r = in_each (end d) (taken d c) a.1 in
      let k = r.0 in
      let i = end-taken x k (in_taken c k r.1).0 (h k r.1) in
      in_any p (each_in (end d) i) (ap p (sym r.2) ∙ a.2)

  -- ---- what is wanted
  module _ (n x : ℕ) where
    wanted_takable : wanted d n x ≡ true → acceptable d x ≡ true
    unfolding wanted
    wanted_takable h = (and-true (acceptable d x) _ h).0

    wanted-end : named n ≡ true → wanted d n x ≡ true → HasEndOf d n x
    unfolding wanted
    wanted-end e h =
        ⊎_elim (λ q. never (named n) e (not-true (named n) q)) (λ q. q) (or-true (not (named n)) _ (and-true (acceptable d x) _ h).1)

    with-end-wanted : acceptable d x ≡ true → HasEndOf d n x → wanted d n x ≡ true
    unfolding wanted
    with-end-wanted a h = and_both (acceptable d x) _ a (or_right (not (named n)) _ h)

module _ (t b : List ℕ) (w : Terms) (d : Board) (on : board t b w ≡ good d) (n : ℕ) where
  on-board : (a : Answer (List ℕ)) → Pick t b w n a → PickOn d n a
  unfolding Pick
  on-board a h = let r : PickIf (good d) n a = rw on at h in r

  -- ---- an answer
  module _ (ks : List ℕ) (answer : Pick t b w n (good ks)) where
    picked : (c : ℕ) × FirstOf (wanted d n) (how_many d) c × (ks ≡ taken d c)
    picked = on-board (good ks) answer

    -- the set whose ends are written
    pub picked_set : ℕ
    picked_set = picked.0

    -- what is picked can be taken, its ends are those written, and if a node is named, it has an end of it
    pub pick_can_be_taken : Takable d picked_set × (ks ≡ taken d picked_set) × (named n ≡ true → HasEndOf d n picked_set)
    unfolding picked_set
    pick_can_be_taken = (
      record { is_set = picked.1.is_set; accepted = wanted_takable d n picked.0 picked.1.passes },
      picked.2,
      λ e. wanted-end d n picked.0 e picked.1.passes,
    )

    -- a pick for a node is never later than any other acceptable set with an end of it
    pub pick_is_never_later : (x : ℕ) → Takable d x → HasEndOf d n x → (x ≡ picked_set) ⊎ Before picked_set x
    unfolding picked_set
    pick_is_never_later x a h = picked.1.before_others x a.is_set (with-end-wanted d n x a.accepted h)

    -- nor, where none is named, than any acceptable set
    pub unnamed_pick_is_never_later : named n ≡ false → (x : ℕ) → Takable d x → (x ≡ picked_set) ⊎ Before picked_set x
    unfolding picked_set
    unnamed_pick_is_never_later e x a = picked.1.before_others x a.is_set (any-wanted d n x e a.accepted)

    -- nothing can be added to a pick, named or not: an acceptable set that has all its ends has no other
    pub nothing_can_be_added : (x : ℕ) → Takable d x → ((k : ℕ) → In k ks → has x k ≡ true) → taken d x ≡ ks
    nothing_can_be_added x a h =
        ⊎_elim (λ e. ap (taken d) e ∙ sym picked.2) (λ p. never (has x p.lowest-end) (h p.lowest-end (held p)) p.not-held)
        (picked.1.before_others x a.is_set want)
      where
        held : (p : Before picked.0 x) → In p.lowest-end ks
        held p = rw picked.2 (end-taken d picked.0 p.lowest-end (has-low picked.0 (how_many d) p.lowest-end picked.1.is_set p.held) p.held)

        want : wanted d n x ≡ true
        want =
            ⊎_elim
            (λ e. with-end-wanted d n x a.accepted (more-ends d n picked.0 x (λ k m. h k (rw picked.2 m)) (wanted-end d n picked.0 e picked.1.passes)))
            (λ e. any-wanted d n x e a.accepted) (true_or_false (named n))

  -- ---- the empty answer: no end at all can be taken
  pub empty_means_nothing_can_be_taken : Pick t b w n (good []) → (x : ℕ) → Takable d x → taken d x ≡ []
  empty_means_nothing_can_be_taken h x a = nothing_can_be_added [] h x a (λ k m. absurd (in-none m))

  -- and where none can be taken, it is the answer
  pub nothing_to_take-is_empty : (ks : List ℕ) → ((x : ℕ) → Takable d x → taken d x ≡ []) → Pick t b w n (good ks) → ks ≡ []
  nothing_to_take-is_empty ks f h = let r = pick_can_be_taken ks h in r.1 ∙ f (picked_set ks h) r.0

  -- ---- 13: no acceptable set has an end of the node
  pub refused_means_none_for_the_node : (k p : ℕ) → Pick t b w n (refused k p) → (x : ℕ) → Takable d x → HasEndOf d n x → ⊥
  refused_means_none_for_the_node k p h x a y =
      let r = on-board (refused k p) h in
      never (wanted d n x) (with-end-wanted d n x a.accepted y) (r.2.none-wanted x a.is_set)
