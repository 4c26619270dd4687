-- Rules and nets: what a set that obeys or passes does, over any width. Assumes nothing.
use mathlib.Core.Path.{◌≡◌, refl, sym, ap, ap₂, ◌∙◌}
use mathlib.Core.Bool.{Bool, true, false, ◌&&◌}
use mathlib.Core.List.{List, [], ◌∷◌}
use Prim.Native.Nat.{ℕ, ◌+◌, ◌^◌, ◌≤◌, ◌<◌}
use native.Mathlib.Omega.{arith}
use lib.Dec.{leb}
use borrow.Author.Tests.{le-leb, lt-leb}
use Rattle.paper.specs.Lists.{below, all, each, within, ◌⇒◌}
use Rattle.paper.specs.Choices.{FirstOf}
use Rattle.paper.proofs.Bools.{never, and-true, and_both, false_if}
use Rattle.paper.proofs.Members.{all_in, in_all, in_each, each_in, below_in, in_below}
use Rattle.pick_bounds.specs.declared.Wanted.{Wanted}
use Rattle.pick_bounds.specs.declared.Rule.{Rule}
use Rattle.paper.proofs.Counts.{all_append}
use Rattle.paper.specs.Limits.{limits}
use Rattle.pick_bounds.specs.Net.{Net, held, meets, obeys, passes, size, rivals_at, rule_at, net_of}
use Rattle.pick_bounds.proofs.Sets.{held_wider, held_most, meets-held}

-- ---- one rule
module _ (m : ℕ) (r : Rule) (x : ℕ) where
  -- it says nothing of a set that doesn't meet it
  pub obeys-apart : meets m x r.when ≡ false → obeys m r x ≡ true
  unfolding obeys
  obeys-apart h = rw h

  pub obeys_met : meets m x r.when ≡ true → obeys m r x ≡ leb r.lo (held m x r.only) && leb (held m x r.only) r.hi
  unfolding obeys
  obeys_met h = rw h

  -- it is met, and too few are had, or enough and not too many
  pub obeys-short : meets m x r.when ≡ true → leb r.lo (held m x r.only) ≡ false → obeys m r x ≡ false
  obeys-short h l = obeys_met h ∙ rw l

  pub obeys-full : meets m x r.when ≡ true → leb r.lo (held m x r.only) ≡ true → (k : ℕ) → k ≡ held m x r.only → obeys m r x ≡ leb k r.hi
  obeys-full h l k q = obeys_met h ∙ rw (l, q)

  pub obeys_facts : obeys m r x ≡ true → meets m x r.when ≡ true → (leb r.lo (held m x r.only) ≡ true) × (leb (held m x r.only) r.hi ≡ true)
  obeys_facts e h = and-true (leb r.lo (held m x r.only)) _ (sym (obeys_met h) ∙ e)

-- no set has more than 32 ends
pub obeys-free : (r : Rule) (x : ℕ) → meets 32 x r.when ≡ true → leb r.lo (held 32 x r.only) ≡ true → 32 ≤ r.hi → obeys 32 r x ≡ true
obeys-free r x h l q = obeys-full 32 r x h l (held 32 x r.only) refl ∙ le-leb (held 32 x r.only) r.hi (omega (arith, held_most 32 x r.only))

-- ---- a net in cells
module _ (net : List ℕ) (want : Wanted) (m x : ℕ) where
  abbrev enough : Bool
  enough = leb want.least (held m x want.ends)

  abbrev apart : Bool
  apart = all (λ r. obeys m r x) (each (rivals_at net) (below 20))

  abbrev lawful : Bool
  lawful = all (λ r. obeys m r x) (each (rule_at net) (below (size net)))

  -- a set passes if it has enough of what is wanted, no rivals, and obeys the rules
  passes-parts : passes m (net_of net want) x ≡ enough && (apart && lawful)
  unfolding passes net_of
  passes-parts = ap (λ (b : Bool). enough && b) (all_append (λ r. obeys m r x) (each (rivals_at net) (below 20)) (each (rule_at net) (below (size net))))

  parted : passes m (net_of net want) x ≡ true → (enough ≡ true) × (apart && lawful ≡ true)
  parted e = and-true enough (apart && lawful) (sym passes-parts ∙ e)

  pub passes-wanted : passes m (net_of net want) x ≡ true → leb want.least (held m x want.ends) ≡ true
  passes-wanted e = (parted e).0

  -- a rule as it was read
  pub obeyed : passes m (net_of net want) x ≡ true → (i : ℕ) → i < size net → (r : Rule) → r ≡ rule_at net i → obeys m r x ≡ true
  obeyed e i l r q =
      ap (λ (s : Rule). obeys m s x) q
      ∙ all_in (λ r. obeys m r x) (and-true apart lawful (parted e).1).1 (each_in (rule_at net) (below_in (size net) l))

  pub rivals_obeyed : passes m (net_of net want) x ≡ true → (k : ℕ) → k < limits.most_ends → obeys m (rivals_at net k) x ≡ true
  rivals_obeyed e k l = all_in (λ r. obeys m r x) (and-true apart lawful (parted e).1).0 (each_in (rivals_at net) (below_in 20 l))

  pub passes-all : want.least ≤ held m x want.ends → ((k : ℕ) → k < limits.most_ends → obeys m (rivals_at net k) x ≡ true)
      → ((i : ℕ) → i < size net → obeys m (rule_at net i) x ≡ true) → passes m (net_of net want) x ≡ true
  passes-all l g h =
      passes-parts
      ∙ and_both enough (apart && lawful) (le-leb want.least (held m x want.ends) l)
      (and_both apart lawful (each_all (rivals_at net) 20 g) (each_all (rule_at net) (size net) h))
    where
      each_all : (f : ℕ → Rule) (n : ℕ) → ((k : ℕ) → k < n → obeys m (f k) x ≡ true) → all (λ r. obeys m r x) (each f (below n)) ≡ true
      each_all f n h =
          in_all (λ r. obeys m r x) (each f (below n))
          (λ r k. let q = in_each f (below n) k in ap (λ s. obeys m s x) q.2 ∙ h q.0 (in_below n q.1))

  pub passes_unwanted : held m x want.ends < want.least → passes m (net_of net want) x ≡ false
  passes_unwanted l = passes-parts ∙ rw (lt-leb want.least (held m x want.ends) l)

  pub passes_broken : (i : ℕ) → i < size net → (r : Rule) → r ≡ rule_at net i → obeys m r x ≡ false → passes m (net_of net want) x ≡ false
  passes_broken i l r q h = false_if (passes m (net_of net want) x) (λ e. never (obeys m r x) (obeyed e i l r q) h)

-- ---- a larger width, for sets of m ends
module _ (m r x : ℕ) (small : x < 2 ^ m) where
  meets_wider : (d : ℕ) → meets (m + r) x d ≡ meets m x d
  meets_wider d = meets-held (m + r) x d ∙ ap (leb 1) (held_wider x d m r small) ∙ sym (meets-held m x d)

  obeys_wider : (s : Rule) → obeys (m + r) s x ≡ obeys m s x
  unfolding obeys
  obeys_wider s = ap₂ (λ b h. b ⇒ within s.lo s.hi h) (meets_wider s.when) (held_wider x s.only m r small)

  all_wider : (rs : List Rule) → all (λ s. obeys (m + r) s x) rs ≡ all (λ s. obeys m s x) rs
  all_wider [] = refl
  all_wider (s ∷ rs) = rw (obeys_wider s, all_wider rs)

  pub passes_wider : (net : Net) → passes (m + r) net x ≡ passes m net x
  unfolding passes
  passes_wider net = ap₂ (λ h b. leb net.least h && b) (held_wider x net.wanted m r small) (all_wider net.rules)

-- the first of those that pass one test is the first of those that pass another, if the tests agree
pub first-same : (p q : ℕ → Bool) (m : ℕ) → ((x : ℕ) → x < 2 ^ m → p x ≡ q x) → (c : ℕ) → FirstOf p m c → FirstOf q m c
first-same p q m h c f = record {
  is_set = f.is_set;
  passes = sym (h c f.is_set) ∙ f.passes;
  before_others = λ x l e. f.before_others x l (h x l ∙ e);
}
