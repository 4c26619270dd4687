-- A net in one list as it grows, row by row and run by run, rows that bind nothing, and the net as the search is lent it. Assumes nothing.
use mathlib.Core.Path.{◌≡◌, refl, sym, ap, ap₂, ◌∙◌}
use mathlib.Core.Logic.{⊎_elim}
use mathlib.Core.Bool.{Bool, true, false, ◌&&◌, and-true, and_comm, and_assoc}
use mathlib.Core.List.{List, [], ◌∷◌, ◌++◌}
use Prim.Native.Nat.{ℕ, zero, suc, ◌+◌, ◌-◌, ◌*◌, ◌^◌, ◌≤◌, ◌<◌}
use native.Mathlib.Nat.{sub-zero, le_trans}
use native.Mathlib.Omega.{arith}
use lib.Bits.{bit_and}
use lib.Dec.{leb}
use lib.ListN.{length, set, take, length-set}
use lib.Seq.{get_or-set_same, get_or-set_other, get_or-take, length-take-le}
use borrow.Author.Tests.{le-leb, leb-true, leb-false}
use Rattle.paper.specs.Lists.{at, has, from, below, all, count, each}
use Rattle.paper.proofs.Bools.{and_never, and-true as and-facts, and_both, true_or_false}
use Rattle.paper.proofs.Lists.{below_all, below_more}
use Rattle.table.specs.Reading.{Blank}
use Rattle.paper.proofs.Counts.{all_append, any-below-none, count-below}
use Rattle.paper.proofs.Digits.{has-zero}
use Rattle.paper.proofs.Members.{any_in, in_below}
use Rattle.paper.specs.Limits.{limits}
use Rattle.pick_bounds.specs.Net.{Net, rule, meets, held, in_both, obeys, passes, size, rivals_at, rule_at, net_of}
use Rattle.pick_bounds.specs.declared.Rule.{Rule}
use Rattle.pick_bounds.specs.declared.Wanted.{Wanted}
use Rattle.pick_bounds.proofs.Rules.{obeys-apart, obeys_met}
use Rattle.pick_bounds.proofs.Sets.{has-and, meets-held, meets_at, held_most, count-part}
use Rattle.ends_masks.proofs.Numbers.{all-below-alike}
use Rattle.ends_masks.proofs.Rules.{if_so}
use Rattle.pick_rules.specs.Rules.{holds, all_pass, on_each, Starts, RulesAdded, AddedUpto, AddedFrom}

pub all_more : (p : ℕ → Bool) (k : ℕ) → all p (below (k + 1)) ≡ all p (below k) && p k
all_more p k = ap (all p) (below_more k) ∙ all_append p (below k) (k ∷ []) ∙ ap (λ (b : Bool). all p (below k) && b) (and-true (p k))

-- ---- growing
-- a run of rows after another
pub added_then : {a b d : List ℕ} {k r s x y m : ℕ} {ps qs : List (ℕ → Bool)} → RulesAdded a k b r x m ps → RulesAdded b r d s y m qs → RulesAdded a k d s (x + y) m (ps ++ qs)
added_then {a} {b} {d} {k} {r} {s} {x} {y} {m} {ps} {qs} f g = record {
  few = let u = f.few in let v = g.few in omega arith;
  says = λ c.
      g.says c
      ∙ ap (λ (z : Bool). z && all_pass qs c) (f.says c)
      ∙ and_assoc (holds a k m c) (all_pass ps c) (all_pass qs c)
      ∙ ap (λ (z : Bool). holds a k m c && z) (sym (all_append (λ p. p c) ps qs));
}

-- after the rivals
pub started_then : {b d : List ℕ} {s y m : ℕ} {ps qs : List (ℕ → Bool)} → Starts b m ps → RulesAdded b 0 d s y m qs → (c : ℕ) → holds d s m c ≡ all_pass (ps ++ qs) c
started_then {ps = ps} {qs = qs} f g c = g.says c ∙ ap (λ (z : Bool). z && all_pass qs c) (f.says c) ∙ sym (all_append (λ p. p c) ps qs)

module _ {before : List ℕ} {k : ℕ} {after : List ℕ} {r most m : ℕ} where
  -- in other words
  pub added_alike : {ps qs : List (ℕ → Bool)} {more : ℕ} → most ≤ more → ((c : ℕ) → all_pass ps c ≡ all_pass qs c) → RulesAdded before k after r most m ps → RulesAdded before k after r more m qs
  added_alike l h a = record { few = let f = a.few in omega arith; says = λ c. a.says c ∙ ap (λ (b : Bool). holds before k m c && b) (h c) }

  pub added_same : {p q : ℕ → Bool} → ((c : ℕ) → p c ≡ q c) → RulesAdded before k after r most m (p ∷ []) → RulesAdded before k after r most m (q ∷ [])
  added_same h a = added_alike (omega arith) (λ c. ap (λ (b : Bool). b && true) (h c)) a

-- no rule, where none is needed
pub added_none : {net : List ℕ} {k most m : ℕ} {p : ℕ → Bool} → ((c : ℕ) → p c ≡ true) → RulesAdded net k net k most m (p ∷ [])
added_none {net} {k} {most} {m} {p} h = record {
  few = omega arith;
  says = λ c. sym (and-true (holds net k m c)) ∙ ap (λ (b : Bool). holds net k m c && (b && true)) (sym (h c));
}

-- ---- a row for each number, upwards and downwards
pub upto_none : {net : List ℕ} {k m : ℕ} (q : ℕ → ℕ → Bool) → AddedUpto net k net k m q 0
upto_none q = added_none (λ c. refl)

pub upto_more : {a b d : List ℕ} {k r s m : ℕ} {p : ℕ → Bool} (q : ℕ → ℕ → Bool) (j : ℕ) → AddedUpto a k b r m q j
    → ((c : ℕ) → p c ≡ q j c) → RulesAdded b r d s 1 m (p ∷ []) → AddedUpto a k d s m q (j + 1)
upto_more q j x h y =
    added_alike (omega arith)
    (λ c. sym (and_assoc (on_each q (below j) c) (q j c) true) ∙ ap (λ (b : Bool). b && true) (sym (all_more (λ i. q i c) j)))
    (added_then x (added_same {q = q j} h y))

pub upto_all : {a b : List ℕ} {k r m j n : ℕ} (q : ℕ → ℕ → Bool) → j ≡ n → AddedUpto a k b r m q j → AddedUpto a k b r m q n
upto_all q e x = rw (sym e) x

pub from-none : {net : List ℕ} {k m : ℕ} (q : ℕ → ℕ → Bool) (j : ℕ) → AddedFrom net k net k m q j j
from-none q j = let e : j - j ≡ 0 = omega arith in rw e (added_none (λ c. refl))

from_next : {a b d : List ℕ} {k r s m : ℕ} (q : ℕ → ℕ → Bool) (z j : ℕ) → z < j
    → AddedFrom a k b r m q (suc z) j → RulesAdded b r d s 1 m (q z ∷ []) → AddedFrom a k d s m q z j
from_next q z j l x y =
    let e : j - z ≡ suc (j - suc z) = omega arith in
    rw e
    (added_alike (omega arith)
    (λ c.
    and_comm (on_each q (from (suc z) (j - suc z)) c) (q z c && true)
    ∙ and_assoc (q z c) true (on_each q (from (suc z) (j - suc z)) c)
    ∙ sym (and-true (q z c && on_each q (from (suc z) (j - suc z)) c))) (added_then x y))

pub from_more : {a b d : List ℕ} {k r s m : ℕ} {p : ℕ → Bool} (q : ℕ → ℕ → Bool) (z j : ℕ) → 0 < z → z ≤ j
    → AddedFrom a k b r m q z j → ((c : ℕ) → p c ≡ q (z - 1) c) → RulesAdded b r d s 1 m (p ∷ []) → AddedFrom a k d s m q (z - 1) j
from_more q zero j g l x h y = absurd (omega arith)
from_more q (suc z) j g l x h y = let e : suc z - 1 ≡ z = omega arith in rw e (from_next q z j (omega arith) x (added_same {q = q z} (rw e at h) y))

pub from_all : {a b : List ℕ} {k r m z j : ℕ} (q : ℕ → ℕ → Bool) → z ≡ 0 → AddedFrom a k b r m q z j → AddedUpto a k b r m q j
from_all {j = j} q e x = rw (sub-zero j) at (rw e at x)

-- ---- rows that bind nothing
-- nothing meets the empty set
pub meets-zero : (m c : ℕ) → meets m c 0 ≡ false
unfolding meets
meets-zero m c = any-below-none (in_both c 0) m (λ k l. rw (has-zero k) (and_never (has c k)))

-- no rival is met in a blank net: without rules it binds nothing
held-zero : (m c : ℕ) → held m c 0 ≡ 0
held-zero m c = let e = leb-false 1 (held m c 0) (sym (meets-held m c 0) ∙ meets-zero m c) in omega arith

pub blank-starts : (net : List ℕ) (m : ℕ) → Blank net → Starts net m []
unfolding holds obeys
blank-starts net m b = record {
  says = λ c. ap (λ (x : Bool). x && true)
      (below_all (λ j. obeys m (rivals_at net j) c) 20 (λ j l. rw (b j, held-zero m c) (if_so (meets m c (2 ^ j)) true (λ h. refl))));
}

-- what meets a set meets one that it lies in
meets-inside : (m c a b : ℕ) → bit_and a b ≡ a → meets m c a ≡ true → meets m c b ≡ true
unfolding meets
meets-inside m c a b e h =
    let k = any_in (in_both c a) (below m) h in
    let q = and-facts (has c k.0) (has a k.0) k.2 in
    let o = and-facts (has a k.0) (has b k.0) (sym (has-and a b k.0) ∙ ap (λ (z : ℕ). has z k.0) e ∙ q.1) in
    meets_at m c b k.0 (in_below m k.1) q.0 o.1

module _ (m when only lo hi c : ℕ) where
  pub idle_unmet : when ≡ 0 → obeys m (rule when only lo hi) c ≡ true
  idle_unmet e = obeys-apart m (rule when only lo hi) c (ap (meets m c) e ∙ meets-zero m c)

  -- no upper bound, and a lower one that what meets it has
  idle_met : m ≤ 32 → 32 ≤ hi → (meets m c when ≡ true → lo ≤ held m c only) → obeys m (rule when only lo hi) c ≡ true
  idle_met l g h =
      ⊎_elim
      (λ e.
      obeys_met m (rule when only lo hi) c e
      ∙ and_both _ _ (le-leb lo (held m c only) (h e)) (le-leb (held m c only) hi (let f = held_most m c only in omega arith)))
      (obeys-apart m (rule when only lo hi) c) (true_or_false (meets m c when))

  pub idle_free : m ≤ 32 → 32 ≤ hi → lo ≡ 0 → obeys m (rule when only lo hi) c ≡ true
  idle_free l g e = idle_met l g (λ h. omega arith)

  pub idle_inside : m ≤ 32 → 32 ≤ hi → lo ≤ 1 → bit_and when only ≡ when → obeys m (rule when only lo hi) c ≡ true
  idle_inside l g f e = idle_met l g (λ h. let o = leb-true 1 (held m c only) (sym (meets-held m c only) ∙ meets-inside m c when only e h) in omega arith)

-- no set has more of the ends in `only` than there are
count_wider : (p : ℕ → Bool) (m d : ℕ) → count p (below m) ≤ count p (below (m + d))
count_wider p m zero = let e : m + 0 ≡ m = omega arith in rw e (omega arith)
count_wider p m (suc d) = let e : m + suc d ≡ suc (m + d) = omega arith in rw (e, count-below p (m + d)) (let h = count_wider p m d in omega arith)

held-few : (m only c : ℕ) → m ≤ 32 → held m c only ≤ held 32 only only
unfolding held
held-few m only c l =
    let e : m + (32 - m) ≡ 32 = omega arith in
    let part = count-part (in_both c only) (in_both only only) m (λ k g h. let o = (and-facts (has c k) (has only k) h).1 in and_both _ _ o o) in
    le_trans part (rw e at (count_wider (in_both only only) m (32 - m)))

pub bound_free : (m when only lo hi c : ℕ) → m ≤ 32 → held 32 only only ≤ hi → obeys m (rule when only lo 32) c ≡ obeys m (rule when only lo hi) c
unfolding obeys
bound_free m when only lo hi c l g =
    let few = held-few m only c l in
    let most = held_most m c only in
    rw (le-leb (held m c only) 32 (omega arith), le-leb (held m c only) hi (omega arith))

-- ---- one row
abbrev pub put : List ℕ → ℕ → ℕ → ℕ → ℕ → ℕ → List ℕ
put net k when only lo hi = set (set (set (set net (20 + 4 * k) when) (20 + 4 * k + 1) only) (20 + 4 * k + 2) lo) (20 + 4 * k + 3) hi

module _ (net : List ℕ) (k when only lo hi : ℕ) (room : 20 + 4 * k + 3 < length net) where
  abbrev row : ℕ
  row = 20 + 4 * k

  old-cell : (j : ℕ) → j < row → at (put net k when only lo hi) j ≡ at net j
  old-cell j l =
      get_or-set_other (set (set (set net row when) (row + 1) only) (row + 2) lo) (row + 3) j hi 0 (omega arith)
      ∙ get_or-set_other (set (set net row when) (row + 1) only) (row + 2) j lo 0 (omega arith)
      ∙ get_or-set_other (set net row when) (row + 1) j only 0 (omega arith)
      ∙ get_or-set_other net row j when 0 (omega arith)

  old-rivals : (j : ℕ) → j < limits.most_ends → rivals_at (put net k when only lo hi) j ≡ rivals_at net j
  old-rivals j g = rw (old-cell j (omega arith))

  old : (i : ℕ) → i < k → rule_at (put net k when only lo hi) i ≡ rule_at net i
  old i g =
      rw (old-cell (20 + 4 * i) (omega arith), old-cell (20 + 4 * i + 1) (omega arith), old-cell (20 + 4 * i + 2) (omega arith), old-cell (20 + 4 * i + 3) (omega arith))

  new : rule_at (put net k when only lo hi) k ≡ rule when only lo hi
  new =
      let a = set net row when in
      let b = set a (row + 1) only in
      let c = set b (row + 2) lo in
      let la : length a ≡ length net = length-set net row when in
      let lb : length b ≡ length a = length-set a (row + 1) only in
      let lc : length c ≡ length b = length-set b (row + 2) lo in
      let e1 : at (put net k when only lo hi) row ≡ when =
      get_or-set_other c (row + 3) row hi 0 (omega arith) ∙ get_or-set_other b (row + 2) row lo 0 (omega arith)
      ∙ get_or-set_other a (row + 1) row only 0 (omega arith) ∙ get_or-set_same net row when 0 (omega arith) in
      let e2 : at (put net k when only lo hi) (row + 1) ≡ only =
      get_or-set_other c (row + 3) (row + 1) hi 0 (omega arith) ∙ get_or-set_other b (row + 2) (row + 1) lo 0 (omega arith)
      ∙ get_or-set_same a (row + 1) only 0 (omega arith) in
      let e3 : at (put net k when only lo hi) (row + 2) ≡ lo =
      get_or-set_other c (row + 3) (row + 2) hi 0 (omega arith) ∙ get_or-set_same b (row + 2) lo 0 (omega arith) in
      let e4 : at (put net k when only lo hi) (row + 3) ≡ hi = get_or-set_same c (row + 3) hi 0 (omega arith) in
      rw (e1, e2, e3, e4)

  pub added_row : (m : ℕ) → RulesAdded net k (put net k when only lo hi) (k + 1) 1 m (obeys m (rule when only lo hi) ∷ [])
  unfolding holds
  added_row m = record {
    few = omega arith;
    says = λ c.
        let rivals = all (λ j. obeys m (rivals_at net j) c) (below 20) in
        let rules = all (λ i. obeys m (rule_at net i) c) (below k) in
        let this = obeys m (rule when only lo hi) c in
        ap₂ (λ (x y : Bool). x && y)
        (all-below-alike (λ j. obeys m (rivals_at (put net k when only lo hi) j) c) (λ j. obeys m (rivals_at net j) c) 20 (λ j g. ap (λ (r : Rule). obeys m r c) (old-rivals j g)))
        (all_more (λ i. obeys m (rule_at (put net k when only lo hi) i) c) k
        ∙ ap₂ (λ (x y : Bool). x && y)
        (all-below-alike (λ i. obeys m (rule_at (put net k when only lo hi) i) c) (λ i. obeys m (rule_at net i) c) k (λ i g. ap (λ (r : Rule). obeys m r c) (old i g)))
        (ap (λ (r : Rule). obeys m r c) new))
        ∙ sym (and_assoc rivals rules this)
        ∙ ap (λ (b : Bool). (rivals && rules) && b) (sym (and-true this));
  }

-- ---- as the search is lent it
all-each : {A B : Type 0} (p : B → Bool) (f : A → B) (xs : List A) → all p (each f xs) ≡ all (λ x. p (f x)) xs
all-each p f [] = refl
all-each p f (x ∷ xs) = ap (λ (b : Bool). p (f x) && b) (all-each p f xs)

-- the cells of the rivals and of the first k rules
module _ (net : List ℕ) (k : ℕ) (room : 20 + 4 * k ≤ length net) (want : Wanted) (m : ℕ) where
  abbrev cut : List ℕ
  cut = take (20 + 4 * k) net

  size_cut : size cut ≡ k
  size_cut = omega (arith, length-take-le (20 + 4 * k) net room)

  cell : (j : ℕ) → j < 20 + 4 * k → at cut j ≡ at net j
  cell j l = get_or-take (20 + 4 * k) net j 0 l

  abbrev lent : Net
  lent = net_of cut want

  pub passes-holds : (c : ℕ) → passes m lent c ≡ holds net k m c && leb want.least (held m c want.ends)
  unfolding passes net_of holds
  passes-holds c =
      ap (λ (b : Bool). leb want.least (held m c want.ends) && b)
      (all_append (λ r. obeys m r c) (each (rivals_at cut) (below 20)) (each (rule_at cut) (below (size cut)))
      ∙ ap₂ (λ (x y : Bool). x && y)
      (all-each (λ r. obeys m r c) (rivals_at cut) (below 20)
      ∙ all-below-alike (λ j. obeys m (rivals_at cut j) c) (λ j. obeys m (rivals_at net j) c) 20 (λ j g. rw (cell j (omega arith))))
      (all-each (λ r. obeys m r c) (rule_at cut) (below (size cut))
      ∙ ap (λ (n : ℕ). all (λ i. obeys m (rule_at cut i) c) (below n)) size_cut
      ∙ all-below-alike (λ i. obeys m (rule_at cut i) c) (λ i. obeys m (rule_at net i) c) k
      (λ i g. rw (cell (20 + 4 * i) (omega arith), cell (20 + 4 * i + 1) (omega arith), cell (20 + 4 * i + 2) (omega arith), cell (20 + 4 * i + 3) (omega arith)))))
      ∙ and_comm (leb want.least (held m c want.ends)) (all (λ j. obeys m (rivals_at net j) c) (below 20) && all (λ i. obeys m (rule_at net i) c) (below k))
