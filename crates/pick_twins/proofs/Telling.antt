-- Sets of ends that are not told from end k: what is kept of them rule by rule, and rivals by rivals. Assumes nothing.
use mathlib.Core.Path.{◌≡◌, refl, sym, ap, ◌∙◌}
use mathlib.Core.Logic.{⊎_elim}
use mathlib.Core.Bool.{Bool, true, false, not, ◌&&◌}
use mathlib.Core.List.{List}
use Prim.Native.Nat.{ℕ, ◌+◌, ◌^◌, ◌<◌}
use native.Mathlib.Omega.{arith}
use native.Mathlib.Decide.{dec_lt}
use lib.Bits.{bit_and, bit_or}
use borrow.Author.Tests.{not-true}
use Rattle.paper.specs.Lists.{at, has}
use Rattle.paper.proofs.Bools.{never, and-true, or-true, or-false}
use Rattle.paper.proofs.Digits.{has-zero}
use Rattle.paper.specs.Limits.{limits}
use Rattle.pick_bounds.specs.declared.Wanted.{Wanted}
use Rattle.pick_bounds.specs.declared.Rule.{Rule}
use Rattle.pick_bounds.specs.declared.Bounds.{Bounds}
use Rattle.pick_bounds.specs.Net.{meets, rule_at}
use Rattle.pick_bounds.specs.Bounds.{good, Without}
use Rattle.pick_bounds.proofs.Sets.{has-and, has_or, has_power, has_power_other, meets-one, less_part}
use Rattle.pick_twins.specs.Twins.{AlikeAll, AlikeRivals, SharesRivals, Lacking}
use Rattle.pick_twins.proofs.Swapping.{lacking_too}

-- each end in r is one of `ends`, and P holds of it
abbrev pub Only : (ℕ → Type 0) → ℕ → ℕ → Type 0
Only P ends r = (j : ℕ) → has r j ≡ true → (has ends j ≡ true) × P j

-- the set c doesn't tell j from k
abbrev pub Same : ℕ → ℕ → ℕ → Type 0
Same c k j = has c j ≡ has c k

-- nothing is in 0
pub no_end : {A : Type 0} (j : ℕ) → has 0 j ≡ true → A
no_end j h = never (has 0 j) h (has-zero j)

pub only_none : (P : ℕ → Type 0) (ends : ℕ) → Only P ends 0
only_none P ends j h = no_end j h

-- an end alone
pub is-end : (end i j : ℕ) → end ≡ 2 ^ i → has end j ≡ true → j ≡ i
is-end end i j e h = has_power_other i j (ap (λ (y : ℕ). has y j) (sym e) ∙ h)

pub has_end : (c end k : ℕ) → end ≡ 2 ^ k → k < 32 → meets 32 c end ≡ has c k
has_end c end k e l = ap (meets 32 c) e ∙ meets-one 32 c k l

-- ---- one set
module _ (c k ends end : ℕ) (is : end ≡ 2 ^ k) (l : k < 32) where
  pub same_in : meets 32 c end ≡ true → Only (Same c k) ends (bit_and ends c)
  same_in m j h =
      let q = and-true (has ends j) (has c j) (sym (has-and ends c j) ∙ h) in
      (q.0, q.1 ∙ sym (sym (has_end c end k is l) ∙ m))

  pub same_out : meets 32 c end ≡ false → (r : ℕ) → Without ends c r → Only (Same c k) ends r
  same_out m r s j h =
      let q = and-true (has ends j) (not (has c j)) (sym (s j) ∙ h) in
      (q.0, not-true (has c j) q.1 ∙ sym (sym (has_end c end k is l) ∙ m))

-- ---- rules and rivals one after another
grown : (P : ℕ → Type 0) (i : ℕ) → ((m : ℕ) → m < i → P m) → P i → (m : ℕ) → m < i + 1 → P m
grown P i f p m l =
    elim (dec_lt m i) [
      | yes h ↦ f m h
      | no h ↦ let z : m ≡ i = omega arith in rw z p
    ]

-- of those that were asked before i, none tells an end in the set from k
module _ (ends : ℕ) (P : ℕ → ℕ → Type 0) where
  abbrev pub Before : ℕ → ℕ → Type 0
  Before same i = Only (λ j. (m : ℕ) → m < i → P j m) ends same

  pub before_more : (same next i : ℕ) → Before same i → Only (λ j. P j i) same next → Before next (i + 1)
  before_more same next i f g j h =
      let q = g j h in
      let p = f j q.0 in
      (p.0, grown (P j) i p.1 q.1)

module _ (net : List ℕ) (k : ℕ) where
  -- rule i doesn't tell j from k; the rivals of end i don't
  abbrev pub ByRule : ℕ → ℕ → Type 0
  ByRule j i = Same (rule_at net i).when k j × Same (rule_at net i).only k j

  abbrev pub ByRivals : ℕ → ℕ → Type 0
  ByRivals j i = (i ≡ k → ⊥) → (j ≡ i → ⊥) → Same (at net i) k j

  pub by_rule : (i : ℕ) (r : Rule) → r ≡ rule_at net i → (same mid next : ℕ) → Only (Same r.when k) same mid → Only (Same r.only k) mid next
      → Only (λ j. ByRule j i) same next
  by_rule i r e same mid next g h j a =
      let q = h j a in
      let p = g j q.0 in (
        p.0,
        (
          ap (λ (s : Rule). has s.when j) (sym e) ∙ p.1 ∙ ap (λ (s : Rule). has s.when k) e,
          ap (λ (s : Rule). has s.only j) (sym e) ∙ q.1 ∙ ap (λ (s : Rule). has s.only k) e,
        ),
      )

-- the rivals of end i don't tell it from k, or it is end i
pub same_but : (rivals k i ends alike end : ℕ) → end ≡ 2 ^ i → Only (Same rivals k) ends alike
    → Only (λ j. (i ≡ k → ⊥) → (j ≡ i → ⊥) → Same rivals k j) ends (bit_or alike (bit_and ends end))
same_but rivals k i ends alike end is f j h =
    ⊎_elim (λ a. let q = f j a in (q.0, λ u v. q.1))
    (λ a. let q = and-true (has ends j) (has end j) (sym (has-and ends end j) ∙ a) in (q.0, λ u v. absurd (v (is-end end i j is q.1))))
    (or-true (has alike j) (has (bit_and ends end) j) (sym (has_or alike (bit_and ends end) j) ∙ h))

-- ---- rivals that are shared
pub shares : (net : List ℕ) (k j end r : ℕ) → j < limits.most_ends → end ≡ 2 ^ j → Without (at net k) (bit_or (at net j) end) r → r ≡ 0
    → (i : ℕ) → has end i ≡ true → (i ≡ j) × SharesRivals net k i
shares net k j end r l is s z i h =
    let e = is-end end j i is h in
    (e, rw e (l, by))
  where
    by : (m : ℕ) → has (at net k) m ≡ true → (m ≡ j → ⊥) → has (at net j) m ≡ true
    by m a ne =
        ⊎_elim (λ b. b) (λ b. absurd (ne (is-end end j m is b)))
        (or-true (has (at net j) m) (has end m)
        (sym (has_or (at net j) end m) ∙ among (has (bit_or (at net j) end) m) (sym (s m) ∙ ap (λ (y : ℕ). has y m) z ∙ has-zero m)))
      where
        among : (t : Bool) → has (at net k) m && not t ≡ false → t ≡ true
        among true f = refl
        among false f = never (has (at net k) m && true) (rw a) f

-- what is left of a set without an end
module _ (left end r : ℕ) (s : Without left end r) where
  pub left-part : (j : ℕ) → has r j ≡ true → has left j ≡ true
  left-part j h = (and-true (has left j) (not (has end j)) (sym (s j) ∙ h)).0

  pub left_less : (i : ℕ) → r < 2 ^ 32 → has left i ≡ true → end ≡ 2 ^ i → r < left
  left_less i l a is = less_part 32 left r i l (λ j g e. left-part j e) a (s i ∙ rw (a, ap (λ (y : ℕ). has y i) is ∙ has_power i))

-- one more end is kept, if P holds of it
pub kept_more : (P : ℕ → Type 0) (ends kept one i : ℕ) → has ends i ≡ true → Only P ends kept
    → ((j : ℕ) → has one j ≡ true → (j ≡ i) × P j) → Only P ends (bit_or kept one)
kept_more P ends kept one i a f g j h =
    ⊎_elim (f j) (λ b. let q = g j b in (ap (has ends) q.0 ∙ a, q.1)) (or-true (has kept j) (has one j) (sym (has_or kept one j) ∙ h))

-- ---- open ends that nothing tells from end k
pub twins_lack : (net : List ℕ) (want : Wanted) (b : Bounds) (k end loose ruled wished apart r : ℕ) → k < limits.most_ends → end ≡ 2 ^ k → meets 32 b.may end ≡ true
    → meets 32 (at net k) end ≡ false → Without b.may (bit_or b.must end) loose → Only (AlikeAll net k) loose ruled → Only (Same want.ends k) ruled wished
    → Only (AlikeRivals net k) wished apart → Only (SharesRivals net k) apart r
    → Lacking (good net want) b k → (j : ℕ) → has r j ≡ true → Lacking (good net want) b j
twins_lack net want b k end loose ruled wished apart r l is may alone s f g h i none j e =
    let shares = i j e in
    let rivals = h j shares.0 in
    let wish = g j rivals.0 in
    let rules = f j wish.0 in
    let o = and-true (has b.may j) (not (has (bit_or b.must end) j)) (sym (s j) ∙ rules.0) in
    let m = or-false (has b.must j) (has end j) (sym (has_or b.must end j) ∙ not-true (has (bit_or b.must end) j) o.1) in
    lacking_too net want b k j l (sym (has_end b.may end k is (omega arith)) ∙ may) (sym (has_end (at net k) end k is (omega arith)) ∙ alone) m.0
    wish.1 rules.1 rivals.1 shares.1 none
