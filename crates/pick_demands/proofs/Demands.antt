-- Demands on open ends: what a rule asks for, what a list sets off, and when more is asked for than can be had. Assumes nothing.
use mathlib.Core.Path.{◌≡◌, sym, ap, ◌∙◌}
use mathlib.Core.Logic.{⊎_elim}
use mathlib.Core.Bool.{Bool, true, false, not, ◌&&◌, ◌||◌}
use mathlib.Core.List.{List}
use Prim.Native.Nat.{ℕ, ◌+◌, ◌-◌, ◌≤◌, ◌<◌}
use native.Mathlib.Omega.{arith}
use lib.ListN.{length, take, set}
use Rattle.std.proofs.lemmas.List.{take_more_set}
use Rattle.std.proofs.lemmas.List.Elements.{All-push}
use lib.Bits.{bit_and, bit_or}
use borrow.Author.Tests.{leb-true, not-true}
use Rattle.paper.specs.Lists.{has}
use Rattle.paper.proofs.Bools.{never, and-true, and_both, or-true, or_left, or_right, true_or_false, false_if}
use Rattle.paper.proofs.Digits.{has-zero}
use Rattle.pick_bounds.specs.declared.Bounds.{Bounds}
use Rattle.pick_bounds.specs.declared.Rule.{Rule}
use Rattle.pick_bounds.specs.declared.Wanted.{Wanted}
use Rattle.pick_bounds.specs.Net.{in_both, held, meets, obeys, size, rule_at}
use Rattle.pick_bounds.specs.Bounds.{good, enough, heeds, Part, Without, Between, NoneIn, SetOff}
use Rattle.pick_bounds.proofs.Sets.{has-and, has_or, count-part, count-apart, meets_at, meets-none, meets-part, meets-zero, held_none, held-part, held_both, cover}
use Rattle.pick_bounds.proofs.Pruning.{meeting}
use Rattle.pick_bounds.proofs.Rules.{obeys_facts, passes-wanted, obeyed}
use Rattle.pick_demands.specs.Demands.{Asks, Caps, DemandsListed, Rouses, Obeying, Most}

-- ---- sets
module _ (c d r : ℕ) (w : Without c d r) (k : ℕ) where
  stays : has c k ≡ true → has d k ≡ false → has r k ≡ true
  stays i j = w k ∙ rw (i, j)

  stayed : has r k ≡ true → (has c k ≡ true) × (has d k ≡ false)
  stayed e = let q = and-true (has c k) (not (has d k)) (sym (w k) ∙ e) in (q.0, not-true (has d k) q.1)

and_in : (c d k : ℕ) → has c k ≡ true → has d k ≡ true → has (bit_and c d) k ≡ true
and_in c d k i j = has-and c d k ∙ and_both (has c k) (has d k) i j

in_and : (c d k : ℕ) → has (bit_and c d) k ≡ true → (has c k ≡ true) × (has d k ≡ true)
in_and c d k e = and-true (has c k) (has d k) (sym (has-and c d k) ∙ e)

-- what x has of c, y has of d
held-within : (x c y d : ℕ) → ((k : ℕ) → k < 32 → has x k ≡ true → has c k ≡ true → (has y k ≡ true) × (has d k ≡ true)) → held 32 x c ≤ held 32 y d
unfolding held
held-within x c y d h =
    count-part (in_both x c) (in_both y d) 32
    (λ k l e.
    let q = and-true (has x k) (has c k) e in
    let r = h k l q.0 q.1 in
    and_both (has y k) (has d k) r.0 r.1)

-- a set's ends are its own: it has no more of any
held_own : (x c : ℕ) → held 32 x c ≤ held 32 c c
held_own x c = held-within x c c c (λ k l i j. (j, j))

-- ends that are taken, and others that a set has
taken-and_asked : (ends rest asked : ℕ) (b : Bounds) → Without ends b.must rest → Part asked rest → (x : ℕ) → Between b x → held 32 b.must ends + held 32 x asked ≤ held 32 x ends
unfolding held
taken-and_asked ends rest asked b w part x z =
    count-apart (in_both x ends) (in_both b.must ends) (in_both x asked) 32
    (λ k l e.
    let q = and-true (has b.must k) (has ends k) e in (
      and_both (has x k) (has ends k) (z.above k l q.0) q.1,
      false_if (has x k && has asked k) (λ i. never (has b.must k) q.0 (stayed ends b.must rest w k (part k l (and-true (has x k) (has asked k) i).1)).1),
    ))
    (λ k l e.
    let q = and-true (has x k) (has asked k) e in
    and_both (has x k) (has ends k) q.0 (stayed ends b.must rest w k (part k l q.1)).0)

-- ---- one demand
pub asks_none : (p : ℕ → Bool) (b : Bounds) (ends : ℕ) → Asks p b ends 0
asks_none p b ends = λ x e w. omega arith

-- what a set has of these ends is taken, or open
pub lacking : (ends least have : ℕ) (b : Bounds) → have ≡ held 32 b.must ends → (free x : ℕ) → Without b.may b.must free → Between b x → least ≤ held 32 x ends
    → least - have ≤ held 32 x (bit_and free ends)
lacking ends least have b q free x w z l =
    let i = held-within x ends x (bit_and b.may ends) (λ k l i j. (i, and_in b.may ends k (z.under k l i) j)) in
    let j = cover x (bit_and b.may ends) (bit_and b.must ends) (bit_and free ends) taken_or_free in
    let k = held-within x (bit_and b.must ends) b.must ends (λ k l i j. in_and b.must ends k j) in
    omega arith
  where
    taken_or_free : (k : ℕ) → has (bit_and b.may ends) k ≡ true → has (bit_and b.must ends) k || has (bit_and free ends) k ≡ true
    taken_or_free k e =
        let q = in_and b.may ends k e in
        ⊎_elim (λ i. or_left (has (bit_and b.must ends) k) (has (bit_and free ends) k) (and_in b.must ends k i q.1))
        (λ i. or_right (has (bit_and b.must ends) k) (has (bit_and free ends) k) (and_in free ends k (stays b.may b.must free w k q.0 i) q.1))
        (true_or_false (has b.must k))

-- what a rule that is set off lacks
abbrev Lacks : Bounds → ℕ → ℕ → ℕ → Type 0
Lacks b ends least r = (free x : ℕ) → Without b.may b.must free → Between b x → least ≤ held 32 x ends → r ≤ held 32 x (bit_and free ends)

rule-asks : (r : Rule) (x : ℕ) → obeys 32 r x ≡ true → meets 32 x r.when ≡ true → r.lo ≤ held 32 x r.only
rule-asks r x e m = leb-true r.lo (held 32 x r.only) (obeys_facts 32 r x e m).0

rule_caps : (r : Rule) (x : ℕ) → obeys 32 r x ≡ true → meets 32 x r.when ≡ true → held 32 x r.only ≤ r.hi
rule_caps r x e m = leb-true (held 32 x r.only) r.hi (obeys_facts 32 r x e m).1

pub asks-set_off : (want : Wanted) (rule : Rule) (b : Bounds) (r free : ℕ) → SetOff want rule.when b → Lacks b rule.only rule.lo r → Without b.may b.must free
    → Asks (heeds want rule) b (bit_and free rule.only) r
asks-set_off want rule b r free s f w = λ x e z.
    let q = and-true (enough want x) (obeys 32 rule x) e in
    f free x w z (rule-asks rule x q.1 (s x q.0 z))

pub asks-rule : (net : List ℕ) (want : Wanted) (b : Bounds) (i : ℕ) → i < size net → (r : Rule) → r ≡ rule_at net i → (ends least : ℕ)
    → Asks (heeds want r) b ends least → Asks (good net want) b ends least
asks-rule net want b i l r q ends least f = λ x e w.
    f x (and_both (enough want x) (obeys 32 r x) (passes-wanted net want 32 x e) (obeyed net want 32 x e i l r q)) w

pub asks-wanted : (net : List ℕ) (want : Wanted) (b : Bounds) (r free : ℕ) → Lacks b want.ends want.least r → Without b.may b.must free
    → Asks (good net want) b (bit_and free want.ends) r
asks-wanted net want b r free f w = λ x e z. f free x w z (leb-true want.least (held 32 x want.ends) (passes-wanted net want 32 x e))

pub obeying : (net : List ℕ) (want : Wanted) (i : ℕ) → i < size net → (r : Rule) → r ≡ rule_at net i → Obeying (good net want) r
obeying net want i l r q = λ x e. obeyed net want 32 x e i l r q

-- ---- the list
pub listed_more : (p : ℕ → Bool) (b : Bounds) (list : List Wanted) (count : ℕ) (d : Wanted) → count < length list
    → DemandsListed p b (take count list) → Asks p b d.ends d.least → DemandsListed p b (take (count + 1) (set list count d))
listed_more p b list count d l f g =
    rw (take_more_set list count d l) (All-push (λ (e : Wanted). Asks p b e.ends e.least) (take count list) d f g)

-- a demand that has too few ends elsewhere
pub forced : (ends least when rest : ℕ) → Without ends when rest → held 32 rest rest < least → (x : ℕ) → least ≤ held 32 x ends → meets 32 x when ≡ true
forced ends least when rest w few x l =
    ⊎_elim (λ m. m)
    (λ m.
    let a = held-within x ends x rest (λ k l i j. (i, stays ends when rest w k j (meets-none 32 x when m k l i))) in
    let d = held_own x rest in
    absurd (omega arith))
    (true_or_false (meets 32 x when))

module _ (p : ℕ → Bool) (rule : Rule) (b : Bounds) (list : List Wanted) (all-obey : Obeying p rule) where
  roused : DemandsListed p b list → Rouses list rule.when → (x : ℕ) → p x ≡ true → Between b x → meets 32 x rule.when ≡ true
  roused f g x e w = g x (λ i d l. f i d l x e w)

  pub asks_roused : (r free : ℕ) → DemandsListed p b list → Rouses list rule.when → Lacks b rule.only rule.lo r → Without b.may b.must free
      → Asks p b (bit_and free rule.only) r
  asks_roused r free f g h w = λ x e z. h free x w z (rule-asks rule x (all-obey x e) (roused f g x e z))

  -- ---- what bounds from above
  pub caps_roused : DemandsListed p b list → Rouses list rule.when → Caps p b rule.only rule.hi
  caps_roused f g = λ x e w. rule_caps rule x (all-obey x e) (roused f g x e w)

  pub caps_taken : meets 32 b.must rule.when ≡ true → Caps p b rule.only rule.hi
  caps_taken m = λ x e w. rule_caps rule x (all-obey x e) (meets-part 32 b.must x rule.when w.above m)

  pub caps_own : bit_and rule.only rule.when ≡ rule.only → Caps p b rule.only rule.hi
  caps_own q = λ x e w.
      ⊎_elim
      (λ m.
      let s = meeting x rule.only m in
      rule_caps rule x (all-obey x e)
      (meets_at 32 x rule.when s.0 s.1.0 s.1.1.0 (in_and rule.only rule.when s.0 (ap (λ (y : ℕ). has y s.0) q ∙ s.1.1.1)).1))
      (λ m. let z = held_none x rule.only m in omega arith) (true_or_false (meets 32 x rule.only))

-- ---- demands together
module _ (p : ℕ → Bool) (b : Bounds) where
  pub asks_both : (a s ends least : ℕ) → meets 32 a ends ≡ false → Asks p b a s → Asks p b ends least → Asks p b (bit_or a ends) (s + least)
  asks_both a s ends least apart f g = λ x e w.
      let u = f x e w in
      let v = g x e w in
      omega (arith, held_both x a ends apart)

  pub caps_both : (a s ends most : ℕ) → Caps p b a s → Caps p b ends most → Caps p b (bit_or a ends) (s + most)
  caps_both a s ends most f g = λ x e w.
      let u = f x e w in
      let v = g x e w in
      omega (arith, cover x (bit_or a ends) a ends (λ k i. sym (has_or a ends k) ∙ i))

  pub caps_none : Caps p b 0 0
  caps_none = λ x e w. omega (arith, held_none x 0 (meets-zero x))

  -- what is left of a demand, if all of its other ends are taken
  pub asks-share : (ends least of rest : ℕ) → Without ends of rest → Asks p b ends least → Asks p b (bit_and ends of) (least - held 32 rest rest)
  asks-share ends least of rest w f = λ x e z.
      let u = f x e z in
      let v = held_own x rest in
      omega (arith, cover x ends rest (bit_and ends of) either)
    where
      either : (k : ℕ) → has ends k ≡ true → has rest k || has (bit_and ends of) k ≡ true
      either k e =
          ⊎_elim (λ i. or_right (has rest k) (has (bit_and ends of) k) (and_in ends of k e i))
          (λ i. or_left (has rest k) (has (bit_and ends of) k) (stays ends of rest w k e i)) (true_or_false (has of k))

  -- ---- more than can be had
  pub crowded : (ends least most : ℕ) → Asks p b ends least → Most p ends most → most < least → NoneIn p b
  crowded ends least most f g l = λ x e w. let u = f x e w in let v = g x e in omega arith

  pub over-taken : (ends most : ℕ) → Caps p b ends most → most < held 32 b.must ends → NoneIn p b
  over-taken ends most f l = λ x e w. let u = f x e w in let v = held-part 32 b.must x ends w.above in omega arith

  pub over_asked : (ends most rest asked least : ℕ) → Without ends b.must rest → Part asked rest → Asks p b asked least → Caps p b ends most
      → most < held 32 b.must ends + least → NoneIn p b
  over_asked ends most rest asked least w part f g l = λ x e z.
      let u = f x e z in
      let v = g x e z in
      omega (arith, taken-and_asked ends rest asked b w part x z)

-- ---- parts
pub part_none : (of : ℕ) → Part 0 of
part_none of = λ k l e. never (has 0 k) e (has-zero k)

pub part-and : (ends of : ℕ) → Part (bit_and ends of) of
part-and ends of = λ k l e. (in_and ends of k e).1

pub part_or : (a ends of : ℕ) → Part a of → Part ends of → Part (bit_or a ends) of
part_or a ends of f g = λ k l e. ⊎_elim (f k l) (g k l) (or-true (has a k) (has ends k) (sym (has_or a ends k) ∙ e))
