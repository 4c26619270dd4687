-- Bounds drawn together: what each step of pruning keeps, and when nothing is left between bounds. Assumes nothing.
use mathlib.Core.Path.{◌≡◌, refl, sym, ap, ◌∙◌}
use mathlib.Core.Logic.{⊎_elim}
use mathlib.Core.Bool.{Bool, true, false, not, ◌&&◌}
use mathlib.Core.List.{List}
use Prim.Native.Nat.{ℕ, ◌^◌, ◌≤◌, ◌<◌}
use native.Mathlib.Omega.{arith}
use lib.Dec.{leb, ltb}
use lib.Bits.{bit_and, bit_or}
use borrow.Author.Tests.{leb-true, le-leb, ltb-true, lt-ltb, not-true}
use Rattle.paper.specs.Lists.{at, has, below, all, within}
use Rattle.paper.proofs.Bools.{never, and-true, and_both, or-true, true_or_false, false_if}
use Rattle.paper.proofs.Members.{any_in, in_below}
use Rattle.paper.proofs.Lists.{all-below, below_all}
use Rattle.paper.proofs.Digits.{has-zero}
use Rattle.paper.specs.Limits.{limits}
use Rattle.pick_bounds.specs.declared.Wanted.{Wanted}
use Rattle.pick_bounds.specs.declared.Rule.{Rule}
use Rattle.pick_bounds.specs.declared.Bounds.{Bounds}
use Rattle.pick_bounds.specs.Net.{in_both, held, meets, obeys, size, rivals_at, rule_at}
use Rattle.pick_bounds.specs.Bounds.{good, apart, enough, heeds, Without, Between, Keeps, NoneIn, SetOff}
use Rattle.pick_bounds.proofs.Sets.{has-and, has_or, has_power_other, meets-held, held-part, held-full, meets_at, meets-part, meets-none, digits_same, apart_power}
use Rattle.pick_bounds.proofs.Rules.{obeys_facts, passes-wanted, obeyed, rivals_obeyed}
use Rattle.pick_bounds.proofs.FourKinds.{clash_obeyed}

-- ---- steps of any kind
pub keeps_all : (p : ℕ → Bool) (b : Bounds) → Keeps p b b
keeps_all p b = λ x e w. w

pub keeps_then : (p : ℕ → Bool) (a b c : Bounds) → Keeps p a b → Keeps p b c → Keeps p a c
keeps_then p a b c f g = λ x e w. g x e (f x e w)

pub keeps_nothing : (p : ℕ → Bool) (b c : Bounds) → NoneIn p b → Keeps p b c
keeps_nothing p b c f = λ x e w. absurd (f x e w)

pub none_after : (p : ℕ → Bool) (a b : Bounds) → Keeps p a b → NoneIn p b → NoneIn p a
none_after p a b f g = λ x e w. g x e (f x e w)

-- two sets meet in an end
pub meeting : (c d : ℕ) → meets 32 c d ≡ true → (k : ℕ) × ((k < 32) × ((has c k ≡ true) × (has d k ≡ true)))
unfolding meets
meeting c d h =
    let r = any_in (in_both c d) (below 32) h in
    let q = and-true (has c r.0) (has d r.0) r.2 in
    (r.0, (in_below 32 r.1, (q.0, q.1)))

pub unmeeting : (c d : ℕ) → ((k : ℕ) → k < 32 → has c k ≡ true → has d k ≡ true → ⊥) → meets 32 c d ≡ false
unmeeting c d h = false_if (meets 32 c d) (λ e. let r = meeting c d e in h r.0 r.1.0 r.1.1.0 r.1.1.1)

-- ---- ends
module _ (ends : ℕ) (b : Bounds) where
  -- where there are no more than are wanted, all are taken
  pub raised : (least : ℕ) → held 32 b.may ends ≤ least
      → Keeps (λ x. leb least (held 32 x ends)) b (record { must = bit_or b.must (bit_and b.may ends); may = b.may })
  raised least q = λ x e w. record {
    above = λ k l h.
        ⊎_elim (λ i. w.above k l i)
        (λ i.
        let r = and-true (has b.may k) (has ends k) (sym (has-and b.may ends k) ∙ i) in
        let g = leb-true least (held 32 x ends) e in
        held-full 32 x b.may ends w.under (omega arith) k l r.0 r.1)
        (or-true (has b.must k) (has (bit_and b.may ends) k) (sym (has_or b.must (bit_and b.may ends) k) ∙ h));
    under = w.under;
  }

  -- where as many are taken as may be, a set has no other of them
  no_other : (most rest : ℕ) → most ≤ held 32 b.must ends → Without ends b.must rest → (x : ℕ) → Between b x → held 32 x ends ≤ most → meets 32 x rest ≡ false
  no_other most rest q s x w f =
      unmeeting x rest (λ k l i j.
      let r = and-true (has ends k) (not (has b.must k)) (sym (s k) ∙ j) in
      never (has b.must k) (held-full 32 b.must x ends w.above (omega arith) k l i r.0) (not-true (has b.must k) r.1))

  pub filled : (most rest : ℕ) → most ≤ held 32 b.must ends → Without ends b.must rest → (c : Bounds)
      → Keeps (λ x. not (meets 32 x rest)) b c → Keeps (λ x. leb (held 32 x ends) most) b c
  filled most rest q s c f = λ x e w. f x (rw (no_other most rest q s x w (leb-true (held 32 x ends) most e))) w

  -- sets without these ends
  pub struck : (rest : ℕ) → Without b.may ends rest → Keeps (λ x. not (meets 32 x ends)) b (record { must = b.must; may = rest })
  struck rest s = λ x e w. record {
    above = w.above;
    under = λ k l h. s k ∙ rw (w.under k l h, meets-none 32 x ends (not-true (meets 32 x ends) e) k l h);
  }

-- sets with an end
pub added : (b : Bounds) (end k : ℕ) → end ≡ 2 ^ k → Keeps (λ x. has x k) b (record { must = bit_or b.must end; may = b.may })
added b end k q = λ x e w. record {
  above = λ j l h.
      ⊎_elim (λ i. w.above j l i) (λ i. let z : j ≡ k = has_power_other k j (ap (λ (y : ℕ). has y j) (sym q) ∙ i) in ap (has x) z ∙ e)
      (or-true (has b.must j) (has end j) (sym (has_or b.must end j) ∙ h));
  under = w.under;
}

-- ---- what sets rules off
pub taken-meets : (want : Wanted) (when : ℕ) (b : Bounds) → meets 32 b.must when ≡ true → SetOff want when b
taken-meets want when b h = λ x e w. meets-part 32 b.must x when w.above h

pub wanted-meets : (want : Wanted) (when : ℕ) (b : Bounds) → 1 ≤ want.least → bit_and want.ends when ≡ want.ends → SetOff want when b
wanted-meets want when b l q = λ x e w.
    let f = leb-true want.least (held 32 x want.ends) e in
    let m = meeting x want.ends (meets-held 32 x want.ends ∙ le-leb 1 (held 32 x want.ends) (omega arith)) in
    let i = and-true (has want.ends m.0) (has when m.0) (sym (has-and want.ends when m.0) ∙ ap (λ (y : ℕ). has y m.0) q ∙ m.1.1.1) in
    meets_at 32 x when m.0 m.1.0 m.1.1.0 i.1

pub asks-more : (want : Wanted) (b : Bounds) → leb want.least (held 32 b.may want.ends) ≡ false → NoneIn (enough want) b
asks-more want b q = λ x e w.
    let f = leb-true want.least (held 32 x want.ends) e in
    let g = held-part 32 x b.may want.ends w.under in
    never (leb want.least (held 32 b.may want.ends)) (le-leb want.least (held 32 b.may want.ends) (omega arith)) q

-- ---- one rule
module _ (r : Rule) (b : Bounds) where
  abbrev inside : ℕ → Bool
  inside x = within r.lo r.hi (held 32 x r.only)

  pub breaks_low : leb r.lo (held 32 b.may r.only) ≡ false → NoneIn inside b
  breaks_low q = λ x e w.
      let f = leb-true r.lo (held 32 x r.only) (and-true (leb r.lo (held 32 x r.only)) _ e).0 in
      let g = held-part 32 x b.may r.only w.under in
      never (leb r.lo (held 32 b.may r.only)) (le-leb r.lo (held 32 b.may r.only) (omega arith)) q

  pub breaks_high : r.hi < held 32 b.must r.only → NoneIn inside b
  breaks_high q = λ x e w.
      let f = leb-true (held 32 x r.only) r.hi (and-true (leb r.lo (held 32 x r.only)) _ e).1 in
      let g = held-part 32 b.must x r.only w.above in
      omega arith

  -- both of its bounds
  pub inside_both : (c d : Bounds) → Keeps (λ x. leb (held 32 x r.only) r.hi) b c → Keeps (λ x. leb r.lo (held 32 x r.only)) c d → Keeps inside b d
  inside_both c d f g = λ x e w.
      let q = and-true (leb r.lo (held 32 x r.only)) (leb (held 32 x r.only) r.hi) e in
      g x q.0 (f x q.1 w)

  obeys-inside : (x : ℕ) → obeys 32 r x ≡ true → meets 32 x r.when ≡ true → inside x ≡ true
  obeys-inside x e m = let f = obeys_facts 32 r x e m in and_both (leb r.lo (held 32 x r.only)) (leb (held 32 x r.only) r.hi) f.0 f.1

  -- it is set off
  pub holding : (want : Wanted) → SetOff want r.when b → (c : Bounds) → Keeps inside b c → Keeps (heeds want r) b c
  holding want s c f = λ x e w.
      let q = and-true (enough want x) (obeys 32 r x) e in
      f x (obeys-inside x q.1 (s x q.0 w)) w

  -- it may be left alone
  pub heeding : (want : Wanted) (c : Bounds) → Keeps (obeys 32 r) b c → Keeps (heeds want r) b c
  heeding want c f = λ x e w. f x (and-true (enough want x) (obeys 32 r x) e).1 w

  -- no set that obeys it meets it
  pub shutting : NoneIn inside b → (c : Bounds) → Keeps (λ x. not (meets 32 x r.when)) b c → Keeps (obeys 32 r) b c
  shutting h c f = λ x e w.
      let z : meets 32 x r.when ≡ false = false_if (meets 32 x r.when) (λ m. h x (obeys-inside x e m) w) in
      f x (rw z) w

  -- no set that obeys it has more of its ends than are taken
  pub shutting_full : (rest : ℕ) → r.hi ≤ held 32 b.must r.only → Without (bit_and r.when r.only) b.must rest → (c : Bounds)
      → Keeps (λ x. not (meets 32 x rest)) b c → Keeps (obeys 32 r) b c
  shutting_full rest q s c f = λ x e w. f x (rw (unmeeting x rest (beyond x e w))) w
    where
      beyond : (x : ℕ) → obeys 32 r x ≡ true → Between b x → (k : ℕ) → k < 32 → has x k ≡ true → has rest k ≡ true → ⊥
      beyond x e w k l i j =
          let a = and-true (has (bit_and r.when r.only) k) (not (has b.must k)) (sym (s k) ∙ j) in
          let d = and-true (has r.when k) (has r.only k) (sym (has-and r.when r.only k) ∙ a.0) in
          let f = leb-true (held 32 x r.only) r.hi (obeys_facts 32 r x e (meets_at 32 x r.when k l i d.0)).1 in
          never (has b.must k) (held-full 32 b.must x r.only w.above (omega arith) k l i d.1) (not-true (has b.must k) a.1)

-- ---- a net
module _ (net : List ℕ) (want : Wanted) (b : Bounds) where
  abbrev passing : ℕ → Bool
  passing = good net want

  pub keeps_rule : (i : ℕ) → i < size net → (r : Rule) → r ≡ rule_at net i → (c : Bounds) → Keeps (heeds want r) b c → Keeps passing b c
  keeps_rule i l r q c f = λ x e w. f x (and_both (enough want x) (obeys 32 r x) (passes-wanted net want 32 x e) (obeyed net want 32 x e i l r q)) w

  pub keeps_wanted : (c : Bounds) → Keeps (enough want) b c → Keeps passing b c
  keeps_wanted c f = λ x e w. f x (passes-wanted net want 32 x e) w

  -- the rivals of an end that is taken go
  pub shuns : (k end : ℕ) → k < limits.most_ends → end ≡ 2 ^ k → meets 32 b.must end ≡ true → (c : Bounds) → Keeps (λ x. not (meets 32 x (at net k))) b c → Keeps passing b c
  shuns k end l q h c f = λ x e w.
      let i : has x k ≡ true = w.above k (omega arith) (taken k end q b.must h) in
      f x (without_rivals x k l e i) w
    where
      taken : (k end : ℕ) → end ≡ 2 ^ k → (m : ℕ) → meets 32 m end ≡ true → has m k ≡ true
      taken k end q m h =
          let r = meeting m end h in
          let z : r.0 ≡ k = has_power_other k r.0 (ap (λ (y : ℕ). has y r.0) (sym q) ∙ r.1.1.1) in
          ap (has m) (sym z) ∙ r.1.1.0

      without_rivals : (x k : ℕ) → k < limits.most_ends → good net want x ≡ true → has x k ≡ true → not (meets 32 x (at net k)) ≡ true
      without_rivals x k l e i =
          by (has x k) (meets 32 x (at net k)) i (sym (clash_obeyed 32 x k (at net k) (omega arith)) ∙ rivals_obeyed net want 32 x e k l)
        where
          by : (a b : Bool) → a ≡ true → not (a && b) ≡ true → not b ≡ true
          by true b e f = f
          by false b e f = never false e refl

-- ---- no two ends of a set are rivals
module _ (net : List ℕ) (x : ℕ) where
  rivals-apart : (k : ℕ) → k < limits.most_ends → obeys 32 (rivals_at net k) x ≡ not (has x k && meets 32 x (at net k))
  rivals-apart k l = clash_obeyed 32 x k (at net k) (omega arith)

  pub apart-all : ((k : ℕ) → k < limits.most_ends → has x k ≡ true → meets 32 x (at net k) ≡ false) → apart net x ≡ true
  unfolding apart
  apart-all h = below_all (λ k. obeys 32 (rivals_at net k) x) 20 (λ k l. rivals-apart k l ∙ by (has x k) (meets 32 x (at net k)) (h k l))
    where
      by : (a b : Bool) → (a ≡ true → b ≡ false) → not (a && b) ≡ true
      by true b f = rw (f refl)
      by false b f = refl

  pub apart-each : apart net x ≡ true → (k : ℕ) → k < limits.most_ends → obeys 32 (rivals_at net k) x ≡ true
  unfolding apart
  apart-each h k l = all-below (λ k. obeys 32 (rivals_at net k) x) 20 h k l

  pub apart-not : (k : ℕ) → ltb k 20 && meets 32 x (at net k) ≡ true → has x k ≡ true → apart net x ≡ false
  apart-not k h i =
      let q = and-true (ltb k 20) (meets 32 x (at net k)) h in
      let l = ltb-true k 20 q.0 in
      false_if (apart net x) (λ e. never (obeys 32 (rivals_at net k) x) (apart-each e k l) (rivals-apart k l ∙ rw (i, q.1)))

  pub passes-rivals : (want : Wanted) → apart net x ≡ false → good net want x ≡ false
  unfolding apart
  passes-rivals want h =
      false_if (good net want x) (λ e. never (all (λ k. obeys 32 (rivals_at net k) x) (below 20)) (below_all (λ k. obeys 32 (rivals_at net k) x) 20 (rivals_obeyed net want 32 x e)) h)

  -- the ends of the set but those that are left have no rivals
  pub record Parted (left : ℕ) : Type 0 where
    pub inside : (k : ℕ) → has left k ≡ true → has x k ≡ true
    pub done : (k : ℕ) → k < limits.most_ends → has x k ≡ true → has left k ≡ false → meets 32 x (at net k) ≡ false

  pub parted-more : (left k rest : ℕ) → Parted left → ltb k 20 && meets 32 x (at net k) ≡ false → Without left (2 ^ k) rest → Parted rest
  parted-more left k rest p f w = record {
    inside = λ j h. p.inside j (and-true (has left j) (not (has (2 ^ k) j)) (sym (w j) ∙ h)).0;
    done = λ j l h i.
        ⊎_elim (λ e. ⊎_elim (λ o. here j l (has_power_other k j o)) (λ o. never (has rest j) (w j ∙ kept j e o) i) (true_or_false (has (2 ^ k) j)))
        (λ e. p.done j l h e) (true_or_false (has left j));
  }
    where
      kept : (j : ℕ) → has left j ≡ true → has (2 ^ k) j ≡ false → has left j && not (has (2 ^ k) j) ≡ true
      kept j e o = and_both (has left j) (not (has (2 ^ k) j)) e (rw o)

      here : (j : ℕ) → j < limits.most_ends → j ≡ k → meets 32 x (at net j) ≡ false
      here j l z = rw z (by (ltb k 20) (meets 32 x (at net k)) (lt-ltb k 20 (omega arith)) f)
        where
          by : (a b : Bool) → a ≡ true → a && b ≡ false → b ≡ false
          by true b e f = f
          by false b e f = never false e refl

  pub parted-all : (left : ℕ) → left ≡ 0 → Parted left → apart net x ≡ true
  parted-all left z p = apart-all (λ k l h. p.done k l h (rw z (has-zero k)))

-- nothing lies between, if `must` is not within `may`
pub none_apart : (b : Bounds) → b.must < 2 ^ 32 → (bit_and b.must b.may ≡ b.must → ⊥) → (x : ℕ) → Between b x → ⊥
none_apart b l ne x w = ne (digits_same 32 b.must b.may l (λ k i h. w.under k i (w.above k i h)))

pub nothing_between : (p : ℕ → Bool) (b c : Bounds) → ((x : ℕ) → Between b x → ⊥) → NoneIn p b
nothing_between p b c f = λ x e w. f x w

-- an end with which nothing is left is struck
pub probed_in : (p : ℕ → Bool) (b c d : Bounds) (end k : ℕ) → end ≡ 2 ^ k → NoneIn p c → Keeps (λ x. has x k) b c → Keeps (λ x. not (meets 32 x end)) b d → Keeps p b d
probed_in p b c d end k is-end none f g = λ x e w.
    ⊎_elim (λ i. absurd (none x e (f x i w))) (λ i. g x (rw (is-end, apart_power 32 x k i)) w) (true_or_false (has x k))
