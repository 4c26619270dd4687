-- The search and its scout: what each of their ways to answer finds, and how many states it visits. Assumes nothing.
use mathlib.Core.Path.{◌≡◌, refl, sym, ap, ◌∙◌, subst}
use mathlib.Core.Bool.{Bool, true, false, not, cond}
use mathlib.Core.Option.{Option, none, some}
use Rattle.std.specs.Prelude.{Option as Told, Some, None, Result, Ok, Err}
use Rattle.std.specs.Result.{result_ok}
use Prim.Native.Nat.{ℕ, suc, ◌+◌, ◌*◌, ◌-◌, ◌%◌, ◌^◌, ◌≤◌, ◌<◌}
use native.Mathlib.Nat.{pow-suc, zero-add, add-zero, mod-one}
use native.Mathlib.Omega.{arith}
use lib.Pow.{pow_mono, pow_pos, pow-add}
use Rattle.paper.specs.Lists.{has}
use Rattle.paper.proofs.Bools.{never, false_if}
use Rattle.paper.proofs.Digits.{in_digit, out_digit, has-zero}
use Rattle.paper.proofs.Bits.{has-high}
use native.Mathlib.Decide.{dec_lt}
use mathlib.Core.Logic.{⊎_elim}
use Rattle.paper.proofs.Choices.{first_unique}
use Rattle.paper.proofs.Search.{look, Finds, look_finds, look_first, found_first}
use Rattle.paper.specs.Limits.{limits}
use Rattle.pick_bounds.specs.declared.Bounds.{Bounds}
use Rattle.pick_search.specs.declared.Place.{Place}
use Rattle.pick_search.specs.declared.Spot.{Spot}
use Rattle.pick_scout.specs.declared.Visit.{Visit}
use Rattle.pick_scout.specs.Scouting.{chosen, said, seen, at_once, Scouted}
use Rattle.pick_scout.proofs.Scouting.{two-more, halves, few_states}
use Rattle.pick_bounds.specs.Net.{Net, meets, passes}
use Rattle.pick_search.specs.Searching.{Answers, Confined, AtPlace, Skipped, stepped, Visited}
use Rattle.pick_bounds.specs.Bounds.{Between, Keeps, NoneIn}
use Rattle.pick_bounds.proofs.Sets.{has_all, meets-one, meets_or, apart_power}
use Rattle.pick_bounds.proofs.Pruning.{unmeeting}
use Rattle.pick_twins.specs.Twins.{Lacking}
use lib.Bits.{bit_or}
use Rattle.pick_bounds.proofs.Rules.{passes_wider, first-same}

-- ---- the search through all sets, by the number of open ends
look_none : (w : ℕ → Bool) (r k acc : ℕ) → acc < 2 ^ k → ((x : ℕ) → x < 2 ^ (k + r) → x % 2 ^ k ≡ acc → w x ≡ false) → look w r k acc ≡ none
look_none w r k acc la h = by (look w r k acc) (look_finds w r k acc la)
  where
    by : (o : Option ℕ) → Finds w r k acc o → o ≡ none
    by none f = refl
    by (some c) f = never (w c) f.passes (h c f.is_set f.starts)

look_leaf : (w : ℕ → Bool) (k acc : ℕ) → w acc ≡ true → look w 0 k acc ≡ some acc
unfolding look
look_leaf w k acc h = rw h

look_leaf_none : (w : ℕ → Bool) (k acc : ℕ) → w acc ≡ false → look w 0 k acc ≡ none
unfolding look
look_leaf_none w k acc h = rw h

module _ (w : ℕ → Bool) (r k acc : ℕ) where
  look_by : (o : Option ℕ) → look w r (suc k) (acc + 2 ^ k) ≡ o → look w (suc r) k acc ≡ elim o [ none ↦ look w r (suc k) acc | some c ↦ some c ]
  unfolding look
  look_by o e = ap (λ (o : Option ℕ). elim o [ none ↦ look w r (suc k) acc | some c ↦ some c ]) e

look_take : (w : ℕ → Bool) (l k acc c : ℕ) → 1 ≤ l → look w (l - 1) (suc k) (acc + 2 ^ k) ≡ some c → look w l k acc ≡ some c
look_take w l k acc c h e =
    subst (λ (j : ℕ). look w j k acc ≡ some c) (let z : suc (l - 1) ≡ l = omega arith in z) (look_by w (l - 1) k acc (some c) e)

look_leave : (w : ℕ → Bool) (l k acc : ℕ) → 1 ≤ l → look w (l - 1) (suc k) (acc + 2 ^ k) ≡ none → look w l k acc ≡ look w (l - 1) (suc k) acc
look_leave w l k acc h e =
    subst (λ (j : ℕ). look w j k acc ≡ look w (l - 1) (suc k) acc) (let z : suc (l - 1) ≡ l = omega arith in z) (look_by w (l - 1) k acc none e)

-- ---- places: the first open end is taken, or left
abbrev pub taking : Place → Place
taking p = stepped p p.bit

abbrev pub leaving : Place → Place
leaving p = record { bit = p.bit * 2; taken = p.taken }

pub stepped_leaving : (p : Place) → stepped p 0 ≡ leaving p
stepped_leaving p = ap (λ (t : ℕ). record { bit = p.bit * 2; taken = t }) (add-zero p.taken)

module _ (m left : ℕ) (p : Place) (placed : AtPlace m left p) (some-open : 1 ≤ left) where
  next : m - (left - 1) ≡ suc (m - left)
  next = let f = placed.few in omega arith

  double : 2 ^ (m - (left - 1)) ≡ p.bit * 2
  double = rw (next, pow-suc 2 (m - left), placed.weight)

  pub small-weight : m ≤ limits.most_ends → p.bit ≤ 524288
  small-weight h = let e : m - left ≤ 19 = omega arith in omega (arith, placed.weight, pow_mono e)

  pub placed_taking : AtPlace m (left - 1) (taking p)
  placed_taking = record {
    few = let f = placed.few in omega arith;
    weight = sym double;
    small = let s = placed.small in omega arith;
  }

  pub placed_leaving : AtPlace m (left - 1) (leaving p)
  placed_leaving = record {
    few = let f = placed.few in omega arith;
    weight = sym double;
    small = let s = placed.small in omega arith;
  }

-- ---- ends that are decided
module _ (w : ℕ → Bool) (m left : ℕ) (p : Place) (b : Bounds) (placed : AtPlace m left p) (some-open : 1 ≤ left) (most : m ≤ limits.most_ends) where
  abbrev k : ℕ
  k = m - left

  small : p.taken < 2 ^ k
  small = rw (← placed.weight) placed.small

  larger : p.taken < 2 ^ suc k
  larger = rw (pow-suc 2 k) (let s = small in omega arith)

  more_large : p.taken + 2 ^ k < 2 ^ suc k
  more_large = rw (pow-suc 2 k) (let s = small in omega arith)

  in_words : k < 32
  in_words = let f = placed.few in omega arith

  after_k : m - (left - 1) ≡ suc k
  after_k = next m left p placed some-open

  wide : suc k + (left - 1) ≡ m
  wide = let g = placed.few in omega arith

  -- the sets with the first open end, and those without it, lie between the bounds too
  stays_in : Confined w m k p.taken b → Confined w m (m - (left - 1)) (p.taken + p.bit) b
  stays_in all = rw (after_k, placed.weight) (λ x l s e. all x l (in_digit x k p.taken small s).1 e)

  stays_out : Confined w m k p.taken b → Confined w m (m - (left - 1)) p.taken b
  stays_out all = rw after_k (λ x l s e. all x l (out_digit x k p.taken small s).1 e)

  -- no set has the end
  pub none-with : Confined w m k p.taken b → ((x : ℕ) → w x ≡ true → Between b x → has x k ≡ true → ⊥) → look w left k p.taken ≡ look w (left - 1) (suc k) p.taken
  none-with all h = look_leave w left k p.taken some-open (look_none w (left - 1) (suc k) (p.taken + 2 ^ k) more_large (λ x l s.
      let d = in_digit x k p.taken small s in
      false_if (w x) (λ e. h x e (all x (rw wide at l) d.1 e) d.0)))

  -- every set has it
  all-with : Confined w m k p.taken b → has b.must k ≡ true → look w left k p.taken ≡ look w (left - 1) (suc k) (p.taken + 2 ^ k)
  all-with all h = by (look w (left - 1) (suc k) (p.taken + 2 ^ k)) refl
    where
      none_out : look w (left - 1) (suc k) p.taken ≡ none
      none_out = look_none w (left - 1) (suc k) p.taken larger (λ x l s.
          let d = out_digit x k p.taken small s in
          false_if (w x) (λ e. never (has x k) ((all x (rw wide at l) d.1 e).above k in_words h) d.0))

      by : (o : Option ℕ) → look w (left - 1) (suc k) (p.taken + 2 ^ k) ≡ o → look w left k p.taken ≡ o
      by none e = look_leave w left k p.taken some-open e ∙ none_out
      by (some c) e = look_take w left k p.taken c some-open e

  -- one that isn't open: it is taken if it may be had, and left if not
  abbrev decided : Place
  decided = stepped p (cond (meets 32 b.may p.bit) p.bit 0)

  there : (d : ℕ) → meets 32 d p.bit ≡ has d k
  there d = ap (meets 32 d) placed.weight ∙ meets-one 32 d k in_words

  pub placed_decided : AtPlace m (left - 1) decided
  placed_decided = by (meets 32 b.may p.bit)
    where
      by : (t : Bool) → AtPlace m (left - 1) (stepped p (cond t p.bit 0))
      by true = placed_taking m left p placed some-open
      by false = rw (stepped_leaving p) (placed_leaving m left p placed some-open)

  pub skips : (meets 32 b.may p.bit ≡ true → meets 32 b.must p.bit ≡ true) → Skipped w m left p b (record { left = left - 1; place = decided })
  skips h all = by (meets 32 b.may p.bit) refl
    where
      by : (t : Bool) → meets 32 b.may p.bit ≡ t
          → (look w left k p.taken ≡ look w (left - 1) (m - (left - 1)) (p.taken + cond t p.bit 0)) × Confined w m (m - (left - 1)) (p.taken + cond t p.bit 0) b
      by true e = (all-with all (sym (there b.must) ∙ h e) ∙ rw (after_k, placed.weight), stays_in all)
      by false e =
          let z : p.taken + 0 ≡ p.taken = omega arith in
          (none-with all (λ x f u i. never (has b.may k) (u.under k in_words i) (sym (there b.may) ∙ e)) ∙ rw (after_k, z), rw z (stays_out all))

pub skipped_none : (w : ℕ → Bool) (m left : ℕ) (p : Place) (b : Bounds) → Skipped w m left p b (record { left = left; place = p })
skipped_none w m left p b all = (refl, all)

pub skipped_then : (w : ℕ → Bool) (m left : ℕ) (p : Place) (b : Bounds) (s t : Spot) → Skipped w m left p b s → Skipped w m s.left s.place b t → Skipped w m left p b t
skipped_then w m left p b s t f g all = let a = f all in let c = g a.1 in (a.0 ∙ c.0, c.1)

-- what is found further on is found here
pub visited_skip : (w : ℕ → Bool) (m left : ℕ) (p : Place) (b : Bounds) (s : Spot) (v : Visit) → s.left ≤ left → Skipped w m left p b s → Visited w m s.left s.place b v → Visited w m left p b v
visited_skip w m left p b s v l f g = record {
  finds = λ all. let a = f all in g.finds a.1 ∙ sym a.0;
  some-seen = g.some-seen;
  most_seen = let q : s.left + 1 ≤ left + 1 = omega arith in let z = pow_mono q in let e = g.most_seen in omega arith;
}

-- ---- all ends that may be had are the first set
pub may_first : (w : ℕ → Bool) (m left : ℕ) (p : Place) (b : Bounds) → AtPlace m left p → m ≤ limits.most_ends → b.may < 2 ^ m → b.may % p.bit ≡ p.taken → w b.may ≡ true
    → Confined w m (m - left) p.taken b → look w left (m - left) p.taken ≡ some b.may
may_first w m left p b placed most l s e all = by (look w left (m - left) p.taken) (look_finds w left (m - left) p.taken small)
  where
    small : p.taken < 2 ^ (m - left)
    small = rw (← placed.weight) placed.small

    width : (m - left) + left ≡ m
    width = let f = placed.few in omega arith

    is_set : b.may < 2 ^ ((m - left) + left)
    is_set = rw width l

    starts : b.may % 2 ^ (m - left) ≡ p.taken
    starts = rw (← placed.weight) s

    inside : (c : ℕ) → c < 2 ^ ((m - left) + left) → (j : ℕ) → has c j ≡ true → j < 32
    inside c l j h =
        elim (dec_lt j 32) [
          | yes i ↦ i
          | no i ↦ never (has c j) h (has-high c m j (rw width at l) (omega arith))
        ]

    by : (o : Option ℕ) → Finds w left (m - left) p.taken o → o ≡ some b.may
    by none f = never (w b.may) e (f b.may is_set starts)
    by (some c) f =
        ⊎_elim (λ z. ap some (sym z))
        (λ z.
        never (has b.may z.lowest-end)
        ((all c (rw width at f.is_set) f.starts f.passes).under z.lowest-end (inside c f.is_set z.lowest-end z.held) z.held) z.not-held)
        (f.before_others b.may is_set starts e)

-- only the sets without the first open end are left, after so many states
pub record Past (w : ℕ → Bool) (m left : ℕ) (p : Place) (b : Bounds) (t : ℕ) : Type 0 where
  pub without : Confined w m (m - left) p.taken b → look w left (m - left) p.taken ≡ look w (left - 1) (suc (m - left)) p.taken
  pub some-seen : 1 ≤ t
  pub most_seen : t < 2097152 * 2 ^ (left - 1 + 1)

-- ---- ways to answer
pub ends_dead : (w : ℕ → Bool) (m left : ℕ) (p : Place) (b : Bounds) (c : ℕ) → AtPlace m left p → ((x : ℕ) → Between b x → ⊥) → Visited w m left p b (at_once (Err c))
ends_dead w m left p b c placed h = record {
  finds = λ all.
      let z : (m - left) + left ≡ m = let f = placed.few in omega arith in
      sym (look_none w left (m - left) p.taken (rw (← placed.weight) placed.small) (λ x l s. false_if (w x) (λ e. h x (all x (rw z at l) s e))));
  some-seen = omega arith;
  most_seen = omega (arith, two-more left);
}

-- no end is open
pub ends_leaf : (w : ℕ → Bool) (m left : ℕ) (p : Place) (b : Bounds) → left ≡ 0 → (t : Bool) → t ≡ w p.taken → (v : Visit) → said v ≡ cond t (some p.taken) none → seen v ≡ 1
    → Visited w m left p b v
ends_leaf w m left p b z t e v same one = record {
  finds = λ all. same ∙ by t e;
  some-seen = omega arith;
  most_seen = omega (arith, two-more left);
}
  where
    by : (t : Bool) → t ≡ w p.taken → cond t (some p.taken) none ≡ look w left (m - left) p.taken
    by true e = sym (rw z (look_leaf w _ p.taken (sym e)))
    by false e = sym (rw z (look_leaf_none w _ p.taken (sym e)))

module _ (w : ℕ → Bool) (m left : ℕ) (p : Place) (b : Bounds) (placed : AtPlace m left p) (most : m ≤ limits.most_ends) (some-open : 1 ≤ left) where
  abbrev at : ℕ
  at = m - left

  here : p.taken < 2 ^ at
  here = small w m left p b placed some-open most

  follows : m - (left - 1) ≡ suc at
  follows = next m left p placed some-open

  halved : 2 ^ (left + 1) ≡ 2 ^ (left - 1 + 1) + 2 ^ (left - 1 + 1)
  halved = halves left some-open

  -- bounds drawn together with the end
  module _ (c with : Bounds) (adds : (j : ℕ) → p.bit ≡ 2 ^ j → Keeps (λ x. has x j) b c) (kept : Keeps w c with) where
    confined_in : Confined w m at p.taken b → Confined w m (m - (left - 1)) (p.taken + p.bit) with
    confined_in all = rw (follows, placed.weight) (λ x l s e.
        let d = in_digit x at p.taken here s in
        kept x e (adds at placed.weight x d.0 (all x l d.1 e)))

    -- all that may be had with it
    pub finds-first : with.may < 2 ^ m → with.may % (taking p).bit ≡ (taking p).taken → w with.may ≡ true → Visited w m left p b (at_once (Ok with.may))
    finds-first l s e = record {
      finds = λ all. sym (look_take w left at p.taken with.may some-open
          (sym (rw (follows, placed.weight)) ∙ may_first w m (left - 1) (taking p) with (placed_taking m left p placed some-open) most l s e (confined_in all)));
      some-seen = omega arith;
      most_seen = omega (arith, two-more left);
    }

    -- none is left with it
    pub past_none : NoneIn w with → (t : ℕ) → 1 ≤ t → t < 2 ^ (m + 1) → Past w m left p b t
    past_none empty t l q = record {
      without = λ all. none-with w m left p b placed some-open most all (λ x e u i. empty x e (kept x e (adds at placed.weight x i u)));
      some-seen = l;
      most_seen = omega (arith, few_states m m (omega arith) most, pow_pos (left - 1 + 1));
    }

    module _ (f : Visit) (took : Visited w m (left - 1) (taking p) with f) (t : ℕ) (few : t < 2 ^ (m + 1)) where
      looked : Confined w m at p.taken b → said f ≡ look w (left - 1) (suc at) (p.taken + 2 ^ at)
      looked all = took.finds (confined_in all) ∙ rw (follows, placed.weight)

      -- found with it
      pub finds-with : (said f ≡ none → ⊥) → 1 ≤ t → (r : Visit) → said r ≡ said f → seen r ≡ t + seen f → Visited w m left p b r
      finds-with there ge r same more =
          let o = took.most_seen in
          let z = few_states m m (omega arith) most in
          record {
            finds = λ all. same ∙ by all (said f) refl;
            some-seen = omega arith;
            most_seen = omega (arith, halved, pow_pos (left - 1 + 1));
          }
        where
          by : Confined w m at p.taken b → (o : Option ℕ) → said f ≡ o → said f ≡ look w left at p.taken
          by all none e = absurd (there e)
          by all (some s) e = e ∙ sym (look_take w left at p.taken s some-open (sym (looked all) ∙ e))

      -- nothing with it
      pub past_with : said f ≡ none → (u : ℕ) → u ≡ t + seen f → Past w m left p b u
      past_with e u q = record {
        without = λ all. look_leave w left at p.taken some-open (sym (looked all) ∙ e);
        some-seen = omega (arith, took.some-seen);
        most_seen = omega (arith, took.most_seen, few_states m m (omega arith) most);
      }

  module _ (t : ℕ) (past : Past w m left p b t) (rest : ℕ) (beyond : (x : ℕ) → w x ≡ true → Between b x → has x at ≡ false → meets 32 x rest ≡ false)
      (c out : Bounds) (strikes : Keeps (λ x. not (meets 32 x rest)) b c) (kept : Keeps w c out) where
    confined_out : Confined w m at p.taken b → Confined w m (m - (left - 1)) p.taken out
    confined_out all = rw follows (λ x l s e.
        let d = out_digit x at p.taken here s in
        let u = all x l d.1 e in
        kept x e (strikes x (rw (beyond x e u d.0)) u))

    -- all that may be had without it
    pub finds-first-out : out.may < 2 ^ m → out.may % (leaving p).bit ≡ (leaving p).taken → w out.may ≡ true → Visited w m left p b (record { found = Ok out.may; states = t + 1 })
    finds-first-out l s e = record {
      finds = λ all. sym (past.without all ∙ sym (rw follows) ∙ may_first w m (left - 1) (leaving p) out (placed_leaving m left p placed some-open) most l s e (confined_out all));
      some-seen = omega arith;
      most_seen = omega (arith, halved, past.most_seen, pow_pos (left - 1 + 1));
    }

    -- what is found without it
    pub finds_without : (v : Visit) → Visited w m (left - 1) (leaving p) out v → (r : Visit) → said r ≡ said v → seen r ≡ t + seen v → Visited w m left p b r
    finds_without v g r same more =
        let i = past.most_seen in
        let j = g.most_seen in
        record {
          finds = λ all. same ∙ g.finds (confined_out all) ∙ rw follows (sym (past.without all));
          some-seen = omega (arith, past.some-seen);
          most_seen = omega (arith, halved);
        }

-- ---- ends that are gone with one that a set doesn't have: it alone, or those that can't be had either
pub alone : (x k end : ℕ) → end ≡ 2 ^ k → has x k ≡ false → meets 32 x end ≡ false
alone x k end q h = rw (q, apart_power 32 x k h)

pub twinned : (w : ℕ → Bool) (b : Bounds) (k end t : ℕ) → end ≡ 2 ^ k → ((j : ℕ) → has t j ≡ true → Lacking w b j)
    → (x : ℕ) → w x ≡ true → Between b x → has x k ≡ false → meets 32 x (bit_or end t) ≡ false
twinned w b k end t q h x e u i = meets_or x end t (alone x k end q i) (unmeeting x t (λ j l g o. h j o x e u g))

-- ---- the whole search
pub confined_start : (w : ℕ → Bool) (m top : ℕ) → top ≡ 2 ^ m → Confined w m (m - m) 0 (record { must = 0; may = top - 1 })
confined_start w m top e = λ x l s h. record {
  above = λ k i g. never (has 0 k) g (has-zero k);
  under = λ k i g. rw e (has_all m x k l g);
}

pub placed-start : (m : ℕ) → AtPlace m m (record { bit = 1; taken = 0 })
placed-start m = record {
  few = omega arith;
  weight = let e : m - m ≡ 0 = omega arith in rw e;
  small = omega arith;
}

pub looks_all : (w : ℕ → Bool) (m : ℕ) → look w m (m - m) 0 ≡ look w m 0 0
looks_all w m = let e : m - m ≡ 0 = omega arith in ap (λ (k : ℕ). look w m k 0) e

all_states : (m : ℕ) → 2 ^ (m + 22) ≡ 2097152 * 2 ^ (m + 1)
all_states m = let e : m + 22 ≡ (m + 1) + 21 = omega arith in rw (e, pow-add 2 (m + 1) 21) (omega arith)

module _ (w : ℕ → Bool) (m top : ℕ) (is-top : top ≡ 2 ^ m) (most : m ≤ limits.most_ends) (b : Bounds) (kept : Keeps w (record { must = 0; may = top - 1 }) b) where
  whole : Confined w m (m - m) 0 b
  whole x l s e = kept x e (confined_start w m top is-top x l s e)

  -- all that may be had
  pub whole-first : b.may < 2 ^ m → b.may % 1 ≡ 0 → w b.may ≡ true → (some b.may ≡ look w m 0 0) × ((1 ≤ 1) × (1 < 2 ^ (m + 22)))
  whole-first l s e = (
    sym (may_first w m m (record { bit = 1; taken = 0 }) b (placed-start m) most l s e whole) ∙ looks_all w m,
    (omega arith, omega (arith, all_states m, pow_pos (m + 1))),
  )

  -- the scout finds nothing
  pub whole-none : (f : Visit) → Scouted w m b f → said f ≡ none → (said f ≡ look w m 0 0) × ((1 ≤ seen f) × (seen f < 2 ^ (m + 22)))
  whole-none f scouted e =
      let z : (m - m) + m ≡ m = omega arith in
      let a = scouted.most_seen in (
        e ∙ sym (look_none w m (m - m) 0 (pow_pos (m - m)) (λ x l s. false_if (w x) (λ g. scouted.sure e x g (whole x (rw z at l) s g)))) ∙ looks_all w m,
        (omega (arith, scouted.some-seen), omega (arith, all_states m)),
      )

  -- it leaves the search something to find
  pub whole-found : (v : Visit) → Visited w m m (record { bit = 1; taken = 0 }) b v → (n : ℕ) → n < 2 ^ (m + 1)
      → (r : Visit) → said r ≡ said v → seen r ≡ n + seen v → (said r ≡ look w m 0 0) × ((1 ≤ seen r) × (seen r < 2 ^ (m + 22)))
  whole-found v visited n few r same more = (
    same ∙ visited.finds whole ∙ looks_all w m,
    (omega (arith, visited.some-seen), omega (arith, all_states m, visited.most_seen, few_states m m (omega arith) most)),
  )

-- what it finds is the first set that passes, by the ends below m alone
module _ (net : Net) (m : ℕ) (most : m ≤ limits.most_ends) where
  agree : (x : ℕ) → x < 2 ^ m → passes 32 net x ≡ passes m net x
  agree x l = subst (λ (n : ℕ). passes n net x ≡ passes m net x) (let e : m + (32 - m) ≡ 32 = omega arith in e) (passes_wider m (32 - m) x l net)

  looked_at : (o : Option ℕ) → o ≡ look (passes 32 net) m 0 0 → Finds (passes 32 net) m 0 0 o
  looked_at o e = subst (λ (p : Option ℕ). Finds (passes 32 net) m 0 0 p) (sym e) (look_first (passes 32 net) m)

  pub answers_choice : (c : ℕ) → some c ≡ look (passes 32 net) m 0 0 → Answers net m (Some c)
  unfolding Answers
  answers_choice c e = first-same (passes 32 net) (passes m net) m agree c (found_first (passes 32 net) m c (looked_at (some c) e))

  pub answers_nothing : none ≡ look (passes 32 net) m 0 0 → Answers net m None
  unfolding Answers
  answers_nothing e = λ x l. sym (agree x l) ∙ looked_at none e x (rw (zero-add m) l) (mod-one x)

  pub answers_found : (r : Result ℕ ℕ) → chosen r ≡ look (passes 32 net) m 0 0 → Answers net m (result_ok r)
  answers_found (Ok c) e = answers_choice c e
  answers_found (Err c) e = answers_nothing e

-- the promise allows one answer
pub answers_unique : (net : Net) (m : ℕ) (f g : Told ℕ) → Answers net m f → Answers net m g → f ≡ g
unfolding Answers
answers_unique net m (Some c) (Some d) p q = ap Some (first_unique c d p q)
answers_unique net m (Some c) None p q = never (passes m net c) p.passes (q c p.is_set)
answers_unique net m None (Some d) p q = never (passes m net d) q.passes (p d q.is_set)
answers_unique net m None None p q = refl
