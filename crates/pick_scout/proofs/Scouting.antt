-- Laws of scouting. Assumes nothing.
use mathlib.Core.Path.{◌≡◌, refl, sym, ap, ◌∙◌}
use mathlib.Core.Bool.{Bool, true, false, not}
use mathlib.Core.Logic.{⊎_elim}
use mathlib.Core.Option.{none, some}
use Prim.Native.Nat.{ℕ, suc, ◌+◌, ◌-◌, ◌^◌, ◌≤◌, ◌<◌}
use native.Mathlib.Nat.{pow-suc}
use native.Mathlib.Omega.{arith}
use lib.Pow.{pow_mono, pow_pos}
use lib.Bits.{bit_or}
use Rattle.paper.proofs.Bools.{never, or-true}
use Rattle.paper.specs.Lists.{has}
use Rattle.paper.specs.Limits.{limits}
use Rattle.pick_bounds.specs.declared.Bounds.{Bounds}
use Rattle.pick_bounds.specs.Net.{meets}
use Rattle.pick_bounds.specs.Bounds.{Between, Keeps, NoneIn}
use Rattle.pick_bounds.proofs.Pruning.{none_after, unmeeting}
use Rattle.pick_bounds.proofs.Sets.{has_or, has_power_other}
use Rattle.pick_twins.specs.Twins.{Lacking}
use Rattle.pick_scout.specs.declared.Visit.{Visit}
use Rattle.pick_scout.specs.Scouting.{chosen, said, seen, at_once, Scouted}
use Rattle.std.specs.Prelude.{Result, Ok, Err}
use Rattle.std.specs.Result.{is_ok}

-- ---- numbers of states
pub two-more : (l : ℕ) → 1 < 2 ^ (l + 1)
two-more l = let e : l + 1 ≡ suc l = omega arith in rw (e, pow-suc 2 l) (let p = pow_pos l in omega arith)

pub halves : (l : ℕ) → 1 ≤ l → 2 ^ (l + 1) ≡ 2 ^ (l - 1 + 1) + 2 ^ (l - 1 + 1)
halves l h = let e : l + 1 ≡ suc (l - 1 + 1) = omega arith in rw (e, pow-suc 2 (l - 1 + 1)) (omega arith)

pub few_states : (l m : ℕ) → l ≤ m → m ≤ limits.most_ends → 2 ^ (l + 1) ≤ 2097152
few_states l m h k = let e : l + 1 ≤ 21 = omega arith in pow_mono e

-- ---- scouting
not-sure : (c : ℕ) → some c ≡ none → ⊥
not-sure c e = let q : ◌≡◌ {A = ℕ} 0 1 = cc in omega arith

-- what the tests of a find say
pub found-one : (r : Result ℕ ℕ) → is_ok r ≡ true → chosen r ≡ none → ⊥
found-one (Ok c) t e = not-sure c e
found-one (Err c) t e = never false t refl

pub found-none : (r : Result ℕ ℕ) → is_ok r ≡ false → chosen r ≡ none
found-none (Ok c) t = never true refl t
found-none (Err c) t = refl

-- some set may be there
pub scouts_alive : (w : ℕ → Bool) (l : ℕ) (b : Bounds) (c : ℕ) → Scouted w l b (at_once (Ok c))
scouts_alive w l b c = record { sure = λ e. absurd (not-sure c e); some-seen = omega arith; most_seen = two-more l }

-- nothing is there
pub scouts_dead : (w : ℕ → Bool) (l : ℕ) (b : Bounds) (c : ℕ) → NoneIn w b → Scouted w l b (at_once (Err c))
scouts_dead w l b c h = record { sure = λ e. h; some-seen = omega arith; most_seen = two-more l }

-- ---- ends that can't be had
module _ (w : ℕ → Bool) (b : Bounds) where
  -- nothing is left between bounds that were drawn together with the end
  pub lost : (k : ℕ) (c with : Bounds) → Keeps (λ x. has x k) b c → Keeps w c with → NoneIn w with → Lacking w b k
  lost k c with f g h = λ x e u i. h x e (g x e (f x i u))

  -- the end and others that can't be had go
  pub struck_all : (k end t : ℕ) → end ≡ 2 ^ k → Lacking w b k → ((j : ℕ) → has t j ≡ true → Lacking w b j)
      → (c out : Bounds) → Keeps (λ x. not (meets 32 x (bit_or end t))) b c → Keeps w c out → Keeps w b out
  struck_all k end t q h g c out f r = λ x e u. r x e (f x (rw (unmeeting x (bit_or end t) (beyond x e u))) u)
    where
      beyond : (x : ℕ) → w x ≡ true → Between b x → (j : ℕ) → j < 32 → has x j ≡ true → has (bit_or end t) j ≡ true → ⊥
      beyond x e u j l i o =
          ⊎_elim (λ a. h x e u (ap (has x) (sym (has_power_other k j (ap (λ (y : ℕ). has y j) (sym q) ∙ a))) ∙ i)) (λ a. g j a x e u i)
          (or-true (has end j) (has t j) (sym (has_or end t j) ∙ o))

-- ---- a scout's two ways
module _ (w : ℕ → Bool) (l : ℕ) (b : Bounds) (some_left : 1 ≤ l) (c : Bounds) (f : Visit) (tried : Scouted w (l - 1) c f) where
  pub scouts_with : (said f ≡ none → ⊥) → (r : Visit) → said r ≡ said f → seen r ≡ 1 + seen f → Scouted w l b r
  scouts_with there r same more =
      let o = tried.most_seen in
      record { sure = λ e. absurd (there (sym same ∙ e)); some-seen = omega arith; most_seen = omega (arith, halves l some_left, tried.some-seen) }

  -- what is found without the end
  pub scouts_without : (out : Bounds) → Keeps w b out → (v : Visit) → Scouted w (l - 1) out v
      → (t : ℕ) → t ≡ seen f + 1 → (r : Visit) → said r ≡ said v → seen r ≡ t + seen v → Scouted w l b r
  scouts_without out kept v rest t q r same more =
      let g = tried.most_seen in
      let i = rest.most_seen in
      record {
        sure = λ h. none_after w b out kept (rest.sure (sym same ∙ h));
        some-seen = omega arith;
        most_seen = omega (arith, halves l some_left);
      }
