-- What masks of ends say: ends are counted by the ones of mask and choice. Assumes nothing.
use mathlib.Core.Path.{◌≡◌, sym, ap, ◌∙◌}
use mathlib.Core.Bool.{Bool, true, false, ◌&&◌, and_comm}
use mathlib.Core.List.{List}
use Prim.Native.Nat.{ℕ, ◌^◌, ◌≤◌, ◌<◌}
use lib.Dec.{eqb}
use lib.Bits.{bit_and}
use lib.Count.{ones}
use Rattle.paper.specs.Lists.{at, has, below, count}
use Rattle.paper.proofs.Counts.{count-below-same, count_most}
use Rattle.words.proofs.Ones.{ones_both}
use Rattle.offers.specs.Sets.{Marks}
use Rattle.ends_masks.specs.Seating.{seats}

-- ---- a mask and a choice
module _ {p : ℕ → Bool} {n w : ℕ} (c : ℕ) (m : Marks p n w) where
  counted : ones (bit_and w c) ≡ count (λ k. has c k && p k) (below n)
  counted =
      ones_both n w c m.small
      ∙ count-below-same (λ k. has w k && has c k) (λ k. has c k && p k) n (λ k l. ap (λ (b : Bool). b && has c k) (m.says k l) ∙ and_comm (p k) (has c k))

-- ---- ends that are taken
pub ones-few : (w c : ℕ) → w < 2 ^ 32 → ones (bit_and w c) ≤ 32
ones-few w c l = rw (ones_both 32 w c l) (count_most (λ k. has w k && has c k) 32)

pub seats_mask : (column : List ℕ) (n c x w : ℕ) → Marks (λ k. eqb (at column k) x) n w → ones (bit_and w c) ≡ seats column n c x
unfolding seats
seats_mask column n c x w m = counted c m

-- ---- a rule asked only where it applies: r was asked for a
module _ {r a : Bool} (e : r ≡ a) (q : Bool) where
  pub stops : r ≡ false → false ≡ a && q
  stops h = rw (sym e ∙ h)

  pub goes_on : r ≡ true → q ≡ a && q
  goes_on h = rw (sym e ∙ h)
