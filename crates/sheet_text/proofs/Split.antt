-- Laws of cutting a stream: its front is as long as its length field says, or as what there is. Assumes nothing.
use mathlib.Core.Path.{◌≡◌, sym, ◌∙◌}
use mathlib.Core.List.{List}
use Prim.Native.Nat.{ℕ, ◌+◌, ◌*◌, ◌≤◌, ◌<◌}
use native.Mathlib.Omega.{arith}
use lib.ListN.{length, take, drop, drop_of_length-le}
use lib.Seq.{take_all}
use borrow.Author.Tests.{lt-ltb, le-ltb}
use Rattle.paper.specs.Lists.{at}
use Rattle.paper.specs.Program.{part_length, part, behind}

-- the first r bytes are the part in front
pub record Cut (s : List ℕ) (r : ℕ) : Type 0 where
  pub inside : r ≤ length s
  pub is-part : take r s ≡ part s
  pub is-behind : drop r s ≡ behind s

module _ (s : List ℕ) where
  -- a stream that ends inside its front
  all-of_it : length s ≤ part_length s → Cut s (length s)
  all-of_it l = record {
    inside = omega arith;
    is-part = take_all (length s) s (omega arith) ∙ sym (take_all (part_length s) s l);
    is-behind = drop_of_length-le s {i = length s} (omega arith) ∙ sym (drop_of_length-le s {i = part_length s} l);
  }

  pub cut_short : length s < 2 → Cut s (length s)
  cut_short l = all-of_it (rw (lt-ltb (length s) 2 l) (omega arith))

  module _ (n : ℕ) (two : 2 ≤ length s) (e : n ≡ at s 0 * 256 + at s 1) where
    is-length : part_length s ≡ 2 + n
    is-length = rw (le-ltb (length s) 2 two) (omega arith)

    pub cut_over : length s < 2 + n → Cut s (length s)
    cut_over l = all-of_it (omega (arith, is-length))

    pub cut_inside : 2 + n ≤ length s → Cut s (2 + n)
    cut_inside l = record { inside = l; is-part = rw is-length; is-behind = rw is-length }
