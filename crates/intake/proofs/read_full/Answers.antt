-- After a turn the space holds what was taken before and behind it what the turn took.
use Rattle.std.proofs.Common.{◌≡◌, ℕ, ◌+◌, ◌-◌, ◌≤◌, List, ◌++◌, rules, length, take, sym, ap, ◌∙◌, subst, length-take-le}
use Rattle.std.proofs.KnownBytes.{Consumes-trans}
use Rattle.std.specs.Io.KnownBytes.{Consumes}
use borrow.Rule.Slice.PartMut.{put_mid, post_of}
use lib.Seq.{take-append-le, take-append-add}
use Rattle.intake.proofs.read_full.Goals as goal

-- the first a, and n of what is put there
joined : (a k n : ℕ) (xs ys : List ℕ) → a ≤ length xs → n ≤ length ys → take (a + n) (put_mid a k xs ys) ≡ take a xs ++ take n ys
joined a k n xs ys within fits =
    subst (λ m. take (m + n) (put_mid a k xs ys) ≡ take a xs ++ take n ys) (length-take-le a xs within)
    (take-append-add (take a xs) (ys ++ post_of a k xs) n ∙ ap (λ l. take a xs ++ l) (take-append-le n ys (post_of a k xs) fits))

pub loop-done-preserved : goal.loop-done-preserved
loop-done-preserved g c =
    let done = c.loop-done.done in
    record {
      within = search rules;
      room = search rules;
      taken =
          subst (Consumes _ _) (sym (joined done (length c.loop-done.space - done) c.in_ok-n.n c.loop-done.space c.read.new.buf c.loop-done.invariant.within c.in_ok-n.ensures.bound.0))
          (Consumes-trans _ _ _ _ _ c.loop-done.invariant.taken c.in_ok-n.ensures.bytes.0);
    }
