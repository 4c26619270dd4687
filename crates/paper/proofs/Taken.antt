-- The ends that a choice takes are ends of its board. Assumes nothing.
use mathlib.Core.Path.{refl, subst}
use Prim.Native.Nat.{ℕ}
use mathlib.Core.List.{List}
use mathlib.Core.Option.{none}
use Rattle.paper.specs.Lists.{has, below, keep, each}
use Rattle.paper.specs.Offers.{Offer, first}
use Rattle.paper.specs.Choices.{Board, how_many, end, taken, taken_ends}
use Rattle.paper.proofs.Members.{In, in-equal, in_keep, in_each, each_in}
use Rattle.paper.proofs.Lengths.{each_below}

pub taken_in : (d : Board) (c : ℕ) {o : Offer} → In o (taken_ends d c) → In o d.all_ends
unfolding taken_ends taken
taken_in d c {o} k =
    let r = in_each (end d) (keep (has c) (below (how_many d))) k in
    let s = in_keep (has c) (below (how_many d)) r.1 in
    let q : In o (each (end d) (below (how_many d))) = in-equal r.2 (each_in (end d) s.0) in
    subst (λ (xs : List Offer). In o xs) (each_below (first 0 none) (end d) d.all_ends (λ k l. refl)) q
