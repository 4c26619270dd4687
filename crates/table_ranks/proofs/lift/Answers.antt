-- `lift` meets its contract: each link passed has lifted its target. Assumes nothing.
use mathlib.Core.Path.{◌≡◌, sym, ap, ◌∙◌, subst}
use mathlib.Core.Bool.{false≢true}
use Prim.Native.Nat.{ℕ, ◌+◌, ◌≤◌, ◌<◌}
use native.Mathlib.Omega.{arith}
use lib.ListN.{length, length-set, set}
use borrow.Author.Count.{below_more}
use Rattle.paper.specs.Lists.{at}
use Rattle.paper.specs.Table.{source, target}
use Rattle.table_ranks.specs.Chains.{IsLink, NextRank}
use Rattle.table_ranks.proofs.Chains.{Lifting, Above, lift_left, left-above, lift_taken, pass_ranked, pass_settled}
use Rattle.table_ranks.proofs.lift.Goals as goal
use Rattle.table_ranks.proofs.lift.Goals.{then-rk-i, else-rk-i}

pub returns : goal.returns
returns c = λ k low high h.
    let l = c.loop-x in
    let t = c.args.s.now in
    let links = c.args.links.now in
    let e : l.x ≡ c.args.n = omega arith in
    let old = l.invariant.1 k h in
    let y = subst (λ z. Lifting t links l.rk k z) e old.0 in (
      pass_ranked c.requires.0 c.requires.1 low y high,
      λ z. pass_settled c.requires.0 c.requires.1 low y (subst (λ z. (y : ℕ) → y < z → Above t l.rk (at links y)) e (old.1 z)),
    )

pub loop-x-preserved : goal.loop-x-preserved
loop-x-preserved c =
    let t = c.args.s.now in
    let links = c.args.links.now in
    let p = c.requires in
    let f = p.0 in
    let l = c.loop-x in
    let j = at links l.x in
    let r = c.next_rank-r.result in
    let is_link : IsLink t j = p.1.only l.x c.loop-x-test.true in
    let to = c.target-i.ensures.0 ∙ ap (target t) c.wide-j.ensures.0 in
    let from = c.source.ensures.0 ∙ ap (source t) c.wide-j.ensures.0 in
    let next : NextRank (at l.rk (source t j)) r = subst (λ z. NextRank (at l.rk z) r) from c.next_rank-r.ensures in
    let room : target t j < length l.rk = omega (arith, f.targets j is_link.inside, f.spans.nodes-read) in
    elim c.if-rk-i.branch [
      | then-rk-i v ↦ (
        ap length v.rk-is ∙ length-set l.rk _ r ∙ l.invariant.0,
        λ k u. (
          subst (λ z. Lifting t links z k (l.x + 1)) (sym (v.rk-is ∙ ap (λ z. set l.rk z r) to))
              (lift_taken f is_link next (l.invariant.1 k u).0 room (subst (λ z. at l.rk z < r) to v.if-rk-i.true)),
          λ z. absurd (false≢true (sym z ∙ v.any-is)),
        ),
      )
      | else-rk-i v ↦
          let high : r ≤ at l.rk (target t j) = subst (λ z. r ≤ at l.rk z) to v.if-rk-i.false in
          rw (v.rk-is, v.any-is) (
            l.invariant.0,
            λ k u.
                let old = l.invariant.1 k u in (
                  lift_left f is_link next old.0 high,
                  λ z. below_more (λ y. Above t l.rk (at links y)) _ (old.1 z) (left-above f is_link next old.0 high),
                ),
          )
    ]
