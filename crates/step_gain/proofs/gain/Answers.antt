-- `gain`: one node after the other, each behind the one before. The invariant: what is stored is no more than the ends of the word below. Assumes nothing.
use mathlib.Core.Path.{◌≡◌, ◌∙◌}
use mathlib.Core.Bool.{false}
use mathlib.Core.List.{List}
use Prim.Native.Nat.{ℕ, ◌+◌, ◌*◌, ◌≤◌}
use native.Mathlib.Omega.{arith}
use lib.ListN.{length}
use lib.Seq.{sets}
use Rattle.paper.specs.Lists.{at, has, gather}
use Rattle.paper.specs.Bytes.{four}
use Rattle.paper.specs.Limits.{limits}
use Rattle.words.specs.Marks.{MarksOf, placed}
use Rattle.table.proofs.Reading.{blank}
use Rattle.step_gain.specs.Gains.{coming}
use Rattle.step_gain.proofs.Gaining.{laid_none, laid_room, laid_more, coming_most, before_more, before_most}
use Rattle.step_gain.proofs.Touching.{nothing_came}
use Rattle.step_gain.proofs.gain.Goals as goal
use Rattle.step_gain.proofs.gain.Goals.{Joined-reached-i-ne0, then-reached-i-ne0, else-reached-i-ne0}

-- ---- where node i was asked or passed over: what came to it is stored, and it is no more than all ends
module _ (c : Joined-reached-i-ne0) where
  abbrev here : List ℕ
  here =
      let e = c.args.ends in
      coming e.target e.row c.args.value.now c.args.w e.count c.loop-i.i

  marks-stand : MarksOf (placed (has c.args.w) (at c.args.ends.target) c.args.ends.count) limits.most_nodes c.mark_column.new.marks
  marks-stand =
      c.mark_column.ensures (λ i. false) limits.most_nodes (omega arith)
      (record { tell = λ i l. blank limits.most_nodes i })

  stored : (c.if-reached-i-ne0.many ≡ length here) × (c.if-reached-i-ne0.extra ≡ sets c.loop-i.extra c.loop-i.to (gather four here))
  stored =
      elim c.if-reached-i-ne0.branch [
        | then-reached-i-ne0 w ↦ (w.many-is ∙ w.gain_node-many.ensures.0, w.extra-is ∙ w.gain_node-many.ensures.1)
        | else-reached-i-ne0 w ↦
            let e = c.args.ends in
            let l = c.loop-i in
            let g = nothing_came e.target e.row c.args.value.now c.args.w l.i e.count l.extra l.to marks-stand
            (omega (arith, c.requires.0)) w.if-reached-i-ne0.false in
            (w.many-is ∙ g.0, w.extra-is ∙ g.1)
      ]

  few : c.if-reached-i-ne0.many ≤ limits.most_ends
  few =
      let e = c.args.ends in
      let i = c.loop-i.i in
      let most = coming_most e.target e.row c.args.value.now c.args.w e.count i in
      omega (arith, stored.0, most, before_more e.target c.args.w e.count i, before_most e.target c.args.w e.count (i + 1), c.requires.1.few)

  place-few : c.loop-i.to ≤ 4 * limits.most_ends
  place-few =
      let e = c.args.ends in
      let l = c.loop-i in
      omega (arith, l.invariant.room, before_most e.target c.args.w e.count l.i, c.requires.1.few)

pub loop-i-init : goal.loop-i-init
loop-i-init c = let a = c.args in
    let e = a.ends in
    (laid_none e.target e.row a.value.now a.w e.count a.extra.now a.place.now a.more.now)

pub gain_node-many-requires : goal.gain_node-many-requires
gain_node-many-requires c = let a = c.args in
    let e = a.ends in
    let p = c.requires in
    let room = laid_room e.target e.row a.value.now a.w e.count c.loop-i.invariant p.1.few p.3 in
    (p.1.few, omega (arith, p.1.few, p.1.targets-full), p.2, room)

pub overflow_cast-place : goal.overflow_cast-place
overflow_cast-place c = omega (arith, place-few (goal.at.overflow_cast-place c).Joined-reached-i-ne0)

pub overflow_cast-more : goal.overflow_cast-more
overflow_cast-more c = omega (arith, few (goal.at.overflow_cast-more c).Joined-reached-i-ne0)

pub overflow_mul-to : goal.overflow_mul-to
overflow_mul-to c = omega (arith, few (goal.at.overflow_mul-to c).Joined-reached-i-ne0)

pub overflow_add-to : goal.overflow_add-to
overflow_add-to c =
    let j = (goal.at.overflow_add-to c).Joined-reached-i-ne0 in
    omega (arith, few j, place-few j)

pub loop-i-preserved : goal.loop-i-preserved
loop-i-preserved c =
    let a = c.args in
    let e = a.ends in
    let l = c.loop-i in
    let g = stored (goal.at.loop-i-preserved c).Joined-reached-i-ne0 in (
    laid_more e.target e.row a.value.now a.w e.count l.invariant _ c.if-reached-i-ne0.many c.requires.1.few c.requires.3
    (omega (arith, l.invariant.place-long, c.requires.4)) (omega (arith, l.invariant.more-long, c.requires.5)) g.0 g.1
    )

pub returns : goal.returns
returns c = record { stand = λ i l. (c.loop-i.invariant.stand i (omega arith)).0 }
