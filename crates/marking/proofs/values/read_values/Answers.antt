-- `read_values` reads a list for each node listed, in order, and leaves nothing over. The invariant: the lists passed are read, and take at most 65
-- bytes each. Assumes nothing.
use Prim.Native.Nat.{◌+◌, ◌≤◌}
use mathlib.Core.Path.{refl, ◌∙◌, ◌≡◌}
use native.Mathlib.Omega.{arith}
use lib.ListN.{drop, length-set}
use Rattle.std.specs.Prelude.{Some, None, Err}
use Rattle.std.proofs.lemmas.Result.{err_from_is_err_and}
use Rattle.paper.specs.Limits.{limits}
use Rattle.paper.specs.Bytes.{values_read, each_read}
use Rattle.paper.specs.Table.{nodes}
use Rattle.paper.proofs.Bytes.{Bytes}
use Rattle.wire.specs.declared.Refusal.TheVariants.{Values}
use Rattle.marking.specs.Reading.{Reads}
use Rattle.marking.specs.Values.{listed_at}
use Rattle.marking.proofs.ValueLaws.{list-spans, lists-step, lists_cut, lists-left, lists-done}
use Rattle.marking.proofs.values.read_values.Goals as goal
use Rattle.marking.proofs.values.read_values.Goals.{In_ok-q}

pub returns-in_err-q : goal.returns-in_err-q
returns-in_err-q c = let a = c.args in
    let s = c.loop-i in
    let none-read : c.list_end.result ≡ None = c.in_err-q.ensures.ok_part in
    let p = err_from_is_err_and c.from_residual.result c.from_residual.ensures.1 in
    let why : c.from_residual.result ≡ Err Values = cc (p.1, p.2, rw none-read at c.in_err-q.ensures.value) in
    lists_cut a.t.now a.kind a.owner a.b.now s.place s.more c.from_residual.result (rw why) s.from s.i (omega arith) s.invariant.4 (rw none-read at c.list_end.ensures)

-- the list of this node
module _ (c : In_ok-q) where
  went : Reads (Some c.in_ok-q.q) (each_read (λ n. values_read limits.most_upper) (listed_at c.args.t.now c.args.kind c.args.owner c.loop-i.i) (drop c.loop-i.from c.args.b.now)) c.args.b.now
  went = let r : c.list_end.result ≡ Some c.in_ok-q.q = c.in_ok-q.ensures.ok_part in rw r at c.list_end.ensures

  bytes : Bytes c.args.b.now
  bytes k = (c.type_inv.b k).fits

  spans : (c.loop-i.from ≤ c.in_ok-q.q) × (c.in_ok-q.q ≤ c.loop-i.from + 65)
  spans = list-spans c.args.t.now c.args.kind c.args.owner c.args.b.now c.loop-i.i c.loop-i.from c.in_ok-q.q c.loop-i.invariant.0 went bytes

pub overflow_sub-values : goal.overflow_sub-values
overflow_sub-values c = (spans (goal.at.overflow_sub-values c).In_ok-q).0

pub loop-i-preserved : goal.loop-i-preserved
loop-i-preserved c =
    let g : In_ok-q = (goal.at.loop-i-preserved c).In_ok-q in
    let a = c.args in
    let s = c.loop-i in (
      (went g).2,
      omega (arith, (spans g).1),
      length-set s.place s.i _ ∙ s.invariant.2,
      length-set s.more s.i _ ∙ s.invariant.3,
      lists-step a.t.now a.kind a.owner a.b.now s.place s.more s.from c.in_ok-q.q s.i (bytes g) s.invariant.0 (omega arith) (omega arith) s.invariant.4 (went g),
    )

pub returns-then-from-b : goal.returns-then-from-b
returns-then-from-b c = let a = c.args in
    let s = c.loop-i in
    let e : s.i ≡ nodes a.t.now = omega arith in
    lists-left a.t.now a.kind a.owner a.b.now s.place s.more _ s.from (rw e at s.invariant.4) refl s.invariant.0 c.if-from-b.true

pub returns : goal.returns
returns c = let a = c.args in
    let s = c.loop-i in
    let e : s.i ≡ nodes a.t.now = omega arith in
    lists-done a.t.now a.kind a.owner a.b.now s.place s.more _ s.from (rw e at s.invariant.4) refl c.if-from-b.false
