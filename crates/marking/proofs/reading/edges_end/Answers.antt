-- `edges_end` reads the counts in order and takes up each. Assumes nothing.
use Prim.Native.Nat.{◌≤◌}
use mathlib.Core.Path.{◌≡◌, ◌∙◌}
use mathlib.Core.Bool.{false}
use native.Mathlib.Omega.{arith}
use lib.ListN.{length, length-set}
use Rattle.paper.specs.Table.{edges}
use Rattle.paper.specs.Marking.{blank}
use Rattle.paper.proofs.Bytes.{Bytes}
use Rattle.table.proofs.Reading.{read-spans}
use Rattle.marking.proofs.Laws.{run_begin, run_cut, edge-step}
use borrow.Author.Rules.{rules}
use Rattle.marking.proofs.reading.edges_end.Goals as goal

pub loop-j-init : goal.loop-j-init
loop-j-init c = let a = c.args in (omega arith, search rules, λ m. run_begin m a.start)

pub returns-in_err-q : goal.returns-in_err-q
returns-in_err-q c = let t = c.args.t.now in
    let s = c.loop-j in
    let n = read-spans t c.requires.0 in
    rw c.from_residual.ensures (λ z. run_cut z c.args.start s.place s.j (edges t) (omega arith) (s.invariant.2 z) c.in_err-q.ensures)

pub first_of-requires : goal.first_of-requires
first_of-requires c = (c.in_ok-q.ensures (blank false)).2

pub loop-j-preserved : goal.loop-j-preserved
loop-j-preserved c =
    let bytes : Bytes c.args.b.now = λ k. (c.type_inv.b k).fits in
    let a = c.args in
    let q = c.in_ok-q.q in
    let s = c.loop-j in
    let lq : q ≤ length a.b.now = (c.in_ok-q.ensures (blank false)).2 in (
      lq,
      length-set s.tokens s.j _ ∙ s.invariant.1,
      λ z. edge-step a.t.now a.b.now s.tokens s.place q s.j c.first_of.result bytes (omega arith) s.invariant.0 lq c.first_of.ensures z a.start (s.invariant.2 z) c.in_ok-q.ensures,
    )

pub returns : goal.returns
returns c = let n = read-spans c.args.t.now c.requires.0 in
    let j-all : c.loop-j.j ≡ edges c.args.t.now = omega arith in
    λ x. let z = c.loop-j.invariant.2 x in (z.m, rw (← j-all) z.read, c.loop-j.invariant.0, record { edge = rw (← j-all) z.known })
