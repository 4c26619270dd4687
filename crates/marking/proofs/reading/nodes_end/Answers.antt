-- `nodes_end` reads the nodes' fields in order and takes up each. The invariant: those passed are read, and take at most 65 bytes each. Assumes nothing.
use Prim.Native.Nat.{◌<◌, ◌≤◌}
use mathlib.Core.Path.{◌≡◌, ◌∙◌}
use mathlib.Core.Bool.{false}
use native.Mathlib.Omega.{arith}
use lib.ListN.{length, length-set}
use Rattle.paper.specs.Table.{nodes}
use Rattle.paper.specs.Marking.{blank}
use Rattle.paper.proofs.Bytes.{Bytes}
use Rattle.table.proofs.Reading.{read-spans, read-good}
use Rattle.marking.proofs.Laws.{run_begin, run_cut, node-step, node-short}
use borrow.Author.Rules.{rules}
use Rattle.marking.proofs.reading.nodes_end.Goals as goal

pub loop-i-init : goal.loop-i-init
loop-i-init c = (omega arith, omega arith, search rules, search rules, λ e. run_begin (blank e) 4)

pub node_end-requires : goal.node_end-requires
node_end-requires c = (read-spans c.args.t.now c.requires.0, omega arith, c.loop-i.invariant.0)

pub returns-in_err-q : goal.returns-in_err-q
returns-in_err-q c = let t = c.args.t.now in
    let s = c.loop-i in
    let n = read-spans t c.requires.0 in
    rw c.from_residual.ensures (λ e. run_cut (blank e) 4 s.place s.i (nodes t) (omega arith) (s.invariant.4 e) c.in_err-q.ensures)

pub overflow_cast-from : goal.overflow_cast-from
overflow_cast-from c =
    let s = read-spans c.args.t.now c.requires.0 in
    omega (arith, s.few-nodes, s.nodes-read)

pub first_of-requires : goal.first_of-requires
first_of-requires c = (c.in_ok-q.ensures (blank false)).2

pub loop-i-preserved : goal.loop-i-preserved
loop-i-preserved c =
    let bytes : Bytes c.args.b.now = λ k. (c.type_inv.b k).fits in
    let t = c.args.t.now in
    let b = c.args.b.now in
    let q = c.in_ok-q.q in
    let s = c.loop-i in
    let lq : q ≤ length b = (c.in_ok-q.ensures (blank false)).2 in
    let n = read-spans t c.requires.0 in
    let i-node : s.i < nodes t = omega arith in
    let short = node-short t b s.place q s.i s.invariant.0 lq ((read-good t c.requires.0).node s.i i-node) bytes c.in_ok-q.ensures in (
      lq,
      omega arith,
      length-set s.from s.i _ ∙ s.invariant.2,
      length-set s.kept s.i _ ∙ s.invariant.3,
      λ e. node-step t b s.from s.kept s.place q s.i c.first_of.result bytes (omega arith) (omega arith) s.invariant.0 lq c.first_of.ensures e (s.invariant.4 e) c.in_ok-q.ensures,
    )

pub returns : goal.returns
returns c = let n = read-spans c.args.t.now c.requires.0 in
    let i-all : c.loop-i.i ≡ nodes c.args.t.now = omega arith in
    λ e. let z = c.loop-i.invariant.4 e in (z.m, rw (← i-all) z.read, c.loop-i.invariant.0, record { node = rw (← i-all) z.known })
