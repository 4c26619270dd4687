-- `reply`: row 17, or the nodes' fields, the edges' counts and the head, which are the marking's bytes at the front. Assumes nothing.
use mathlib.Core.Path.{refl}
use native.Mathlib.Omega.{arith}
use Rattle.table.proofs.Reading.{read-spans, nodes_most, edges_most}
use Rattle.marking_write.specs.Writing.{size_of}
use Rattle.marking_write.proofs.WritingLaws.{short-is, full_is}
use Rattle.marking_write.proofs.reply.Goals as goal

pub size-len-requires : goal.size-len-requires
size-len-requires c = let n = nodes_most c.args.t.now c.requires.0 in
    (c.requires.0, omega (arith, n, c.requires.1.kept-long), omega (arith, n, c.requires.1.more-long))

pub returns-then-out-len : goal.returns-then-out-len
returns-then-out-len c = (λ m h f. short-is h c.args.out.now c.size-len.ensures.0 c.if-out-len.true refl, tt)

pub write_nodes-next-requires : goal.write_nodes-next-requires
unfolding size_of
write_nodes-next-requires c = let p = c.requires in
    let l = p.1 in
    let n = nodes_most c.args.t.now p.0 in (
      read-spans c.args.t.now p.0,
      record {
        from-long = omega (arith, n, l.from-long);
        kept-long = omega (arith, n, l.kept-long);
        place-long = omega (arith, n, l.place-long);
        more-long = omega (arith, n, l.more-long);
        runs-long = omega (arith, n, l.runs-long);
      },
      record { stock = p.2.stock },
      omega (arith, c.size-len.ensures.0, c.if-out-len.false),
    )

pub write_edges-requires : goal.write_edges-requires
unfolding size_of
write_edges-requires c = let p = c.requires in (
  p.0,
  omega (arith, edges_most c.args.t.now p.0, p.1.tokens-long),
  omega (arith, c.size-len.ensures.0, c.if-out-len.false, c.write_nodes-next.ensures.0, c.write_nodes-next.auto),
)

pub returns : goal.returns
returns c = let w = c.write_nodes-next.ensures in (
  λ m h f. full_is h c.args.out.now c.size-len.ensures.0 c.if-out-len.false w.0 f w.1 c.write_edges.ensures
      c.write_head.ensures refl,
  omega (arith, c.size-len.ensures.2),
)
