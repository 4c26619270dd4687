-- `write_stock` stores a count and two copies, each behind the other, which are one run. Assumes nothing.
use mathlib.Core.Path.{◌≡◌}
use Prim.Native.Nat.{◌+◌, ◌*◌}
use native.Mathlib.Omega.{arith}
use Rattle.marking_write.proofs.WritingLaws.{stock-written}
use Rattle.marking_write.proofs.write_stock.Goals as goal

pub returns : goal.returns
returns c = let a = c.args in
    let w = c.wide-kept in
    let m = c.wide-more in
    let ek : 4 * w.result ≡ 4 * a.node.kept = omega (arith, w.ensures.0) in
    let em : 4 * m.result ≡ 4 * a.node.more = omega (arith, m.ensures.0) in
    let ep : a.to + 1 + 4 * w.result ≡ a.to + 1 + 4 * a.node.kept = omega (arith, w.ensures.0) in (
      omega (arith, w.ensures.0, m.ensures.0),
      stock-written a.old.now a.extra.now a.node c.requires.0 a.out.now a.to c.wide16.ensures
          c.wide16-2.ensures ek em ep c.copy.ensures c.copy-2.ensures,
    )
