-- `with_rivals`: the invariant says that what is kept has end k's rivals, and that what is left is of `ends`. Assumes nothing.
use Rattle.pick_twins.specs.Twins.{SharesRivals}
use Rattle.pick_twins.proofs.Telling.{left-part, left_less, kept_more}
use borrow.Author.Rules.{rules}
use Rattle.pick_twins.proofs.with_rivals.Goals as goal

pub loop-left-smaller : goal.loop-left-smaller
loop-left-smaller c = let f = c.first_of-j in
    let e = c.end_of in
    let w = c.without-left in
    left_less c.loop-left.left e.result w.result w.ensures f.result (search rules) f.ensures.1 e.ensures

pub loop-left-preserved : goal.loop-left-preserved
loop-left-preserved c = let a = c.args in
    let l = c.loop-left in
    let f = c.first_of-j in
    let s = c.shared-kept in (
      λ j h. l.invariant.0 j (left-part l.left c.end_of.result c.without-left.result c.without-left.ensures j h),
      kept_more (SharesRivals a.net.now a.k) a.ends l.kept s.result f.result (l.invariant.0 f.result f.ensures.1) l.invariant.1 s.ensures,
    )

pub returns : goal.returns
returns c = c.loop-left.invariant.1
