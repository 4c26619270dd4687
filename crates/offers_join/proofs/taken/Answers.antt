-- `offers_join::taken` meets its contract: the loop has taken the first q offers chosen. Assumes nothing.
use mathlib.Core.List.{[]}
use mathlib.Core.Path.{ap, sym, ◌∙◌, subst}
use mathlib.Core.List.{◌∷◌, ◌++◌}
use Prim.Native.Nat.{◌<◌}
use native.Mathlib.Omega.{arith}
use lib.ListN.{length, take}
use borrow.Author.Rules.{rules}
use Rattle.offers.specs.Sets.{nth}
use Rattle.offers.specs.Rows.{rows_in}
use Rattle.offers_join.specs.Joins.{Taken}
use Rattle.offers_join.proofs.Joins.{taken_none}
use Rattle.offers_join.proofs.Words.{picked_next, picked_all}
use Rattle.offers_join.proofs.taken.Goals as goal

pub loop-q-init : goal.loop-q-init
loop-q-init c = (search rules, λ t ts ps h p. (h, taken_none t (rows_in c.args.rows.now c.args.count) ts))

pub add-w-requires : goal.add-w-requires
add-w-requires c = let l = c.loop-q in let i = c.requires.1.1 l.q (omega arith) in omega (arith, c.wide.ensures.0)

pub returns : goal.returns
returns c = (
  omega arith,
  λ t ts ps h p.
      let l = c.loop-q in
      let a = c.args in
      let r = l.invariant.1 t ts ps h p in (
        r.0,
        subst (λ z. Taken t (rows_in l.rows a.count) ts z l.w) (picked_all ts a.chosen.now a.d ps p l.q (omega arith)) r.1,
      ),
)

pub loop-q-preserved : goal.loop-q-preserved
loop-q-preserved c =
    let l = c.loop-q in
    let a = c.args in
    let g = c.add-w in
    let i = c.wide in (
      omega (arith, g.ensures.0),
      λ t ts ps h p.
          let old = l.invariant.1 t ts ps h p in
          let li : l.q < a.d = omega arith in
          let lt : i.result < length ts = subst (λ z. z < length ts) (sym i.ensures.0) (p.inside l.q li) in
          let r = g.ensures.1 t ts (take l.q ps) old.0 lt old.1 in (
            r.0,
            subst (λ z. Taken t (rows_in g.new.rows a.count) ts z g.result) (ap (λ z. take l.q ps ++ (nth ts z ∷ [])) i.ensures.0 ∙ picked_next ts a.chosen.now a.d ps p l.q li) r.1,
          ),
    )
