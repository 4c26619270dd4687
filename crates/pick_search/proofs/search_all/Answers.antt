-- `search_all`: all that may be had, nothing, or what the search finds after a scout. Assumes nothing.
use mathlib.Core.Path.{ap, ◌∙◌}
use mathlib.Core.Bool.{not}
use native.Mathlib.Omega.{arith}
use lib.Pow.{pow_pos}
use Rattle.pick_bounds.specs.Bounds.{good}
use Rattle.pick_scout.proofs.Scouting.{found-none}
use Rattle.pick_search.proofs.Searching.{placed-start, whole-first, whole-none, whole-found}
use Rattle.pick_search.proofs.search_all.Goals as goal

pub overflow_sub-all : goal.overflow_sub-all
overflow_sub-all c = let a = c.args in omega (arith, c.end_of.ensures, pow_pos a.m)

pub returns-then-is_first : goal.returns-then-is_first
returns-then-is_first c = let a = c.args in
    let g = c.is_first.ensures c.if-is_first.true in
    rw c.at_once.ensures (whole-first (good a.net.now a.want) a.m c.end_of.result c.end_of.ensures c.requires.1 c.settle-b.result c.settle-b.ensures g.0 g.1 g.2)

pub scout-view-requires : goal.scout-view-requires
scout-view-requires c = let pre = c.requires in (pre.0, pre.1)

pub returns-then-is_err : goal.returns-then-is_err
returns-then-is_err c = let a = c.args in
    whole-none (good a.net.now a.want) a.m c.end_of.result c.end_of.ensures c.requires.1 c.settle-b.result c.settle-b.ensures c.scout-view.result c.scout-view.ensures (found-none _ (c.is_err.ensures.negation ∙ ap not c.if-is_err.true))

pub search-v-requires : goal.search-v-requires
search-v-requires c = let a = c.args in let pre = c.requires in (pre.0, pre.1, placed-start a.m)

pub returns : goal.returns
returns c = let a = c.args in
    whole-found (good a.net.now a.want) a.m c.end_of.result c.end_of.ensures c.requires.1 c.settle-b.result c.settle-b.ensures c.search-v.result c.search-v.ensures c.scout-view.result.states (omega (arith, c.scout-view.ensures.most_seen)) c.after.result c.after.ensures.0 c.after.ensures.1
