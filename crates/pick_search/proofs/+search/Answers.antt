-- `search`, a way to answer at a time. Assumes nothing.
use mathlib.Core.Path.{◌≡◌, refl, sym, ◌∙◌}
use mathlib.Core.Bool.{true, false}
use Prim.Native.Nat.{ℕ, ◌-◌}
use native.Mathlib.Omega.{arith}
use Rattle.paper.specs.Lists.{has}
use Rattle.pick_bounds.specs.Net.{meets}
use Rattle.pick_bounds.specs.Bounds.{good, Between}
use Rattle.pick_scout.proofs.Scouting.{found-one, found-none, lost}
use Rattle.pick_search.proofs.Searching.{stepped_leaving, small-weight, placed_taking, placed_leaving, visited_skip, Past, ends_dead, ends_leaf, finds-first, finds-with, past_none, past_with, finds-first-out, finds_without}
use Rattle.pick_search.proofs.+search.Goals as goal
use Rattle.pick_search.proofs.+search.Goals.{After-gone-lost, then-is_ok+else-is_ok-2, else-is_ok}

pub returns-then-is_dead : goal.returns-then-is_dead
returns-then-is_dead t c = let a = c.args in
    rw c.at_once.ensures (ends_dead (good a.net.now a.want) a.m a.left a.p a.b 0 c.requires.2 (c.is_dead.ensures c.if-is_dead.true))

pub returns-then-s-eq0 : goal.returns-then-s-eq0
returns-then-s-eq0 t c = let a = c.args in
    let s = c.skip-s in
    let w = good a.net.now a.want in
    visited_skip w a.m a.left a.p a.b s.result _ s.ensures.0 (s.ensures.2 w)
    (ends_leaf w a.m s.result.left s.result.place a.b (omega (arith, c.if-s-eq0.true)) c.passes.result c.passes.ensures c.answer.result c.answer.ensures.0 c.answer.ensures.1)

pub step-taking-requires : goal.step-taking-requires
step-taking-requires t c = let a = c.args in
    let s = c.skip-s in
    let nz = c.if-s-eq0.false in
    let placed = s.ensures.1 in
    (small-weight a.m s.result.left s.result.place placed (omega arith) c.requires.1, placed.small, omega arith)

pub returns-then-is_first : goal.returns-then-is_first
returns-then-is_first t c = let a = c.args in
    let s = c.skip-s in
    let w = good a.net.now a.want in
    let nz = c.if-s-eq0.false in
    let g = rw c.step-taking.ensures at (c.is_first.ensures c.if-is_first.true) in
    rw c.at_once-then-is_first.ensures (visited_skip w a.m a.left a.p a.b s.result _ s.ensures.0 (s.ensures.2 w)
    (finds-first w a.m s.result.left s.result.place a.b s.ensures.1 c.requires.1 (omega arith) c.add.result c.settle-with.result c.add.ensures c.settle-with.ensures g.0 g.1 g.2))

pub search-f-requires : goal.search-f-requires
search-f-requires t c = let a = c.args in
    let s = c.skip-s in
    let nz = c.if-s-eq0.false in
    let e = c.step-taking.ensures in
    (omega (arith, s.ensures.0, c.decreases), (c.requires.0, c.requires.1, rw e (placed_taking a.m s.result.left s.result.place s.ensures.1 (omega arith))))

pub returns-then-is_ok-2 : goal.returns-then-is_ok-2
returns-then-is_ok-2 t c = let a = c.args in
    let s = c.skip-s in
    let w = good a.net.now a.want in
    let nz = c.if-s-eq0.false in
    let f = c.search-f in
    let v = c.survey-view in
    visited_skip w a.m a.left a.p a.b s.result _ s.ensures.0 (s.ensures.2 w)
    (finds-with w a.m s.result.left s.result.place a.b s.ensures.1 c.requires.1 (omega arith) c.add.result c.settle-with.result c.add.ensures c.settle-with.ensures f.result (rw c.step-taking.ensures at f.ensures) v.result.states v.ensures.most_seen
    (found-one _ (sym c.is_ok-then-is_ok.ensures.value ∙ c.if-is_ok-2.true)) v.ensures.some-seen c.after.result c.after.ensures.0 c.after.ensures.1)

-- where the ways meet: a survey found nothing with the end, or the search didn't
past_end : (t : ℕ) (c : After-gone-lost t) → let a = c.args in let s = c.skip-s.result in Past (good a.net.now a.want) a.m s.left s.place a.b c.if-is_ok.tried
past_end t c = let a = c.args in
    let s = c.skip-s in
    let w = good a.net.now a.want in
    let nz = c.if-s-eq0.false in
    let v = c.survey-view in
    elim c.if-is_ok.branch [
      | then-is_ok+else-is_ok-2 u ↦
          rw u.tried-is (past_with w a.m s.result.left s.result.place a.b s.ensures.1 c.requires.1 (omega arith) c.add.result c.settle-with.result c.add.ensures c.settle-with.ensures u.search-f.result (rw c.step-taking.ensures at u.search-f.ensures)
          v.result.states v.ensures.most_seen (found-none _ (sym u.is_ok-then-is_ok.ensures.value ∙ u.if-is_ok-2.false)) _ refl)
      | else-is_ok u ↦
          rw u.tried-is (past_none w a.m s.result.left s.result.place a.b s.ensures.1 c.requires.1 (omega arith) c.add.result c.settle-with.result c.add.ensures c.settle-with.ensures (v.ensures.sure (found-none _ (sym c.is_ok.ensures.value ∙ u.if-is_ok.false))) _ v.ensures.some-seen v.ensures.most_seen)
    ]

-- a set without the end has none of those that are gone
left_out : (t : ℕ) (c : After-gone-lost t) → let a = c.args in let s = c.skip-s.result in
    (x : ℕ) → (good a.net.now a.want) x ≡ true → Between a.b x → has x (a.m - s.left) ≡ false → meets 32 x c.gone-lost.result ≡ false
left_out t c = let a = c.args in
    let s = c.skip-s in
    let placed = s.ensures.1 in
    c.gone-lost.ensures placed.weight
    (λ e. lost (good a.net.now a.want) a.b (a.m - s.result.left) c.add.result c.settle-with.result (c.add.ensures _ placed.weight) c.settle-with.ensures (c.survey-view.ensures.sure e))

pub step-leaving-requires : goal.step-leaving-requires
step-leaving-requires t c = let a = c.args in
    let s = c.skip-s in
    let nz = c.if-s-eq0.false in
    let placed = s.ensures.1 in
    (small-weight a.m s.result.left s.result.place placed (omega arith) c.requires.1, placed.small, omega arith)

pub returns-then-is_first-2 : goal.returns-then-is_first-2
returns-then-is_first-2 t c = let a = c.args in
    let s = c.skip-s in
    let w = good a.net.now a.want in
    let nz = c.if-s-eq0.false in
    let here = (goal.at.returns-then-is_first-2 t c).After-gone-lost in
    let g = rw (c.step-leaving.ensures ∙ stepped_leaving s.result.place) at (c.is_first-2.ensures c.if-is_first-2.true) in
    visited_skip w a.m a.left a.p a.b s.result _ s.ensures.0 (s.ensures.2 w)
    (finds-first-out w a.m s.result.left s.result.place a.b s.ensures.1 c.requires.1 (omega arith) c.if-is_ok.tried (past_end t here) c.gone-lost.result (left_out t here) c.strike.result c.settle-out.result c.strike.ensures c.settle-out.ensures g.0 g.1 g.2)

pub search-v-requires : goal.search-v-requires
search-v-requires t c = let a = c.args in
    let s = c.skip-s in
    let nz = c.if-s-eq0.false in
    let e = c.step-leaving.ensures ∙ stepped_leaving s.result.place in
    (omega (arith, s.ensures.0, c.decreases), (c.requires.0, c.requires.1, rw e (placed_leaving a.m s.result.left s.result.place s.ensures.1 (omega arith))))

pub returns : goal.returns
returns t c = let a = c.args in
    let s = c.skip-s in
    let w = good a.net.now a.want in
    let nz = c.if-s-eq0.false in
    let here = (goal.at.returns t c).After-gone-lost in
    let v = c.search-v in
    visited_skip w a.m a.left a.p a.b s.result _ s.ensures.0 (s.ensures.2 w)
    (finds_without w a.m s.result.left s.result.place a.b s.ensures.1 c.requires.1 (omega arith) c.if-is_ok.tried (past_end t here) c.gone-lost.result (left_out t here) c.strike.result c.settle-out.result c.strike.ensures c.settle-out.ensures v.result (rw (c.step-leaving.ensures ∙ stepped_leaving s.result.place) at v.ensures) c.after-2.result c.after-2.ensures.0 c.after-2.ensures.1)
