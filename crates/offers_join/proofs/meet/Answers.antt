-- `offers_join::meet` meets its contract: the search starts with nothing taken and the barred offers blocked. Assumes nothing.
use mathlib.Core.List.{[]}
use mathlib.Core.Path.{subst}
use mathlib.Core.List.{List, ◌++◌}
use Prim.Native.Nat.{ℕ, ◌≤◌}
use native.Mathlib.Omega.{arith}
use lib.ListN.{get_or}
use borrow.Author.Rules.{rules}
use Rattle.paper.specs.Lists.{each}
use Rattle.paper.specs.Limits.{limits}
use Rattle.paper.specs.Table.{into}
use Rattle.table.specs.Incoming.{ListFrom}
use Rattle.table.proofs.Incoming.{some-list}
use Rattle.offers.specs.Rows.{rows_in, Holds, Ranges}
use Rattle.offers_over.specs.Over.{admitted, Outcome}
use Rattle.offers_join.specs.Joins.{Within, Served}
use Rattle.offers_join.proofs.Meetings.{listed-within, meeting_none, meeting_ways, meeting_dfs}
use Rattle.offers_join.proofs.meet.Goals as goal

pub returns-in_default : goal.returns-in_default
returns-in_default c = (
  search rules,
  λ t ts on y. subst (λ z. Holds t (rows_in c.args.rows.now c.args.count) z) (meeting_none y (c.in_default.ensures _ y.list)) y.holds_ts,
)

pub spans-wanted-requires : goal.spans-wanted-requires
spans-wanted-requires c =
    let number : ℕ =
    c.in-Some.d in
    let lo : List ℕ =
    c.incoming.new.lo in
    let hi : List ℕ =
    c.incoming.new.hi in
    let Into : List ℕ → Type 0 =
    λ js. let a = c.args in ListFrom a.next.now (get_or a.first.now a.onto.node 0) js in
    let served : (js : List ℕ) → Into js → (let a = c.args in Served a.from.now a.to.now js lo hi number) =
    c.in-Some.ensures in
    let some : (js : List ℕ) × Into js =
    let a = c.args in some-list a.next.now (get_or a.first.now a.onto.node 0) c.requires.1.forward in
    let few : number ≤ limits.most_offers =
    (served some.0 some.1).few in
    let parts : (n : ℕ) → (let a = c.args in Ranges a.from.now a.to.now n) → Within lo hi number n =
    λ n r. let a = c.args in listed-within a.from.now a.to.now some.0 lo hi number n (served some.0 some.1).segments r in
    let a = c.args in
    let pr = c.requires in (
      (omega (arith, c.incoming.auto, few), omega (arith, c.incoming.auto, few)),
      (few, parts limits.most_offers (λ j. ((pr.0.parts j).0, omega (arith, (pr.0.parts j).1, pr.0.few)))),
    )

pub join-requires : goal.join-requires
join-requires c =
    let number : ℕ =
    c.in-Some.d in
    let lo : List ℕ =
    c.incoming.new.lo in
    let hi : List ℕ =
    c.incoming.new.hi in
    let Into : List ℕ → Type 0 =
    λ js. let a = c.args in ListFrom a.next.now (get_or a.first.now a.onto.node 0) js in
    let served : (js : List ℕ) → Into js → (let a = c.args in Served a.from.now a.to.now js lo hi number) =
    c.in-Some.ensures in
    let some : (js : List ℕ) × Into js =
    let a = c.args in some-list a.next.now (get_or a.first.now a.onto.node 0) c.requires.1.forward in
    let few : number ≤ limits.most_offers =
    (served some.0 some.1).few in
    let parts : (n : ℕ) → (let a = c.args in Ranges a.from.now a.to.now n) → Within lo hi number n =
    λ n r. let a = c.args in listed-within a.from.now a.to.now some.0 lo hi number n (served some.0 some.1).segments r in
    let pr = c.requires in
    record {
      parts = parts c.args.count pr.0.parts;
      held = omega arith;
      few = pr.0.few;
      cells = pr.0.cells;
      lows = omega (arith, c.incoming.auto, few);
      highs = omega (arith, c.incoming.auto, few);
      choices = few;
      level = omega arith;
      room = record {
        rows = omega (arith, c.rival_rows.auto, pr.0.few);
        few-offers = pr.0.few;
        words = omega (arith, c.spans-wanted.auto, few);
        few-edges = few;
      };
      made = λ k l. absurd (omega arith);
    }

pub returns : goal.returns
returns c =
    let number : ℕ =
    c.in-Some.d in
    let lo : List ℕ =
    c.incoming.new.lo in
    let hi : List ℕ =
    c.incoming.new.hi in
    let Into : List ℕ → Type 0 =
    λ js. let a = c.args in ListFrom a.next.now (get_or a.first.now a.onto.node 0) js in
    let served : (js : List ℕ) → Into js → (let a = c.args in Served a.from.now a.to.now js lo hi number) =
    c.in-Some.ensures in
    let a = c.args in
    let jn = c.join in (
      jn.ensures.0,
      λ t ts on y.
          let sp = c.spans-wanted in
          let v = served _ y.list in
          subst (λ z. Outcome t jn.new.rows jn.result (ts ++ z)) (meeting_ways y v)
          (jn.ensures.1.1 t (admitted a.gate) ts [] (each on (into t a.onto.node)) sp.result
          (meeting_dfs y v _ _ _ a.count c.barred-blocked.result sp.result y.holds_ts.count-is (c.barred-blocked.ensures t ts y.holds_ts)
          (c.rival_rows.ensures t ts y.holds_ts) sp.ensures)),
    )
