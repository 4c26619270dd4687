-- `close`: nothing changes, or nodes and edges are cleared. Assumes nothing.
use mathlib.Core.Path.{◌≡◌, sym, ap, ◌∙◌}
use mathlib.Core.Bool.{Bool, true, false}
use Rattle.paper.specs.Lists.{one_if}
use Rattle.step_close.specs.Closing.{closes}
use Rattle.step_close.proofs.Clearing.{closed_not, closed_all}
use Rattle.step_close.proofs.close.Goals as goal

pub returns-then-not-is_closing : goal.returns-then-not-is_closing
returns-then-not-is_closing c =
    let ending : Bool =
    let a = c.args in closes a.t.now a.target.now a.n a.c in
    let q : ending ≡ false = sym c.is_closing.ensures ∙ c.if-not-is_closing.true in (sym (ap one_if q), closed_not q)

pub returns : goal.returns
returns c =
    let ending : Bool =
    let a = c.args in closes a.t.now a.target.now a.n a.c in
    let z = c.requires.0 in
    let q : ending ≡ true = sym c.is_closing.ensures ∙ c.if-not-is_closing.false in
    (sym (ap one_if q), closed_all q c.clear_nodes.ensures z.nodes-read c.clear_edges.ensures z.edges-read)
