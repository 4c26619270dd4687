-- `prepare`: the node's own ends, the net, and what is wanted. Assumes nothing.
use mathlib.Core.Path.{◌≡◌, sym, ap, ◌∙◌}
use native.Mathlib.Omega.{arith}
use Rattle.paper.specs.Operations.{own_of}
use Rattle.table.proofs.Reading.{read-spans}
use Rattle.pick_rules.proofs.Picking.{roomy}
use Rattle.why.specs.Reasons.{OwnEnds}
use Rattle.why.proofs.Asked.{level_sought}
use Rattle.why.proofs.prepare.Goals as goal

pub returns : goal.returns
returns c =
    let a = c.args in
    let f = c.fill-rules in
    let e : c.own_of.result ≡ own_of a.t.now a.node = c.own_of.ensures ∙ ap (own_of a.t.now) c.wide.ensures.0 in
    let w : OwnEnds a.ends (own_of a.t.now a.node) c.own_ends-own.result = rw (sym e) c.own_ends-own.ensures in (
      f.ensures.0,
      λ few d st. level_sought st a.node (omega (arith, (read-spans _ c.requires.0).nodes-read, c.requires.4)) _ w f.new.net f.result a.k c.wanted.result few
          (f.ensures.1 few (roomy st)) c.wanted.ensures,
    )
