-- `why`: the reason, written. Assumes nothing.
use Rattle.wire.specs.Refusals.{word_of}
use Rattle.why.proofs.Asked.{why_leaves}
use Rattle.why.proofs.why.Goals as goal

pub returns : goal.returns
returns c = (
  λ d s.
      why_leaves d c.args.node c.reason-byte.result (word_of c.tell.result) c.args.out.now _ (c.reason-byte.ensures d s) c.tell.ensures.0,
  c.tell.ensures.1,
)
