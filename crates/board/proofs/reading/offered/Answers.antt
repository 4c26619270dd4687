-- `offered`: what the builder makes of the fields that were read. Assumes nothing.
use Rattle.offers_all.proofs.Inputs.{good-framed, good-input, held-starts}
use Rattle.ends.proofs.Columns.{ranges_more}
use Rattle.std.proofs.Common.{ℕ, List, Option, Some, None}
use Rattle.paper.specs.Limits.{limits}
use Rattle.offers.specs.Rows.{Ranges}
use Rattle.offers_all.specs.Stages.{Parts}
use Rattle.board.proofs.reading.offered.Goals as goal

-- the parts of so many offers, or of as many as there may be, are parts of as many as there may be
parts-within : (a b : List ℕ) (n : Option ℕ) → Parts a b n → Ranges a b limits.most_offers
parts-within a b (Some n) h = ranges_more a b n _ h.0 h.1
parts-within a b None h = h

pub build-requires : goal.build-requires
build-requires c =
    (record { framed = good-framed c.args.t.now c.requires.0; guards = c.requires.2 }, c.requires.1, c.requires.3)

pub returns : goal.returns
returns c =
    let x = c.build in
    let a = c.args in
    let t = a.t.now in (
      parts-within x.new.from x.new.to x.result x.ensures.0,
      λ m goes ties ok held.
          x.ensures.1 m goes (good-input t c.requires.0 m goes a.g.now a.bounds.now ties) (held-starts t c.requires.0 m a.b.now a.fields ok held),
    )
