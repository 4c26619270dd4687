-- `edge_end` reads an edge's count, if it has one. Assumes nothing.
use mathlib.Core.Path.{sym, ◌∙◌}
use native.Mathlib.Omega.{arith}
use Rattle.marking.proofs.Laws.{uncounted_reads, counted_reads, counted_none}
use Rattle.marking.proofs.reading.edge_end.Goals as goal

pub returns-then-not-has_count : goal.returns-then-not-has_count
returns-then-not-has_count c = let a = c.args in λ m. (m, uncounted_reads a.t.now a.j m a.b.now a.from (sym c.has_count.ensures ∙ c.if-not-has_count.true), omega arith)

pub returns-then-b-from : goal.returns-then-b-from
returns-then-b-from c = let a = c.args in λ m. counted_none a.t.now a.j m a.b.now a.from (sym c.has_count.ensures ∙ c.if-not-has_count.false) c.if-b-from.true

pub returns : goal.returns
returns c = let a = c.args in λ m. counted_reads a.t.now a.j m a.b.now a.from (sym c.has_count.ensures ∙ c.if-not-has_count.false) (omega arith)
