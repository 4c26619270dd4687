-- What a good table, and a marking that is held, give the builder. Assumes nothing.
use mathlib.Core.Path.{◌≡◌}
use Prim.Native.Nat.{ℕ, ◌<◌}
use mathlib.Core.Bool.{false}
use mathlib.Core.List.{List, []}
use Rattle.paper.specs.Lists.{at}
use Rattle.paper.specs.Answers.{good}
use Rattle.paper.specs.Limits.{limits}
use Rattle.paper.specs.Table.{edges, source, chain}
use Rattle.paper.specs.Marking.{Marking, Good}
use Rattle.paper.proofs.Tables.{source_no_chain}
use Rattle.paper.proofs.Values.{joined_passes}
use Rattle.table.specs.declared.Table.{Table}
use Rattle.table.specs.Reading.{table_read}
use Rattle.table.proofs.Reading.{read-fine, read-good, read-spans}
use Rattle.table_ranks.specs.Chains.{Framed}
use Rattle.terms.specs.Terms.{Ties}
use Rattle.marking.specs.declared.reading.Fields.{Fields}
use Rattle.marking_held.specs.MarkingHeld.{MarkingHeld, fields_held}
use Rattle.marking_held.proofs.HeldLaws.{stock_stays}
use Rattle.offers_first.proofs.StartLaws.{starts-are}
use Rattle.offers_all.specs.Stages.{Gates, Input, FirstOffers}

module _ (t : List ℕ) {x : Table} (h : table_read t ≡ good x) where
  pub good-framed : Framed t x
  good-framed = record {
    spans = read-spans t h;
    sources = λ j l. ((read-good t h).edge j l).source_fits;
    targets = λ j l. ((read-good t h).edge j l).target_fits;
  }

  pub good-flat : (j : ℕ) → j < edges t → chain t limits.chain_too_long (source t j) ≡ false
  good-flat = source_no_chain (read-good t h)

  pub good-input : (m : Marking) (goes : Gates) (g z : List ℕ) → Ties t g z goes → Input t m goes g z
  good-input m goes g z ties = record {
    ties = ties;
    one_value = λ e l d free. joined_passes t goes m (read-fine t h) limits.longest_path e l d (goes e) free;
    flat = good-flat;
  }

  -- the fields that were read of a marking give its first offers
  pub held-starts : (m : Marking) (b : List ℕ) (f : Fields) → Good t m → MarkingHeld t m b [] (fields_held f) → FirstOffers t m b f
  held-starts m b f ok held e l c s start =
      let n = ((read-good t h).edge e l).source_fits in
      starts-are t b h m ok e l (at f.from (source t e)) (at f.kept (source t e)) (at f.tokens e) s start c (stock_stays held (source t e) n) (held.counts e l)
