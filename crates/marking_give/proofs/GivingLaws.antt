-- Rows 15 and 16: what the three readings of a gift come to. Assumes nothing.
use mathlib.Core.Path.{◌≡◌, refl, sym, ap, ap₂, ◌∙◌}
use Prim.Native.Nat.{ℕ, ◌+◌, ◌<◌}
use native.Mathlib.Omega.{arith}
use mathlib.Core.Bool.{Bool, true, false, ◌&&◌}
use mathlib.Core.List.{List, ◌++◌}
use mathlib.Core.Option.{Option, none, some}
use lib.Dec.{leb}
use lib.ListN.{length, length-append}
use borrow.Author.Tests.{leb-true, lt-ltb}
use Rattle.paper.specs.Lists.{at, all, below}
use Rattle.paper.specs.Answers.{refused, good}
use Rattle.paper.specs.Bytes.{four}
use Rattle.paper.specs.Limits.{limits}
use Rattle.paper.specs.Table.{nodes, edges, kind, upper, source, is_object_node}
use Rattle.paper.specs.Marking.{Marking, has_tokens}
use Rattle.paper.specs.Operations.{value_lists, list_for, given, room_in}
use Rattle.paper.proofs.Bools.{never}
use Rattle.paper.proofs.Lists.{all-below}
use Rattle.paper.proofs.Ladders.{no_good, need-good, known-good, same_good}
use Rattle.paper.proofs.Lengths.{gather_append}
use Rattle.paper.proofs.Members.{in_keep-below}
use Rattle.paper.proofs.Given.{not_listed}
use Rattle.paper.proofs.Tables.{GoodTable, upper_fits}
use Rattle.marking.specs.Values.{is_listed, listed_nodes, ValuesNoted, ValuesRead}
use Rattle.marking_held.proofs.HeldLaws.{stock_stays}
use Rattle.marking_held.specs.MarkingHeld.{Held, StockHeld, MarkingHeld}
use Rattle.marking_give.specs.Giving.{gained, Amounts, CountsAre, Gained, give_of, Givable, given_to}
use Rattle.std.specs.Prelude.{Ok, Err}
use Rattle.wire.specs.declared.Refusal.{Refusal}
use Rattle.wire.specs.Refusals.{number, place as place_of}

-- the reader of lists taken apart
pub lists-refused : (t : List ℕ) (k o : ℕ) (b place more : List ℕ) (l : Option (List (List ℕ))) (w : Refusal) → ValuesRead t k o b place more l (Err w)
    → (l ≡ none) × (number w ≡ 15) × (place_of w ≡ 0)
lists-refused t k o b place more none w h = (refl, cc h, cc h)
lists-refused t k o b place more (some vss) w h = no_good h.0

pub lists-good : (t : List ℕ) (k o : ℕ) (b place more : List ℕ) (l : Option (List (List ℕ))) → ValuesRead t k o b place more l (Ok tt)
    → (vss : List (List ℕ)) × (l ≡ some vss) × ((i : ℕ) → i < nodes t → ValuesNoted b (list_for i (listed_nodes t k o) vss) (at place i) (at more i))
lists-good t k o b place more none h = no_good (sym h)
lists-good t k o b place more (some vss) h = (vss, refl, h.1)

module _ (t : List ℕ) (k o : ℕ) (fires : ℕ → Bool) (m : Marking) (b : List ℕ) where
  abbrev then_held : List (List ℕ) → Marking
  then_held vss = given (λ e. has_tokens t e && fires (source t e)) (listed_nodes t k o) vss m

  give_15 : value_lists (listed_nodes t k o) b ≡ none → give_of t k o fires m b ≡ refused 15 0
  unfolding give_of
  give_15 e = rw e

  give_16 : (vss : List (List ℕ)) → value_lists (listed_nodes t k o) b ≡ some vss → room_in t (then_held vss) ≡ false → give_of t k o fires m b ≡ refused 16 0
  unfolding give_of
  give_16 vss e r = rw (e, r)

  give_all : (vss : List (List ℕ)) → value_lists (listed_nodes t k o) b ≡ some vss → room_in t (then_held vss) ≡ true → give_of t k o fires m b ≡ good (then_held vss)
  unfolding give_of
  give_all vss e r = rw (e, r)

  module _ (old : List ℕ) (x : Held) (g : Givable t k o m old x) (place more : List ℕ) where
    pub gives_15 : (w : Refusal) → ValuesRead t k o b place more (value_lists (listed_nodes t k o) b) (Err w) → give_of t k o fires m b ≡ refused (number w) (place_of w)
    gives_15 w h = let z = lists-refused t k o b place more (value_lists (listed_nodes t k o) b) w h in rw (z.1, z.2) (give_15 z.0)

    module _ (h : ValuesRead t k o b place more (value_lists (listed_nodes t k o) b) (Ok tt)) where
      abbrev read : (vss : List (List ℕ)) × (value_lists (listed_nodes t k o) b ≡ some vss)
          × ((i : ℕ) → i < nodes t → ValuesNoted b (list_for i (listed_nodes t k o) vss) (at place i) (at more i))
      read = lists-good t k o b place more (value_lists (listed_nodes t k o) b) h

      abbrev held : ℕ → ℕ
      held i = length (m.stock i ++ list_for i (listed_nodes t k o) read.0)

      pub amounts : Amounts t held x.kept more
      unfolding listed_nodes
      amounts = record {
        stock = λ i l s. sym (length-append (m.stock i) (list_for i (listed_nodes t k o) read.0) ∙ ap₂ ◌+◌ (sym (stock_stays g.held i l s).many) (sym (read.2 i l).many));
        none = λ i l s.
            let e = g.no_stock i (rw (s, lt-ltb i (nodes t) l)) in
            let q = not_listed i (listed_nodes t k o) read.0
            (λ n. never (is_object_node (kind t i)) (g.for_stocks i (in_keep-below (is_listed t k o) (nodes t) n).1) s) in
            rw (e, q);
      }

      stocks_say : all (λ i. leb (held i) (upper t i)) (below (nodes t)) ≡ false → room_in t (then_held read.0) ≡ false
      unfolding room_in given
      stocks_say e = rw e

      pub gives_16_stocks : all (λ i. leb (held i) (upper t i)) (below (nodes t)) ≡ false → give_of t k o fires m b ≡ refused 16 0
      gives_16_stocks e = give_16 read.0 read.1 (stocks_say e)

      module _ (fit : all (λ i. leb (held i) (upper t i)) (below (nodes t)) ≡ true) where
        counts_say : (c : Bool) → c ≡ all (λ e. leb (gained t fires m.tokens e) 255) (below (edges t)) → room_in t (then_held read.0) ≡ c
        unfolding room_in given
        counts_say c e = rw (fit, e)

        pub gives_16_counts : (tokens : List ℕ) → Gained t (gained t fires m.tokens) tokens false → give_of t k o fires m b ≡ refused 16 0
        gives_16_counts tokens w = give_16 read.0 read.1 (counts_say false w.0)

        module _ (good-t : GoodTable t limits) where
          stock_now : (i : ℕ) → i < nodes t → is_object_node (kind t i) ≡ true
              → StockHeld (m.stock i ++ list_for i (listed_nodes t k o) read.0) old b (at x.from i) (at x.kept i) (at place i) (at more i)
          stock_now i l s =
              let w = read.2 i l in
              record {
                many = sym (amounts.stock i l s);
                stand = gather_append four (m.stock i) (list_for i (listed_nodes t k o) read.0) ∙ ap₂ ◌++◌ (stock_stays g.held i l s).stand w.stand;
                inside = record {
                  few = omega (
                    arith,
                    amounts.stock i l s,
                    leb-true (held i) (upper t i) (all-below (λ i. leb (held i) (upper t i)) (nodes t) fit i l),
                    upper_fits (good-t.node i l),
                  );
                  in_old = (g.held.stocks i l s).inside.in_old;
                  in_extra = w.inside;
                };
              }

          given-held : (tokens : List ℕ) → CountsAre t (gained t fires m.tokens) tokens → MarkingHeld t (then_held read.0) old b (given_to x place more tokens)
          unfolding given
          given-held tokens c = record { stocks = stock_now; running = g.held.running; counts = c }

          pub gives_all : (tokens : List ℕ) → Gained t (gained t fires m.tokens) tokens true
              → (m' : Marking) × (give_of t k o fires m b ≡ good m') × MarkingHeld t m' old b (given_to x place more tokens)
          gives_all tokens w = (then_held read.0, give_all read.0 read.1 (counts_say true w.0), given-held tokens (w.1 refl))

-- what is given changes no state
pub give_state : (t : List ℕ) (k o : ℕ) (fires : ℕ → Bool) (m : Marking) (b : List ℕ) (m' : Marking) → give_of t k o fires m b ≡ good m' → m'.ended ≡ m.ended
unfolding give_of given
give_state t k o fires m b m' h =
    let r = known-good 15 (value_lists (listed_nodes t k o) b) _ m' h in
    let n = need-good 16 (room_in t (given (λ e. has_tokens t e && fires (source t e)) (listed_nodes t k o) r.0 m)) _ m' r.2 in
    ap (λ (x : Marking). x.ended) (sym (same_good n.1))
