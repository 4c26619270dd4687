-- Laws of a marking held in columns: what is held as it was read, what an action that is idle again leaves, and what nothing holds. Assumes nothing.
use mathlib.Core.Path.{◌≡◌, refl, sym, ap, ◌∙◌}
use Prim.Native.Nat.{ℕ, ◌*◌, ◌≤◌, ◌<◌}
use native.Mathlib.Omega.{arith}
use mathlib.Core.Bool.{Bool, true, false, not, ◌&&◌, cond}
use mathlib.Core.List.{List, [], ◌++◌, append-nil}
use mathlib.Core.Option.{Option, none, some}
use lib.Dec.{eqb}
use lib.ListN.{length, take, drop, set}
use lib.Seq.{get_or-set_same, get_or-set_other}
use borrow.Author.Tests.{eqb-true, eqb-false}
use Rattle.paper.specs.Lists.{at, one_if}
use Rattle.paper.specs.Limits.{limits}
use Rattle.paper.specs.Table.{nodes, edges, kind, owner, is_object_node, is_action}
use Rattle.paper.specs.Marking.{Marking, marking, blank, Good}
use Rattle.paper.specs.Operations.{idled}
use Rattle.paper.proofs.Bools.{never}
use Rattle.paper.proofs.Bytes.{Bytes}
use Rattle.paper.proofs.Ladders.{no_good, same_good}
use Rattle.paper.proofs.Tables.{GoodTable, upper_fits}
use Rattle.paper.proofs.OneMarking.{read-is-good}
use Rattle.table.proofs.Reading.{blank as zeros}
use Rattle.marking.specs.declared.reading.Fields.{Fields}
use Rattle.std.specs.Prelude.{Result, Ok, Err}
use Rattle.wire.specs.declared.Refusal.{Refusal}
use Rattle.wire.specs.Refusals.{said, number, place}
use Rattle.marking.specs.Reading.{NodesRead, EdgesRead, MarkingRead}
use Rattle.marking.specs.Values.{is_listed, ValuesNoted}
use Rattle.marking_held.specs.Filling.{Filled}
use Rattle.marking_held.specs.MarkingHeld.{Held, StockHeld, MarkingHeld, HeldInside, HeldLengths, LiveMarking, no_nodes, no_edges, held_of, fields_held, FieldsLengths}

-- ---- what a marking that was read holds
stock-kept : (b vs : List ℕ) (p n q k : ℕ) → ValuesNoted b vs p n → n ≤ 255 → q ≡ 0 → k ≡ 0 → StockHeld vs b [] p n q k
stock-kept b vs p n q k v l eq ek = rw (eq, ek) (record {
  many = omega (arith, v.many);
  stand = v.stand ∙ sym (append-nil (take (4 * n) (drop p b)));
  inside = record { few = omega arith; in_old = v.inside; in_extra = omega arith };
})

pub lengths_up : (from kept tokens : List ℕ) → length from ≡ limits.most_nodes → length kept ≡ limits.most_nodes → length tokens ≡ limits.most_edges
    → HeldLengths (held_of from kept tokens)
lengths_up from kept tokens f k o = record { from-long = f; kept-long = k; place-long = refl; more-long = refl; runs-long = k; tokens-long = o }

module _ (t b from kept tokens : List ℕ) where
  held_as_read : GoodTable t limits → (m : Marking) → NodesRead t m b from kept (nodes t) → EdgesRead t m tokens (edges t)
      → MarkingHeld t m b [] (held_of from kept tokens)
  held_as_read g m ns es = record {
    stocks = λ i l o.
        let n = ns.node i l in
        stock-kept b (m.stock i) (at from i) (at kept i) (at no_nodes i) (at no_nodes i) (n.stock o)
        (omega (arith, (n.stock o).many, n.room o, upper_fits (g.node i l))) (zeros limits.most_nodes i) (zeros limits.most_nodes i);
    running = λ i l a. (ns.node i l).runs a;
    counts = λ j l c. (es.edge j l).count c;
  }

  -- ---- the answer taken apart
  module _ (r : Result Bool Refusal) where
    by_refused : (o : Option Marking) (w : Refusal) → r ≡ Err w → MarkingRead t b from kept tokens o r → (o ≡ none) × (number w ≡ 5) × (place w ≡ 0)
    by_refused none w e h = let z = ap said (sym e) ∙ h in (refl, cc z, cc z)
    by_refused (some m) w e h = no_good (ap said (sym e) ∙ h.0)

    by_ended : (o : Option Marking) → r ≡ Ok true → MarkingRead t b from kept tokens o r → (m : Marking) × (o ≡ some m) × (m.ended ≡ true)
    by_ended none e h = no_good (sym (ap said (sym e) ∙ h))
    by_ended (some m) e h = (m, refl, sym (same_good (ap said (sym e) ∙ h.0)))

    by_live : GoodTable t limits → HeldLengths (held_of from kept tokens) → (o : Option Marking) → marking t b ≡ o → r ≡ Ok false → MarkingRead t b from kept tokens o r
        → LiveMarking t b (held_of from kept tokens)
    by_live g n none q e h = no_good (sym (ap said (sym e) ∙ h))
    by_live g n (some m) q e h = record {
      current = m;
      is_read = q;
      live = sym (same_good (ap said (sym e) ∙ h.0));
      held = held_as_read g m h.1 h.2;
      lengths = n;
    }

    module _ (h : MarkingRead t b from kept tokens (marking t b) r) where
      pub refused_up : (w : Refusal) → r ≡ Err w → (marking t b ≡ none) × (number w ≡ 5) × (place w ≡ 0)
      refused_up w e = by_refused (marking t b) w e h

      pub ended_up : r ≡ Ok true → (m : Marking) × (marking t b ≡ some m) × (m.ended ≡ true)
      ended_up e = by_ended (marking t b) e h

      pub live_up : GoodTable t limits → HeldLengths (held_of from kept tokens) → r ≡ Ok false → LiveMarking t b (held_of from kept tokens)
      live_up g n e = by_live g n (marking t b) refl e h

-- what was read of a live marking has the lengths of its arrays
pub fields_long : {t b : List ℕ} {x : Fields} → LiveMarking t b (fields_held x) → FieldsLengths x
fields_long l = record { from-long = l.lengths.from-long; kept-long = l.lengths.kept-long; tokens-long = l.lengths.tokens-long }

pub live-is-good : (t b : List ℕ) (x : Held) (l : LiveMarking t b x) → Bytes b → Good t l.current
live-is-good t b x l u = (read-is-good t b l.current u l.is_read).0

-- ---- an action idle again
-- of the nodes below i the input pins of action a are empty
abbrev pub PinsEmptied : List ℕ → ℕ → List ℕ → List ℕ → ℕ → Type 0
PinsEmptied t a old new i = Filled (λ k. cond (is_listed t 3 a k) 0 (at old k)) old new i

emptied_stock : (vs old extra : List ℕ) (f k p n : ℕ) (c : Bool) → n ≡ 0 → StockHeld vs old extra f k p n
    → StockHeld (cond c [] vs) old extra f (cond c 0 k) p n
emptied_stock vs old extra f k p n true e v =
    let s = v.inside in
    rw e (record { many = refl; stand = refl; inside = record { few = omega arith; in_old = omega (arith, s.in_old); in_extra = omega (arith, s.in_extra) } })
emptied_stock vs old extra f k p n false e v = v

-- what is kept says running bytes too: no action is a pin, and the action a is no object node
module _ (t : List ℕ) (a : ℕ) (kept then : List ℕ) (l : a < length kept) (p : PinsEmptied t a (set kept a 0) then (nodes t))
    (action : is_action (kind t a) ≡ true) where
  left : (i : ℕ) → i < nodes t → is_object_node (kind t i) ≡ true → at then i ≡ cond (is_listed t 3 a i) 0 (at kept i)
  left i k o =
      let z : kind t a ≡ 2 = eqb-true (kind t a) 2 action in
      let d : i ≡ a → ⊥ = λ e. never (is_object_node (kind t i)) o (ap (λ (x : ℕ). is_object_node (kind t x)) e ∙ ap is_object_node z) in
      p.done i k ∙ ap (cond (is_listed t 3 a i) 0) (get_or-set_other kept a i 0 0 d)

  still : (m : Marking) (i : ℕ) → i < nodes t → is_action (kind t i) ≡ true → at kept i ≡ one_if (m.runs i) → at then i ≡ one_if (not (eqb i a) && m.runs i)
  still m i k r e =
      let z : kind t i ≡ 2 = eqb-true (kind t i) 2 r in
      let same : at then i ≡ at (set kept a 0) i = p.done i k ∙ ap (λ (x : ℕ). cond (eqb x 3 && eqb (owner t i) a) 0 (at (set kept a 0) i)) z in
      same ∙ by (eqb i a) refl
    where
      by : (c : Bool) → eqb i a ≡ c → at (set kept a 0) i ≡ one_if (not c && m.runs i)
      by true q = rw (eqb-true i a q) (get_or-set_same kept a 0 0 l)
      by false q = let d : i ≡ a → ⊥ = eqb-false i a q in get_or-set_other kept a i 0 0 d ∙ e

  pub idle_held : (m : Marking) (old from tokens : List ℕ) → MarkingHeld t m old [] (held_of from kept tokens)
      → MarkingHeld t (idled t a m) old [] (held_of from then tokens)
  unfolding idled
  idle_held m old from tokens h = record {
    stocks = λ i k o.
        rw (left i k o)
        (emptied_stock (m.stock i) old [] (at from i) (at kept i) (at no_nodes i) (at no_nodes i) (is_listed t 3 a i) (zeros limits.most_nodes i)
        (h.stocks i k o));
    running = λ i k r. still m i k r (h.running i k r);
    counts = h.counts;
  }

-- ---- nothing
pub nothing_held : (t old : List ℕ) (e : Bool) → MarkingHeld t (blank e) old [] (held_of no_nodes no_nodes no_edges)
nothing_held t old e =
    let no : (i : ℕ) → at no_nodes i ≡ 0 = zeros limits.most_nodes in
    record {
      stocks = λ i l o. rw (no i) (record { many = refl; stand = refl; inside = record { few = omega arith; in_old = omega arith; in_extra = omega arith } });
      running = λ i l a. no i;
      counts = λ j l c. zeros limits.most_edges j;
    }

pub nothing_lengths : HeldLengths (held_of no_nodes no_nodes no_edges)
nothing_lengths = lengths_up no_nodes no_nodes no_edges refl refl refl

-- ---- what is written stands in its bytes
pub held-inside : {t : List ℕ} {m : Marking} {old extra : List ℕ} {x : Held} → MarkingHeld t m old extra x → HeldInside t old extra x
held-inside h = record { stock = λ i l o. (h.stocks i l o).inside }

-- ---- where nothing comes
module _ {t : List ℕ} {m : Marking} {old : List ℕ} {x : Held} (h : MarkingHeld t m old [] x) where
  -- all values of a stock stay
  pub stock_stays : (i : ℕ) → i < nodes t → is_object_node (kind t i) ≡ true → ValuesNoted old (m.stock i) (at x.from i) (at x.kept i)
  stock_stays i l o =
      let s = h.stocks i l o in
      let none-comes : at x.more i ≡ 0 = omega (arith, s.inside.in_extra) in
      let stays = take (4 * at x.kept i) (drop (at x.from i) old) in
      record {
        many = omega (arith, s.many);
        stand = s.stand ∙ ap (λ (n : ℕ). stays ++ take (4 * n) (drop (at x.place i) [])) none-comes ∙ append-nil stays;
        inside = s.inside.in_old;
      }
