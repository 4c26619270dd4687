-- `step`: row 9, the first rule that refuses, or what the stages make of the marking, ended or not, written. Assumes nothing.
use mathlib.Core.Path.{◌≡◌, refl, sym, ◌∙◌}
use mathlib.Core.Bool.{Bool}
use Prim.Native.Nat.{ℕ}
use native.Mathlib.Omega.{arith}
use Rattle.paper.specs.Lists.{one_if}
use Rattle.paper.specs.Choices.{next}
use Rattle.table.proofs.Reading.{read-spans, nodes_most, edges_most}
use Rattle.std.proofs.lemmas.Result.{err_from_is_err_and}
use Rattle.marking_held.specs.MarkingHeld.{Held, HeldLengths, MarkingHeld, held_in, fields_held}
use Rattle.marking_held.proofs.HeldLaws.{held-inside}
use Rattle.step_spend.specs.Spending.{spends}
use Rattle.step.specs.Stepping.{Standing}
use Rattle.step.proofs.Calling.{ends-rowed}
use Rattle.step.proofs.Moving.{Stages, stages_held}
use Rattle.step.proofs.Laws.{chosen_9, settled-reply, settled-refused, settled_moves}
use Rattle.step.proofs.Closing.{targets-nodes, next-held, next-state}
use Rattle.step.proofs.step.Goals as goal
use Rattle.step.proofs.step.Goals.{After-close-state}

-- ---- the columns, where the stages are done, and what is written
module _ (c : After-close-state) where
  abbrev On : Type 0
  On = let a = c.args in Standing a.t.now a.b.now a.offers a.ends (fields_held a.fields)

  abbrev spent_now : ℕ → Bool
  spent_now =
      let o = c.args.offers in
      spends o.last o.parents o.count c.all_makers-made.result

  stages : Stages c.args.t.now c.args.table c.args.offers c.args.ends c.in_ok-c.c c.all_makers-made.result c.bringing-bringing.result
      c.args.fields.from c.args.fields.kept c.args.fields.tokens c.spend_stocks.new.from c.spend_stocks.new.kept c.gain.new.place
      c.gain.new.more c.run.new.runs c.spend_tokens.new.tokens c.gain.new.extra
  stages = record {
    makers-are = c.all_makers-made.ensures;
    valued_are = c.bringing-bringing.ensures;
    tokens_gone = c.spend_tokens.ensures spent_now c.spent_edges-spent.ensures;
    oldest_gone = c.spend_stocks.ensures spent_now c.spent_edges-spent.ensures;
    came = c.gain.ensures;
    started = c.run.ensures;
  }

  abbrev written : Held
  written =
      let w = c.close-state.new in
      held_in c.spend_stocks.new.from w.kept c.gain.new.place w.more w.runs w.tokens

  next-is-held : (s : On) → MarkingHeld c.args.t.now (next s.on c.in_ok-c.c) c.args.b.now c.gain.new.extra written
  next-is-held s = next-held s.stands c.in_ok-c.c c.close-state.ensures.1
      (stages_held stages c.requires.0 s.on s.stands (omega (arith, s.short)) s.held_as)

  state-is : (s : On) → c.close-state.result ≡ one_if (next s.on c.in_ok-c.c).ended
  state-is s = c.close-state.ensures.0 ∙ next-state s.stands c.in_ok-c.c s.live

  lengths : HeldLengths written
  lengths =
      let f = c.requires.3 in
      record {
        from-long = omega (arith, c.spend_stocks.auto.from, f.from-long);
        kept-long = omega (arith, c.close-state.auto.kept, c.spend_stocks.auto.kept, f.kept-long);
        place-long = omega (arith, c.gain.auto.place);
        more-long = omega (arith, c.close-state.auto.more, c.gain.auto.more);
        runs-long = omega (arith, c.close-state.auto.runs, c.run.auto.runs, f.kept-long);
        tokens-long = omega (arith, c.close-state.auto.tokens, c.spend_tokens.auto.tokens, f.tokens-long);
      }

pub returns-in_err-c : goal.returns-in_err-c
returns-in_err-c c = let a = c.args in
    let p = err_from_is_err_and c.from_residual.result c.from_residual.ensures.1 in
    rw (p.1, p.2) (λ s. chosen_9 a.t.now s.on a.ends.count s.stands.seated.number a.choice.now _ _ _ a.out.now c.in_err-c.ensures refl, tt)

pub returns-in_err-judge : goal.returns-in_err-judge
returns-in_err-judge c =
    let a = c.args in
    let r = c.from_residual-in_err-judge in
    let p = err_from_is_err_and r.result r.ensures.1 in
    rw (p.1, p.2) (
      λ s. settled-reply a.t.now s.on a.ends.count s.stands.seated.number a.choice.now c.in_ok-c.c c.in_ok-c.ensures _ a.out.now _
          (settled-refused s c.in_ok-c.c c.judge.result c.judge.ensures _ _ a.out.now c.in_err-judge.was refl),
      tt,
    )

pub bringing-bringing-requires : goal.bringing-bringing-requires
bringing-bringing-requires c = let p = c.requires in
    (ends-rowed p.2 p.4.stands c.args.offers.has p.1.haves-full, p.2.few)

pub slice_bounds-spend_tokens-end-2 : goal.slice_bounds-spend_tokens-end-2
slice_bounds-spend_tokens-end-2 c = sym c.requires.3.tokens-long

pub spend_tokens-requires : goal.spend_tokens-requires
spend_tokens-requires c = let n = edges_most c.args.t.now c.requires.0 in
    (n, omega (arith, n), omega (arith, n, c.requires.3.tokens-long))

pub slice_bounds-spend_stocks-end-2 : goal.slice_bounds-spend_stocks-end-2
slice_bounds-spend_stocks-end-2 c = sym c.requires.3.from-long

pub slice_bounds-spend_stocks-end-3 : goal.slice_bounds-spend_stocks-end-3
slice_bounds-spend_stocks-end-3 c = sym c.requires.3.kept-long

pub spend_stocks-requires : goal.spend_stocks-requires
spend_stocks-requires c = let t = c.args.t.now in
    let n = nodes_most t c.requires.0 in (
      read-spans t c.requires.0,
      omega (arith, edges_most t c.requires.0),
      omega (arith, n, c.requires.3.from-long),
      omega (arith, n, c.requires.3.kept-long),
    )

pub gain-requires : goal.gain-requires
gain-requires c = let p = c.requires in
    let n = nodes_most c.args.t.now p.0 in
    (n, p.2, ends-rowed p.2 p.4.stands c.args.offers.value p.1.values-full, omega arith, omega (arith, n), omega (arith, n))

pub run-requires : goal.run-requires
run-requires c = let t = c.args.t.now in
    (read-spans t c.requires.0, c.requires.2, omega (arith, nodes_most t c.requires.0, c.requires.3.kept-long))

pub close-state-requires : goal.close-state-requires
close-state-requires c = let p = c.requires in
    let t = c.args.t.now in
    let n = nodes_most t p.0 in (
      read-spans t p.0,
      omega (arith, p.2.few, p.2.targets-full),
      targets-nodes p.4.stands p.0,
      p.2.few,
      record {
        in_kept = omega (arith, n, c.spend_stocks.auto.kept, p.3.kept-long);
        in_more = omega (arith, n, c.gain.auto.more);
        in_runs = omega (arith, n, c.run.auto.runs, p.3.kept-long);
        in_tokens = omega (arith, edges_most t p.0, c.spend_tokens.auto.tokens, p.3.tokens-long);
      },
    )

pub reply-requires : goal.reply-requires
reply-requires c =
    let k = (goal.at.reply-requires c).After-close-state in
    (c.requires.0, lengths k, held-inside (next-is-held k c.requires.4))

pub returns : goal.returns
returns c =
    let k = (goal.at.returns c).After-close-state in
    let r = c.reply in
    let a = c.args in (
      λ s. settled-reply a.t.now s.on a.ends.count s.stands.seated.number a.choice.now c.in_ok-c.c c.in_ok-c.ensures _ a.out.now _
          (settled_moves s c.in_ok-c.c c.judge.result c.judge.ensures c.in_ok-judge.was _ a.out.now _
          (r.ensures.0 (next s.on c.in_ok-c.c) (next-is-held k s) (state-is k s))),
      r.ensures.1,
    )
