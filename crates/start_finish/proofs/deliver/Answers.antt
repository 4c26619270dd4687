-- `deliver`: the lists (15), then the stocks and the counts (16), refused, or written. Assumes nothing.
use mathlib.Core.Bool.{Bool}
use mathlib.Core.Path.{◌≡◌, refl, sym, ◌∙◌}
use Prim.Native.Nat.{ℕ}
use native.Mathlib.Omega.{arith}
use Rattle.std.proofs.lemmas.Result.{err_from_is_err_and}
use Rattle.paper.specs.Answers.{good}
use Rattle.paper.specs.Marking.{Marking}
use Rattle.table.proofs.Reading.{read-spans, read-good, nodes_most, edges_most}
use Rattle.marking_held.specs.MarkingHeld.{Held, MarkingHeld, held_of}
use Rattle.marking_held.proofs.HeldLaws.{held-inside}
use Rattle.marking_give.specs.Giving.{fires_as, give_of, given_to}
use Rattle.marking_give.proofs.GivingLaws.{gives_15, gives_16_stocks, gives_16_counts, gives_all, amounts}
use Rattle.start_finish.specs.Delivered.{Deliverable}
use Rattle.start_finish.proofs.Delivering.{refused-reply, full-reply}
use Rattle.start_finish.proofs.deliver.Goals as goal
use Rattle.start_finish.proofs.deliver.Goals.{Else-not-gain}

pub read_values-requires : goal.read_values-requires
read_values-requires c =
    let t = c.args.t.now in
    (read-spans t c.requires.0, nodes_most t c.requires.0, nodes_most t c.requires.0)

pub returns-in_err-read_values : goal.returns-in_err-read_values
returns-in_err-read_values c =
    let held : Held = held_of c.args.from.now c.args.kept.now c.args.tokens.now in
    let a = c.args in
    let r = c.read_values in
    let why = c.in_err-read_values.field-0.0 in
    let p = err_from_is_err_and c.from_residual.result c.from_residual.ensures.1 in
    rw (p.1, p.2) (
      λ d. refused-reply d (fires_as a.t.now a.firing) a.values.now _ _ _ a.out.now
          (gives_15 a.t.now a.listing.kind a.listing.owner (fires_as a.t.now a.firing) d.current a.values.now a.old.now
          held d.givable r.new.place r.new.more why c.in_err-read_values.ensures) refl,
      tt,
    )

pub stocks_fit-requires : goal.stocks_fit-requires
stocks_fit-requires c = let n = nodes_most c.args.t.now c.requires.0 in
    (read-spans c.args.t.now c.requires.0, omega (arith, n, c.requires.1.kept-long), omega (arith, n, c.read_values.auto))

pub returns-then-not-stocks_fit : goal.returns-then-not-stocks_fit
returns-then-not-stocks_fit c =
    let a = c.args in
    let held : Held = held_of a.from.now a.kept.now a.tokens.now in
    let fires : ℕ → Bool = fires_as a.t.now a.firing in
    let w = c.read_values.new in (
      λ d.
          let am = amounts a.t.now a.listing.kind a.listing.owner fires d.current a.values.now a.old.now held d.givable w.place w.more c.in_ok-read_values.ensures in
          refused-reply d fires a.values.now 16 0 _ a.out.now
          (gives_16_stocks a.t.now a.listing.kind a.listing.owner fires d.current a.values.now a.old.now held d.givable w.place w.more c.in_ok-read_values.ensures
          (sym (c.stocks_fit.ensures _ am) ∙ c.if-not-stocks_fit.true))
          refl,
      tt,
    )

pub gain-requires : goal.gain-requires
gain-requires c = (c.requires.0, omega (arith, edges_most c.args.t.now c.requires.0, c.requires.1.tokens-long))

pub returns-then-not-gain : goal.returns-then-not-gain
returns-then-not-gain c =
    let a = c.args in
    let held : Held = held_of a.from.now a.kept.now a.tokens.now in
    let fires : ℕ → Bool = fires_as a.t.now a.firing in
    let w = c.read_values.new in
    let q = c.if-not-gain.true in (
      λ d.
          let am = amounts a.t.now a.listing.kind a.listing.owner fires d.current a.values.now a.old.now held d.givable w.place w.more c.in_ok-read_values.ensures in
          let fit = sym (c.stocks_fit.ensures _ am) ∙ c.if-not-stocks_fit.false in
          let z = c.gain.ensures d.current.tokens (record { counts = d.givable.held.counts; none = d.givable.no_count }) in
          refused-reply d fires a.values.now 16 0 _ a.out.now
          (gives_16_counts a.t.now a.listing.kind a.listing.owner fires d.current a.values.now a.old.now held d.givable w.place w.more c.in_ok-read_values.ensures fit
          c.gain.new.tokens (sym q ∙ z.0, λ r. z.1 (q ∙ r)))
          refl,
      tt,
    )

-- the marking that is written
module _ (c : Else-not-gain) where
  abbrev held : Held
  held = held_of c.args.from.now c.args.kept.now c.args.tokens.now

  abbrev fires : ℕ → Bool
  fires = fires_as c.args.t.now c.args.firing

  told : (d : Deliverable c.args.t.now c.args.listing.kind c.args.listing.owner c.args.old.now held)
      → (m : Marking) × (give_of c.args.t.now c.args.listing.kind c.args.listing.owner fires d.current c.args.values.now ≡ good m)
      × MarkingHeld c.args.t.now m c.args.old.now c.args.values.now (given_to held c.read_values.new.place c.read_values.new.more c.gain.new.tokens)
  told d =
      let a = c.args in
      let w = c.read_values.new in
      let q = c.if-not-gain.false in
      let am = amounts a.t.now a.listing.kind a.listing.owner fires d.current a.values.now a.old.now held d.givable w.place w.more c.in_ok-read_values.ensures in
      let fit = sym (c.stocks_fit.ensures _ am) ∙ c.if-not-stocks_fit.false in
      let z = c.gain.ensures d.current.tokens (record { counts = d.givable.held.counts; none = d.givable.no_count }) in
      gives_all a.t.now a.listing.kind a.listing.owner fires d.current a.values.now a.old.now held d.givable w.place w.more c.in_ok-read_values.ensures fit
      (read-good a.t.now c.requires.0) c.gain.new.tokens (sym q ∙ z.0, λ r. z.1 (q ∙ r))

pub reply-requires : goal.reply-requires
reply-requires c =
    let p = c.requires in (
      p.0,
      record {
        from-long = p.1.from-long;
        kept-long = p.1.kept-long;
        place-long = omega (arith, c.read_values.auto);
        more-long = omega (arith, c.read_values.auto);
        runs-long = p.1.kept-long;
        tokens-long = omega (arith, c.gain.auto, p.1.tokens-long);
      },
      held-inside (told (goal.at.reply-requires c).Else-not-gain p.2).2,
    )

pub returns : goal.returns
returns c =
    let g = (goal.at.returns c).Else-not-gain in
    let r = c.reply in
    (λ d. full-reply d (fires g) c.args.values.now _ (told g d) _ c.args.out.now r.new.out r.ensures.0, r.ensures.1)
