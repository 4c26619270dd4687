-- `gain`: one edge after the other, until one is full. Assumes nothing.
use Prim.Native.Nat.{ℕ, ◌<◌, ◌+◌}
use mathlib.Core.Path.{◌≡◌, sym, ap, subst, ◌∙◌}
use mathlib.Core.List.{List}
use native.Mathlib.Omega.{arith}
use lib.ListN.{length, length-set}
use Rattle.paper.specs.Lists.{at}
use Rattle.paper.specs.Table.{edges}
use Rattle.table.proofs.Reading.{read-spans}
use Rattle.marking_give.specs.Giving.{fires_as}
use Rattle.marking_give.proofs.GainLaws.{GainedTo, gained-full, gained-one, gained-none, gained-all, gained-not}
use Rattle.marking_give.proofs.gain.Goals as goal
use Rattle.marking_give.proofs.gain.Goals.{then-gains+else-tokens-j, else-gains}

pub returns-then-tokens-j : goal.returns-then-tokens-j
returns-then-tokens-j c = let a = c.args in
    let s = c.loop-j in
    let fires = fires_as a.t.now a.firing in
    let r = read-spans a.t.now c.requires.0 in
    λ held h.
    let small : (k : ℕ) → at a.tokens.now k < 256 = c.loop-j.invariant.2 in
    let n : s.j < edges a.t.now = omega (arith, r.edges-read, c.loop-j-test.true) in
    gained-not a.t.now fires held a.tokens.now h small s.tokens s.j n
    (gained-full a.t.now fires held a.tokens.now h small s.tokens s.j n (s.invariant.1 held h small) c.gains.ensures
    c.if-gains.true c.if-tokens-j.true)

pub loop-j-preserved : goal.loop-j-preserved
loop-j-preserved c = let a = c.args in
    let s = c.loop-j in
    let fires = fires_as a.t.now a.firing in
    let r = read-spans a.t.now c.requires.0 in
    let n : s.j < edges a.t.now = omega (arith, r.edges-read, c.loop-j-test.true) in
    elim c.if-gains.branch [
      | then-gains+else-tokens-j w ↦ (
        ap length w.tokens-is ∙ length-set s.tokens s.j _ ∙ s.invariant.0,
        λ held h small.
            subst (λ (l : List ℕ). GainedTo a.t.now fires held a.tokens.now h small l (s.j + 1)) (sym w.tokens-is)
            (gained-one a.t.now fires held a.tokens.now h small s.tokens s.j n (s.invariant.1 held h small) c.gains.ensures
            (omega arith) w.if-gains.true w.if-tokens-j.false),
        s.invariant.2,
      )
      | else-gains w ↦ (
        ap length w.tokens-is ∙ s.invariant.0,
        λ held h small.
            subst (λ (l : List ℕ). GainedTo a.t.now fires held a.tokens.now h small l (s.j + 1)) (sym w.tokens-is)
            (gained-none a.t.now fires held a.tokens.now h small s.tokens s.j n (s.invariant.1 held h small) c.gains.ensures w.if-gains.false),
        s.invariant.2,
      )
    ]

pub returns : goal.returns
returns c = let a = c.args in
    let s = c.loop-j in
    let fires = fires_as a.t.now a.firing in
    let r = read-spans a.t.now c.requires.0 in
    let e : s.j ≡ edges a.t.now = omega arith in
    λ held h.
    let small : (k : ℕ) → at a.tokens.now k < 256 = c.loop-j.invariant.2 in
    gained-all a.t.now fires held a.tokens.now h small s.tokens
    (subst (λ (j : ℕ). GainedTo a.t.now fires held a.tokens.now h small s.tokens j) e (s.invariant.1 held h small))
