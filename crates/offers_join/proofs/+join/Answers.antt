-- `offers_join::join` meets its contract: by recursion on the edges left; the loop has tried the offers of edge q before i. Assumes nothing.
use mathlib.Core.Path.{◌≡◌, refl, sym, ap, ◌∙◌, subst}
use mathlib.Core.List.{[], ◌∷◌, ◌++◌}
use Prim.Native.Nat.{◌-◌, ◌≤◌, ℕ, ◌<◌}
use native.Mathlib.Nat.{le_trans}
use native.Mathlib.Decide.{dec_lt}
use native.Mathlib.Omega.{arith}
use lib.ListN.{get_or, set, length-set}
use lib.Seq.{get_or-set_same, get_or-set_other}
use borrow.Author.Tests.{not-true, not-false}
use Rattle.paper.specs.Limits.{limits}
use Rattle.offers.specs.Sets.{nth}
use Rattle.offers.specs.Rows.{rows_in, Holds}
use Rattle.offers_over.specs.Over.{Outcome}
use Rattle.offers.proofs.Rows.{holds-alike}
use Rattle.offers_join.specs.Joins.{Picked}
use Rattle.offers_join.proofs.Searches.{tl, dead_none, last_found, last-fresh, last_some, tried, tried_none, tried_all, tried_blocked, tried_skip, tried_take, tried_bad, tried_down}
use Rattle.offers_join.proofs.+join.Goals as goal
use Rattle.offers_join.proofs.+join.Goals.{then-not-in_word+in_ok-c, else-not-in_word}

pub returns-then-q-d : goal.returns-then-q-d
returns-then-q-d t c =
    let a = c.args in
    let g = c.leaf in
    let pr = c.requires in
    let qd = c.if-q-d.true in (
      g.ensures.0,
      (
        λ x l. refl,
        λ t' goes ts pre oss w y.
            subst (λ z. Outcome t' g.new.rows g.result z)
            (last_found y pr.parts qd)
            (g.ensures.1 t' ts pre y.holds_ts (subst (λ z. Picked ts a.chosen.now z pre) qd y.picked)
            (last_some y pr.parts qd)
            (last-fresh y pr.parts qd)
            y.leaves),
      ),
    )

pub returns-then-lost : goal.returns-then-lost
returns-then-lost t c =
    let a = c.args in
    let pr = c.requires in (
      (omega arith, pr.few),
      (
        λ x l. refl,
        λ t' goes ts pre oss w y.
            subst (λ l. Holds t' (rows_in a.rows.now a.count) l) (dead_none y pr.parts (c.lost.ensures c.if-lost.true)) y.holds_ts,
      ),
    )

pub loop-i-init : goal.loop-i-init
loop-i-init t c =
    let a = c.args in (
      (omega arith, c.requires.few),
      (
        λ x l. refl,
        λ t' goes ts pre oss v y rg l.
            let r = rows_in a.rows.now a.count in
            let z : 0 ≡ c.wide-from.result - get_or a.lo.now a.q 0 = omega (arith, c.wide-from.ensures.0) in
            subst (λ j. Holds t' r (tried y rg l j)) z
            (subst (λ u. Holds t' r u) (sym (tried_none y rg l)) y.holds_ts),
      ),
    )

pub join-requires : goal.join-requires
join-requires t c =
    let pr = c.requires in
    let a = c.args in
    let l = c.loop-i in
    let lq : a.q < a.d = omega (arith, pr.level, c.if-q-d.false) in
    let w = (pr.parts a.q lq).1 in
    let i : l.i < a.n = omega (arith, w, c.wide-end.ensures.0, c.loop-i-test.true) in (
      omega (arith, c.decreases, lq),
      record {
        parts = pr.parts;
        held = le_trans pr.held l.invariant.0.0;
        few = l.invariant.0.1;
        cells = omega (arith, pr.cells);
        lows = pr.lows;
        highs = pr.highs;
        choices = simp length-set (omega (arith, pr.choices));
        level = omega (arith, lq);
        room = pr.room;
        made = λ x lx. elim (dec_lt x a.q) [
          | yes u ↦ subst (λ z. z < a.n) (sym (get_or-set_other l.chosen a.q x l.i 0 (omega (arith, u)) ∙ l.invariant.1.0 x u)) (pr.made x u)
          | no u ↦ let z : a.q ≡ x = omega (arith, u, lx) in subst (λ j. get_or (set l.chosen a.q l.i) j 0 < a.n) z (subst (λ v. v < a.n) (sym (get_or-set_same l.chosen a.q l.i 0 (omega (arith, pr.choices, lq)))) i)
        ];
      },
    )

pub returns-in_err-c : goal.returns-in_err-c
returns-in_err-c t c =
    let pr = c.requires in
    let a = c.args in
    let l = c.loop-i in
    let lq : a.q < a.d = omega (arith, pr.level, c.if-q-d.false) in
    let li : get_or a.lo.now a.q 0 ≤ l.i = omega (arith, c.wide-from.ensures.0, l.auto.i) in
    let ui : l.i < get_or a.hi.now a.q 0 = omega (arith, c.wide-end.ensures.0, c.loop-i-test.true) in
    let ch = set l.chosen a.q l.i in
    let same : (x : ℕ) → x < a.q → get_or ch x 0 ≡ get_or a.chosen.now x 0 = λ x lx. get_or-set_other l.chosen a.q x l.i 0 (omega (arith, lx)) ∙ l.invariant.1.0 x lx in
    let here : get_or ch a.q 0 ≡ l.i = get_or-set_same l.chosen a.q l.i 0 (omega (arith, pr.choices, lq)) in
    let h = c.in_err-c.ensures in
    rw c.from_residual.ensures (
      tt,
      (
        λ x lx. h.1.0 x (omega (arith, lx)) ∙ same x lx,
        λ t' goes ts pre oss v y.
            let free = not-false _ (sym (tried_blocked y pr.parts lq l.i li ui) ∙ sym c.in_word.ensures ∙ c.if-not-in_word.true) in
            tried_bad y pr.parts lq l.i li ui free
            (h.1.1 t' goes (tried y pr.parts lq (l.i - get_or a.lo.now a.q 0)) (pre ++ (nth ts l.i ∷ [])) (tl oss) v
            (tried_down y pr.parts lq l.i li ui free (rows_in l.rows l.c) ch (l.invariant.1.1 t' goes ts pre oss v y pr.parts lq) same here)),
      ),
    )

pub loop-i-preserved : goal.loop-i-preserved
loop-i-preserved t c =
    let pr = c.requires in
    let a = c.args in
    let l = c.loop-i in
    let lq : a.q < a.d = omega (arith, pr.level, c.if-q-d.false) in
    let li : get_or a.lo.now a.q 0 ≤ l.i = omega (arith, c.wide-from.ensures.0, l.auto.i) in
    let ui : l.i < get_or a.hi.now a.q 0 = omega (arith, c.wide-end.ensures.0, c.loop-i-test.true) in
    let ch = set l.chosen a.q l.i in
    let same : (x : ℕ) → x < a.q → get_or ch x 0 ≡ get_or a.chosen.now x 0 = λ x lx. get_or-set_other l.chosen a.q x l.i 0 (omega (arith, lx)) ∙ l.invariant.1.0 x lx in
    let here : get_or ch a.q 0 ≡ l.i = get_or-set_same l.chosen a.q l.i 0 (omega (arith, pr.choices, lq)) in
    elim c.if-not-in_word.branch [
      | then-not-in_word+in_ok-c w ↦
          let h = w.in_ok-c.ensures in (
            subst (λ z. (a.count ≤ z) × (z ≤ limits.most_offers)) (sym w.c-is) (omega (arith, h.0)),
            (
              λ x lx. ap (λ z. get_or z x 0) w.chosen-is ∙ h.1.0 x (omega (arith, lx)) ∙ same x lx,
              λ t' goes ts pre oss v y rg lq.
                  let free = not-false _ (sym (tried_blocked y rg lq l.i li ui) ∙ sym c.in_word.ensures ∙ w.if-not-in_word.true) in
                  holds-alike w.rows-is w.c-is (tried_take y rg lq l.i li ui free)
                  (h.1.1 t' goes (tried y rg lq (l.i - get_or a.lo.now a.q 0)) (pre ++ (nth ts l.i ∷ [])) (tl oss) v
                  (tried_down y rg lq l.i li ui free (rows_in l.rows l.c) ch (l.invariant.1.1 t' goes ts pre oss v y rg lq) same here)),
            ),
          )
      | else-not-in_word w ↦ (
        subst (λ z. (a.count ≤ z) × (z ≤ limits.most_offers)) (sym w.c-is) l.invariant.0,
        (
          λ x lx. ap (λ z. get_or z x 0) w.chosen-is ∙ l.invariant.1.0 x lx,
          λ t' goes ts pre oss v y rg lq.
              let shut = not-true _ (sym (tried_blocked y rg lq l.i li ui) ∙ sym c.in_word.ensures ∙ w.if-not-in_word.false) in
              holds-alike w.rows-is w.c-is (tried_skip y rg lq l.i li ui shut) (l.invariant.1.1 t' goes ts pre oss v y rg lq),
        ),
      )
    ]

pub returns : goal.returns
returns t c =
    let pr = c.requires in
    let a = c.args in
    let l = c.loop-i in
    let lq : a.q < a.d = omega (arith, pr.level, c.if-q-d.false) in
    let w = pr.parts a.q lq in (
      l.invariant.0,
      (
        l.invariant.1.0,
        λ t' goes ts pre oss v y.
            subst (λ u. Holds t' (rows_in l.rows l.c) u) (tried_all y pr.parts lq l.i (omega (arith, c.wide-end.ensures.0, c.wide-from.ensures.0, w.0, c.loop-i-test.false, l.auto.i-end))) (l.invariant.1.1 t' goes ts pre oss v y pr.parts lq),
      ),
    )
