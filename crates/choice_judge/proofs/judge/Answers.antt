-- `judge` is the ladder of rules 10 to 12. Assumes nothing.
use mathlib.Core.Path.{◌≡◌, sym, ap, ◌∙◌}
use mathlib.Core.Option.{none}
use native.Mathlib.Omega.{arith}
use Rattle.offers.specs.declared.Offers.{Offers}
use Rattle.table.proofs.Reading.{read-spans}
use Rattle.ends_masks.specs.Seating.{first_rivalled, forks}
use Rattle.wire.specs.Refusals.{found}
use Rattle.choice_judge.specs.Judging.{forks_in}
use Rattle.choice_judge.proofs.Masks.{forks-rows}
use Rattle.choice_judge.proofs.judge.Goals as goal

pub returns-in-Some : goal.returns-in-Some
returns-in-Some c = rw (sym (c.competing_end.ensures c.all_makers-w.ensures) ∙ ap found c.in-Some.is)

pub parted_fork-requires : goal.parted_fork-requires
parted_fork-requires c =
    let f = c.requires.1 in
    (read-spans c.args.t.now c.requires.0, omega (arith, f.nodes-full, f.few), omega (arith, f.parents-full, f.few), f.few)

pub returns-in-Some-parted_fork : goal.returns-in-Some-parted_fork
returns-in-Some-parted_fork c =
    let offers-of : Offers = c.args.offers in
    let apart_none : let a = c.args in first_rivalled a.ends.foes a.ends.makers a.ends.count a.c ≡ none =
    sym (c.competing_end.ensures c.all_makers-w.ensures) ∙ ap found c.in_default.is in
    let forks-are : let a = c.args in let o = offers-of in forks o.node o.parents a.ends.makers o.count a.ends.count a.c a.t.now ≡ forks_in o.node o.parents o.count c.all_makers-w.result a.t.now =
    sym (forks-rows _ _ _ _ _ _ _ c.all_makers-w.ensures _) in
    rw (apart_none, forks-are ∙ sym c.parted_fork.ensures ∙ ap found c.in-Some-parted_fork.is)

pub unfit_node-requires : goal.unfit_node-requires
unfit_node-requires c = (read-spans c.args.t.now c.requires.0, c.requires.2, c.requires.3)

pub returns-in-Some-unfit_node : goal.returns-in-Some-unfit_node
returns-in-Some-unfit_node c =
    let offers-of : Offers = c.args.offers in
    let apart_none : let a = c.args in first_rivalled a.ends.foes a.ends.makers a.ends.count a.c ≡ none =
    sym (c.competing_end.ensures c.all_makers-w.ensures) ∙ ap found c.in_default.is in
    let forks-are : let a = c.args in let o = offers-of in forks o.node o.parents a.ends.makers o.count a.ends.count a.c a.t.now ≡ forks_in o.node o.parents o.count c.all_makers-w.result a.t.now =
    sym (forks-rows _ _ _ _ _ _ _ c.all_makers-w.ensures _) in
    let forks-none : let a = c.args in let o = offers-of in forks o.node o.parents a.ends.makers o.count a.ends.count a.c a.t.now ≡ none =
    forks-are ∙ sym c.parted_fork.ensures ∙ ap found c.in_default-parted_fork.is in
    rw (apart_none, forks-none, sym c.unfit_node.ensures ∙ ap found c.in-Some-unfit_node.is)

pub returns : goal.returns
returns c =
    let offers-of : Offers = c.args.offers in
    let apart_none : let a = c.args in first_rivalled a.ends.foes a.ends.makers a.ends.count a.c ≡ none =
    sym (c.competing_end.ensures c.all_makers-w.ensures) ∙ ap found c.in_default.is in
    let forks-are : let a = c.args in let o = offers-of in forks o.node o.parents a.ends.makers o.count a.ends.count a.c a.t.now ≡ forks_in o.node o.parents o.count c.all_makers-w.result a.t.now =
    sym (forks-rows _ _ _ _ _ _ _ c.all_makers-w.ensures _) in
    let forks-none : let a = c.args in let o = offers-of in forks o.node o.parents a.ends.makers o.count a.ends.count a.c a.t.now ≡ none =
    forks-are ∙ sym c.parted_fork.ensures ∙ ap found c.in_default-parted_fork.is in
    rw (apart_none, forks-none, sym c.unfit_node.ensures ∙ ap found c.in_default-unfit_node.is)
