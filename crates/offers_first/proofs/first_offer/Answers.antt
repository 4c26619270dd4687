-- `offers_first::first_offer` meets its contract: from the stock of the source, or from the count. Assumes nothing.
use mathlib.Core.Path.{◌≡◌, refl, sym, ◌∙◌}
use mathlib.Core.Bool.{true, false}
use borrow.Author.Tests.{ne_eqb}
use Rattle.paper.specs.Bytes.{word_at}
use Rattle.paper.specs.Table.{is_object_node}
use Rattle.offers_first.proofs.StartLaws.{start_stocked, start_counted}
use Rattle.offers_first.proofs.first_offer.Goals as goal

pub returns-then-kept-eq0 : goal.returns-then-kept-eq0
returns-then-kept-eq0 c =
    let a = c.args in
    let v = word_at a.b.now a.from in
    let stocked : is_object_node a.k ≡ true = sym c.is_object_node.ensures ∙ c.if-is_object_node.true in
    record { oldest = v; start_is = sym (start_stocked a.k a.kept a.tokens v stocked ∙ rw c.if-kept-eq0.true); value-is = λ l. refl }

pub returns-then-is_object_node : goal.returns-then-is_object_node
returns-then-is_object_node c =
    let a = c.args in
    let v = c.oldest.result in
    let stocked : is_object_node a.k ≡ true = sym c.is_object_node.ensures ∙ c.if-is_object_node.true in
    record { oldest = v; start_is = sym (start_stocked a.k a.kept a.tokens v stocked ∙ rw (ne_eqb a.kept 0 c.if-kept-eq0.false)); value-is = c.oldest.ensures }

pub returns-then-tokens-eq0 : goal.returns-then-tokens-eq0
returns-then-tokens-eq0 c =
    let a = c.args in
    let v = word_at a.b.now a.from in
    let other : is_object_node a.k ≡ false = sym c.is_object_node.ensures ∙ c.if-is_object_node.false in
    record { oldest = v; start_is = sym (start_counted a.k a.kept a.tokens v other ∙ rw c.if-tokens-eq0.true); value-is = λ l. refl }

pub returns : goal.returns
returns c =
    let a = c.args in
    let v = word_at a.b.now a.from in
    let other : is_object_node a.k ≡ false = sym c.is_object_node.ensures ∙ c.if-is_object_node.false in
    record { oldest = v; start_is = sym (start_counted a.k a.kept a.tokens v other ∙ rw (ne_eqb a.tokens 0 c.if-tokens-eq0.false)); value-is = λ l. refl }
