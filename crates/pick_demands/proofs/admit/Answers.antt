-- `admit`: a group grows by a common rival. Assumes nothing.
use mathlib.Core.Path.{sym, ◌∙◌}
use borrow.Author.Rules.{rules}
use Rattle.pick_demands.proofs.Crowding.{huddled_more, common_less, apart_stays}
use Rattle.pick_demands.proofs.admit.Goals as goal

pub returns-then-not-meets : goal.returns-then-not-meets
returns-then-not-meets c = let a = c.args in
    (λ p s h. h, λ h. absurd (apart_stays a.h.common a.k c.end_of-end.result c.requires c.end_of-end.ensures (sym c.meets.ensures ∙ c.if-not-meets.true) h))

pub returns : goal.returns
returns c = let a = c.args in
    let end = c.end_of-end in
    let among = sym c.meets.ensures ∙ c.if-not-meets.false in
    (huddled_more a.h a.foes a.k end.result c.without.result c.requires end.ensures among c.without.ensures, λ h. common_less a.h a.foes a.k end.result c.without.result c.requires end.ensures among c.without.ensures (search rules))
