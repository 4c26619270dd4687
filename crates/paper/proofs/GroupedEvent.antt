-- Wish 5 on an event whose edges are numbered across its nodes, as a table, `grouped_cases`, and one theorem that every row holds, `grouped_by_destination`: two
-- edges into one buffer that aren't neighbours, two pins of one action, one numbered below it and one above, and the action's own control edge. The order by
-- last edge, and that by a pin's action, would be other ones. Assumes nothing.
use mathlib.Core.Path.{refl}
use Prim.Native.Nat.{ℕ}
use mathlib.Core.List.{List, [], ◌∷◌}
use Rattle.paper.specs.Answers.{refused, good}
use Rattle.paper.specs.Offers.{Terms, terms, no_bounds}
use Rattle.paper.proofs.Members.{In}
use Rattle.paper.proofs.EmptyChoice.{picks as picked}
use Rattle.paper.proofs.Calls.{sheets, picks, steps}
use Rattle.paper.proofs.Computed.{computed}
use Rattle.paper.proofs.SmallEvent.{Case, c, Holds, Computed, ◌also◌, all_hold}

-- nodes 2 and 5 are the pins of action 4, node 3 is a buffer, results come in at nodes 1 and 6
abbrev T : List ℕ
T =
    0x00 ∷ 0x33 ∷ 0x01 ∷ 0x07 ∷ 0x05 ∷
    0x01 ∷ 0xFF ∷ 0x00 ∷ 0x00 ∷
    0x06 ∷ 0xFF ∷ 0x00 ∷ 0x04 ∷
    0x03 ∷ 0x04 ∷ 0x00 ∷ 0x01 ∷
    0x05 ∷ 0xFF ∷ 0x00 ∷ 0x02 ∷
    0x02 ∷ 0xFF ∷ 0x00 ∷ 0x00 ∷
    0x03 ∷ 0x04 ∷ 0x00 ∷ 0x01 ∷
    0x06 ∷ 0xFF ∷ 0x00 ∷ 0x04 ∷
    0x01 ∷ 0x01 ∷ 0x05 ∷ 0x00 ∷
    0x00 ∷ 0x00 ∷ 0x04 ∷ 0x00 ∷
    0x01 ∷ 0x01 ∷ 0x03 ∷ 0x00 ∷
    0x01 ∷ 0x01 ∷ 0x02 ∷ 0x00 ∷
    0x01 ∷ 0x06 ∷ 0x03 ∷ 0x00 ∷ []

-- node 1 holds 7, node 6 holds 9, and the round is open
abbrev M : List ℕ
M = 0x00 ∷ 0x11 ∷ 0x01 ∷ 0x00 ∷ 0x01 ∷ 0x00 ∷ 0x00 ∷ 0x00 ∷ 0x07 ∷ 0x00 ∷ 0x00 ∷ 0x00 ∷ 0x00 ∷ 0x01 ∷ 0x00 ∷ 0x00 ∷ 0x00 ∷ 0x09 ∷ 0x01 ∷ []

abbrev W : Terms
W = terms (0x01 ∷ 0x01 ∷ 0x01 ∷ 0x01 ∷ 0x01 ∷ []) no_bounds

-- edge 3 to pin 2; edges 2 and 4 to buffer 3; edge 1 to action 4; edge 0 to pin 5
abbrev five_ends : List ℕ
five_ends =
    0x00 ∷ 0x2F ∷ 0x01 ∷ 0x05 ∷
    0x03 ∷ 0x01 ∷ 0x00 ∷ 0x00 ∷ 0x00 ∷ 0x07 ∷ 0x01 ∷ 0x01 ∷ 0x03 ∷
    0x02 ∷ 0x01 ∷ 0x00 ∷ 0x00 ∷ 0x00 ∷ 0x07 ∷ 0x01 ∷ 0x01 ∷ 0x02 ∷
    0x04 ∷ 0x01 ∷ 0x00 ∷ 0x00 ∷ 0x00 ∷ 0x09 ∷ 0x01 ∷ 0x01 ∷ 0x04 ∷
    0x01 ∷ 0x00 ∷ 0x00 ∷ 0x00 ∷ 0x00 ∷ 0x00 ∷ 0x01 ∷ 0x01 ∷ 0x01 ∷
    0x00 ∷ 0x01 ∷ 0x00 ∷ 0x00 ∷ 0x00 ∷ 0x07 ∷ 0x01 ∷ 0x01 ∷ 0x00 ∷ []

abbrev pub grouped_cases : List Case
grouped_cases =
    -- "by target node first": a pin's own number, and not its action's; "then as before"
    c 1 (sheets T M W) (good five_ends) ∷
    -- "Step and pick follow the new numbers.": pin 2 gets the result, where by last edge pin 5 would
    c 2 (picks T M W 255) (good (0 ∷ 2 ∷ 3 ∷ [])) ∷
    c 3 (picks T M W 5) (good (2 ∷ 3 ∷ 4 ∷ [])) ∷
    c 4 (steps T M W (0 ∷ 2 ∷ 3 ∷ []))
    (good (0x00 ∷ 0x11 ∷ 0x01 ∷ 0x00 ∷ 0x00 ∷ 0x01 ∷ 0x00 ∷ 0x00 ∷ 0x00 ∷ 0x07 ∷ 0x01 ∷ 0x00 ∷ 0x00 ∷ 0x00 ∷ 0x09 ∷ 0x01 ∷ 0x00 ∷ 0x00 ∷ 0x00 ∷ [])) ∷
    -- the buffer gets 7 from edge 2, then 9 from edge 4
    c 5 (steps T M W (1 ∷ 2 ∷ []))
    (good (0x00 ∷ 0x11 ∷ 0x01 ∷ 0x00 ∷ 0x00 ∷ 0x00 ∷ 0x02 ∷ 0x00 ∷ 0x00 ∷ 0x00 ∷ 0x07 ∷ 0x00 ∷ 0x00 ∷ 0x00 ∷ 0x09 ∷ 0x00 ∷ 0x00 ∷ 0x00 ∷ 0x01 ∷ [])) ∷
    -- the place of 10 is a number of now: of edge 2, where edge 0 would be lower
    c 6 (steps T M W (1 ∷ 4 ∷ [])) (refused 10 1) ∷ []

computed_groups : Computed grouped_cases
unfolding computed
computed_groups =
    refl also picked T M W 255 also picked T M W 5
    also refl also refl also refl also tt

pub grouped_by_destination : (r : Case) → In r grouped_cases → Holds r
grouped_by_destination = all_hold grouped_cases computed_groups
