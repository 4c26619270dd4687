-- Wish 4 on the small event and on small changes of it: each reason, as a table of calls and answers, `why_cases`, and one theorem that every row holds.
-- Assumes nothing.
use Prim.Native.Nat.{ℕ, ◌+◌}
use mathlib.Core.List.{List, [], ◌∷◌}
use lib.ListN.{set}
use Rattle.paper.specs.Answers.{refused, good}
use Rattle.paper.specs.Table.{node_at, edge_at}
use Rattle.paper.specs.Offers.{terms, no_bounds}
use Rattle.paper.proofs.Members.{In}
use Rattle.paper.proofs.Calls.{whys}
use Rattle.paper.proofs.Reasons.{whys as reasoned-why}
use Rattle.paper.proofs.Computed.{computed}
use Rattle.paper.proofs.SmallEvent.{T, T12, M, M11, W, Case, c, Holds, Computed, ◌also◌, all_hold}

-- both branches of the decision lead to the pin, the second without the join, and the pin needs two values
abbrev both_to_pin : List ℕ
both_to_pin = set (set (set T (edge_at T 3 + 2) 0x04) (node_at T 4 + 2) 0x02) (node_at T 4 + 3) 0x02

-- no round is open: the edge from the initial node has no token
abbrev no_round : List ℕ
no_round = set M 16 0x00

abbrev pub why_cases : List Case
why_cases =
    -- "0 an acceptable one exists", for the action and its pin; "255 names none and gets 0"
    c 1 (whys T M W 5) (good (0 ∷ [])) ∷
    c 2 (whys T M W 4) (good (0 ∷ [])) ∷
    c 3 (whys T M W 255) (good (0 ∷ [])) ∷
    -- "1 no end belongs to it": a decision, an action whose join waits for the round, "A node that doesn't exist gets 1"
    c 4 (whys T M W 2) (good (1 ∷ [])) ∷
    c 5 (whys T no_round W 5) (good (1 ∷ [])) ∷
    c 6 (whys T M W 7) (good (1 ∷ [])) ∷
    -- "2 no choice that takes an end of it satisfies its own destination rule": the buffer is full; the pin needs two and one can come
    c 7 (whys T M11 W 6) (good (2 ∷ [])) ∷
    c 8 (whys (set (set T (node_at T 4 + 2) 0x02) (node_at T 4 + 3) 0x02) M W 4) (good (2 ∷ [])) ∷
    -- "3 none that does so is free of competing ends": two can come, and they are one result by two ways
    c 9 (whys both_to_pin M W 4) (good (3 ∷ [])) ∷
    c 10 (whys both_to_pin M W 5) (good (3 ∷ [])) ∷
    -- "4 none of those passes all forks whole": the fork's other branch waits for the round
    c 11 (whys T12 no_round W 6) (good (4 ∷ [])) ∷
    -- "5 none of those satisfies all destinations": the fork's other branch leads to the full buffer
    c 12 (whys T12 M11 W 5) (good (5 ∷ [])) ∷
    c 13 (whys T12 M11 W 4) (good (5 ∷ [])) ∷
    -- "Refusals: those of sheet."
    c 14 (whys T M (terms [] no_bounds) 5) (refused 7 0) ∷ []

computed_whys : Computed why_cases
unfolding computed
computed_whys =
    reasoned-why T M W 5 also reasoned-why T M W 4 also reasoned-why T M W 255
    also reasoned-why T M W 2 also reasoned-why T no_round W 5 also reasoned-why T M W 7
    also reasoned-why T M11 W 6 also reasoned-why (set (set T (node_at T 4 + 2) 0x02) (node_at T 4 + 3) 0x02) M W 4
    also reasoned-why both_to_pin M W 4 also reasoned-why both_to_pin M W 5
    also reasoned-why T12 no_round W 6 also reasoned-why T12 M11 W 5 also reasoned-why T12 M11 W 4
    also reasoned-why T M (terms [] no_bounds) 5 also tt

pub each_reason : (r : Case) → In r why_cases → Holds r
each_reason = all_hold why_cases computed_whys
