-- Refusals by name, with the paper's number and place of each; and what an answer of the code says in the paper's words. Assumes nothing.
use Rattle.std.specs.Prelude.{ℕ, ◌<◌, ◌^◌, Result, Ok, Err, IfOk, Some, None}
use Rattle.std.specs.Prelude.{Option}
use Rattle.std.proofs.Math.Option.{Option as Maybe, none, some}
use Rattle.paper.specs.Answers.{Answer, refused, good}
use Rattle.paper.specs.Operations.{packed}
use Rattle.wire.specs.declared.Refusal.{Refusal}
use Rattle.wire.specs.declared.Refusal.TheVariants.{Frame, Node, Edge, Shape, Marking, Ended, Guards, Size, Choice, Rivals, Fork, Destination, NoChoice, Idle, Values, Stock, Room, Bounds}

-- the number in the paper's table
abbrev pub number : Refusal → ℕ
number Frame = 1
number (Node p) = 2
number (Edge p) = 3
number (Shape p) = 4
number Marking = 5
number Ended = 6
number Guards = 7
number Size = 8
number Choice = 9
number (Rivals p) = 10
number (Fork p) = 11
number (Destination p) = 12
number (NoChoice p) = 13
number Idle = 14
number Values = 15
number Stock = 16
number Room = 17
number Bounds = 18

-- the place, 0 where the table names none
abbrev pub place : Refusal → ℕ
place Frame = 0
place (Node p) = p
place (Edge p) = p
place (Shape p) = p
place Marking = 0
place Ended = 0
place Guards = 0
place Size = 0
place Choice = 0
place (Rivals p) = p
place (Fork p) = p
place (Destination p) = p
place (NoChoice p) = p
place Idle = 0
place Values = 0
place Stock = 0
place Room = 0
place Bounds = 0

-- what a reader or a judge says: its value, or the refusal's number and place
abbrev pub said : {A : Type 0} → Result A Refusal → Answer A
said (Ok x) = good x
said (Err e) = refused (number e) (place e)

-- what a search says: the place that it finds, if any
abbrev pub found : {A : Type 0} → Option A → Maybe A
found (Some x) = some x
found None = none

-- what an operation says in one word: the length written, or the refusal's number and place
abbrev pub word_of : Result ℕ Refusal → ℕ
word_of (Ok n) = packed 0 0 n
word_of (Err e) = packed (number e) (place e) 0

-- what it answers, if it doesn't refuse, is below the word of any refusal, so that the word tells which of the two it does
abbrev pub BelowRefusals : Result ℕ Refusal → Type 0
BelowRefusals r = IfOk r (λ n. n < 2 ^ 48)
