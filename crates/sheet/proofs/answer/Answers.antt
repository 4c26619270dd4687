-- `answer`: what was read of a known input is what the paper cuts, and just the text that is made of it is written.
use Rattle.std.proofs.Common.{◌≡◌, ℕ, List, Option, Some, None, Result, Ok, Err, IfSome, OnOk, take}
use Rattle.std.specs.Io.KnownBytes.{Appends}
use Rattle.paper.specs.Program.{read_of, PrintsFor}
use Rattle.sheet.proofs.answer.Goals as goal

module _ {E : Type 0} (written : List ℕ) (old new : Option (List ℕ)) where
  -- a text that is right for the input, where the input is known, and that is written
  written_for : (known : Option (List ℕ)) (wrote : Result (Unit {0}) E) → IfSome known (λ input. PrintsFor input written) → OnOk wrote (Appends old new written)
      → OnOk wrote (IfSome known (λ input. (text : List ℕ) × PrintsFor input text × Appends old new text))
  written_for None (Ok x) right appended = tt
  written_for (Some input) (Ok x) right appended = (written, right, appended)
  written_for known (Err e) right appended = tt

right_for : {s written : List ℕ} (known : Option (List ℕ)) → IfSome known (λ input. s ≡ read_of input) → ((input : List ℕ) → s ≡ read_of input → PrintsFor input written) → IfSome known (λ input. PrintsFor input written)
right_for None read prints = tt
right_for (Some input) read prints = prints input read

pub returns : goal.returns
returns g c =
    let k = c.describe-k in
    let known = g.R.Read.remaining c.args.from.now in
    written_for (take k.result k.new.out) (g.W.Write.contents c.args.to.now) (g.W.Write.contents c.write_all.new.self) known c.write_all.result
    (right_for known c.in_ok-n.ensures.first k.ensures.1) c.write_all.ensures.bytes
