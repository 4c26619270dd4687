-- `taken_of`: the ones of a word of 32 digits. Assumes nothing.
use mathlib.Core.Path.{refl}
use Rattle.choice_agree.proofs.Masks.{ones-few}
use borrow.Author.Rules.{rules}
use Rattle.choice_agree.proofs.taken_of.Goals as goal

pub overflow_cast-result : goal.overflow_cast-result
overflow_cast-result c = let f = ones-few c.args.mask c.args.c (search rules) in search rules

pub returns : goal.returns
returns c = (refl, ones-few c.args.mask c.args.c (search rules))
