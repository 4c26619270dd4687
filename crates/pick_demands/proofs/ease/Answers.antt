-- `ease`: sums of small numbers fit. Assumes nothing.
use native.Mathlib.Omega.{arith}
use lib.Count.{ones-le}
use borrow.Author.Rules.{rules}
use Rattle.pick_demands.proofs.ease.Goals as goal

pub overflow_mul-ease : goal.overflow_mul-ease
overflow_mul-ease c = let a = c.args in let l = ones-le 32 a.d.ends (search rules) in omega arith

pub overflow_sub-ease-2 : goal.overflow_sub-ease-2
overflow_sub-ease-2 c = let a = c.args in let l = ones-le 32 a.d.ends (search rules) in omega arith

pub overflow_add-ease : goal.overflow_add-ease
overflow_add-ease c = let a = c.args in let l = ones-le 32 a.d.ends (search rules) in omega arith

pub overflow_add-result : goal.overflow_add-result
overflow_add-result c = let a = c.args in let l = ones-le 32 a.d.ends (search rules) in omega arith
