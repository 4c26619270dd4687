-- `put_digits` writes the digits before the last one first. The measure is how many may still be written. Assumes nothing.
use Rattle.sheet_numbers.proofs.+put_digits.Given as goal

abbrev pub decreases-put_digits : goal.decreases-put_digits
decreases-put_digits l = l.n
