-- `texts::put_decimal` writes a tenth of its number first, which is less.
use Rattle.texts.proofs.+put_decimal.Given as goal

abbrev pub decreases-put_decimal : goal.decreases-put_decimal
decreases-put_decimal l = l.n
