-- The measure is the number of digits that there may be. Assumes nothing.
use Rattle.listing.proofs.+put_digits.Given as goal

abbrev pub decreases-put_digits : goal.decreases-put_digits
decreases-put_digits l = l.most
