-- Marks of dots, 2048 bits in 32 numbers; each dot has two. Dots may share marks, so marks that stand say nothing; but a dot whose two marks do not both
-- stand is none of those that were marked. Two, since two counters of one controller share both only if they are the same modulo 128 and modulo 127,
-- that is modulo 16256; else a dot finds both of its marks only where two others have left one each. Assumes nothing.
use Rattle.std.specs.Prelude.{ℕ, ◌+◌, ◌*◌, ◌/◌, ◌%◌, ◌^◌, ◌<◌, ◌≡◌, Bool, true, ◌&&◌, List, length, get_or, set}
use Rattle.std.specs.Int.Bits.{bit_or}
use Rattle.numbers.specs.declared.Dot.{Dot}
use Rattle.numbers.specs.Words.{all?}
use Rattle.row.specs.Row.{bit}
use Rattle.apart.specs.Apart.{point_of}

-- of each controller 128 first marks, one for all counters that are the same modulo 128
unfoldable pub first_mark : Dot → ℕ
first_mark d = 128 * (d.who.0 % 8) + d.count.0 % 128

-- and 128 second marks behind all first ones, one for all counters that are the same modulo 127
unfoldable pub second_mark : Dot → ℕ
second_mark d = 1024 + 128 * (d.who.0 % 8) + d.count.0 % 127

-- the mark stands among these, 64 in a number
unfoldable pub marked : List ℕ → ℕ → Bool
marked ms k = bit (k % 64) (get_or ms (k / 64) 0)

-- these with that mark too
unfoldable pub with_mark : List ℕ → ℕ → List ℕ
with_mark ms k = set ms (k / 64) (bit_or (get_or ms (k / 64) 0) (2 ^ (k % 64)))

-- both marks of the dot stand among these
unfoldable pub both_marked : List ℕ → Dot → Bool
both_marked ms d = marked ms (first_mark d) && marked ms (second_mark d)

-- these with both marks of the dot too
unfoldable pub with_both : List ℕ → Dot → List ℕ
with_both ms d = with_mark (with_mark ms (first_mark d)) (second_mark d)

-- 32 numbers, among whose marks both of each version of the first n points stand
pub record Noted (ms run : List ℕ) (n : ℕ) : Type 0 where
  pub size : length ms ≡ 32
  pub stand : (i : ℕ) → i < n → all? (λ v. both_marked ms v.dot) (point_of run i).object.versions ≡ true
