-- A clock row: which counters of one controller were seen. Assumes nothing.
-- "A row per controller: a base b (1..b all seen) and 64 bits, bit j standing for counter b+1+j."
-- Here `bits` may be any number. That it is below 2 ^ 64 is what refusal 11 asks of a step's result, "with no limit applied".
use Rattle.std.specs.Prelude.{ℕ, zero, suc, ◌+◌, ◌-◌, ◌/◌, ◌%◌, ◌^◌, ◌≤◌, max, ◌≡◌, Bool, true, false, ◌&&◌, ◌||◌, leb, ltb, eqb, if◌then◌else◌, Option, Some, None}
use Rattle.std.specs.Int.Bits.{bit_or}
use Rattle.numbers.specs.declared.Counter.{Counter}
use Rattle.numbers.specs.Numbers.{counter, last_counter}
use Rattle.row.specs.declared.Row.{Row}

-- the row of a controller of which nothing was seen
abbrev pub none_seen : Row
none_seen = record { base = 0; bits = 0 }

-- bit j of n
unfoldable pub bit : ℕ → ℕ → Bool
bit j n = eqb (n / 2 ^ j % 2) 1

-- the counter c was seen
unfoldable pub has : Row → Counter → Bool
has r c = ltb 0 c.0 && (leb c.0 r.base || bit (c.0 - (r.base + 1)) r.bits)

-- the base b goes up over the run of set low bits of n; the first number is at least the length of that run
unfoldable pub advance : ℕ → ℕ → ℕ → Row
advance zero b n = record { base = b; bits = n }
advance (suc k) b n = elim (n % 2) [ zero ↦ record { base = b; bits = n } | suc _ ↦ advance k (b + 1) (n / 2) ]

-- "Bit 0 is never set": after an add or a union the base has gone up as far as it can
unfoldable pub advanced : Row → Row
advanced r = advance r.bits r.base r.bits

-- the row with the counter c too
unfoldable pub add : Row → Counter → Row
add r c =
    if leb c.0 r.base then r
    else advanced (record { base = r.base; bits = bit_or r.bits (2 ^ (c.0 - (r.base + 1))) })

-- the row with all counters of another one too
unfoldable pub unite : Row → Row → Row
unite r s =
    let top = max r.base s.base in
    advanced (record { base = top; bits = bit_or (r.bits / 2 ^ (top - r.base)) (s.bits / 2 ^ (top - s.base)) })

-- the number of binary digits of n, of at most as many as the first number says
unfoldable pub digits : ℕ → ℕ → ℕ
digits zero n = 0
digits (suc k) zero = 0
digits (suc k) (suc n) = suc (digits k (suc n / 2))

-- the highest counter that the row stands for
unfoldable pub highest : Row → ℕ
highest r = r.base + digits r.bits r.bits

-- the row has its 64 bits: it needs no counter above base + 64 (refusal 11)
unfoldable pub fits : Row → Bool
fits r = ltb r.bits (2 ^ 64)

-- "Bit 0 is never set. No row stands for a counter above 4,294,967,295."
unfoldable pub sound : Row → Bool
sound r = eqb (r.bits % 2) 0 && leb (highest r) last_counter

-- the row with the counter c too, or that it is too far
unfoldable pub add_up : Row → Counter → Option Row
add_up r c = if fits (add r c) then Some (add r c) else None
