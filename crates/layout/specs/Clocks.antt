-- Clock rows as bytes: "eight clock rows (base 4, bits 8)", in an image's head and in asks and replies. Assumes nothing.
use Rattle.std.specs.Prelude.{ℕ, ◌*◌, List, ◌++◌}
use Rattle.numbers.specs.Words.{concat_map}
use Rattle.block.specs.Fields.{le, cut, field, upto}
use Rattle.row.specs.declared.Row.{Row}
use Rattle.meaning.specs.Clock.{Clock}

unfoldable pub encode_row : Row → List ℕ
encode_row r = le 4 r.base ++ le 8 r.bits

unfoldable pub decode_row : List ℕ → Row
decode_row b = record { base = field b 0 4; bits = field b 4 8 }

unfoldable pub encode_clock : Clock → List ℕ
encode_clock k = concat_map encode_row k

-- of 96 bytes
unfoldable pub decode_clock : List ℕ → Clock
decode_clock b = upto 8 (λ i. decode_row (cut b (12 * i) 12))
