-- The printed text of an image. Assumes nothing.
-- "A first line gives own number, stored points, own and foreign dots; then a line per version: job, point, dot, value in lower-case hex,
-- `-` for an empty value or `deleted`."
use Rattle.std.specs.Prelude.{ℕ, zero, suc, ◌+◌, ◌/◌, ◌%◌, List, [], ◌∷◌, ◌++◌, Bool, true, false, length, ltb, eqb, if◌then◌else◌}
use Rattle.numbers.specs.declared.Key.{Key}
use Rattle.numbers.specs.Words.{concat_map}
use Rattle.refusal.specs.declared.Refusal.{Refusal}
use Rattle.refusal.specs.declared.Refusal.TheVariants.{WrongLength, ImageNotGood}
use Rattle.refusal.specs.Refusal.{number}
use Rattle.meaning.specs.Object.{Contents, value, deleted, Version}
use Rattle.meaning.specs.State.{Stored, State}
use Rattle.layout.specs.Image.{image_length, decode, good_image}

abbrev pub space : ℕ
space = 0x20

abbrev pub newline : ℕ
newline = 0x0a

-- the decimal digits of a number; the first number says how many there are at the most
unfoldable pub digits_of : ℕ → ℕ → List ℕ
digits_of zero n = []
digits_of (suc k) n = let last = 0x30 + n % 10 in let rest = digits_of k (n / 10) in if ltb n 10 then (last ∷ []) else (rest ++ (last ∷ []))

-- a number of at most ten digits
unfoldable pub decimal : ℕ → List ℕ
decimal n = digits_of 10 n

-- "lower-case hex"
abbrev pub hex_digit : ℕ → ℕ
hex_digit n = if ltb n 10 then (0x30 + n) else (0x57 + n)

abbrev pub hex : ℕ → List ℕ
hex b = hex_digit (b / 16) ∷ hex_digit (b % 16) ∷ []

-- "value in lower-case hex, `-` for an empty value or `deleted`"
unfoldable pub said : Contents → List ℕ
said (value []) = 0x2d ∷ []
said (value (b ∷ bs)) = concat_map hex (b ∷ bs)
said deleted = 0x64 ∷ 0x65 ∷ 0x6c ∷ 0x65 ∷ 0x74 ∷ 0x65 ∷ 0x64 ∷ []

-- "job, point, dot, value"
unfoldable pub version_line : Key → Version → List ℕ
version_line k v =
    decimal k.job ++ (space ∷ (decimal k.point.0 ++ (space ∷ (decimal v.dot.who.0 ++ (0x2e ∷ (decimal v.dot.count.0
    ++ (space ∷ (said v.contents ++ (newline ∷ [])))))))))

-- the words "controller ", " records ", " own ", " foreign "
abbrev pub word_controller : List ℕ
word_controller = 0x63 ∷ 0x6f ∷ 0x6e ∷ 0x74 ∷ 0x72 ∷ 0x6f ∷ 0x6c ∷ 0x6c ∷ 0x65 ∷ 0x72 ∷ 0x20 ∷ []

abbrev pub word_records : List ℕ
word_records = 0x20 ∷ 0x72 ∷ 0x65 ∷ 0x63 ∷ 0x6f ∷ 0x72 ∷ 0x64 ∷ 0x73 ∷ 0x20 ∷ []

abbrev pub word_own : List ℕ
word_own = 0x20 ∷ 0x6f ∷ 0x77 ∷ 0x6e ∷ 0x20 ∷ []

abbrev pub word_foreign : List ℕ
word_foreign = 0x20 ∷ 0x66 ∷ 0x6f ∷ 0x72 ∷ 0x65 ∷ 0x69 ∷ 0x67 ∷ 0x6e ∷ 0x20 ∷ []

unfoldable pub first_line : State → List ℕ
first_line s =
    word_controller ++ (decimal s.own.0
    ++ (word_records ++ (decimal (length s.points)
    ++ (word_own ++ (decimal (length s.own_dots)
    ++ (word_foreign ++ (decimal (length s.foreign_dots) ++ (newline ∷ []))))))))

unfoldable pub listing : State → List ℕ
listing s = first_line s ++ concat_map (λ p. concat_map (version_line p.key) p.object.versions) s.points

-- "A bad image prints only `refused 1` or `refused 2`."
unfoldable pub refused_line : Refusal → List ℕ
refused_line r = 0x72 ∷ 0x65 ∷ 0x66 ∷ 0x75 ∷ 0x73 ∷ 0x65 ∷ 0x64 ∷ 0x20 ∷ (decimal (number r) ++ (newline ∷ []))

-- what the program prints for its input
unfoldable pub printed : List ℕ → List ℕ
printed input =
    if eqb (length input) image_length then (if good_image input then listing (decode input) else refused_line ImageNotGood)
    else refused_line WrongLength
