-- The clauses of `head_good` on the parts of the head that each of them reads: with the head of these parts, they are those clauses.
-- Assumes nothing.
use Rattle.std.specs.Prelude.{ℕ, Bool, ◌&&◌, ◌||◌, List, leb, eqb}
use Rattle.numbers.specs.declared.Controller.{Controller}
use Rattle.numbers.specs.Words.{all?}
use Rattle.numbers.specs.Numbers.{last_counter, same_controller, controllers}
use Rattle.row.specs.declared.Row.{Row}
use Rattle.row.specs.Row.{fits, sound}
use Rattle.meaning.specs.CrewTable.{CrewTable, share_job}
use Rattle.meaning.specs.Clock.{Clock, row}
use Rattle.meaning.specs.State.{Watermark, mark}
use Rattle.meaning.specs.Message.{is_none}
use Rattle.layout.specs.Clocks.{decode_clock}
use Rattle.layout.specs.Image.{Head, decode_marks}

abbrev pub head_of_parts : Controller → List ℕ → List ℕ → List ℕ → Head
head_of_parts own table rows marks = record { own = own; table = table; clock = decode_clock rows; watermark = decode_marks marks }

abbrev pub row_good : Row → Bool
row_good r = fits r && sound r

abbrev pub peers_by : CrewTable → Controller → Controller → Bool
peers_by t n m = same_controller n m || share_job t n m

abbrev pub row_allowed : Controller → CrewTable → Clock → Controller → Bool
row_allowed own t k n = peers_by t own n || is_none (row k n)

unfoldable pub rows_allowed : Controller → CrewTable → Clock → Bool
rows_allowed own t k = all? (row_allowed own t k) controllers

abbrev pub mark_allowed : Controller → CrewTable → Watermark → Controller → Controller → Bool
mark_allowed own t w m n = leb (mark w m n) last_counter && ((peers_by t own m && peers_by t own n) || eqb (mark w m n) 0)

unfoldable pub marks_row_allowed : Controller → CrewTable → Watermark → Controller → Bool
marks_row_allowed own t w m = all? (mark_allowed own t w m) controllers

unfoldable pub marks_allowed : Controller → CrewTable → Watermark → Bool
marks_allowed own t w = all? (marks_row_allowed own t w) controllers

unfoldable pub own_row_known : Controller → Clock → Watermark → Bool
own_row_known own k w = all? (λ n. leb (mark w own n) (row k n).base) controllers

unfoldable pub own_column : Controller → ℕ → Watermark → Bool
own_column own base w = all? (λ m. leb (mark w m own) base) controllers
