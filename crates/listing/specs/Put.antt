-- A text put into a lent buffer. Assumes nothing.
use Rattle.std.specs.Prelude.{ℕ, ◌+◌, ◌*◌, ◌≤◌, ◌≡◌, List, ◌∷◌, ◌++◌, length}
use Rattle.numbers.specs.declared.Dot.{Dot}
use Rattle.numbers.specs.declared.Key.{Key}
use Rattle.numbers.specs.Words.{concat_map}
use Rattle.block.specs.Fields.{splice}
use Rattle.meaning.specs.State.{Stored}
use Rattle.layout.specs.Listing.{space, decimal, version_line}

-- `text`, of at most `most` bytes, stands in what was `before`, from `at` to before `end`; every other byte is as it was
pub record Put (before : List ℕ) (at : ℕ) (text : List ℕ) (most : ℕ) (after : List ℕ) (end : ℕ) : Type 0 where
  pub bytes : after ≡ splice before at (length text) text
  pub ends : end ≡ at + length text
  pub fits : length text ≤ most
  pub room : end ≤ length before
  pub size : length after ≡ length before

-- "job, point, dot"
abbrev pub label : Key → Dot → List ℕ
label k d = decimal k.job ++ (space ∷ (decimal k.point.0 ++ (space ∷ (decimal d.who.0 ++ (0x2e ∷ decimal d.count.0)))))

-- the lines of one stored point
abbrev pub record_lines : Stored → List ℕ
record_lines p = concat_map (version_line p.key) p.object.versions

-- what is always enough: a number takes at most ten bytes, so a line of a version 93, and the first line 75
abbrev pub most_line : ℕ
most_line = 93

abbrev pub most_first : ℕ
most_first = 75

abbrev pub most_text : ℕ
most_text = most_first + most_line * 8 * 64
