-- The parts of an image's head as they are lent, its counts, and what is known of a good one. Assumes nothing.
use Prim.Native.Nat.{ℕ, ◌+◌, ◌*◌, ◌-◌}
use mathlib.Core.Path.{◌≡◌, ap, sym, ◌∙◌, subst}
use mathlib.Core.Bool.{true}
use mathlib.Core.List.{List, ◌++◌, append-nil}
use lib.ListN.{length, take, drop, drop_of_length-le}
use Rattle.numbers.specs.Words.{ascends?}
use Rattle.numbers.specs.Numbers.{Crew}
use Rattle.block.specs.Fields.{cut, splice, field}
use Rattle.block.proofs.Arrays.{upto_length}
use Rattle.meaning.specs.State.{stored_before}
use Rattle.laws.proofs.Goodness.{Good, good_facts}
use Rattle.layout.specs.Clocks.{decode_clock}
use Rattle.layout.specs.Image.{image_length, Head, decode_head, encode, decode, good_image}
use Rattle.layout.proofs.CallsGood.{good_image_lem}
use Rattle.image.specs.Parts.{stored_count}
use Rattle.image.specs.Apart.{point_at}
use Rattle.image.proofs.Counted.{points_are}
use Rattle.image.proofs.Whole.{table_is, clock_is, head_is}
use native.Mathlib.Omega.{arith}
use Rattle.block.proofs.Parts.{length_cut, part_is}
use Rattle.image_edits.specs.Edits.{Canonical}
use Rattle.block.proofs.Numbers.{Bytes, bytes_cut}
use Rattle.dots.proofs.Edits.{count_is}
use Rattle.image_edits.proofs.Lifting.{list_part_laid, list_part_says}

-- ---- the parts of a good image

module _ (img : List ℕ) (size : length img ≡ image_length) where
  pub table_part : cut img 8 8 ≡ (decode img).table
  table_part = sym (ap (λ (h : Head). h.table) (head_is img size) ∙ table_is img size)

  pub clock_part : decode_clock (cut img 16 96) ≡ (decode img).clock
  clock_part = sym (ap (λ (h : Head). h.clock) (head_is img size) ∙ clock_is img size)

  pub own_part : (decode_head (cut img 0 512)).own ≡ (decode img).own
  own_part = sym (ap (λ (h : Head). h.own) (head_is img size))

module _ (img : List ℕ) (good : good_image img ≡ true) where
  pub good_now : Good (decode img)
  good_now = good_facts (decode img) (good_image_lem img good).state

  pub own_is_crew : Crew (decode img).own
  own_is_crew = good_now.own_crew

-- the stored points are counted
pub counted : (img : List ℕ) (n : ℕ) → n ≡ stored_count img → n ≡ length (decode img).points
counted img n e = e ∙ sym (ap length (points_are img) ∙ upto_length (stored_count img) (point_at img))

-- what fetch asks for, of a good image
module _ (img : List ℕ) (good : good_image img ≡ true) where
  pub good_ascends : ascends? stored_before (decode img).points ≡ true
  good_ascends = (good_now img good).points_asc

  pub good_canonical : encode (decode img) ≡ img
  good_canonical = (good_image_lem img good).encoded

-- ---- the rows in a buffer of their own

pub rows_copied : (img z x : List ℕ) → x ≡ splice z 0 (length (cut img 16 96)) (cut img 16 96) → length img ≡ image_length → length z ≡ 96 → (length x ≡ 96) × (decode_clock x ≡ (decode img).clock)
rows_copied img z x d size e = (ap length same ∙ long, ap decode_clock same ∙ clock_part img size)
  where
    long : length (cut img 16 96) ≡ 96
    long = length_cut img 16 96 (omega arith)

    same : x ≡ cut img 16 96
    same = d ∙ ap (λ (n : ℕ). splice z 0 n (cut img 16 96)) long ∙ ap (λ (l : List ℕ). cut img 16 96 ++ l) (drop_of_length-le z {i = 96} (omega arith)) ∙ append-nil (cut img 16 96)

-- ---- the own list

module _ (img : List ℕ) (small : Bytes img) (size : length img ≡ image_length) (canonical : Canonical img) where
  abbrev lent : List ℕ
  lent = take (512 * 1 + 512 - 512 * 1) (drop (512 * 1) img)

  long : length lent ≡ 512
  long = ap length (part_is img 512 512) ∙ length_cut img 512 512 (omega (arith, size))

  lent_small : Bytes lent
  lent_small = subst Bytes (sym (part_is img 512 512)) (bytes_cut img 512 512 small)

  pub own_count : field (cut img 512 512) 4 2 ≡ length (decode img).own_dots
  own_count =
      ap (λ (b : List ℕ). field b 4 2) (sym (part_is img 512 512))
      ∙ count_is lent lent_small long (list_part_laid img small size canonical 1 (omega arith) (omega arith)) ∙ ap length (list_part_says img small size canonical 1 (omega arith) (omega arith))
