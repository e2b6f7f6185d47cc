-- The whole image, test after test: what the first that fails says, and what all together say. Assumes nothing.
use Prim.Native.Nat.{ℕ, ◌+◌, ◌*◌, ◌-◌, ◌≤◌, ◌<◌}
use mathlib.Core.Path.{◌≡◌, refl, ap, ap₂, sym, ◌∙◌, subst}
use mathlib.Core.Bool.{Bool, true, false, ◌&&◌, ◌||◌, not}
use mathlib.Core.List.{List, [], ◌∷◌, ◌++◌}
use native.Mathlib.Omega.{arith}
use lib.ListN.{length, take, drop, get_or, length-drop}
use lib.Dec.{eqb, leb}
use lib.Seq.{take_all}
use borrow.Author.Tests.{leb-true, leb-false, eqb-true, eqb-false, ne_eqb}
use Rattle.numbers.specs.Words.{every, all?, same_list, ascends?}
use Rattle.numbers.proofs.Lists.{Passed, clause, failed, last_test}
use Rattle.numbers.specs.declared.Controller.{Controller}
use Rattle.numbers.specs.Numbers.{Crew, is_controller}
use Rattle.numbers.specs.Dot.{same_dot}
use Rattle.numbers.specs.Key.{same_key}
use Rattle.numbers.proofs.Tests.{by_test, never}
use Rattle.numbers.proofs.Controllers.{crew_is}
use Rattle.block.specs.Fields.{cut, field, upto}
use Rattle.block.specs.Block.{block_at}
use Rattle.block.proofs.Numbers.{Bytes}
use Rattle.block.proofs.Parts.{cut_cut}
use Rattle.block.proofs.Content.{block_length}
use Rattle.block.proofs.Runs.{block_bytes}
use Rattle.block.proofs.Passing.{all_upto, every_at}
use Rattle.meaning.specs.State.{State, Stored, Listed, stored_before, listed_before, dots_of}
use Rattle.meaning.specs.Message.{dots_agree}
use Rattle.meaning.specs.Good.{dots_apart, listed_formed, rows_sound, own_row_whole, rows_of_peers, marks_of_peers, own_marks_known, good_state}
use Rattle.meaning.specs.CrewTable.{CrewTable, holds}
use Rattle.meaning.specs.Clock.{Clock, in_clock}
use Rattle.layout.specs.Image.{image_length, encode_head, decode_head, encode_dots, decode_dots, decode, encode, head_of, Head, good_image}
use Rattle.layout.specs.Clocks.{decode_clock}
use Rattle.head.specs.HeadGood.{bare, own_column_known, head_good}
use Rattle.head.proofs.Laid.{parts_of_head}
use Rattle.dots.specs.DotsGood.{in_its_list, dots_good}
use Rattle.dots.proofs.Laid as lists
use Rattle.record.specs.RecordGood.{record_good}
use Rattle.record.proofs.LaidOut.{point_many, stored_sent, stored_unsent}
use Rattle.image.specs.Parts.{parts_good, Few, stored_count, stored_laid_out, parts_laid_out}
use Rattle.image.specs.Apart.{point_at, apart_from_earlier, listed_for, all_apart}
use Rattle.image.proofs.Counted.{points_are, good_image_by_parts}
use Rattle.image.proofs.GoodParts.{all_append}
use Rattle.image.proofs.InOrder.{pairs_agree, lists_agree}

-- ---- the layout

module _ (img : List ℕ) where
  abbrev pub zeros_follow : Bool
  zeros_follow = all? (λ x. eqb x 0) (drop (512 * (3 + stored_count img)) img)

  abbrev pub layout_tests : List Bool
  layout_tests =
      same_list (encode_head (decode_head (block_at img 0))) (block_at img 0)
      ∷ same_list (encode_dots 1 (decode_dots (block_at img 1))) (block_at img 1)
      ∷ same_list (encode_dots 2 (decode_dots (block_at img 2))) (block_at img 2)
      ∷ every (upto (stored_count img) (λ i. stored_laid_out img (3 + i)))
      ∷ zeros_follow
      ∷ []

  pub not_laid_out : (i : ℕ) → get_or layout_tests i true ≡ false → false ≡ parts_laid_out img
  unfolding parts_laid_out
  not_laid_out i t = failed layout_tests i t

  pub laid_out : Passed (take 4 layout_tests) → zeros_follow ≡ parts_laid_out img
  unfolding parts_laid_out
  laid_out p = last_test (take 4 layout_tests) zeros_follow p

  -- the blocks before the points, as they are lent
  pub head_part : (r : Bool) → r ≡ same_list (encode_head (decode_head (cut img 0 512))) (cut img 0 512) → r ≡ same_list (encode_head (decode_head (block_at img 0))) (block_at img 0)
  unfolding block_at
  head_part r e = e

  pub own_part : (r : Bool) → r ≡ same_list (encode_dots 1 (decode_dots (cut img 512 512))) (cut img 512 512) → r ≡ same_list (encode_dots 1 (decode_dots (block_at img 1))) (block_at img 1)
  unfolding block_at
  own_part r e = e

  pub foreign_part : (r : Bool) → r ≡ same_list (encode_dots 2 (decode_dots (cut img 1024 512))) (cut img 1024 512) → r ≡ same_list (encode_dots 2 (decode_dots (block_at img 2))) (block_at img 2)
  unfolding block_at
  foreign_part r e = e

  -- what follows n points
  pub points_part : (n : ℕ) (r : Bool) → n ≡ stored_count img → r ≡ every (upto n (λ i. stored_laid_out img (3 + i))) → r ≡ every (upto (stored_count img) (λ i. stored_laid_out img (3 + i)))
  points_part n r c e = e ∙ ap (λ (m : ℕ). every (upto m (λ i. stored_laid_out img (3 + i)))) c

  pub rest_part : (n : ℕ) (r : Bool) → length img ≡ image_length → n ≡ stored_count img → r ≡ all? (λ x. eqb x 0) (cut img (512 * (3 + n)) (34304 - 512 * (3 + n))) → r ≡ zeros_follow
  rest_part n r l c e =
      e ∙ ap (all? (λ x. eqb x 0)) (take_all (34304 - 512 * (3 + n)) (drop (512 * (3 + n)) img) (omega (arith, length-drop (512 * (3 + n)) img)))
      ∙ ap (λ (m : ℕ). all? (λ x. eqb x 0) (drop (512 * (3 + m)) img)) c

-- ---- what a laid out image has

module _ (img : List ℕ) (h : Bytes img) (e : length img ≡ image_length) (t : parts_laid_out img ≡ true) where
  passes : (i : ℕ) → get_or (layout_tests img) i true ≡ true
  unfolding parts_laid_out
  passes = clause (layout_tests img) t

  list_few : (k : ℕ) → k < 3 → same_list (encode_dots k (decode_dots (block_at img k))) (block_at img k) ≡ true → field (block_at img k) 4 2 ≤ 60
  list_few k l u =
      by_test (leb (field (block_at img k) 4 2) 60) (λ v. leb-true (field (block_at img k) 4 2) 60 v)
      (λ v. never u (sym (lists.not_laid_out (block_at img k) (block_bytes img h k) (block_length img k (omega arith)) k (omega arith) 3 v)))

  pub own_few : field (cut img 512 512) 4 2 ≤ 60
  unfolding block_at
  own_few = list_few 1 (omega arith) (passes 1)

  pub foreign_few : field (cut img 1024 512) 4 2 ≤ 60
  unfolding block_at
  foreign_few = list_few 2 (omega arith) (passes 2)

  point_few : (k : ℕ) → k < 67 → stored_laid_out img k ≡ true → field (block_at img k) 5 1 ≤ 8
  unfolding stored_laid_out
  point_few k l u =
      by_test (leb (field (block_at img k) 5 1) 8) (λ v. leb-true (field (block_at img k) 5 1) 8 v)
      (λ v. by_test (eqb (field (block_at img k) 296 1) 0)
      (λ w. never u (sym (stored_unsent (block_at img k) k (eqb-true (field (block_at img k) 296 1) 0 w))
      ∙ point_many (block_at img k) (block_bytes img h k) (block_length img k (omega arith)) 3 k (omega arith) (omega arith) (leb-false (field (block_at img k) 5 1) 8 v)))
      (λ w. never u (stored_sent (block_at img k) k (block_bytes img h k) (block_length img k (omega arith)) (omega arith) (eqb-false (field (block_at img k) 296 1) 0 w))))

  pub points_few : (n : ℕ) → n ≤ 64 → n ≡ stored_count img → Few img n
  points_few n m c i l = point_few (3 + i) (omega arith) (every_at n (λ j. stored_laid_out img (3 + j)) (ap (λ (x : ℕ). every (upto x (λ j. stored_laid_out img (3 + j)))) c ∙ passes 3) i l)

-- ---- a good state

module _ (img : List ℕ) (e : length img ≡ image_length) where
  abbrev pub own : Controller
  own = (decode_head (cut img 0 512)).own

  abbrev pub state_tests : List Bool
  state_tests =
      head_good (decode_head (cut img 0 512))
      ∷ dots_good true own (cut img 8 8) (decode_clock (cut img 16 96)) (decode_dots (cut img 512 512))
      ∷ dots_good false own (cut img 8 8) (decode_clock (cut img 16 96)) (decode_dots (cut img 1024 512))
      ∷ every (upto (stored_count img) (λ i. record_good own (cut img 8 8) (decode_clock (cut img 16 96)) (point_at img i)))
      ∷ ascends? stored_before (upto (stored_count img) (point_at img))
      ∷ dots_apart (decode img)
      ∷ []

  pub table_is : (decode_head (cut img 0 512)).table ≡ cut img 8 8
  table_is = ap (λ (x : Head). x.table) (parts_of_head (cut img 0 512) (unfold block_at in block_length img 0 (omega arith))) ∙ cut_cut img 0 512 8 8 (omega arith)

  pub clock_is : (decode_head (cut img 0 512)).clock ≡ decode_clock (cut img 16 96)
  unfolding decode_head
  clock_is = ap decode_clock (cut_cut img 0 512 16 96 (omega arith))

  -- the state's parts, as the bytes say them
  pub head_is : head_of (decode img) ≡ decode_head (cut img 0 512)
  unfolding decode block_at
  head_is = refl

  own_dots_are : (decode img).own_dots ≡ decode_dots (cut img 512 512)
  unfolding decode block_at
  own_dots_are = refl

  foreign_dots_are : (decode img).foreign_dots ≡ decode_dots (cut img 1024 512)
  unfolding decode block_at
  foreign_dots_are = refl

  abbrev state_test : Head → CrewTable → Clock → List Listed → List Listed → List Stored → Bool → Bool
  state_test x t k mine others ps apart =
      every (head_good x ∷ dots_good true x.own t k mine ∷ dots_good false x.own t k others ∷ all? (record_good x.own t k) ps ∷ ascends? stored_before ps ∷ apart ∷ [])

  abbrev H : Head
  H = decode_head (cut img 0 512)

  abbrev K : Clock
  K = decode_clock (cut img 16 96)

  of_state : (s : State) → parts_good s ≡ state_test (head_of s) s.table s.clock s.own_dots s.foreign_dots s.points (dots_apart s)
  unfolding parts_good
  of_state s = refl

  tests_are : parts_good (decode img) ≡ every state_tests
  tests_are =
      of_state (decode img)
      ∙ ap (λ (x : Head). state_test x x.table x.clock (decode img).own_dots (decode img).foreign_dots (decode img).points (dots_apart (decode img))) head_is
      ∙ ap (λ (t : CrewTable). state_test H t H.clock (decode img).own_dots (decode img).foreign_dots (decode img).points (dots_apart (decode img))) table_is
      ∙ ap (λ (k : Clock). state_test H (cut img 8 8) k (decode img).own_dots (decode img).foreign_dots (decode img).points (dots_apart (decode img))) clock_is
      ∙ ap (λ (ls : List Listed). state_test H (cut img 8 8) K ls (decode img).foreign_dots (decode img).points (dots_apart (decode img))) own_dots_are
      ∙ ap (λ (ls : List Listed). state_test H (cut img 8 8) K (decode_dots (cut img 512 512)) ls (decode img).points (dots_apart (decode img))) foreign_dots_are
      ∙ ap (λ (ps : List Stored). state_test H (cut img 8 8) K (decode_dots (cut img 512 512)) (decode_dots (cut img 1024 512)) ps (dots_apart (decode img))) (points_are img)
      ∙ ap (λ (b : Bool). every (head_good H ∷ dots_good true own (cut img 8 8) K (decode_dots (cut img 512 512)) ∷ dots_good false own (cut img 8 8) K (decode_dots (cut img 1024 512)) ∷ b ∷ ascends? stored_before (upto (stored_count img) (point_at img)) ∷ dots_apart (decode img) ∷ []))
      (all_upto (record_good own (cut img 8 8) K) (stored_count img) (point_at img))

  pub not_good : (i : ℕ) → get_or state_tests i true ≡ false → false ≡ parts_good (decode img)
  not_good i t = failed state_tests i t ∙ sym tests_are

  pub good_last : Passed (take 5 state_tests) → dots_apart (decode img) ≡ parts_good (decode img)
  good_last p = last_test (take 5 state_tests) (dots_apart (decode img)) p ∙ sym tests_are

  -- the last test, as the code makes it
  module _ (up : ascends? stored_before (upto (stored_count img) (point_at img)) ≡ true) where
    abbrev points : List Stored
    points = upto (stored_count img) (point_at img)

    split : (ls ms : List Listed) → dots_agree (ls ++ ms) (dots_of points) ≡ (dots_agree ls (dots_of points) && dots_agree ms (dots_of points))
    unfolding dots_agree
    split ls ms = all_append (λ l. all? (λ m. not (same_dot l.dot m.dot) || same_key l.key m.key) (dots_of points)) ls ms

    list_apart : (ls : List Listed) → dots_agree ls (dots_of points) ≡ every (upto (stored_count img) (λ i. listed_for ls (point_at img i)))
    list_apart ls = lists_agree ls points ∙ all_upto (listed_for ls) (stored_count img) (point_at img)

    lists_apart : (ls ms : List Listed) → dots_agree (ls ++ ms) (dots_of points)
        ≡ (every (upto (stored_count img) (λ i. listed_for ls (point_at img i))) && every (upto (stored_count img) (λ i. listed_for ms (point_at img i))))
    lists_apart ls ms = split ls ms ∙ ap₂ ◌&&◌ (list_apart ls) (list_apart ms)

    records_apart : dots_agree (dots_of points) (dots_of points) ≡ every (upto (stored_count img) (apart_from_earlier img))
    unfolding apart_from_earlier
    records_apart = pairs_agree (stored_count img) (point_at img) up

    three : (a b d : Bool) → (a && (b && d)) ≡ every (a ∷ b ∷ d ∷ [])
    three true true true = refl
    three true true false = refl
    three true false d = refl
    three false b d = refl

    of_parts : (ps : List Stored) (ls ms : List Listed) → ps ≡ points → (dots_agree (dots_of ps) (dots_of ps) && dots_agree (ls ++ ms) (dots_of ps))
        ≡ every (every (upto (stored_count img) (apart_from_earlier img)) ∷ every (upto (stored_count img) (λ i. listed_for ls (point_at img i))) ∷ every (upto (stored_count img) (λ i. listed_for ms (point_at img i))) ∷ [])
    of_parts ps ls ms p =
        ap (λ (qs : List Stored). dots_agree (dots_of qs) (dots_of qs) && dots_agree (ls ++ ms) (dots_of qs)) p
        ∙ ap₂ ◌&&◌ records_apart (lists_apart ls ms)
        ∙ three (every (upto (stored_count img) (apart_from_earlier img))) (every (upto (stored_count img) (λ i. listed_for ls (point_at img i)))) (every (upto (stored_count img) (λ i. listed_for ms (point_at img i))))

    dots_are : dots_apart (decode img) ≡ all_apart img (stored_count img)
    unfolding dots_apart all_apart
    dots_are =
        of_parts (decode img).points (decode img).own_dots (decode img).foreign_dots (points_are img)
        ∙ ap₂ (λ (ls ms : List Listed). every (every (upto (stored_count img) (apart_from_earlier img)) ∷ every (upto (stored_count img) (λ i. listed_for ls (point_at img i))) ∷ every (upto (stored_count img) (λ i. listed_for ms (point_at img i))) ∷ []))
        own_dots_are foreign_dots_are

    pub apart_is : (n : ℕ) (r : Bool) → n ≡ stored_count img → r ≡ all_apart img n → r ≡ dots_apart (decode img)
    apart_is n r c t = t ∙ ap (all_apart img) c ∙ sym dots_are

module _ (img : List ℕ) (n : ℕ) where
  abbrev pub last_list_agrees : Bool
  last_list_agrees = every (upto n (λ i. listed_for (decode_dots (cut img 1024 512)) (point_at img i)))

  abbrev pub apart_tests : List Bool
  apart_tests = every (upto n (apart_from_earlier img)) ∷ every (upto n (λ i. listed_for (decode_dots (cut img 512 512)) (point_at img i))) ∷ last_list_agrees ∷ []

  pub not_apart : (i : ℕ) → get_or apart_tests i true ≡ false → false ≡ all_apart img n
  unfolding all_apart
  not_apart i t = failed apart_tests i t

  pub apart_last : Passed (take 2 apart_tests) → last_list_agrees ≡ all_apart img n
  unfolding all_apart
  apart_last p = last_test (take 2 apart_tests) last_list_agrees p

-- ---- what the tests that passed give to those that follow

pub own_crew : (x : Head) (o : Controller) → o ≡ x.own → head_good x ≡ true → Crew o
unfolding head_good
own_crew x o p t =
    subst Crew (sym p) (crew_is x.own
    (clause (is_controller x.own ∷ rows_sound (bare x) ∷ own_row_whole (bare x) ∷ rows_of_peers (bare x) ∷ marks_of_peers (bare x) ∷ own_marks_known (bare x) ∷ own_column_known (bare x) ∷ []) t 0))

list_ascends : (mine : Bool) (o : Controller) (t : CrewTable) (k : Clock) (ls : List Listed) → dots_good mine o t k ls ≡ true → ascends? listed_before ls ≡ true
unfolding dots_good
list_ascends mine o t k ls u = clause (all? (listed_formed t) ls ∷ ascends? listed_before ls ∷ all? (in_its_list mine o) ls ∷ all? (λ l. holds t o l.key.job) ls ∷ all? (λ l. in_clock k l.dot) ls ∷ []) u 1

module _ (img : List ℕ) (e : length img ≡ image_length) where
  pub own_list_ascends : get_or (state_tests img e) 1 true ≡ true → ascends? listed_before (decode_dots (cut img 512 512)) ≡ true
  own_list_ascends = list_ascends true (own img e) (cut img 8 8) (decode_clock (cut img 16 96)) (decode_dots (cut img 512 512))

  pub foreign_list_ascends : get_or (state_tests img e) 2 true ≡ true → ascends? listed_before (decode_dots (cut img 1024 512)) ≡ true
  foreign_list_ascends = list_ascends false (own img e) (cut img 8 8) (decode_clock (cut img 16 96)) (decode_dots (cut img 1024 512))

-- ---- what was asked with the own number and the count that were read

module _ (img : List ℕ) where
  pub list_good : (mine : Bool) (at : ℕ) (o : Controller) → o ≡ (decode_head (cut img 0 512)).own → (r : Bool) → r ≡ dots_good mine o (cut img 8 8) (decode_clock (cut img 16 96)) (decode_dots (cut img at 512))
      → r ≡ dots_good mine (decode_head (cut img 0 512)).own (cut img 8 8) (decode_clock (cut img 16 96)) (decode_dots (cut img at 512))
  list_good mine at o p r t = t ∙ ap (λ (x : Controller). dots_good mine x (cut img 8 8) (decode_clock (cut img 16 96)) (decode_dots (cut img at 512))) p

  pub records_are : (o : Controller) → o ≡ (decode_head (cut img 0 512)).own → (n : ℕ) → n ≡ stored_count img → (r : Bool) → r ≡ every (upto n (λ i. record_good o (cut img 8 8) (decode_clock (cut img 16 96)) (point_at img i)))
      → r ≡ every (upto (stored_count img) (λ i. record_good (decode_head (cut img 0 512)).own (cut img 8 8) (decode_clock (cut img 16 96)) (point_at img i)))
  records_are o p n c r t = t ∙ ap₂ (λ (x : Controller) (m : ℕ). every (upto m (λ i. record_good x (cut img 8 8) (decode_clock (cut img 16 96)) (point_at img i)))) p c

  pub ascend_are : (n : ℕ) → n ≡ stored_count img → (r : Bool) → r ≡ ascends? stored_before (upto n (point_at img)) → r ≡ ascends? stored_before (upto (stored_count img) (point_at img))
  ascend_are n c r t = t ∙ ap (λ (m : ℕ). ascends? stored_before (upto m (point_at img))) c

-- ---- the whole answer

pub other_length : (img : List ℕ) → (length img ≡ 34304 → ⊥) → false ≡ good_image img
unfolding good_image
other_length img q = sym (ap (λ (t : Bool). (t && same_list (encode (decode img)) img) && good_state (decode img)) (ne_eqb (length img) image_length q))

module _ (img : List ℕ) (h : Bytes img) (e : length img ≡ image_length) where
  pub not_laid : parts_laid_out img ≡ false → false ≡ good_image img
  not_laid t = sym (good_image_by_parts img h e ∙ ap (λ (b : Bool). b && parts_good (decode img)) t)

  pub whole_good : parts_laid_out img ≡ true → parts_good (decode img) ≡ good_image img
  whole_good t = sym (good_image_by_parts img h e ∙ ap (λ (b : Bool). b && parts_good (decode img)) t)
