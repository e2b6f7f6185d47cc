-- The watermark raised, mark by mark. Assumes nothing.
use Rattle.std.specs.Prelude.{if◌then◌else◌}
use Prim.Native.Nat.{ℕ, ◌-◌, ◌≤◌, ◌<◌, max}
use mathlib.Core.Path.{◌≡◌, refl, ap, sym, ◌∙◌, subst}
use mathlib.Core.Bool.{true, false, ◌&&◌}
use mathlib.Core.List.{List, []}
use native.Mathlib.Nat.{max-eq_left, max-eq_right}
use native.Mathlib.Omega.{arith}
use lib.ListN.{length, get_or}
use Rattle.numbers.specs.declared.Controller.{Controller}
use Rattle.numbers.specs.Numbers.{same_controller, each, Crew}
use Rattle.numbers.proofs.Tests.{by_test, and_left, and_right}
use Rattle.numbers.proofs.Controllers.{same_controllers, at_each, each_same, each_entry}
use Rattle.block.specs.Fields.{cut, put_at}
use Rattle.block.proofs.Numbers.{Bytes}
use Rattle.block.proofs.Parts.{cut_cut}
use Rattle.block.proofs.Arrays.{get_or_in}
use Rattle.meaning.specs.State.{Watermark, mark}
use Rattle.layout.specs.Image.{image_length, Head, decode_marks, decode_head, decode}
use Rattle.layout.proofs.ImageBack.{MarksSized}
use Rattle.image.proofs.Whole.{head_is}
use Rattle.image_edits.proofs.Blocks.{image_decoded}
use Rattle.store.proofs.OneEntry.{put_eight, put_here, put_elsewhere}
use Rattle.tidying.specs.Tidied.{raised_to}

-- ---- a watermark by its marks

-- eight lines of eight
pub record Square (w : Watermark) : Type 0 where
  pub eight : length w ≡ 8
  pub lines : (m : Controller) → Crew m → length (get_or w (m.0 - 1) []) ≡ 8

pub decoded_square : (img : List ℕ) → Bytes img → length img ≡ image_length → Square (decode img).watermark
decoded_square img small size =
    let S : MarksSized (decode img).watermark = (image_decoded img small size).head.marks in
    record {
      eight = S.eight;
      lines = λ m c. S.rows (get_or (decode img).watermark (m.0 - 1) []) (get_or_in (decode img).watermark (m.0 - 1) [] (omega (arith, c.0, c.1, S.eight)));
    }

pub each_square : (f : Controller → Controller → ℕ) → Square (each (λ m. each (f m)))
each_square f = record { eight = refl; lines = λ m c. ap length (at_each (λ a. each (f a)) [] m c) }

pub same_marks : (w : Watermark) → Square w → (f : Controller → Controller → ℕ) → ((m n : Controller) → Crew m → Crew n → mark w m n ≡ f m n) → w ≡ each (λ m. each (f m))
same_marks w Q f h =
    sym (each_entry [] w Q.eight)
    ∙ each_same (λ m. get_or w (m.0 - 1) []) (λ m. each (f m))
    (λ m c. sym (each_entry 0 (get_or w (m.0 - 1) []) (Q.lines m c)) ∙ each_same (mark w m) (f m) (λ n d. h m n c d))

-- as it is lent
head_marks : (b : List ℕ) → (decode_head b).watermark ≡ decode_marks (cut b 112 256)
unfolding decode_head
head_marks b = refl

pub marks_lent : (img : List ℕ) → length img ≡ image_length → decode_marks (cut img 112 256) ≡ (decode img).watermark
marks_lent img size =
    sym (ap (λ (h : Head). h.watermark) (head_is img size) ∙ head_marks (cut img 0 512) ∙ ap decode_marks (cut_cut img 0 512 112 256 (omega arith)))

-- ---- one mark

module _ (w : Watermark) (Q : Square w) (m n : Controller) (of : Crew m) (crew : Crew n) (base : ℕ) where
  abbrev line : List ℕ
  line = put_at (get_or w (m.0 - 1) []) (n.0 - 1) base

  abbrev put : Watermark
  put = put_at w (m.0 - 1) line

  line_here : get_or put (m.0 - 1) [] ≡ line
  line_here = put_here w Q.eight m of line []

  line_other : (a : Controller) → Crew a → same_controller a m ≡ false → get_or put (a.0 - 1) [] ≡ get_or w (a.0 - 1) []
  line_other a x t = put_elsewhere w Q.eight m of line [] a x t

  put_square : Square put
  put_square = record {
    eight = put_eight w Q.eight m of line [];
    lines = λ a x. by_test (same_controller a m)
        (λ t. subst (λ (z : Controller). length (get_or put (z.0 - 1) []) ≡ 8) (sym (same_controllers a m t)) (ap length line_here ∙ put_eight (get_or w (m.0 - 1) []) (Q.lines m of) n crew base 0))
        (λ t. ap length (line_other a x t) ∙ Q.lines a x);
  }

  put_mark_is : (a b : Controller) → Crew a → Crew b → mark put a b ≡ (if same_controller a m && same_controller b n then base else mark w a b)
  put_mark_is a b x y =
      by_test (same_controller a m)
      (λ t. by_test (same_controller b n)
      (λ u. subst (λ (z : Controller). mark put z b ≡ base) (sym (same_controllers a m t))
      (subst (λ (z : Controller). mark put m z ≡ base) (sym (same_controllers b n u)) (ap (λ (l : List ℕ). get_or l (n.0 - 1) 0) line_here ∙ put_here (get_or w (m.0 - 1) []) (Q.lines m of) n crew base 0))
      ∙ sym (rw (t, u)))
      (λ u. subst (λ (z : Controller). mark put z b ≡ mark w z b) (sym (same_controllers a m t))
      (ap (λ (l : List ℕ). get_or l (b.0 - 1) 0) line_here ∙ put_elsewhere (get_or w (m.0 - 1) []) (Q.lines m of) n crew base 0 b y u)
      ∙ sym (rw (t, u))))
      (λ t. ap (λ (l : List ℕ). get_or l (b.0 - 1) 0) (line_other a x t) ∙ sym (rw t))

  -- it is as high already
  pub raised_stays : base ≤ mark w m n → w ≡ raised_to w m n base
  unfolding raised_to
  raised_stays h = same_marks w Q (λ a b. if same_controller a m && same_controller b n then max (mark w a b) base else mark w a b)
      (λ a b x y. by_test (same_controller a m && same_controller b n) (λ t. sym ((rw t) ∙ max-eq_left (high a b t))) (λ t. sym (rw t)))
    where
      high : (a b : Controller) → (same_controller a m && same_controller b n) ≡ true → base ≤ mark w a b
      high a b t =
          subst (λ (z : Controller). base ≤ mark w z b) (sym (same_controllers a m (and_left (same_controller a m) (same_controller b n) t)))
          (subst (λ (z : Controller). base ≤ mark w m z) (sym (same_controllers b n (and_right (same_controller a m) (same_controller b n) t))) h)

  -- it is lower
  pub raised_goes : mark w m n < base → put_at w (m.0 - 1) (put_at (get_or w (m.0 - 1) []) (n.0 - 1) base) ≡ raised_to w m n base
  unfolding raised_to
  raised_goes h = same_marks put put_square (λ a b. if same_controller a m && same_controller b n then max (mark w a b) base else mark w a b)
      (λ a b x y. put_mark_is a b x y ∙ by_test (same_controller a m && same_controller b n) (λ t. rw t (sym (max-eq_right (low a b t)))) (λ t. rw t))
    where
      low : (a b : Controller) → (same_controller a m && same_controller b n) ≡ true → mark w a b ≤ base
      low a b t =
          subst (λ (z : Controller). mark w z b ≤ base) (sym (same_controllers a m (and_left (same_controller a m) (same_controller b n) t)))
          (subst (λ (z : Controller). mark w m z ≤ base) (sym (same_controllers b n (and_right (same_controller a m) (same_controller b n) t))) (omega (arith, h)))
