-- A reply and the parts of an image as they are lent, and what is asked of each point. Assumes nothing.
use Prim.Native.Nat.{ℕ}
use mathlib.Core.Path.{◌≡◌, refl, ap, ap₂, sym, ◌∙◌}
use mathlib.Core.Bool.{Bool, true, false, ◌&&◌, not}
use mathlib.Core.List.{List}
use lib.ListN.{length, drop}
use borrow.Author.Tests.{not-true, not-false}
use Rattle.numbers.specs.declared.Controller.{Controller}
use Rattle.block.specs.Fields.{cut, field}
use Rattle.block.specs.Block.{block_at}
use Rattle.row.specs.declared.Row.{Row}
use Rattle.meaning.specs.CrewTable.{holds}
use Rattle.meaning.specs.Clock.{Clock, row}
use Rattle.meaning.specs.Object.{Object}
use Rattle.meaning.specs.Exchange.{both_hold, ahead_of_us}
use Rattle.layout.specs.PointBlock.{form_1, decode_point}
use Rattle.layout.specs.Clocks.{decode_clock}
use Rattle.layout.specs.Image.{image_length, decode_head, decode}
use Rattle.layout.specs.Messages.{decode_ask, decode_reply}
use Rattle.store.proofs.Lent.{table_part, clock_part}
use Rattle.checking.specs.Points.{above}
use Rattle.checking.proofs.Ahead.{above_is}
use Rattle.replying.proofs.Judging.{own_lent}
use Rattle.reply_form.proofs.Points.{points_are}
use Rattle.hearing.specs.Heard.{reply_in}

-- ---- a reply as it is lent: its head, and the rest

module _ (m : List ℕ) where
  head_first : decode_ask (block_at m 0) ≡ decode_ask (cut m 0 512)
  unfolding block_at
  head_first = refl

  pub reply_lent : decode_reply m ≡ reply_in (cut m 0 512) (drop 512 m)
  reply_lent = heads ∙ λ i. record { sender = (head_first i).sender; addressee = (head_first i).addressee; clock = (head_first i).clock; points = sym (points_are m) i }
    where
      heads : decode_reply m ≡ record { sender = (decode_ask (block_at m 0)).sender; addressee = (decode_ask (block_at m 0)).addressee; clock = (decode_ask (block_at m 0)).clock; points = (decode_reply m).points }
      heads = unfold decode_reply in refl

-- ---- what the parts that were lent say

module _ (img : List ℕ) (size : length img ≡ image_length) (own : Controller) (read : own ≡ (decode_head (cut img 0 512)).own) where
  -- 5; job is as it was read from the block b, and r whether we hold it
  module _ (n : Controller) (b : List ℕ) (job : ℕ) (at : job ≡ field b 4 1) (r : Bool) (e : r ≡ holds (cut img 8 8) own job) where
    job_is : job ≡ (decode_point form_1 b).key.job
    unfolding decode_point
    job_is = at

    held_here : holds (decode img).table (decode img).own (decode_point form_1 b).key.job ≡ r
    held_here = sym (e ∙ λ i. holds (table_part img size i) (own_lent img size own read i) (job_is i))

    pub not_held_here : not r ≡ true → false ≡ both_hold (decode img) n (decode_point form_1 b).key
    unfolding both_hold
    not_held_here y = sym (ap (λ (t : Bool). t && holds (decode img).table n (decode_point form_1 b).key.job) (held_here ∙ not-true r y))

    pub held_there : not r ≡ false → (t : Bool) → t ≡ holds (cut img 8 8) n job → t ≡ both_hold (decode img) n (decode_point form_1 b).key
    unfolding both_hold
    held_there y t q =
        q ∙ (λ i. holds (table_part img size i) n (job_is i))
        ∙ sym (ap (λ (u : Bool). u && holds (decode img).table n (decode_point form_1 b).key.job) (held_here ∙ not-false r y))

  -- 9
  pub above_lent : (ours : Row) → ours ≡ row (decode_clock (cut img 16 96)) own → (o : Object) → above own ours.base o ≡ ahead_of_us (decode img) o
  above_lent ours p o =
      ap₂ (λ (n : Controller) (w : Row). above n w.base o) (own_lent img size own read) (p ∙ ap₂ (λ (k : Clock) (n : Controller). row k n) (clock_part img size) (own_lent img size own read)) ∙ sym (above_is (decode img) o)
