-- A reply's bytes: the head's block, and the points in the blocks that follow it. Assumes nothing.
use Prim.Native.Nat.{ℕ, ◌+◌, ◌*◌, ◌-◌, ◌/◌, ◌%◌, ◌≤◌}
use mathlib.Core.Path.{◌≡◌, ap, ◌∙◌}
use mathlib.Core.Bool.{true, ◌&&◌}
use mathlib.Core.List.{List}
use native.Mathlib.Omega.{arith}
use lib.ListN.{length, take, drop, length-drop}
use lib.Dec.{leb, eqb}
use borrow.Author.Tests.{leb-true, eqb-true}
use Rattle.numbers.proofs.Tests.{and_left, and_right}
use Rattle.block.specs.Fields.{upto}
use Rattle.block.proofs.Arrays.{upto_same}
use Rattle.block.proofs.Runs.{block_of_drop, lent_rest}
use Rattle.layout.specs.PointBlock.{form_1, decode_stored}
use Rattle.layout.specs.Messages.{decode_reply}
use Rattle.layout.specs.Calls.{reply_room, whole_reply}
use Rattle.arriving.specs.Sent.{points_in}
use Rattle.apart.specs.Apart.{point_of}

-- all but the first block, as they are lent
pub rest_lent : (run : List ℕ) → take (length run - 512) (drop 512 run) ≡ drop 512 run
rest_lent run = lent_rest run 512

-- as many points as there are blocks behind the head
pub count_is : (run : List ℕ) → length (drop 512 run) / 512 ≡ length run / 512 - 1
count_is run = omega (arith, length-drop 512 run)

pub points_are : (reply : List ℕ) → points_in (drop 512 reply) ≡ (decode_reply reply).points
unfolding decode_reply
points_are reply =
    ap (λ (n : ℕ). upto n (point_of (drop 512 reply))) (count_is reply)
    ∙ upto_same (length reply / 512 - 1) (point_of (drop 512 reply)) (λ i. point_of reply (1 + i)) (λ i l. ap (decode_stored form_1) (block_of_drop reply 1 i))

module _ (reply : List ℕ) (whole : whole_reply reply ≡ true) where
  pub whole_blocks : length reply % 512 ≡ 0
  unfolding whole_reply
  whole_blocks =
      eqb-true (length reply % 512) 0
      (and_left (eqb (length reply % 512) 0) (leb 512 (length reply)) (and_left (eqb (length reply % 512) 0 && leb 512 (length reply)) (leb (length reply) reply_room) whole))

  pub at_least : 512 ≤ length reply
  unfolding whole_reply
  at_least =
      leb-true 512 (length reply)
      (and_right (eqb (length reply % 512) 0) (leb 512 (length reply)) (and_left (eqb (length reply % 512) 0 && leb 512 (length reply)) (leb (length reply) reply_room) whole))

  pub at_most : length reply ≤ reply_room
  unfolding whole_reply
  at_most = leb-true (length reply) reply_room (and_right (eqb (length reply % 512) 0 && leb 512 (length reply)) (leb (length reply) reply_room) whole)

  -- nothing stands behind the last block
  pub rest_size : length (drop 512 reply) ≡ 512 * (length (drop 512 reply) / 512)
  rest_size = omega (arith, length-drop 512 reply, whole_blocks, at_least)
