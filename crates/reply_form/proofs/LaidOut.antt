-- A reply is laid out as it should be just where its head and each of its points are; and what one that is has. Assumes nothing.
use Prim.Native.Nat.{ℕ, zero, suc, ◌+◌, ◌*◌, ◌-◌, ◌/◌, ◌<◌}
use mathlib.Core.Path.{◌≡◌, refl, ap, ap₂, sym, ◌∙◌, subst}
use mathlib.Core.Bool.{Bool, true, ◌&&◌}
use mathlib.Core.List.{List, [], ◌∷◌, ◌++◌}
use native.Mathlib.Omega.{arith}
use lib.ListN.{length, drop, length-drop}
use Rattle.numbers.specs.Words.{every, same_list}
use Rattle.numbers.proofs.Tests.{and_right}
use Rattle.block.specs.Fields.{cut, upto}
use Rattle.block.specs.Block.{block_at, Laid}
use Rattle.block.proofs.Numbers.{Bytes, bytes_drop, bytes_cut, field_bound}
use Rattle.block.proofs.Arrays.{upto_same, upto_length, in_upto}
use Rattle.block.proofs.Content.{block_length}
use Rattle.block.proofs.Runs.{block_bytes, block_zero, block_later}
use Rattle.block.proofs.Same.{of_same, same_of, same_parts}
use Rattle.block.proofs.Passing.{every_at, HangsOn, and_true}
use Rattle.block.proofs.Parts.{length_cut}
use Rattle.meaning.specs.State.{Stored}
use Rattle.layout.specs.PointBlock.{form_1, encode_stored, decode_stored}
use Rattle.layout.specs.Image.{encode_points}
use Rattle.layout.specs.Messages.{encode_greeting, decode_ask, encode_reply, decode_reply, laid_out_reply}
use Rattle.layout.specs.Calls.{whole_reply}
use Rattle.layout.proofs.ImageBack.{stored_length, points_length, StoredSized, AllSized}
use Rattle.layout.proofs.MessagesBack.{greeting_length}
use Rattle.layout.proofs.Decoded.{stored_decoded, clock_decoded}
use Rattle.record_edits.specs.Written.{lay_point, point_block}
use Rattle.record_edits.proofs.Edits.{stored_laid}
use Rattle.merging.proofs.Slots.{few_slots}
use Rattle.arriving.specs.Sent.{points_in, Few}
use Rattle.arriving.proofs.OfPoints.{block_size}
use Rattle.apart.specs.Apart.{point_of}
use Rattle.reply_form.specs.Parts.{point_laid_out, points_laid_out}
use Rattle.reply_form.proofs.Points.{at_least, at_most, count_is, rest_size, points_are}

-- ---- the points, one block after the other

test : List ℕ → ℕ → Bool
test b k = same_list (encode_stored form_1 k (decode_stored form_1 b)) b

points_sized : (n : ℕ) (r : List ℕ) → Bytes r → length r ≡ 512 * n → AllSized (upto n (point_of r))
points_sized n r h e p m =
    let q = in_upto n (point_of r) m in
    subst (λ (x : Stored). StoredSized x) (sym q.2) (stored_decoded (block_at r q.0) (block_bytes r h q.0) (block_length r q.0 (omega (arith, q.1))))

none : (l : List ℕ) → length l ≡ 0 → [] ≡ l
none [] e = refl
none (x ∷ xs) e = absurd (omega arith)

points_same : (n position : ℕ) (r : List ℕ) → Bytes r → length r ≡ 512 * n
    → same_list (encode_points position (upto n (point_of r))) r ≡ every (upto n (λ i. test (block_at r i) (position + i)))
unfolding encode_points test
points_same zero position r h e = same_of [] r (none r (omega arith))
points_same (suc n) position r h e =
    ap (λ (ps : List Stored). same_list (first ++ encode_points (position + 1) ps) r) (sym later)
    ∙ same_parts first (encode_points (position + 1) (upto n (point_of (drop 512 r)))) r 512 first_size (e ∙ omega (arith, rest_length))
    ∙ ap₂ ◌&&◌ (ap (same_list first) (block_zero r) ∙ ap (λ (k : ℕ). same_list (encode_stored form_1 k (point_of r 0)) (block_at r 0)) here)
    (points_same n (position + 1) (drop 512 r) (bytes_drop 512 r h) rest ∙ ap every tests_on)
  where
    first : List ℕ
    first = encode_stored form_1 position (point_of r 0)

    rest : length (drop 512 r) ≡ 512 * n
    rest = length-drop 512 r ∙ omega arith

    first_size : length first ≡ 512
    first_size = stored_length position (point_of r 0) (stored_decoded (block_at r 0) (block_bytes r h 0) (block_length r 0 (omega arith)))

    later : upto n (point_of (drop 512 r)) ≡ upto n (λ i. point_of r (suc i))
    later = upto_same n (point_of (drop 512 r)) (λ i. point_of r (suc i)) (λ i l. ap (decode_stored form_1) (block_later r i))

    rest_length : length (encode_points (position + 1) (upto n (point_of (drop 512 r)))) ≡ 512 * n
    rest_length =
        points_length (position + 1) (upto n (point_of (drop 512 r))) (points_sized n (drop 512 r) (bytes_drop 512 r h) rest)
        ∙ ap (λ (m : ℕ). 512 * m) (upto_length n (point_of (drop 512 r)))

    here : position ≡ position + 0
    here = omega arith

    next : (i : ℕ) → position + 1 + i ≡ position + suc i
    next i = omega arith

    tests_on : upto n (λ i. same_list (encode_stored form_1 (position + 1 + i) (point_of (drop 512 r) i)) (block_at (drop 512 r) i)) ≡ upto n (λ i. same_list (encode_stored form_1 (position + suc i) (point_of r (suc i))) (block_at r (suc i)))
    tests_on =
        upto_same n (λ i. same_list (encode_stored form_1 (position + 1 + i) (point_of (drop 512 r) i)) (block_at (drop 512 r) i)) (λ i. same_list (encode_stored form_1 (position + suc i) (point_of r (suc i))) (block_at r (suc i)))
        (λ i l. ap₂ (λ (k : ℕ) (b : List ℕ). same_list (encode_stored form_1 k (decode_stored form_1 b)) b) (next i) (block_later r i))

-- ---- the reply

module _ (reply : List ℕ) (whole : whole_reply reply ≡ true) (small : Bytes reply) where
  abbrev rest : List ℕ
  rest = drop 512 reply

  -- the head as its own contents and the reply's length have it
  abbrev head_part : List ℕ
  head_part = encode_greeting 6 (decode_ask (block_at reply 0)).sender (decode_ask (block_at reply 0)).addressee (length reply / 512 - 1) (decode_ask (block_at reply 0)).clock

  abbrev pub head_laid_out : Bool
  head_laid_out = same_list head_part (block_at reply 0)

  rest_small : Bytes rest
  rest_small = bytes_drop 512 reply small

  head_block : length (block_at reply 0) ≡ 512
  head_block = block_length reply 0 (omega (arith, at_least reply whole))

  head_size : length head_part ≡ 512
  unfolding decode_ask
  head_size =
      greeting_length 6 (decode_ask (block_at reply 0)).sender (decode_ask (block_at reply 0)).addressee (length reply / 512 - 1) (decode_ask (block_at reply 0)).clock
      (field_bound (block_at reply 0) 4 1 (block_bytes reply small 0) (omega (arith, head_block)), field_bound (block_at reply 0) 5 1 (block_bytes reply small 0) (omega (arith, head_block)))
      (clock_decoded (cut (block_at reply 0) 8 96) (bytes_cut (block_at reply 0) 8 96 (block_bytes reply small 0)) (length_cut (block_at reply 0) 8 96 (omega (arith, head_block))))

  points_size : length (encode_points 1 (points_in rest)) ≡ length rest
  points_size =
      points_length 1 (points_in rest) (points_sized (length rest / 512) rest rest_small (rest_size reply whole))
      ∙ ap (λ (n : ℕ). 512 * n) (upto_length (length rest / 512) (point_of rest))
      ∙ sym (rest_size reply whole)

  counted : length (decode_reply reply).points ≡ length reply / 512 - 1
  unfolding decode_reply
  counted = upto_length (length reply / 512 - 1) (λ i. point_of reply (1 + i))

  encoded : encode_reply (decode_reply reply) ≡ head_part ++ encode_points 1 (points_in rest)
  unfolding encode_reply decode_reply
  encoded =
      ap₂ (λ (n : ℕ) (ps : List Stored). encode_greeting 6 (decode_ask (block_at reply 0)).sender (decode_ask (block_at reply 0)).addressee n (decode_ask (block_at reply 0)).clock ++ encode_points 1 ps)
      counted (sym (points_are reply))

  points_tests : same_list (encode_points 1 (points_in rest)) rest ≡ points_laid_out rest
  unfolding test point_laid_out points_laid_out
  points_tests = points_same (length rest / 512) 1 rest rest_small (rest_size reply whole)

  pub laid_out_by_parts : laid_out_reply reply ≡ (head_laid_out && points_laid_out rest)
  unfolding laid_out_reply
  laid_out_by_parts =
      ap (λ (l : List ℕ). same_list l reply) encoded
      ∙ same_parts head_part (encode_points 1 (points_in rest)) reply 512 head_size (omega (arith, points_size, length-drop 512 reply, at_least reply whole))
      ∙ ap₂ ◌&&◌ (ap (same_list head_part) (block_zero reply)) points_tests

  -- the tests, in the order in which the code makes them
  pub laid_out_tests : HangsOn (laid_out_reply reply) (head_laid_out ∷ points_laid_out rest ∷ [])
  laid_out_tests = record { hangs = laid_out_by_parts ∙ ap (λ (t : Bool). head_laid_out && t) (sym (and_true (points_laid_out rest))) }

  pub head_lent : {r : Bool} → r ≡ same_list (encode_greeting 6 (decode_ask (cut reply 0 512)).sender (decode_ask (cut reply 0 512)).addressee (length reply / 512 - 1) (decode_ask (cut reply 0 512)).clock) (cut reply 0 512) → r ≡ head_laid_out
  unfolding block_at
  head_lent e = e

  -- ---- what a reply that is laid out has

  pub rest_block : (i : ℕ) → i < length rest / 512 → length (block_at rest i) ≡ 512
  rest_block i l = block_size rest rest_small i l

  module _ (laid : laid_out_reply reply ≡ true) where
    point_ok : (i : ℕ) → i < length rest / 512 → same_list (encode_stored form_1 (1 + i) (point_of rest i)) (block_at rest i) ≡ true
    unfolding points_laid_out point_laid_out
    point_ok i l = every_at (length rest / 512) (point_laid_out rest) (and_right head_laid_out (points_laid_out rest) (sym laid_out_by_parts ∙ laid)) i l

    near : (i : ℕ) → i < length rest / 512 → 1 + i < 65536
    near i l = omega (arith, l, count_is reply, at_most reply whole)

    pub laid_point : (i : ℕ) → i < length rest / 512 → Laid lay_point point_block (block_at rest i)
    laid_point i l =
        stored_laid (1 + i) (point_of rest i) (block_at rest i) (near i l) (stored_decoded (block_at rest i) (block_bytes rest rest_small i) (rest_block i l)) (rest_block i l)
        (sym (of_same (encode_stored form_1 (1 + i) (point_of rest i)) (block_at rest i) (point_ok i l)))

    pub few : Few rest
    few i l = few_slots (block_at rest i) (block_bytes rest rest_small i) (rest_block i l) (laid_point i l)
