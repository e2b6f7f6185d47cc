-- Every image of a run is good, and no call on it is refused with 2. Assumes nothing.
use Prim.Native.Nat.{ℕ, ◌<◌}
use mathlib.Core.Path.{◌≡◌, sym, subst}
use mathlib.Core.Bool.{Bool, true, not, ◌&&◌}
use mathlib.Core.List.{List, []}
use native.Mathlib.Omega.{arith}
use lib.ListN.{length}
use lib.Dec.{leb, eqb}
use Rattle.numbers.specs.Words.{map}
use Rattle.numbers.specs.Numbers.{controller, counter}
use Rattle.numbers.specs.Key.{key}
use Rattle.refusal.specs.declared.Refusal.TheVariants.{WrongLength, ImageNotGood, WrongCheck, IllFormed}
use Rattle.refusal.specs.Refusal.{answer_number, Answer, refused, accepted, refuse◌when◌else◌}
use Rattle.meaning.specs.State.{State}
use Rattle.meaning.specs.OwnSteps.{start, read, write, delete}
use Rattle.meaning.specs.Exchange.{take_in, ask, reply, repair}
use Rattle.laws.proofs.Goodness.{facts_good}
use Rattle.layout.specs.Image.{decode, good_image}
use Rattle.layout.specs.Messages.{laid_out_outgoing, laid_out_ask, laid_out_reply}
use Rattle.layout.specs.Calls.{Left, After, afterwards, one_block, reply_room, whole_reply, whole_image, on_image, with_message, start_call, read_call, write_call, delete_call, take_in_call, ask_call, reply_call, repair_call, strip_pass_call}
use Rattle.crew_bytes.specs.Bytes as bytes
use Rattle.crew_bytes.specs.Bytes.{CallOn}
use Rattle.crew_bytes.specs.DemandBytes.{OwnImagesGood}
use Rattle.crew_bytes.proofs.Saying.{Says, says_row, says_then, says_start, says_read, says_write, says_delete, says_take_in, says_ask, says_reply, says_repair}
use Rattle.crew_bytes.proofs.Called.{image_good}
use Rattle.crew_bytes.proofs.ShownBytes.{pictured, is_started}

abbrev NotTwo : ℕ → Type 0
NotTwo k = k ≡ 2 → ⊥

others : (k : ℕ) → 4 < k → NotTwo k
others k h e = omega arith

abbrev Unrefused : After → Type 0
Unrefused a = NotTwo (answer_number a.verdict)

-- ---- the calls on a good image

fine_after : (img out : List ℕ) (a : Answer Left) → Says NotTwo a → Unrefused (afterwards img out a)
unfolding afterwards
fine_after img out (refused r) h e = h e
fine_after img out (accepted l) h e = omega (arith, e)

fine_message : (message : List ℕ) (laid_out : Bool) (rest : Answer Left) → Says NotTwo rest → Says NotTwo (with_message message laid_out rest)
unfolding with_message
fine_message message laid_out rest h = says_row NotTwo WrongCheck _ _ (omega arith) (says_row NotTwo IllFormed _ _ (omega arith) h)

module _ (img : List ℕ) (good : good_image img ≡ true) where
  fine_call : (lengths : Bool) (out : List ℕ) (f : State → Answer Left) → ((s : State) → Says NotTwo (f s)) → Unrefused (afterwards img out (on_image lengths img f))
  fine_call lengths out f h = fine_after img out (on_image lengths img f) tested
    where
      tested : Says NotTwo (on_image lengths img f)
      tested =
          unfold on_image in
          (says_row NotTwo WrongLength (not (whole_image img && lengths)) _ (omega arith)
          (subst (λ (b : Bool). Says NotTwo (refuse ImageNotGood when not b else f (decode img))) (sym good) (unfold refuse◌when◌else◌ in (h (decode img)))))

  pub never_two : (a : After) → CallOn img a → Unrefused a
  unfolding start_call read_call write_call delete_call take_in_call ask_call reply_call repair_call strip_pass_call
  never_two a (bytes.call_start n table) =
      fine_after img [] _ (says_row NotTwo WrongLength _ _ (omega arith) (says_then NotTwo (start (controller n) table) _ (says_start NotTwo others (controller n) table) (λ x. tt)))
  never_two a (bytes.call_read job point out) = fine_call (one_block out) out _ (λ s. says_then NotTwo (read s (key job point)) _ (says_read NotTwo others s (key job point)) (λ x. tt))
  never_two a (bytes.call_write job point v c out) =
      fine_call (eqb (length c) 8 && one_block out) out _
      (λ s. says_then NotTwo (write s (key job point) v (map counter c)) _ (says_write NotTwo others s (key job point) v (map counter c)) (λ x. tt))
  never_two a (bytes.call_delete job point c out) =
      fine_call (eqb (length c) 8 && one_block out) out _
      (λ s. says_then NotTwo (delete s (key job point) (map counter c)) _ (says_delete NotTwo others s (key job point) (map counter c)) (λ x. tt))
  never_two a (bytes.call_take_in m) =
      fine_call (one_block m) [] _ (λ s. fine_message m (laid_out_outgoing m) _ (says_then NotTwo (take_in s _) _ (says_take_in NotTwo others s _ (λ f. omega arith)) (λ x. tt)))
  never_two a (bytes.call_ask to out) = fine_call (one_block out) out _ (λ s. says_then NotTwo (ask s (controller to)) _ (says_ask NotTwo others s (controller to)) (λ x. tt))
  never_two a (bytes.call_reply m out) =
      fine_call (one_block m && leb reply_room (length out)) out _
      (λ s. fine_message m (laid_out_ask m) _ (says_then NotTwo (reply s _) _ (says_reply NotTwo others s _ (λ f. omega arith)) (λ x. tt)))
  never_two a (bytes.call_repair m) =
      fine_call (whole_reply m) [] _ (λ s. fine_message m (laid_out_reply m) _ (says_then NotTwo (repair s _) _ (says_repair NotTwo others s _ (λ f. omega arith)) (λ x. tt)))
  never_two a bytes.call_strip_pass = fine_call true [] _ (λ s. tt)

pub own_images_good : OwnImagesGood
unfolding OwnImagesGood
own_images_good t ok B r n h =
    let p = pictured t ok B r in
    let s = p.0.state n in
    let D = is_started t ok B p.0 p.1 p.2 n h in
    let good = image_good (B.image n) s (facts_good s D.good) D.is_image in
    (good, never_two (B.image n) good)
