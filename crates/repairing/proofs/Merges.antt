-- What the two passes of a repair ask, and what they leave, in the states that the image says. Assumes nothing.
use Prim.Native.Nat.{ℕ, ◌/◌, ◌≤◌, ◌<◌}
use mathlib.Core.Path.{◌≡◌, refl, ap, sym, ◌∙◌, subst}
use mathlib.Core.Bool.{true}
use mathlib.Core.List.{List}
use native.Mathlib.Omega.{arith}
use lib.ListN.{length, take}
use Rattle.numbers.specs.Words.{map, fold, ascends?}
use Rattle.refusal.specs.Refusal.{verdict_of}
use Rattle.block.specs.Fields.{cut}
use Rattle.block.specs.Block.{block_at}
use Rattle.meaning.specs.Clock.{Clock}
use Rattle.meaning.specs.State.{Stored, Listed, stored_before, State}
use Rattle.meaning.specs.Message.{Reply}
use Rattle.meaning.specs.Settle.{put}
use Rattle.laws.proofs.Goodness.{Good}
use Rattle.layout.specs.Clocks.{decode_clock}
use Rattle.layout.specs.Messages.{decode_ask}
use Rattle.image_edits.specs.Edits.{with_points, with_list}
use Rattle.arriving.specs.Sent.{points_in}
use Rattle.noting.specs.Noted.{noted}
use Rattle.placing.specs.Placed.{comes}
use Rattle.hearing.specs.Heard.{reply_in}
use Rattle.mending.specs.Mended.{results, AllJoinable, marked, RoomFor}
use Rattle.tallying.specs.Tallied.{mark, AllReady, results_judged}
use Rattle.tallying.proofs.Judged.{passed}
use Rattle.repairing.specs.Repaired.{outcome, Lent}
use Rattle.repairing.proofs.OfReply.{in_order, results_are, all_ready}
use Rattle.repairing.proofs.Passes.{first_joinable, first_room, first_order, after_first, second_ascends, second_joinable, second_order, second_room, after_second}
use Rattle.std.specs.Prelude.{Ok}

-- what a pass asks of the state that the image says
abbrev pub MergeablePass : Clock → State → Clock → ℕ → List ℕ → List ℕ → Type 0
MergeablePass c z k w run ms =
    (ascends? stored_before z.points ≡ true) × AllJoinable z k w run ms × (ascends? stored_before (results z k run) ≡ true) × RoomFor c z k w run ms

module _ (s : State) (G : Good s) (up : ascends? stored_before s.points ≡ true) (head run ms : List ℕ) (L : Lent s head run) (long : (i : ℕ) → i < length run / 512 → length (block_at run i) ≡ 512) where
  abbrev q : Reply
  q = reply_in head run

  abbrev k : Clock
  k = decode_clock (cut head 8 96)

  pub ready : AllReady s (decode_clock (cut head 8 96)) run
  unfolding decode_ask
  ready = all_ready s G head run L.4 long L.2

  pub clock_lent : decode_clock (cut head 8 96) ≡ (reply_in head run).clock
  unfolding decode_ask
  clock_lent = refl

  pub same_results : results s (decode_clock (cut head 8 96)) run ≡ outcome s (reply_in head run)
  unfolding decode_ask
  same_results = results_are s G head run L.4

  pub ordered : ascends? stored_before (results s (decode_clock (cut head 8 96)) run) ≡ true
  ordered = subst (λ (rs : List Stored). ascends? stored_before rs ≡ true) (sym same_results) (in_order s G q L.4)

  module _ (c : Clock) (size : length ms ≡ 120) (marks : take (length run / 512) ms ≡ map (λ r. mark (comes c s.points r)) (outcome s (reply_in head run)))
      (ok : verdict_of (results_judged s c (outcome s (reply_in head run)) true) ≡ Ok tt) where
    judged : verdict_of (results_judged s c (results s k run) true) ≡ Ok tt
    judged = subst (λ (rs : List Stored). verdict_of (results_judged s c rs true) ≡ Ok tt) (sym same_results) ok

    marks_of : take (length run / 512) ms ≡ map (λ r. mark (comes c s.points r)) (results s k run)
    marks_of = marks ∙ ap (map (λ r. mark (comes c s.points r))) (sym same_results)

    enough : length run / 512 ≤ length ms
    enough = omega (arith, L.3, size)

    ls : List Listed
    ls = noted s (points_in run)

    pub first_pass : (z : State) → z ≡ with_list s 2 (noted s (points_in run)) → MergeablePass c z (decode_clock (cut head 8 96)) 0 run ms
    unfolding ls
    first_pass z e =
        subst (λ (x : State). MergeablePass c x k 0 run ms) (sym e) (
          up,
          first_joinable s G k c run ms ready up ordered enough marks_of (passed s c (results s k run) judged).0 (passed s c (results s k run) judged).1 ls,
          first_order s G k c run ms ready up ordered enough marks_of (passed s c (results s k run) judged).0 (passed s c (results s k run) judged).1 ls,
          first_room s G k c run ms ready up ordered enough marks_of (passed s c (results s k run) judged).0 (passed s c (results s k run) judged).1 ls,
        )

    module _ (z₁ z₂ : State) (e₁ : z₁ ≡ with_list s 2 (noted s (points_in run))) (e₂ : z₂ ≡ with_points z₁ (fold (put c) z₁.points (marked 0 (take (length run / 512) ms) (results z₁ (decode_clock (cut head 8 96)) run)))) where
      first_left : z₂ ≡ with_points (with_list s 2 (noted s (points_in run))) (fold (put c) s.points (Rattle.numbers.specs.Words.keep (λ r. mathlib.Core.Bool.not (comes c s.points r)) (results s k run)))
      unfolding ls
      first_left =
          after_first s G k c run ms ready up ordered enough marks_of (passed s c (results s k run) judged).0 (passed s c (results s k run) judged).1 ls z₂
          (e₂ ∙ ap (λ (x : State). with_points x (fold (put c) x.points (marked 0 (take (length run / 512) ms) (results x k run)))) e₁)

      pub second_pass : MergeablePass c z₂ (decode_clock (cut head 8 96)) 1 run ms
      unfolding ls
      second_pass = (
        second_ascends s G k c run ms ready up ordered enough marks_of (passed s c (results s k run) judged).0 (passed s c (results s k run) judged).1 ls z₂ first_left,
        second_joinable s G k c run ms ready up ordered enough marks_of (passed s c (results s k run) judged).0 (passed s c (results s k run) judged).1 ls z₂ first_left,
        second_order s G k c run ms ready up ordered enough marks_of (passed s c (results s k run) judged).0 (passed s c (results s k run) judged).1 ls z₂ first_left,
        second_room s G k c run ms ready up ordered enough marks_of (passed s c (results s k run) judged).0 (passed s c (results s k run) judged).1 ls z₂ first_left,
      )

      pub both_passes : (z₃ : State) → z₃ ≡ with_points z₂ (fold (put c) z₂.points (marked 1 (take (length run / 512) ms) (results z₂ (decode_clock (cut head 8 96)) run)))
          → z₃ ≡ with_points (with_list s 2 (noted s (points_in run))) (fold (put c) s.points (outcome s (reply_in head run)))
      unfolding ls
      both_passes z₃ e =
          after_second s G k c run ms ready up ordered enough marks_of (passed s c (results s k run) judged).0 (passed s c (results s k run) judged).1 ls z₂ first_left z₃ e
          ∙ ap (λ (rs : List Stored). with_points (with_list s 2 (noted s (points_in run))) (fold (put c) s.points rs)) same_results
