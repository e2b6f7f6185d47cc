-- What is well-formed in a reply: in its head, which is an ask's, and in its points. Assumes nothing.
use Prim.Native.Nat.{ℕ}
use mathlib.Core.Path.{◌≡◌, refl, ap, ap₂, sym, ◌∙◌}
use mathlib.Core.Bool.{Bool, true, false, ◌&&◌}
use mathlib.Core.List.{List, [], ◌∷◌}
use native.Mathlib.Omega.{arith}
use lib.ListN.{drop}
use Rattle.numbers.specs.Words.{every, ascends?}
use Rattle.numbers.specs.Numbers.{is_controller}
use Rattle.block.specs.Fields.{cut}
use Rattle.block.specs.Block.{block_at}
use Rattle.block.proofs.Parts.{cut_cut}
use Rattle.block.proofs.Passing.{HangsOn, and_true}
use Rattle.meaning.specs.CrewTable.{CrewTable}
use Rattle.meaning.specs.Clock.{Clock}
use Rattle.meaning.specs.State.{Stored, stored_before}
use Rattle.meaning.specs.Message.{Reply, clock_formed, ask_formed, reply_formed}
use Rattle.layout.specs.Clocks.{decode_clock}
use Rattle.layout.specs.Messages.{decode_ask, decode_reply}
use Rattle.arriving.specs.Sent.{points_in}
use Rattle.reply_form.specs.Parts.{each_formed, each_covered, all_apart, points_formed}
use Rattle.reply_form.proofs.Points.{points_are}

pub points_tests : (t : CrewTable) (k : Clock) (ps : List Stored) → HangsOn (points_formed t k ps) (each_formed t ps ∷ each_covered t k ps ∷ ascends? stored_before ps ∷ all_apart ps ∷ [])
unfolding points_formed
points_tests t k ps = record { hangs = refl }

-- tests of the head, and those of the points behind them
regroup : (a b c rest : Bool) → (a && (b && (c && rest))) ≡ (every (a ∷ b ∷ c ∷ []) && rest)
regroup true true c rest = ap (λ (x : Bool). x && rest) (sym (and_true c))
regroup true false c rest = refl
regroup false b c rest = refl

of_reply : (t : CrewTable) (r : Reply) → reply_formed t r ≡ (ask_formed t (record { sender = r.sender; addressee = r.addressee; clock = r.clock }) && points_formed t r.clock r.points)
unfolding reply_formed ask_formed points_formed
of_reply t r = regroup (is_controller r.sender) (is_controller r.addressee) (clock_formed t r.sender r.clock) (every (each_formed t r.points ∷ each_covered t r.clock r.points ∷ ascends? stored_before r.points ∷ all_apart r.points ∷ []))

module _ (reply : List ℕ) where
  clock_is : (decode_reply reply).clock ≡ decode_clock (cut reply 8 96)
  unfolding decode_reply decode_ask block_at
  clock_is = ap decode_clock (cut_cut reply 0 512 8 96 (omega arith))

  head_is : (t : CrewTable) → ask_formed t (record { sender = (decode_reply reply).sender; addressee = (decode_reply reply).addressee; clock = (decode_reply reply).clock }) ≡ ask_formed t (decode_ask (cut reply 0 512))
  unfolding decode_reply block_at
  head_is t = refl

  -- the tests, of the parts that were lent
  pub reply_tests : (t : CrewTable) → HangsOn (reply_formed t (decode_reply reply)) (ask_formed t (decode_ask (cut reply 0 512)) ∷ points_formed t (decode_clock (cut reply 8 96)) (points_in (drop 512 reply)) ∷ [])
  reply_tests t =
      record {
        hangs =
            of_reply t (decode_reply reply)
            ∙ ap₂ ◌&&◌ (head_is t) (ap₂ (points_formed t) clock_is (sym (points_are reply)) ∙ sym (and_true (points_formed t (decode_clock (cut reply 8 96)) (points_in (drop 512 reply)))));
      }
