-- A message of one point judged row by row, by the parts that were lent. Assumes nothing.
use Prim.Native.Nat.{ℕ}
use mathlib.Core.Path.{◌≡◌, refl, ap, ap₂, sym, ◌∙◌}
use mathlib.Core.Bool.{Bool, true, false, ◌&&◌, not}
use mathlib.Core.List.{List, [], ◌∷◌}
use native.Mathlib.Omega.{arith}
use lib.ListN.{length}
use borrow.Author.Tests.{not-true, not-false}
use Rattle.numbers.specs.declared.Controller.{Controller}
use Rattle.numbers.specs.Words.{some?, same_list}
use Rattle.numbers.specs.Numbers.{controller, is_controller, Crew}
use Rattle.numbers.proofs.Lists.{clause}
use Rattle.numbers.proofs.Controllers.{crew_is}
use Rattle.refusal.specs.declared.Refusal.TheVariants.{WrongCheck, IllFormed, OutOfRange, NotPeer, HistoryLost, DotClash}
use Rattle.refusal.specs.Refusal.{refuse◌when◌else◌, verdict_of, Verdict}
use Rattle.row.specs.declared.Row.{Row}
use Rattle.block.specs.Fields.{cut, field}
use Rattle.block.specs.Block.{Laid}
use Rattle.block.proofs.Numbers.{Bytes}
use Rattle.block.proofs.Same.{of_same}
use Rattle.block.proofs.Passing.{HangsOn}
use Rattle.meaning.specs.CrewTable.{CrewTable, holds}
use Rattle.meaning.specs.Clock.{Clock, row}
use Rattle.meaning.specs.State.{State}
use Rattle.meaning.specs.Message.{Outgoing, point_formed, covers_all, outgoing_formed}
use Rattle.meaning.specs.Exchange.{both_hold, other_peer, ahead_of_us, clashes}
use Rattle.layout.specs.PointBlock.{form_1, encode_point, decode_point}
use Rattle.layout.specs.Clocks.{decode_clock}
use Rattle.layout.specs.Image.{image_length, decode_head, decode}
use Rattle.layout.specs.Messages.{checks_right, encode_outgoing, decode_outgoing, laid_out_outgoing}
use Rattle.layout.specs.Calls.{with_message}
use Rattle.layout.proofs.Decoded.{point_decoded}
use Rattle.record_edits.specs.Written.{lay_point, point_block}
use Rattle.record_edits.proofs.Edits.{says_so}
use Rattle.store.proofs.Lent.{table_part, clock_part, own_part}
use Rattle.checking.specs.Points.{above}
use Rattle.checking.specs.Judged.{outgoing_judged, message_judged}
use Rattle.checking.proofs.Ahead.{above_is}
use Rattle.std.specs.Prelude.{Ok, Err}

-- ---- the message's bytes

pub laid_out_is : (m : List ℕ) (r : Bool) → r ≡ same_list (encode_point form_1 4 0 (decode_point form_1 m)) m → laid_out_outgoing m ≡ r
unfolding laid_out_outgoing encode_outgoing decode_outgoing
laid_out_is m r e = sym e

pub laid_message : (m : List ℕ) → Bytes m → length m ≡ 512 → laid_out_outgoing m ≡ true → Laid lay_point point_block m
unfolding laid_out_outgoing encode_outgoing decode_outgoing
laid_message m small size t =
    (says_so (record { kind = 4; position = 0; point = decode_point form_1 m }) (record { kind = omega arith; position = omega arith; point = point_decoded m small size }) m size
    (sym (of_same (encode_point form_1 4 0 (decode_point form_1 m)) m t))).1

pub sender_is : (m : List ℕ) (x : ℕ) → x ≡ field m 296 1 → controller x ≡ (decode_outgoing m).sender
unfolding decode_outgoing decode_point
sender_is m x e = ap controller e

pub key_is : (m : List ℕ) → (decode_point form_1 m).key ≡ (decode_outgoing m).key
unfolding decode_outgoing
key_is m = refl

-- 4, as the code tests it
pub formed_tests : (m : List ℕ) (t : CrewTable)
    → HangsOn (outgoing_formed t (decode_outgoing m))
    (is_controller (decode_outgoing m).sender
    ∷ point_formed t (decode_point form_1 m).key (decode_point form_1 m).object
    ∷ covers_all (decode_point form_1 m).object.context (decode_point form_1 m).object.versions
    ∷ [])
unfolding outgoing_formed decode_outgoing
formed_tests m t = record { hangs = refl }

pub sender_crew : (t : CrewTable) (m : Outgoing) → outgoing_formed t m ≡ true → Crew m.sender
unfolding outgoing_formed
sender_crew t m e =
    crew_is m.sender (clause (is_controller m.sender ∷ point_formed t m.key m.object ∷ covers_all m.object.context m.object.versions ∷ []) e 0)

-- ---- what the parts that were lent say

module _ (img : List ℕ) (size : length img ≡ image_length) (m : List ℕ) where
  pub formed_is : (r : Bool) → r ≡ outgoing_formed (cut img 8 8) (decode_outgoing m) → outgoing_formed (decode img).table (decode_outgoing m) ≡ r
  formed_is r e = ap (λ (t : CrewTable). outgoing_formed t (decode_outgoing m)) (sym (table_part img size)) ∙ sym e

  module _ (own : Controller) (read : own ≡ (decode_head (cut img 0 512)).own) where
    pub own_lent : own ≡ (decode img).own
    own_lent = read ∙ own_part img size

    -- 5; job and n are as they were read, and r whether we hold the job
    module _ (job : ℕ) (at : job ≡ field m 4 1) (r : Bool) (e : r ≡ holds (cut img 8 8) own job) where
      job_is : job ≡ (decode_outgoing m).key.job
      unfolding decode_outgoing decode_point
      job_is = at

      held_here : holds (decode img).table (decode img).own (decode_outgoing m).key.job ≡ r
      held_here = sym (e ∙ λ i. holds (table_part img size i) (own_lent i) (job_is i))

      pub not_held_here : not r ≡ true → false ≡ both_hold (decode img) (decode_outgoing m).sender (decode_outgoing m).key
      unfolding both_hold
      not_held_here n = sym (ap (λ (t : Bool). t && holds (decode img).table (decode_outgoing m).sender (decode_outgoing m).key.job) (held_here ∙ not-true r n))

      pub held_there : not r ≡ false → (n : Controller) → n ≡ (decode_outgoing m).sender → (t : Bool) → t ≡ holds (cut img 8 8) n job
          → t ≡ both_hold (decode img) (decode_outgoing m).sender (decode_outgoing m).key
      unfolding both_hold
      held_there y n from t q =
          q ∙ (λ i. holds (table_part img size i) (from i) (job_is i))
          ∙ sym (ap (λ (u : Bool). u && holds (decode img).table (decode_outgoing m).sender (decode_outgoing m).key.job) (held_here ∙ not-false r y))

    -- 9
    pub lost_is : (ours : Row) → ours ≡ row (decode_clock (cut img 16 96)) own → (t : Bool) → t ≡ above own ours.base (decode_point form_1 m).object
        → t ≡ ahead_of_us (decode img) (decode_outgoing m).object
    unfolding decode_outgoing
    lost_is ours p t e =
        e ∙ ap₂ (λ (n : Controller) (w : Row). above n w.base (decode_point form_1 m).object) own_lent (p ∙ ap₂ (λ (k : Clock) (n : Controller). row k n) (clock_part img size) own_lent)
        ∙ sym (above_is (decode img) (decode_point form_1 m).object)

-- 10
pub clash_is : (s : State) (m : List ℕ) (r t : Bool) → r ≡ some? (clashes s (decode_point form_1 m).key) (decode_point form_1 m).object.versions → r ≡ t
    → some? (clashes s (decode_outgoing m).key) (decode_outgoing m).object.versions ≡ t
unfolding decode_outgoing
clash_is s m r t e q = sym e ∙ q

-- ---- rows 5 to 10

module _ (s : State) (m : Outgoing) where
  pub not_held : both_hold s m.sender m.key ≡ false → Err OutOfRange ≡ verdict_of (outgoing_judged s m true)
  unfolding outgoing_judged refuse◌when◌else◌
  not_held h = sym (rw h)

  module _ (held : both_hold s m.sender m.key ≡ true) where
    pub no_peer : other_peer s m.sender ≡ false → Err NotPeer ≡ verdict_of (outgoing_judged s m true)
    unfolding outgoing_judged refuse◌when◌else◌
    no_peer h = sym (rw (held, h))

    module _ (peer : other_peer s m.sender ≡ true) where
      pub history_gone : ahead_of_us s m.object ≡ true → Err HistoryLost ≡ verdict_of (outgoing_judged s m true)
      unfolding outgoing_judged refuse◌when◌else◌
      history_gone h = sym (rw (held, peer, h))

      module _ (kept : ahead_of_us s m.object ≡ false) where
        pub dot_clash : some? (clashes s m.key) m.object.versions ≡ true → Err DotClash ≡ verdict_of (outgoing_judged s m true)
        unfolding outgoing_judged refuse◌when◌else◌
        dot_clash h = sym (rw (held, peer, kept, h))

        pub may_take : some? (clashes s m.key) m.object.versions ≡ false → (Ok tt) ≡ verdict_of (outgoing_judged s m true)
        unfolding outgoing_judged refuse◌when◌else◌
        may_take h = sym (rw (held, peer, kept, h))

-- ---- rows 3 and 4, and then those

module _ (message : List ℕ) (s : State) where
  pub wrong_check : checks_right message ≡ false → Err WrongCheck ≡ verdict_of (message_judged message s true)
  unfolding message_judged with_message refuse◌when◌else◌
  wrong_check h = sym (rw h)

  module _ (checked : checks_right message ≡ true) where
    pub not_laid_out : laid_out_outgoing message ≡ false → Err IllFormed ≡ verdict_of (message_judged message s true)
    unfolding message_judged with_message refuse◌when◌else◌
    not_laid_out h = sym (rw (checked, h))

    module _ (laid : laid_out_outgoing message ≡ true) where
      pub not_formed : outgoing_formed s.table (decode_outgoing message) ≡ false → Err IllFormed ≡ verdict_of (message_judged message s true)
      unfolding message_judged with_message refuse◌when◌else◌
      not_formed h = sym (rw (checked, laid, h))

      pub by_the_rest : outgoing_formed s.table (decode_outgoing message) ≡ true → (r : Verdict) → r ≡ verdict_of (outgoing_judged s (decode_outgoing message) true) → r ≡ verdict_of (message_judged message s true)
      unfolding message_judged with_message refuse◌when◌else◌
      by_the_rest h r e = e ∙ sym (rw (checked, laid, h))
