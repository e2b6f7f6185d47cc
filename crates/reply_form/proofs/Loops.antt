-- What the tests over a run of blocks say. Assumes nothing.
use Prim.Native.Nat.{ℕ, ◌+◌, ◌-◌, ◌/◌, ◌<◌}
use mathlib.Core.Path.{◌≡◌, sym, ◌∙◌}
use mathlib.Core.Bool.{true}
use mathlib.Core.List.{List}
use lib.ListN.{length}
use Rattle.numbers.specs.Words.{every, ascends?}
use Rattle.block.specs.Fields.{upto}
use Rattle.block.specs.Block.{block_at}
use Rattle.block.proofs.Passing.{every_at, all_upto}
use Rattle.meaning.specs.CrewTable.{CrewTable}
use Rattle.meaning.specs.State.{Stored, stored_before}
use Rattle.meaning.specs.Message.{point_formed}
use Rattle.laws.proofs.Putting.{stored_order}
use Rattle.layout.specs.PointBlock.{form_1, decode_point, decode_stored}
use Rattle.record.specs.Crewed.{crewed}
use Rattle.record.proofs.Formed.{neighbours}
use Rattle.record.proofs.Questions.{formed_crewed}
use Rattle.apart.specs.Apart.{point_of, apart_from_earlier}
use Rattle.image.proofs.InOrder.{pairs_agree}
use Rattle.arriving.specs.Sent.{points_in}
use Rattle.reply_form.specs.Parts.{each_formed, all_apart}

-- a well-formed point's versions name controllers, as the test of their cover asks
pub block_crewed : (t : CrewTable) (run : List ℕ) → each_formed t (points_in run) ≡ true → (i : ℕ) → i < length run / 512 → crewed (decode_point form_1 (block_at run i)).object.versions ≡ true
unfolding decode_stored
block_crewed t run f i l =
    formed_crewed t (decode_point form_1 (block_at run i)).key (decode_point form_1 (block_at run i)).object
    (every_at (length run / 512) (λ j. point_formed t (point_of run j).key (point_of run j).object) (sym (all_upto (λ (p : Stored). point_formed t p.key p.object) (length run / 512) (point_of run)) ∙ f) i l)

-- ---- the order of the keys, each against the next

pub keys_tests : (run : List ℕ) → every (upto (length run / 512 - 1) (λ i. stored_before (point_of run i) (point_of run (i + 1)))) ≡ ascends? stored_before (points_in run)
keys_tests run = neighbours stored_before stored_order (length run / 512) (point_of run)

-- ---- each point against those before it

pub apart_tests : (run : List ℕ) → ascends? stored_before (points_in run) ≡ true → every (upto (length run / 512) (apart_from_earlier run)) ≡ all_apart (points_in run)
unfolding apart_from_earlier
apart_tests run up = sym (pairs_agree (length run / 512) (point_of run) up)
