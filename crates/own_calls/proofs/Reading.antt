-- The definition of read, case by case, and the reading as it is written. Assumes nothing.
use Prim.Native.Nat.{ℕ}
use mathlib.Core.Path.{◌≡◌, ap, ap₂, ◌∙◌}
use mathlib.Core.Bool.{Bool, false, not}
use mathlib.Core.List.{List}
use lib.ListN.{length, take}
use Rattle.numbers.specs.declared.Controller.{Controller}
use Rattle.numbers.specs.declared.Key.{Key}
use Rattle.numbers.specs.Words.{keep}
use Rattle.numbers.specs.Key.{key}
use Rattle.refusal.specs.declared.Refusal.{Refusal}
use Rattle.refusal.specs.declared.Refusal.TheVariants.{OutOfRange}
use Rattle.refusal.specs.Refusal.{Answer, refused, accepted, refuse◌when◌else◌, ◌>>=◌, verdict_of}
use Rattle.block.specs.Fields.{cut}
use Rattle.block.specs.Check.{seal}
use Rattle.block.specs.Block.{resealed, Laid}
use Rattle.meaning.specs.CrewTable.{CrewTable}
use Rattle.meaning.specs.Clock.{Clock}
use Rattle.meaning.specs.Object.{has_value, fill}
use Rattle.meaning.specs.State.{State, look_up, local}
use Rattle.meaning.specs.OwnSteps.{ours, shown, read}
use Rattle.layout.specs.Clocks.{decode_clock}
use Rattle.layout.specs.PointBlock.{form_1, decode_point}
use Rattle.layout.specs.Image.{image_length, decode_head, decode}
use Rattle.layout.specs.Messages.{encode_reading}
use Rattle.layout.specs.Calls.{Left, afterwards, one_block, on_image, read_call}
use Rattle.record_edits.specs.Written.{Written, lay_point, point_block, with_object, with_versions}
use Rattle.store.proofs.Lent.{table_part, clock_part, own_part}
use Rattle.store.proofs.Untouched.{untouched}
use Rattle.opening.specs.Admitted.{admitted}
use Rattle.opening.proofs.Ladder.{refused_leaves, not_admitted_first, admitted_then, what_is_admitted}
use Rattle.std.specs.Prelude.{Ok, Err}

-- ---- case by case

module _ (img : List ℕ) (job point : ℕ) (out : List ℕ) where
  abbrev step : State → Answer Left
  step s = read s (key job point) >>= λ o. accepted (record { image = img; out = encode_reading o; count = 0 })

  asks : (s : State) → ours s (key job point) ≡ false → step s ≡ refused OutOfRange
  unfolding read refuse◌when◌else◌
  asks s h = rw h

  pub read_refused : (r : Refusal) → verdict_of (admitted img (one_block out) (key job point)) ≡ Err r → read_call img job point out ≡ untouched r img out
  unfolding read_call
  read_refused r e = refused_leaves img out (on_image (one_block out) img step) r (not_admitted_first img (one_block out) (key job point) step asks r e)

  pub read_shown : verdict_of (admitted img (one_block out) (key job point)) ≡ Ok tt
      → read_call img job point out ≡ record { verdict = Ok tt; image = img; out = encode_reading (record { sender = (decode img).own; key = key job point; object = shown (local (decode img) (key job point)) }); count = 0 }
  unfolding read_call afterwards read refuse◌when◌else◌
  read_shown e =
      ap (afterwards img out) (admitted_then img (one_block out) (key job point) step asks e)
      ∙ ap (λ (b : Bool). afterwards img out ((refuse OutOfRange when not b else accepted (record { sender = (decode img).own; key = key job point; object = shown (local (decode img) (key job point)) })) >>= λ o. accepted (record { image = img; out = encode_reading o; count = 0 })))
      (what_is_admitted img (one_block out) (key job point) e).mine

-- ---- the reading

-- fetched, filled, its deletions dropped, sealed
pub reading_is : (s : State) (k : Key) (b1 b2 b3 x : List ℕ)
    → point_block b1 ≡ record { kind = 7; position = 0; point = record { sender = s.own; key = k; object = look_up k s.points } }
    → point_block b2 ≡ with_object (point_block b1) (fill s.table (decode_point form_1 b1).key.job s.clock (decode_point form_1 b1).object)
    → (point_block b3 ≡ with_versions (point_block b2) (keep (λ v. has_value v.contents) (decode_point form_1 b2).object.versions)) × Laid lay_point point_block b3
    → x ≡ seal (take 508 b3) → x ≡ encode_reading (record { sender = s.own; key = k; object = shown (local s k) })
unfolding encode_reading shown local fill resealed
reading_is s k b1 b2 b3 x p1 p2 p3 e = e ∙ p3.1 ∙ ap lay_point (p3.0 ∙ ap (λ (w : Written). with_versions w (keep (λ v. has_value v.contents) w.point.object.versions)) (p2 ∙ filled))
  where
    filled : with_object (point_block b1) (fill s.table (decode_point form_1 b1).key.job s.clock (decode_point form_1 b1).object)
        ≡ record { kind = 7; position = 0; point = record { sender = s.own; key = k; object = fill s.table k.job s.clock (look_up k s.points) } }
    filled = ap (λ (w : Written). with_object w (fill s.table w.point.key.job s.clock w.point.object)) p1

-- the same with the parts that were lent
pub reading_lent : (img : List ℕ) (size : length img ≡ image_length) (k : Key) (o : Controller) (b1 b2 b3 x : List ℕ) → o ≡ (decode_head (cut img 0 512)).own
    → point_block b1 ≡ record { kind = 7; position = 0; point = record { sender = o; key = k; object = look_up k (decode img).points } }
    → point_block b2 ≡ with_object (point_block b1) (fill (cut img 8 8) (decode_point form_1 b1).key.job (decode_clock (cut img 16 96)) (decode_point form_1 b1).object)
    → (point_block b3 ≡ with_versions (point_block b2) (keep (λ v. has_value v.contents) (decode_point form_1 b2).object.versions)) × Laid lay_point point_block b3
    → x ≡ seal (take 508 b3) → x ≡ encode_reading (record { sender = (decode img).own; key = k; object = shown (local (decode img) k) })
reading_lent img size k o b1 b2 b3 x own p1 p2 p3 e =
    reading_is (decode img) k b1 b2 b3 x
    (p1 ∙ ap (λ (n : Controller). record { kind = 7; position = 0; point = record { sender = n; key = k; object = look_up k (decode img).points } }) (own ∙ own_part img size))
    (p2 ∙ ap₂ (λ (t : CrewTable) (c : Clock). with_object (point_block b1) (fill t (decode_point form_1 b1).key.job c (decode_point form_1 b1).object)) (table_part img size) (clock_part img size))
    p3 e
