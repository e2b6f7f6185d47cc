-- A write or a delete that was judged: its message is laid out, and recorded it is what `settled` says. Assumes nothing.
use Prim.Native.Nat.{ℕ, ◌≤◌}
use mathlib.Core.Path.{◌≡◌, refl, ap, sym, ◌∙◌, subst}
use mathlib.Core.Bool.{true}
use mathlib.Core.List.{List, [], ◌∷◌}
use native.Mathlib.Omega.{arith}
use lib.ListN.{length}
use Rattle.numbers.specs.declared.Key.{Key}
use Rattle.numbers.proofs.Tests.{and_right}
use Rattle.numbers.specs.Key.{is_key}
use Rattle.refusal.specs.Refusal.{accepted, verdict_of}
use Rattle.block.specs.Block.{Laid}
use Rattle.meaning.specs.CrewTable.{holds}
use Rattle.meaning.specs.Context.{Context}
use Rattle.meaning.specs.Object.{Contents, has_value}
use Rattle.meaning.specs.State.{Stored, State}
use Rattle.meaning.specs.Message.{Outgoing, contents_formed}
use Rattle.meaning.specs.Settle.{most_points, put, settled}
use Rattle.meaning.specs.OwnSteps.{ours, written, Done, put_down}
use Rattle.laws.proofs.Goodness.{Good}
use Rattle.laws.proofs.StaysGood.{PutDown, put_down_accepted}
use Rattle.laws.proofs.Sends.{sends_outgoing}
use Rattle.layout.specs.PointBlock.{form_1, decode_stored}
use Rattle.layout.specs.Image.{encode}
use Rattle.layout.specs.Messages.{encode_outgoing}
use Rattle.layout.proofs.PointBack.{PointSized}
use Rattle.layout.proofs.Sizes.{outgoing_sized}
use Rattle.layout.proofs.MessagesBack.{outgoing_length}
use Rattle.record_edits.specs.Written.{Written, lay_point, point_block}
use Rattle.record_edits.proofs.Edits.{says_so}
use Rattle.writing.specs.Judged.{judged}
use Rattle.writing.specs.Recorded.{next_clock, recorded}
use Rattle.writing.proofs.PutDown.{put_down_judged}
use Rattle.writing.proofs.Accepted.{judged_accepted}
use Rattle.writing.proofs.After.{settled_is}
use Rattle.std.specs.Prelude.{Ok}

-- the job of a point that is ours is held here
pub held_here : (s : State) (k : Key) → ours s k ≡ true → holds s.table s.own k.job ≡ true
unfolding ours
held_here s k t = and_right (is_key k) (holds s.table s.own k.job) t

module _ (s : State) (G : Good s) (k : Key) (b : Contents) (c : Context) (mine : ours s k ≡ true) (ok : verdict_of (judged s k (has_value b) c true) ≡ Ok tt) where
  abbrev result : Stored
  result = record { key = k; object = written s k b c }

  abbrev message : Outgoing
  message = record { sender = s.own; key = k; object = written s k b c }

  abbrev done : Done
  done = record { state = settled s s.clock (result ∷ []); message = message }

  pub put_down_done : put_down s k b c ≡ accepted (record { state = settled s s.clock (record { key = k; object = written s k b c } ∷ []); message = record { sender = s.own; key = k; object = written s k b c } })
  put_down_done = put_down_judged s G k b c (held_here s k mine) ∙ judged_accepted s k (has_value b) c ok done

  module _ (said : contents_formed b ≡ true) where
    P : PutDown s k b c done
    P = put_down_accepted s k b c done G mine said put_down_done

    fits : PointSized form_1 message
    fits = outgoing_sized s.table message (sends_outgoing s k b c done G P)

    says : (x : List ℕ) → x ≡ encode_outgoing message → (point_block x ≡ record { kind = 4; position = 0; point = message }) × Laid lay_point point_block x
    says x e = says_so (record { kind = 4; position = 0; point = message }) (record { kind = omega arith; position = omega arith; point = fits }) x (ap length e ∙ outgoing_length message fits) (e ∙ (unfold encode_outgoing in refl))

    pub message_laid : (x : List ℕ) → x ≡ encode_outgoing (record { sender = s.own; key = k; object = written s k b c }) → Laid lay_point point_block x
    message_laid x e = (says x e).1

    -- the message's point as a record
    as_stored : (x : List ℕ) → x ≡ encode_outgoing message → decode_stored form_1 x ≡ result
    unfolding decode_stored
    as_stored x e = ap (λ (w : Written). record { key = w.point.key; object = w.point.object }) (says x e).0

    pub points_fit : (x : List ℕ) → x ≡ encode_outgoing (record { sender = s.own; key = k; object = written s k b c }) → length (put (next_clock s) s.points (decode_stored form_1 x)) ≤ most_points
    points_fit x e =
        subst (λ (n : ℕ). n ≤ most_points) (ap (λ (t : State). length t.points) (settled_is s G k b c (held_here s k mine)) ∙ ap (λ (r : Stored). length (put (next_clock s) s.points r)) (sym (as_stored x e))) P.limits.points_few

    pub recorded_is : (x y : List ℕ) → x ≡ encode_outgoing (record { sender = s.own; key = k; object = written s k b c }) → y ≡ encode (recorded s (decode_stored form_1 x))
        → y ≡ encode (settled s s.clock (record { key = k; object = written s k b c } ∷ []))
    recorded_is x y e d = d ∙ ap (λ (r : Stored). encode (recorded s r)) (as_stored x e) ∙ ap encode (sym (settled_is s G k b c (held_here s k mine)))
