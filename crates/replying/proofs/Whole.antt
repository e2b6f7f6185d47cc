-- The reply as it is written: its points, and then its head before them. Assumes nothing.
use Prim.Native.Nat.{ℕ, ◌+◌, ◌*◌, ◌≤◌}
use mathlib.Core.Path.{◌≡◌, sym, ap, ◌∙◌}
use mathlib.Core.List.{List, ◌++◌, append_assoc}
use native.Mathlib.Omega.{arith}
use lib.ListN.{length, take, drop, length-append, length-take, length-drop}
use lib.Seq.{drop_at, drop-drop}
use Rattle.numbers.specs.declared.Controller.{Controller}
use Rattle.block.specs.Fields.{splice}
use Rattle.meaning.specs.Clock.{Clock}
use Rattle.meaning.specs.State.{State}
use Rattle.meaning.specs.Message.{Ask}
use Rattle.laws.proofs.Goodness.{Good}
use Rattle.laws.proofs.Sends.{sent_few}
use Rattle.layout.specs.Image.{encode_points}
use Rattle.layout.specs.Messages.{encode_greeting, encode_reply}
use Rattle.layout.specs.Calls.{over}
use Rattle.replying.specs.Sent.{sent_keys, sent_points, reply_of}

module _ (before middle head points : List ℕ) (n : ℕ) (room : 512 + 512 * n ≤ length before) (same : length middle ≡ length before) (written : middle ≡ splice before 512 (512 * n) points) (size : length head ≡ 512) where
  first : length (take 512 before) ≡ 512
  first = simp length-take (omega arith)

  points_long : length points ≡ 512 * n
  points_long =
      omega (
        arith,
        ap length written,
        length-append (take 512 before) (points ++ drop (512 * n) (drop 512 before)),
        length-append points (drop (512 * n) (drop 512 before)),
        length-drop (512 * n) (drop 512 before),
        length-drop 512 before,
        first,
      )

  -- the head over the first block
  pub over_all : head ++ drop 512 middle ≡ over (head ++ points) before
  unfolding over
  over_all =
      ap (λ (l : List ℕ). head ++ l) (ap (drop 512) written ∙ drop_at (take 512 before) (points ++ drop (512 * n) (drop 512 before)) 512 first)
      ∙ sym (append_assoc head points (drop (512 * n) (drop 512 before)))
      ∙ ap (λ (l : List ℕ). (head ++ points) ++ l) (drop-drop (512 * n) 512 before ∙ ap (λ (m : ℕ). drop m before) both)
    where
      both : 512 + 512 * n ≡ length (head ++ points)
      both = omega (arith, length-append head points, points_long)

module _ (s : State) (a : Ask) (G : Good s) where
  few : length (sent_points s a) ≤ 120
  unfolding sent_keys
  few = sent_few s G a

  pub reply_is : (before middle head : List ℕ) (own asker : Controller) (k : Clock) (r : ℕ) → 61952 ≤ length before → length middle ≡ length before
      → middle ≡ splice before 512 (512 * length (sent_points s a)) (encode_points 1 (sent_points s a)) → length head ≡ 512 → head ≡ encode_greeting 6 own asker r k
      → r ≡ length (sent_points s a) → own ≡ s.own → asker ≡ a.sender → k ≡ s.clock → head ++ drop 512 middle ≡ over (encode_reply (reply_of s a)) before
  unfolding encode_reply
  reply_is before middle head own asker k r room same written size made count o q c =
      over_all before middle head (encode_points 1 (sent_points s a)) (length (sent_points s a)) (omega (arith, few)) same written size
      ∙ ap (λ (h : List ℕ). over (h ++ encode_points 1 (sent_points s a)) before) (made ∙ (λ i. encode_greeting 6 (o i) (q i) (count i) (c i)))
