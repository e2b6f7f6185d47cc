-- A slot and an empty point block, by the stores that make them. Assumes nothing.
use Prim.Native.Nat.{ℕ, ◌-◌, ◌≤◌}
use mathlib.Core.Path.{◌≡◌, ap, ◌∙◌}
use mathlib.Core.List.{List, ◌++◌}
use lib.ListN.{length, take}
use Rattle.numbers.specs.declared.Controller.{Controller}
use Rattle.numbers.specs.declared.Dot.{Dot}
use Rattle.numbers.specs.declared.Key.{Key}
use Rattle.block.specs.Fields.{le, splice, zeros, pad}
use Rattle.block.specs.Check.{seal}
use Rattle.block.specs.Block.{make_block}
use Rattle.block.proofs.Numbers.{le_length}
use Rattle.block.proofs.Parts.{splice_past}
use Rattle.block.proofs.Edits.{zeros_drop, cleared}
use Rattle.meaning.specs.Object.{value, deleted, no_object}
use Rattle.layout.specs.PointBlock.{form_1, encode_slot, encode_context, encode_point}

-- the first eight bytes of a slot, and zeros
abbrev opened : Dot → ℕ → List ℕ → List ℕ
opened d n l = le 1 d.who.0 ++ (le 1 n ++ (le 2 0 ++ (le 4 d.count.0 ++ l)))

module _ (s s1 s2 s3 s4 : List ℕ) (d : Dot) (n : ℕ) (size : length s ≡ 32) (p1 : s1 ≡ splice s 0 32 (zeros 32)) (p2 : s2 ≡ splice s1 0 1 (le 1 d.who.0)) (p3 : s3 ≡ splice s2 4 4 (le 4 d.count.0)) (p4 : s4 ≡ splice s3 1 1 (le 1 n)) where
  opened_is : s4 ≡ opened d n (zeros 24)
  unfolding le
  opened_is = p4 ∙ ap (λ (z : List ℕ). splice z 1 1 (le 1 n)) (p3 ∙ ap (λ (z : List ℕ). splice z 4 4 (le 4 d.count.0)) (p2 ∙ ap (λ (z : List ℕ). splice z 0 1 (le 1 d.who.0)) (p1 ∙ cleared s 32 size)))

  pub deleted_made : n ≡ 255 → s4 ≡ encode_slot form_1 (record { dot = d; contents = deleted })
  unfolding encode_slot pad
  deleted_made e = opened_is ∙ ap (λ (m : ℕ). opened d m (zeros 24)) e

  pub slot_made : (x v : List ℕ) → n ≡ length v → length v ≤ 24 → x ≡ splice s4 8 (length v) v → x ≡ encode_slot form_1 (record { dot = d; contents = value v })
  unfolding encode_slot pad
  slot_made x v e h p =
      p ∙ ap (λ (z : List ℕ). splice z 8 (length v) v) opened_is
      ∙ splice_past (le 1 d.who.0) (le 1 n ++ (le 2 0 ++ (le 4 d.count.0 ++ zeros 24))) 1 7 (length v) v (le_length 1 d.who.0)
      ∙ ap (λ (z : List ℕ). le 1 d.who.0 ++ z)
      (splice_past (le 1 n) (le 2 0 ++ (le 4 d.count.0 ++ zeros 24)) 1 6 (length v) v (le_length 1 n)
      ∙ ap (λ (z : List ℕ). le 1 n ++ z)
      (splice_past (le 2 0) (le 4 d.count.0 ++ zeros 24) 2 4 (length v) v (le_length 2 0)
      ∙ ap (λ (z : List ℕ). le 2 0 ++ z)
      (splice_past (le 4 d.count.0) (zeros 24) 4 0 (length v) v (le_length 4 d.count.0) ∙ ap (λ (z : List ℕ). le 4 d.count.0 ++ (v ++ z)) (zeros_drop (length v) 24 h))))
      ∙ ap (λ (m : ℕ). opened d m (v ++ zeros (24 - length v))) e

-- ---- an empty point block

pub empty_made : (b b1 b2 b3 b4 b5 b6 b7 x : List ℕ) (kind position : ℕ) (sender : Controller) (k : Key) → length b ≡ 512 → b1 ≡ splice b 0 512 (zeros 512) → b2 ≡ splice b1 0 1 (le 1 kind)
    → b3 ≡ splice b2 1 1 (le 1 1) → b4 ≡ splice b3 2 2 (le 2 position) → b5 ≡ splice b4 4 1 (le 1 k.job) → b6 ≡ splice b5 6 2 (le 2 k.point.0) → b7 ≡ splice b6 296 1 (le 1 sender.0) → x ≡ seal (take 508 b7)
    → x ≡ encode_point form_1 kind position (record { sender = sender; key = k; object = no_object })
unfolding encode_point make_block le pad encode_context
empty_made b b1 b2 b3 b4 b5 b6 b7 x kind position sender k size p1 p2 p3 p4 p5 p6 p7 p8 =
    p8
    ∙ ap (λ (z : List ℕ). seal (take 508 z))
    (p7 ∙ ap (λ (z : List ℕ). splice z 296 1 (le 1 sender.0))
    (p6 ∙ ap (λ (z : List ℕ). splice z 6 2 (le 2 k.point.0))
    (p5 ∙ ap (λ (z : List ℕ). splice z 4 1 (le 1 k.job))
    (p4 ∙ ap (λ (z : List ℕ). splice z 2 2 (le 2 position)) (p3 ∙ ap (λ (z : List ℕ). splice z 1 1 (le 1 1)) (p2 ∙ ap (λ (z : List ℕ). splice z 0 1 (le 1 kind)) (p1 ∙ cleared b 512 size)))))))
