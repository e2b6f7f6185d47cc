-- A greeting, by the stores that make it. Assumes nothing.
use Prim.Native.Nat.{ℕ, ◌+◌, ◌-◌}
use mathlib.Core.Path.{◌≡◌, ap, sym, ◌∙◌}
use mathlib.Core.List.{List, ◌++◌}
use native.Mathlib.Omega.{arith}
use lib.ListN.{length, take}
use lib.Seq.{take-append-add}
use Rattle.numbers.specs.declared.Controller.{Controller}
use Rattle.block.specs.Fields.{le, splice, zeros, pad}
use Rattle.block.specs.Check.{seal}
use Rattle.block.specs.Block.{make_block}
use Rattle.block.proofs.Numbers.{Bytes}
use Rattle.block.proofs.Edits.{cleared}
use Rattle.layout.specs.Clocks.{decode_clock}
use Rattle.layout.specs.Messages.{encode_greeting}
use Rattle.head.proofs.Again.{clock_again}

module _ (kind points : ℕ) (sender addressee : Controller) (rows : List ℕ) (long : length rows ≡ 96) where
  abbrev front : List ℕ
  front = le 1 sender.0 ++ (le 1 addressee.0 ++ le 2 points)

  abbrev stored : List ℕ
  stored = splice (splice (splice (splice (splice (splice (zeros 512) 0 1 (le 1 kind)) 1 1 (le 1 1)) 4 1 (le 1 sender.0)) 5 1 (le 1 addressee.0)) 6 2 (le 2 points)) 8 96 rows

  -- the rows, and zeros up to the check
  rows_then : take 500 (rows ++ zeros 408) ≡ rows ++ zeros 404
  rows_then = ap (λ (n : ℕ). take (n + 404) (rows ++ zeros 408)) (sym long) ∙ take-append-add rows (zeros 408) 404

  before_check : take 508 stored ≡ le 1 kind ++ (le 1 1 ++ (le 2 0 ++ (front ++ (rows ++ zeros 404))))
  unfolding le
  before_check = ap (λ (l : List ℕ). le 1 kind ++ (le 1 1 ++ (le 2 0 ++ (front ++ l)))) rows_then

  padded : pad 504 (le 1 sender.0 ++ (le 1 addressee.0 ++ (le 2 points ++ rows))) ≡ front ++ (rows ++ zeros 404)
  unfolding pad le
  padded = ap (λ (n : ℕ). front ++ (rows ++ zeros (504 - n))) all_of_it
    where
      all_of_it : length (le 1 sender.0 ++ (le 1 addressee.0 ++ (le 2 points ++ rows))) ≡ 100
      all_of_it = omega (arith, long)

  pub greeting_stored : seal (take 508 stored) ≡ make_block kind 1 0 (le 1 sender.0 ++ (le 1 addressee.0 ++ (le 2 points ++ rows)))
  unfolding make_block
  greeting_stored = ap seal (before_check ∙ ap (λ (l : List ℕ). le 1 kind ++ (le 1 1 ++ (le 2 0 ++ l))) (sym padded))

pub greeting_is : (kind points : ℕ) (sender addressee : Controller) (rows b b1 b2 b3 b4 b5 b6 b7 x : List ℕ) → length b ≡ 512 → length rows ≡ 96 → Bytes rows → b1 ≡ splice b 0 512 (zeros 512) → b2 ≡ splice b1 0 1 (le 1 kind)
    → b3 ≡ splice b2 1 1 (le 1 1) → b4 ≡ splice b3 4 1 (le 1 sender.0) → b5 ≡ splice b4 5 1 (le 1 addressee.0) → b6 ≡ splice b5 6 2 (le 2 points) → b7 ≡ splice b6 8 (length rows) rows → x ≡ seal (take 508 b7)
    → x ≡ encode_greeting kind sender addressee points (decode_clock rows)
unfolding encode_greeting
greeting_is kind points sender addressee rows b b1 b2 b3 b4 b5 b6 b7 x size long small p1 p2 p3 p4 p5 p6 p7 e =
    e ∙ ap (λ (z : List ℕ). seal (take 508 z))
    (p7 ∙ ap (λ (n : ℕ). splice b6 8 n rows) long
    ∙ ap (λ (z : List ℕ). splice z 8 96 rows)
    (p6 ∙ ap (λ (z : List ℕ). splice z 6 2 (le 2 points))
    (p5 ∙ ap (λ (z : List ℕ). splice z 5 1 (le 1 addressee.0))
    (p4 ∙ ap (λ (z : List ℕ). splice z 4 1 (le 1 sender.0))
    (p3 ∙ ap (λ (z : List ℕ). splice z 1 1 (le 1 1)) (p2 ∙ ap (λ (z : List ℕ). splice z 0 1 (le 1 kind)) (p1 ∙ cleared b 512 size)))))))
    ∙ greeting_stored kind points sender addressee rows long
    ∙ ap (λ (l : List ℕ). make_block kind 1 0 (le 1 sender.0 ++ (le 1 addressee.0 ++ (le 2 points ++ l)))) (sym (clock_again rows long small))
