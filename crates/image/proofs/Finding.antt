-- What a search by halves among the stored points has shown. Assumes nothing.
use Prim.Native.Nat.{ℕ, ◌+◌, ◌*◌, ◌-◌, ◌≤◌, ◌<◌}
use mathlib.Core.Path.{◌≡◌, ap, sym, ◌∙◌}
use mathlib.Core.Bool.{false}
use mathlib.Core.List.{List}
use native.Mathlib.Omega.{arith}
use lib.ListN.{take, drop}
use Rattle.numbers.specs.declared.Key.{Key}
use Rattle.numbers.specs.Key.{key_before}
use Rattle.numbers.proofs.Dots.{tied_keys}
use Rattle.block.specs.Fields.{upto}
use Rattle.block.proofs.Arrays.{upto_at, upto_length}
use Rattle.block.proofs.Search.{Between, nowhere}
use Rattle.meaning.specs.State.{Stored}
use Rattle.layout.specs.PointBlock.{form_1, decode_point, decode_stored}
use Rattle.image.specs.Apart.{point_at}
use Rattle.image.specs.Places.{no_point, PointIn}
use Rattle.block.proofs.Runs.{block_part}
use Rattle.std.specs.Prelude.{Ok, Err}

-- the key that was read of a block, as it is lent
pub key_there : (img : List ℕ) (i : ℕ) {x : Key} → x ≡ (decode_point form_1 (take (512 * (3 + i) + 512 - 512 * (3 + i)) (drop (512 * (3 + i)) img))).key → x ≡ (point_at img i).key
unfolding decode_stored
key_there img i e = e ∙ ap (λ (b : List ℕ). (decode_point form_1 b).key) (block_part img (3 + i))

-- the points before low come before k, and those from high on after it
abbrev pub Halves : List ℕ → ℕ → Key → ℕ → ℕ → Type 0
Halves img n k low high = Between key_before n (λ j. (point_at img j).key) k low high

module _ (img : List ℕ) (n : ℕ) (k : Key) where
  pub point_found : (i : ℕ) → i < n → {x : Key} → x ≡ (point_at img i).key → key_before x k ≡ false → key_before k x ≡ false → PointIn (upto n (point_at img)) k (Ok i)
  point_found i l {x} q u v = (
    omega (arith, upto_length n (point_at img)),
    ap (λ (p : Stored). p.key) (upto_at n (point_at img) no_point i l) ∙ sym q ∙ tied_keys x k (u, v),
  )

  pub point_before : {low high : ℕ} → Halves img n k low high → high ≤ low → PointIn (upto n (point_at img)) k (Err low)
  point_before s h = nowhere (λ p. p.key) key_before n (point_at img) s h
