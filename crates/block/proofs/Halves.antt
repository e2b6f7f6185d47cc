-- A field is two halves, the lower one first: as it is read and as it is written, over the sizes of the halves. Assumes nothing.
use Prim.Native.Nat.{ℕ, zero, suc, ◌+◌, ◌*◌, ◌/◌, ◌%◌, ◌^◌, ◌≤◌, ◌<◌}
use mathlib.Core.Path.{◌≡◌, refl, ap, sym, ◌∙◌}
use mathlib.Core.List.{List, [], ◌∷◌, ◌++◌}
use native.Mathlib.Nat.{pow-zero, pow-succ', one-le-pow, mul_assoc, zero-add, suc-add, mod-lt, mod-eq_of_lt, mod-add-div, le_of_suc-le-suc}
use native.Mathlib.Omega.{arith}
use lib.ListN.{length, take, drop, get_or, set}
use lib.Seq.{take-add, drop-drop}
use Rattle.block.specs.Fields.{le, number, cut, splice, field}
use Rattle.block.proofs.Numbers.{le_length}
use Rattle.block.proofs.Parts.{length_cut, splice_append}

-- the next power, times h
up : (n h : ℕ) → 256 ^ suc n * h ≡ 256 * (256 ^ n * h)
up n h = ap (λ (p : ℕ). p * h) (pow-succ' 256 n) ∙ mul_assoc 256 (256 ^ n) h

pub number_append : (x y : List ℕ) → number (x ++ y) ≡ number x + 256 ^ length x * number y
unfolding number
number_append [] y = omega (arith, pow-zero 256)
number_append (b ∷ bs) y = omega (arith, number_append bs y, up (length bs) (number y))

pub le_append : (m n lo hi : ℕ) → lo < 256 ^ m → le m lo ++ le n hi ≡ le (m + n) (lo + 256 ^ m * hi)
unfolding le
le_append zero n lo hi h =
    let e : hi ≡ lo + 256 ^ 0 * hi = omega (arith, pow-zero 256) in
    rw (zero-add n, ← e)
le_append (suc m) n lo hi h =
    let s = up m hi in
    let low : (lo + 256 ^ suc m * hi) % 256 ≡ lo % 256 = omega arith in
    let high : (lo + 256 ^ suc m * hi) / 256 ≡ lo / 256 + 256 ^ m * hi = omega arith in
    rw (suc-add m n, low, high, le_append m n (lo / 256) hi (omega (arith, pow-succ' 256 m)))

-- a byte is a field of one
pub field_byte : (b : List ℕ) (a : ℕ) → get_or b a 0 ≡ field b a 1
unfolding field number
field_byte [] zero = refl
field_byte [] (suc a) = refl
field_byte (x ∷ b) zero = omega arith
field_byte (x ∷ b) (suc a) = field_byte b a

pub put_byte : (b : List ℕ) (a v : ℕ) → a < length b → v < 256 → set b a v ≡ splice b a 1 (le 1 v)
unfolding le
put_byte [] a v l h = absurd (omega arith)
put_byte (x ∷ b) zero v l h = rw (mod-eq_of_lt h)
put_byte (x ∷ b) (suc a) v l h = ap (λ (r : List ℕ). x ∷ r) (put_byte b a v (le_of_suc-le-suc l) h)

module _ (m n : ℕ) (b : List ℕ) (a : ℕ) where
  -- what two reads make
  pub read_halves : {lo hi : ℕ} → a + m ≤ length b → lo ≡ field b a m → hi ≡ field b (a + m) n → lo + 256 ^ m * hi ≡ field b a (m + n)
  unfolding field
  read_halves {lo} {hi} fits p q =
      sym
      (ap number (take-add m n (drop a b) ∙ ap (λ (l : List ℕ). cut b a m ++ take n l) (drop-drop m a b))
      ∙ number_append (cut b a m) (cut b (a + m) n)
      ∙ rw (length_cut b a m fits, p, q))

  -- what two writes make
  pub put_halves : (v : ℕ) {x y : List ℕ} → a + m + n ≤ length b → x ≡ splice b a m (le m (v % 256 ^ m)) → y ≡ splice x (a + m) n (le n (v / 256 ^ m))
      → y ≡ splice b a (m + n) (le (m + n) v)
  put_halves v {x} {y} fits p q =
      q
      ∙ ap (λ (l : List ℕ). splice l (a + m) n (le n (v / 256 ^ m))) p
      ∙ splice_append b a m n (le m (v % 256 ^ m)) (le n (v / 256 ^ m)) fits (le_length m (v % 256 ^ m)) (le_length n (v / 256 ^ m))
      ∙ ap (splice b a (m + n)) (le_append m n (v % 256 ^ m) (v / 256 ^ m) (mod-lt v (one-le-pow m 256 (omega arith))) ∙ ap (le (m + n)) (mod-add-div v (256 ^ m)))
