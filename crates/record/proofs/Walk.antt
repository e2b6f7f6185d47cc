-- Parts that are written one after the other, compared with bytes from a place on. Assumes nothing.
use Prim.Native.Nat.{ℕ, ◌+◌, ◌-◌, ◌^◌, ◌≤◌, ◌<◌}
use mathlib.Core.Path.{◌≡◌, sym, ap, ◌∙◌}
use mathlib.Core.Bool.{Bool, ◌&&◌}
use mathlib.Core.List.{List, ◌++◌}
use native.Mathlib.Omega.{arith}
use lib.ListN.{length, drop, length-drop, length-replicate}
use lib.Seq.{drop-drop, take_all}
use lib.Dec.{eqb}
use Rattle.numbers.specs.Words.{all?, same_list}
use Rattle.block.specs.Fields.{le, cut, field, zeros, pad}
use Rattle.block.proofs.Numbers.{Bytes, le_length}
use Rattle.block.proofs.Same.{same_parts, same_field, same_number, same_zeros}

-- a part of n bytes at o, and the rest behind it
pub same_at : (x y b : List ℕ) (o n : ℕ) → length x ≡ n → length b ≡ o + n + length y
    → same_list (x ++ y) (drop o b) ≡ (same_list x (cut b o n) && same_list y (drop (o + n) b))
same_at x y b o n p q =
    same_parts x y (drop o b) n p (length-drop o b ∙ omega arith) ∙ ap (λ (l : List ℕ). same_list x (cut b o n) && same_list y l) (drop-drop n o b)

module _ (y b : List ℕ) (o n v : ℕ) (h : Bytes b) (e : length b ≡ o + n + length y) where
  -- a number that was read at its place is the same
  pub same_read : v ≡ field b o n → same_list (le n v ++ y) (drop o b) ≡ same_list y (drop (o + n) b)
  same_read r =
      same_at (le n v) y b o n (le_length n v) e
      ∙ ap (λ (t : Bool). t && same_list y (drop (o + n) b)) (ap (λ (x : ℕ). same_list (le n x) (cut b o n)) r ∙ same_field b o n h (omega arith))

  pub same_said : v < 256 ^ n → same_list (le n v ++ y) (drop o b) ≡ (eqb (field b o n) v && same_list y (drop (o + n) b))
  same_said s =
      same_at (le n v) y b o n (le_length n v) e
      ∙ ap (λ (t : Bool). t && same_list y (drop (o + n) b)) (same_number b o n v h (omega arith) s)

-- "padded with zeros to" w bytes
pub same_pad : (w : ℕ) (x b : List ℕ) (n : ℕ) → length x ≡ n → n ≤ w → length b ≡ w
    → same_list (pad w x) b ≡ (same_list x (cut b 0 n) && all? (λ z. eqb z 0) (cut b n (w - n)))
unfolding pad
same_pad w x b n p l q =
    same_parts x (zeros (w - length x)) b n p (omega (arith, length-replicate {A = ℕ} (w - length x) 0))
    ∙ ap (λ (t : Bool). same_list x (cut b 0 n) && t)
    (ap (λ (k : ℕ). same_list (zeros (w - k)) (drop n b)) p
    ∙ same_zeros (w - n) (drop n b) (length-drop n b ∙ omega arith)
    ∙ ap (λ (l : List ℕ). all? (λ z. eqb z 0) l) (sym (take_all (w - n) (drop n b) (omega (arith, length-drop n b)))))
