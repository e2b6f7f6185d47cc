-- The check as a loop sums it, with one remainder at the end, and as it is written. Assumes nothing.
use Prim.Native.Nat.{ℕ, ◌+◌, ◌*◌, ◌%◌, ◌<◌}
use mathlib.Core.Path.{◌≡◌, ap, sym, ◌∙◌}
use mathlib.Core.List.{List, [], ◌∷◌, ◌++◌, append-nil}
use native.Mathlib.Nat.{mod-add-mod, add-mod}
use native.Mathlib.Omega.{arith}
use lib.ListN.{length, take, drop, length-drop, drop_of_length-le}
use lib.Seq.{take-take}
use Rattle.block.specs.declared.Sums.{Sums}
use Rattle.block.specs.Fields.{le, number, splice, field}
use Rattle.block.specs.Check.{add_word, sums_from, sums, seal}
use Rattle.block.proofs.Numbers.{le_length}
use Rattle.block.proofs.Parts.{splice_append}
use Rattle.block.proofs.Checked.{sums_bound}

-- plain sums, with the remainder taken
abbrev pub reduced : ℕ → ℕ → Sums
reduced s t = record { s1 = s % 65535; s2 = t % 65535 }

-- it is the same whether it is taken at every word or once
reduce_later : (s t w : ℕ) → add_word (reduced s t) w ≡ reduced (s + w) (t + (s + w))
reduce_later s t w =
    let p = mod-add-mod s 65535 w in
    let q = ap (λ (r : ℕ). (t % 65535 + r) % 65535) p ∙ sym (add-mod t (s + w) 65535) in
    λ i. record { s1 = p i; s2 = q i }

-- the two bytes in front are the next word
word_first : (s : Sums) (x l : List ℕ) → length x ≡ 2 → sums_from s (x ++ l) ≡ sums_from (add_word s (field x 0 2)) l
unfolding sums_from field number
word_first s [] l e = absurd (omega arith)
word_first s (a ∷ []) l e = absurd (omega arith)
word_first s (a ∷ b ∷ []) l e =
    let q : a + 256 * b ≡ a + 256 * (b + 256 * 0) = omega arith in
    ap (λ (w : ℕ). sums_from (add_word s w) l) q
word_first s (a ∷ b ∷ c ∷ x) l e = absurd (omega arith)

module _ (b : List ℕ) where
  -- a turn of the loop, with the word w of the two bytes x in front of the rest
  pub sums_more : (s t : ℕ) {w : ℕ} {l : List ℕ} (x r : List ℕ) → l ≡ x ++ r → length x ≡ 2 → w ≡ field x 0 2 → sums_from (reduced s t) l ≡ sums b → sums_from (reduced (s + w) (t + (s + w))) r ≡ sums b
  sums_more s t {w} {l} x r p size e q =
      ap (λ (u : Sums). sums_from u r) (sym (reduce_later s t w) ∙ ap (add_word (reduced s t)) e)
      ∙ sym (word_first (reduced s t) x r size)
      ∙ ap (sums_from (reduced s t)) (sym p)
      ∙ q

  -- no word is left
  pub sums_all : (s t : ℕ) (l : List ℕ) → length l < 2 → sums_from (reduced s t) l ≡ sums b → reduced s t ≡ sums b
  unfolding sums_from
  sums_all s t [] h p = p
  sums_all s t (x ∷ []) h p = p
  sums_all s t (x ∷ y ∷ l) h p = absurd (omega arith)

  pub sums_small : {s : Sums} → s ≡ sums b → (s.s1 < 65535) × (s.s2 < 65535)
  sums_small e = rw e (sums_bound b)

  -- both sums put behind the first 508 bytes
  pub seal_put : {s : Sums} {x y : List ℕ} → length b ≡ 512 → s ≡ sums b → x ≡ splice b 508 2 (le 2 s.s1) → y ≡ splice x 510 2 (le 2 s.s2) → y ≡ seal (take 508 b)
  unfolding seal sums
  seal_put {s} {x} {y} size e p q =
      let none : drop 4 (drop 508 b) ≡ [] = drop_of_length-le (drop 508 b) {i = 4} (simp length-drop (omega arith)) in
      q
      ∙ ap (λ (l : List ℕ). splice l 510 2 (le 2 s.s2)) p
      ∙ splice_append b 508 2 2 (le 2 s.s1) (le 2 s.s2) (omega arith) (le_length 2 s.s1) (le_length 2 s.s2)
      ∙ rw (none, append-nil (le 2 s.s1 ++ le 2 s.s2), take-take 508 508 b (omega arith), e)
