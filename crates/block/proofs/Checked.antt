-- A block that was sealed is 512 bytes long and its check is right. Assumes nothing.
use Prim.Native.Nat.{ℕ, ◌+◌, ◌*◌, ◌<◌}
use mathlib.Core.Path.{◌≡◌, ap, sym, ◌∙◌}
use mathlib.Core.Bool.{true}
use mathlib.Core.List.{List, [], ◌∷◌, ◌++◌}
use native.Mathlib.Omega.{arith}
use lib.ListN.{length, take, length-append}
use lib.Seq.{take_at, take_all}
use lib.Dec.{eqb}
use borrow.Author.Tests.{eq-eqb}
use Rattle.numbers.proofs.Tests.{and_both}
use Rattle.block.specs.declared.Sums.{Sums}
use Rattle.block.specs.Fields.{le, number, field}
use Rattle.block.specs.Check.{add_word, sums_from, sums, seal, sealed}
use Rattle.block.proofs.Numbers.{le_length, number_le}
use Rattle.block.proofs.Parts.{cut_past, cut_first, cut_whole}

-- both sums are below 65535
abbrev Low : Sums → Type 0
Low s = (s.s1 < 65535) × (s.s2 < 65535)

sums_low : (s : Sums) (l : List ℕ) → Low s → Low (sums_from s l)
unfolding sums_from
sums_low s [] h = h
sums_low s (a ∷ []) h = h
sums_low s (a ∷ b ∷ rest) h = sums_low (add_word s (a + 256 * b)) rest (omega arith, omega arith)

pub sums_bound : (b : List ℕ) → ((sums b).s1 < 65535) × ((sums b).s2 < 65535)
unfolding sums
sums_bound b = sums_low (record { s1 = 0; s2 = 0 }) (take 508 b) (omega arith, omega arith)

-- the sums look at the first 508 bytes alone
pub sums_of_body : (body rest : List ℕ) → length body ≡ 508 → sums (body ++ rest) ≡ sums body
unfolding sums
sums_of_body body rest e = ap (sums_from (record { s1 = 0; s2 = 0 })) (take_at body rest 508 e ∙ sym (take_all 508 body (omega arith)))

module _ (body : List ℕ) (size : length body ≡ 508) where
  pub seal_length : length (seal body) ≡ 512
  unfolding seal
  seal_length = simp (length-append, le_length) (omega arith)

  s1_at : field (seal body) 508 2 ≡ (sums body).s1
  unfolding seal field
  s1_at =
      ap number (cut_past body (le 2 (sums body).s1 ++ le 2 (sums body).s2) 508 508 2 size (omega arith) ∙ cut_first (le 2 (sums body).s1) (le 2 (sums body).s2) 2 (le_length 2 (sums body).s1))
      ∙ number_le 2 (sums body).s1 (omega (arith, (sums_bound body).0))

  s2_at : field (seal body) 510 2 ≡ (sums body).s2
  unfolding seal field
  s2_at =
      ap number
      (cut_past body (le 2 (sums body).s1 ++ le 2 (sums body).s2) 508 510 2 size (omega arith)
      ∙ cut_past (le 2 (sums body).s1) (le 2 (sums body).s2) 2 2 2 (le_length 2 (sums body).s1) (omega arith)
      ∙ cut_whole (le 2 (sums body).s2) 2 (le_length 2 (sums body).s2))
      ∙ number_le 2 (sums body).s2 (omega (arith, (sums_bound body).1))

  same_sums : sums (seal body) ≡ sums body
  unfolding seal
  same_sums = sums_of_body body (le 2 (sums body).s1 ++ le 2 (sums body).s2) size

  pub seal_sealed : sealed (seal body) ≡ true
  unfolding sealed
  seal_sealed =
      and_both (eqb (field (seal body) 508 2) (sums (seal body)).s1) (eqb (field (seal body) 510 2) (sums (seal body)).s2)
      (eq-eqb (field (seal body) 508 2) (sums (seal body)).s1 (s1_at ∙ sym (ap (λ (s : Sums). s.s1) same_sums)))
      (eq-eqb (field (seal body) 510 2) (sums (seal body)).s2 (s2_at ∙ sym (ap (λ (s : Sums). s.s2) same_sums)))
