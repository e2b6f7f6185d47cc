-- Texts put one behind the other are one text. Assumes nothing.
use Prim.Native.Nat.{ℕ, zero, suc, ◌+◌, ◌*◌, ◌≤◌}
use mathlib.Core.Path.{◌≡◌, refl, ap, sym, ◌∙◌, subst}
use mathlib.Core.List.{List, [], ◌∷◌, ◌++◌, append_assoc}
use native.Mathlib.Numerals.{add-one}
use native.Mathlib.Omega.{arith}
use lib.ListN.{length, take, drop, get_or, set, length-set, length-append, take-append-drop}
use lib.Seq.{set_split, drop-drop, ext_get_or}
use Rattle.numbers.specs.Words.{concat_map}
use Rattle.block.specs.Fields.{splice, upto}
use Rattle.block.proofs.Arrays.{upto_length, upto_at}
use Rattle.block.proofs.Parts.{splice_append, splice_same, splice_drop}
use Rattle.listing.specs.Put.{Put}

pub nothing_put : (d : List ℕ) (at : ℕ) → at ≤ length d → Put d at [] 0 d at
nothing_put d at h = record { bytes = sym (take-append-drop at d); ends = omega arith; fits = omega arith; room = h; size = refl }

pub byte_put : (d : List ℕ) (at x : ℕ) → at + 1 ≤ length d → Put d at (x ∷ []) 1 (set d at x) (at + 1)
byte_put d at x h = record {
  bytes = set_split d at x (omega arith) ∙ ap (λ (r : List ℕ). take at d ++ x ∷ r) (ap (λ (n : ℕ). drop n d) (sym (add-one at)) ∙ sym (drop-drop 1 at d));
  ends = refl;
  fits = omega arith;
  room = h;
  size = length-set d at x;
}

-- a text of fewer bytes has at most as many
pub at_most : {d : List ℕ} {at : ℕ} {t : List ℕ} {m : ℕ} {x : List ℕ} {e : ℕ} (n : ℕ) → Put d at t m x e → m ≤ n → Put d at t n x e
at_most n p l = record { bytes = p.bytes; ends = p.ends; fits = omega arith; room = p.room; size = p.size }

-- the same text, written in another way
pub as_text : {d : List ℕ} {at : ℕ} {t u : List ℕ} {m : ℕ} {x : List ℕ} {e : ℕ} → t ≡ u → Put d at t m x e → Put d at u m x e
as_text {d} {at} {t} {u} {m} {x} {e} q p = subst (λ (v : List ℕ). Put d at v m x e) q p

infixr 5 ◌then◌
pub ◌then◌ : {d : List ℕ} {at : ℕ} {t : List ℕ} {m : ℕ} {x : List ℕ} {b : ℕ} {u : List ℕ} {n : ℕ} {y : List ℕ} {e : ℕ}
    → Put d at t m x b → Put x b u n y e → Put d at (t ++ u) (m + n) y e
◌then◌ {d} {at} {t} {m} {x} {b} {u} {n} {y} {e} p q =
    let joined : length (t ++ u) ≡ length t + length u = length-append t u in
    record {
      bytes =
          q.bytes
          ∙ ap (λ (l : List ℕ). splice l b (length u) u) p.bytes
          ∙ ap (λ (o : ℕ). splice (splice d at (length t) t) o (length u) u) p.ends
          ∙ splice_append d at (length t) (length u) t u (omega arith) refl refl
          ∙ ap (λ (o : ℕ). splice d at o (t ++ u)) (sym joined);
      ends = omega arith;
      fits = omega arith;
      room = omega arith;
      size = q.size ∙ p.size;
    }

-- what the buffer holds afterwards, where the text stands at its start
pub whole : {d : List ℕ} {t : List ℕ} {m : ℕ} {x : List ℕ} {e : ℕ} {u : List ℕ} → Put d 0 t m x e → t ≡ u → (e ≤ m) × (take e x ≡ u) × (drop e x ≡ drop e d)
whole {d} {t} {m} {x} {e} {u} p same =
    let size : e ≡ length t = p.ends ∙ omega arith in (
      omega arith,
      ap (λ (n : ℕ). take n x) size ∙ ap (take (length t)) p.bytes ∙ splice_same d 0 (length t) t (omega arith) refl ∙ same,
      ap (drop e) p.bytes ∙ splice_drop d 0 (length t) t (omega arith) refl e (omega arith),
    )

-- ---- a loop that puts one text for each number

module _ {A : Type 0} (f : A → List ℕ) where
  upto_more : (i : ℕ) (g : ℕ → A) → concat_map f (upto i g) ++ f (g i) ≡ concat_map f (upto (suc i) g)
  upto_more zero g = sym (nothing_more (f (g 0)))
    where
      nothing_more : (l : List ℕ) → l ++ [] ≡ l
      nothing_more [] = refl
      nothing_more (x ∷ l) = ap (λ (r : List ℕ). x ∷ r) (nothing_more l)
  upto_more (suc i) g = append_assoc (f (g 0)) (concat_map f (upto i (λ k. g (suc k)))) (f (g (suc i))) ∙ ap (λ (l : List ℕ). f (g 0) ++ l) (upto_more i (λ k. g (suc k)))

  pub one_more : {d : List ℕ} {at : ℕ} {x : List ℕ} {b : ℕ} {y : List ℕ} {e : ℕ} (w i : ℕ) (g : ℕ → A)
      → Put d at (concat_map f (upto i g)) (w * i) x b → Put x b (f (g i)) w y e → Put d at (concat_map f (upto (i + 1) g)) (w * (i + 1)) y e
  one_more w i g p q =
      as_text (upto_more i g ∙ ap (λ (n : ℕ). concat_map f (upto n g)) (sym (add-one i))) (at_most (w * (i + 1)) (p then q) (omega (arith, ap (λ (n : ℕ). w * n) (add-one i), native.Mathlib.Nat.mul-suc w i)))

pub by_index : (l : List ℕ) → upto (length l) (λ i. get_or l i 0) ≡ l
by_index l = ext_get_or 0 (upto (length l) (λ i. get_or l i 0)) l (upto_length (length l) (λ i. get_or l i 0)) (λ i h. upto_at (length l) (λ i. get_or l i 0) 0 i (omega (arith, upto_length (length l) (λ i. get_or l i 0))))
