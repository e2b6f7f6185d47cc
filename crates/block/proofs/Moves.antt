-- A part that is moved within a run, eight bytes at a time, from its end or from its beginning. Assumes nothing.
use Prim.Native.Nat.{ℕ, ◌+◌, ◌*◌, ◌-◌, ◌≤◌, ◌<◌}
use mathlib.Core.Path.{◌≡◌, refl, ap, ap₂, sym, ◌∙◌, subst}
use mathlib.Core.List.{List}
use native.Mathlib.Omega.{arith}
use lib.ListN.{length, take-append-drop}
use Rattle.block.specs.Fields.{le, number, cut, splice, field}
use Rattle.block.proofs.Numbers.{Bytes, le_field}
use Rattle.block.proofs.Parts.{length_cut, cut_join, splice_before, splice_after, splice_append, splice_prepend}

-- the n bytes at q stand at p too, and the run is now x
abbrev Moved : List ℕ → ℕ → ℕ → ℕ → List ℕ → Type 0
Moved l q p n x = x ≡ splice l p n (cut l q n)

same_field : (a b : List ℕ) (o n : ℕ) → cut a o n ≡ cut b o n → field a o n ≡ field b o n
unfolding field
same_field a b o n e = ap number e

-- eight more, before those that were moved or behind them. What is read of the run now is still what was there
module _ (l : List ℕ) (bytes : Bytes l) (q p n : ℕ) (x y : List ℕ) (v : ℕ) (from : q + 8 + n ≤ length l) (to : p + 8 + n ≤ length l) where
  before : q ≤ p → Moved l (q + 8) (p + 8) n x → v ≡ field x q 8 → y ≡ splice x p 8 (le 8 v) → Moved l q p (8 + n) y
  before h m e d =
      d
      ∙ ap₂ (λ (a b : List ℕ). splice a p 8 b) m (ap (le 8) e ∙ same_bytes)
      ∙ splice_prepend l p 8 n (cut l q 8) (cut l (q + 8) n) to (length_cut l q 8 (omega arith)) (length_cut l (q + 8) n from)
      ∙ ap (splice l p (8 + n)) (sym (cut_join l q 8 n))
    where
      read : cut x q 8 ≡ cut l q 8
      read = ap (λ (z : List ℕ). cut z q 8) m ∙ splice_before l (p + 8) n (cut l (q + 8) n) to (length_cut l (q + 8) n from) q 8 (omega arith)

      same_bytes : le 8 (field x q 8) ≡ cut l q 8
      same_bytes = ap (le 8) (same_field x l q 8 read) ∙ le_field l q 8 bytes (omega arith)

  behind : p ≤ q → Moved l q p n x → v ≡ field x (q + n) 8 → y ≡ splice x (p + n) 8 (le 8 v) → Moved l q p (n + 8) y
  behind h m e d =
      d
      ∙ ap₂ (λ (a b : List ℕ). splice a (p + n) 8 b) m (ap (le 8) e ∙ same_bytes)
      ∙ splice_append l p n 8 (cut l q n) (cut l (q + n) 8) (omega arith) (length_cut l q n (omega arith)) (length_cut l (q + n) 8 (omega arith))
      ∙ ap (splice l p (n + 8)) (sym (cut_join l q n 8))
    where
      read : cut x (q + n) 8 ≡ cut l (q + n) 8
      read = ap (λ (z : List ℕ). cut z (q + n) 8) m ∙ splice_after l p n (cut l q n) (omega arith) (length_cut l q n (omega arith)) (q + n) 8 (omega arith)

      same_bytes : le 8 (field x (q + n) 8) ≡ cut l (q + n) 8
      same_bytes = ap (le 8) (same_field x l (q + n) 8 read) ∙ le_field l (q + n) 8 bytes (omega arith)

none : (l : List ℕ) (q p : ℕ) → Moved l q p 0 l
none l q p = sym (take-append-drop p l)

-- ---- from the end: the eights from k on are moved

pub record MovedFrom (l : List ℕ) (from to words k : ℕ) (x : List ℕ) : Type 0 where
  pub few : k ≤ words
  pub size : length x ≡ length l
  pub moved : Moved l (from + 8 * k) (to + 8 * k) (8 * (words - k)) x

module _ {l : List ℕ} {from to words : ℕ} (up : from ≤ to) (fits : to + 8 * words ≤ length l) where
  pub from_end : MovedFrom l from to words words l
  from_end = record { few = omega arith; size = refl; moved = subst (λ (n : ℕ). Moved l (from + 8 * words) (to + 8 * words) n l) nought (none l (from + 8 * words) (to + 8 * words)) }
    where
      nought : 0 ≡ 8 * (words - words)
      nought = omega arith

  pub next_below : {k : ℕ} {x y : List ℕ} {v : ℕ} → Bytes l → MovedFrom l from to words k x → 0 < k → v ≡ field x (from + 8 * (k - 1)) 8 → y ≡ splice x (to + 8 * (k - 1)) 8 (le 8 v) → length y ≡ length x
      → MovedFrom l from to words (k - 1) y
  next_below {k} {x} {y} {v} bytes m pos e d len =
      record {
        few = omega (arith, m.few);
        size = len ∙ m.size;
        moved = subst (λ (n : ℕ). Moved l (from + 8 * (k - 1)) (to + 8 * (k - 1)) n y) more
            (before l bytes (from + 8 * (k - 1)) (to + 8 * (k - 1)) (8 * (words - k)) x y v (omega (arith, m.few)) (omega (arith, m.few)) (omega arith)
            (subst (λ (i : ℕ). Moved l i (to + 8 * (k - 1) + 8) (8 * (words - k)) x) here (subst (λ (i : ℕ). Moved l (from + 8 * k) i (8 * (words - k)) x) there m.moved)) e d);
      }
    where
      more : 8 + 8 * (words - k) ≡ 8 * (words - (k - 1))
      more = omega (arith, m.few)

      here : from + 8 * k ≡ from + 8 * (k - 1) + 8
      here = omega arith

      there : to + 8 * k ≡ to + 8 * (k - 1) + 8
      there = omega arith

  pub all_from : {k : ℕ} {x : List ℕ} → MovedFrom l from to words k x → k ≤ 0 → x ≡ splice l to (8 * words) (cut l from (8 * words))
  all_from {k} {x} m z =
      m.moved ∙ ap₂ (λ (q p : ℕ). splice l p (8 * (words - k)) (cut l q (8 * (words - k)))) here there ∙ ap (λ (n : ℕ). splice l to n (cut l from n)) whole
    where
      here : from + 8 * k ≡ from
      here = omega arith

      there : to + 8 * k ≡ to
      there = omega arith

      whole : 8 * (words - k) ≡ 8 * words
      whole = omega arith

-- ---- from the beginning: the eights before k are moved

pub record MovedTo (l : List ℕ) (from to words k : ℕ) (x : List ℕ) : Type 0 where
  pub few : k ≤ words
  pub size : length x ≡ length l
  pub moved : Moved l from to (8 * k) x

module _ {l : List ℕ} {from to words : ℕ} (down : to ≤ from) (fits : from + 8 * words ≤ length l) where
  pub from_start : MovedTo l from to words 0 l
  from_start = record { few = omega arith; size = refl; moved = none l from to }

  pub next_above : {k : ℕ} {x y : List ℕ} {v : ℕ} → Bytes l → MovedTo l from to words k x → k < words → v ≡ field x (from + 8 * k) 8 → y ≡ splice x (to + 8 * k) 8 (le 8 v) → length y ≡ length x
      → MovedTo l from to words (k + 1) y
  next_above {k} {x} {y} {v} bytes m left e d len =
      record {
        few = omega arith;
        size = len ∙ m.size;
        moved = subst (λ (n : ℕ). Moved l from to n y) more (behind l bytes from to (8 * k) x y v (omega arith) (omega arith) down m.moved e d);
      }
    where
      more : 8 * k + 8 ≡ 8 * (k + 1)
      more = omega arith

  pub all_to : {k : ℕ} {x : List ℕ} → MovedTo l from to words k x → words ≤ k → x ≡ splice l to (8 * words) (cut l from (8 * words))
  all_to {k} {x} m z = m.moved ∙ ap (λ (n : ℕ). splice l to n (cut l from n)) whole
    where
      whole : 8 * k ≡ 8 * words
      whole = omega (arith, m.few)
