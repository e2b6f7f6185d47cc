-- A loop that puts the first n elements of s into d, from `at` on, one by one. Assumes nothing.
use Prim.Native.Nat.{ℕ, ◌+◌, ◌-◌, ◌≤◌, ◌<◌}
use mathlib.Core.Path.{◌≡◌, refl, ap, ◌∙◌}
use mathlib.Core.List.{List, ◌++◌, append_assoc}
use native.Mathlib.Decide.{dec_lt}
use native.Mathlib.Numerals.{add-one}
use native.Mathlib.Omega.{arith}
use lib.ListN.{length, take, drop, get_or, set, length-set, length-take, get_or-append}
use lib.Seq.{paste, paste-zero, paste-suc, length_paste_head, get_or-append-add, get_or-take, get_or-drop, drop-drop}
use Rattle.block.specs.Fields.{splice}

-- i elements are put, and the list is now x
pub record Copied (d : List ℕ) (at : ℕ) (s : List ℕ) (n i : ℕ) (x : List ℕ) : Type 0 where
  pub room : at + n ≤ length d
  pub long : n ≤ length s
  pub done : i ≤ n
  pub size : length x ≡ length d
  pub now_is : x ≡ paste d at s i

pub copied_none : (d : List ℕ) (at : ℕ) (s : List ℕ) (n : ℕ) → at + n ≤ length d → n ≤ length s → Copied d at s n 0 d
copied_none d at s n room long = record { room = room; long = long; done = omega arith; size = refl; now_is = paste-zero d at s }

module _ {d : List ℕ} {at : ℕ} {s : List ℕ} {n i : ℕ} {x : List ℕ} (c : Copied d at s n i x) where
  pub copied_more : {v : ℕ} → i < n → v ≡ get_or s i 0 → Copied d at s n (i + 1) (set x (at + i) v)
  copied_more {v} l e = record {
    room = c.room;
    long = c.long;
    done = omega arith;
    size = length-set x (at + i) v ∙ c.size;
    now_is = rw (c.now_is, e, add-one i) (paste-suc d at s i 0 (omega arith) (omega arith));
  }

  pub copied_all : (b : List ℕ) → n ≤ i → take n s ≡ b → x ≡ splice d at n b
  copied_all b l e =
      let full : i ≡ n = omega arith in
      (rw full at c.now_is) ∙ append_assoc (take at d) (take n s) (drop (at + n) d) ∙ rw (e, drop-drop n at d)

  -- what lies before the place, or behind what is put, is as it was
  pub copied_apart : (j : ℕ) → (at ≤ j → at + i ≤ j) → get_or x j 0 ≡ get_or d j 0
  copied_apart j apart =
      let front : List ℕ = take at d ++ take i s in
      let rest : List ℕ = drop (at + i) d in
      let size : length front ≡ at + i = length_paste_head d at s i (omega arith) (omega arith) in
      let start : length (take at d) ≡ at = simp length-take (omega arith) in
      let before : j < at → get_or (front ++ rest) j 0 ≡ get_or d j 0 =
      λ l. get_or-append front rest 0 j (omega arith) ∙ get_or-append (take at d) (take i s) 0 j (omega arith) ∙ get_or-take at d j 0 l in
      let behind : at + i ≤ j → get_or (front ++ rest) j 0 ≡ get_or d j 0 =
      λ l. let e : j ≡ length front + (j - (at + i)) = omega arith in
      let f : at + i + (j - (at + i)) ≡ j = omega arith in
      ap (λ (k : ℕ). get_or (front ++ rest) k 0) e ∙ get_or-append-add front rest (j - (at + i)) 0 ∙ get_or-drop (at + i) d (j - (at + i)) 0 ∙ ap (λ (k : ℕ). get_or d k 0) f in
      ap (λ (l : List ℕ). get_or l j 0) c.now_is ∙ elim (dec_lt j at) [ yes l ↦ before l | no l ↦ behind (apart (omega arith)) ]
