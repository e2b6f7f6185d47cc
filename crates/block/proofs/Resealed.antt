-- A block that is edited before its check is made anew: what stands before the check. Assumes nothing.
use Prim.Native.Nat.{ℕ, ◌+◌, ◌≤◌}
use mathlib.Core.Path.{◌≡◌, ap, sym, ◌∙◌}
use mathlib.Core.List.{List, ◌++◌}
use native.Mathlib.Omega.{arith}
use lib.ListN.{length, take, drop, length-take}
use lib.Seq.{take_at, take-take}
use Rattle.block.specs.Fields.{le, number, cut, splice, field}
use Rattle.block.specs.Check.{sums, seal}
use Rattle.block.specs.Block.{resealed, Laid}
use Rattle.block.proofs.Parts.{take_drop, splice_length, splice_within}

-- the block's 508 bytes before its check
pub record Body (b y : List ℕ) : Type 0 where
  pub size : length b ≡ 512
  pub is : take 508 b ≡ y

module _ (b : List ℕ) (size : length b ≡ 512) where
  front : length (take 508 b) ≡ 508
  front = length-take 508 b ∙ omega arith

  take_resealed : take 508 (resealed b) ≡ take 508 b
  unfolding resealed seal
  take_resealed = take_at (take 508 b) (le 2 (sums (take 508 b)).s1 ++ le 2 (sums (take 508 b)).s2) 508 front

  -- what is read before the check is the same once the check is made
  pub cut_resealed : (o n : ℕ) → o + n ≤ 508 → cut (resealed b) o n ≡ cut b o n
  cut_resealed o n h =
      take_drop n o (resealed b) ∙ ap (drop o) (sym (take-take (o + n) 508 (resealed b) h) ∙ ap (take (o + n)) take_resealed ∙ take-take (o + n) 508 b h) ∙ sym (take_drop n o b)

  pub field_resealed : (o n : ℕ) → o + n ≤ 508 → field (resealed b) o n ≡ field b o n
  unfolding field
  field_resealed o n h = ap number (cut_resealed o n h)

  -- laid out as y, but for its check
  pub body_of : (y : List ℕ) → length y ≡ 508 → resealed b ≡ seal y → Body b y
  body_of y e h = record { size = size; is = sym take_resealed ∙ ap (take 508) h ∙ (unfold seal in take_at y (le 2 (sums y).s1 ++ le 2 (sums y).s2) 508 e) }

pub body_resealed : {b y : List ℕ} → Body b y → resealed b ≡ seal y
unfolding resealed
body_resealed B = ap seal B.is

-- a block whose check is right already
pub sealed_body : (y : List ℕ) (b : List ℕ) → length b ≡ 512 → length y ≡ 508 → b ≡ seal y → Body b y
sealed_body y b size e h = record { size = size; is = ap (take 508) h ∙ (unfold seal in take_at y (le 2 (sums y).s1 ++ le 2 (sums y).s2) 508 e) }

-- a part before the check put anew
pub body_put : {b y x : List ℕ} (a n : ℕ) (z : List ℕ) → Body b y → a + n ≤ 508 → length z ≡ n → x ≡ splice b a n z → Body x (splice y a n z)
body_put {b} {y} {x} a n z B h e d = record {
  size = ap length d ∙ splice_length b a n z (omega (arith, B.size)) e ∙ B.size;
  is = ap (take 508) d ∙ ap (take 508) (ap (λ (l : List ℕ). splice l a n z) (sym (lib.ListN.take-append-drop 508 b)) ∙ splice_within (take 508 b) (drop 508 b) a n z (omega (arith, front b B.size)))
      ∙ take_at (splice (take 508 b) a n z) (drop 508 b) 508 (splice_length (take 508 b) a n z (omega (arith, front b B.size)) e ∙ front b B.size)
      ∙ ap (λ (l : List ℕ). splice l a n z) B.is;
}

-- what a part before the check is
pub body_cut : {b y : List ℕ} (o n : ℕ) → Body b y → o + n ≤ 508 → cut b o n ≡ cut y o n
body_cut {b} {y} o n B h = take_drop n o b ∙ ap (drop o) (sym (take-take (o + n) 508 b h)) ∙ sym (take_drop n o (take 508 b)) ∙ ap (λ (l : List ℕ). cut l o n) B.is

-- a part before the check moved to another place before it
pub body_move : {b y x : List ℕ} (from to n : ℕ) → Body b y → from + n ≤ 508 → to + n ≤ 508 → x ≡ splice b to n (cut b from n) → Body x (splice y to n (cut y from n))
body_move {b} {y} {x} from to n B h g d =
    body_put to n (cut y from n) B g (Rattle.block.proofs.Parts.length_cut y from n (omega (arith, ap length (sym B.is), front b B.size))) (d ∙ ap (splice b to n) (body_cut from n B h))

-- what an edit has to show: the block is laid out as x, and x is read back
pub edited : {A : Type 0} (lay : A → List ℕ) (view : List ℕ → A) (x : A) (b : List ℕ) → view b ≡ view (resealed b) → view (lay x) ≡ x → resealed b ≡ lay x → (view b ≡ x) × Laid lay view b
edited lay view x b same back e =
    let is : view b ≡ x = same ∙ ap view e ∙ back in
    (is, e ∙ ap lay (sym is))
