-- Parts of a list: laws of `cut` and `splice`, stated once for any place and size. Assumes nothing.
use Prim.Native.Nat.{ℕ, zero, suc, ◌+◌, ◌-◌, ◌≤◌}
use mathlib.Core.Path.{◌≡◌, ap, ap₂, sym, ◌∙◌}
use mathlib.Core.List.{List, [], ◌∷◌, ◌++◌, append_assoc}
use native.Mathlib.Nat.{add-sub_cancel_left, suc-add, zero-add}
use native.Mathlib.Omega.{arith}
use lib.ListN.{length, take, drop, replicate, length-take, length-drop, length-append, length-replicate}
use lib.Seq.{take-append-le, drop-append-le, take-take, take_at, drop_at, drop-drop, take-nil, take_all, take-add, take-append-add, drop-append-add}
use Rattle.block.specs.Fields.{cut, splice, pad}

module _ {A : Type 0} where
  -- a part is the end of a beginning
  pub take_drop : (m c : ℕ) (l : List A) → take m (drop c l) ≡ drop c (take (c + m) l)
  take_drop m zero l = rw zero-add
  take_drop m (suc c) [] = rw (take-nil, take-nil)
  take_drop m (suc c) (x ∷ xs) = rw suc-add (take_drop m c xs)

  pub length_cut : (l : List A) (a n : ℕ) → a + n ≤ length l → length (cut l a n) ≡ n
  length_cut l a n h = simp (length-take, length-drop) (omega arith)

  -- ---- parts of an append

  -- behind the first list
  pub cut_past : (a b : List A) (m o n : ℕ) → length a ≡ m → m ≤ o → cut (a ++ b) o n ≡ cut b (o - m) n
  cut_past a b m o n e h =
      let q : o ≡ length a + (o - m) = omega arith in
      ap (take n) (ap (λ (i : ℕ). drop i (a ++ b)) q ∙ drop-append-add a b (o - m))

  -- within the first list
  pub cut_within : (a b : List A) (o n : ℕ) → o + n ≤ length a → cut (a ++ b) o n ≡ cut a o n
  cut_within a b o n h = take_drop n o (a ++ b) ∙ ap (drop o) (take-append-le (o + n) a b h) ∙ sym (take_drop n o a)

  -- the first list itself
  pub cut_first : (a b : List A) (n : ℕ) → length a ≡ n → cut (a ++ b) 0 n ≡ a
  cut_first a b n e = take_at a b n e

  pub cut_whole : (a : List A) (n : ℕ) → length a ≡ n → cut a 0 n ≡ a
  cut_whole a n e = take_all n a (omega arith)

  -- a part of a part
  pub cut_cut : (l : List A) (a n c m : ℕ) → c + m ≤ n → cut (cut l a n) c m ≡ cut l (a + c) m
  cut_cut l a n c m h =
      take_drop m c (take n (drop a l))
      ∙ ap (drop c) (take-take (c + m) n (drop a l) h)
      ∙ sym (take_drop m c (drop a l))
      ∙ ap (take m) (drop-drop c a l)

  -- two parts one behind the other are one
  pub cut_join : (l : List A) (a m n : ℕ) → cut l a (m + n) ≡ cut l a m ++ cut l (a + m) n
  cut_join l a m n = take-add m n (drop a l) ∙ ap (λ (x : List A). cut l a m ++ take n x) (drop-drop m a l)

  -- ---- one part put anew

  module _ (l : List A) (a n : ℕ) (b : List A) (fits : a + n ≤ length l) (size : length b ≡ n) where
    la : length (take a l) ≡ a
    la = simp length-take (omega arith)

    pub splice_length : length (splice l a n b) ≡ length l
    splice_length = simp (length-append, length-take, length-drop) (omega arith)

    pub splice_take : (e : ℕ) → e ≤ a → take e (splice l a n b) ≡ take e l
    splice_take e h = take-append-le e (take a l) (b ++ drop n (drop a l)) (omega (arith, la)) ∙ take-take e a l h

    splice_at : drop a (splice l a n b) ≡ b ++ drop n (drop a l)
    splice_at = drop_at (take a l) (b ++ drop n (drop a l)) a la

    splice_rest : (x : ℕ) → drop (a + (n + x)) (splice l a n b) ≡ drop (a + (n + x)) l
    splice_rest x =
        sym (drop-drop (n + x) a (splice l a n b))
        ∙ ap (drop (n + x)) splice_at
        ∙ sym (drop-drop x n (b ++ drop n (drop a l)))
        ∙ ap (drop x) (drop_at b (drop n (drop a l)) n size)
        ∙ drop-drop x n (drop a l)
        ∙ drop-drop (n + x) a l

    pub splice_drop : (e : ℕ) → a + n ≤ e → drop e (splice l a n b) ≡ drop e l
    splice_drop e h =
        let q : e ≡ a + (n + (e - a - n)) = omega arith in
        rw q (splice_rest (e - a - n))

    pub splice_same : cut (splice l a n b) a n ≡ b
    splice_same = ap (take n) splice_at ∙ take_at b (drop n (drop a l)) n size

    pub splice_before : (c m : ℕ) → c + m ≤ a → cut (splice l a n b) c m ≡ cut l c m
    splice_before c m h = take_drop m c (splice l a n b) ∙ ap (drop c) (splice_take (c + m) h) ∙ sym (take_drop m c l)

    pub splice_after : (c m : ℕ) → a + n ≤ c → cut (splice l a n b) c m ≡ cut l c m
    splice_after c m h = ap (take m) (splice_drop c h)

    pub splice_again : (y : List A) → splice (splice l a n b) a n y ≡ splice l a n y
    splice_again y = rw (splice_take a (omega arith), splice_at, drop_at b (drop n (drop a l)) n size)

  -- two parts put anew one behind the other are one part, whichever is put first
  module _ (l : List A) (a m n : ℕ) (x y : List A) (fits : a + m + n ≤ length l) (first : length x ≡ m) (second : length y ≡ n) where
    pub splice_append : splice (splice l a m x) (a + m) n y ≡ splice l a (m + n) (x ++ y)
    splice_append =
        let front : length (take a l ++ x) ≡ a + m = simp (length-append, length-take) (omega arith) in
        let rest : List A = drop m (drop a l) in
        rw (← append_assoc (take a l) x rest, take_at (take a l ++ x) rest (a + m) front, drop_at (take a l ++ x) rest (a + m) front, drop-drop n m (drop a l))
        (append_assoc (take a l) x (y ++ drop (m + n) (drop a l)) ∙ ap (λ (z : List A). take a l ++ z) (sym (append_assoc x y (drop (m + n) (drop a l)))))

    pub splice_prepend : splice (splice l (a + m) n y) a m x ≡ splice l a (m + n) (x ++ y)
    splice_prepend =
        ap₂ (λ (u v : List A). u ++ (x ++ v)) (splice_take l (a + m) n y fits second a (omega arith))
        (drop-drop m a (splice l (a + m) n y) ∙ splice_at l (a + m) n y fits second ∙ ap (λ (z : List A). y ++ drop n z) (sym (drop-drop m a l)) ∙ ap (λ (z : List A). y ++ z) (drop-drop n m (drop a l)))
        ∙ ap (λ (z : List A). take a l ++ z) (sym (append_assoc x y (drop (m + n) (drop a l))))

  -- ---- one part of an append put anew

  -- in an append, the middle put anew
  pub splice_middle : (x y z : List A) (a n : ℕ) (b : List A) → length x ≡ a → length y ≡ n → splice (x ++ (y ++ z)) a n b ≡ x ++ (b ++ z)
  splice_middle x y z a n b p q =
      rw (take_at x (y ++ z) a p, drop_at x (y ++ z) a p, drop_at y z n q)

  -- behind the first list, and within it
  pub splice_past : (a b : List A) (m o n : ℕ) (y : List A) → length a ≡ m → splice (a ++ b) (m + o) n y ≡ a ++ splice b o n y
  splice_past a b m o n y e =
      let q : m + o ≡ length a + o = omega arith in
      ap₂ (λ (u v : List A). u ++ (y ++ drop n v)) (ap (λ (i : ℕ). take i (a ++ b)) q ∙ take-append-add a b o) (ap (λ (i : ℕ). drop i (a ++ b)) q ∙ drop-append-add a b o)
      ∙ append_assoc a (take o b) (y ++ drop n (drop o b))

  pub splice_within : (a b : List A) (o n : ℕ) (y : List A) → o + n ≤ length a → splice (a ++ b) o n y ≡ splice a o n y ++ b
  splice_within a b o n y h =
      ap₂ (λ (u v : List A). u ++ (y ++ v)) (take-append-le o a b (omega arith))
      (ap (drop n) (drop-append-le o a b (omega arith)) ∙ drop-append-le n (drop o a) b (omega (arith, length-drop o a)))
      ∙ ap (λ (z : List A). take o a ++ z) (sym (append_assoc y (drop n (drop o a)) b))
      ∙ sym (append_assoc (take o a) (y ++ drop n (drop o a)) b)

  -- what a part that is lent is, and what the whole is when it comes back
  pub part_is : (s : List A) (a n : ℕ) → take (a + n - a) (drop a s) ≡ cut s a n
  part_is s a n = rw add-sub_cancel_left

  pub part_back : (s : List A) (a n : ℕ) (b : List A) → take a s ++ (b ++ drop (a + n - a) (drop a s)) ≡ splice s a n b
  part_back s a n b = rw add-sub_cancel_left

-- ---- padding

pub pad_length : (n : ℕ) (l : List ℕ) → length l ≤ n → length (pad n l) ≡ n
unfolding pad
pad_length n l h = simp (length-append, length-replicate) (omega arith)

pub cut_pad : (n : ℕ) (l : List ℕ) (o m : ℕ) → o + m ≤ length l → cut (pad n l) o m ≡ cut l o m
unfolding pad
cut_pad n l o m h = cut_within l (replicate (n - length l) 0) o m h
