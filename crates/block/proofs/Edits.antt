-- Edits of what is laid out: in an array, in an array with zeros behind it, in the content of a block. Assumes nothing.
use Prim.Native.Nat.{ℕ, suc, ◌+◌, ◌*◌, ◌-◌, ◌≤◌, ◌<◌}
use mathlib.Core.Path.{◌≡◌, refl, ap, ap₂, sym, ◌∙◌, subst}
use mathlib.Core.List.Memᴰ
use mathlib.Core.List.{List, [], ◌∷◌, ◌++◌, append_assoc, append-nil}
use native.Mathlib.Nat.{mul-suc, mul-add, mul-one, mul-le-mul_left}
use native.Mathlib.Omega.{arith}
use lib.ListN.{length, take, drop, get_or, drop_of_length-le, take-append-drop, length-append, length-take, length-drop, length-replicate, replicate-append-replicate}
use lib.Seq.{drop_at, drop-cons, drop-append-add, take_at}
use Rattle.numbers.specs.Words.{concat_map}
use Rattle.block.specs.Fields.{le, cut, splice, put_at, insert_at, remove_at, zeros, pad}
use Rattle.block.specs.Block.{body}
use Rattle.block.proofs.Numbers.{le_length}
use Rattle.block.proofs.Arrays.{in_take, in_drop, get_or_in, all_of_splice, only, EachOf, array_length}
use Rattle.block.proofs.Parts.{cut_past, cut_within, pad_length, splice_length, splice_middle, splice_past, splice_within, splice_append, splice_prepend, length_cut}

-- ---- an array of parts of w bytes, and what stands behind it

module _ {A : Type 0} (w : ℕ) (enc : A → List ℕ) where
  concat_append : (xs ys : List A) → concat_map enc (xs ++ ys) ≡ concat_map enc xs ++ concat_map enc ys
  concat_append [] ys = refl
  concat_append (x ∷ xs) ys = ap (λ (l : List ℕ). enc x ++ l) (concat_append xs ys) ∙ sym (append_assoc (enc x) (concat_map enc xs) (concat_map enc ys))

  module _ (xs : List A) (size : EachOf w enc xs) where
    abbrev low : ℕ → List ℕ
    low i = concat_map enc (take i xs)

    abbrev high : ℕ → List ℕ
    high i = concat_map enc (drop i xs)

    low_length : (i : ℕ) → i ≤ length xs → length (low i) ≡ w * i
    low_length i h = array_length w enc (take i xs) (λ x m. size x (in_take i xs m)) ∙ ap (λ (n : ℕ). w * n) (length-take i xs ∙ omega arith)

    high_length : (i : ℕ) → length (high i) ≡ w * (length xs - i)
    high_length i = array_length w enc (drop i xs) (λ x m. size x (in_drop i xs m)) ∙ ap (λ (n : ℕ). w * n) (length-drop i xs)

    parted : (i : ℕ) → concat_map enc xs ≡ low i ++ high i
    parted i = ap (concat_map enc) (sym (take-append-drop i xs)) ∙ concat_append (take i xs) (drop i xs)

    -- k of them from the i-th on, put anew
    pub array_splice : (ys : List A) (i k : ℕ) (z : List ℕ) → i + k ≤ length xs → splice (concat_map enc xs ++ z) (w * i) (w * k) (concat_map enc ys) ≡ concat_map enc (splice xs i k ys) ++ z
    array_splice ys i k z h =
        ap (λ (l : List ℕ). splice l (w * i) (w * k) (concat_map enc ys)) whole
        ∙ splice_middle (low i) mid (last ++ z) (w * i) (w * k) (concat_map enc ys) (low_length i (omega arith)) mid_length
        ∙ sym
        (ap (λ (l : List ℕ). l ++ z)
        (concat_append (take i xs) (ys ++ drop k (drop i xs)) ∙ ap (λ (l : List ℕ). low i ++ l) (concat_append ys (drop k (drop i xs))))
        ∙ append_assoc (low i) (concat_map enc ys ++ last) z
        ∙ ap (λ (l : List ℕ). low i ++ l) (append_assoc (concat_map enc ys) last z))
      where
        mid : List ℕ
        mid = concat_map enc (take k (drop i xs))

        last : List ℕ
        last = concat_map enc (drop k (drop i xs))

        mid_length : length (concat_map enc (take k (drop i xs))) ≡ w * k
        mid_length = array_length w enc (take k (drop i xs)) (λ x m. size x (in_drop i xs (in_take k (drop i xs) m))) ∙ ap (λ (n : ℕ). w * n) (length-take k (drop i xs) ∙ omega (arith, length-drop i xs))

        rest : high i ≡ concat_map enc (take k (drop i xs)) ++ concat_map enc (drop k (drop i xs))
        rest = ap (concat_map enc) (sym (take-append-drop k (drop i xs))) ∙ concat_append (take k (drop i xs)) (drop k (drop i xs))

        whole : concat_map enc xs ++ z ≡ low i ++ (concat_map enc (take k (drop i xs)) ++ (concat_map enc (drop k (drop i xs)) ++ z))
        whole =
            ap (λ (l : List ℕ). l ++ z) (parted i ∙ ap (λ (l : List ℕ). low i ++ l) rest)
            ∙ append_assoc (low i) (concat_map enc (take k (drop i xs)) ++ concat_map enc (drop k (drop i xs))) z
            ∙ ap (λ (l : List ℕ). low i ++ l) (append_assoc (concat_map enc (take k (drop i xs))) (concat_map enc (drop k (drop i xs))) z)

    -- a part of one of them put anew is that one put anew
    pub sub_splice : (i o n : ℕ) (y : List ℕ) (d : A) → i < length xs → o + n ≤ w → length y ≡ n
        → splice (concat_map enc xs) (w * i + o) n y ≡ splice (concat_map enc xs) (w * i) w (splice (enc (get_or xs i d)) o n y)
    sub_splice i o n y d h room e =
        ap (λ (l : List ℕ). splice l (w * i + o) n y) whole
        ∙ splice_past (low i) (this ++ last) (w * i) o n y (low_length i (omega arith))
        ∙ ap (λ (l : List ℕ). low i ++ l) (splice_within this last o n y (omega (arith, this_length)))
        ∙ sym (ap (λ (l : List ℕ). splice l (w * i) w (splice this o n y)) whole ∙ splice_middle (low i) this last (w * i) w (splice this o n y) (low_length i (omega arith)) this_length)
      where
        this : List ℕ
        this = enc (get_or xs i d)

        last : List ℕ
        last = concat_map enc (drop (suc i) xs)

        this_length : length (enc (get_or xs i d)) ≡ w
        this_length = size (get_or xs i d) (get_or_in xs i d h)

        whole : concat_map enc xs ≡ low i ++ (enc (get_or xs i d) ++ concat_map enc (drop (suc i) xs))
        whole = parted i ∙ ap (λ (l : List A). low i ++ concat_map enc l) (drop-cons xs i d h)

    -- one of them put anew
    pub array_put : (y : A) (i : ℕ) (z : List ℕ) → i < length xs → splice (concat_map enc xs ++ z) (w * i) w (enc y) ≡ concat_map enc (put_at xs i y) ++ z
    array_put y i z h =
        ap₂ (λ (n : ℕ) (l : List ℕ). splice (concat_map enc xs ++ z) (w * i) n l) (sym (mul-one w)) (sym (append-nil (enc y))) ∙ array_splice (y ∷ []) i 1 z (omega arith)

    abbrev run : List ℕ → List ℕ
    run z = concat_map enc xs ++ z

    -- room is made before the i-th, and one more stands there: those from the i-th on are moved up first
    pub array_insert : (y : A) (i : ℕ) (z : List ℕ) → i ≤ length xs → length (enc y) ≡ w → w ≤ length z
        → splice (splice (run z) (w * i + w) (w * (length xs - i)) (cut (run z) (w * i) (w * (length xs - i)))) (w * i) w (enc y) ≡ concat_map enc (insert_at xs i y) ++ drop w z
    array_insert y i z h one room =
        ap (λ (l : List ℕ). splice (splice (run z) (w * i + w) (w * (length xs - i)) l) (w * i) w (enc y)) moved
        ∙ splice_prepend (run z) (w * i) w (w * (length xs - i)) (enc y) (high i) fits one (high_length i)
        ∙ ap₂ (λ (u v : List ℕ). u ++ ((enc y ++ high i) ++ v)) front back
        ∙ ap (λ (l : List ℕ). low i ++ l) (append_assoc (enc y) (high i) (drop w z))
        ∙ sym
        (ap (λ (l : List ℕ). l ++ drop w z) (concat_append (take i xs) (y ∷ drop i xs))
        ∙ append_assoc (low i) (enc y ++ high i) (drop w z)
        ∙ ap (λ (l : List ℕ). low i ++ l) (append_assoc (enc y) (high i) (drop w z)))
      where
        whole : run z ≡ low i ++ (high i ++ z)
        whole = ap (λ (l : List ℕ). l ++ z) (parted i) ∙ append_assoc (low i) (high i) z

        moved : cut (run z) (w * i) (w * (length xs - i)) ≡ high i
        moved =
            ap (λ (l : List ℕ). cut l (w * i) (w * (length xs - i))) whole
            ∙ ap (take (w * (length xs - i))) (drop_at (low i) (high i ++ z) (w * i) (low_length i h))
            ∙ take_at (high i) z (w * (length xs - i)) (high_length i)

        fits : w * i + w + w * (length xs - i) ≤ length (run z)
        fits = omega (arith, ap length whole, length-append (low i) (high i ++ z), length-append (high i) z, low_length i h, high_length i)

        front : take (w * i) (run z) ≡ low i
        front = ap (take (w * i)) whole ∙ take_at (low i) (high i ++ z) (w * i) (low_length i h)

        behind : w + w * (length xs - i) ≡ length (high i) + w
        behind = omega (arith, high_length i)

        back : drop (w + w * (length xs - i)) (drop (w * i) (run z)) ≡ drop w z
        back =
            ap (drop (w + w * (length xs - i))) (ap (drop (w * i)) whole ∙ drop_at (low i) (high i ++ z) (w * i) (low_length i h))
            ∙ ap (λ (n : ℕ). drop n (high i ++ z)) behind
            ∙ drop-append-add (high i) z w

    -- the i-th goes: those behind it are moved down, and e stands where the last one stood
    pub array_remove : (i : ℕ) (z e : List ℕ) → i < length xs → length e ≡ w
        → splice (splice (run z) (w * i) (w * (length xs - i - 1)) (cut (run z) (w * i + w) (w * (length xs - i - 1)))) (w * (length xs - 1)) w e ≡ concat_map enc (remove_at xs i) ++ (e ++ z)
    array_remove i z e h one =
        ap₂ (λ (l : List ℕ) (o : ℕ). splice (splice (run z) (w * i) (w * (length xs - i - 1)) l) o w e) moved last_place
        ∙ splice_append (run z) (w * i) (w * (length xs - i - 1)) w later e fits later_length one
        ∙ ap₂ (λ (u v : List ℕ). u ++ ((later ++ e) ++ v)) front back
        ∙ ap (λ (l : List ℕ). low i ++ l) (append_assoc later e z)
        ∙ sym
        (ap (λ (l : List ℕ). l ++ (e ++ z)) (concat_append (take i xs) (drop 1 (drop i xs)))
        ∙ append_assoc (low i) later (e ++ z))
      where
        later : List ℕ
        later = concat_map enc (drop 1 (drop i xs))

        this : List ℕ
        this = concat_map enc (take 1 (drop i xs))

        later_length : length (concat_map enc (drop 1 (drop i xs))) ≡ w * (length xs - i - 1)
        later_length = array_length w enc (drop 1 (drop i xs)) (λ x m. size x (in_drop i xs (in_drop 1 (drop i xs) m))) ∙ ap (λ (n : ℕ). w * n) (length-drop 1 (drop i xs) ∙ omega (arith, length-drop i xs))

        this_length : length (concat_map enc (take 1 (drop i xs))) ≡ w
        this_length = array_length w enc (take 1 (drop i xs)) (λ x m. size x (in_drop i xs (in_take 1 (drop i xs) m))) ∙ ap (λ (n : ℕ). w * n) (length-take 1 (drop i xs) ∙ omega (arith, length-drop i xs)) ∙ mul-one w

        rest : high i ≡ concat_map enc (take 1 (drop i xs)) ++ concat_map enc (drop 1 (drop i xs))
        rest = ap (concat_map enc) (sym (take-append-drop 1 (drop i xs))) ∙ concat_append (take 1 (drop i xs)) (drop 1 (drop i xs))

        whole : run z ≡ low i ++ (concat_map enc (take 1 (drop i xs)) ++ (concat_map enc (drop 1 (drop i xs)) ++ z))
        whole =
            ap (λ (l : List ℕ). l ++ z) (parted i ∙ ap (λ (l : List ℕ). low i ++ l) rest)
            ∙ append_assoc (low i) (this ++ later) z
            ∙ ap (λ (l : List ℕ). low i ++ l) (append_assoc this later z)

        after_low : drop (w * i) (run z) ≡ this ++ (later ++ z)
        after_low = ap (drop (w * i)) whole ∙ drop_at (low i) (this ++ (later ++ z)) (w * i) (low_length i (omega arith))

        after_this : drop (w * i + w) (run z) ≡ later ++ z
        after_this = sym (lib.Seq.drop-drop w (w * i) (run z)) ∙ ap (drop w) after_low ∙ drop_at this (later ++ z) w this_length

        moved : cut (run z) (w * i + w) (w * (length xs - i - 1)) ≡ later
        moved = ap (take (w * (length xs - i - 1))) after_this ∙ take_at later z (w * (length xs - i - 1)) later_length

        last_place : w * (length xs - 1) ≡ w * i + w * (length xs - i - 1)
        last_place = ap (λ (n : ℕ). w * n) split ∙ mul-add w i (length xs - i - 1)
          where
            split : length xs - 1 ≡ i + (length xs - i - 1)
            split = omega arith

        fits : w * i + w * (length xs - i - 1) + w ≤ length (run z)
        fits = omega (arith, ap length whole, length-append (low i) (this ++ (later ++ z)), length-append this (later ++ z), length-append later z, low_length i (omega arith), this_length, later_length)

        front : take (w * i) (run z) ≡ low i
        front = ap (take (w * i)) whole ∙ take_at (low i) (this ++ (later ++ z)) (w * i) (low_length i (omega arith))

        behind : w * (length xs - i - 1) + w ≡ length this + (length later + 0)
        behind = omega (arith, this_length, later_length)

        back : drop (w * (length xs - i - 1) + w) (drop (w * i) (run z)) ≡ z
        back =
            ap (drop (w * (length xs - i - 1) + w)) after_low
            ∙ ap (λ (n : ℕ). drop n (this ++ (later ++ z))) behind
            ∙ drop-append-add this (later ++ z) (length later + 0)
            ∙ drop-append-add later z 0

-- ---- padding

pub pad_past : (m k : ℕ) (a l : List ℕ) → length a ≡ k → pad (k + m) (a ++ l) ≡ a ++ pad m l
unfolding pad
pad_past m k a l e = append_assoc a l (zeros (k + m - length (a ++ l))) ∙ ap (λ (n : ℕ). a ++ (l ++ zeros n)) rest
  where
    rest : k + m - length (a ++ l) ≡ m - length l
    rest = omega (arith, length-append a l)

pub splice_pad : (m : ℕ) (l : List ℕ) (o n : ℕ) (y : List ℕ) → o + n ≤ length l → length y ≡ n → splice (pad m l) o n y ≡ pad m (splice l o n y)
unfolding pad
splice_pad m l o n y h e =
    splice_within l (zeros (m - length l)) o n y h ∙ ap (λ (k : ℕ). splice l o n y ++ zeros (m - k)) (sym (splice_length l o n y h e))

-- a cleared run is zeros, whatever it was
pub cleared : (b : List ℕ) (n : ℕ) → length b ≡ n → splice b 0 n (zeros n) ≡ zeros n
cleared b n e = ap (λ (l : List ℕ). zeros n ++ l) (drop_of_length-le b {i = n} (omega arith)) ∙ append-nil (zeros n)

pub zeros_drop : (w n : ℕ) → w ≤ n → drop w (zeros n) ≡ zeros (n - w)
zeros_drop w n h =
    ap (λ (k : ℕ). drop w (zeros k)) all ∙ ap (drop w) (sym (replicate-append-replicate {A = ℕ} w (n - w) 0)) ∙ drop_at (zeros w) (zeros (n - w)) w (length-replicate {A = ℕ} w 0)
  where
    all : n ≡ w + (n - w)
    all = omega arith

-- an array that is padded with zeros: one put anew, one more, one less
module _ {A : Type 0} (w m : ℕ) (enc : A → List ℕ) (xs : List A) (size : EachOf w enc xs) where
  abbrev padded : List ℕ
  padded = pad m (concat_map enc xs)

  -- the bytes after an edit
  after_length : (i k : ℕ) (ys : List A) → EachOf w enc ys → length (concat_map enc (splice xs i k ys)) ≡ w * length (splice xs i k ys)
  after_length i k ys each = array_length w enc (splice xs i k ys) (all_of_splice (λ (x : A). length (enc x) ≡ w) xs i k ys size each)

  module _ (y : A) (one : length (enc y) ≡ w) where
    pub padded_put : (i : ℕ) → i < length xs → splice padded (w * i) w (enc y) ≡ pad m (concat_map enc (put_at xs i y))
    unfolding pad
    padded_put i h =
        array_put w enc xs size y i (zeros (m - length (concat_map enc xs))) h ∙ ap (λ (k : ℕ). concat_map enc (put_at xs i y) ++ zeros (m - k)) same
      where
        same : length (concat_map enc xs) ≡ length (concat_map enc (put_at xs i y))
        same =
            array_length w enc xs size ∙ ap (λ (n : ℕ). w * n) (sym (splice_length xs i 1 (y ∷ []) (omega arith) refl))
            ∙ sym (after_length i 1 (y ∷ []) (only (λ (x : A). length (enc x) ≡ w) y one))

    pub padded_insert : (i : ℕ) → i ≤ length xs → w * (length xs + 1) ≤ m
        → splice (splice padded (w * i + w) (w * (length xs - i)) (cut padded (w * i) (w * (length xs - i)))) (w * i) w (enc y) ≡ pad m (concat_map enc (insert_at xs i y))
    unfolding pad
    padded_insert i h room =
        array_insert w enc xs size y i (zeros (m - length (concat_map enc xs))) h one (omega (arith, length-replicate {A = ℕ} (m - length (concat_map enc xs)) 0, size_was, next))
        ∙ ap (λ (l : List ℕ). concat_map enc (insert_at xs i y) ++ l) (zeros_drop w (m - length (concat_map enc xs)) (omega (arith, size_was, next)) ∙ ap (λ (n : ℕ). zeros n) left)
      where
        size_was : length (concat_map enc xs) ≡ w * length xs
        size_was = array_length w enc xs size

        next : w * (length xs + 1) ≡ w * length xs + w
        next = mul-add w (length xs) 1 ∙ ap (λ (n : ℕ). w * length xs + n) (mul-one w)

        count : length (insert_at xs i y) ≡ length xs + 1
        count = simp (length-append, length-take, length-drop) (omega arith)

        size_is : length (concat_map enc (insert_at xs i y)) ≡ w * length xs + w
        size_is = after_length i 0 (y ∷ []) (only (λ (x : A). length (enc x) ≡ w) y one) ∙ ap (λ (n : ℕ). w * n) count ∙ next

        left : m - length (concat_map enc xs) - w ≡ m - length (concat_map enc (insert_at xs i y))
        left = omega (arith, size_was, size_is)

  pub padded_remove : (i : ℕ) → i < length xs → w * length xs ≤ m
      → splice (splice padded (w * i) (w * (length xs - i - 1)) (cut padded (w * i + w) (w * (length xs - i - 1)))) (w * (length xs - 1)) w (zeros w) ≡ pad m (concat_map enc (remove_at xs i))
  unfolding pad
  padded_remove i h room =
      array_remove w enc xs size i (zeros (m - length (concat_map enc xs))) (zeros w) h (length-replicate {A = ℕ} w 0)
      ∙ ap (λ (l : List ℕ). concat_map enc (remove_at xs i) ++ l) (replicate-append-replicate {A = ℕ} w (m - length (concat_map enc xs)) 0 ∙ ap (λ (n : ℕ). zeros n) left)
    where
      size_was : length (concat_map enc xs) ≡ w * length xs
      size_was = array_length w enc xs size

      count : length xs ≡ length (remove_at xs i) + 1
      count = simp (length-append, length-take, length-drop) (omega arith)

      next : w * length xs ≡ w * length (remove_at xs i) + w
      next = ap (λ (n : ℕ). w * n) count ∙ mul-add w (length (remove_at xs i)) 1 ∙ ap (λ (n : ℕ). w * length (remove_at xs i) + n) (mul-one w)

      left : w + (m - length (concat_map enc xs)) ≡ m - length (concat_map enc (remove_at xs i))
      left = omega (arith, size_was, next, after_length i 1 [] (λ x k. absurd (Memᴰ.not-nil k)))

-- ---- the content of a block

module _ (kind format position : ℕ) (content : List ℕ) where
  -- a part behind the position
  pub body_past : (o n : ℕ) (y : List ℕ) → splice (body kind format position content) (4 + o) n y ≡ le 1 kind ++ (le 1 format ++ (le 2 position ++ splice (pad 504 content) o n y))
  body_past o n y =
      ap (λ (k : ℕ). splice (body kind format position content) k n y) there
      ∙ splice_past (le 1 kind) (le 1 format ++ (le 2 position ++ pad 504 content)) 1 (1 + (2 + o)) n y (le_length 1 kind)
      ∙ ap (λ (l : List ℕ). le 1 kind ++ l)
      (splice_past (le 1 format) (le 2 position ++ pad 504 content) 1 (2 + o) n y (le_length 1 format)
      ∙ ap (λ (l : List ℕ). le 1 format ++ l) (splice_past (le 2 position) (pad 504 content) 2 o n y (le_length 2 position)))
    where
      there : 4 + o ≡ 1 + (1 + (2 + o))
      there = omega arith

  pub content_put : (o n : ℕ) (y : List ℕ) → o + n ≤ length content → length y ≡ n → splice (body kind format position content) (4 + o) n y ≡ body kind format position (splice content o n y)
  content_put o n y h e = body_past o n y ∙ ap (λ (l : List ℕ). le 1 kind ++ (le 1 format ++ (le 2 position ++ l))) (splice_pad 504 content o n y h e)

  -- the position anew
  pub position_put : (p : ℕ) → splice (body kind format position content) 2 2 (le 2 p) ≡ body kind format p content
  position_put p =
      splice_past (le 1 kind) (le 1 format ++ (le 2 position ++ pad 504 content)) 1 1 2 (le 2 p) (le_length 1 kind)
      ∙ ap (λ (l : List ℕ). le 1 kind ++ l)
      (splice_past (le 1 format) (le 2 position ++ pad 504 content) 1 0 2 (le 2 p) (le_length 1 format)
      ∙ ap (λ (l : List ℕ). le 1 format ++ l) (splice_middle [] (le 2 position) (pad 504 content) 0 2 (le 2 p) refl (le_length 2 position)))

  -- the kind anew
  pub kind_put : (k : ℕ) → splice (body kind format position content) 0 1 (le 1 k) ≡ body k format position content
  kind_put k = splice_middle [] (le 1 kind) (le 1 format ++ (le 2 position ++ pad 504 content)) 0 1 (le 1 k) refl (le_length 1 kind)

-- ---- a padded array in the middle of a block's bytes

module _ {A : Type 0} (w m : ℕ) (enc : A → List ℕ) (xs : List A) (size : EachOf w enc xs) (front rest : List ℕ) (a : ℕ) (start : length front ≡ a) (room : w * length xs ≤ m) where
  abbrev here : List ℕ
  here = front ++ (pad m (concat_map enc xs) ++ rest)

  wide : length (pad m (concat_map enc xs)) ≡ m
  wide = pad_length m (concat_map enc xs) (omega (arith, array_length w enc xs size))

  put_inside : (z : List ℕ) (o n : ℕ) (y : List ℕ) → o + n ≤ length z → splice (front ++ (z ++ rest)) (a + o) n y ≡ front ++ (splice z o n y ++ rest)
  put_inside z o n y h = splice_past front (z ++ rest) a o n y start ∙ ap (λ (l : List ℕ). front ++ l) (splice_within z rest o n y h)

  cut_inside : (z : List ℕ) (o n : ℕ) → o + n ≤ length z → cut (front ++ (z ++ rest)) (a + o) n ≡ cut z o n
  cut_inside z o n h =
      cut_past front (z ++ rest) a (a + o) n start (omega arith) ∙ ap (λ (k : ℕ). cut (z ++ rest) k n) back ∙ cut_within z rest o n h
    where
      back : a + o - a ≡ o
      back = omega arith

  below : (i : ℕ) → i ≤ length xs → w * i + w * (length xs - i) ≡ w * length xs
  below i h = sym (mul-add w i (length xs - i)) ∙ ap (λ (n : ℕ). w * n) all
    where
      all : i + (length xs - i) ≡ length xs
      all = omega arith

  pub inside_put : (y : A) (i : ℕ) → i < length xs → length (enc y) ≡ w → splice here (a + w * i) w (enc y) ≡ front ++ (pad m (concat_map enc (put_at xs i y)) ++ rest)
  inside_put y i h one =
      put_inside (pad m (concat_map enc xs)) (w * i) w (enc y) (omega (arith, wide, room, next)) ∙ ap (λ (l : List ℕ). front ++ (l ++ rest)) (padded_put w m enc xs size y one i h)
    where
      next : w * i + w ≤ w * length xs
      next = subst (λ (n : ℕ). n ≤ w * length xs) (mul-suc w i) (mul-le-mul_left w h)

  pub inside_insert : (y : A) (i : ℕ) → i ≤ length xs → length (enc y) ≡ w → w * (length xs + 1) ≤ m
      → splice (splice here (a + w * i + w) (w * (length xs - i)) (cut here (a + w * i) (w * (length xs - i)))) (a + w * i) w (enc y) ≡ front ++ (pad m (concat_map enc (insert_at xs i y)) ++ rest)
  inside_insert y i h one more =
      ap₂ (λ (o : ℕ) (l : List ℕ). splice (splice here o (w * (length xs - i)) l) (a + w * i) w (enc y)) there (cut_inside z (w * i) (w * (length xs - i)) (omega (arith, wide, below i h, room)))
      ∙ ap (λ (l : List ℕ). splice l (a + w * i) w (enc y)) (put_inside z (w * i + w) (w * (length xs - i)) part (omega (arith, wide, below i h, next)))
      ∙ put_inside (splice z (w * i + w) (w * (length xs - i)) part) (w * i) w (enc y) (omega (arith, moved_length, wide, below i h, next))
      ∙ ap (λ (l : List ℕ). front ++ (l ++ rest)) (padded_insert w m enc xs size y one i h more)
    where
      z : List ℕ
      z = pad m (concat_map enc xs)

      part : List ℕ
      part = cut (pad m (concat_map enc xs)) (w * i) (w * (length xs - i))

      next : w * length xs + w ≤ m
      next = subst (λ (n : ℕ). n ≤ m) (mul-add w (length xs) 1 ∙ ap (λ (n : ℕ). w * length xs + n) (mul-one w)) more

      there : a + w * i + w ≡ a + (w * i + w)
      there = omega arith

      moved_length : length (splice (pad m (concat_map enc xs)) (w * i + w) (w * (length xs - i)) part) ≡ length (pad m (concat_map enc xs))
      moved_length = splice_length z (w * i + w) (w * (length xs - i)) part (omega (arith, wide, below i h, next)) (length_cut z (w * i) (w * (length xs - i)) (omega (arith, wide, below i h, room)))

  pub inside_remove : (i : ℕ) → i < length xs
      → splice (splice here (a + w * i) (w * (length xs - i - 1)) (cut here (a + w * i + w) (w * (length xs - i - 1)))) (a + w * (length xs - 1)) w (zeros w) ≡ front ++ (pad m (concat_map enc (remove_at xs i)) ++ rest)
  inside_remove i h =
      ap (λ (l : List ℕ). splice (splice here (a + w * i) (w * (length xs - i - 1)) l) (a + w * (length xs - 1)) w (zeros w)) (ap (λ (o : ℕ). cut here o (w * (length xs - i - 1))) there ∙ cut_inside z (w * i + w) (w * (length xs - i - 1)) (omega (arith, wide, all, room)))
      ∙ ap (λ (l : List ℕ). splice l (a + w * (length xs - 1)) w (zeros w)) (put_inside z (w * i) (w * (length xs - i - 1)) part (omega (arith, wide, all, room)))
      ∙ put_inside (splice z (w * i) (w * (length xs - i - 1)) part) (w * (length xs - 1)) w (zeros w) (omega (arith, moved_length, wide, last, room))
      ∙ ap (λ (l : List ℕ). front ++ (l ++ rest)) (padded_remove w m enc xs size i h room)
    where
      z : List ℕ
      z = pad m (concat_map enc xs)

      part : List ℕ
      part = cut (pad m (concat_map enc xs)) (w * i + w) (w * (length xs - i - 1))

      there : a + w * i + w ≡ a + (w * i + w)
      there = omega arith

      count : length xs ≡ i + (1 + (length xs - i - 1))
      count = omega arith

      all : w * i + w + w * (length xs - i - 1) ≡ w * length xs
      all = sym (ap (λ (n : ℕ). w * n) count ∙ mul-add w i (1 + (length xs - i - 1)) ∙ ap (λ (n : ℕ). w * i + n) (mul-add w 1 (length xs - i - 1) ∙ ap (λ (n : ℕ). n + w * (length xs - i - 1)) (mul-one w)) ∙ omega arith)

      last : w * (length xs - 1) + w ≡ w * length xs
      last = sym (ap (λ (n : ℕ). w * n) whole ∙ mul-add w (length xs - 1) 1 ∙ ap (λ (n : ℕ). w * (length xs - 1) + n) (mul-one w))
        where
          whole : length xs ≡ length xs - 1 + 1
          whole = omega arith

      moved_length : length (splice (pad m (concat_map enc xs)) (w * i) (w * (length xs - i - 1)) part) ≡ length (pad m (concat_map enc xs))
      moved_length = splice_length z (w * i) (w * (length xs - i - 1)) part (omega (arith, wide, all, room)) (length_cut z (w * i + w) (w * (length xs - i - 1)) (omega (arith, wide, all, room)))
