-- When bytes are what they should be, part by part: the test `same_list` of an append, of fields, of padding, of arrays and of a made block.
-- Assumes nothing.
use Prim.Native.Nat.{ℕ, zero, suc, ◌+◌, ◌*◌, ◌^◌, ◌≤◌, ◌<◌}
use mathlib.Core.Path.{◌≡◌, refl, ap, ap₂, sym, ◌∙◌, subst}
use mathlib.Core.Bool.{Bool, true, ◌&&◌}
use mathlib.Core.List.{List, [], ◌∷◌, ◌++◌, Memᴰ}
use native.Mathlib.Omega.{arith}
use native.Mathlib.Nat.{zero-add, mul-suc, mul-zero, mul-le-mul_left}
use lib.ListN.{length, take, drop, length-append, length-take, length-drop, length-replicate, take-append-drop}
use lib.Seq.{take_at, drop_at, take-add, take_all, drop-drop}
use lib.Dec.{eqb}
use borrow.Author.Tests.{eqb-true, eq-eqb}
use Rattle.numbers.specs.Words.{every, all?, concat_map, same_list}
use Rattle.numbers.proofs.Tests.{same_test, and_left, and_right, and_both, and_group}
use Rattle.block.specs.declared.Sums.{Sums}
use Rattle.block.specs.Fields.{le, number, cut, field, zeros, pad, upto}
use Rattle.block.specs.Check.{sums, seal, sealed}
use Rattle.block.specs.Block.{make_block}
use Rattle.block.proofs.Parts.{length_cut, cut_cut, pad_length}
use Rattle.block.proofs.Numbers.{Bytes, bytes_cut, le_length, number_le, le_field}
use Rattle.block.proofs.Arrays.{upto_same, upto_length, in_upto, array_length}
use Rattle.block.proofs.Passing.{every_true}
use Rattle.block.proofs.Checked.{sums_of_body, seal_sealed}

-- ---- equal lists pass the test, and lists that pass it are equal

pub same_itself : (l : List ℕ) → same_list l l ≡ true
same_itself [] = refl
same_itself (x ∷ xs) = and_both (eqb x x) (same_list xs xs) (eq-eqb x x refl) (same_itself xs)

pub same_of : (a b : List ℕ) → a ≡ b → same_list a b ≡ true
same_of a b e = subst (λ (l : List ℕ). same_list a l ≡ true) e (same_itself a)

pub of_same : (a b : List ℕ) → same_list a b ≡ true → a ≡ b
of_same [] [] t = refl
of_same [] (y ∷ ys) t = absurd (mathlib.Core.Bool.false≢true t)
of_same (x ∷ xs) [] t = absurd (mathlib.Core.Bool.false≢true t)
of_same (x ∷ xs) (y ∷ ys) t = λ i. eqb-true x y (and_left (eqb x y) (same_list xs ys) t) i ∷ of_same xs ys (and_right (eqb x y) (same_list xs ys) t) i

-- the test is that the lists are equal
pub same_iff : (a b c d : List ℕ) → (a ≡ b → c ≡ d) → (c ≡ d → a ≡ b) → same_list a b ≡ same_list c d
same_iff a b c d f g = same_test (same_list a b) (same_list c d) (λ t. same_of c d (f (of_same a b t))) (λ t. same_of a b (g (of_same c d t)))

-- ---- an append

pub same_append : (x y b : List ℕ) → length b ≡ length x + length y → same_list (x ++ y) b ≡ (same_list x (take (length x) b) && same_list y (drop (length x) b))
same_append [] y b e = refl
same_append (a ∷ x) y [] e = absurd (omega arith)
same_append (a ∷ x) y (c ∷ b) e =
    ap (λ (t : Bool). eqb a c && t) (same_append x y b (omega arith)) ∙ and_group (eqb a c) (same_list x (take (length x) b)) (same_list y (drop (length x) b))

-- the same with the length of the first part as a number
pub same_parts : (x y b : List ℕ) (n : ℕ) → length x ≡ n → length b ≡ n + length y → same_list (x ++ y) b ≡ (same_list x (cut b 0 n) && same_list y (drop n b))
same_parts x y b n p q = same_append x y b (omega arith) ∙ ap (λ (m : ℕ). same_list x (take m b) && same_list y (drop m b)) p

-- ---- fields

-- a field that is written back as it was read is the same
pub same_field : (b : List ℕ) (o n : ℕ) → Bytes b → o + n ≤ length b → same_list (le n (field b o n)) (cut b o n) ≡ true
same_field b o n h l = same_of (le n (field b o n)) (cut b o n) (le_field b o n h l)

-- a field that should have a certain number is the same where it has it
pub same_number : (b : List ℕ) (o n v : ℕ) → Bytes b → o + n ≤ length b → v < 256 ^ n → same_list (le n v) (cut b o n) ≡ eqb (field b o n) v
same_number b o n v h l small = same_test (same_list (le n v) (cut b o n)) (eqb (field b o n) v) to from
  where
    to : same_list (le n v) (cut b o n) ≡ true → eqb (field b o n) v ≡ true
    to t = eq-eqb (field b o n) v (unfold field in (ap number (sym (of_same (le n v) (cut b o n) t)) ∙ number_le n v small))

    from : eqb (field b o n) v ≡ true → same_list (le n v) (cut b o n) ≡ true
    from t = subst (λ (x : ℕ). same_list (le n x) (cut b o n) ≡ true) (eqb-true (field b o n) v t) (same_field b o n h l)

-- ---- zeros

eqb_swap : (x y : ℕ) → eqb x y ≡ eqb y x
eqb_swap x y = same_test (eqb x y) (eqb y x) (λ t. eq-eqb y x (sym (eqb-true x y t))) (λ t. eq-eqb x y (sym (eqb-true y x t)))

pub same_zeros : (n : ℕ) (l : List ℕ) → length l ≡ n → same_list (zeros n) l ≡ all? (λ x. eqb x 0) l
same_zeros zero [] e = refl
same_zeros zero (x ∷ xs) e = absurd (omega arith)
same_zeros (suc n) [] e = absurd (omega arith)
same_zeros (suc n) (x ∷ xs) e = ap₂ ◌&&◌ (eqb_swap 0 x) (same_zeros n xs (omega arith))

-- ---- two parts one behind the other

pub same_cut : (x y b : List ℕ) (o m n : ℕ) → length x ≡ m → length y ≡ n → o + (m + n) ≤ length b
    → same_list (x ++ y) (cut b o (m + n)) ≡ (same_list x (cut b o m) && same_list y (cut b (o + m) n))
same_cut x y b o m n p q h =
    ap (same_list (x ++ y)) (take-add m n (drop o b) ∙ ap (λ (l : List ℕ). cut b o m ++ take n l) (drop-drop m o b))
    ∙ same_parts x y (cut b o m ++ cut b (o + m) n) m p
    (length-append (cut b o m) (cut b (o + m) n) ∙ omega (arith, length_cut b o m (omega arith), length_cut b (o + m) n (omega arith)))
    ∙ ap₂ (λ (u v : List ℕ). same_list x u && same_list y v)
    (take_at (cut b o m) (cut b (o + m) n) m (length_cut b o m (omega arith)))
    (drop_at (cut b o m) (cut b (o + m) n) m (length_cut b o m (omega arith)))

-- the first passes a test or not
pub same_then : (x y b : List ℕ) (o m n : ℕ) → length x ≡ m → length y ≡ n → o + (m + n) ≤ length b → (t : Bool) → same_list x (cut b o m) ≡ t
    → same_list (x ++ y) (cut b o (m + n)) ≡ (t && same_list y (cut b (o + m) n))
same_then x y b o m n p q h t e = same_cut x y b o m n p q h ∙ ap (λ (u : Bool). u && same_list y (cut b (o + m) n)) e

abbrev pub zero_at : List ℕ → ℕ → ℕ → Bool
zero_at b o n = all? (λ x. eqb x 0) (cut b o n)

-- the first is of zeros
pub zero_then : (y b : List ℕ) (o m n : ℕ) → length y ≡ n → o + (m + n) ≤ length b
    → same_list (zeros m ++ y) (cut b o (m + n)) ≡ (zero_at b o m && same_list y (cut b (o + m) n))
zero_then y b o m n q h = same_then (zeros m) y b o m n (length-replicate m zero) q h (zero_at b o m) (same_zeros m (cut b o m) (length_cut b o m (omega arith)))

-- ---- arrays

pub same_array : {A : Type 0} (w : ℕ) (enc : A → List ℕ) (dec : List ℕ → A) (n : ℕ) (b : List ℕ) → length b ≡ w * n
    → ((l : List ℕ) → length l ≡ w → length (enc (dec l)) ≡ w)
    → same_list (concat_map enc (upto n (λ i. dec (cut b (w * i) w)))) b ≡ every (upto n (λ i. same_list (enc (dec (cut b (w * i) w))) (cut b (w * i) w)))
same_array w enc dec zero b e size = empty b (omega (arith, mul-zero w))
  where
    empty : (l : List ℕ) → length l ≡ 0 → same_list [] l ≡ true
    empty [] p = refl
    empty (x ∷ xs) p = absurd (omega arith)
same_array {A} w enc dec (suc n) b e size =
    same_parts (enc (dec (cut b (w * 0) w))) (concat_map enc (upto n (λ i. dec (cut b (w * suc i) w)))) b w (size (cut b (w * 0) w) (ap (λ (o : ℕ). length (cut b o w)) (mul-zero w) ∙ length_cut b 0 w (omega (arith, mul-suc w n)))) rest_length
    ∙ ap₂ ◌&&◌ (ap (λ (o : ℕ). same_list (enc (dec (cut b (w * 0) w))) (cut b o w)) (sym (mul-zero w)))
    (ap (λ (xs : List A). same_list (concat_map enc xs) (drop w b)) (upto_same n (λ i. dec (cut b (w * suc i) w)) (λ i. dec (cut (drop w b) (w * i) w)) (λ i l. ap dec (later i)))
    ∙ same_array w enc dec n (drop w b) (length-drop w b ∙ omega (arith, mul-suc w n)) size
    ∙ ap every (upto_same n (λ i. same_list (enc (dec (cut (drop w b) (w * i) w))) (cut (drop w b) (w * i) w)) (λ i. same_list (enc (dec (cut b (w * suc i) w))) (cut b (w * suc i) w))
    (λ i l. ap (λ (c : List ℕ). same_list (enc (dec c)) c) (sym (later i)))))
  where
    later : (i : ℕ) → cut b (w * suc i) w ≡ cut (drop w b) (w * i) w
    later i = ap (take w) (ap (λ (o : ℕ). drop o b) there ∙ sym (drop-drop (w * i) w b))
      where
        there : w * suc i ≡ w + w * i
        there = omega (arith, mul-suc w i)

    sizes : (m : ℕ) (c : List ℕ) → length c ≡ w * m → length (concat_map enc (upto m (λ i. dec (cut c (w * i) w)))) ≡ w * m
    sizes m c h =
        array_length w enc (upto m (λ i. dec (cut c (w * i) w))) (each m c h) ∙ ap (λ (k : ℕ). w * k) (upto_length m (λ i. dec (cut c (w * i) w)))
      where
        each : (k : ℕ) (d : List ℕ) → length d ≡ w * k → (x : A) → Memᴰ x (upto k (λ i. dec (cut d (w * i) w))) → length (enc x) ≡ w
        each k d g x m =
            let q = in_upto k (λ i. dec (cut d (w * i) w)) m in
            subst (λ (y : A). length (enc y) ≡ w) (sym q.2) (size (cut d (w * q.0) w) (length_cut d (w * q.0) w (inside q.0 q.1)))
          where
            inside : (i : ℕ) → i < k → w * i + w ≤ length d
            inside i l = omega (arith, g, mul-le-mul_left w l, mul-suc w i)

    rest_length : length b ≡ w + length (concat_map enc (upto n (λ i. dec (cut b (w * suc i) w))))
    rest_length =
        let same : length (concat_map enc (upto n (λ i. dec (cut b (w * suc i) w)))) ≡ w * n =
        ap (λ (xs : List A). length (concat_map enc xs)) (upto_same n (λ i. dec (cut b (w * suc i) w)) (λ i. dec (cut (drop w b) (w * i) w)) (λ i l. ap dec (later i)))
        ∙ sizes n (drop w b) (length-drop w b ∙ omega (arith, mul-suc w n)) in
        omega (arith, e, same, mul-suc w n)

-- an array that is written back, where each of its parts is
pub array_again : {A : Type 0} (w : ℕ) (enc : A → List ℕ) (dec : List ℕ → A) (n : ℕ) (b : List ℕ) → Bytes b → length b ≡ w * n
    → ((l : List ℕ) → length l ≡ w → length (enc (dec l)) ≡ w)
    → ((l : List ℕ) → length l ≡ w → Bytes l → enc (dec l) ≡ l)
    → concat_map enc (upto n (λ i. dec (cut b (w * i) w))) ≡ b
array_again w enc dec n b h e size same =
    of_same (concat_map enc (upto n (λ i. dec (cut b (w * i) w)))) b
    (same_array w enc dec n b e size
    ∙ every_true n (λ i. same_list (enc (dec (cut b (w * i) w))) (cut b (w * i) w))
    (λ i l.
    same_of (enc (dec (cut b (w * i) w))) (cut b (w * i) w)
    (same (cut b (w * i) w) (length_cut b (w * i) w (omega (arith, e, mul-le-mul_left w l, mul-suc w i))) (bytes_cut b (w * i) w h))))

-- ---- a made block

-- what is 512 bytes long and sealed is the seal of its first 508 bytes
pub sealed_is : (b : List ℕ) → Bytes b → length b ≡ 512 → sealed b ≡ true → seal (take 508 b) ≡ b
unfolding seal sealed
sealed_is b h e t =
    ap (λ (c : List ℕ). take 508 b ++ c) check ∙ take-append-drop 508 b
  where
    body : List ℕ
    body = take 508 b

    body_length : length (take 508 b) ≡ 508
    body_length = length-take 508 b ∙ omega arith

    same_sums : sums (take 508 b) ≡ sums b
    same_sums = sym (sums_of_body (take 508 b) (drop 508 b) body_length) ∙ ap sums (take-append-drop 508 b)

    s1 : field b 508 2 ≡ (sums b).s1
    s1 = eqb-true (field b 508 2) (sums b).s1 (and_left (eqb (field b 508 2) (sums b).s1) (eqb (field b 510 2) (sums b).s2) t)

    s2 : field b 510 2 ≡ (sums b).s2
    s2 = eqb-true (field b 510 2) (sums b).s2 (and_right (eqb (field b 508 2) (sums b).s1) (eqb (field b 510 2) (sums b).s2) t)

    part : (o : ℕ) (v : ℕ) → o + 2 ≤ 512 → field b o 2 ≡ v → le 2 v ≡ cut b o 2
    part o v l p = ap (le 2) (sym p) ∙ of_same (le 2 (field b o 2)) (cut b o 2) (same_field b o 2 h (omega arith))

    whole : cut b 508 2 ++ cut b 510 2 ≡ drop 508 b
    whole =
        ap (λ (c : List ℕ). cut b 508 2 ++ c) (ap (take 2) (sym (drop-drop 2 508 b)) ∙ take_all 2 (drop 2 (drop 508 b)) (omega (arith, length-drop 2 (drop 508 b), length-drop 508 b)))
        ∙ take-append-drop 2 (drop 508 b)

    check : le 2 (sums (take 508 b)).s1 ++ le 2 (sums (take 508 b)).s2 ≡ drop 508 b
    check =
        ap (λ (s : Sums). le 2 s.s1 ++ le 2 s.s2) same_sums
        ∙ ap₂ ◌++◌ (part 508 (sums b).s1 (omega arith) s1) (part 510 (sums b).s2 (omega arith) s2)
        ∙ whole

-- a sealed body is the block where it is its first 508 bytes and the block's check is right
pub same_seal : (body b : List ℕ) → Bytes b → length body ≡ 508 → length b ≡ 512 → same_list (seal body) b ≡ (same_list body (take 508 b) && sealed b)
same_seal body b h p e = same_test (same_list (seal body) b) (same_list body (take 508 b) && sealed b) to from
  where
    to : same_list (seal body) b ≡ true → (same_list body (take 508 b) && sealed b) ≡ true
    to t =
        let q = of_same (seal body) b t in
        and_both (same_list body (take 508 b)) (sealed b)
        (same_of body (take 508 b) (sym (ap (take 508) (sym q) ∙ (unfold seal in (take_at body (le 2 (sums body).s1 ++ le 2 (sums body).s2) 508 p)))))
        (subst (λ (l : List ℕ). sealed l ≡ true) q (seal_sealed body p))

    from : (same_list body (take 508 b) && sealed b) ≡ true → same_list (seal body) b ≡ true
    from t =
        same_of (seal body) b
        (ap seal (of_same body (take 508 b) (and_left (same_list body (take 508 b)) (sealed b) t)) ∙ sealed_is b h e (and_right (same_list body (take 508 b)) (sealed b) t))

-- a block is a made one where kind, format, position and content are right, and its check is
pub same_block : (kind format position : ℕ) (content b : List ℕ) → Bytes b → length b ≡ 512 → length content ≤ 504 → kind < 256 → format < 256 → position < 65536
    → same_list (make_block kind format position content) b
    ≡ ((eqb (field b 0 1) kind && (eqb (field b 1 1) format && (eqb (field b 2 2) position && same_list (pad 504 content) (cut b 4 504)))) && sealed b)
unfolding make_block
same_block kind format position content b h e short k f p =
    same_seal (le 1 kind ++ (le 1 format ++ (le 2 position ++ pad 504 content))) b h (simp (length-append, le_length, pad_length 504 content short) (omega arith)) e
    ∙ ap (λ (t : Bool). t && sealed b)
    (same_parts (le 1 kind) (le 1 format ++ (le 2 position ++ pad 504 content)) c 1 (le_length 1 kind) (c_length ∙ simp (length-append, le_length, pad_length 504 content short) (omega arith))
    ∙ ap₂ ◌&&◌ (ap (λ (x : List ℕ). same_list (le 1 kind) x) (cut_cut b 0 508 0 1 (omega arith)) ∙ same_number b 0 1 kind h (omega arith) (omega arith))
    (same_parts (le 1 format) (le 2 position ++ pad 504 content) (drop 1 c) 1 (le_length 1 format) (length-drop 1 c ∙ simp (length-append, le_length, pad_length 504 content short) (omega (arith, c_length)))
    ∙ ap₂ ◌&&◌ (ap (λ (x : List ℕ). same_list (le 1 format) x) (at 1 1 (omega arith)) ∙ same_number b 1 1 format h (omega arith) (omega arith))
    (same_parts (le 2 position) (pad 504 content) (drop 1 (drop 1 c)) 2 (le_length 2 position)
    (length-drop 1 (drop 1 c) ∙ simp (pad_length 504 content short) (omega (arith, length-drop 1 c, c_length)))
    ∙ ap₂ ◌&&◌ (ap (λ (x : List ℕ). same_list (le 2 position) (take 2 x)) (drop-drop 1 1 c) ∙ ap (λ (x : List ℕ). same_list (le 2 position) x) (at 2 2 (omega arith)) ∙ same_number b 2 2 position h (omega arith) (omega arith))
    (ap (λ (x : List ℕ). same_list (pad 504 content) x) last))))
  where
    c : List ℕ
    c = take 508 b

    c_length : length (take 508 b) ≡ 508
    c_length = length-take 508 b ∙ omega arith

    at : (o n : ℕ) → o + n ≤ 508 → take n (drop o (take 508 b)) ≡ cut b o n
    at o n l = cut_cut b 0 508 o n l ∙ ap (λ (i : ℕ). cut b i n) (zero-add o)

    last : drop 2 (drop 1 (drop 1 (take 508 b))) ≡ cut b 4 504
    last =
        ap (drop 2) (drop-drop 1 1 (take 508 b)) ∙ drop-drop 2 2 (take 508 b)
        ∙ sym (take_all 504 (drop 4 (take 508 b)) (omega (arith, length-drop 4 (take 508 b), c_length))) ∙ at 4 504 (omega arith)
