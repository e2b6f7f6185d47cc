-- What start writes, block by block. Assumes nothing.
use Prim.Native.Nat.{ℕ, ◌+◌, ◌-◌, ◌%◌}
use mathlib.Core.Path.{◌≡◌, refl, ap, ap₂, sym, ◌∙◌}
use mathlib.Core.List.{List, [], ◌∷◌, ◌++◌, append-nil, append_assoc, Memᴰ}
use native.Mathlib.Omega.{arith}
use lib.ListN.{length, take, drop, length-append, length-drop}
use lib.Seq.{drop-drop, take_at, drop_at}
use Rattle.numbers.specs.Words.{concat_map}
use Rattle.numbers.specs.Numbers.{controller}
use Rattle.block.specs.Fields.{le, splice, zeros, pad}
use Rattle.block.specs.Check.{seal}
use Rattle.block.specs.Block.{make_block}
use Rattle.block.proofs.Parts.{splice_middle}
use Rattle.block.proofs.Numbers.{Bytes}
use Rattle.block.proofs.Edits.{cleared}
use Rattle.meaning.specs.OwnSteps.{fresh}
use Rattle.layout.specs.Clocks.{encode_row, encode_clock}
use Rattle.layout.specs.Image.{image_length, encode_marks, head_of, encode_head, encode_dots, encode_points, encode}

-- ---- a list of no dots, by the stores that make it

pub no_dots : (b b1 b2 b3 b4 b5 : List ℕ) (position : ℕ) → length b ≡ 512 → b1 ≡ splice b 0 512 (zeros 512) → b2 ≡ splice b1 0 1 (le 1 2) → b3 ≡ splice b2 1 1 (le 1 1)
    → b4 ≡ splice b3 2 2 (le 2 position) → b5 ≡ seal (take 508 b4) → b5 ≡ encode_dots position []
unfolding encode_dots make_block le pad
no_dots b b1 b2 b3 b4 b5 position e p1 p2 p3 p4 p5 =
    p5 ∙ ap (λ (z : List ℕ). seal (take 508 z)) (p4 ∙ ap (λ (z : List ℕ). splice z 2 2 (le 2 position)) (p3 ∙ ap (λ (z : List ℕ). splice z 1 1 (le 1 1)) (p2 ∙ ap (λ (z : List ℕ). splice z 0 1 (le 1 2)) (p1 ∙ cleared b 512 e))))

-- ---- a fresh head

table_same : (t : List ℕ) → Bytes t → concat_map (le 1) t ≡ t
unfolding le
table_same [] h = refl
table_same (x ∷ xs) h = λ i. small i ∷ table_same xs (λ y m. h y (Memᴰ.tail m)) i
  where
    small : x % 256 ≡ x
    small = omega (arith, h x (Memᴰ.head refl))

abbrev head_with : ℕ → List ℕ → List ℕ
head_with n t =
    seal (le 1 1 ++ (le 1 1 ++ (le 2 0 ++ pad 504 (le 1 n ++ (le 3 0 ++ (t ++ (encode_clock (fresh (controller n) t).clock ++ encode_marks (fresh (controller n) t).watermark)))))))

head_is : (n : ℕ) (t : List ℕ) → Bytes t → encode_head (head_of (fresh (controller n) t)) ≡ head_with n t
unfolding encode_head make_block
head_is n t h =
    ap (λ (x : List ℕ). seal (le 1 1 ++ (le 1 1 ++ (le 2 0 ++ pad 504 (le 1 n ++ (le 3 0 ++ (x ++ (encode_clock (fresh (controller n) t).clock ++ encode_marks (fresh (controller n) t).watermark)))))))) (table_same t h)

-- what holds of every eight things holds of a list of eight
of_eight : (P : List ℕ → Type 0) → ((a b c d x y z w : ℕ) → P (a ∷ b ∷ c ∷ d ∷ x ∷ y ∷ z ∷ w ∷ [])) → (t : List ℕ) → length t ≡ 8 → P t
of_eight P h [] e = absurd (omega arith)
of_eight P h (a ∷ []) e = absurd (omega arith)
of_eight P h (a ∷ b ∷ []) e = absurd (omega arith)
of_eight P h (a ∷ b ∷ c ∷ []) e = absurd (omega arith)
of_eight P h (a ∷ b ∷ c ∷ d ∷ []) e = absurd (omega arith)
of_eight P h (a ∷ b ∷ c ∷ d ∷ x ∷ []) e = absurd (omega arith)
of_eight P h (a ∷ b ∷ c ∷ d ∷ x ∷ y ∷ []) e = absurd (omega arith)
of_eight P h (a ∷ b ∷ c ∷ d ∷ x ∷ y ∷ z ∷ []) e = absurd (omega arith)
of_eight P h (a ∷ b ∷ c ∷ d ∷ x ∷ y ∷ z ∷ w ∷ []) e = h a b c d x y z w
of_eight P h (a ∷ b ∷ c ∷ d ∷ x ∷ y ∷ z ∷ w ∷ v ∷ l) e = absurd (omega arith)

stores : (n : ℕ) (t : List ℕ) → length t ≡ 8 → seal (take 508 (splice (splice (splice (splice (zeros 512) 0 1 (le 1 1)) 1 1 (le 1 1)) 4 1 (le 1 n)) 8 8 t)) ≡ head_with n t
unfolding le pad encode_clock encode_row encode_marks
stores n =
    of_eight (λ t. seal (take 508 (splice (splice (splice (splice (zeros 512) 0 1 (le 1 1)) 1 1 (le 1 1)) 4 1 (le 1 n)) 8 8 t)) ≡ head_with n t) (λ a b c d x y z w. refl)

pub fresh_head_length : (n : ℕ) (t : List ℕ) → length t ≡ 8 → Bytes t → length (encode_head (head_of (fresh (controller n) t))) ≡ 512
unfolding seal le pad encode_clock encode_row encode_marks
fresh_head_length n t e h = ap length (head_is n t h) ∙ of_eight (λ u. length (head_with n u) ≡ 512) (λ a b c d x y z w. refl) t e

pub no_dots_length : (position : ℕ) → length (encode_dots position []) ≡ 512
unfolding encode_dots make_block seal le pad
no_dots_length position = refl

pub fresh_head : (b b1 b2 b3 b4 b5 b6 t : List ℕ) (n : ℕ) → length b ≡ 512 → length t ≡ 8 → Bytes t → b1 ≡ splice b 0 512 (zeros 512) → b2 ≡ splice b1 0 1 (le 1 1)
    → b3 ≡ splice b2 1 1 (le 1 1) → b4 ≡ splice b3 4 1 (le 1 n) → b5 ≡ splice b4 8 (length t) t → b6 ≡ seal (take 508 b5) → b6 ≡ encode_head (head_of (fresh (controller n) t))
fresh_head b b1 b2 b3 b4 b5 b6 t n e f h p1 p2 p3 p4 p5 p6 =
    p6
    ∙ ap (λ (z : List ℕ). seal (take 508 z))
    (p5 ∙ ap (λ (m : ℕ). splice b4 8 m t) f
    ∙ ap (λ (z : List ℕ). splice z 8 8 t)
    (p4 ∙ ap (λ (z : List ℕ). splice z 4 1 (le 1 n)) (p3 ∙ ap (λ (z : List ℕ). splice z 1 1 (le 1 1)) (p2 ∙ ap (λ (z : List ℕ). splice z 0 1 (le 1 1)) (p1 ∙ cleared b 512 e)))))
    ∙ stores n t f
    ∙ sym (head_is n t h)

-- ---- the image, part by part

pub fresh_image : (img i1 i2 i3 i4 h d1 d2 : List ℕ) → length img ≡ image_length → length h ≡ 512 → length d1 ≡ 512 → length d2 ≡ 512
    → i1 ≡ splice img 0 512 h → i2 ≡ splice i1 512 512 d1 → i3 ≡ splice i2 1024 512 d2 → i4 ≡ splice i3 1536 32768 (zeros 32768) → i4 ≡ h ++ (d1 ++ (d2 ++ zeros 32768))
fresh_image img i1 i2 i3 i4 h d1 d2 e eh e1 e2 p1 p2 p3 p4 =
    p4
    ∙ ap (λ (z : List ℕ). splice z 1536 32768 (zeros 32768)) third
    ∙ splice_middle (h ++ (d1 ++ d2)) rest [] 1536 32768 (zeros 32768) (length-append h (d1 ++ d2) ∙ omega (arith, length-append d1 d2)) rest_length
    ∙ ap (λ (z : List ℕ). (h ++ (d1 ++ d2)) ++ z) (append-nil (zeros 32768))
    ∙ simp append_assoc
  where
    rest : List ℕ
    rest = drop 1536 img

    rest_length : length (drop 1536 img) ≡ 32768
    rest_length = length-drop 1536 img ∙ omega arith

    first : i1 ≡ h ++ drop 512 img
    first = p1

    second : i2 ≡ h ++ (d1 ++ drop 1024 img)
    second =
        p2 ∙ ap (λ (z : List ℕ). splice z 512 512 d1) first
        ∙ ap₂ (λ (x y : List ℕ). x ++ (d1 ++ drop 512 y)) (take_at h (drop 512 img) 512 eh) (drop_at h (drop 512 img) 512 eh)
        ∙ ap (λ (z : List ℕ). h ++ (d1 ++ z)) (drop-drop 512 512 img)

    second_split : i2 ≡ (h ++ d1) ++ drop 1024 img
    second_split = second ∙ sym (append_assoc h d1 (drop 1024 img))

    two : length (h ++ d1) ≡ 1024
    two = length-append h d1 ∙ omega arith

    third : i3 ≡ (h ++ (d1 ++ d2)) ++ (drop 1536 img ++ [])
    third =
        p3 ∙ ap (λ (z : List ℕ). splice z 1024 512 d2) second_split
        ∙ ap₂ (λ (x y : List ℕ). x ++ (d2 ++ drop 512 y)) (take_at (h ++ d1) (drop 1024 img) 1024 two) (drop_at (h ++ d1) (drop 1024 img) 1024 two)
        ∙ ap (λ (z : List ℕ). (h ++ d1) ++ (d2 ++ z)) (drop-drop 512 1024 img ∙ sym (append-nil (drop 1536 img)))
        ∙ simp append_assoc

-- the fresh image is its head, two lists of no dots, and zeros
pub fresh_encoded : (n : ℕ) (t h d1 d2 : List ℕ) → h ≡ encode_head (head_of (fresh (controller n) t)) → d1 ≡ encode_dots 1 [] → d2 ≡ encode_dots 2 []
    → h ++ (d1 ++ (d2 ++ zeros 32768)) ≡ encode (fresh (controller n) t)
unfolding encode encode_points
fresh_encoded n t h d1 d2 p q r i = p i ++ (q i ++ (r i ++ zeros 32768))
