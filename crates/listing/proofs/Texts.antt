-- The texts of the definitions, as the code puts them. Assumes nothing.
use Prim.Native.Nat.{ℕ, zero, suc, ◌+◌, ◌*◌, ◌-◌, ◌/◌, ◌%◌, ◌≤◌, ◌<◌, min}
use mathlib.Core.Path.{◌≡◌, refl, ap, ap₂, sym, ◌∙◌}
use mathlib.Core.Bool.{true, false}
use mathlib.Core.List.{List, [], ◌∷◌, ◌++◌, append_assoc}
use native.Mathlib.Omega.{arith}
use lib.ListN.{length, take, drop, length-take}
use lib.Seq.{take_all, take-take}
use lib.Dec.{leb}
use borrow.Author.Tests.{lt-ltb, le-ltb, eq-eqb, ne_eqb, leb-true, leb-false}
use Rattle.numbers.specs.declared.Controller.{Controller}
use Rattle.numbers.specs.declared.Dot.{Dot}
use Rattle.numbers.specs.declared.Key.{Key}
use Rattle.numbers.specs.Words.{concat_map}
use Rattle.numbers.proofs.Tests.{by_test}
use Rattle.block.specs.Fields.{cut, field, upto}
use Rattle.block.specs.Block.{block_at}
use Rattle.block.proofs.Arrays.{upto_length, take_upto}
use Rattle.block.proofs.Parts.{cut_cut}
use Rattle.refusal.specs.declared.Refusal.TheVariants.{WrongLength, ImageNotGood}
use Rattle.meaning.specs.Object.{value, deleted, Version}
use Rattle.parts.proofs.Lookup.{field_of_cut}
use Rattle.layout.specs.PointBlock.{form_1, decode_contents, decode_slot, decode_point, decode_stored}
use Rattle.layout.specs.Image.{image_length, decode_head, decode_dots, decode, good_image}
use Rattle.layout.specs.Listing.{space, newline, word_controller, word_records, word_own, word_foreign, digits_of, decimal, hex, said, version_line, first_line, listing, refused_line, printed}
use Rattle.image.specs.Parts.{stored_count}
use Rattle.image.specs.Apart.{point_at}
use Rattle.image.proofs.Counted.{points_are}
use Rattle.block.proofs.Runs.{block_of_drop}
use Rattle.listing.specs.Put.{label, record_lines}

-- ---- numbers

pub digits_none : (k n : ℕ) → k ≡ 0 → [] ≡ digits_of k n
unfolding digits_of
digits_none k n e = rw e

pub digits_one : (k n : ℕ) → 1 ≤ k → n < 10 → (0x30 + n % 10) ∷ [] ≡ digits_of k n
unfolding digits_of
digits_one zero n h l = absurd (omega arith)
digits_one (suc k) n h l = rw (lt-ltb n 10 l)

pub digits_more : (k n : ℕ) → 1 ≤ k → 10 ≤ n → digits_of (k - 1) (n / 10) ++ ((0x30 + n % 10) ∷ []) ≡ digits_of k n
unfolding digits_of
digits_more zero n h l = absurd (omega arith)
digits_more (suc k) n h l = rw (le-ltb n 10 l) (ap (λ (m : ℕ). digits_of m (n / 10) ++ ((0x30 + n % 10) ∷ [])) less)
  where
    less : suc k - 1 ≡ k
    less = omega arith

-- ---- as many as are said, but no more than there is room for

taken : {A : Type 0} (n m : ℕ) (f : ℕ → A) → take n (upto m f) ≡ upto (min n m) f
taken n m f =
    by_test (leb n m)
    (λ t. let all : n ≡ min n m = omega (arith, leb-true n m t) in take_upto n m f (leb-true n m t) ∙ ap (λ (k : ℕ). upto k f) all)
    (λ t. let all : m ≡ min n m = omega (arith, leb-false n m t) in
    take_all n (upto m f) (omega (arith, leb-false n m t, upto_length m f)) ∙ ap (λ (k : ℕ). upto k f) all)

pub listed_are : (b : List ℕ) (n : ℕ) → n ≡ min (field b 4 2) 60 → n ≡ length (decode_dots b)
unfolding decode_dots
listed_are b n e = e ∙ sym (ap length (taken (field b 4 2) 60 (λ i. Rattle.layout.specs.Image.decode_entry (cut b (8 + 8 * i) 8))) ∙ upto_length (min (field b 4 2) 60) (λ i. Rattle.layout.specs.Image.decode_entry (cut b (8 + 8 * i) 8)))

abbrev pub slot : List ℕ → ℕ → Version
slot b i = decode_slot form_1 (cut b (40 + 32 * i) 32)

pub versions_are : (b : List ℕ) (n : ℕ) → n ≡ min (field b 5 1) 8 → upto n (slot b) ≡ (decode_stored form_1 b).object.versions
unfolding decode_stored decode_point
versions_are b n e = ap (λ (k : ℕ). upto k (slot b)) e ∙ sym (taken (field b 5 1) 8 (slot b))

-- ---- a value

in_hex : (x : List ℕ) → 1 ≤ length x → said (value x) ≡ concat_map hex x
unfolding said
in_hex [] h = absurd (omega arith)
in_hex (x ∷ xs) h = refl

module _ (b : List ℕ) (i : ℕ) where
  -- what a slot says, read in the block
  contents_are : (slot b i).contents ≡ decode_contents (field b (41 + 32 * i) 1) (cut b (48 + 32 * i) 24)
  unfolding decode_slot
  contents_are =
      let a : 40 + 32 * i + 1 ≡ 41 + 32 * i = omega arith in
      let v : 40 + 32 * i + 8 ≡ 48 + 32 * i = omega arith in
      ap₂ decode_contents (field_of_cut b (40 + 32 * i) 32 1 1 (omega arith) ∙ ap (λ (o : ℕ). field b o 1) a)
      (cut_cut b (40 + 32 * i) 32 8 24 (omega arith) ∙ ap (λ (o : ℕ). cut b o 24) v)

  module _ (n : ℕ) (e : n ≡ field b (41 + 32 * i) 1) where
    pub says_deleted : n ≡ 255 → said deleted ≡ said (slot b i).contents
    unfolding decode_contents
    says_deleted t = sym (ap said (contents_are ∙ rw (eq-eqb (field b (41 + 32 * i) 1) 255 (sym e ∙ t))))

    value_is : (n ≡ 255 → ⊥) → (slot b i).contents ≡ value (take n (cut b (48 + 32 * i) 24))
    unfolding decode_contents
    value_is t = contents_are ∙ rw (ne_eqb (field b (41 + 32 * i) 1) 255 (λ q. t (e ∙ q)), ← e)

    pub says_empty : n ≡ 0 → said (value []) ≡ said (slot b i).contents
    says_empty t = sym (ap said (value_is (λ q. omega arith) ∙ rw t))

    pub says_value : (n ≡ 255 → ⊥) → (n ≡ 0 → ⊥) → (m : ℕ) → m ≡ min n 24 → length b ≡ 512 → i < 8
        → concat_map hex (take (48 + 32 * i + m - (48 + 32 * i)) (drop (48 + 32 * i) b)) ≡ said (slot b i).contents
    says_value t z m q size l =
        let there : 48 + 32 * i + m - (48 + 32 * i) ≡ m = omega arith in
        let long : 1 ≤ length (take m (drop (48 + 32 * i) b)) = omega (arith, length-take m (drop (48 + 32 * i) b), lib.ListN.length-drop (48 + 32 * i) b) in
        ap (λ (k : ℕ). concat_map hex (take k (drop (48 + 32 * i) b))) there
        ∙ sym (ap said (value_is t ∙ ap value (sym short)) ∙ in_hex (take m (drop (48 + 32 * i) b)) long)
      where
        short : take m (drop (48 + 32 * i) b) ≡ take n (cut b (48 + 32 * i) 24)
        short =
            by_test (leb n 24)
            (λ u. let same : m ≡ n = omega (arith, leb-true n 24 u) in
            ap (λ (k : ℕ). take k (drop (48 + 32 * i) b)) same ∙ sym (take-take n 24 (drop (48 + 32 * i) b) (leb-true n 24 u)))
            (λ u. let all : m ≡ 24 = omega (arith, leb-false n 24 u) in
            ap (λ (k : ℕ). take k (drop (48 + 32 * i) b)) all ∙ sym (take_all n (cut b (48 + 32 * i) 24) (omega (arith, leb-false n 24 u, length-take 24 (drop (48 + 32 * i) b)))))

-- ---- the lines

pub line_is : (b : List ℕ) (i : ℕ) (k : Key) (d : Dot) → k ≡ (decode_point form_1 b).key → d ≡ (slot b i).dot
    → label k d ++ (space ∷ (said (slot b i).contents ++ (newline ∷ []))) ≡ version_line (decode_stored form_1 b).key (slot b i)
unfolding version_line decode_stored
line_is b i k d p q = (λ j. label (p j) (q j) ++ (space ∷ (said (slot b i).contents ++ (newline ∷ [])))) ∙ simp append_assoc

abbrev first : ℕ → ℕ → ℕ → ℕ → List ℕ
first own points mine others =
    word_controller ++ (decimal own ++ (word_records ++ (decimal points ++ (word_own ++ (decimal mine ++ (word_foreign ++ (decimal others ++ (newline ∷ []))))))))

pub first_is : (img : List ℕ) (o : Controller) (n m k : ℕ) → o ≡ (decode_head (cut img 0 512)).own → n ≡ stored_count img
    → m ≡ length (decode_dots (cut img 512 512)) → k ≡ length (decode_dots (cut img 1024 512)) → first o.0 n m k ≡ first_line (decode img)
unfolding first_line decode block_at
first_is img o n m k p q r s = λ j. first (p j).0 (points j) (r j) (s j)
  where
    points : n ≡ length (decode img).points
    points = q ∙ sym (ap length (points_are img) ∙ upto_length (stored_count img) (λ i. decode_stored form_1 (block_at img (3 + i))))

-- the points stand in the blocks from the fourth on
pub point_lines : (img : List ℕ) (i : ℕ) {b : List ℕ} → b ≡ block_at (drop 1536 img) i → record_lines (decode_stored form_1 b) ≡ record_lines (point_at img i)
point_lines img i e = ap (λ (b : List ℕ). record_lines (decode_stored form_1 b)) (e ∙ block_of_drop img 3 i)

pub all_points : (img : List ℕ) (n : ℕ) → n ≡ stored_count img → concat_map record_lines (upto n (point_at img)) ≡ concat_map record_lines (decode img).points
all_points img n e = ap (concat_map record_lines) (ap (λ (k : ℕ). upto k (point_at img)) e ∙ sym (points_are img))

-- ---- what is printed for an input

module _ (input : List ℕ) where
  pub other_length : (length input ≡ image_length → ⊥) → refused_line WrongLength ≡ printed input
  unfolding printed
  other_length h = rw (ne_eqb (length input) image_length h)

  pub bad_image : length input ≡ image_length → good_image input ≡ false → refused_line ImageNotGood ≡ printed input
  unfolding printed
  bad_image h g = rw (eq-eqb (length input) image_length h, g)

  pub good_image_lem : length input ≡ image_length → good_image input ≡ true → listing (decode input) ≡ printed input
  unfolding printed
  good_image_lem h g = rw (eq-eqb (length input) image_length h, g)
