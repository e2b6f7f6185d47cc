-- When a point block is laid out as it should be, as the tests that the code makes. Assumes nothing.
use Prim.Native.Nat.{ℕ, ◌+◌, ◌*◌, ◌-◌, ◌≤◌, ◌<◌}
use mathlib.Core.Path.{◌≡◌, refl, sym, ap, ap₂, ◌∙◌}
use mathlib.Core.Bool.{Bool, true, false, ◌&&◌}
use mathlib.Core.List.{List, [], ◌∷◌, ◌++◌}
use native.Mathlib.Omega.{arith}
use lib.ListN.{length, take, drop, length-append, length-take, length-drop}
use lib.Seq.{take_all}
use lib.Dec.{leb, eqb}
use borrow.Author.Tests.{leb-true, leb-false, eq-eqb, ne_eqb}
use Rattle.numbers.specs.Words.{every, all?, concat_map, same_list}
use Rattle.numbers.specs.Numbers.{counter, controller}
use Rattle.numbers.proofs.Tests.{by_test}
use Rattle.block.specs.Fields.{le, number, cut, field, pad, upto}
use Rattle.block.specs.Check.{sealed}
use Rattle.block.specs.Block.{make_block}
use Rattle.block.proofs.Parts.{length_cut, cut_cut, pad_length}
use Rattle.block.proofs.Numbers.{Bytes, le_length, bytes_cut, field_bound}
use Rattle.block.proofs.Arrays.{upto_same, upto_length, EachOf, array_length, in_upto}
use Rattle.block.proofs.Same.{same_itself, same_array, same_block, same_field, same_number}
use Rattle.meaning.specs.Object.{Version}
use Rattle.layout.specs.PointBlock.{form_1, said_length, said_bytes, encode_slot, decode_contents, decode_slot, encode_context, decode_context, encode_point, decode_point, encode_stored, decode_stored}
use Rattle.layout.proofs.PointBack.{context_length}
use Rattle.parts.proofs.Lookup.{field_of_cut}
use Rattle.record.proofs.Reading.{version_at, versions_are}
use Rattle.block.proofs.Passing.{every_true, HangsOn}
use Rattle.record.proofs.Walk.{same_at, same_read, same_said, same_pad}

-- all bytes are zero
abbrev pub zero_part : List ℕ → Bool
zero_part l = all? (λ x. eqb x 0) l

-- ---- a version's slot

-- the length that is written back, and the value with its padding
abbrev said_again : ℕ → List ℕ → Bool
said_again n x = eqb n (said_length (decode_contents n x)) && same_list (pad 24 (said_bytes (decode_contents n x))) x

module _ (n : ℕ) (x : List ℕ) (e : length x ≡ 24) where
  said_short : length (said_bytes (decode_contents n x)) ≤ 24
  unfolding decode_contents
  said_short = by_test (eqb n 255) (λ t. rw t (omega arith)) (λ t. rw t (omega (arith, length-take n x)))

  said_small : said_length (decode_contents n x) < 256
  unfolding decode_contents
  said_small = by_test (eqb n 255) (λ t. rw t (omega arith)) (λ t. rw t (omega (arith, length-take n x)))

  said_deleted : n ≡ 255 → said_again n x ≡ zero_part x
  unfolding decode_contents
  said_deleted p =
      rw (eq-eqb n 255 p)
      (rw (eq-eqb n 255 p) (same_pad 24 [] x 0 refl (omega arith) e ∙ ap zero_part (take_all 24 x (omega arith))))

  said_value : n ≤ 24 → said_again n x ≡ zero_part (cut x n (24 - n))
  unfolding decode_contents
  said_value l =
      let size : length (take n x) ≡ n = length-take n x ∙ omega arith in
      rw (ne_eqb n 255 (λ p. omega arith))
      (rw (eq-eqb n (length (take n x)) (sym size))
      (same_pad 24 (take n x) x n size l e ∙ ap (λ (t : Bool). t && zero_part (cut x n (24 - n))) (same_itself (take n x))))

  said_wrong : 24 < n → (n ≡ 255 → ⊥) → said_again n x ≡ false
  unfolding decode_contents
  said_wrong l q =
      rw (ne_eqb n 255 q) (rw (ne_eqb n (length (take n x)) (λ p. omega (arith, length-take n x))))

and_swap : (a b c : Bool) → (a && (b && c)) ≡ (b && (a && c))
and_swap true true c = refl
and_swap true false c = refl
and_swap false true c = refl
and_swap false false c = refl

-- a slot of 32 bytes
abbrev pub slot_same : List ℕ → Bool
slot_same s = same_list (encode_slot form_1 (decode_slot form_1 s)) s

pub slot_size_is : (s : List ℕ) → length s ≡ 32 → length (encode_slot form_1 (decode_slot form_1 s)) ≡ 32
unfolding encode_slot decode_slot
slot_size_is s e =
    simp (length-append, le_length, pad_length 24 (said_bytes (decode_contents (field s 1 1) (cut s 8 24))) (said_short (field s 1 1) (cut s 8 24) (length_cut s 8 24 (omega arith)))) (omega arith)

slot_parts : (s : List ℕ) → Bytes s → length s ≡ 32 → slot_same s ≡ (eqb (field s 2 2) 0 && said_again (field s 1 1) (cut s 8 24))
unfolding encode_slot decode_slot
slot_parts s h e =
    same_read (le 1 l ++ (le 2 0 ++ (le 4 c ++ v))) s 0 1 w h (simp (length-append, le_length, v_size) (omega arith)) refl
    ∙ same_said (le 2 0 ++ (le 4 c ++ v)) s 1 1 l h (simp (length-append, le_length, v_size) (omega arith)) (omega (arith, said_small n x x_size))
    ∙ ap (λ (t : Bool). eqb n l && t)
    (same_said (le 4 c ++ v) s 2 2 0 h (simp (length-append, le_length, v_size) (omega arith)) (omega arith)
    ∙ ap (λ (t : Bool). eqb (field s 2 2) 0 && t)
    (same_read v s 4 4 c h (omega (arith, v_size)) refl ∙ ap (same_list v) (sym (take_all 24 (drop 8 s) (omega (arith, length-drop 8 s))))))
    ∙ and_swap (eqb n l) (eqb (field s 2 2) 0) (same_list v x)
  where
    w : ℕ
    w = field s 0 1

    n : ℕ
    n = field s 1 1

    c : ℕ
    c = field s 4 4

    x : List ℕ
    x = cut s 8 24

    x_size : length (cut s 8 24) ≡ 24
    x_size = length_cut s 8 24 (omega arith)

    l : ℕ
    l = said_length (decode_contents (field s 1 1) (cut s 8 24))

    v : List ℕ
    v = pad 24 (said_bytes (decode_contents (field s 1 1) (cut s 8 24)))

    v_size : length (pad 24 (said_bytes (decode_contents (field s 1 1) (cut s 8 24)))) ≡ 24
    v_size = pad_length 24 (said_bytes (decode_contents (field s 1 1) (cut s 8 24))) (said_short (field s 1 1) (cut s 8 24) x_size)

-- the same of a slot within a block
module _ (b : List ℕ) (at : ℕ) (h : Bytes b) (e : length b ≡ 512) (l : at + 32 ≤ 512) where
  part_size : length (cut b at 32) ≡ 32
  part_size = length_cut b at 32 (omega arith)

  value_part : cut (cut b at 32) 8 24 ≡ cut b (at + 8) 24
  value_part = cut_cut b at 32 8 24 (omega arith)

  slot_tests : slot_same (cut b at 32) ≡ (eqb (field b (at + 2) 2) 0 && said_again (field b (at + 1) 1) (cut b (at + 8) 24))
  slot_tests =
      slot_parts (cut b at 32) (bytes_cut b at 32 h) part_size
      ∙ (λ i. eqb (field_of_cut b at 32 2 2 (omega arith) i) 0 && said_again (field_of_cut b at 32 1 1 (omega arith) i) (value_part i))

  room_size : length (cut b (at + 8) 24) ≡ 24
  room_size = length_cut b (at + 8) 24 (omega arith)

  -- "two zero bytes"; g and n are what was read there and of the length
  pub slot_gap : {g : ℕ} → g ≡ field b (at + 2) 2 → (g ≡ 0 → ⊥) → false ≡ slot_same (cut b at 32)
  slot_gap r q =
      sym (slot_tests ∙ ap (λ (t : Bool). t && said_again (field b (at + 1) 1) (cut b (at + 8) 24)) (ne_eqb (field b (at + 2) 2) 0 (λ z. q (r ∙ z))))

  module _ {g n : ℕ} (r : g ≡ field b (at + 2) 2) (z : g ≡ 0) (s : n ≡ field b (at + 1) 1) where
    after_gap : said_again n (cut b (at + 8) 24) ≡ slot_same (cut b at 32)
    after_gap =
        ap (λ (k : ℕ). said_again k (cut b (at + 8) 24)) s
        ∙ sym (slot_tests ∙ ap (λ (t : Bool). t && said_again (field b (at + 1) 1) (cut b (at + 8) 24)) (eq-eqb (field b (at + 2) 2) 0 (sym r ∙ z)))

    pub slot_deleted : n ≡ 255 → zero_part (cut b (at + 8) (at + 32 - (at + 8))) ≡ slot_same (cut b at 32)
    slot_deleted p =
        ap (λ (k : ℕ). zero_part (cut b (at + 8) k)) size ∙ sym (said_deleted n (cut b (at + 8) 24) room_size p) ∙ after_gap
      where
        size : at + 32 - (at + 8) ≡ 24
        size = omega arith

    pub slot_value : n ≤ 24 → zero_part (cut b (at + 8 + n) (at + 32 - (at + 8 + n))) ≡ slot_same (cut b at 32)
    slot_value p =
        ap (λ (k : ℕ). zero_part (cut b (at + 8 + n) k)) size
        ∙ ap zero_part (sym (cut_cut b (at + 8) 24 n (24 - n) (omega arith)))
        ∙ sym (said_value n (cut b (at + 8) 24) room_size p) ∙ after_gap
      where
        size : at + 32 - (at + 8 + n) ≡ 24 - n
        size = omega arith

    pub slot_wrong : 24 < n → (n ≡ 255 → ⊥) → false ≡ slot_same (cut b at 32)
    slot_wrong p q = sym (said_wrong n (cut b (at + 8) 24) room_size p q) ∙ after_gap

-- ---- the content

-- a context that was read is the same
context_same : (s : List ℕ) → Bytes s → length s ≡ 32 → same_list (encode_context (decode_context s)) s ≡ true
unfolding encode_context decode_context field
context_same s h e =
    same_array 4 (λ c. le 4 c.0) (λ l. counter (number l)) 8 s (omega arith) (λ l p. le_length 4 (number l))
    ∙ every_true 8 (λ i. same_list (le 4 (number (cut s (4 * i) 4))) (cut s (4 * i) 4)) (λ i l. same_field s (4 * i) 4 h (omega arith))

-- the slots of m versions that were read, and the content with them and a sender
abbrev slots : List ℕ → ℕ → List ℕ
slots b m = concat_map (encode_slot form_1) (upto m (version_at b))

abbrev sent_by : List ℕ → ℕ → ℕ → List ℕ
sent_by b m v = pad 256 (slots b m) ++ le 1 v

abbrev content : List ℕ → ℕ → ℕ → List ℕ
content b m v = le 1 (field b 4 1) ++ (le 1 m ++ (le 2 (field b 6 2) ++ (encode_context (decode_context (cut b 8 32)) ++ sent_by b m v)))

-- each slot of a version is laid out, and those behind them are zero
abbrev pub each_slot : List ℕ → ℕ → Bool
each_slot b m = every (upto m (λ i. slot_same (cut b (40 + 32 * i) 32)))

abbrev pub no_more_slots : List ℕ → ℕ → Bool
no_more_slots b m = zero_part (cut b (40 + 32 * m) (296 - (40 + 32 * m)))

module _ (b : List ℕ) (h : Bytes b) (e : length b ≡ 512) (m : ℕ) (few : m ≤ 8) where
  slots_size : length (slots b m) ≡ 32 * m
  slots_size = array_length 32 (encode_slot form_1) (upto m (version_at b)) each ∙ ap (λ (k : ℕ). 32 * k) (upto_length m (version_at b))
    where
      each : EachOf 32 (encode_slot form_1) (upto m (version_at b))
      each x i =
          let q = in_upto m (version_at b) i in
          ap (λ (y : Version). length (encode_slot form_1 y)) q.2 ∙ slot_size_is (cut b (40 + 32 * q.0) 32) (length_cut b (40 + 32 * q.0) 32 (omega (arith, q.1)))

  slots_same : same_list (pad 256 (slots b m)) (cut b 40 256) ≡ (each_slot b m && no_more_slots b m)
  slots_same =
      same_pad 256 (slots b m) (cut b 40 256) (32 * m) slots_size (omega arith) (length_cut b 40 256 (omega arith))
      ∙ ap₂ ◌&&◌ (ap (same_list (slots b m)) (cut_cut b 40 256 0 (32 * m) (omega arith)) ∙ one_by_one)
      (ap zero_part (cut_cut b 40 256 (32 * m) (256 - 32 * m) (omega arith)) ∙ ap (λ (n : ℕ). zero_part (cut b (40 + 32 * m) n)) size)
    where
      size : 256 - 32 * m ≡ 296 - (40 + 32 * m)
      size = omega arith

      there : (i : ℕ) → i < m → cut (cut b 40 (32 * m)) (32 * i) 32 ≡ cut b (40 + 32 * i) 32
      there i l = cut_cut b 40 (32 * m) (32 * i) 32 (omega arith)

      one_by_one : same_list (slots b m) (cut b 40 (32 * m)) ≡ each_slot b m
      one_by_one =
          ap (λ (xs : List Version). same_list (concat_map (encode_slot form_1) xs) (cut b 40 (32 * m)))
          (upto_same m (version_at b) (λ i. decode_slot form_1 (cut (cut b 40 (32 * m)) (32 * i) 32)) (λ i l. ap (decode_slot form_1) (sym (there i l))))
          ∙ same_array 32 (encode_slot form_1) (decode_slot form_1) m (cut b 40 (32 * m)) (length_cut b 40 (32 * m) (omega arith)) slot_size_is
          ∙ ap every (upto_same m (λ i. slot_same (cut (cut b 40 (32 * m)) (32 * i) 32)) (λ i. slot_same (cut b (40 + 32 * i) 32)) (λ i l. ap slot_same (there i l)))

  padded_size : length (pad 256 (slots b m)) ≡ 256
  padded_size = pad_length 256 (slots b m) (omega (arith, slots_size))

  context_size : length (encode_context (decode_context (cut b 8 32))) ≡ 32
  context_size = context_length (decode_context (cut b 8 32)) (unfold decode_context in refl)

  module _ (v : ℕ) (byte : v < 256) where
    content_size : length (content b m v) ≡ 293
    content_size = simp (length-append, le_length, context_size, padded_size) (omega arith)

    content_same : same_list (content b m v) (cut b 4 293) ≡ (eqb (field b 5 1) m && ((each_slot b m && no_more_slots b m) && eqb (field b 296 1) v))
    content_same =
        same_read (le 1 m ++ (le 2 p ++ (c ++ w))) d 0 1 j k (sizes ∙ simp (length-append, le_length, context_size, padded_size) (omega arith)) (sym (field_of_cut b 4 293 0 1 (omega arith)))
        ∙ same_said (le 2 p ++ (c ++ w)) d 1 1 m k (sizes ∙ simp (length-append, le_length, context_size, padded_size) (omega arith)) (omega arith)
        ∙ ap₂ ◌&&◌ (ap (λ (n : ℕ). eqb n m) (field_of_cut b 4 293 1 1 (omega arith)))
        (same_read (c ++ w) d 2 2 p k (sizes ∙ simp (length-append, le_length, context_size, padded_size) (omega arith)) (sym (field_of_cut b 4 293 2 2 (omega arith)))
        ∙ same_at c w d 4 32 context_size (sizes ∙ simp (length-append, le_length, padded_size) (omega arith))
        ∙ ap (λ (t : Bool). t && same_list w (drop 36 d)) (ap (same_list c) (cut_cut b 4 293 4 32 (omega arith)) ∙ context_same (cut b 8 32) (bytes_cut b 8 32 h) (length_cut b 8 32 (omega arith)))
        ∙ same_at (pad 256 (slots b m)) (le 1 v) d 36 256 padded_size (sizes ∙ simp le_length (omega arith))
        ∙ ap₂ ◌&&◌ (ap (same_list (pad 256 (slots b m))) (cut_cut b 4 293 36 256 (omega arith)) ∙ slots_same)
        (ap (same_list (le 1 v)) (sym (take_all 1 (drop 292 d) (omega (arith, length-drop 292 d, sizes))) ∙ cut_cut b 4 293 292 1 (omega arith))
        ∙ same_number b 296 1 v h (omega arith) (omega arith)))
      where
        d : List ℕ
        d = cut b 4 293

        k : Bytes (cut b 4 293)
        k = bytes_cut b 4 293 h

        sizes : length (cut b 4 293) ≡ 293
        sizes = length_cut b 4 293 (omega arith)

        j : ℕ
        j = field b 4 1

        p : ℕ
        p = field b 6 2

        c : List ℕ
        c = encode_context (decode_context (cut b 8 32))

        w : List ℕ
        w = sent_by b m v

-- ---- the block

-- the tests in the order in which they are made: sender, count, head, slots, the slots behind them, the bytes behind the sender, check
in_order : (v c k f p e g z s : Bool)
    → ((k && (f && (p && ((c && ((e && g) && v)) && z)))) && s) ≡ every (v ∷ c ∷ every (k ∷ f ∷ p ∷ []) ∷ e ∷ g ∷ z ∷ s ∷ [])
in_order true true true true true true true true true = refl
in_order true true true true true true true true false = refl
in_order true true true true true true true false s = refl
in_order true true true true true true false z s = refl
in_order true true true true true false g z s = refl
in_order true true true true false e g z s = refl
in_order true true true false p e g z s = refl
in_order true true false f p e g z s = refl
in_order true false true true true e g z s = refl
in_order true false true true false e g z s = refl
in_order true false true false p e g z s = refl
in_order true false false f p e g z s = refl
in_order false true true true true true true z s = refl
in_order false true true true true true false z s = refl
in_order false true true true true false g z s = refl
in_order false false true true true e g z s = refl
in_order false c true true false e g z s = refl
in_order false c true false p e g z s = refl
in_order false c false f p e g z s = refl

-- the tests of a block with m versions, its sender and their number set aside
abbrev pub block_tests : List ℕ → ℕ → ℕ → ℕ → List Bool
block_tests b kind position m =
    every (eqb (field b 0 1) kind ∷ eqb (field b 1 1) 1 ∷ eqb (field b 2 2) position ∷ [])
    ∷ each_slot b m
    ∷ no_more_slots b m
    ∷ zero_part (cut b 297 211)
    ∷ sealed b
    ∷ []

-- what is written back of a block, with another sender
abbrev written : List ℕ → ℕ → ℕ → ℕ → List ℕ
written b kind position v =
    encode_point form_1 kind position (record { sender = controller v; key = (decode_point form_1 b).key; object = (decode_point form_1 b).object })

module _ (b : List ℕ) (h : Bytes b) (e : length b ≡ 512) (kind position v : ℕ) (k : kind < 256) (p : position < 65536) (byte : v < 256) where
  -- with m versions, of which there may be fewer than the block says
  module _ (m : ℕ) (few : m ≤ 8) (are : (decode_point form_1 b).object.versions ≡ upto m (version_at b)) where
    written_is : written b kind position v ≡ make_block kind 1 position (content b m v)
    unfolding encode_point decode_point
    written_is =
        ap
        (λ (xs : List Version). make_block kind 1 position
        (le 1 (field b 4 1) ++ (le 1 (length xs) ++ (le 2 (field b 6 2) ++ (encode_context (decode_context (cut b 8 32)) ++ (pad 256 (concat_map (encode_slot form_1) xs) ++ le 1 v))))))
        are
        ∙ ap
        (λ (n : ℕ). make_block kind 1 position
        (le 1 (field b 4 1) ++ (le 1 n ++ (le 2 (field b 6 2) ++ (encode_context (decode_context (cut b 8 32)) ++ sent_by b m v)))))
        (upto_length m (version_at b))

    written_same : same_list (written b kind position v) b ≡ every (eqb (field b 296 1) v ∷ eqb (field b 5 1) m ∷ block_tests b kind position m)
    written_same =
        ap (λ (l : List ℕ). same_list l b) written_is
        ∙ same_block kind 1 position (content b m v) b h e (omega (arith, size)) k (omega arith) p
        ∙ ap (λ (t : Bool). (eqb (field b 0 1) kind && (eqb (field b 1 1) 1 && (eqb (field b 2 2) position && t))) && sealed b)
        (same_pad 504 (content b m v) (cut b 4 504) 293 size (omega arith) (length_cut b 4 504 (omega arith))
        ∙ ap₂ ◌&&◌ (ap (same_list (content b m v)) (cut_cut b 4 504 0 293 (omega arith)) ∙ content_same b h e m few v byte) (ap zero_part (cut_cut b 4 504 293 211 (omega arith))))
        ∙ in_order (eqb (field b 296 1) v) (eqb (field b 5 1) m) (eqb (field b 0 1) kind) (eqb (field b 1 1) 1) (eqb (field b 2 2) position) (each_slot b m) (no_more_slots b m) (zero_part (cut b 297 211)) (sealed b)
      where
        size : length (content b m v) ≡ 293
        size = content_size b h e m few v byte

  -- as many versions as are said, or eight
  few_same : field b 5 1 ≤ 8 → same_list (written b kind position v) b ≡ every (eqb (field b 296 1) v ∷ block_tests b kind position (field b 5 1))
  few_same l =
      written_same (field b 5 1) l (versions_are b l)
      ∙ ap (λ (t : Bool). every (eqb (field b 296 1) v ∷ t ∷ block_tests b kind position (field b 5 1))) (eq-eqb (field b 5 1) (field b 5 1) refl)

  many_same : 8 < field b 5 1 → same_list (written b kind position v) b ≡ (eqb (field b 296 1) v && false)
  many_same l =
      written_same 8 (omega arith) (unfold decode_point in take_all (field b 5 1) (upto 8 (version_at b)) (omega arith))
      ∙ ap (λ (t : Bool). every (eqb (field b 296 1) v ∷ t ∷ block_tests b kind position 8)) (ne_eqb (field b 5 1) 8 (λ q. omega arith))

  -- another sender
  pub other_sender : (field b 296 1 ≡ v → ⊥) → same_list (written b kind position v) b ≡ false
  other_sender q =
      by_test (leb (field b 5 1) 8)
      (λ l. few_same (leb-true (field b 5 1) 8 l) ∙ ap (λ (t : Bool). every (t ∷ block_tests b kind position (field b 5 1))) (ne_eqb (field b 296 1) v q))
      (λ l. many_same (leb-false (field b 5 1) 8 l) ∙ ap (λ (t : Bool). t && false) (ne_eqb (field b 296 1) v q))

module _ (b : List ℕ) (h : Bytes b) (e : length b ≡ 512) (kind position : ℕ) (k : kind < 256) (p : position < 65536) where
  abbrev point_same : Bool
  point_same = same_list (encode_point form_1 kind position (decode_point form_1 b)) b

  own_sender : written b kind position (field b 296 1) ≡ encode_point form_1 kind position (decode_point form_1 b)
  unfolding decode_point
  own_sender = refl

  byte_296 : field b 296 1 < 256
  byte_296 = field_bound b 296 1 h (omega arith)

  pub point_few : field b 5 1 ≤ 8 → HangsOn point_same (block_tests b kind position (field b 5 1))
  point_few l = record {
    hangs =
        ap (λ (x : List ℕ). same_list x b) (sym own_sender)
        ∙ few_same b h e kind position (field b 296 1) k p byte_296 l
        ∙ ap (λ (t : Bool). every (t ∷ block_tests b kind position (field b 5 1))) (eq-eqb (field b 296 1) (field b 296 1) refl);
  }

  pub point_many : 8 < field b 5 1 → point_same ≡ false
  point_many l =
      ap (λ (x : List ℕ). same_list x b) (sym own_sender) ∙ many_same b h e kind position (field b 296 1) k p byte_296 l
      ∙ ap (λ (t : Bool). t && false) (eq-eqb (field b 296 1) (field b 296 1) refl)

-- a stored point has sender 0
pub stored_sent : (b : List ℕ) (position : ℕ) → Bytes b → length b ≡ 512 → position < 65536 → (field b 296 1 ≡ 0 → ⊥)
    → same_list (encode_stored form_1 position (decode_stored form_1 b)) b ≡ false
unfolding encode_stored decode_stored
stored_sent b position h e p q = other_sender b h e 3 position 0 (omega arith) p (omega arith) q

pub stored_unsent : (b : List ℕ) (position : ℕ) → field b 296 1 ≡ 0
    → same_list (encode_point form_1 3 position (decode_point form_1 b)) b ≡ same_list (encode_stored form_1 position (decode_stored form_1 b)) b
unfolding encode_stored decode_stored decode_point
stored_unsent b position z = ap (λ (v : ℕ). same_list (written b 3 position v) b) z
