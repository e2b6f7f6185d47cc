-- What is asked of the stored points one by one. Assumes nothing.
use Prim.Native.Nat.{ℕ, zero, suc, ◌+◌, ◌*◌, ◌-◌, ◌≤◌, ◌<◌}
use mathlib.Core.Path.{◌≡◌, ap, ap₂, sym, ◌∙◌, subst}
use mathlib.Core.Bool.{Bool, true, false}
use mathlib.Core.List.{List}
use native.Mathlib.Omega.{arith}
use lib.ListN.{length, take, drop}
use Rattle.std.specs.Bool.{MatchBool}
use Rattle.numbers.specs.declared.Controller.{Controller}
use Rattle.numbers.specs.declared.Key.{Key}
use Rattle.numbers.specs.Words.{every, ascends?, same_list}
use Rattle.numbers.specs.Key.{key_before}
use Rattle.block.specs.Fields.{field, upto}
use Rattle.block.specs.Block.{block_at}
use Rattle.block.proofs.Arrays.{upto_same}
use Rattle.block.proofs.Runs.{block_of_drop, lent_rest}
use Rattle.block.proofs.ByIndex.{Pairs, ascends_upto, pairs_one, pairs_more, pairs_fail}
use Rattle.meaning.specs.State.{stored_before}
use Rattle.laws.proofs.Putting.{stored_order}
use Rattle.layout.specs.Clocks.{decode_clock}
use Rattle.layout.specs.PointBlock.{form_1, decode_point, encode_stored, decode_stored}
use Rattle.record.specs.RecordGood.{record_good}
use Rattle.apart.specs.Apart as run
use Rattle.apart.specs.Apart.{point_of, apart}
use Rattle.block.proofs.Runs.{block_part}
use Rattle.image.specs.Parts.{stored_laid_out, Few}
use Rattle.image.specs.Apart.{point_at, apart_from_earlier}

pub laid_out_part : (img : List ℕ) (k : ℕ) (r : Bool)
    → r ≡ same_list (encode_stored form_1 k (decode_stored form_1 (take (512 * k + 512 - 512 * k) (drop (512 * k) img)))) (take (512 * k + 512 - 512 * k) (drop (512 * k) img)) → r ≡ stored_laid_out img k
unfolding stored_laid_out
laid_out_part img k r e = e ∙ ap (λ (b : List ℕ). same_list (encode_stored form_1 k (decode_stored form_1 b)) b) (block_part img k)

pub good_part : (img : List ℕ) (i : ℕ) (own : Controller) (table rows : List ℕ) (r : Bool)
    → r ≡ record_good own table (decode_clock rows) (decode_stored form_1 (take (512 * (3 + i) + 512 - 512 * (3 + i)) (drop (512 * (3 + i)) img)))
    → r ≡ record_good own table (decode_clock rows) (point_at img i)
good_part img i own table rows r e = e ∙ ap (λ (b : List ℕ). record_good own table (decode_clock rows) (decode_stored form_1 b)) (block_part img (3 + i))

pub few_part : (img : List ℕ) (n i : ℕ) → Few img n → i < n → field (take (512 * (3 + i) + 512 - 512 * (3 + i)) (drop (512 * (3 + i)) img)) 5 1 ≤ 8
few_part img n i h l = subst (λ (b : List ℕ). field b 5 1 ≤ 8) (sym (block_part img (3 + i))) (h i l)

-- ---- neighbours

-- the points before the i-th ascend
abbrev pub UpTo : List ℕ → ℕ → Type 0
UpTo img i = Pairs stored_before i (point_at img)

pub keys_are : (img : List ℕ) (k : ℕ) (x : Key) → x ≡ (decode_point form_1 (block_at img k)).key → x ≡ (decode_stored form_1 (block_at img k)).key
unfolding decode_stored
keys_are img k x e = e

-- the block before the one at 512 * k, as it is lent
pub block_before : (img : List ℕ) (i : ℕ) → 1 ≤ i → take (512 * (3 + i) - (512 * (3 + i) - 512)) (drop (512 * (3 + i) - 512) img) ≡ block_at img (3 + (i - 1))
unfolding block_at
block_before img i l = ap (λ (n : ℕ). take n (drop (512 * (3 + i) - 512) img)) size ∙ ap (λ (o : ℕ). take 512 (drop o img)) place
  where
    size : 512 * (3 + i) - (512 * (3 + i) - 512) ≡ 512
    size = omega arith

    place : 512 * (3 + i) - 512 ≡ 512 * (3 + (i - 1))
    place = omega arith

-- the test of two neighbours
pub neighbours : (img : List ℕ) (i : ℕ) (x y : Key) (r : Bool) → 1 ≤ i
    → x ≡ (decode_point form_1 (take (512 * (3 + i) - (512 * (3 + i) - 512)) (drop (512 * (3 + i) - 512) img))).key
    → y ≡ (decode_point form_1 (take (512 * (3 + i) + 512 - 512 * (3 + i)) (drop (512 * (3 + i)) img))).key
    → r ≡ key_before x y → r ≡ stored_before (point_at img (i - 1)) (point_at img i)
unfolding decode_stored
neighbours img i x y r l p q e =
    e ∙ ap (λ (k : Key). key_before k y) (p ∙ ap (λ (b : List ℕ). (decode_point form_1 b).key) (block_before img i l))
    ∙ ap (key_before (point_at img (i - 1)).key) (q ∙ ap (λ (b : List ℕ). (decode_point form_1 b).key) (block_part img (3 + i)))

goes_up : (img : List ℕ) (i : ℕ) → 1 ≤ i → UpTo img i → stored_before (point_at img (i - 1)) (point_at img i) ≡ true → UpTo img (i + 1)
goes_up img i l h t =
    let n : i ≡ i - 1 + 1 = omega arith in
    subst (λ (k : ℕ). UpTo img (k + 1)) (sym n)
    (pairs_more stored_before stored_order (point_at img) (i - 1) (subst (λ (k : ℕ). UpTo img k) n h) (subst (λ (k : ℕ). stored_before (point_at img (i - 1)) (point_at img k) ≡ true) n t))

goes_down : (img : List ℕ) (count i : ℕ) → 1 ≤ i → i < count → stored_before (point_at img (i - 1)) (point_at img i) ≡ false → false ≡ ascends? stored_before (upto count (point_at img))
goes_down img count i l k t =
    let n : i ≡ i - 1 + 1 = omega arith in
    sym (pairs_fail stored_before (point_at img) count (i - 1) (omega arith) (subst (λ (x : ℕ). stored_before (point_at img (i - 1)) (point_at img x) ≡ false) n t))

-- each point but the first comes after the one before it
rises : (img : List ℕ) (n : ℕ) → ((k : ℕ) → 1 ≤ k → k < n → stored_before (point_at img (k - 1)) (point_at img k) ≡ true) → UpTo img n
rises img zero h = λ i j l k. absurd (omega arith)
rises img (suc zero) h = pairs_one stored_before (point_at img)
rises img (suc (suc n)) h =
    let next : suc n + 1 ≡ suc (suc n) = omega arith in
    subst (UpTo img) next (goes_up img (suc n) (omega arith) (rises img (suc n) (λ k l m. h k l (omega arith))) (h (suc n) (omega arith) (omega arith)))

-- r is what was answered of all of them
pub all_ascend : (img : List ℕ) (count : ℕ) (r : Bool)
    → MatchBool r ((k : ℕ) → 1 ≤ k → k < count → stored_before (point_at img (k - 1)) (point_at img k) ≡ true) ((k : ℕ) × (1 ≤ k) × (k < count) × (stored_before (point_at img (k - 1)) (point_at img k) ≡ false))
    → r ≡ ascends? stored_before (upto count (point_at img))
all_ascend img count true h = sym (ascends_upto stored_before count (point_at img) (rises img count h))
all_ascend img count false h = goes_down img count h.0 h.1 h.2 h.3

-- ---- each record with those before it

-- what stands behind the head and the lists, as it is lent
pub few_behind : (img : List ℕ) (n : ℕ) → Few img n → run.Few (take (length img - 1536) (drop 1536 img)) n
few_behind img n few i l = subst (λ (b : List ℕ). field b 5 1 ≤ 8) (sym (ap (λ (r : List ℕ). block_at r i) (lent_rest img 1536) ∙ block_of_drop img 3 i)) (few i l)

apart_behind : (img : List ℕ) (j : ℕ) → run.apart_from_earlier (drop 1536 img) j ≡ apart_from_earlier img j
unfolding run.apart_from_earlier apart_from_earlier
apart_behind img j =
    ap every (upto_same j (λ i. apart (point_of (drop 1536 img) i) (point_of (drop 1536 img) j)) (λ i. apart (point_at img i) (point_at img j))
    (λ i l. ap₂ (λ (a b : List ℕ). apart (decode_stored form_1 a) (decode_stored form_1 b)) (block_of_drop img 3 i) (block_of_drop img 3 j)))

pub all_behind : (img : List ℕ) (n : ℕ) → every (upto n (run.apart_from_earlier (take (length img - 1536) (drop 1536 img)))) ≡ every (upto n (apart_from_earlier img))
all_behind img n =
    ap (λ (r : List ℕ). every (upto n (run.apart_from_earlier r))) (lent_rest img 1536)
    ∙ ap every (upto_same n (run.apart_from_earlier (drop 1536 img)) (apart_from_earlier img) (λ j l. apart_behind img j))

pub points_behind : (img : List ℕ) (n : ℕ) → upto n (point_of (take (length img - 1536) (drop 1536 img))) ≡ upto n (point_at img)
points_behind img n =
    ap (λ (r : List ℕ). upto n (point_of r)) (lent_rest img 1536)
    ∙ upto_same n (point_of (drop 1536 img)) (point_at img) (λ i l. ap (decode_stored form_1) (block_of_drop img 3 i))
