-- Those of a list that do not pass a test, taken out from the last to the first; and a point's versions so. Assumes nothing.
use Prim.Native.Nat.{ℕ, suc, ◌-◌, ◌≤◌, ◌<◌}
use mathlib.Core.Path.{◌≡◌, ap, ap₂, sym, ◌∙◌, subst}
use mathlib.Core.Bool.{Bool, true, false}
use mathlib.Core.List.{List, [], ◌∷◌, ◌++◌, append_assoc, append-nil}
use native.Mathlib.Omega.{arith}
use lib.ListN.{length, take, drop, get_or, length-append, length-take, drop_of_length-le}
use lib.Seq.{take_all, take-suc, drop-cons, get_or-take, take_at, drop_at}
use Rattle.numbers.specs.Words.{cons_if, keep}
use Rattle.numbers.proofs.Tests.{◌∈◌}
use Rattle.block.specs.Fields.{remove_at, field}
use Rattle.block.specs.Block.{Laid}
use Rattle.block.proofs.Numbers.{Bytes}
use Rattle.block.proofs.Arrays.{upto_at, get_or_in}
use Rattle.meaning.specs.Object.{Version}
use Rattle.layout.specs.PointBlock.{form_1, decode_point}
use Rattle.record_edits.specs.Written.{Written, lay_point, point_block, with_versions}
use Rattle.record.proofs.Reading.{version_at, versions_are}
use Rattle.record_edits.proofs.Edits.{count_is, few_versions}

-- the first i stand where they stood, and these are left of the others: the next one stays, or goes
module _ {A : Type 0} (xs left : List A) (d : A) (i : ℕ) (l : i < length xs) where
  pub left_length : i < length (take (suc i) xs ++ left)
  left_length = omega (arith, length-append (take (suc i) xs) left, length-take (suc i) xs)

  pub left_at : get_or (take (suc i) xs ++ left) i d ≡ get_or xs i d
  left_at = lib.ListN.get_or-append (take (suc i) xs) left d i (omega (arith, length-take (suc i) xs)) ∙ get_or-take (suc i) xs i d (omega arith)

  pub left_stays : take (suc i) xs ++ left ≡ take i xs ++ (get_or xs i d ∷ left)
  left_stays = ap (λ (u : List A). u ++ left) (take-suc xs i d l) ∙ append_assoc (take i xs) (get_or xs i d ∷ []) left

  pub left_goes : remove_at (take (suc i) xs ++ left) i ≡ take i xs ++ left
  left_goes =
      ap (λ (u : List A). remove_at u i) left_stays
      ∙ ap₂ (λ (u v : List A). u ++ drop 1 v) (take_at (take i xs) (get_or xs i d ∷ left) i size) (drop_at (take i xs) (get_or xs i d ∷ left) i size)
    where
      size : length (take i xs) ≡ i
      size = length-take i xs ∙ omega arith

-- a test that was asked of the next one keeps it, or not
module _ {A : Type 0} (xs : List A) (d : A) (i : ℕ) (l : i < length xs) where
  pub kept_one : (f : A → Bool) → f (get_or xs i d) ≡ true → keep f (drop i xs) ≡ get_or xs i d ∷ keep f (drop (suc i) xs)
  kept_one f t = ap (keep f) (drop-cons xs i d l) ∙ ap (λ (b : Bool). cons_if b (get_or xs i d) (keep f (drop (suc i) xs))) t

  pub kept_none : (f : A → Bool) → f (get_or xs i d) ≡ false → keep f (drop i xs) ≡ keep f (drop (suc i) xs)
  kept_none f t = ap (keep f) (drop-cons xs i d l) ∙ ap (λ (b : Bool). cons_if b (get_or xs i d) (keep f (drop (suc i) xs))) t

module _ {A : Type 0} (f : A → Bool) (xs : List A) (d : A) where
  -- those from the i-th on are tested, and those that failed are gone
  abbrev pub tested : ℕ → List A
  tested i = take i xs ++ keep f (drop i xs)

  pub tested_none : tested (length xs) ≡ xs
  tested_none =
      ap (λ (l : List A). take (length xs) xs ++ keep f l) (drop_of_length-le xs {i = length xs} (omega arith)) ∙ append-nil (take (length xs) xs) ∙ take_all (length xs) xs (omega arith)

  pub tested_length : (i : ℕ) → i < length xs → i < length (tested (suc i))
  tested_length i l = left_length xs (keep f (drop (suc i) xs)) d i l

  pub tested_at : (i : ℕ) → i < length xs → get_or (tested (suc i)) i d ≡ get_or xs i d
  tested_at i l = left_at xs (keep f (drop (suc i) xs)) d i l

  pub passes : (i : ℕ) → i < length xs → f (get_or xs i d) ≡ true → tested (suc i) ≡ tested i
  passes i l t =
      left_stays xs (keep f (drop (suc i) xs)) d i l ∙ ap (λ (u : List A). take i xs ++ u) (sym (kept_one xs d i l f t))

  pub fails : (i : ℕ) → i < length xs → f (get_or xs i d) ≡ false → remove_at (tested (suc i)) i ≡ tested i
  fails i l t = left_goes xs (keep f (drop (suc i) xs)) d i l ∙ ap (λ (u : List A). take i xs ++ u) (sym (kept_none xs d i l f t))

-- ---- in a block

-- the versions from the i-th on are tested, and the block is now b
pub record Dropped (w : Written) (f : Version → Bool) (i : ℕ) (b : List ℕ) : Type 0 where
  pub size : length b ≡ 512
  pub bytes : Bytes b
  pub left : i ≤ length w.point.object.versions
  pub is : point_block b ≡ with_versions w (take i w.point.object.versions ++ keep f (drop i w.point.object.versions))
  pub laid : Laid lay_point point_block b

module _ (w : Written) (f : Version → Bool) where
  abbrev vs : List Version
  vs = w.point.object.versions

  pub dropping_none : (b : List ℕ) (n : ℕ) → Bytes b → length b ≡ 512 → point_block b ≡ w → Laid lay_point point_block b → n ≡ field b 5 1 → Dropped w f n b
  dropping_none b n small size p l e = record {
    size = size;
    bytes = small;
    left = omega (arith, full);
    is = p ∙ ap (with_versions w) (sym (ap (λ (k : ℕ). take k vs ++ keep f (drop k vs)) full ∙ tested_none f vs no_version));
    laid = l;
  }
    where
      no_version : Version
      no_version = version_at b 0

      full : n ≡ length w.point.object.versions
      full = e ∙ count_is b small size l ∙ ap (λ (v : Written). length v.point.object.versions) p

  module _ (i : ℕ) (b : List ℕ) (D : Dropped w f i b) (more : 0 < i) where
    abbrev j : ℕ
    j = i - 1

    here : i ≡ suc (i - 1)
    here = omega arith

    few : field b 5 1 ≤ 8
    few = omega (arith, count_is b D.bytes D.size D.laid, few_versions b D.bytes D.size D.laid)

    versions_now : (decode_point form_1 b).object.versions ≡ take (suc (i - 1)) w.point.object.versions ++ keep f (drop (suc (i - 1)) w.point.object.versions)
    versions_now = ap (λ (v : Written). v.point.object.versions) D.is ∙ ap (λ (k : ℕ). take k vs ++ keep f (drop k vs)) here

    pub dropping_inside : i - 1 < length (decode_point form_1 b).object.versions
    dropping_inside = omega (arith, ap length versions_now, tested_length f vs (version_at b j) j (omega (arith, D.left)))

    pub dropping_small : i - 1 < 8
    dropping_small = omega (arith, dropping_inside, few_versions b D.bytes D.size D.laid)

    -- what is read of the slot is the old version
    pub dropping_reads : version_at b (i - 1) ≡ get_or w.point.object.versions (i - 1) (version_at b (i - 1))
    dropping_reads =
        sym (ap (λ (l : List Version). get_or l j (version_at b j)) (versions_are b few) ∙ upto_at (field b 5 1) (version_at b) (version_at b j) j (omega (arith, dropping_inside, count_is b D.bytes D.size D.laid)))
        ∙ ap (λ (l : List Version). get_or l j (version_at b j)) versions_now
        ∙ tested_at f vs (version_at b j) j (omega (arith, D.left))

    -- and one of them
    pub dropping_one : version_at b (i - 1) ∈ w.point.object.versions
    dropping_one = subst (λ (v : Version). v ∈ vs) (sym dropping_reads) (get_or_in vs j (version_at b j) (omega (arith, D.left)))

    pub dropping_keeps : f (version_at b (i - 1)) ≡ true → Dropped w f (i - 1) b
    dropping_keeps t = record {
      size = D.size;
      bytes = D.bytes;
      left = omega (arith, D.left);
      is = D.is ∙ ap (with_versions w) (ap (λ (k : ℕ). take k vs ++ keep f (drop k vs)) here ∙ passes f vs (version_at b j) j (omega (arith, D.left)) (ap f (sym dropping_reads) ∙ t));
      laid = D.laid;
    }

    pub dropping_drops : (x : List ℕ) → Bytes x → length x ≡ 512 → f (version_at b (i - 1)) ≡ false → (point_block x ≡ with_versions (point_block b) (remove_at (decode_point form_1 b).object.versions (i - 1))) × Laid lay_point point_block x → Dropped w f (i - 1) x
    dropping_drops x small size t r = record {
      size = size;
      bytes = small;
      left = omega (arith, D.left);
      is =
          r.0 ∙ ap₂ (λ (v : Written) (l : List Version). with_versions v (remove_at l j)) D.is versions_now
          ∙ ap (with_versions w) (fails f vs (version_at b j) j (omega (arith, D.left)) (ap f (sym dropping_reads) ∙ t));
      laid = r.1;
    }

  pub dropping_all : (i : ℕ) (b : List ℕ) → Dropped w f i b → i ≤ 0 → (point_block b ≡ with_versions w (keep f w.point.object.versions)) × Laid lay_point point_block b
  dropping_all i b D l = (D.is ∙ ap (λ (k : ℕ). with_versions w (take k vs ++ keep f (drop k vs))) nought, D.laid)
    where
      nought : i ≡ 0
      nought = omega arith
