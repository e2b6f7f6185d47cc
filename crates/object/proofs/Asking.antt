-- A point's versions, each asked whether it goes, from the last to the first. Of the test nothing is known here but what it answered. Assumes nothing.
use Prim.Native.Nat.{ℕ, suc, ◌-◌, ◌≤◌, ◌<◌}
use mathlib.Core.Path.{◌≡◌, refl, ap, ap₂, sym, subst, ◌∙◌}
use mathlib.Core.Bool.{Bool, true, false, not}
use mathlib.Core.List.{List, [], ◌∷◌, ◌++◌, append-nil}
use native.Mathlib.Omega.{arith}
use borrow.Author.Tests.{not-true, not-false}
use denote.Ref.{Bor}
use lib.ListN.{length, take, drop, get_or, drop_of_length-le}
use lib.Seq.{take_all}
use Rattle.numbers.specs.Words.{keep}
use Rattle.numbers.specs.Numbers.{Crew}
use Rattle.numbers.proofs.Tests.{◌∈◌}
use Rattle.block.specs.Fields.{remove_at, field}
use Rattle.block.specs.Block.{Laid}
use Rattle.block.proofs.Numbers.{Bytes}
use Rattle.block.proofs.Arrays.{upto_at, get_or_in}
use Rattle.meaning.specs.Object.{Version}
use Rattle.layout.specs.PointBlock.{form_1, decode_point}
use Rattle.record_edits.specs.Written.{Written, lay_point, point_block, with_versions}
use Rattle.record.proofs.Reading.{version_at, versions_are}
use Rattle.record.specs.Crewed.{crewed}
use Rattle.record_edits.proofs.Edits.{count_is, few_versions}
use Rattle.object.specs.Dropping.{SaysWhatGoes, version_in}
use Rattle.object.specs.Versions.{no_version}
use Rattle.object.proofs.Entries.{crewed_dot}
use Rattle.object.proofs.Dropping.{left_length, left_at, left_stays, left_goes, kept_one, kept_none}

-- the versions from the i-th on were asked, `kept` are those of them that stayed, and the block is now b
pub record Asked (w : Written) (post : Bor (List ℕ) → ℕ → Bool → Type 0) (i : ℕ) (b : List ℕ) : Type 0 where
  pub size : length b ≡ 512
  pub bytes : Bytes b
  pub left : i ≤ length w.point.object.versions
  pub kept : List Version
  pub is : point_block b ≡ with_versions w (take i w.point.object.versions ++ kept)
  pub laid : Laid lay_point point_block b
  pub by_any : (f : Version → Bool) → SaysWhatGoes post f → kept ≡ keep f (drop i w.point.object.versions)

module _ (w : Written) (post : Bor (List ℕ) → ℕ → Bool → Type 0) where
  abbrev vs : List Version
  vs = w.point.object.versions

  pub asked_none : (b : List ℕ) (n : ℕ) → Bytes b → length b ≡ 512 → point_block b ≡ w → Laid lay_point point_block b → n ≡ field b 5 1 → Asked w post n b
  asked_none b n small size p l e = record {
    size = size;
    bytes = small;
    left = omega (arith, full);
    kept = [];
    is = p ∙ ap (with_versions w) (sym (append-nil (take n vs) ∙ take_all n vs (omega (arith, full))));
    laid = l;
    by_any = λ f says. sym (ap (keep f) (drop_of_length-le vs {i = n} (omega (arith, full))));
  }
    where
      full : n ≡ length w.point.object.versions
      full = e ∙ count_is b small size l ∙ ap (λ (v : Written). length v.point.object.versions) p

  module _ (i : ℕ) (b : List ℕ) (D : Asked w post i b) (more : 0 < i) where
    abbrev j : ℕ
    j = i - 1

    here : i ≡ suc (i - 1)
    here = omega arith

    pub asked_old : i - 1 < length w.point.object.versions
    asked_old = omega (arith, D.left)

    then : (decode_point form_1 b).object.versions ≡ take (suc (i - 1)) w.point.object.versions ++ D.kept
    then = ap (λ (v : Written). v.point.object.versions) D.is ∙ ap (λ (k : ℕ). take k vs ++ D.kept) here

    pub asked_inside : i - 1 < length (decode_point form_1 b).object.versions
    asked_inside = omega (arith, ap length then, left_length vs D.kept no_version j asked_old)

    pub asked_small : i - 1 < 8
    asked_small = omega (arith, asked_inside, few_versions b D.bytes D.size D.laid)

    -- what stands in the slot is the old version
    pub asked_reads : version_in b (i - 1) ≡ get_or w.point.object.versions (i - 1) no_version
    asked_reads =
        sym (ap (λ (l : List Version). get_or l j no_version) (versions_are b few) ∙ upto_at (field b 5 1) (version_at b) no_version j (omega (arith, asked_inside, count_is b D.bytes D.size D.laid)))
        ∙ ap (λ (l : List Version). get_or l j no_version) then
        ∙ left_at vs D.kept no_version j asked_old
      where
        few : field b 5 1 ≤ 8
        few = omega (arith, count_is b D.bytes D.size D.laid, few_versions b D.bytes D.size D.laid)

    -- the answer r, of the block as it was lent
    module _ (x : Bor (List ℕ)) (lent : x.now ≡ b) (r : Bool) (said : post x (i - 1) r) where
      told : (f : Version → Bool) → SaysWhatGoes post f → r ≡ not (f (get_or w.point.object.versions (i - 1) no_version))
      told f says = says x (i - 1) r (ap length lent ∙ D.size) asked_small said ∙ ap (λ (v : Version). not (f v)) (ap (λ (y : List ℕ). version_in y j) lent ∙ asked_reads)

      pub asked_stays : r ≡ false → Asked w post (i - 1) b
      asked_stays t = record {
        size = D.size;
        bytes = D.bytes;
        left = omega (arith, D.left);
        kept = get_or vs j no_version ∷ D.kept;
        is = D.is ∙ ap (with_versions w) (ap (λ (k : ℕ). take k vs ++ D.kept) here ∙ left_stays vs D.kept no_version j asked_old);
        laid = D.laid;
        by_any = λ f says.
            ap (λ (l : List Version). get_or vs j no_version ∷ l) (D.by_any f says ∙ ap (λ (k : ℕ). keep f (drop k vs)) here)
            ∙ sym (kept_one vs no_version j asked_old f (not-false (f (get_or vs j no_version)) (sym (told f says) ∙ t)));
      }

      pub asked_goes : (y : List ℕ) → Bytes y → length y ≡ 512 → r ≡ true → (point_block y ≡ with_versions (point_block b) (remove_at (decode_point form_1 b).object.versions (i - 1))) × Laid lay_point point_block y
          → Asked w post (i - 1) y
      asked_goes y small size t q = record {
        size = size;
        bytes = small;
        left = omega (arith, D.left);
        kept = D.kept;
        is =
            q.0 ∙ ap₂ (λ (v : Written) (l : List Version). with_versions v (remove_at l j)) D.is then
            ∙ ap (with_versions w) (left_goes vs D.kept no_version j asked_old);
        laid = q.1;
        by_any = λ f says.
            D.by_any f says ∙ ap (λ (k : ℕ). keep f (drop k vs)) here
            ∙ sym (kept_none vs no_version j asked_old f (not-true (f (get_or vs j no_version)) (sym (told f says) ∙ t)));
      }

-- ---- for a test that is asked of a version's dot

-- the controller of a version that is asked of
pub crewed_asked : (vs : List Version) → crewed vs ≡ true → (b : List ℕ) (i : ℕ) → i < length vs → version_in b i ≡ get_or vs i no_version → Crew (version_in b i).dot.who
crewed_asked vs t b i l there = crewed_dot vs t refl (subst (λ (v : Version). v ∈ vs) (sym there) (get_or_in vs i no_version l))

-- a test says what goes where those stay that do not pass it
pub not_not : (a : Bool) → a ≡ not (not a)
not_not true = refl
not_not false = refl
