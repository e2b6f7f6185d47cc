-- What is asked of a record's versions, its context and the clock, as the tests that the code makes. Assumes nothing.
use Prim.Native.Nat.{ℕ, ◌+◌, ◌*◌, ◌≤◌, ◌<◌, max}
use mathlib.Core.Path.{◌≡◌, refl, sym, ap, ap₂, ◌∙◌, subst}
use mathlib.Core.Bool.{Bool, true, false, ◌&&◌, ◌||◌, not}
use mathlib.Core.List.{List, [], ◌∷◌}
use native.Mathlib.Omega.{arith}
use lib.ListN.{length}
use lib.Dec.{leb, eqb}
use borrow.Author.Tests.{leb-true, le-leb, lt-leb}
use Rattle.numbers.specs.declared.Controller.{Controller}
use Rattle.numbers.specs.declared.Counter.{Counter}
use Rattle.numbers.specs.declared.Dot.{Dot}
use Rattle.numbers.specs.declared.Key.{Key}
use Rattle.numbers.specs.Words.{every, all?, some?, same_list}
use Rattle.numbers.specs.Numbers.{counter, is_controller, Crew}
use Rattle.numbers.proofs.Tests.{by_test, same_test}
use Rattle.numbers.proofs.Lists.{in_all}
use Rattle.numbers.proofs.Controllers.{crew_is, is_crew}
use Rattle.block.specs.Fields.{cut, field, zeros, upto}
use Rattle.block.proofs.Parts.{length_cut}
use Rattle.block.proofs.Arrays.{upto_same}
use Rattle.block.proofs.Same.{same_array, same_zeros}
use Rattle.block.proofs.Scans.{number_zero}
use Rattle.row.specs.declared.Row.{Row}
use Rattle.meaning.specs.CrewTable.{CrewTable, holds}
use Rattle.meaning.specs.Clock.{Clock, row, in_clock}
use Rattle.meaning.specs.Context.{Context, entry, is_empty, covers, fill_context}
use Rattle.meaning.specs.Object.{has_value, Object, gone}
use Rattle.meaning.specs.Message.{point_formed, covers_all}
use Rattle.laws.proofs.ContextLaws.{le_covers, covers_within, fill_holder, fill_other, fill_raises}
use Rattle.laws.proofs.Facts.{point_facts}
use Rattle.layout.specs.Clocks.{decode_clock}
use Rattle.layout.specs.PointBlock.{form_1, decode_contents, decode_slot, decode_context, decode_point, decode_stored}
use Rattle.parts.proofs.Lookup.{field_of_cut}
use Rattle.record.specs.RecordGood.{record_good}
use Rattle.record.specs.Crewed.{crewed}
use Rattle.record.proofs.Reading.{version_at}
use Rattle.block.proofs.Passing.{every_at, all_upto, HangsOn, and_true}
use Rattle.record.proofs.LaidOut.{zero_part}
use Rattle.record.proofs.Formed.{all_versions}

-- ---- the versions' controllers

pub formed_crewed : (t : CrewTable) (k : Key) (o : Object) → point_formed t k o ≡ true → crewed o.versions ≡ true
unfolding crewed
formed_crewed t k o f = in_all (λ v. is_controller v.dot.who) o.versions (λ v m. is_crew v.dot.who ((point_facts t k o f).versions.each v m).crew)

-- d is the dot that was read of the i-th version
pub crewed_at : (b : List ℕ) {count : ℕ} → field b 5 1 ≤ 8 → count ≡ field b 5 1 → crewed (decode_point form_1 b).object.versions ≡ true
    → (i : ℕ) → i < count → Crew (version_at b i).dot.who
unfolding crewed
crewed_at b {count} l r c i h =
    crew_is (version_at b i).dot.who (every_at count (λ k. is_controller (version_at b k).dot.who) (all_versions b (λ v. is_controller v.dot.who) l r ∙ c) i h)

-- ---- what a context covers: d is the dot x as it was read, and n its entry

module _ (c : Context) {d x : Dot} {n : Counter} (r : d ≡ x) (s : n ≡ entry c d.who) where
  module _ (t : CrewTable) (job : ℕ) (k : Clock) (crew : Crew d.who) where
    pub fill_covers : d.count.0 ≤ n.0 → true ≡ covers (fill_context t job k c) x
    fill_covers l =
        sym (subst (λ (y : Dot). covers (fill_context t job k c) y ≡ true) r
        (covers_within c (fill_context t job k c) d (fill_raises t job k c) crew (le_covers c d (subst (λ (m : Counter). d.count.0 ≤ m.0) s l))))

    -- not the context itself: then j, the job that was read, is not held, or the base decides
    module _ {j : ℕ} (q : j ≡ job) (l : n.0 < d.count.0) where
      low : (entry c d.who).0 < d.count.0
      low = subst (λ (m : Counter). m.0 < d.count.0) s l

      pub fill_misses : holds t d.who j ≡ false → false ≡ covers (fill_context t job k c) x
      unfolding covers
      fill_misses h =
          sym (subst (λ (y : Dot). leb y.count.0 (entry (fill_context t job k c) y.who).0 ≡ false) r
          (lt-leb d.count.0 (entry (fill_context t job k c) d.who).0 (omega (arith, low, fill_other t job k c d.who crew (ap (holds t d.who) (sym q) ∙ h)))))

      pub fill_base : {w : Row} → holds t d.who j ≡ true → w ≡ row k d.who → leb d.count.0 w.base ≡ covers (fill_context t job k c) x
      unfolding covers
      fill_base {w} h p =
          ap (λ (v : Row). leb d.count.0 v.base) p
          ∙ same_test (leb d.count.0 (row k d.who).base) (leb d.count.0 (entry (fill_context t job k c) d.who).0)
          (λ u. le-leb d.count.0 (entry (fill_context t job k c) d.who).0 (omega (arith, filled, leb-true d.count.0 (row k d.who).base u)))
          (λ u. le-leb d.count.0 (row k d.who).base (omega (arith, filled, low, leb-true d.count.0 (entry (fill_context t job k c) d.who).0 u)))
          ∙ ap (λ (y : Dot). leb y.count.0 (entry (fill_context t job k c) y.who).0) r
        where
          filled : (entry (fill_context t job k c) d.who).0 ≡ max (entry c d.who).0 (row k d.who).base
          filled = fill_holder t job k c d.who crew (ap (holds t d.who) (sym q) ∙ h)

-- the context of the point block, filled by the table and the rows
abbrev pub filled : List ℕ → List ℕ → List ℕ → Context
filled b table rows = fill_context table (field b 4 1) (decode_clock rows) (decode_point form_1 b).object.context

-- the versions one by one
pub all_covered : (b : List ℕ) (c : Context) {count : ℕ} → field b 5 1 ≤ 8 → count ≡ field b 5 1
    → every (upto count (λ i. covers c (version_at b i).dot)) ≡ covers_all c (decode_point form_1 b).object.versions
unfolding covers_all
all_covered b c l r = all_versions b (λ v. covers c v.dot) l r

-- ---- when a record goes

not_some : {A : Type 0} (p : A → Bool) (xs : List A) → not (some? p xs) ≡ all? (λ x. not (p x)) xs
not_some p [] = refl
not_some p (x ∷ xs) = not_or (p x) (some? p xs) ∙ ap (λ (t : Bool). not (p x) && t) (not_some p xs)
  where
    not_or : (a b : Bool) → not (a || b) ≡ (not a && not b)
    not_or true b = refl
    not_or false b = refl

-- 32 bytes are zero where eight counters are
zero_fields : (s : List ℕ) → length s ≡ 32 → every (upto 8 (λ i. eqb (field s (4 * i) 4) 0)) ≡ zero_part s
unfolding field
zero_fields s e =
    sym
    (sym (same_zeros 32 s e)
    ∙ same_array 4 (λ (x : ℕ). zeros 4) (λ l. 0) 8 s (omega arith) (λ l p. refl)
    ∙ ap every
    (upto_same 8 (λ i. same_list (zeros 4) (cut s (4 * i) 4)) (λ i. eqb (field s (4 * i) 4) 0)
    (λ i l. same_zeros 4 (cut s (4 * i) 4) (length_cut s (4 * i) 4 (omega arith)) ∙ number_zero (cut s (4 * i) 4))))

context_empty : (b : List ℕ) → length b ≡ 512 → is_empty (decode_point form_1 b).object.context ≡ zero_part (cut b 8 32)
unfolding is_empty decode_point decode_context
context_empty b e =
    all_upto (λ (x : Counter). eqb x.0 0) 8 (λ i. counter (field (cut b 8 32) (4 * i) 4)) ∙ zero_fields (cut b 8 32) (length_cut b 8 32 (omega arith))

-- "255 = deleted"
pub said_deleted : (b : List ℕ) (i : ℕ) → not (has_value (version_at b i).contents) ≡ eqb (field b (41 + 32 * i) 1) 255
unfolding decode_slot decode_contents
said_deleted b i = by_test (eqb n 255) (λ t. rw t) (λ t. rw t) ∙ ap (λ (m : ℕ). eqb m 255) there
  where
    n : ℕ
    n = field (cut b (40 + 32 * i) 32) 1 1

    place : 40 + 32 * i + 1 ≡ 41 + 32 * i
    place = omega arith

    there : field (cut b (40 + 32 * i) 32) 1 1 ≡ field b (41 + 32 * i) 1
    there = field_of_cut b (40 + 32 * i) 32 1 1 (omega arith) ∙ ap (λ (o : ℕ). field b o 1) place

-- no version has a value where each says that it is deleted
pub none_has_value : (b : List ℕ) {count : ℕ} → field b 5 1 ≤ 8 → count ≡ field b 5 1
    → not (some? (λ v. has_value v.contents) (decode_point form_1 b).object.versions) ≡ every (upto count (λ i. eqb (field b (41 + 32 * i) 1) 255))
none_has_value b {count} l r =
    not_some (λ v. has_value v.contents) (decode_point form_1 b).object.versions
    ∙ sym (all_versions b (λ v. not (has_value v.contents)) l r)
    ∙ ap every (upto_same count (λ i. not (has_value (version_at b i).contents)) (λ i. eqb (field b (41 + 32 * i) 1) 255) (λ i h. said_deleted b i))

pub gone_tests : (b : List ℕ) {count : ℕ} → length b ≡ 512 → field b 5 1 ≤ 8 → count ≡ field b 5 1
    → HangsOn (gone (decode_point form_1 b).object) (zero_part (cut b 8 32) ∷ every (upto count (λ i. eqb (field b (41 + 32 * i) 1) 255)) ∷ [])
unfolding gone
gone_tests b {count} e l r = record { hangs = ap₂ ◌&&◌ (context_empty b e) (none_has_value b l r ∙ sym (and_true (every (upto count (λ i. eqb (field b (41 + 32 * i) 1) 255))))) }

-- ---- a good record

-- n and r are the own entry and row as they were read
module _ {n m : Counter} {r w : Row} (p : n ≡ m) (q : r ≡ w) where
  pub at_base : n.0 ≤ r.base → leb m.0 w.base ≡ true
  at_base l = sym (ap₂ (λ (x : Counter) (y : Row). leb x.0 y.base) p q) ∙ le-leb n.0 r.base l

  pub above_base : r.base < n.0 → leb m.0 w.base ≡ false
  above_base l = sym (ap₂ (λ (x : Counter) (y : Row). leb x.0 y.base) p q) ∙ lt-leb n.0 r.base l

pub good_tests : (b : List ℕ) (own : Controller) (t : CrewTable) (k : Clock)
    → HangsOn (record_good own t k (decode_stored form_1 b))
    (point_formed t (decode_point form_1 b).key (decode_point form_1 b).object
    ∷ holds t own (field b 4 1)
    ∷ covers_all (fill_context t (decode_point form_1 b).key.job k (decode_point form_1 b).object.context) (decode_point form_1 b).object.versions
    ∷ all? (λ v. in_clock k v.dot) (decode_point form_1 b).object.versions
    ∷ leb (entry (decode_point form_1 b).object.context own).0 (row k own).base
    ∷ not (gone (decode_point form_1 b).object)
    ∷ [])
unfolding record_good decode_stored decode_point
good_tests b own t k = record { hangs = refl }
