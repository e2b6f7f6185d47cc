-- When a point is well-formed, as the tests that the code makes. Assumes nothing.
use Prim.Native.Nat.{ℕ, zero, suc, ◌+◌, ◌*◌, ◌-◌, ◌≤◌, ◌<◌}
use mathlib.Core.Path.{◌≡◌, refl, sym, ap, ap₂, ◌∙◌, subst}
use mathlib.Core.Bool.{Bool, true, false, ◌&&◌, ◌||◌}
use mathlib.Core.List.{List, [], ◌∷◌}
use native.Mathlib.Omega.{arith}
use native.Mathlib.Numerals.{add-one}
use lib.ListN.{length, take, length-take}
use lib.Dec.{leb, ltb, eqb}
use borrow.Author.Tests.{le-leb, lt-ltb, eq-eqb, ne_eqb}
use Rattle.numbers.specs.declared.Controller.{Controller}
use Rattle.numbers.specs.declared.Counter.{Counter}
use Rattle.numbers.specs.declared.Dot.{Dot}
use Rattle.numbers.specs.declared.Key.{Key}
use Rattle.numbers.specs.Words.{every, all?, some?, ascends?}
use Rattle.numbers.specs.Numbers.{controller, last_counter, is_controller, is_counter, is_job, is_point, controllers, Crew}
use Rattle.numbers.specs.Key.{is_key}
use Rattle.numbers.proofs.Tests.{by_test, same_test, and_left, and_both, or_inr}
use Rattle.numbers.proofs.Lists.{in_all}
use Rattle.numbers.proofs.Orders.{Order, by_pair, ascends_rest, ascends_cons}
use Rattle.block.specs.Fields.{cut, field, upto}
use Rattle.block.proofs.Parts.{length_cut}
use Rattle.block.proofs.Numbers.{Bytes, bytes_cut, bytes_take, field_bound}
use Rattle.block.proofs.Arrays.{upto_same, upto_length, in_upto}
use Rattle.meaning.specs.CrewTable.{CrewTable, holds}
use Rattle.meaning.specs.Context.{Context, entry}
use Rattle.meaning.specs.Object.{Version, version_before}
use Rattle.meaning.specs.Message.{contents_formed, version_formed, versions_formed, context_formed, point_formed}
use Rattle.layout.specs.PointBlock.{form_1, decode_contents, decode_slot, decode_context, decode_point}
use Rattle.record.proofs.Reading.{version_at, slot_dot, entry_field, versions_are}
use Rattle.block.proofs.Passing.{every_true, every_at, all_upto, HangsOn}

-- ---- the key

-- j and p are what was read of job and point
pub key_tests : (b : List ℕ) {j p : ℕ} → Bytes b → length b ≡ 512 → j ≡ field b 4 1 → p ≡ field b 6 2
    → HangsOn (is_key (decode_point form_1 b).key) (leb j 7 ∷ leb 1 p ∷ [])
unfolding is_key is_job is_point decode_point
key_tests b h e r s = record {
  hangs =
      ap (λ (t : Bool). leb (field b 4 1) 7 && (leb 1 (field b 6 2) && t)) (le-leb (field b 6 2) 65535 (omega (arith, field_bound b 6 2 h (omega arith))))
      ∙ ap₂ (λ (x y : ℕ). every (leb x 7 ∷ leb 1 y ∷ [])) (sym r) (sym s);
}

-- ---- a version

-- what stands in a slot's room is not too long, and of bytes
contents_fit : (n : ℕ) (x : List ℕ) → Bytes x → length x ≡ 24 → contents_formed (decode_contents n x) ≡ true
unfolding contents_formed decode_contents
contents_fit n x h e =
    by_test (eqb n 255) (λ t. rw t)
    (λ t. rw t
    (and_both (leb (length (take n x)) 24) (all? (λ b. ltb b 256) (take n x)) (le-leb (length (take n x)) 24 (omega (arith, length-take n x)))
    (in_all (λ b. ltb b 256) (take n x) (λ y m. lt-ltb y 256 (bytes_take n x h y m)))))

all_but_one : (l u c : Bool) → u ≡ true → c ≡ true → ((l && u) && (c && true)) ≡ (l && true)
all_but_one true u c p q = and_both u (c && true) p (and_both c true q refl)
all_but_one false u c p q = refl

some_version : (t : CrewTable) (job : ℕ) (v : Version) → v.dot.count.0 ≤ last_counter → contents_formed v.contents ≡ true
    → HangsOn (version_formed t job v) (is_controller v.dot.who ∷ holds t v.dot.who job ∷ leb 1 v.dot.count.0 ∷ [])
unfolding version_formed is_counter
some_version t job v l f = record {
  hangs =
      ap (λ (x : Bool). is_controller v.dot.who && (holds t v.dot.who job && x))
      (all_but_one (leb 1 v.dot.count.0) (leb v.dot.count.0 last_counter) (contents_formed v.contents) (le-leb v.dot.count.0 last_counter l) f);
}

-- d is the dot that was read
pub version_tests : (b : List ℕ) (i : ℕ) (t : CrewTable) (job : ℕ) {d : Dot} → Bytes b → length b ≡ 512 → i < 8 → d ≡ (version_at b i).dot
    → HangsOn (version_formed t job (version_at b i)) (is_controller d.who ∷ holds t d.who job ∷ leb 1 d.count.0 ∷ [])
version_tests b i t job h e l r =
    subst (λ (x : Dot). HangsOn (version_formed t job (version_at b i)) (is_controller x.who ∷ holds t x.who job ∷ leb 1 x.count.0 ∷ [])) (sym r)
    (some_version t job (version_at b i) small fits)
  where
    small : (version_at b i).dot.count.0 ≤ last_counter
    small =
        subst (λ (x : Dot). x.count.0 ≤ last_counter) (sym (slot_dot b (40 + 32 * i))) (omega (arith, field_bound b (40 + 32 * i + 4) 4 h (omega arith)))

    fits : contents_formed (version_at b i).contents ≡ true
    fits =
        unfold decode_slot in contents_fit (field (cut b (40 + 32 * i) 32) 1 1) (cut (cut b (40 + 32 * i) 32) 8 24) (bytes_cut (cut b (40 + 32 * i) 32) 8 24 (bytes_cut b (40 + 32 * i) 32 h))
        (length_cut (cut b (40 + 32 * i) 32) 8 24 (omega (arith, length_cut b (40 + 32 * i) 32 (omega arith))))

-- ---- the versions

-- a test of all versions, one by one
pub all_versions : (b : List ℕ) (p : Version → Bool) {count : ℕ} → field b 5 1 ≤ 8 → count ≡ field b 5 1
    → every (upto count (λ i. p (version_at b i))) ≡ all? p (decode_point form_1 b).object.versions
all_versions b p l r =
    ap (λ (n : ℕ). every (upto n (λ i. p (version_at b i)))) r
    ∙ sym (ap (all? p) (versions_are b l) ∙ all_upto p (field b 5 1) (version_at b))

pub some_versions : (b : List ℕ) (p : Version → Bool) {count : ℕ} → field b 5 1 ≤ 8 → count ≡ field b 5 1
    → some? p (upto count (version_at b)) ≡ some? p (decode_point form_1 b).object.versions
some_versions b p l r = ap (λ (n : ℕ). some? p (upto n (version_at b))) r ∙ sym (ap (some? p) (versions_are b l))

-- where each comes before the next, each comes before all that follow
module _ {A : Type 0} (before : A → A → Bool) (O : Order before) where
  next_of : (n : ℕ) (f : ℕ → A) → ascends? before (upto n f) ≡ true → (i : ℕ) → suc i < n → before (f i) (f (suc i)) ≡ true
  next_of zero f t i l = absurd (omega arith)
  next_of (suc zero) f t i l = absurd (omega arith)
  next_of (suc (suc n)) f t zero l =
      and_left (before (f 0) (f 1)) (all? (before (f 0)) (upto n (λ k. f (suc (suc k)))))
      (and_left (all? (before (f 0)) (upto (suc n) (λ k. f (suc k)))) (ascends? before (upto (suc n) (λ k. f (suc k)))) t)
  next_of (suc (suc n)) f t (suc i) l = next_of (suc n) (λ k. f (suc k)) (ascends_rest before (f 0) (upto (suc n) (λ k. f (suc k))) t) i (omega arith)

  first_of : (n : ℕ) (f : ℕ → A) → ((i : ℕ) → suc i < n → before (f i) (f (suc i)) ≡ true) → (i : ℕ) → suc i < n → before (f 0) (f (suc i)) ≡ true
  first_of n f h zero l = h 0 l
  first_of n f h (suc i) l = O.through (f 0) (f (suc i)) (f (suc (suc i))) (first_of n f h i (omega arith)) (h (suc i) l)

  of_next : (n : ℕ) (f : ℕ → A) → ((i : ℕ) → suc i < n → before (f i) (f (suc i)) ≡ true) → ascends? before (upto n f) ≡ true
  of_next zero f h = refl
  of_next (suc n) f h =
      ascends_cons before (f 0) (upto n (λ k. f (suc k)))
      (λ y m. let q = in_upto n (λ k. f (suc k)) m in ap (before (f 0)) q.2 ∙ first_of (suc n) f h q.0 (omega (arith, q.1)))
      (of_next n (λ k. f (suc k)) (λ i l. h (suc i) (omega arith)))

  pub neighbours : (n : ℕ) (f : ℕ → A) → every (upto (n - 1) (λ i. before (f i) (f (i + 1)))) ≡ ascends? before (upto n f)
  neighbours n f =
      same_test (every (upto (n - 1) (λ i. before (f i) (f (i + 1))))) (ascends? before (upto n f))
      (λ t. of_next n f (λ i l. subst (λ (k : ℕ). before (f i) (f k) ≡ true) (add-one i) (every_at (n - 1) (λ i. before (f i) (f (i + 1))) t i (omega arith))))
      (λ t. every_true (n - 1) (λ i. before (f i) (f (i + 1))) (λ i l. subst (λ (k : ℕ). before (f i) (f k) ≡ true) (sym (add-one i)) (next_of n f t i (omega arith))))

pub version_order : Order version_before
version_order = by_pair (λ v. v.dot.who.0) (λ v. v.dot.count.0)

-- ---- the context

-- eight counters that are not too large, each of a holder
abbrev pub named : List ℕ → CrewTable → ℕ → ℕ → Bool
named b t job i = holds t (controller (i + 1)) job || eqb (entry (decode_point form_1 b).object.context (controller (i + 1))).0 0

-- e is the entry x as it was read: 0, or one whose controller must hold the job
module _ {e x : Counter} (h : Bool) (r : e ≡ x) where
  pub entry_none : e.0 ≡ 0 → true ≡ (h || eqb x.0 0)
  entry_none z = sym (or_inr h (eqb x.0 0) (subst (λ (y : Counter). eqb y.0 0 ≡ true) r (eq-eqb e.0 0 z)))

  pub entry_some : (e.0 ≡ 0 → ⊥) → h ≡ (h || eqb x.0 0)
  entry_some z = sym (ap (λ (t : Bool). h || t) (subst (λ (y : Counter). eqb y.0 0 ≡ false) r (ne_eqb e.0 0 z)) ∙ or_nothing h)
    where
      or_nothing : (t : Bool) → (t || false) ≡ t
      or_nothing true = refl
      or_nothing false = refl

context_eight : (b : List ℕ) → length (decode_point form_1 b).object.context ≡ 8
unfolding decode_point decode_context
context_eight b = refl

entry_small : (b : List ℕ) (n : Controller) → Bytes b → length b ≡ 512 → Crew n → (entry (decode_point form_1 b).object.context n).0 ≤ last_counter
entry_small b n h e c =
    subst (λ (x : Counter). x.0 ≤ last_counter) (sym (entry_field b n c)) (omega (arith, field_bound b (8 + 4 * (n.0 - 1)) 4 h (omega (arith, c.0, c.1))))

context_tests : (b : List ℕ) (t : CrewTable) (job : ℕ) → Bytes b → length b ≡ 512
    → context_formed t job (decode_point form_1 b).object.context ≡ every (upto 8 (named b t job))
unfolding context_formed
context_tests b t job h e =
    ap (λ (x : Bool). x && all? test controllers) (eq-eqb (length (decode_point form_1 b).object.context) 8 (context_eight b))
    ∙ ap every
    (upto_same 8 (λ i. test (controller (i + 1))) (named b t job)
    (λ i l. ap (λ (x : Bool). x && named b t job i)
    (le-leb (entry (decode_point form_1 b).object.context (controller (i + 1))).0 last_counter (entry_small b (controller (i + 1)) h e (omega arith, omega arith)))))
  where
    test : Controller → Bool
    test n =
        leb (entry (decode_point form_1 b).object.context n).0 last_counter
        && (holds t n job || eqb (entry (decode_point form_1 b).object.context n).0 0)

-- ---- the point

job_field : (b : List ℕ) → (decode_point form_1 b).key.job ≡ field b 4 1
unfolding decode_point
job_field b = refl

regroup : (k l a s c : Bool) → l ≡ true → every (k ∷ l ∷ (a && s) ∷ c ∷ []) ≡ every (k ∷ a ∷ s ∷ c ∷ [])
regroup k true true s c e = refl
regroup k true false s c e = refl
regroup k false a s c e = absurd (mathlib.Core.Bool.false≢true e)

pub point_tests : (b : List ℕ) (t : CrewTable) {count job : ℕ} → Bytes b → length b ≡ 512 → field b 5 1 ≤ 8 → count ≡ field b 5 1 → job ≡ field b 4 1
    → HangsOn (point_formed t (decode_point form_1 b).key (decode_point form_1 b).object)
    (is_key (decode_point form_1 b).key
    ∷ every (upto count (λ i. version_formed t job (version_at b i)))
    ∷ every (upto (count - 1) (λ i. version_before (version_at b i) (version_at b (i + 1))))
    ∷ every (upto 8 (named b t job))
    ∷ [])
unfolding point_formed versions_formed
point_tests b t {count} {job} h e l r s = record {
  hangs =
      regroup (is_key k) (leb (length vs) 8) (all? (version_formed t k.job) vs) (ascends? version_before vs) (context_formed t k.job c) few
      ∙ (λ i. every (is_key k ∷ each i ∷ ascending i ∷ context i ∷ []));
}
  where
    k : Key
    k = (decode_point form_1 b).key

    vs : List Version
    vs = (decode_point form_1 b).object.versions

    c : Context
    c = (decode_point form_1 b).object.context

    job_is : k.job ≡ job
    job_is = job_field b ∙ sym s

    few : leb (length vs) 8 ≡ true
    few = le-leb (length vs) 8 (subst (λ (xs : List Version). length xs ≤ 8) (sym (versions_are b l)) (omega (arith, upto_length (field b 5 1) (version_at b))))

    each : all? (version_formed t k.job) vs ≡ every (upto count (λ i. version_formed t job (version_at b i)))
    each = sym (all_versions b (version_formed t k.job) l r) ∙ ap (λ (j : ℕ). every (upto count (λ i. version_formed t j (version_at b i)))) job_is

    ascending : ascends? version_before vs ≡ every (upto (count - 1) (λ i. version_before (version_at b i) (version_at b (i + 1))))
    ascending =
        ap (ascends? version_before) (versions_are b l)
        ∙ sym (neighbours version_before version_order (field b 5 1) (version_at b))
        ∙ ap (λ (n : ℕ). every (upto (n - 1) (λ i. version_before (version_at b i) (version_at b (i + 1))))) (sym r)

    context : context_formed t k.job c ≡ every (upto 8 (named b t job))
    context = ap (λ (j : ℕ). context_formed t j c) job_is ∙ context_tests b t job h e
