-- What is asked before a merge is made: whether any of some versions has a value, and whether the higher context would be stripped to nothing.
-- Assumes nothing.
use Prim.Native.Nat.{ℕ, ◌+◌, ◌*◌, max, ◌≤◌, ◌<◌}
use mathlib.Core.Path.{◌≡◌, refl, ap, ap₂, sym, ◌∙◌}
use mathlib.Core.Bool.{Bool, true, false, ◌&&◌, ◌||◌}
use mathlib.Core.List.{List, [], ◌∷◌}
use native.Mathlib.Omega.{arith}
use lib.ListN.{get_or}
use Rattle.numbers.specs.declared.Counter.{Counter}
use Rattle.numbers.specs.Words.{cons_if, keep, some?, map}
use Rattle.numbers.specs.Numbers.{controller, counter}
use Rattle.numbers.proofs.Tests.{and_one}
use Rattle.block.specs.Fields.{field, upto}
use Rattle.meaning.specs.Context.{entry, higher}
use Rattle.meaning.specs.Object.{has_value, Version}
use Rattle.laws.proofs.ContextLaws.{entry_each}
use Rattle.layout.specs.PointBlock.{form_1, decode_point}
use Rattle.record.proofs.Reading.{version_at, versions_are}
use Rattle.object.proofs.Entries.{is_deleted, is_value}
use Rattle.merging.proofs.Eight.{higher_at, given_at}

-- ---- values among the versions that pass a test

abbrev pub valued : (Version → Bool) → Version → Bool
valued f v = has_value v.contents && f v

some_kept : {A : Type 0} (g f : A → Bool) (xs : List A) → some? g (keep f xs) ≡ some? (λ x. g x && f x) xs
some_kept g f [] = refl
some_kept g f (x ∷ xs) = first (f x) ∙ ap (λ (t : Bool). (g x && f x) || t) (some_kept g f xs)
  where
    none : (a : Bool) → (a && false) ≡ false
    none true = refl
    none false = refl

    first : (b : Bool) → some? g (cons_if b x (keep f xs)) ≡ ((g x && b) || some? g (keep f xs))
    first true = ap (λ (t : Bool). t || some? g (keep f xs)) (sym (and_one (g x)))
    first false = ap (λ (t : Bool). t || some? g (keep f xs)) (sym (none (g x)))

-- whether any of the versions that pass has a value, asked of them one by one
pub any_valued : (f : Version → Bool) (b : List ℕ) {count : ℕ} → field b 5 1 ≤ 8 → count ≡ field b 5 1
    → some? (valued f) (upto count (version_at b)) ≡ some? (λ v. has_value v.contents) (keep f (decode_point form_1 b).object.versions)
any_valued f b few r =
    ap (λ (n : ℕ). some? (valued f) (upto n (version_at b))) r
    ∙ sym (some_kept (λ v. has_value v.contents) f (decode_point form_1 b).object.versions ∙ ap (some? (valued f)) (versions_are b few))

-- n is the length of version i as it was read, and f the other question
module _ (f : Version → Bool) (b : List ℕ) (i n : ℕ) (e : n ≡ field b (41 + 32 * i) 1) where
  pub no_value : n ≡ 255 → false ≡ valued f (version_at b i)
  no_value h = sym (ap (λ (t : Bool). t && f (version_at b i)) (is_deleted b i n e h))

  pub by_other : (n ≡ 255 → ⊥) → {r : Bool} → r ≡ f (version_at b i) → r ≡ valued f (version_at b i)
  by_other h q = q ∙ sym (ap (λ (t : Bool). t && f (version_at b i)) (is_value b i n e h))

-- ---- the higher of two contexts

-- e is the higher counter of controller i + 1 as it was made of the two
pub higher_read : (here there : List ℕ) (i : ℕ) → i < 8 → {e : Counter} → e ≡ counter (max (get_or here i 0) (get_or there i 0)) → e ≡ entry (higher (map counter here) (map counter there)) (controller (i + 1))
unfolding higher
higher_read here there i l p =
    p ∙ sym (entry_each (higher_at (map counter here) (map counter there)) (controller (i + 1)) (omega arith, omega arith) ∙ ap₂ (λ (x y : Counter). counter (max x.0 y.0)) (given_at here i) (given_at there i))
