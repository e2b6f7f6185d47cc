-- The laws of contexts: what fill, strip and merge do to an entry, and how fill and strip go together. Assumes nothing.
use Rattle.std.specs.Prelude.{if◌then◌else◌}
use Prim.Native.Nat.{ℕ, ◌≤◌, ◌<◌, max}
use mathlib.Core.Path.{◌≡◌, ap, ◌∙◌}
use mathlib.Core.Bool.{true, false}
use mathlib.Core.Logic.{◌⊎◌, inl, inr, ⊎_elim}
use native.Mathlib.Omega.{arith}
use lib.Dec.{leb}
use borrow.Author.Tests.{leb-true, leb-false, le-leb, lt-leb}
use Rattle.numbers.specs.declared.Controller.{Controller}
use Rattle.numbers.specs.declared.Counter.{Counter}
use Rattle.numbers.specs.declared.Dot.{Dot}
use Rattle.numbers.specs.Numbers.{counter, each}
use Rattle.numbers.proofs.Tests.{by_test}
use Rattle.numbers.proofs.Controllers.{Crew, at_each, each_same}
use Rattle.meaning.specs.CrewTable.{CrewTable, holds}
use Rattle.meaning.specs.Clock.{Clock, row}
use Rattle.meaning.specs.Context.{Context, entry, no_context, covers, fill_context, strip_context, higher}
use Rattle.meaning.specs.Object.{Object, fill, strip}

pub entry_each : (f : Controller → Counter) (n : Controller) → Crew n → entry (each f) n ≡ f n
entry_each f n c = at_each f (counter 0) n c

pub same_counter : (a b : Counter) → a.0 ≡ b.0 → a ≡ b
same_counter a b e i = record { 0 = e i }

-- a is nowhere above b
abbrev pub Within : Context → Context → Type 0
Within a b = (n : Controller) → Crew n → (entry a n).0 ≤ (entry b n).0

-- no base of k is above that of l
abbrev pub Rising : Clock → Clock → Type 0
Rising k l = (n : Controller) → Crew n → (row k n).base ≤ (row l n).base

-- the context names only holders of the job
abbrev pub Named : CrewTable → ℕ → Context → Type 0
Named t j c = (n : Controller) → Crew n → holds t n j ≡ false → (entry c n).0 ≡ 0

-- ---- covers

pub covers_le : (c : Context) (d : Dot) → covers c d ≡ true → d.count.0 ≤ (entry c d.who).0
unfolding covers
covers_le c d t = leb-true d.count.0 (entry c d.who).0 t

pub le_covers : (c : Context) (d : Dot) → d.count.0 ≤ (entry c d.who).0 → covers c d ≡ true
unfolding covers
le_covers c d l = le-leb d.count.0 (entry c d.who).0 l

pub not_covers_lt : (c : Context) (d : Dot) → covers c d ≡ false → (entry c d.who).0 < d.count.0
unfolding covers
not_covers_lt c d t = leb-false d.count.0 (entry c d.who).0 t

pub covers_within : (a b : Context) (d : Dot) → Within a b → Crew d.who → covers a d ≡ true → covers b d ≡ true
covers_within a b d w c t = le_covers b d (omega (arith, covers_le a d t, w d.who c))

-- ---- entries

pub no_entry : (n : Controller) → Crew n → (entry no_context n).0 ≡ 0
no_entry n c = ap (λ (e : Counter). e.0) (entry_each (λ m. counter 0) n c)

pub higher_entry : (a b : Context) (n : Controller) → Crew n → (entry (higher a b) n).0 ≡ max (entry a n).0 (entry b n).0
unfolding higher
higher_entry a b n c = ap (λ (e : Counter). e.0) (entry_each (λ m. counter (max (entry a m).0 (entry b m).0)) n c)

module _ (t : CrewTable) (j : ℕ) (k : Clock) (c : Context) (n : Controller) (r : Crew n) where
  pub fill_entry : entry (fill_context t j k c) n ≡ (if holds t n j then counter (max (entry c n).0 (row k n).base) else entry c n)
  unfolding fill_context
  fill_entry = entry_each (λ m. if holds t m j then counter (max (entry c m).0 (row k m).base) else entry c m) n r

  pub fill_holder : holds t n j ≡ true → (entry (fill_context t j k c) n).0 ≡ max (entry c n).0 (row k n).base
  fill_holder h = rw (fill_entry, h)

  pub fill_other : holds t n j ≡ false → (entry (fill_context t j k c) n).0 ≡ (entry c n).0
  fill_other h = rw (fill_entry, h)

module _ (k : Clock) (c : Context) (n : Controller) (r : Crew n) where
  pub strip_entry : entry (strip_context k c) n ≡ (if leb (entry c n).0 (row k n).base then counter 0 else entry c n)
  unfolding strip_context
  strip_entry = entry_each (λ m. if leb (entry c m).0 (row k m).base then counter 0 else entry c m) n r

  pub strip_low : (entry c n).0 ≤ (row k n).base → (entry (strip_context k c) n).0 ≡ 0
  strip_low l = rw (strip_entry, le-leb (entry c n).0 (row k n).base l)

  pub strip_high : (row k n).base < (entry c n).0 → (entry (strip_context k c) n).0 ≡ (entry c n).0
  strip_high l = rw (strip_entry, lt-leb (entry c n).0 (row k n).base l)

  -- an entry is at its base or below and goes, or it stays
  pub strip_cases : (((entry c n).0 ≤ (row k n).base) × ((entry (strip_context k c) n).0 ≡ 0)) ⊎ (((row k n).base < (entry c n).0) × ((entry (strip_context k c) n).0 ≡ (entry c n).0))
  strip_cases =
      by_test (leb (entry c n).0 (row k n).base)
      (λ t. inl (leb-true (entry c n).0 (row k n).base t, strip_low (leb-true (entry c n).0 (row k n).base t)))
      (λ t. inr (leb-false (entry c n).0 (row k n).base t, strip_high (leb-false (entry c n).0 (row k n).base t)))

pub strip_within : (k : Clock) (c : Context) → Within (strip_context k c) c
strip_within k c n r = ⊎_elim (λ h. omega (arith, h.1)) (λ h. omega (arith, h.1)) (strip_cases k c n r)

-- ---- fill and strip

-- fill is monotone, in the context and in the clock
pub fill_monotone : (t : CrewTable) (j : ℕ) (k l : Clock) (a b : Context) → Rising k l → Within a b → Within (fill_context t j k a) (fill_context t j l b)
fill_monotone t j k l a b up w n r =
    by_test (holds t n j)
    (λ h. omega (arith, fill_holder t j k a n r h, fill_holder t j l b n r h, up n r, w n r))
    (λ h. omega (arith, fill_other t j k a n r h, fill_other t j l b n r h, w n r))

pub fill_raises : (t : CrewTable) (j : ℕ) (k : Clock) (c : Context) → Within c (fill_context t j k c)
fill_raises t j k c n r =
    by_test (holds t n j) (λ h. omega (arith, fill_holder t j k c n r h)) (λ h. omega (arith, fill_other t j k c n r h))

-- what is filled and stripped names holders only where the context did
pub fill_named : (t : CrewTable) (j : ℕ) (k : Clock) (c : Context) → Named t j c → Named t j (fill_context t j k c)
fill_named t j k c named n r h = fill_other t j k c n r h ∙ named n r h

pub strip_named : (t : CrewTable) (j : ℕ) (k : Clock) (c : Context) → Named t j c → Named t j (strip_context k c)
strip_named t j k c named n r h = omega (arith, strip_within k c n r, named n r h)

pub higher_named : (t : CrewTable) (j : ℕ) (a b : Context) → Named t j a → Named t j b → Named t j (higher a b)
higher_named t j a b p q n r h = omega (arith, higher_entry a b n r, p n r h, q n r h)

-- fill is idempotent
pub fill_twice : (t : CrewTable) (j : ℕ) (k : Clock) (c : Context) → fill_context t j k (fill_context t j k c) ≡ fill_context t j k c
fill_twice t j k c = unfold fill_context in each_same _ _ one
  where
    one : (n : Controller) → Crew n
        → (if holds t n j then counter (max (entry (fill_context t j k c) n).0 (row k n).base) else entry (fill_context t j k c) n)
        ≡ (if holds t n j then counter (max (entry c n).0 (row k n).base) else entry c n)
    one n r =
        by_test (holds t n j)
        (λ h. rw h (same_counter _ _ (omega (arith, fill_holder t j k c n r h))))
        (λ h. rw h (same_counter _ _ (fill_other t j k c n r h)))

-- of a context that names only holders, fill after strip with the same clock is fill
pub fill_strip : (t : CrewTable) (j : ℕ) (k : Clock) (c : Context) → Named t j c → fill_context t j k (strip_context k c) ≡ fill_context t j k c
fill_strip t j k c named = unfold fill_context in each_same _ _ one
  where
    one : (n : Controller) → Crew n
        → (if holds t n j then counter (max (entry (strip_context k c) n).0 (row k n).base) else entry (strip_context k c) n)
        ≡ (if holds t n j then counter (max (entry c n).0 (row k n).base) else entry c n)
    one n r =
        by_test (holds t n j)
        (λ h. rw h (same_counter _ _ (⊎_elim (λ x. omega (arith, x.0, x.1)) (λ x. omega (arith, x.0, x.1)) (strip_cases k c n r))))
        (λ h. rw h (same_counter _ _ (omega (arith, strip_within k c n r, named n r h))))

pub fill_strip_object : (t : CrewTable) (j : ℕ) (k : Clock) (o : Object) → Named t j o.context → fill t j k (strip k o) ≡ fill t j k o
unfolding fill strip
fill_strip_object t j k o named i = record { versions = o.versions; context = fill_strip t j k o.context named i }
