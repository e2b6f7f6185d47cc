-- What the place that a search found says of the stored points: what is stored for a point, where a record goes, and what is left without it.
-- Assumes nothing.
use Prim.Native.Nat.{ℕ, zero, suc, ◌<◌}
use mathlib.Core.Path.{◌≡◌, refl, ap, ◌∙◌}
use mathlib.Core.Bool.{Bool, true, false, not}
use mathlib.Core.List.{List, [], ◌∷◌, ◌++◌}
use native.Mathlib.Omega.{arith}
use native.Mathlib.Nat.{le_of_suc-le-suc}
use lib.ListN.{length, take, drop, get_or}
use Rattle.numbers.specs.declared.Key.{Key}
use Rattle.numbers.specs.Words.{all?, ascends?, place}
use Rattle.numbers.specs.Key.{same_key, key_before}
use Rattle.numbers.proofs.Tests.{and_left, and_right, not-true}
use Rattle.numbers.proofs.Dots.{same_keys, key_itself, key_order}
use Rattle.block.proofs.Placed.{place_between, place_instead, keep_between, keep_but, all_others, others_before}
use Rattle.meaning.specs.Object.{no_object}
use Rattle.meaning.specs.State.{Stored, stored_before, look_up}
use Rattle.meaning.specs.Settle.{without}
use Rattle.image.specs.Places.{no_point, PointIn}
use Rattle.std.specs.Prelude.{Ok, Err}

-- a record of another point
abbrev other : Key → Stored → Bool
other k p = not (same_key k p.key)

look_past : (k : Key) (p : Stored) (ps : List Stored) → same_key k p.key ≡ false → look_up k (p ∷ ps) ≡ look_up k ps
unfolding look_up
look_past k p ps t = rw t

look_first : (k : Key) (p : Stored) (ps : List Stored) → same_key k p.key ≡ true → look_up k (p ∷ ps) ≡ p.object
unfolding look_up
look_first k p ps t = rw t

look_none : (k : Key) (ps : List Stored) → all? (other k) ps ≡ true → look_up k ps ≡ no_object
unfolding look_up
look_none k [] t = refl
look_none k (p ∷ ps) t =
    look_past k p ps (not-true (same_key k p.key) (and_left (other k p) (all? (other k) ps) t)) ∙ look_none k ps (and_right (other k p) (all? (other k) ps) t)

look_at : (k : Key) (ps : List Stored) (i : ℕ) → i < length ps → all? (other k) (take i ps) ≡ true → (get_or ps i no_point).key ≡ k → look_up k ps ≡ (get_or ps i no_point).object
look_at k [] i l t e = absurd (omega arith)
look_at k (p ∷ ps) zero l t e = look_first k p ps (ap (same_key k) e ∙ key_itself k)
look_at k (p ∷ ps) (suc i) l t e =
    look_past k p ps (not-true (same_key k p.key) (and_left (other k p) (all? (other k) (take i ps)) t))
    ∙ look_at k ps i (le_of_suc-le-suc l) (and_right (other k p) (all? (other k) (take i ps)) t) e

-- ---- a point that is not stored

pub look_up_before : (k : Key) (ps : List Stored) (i : ℕ) → PointIn ps k (Err i) → look_up k ps ≡ no_object
look_up_before k ps i h = look_none k ps (all_others (λ p. p.key) key_before key_order same_key same_keys key_itself k ps i h.1 h.2)

pub place_before : (p : Stored) (ps : List Stored) (i : ℕ) → PointIn ps p.key (Err i) → place stored_before p ps ≡ take i ps ++ (p ∷ drop i ps)
place_before p ps i h = place_between (λ q. q.key) key_before key_order p ps i h.1 h.2

pub without_before : (k : Key) (ps : List Stored) (i : ℕ) → PointIn ps k (Err i) → without k ps ≡ ps
unfolding without
without_before k ps i h = keep_between (λ p. p.key) key_before key_order same_key same_keys key_itself k ps i h.1 h.2

-- ---- a point that is stored

pub look_up_at : (k : Key) (ps : List Stored) (i : ℕ) → ascends? stored_before ps ≡ true → PointIn ps k (Ok i) → look_up k ps ≡ (get_or ps i no_point).object
look_up_at k ps i up h =
    look_at k ps i h.0 (others_before (λ p. p.key) key_before key_order same_key same_keys key_itself k ps no_point i up h.0 h.1) h.1

pub place_at : (p : Stored) (ps : List Stored) (i : ℕ) → ascends? stored_before ps ≡ true → PointIn ps p.key (Ok i)
    → place stored_before p ps ≡ take i ps ++ (p ∷ drop 1 (drop i ps))
place_at p ps i up h = place_instead (λ q. q.key) key_before key_order p ps no_point i up h.0 h.1

pub without_at : (k : Key) (ps : List Stored) (i : ℕ) → ascends? stored_before ps ≡ true → PointIn ps k (Ok i) → without k ps ≡ take i ps ++ drop 1 (drop i ps)
unfolding without
without_at k ps i up h = keep_but (λ p. p.key) key_before key_order same_key same_keys key_itself k ps no_point i up h.0 h.1
