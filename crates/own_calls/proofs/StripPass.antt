-- The strip pass, record by record, and its definition case by case. Assumes nothing.
use Rattle.std.specs.Prelude.{Ok, Err}
use Prim.Native.Nat.{ℕ, ◌-◌, ◌≤◌}
use mathlib.Core.Path.{◌≡◌, ap, ap₂, sym, ◌∙◌}
use mathlib.Core.Bool.{true}
use mathlib.Core.List.{List, []}
use native.Mathlib.Omega.{arith}
use lib.ListN.{length}
use Rattle.numbers.specs.Words.{ascends?}
use Rattle.refusal.specs.declared.Refusal.{Refusal}
use Rattle.refusal.specs.Refusal.{Answer, accepted, verdict_of}
use Rattle.meaning.specs.Clock.{Clock}
use Rattle.meaning.specs.State.{Stored, State, stored_before}
use Rattle.meaning.specs.OwnSteps.{strip_pass}
use Rattle.layout.specs.Image.{image_length, encode, decode}
use Rattle.layout.specs.Calls.{Left, afterwards, on_image, strip_pass_call}
use Rattle.image_edits.specs.Edits.{Canonical, with_points}
use Rattle.store.proofs.Pass.{pass_is, from, from_none}
use Rattle.store.proofs.Untouched.{untouched}
use Rattle.opening.specs.Admitted.{opened}
use Rattle.opening.proofs.Ladder.{refused_leaves, refused_first, opened_steps}

-- ---- record by record

-- the records from the i-th on are stripped, count are left, and the image is now img
pub record Stripping (s : State) (i count : ℕ) (img : List ℕ) : Type 0 where
  pub size : length img ≡ image_length
  pub left : i ≤ length s.points
  pub is : decode img ≡ with_points s (from s.clock s.points i)
  pub canonical : Canonical img
  pub counted : count ≡ length (decode img).points
  pub few : count ≤ length s.points

module _ (s : State) where
  abbrev k : Clock
  k = s.clock

  abbrev ps : List Stored
  ps = s.points

  pub stripping_none : (img : List ℕ) (n : ℕ) → length img ≡ image_length → decode img ≡ s → Canonical img → n ≡ length s.points → Stripping s n n img
  stripping_none img n size e c q = record {
    size = size;
    left = omega arith;
    is = e ∙ ap (with_points s) (sym (ap (from k ps) q ∙ from_none k ps));
    canonical = c;
    counted = q ∙ ap (λ (t : State). length t.points) (sym e);
    few = omega arith;
  }

  -- all are
  module _ (img : List ℕ) (i count : ℕ) (S : Stripping s i count img) (end : i ≤ 0) (up : ascends? stored_before s.points ≡ true) where
    nought : i ≡ 0
    nought = omega arith

    now_is : decode img ≡ (strip_pass s).state
    unfolding strip_pass
    now_is = S.is ∙ ap (λ (n : ℕ). with_points s (from k ps n)) nought ∙ ap (with_points s) (sym (pass_is k ps up))

    pub stripped_image : img ≡ encode (strip_pass s).state
    stripped_image = sym S.canonical ∙ ap encode now_is

    pub stripped_count : (n : ℕ) → n ≡ length s.points → n - count ≡ (strip_pass s).count
    unfolding strip_pass
    stripped_count n e = ap₂ (λ (a b : ℕ). a - b) e (S.counted ∙ ap (λ (t : State). length t.points) now_is)

-- ---- case by case

module _ (img : List ℕ) where
  abbrev step : State → Answer Left
  step s = accepted (record { image = encode (strip_pass s).state; out = []; count = (strip_pass s).count })

  pub strip_refused : (r : Refusal) → verdict_of (opened img true) ≡ Err r → strip_pass_call img ≡ untouched r img []
  unfolding strip_pass_call
  strip_refused r e = refused_leaves img [] (on_image true img step) r (refused_first img true step r e)

  pub strip_passed : verdict_of (opened img true) ≡ Ok tt → strip_pass_call img ≡ record { verdict = Ok tt; image = encode (strip_pass (decode img)).state; out = []; count = (strip_pass (decode img)).count }
  unfolding strip_pass_call afterwards
  strip_passed e = ap (afterwards img []) (opened_steps img true step e)
