-- A take in, judged and made: what the definition says of each case. Assumes nothing.
use Prim.Native.Nat.{ℕ, ◌≤◌}
use mathlib.Core.Path.{◌≡◌, refl, ap, sym, ◌∙◌}
use mathlib.Core.Bool.{Bool, true, false, ◌||◌, not}
use mathlib.Core.List.{List, [], ◌∷◌}
use lib.ListN.{length}
use lib.Dec.{ltb}
use borrow.Author.Tests.{ltb-false}
use Rattle.refusal.specs.declared.Refusal.{Refusal}
use Rattle.refusal.specs.declared.Refusal.TheVariants.{RowTooFar, TooManyVersions, TooManyPoints}
use Rattle.refusal.specs.Refusal.{Answer, refused, accepted, refuse◌when◌else◌, verdict_of}
use Rattle.row.specs.Row.{fits}
use Rattle.meaning.specs.Clock.{Clock, every_row}
use Rattle.meaning.specs.State.{Stored, State}
use Rattle.meaning.specs.Message.{most_versions}
use Rattle.meaning.specs.Settle.{most_points, entered, put, settled, settle}
use Rattle.laws.proofs.Answers.{passes, passes_not, then, by_refusal, by_none, accepted_with}
use Rattle.layout.specs.Image.{encode}
use Rattle.layout.specs.Calls.{Left, afterwards}
use Rattle.store.proofs.Untouched.{untouched}
use Rattle.taking.specs.Taken.{result_judged, left_by}
use Rattle.std.specs.Prelude.{Ok, Err}

-- ---- rows 11 to 13, row by row

module _ (s : State) (c : Clock) (r : Stored) where
  pub far : every_row fits c ≡ false → Err RowTooFar ≡ verdict_of (result_judged s c r true)
  unfolding result_judged refuse◌when◌else◌
  far h = sym (rw h)

  module _ (fit : every_row fits c ≡ true) where
    pub many_versions : ltb most_versions (length r.object.versions) ≡ true → Err TooManyVersions ≡ verdict_of (result_judged s c r true)
    unfolding result_judged refuse◌when◌else◌
    many_versions h = sym (rw (fit, h))

    module _ (few : ltb most_versions (length r.object.versions) ≡ false) where
      pub many_points : ltb most_points (length (put c s.points r)) ≡ true → Err TooManyPoints ≡ verdict_of (result_judged s c r true)
      unfolding result_judged refuse◌when◌else◌
      many_points h = sym (rw (fit, few, h))

      pub may_be_put : ltb most_points (length (put c s.points r)) ≡ false → (Ok tt) ≡ verdict_of (result_judged s c r true)
      unfolding result_judged refuse◌when◌else◌
      may_be_put h = sym (rw (fit, few, h))

  -- an accepted one passed them
  pub passed : verdict_of (result_judged s c r true) ≡ Ok tt → (length r.object.versions ≤ most_versions) × (length (put c s.points r) ≤ most_points)
  unfolding result_judged
  passed e =
      let a = (accepted_with (result_judged s c r true) e).1 in
      let one = passes_not RowTooFar (every_row fits c) _ a in
      let two = passes TooManyVersions (ltb most_versions (length r.object.versions)) _ one.1 in
      let three = passes TooManyPoints (ltb most_points (length (put c s.points r))) _ two.1 in
      (ltb-false most_versions (length r.object.versions) two.0, ltb-false most_points (length (put c s.points r)) three.0)

  same_rows : {A : Type 0} (x : A) (a b d : Bool)
      → (refuse RowTooFar when not a else refuse TooManyVersions when b || false else refuse TooManyPoints when d else accepted x)
      ≡ then (refuse RowTooFar when not a else refuse TooManyVersions when b else refuse TooManyPoints when d else accepted true) (accepted x)
  unfolding refuse◌when◌else◌ then
  same_rows x false b d = refl
  same_rows x true true d = refl
  same_rows x true false true = refl
  same_rows x true false false = refl

  -- they are what the definition of storing asks, where c is the clock that it makes
  module _ (k : Clock) (is : entered k (r ∷ []) ≡ c) where
    settle_is : settle s k (r ∷ []) ≡ then (result_judged s (entered k (r ∷ [])) r true) (accepted (settled s k (r ∷ [])))
    unfolding settle result_judged settled
    settle_is = same_rows (settled s k (r ∷ [])) (every_row fits (entered k (r ∷ []))) (ltb most_versions (length r.object.versions)) (ltb most_points (length (put (entered k (r ∷ [])) s.points r)))

    settles : settle s k (r ∷ []) ≡ then (result_judged s c r true) (accepted (settled s k (r ∷ [])))
    settles = settle_is ∙ ap (λ (z : Clock). then (result_judged s z r true) (accepted (settled s k (r ∷ [])))) is

    pub settle_refused : (img : List ℕ) (q : Refusal) → verdict_of (result_judged s c r true) ≡ Err q → afterwards img [] (left_by (settle s k (r ∷ []))) ≡ untouched q img []
    unfolding afterwards
    settle_refused img q e = ap (λ (a : Answer State). afterwards img [] (left_by a)) (settles ∙ by_refusal (accepted (settled s k (r ∷ []))) (result_judged s c r true) q e)

    pub settle_made : (img : List ℕ) → verdict_of (result_judged s c r true) ≡ Ok tt
        → afterwards img [] (left_by (settle s k (r ∷ []))) ≡ record { verdict = Ok tt; image = encode (settled s k (r ∷ [])); out = []; count = 0 }
    unfolding afterwards
    settle_made img e = ap (λ (a : Answer State). afterwards img [] (left_by a)) (settles ∙ by_none (accepted (settled s k (r ∷ []))) (result_judged s c r true) e)

-- a refused one leaves all as it was
pub refused_after : (img : List ℕ) (a : Answer Left) (r : Refusal) → a ≡ refused r → afterwards img [] a ≡ untouched r img []
unfolding afterwards
refused_after img a r e = ap (afterwards img []) e
