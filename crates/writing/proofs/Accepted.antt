-- An accepted and a refused judgement, whatever the result is. Assumes nothing.
use Prim.Native.Nat.{◌<◌}
use mathlib.Core.Path.{◌≡◌, refl, ◌∙◌}
use mathlib.Core.Bool.{Bool, true, false, ◌&&◌, not}
use lib.ListN.{length}
use lib.Dec.{leb}
use borrow.Author.Tests.{leb-false}
use Rattle.numbers.specs.declared.Key.{Key}
use Rattle.numbers.specs.Numbers.{last_counter}
use Rattle.refusal.specs.declared.Refusal.{Refusal}
use Rattle.refusal.specs.declared.Refusal.TheVariants.{ContextAhead, TooManyVersions, TooManyPoints, OwnListFull, CountersUsedUp}
use Rattle.refusal.specs.Refusal.{refused, accepted, refuse◌when◌else◌, verdict_of}
use Rattle.meaning.specs.Context.{Context}
use Rattle.meaning.specs.State.{State, own_base}
use Rattle.meaning.specs.Message.{most_versions}
use Rattle.meaning.specs.Settle.{most_points, most_listed}
use Rattle.meaning.specs.OwnSteps.{context_ahead}
use Rattle.laws.proofs.Answers.{passes, then, by_refusal, by_none}
use Rattle.store.specs.HasRecord.{has_record}
use Rattle.writing.specs.Judged.{staying, own_judged, judged}
use Rattle.std.specs.Prelude.{Ok, Err}

same_refusals : {A : Type 0} (x : A) (a b c d e : Bool)
    → (refuse ContextAhead when a else refuse TooManyVersions when b else refuse TooManyPoints when c else refuse OwnListFull when d else refuse CountersUsedUp when e else accepted x)
    ≡ then (refuse ContextAhead when a else refuse TooManyVersions when b else refuse TooManyPoints when c else refuse OwnListFull when d else refuse CountersUsedUp when e else accepted true) (accepted x)
unfolding refuse◌when◌else◌ then
same_refusals x true b c d e = refl
same_refusals x false true c d e = refl
same_refusals x false false true d e = refl
same_refusals x false false false true e = refl
same_refusals x false false false false true = refl
same_refusals x false false false false false = refl

module _ (s : State) (k : Key) (valued : Bool) (c : Context) where
  any_result : {A : Type 0} (x : A) → judged s k valued c x ≡ then (judged s k valued c true) (accepted x)
  unfolding judged own_judged
  any_result x =
      same_refusals x (context_ahead s k c) (leb most_versions (length (staying s k c))) (valued && (not (has_record k s.points) && leb most_points (length s.points))) (leb most_listed (length s.own_dots)) (leb last_counter (own_base s))

  pub judged_refused : {A : Type 0} (x : A) (r : Refusal) → verdict_of (judged s k valued c true) ≡ Err r → judged s k valued c x ≡ refused r
  judged_refused x r e = any_result x ∙ by_refusal (accepted x) (judged s k valued c true) r e

  module _ (ok : verdict_of (judged s k valued c true) ≡ Ok tt) where
    pub judged_accepted : {A : Type 0} (x : A) → judged s k valued c x ≡ accepted x
    judged_accepted x = any_result x ∙ by_none (accepted x) (judged s k valued c true) ok

    -- every row was passed
    pub passed : (length (staying s k c) < most_versions) × (length s.own_dots < most_listed) × (own_base s < last_counter)
    unfolding judged own_judged
    passed =
        let first = passes ContextAhead (context_ahead s k c) _ (judged_accepted true) in
        let second = passes TooManyVersions (leb most_versions (length (staying s k c))) _ first.1 in
        let third = passes TooManyPoints (valued && (not (has_record k s.points) && leb most_points (length s.points))) _ second.1 in
        let fourth = passes OwnListFull (leb most_listed (length s.own_dots)) _ third.1 in
        let fifth = passes CountersUsedUp (leb last_counter (own_base s)) _ fourth.1 in
        (leb-false most_versions (length (staying s k c)) second.0, leb-false most_listed (length s.own_dots) fourth.0, leb-false last_counter (own_base s) fifth.0)
