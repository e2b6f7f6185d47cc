-- What an accepted answer says of the tests before it. Assumes nothing.
use mathlib.Core.Path.{◌≡◌, refl, sym, ap, subst}
use mathlib.Core.Bool.{Bool, true, false, not}
use mathlib.Core.List.{List}
use lib.ListN.{length}
use lib.Dec.{ltb}
use borrow.Author.Tests.{ltb-false, not-false}
use Rattle.numbers.specs.Words.{some?}
use Rattle.numbers.proofs.Tests.{by_test, never}
use Rattle.numbers.proofs.Lists.{in_some}
use Rattle.refusal.specs.declared.Refusal.{Refusal}
use Rattle.refusal.specs.declared.Refusal.TheVariants.{WrongCheck, IllFormed, OutOfRange, NotPeer, HistoryLost, DotClash, RowTooFar, TooManyVersions, TooManyPoints}
use Rattle.refusal.specs.Refusal.{Answer, refused, accepted, refuse◌when◌else◌, ◌>>=◌, verdict_of, Verdict}
use Rattle.row.specs.Row.{fits}
use Rattle.meaning.specs.Clock.{Clock, every_row}
use Rattle.meaning.specs.State.{Stored, State}
use Rattle.meaning.specs.Message.{most_versions}
use Rattle.meaning.specs.Settle.{most_points, settled, settle}
use Rattle.laws.proofs.Facts.{row_at}
use Rattle.laws.proofs.Settling.{Limits}
use Rattle.std.specs.Prelude.{Ok, Err}

module _ {A : Type 0} where
  abbrev is_accepted : Answer A → Type 0
  is_accepted (refused r) = ⊥
  is_accepted (accepted a) = Unit {0}

  pub not_refused : (r : Refusal) (x : A) → refused r ≡ accepted x → ⊥
  not_refused r x e = subst is_accepted (sym e) tt

  pub same_accepted : (x y : A) → accepted x ≡ accepted y → x ≡ y
  same_accepted x y e = cc

  -- an accepted answer passed the test in front of it
  pub passes : (r : Refusal) (t : Bool) (a : Answer A) {x : A} → (refuse r when t else a) ≡ accepted x → (t ≡ false) × (a ≡ accepted x)
  unfolding refuse◌when◌else◌
  passes r true a {x} e = absurd (not_refused r x e)
  passes r false a e = (refl, e)

  -- the same for a test that is written by what it asks for
  pub passes_not : (r : Refusal) (t : Bool) (a : Answer A) {x : A} → (refuse r when not t else a) ≡ accepted x → (t ≡ true) × (a ≡ accepted x)
  passes_not r t a e = let q = passes r (not t) a e in (not-false t q.0, q.1)

module _ {A B : Type 0} where
  pub bound : (a : Answer A) (f : A → Answer B) {y : B} → (a >>= f) ≡ accepted y → (x : A) × (a ≡ accepted x) × (f x ≡ accepted y)
  bound (refused r) f {y} e = absurd (not_refused r y e)
  bound (accepted x) f e = (x, refl, e)

-- the judgement, and then another answer
unfoldable pub then : {A : Type 0} → Answer Bool → Answer A → Answer A
then a x = a >>= λ y. x

pub by_refusal : {A : Type 0} (x : Answer A) (a : Answer Bool) (r : Refusal) → verdict_of a ≡ Err r → then a x ≡ refused r
unfolding then
by_refusal x (refused q) r e = ap refused (ap which e)
  where
    which : Verdict → Refusal
    which (Ok _) = q
    which (Err p) = p
by_refusal x (accepted y) r e = absurd (never {b = is_refused (Ok tt)} (ap is_refused e) refl)
  where
    is_refused : Verdict → Bool
    is_refused (Ok _) = false
    is_refused (Err p) = true

pub accepted_with : (a : Answer Bool) → verdict_of a ≡ Ok tt → (y : Bool) × (a ≡ accepted y)
accepted_with (accepted y) e = (y, refl)
accepted_with (refused q) e = absurd (never {b = is_accepted (Err q)} (ap is_accepted e) refl)
  where
    is_accepted : Verdict → Bool
    is_accepted (Ok _) = true
    is_accepted (Err p) = false

pub by_none : {A : Type 0} (x : Answer A) (a : Answer Bool) → verdict_of a ≡ Ok tt → then a x ≡ x
unfolding then
by_none x a e = ap (λ (b : Answer Bool). b >>= λ y. x) (accepted_with a e).1

-- the rows 3 to 10 of the table, before whatever is made of x: they judge, and then it is made
pub message_rows : {A B : Type 0} (c l f h p a d : Bool) (x : Answer A) (g : A → Answer B)
    → (refuse WrongCheck when not c else refuse IllFormed when not l else
    ((refuse IllFormed when not f else refuse OutOfRange when not h else refuse NotPeer when not p else refuse HistoryLost when a else refuse DotClash when d else x) >>= g))
    ≡ then (refuse WrongCheck when not c else refuse IllFormed when not l else
    refuse IllFormed when not f else refuse OutOfRange when not h else refuse NotPeer when not p else refuse HistoryLost when a else refuse DotClash when d else accepted true) (x >>= g)
unfolding refuse◌when◌else◌ then
message_rows false l f h p a d x g = refl
message_rows true false f h p a d x g = refl
message_rows true true false h p a d x g = refl
message_rows true true true false p a d x g = refl
message_rows true true true true false a d x g = refl
message_rows true true true true true true d x g = refl
message_rows true true true true true false true x g = refl
message_rows true true true true true false false x g = refl

-- what an accepted settle has tested, and what it gives
pub settle_accepted : (s : State) (k : Clock) (rs : List Stored) {x : State} → settle s k rs ≡ accepted x → Limits s k rs × (settled s k rs ≡ x)
unfolding settle
settle_accepted s k rs {x} e =
    let first = passes_not RowTooFar (every_row fits (settled s k rs).clock) _ e in
    let second = passes TooManyVersions (some? (λ r. ltb most_versions (length r.object.versions)) rs) _ first.1 in
    let third = passes TooManyPoints (ltb most_points (length (settled s k rs).points)) _ second.1 in (
      record {
        rows_fit = λ n c. unfold settled in (row_at fits (settled s k rs).clock first.0 n c);
        versions_few = λ r m. ltb-false most_versions (length r.object.versions)
            (by_test (ltb most_versions (length r.object.versions)) (λ t. never (in_some (λ q. ltb most_versions (length q.object.versions)) rs m t) second.0) (λ t. t));
        points_few = ltb-false most_points (length (settled s k rs).points) third.0;
      },
      same_accepted (settled s k rs) x third.1,
    )
