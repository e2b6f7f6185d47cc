-- Where refusal 10 does not apply, a record's versions agree with the message's: what `merge_in` and `goes_with` require. Assumes nothing.
use mathlib.Core.Path.{◌≡◌, ap}
use mathlib.Core.Bool.{true, false, ◌&&◌, ◌||◌, not}
use mathlib.Core.List.{List}
use borrow.Author.Tests.{not-false}
use Rattle.numbers.specs.Words.{some?, all?}
use Rattle.numbers.specs.Dot.{same_dot}
use Rattle.numbers.specs.Key.{same_key}
use Rattle.numbers.proofs.Tests.{by_test, and_right, and_false, or_false, or_inl, or_inr, ◌∈◌}
use Rattle.numbers.proofs.Lists.{none_in, in_all}
use Rattle.meaning.specs.Object.{same_contents, Version}
use Rattle.meaning.specs.State.{Stored, State, listed}
use Rattle.meaning.specs.Exchange.{clashes}
use Rattle.merging.specs.Merging.{agreeing}

-- "a version's dot in the message is stored here with other contents": no version clashes with the record p
module _ (s : State) (p : Stored) (vs : List Version) (stored : p ∈ s.points) (free : some? (clashes s p.key) vs ≡ false) where
  one : (v w : Version) → v ∈ vs → w ∈ p.object.versions → (not (same_dot v.dot w.dot) || same_contents v.contents w.contents) ≡ true
  unfolding clashes
  one v w mv mw =
      by_test (same_dot v.dot w.dot)
      (λ t. or_inr (not (same_dot v.dot w.dot)) (same_contents v.contents w.contents)
      (and_right (same_key p.key p.key) (same_contents v.contents w.contents)
      (not-false (same_key p.key p.key && same_contents v.contents w.contents)
      (and_false (same_dot v.dot w.dot) (not (same_key p.key p.key && same_contents v.contents w.contents))
      (none_in (λ x. same_dot v.dot x.dot && not (same_key p.key p.key && same_contents v.contents x.contents)) p.object.versions
      (none_in (λ q. some? (λ x. same_dot v.dot x.dot && not (same_key p.key q.key && same_contents v.contents x.contents)) q.object.versions) s.points
      (or_false _ (some? (λ l. same_dot v.dot l.dot && not (same_key p.key l.key)) (listed s)) (none_in (clashes s p.key) vs free mv)).0 stored) mw) t))))
      (λ t. or_inl (not (same_dot v.dot w.dot)) (same_contents v.contents w.contents) (ap not t))

  pub free_agree : agreeing p.object.versions vs ≡ true
  unfolding agreeing
  free_agree =
      in_all (λ v. all? (λ w. not (same_dot v.dot w.dot) || same_contents v.contents w.contents) p.object.versions) vs
      (λ v mv. in_all (λ w. not (same_dot v.dot w.dot) || same_contents v.contents w.contents) p.object.versions (λ w mw. one v w mv mw))
