-- What the refusals 4 to 10 leave of a message's point, and what the merge makes of it. Assumes nothing.
use Prim.Native.Nat.{◌+◌}
use mathlib.Core.Path.{◌≡◌, refl, ap, sym, ◌∙◌}
use mathlib.Core.Bool.{Bool, true, false, ◌||◌, not}
use mathlib.Core.List.{List, [], ◌∷◌}
use lib.ListN.{length}
use borrow.Author.Tests.{not-true}
use Rattle.numbers.specs.declared.Key.{Key}
use Rattle.numbers.specs.Words.{some?, all?, ascends?}
use Rattle.numbers.specs.Numbers.{is_controller}
use Rattle.numbers.proofs.Tests.{by_test, or_inl, or_inr}
use Rattle.numbers.proofs.Lists.{clause, in_all}
use Rattle.numbers.proofs.Controllers.{is_crew}
use Rattle.numbers.proofs.Dots.{same_dots}
use Rattle.numbers.specs.Dot.{same_dot}
use Rattle.block.proofs.Same.{same_itself}
use Rattle.meaning.specs.CrewTable.{holds}
use Rattle.meaning.specs.Object.{Contents, value, deleted, same_contents, Version, version_before, Object, survivors, merge}
use Rattle.meaning.specs.State.{State, local}
use Rattle.meaning.specs.Message.{point_formed, covers_all}
use Rattle.meaning.specs.Exchange.{ahead_of_us, clashes}
use Rattle.laws.proofs.Facts.{each_covered}
use Rattle.laws.proofs.Goodness.{Good}
use Rattle.laws.proofs.Local.{LocalFacts, local_facts}
use Rattle.laws.proofs.MergeLaws.{Agreeing}
use Rattle.laws.proofs.Merging.{Carried}
use Rattle.laws.proofs.StaysGood.{point_carried}
use Rattle.record.specs.Crewed.{crewed}
use Rattle.merging.specs.Merging.{arriving, agreeing}
use Rattle.merging.proofs.Merged.{merged_count}
use Rattle.arriving.proofs.Merged.{agree}
use Rattle.weighing.specs.Weighed.{takable}

-- ---- versions of one dot are the same, as a test

contents_itself : (c : Contents) → same_contents c c ≡ true
contents_itself (value v) = same_itself v
contents_itself deleted = refl

is_agreeing : (a m : Object) → Agreeing a m → agreeing a.versions m.versions ≡ true
unfolding agreeing
is_agreeing a m A =
    in_all (λ v. all? (λ w. not (same_dot v.dot w.dot) || same_contents v.contents w.contents) a.versions) m.versions
    (λ v mv. in_all (λ w. not (same_dot v.dot w.dot) || same_contents v.contents w.contents) a.versions
    (λ w mw. by_test (same_dot v.dot w.dot)
    (λ t. or_inr (not (same_dot v.dot w.dot)) (same_contents v.contents w.contents)
    (ap (λ (x : Version). same_contents v.contents x.contents) (A w v mw mv (sym (same_dots v.dot w.dot t))) ∙ contents_itself v.contents))
    (λ t. or_inl (not (same_dot v.dot w.dot)) (same_contents v.contents w.contents) (ap not t))))

-- ---- one object of a message

module _ (s : State) (G : Good s) (k : Key) (o : Object) (ok : takable s k o ≡ true) where
  abbrev tests : List Bool
  tests =
      point_formed s.table k o ∷ holds s.table s.own k.job ∷ covers_all o.context o.versions ∷ not (ahead_of_us s o) ∷ not (some? (clashes s k) o.versions) ∷ []

  formed : point_formed s.table k o ≡ true
  unfolding takable
  formed = clause tests ok 0

  held : holds s.table s.own k.job ≡ true
  unfolding takable
  held = clause tests ok 1

  covered : covers_all o.context o.versions ≡ true
  unfolding takable
  covered = clause tests ok 2

  behind : ahead_of_us s o ≡ false
  unfolding takable
  behind = not-true (ahead_of_us s o) (clause tests ok 3)

  free : some? (clashes s k) o.versions ≡ false
  unfolding takable
  free = not-true (some? (clashes s k) o.versions) (clause tests ok 4)

  pub carried : Carried s k o
  carried = point_carried s k o formed covered held behind free

  L : LocalFacts s k (local s k)
  L = local_facts s G k held

  pub ascend : ascends? version_before o.versions ≡ true
  ascend = carried.object.versions.ascend

  pub by_crew : crewed o.versions ≡ true
  unfolding crewed
  by_crew = in_all (λ v. is_controller v.dot.who) o.versions (λ v m. is_crew v.dot.who (carried.object.versions.each v m).crew)

  pub local_ascend : ascends? version_before (local s k).versions ≡ true
  local_ascend = L.object.versions.ascend

  pub local_by_crew : crewed (local s k).versions ≡ true
  unfolding crewed
  local_by_crew = in_all (λ v. is_controller v.dot.who) (local s k).versions (λ v m. is_crew v.dot.who (L.object.versions.each v m).crew)

  -- versions of one dot say the same
  pub agreed : agreeing (local s k).versions o.versions ≡ true
  agreed = is_agreeing (local s k) o (agree s G k o carried)

  pub count : length (merge (local s k) o).versions ≡ length (survivors (local s k) o) + length (arriving (local s k).context o.versions)
  count = merged_count (local s k) o local_ascend ascend agreed (each_covered (local s k).context (local s k).versions L.object.covered)
