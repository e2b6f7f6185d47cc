-- The rows of the table from 8 on, one by one, as the code asks them. Assumes nothing.
use Prim.Native.Nat.{◌≤◌, ◌<◌}
use mathlib.Core.Path.{◌≡◌, sym}
use mathlib.Core.Bool.{Bool, true, false, ◌&&◌, not}
use lib.ListN.{length}
use lib.Dec.{leb}
use borrow.Author.Tests.{le-leb, lt-leb}
use Rattle.numbers.specs.declared.Key.{Key}
use Rattle.numbers.specs.Numbers.{last_counter}
use Rattle.refusal.specs.declared.Refusal.TheVariants.{ContextAhead, TooManyVersions, TooManyPoints, OwnListFull, CountersUsedUp}
use Rattle.refusal.specs.Refusal.{refuse◌when◌else◌, verdict_of}
use Rattle.meaning.specs.Context.{Context}
use Rattle.meaning.specs.State.{State, own_base}
use Rattle.meaning.specs.Settle.{most_points, most_listed}
use Rattle.meaning.specs.Message.{most_versions}
use Rattle.meaning.specs.OwnSteps.{context_ahead}
use Rattle.store.specs.HasRecord.{has_record}
use Rattle.writing.specs.Judged.{staying, own_judged, judged}
use Rattle.std.specs.Prelude.{Ok, Err}

module _ (s : State) where
  pub list_full : most_listed ≤ length s.own_dots → Err OwnListFull ≡ verdict_of (own_judged s true)
  unfolding own_judged refuse◌when◌else◌
  list_full h = sym (rw (le-leb most_listed (length s.own_dots) h))

  module _ (room : length s.own_dots < most_listed) where
    pub used_up : last_counter ≤ own_base s → Err CountersUsedUp ≡ verdict_of (own_judged s true)
    unfolding own_judged refuse◌when◌else◌
    used_up h = sym (rw (lt-leb most_listed (length s.own_dots) room, le-leb last_counter (own_base s) h))

    pub all_passed : own_base s < last_counter → (Ok tt) ≡ verdict_of (own_judged s true)
    unfolding own_judged refuse◌when◌else◌
    all_passed h = sym (rw (lt-leb most_listed (length s.own_dots) room, lt-leb last_counter (own_base s) h))

  module _ (k : Key) (valued : Bool) (c : Context) where
    pub ahead : context_ahead s k c ≡ true → Err ContextAhead ≡ verdict_of (judged s k valued c true)
    unfolding judged refuse◌when◌else◌
    ahead h = sym (rw h)

    module _ (behind : context_ahead s k c ≡ false) where
      pub many_versions : most_versions ≤ length (staying s k c) → Err TooManyVersions ≡ verdict_of (judged s k valued c true)
      unfolding judged refuse◌when◌else◌
      many_versions h = sym (rw (behind, le-leb most_versions (length (staying s k c)) h))

      module _ (few : length (staying s k c) < most_versions) where
        abbrev full : Bool
        full = valued && (not (has_record k s.points) && leb most_points (length s.points))

        pub many_points : full ≡ true → Err TooManyPoints ≡ verdict_of (judged s k valued c true)
        unfolding judged refuse◌when◌else◌
        many_points h = sym (rw (behind, lt-leb most_versions (length (staying s k c)) few, h))

        pub place_left : full ≡ false → verdict_of (own_judged s true) ≡ verdict_of (judged s k valued c true)
        unfolding judged refuse◌when◌else◌
        place_left h = sym (rw (behind, lt-leb most_versions (length (staying s k c)) few, h))
