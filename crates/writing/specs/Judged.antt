-- What a write and a delete are judged by, rows 8 and 12 to 15 of the table, said of the state before the step. Assumes nothing.
use Rattle.std.specs.Prelude.{Bool, ◌&&◌, not, List, length, leb}
use Rattle.numbers.specs.declared.Key.{Key}
use Rattle.numbers.specs.Words.{keep}
use Rattle.numbers.specs.Numbers.{last_counter}
use Rattle.refusal.specs.declared.Refusal.TheVariants.{ContextAhead, TooManyVersions, TooManyPoints, OwnListFull, CountersUsedUp}
use Rattle.refusal.specs.Refusal.{Answer, accepted, refuse◌when◌else◌}
use Rattle.meaning.specs.Context.{Context, covers}
use Rattle.meaning.specs.Object.{Version}
use Rattle.meaning.specs.State.{State, own_base, look_up}
use Rattle.meaning.specs.Message.{most_versions}
use Rattle.meaning.specs.Settle.{most_points, most_listed}
use Rattle.meaning.specs.OwnSteps.{context_ahead}
use Rattle.store.specs.HasRecord.{has_record}

-- the stored versions of the point that the given context does not cover
abbrev pub staying : State → Key → Context → List Version
staying s k c = keep (λ v. not (covers c v.dot)) (look_up k s.points).versions

-- 14 and 15, which ask nothing of the point
unfoldable pub own_judged : {A : Type 0} → State → A → Answer A
own_judged s a =
    refuse OwnListFull when leb most_listed (length s.own_dots) else
    refuse CountersUsedUp when leb last_counter (own_base s) else
    accepted a

-- the first refusal that applies to writing a value (or to deleting) at k with this context, and a where none does. One version is added to
-- those that stay; a value without a record takes a place, a deletion without one takes none
unfoldable pub judged : {A : Type 0} → State → Key → Bool → Context → A → Answer A
judged s k valued c a =
    refuse ContextAhead when context_ahead s k c else
    refuse TooManyVersions when leb most_versions (length (staying s k c)) else
    refuse TooManyPoints when valued && (not (has_record k s.points) && leb most_points (length s.points)) else
    own_judged s a
