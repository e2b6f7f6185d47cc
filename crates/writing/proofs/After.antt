-- The state after a write or a delete, edit by edit: the own row, the own list, the record. Assumes nothing.
use mathlib.Core.Path.{◌≡◌}
use mathlib.Core.Bool.{true}
use mathlib.Core.List.{[], ◌∷◌}
use Rattle.numbers.specs.declared.Key.{Key}
use Rattle.meaning.specs.CrewTable.{holds}
use Rattle.meaning.specs.Context.{Context}
use Rattle.meaning.specs.Object.{Contents}
use Rattle.meaning.specs.State.{Stored, State}
use Rattle.meaning.specs.Settle.{put, settled}
use Rattle.meaning.specs.OwnSteps.{written}
use Rattle.laws.proofs.Goodness.{Good}
use Rattle.writing.specs.Recorded.{recorded}
use Rattle.writing.proofs.ClockAfter.{clock_after}
use Rattle.writing.proofs.ListsAfter.{own_after, foreign_after}

module _ (s : State) (G : Good s) (k : Key) (b : Contents) (c : Context) (held : holds s.table s.own k.job ≡ true) where
  abbrev result : Stored
  result = record { key = k; object = written s k b c }

  pub settled_is : settled s s.clock (record { key = k; object = written s k b c } ∷ []) ≡ recorded s (record { key = k; object = written s k b c })
  unfolding settled
  settled_is i =
      record {
        own = s.own;
        table = s.table;
        clock = clock_after s G k b c held i;
        watermark = s.watermark;
        own_dots = own_after s G k b c held i;
        foreign_dots = foreign_after s G k b c held i;
        points = put (clock_after s G k b c held i) s.points result;
      }
