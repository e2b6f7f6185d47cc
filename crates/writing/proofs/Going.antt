-- Whether the record of a write or a delete goes: never with a value, and always where nothing was stored and nothing is said. Assumes nothing.
use Rattle.std.specs.Prelude.{if◌then◌else◌}
use Prim.Native.Nat.{◌+◌, ◌≤◌}
use mathlib.Core.Path.{◌≡◌, ap, ap₂, sym, ◌∙◌, subst}
use mathlib.Core.Bool.{Bool, true, false, ◌&&◌, not}
use mathlib.Core.List.{[], ◌∷◌}
use native.Mathlib.Omega.{arith}
use borrow.Author.Tests.{le-leb}
use Rattle.numbers.specs.declared.Controller.{Controller}
use Rattle.numbers.specs.declared.Counter.{Counter}
use Rattle.numbers.specs.declared.Key.{Key}
use Rattle.numbers.specs.Words.{keep, some?, place}
use Rattle.numbers.specs.Numbers.{controller, counter, same_controller, Crew}
use Rattle.numbers.proofs.Tests.{by_test}
use Rattle.numbers.proofs.Lists.{in_some, place_here}
use Rattle.numbers.proofs.Controllers.{same_controllers}
use Rattle.block.proofs.ByIndex.{all_below}
use Rattle.block.proofs.Passing.{all_upto}
use Rattle.meaning.specs.CrewTable.{holds}
use Rattle.meaning.specs.Clock.{Clock, row}
use Rattle.meaning.specs.Context.{Context, entry, is_empty, covers, strip_context}
use Rattle.meaning.specs.Object.{Contents, has_value, Version, version_before, Object, no_object, fill, strip, gone}
use Rattle.meaning.specs.State.{State, own_base, look_up, local}
use Rattle.meaning.specs.Settle.{entered}
use Rattle.meaning.specs.OwnSteps.{next_dot, written}
use Rattle.laws.proofs.ContextLaws.{entry_each, no_entry, fill_holder, fill_other}
use Rattle.laws.proofs.Goodness.{Good}
use Rattle.object.proofs.Going.{low, strips_empty}
use Rattle.store.specs.HasRecord.{has_record}
use Rattle.store.proofs.Record.{look_up_none}
use Rattle.writing.proofs.ClockAfter.{row_other, row_own}

-- a context that is nowhere above the clock strips to the empty one
strips_to_none : (k : Clock) (c : Context) → ((n : Controller) → Crew n → (entry c n).0 ≤ (row k n).base) → is_empty (strip_context k c) ≡ true
strips_to_none k c h =
    sym (strips_empty c k) ∙ sym (all_upto (low c k) 8 (λ i. i))
    ∙ all_below (low c k) 8 (λ i. i) (λ i l. le-leb (entry c (controller (i + 1))).0 (row k (controller (i + 1))).base (h (controller (i + 1)) (omega arith, omega arith)))

module _ (s : State) (k : Key) (b : Contents) (c : Context) where
  abbrev fresh : Version
  fresh = record { dot = next_dot s; contents = b }

  -- a record with a value stays, by any clock
  pub value_stays : (clock : Clock) → has_value b ≡ true → gone (strip clock (written s k b c)) ≡ false
  unfolding gone strip written
  value_stays clock h =
      ap (λ (x : Bool). is_empty (strip_context clock (written s k b c).context) && not x)
      (in_some (λ v. has_value v.contents) (written s k b c).versions (place_here version_before fresh (keep (λ v. not (covers c v.dot)) (local s k).versions)) h)
      ∙ by_test (is_empty (strip_context clock (written s k b c).context)) (λ t. rw t) (λ t. rw t)

  module _ (G : Good s) (held : holds s.table s.own k.job ≡ true) (none : has_record k s.points ≡ false) where
    nothing : look_up k s.points ≡ no_object
    nothing = look_up_none k s.points none

    abbrev after : Clock
    after = entered s.clock (record { key = k; object = written s k b c } ∷ [])

    -- a filled entry is the base, or 0
    low_local : (n : Controller) → Crew n → (entry (local s k).context n).0 ≤ (row s.clock n).base
    unfolding local fill
    low_local n r =
        by_test (holds s.table n k.job)
        (λ t. omega (arith, fill_holder s.table k.job s.clock (look_up k s.points).context n r t, stored))
        (λ t. omega (arith, fill_other s.table k.job s.clock (look_up k s.points).context n r t, stored))
      where
        stored : (entry (look_up k s.points).context n).0 ≡ 0
        stored = ap (λ (o : Object). (entry o.context n).0) nothing ∙ no_entry n r

    low_after : (n : Controller) → Crew n → (entry (written s k b c).context n).0 ≤ (row after n).base
    unfolding written next_dot
    low_after n r =
        by_test (same_controller n s.own)
        (λ t. omega (arith, is_own t, ap (λ (x : Rattle.row.specs.declared.Row.Row). x.base) (subst (λ (m : Controller). row after m ≡ record { base = own_base s + 1; bits = 0 }) (sym (same_controllers n s.own t)) (row_own s G k b c held))))
        (λ t. omega (arith, is_other t, low_local n r, ap (λ (x : Rattle.row.specs.declared.Row.Row). x.base) (row_other s G k b c held n r (λ e. borrow.Author.Tests.eqb-false n.0 s.own.0 t (ap (λ (m : Controller). m.0) e)))))
      where
        is_own : same_controller n s.own ≡ true → (entry (written s k b c).context n).0 ≡ own_base s + 1
        is_own t = ap (λ (x : Counter). x.0) (entry_each (λ m. if same_controller m s.own then counter (own_base s + 1) else entry (local s k).context m) n r ∙ rw t)

        is_other : same_controller n s.own ≡ false → (entry (written s k b c).context n).0 ≡ (entry (local s k).context n).0
        is_other t = ap (λ (x : Counter). x.0) (entry_each (λ m. if same_controller m s.own then counter (own_base s + 1) else entry (local s k).context m) n r ∙ rw t)

    -- "on a point without a record every filled entry is at its base": a deletion there leaves nothing
    pub deletion_goes : has_value b ≡ false → gone (strip (entered s.clock (record { key = k; object = written s k b c } ∷ [])) (written s k b c)) ≡ true
    unfolding gone strip written local fill
    deletion_goes h =
        ap₂ (λ (x y : Bool). x && not y) (strips_to_none after (written s k b c).context low_after) (ap (some? (λ v. has_value v.contents)) alone ∙ ap (λ (x : Bool). mathlib.Core.Bool.◌||◌ x false) h)
      where
        alone : (written s k b c).versions ≡ fresh ∷ []
        alone = ap (λ (o : Object). place version_before fresh (keep (λ v. not (covers c v.dot)) o.versions)) nothing
