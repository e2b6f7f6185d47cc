-- A write and a delete are refused by what `judged` says of the state before them, and are else what `settled` says. Assumes nothing.
use Prim.Native.Nat.{◌+◌, ◌≤◌}
use mathlib.Core.Path.{◌≡◌, refl, ap, sym, ◌∙◌, subst}
use mathlib.Core.Logic.{⊎_elim}
use mathlib.Core.Bool.{Bool, true, false, ◌&&◌, ◌||◌, not}
use mathlib.Core.List.{List, [], ◌∷◌}
use native.Mathlib.Omega.{arith}
use lib.ListN.{length}
use lib.Dec.{leb, ltb}
use borrow.Author.Tests.{leb-true, le-leb, ltb-true, lt-ltb, le-ltb}
use Rattle.numbers.specs.declared.Key.{Key}
use Rattle.numbers.specs.Words.{place}
use Rattle.numbers.specs.Numbers.{last_counter}
use Rattle.numbers.specs.Key.{same_key}
use Rattle.numbers.proofs.Tests.{by_test, same_test, never, ◌∈◌}
use Rattle.numbers.proofs.Lists.{in_place, some_in, in_some, Tied}
use Rattle.numbers.proofs.Orders.{Ascends, place_ascends, no_longer, keep_length}
use Rattle.numbers.proofs.Dots.{same_keys, key_itself, keys_tied, tied_keys}
use Rattle.refusal.specs.declared.Refusal.TheVariants.{ContextAhead, RowTooFar, TooManyVersions, TooManyPoints, OwnListFull, CountersUsedUp}
use Rattle.refusal.specs.Refusal.{Answer, accepted, refuse◌when◌else◌, ◌>>=◌}
use Rattle.meaning.specs.CrewTable.{holds}
use Rattle.meaning.specs.Clock.{Clock}
use Rattle.meaning.specs.Context.{Context}
use Rattle.meaning.specs.Object.{Contents, has_value, strip, gone}
use Rattle.meaning.specs.State.{Stored, stored_before, State, own_base}
use Rattle.meaning.specs.Message.{most_versions}
use Rattle.meaning.specs.Settle.{most_points, most_listed, entered, without, stripped, put, settled, settle}
use Rattle.meaning.specs.OwnSteps.{written, context_ahead, Done, put_down}
use Rattle.laws.proofs.Goodness.{Good}
use Rattle.laws.proofs.Putting.{stored_order}
use Rattle.store.specs.HasRecord.{has_record}
use Rattle.writing.specs.Judged.{staying, own_judged, judged}
use Rattle.writing.proofs.Judging.{place_one_more, rows_fit, versions_after}
use Rattle.writing.proofs.Going.{value_stays, deletion_goes}

-- ---- how many records there are afterwards

module _ (ps : List Stored) (up : Ascends stored_before ps) (r : Stored) where
  -- a record that is there is replaced
  place_no_more : has_record r.key ps ≡ true → length (place stored_before r ps) ≤ length ps
  unfolding has_record
  place_no_more there =
      no_longer stored_before stored_order (place stored_before r ps) ps (place_ascends stored_before stored_order r ps up) up
      (λ v m. ⊎_elim (λ e. (found.0, found.1, subst (λ (x : Stored). Tied stored_before x found.0) (sym e) (keys_tied r.key found.0.key (same_keys r.key found.0.key found.2))))
      (λ h. (v, h, keys_tied v.key v.key refl)) (in_place stored_before r ps m))
    where
      found : (p : Stored) × (p ∈ ps) × (same_key r.key p.key ≡ true)
      found = some_in (λ p. same_key r.key p.key) ps there

  place_one : has_record r.key ps ≡ false → length (place stored_before r ps) ≡ length ps + 1
  unfolding has_record
  place_one none =
      place_one_more stored_before r ps
      (λ y m t u. never (in_some (λ p. same_key r.key p.key) ps m (subst (λ (x : Key). same_key r.key x ≡ true) (sym (tied_keys y.key r.key (t, u))) (key_itself r.key))) none)

module _ (s : State) (G : Good s) (k : Key) (b : Contents) (c : Context) (held : holds s.table s.own k.job ≡ true) where
  abbrev result : Stored
  result = record { key = k; object = written s k b c }

  abbrev clock : Clock
  clock = entered s.clock (result ∷ [])

  abbrev ps : List Stored
  ps = s.points

  stays : gone (strip clock (written s k b c)) ≡ false → put clock ps result ≡ place stored_before (stripped clock result) ps
  unfolding put
  stays g = rw g

  goes : gone (strip clock (written s k b c)) ≡ true → put clock ps result ≡ without k ps
  unfolding put
  goes g = rw g

  fewer : length (without k ps) ≤ most_points
  unfolding without
  fewer = omega (arith, keep_length stored_before (λ p. not (same_key k p.key)) ps, G.points_few)

  no_more : has_record k ps ≡ true → length (put clock ps result) ≤ most_points
  no_more t =
      by_test (gone (strip clock (written s k b c))) (λ g. omega (arith, ap length (goes g), fewer))
      (λ g. omega (arith, ap length (stays g), place_no_more ps G.points_asc (stripped clock result) t, G.points_few))

  none_more : has_record k ps ≡ false → has_value b ≡ false → length (put clock ps result) ≤ most_points
  none_more none h = omega (arith, ap length (goes (deletion_goes s k b c G held none h)), fewer)

  one_more : has_record k ps ≡ false → has_value b ≡ true → length (put clock ps result) ≡ length ps + 1
  one_more none h = ap length (stays (value_stays s k b c clock h)) ∙ place_one ps G.points_asc (stripped clock result) none

  -- 13
  points_judged : ltb most_points (length (put clock ps result)) ≡ (has_value b && (not (has_record k ps) && leb most_points (length ps)))
  points_judged =
      by_test (has_record k ps)
      (λ t. le-ltb most_points (length (put clock ps result)) (no_more t) ∙ sym (by_test (has_value b) (λ h. rw (h, t)) (λ h. rw h)))
      (λ t. by_test (has_value b)
      (λ h. same_test (ltb most_points (length (put clock ps result))) (leb most_points (length ps))
      (λ u. le-leb most_points (length ps) (omega (arith, one_more t h, ltb-true most_points (length (put clock ps result)) u)))
      (λ u. lt-ltb most_points (length (put clock ps result)) (omega (arith, one_more t h, leb-true most_points (length ps) u)))
      ∙ sym (rw (h, t)))
      (λ h. le-ltb most_points (length (put clock ps result)) (none_more t h) ∙ sym (rw h)))

  -- 12
  versions_judged : (ltb most_versions (length (written s k b c).versions) || false) ≡ leb most_versions (length (staying s k c))
  versions_judged =
      same_test (ltb most_versions (length (written s k b c).versions) || false) (leb most_versions (length (staying s k c)))
      (λ u. le-leb most_versions (length (staying s k c)) (omega (arith, one, ltb-true most_versions (length (written s k b c).versions) (or_none (ltb most_versions (length (written s k b c).versions)) u))))
      (λ u. Rattle.numbers.proofs.Tests.or_inl (ltb most_versions (length (written s k b c).versions)) false (lt-ltb most_versions (length (written s k b c).versions) (omega (arith, one, leb-true most_versions (length (staying s k c)) u))))
    where
      one : length (written s k b c).versions ≡ length (staying s k c) + 1
      one = versions_after s G k b c held

      or_none : (a : Bool) → (a || false) ≡ true → a ≡ true
      or_none true u = refl
      or_none false u = u

  abbrev done : Done
  done = record { state = settled s s.clock (result ∷ []); message = record { sender = s.own; key = k; object = written s k b c } }

  -- the rows of the table as the definition runs through them
  ladder : Bool → Bool → Bool → Bool → Answer Done
  ladder ahead rows versions points =
      refuse ContextAhead when ahead else
      ((refuse RowTooFar when not rows else
      refuse TooManyVersions when versions else
      refuse TooManyPoints when points else
      accepted (settled s s.clock (result ∷ []))) >>= λ after.
      refuse OwnListFull when leb most_listed (length s.own_dots) else
      refuse CountersUsedUp when leb last_counter (own_base s) else
      accepted (record { state = after; message = record { sender = s.own; key = k; object = written s k b c } }))

  flat : (x v p : Bool) → ladder x true v p ≡ (refuse ContextAhead when x else refuse TooManyVersions when v else refuse TooManyPoints when p else own_judged s done)
  unfolding ladder own_judged refuse◌when◌else◌
  flat true v p = refl
  flat false true p = refl
  flat false false true = refl
  flat false false false = refl

  pub put_down_judged : put_down s k b c ≡ judged s k (has_value b) c (record { state = settled s s.clock (record { key = k; object = written s k b c } ∷ []); message = record { sender = s.own; key = k; object = written s k b c } })
  unfolding put_down settle settled judged ladder
  put_down_judged =
      ap (λ (x : Bool). ladder (context_ahead s k c) x (ltb most_versions (length (written s k b c).versions) || false) (ltb most_points (length (put clock ps result)))) (rows_fit s G k b c held)
      ∙ flat (context_ahead s k c) (ltb most_versions (length (written s k b c).versions) || false) (ltb most_points (length (put clock ps result)))
      ∙ ap (λ (x : Bool). refuse ContextAhead when context_ahead s k c else refuse TooManyVersions when x else refuse TooManyPoints when ltb most_points (length (put clock ps result)) else own_judged s done) versions_judged
      ∙ ap (λ (x : Bool). refuse ContextAhead when context_ahead s k c else refuse TooManyVersions when leb most_versions (length (staying s k c)) else refuse TooManyPoints when x else own_judged s done) points_judged
