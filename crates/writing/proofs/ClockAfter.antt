-- The clock after a write or a delete: the own row counts one more, and every other row is as it was. Assumes nothing.
use Prim.Native.Nat.{◌+◌, ◌-◌, ◌≤◌}
use mathlib.Core.Path.{◌≡◌, refl, ap, sym, ◌∙◌, subst}
use mathlib.Core.Logic.{◌⊎◌, inl, inr, ⊎_elim, ⊎_map}
use mathlib.Core.Bool.{true, not}
use mathlib.Core.List.Memᴰ
use mathlib.Core.List.{List, [], ◌∷◌}
use native.Mathlib.Omega.{arith}
use borrow.Author.Tests.{eqb-false}
use Rattle.numbers.specs.declared.Controller.{Controller}
use Rattle.numbers.specs.declared.Counter.{Counter}
use Rattle.numbers.specs.declared.Dot.{Dot}
use Rattle.numbers.specs.declared.Key.{Key}
use Rattle.numbers.specs.Words.{keep}
use Rattle.numbers.specs.Numbers.{counter, same_controller, Crew}
use Rattle.numbers.proofs.Tests.{by_test, ◌∈◌, here}
use Rattle.numbers.proofs.Lists.{in_keep, in_place, place_here}
use Rattle.numbers.proofs.Controllers.{same_controllers}
use Rattle.block.specs.Fields.{put_at}
use Rattle.row.specs.declared.Row.{Row}
use Rattle.row.specs.Row.{none_seen, has}
use Rattle.row.proofs.Members.{Clear, has_positive, low_has, whole_has, row_determined}
use Rattle.row.proofs.Adding.{add_all, Positive, add_all_has, add_all_clear}
use Rattle.row.proofs.Highest.{sound_clear}
use Rattle.meaning.specs.CrewTable.{holds}
use Rattle.meaning.specs.Clock.{row, in_clock}
use Rattle.meaning.specs.Context.{Context, covers}
use Rattle.meaning.specs.Object.{Contents, Version, version_before}
use Rattle.meaning.specs.State.{Stored, Listed, State, own_base, dots_of, local}
use Rattle.meaning.specs.Settle.{entered}
use Rattle.meaning.specs.OwnSteps.{next_dot, written}
use Rattle.laws.proofs.Facts.{in_dots, dots_in}
use Rattle.laws.proofs.Goodness.{Good}
use Rattle.laws.proofs.Entering.{entered_row, entered_eight, counts, in_counts, counts_in, add_all_whole, same_clocks}
use Rattle.laws.proofs.Local.{LocalFacts, local_facts}
use Rattle.store.proofs.OneEntry.{put_eight, put_here, put_elsewhere}

module _ (s : State) (G : Good s) (k : Key) (b : Contents) (c : Context) (held : holds s.table s.own k.job ≡ true) where
  abbrev fresh : Version
  fresh = record { dot = next_dot s; contents = b }

  abbrev result : Stored
  result = record { key = k; object = written s k b c }

  abbrev dots : List Listed
  dots = dots_of (result ∷ [])

  L : LocalFacts s k (local s k)
  L = local_facts s G k held

  from : (v : Version) → v ∈ (written s k b c).versions → (v ≡ fresh) ⊎ (v ∈ (local s k).versions)
  unfolding written
  from v m = ⊎_map (λ e. e) (λ h. (in_keep (λ w. not (covers c w.dot)) (local s k).versions h).0) (in_place version_before fresh (keep (λ w. not (covers c w.dot)) (local s k).versions) m)

  fresh_in : fresh ∈ (written s k b c).versions
  unfolding written
  fresh_in = place_here version_before fresh (keep (λ w. not (covers c w.dot)) (local s k).versions)

  -- a dot that enters is the new one, or is known
  entering : (n : Controller) (x : Counter) → x ∈ counts n (dots_of (record { key = k; object = written s k b c } ∷ [])) → ((n ≡ s.own) × (x.0 ≡ own_base s + 1)) ⊎ (has (row s.clock n) x ≡ true)
  unfolding in_clock next_dot
  entering n x m =
      let p = in_counts n dots m in
      let q = in_dots (result ∷ []) p.1 in
      let inside : q.version ∈ (written s k b c).versions = subst (λ (r : Stored). q.version ∈ r.object.versions) (Memᴰ.eq_of_singleton q.point_in) q.version_in in
      let who_is : n ≡ q.version.dot.who = sym p.2 ∙ ap (λ (z : Listed). z.dot.who) q.same in
      let count_is : x ≡ q.version.dot.count = sym p.3 ∙ ap (λ (z : Listed). z.dot.count) q.same in
      ⊎_elim (λ e. inl (who_is ∙ ap (λ (v : Version). v.dot.who) e, ap (λ (z : Counter). z.0) (count_is ∙ ap (λ (v : Version). v.dot.count) e)))
      (λ h. inr (subst (λ (d : Dot). has (row s.clock d.who) d.count ≡ true) (λ i. record { who = sym who_is i; count = sym count_is i }) (L.known q.version h)))
      (from q.version inside)

  positive : (n : Controller) → Positive (counts n (dots_of (record { key = k; object = written s k b c } ∷ [])))
  positive n x m = ⊎_elim (λ e. omega (arith, e.1)) (λ h. has_positive (row s.clock n) x h) (entering n x m)

  clear : (n : Controller) → Crew n → Clear (row s.clock n)
  clear n r = sound_clear (row s.clock n) (G.row_sound n r).1

  pub row_other : (n : Controller) → Crew n → (n ≡ s.own → ⊥) → row (entered s.clock (record { key = k; object = written s k b c } ∷ [])) n ≡ row s.clock n
  row_other n r other =
      entered_row s.clock (result ∷ []) n r
      ∙ row_determined (add_all (row s.clock n) (counts n dots)) (row s.clock n) (add_all_clear (row s.clock n) (counts n dots) (clear n r)) (clear n r)
      (λ d. (λ h. ⊎_elim (λ g. g) (λ m. ⊎_elim (λ e. absurd (other e.0)) (λ g. g) (entering n d m)) ((add_all_has (row s.clock n) (counts n dots) d (positive n)).0 h), λ h. (add_all_has (row s.clock n) (counts n dots) d (positive n)).1 (inl h)))

  next_in : counter (own_base s + 1) ∈ counts s.own (dots_of (record { key = k; object = written s k b c } ∷ []))
  unfolding next_dot
  next_in = counts_in dots (dots_in (result ∷ []) {p = result} {v = fresh} (here refl) fresh_in)

  abbrev own_row : Row
  own_row = row s.clock s.own

  abbrev cs : List Counter
  cs = counts s.own dots

  after : Row
  after = add_all (row s.clock s.own) (counts s.own (dots_of (record { key = k; object = written s k b c } ∷ [])))

  low : (x : Counter) → x ∈ counts s.own (dots_of (record { key = k; object = written s k b c } ∷ [])) → x.0 ≤ own_base s + 1
  low x m = ⊎_elim (λ e. omega (arith, e.1)) (λ h. omega (arith, whole_has own_row x G.own_whole h)) (entering s.own x m)

  after_whole : after.bits ≡ 0
  unfolding after
  after_whole = add_all_whole own_row cs G.own_whole low

  after_least : own_base s + 1 ≤ after.base
  unfolding after
  after_least = whole_has after (counter (own_base s + 1)) after_whole ((add_all_has own_row cs (counter (own_base s + 1)) (positive s.own)).1 (inr next_in))

  after_most : after.base ≤ own_base s + 1
  unfolding after
  after_most =
      ⊎_elim (λ h. omega (arith, whole_has own_row (counter after.base) G.own_whole h)) (λ m. low (counter after.base) m)
      ((add_all_has own_row cs (counter after.base) (positive s.own)).0 (low_has after (counter after.base) (omega (arith, after_least)) (omega arith)))

  pub row_own : row (entered s.clock (record { key = k; object = written s k b c } ∷ [])) s.own ≡ record { base = own_base s + 1; bits = 0 }
  unfolding after
  row_own = entered_row s.clock (result ∷ []) s.own G.own_crew ∙ (λ i. record { base = base_is i; bits = after_whole i })
    where
      base_is : after.base ≡ own_base s + 1
      base_is = omega (arith, after_least, after_most)

  -- the own row counts the new dot, and no other row moves
  pub clock_after : entered s.clock (record { key = k; object = written s k b c } ∷ []) ≡ put_at s.clock (s.own.0 - 1) (record { base = own_base s + 1; bits = 0 })
  clock_after =
      same_clocks (entered s.clock (result ∷ [])) (put_at s.clock (s.own.0 - 1) next) (entered_eight s.clock (result ∷ []) G.clock_eight) (put_eight s.clock G.clock_eight s.own G.own_crew next none_seen)
      (λ n r. by_test (same_controller n s.own)
      (λ t. subst (λ (m : Controller). row (entered s.clock (result ∷ [])) m ≡ row (put_at s.clock (s.own.0 - 1) next) m) (sym (same_controllers n s.own t)) (row_own ∙ sym (put_here s.clock G.clock_eight s.own G.own_crew next none_seen)))
      (λ t. row_other n r (λ e. eqb-false n.0 s.own.0 t (ap (λ (m : Controller). m.0) e)) ∙ sym (put_elsewhere s.clock G.clock_eight s.own G.own_crew next none_seen n r t)))
    where
      next : Row
      next = record { base = own_base s + 1; bits = 0 }
