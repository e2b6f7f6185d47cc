-- A fresh controller knows that it has seen nothing; a strip pass keeps what a controller knows. Assumes nothing.
use mathlib.Core.Path.{◌≡◌, sym, ap, ◌∙◌, subst}
use mathlib.Core.Logic.{◌⊎◌, inl, inr, ⊎_elim}
use mathlib.Core.Bool.{true, false}
use mathlib.Core.List.Memᴰ
use native.Mathlib.Omega.{arith}
use native.Mathlib.Nat.{le_refl}
use Rattle.numbers.specs.declared.Controller.{Controller}
use Rattle.numbers.specs.declared.Dot.{Dot}
use Rattle.numbers.specs.declared.Key.{Key}
use Rattle.numbers.specs.Words.{fold}
use Rattle.numbers.proofs.Tests.{by_test, never, ◌∈◌}
use Rattle.numbers.proofs.Controllers.{Crew}
use Rattle.row.specs.declared.Row.{Row}
use Rattle.row.specs.Row.{none_seen, has}
use Rattle.row.proofs.Members.{none_has}
use Rattle.meaning.specs.CrewTable.{CrewTable, holds}
use Rattle.meaning.specs.Clock.{Clock, row, in_clock}
use Rattle.meaning.specs.Context.{Context, entry, no_context}
use Rattle.meaning.specs.Object.{has_value, Version, Object, no_object, fill, strip, gone}
use Rattle.meaning.specs.State.{State, look_up, local}
use Rattle.meaning.specs.Settle.{put}
use Rattle.meaning.specs.OwnSteps.{fresh, strip_pass}
use Rattle.meaning.specs.Write.{Write}
use Rattle.laws.proofs.ContextLaws.{Named, covers_le, no_entry, fill_holder, fill_other, fill_named, strip_named}
use Rattle.laws.proofs.Entering.{row_each}
use Rattle.crew.proofs.Right.{Writes, At, History, positive, Right}
use Rattle.crew.proofs.Looking.{kept, Distinct, look_others, look_result, look_first, find}
use Rattle.crew.proofs.Knows.{Between, refill, strip_between, gone_empty, gone_valueless, fill_between, Knows}

-- ---- a fresh controller

module _ (t : CrewTable) (n : Controller) where
  fresh_row : (m : Controller) → Crew m → row (fresh n t).clock m ≡ none_seen
  fresh_row m c = row_each (λ x. none_seen) m c

  fresh_unseen : (d : Dot) → Crew d.who → in_clock (fresh n t).clock d ≡ false
  unfolding in_clock
  fresh_unseen d c = ap (λ (r : Row). has r d.count) (fresh_row d.who c) ∙ none_has d.count

  fresh_versions : (k : Key) (v : Version) → v ∈ (local (fresh n t) k).versions → ⊥
  unfolding local look_up fill
  fresh_versions k v m = Memᴰ.not-nil m

  fresh_entry : (k : Key) (m : Controller) → Crew m → (entry (local (fresh n t) k).context m).0 ≡ 0
  unfolding local look_up fill
  fresh_entry k m c =
      by_test (holds t m k.job)
      (λ h. omega (arith, fill_holder t k.job (fresh n t).clock no_context m c h, no_entry m c, ap (λ (r : Row). r.base) (fresh_row m c)))
      (λ h. omega (arith, fill_other t k.job (fresh n t).clock no_context m c h, no_entry m c))

  pub fresh_knows : (All S : Writes) → History t All → ((w : Write) → S w → ⊥) → Knows All S (fresh n t)
  fresh_knows All S H none = record {
    right = λ k held. record {
      made = λ w x. absurd (none w x.0);
      closed = λ w al q h. absurd (omega (arith, positive t All H w al, covers_le (local (fresh n t) k).context w.dot h, fresh_entry k w.dot.who (H.by_crew w al)));
      covered = λ w x. absurd (none w x.0);
      within = λ w x. absurd (none w x.0);
      honest = λ v m. absurd (fresh_versions k v m);
      complete = λ w x. absurd (none w x.0);
    };
    closed = λ w al held h. never h (fresh_unseen w.dot (H.by_crew w al));
    named = λ k m c f. unfold look_up in (no_entry m c);
  }

-- ---- a strip pass

pub between_through : (c : Clock) (o x y : Context) → Between c o x → Between c x y → Between c o y
between_through c o x y p q n r = (
  omega (arith, (p n r).0, (q n r).0),
  ⊎_elim inl (λ e. ⊎_elim (λ l. inl (omega (arith, e))) (λ f. inr (f ∙ e)) (q n r).1) (p n r).1,
)

module _ (s : State) (distinct : Distinct s.points) where
  -- what is found after the pass: what is kept of what was found before, or the same
  pub look_stripped : (k : Key) → (look_up k (fold (put s.clock) s.points s.points) ≡ kept s.clock (look_up k s.points))
      ⊎ (look_up k (fold (put s.clock) s.points s.points) ≡ look_up k s.points)
  look_stripped k =
      ⊎_elim
      (λ f. inl (subst (λ (z : Key). look_up z (fold (put s.clock) s.points s.points) ≡ kept s.clock (look_up z s.points)) (sym f.2)
      (look_result s.clock s.points s.points distinct f.0 f.1 ∙ ap (kept s.clock) (sym (look_first s.points distinct f.0 f.1)))))
      (λ away. inr (look_others k s.clock s.points s.points away)) (find k s.points)

  module _ (All S : Writes) (H : History s.table All) (K : Knows All S s) where
    abbrev x : Key → Object
    x k = look_up k s.points

    -- filled with the same clock, what is kept of an object is right where the object was
    kept_right : (k : Key) → holds s.table s.own k.job ≡ true → Right All k (At S k) (fill s.table k.job s.clock (kept s.clock (x k)))
    kept_right k held =
        by_test (gone (strip s.clock (x k)))
        (λ g. rw g
        (again no_object (between_through s.clock (fill s.table k.job s.clock (x k)).context (x k).context no_context between (gone_empty s.clock (x k) g))
        (λ v m. absurd (Memᴰ.not-nil m)) (λ v m h. never h (gone_valueless s.clock (x k) g v m))))
        (λ g. rw g
        (again (strip s.clock (x k)) (between_through s.clock (fill s.table k.job s.clock (x k)).context (x k).context (strip s.clock (x k)).context between (strip_between s.clock (x k)))
        (λ v m. unfold strip in m) (λ v m h. unfold strip in m)))
      where
        between : Between s.clock (fill s.table k.job s.clock (x k)).context (x k).context
        between = fill_between s.table k.job s.clock s.clock (x k) (λ n r. le_refl (row s.clock n).base)

        again : (y : Object) → Between s.clock (fill s.table k.job s.clock (x k)).context y.context
            → ((v : Version) → v ∈ y.versions → v ∈ (x k).versions) → ((v : Version) → v ∈ (x k).versions → has_value v.contents ≡ true → v ∈ y.versions)
            → Right All k (At S k) (fill s.table k.job s.clock y)
        again y mid fewer enough =
            refill s.table All S H s.own s.clock k held K.closed (fill s.table k.job s.clock (x k)) y
            (unfold local in (K.right k held)) (unfold fill in (fill_named s.table k.job s.clock (x k).context (K.named k))) mid
            (λ v m. unfold fill in (fewer v m)) (λ v m. unfold fill in (enough v m))

    kept_named : (k : Key) → Named s.table k.job (kept s.clock (x k)).context
    kept_named k n r h =
        by_test (gone (strip s.clock (x k))) (λ g. rw g (no_entry n r))
        (λ g. rw g (unfold strip in (strip_named s.table k.job s.clock (x k).context (K.named k) n r h)))

    pub strip_pass_knows : Knows All S (strip_pass s).state
    unfolding strip_pass local
    strip_pass_knows = record {
      right = λ k held. ⊎_elim (λ e. rw e (kept_right k held)) (λ e. rw e (K.right k held)) (look_stripped k);
      closed = K.closed;
      named = λ k. ⊎_elim (λ e. rw e (kept_named k)) (λ e. rw e (K.named k)) (look_stripped k);
    }
