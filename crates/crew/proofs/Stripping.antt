-- Stripping changes no reading, of any good state. Assumes nothing.
use Prim.Native.Nat.{ℕ}
use mathlib.Core.Path.{◌≡◌, refl, sym, ap, ◌∙◌, subst}
use mathlib.Core.Logic.{◌⊎◌, ⊎_elim}
use mathlib.Core.Bool.{true, not}
use Rattle.numbers.specs.declared.Key.{Key}
use Rattle.numbers.specs.Numbers.{counter}
use Rattle.numbers.proofs.Tests.{by_test}
use Rattle.numbers.proofs.Lists.{keep_none}
use Rattle.numbers.proofs.Controllers.{each_same, each_entry}
use Rattle.refusal.specs.Refusal.{accepted, refuse◌when◌else◌}
use Rattle.refusal.specs.declared.Refusal.TheVariants.{OutOfRange}
use Rattle.meaning.specs.CrewTable.{CrewTable}
use Rattle.meaning.specs.Clock.{Clock}
use Rattle.meaning.specs.Context.{entry, no_context, fill_context, strip_context}
use Rattle.meaning.specs.Object.{has_value, Object, no_object, fill, strip, gone}
use Rattle.meaning.specs.State.{State, look_up, local}
use Rattle.meaning.specs.OwnSteps.{ours, shown, read, strip_pass}
use Rattle.laws.proofs.ContextLaws.{same_counter, Named, no_entry, fill_strip, fill_strip_object}
use Rattle.laws.proofs.Goodness.{Good, good_facts}
use Rattle.laws.proofs.Putting.{looked_up}
use Rattle.crew.specs.Demand.{StrippingShowsTheSame}
use Rattle.crew.proofs.Looking.{kept, ascending_distinct}
use Rattle.crew.proofs.Knows.{gone_valueless, gone_zero}
use Rattle.crew.proofs.Stripped.{look_stripped}

-- the context of a record that goes is empty once it is stripped
gone_context : (c : Clock) (o : Object) → gone (strip c o) ≡ true → strip_context c o.context ≡ no_context
gone_context c o g =
    sym (each_entry (counter 0) (strip_context c o.context) (unfold strip_context in refl))
    ∙ each_same (λ n. entry (strip_context c o.context) n) (λ n. counter 0) (λ n r. same_counter _ _ (unfold strip in (gone_zero c o g n)))

gone_shows : (t : CrewTable) (j : ℕ) (c : Clock) (o : Object) → Named t j o.context → gone (strip c o) ≡ true → shown (fill t j c no_object) ≡ shown (fill t j c o)
unfolding shown fill
gone_shows t j c o named g i =
    record {
      versions = sym (keep_none (λ v. has_value v.contents) o.versions (gone_valueless c o g)) i;
      context = (ap (fill_context t j c) (sym (gone_context c o g)) ∙ fill_strip t j c o.context named) i;
    }

-- what is kept of an object shows the same
pub kept_shows : (t : CrewTable) (j : ℕ) (c : Clock) (o : Object) → Named t j o.context → shown (fill t j c (kept c o)) ≡ shown (fill t j c o)
kept_shows t j c o named = by_test (gone (strip c o)) (λ g. rw g (gone_shows t j c o named g)) (λ g. rw (g, fill_strip_object t j c o named))

module _ (s : State) (G : Good s) where
  pub named : (k : Key) → Named s.table k.job (look_up k s.points).context
  named k =
      ⊎_elim
      (λ q. subst (λ (o : Object). Named s.table k.job o.context) (sym q.3) (subst (λ (z : Key). Named s.table z.job q.0.object.context) q.2 (G.points q.0 q.1).formed.context.named))
      (λ e. subst (λ (o : Object). Named s.table k.job o.context) (sym e) (λ n r f. no_entry n r)) (looked_up k s.points)

  shows_same : (k : Key) → shown (local (strip_pass s).state k) ≡ shown (local s k)
  unfolding strip_pass local
  shows_same k =
      ⊎_elim (λ e. rw e (kept_shows s.table k.job s.clock (look_up k s.points) (named k))) (λ e. rw e)
      (look_stripped s (ascending_distinct s.points G.points_asc) k)

  reads_same : (k : Key) → read (strip_pass s).state k ≡ read s k
  unfolding read strip_pass ours
  reads_same k = ap (λ (o : Object). refuse OutOfRange when not (ours s k) else accepted (record { sender = s.own; key = k; object = o })) (shows_same k)

pub stripping_shows_the_same : StrippingShowsTheSame
unfolding StrippingShowsTheSame
stripping_shows_the_same s g k = reads_same s (good_facts s g) k
