-- The filled local object of a held point: well-formed, covered, known, and stored under that point. Assumes nothing.
use Prim.Native.Nat.{ℕ, ◌≤◌}
use mathlib.Core.Path.{◌≡◌, refl, subst}
use mathlib.Core.Logic.{◌⊎◌, ⊎_elim}
use mathlib.Core.Bool.{true}
use mathlib.Core.List.Memᴰ
use native.Mathlib.Omega.{arith}
use Rattle.numbers.specs.declared.Controller.{Controller}
use Rattle.numbers.specs.declared.Key.{Key}
use Rattle.numbers.specs.Numbers.{last_counter}
use Rattle.numbers.proofs.Tests.{by_test, ◌∈◌}
use Rattle.numbers.proofs.Controllers.{Crew}
use Rattle.row.proofs.Highest.{sound_base}
use Rattle.meaning.specs.CrewTable.{CrewTable, holds}
use Rattle.meaning.specs.Clock.{Clock, row, in_clock}
use Rattle.meaning.specs.Context.{Context, entry, no_context, covers, fill_context}
use Rattle.meaning.specs.Object.{Version, Object, no_object, fill}
use Rattle.meaning.specs.State.{Stored, State, own_base, local}
use Rattle.laws.proofs.ContextLaws.{fill_holder, fill_other, fill_named, no_entry}
use Rattle.laws.proofs.Facts.{VersionsFacts, ContextFacts}
use Rattle.laws.proofs.Goodness.{RecordFacts, Good}
use Rattle.laws.proofs.Putting.{looked_up}

-- a context filled with rows in range is well-formed again
pub fill_context_facts : (t : CrewTable) (j : ℕ) (k : Clock) (c : Context) → ((n : Controller) → Crew n → (row k n).base ≤ last_counter) → ContextFacts t j c → ContextFacts t j (fill_context t j k c)
fill_context_facts t j k c low F = record {
  eight = unfold fill_context in refl;
  in_range = λ n r.
      by_test (holds t n j) (λ h. omega (arith, fill_holder t j k c n r h, F.in_range n r, low n r)) (λ h. omega (arith, fill_other t j k c n r h, F.in_range n r));
  named = fill_named t j k c F.named;
}

pub record ObjectFacts (s : State) (k : Key) (o : Object) : Type 0 where
  pub versions : VersionsFacts s.table k.job o.versions
  pub context : ContextFacts s.table k.job o.context
  pub covered : (v : Version) → v ∈ o.versions → covers o.context v.dot ≡ true
  pub own_entry : (entry o.context s.own).0 ≤ own_base s

pub record LocalFacts (s : State) (k : Key) (o : Object) : Type 0 where
  pub object : ObjectFacts s k o
  pub known : (v : Version) → v ∈ o.versions → in_clock s.clock v.dot ≡ true
  pub stored : (v : Version) → v ∈ o.versions → (p : Stored) × (p ∈ s.points) × (p.key ≡ k) × (v ∈ p.object.versions)

module _ (s : State) (G : Good s) (k : Key) (held : holds s.table s.own k.job ≡ true) where
  low : (n : Controller) → Crew n → (row s.clock n).base ≤ last_counter
  low n c = sound_base (row s.clock n) (G.row_sound n c).1

  own_filled : (c : Context) → (entry c s.own).0 ≤ own_base s → (entry (fill_context s.table k.job s.clock c) s.own).0 ≤ own_base s
  own_filled c h = omega (arith, fill_holder s.table k.job s.clock c s.own G.own_crew held)

  of_record : (p : Stored) → p ∈ s.points → p.key ≡ k → LocalFacts s k (fill s.table k.job s.clock p.object)
  of_record p m e = subst (λ (x : Key). LocalFacts s x (fill s.table x.job s.clock p.object)) e (unfold fill in facts)
    where
      F : RecordFacts s.table s.own s.clock p
      F = G.points p m

      facts : LocalFacts s p.key (record { versions = p.object.versions; context = fill_context s.table p.key.job s.clock p.object.context })
      facts = record {
        object = record {
          versions = F.formed.versions;
          context = fill_context_facts s.table p.key.job s.clock p.object.context low F.formed.context;
          covered = F.covered;
          own_entry = omega (arith, fill_holder s.table p.key.job s.clock p.object.context s.own G.own_crew F.held, F.own_entry);
        };
        known = F.known;
        stored = λ v h. (p, m, refl, h);
      }

  no_context_facts : ContextFacts s.table k.job no_context
  no_context_facts = record { eight = refl; in_range = λ n r. omega (arith, no_entry n r); named = λ n r h. no_entry n r }

  of_none : LocalFacts s k (fill s.table k.job s.clock no_object)
  unfolding fill
  of_none = record {
    object = record {
      versions = record { each = λ v m. absurd (Memᴰ.not-nil m); ascend = refl };
      context = fill_context_facts s.table k.job s.clock no_context low no_context_facts;
      covered = λ v m. absurd (Memᴰ.not-nil m);
      own_entry = own_filled no_context (omega (arith, no_entry s.own G.own_crew));
    };
    known = λ v m. absurd (Memᴰ.not-nil m);
    stored = λ v m. absurd (Memᴰ.not-nil m);
  }

  pub local_facts : LocalFacts s k (local s k)
  unfolding local
  local_facts =
      ⊎_elim (λ q. rw q.3 (of_record q.0 q.1 q.2)) (λ e. rw e of_none) (looked_up k s.points)
