-- The points of a reply that passed the refusals 4 to 10, filled with its rows: each may be taken. Assumes nothing.
use Prim.Native.Nat.{ℕ, ◌/◌, ◌≤◌}
use mathlib.Core.Path.{◌≡◌, sym, ap, subst}
use mathlib.Core.Bool.{Bool, true, false, ◌&&◌, not}
use mathlib.Core.List.{List}
use native.Mathlib.Omega.{arith}
use native.Mathlib.Nat.{le_trans}
use lib.ListN.{length}
use lib.Dec.{ltb}
use borrow.Author.Tests.{ltb-false, le-ltb}
use Rattle.numbers.specs.declared.Controller.{Controller}
use Rattle.numbers.specs.Words.{all?, some?}
use Rattle.numbers.specs.Numbers.{last_counter, same_controller}
use Rattle.numbers.proofs.Tests.{and_left, or_false, ◌∈◌}
use Rattle.numbers.proofs.Lists.{none_in, all_in, passed, ◌and_also◌, all_passed}
use Rattle.numbers.proofs.Controllers.{Crew}
use Rattle.block.specs.Block.{block_at}
use Rattle.block.proofs.Arrays.{upto_in}
use Rattle.row.specs.Row.{highest}
use Rattle.row.proofs.Highest.{base_highest, sound_base}
use Rattle.meaning.specs.CrewTable.{holds}
use Rattle.meaning.specs.Clock.{row}
use Rattle.meaning.specs.Context.{entry, fill_context}
use Rattle.meaning.specs.Object.{Version, fill}
use Rattle.meaning.specs.State.{Stored, State, own_base}
use Rattle.meaning.specs.Message.{Reply, point_formed, covers_all, reply_formed}
use Rattle.meaning.specs.Exchange.{both_hold, ahead_of_us, row_ahead_of_us, clashes}
use Rattle.laws.proofs.ContextLaws.{fill_holder}
use Rattle.laws.proofs.Facts.{point_facts, point_of_facts}
use Rattle.laws.proofs.Local.{fill_context_facts}
use Rattle.laws.proofs.Formed.{FormedReply, formed_reply}
use Rattle.layout.specs.PointBlock.{form_1, decode_stored}
use Rattle.record.proofs.Questions.{formed_crewed}
use Rattle.arriving.specs.Sent.{points_in}
use Rattle.noting.specs.Noted.{Crewed}
use Rattle.weighing.specs.Weighed.{takable}

-- ---- what is formed in it

module _ (s : State) (r : Reply) (formed : reply_formed s.table r ≡ true) where
  F : FormedReply s.table r
  F = formed_reply s.table r formed

  row_low : (n : Controller) → Crew n → (row r.clock n).base ≤ last_counter
  row_low n c = sound_base (row r.clock n) (F.clock.row_sound n c)

  -- the versions of each block of the run in which its points stand are of controllers
  pub crewed_points : (run : List ℕ) → r.points ≡ points_in run → Crewed run
  crewed_points run same i l =
      let p = decode_stored form_1 (block_at run i) in
      formed_crewed s.table p.key p.object
      (F.point p (subst (λ (ps : List Stored). p ∈ ps) (sym same) (upto_in (length run / 512) (λ j. decode_stored form_1 (block_at run j)) i l)))

  -- ---- a point of it, filled

  pub filled_formed : (p : Stored) → p ∈ r.points → point_formed s.table p.key (fill s.table p.key.job r.clock p.object) ≡ true
  unfolding fill
  filled_formed p m =
      let P = point_facts s.table p.key p.object (F.point p m) in
      point_of_facts s.table p.key (record { versions = p.object.versions; context = fill_context s.table p.key.job r.clock p.object.context })
      (record {
        key_good = P.key_good;
        few = P.few;
        versions = P.versions;
        context = fill_context_facts s.table p.key.job r.clock p.object.context row_low P.context;
      })

  pub filled_covered : (p : Stored) → p ∈ r.points
      → covers_all (fill s.table p.key.job r.clock p.object).context (fill s.table p.key.job r.clock p.object).versions ≡ true
  unfolding fill
  filled_covered p m = F.covered p m

  -- ---- with the refusals 5 to 10

  module _ (own_crew : Crew s.own) (held : all? (λ p. both_hold s r.sender p.key) r.points ≡ true)
      (not_ahead : some? (λ p. ahead_of_us s p.object) r.points ≡ false) (row_not_ahead : row_ahead_of_us s r.clock ≡ false)
      (no_clash : some? (λ p. some? (clashes s p.key) p.object.versions) r.points ≡ false) (p : Stored) (m : p ∈ r.points) where
    both : both_hold s r.sender p.key ≡ true
    both = all_in (λ q. both_hold s r.sender q.key) r.points held m

    held_here : holds s.table s.own p.key.job ≡ true
    unfolding both_hold
    held_here = and_left (holds s.table s.own p.key.job) (holds s.table r.sender p.key.job) both

    -- the sender's row about us is no further than we are
    about_us : (row r.clock s.own).base ≤ own_base s
    unfolding row_ahead_of_us
    about_us = le_trans (base_highest (row r.clock s.own)) (ltb-false (own_base s) (highest (row r.clock s.own)) row_not_ahead)

    abbrev seen : Version → Bool
    seen v = same_controller v.dot.who s.own && ltb (own_base s) v.dot.count.0

    kept : (some? seen p.object.versions ≡ false) × (ltb (own_base s) (entry p.object.context s.own).0 ≡ false)
    unfolding ahead_of_us
    kept = or_false (some? seen p.object.versions) (ltb (own_base s) (entry p.object.context s.own).0) (none_in (λ q. ahead_of_us s q.object) r.points not_ahead m)

    own_entry : (entry (fill_context s.table p.key.job r.clock p.object.context) s.own).0 ≤ own_base s
    own_entry = omega (arith, fill_holder s.table p.key.job r.clock p.object.context s.own own_crew held_here, ltb-false (own_base s) (entry p.object.context s.own).0 kept.1, about_us)

    pub filled_not_ahead : ahead_of_us s (fill s.table p.key.job r.clock p.object) ≡ false
    unfolding ahead_of_us fill
    filled_not_ahead =
        rw kept.0 (le-ltb (own_base s) (entry (fill_context s.table p.key.job r.clock p.object.context) s.own).0 own_entry)

    pub filled_no_clash : some? (clashes s p.key) (fill s.table p.key.job r.clock p.object).versions ≡ false
    unfolding fill
    filled_no_clash = none_in (λ q. some? (clashes s q.key) q.object.versions) r.points no_clash m

    pub filled_takable : takable s p.key (fill s.table p.key.job r.clock p.object) ≡ true
    unfolding takable
    filled_takable =
        all_passed (filled_formed p m and_also held_here and_also filled_covered p m and_also ap not filled_not_ahead and_also ap not filled_no_clash and_also passed)
