-- What a reply has that was heard: its results, their order, and the clock and the lists that they leave. Assumes nothing.
use Prim.Native.Nat.{ℕ, ◌/◌, ◌<◌}
use mathlib.Core.Path.{◌≡◌, refl, ap, sym, ◌∙◌, subst}
use mathlib.Core.Bool.{true, false, ◌&&◌, ◌||◌}
use mathlib.Core.List.{List}
use lib.ListN.{length}
use Rattle.numbers.specs.declared.Controller.{Controller}
use Rattle.numbers.specs.Words.{all?, some?, ascends?}
use Rattle.numbers.specs.Numbers.{Crew, same_controller}
use Rattle.numbers.proofs.Tests.{or_false, ◌∈◌}
use Rattle.numbers.proofs.Orders.{map_ascends}
use Rattle.refusal.specs.declared.Refusal.TheVariants.{OutOfRange, NotPeer, HistoryLost, DotClash}
use Rattle.refusal.specs.Refusal.{verdict_of}
use Rattle.block.specs.Block.{block_at}
use Rattle.block.proofs.Arrays.{upto_in}
use Rattle.meaning.specs.Object.{Version, fill}
use Rattle.meaning.specs.Clock.{row, with_row}
use Rattle.meaning.specs.State.{Stored, stored_before, State}
use Rattle.meaning.specs.Message.{Reply}
use Rattle.meaning.specs.Settle.{entered, own_listed, foreign_listed}
use Rattle.meaning.specs.Exchange.{both_hold, other_peer, ahead_of_us, row_ahead_of_us, clashes, mended}
use Rattle.laws.proofs.Answers.{passes, passes_not, accepted_with}
use Rattle.laws.proofs.Goodness.{Good}
use Rattle.laws.proofs.Merging.{Clocked, Carried}
use Rattle.laws.proofs.StaysGood.{other, united_clock, carried, agree}
use Rattle.row.specs.Row.{sound}
use Rattle.block.specs.Fields.{cut}
use Rattle.laws.proofs.Formed.{formed_reply}
use Rattle.layout.specs.Clocks.{decode_clock}
use Rattle.layout.specs.Messages.{decode_ask}
use Rattle.layout.specs.PointBlock.{form_1, decode_stored}
use Rattle.arriving.specs.Sent.{points_in, with_arrivals}
use Rattle.arriving.proofs.Merged.{entered_is}
use Rattle.noting.specs.Noted.{noted}
use Rattle.joining.proofs.Noted.{own_kept, foreign_is}
use Rattle.hearing.specs.Heard.{AllLaid, reply_in, peers_judged}
use Rattle.hearing.proofs.Filled.{filled_takable}
use Rattle.mending.specs.Mended.{results}
use Rattle.tallying.specs.Tallied.{AllReady}
use Rattle.repairing.specs.Repaired.{united, outcome, clock_after, Heard}
use Rattle.std.specs.Prelude.{Ok}

-- what rows 5 to 10 leave of a reply
pub record Passed (s : State) (q : Reply) : Type 0 where
  pub held : all? (λ p. both_hold s q.sender p.key) q.points ≡ true
  pub peer : (other_peer s q.sender && same_controller q.addressee s.own) ≡ true
  pub behind : (some? (λ p. ahead_of_us s p.object) q.points || row_ahead_of_us s q.clock) ≡ false
  pub free : some? (λ p. some? (clashes s p.key) p.object.versions) q.points ≡ false

pub passed : (s : State) (q : Reply) → verdict_of (peers_judged s q true) ≡ Ok tt → Passed s q
unfolding peers_judged
passed s q e =
    let a = (accepted_with (peers_judged s q true) e).1 in
    let one = passes_not OutOfRange (all? (λ p. both_hold s q.sender p.key) q.points) _ a in
    let two = passes_not NotPeer (other_peer s q.sender && same_controller q.addressee s.own) _ one.1 in
    let three = passes HistoryLost (some? (λ p. ahead_of_us s p.object) q.points || row_ahead_of_us s q.clock) _ two.1 in
    let four = passes DotClash (some? (λ p. some? (clashes s p.key) p.object.versions) q.points) _ three.1 in
    record { held = one.0; peer = two.0; behind = three.0; free = four.0 }

module _ (s : State) (G : Good s) (q : Reply) (h : Heard s q) where
  P : Passed s q
  P = passed s q h.1

  pub sender_crew : Crew q.sender
  sender_crew = (formed_reply s.table q h.0).sender

  pub sender_other : same_controller q.sender s.own ≡ false
  sender_other = other s q G h.0 P.held P.peer P.behind P.free

  pub clocked : Clocked s (united s q)
  clocked = united_clock s q G h.0 P.held P.peer P.behind P.free

  carried_all : (p : Stored) → p ∈ q.points → Carried s p.key (fill s.table p.key.job q.clock p.object)
  carried_all = carried s q G h.0 P.held P.peer P.behind P.free

  apart_all : (p r : Stored) (v w : Version) → p ∈ q.points → r ∈ q.points → v ∈ p.object.versions → w ∈ r.object.versions → v.dot ≡ w.dot → p.key ≡ r.key
  apart_all = agree s q G h.0 P.held P.peer P.behind P.free

  pub clock_is : entered (united s q) (outcome s q) ≡ with_arrivals s (united s q) q.points
  unfolding mended fill
  clock_is = entered_is s G (united s q) clocked q.points (λ p. fill s.table p.key.job q.clock p.object) (λ p. refl) carried_all apart_all

  pub own_is : own_listed s (outcome s q) ≡ s.own_dots
  unfolding mended fill
  own_is = own_kept s G q.points (λ p. fill s.table p.key.job q.clock p.object) (λ p. refl) carried_all apart_all

  pub foreign_are : foreign_listed s (outcome s q) ≡ noted s q.points
  unfolding mended fill
  foreign_are = foreign_is s G q.points (λ p. fill s.table p.key.job q.clock p.object) (λ p. refl) carried_all apart_all

  -- results have their points' keys, so they ascend as these do
  pub in_order : ascends? stored_before (outcome s q) ≡ true
  unfolding mended
  in_order = map_ascends stored_before stored_before (mended s q) (λ x y t. t) q.points (formed_reply s.table q h.0).ascend

-- the results as the code takes them from a run of blocks
module _ (s : State) (G : Good s) (head run : List ℕ) (h : Heard s (reply_in head run)) where
  abbrev r : Reply
  r = reply_in head run

  pub results_are : results s (reply_in head run).clock run ≡ outcome s (reply_in head run)
  unfolding mended
  results_are = refl

  pub all_ready : ((i : ℕ) → i < length run / 512 → length (block_at run i) ≡ 512) → AllLaid run → AllReady s (reply_in head run).clock run
  unfolding decode_stored
  all_ready long laid i l = (long i l, laid i l, may)
    where
      p : Stored
      p = decode_stored form_1 (block_at run i)

      F : Passed s r
      F = passed s r h.1

      b : (some? (λ p. ahead_of_us s p.object) r.points ≡ false) × (row_ahead_of_us s r.clock ≡ false)
      b = or_false (some? (λ p. ahead_of_us s p.object) r.points) (row_ahead_of_us s r.clock) F.behind

      may : Rattle.weighing.specs.Weighed.takable s (Rattle.weighing.specs.Weighed.key_in (block_at run i)) (fill s.table (decode_stored form_1 (block_at run i)).key.job r.clock (decode_stored form_1 (block_at run i)).object) ≡ true
      may = filled_takable s r h.0 G.own_crew F.held b.0 b.1 F.free p (upto_in (length run / 512) (λ j. decode_stored form_1 (block_at run j)) i l)

  -- the sender's row about itself, as it is lent
  pub sender_sound : (n : Controller) → n ≡ (reply_in head run).sender → sound (row (decode_clock (cut head 8 96)) n) ≡ true
  unfolding decode_ask
  sender_sound n e = subst (λ (m : Controller). sound (row r.clock m) ≡ true) (sym e) (let F = formed_reply s.table r h.0 in F.clock.row_sound r.sender F.sender)

  pub rows_are : (n : Controller) → n ≡ (reply_in head run).sender → with_arrivals s (with_row s.clock n (row (decode_clock (cut head 8 96)) n)) (points_in run) ≡ clock_after s (reply_in head run)
  unfolding decode_ask
  rows_are n e = ap (λ (m : Controller). with_arrivals s (with_row s.clock m (row r.clock m)) (points_in run)) e ∙ sym (clock_is s G r h)
