-- A message that was judged is ready to be merged. Assumes nothing.
use Prim.Native.Nat.{ℕ, ◌≤◌}
use mathlib.Core.Path.{◌≡◌, refl, ap, sym, ◌∙◌, subst}
use mathlib.Core.Bool.{Bool, true, false}
use mathlib.Core.List.{List, [], ◌∷◌}
use lib.ListN.{length}
use Rattle.numbers.specs.declared.Counter.{Counter}
use Rattle.numbers.specs.declared.Key.{Key}
use Rattle.numbers.specs.Words.{map}
use Rattle.numbers.specs.Numbers.{counter, is_controller}
use Rattle.numbers.proofs.Tests.{and_left}
use Rattle.numbers.proofs.Lists.{clause, map_length}
use Rattle.block.proofs.Numbers.{Bytes}
use Rattle.refusal.specs.declared.Refusal.TheVariants.{RowTooFar}
use Rattle.refusal.specs.Refusal.{verdict_of}
use Rattle.row.specs.Row.{fits, sound}
use Rattle.meaning.specs.CrewTable.{holds}
use Rattle.meaning.specs.Clock.{Clock, every_row}
use Rattle.meaning.specs.Context.{Context}
use Rattle.meaning.specs.Object.{Object}
use Rattle.meaning.specs.State.{Stored, State, local}
use Rattle.meaning.specs.Message.{Outgoing, point_formed, covers_all, outgoing_formed}
use Rattle.meaning.specs.Exchange.{both_hold}
use Rattle.meaning.specs.Settle.{most_points, entered, put, settle}
use Rattle.laws.proofs.Facts.{at_every_row}
use Rattle.laws.proofs.Goodness.{Good}
use Rattle.laws.proofs.Local.{local_facts}
use Rattle.layout.specs.PointBlock.{form_1, decode_point}
use Rattle.layout.specs.Messages.{decode_outgoing}
use Rattle.layout.specs.Calls.{afterwards}
use Rattle.store.proofs.Untouched.{untouched}
use Rattle.arriving.specs.Sent.{points_in, with_arrivals}
use Rattle.checking.specs.Judged.{message_judged}
use Rattle.checking.proofs.Judging.{laid_message}
use Rattle.checking.proofs.Accepted.{MessageFacts, judged_facts, carried}
use Rattle.weighing.specs.Weighed.{takable, key_in, Takable, result_of}
use Rattle.joining.specs.Joined.{Mergeable}
use Rattle.taking.specs.Taken.{result_judged, taken, left_by}
use Rattle.joining.proofs.May.{may_merge}
use Rattle.taking.proofs.Steps.{far, passed, settle_refused}
use Rattle.taking.proofs.OfOne.{result_is, theirs_is, clock_is}
use Rattle.std.specs.Prelude.{Ok}

-- ---- what may be merged

module _ (s : State) (G : Good s) (m here there : List ℕ) (T : Takable s m here there) (c : Clock) (ok : verdict_of (result_judged s c (result_of s m there) true) ≡ Ok tt) where
  pub mergeable : Mergeable (local s (key_in m)).versions m here there
  mergeable = may_merge s G m here there T (passed s c (result_of s m there) ok).0

  pub place_for_it : length (put c s.points (result_of s m there)) ≤ most_points
  place_for_it = (passed s c (result_of s m there) ok).1

-- ---- what was judged may be taken

module _ (m : List ℕ) (small : Bytes m) (size : length m ≡ 512) (s : State) (ok : verdict_of (message_judged m s true) ≡ Ok tt) where
  F : MessageFacts m s
  F = judged_facts m s ok

  abbrev q : Outgoing
  q = decode_outgoing m

  formed_parts : (point_formed s.table q.key q.object ≡ true) × (covers_all q.object.context q.object.versions ≡ true)
  unfolding outgoing_formed
  formed_parts =
      let bs : List Bool = is_controller q.sender ∷ point_formed s.table q.key q.object ∷ covers_all q.object.context q.object.versions ∷ [] in
      (clause bs F.formed 1, clause bs F.formed 2)

  held : holds s.table s.own q.key.job ≡ true
  unfolding both_hold
  held = and_left (holds s.table s.own q.key.job) (holds s.table q.sender q.key.job) F.held

  may : takable s q.key q.object ≡ true
  unfolding takable
  may = rw (formed_parts.0, held, formed_parts.1, F.not_ahead, F.no_clash)

  pub takable_now : (here there : List ℕ) (x : Key) → x ≡ key_in m → (map counter here ≡ (local s x).context) × (length here ≡ 8) → map counter there ≡ (decode_point form_1 m).object.context → length there ≡ 8 → Takable s m here there
  takable_now here there x e h t n = (
    size,
    laid_message m small size F.laid_out,
    h.1,
    h.0 ∙ ap (λ (z : Key). (local s z).context) e,
    n,
    subst (λ (z : Object). takable s (key_in m) z ≡ true) (sym (theirs_is s m there t)) (unfold decode_outgoing in may),
  )

-- ---- 11

-- counters as numbers
numbers_of : Context → List ℕ
numbers_of c = map (λ (e : Counter). e.0) c

as_counters : (c : Context) → map counter (numbers_of c) ≡ c
unfolding numbers_of
as_counters [] = refl
as_counters (e ∷ c) = λ i. e ∷ as_counters c i

module _ (s : State) (G : Good s) (m : List ℕ) (small : Bytes m) (size : length m ≡ 512) (ok : verdict_of (message_judged m s true) ≡ Ok tt) where
  there₀ : List ℕ
  there₀ = numbers_of (decode_point form_1 m).object.context

  here₀ : List ℕ
  here₀ = numbers_of (local s (key_in m)).context

  same : map counter there₀ ≡ (decode_point form_1 m).object.context
  unfolding there₀
  same = as_counters (decode_point form_1 m).object.context

  T : Takable s m here₀ there₀
  unfolding there₀ here₀ numbers_of
  T =
      takable_now m small size s ok (numbers_of (local s (key_in m)).context) (numbers_of (decode_point form_1 m).object.context) (key_in m) refl
      (as_counters (local s (key_in m)).context, map_length (λ (e : Counter). e.0) (local s (key_in m)).context ∙ (local_facts s G (key_in m) (unfold decode_outgoing in held m small size s ok)).object.context.eight)
      (as_counters (decode_point form_1 m).object.context)
      (map_length (λ (e : Counter). e.0) (decode_point form_1 m).object.context ∙ (unfold decode_outgoing in (carried m s (judged_facts m s ok)).object.context.eight))

  pub clock_taken : entered s.clock (taken s m ∷ []) ≡ with_arrivals s s.clock (points_in m)
  clock_taken = ap (λ (r : Stored). entered s.clock (r ∷ [])) (sym (result_is s m there₀ same)) ∙ clock_is s G m here₀ there₀ same T

  pub row_too_far : (img : List ℕ) → every_row fits (with_arrivals s s.clock (points_in m)) ≡ false → afterwards img [] (left_by (settle s s.clock (taken s m ∷ []))) ≡ untouched RowTooFar img []
  row_too_far img h =
      settle_refused s (with_arrivals s s.clock (points_in m)) (taken s m) s.clock clock_taken img RowTooFar (sym (far s (with_arrivals s s.clock (points_in m)) (taken s m) h))

-- every row of a good state is sound
pub all_sound : (s : State) → Good s → (k : Clock) → k ≡ s.clock → every_row sound k ≡ true
all_sound s G k e = subst (λ (z : Clock). every_row sound z ≡ true) (sym e) (at_every_row sound s.clock (λ n c. (G.row_sound n c).1))
