-- Longer runs of the definitions, each computed: the limits of document 01's examples, and one run for each of its "Shortcuts that have
-- cost us". Every state that a run ends in is good. Assumes nothing.
use Prim.Native.Nat.{ℕ, zero, suc}
use mathlib.Core.Path.{◌≡◌, refl}
use mathlib.Core.Bool.{Bool, true}
use mathlib.Core.List.{List, [], ◌∷◌}
use lib.ListN.{length}
use Rattle.numbers.specs.Words.{map}
use Rattle.numbers.specs.Numbers.{controller, counter}
use Rattle.numbers.specs.Dot.{dot}
use Rattle.numbers.specs.Key.{key}
use Rattle.refusal.specs.declared.Refusal.TheVariants.{NotPeer, DotClash, RowTooFar, TooManyVersions, OwnListFull}
use Rattle.refusal.specs.Refusal.{Answer, refused, accepted, ◌>>=◌}
use Rattle.row.specs.declared.Row.{Row}
use Rattle.meaning.specs.CrewTable.{CrewTable}
use Rattle.meaning.specs.Clock.{row}
use Rattle.meaning.specs.Context.{Context, no_context}
use Rattle.meaning.specs.Object.{value, Version}
use Rattle.meaning.specs.State.{State, own_base}
use Rattle.meaning.specs.OwnSteps.{start, read, write, delete}
use Rattle.meaning.specs.Exchange.{take_in, ask, reply, repair}
use Rattle.meaning.specs.Good.{good_state}
use Rattle.meaning.proofs.Table.{everything, one_and_two, p7, text, up_to, writes, story, mend}

-- n writes of point 7, each of which covers all before it; and n that cover none
abbrev covering : ℕ → State → Answer State
covering zero s = accepted s
covering (suc n) s = writes (own_base s) s >>= covering n

abbrev apart : ℕ → State → Answer State
apart zero s = accepted s
apart (suc n) s = writes 0 s >>= apart n

-- what is counted of a state: its records, own and foreign dots; and whether it is good
abbrev Count : Type 0
Count = ℕ × ℕ × ℕ × Bool

abbrev counted : State → Answer Count
counted s = accepted (length s.points, length s.own_dots, length s.foreign_dots, good_state s)

abbrev one : Answer State
one = start (controller 1) one_and_two

-- "Eight writes with empty context are taken; the ninth is 12."
eight : (one >>= apart 8 >>= counted) ≡ accepted (1, 8, 0, true)
unfolding everything
eight = refl

ninth : (one >>= apart 9) ≡ refused TooManyVersions
unfolding everything
ninth = refl

-- "Sixty covering writes are taken; the sixty-first is 14."
sixty : (one >>= covering 60 >>= counted) ≡ accepted (1, 60, 0, true)
unfolding everything
sixty = refl

sixty_first : (one >>= covering 61) ≡ refused OwnListFull
unfolding everything
sixty_first = refl

-- writes of the points n .. 1
abbrev spread : ℕ → State → Answer State
spread zero s = accepted s
spread (suc n) s = write s (key 0 (suc n)) text no_context >>= λ d. spread n d.state

-- a repair after n writes of n points: the points sent, what the asker then has, and its row 1
abbrev caught_up : ℕ → Answer (ℕ × Count × Row)
caught_up n = do
  fresh ← one
  writer ← spread n fresh
  two ← start (controller 2) one_and_two
  q ← ask two (controller 1)
  r ← reply writer q
  after ← repair two r.message
  c ← counted after
  accepted (r.count, c, row after.clock (controller 1))

-- "Filling the local point with the already united clock: the arriving version looks old and is dropped."
-- The arriving versions stay, all fifty of them.
fifty : caught_up 50 ≡ accepted (50, (50, 0, 0, true), record { base = 50; bits = 0 })
unfolding everything
fifty = refl

-- "Leaving a point without a record out of the reply: the wall." The point without a record is sent, and both sides are good (K10).
abbrev wall : Answer (ℕ × Bool × Bool)
wall = do
  s ← story
  x ← mend
  accepted (length x.0.points, good_state s.one, good_state x.1)

no_wall : wall ≡ accepted (1, true, true)
unfolding everything
no_wall = refl

-- "Treating a dot no longer listed as an error: a late ask then fails." Controller 2 asks, takes in 1.1 and answers an ask of
-- controller 1, which then lists the dot no more; the first ask arrives late and is answered with no point.
abbrev late_ask : Answer (ℕ × ℕ)
late_ask = do
  fresh ← one
  d ← write fresh p7 text no_context
  two ← start (controller 2) one_and_two
  early ← ask two (controller 1)
  two ← take_in two d.message
  q ← ask d.state (controller 2)
  r ← reply two q
  after ← repair d.state r.message
  late ← reply after early
  accepted (length after.own_dots, late.count)

late_ask_answered : late_ask ≡ accepted (0, 0)
unfolding everything
late_ask_answered = refl

-- "Taking a reply addressed to another controller: it closes a row without that row's points." Controller 3 is refused the reply that
-- was written for controller 2.
abbrev three_hold : CrewTable
three_hold = 7 ∷ 0 ∷ 0 ∷ 0 ∷ 0 ∷ 0 ∷ 0 ∷ 0 ∷ []

abbrev for_another : Answer State
for_another = do
  fresh ← start (controller 1) three_hold
  d ← write fresh p7 text no_context
  two ← start (controller 2) three_hold
  two ← take_in two d.message
  q ← ask two (controller 1)
  r ← reply d.state q
  three ← start (controller 3) three_hold
  repair three r.message

not_for_us : for_another ≡ refused NotPeer
unfolding everything
not_for_us = refl

-- "Keeping the highest counter instead of the base when stripping: a gap is taken for knowledge." The deletion 1.2 arrives before 1.1:
-- its context entry 2 is above the base 0 and stays.
abbrev gap : Answer (List Context)
gap = do
  s ← story
  fresh ← start (controller 2) one_and_two
  two ← take_in fresh s.deleted_2
  accepted (map (λ p. p.object.context) two.points)

gap_stays : gap ≡ accepted (up_to 2 ∷ [])
unfolding everything
gap_stays = refl

-- a made-up message with a counter far ahead
abbrev far : ℕ → Answer State
far c = do
  two ← start (controller 2) one_and_two
  take_in two (record { sender = controller 1; key = p7; object = record { versions = record { dot = dot 1 c; contents = value [] } ∷ []; context = up_to c } })

far_off : (far 65 ≡ refused RowTooFar) × (far 100000 ≡ refused RowTooFar)
unfolding everything
far_off = (refl, refl)

just_fits : (far 64 >>= counted) ≡ accepted (1, 0, 1, true)
unfolding everything
just_fits = refl

-- ---- further runs

-- n writes of point 7 by controller 3, each of which covers all before it; controller 2 takes each in
abbrev tells : ℕ → State → State → Answer (State × State)
tells zero three two = accepted (three, two)
tells (suc n) three two = do
  d ← write three p7 text (counter 0 ∷ counter 0 ∷ counter (own_base three) ∷ counter 0 ∷ counter 0 ∷ counter 0 ∷ counter 0 ∷ counter 0 ∷ [])
  two ← take_in two d.message
  tells n d.state two

-- controller 2 lists fifty dots of controller 1, which controller 3 may lack; of eleven more dots there is room for ten
abbrev listing : Answer Count
listing = do
  fresh ← start (controller 1) three_hold
  writer ← spread 50 fresh
  two ← start (controller 2) three_hold
  q ← ask two (controller 1)
  r ← reply writer q
  two ← repair two r.message
  three ← start (controller 3) three_hold
  both ← tells 11 three two
  counted both.1

sixty_foreign : listing ≡ accepted (50, 0, 60, true)
unfolding everything
sixty_foreign = refl

-- a made-up message that gives a listed dot another point: 1.1 is point 7's here, though its record has gone
abbrev misnamed : Answer State
misnamed = do
  fresh ← start (controller 1) three_hold
  a ← write fresh p7 text no_context
  b ← delete a.state p7 (up_to 1)
  two ← start (controller 2) three_hold
  two ← take_in two a.message
  two ← take_in two b.message
  take_in two (record { sender = controller 1; key = key 0 8; object = a.message.object })

no_other_point : misnamed ≡ refused DotClash
unfolding everything
no_other_point = refl

-- job 0 is held by 1 and 2, job 1 by 2 and 3: controller 3 is no peer of controller 1, whose watermark stays zero for it; so 2.1 stays
-- listed, since controller 3 is a peer of 2
abbrev two_jobs : CrewTable
two_jobs = 3 ∷ 6 ∷ 0 ∷ 0 ∷ 0 ∷ 0 ∷ 0 ∷ 0 ∷ []

abbrev between_jobs : Answer (ℕ × Count)
between_jobs = do
  three ← start (controller 3) two_jobs
  d ← write three (key 1 7) text no_context
  two ← start (controller 2) two_jobs
  two ← take_in two d.message
  c ← write two p7 text no_context
  first ← start (controller 1) two_jobs
  q ← ask first (controller 2)
  r ← reply c.state q
  first ← repair first r.message
  n ← counted first
  accepted (r.count, n)

not_beyond : between_jobs ≡ accepted (1, (1, 0, 1, true))
unfolding everything
not_beyond = refl

-- "The sender's row about itself is united with ours": no other row of it. Controller 2 lists sixty foreign dots, ten of controller 3's, and has no room for 3.11; so its reply to
-- controller 1 does not carry that point. The message of 3.11 comes late to controller 1, which then shows it: its row 3 was not closed
abbrev late_write : Answer (List Version)
late_write = do
  fresh ← start (controller 1) three_hold
  first ← spread 50 fresh
  two ← start (controller 2) three_hold
  q ← ask two (controller 1)
  r ← reply first q
  two ← repair two r.message
  three ← start (controller 3) three_hold
  both ← tells 10 three two
  d ← write both.0 (key 0 60) text no_context
  two ← take_in both.1 d.message
  q ← ask first (controller 2)
  r ← reply two q
  first ← repair first r.message
  first ← take_in first d.message
  o ← read first (key 0 60)
  accepted o.object.versions

late_write_shown : late_write ≡ accepted (record { dot = dot 3 11; contents = value text } ∷ [])
unfolding everything
late_write_shown = refl
