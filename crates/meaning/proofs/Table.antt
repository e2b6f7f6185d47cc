-- The foreman's examples K1 to K12 as one table, computed with the definitions themselves.
-- Assumes nothing.
use Prim.Native.Nat.{ℕ, ◌^◌}
use mathlib.Core.Path.{◌≡◌, refl}
use mathlib.Core.List.{List, [], ◌∷◌}
use lib.ListN.{replicate}
use Rattle.numbers.specs.declared.Key.{Key}
use Rattle.numbers.specs.Words.{map}
use Rattle.numbers.specs.Numbers.{controller, counter, is_controller, is_counter, is_point, is_job}
use Rattle.numbers.specs.Dot.{dot}
use Rattle.numbers.specs.Key.{key, is_key}
use Rattle.refusal.specs.declared.Refusal.TheVariants.{ContextAhead}
use Rattle.refusal.specs.Refusal.{Answer, refused, accepted, refuse◌when◌else◌, ◌>>=◌}
use Rattle.block.specs.Check.{sums_from, sums}
use Rattle.row.specs.declared.Row.{Row}
use Rattle.row.specs.Row.{bit, has, advance, advanced, add, unite, digits, highest, fits, sound, add_up}
use Rattle.meaning.specs.CrewTable.{CrewTable, is_table, holds, share_job, in_some_job}
use Rattle.meaning.specs.Clock.{row, every_row, in_clock, enter, with_row}
use Rattle.meaning.specs.Context.{Context, entry, no_context, is_empty, covers, fill_context, strip_context, higher}
use Rattle.meaning.specs.Object.{value, Version, has_dot, fill, strip, survivors, merge, gone}
use Rattle.meaning.specs.State.{Stored, Listed, State, peers, dots_of, look_up, local}
use Rattle.meaning.specs.Message.{Outgoing, Reply, contents_formed, version_formed, versions_formed, context_formed, point_formed, covers_all, is_none, clock_formed, dots_agree, outgoing_formed, ask_formed, reply_formed}
use Rattle.meaning.specs.Settle.{entered, without, put, newly_listed, own_listed, foreign_listed, settled, settle}
use Rattle.meaning.specs.OwnSteps.{start, ours, shown, read, next_dot, written, context_ahead, put_down, write, delete, strip_pass}
use Rattle.meaning.specs.Exchange.{both_hold, other_peer, ahead_of_us, row_ahead_of_us, clashes, take_in, ask, lacking, as_stored, reply, raised, known_to_all, tidied, mended, repair}
use Rattle.meaning.specs.Good.{sized, rows_sound, own_row_whole, points_formed, points_ascend, listed_formed, lists_formed, lists_ascend, lists_apart, jobs_held, versions_covered, versions_in_clock, lists_in_clock, dots_apart, rows_of_peers, marks_of_peers, own_marks_known, own_entries_known, records_needed, clauses, good_state}
use Rattle.std.specs.Prelude.{Some, None}

-- to unfold this is to compute with every definition
unfoldable pub everything : Unit {0}
unfolding sums_from sums is_controller is_counter is_point is_job is_key refuse◌when◌else◌ bit has advance advanced add unite digits highest fits sound add_up is_table holds share_job in_some_job every_row in_clock enter with_row is_empty covers fill_context strip_context higher has_dot fill strip survivors merge gone peers dots_of look_up local contents_formed version_formed versions_formed context_formed point_formed covers_all is_none clock_formed dots_agree outgoing_formed ask_formed reply_formed entered without put newly_listed own_listed foreign_listed settled settle start ours shown read next_dot written context_ahead put_down write delete strip_pass both_hold other_peer ahead_of_us row_ahead_of_us clashes take_in ask lacking as_stored reply raised known_to_all tidied mended repair sized rows_sound own_row_whole points_formed points_ascend listed_formed lists_formed lists_ascend lists_apart jobs_held versions_covered versions_in_clock lists_in_clock dots_apart rows_of_peers marks_of_peers own_marks_known own_entries_known records_needed clauses good_state
everything = tt

-- "Table: job 0 held by 1 and 2. Point 7 of job 0."
abbrev pub one_and_two : CrewTable
one_and_two = 3 ∷ 0 ∷ 0 ∷ 0 ∷ 0 ∷ 0 ∷ 0 ∷ 0 ∷ []

abbrev pub p7 : Key
p7 = key 0 7

-- 42 41 53 45, "BASE"
abbrev pub text : List ℕ
text = 0x42 ∷ 0x41 ∷ 0x53 ∷ 0x45 ∷ []

-- the context with this entry for controller 1 alone
abbrev pub up_to : ℕ → Context
up_to c = counter c ∷ counter 0 ∷ counter 0 ∷ counter 0 ∷ counter 0 ∷ counter 0 ∷ counter 0 ∷ counter 0 ∷ []

abbrev row_of : ℕ → ℕ → Row
row_of b n = record { base = b; bits = n }

abbrev version : ℕ → ℕ → Version
version n c = record { dot = dot n c; contents = value text }

-- a write of point 7, and a deletion, with a context; the state after it
abbrev pub writes : ℕ → State → Answer State
writes c s = write s p7 text (up_to c) >>= λ d. accepted d.state

abbrev pub deletes : ℕ → State → Answer State
deletes c s = delete s p7 (up_to c) >>= λ d. accepted d.state

-- what is shown of point 7: its versions, and the context entry for controller 1
pub record Shown : Type 0 where
  pub versions : List Version
  pub entry_1 : ℕ

abbrev shows : State → Answer Shown
shows s = read s p7 >>= λ o. accepted (record { versions = o.object.versions; entry_1 = (entry o.object.context (controller 1)).0 })

abbrev two_writes : Answer State
two_writes = start (controller 1) one_and_two >>= writes 0 >>= writes 0

-- K9 to K12: controller 1 writes point 7 and deletes it again: its state, and its two messages
pub record Story : Type 0 where
  pub one : State
  pub written_1 : Outgoing
  pub deleted_2 : Outgoing

abbrev pub story : Answer Story
story = do
  fresh ← start (controller 1) one_and_two
  a ← write fresh p7 text no_context
  b ← delete a.state p7 (up_to 1)
  accepted (record { one = b.state; written_1 = a.message; deleted_2 = b.message })

-- K10: controller 2 took in 1.1, missed that deletion, asks: the reply's points, and controller 2 after the repair
abbrev pub mend : Answer (Reply × State)
mend = do
  s ← story
  fresh ← start (controller 2) one_and_two
  two ← take_in fresh s.written_1
  q ← ask two (controller 1)
  r ← reply s.one q
  after ← repair two r.message
  accepted (r.message, after)

-- K11: the message of 1.1 comes again
abbrev again : Answer State
again = do
  s ← story
  x ← mend
  take_in x.1 s.written_1

-- K12: the deletion 1.2 reaches a fresh 2 first; then 1.1 arrives: row 1 after each, and what is shown
abbrev deletion_first : Answer (Row × Row × List Version)
deletion_first = do
  s ← story
  fresh ← start (controller 2) one_and_two
  two ← take_in fresh s.deleted_2
  late ← take_in two s.written_1
  o ← shows late
  accepted (row two.clock (controller 1), row late.clock (controller 1), o.versions)

abbrev row_1 : State → Row
row_1 s = row s.clock (controller 1)

-- K9: the records and the listed dots that controller 1 is left with
abbrev left : Answer (List Stored × List Listed × List Listed)
left = story >>= λ s. accepted (s.one.points, s.one.own_dots, s.one.foreign_dots)

-- K10: the points of the reply, each with its versions; the records of controller 2 after the repair, and its row 1
abbrev mending : Answer (List (Key × List Version) × List Stored × Row)
mending = mend >>= λ x. accepted (map (λ p. (p.key, p.object.versions)) x.0.points, x.1.points, row_1 x.1)

-- K11: the records of controller 2, and its row 1
abbrev still : Answer (List Stored × Row)
still = again >>= λ s. accepted (s.points, row_1 s)

pub record Table : Type 0 where
  pub k1 : sums (0x05 ∷ 0x01 ∷ replicate 510 0) ≡ record { s1 = 261; s2 = 759 }
  pub k2 : add (row_of 3 2) (counter 4) ≡ row_of 5 0
  pub k3 : add_up (row_of 3 0) (counter 67) ≡ Some (row_of 3 (2 ^ 63))
  pub k4 : add_up (row_of 3 0) (counter 68) ≡ None
  pub k5 : (two_writes >>= shows) ≡ accepted (record { versions = version 1 1 ∷ version 1 2 ∷ []; entry_1 = 2 })
  pub k6 : (two_writes >>= writes 1 >>= shows) ≡ accepted (record { versions = version 1 2 ∷ version 1 3 ∷ []; entry_1 = 3 })
  pub k7 : (two_writes >>= writes 2 >>= shows) ≡ accepted (record { versions = version 1 3 ∷ []; entry_1 = 3 })
  pub k8 : (two_writes >>= writes 3) ≡ refused ContextAhead
  pub k9 : left ≡ accepted ([], record { dot = dot 1 1; key = p7 } ∷ record { dot = dot 1 2; key = p7 } ∷ [], [])
  pub k10 : mending ≡ accepted ((p7, []) ∷ [], [], row_of 2 0)
  pub k11 : still ≡ accepted ([], row_of 2 0)
  pub k12 : deletion_first ≡ accepted (row_of 0 2, row_of 0 2, [])

pub table : Table
unfolding everything
table = record {
  k1 = refl;
  k2 = refl;
  k3 = refl;
  k4 = refl;
  k5 = refl;
  k6 = refl;
  k7 = refl;
  k8 = refl;
  k9 = refl;
  k10 = refl;
  k11 = refl;
  k12 = refl;
}
