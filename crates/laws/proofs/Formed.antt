-- What a formed message says of its parts. Assumes nothing.
use mathlib.Core.Path.{◌≡◌}
use mathlib.Core.Bool.{Bool, true, ◌&&◌, ◌||◌}
use mathlib.Core.List.{List, [], ◌∷◌}
use lib.ListN.{length}
use lib.Dec.{eqb}
use borrow.Author.Tests.{eqb-true}
use Rattle.numbers.specs.declared.Controller.{Controller}
use Rattle.numbers.specs.Words.{all?, ascends?}
use Rattle.numbers.specs.Numbers.{is_controller, controllers}
use Rattle.numbers.proofs.Tests.{and_left, and_right, ◌∈◌}
use Rattle.numbers.proofs.Lists.{all_in, clause}
use Rattle.numbers.proofs.Controllers.{Crew, crew_is}
use Rattle.row.specs.Row.{fits, sound}
use Rattle.meaning.specs.CrewTable.{CrewTable, in_some_job}
use Rattle.meaning.specs.Clock.{Clock, row, every_row}
use Rattle.meaning.specs.Context.{fill_context}
use Rattle.meaning.specs.State.{Stored, stored_before, dots_of}
use Rattle.meaning.specs.Message.{Outgoing, Ask, Reply, point_formed, covers_all, is_none, clock_formed, dots_agree, outgoing_formed, ask_formed, reply_formed}
use Rattle.laws.proofs.Facts.{row_at}

pub record FormedClock (k : Clock) : Type 0 where
  pub eight : length k ≡ 8
  pub row_fits : (n : Controller) → Crew n → fits (row k n) ≡ true
  pub row_sound : (n : Controller) → Crew n → sound (row k n) ≡ true

pub formed_clock : (t : CrewTable) (sender : Controller) (k : Clock) → clock_formed t sender k ≡ true → FormedClock k
unfolding clock_formed
formed_clock t sender k e =
    record {
      eight = eqb-true (length k) 8 (clause tests e 0);
      row_fits = λ n c. and_left (fits (row k n)) (sound (row k n)) (passes n c);
      row_sound = λ n c. and_right (fits (row k n)) (sound (row k n)) (passes n c);
    }
  where
    tests : List Bool
    tests = eqb (length k) 8 ∷ every_row (λ x. fits x && sound x) k ∷ all? (λ m. in_some_job t m || is_none (row k m)) controllers ∷ eqb (row k sender).bits 0 ∷ []

    passes : (n : Controller) → Crew n → (fits (row k n) && sound (row k n)) ≡ true
    passes n c = row_at (λ x. fits x && sound x) k (clause tests e 1) n c

pub record FormedOutgoing (t : CrewTable) (m : Outgoing) : Type 0 where
  pub sender : Crew m.sender
  pub point : point_formed t m.key m.object ≡ true
  pub covered : covers_all m.object.context m.object.versions ≡ true

pub formed_outgoing : (t : CrewTable) (m : Outgoing) → outgoing_formed t m ≡ true → FormedOutgoing t m
unfolding outgoing_formed
formed_outgoing t m e =
    let tests = is_controller m.sender ∷ point_formed t m.key m.object ∷ covers_all m.object.context m.object.versions ∷ [] in
    record { sender = crew_is m.sender (clause tests e 0); point = clause tests e 1; covered = clause tests e 2 }

pub record FormedAsk (a : Ask) : Type 0 where
  pub sender : Crew a.sender
  pub addressee : Crew a.addressee
  pub clock : FormedClock a.clock

pub formed_ask : (t : CrewTable) (a : Ask) → ask_formed t a ≡ true → FormedAsk a
unfolding ask_formed
formed_ask t a e =
    let tests = is_controller a.sender ∷ is_controller a.addressee ∷ clock_formed t a.sender a.clock ∷ [] in
    record { sender = crew_is a.sender (clause tests e 0); addressee = crew_is a.addressee (clause tests e 1); clock = formed_clock t a.sender a.clock (clause tests e 2) }

pub record FormedReply (t : CrewTable) (r : Reply) : Type 0 where
  pub sender : Crew r.sender
  pub addressee : Crew r.addressee
  pub clock : FormedClock r.clock
  pub point : (p : Stored) → p ∈ r.points → point_formed t p.key p.object ≡ true
  pub covered : (p : Stored) → p ∈ r.points → covers_all (fill_context t p.key.job r.clock p.object.context) p.object.versions ≡ true
  pub ascend : ascends? stored_before r.points ≡ true
  pub agree : dots_agree (dots_of r.points) (dots_of r.points) ≡ true

pub formed_reply : (t : CrewTable) (r : Reply) → reply_formed t r ≡ true → FormedReply t r
unfolding reply_formed
formed_reply t r e =
    let tests = is_controller r.sender ∷ is_controller r.addressee ∷ clock_formed t r.sender r.clock
    ∷ all? (λ p. point_formed t p.key p.object) r.points
    ∷ all? (λ p. covers_all (fill_context t p.key.job r.clock p.object.context) p.object.versions) r.points
    ∷ ascends? stored_before r.points ∷ dots_agree (dots_of r.points) (dots_of r.points) ∷ [] in
    record {
      sender = crew_is r.sender (clause tests e 0);
      addressee = crew_is r.addressee (clause tests e 1);
      clock = formed_clock t r.sender r.clock (clause tests e 2);
      point = λ p m. all_in (λ q. point_formed t q.key q.object) r.points (clause tests e 3) m;
      covered = λ p m. all_in (λ q. covers_all (fill_context t q.key.job r.clock q.object.context) q.object.versions) r.points (clause tests e 4) m;
      ascend = clause tests e 5;
      agree = clause tests e 6;
    }
