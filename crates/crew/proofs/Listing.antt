-- The dot lists and the watermark after a step: an own dot stays listed until the watermark of every peer has it. Assumes nothing.
use Prim.Native.Nat.{ℕ, ◌≤◌}
use mathlib.Core.Path.{◌≡◌, refl, sym, ap, subst}
use mathlib.Core.Logic.{◌⊎◌, inl, inr, ⊎_elim}
use mathlib.Core.Bool.{Bool, true, false, ◌&&◌, ◌||◌, not}
use mathlib.Core.List.Memᴰ
use mathlib.Core.List.{List, [], ◌∷◌}
use native.Mathlib.Omega.{arith}
use lib.Dec.{leb}
use borrow.Author.Tests.{leb-true}
use Rattle.numbers.specs.declared.Controller.{Controller}
use Rattle.numbers.specs.declared.Dot.{Dot}
use Rattle.numbers.specs.Words.{keep, place_all}
use Rattle.numbers.specs.Numbers.{same_controller, controllers}
use Rattle.numbers.proofs.Tests.{by_test, never, and_left, or_cases, not-true, ◌∈◌, here, there}
use Rattle.numbers.proofs.Lists.{in_keep, keep_in, all_in, Tied, place_here, place_there, in_left}
use Rattle.numbers.proofs.Controllers.{Crew, crew_in, same_controllers}
use Rattle.numbers.proofs.Dots.{tied_dots}
use Rattle.meaning.specs.CrewTable.{CrewTable, share_job}
use Rattle.meaning.specs.Clock.{row, in_clock}
use Rattle.meaning.specs.State.{Stored, Listed, listed_before, State, mark, peers}
use Rattle.meaning.specs.Message.{Reply}
use Rattle.meaning.specs.Settle.{newly_listed, own_listed}
use Rattle.meaning.specs.Exchange.{raised, known_to_all, tidied}
use Rattle.laws.proofs.Goodness.{Good}
use Rattle.laws.proofs.Putting.{in_newly}
use Rattle.laws.proofs.OtherSteps.{raised_mark}

-- peers by the crew's table
abbrev pub Peer : CrewTable → Controller → Controller → Bool
Peer t n m = same_controller n m || share_job t n m

pub peers_are : (s : State) (n m : Controller) → peers s n m ≡ Peer s.table n m
unfolding peers
peers_are s n m = refl

-- ---- placing

module _ {A : Type 0} (b : A → A → Bool) where
  -- one that is tied with none of those placed stays
  pub place_all_stays : (xs ys : List A) {v : A} → v ∈ ys → ((x : A) → x ∈ xs → Tied b v x → ⊥) → v ∈ place_all b xs ys
  place_all_stays [] ys m apart = m
  place_all_stays (x ∷ xs) ys m apart =
      let rest = place_all_stays xs ys m (λ z h. apart z (there h)) in
      ⊎_elim (λ h. h) (λ e. absurd (apart x (here refl) e)) (place_there b x (place_all b xs ys) rest)

  -- one of those placed is there, where those that are tied with it are the same
  pub place_all_comes : (xs ys : List A) {v : A} → v ∈ xs → ((x : A) → x ∈ xs → Tied b v x → v ≡ x) → v ∈ place_all b xs ys
  place_all_comes [] ys m one = absurd (Memᴰ.not-nil m)
  place_all_comes (x ∷ xs) ys {v} m one =
      let rest : v ∈ xs → v ∈ place_all b xs ys = λ h. place_all_comes xs ys h (λ z k. one z (there k)) in
      ⊎_elim (λ e. Memᴰ.cast e (place_here b x (place_all b xs ys)))
      (λ h. ⊎_elim (λ k. k) (λ e. Memᴰ.cast (one x (here refl) e) (place_here b x (place_all b xs ys))) (place_there b x (place_all b xs ys) (rest h)))
      (Memᴰ.cases_cons m)

-- ---- the own list after storing

module _ (s : State) (G : Good s) (rs : List Stored) where
  -- what was listed stays: it is in the clock, and what is listed anew is not
  pub own_stays : (l : Listed) → l ∈ s.own_dots → l ∈ own_listed s rs
  unfolding own_listed
  own_stays l m =
      place_all_stays listed_before (keep (λ x. same_controller x.dot.who s.own) (newly_listed s rs)) s.own_dots m
      (λ x h e.
      never (G.lists l (in_left s.own_dots s.foreign_dots m)).known
      (subst (λ (d : Dot). in_clock s.clock d ≡ false) (sym (tied_dots l.dot x.dot e))
      (in_newly s rs (in_keep (λ y. same_controller y.dot.who s.own) (newly_listed s rs) h).0).1))

-- ---- the watermark after a repair

module _ (s : State) (r : Reply) where
  -- no entry is raised above what is had
  pub raised_low : (B : Controller → Controller → ℕ)
      → ((m n : Controller) → Crew m → Crew n → mark s.watermark m n ≤ B m n)
      → ((n : Controller) → Crew n → (row r.clock n).base ≤ B r.sender n)
      → ((n : Controller) → Crew n → (row s.clock n).base ≤ B s.own n)
      → (m n : Controller) → Crew m → Crew n → mark (raised s r) m n ≤ B m n
  raised_low B old theirs ours m n x y =
      rw (raised_mark s r m n x y)
      (by_test (same_controller m r.sender && peers s s.own n)
      (λ t. rw t
      (let e = same_controllers m r.sender (and_left (same_controller m r.sender) (peers s s.own n) t) in
      omega (arith, old m n x y, subst (λ (z : Controller). (row r.clock n).base ≤ B z n) (sym e) (theirs n y))))
      (λ t. by_test (same_controller m s.own)
      (λ u. rw (t, u) (omega (arith, old m n x y, subst (λ (z : Controller). (row s.clock n).base ≤ B z n) (sym (same_controllers m s.own u)) (ours n y))))
      (λ u. rw (t, u) (old m n x y))))

-- an own dot that is listed is listed after the step, or the watermark of every peer of its maker has it
abbrev pub Kept : State → State → Type 0
Kept s x = (l : Listed) → l ∈ s.own_dots → (l ∈ x.own_dots)
    ⊎ ((m : Controller) → Crew m → Peer s.table l.dot.who m ≡ true → l.dot.count.0 ≤ mark x.watermark m l.dot.who)

pub tidied_kept : (s : State) (r : Reply) → Kept s (tidied s r)
unfolding tidied
tidied_kept s r l m =
    by_test (known_to_all s (raised s r) l)
    (λ t. inr (λ k c p. ⊎_elim (λ f. never p (not-true (Peer s.table l.dot.who k) f)) (leb-true l.dot.count.0 (mark (raised s r) k l.dot.who))
    (or_cases (not (Peer s.table l.dot.who k)) (leb l.dot.count.0 (mark (raised s r) k l.dot.who))
    (all_in (λ z. not (Peer s.table l.dot.who z) || leb l.dot.count.0 (mark (raised s r) z l.dot.who)) controllers (unfold known_to_all peers in t) (crew_in k c)))))
    (λ f. inl (keep_in (λ z. not (known_to_all s (raised s r) z)) s.own_dots m (ap not f)))
