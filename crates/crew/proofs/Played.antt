-- Runs that are computed, so that nobody has to take the theorems' premises on trust: a script is played, and what is played is a run.
-- Assumes nothing.
use Prim.Native.Nat.{ℕ, zero, suc}
use mathlib.Core.Path.{◌≡◌, sym, subst}
use mathlib.Core.Bool.{not}
use mathlib.Core.List.{List, [], ◌∷◌}
use lib.Dec.{ltb}
use borrow.Author.Tests.{ltb-true}
use Rattle.numbers.specs.declared.Controller.{Controller}
use Rattle.numbers.specs.declared.Key.{Key}
use Rattle.numbers.specs.Words.{all?}
use Rattle.numbers.proofs.Tests.{◌∈◌, here, there}
use Rattle.numbers.proofs.Lists.{all_in}
use Rattle.refusal.specs.declared.Refusal.TheVariants.{OutOfRange, IllFormed}
use Rattle.refusal.specs.Refusal.{Answer, refused, accepted, refuse◌when◌else◌, ◌>>=◌}
use Rattle.meaning.specs.CrewTable.{CrewTable}
use Rattle.meaning.specs.Context.{Context}
use Rattle.meaning.specs.Object.{value, deleted}
use Rattle.meaning.specs.OwnSteps.{start, write, delete, strip_pass}
use Rattle.meaning.specs.Exchange.{take_in, ask, reply, repair}
use Rattle.laws.proofs.Answers.{not_refused, same_accepted, passes, passes_not, bound}
use Rattle.crew.specs.Moment.{Moment, starting, seeing, made, writing, asking, replying, brings, reply_brings}
use Rattle.crew.specs.Run as run
use Rattle.crew.specs.Run.{Next, Later, now, ◌then◌}

-- a call with its arguments; a message is named by its place, the latest first
pub data Call : Type 0 where
  starts : Controller → Call
  writes : Controller → Key → List ℕ → Context → Call
  deletes : Controller → Key → Context → Call
  takes_in : Controller → ℕ → Call
  asks : Controller → Controller → Call
  replies : Controller → ℕ → Call
  repairs : Controller → ℕ → Call
  strips : Controller → Call

unfoldable pub pick : {A : Type 0} → List A → ℕ → Answer A
pick [] i = refused IllFormed
pick (x ∷ xs) zero = accepted x
pick (x ∷ xs) (suc i) = pick xs i

pick_in : {A : Type 0} (xs : List A) (i : ℕ) {x : A} → pick xs i ≡ accepted x → x ∈ xs
unfolding pick
pick_in [] i {x} e = absurd (not_refused IllFormed x e)
pick_in (y ∷ ys) zero {x} e = here (sym (same_accepted y x e))
pick_in (y ∷ ys) (suc i) e = there (pick_in ys i e)

unfoldable pub call : CrewTable → Moment → Call → Answer Moment
call t M (starts n) =
    refuse OutOfRange when M.started n else
    (start n t >>= λ s. accepted (starting M n s))
call t M (writes n k v c) =
    refuse OutOfRange when not (M.started n) else
    refuse IllFormed when not (all? (λ b. ltb b 256) v) else
    (write (M.state n) k v c >>= λ d. accepted (writing M n (made (M.state n) k (value v) c) d))
call t M (deletes n k c) =
    refuse OutOfRange when not (M.started n) else
    (delete (M.state n) k c >>= λ d. accepted (writing M n (made (M.state n) k deleted c) d))
call t M (takes_in n i) =
    refuse OutOfRange when not (M.started n) else
    (pick M.outgoings i >>= λ m. take_in (M.state n) m.message >>= λ s. accepted (seeing M n s (brings m)))
call t M (asks n to) =
    refuse OutOfRange when not (M.started n) else
    (ask (M.state n) to >>= λ a. accepted (asking M a))
call t M (replies n i) =
    refuse OutOfRange when not (M.started n) else
    (pick M.asks i >>= λ a. reply (M.state n) a >>= λ r. accepted (replying M n r.message))
call t M (repairs n i) =
    refuse OutOfRange when not (M.started n) else
    (pick M.replies i >>= λ r. repair (M.state n) r.message >>= λ s. accepted (seeing M n s (reply_brings r)))
call t M (strips n) =
    refuse OutOfRange when not (M.started n) else
    accepted (seeing M n (strip_pass (M.state n)).state [])

-- the calls of a script, the first one first
unfoldable pub play : CrewTable → Moment → List Call → Answer Moment
play t M [] = accepted M
play t M (c ∷ cs) = call t M c >>= λ N. play t N cs

-- what is played is a run
called : (t : CrewTable) (M : Moment) (c : Call) (N : Moment) → call t M c ≡ accepted N → Next t M N
unfolding call
called t M (starts n) N e =
    let off = passes OutOfRange (M.started n) _ e in
    let s = bound (start n t) _ off.1 in
    subst (λ (P : Moment). Next t M P) (same_accepted _ N s.2) (run.starts n s.0 off.0 s.1)
called t M (writes n k v c) N e =
    let on = passes_not OutOfRange (M.started n) _ e in
    let bytes = passes_not IllFormed (all? (λ b. ltb b 256) v) _ on.1 in
    let d = bound (write (M.state n) k v c) _ bytes.1 in
    subst (λ (P : Moment). Next t M P) (same_accepted _ N d.2)
    (run.writes n on.0 k v c d.0 (λ b m. ltb-true b 256 (all_in (λ x. ltb x 256) v bytes.0 m)) d.1)
called t M (deletes n k c) N e =
    let on = passes_not OutOfRange (M.started n) _ e in
    let d = bound (delete (M.state n) k c) _ on.1 in
    subst (λ (P : Moment). Next t M P) (same_accepted _ N d.2) (run.deletes n on.0 k c d.0 d.1)
called t M (takes_in n i) N e =
    let on = passes_not OutOfRange (M.started n) _ e in
    let m = bound (pick M.outgoings i) _ on.1 in
    let s = bound (take_in (M.state n) m.0.message) _ m.2 in
    subst (λ (P : Moment). Next t M P) (same_accepted _ N s.2) (run.takes_in n on.0 m.0 (pick_in M.outgoings i m.1) s.0 s.1)
called t M (asks n to) N e =
    let on = passes_not OutOfRange (M.started n) _ e in
    let a = bound (ask (M.state n) to) _ on.1 in
    subst (λ (P : Moment). Next t M P) (same_accepted _ N a.2) (run.asks n on.0 to a.0 a.1)
called t M (replies n i) N e =
    let on = passes_not OutOfRange (M.started n) _ e in
    let a = bound (pick M.asks i) _ on.1 in
    let r = bound (reply (M.state n) a.0) _ a.2 in
    subst (λ (P : Moment). Next t M P) (same_accepted _ N r.2) (run.replies n on.0 a.0 (pick_in M.asks i a.1) r.0 r.1)
called t M (repairs n i) N e =
    let on = passes_not OutOfRange (M.started n) _ e in
    let r = bound (pick M.replies i) _ on.1 in
    let s = bound (repair (M.state n) r.0.message) _ r.2 in
    subst (λ (P : Moment). Next t M P) (same_accepted _ N s.2) (run.repairs n on.0 r.0 (pick_in M.replies i r.1) s.0 s.1)
called t M (strips n) N e =
    let on = passes_not OutOfRange (M.started n) _ e in
    subst (λ (P : Moment). Next t M P) (same_accepted _ N on.1) (run.strips n on.0)

play_on : (t : CrewTable) (A M : Moment) (cs : List Call) (N : Moment) → Later t A M → play t M cs ≡ accepted N → Later t A N
unfolding play
play_on t A M [] N r e = subst (λ (P : Moment). Later t A P) (same_accepted M N e) r
play_on t A M (c ∷ cs) N r e =
    let q = bound (call t M c) (λ P. play t P cs) e in
    play_on t A q.0 cs N (r then called t M c q.0 q.1) q.2

pub played : (t : CrewTable) (M : Moment) (cs : List Call) (N : Moment) → play t M cs ≡ accepted N → Later t M N
played t M cs N e = play_on t M M cs N now e
