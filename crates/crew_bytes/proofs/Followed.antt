-- Every run of images and bytes follows a run of states and messages. Assumes nothing.
use Prim.Native.Nat.{ℕ, ◌+◌, ◌*◌, ◌≤◌}
use mathlib.Core.Path.{◌≡◌, refl, sym, ap, ◌∙◌, subst}
use mathlib.Core.Bool.{Bool, true, false, ◌&&◌}
use mathlib.Core.List.{List, []}
use native.Mathlib.Omega.{arith}
use lib.ListN.{length, take}
use Rattle.numbers.specs.declared.Controller.{Controller}
use Rattle.numbers.specs.declared.Key.{Key}
use Rattle.numbers.specs.Words.{map}
use Rattle.numbers.specs.Numbers.{same_controller, controller, counter}
use Rattle.numbers.specs.Key.{key}
use Rattle.numbers.proofs.Tests.{◌∈◌}
use Rattle.numbers.proofs.Lists.{in_map}
use Rattle.refusal.specs.declared.Refusal.{Refusal}
use Rattle.refusal.specs.declared.Refusal.TheVariants.{IllFormed, NotPeer, HistoryLost}
use Rattle.refusal.specs.Refusal.{accepted}
use Rattle.meaning.specs.CrewTable.{CrewTable, is_table}
use Rattle.meaning.specs.Context.{Context}
use Rattle.meaning.specs.Object.{Contents, value, deleted}
use Rattle.meaning.specs.State.{State}
use Rattle.meaning.specs.Message.{Outgoing, Ask, Reply, outgoing_formed, ask_formed, reply_formed}
use Rattle.meaning.specs.OwnSteps.{strip_pass}
use Rattle.meaning.specs.Exchange.{take_in, Replied, reply, repair, other_peer, row_ahead_of_us}
use Rattle.meaning.specs.Good.{good_state}
use Rattle.laws.proofs.Goodness.{Good, facts_good}
use Rattle.laws.proofs.Answers.{same_accepted, passes, passes_not}
use Rattle.laws.proofs.StaysGood.{write_accepted, delete_accepted}
use Rattle.laws.proofs.Sends.{sends_outgoing, sends_ask, sends_reply}
use Rattle.layout.specs.Image.{encode, decode}
use Rattle.layout.specs.Messages.{encode_ask, decode_ask, encode_reply}
use Rattle.layout.specs.Calls.{After, over, start_call, read_call, write_call, delete_call, take_in_call, ask_call, reply_call, repair_call, strip_pass_call}
use Rattle.layout.proofs.MessagesBack.{outgoing_back, ask_back, reply_length, reply_back}
use Rattle.layout.proofs.Sizes.{outgoing_sized, ask_sized, reply_sized}
use Rattle.layout.proofs.CallsGood.{over_first}
use Rattle.crew.specs.Moment.{Sent, Moment, starting, seeing, made, writing, asking, replying, brings, reply_brings}
use Rattle.crew.specs.Run as run
use Rattle.crew.specs.Run.{Next, Later}
use Rattle.crew.proofs.Sound.{Sound, later_sound}
use Rattle.crew_bytes.specs.Bytes as bytes
use Rattle.crew_bytes.specs.Bytes.{CallOn, ByteMoment, left_by, started_by, seen_by, written_by, asked_by, replied_by, said, reply_said, NextByte, LaterByte, ◌then◌}
use Rattle.crew_bytes.proofs.Called.{refused_stays, start_does, decoded, read_does, write_does, delete_does, take_in_does, ask_does, reply_does, repair_does, strip_pass_does}
use Rattle.crew_bytes.proofs.Pictured.{in_bytes, reply_in_bytes, Pictures, left_pictured, started_pictured, seen_pictured, written_pictured, asked_pictured, replied_pictured}
use Rattle.std.specs.Prelude.{Err}

-- ---- a reply's buffer

-- what is counted is the points
pub reply_count : (s : State) (a : Ask) (r : Replied) → reply s a ≡ accepted r → r.count ≡ length r.message.points
unfolding reply
reply_count s a r e =
    let formed = passes_not IllFormed (ask_formed s.table a) _ e in
    let peer = passes_not NotPeer (other_peer s a.sender && same_controller a.addressee s.own) _ formed.1 in
    let ahead = passes HistoryLost (row_ahead_of_us s a.clock) _ peer.1 in
    subst (λ (x : Replied). x.count ≡ length x.message.points) (same_accepted _ r ahead.1) refl

-- the head and the counted blocks are the reply
pub reply_first : (t : CrewTable) (r : Replied) (out : List ℕ) → reply_formed t r.message ≡ true → r.count ≡ length r.message.points
    → take (512 * (1 + r.count)) (over (encode_reply r.message) out) ≡ encode_reply r.message
reply_first t r out f e =
    ap (λ (k : ℕ). take k (over (encode_reply r.message) out)) size ∙ over_first (encode_reply r.message) out
  where
    size : 512 * (1 + r.count) ≡ length (encode_reply r.message)
    size = omega (arith, e, reply_length r.message (reply_sized t r.message f))

-- ---- messages read back

-- what the bytes of a message say, and that they are its bytes
module _ (t : CrewTable) (B : ByteMoment) (M : Moment) (P : Pictures t B M) where
  pub outgoing_of : (m : Sent (List ℕ)) → m ∈ B.outgoings → (o : Sent Outgoing) × (o ∈ M.outgoings) × (said m ≡ o) × (m ≡ in_bytes o)
  outgoing_of m h =
      let q = in_map in_bytes M.outgoings (subst (λ (l : List (Sent (List ℕ))). m ∈ l) P.outgoings h) in
      let back = outgoing_back q.0.message (outgoing_sized t q.0.message (P.outgoings_formed q.0 q.1)) in
      (q.0, q.1, ap said q.2 ∙ λ i. record { message = back i; seen = q.0.seen }, q.2)

  pub ask_of : (b : List ℕ) → b ∈ B.asks → (a : Ask) × (a ∈ M.asks) × (decode_ask b ≡ a) × (b ≡ encode_ask a)
  ask_of b h =
      let q = in_map encode_ask M.asks (subst (λ (l : List (List ℕ)). b ∈ l) P.asks h) in
      (q.0, q.1, ap decode_ask q.2 ∙ ask_back q.0 (ask_sized t q.0 (P.asks_formed q.0 q.1)), q.2)

  pub reply_of : (m : Sent (List ℕ)) → m ∈ B.replies → (r : Sent Reply) × (r ∈ M.replies) × (reply_said m ≡ r) × (m ≡ reply_in_bytes r)
  reply_of m h =
      let q = in_map reply_in_bytes M.replies (subst (λ (l : List (Sent (List ℕ))). m ∈ l) P.replies h) in
      let back = reply_back q.0.message (reply_sized t q.0.message (P.replies_formed q.0 q.1).0) in
      (q.0, q.1, ap reply_said q.2 ∙ λ i. record { message = back i; seen = q.0.seen }, q.2)

-- ---- one call

abbrev pub Followed : CrewTable → Moment → ByteMoment → Type 0
Followed t M C = (N : Moment) × Next t M N × Pictures t C N

module _ (t : CrewTable) (B : ByteMoment) (M : Moment) (S : Sound t M) (P : Pictures t B M) (n : Controller) (on' : B.started n ≡ true) where
  on : M.started n ≡ true
  on = sym (ap (λ (f : Controller → Bool). f n) P.started) ∙ on'

  abbrev s : State
  s = M.state n

  G : Good s
  G = S.good n (S.crew n on)

  g : good_state s ≡ true
  g = facts_good s G

  abbrev img : List ℕ
  img = B.image n

  is_image : img ≡ encode s
  is_image = P.image n on

  -- the same write, and formed messages
  same_made : (k : Key) (b : Contents) (c : Context) → made (decode img) k b c ≡ made s k b c
  same_made k b c = ap (λ (z : State). made z k b c) (decoded img s g is_image)

  follow_refused : (a : After) → CallOn img a → (r : Refusal) → a.verdict ≡ Err r → Followed t M (left_by B n a)
  follow_refused a call r e = (M, run.refuses, left_pictured t B M P n a (refused_stays img a call r e ∙ is_image))

  follow_read : (job point : ℕ) (out : List ℕ) (a : After) → bytes.Answers (read_call img job point out) a → Followed t M (left_by B n a)
  follow_read job point out a h =
      let q = read_does img s g is_image job point out a h in
      (M, run.reads n on (key job point) q.0 q.1, left_pictured t B M P n a (ap (λ (z : After). z.image) q.2 ∙ is_image))

  follow_write : (job point : ℕ) (v c out : List ℕ) (a : After) → run.Bytes v → bytes.Answers (write_call img job point v c out) a
      → Followed t M (written_by B n a (made (decode img) (key job point) (value v) (map counter c)))
  follow_write job point v c out a small h =
      let q = write_does img s g is_image job point v c out a h in
      let k = key job point in (
        writing M n (made s k (value v) (map counter c)) q.0,
        run.writes n on k v (map counter c) q.0 small q.1,
        written_pictured t B M P n a _ _ q.0 (ap (λ (z : After). z.image) q.2) (ap (λ (z : After). z.out) q.2) (same_made k (value v) (map counter c))
            (subst (λ (z : CrewTable). outgoing_formed z q.0.message ≡ true) (S.table n)
            (sends_outgoing s k (value v) (map counter c) q.0 G (write_accepted s k v (map counter c) q.0 G small q.1))),
      )

  follow_delete : (job point : ℕ) (c out : List ℕ) (a : After) → bytes.Answers (delete_call img job point c out) a
      → Followed t M (written_by B n a (made (decode img) (key job point) deleted (map counter c)))
  follow_delete job point c out a h =
      let q = delete_does img s g is_image job point c out a h in
      let k = key job point in (
        writing M n (made s k deleted (map counter c)) q.0,
        run.deletes n on k (map counter c) q.0 q.1,
        written_pictured t B M P n a _ _ q.0 (ap (λ (z : After). z.image) q.2) (ap (λ (z : After). z.out) q.2) (same_made k deleted (map counter c))
            (subst (λ (z : CrewTable). outgoing_formed z q.0.message ≡ true) (S.table n)
            (sends_outgoing s k deleted (map counter c) q.0 G (delete_accepted s k (map counter c) q.0 G q.1))),
      )

  follow_take_in : (m : Sent (List ℕ)) → m ∈ B.outgoings → (a : After) → bytes.Answers (take_in_call img m.message) a → Followed t M (seen_by B n a (brings (said m)))
  follow_take_in m h a w =
      let o = outgoing_of t B M P m h in
      let q = take_in_does img s g is_image m.message a w in (
        seeing M n q.0 (brings o.0),
        run.takes_in n on o.0 o.1 q.0 (subst (λ (z : Sent Outgoing). take_in s z.message ≡ accepted q.0) o.2 q.1),
        seen_pictured t B M P n a q.0 (brings (said m)) (brings o.0) (ap (λ (z : After). z.image) q.2) (ap brings o.2),
      )

  follow_ask : (to : ℕ) (out : List ℕ) (a : After) → bytes.Answers (ask_call img to out) a → Followed t M (asked_by B n a)
  follow_ask to out a h =
      let q = ask_does img s g is_image to out a h in (
        asking M q.0,
        run.asks n on (controller to) q.0 q.1,
        asked_pictured t B M P n a q.0 (ap (λ (z : After). z.image) q.2 ∙ is_image) (ap (λ (z : After). z.out) q.2)
            (subst (λ (z : CrewTable). ask_formed z q.0 ≡ true) (S.table n) (sends_ask s (controller to) q.0 G q.1)),
      )

  follow_reply : (m : List ℕ) → m ∈ B.asks → (out : List ℕ) (a : After) → bytes.Answers (reply_call img m out) a → Followed t M (replied_by B n a)
  follow_reply m h out a w =
      let o = ask_of t B M P m h in
      let q = reply_does img s g is_image m out a w in
      let r = q.0 in
      let e = subst (λ (z : Ask). reply s z ≡ accepted r) o.2 q.1 in
      let formed = subst (λ (z : CrewTable). (reply_formed z r.message ≡ true) × (length r.message.points ≤ 120)) (S.table n) (sends_reply s G o.0 r e) in (
        replying M n r.message,
        run.replies n on o.0 o.1 r e,
        replied_pictured t B M P n a r.message (ap (λ (z : After). z.image) q.2 ∙ is_image)
            (ap (λ (z : After). take (512 * (1 + z.count)) z.out) q.2 ∙ reply_first t r out formed.0 (reply_count s o.0 r e)) formed,
      )

  follow_repair : (m : Sent (List ℕ)) → m ∈ B.replies → (a : After) → bytes.Answers (repair_call img m.message) a → Followed t M (seen_by B n a (reply_brings (reply_said m)))
  follow_repair m h a w =
      let o = reply_of t B M P m h in
      let q = repair_does img s g is_image m.message a w in (
        seeing M n q.0 (reply_brings o.0),
        run.repairs n on o.0 o.1 q.0 (subst (λ (z : Sent Reply). repair s z.message ≡ accepted q.0) o.2 q.1),
        seen_pictured t B M P n a q.0 (reply_brings (reply_said m)) (reply_brings o.0) (ap (λ (z : After). z.image) q.2) (ap reply_brings o.2),
      )

  follow_strip : (a : After) → bytes.Answers (strip_pass_call img) a → Followed t M (seen_by B n a [])
  follow_strip a h = (
    seeing M n (strip_pass s).state [],
    run.strips n on,
    seen_pictured t B M P n a (strip_pass s).state [] [] (ap (λ (z : After). z.image) (strip_pass_does img s g is_image a h)) refl,
  )

follow_start : (t : CrewTable) (B : ByteMoment) (M : Moment) → Pictures t B M → (n : Controller) → B.started n ≡ false → (lent : List ℕ) (a : After)
    → bytes.Answers (start_call lent n.0 t) a → Followed t M (started_by B n a)
follow_start t B M P n off lent a h =
    let q = start_does t n lent a h in (
      starting M n q.0,
      run.starts n q.0 (sym (ap (λ (f : Controller → Bool). f n) P.started) ∙ off) q.1,
      started_pictured t B M P n a q.0 (ap (λ (z : After). z.image) q.2),
    )

pub follow : (t : CrewTable) {B C : ByteMoment} {M : Moment} → Sound t M → Pictures t B M → NextByte t B C → Followed t M C
follow t {B} {M = M} S P (bytes.starts n off lent a h) = follow_start t B M P n off lent a h
follow t {B} {M = M} S P (bytes.refuses n on a call r e) = follow_refused t B M S P n on a call r e
follow t {B} {M = M} S P (bytes.reads n on job point out a h) = follow_read t B M S P n on job point out a h
follow t {B} {M = M} S P (bytes.writes n on job point v c out a small h) = follow_write t B M S P n on job point v c out a small h
follow t {B} {M = M} S P (bytes.deletes n on job point c out a h) = follow_delete t B M S P n on job point c out a h
follow t {B} {M = M} S P (bytes.takes_in n on m q a h) = follow_take_in t B M S P n on m q a h
follow t {B} {M = M} S P (bytes.asks n on to out a h) = follow_ask t B M S P n on to out a h
follow t {B} {M = M} S P (bytes.replies n on m q out a h) = follow_reply t B M S P n on m q out a h
follow t {B} {M = M} S P (bytes.repairs n on r q a h) = follow_repair t B M S P n on r q a h
follow t {B} {M = M} S P (bytes.strips n on a h) = follow_strip t B M S P n on a h

-- ---- a run

pub follow_all : (t : CrewTable) → is_table t ≡ true → {B C : ByteMoment} {M : Moment} → Sound t M → Pictures t B M → LaterByte t B C
    → (N : Moment) × Later t M N × Pictures t C N
follow_all t ok {M = M} S P bytes.now = (M, run.now, P)
follow_all t ok {M = M} S P (r then e) =
    let first = follow_all t ok S P r in
    let next = follow t (later_sound t ok S first.1) first.2 e in
    (next.0, run.◌then◌ first.1 next.1, next.2)
