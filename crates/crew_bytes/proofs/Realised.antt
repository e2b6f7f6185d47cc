-- Every run of states whose given contexts have eight entries is pictured by a run of images and bytes: so what is said of runs of bytes is said of
-- all that a crew can do, the computed runs of crate crew among it. Assumes nothing.
use Prim.Native.Nat.{ℕ, ◌≤◌}
use mathlib.Core.Path.{◌≡◌, refl, sym, ap, ◌∙◌, subst}
use mathlib.Core.Bool.{Bool, true, ◌&&◌, not}
use mathlib.Core.List.{List, [], ◌∷◌}
use native.Mathlib.Nat.{le_refl}
use lib.ListN.{length, length-replicate}
use lib.Dec.{leb, eqb}
use borrow.Author.Tests.{eq-eqb, le-leb}
use Rattle.numbers.specs.declared.Controller.{Controller}
use Rattle.numbers.specs.declared.Counter.{Counter}
use Rattle.numbers.specs.declared.Key.{Key}
use Rattle.numbers.specs.Words.{map}
use Rattle.numbers.specs.Numbers.{counter}
use Rattle.numbers.proofs.Tests.{◌∈◌, and_both, and_left}
use Rattle.numbers.proofs.Lists.{map_in, map_length}
use Rattle.block.specs.Fields.{zeros}
use Rattle.refusal.specs.declared.Refusal.TheVariants.{WrongLength}
use Rattle.refusal.specs.Refusal.{Answer, accepted, refuse◌when◌else◌, ◌>>=◌}
use Rattle.meaning.specs.CrewTable.{CrewTable, is_table}
use Rattle.meaning.specs.Context.{Context}
use Rattle.meaning.specs.Object.{Contents, value, deleted}
use Rattle.meaning.specs.State.{State}
use Rattle.meaning.specs.Message.{Outgoing, Ask, Reply, outgoing_formed, ask_formed, reply_formed}
use Rattle.meaning.specs.OwnSteps.{start, read, Done, write, delete, strip_pass}
use Rattle.meaning.specs.Exchange.{take_in, ask, Replied, reply, repair}
use Rattle.meaning.specs.Good.{good_state}
use Rattle.laws.proofs.Goodness.{Good, good_facts, facts_good}
use Rattle.laws.proofs.StaysGood.{starts_good, write_accepted, delete_accepted}
use Rattle.laws.proofs.Sends.{sends_outgoing, sends_ask, sends_reply}
use Rattle.layout.specs.Image.{image_length, encode, decode}
use Rattle.layout.specs.Messages.{encode_reading, encode_outgoing, decode_outgoing, encode_ask, decode_ask, encode_reply, decode_reply, laid_out_outgoing, laid_out_ask, laid_out_reply}
use Rattle.layout.specs.Calls.{afterwards, one_block, reply_room, whole_reply, whole_image, over, start_call, write_call, delete_call, take_in_call, ask_call, reply_call, repair_call, strip_pass_call}
use Rattle.layout.proofs.ImageBack.{image_size}
use Rattle.layout.proofs.MessagesBack.{outgoing_back, ask_back, reply_back}
use Rattle.layout.proofs.Sizes.{good_sized, outgoing_sized, ask_sized, reply_sized}
use Rattle.layout.proofs.CallsGood.{outgoing_fit, ask_fit, reply_fit}
use Rattle.crew.specs.Moment.{Sent, Moment, seeing, made, writing, asking, replying, brings, reply_brings}
use Rattle.crew.specs.Run as run
use Rattle.crew.specs.Run.{Next, Later, Reached, now, ◌then◌}
use Rattle.crew.proofs.Sound.{Sound, begins_sound, later_sound}
use Rattle.crew_bytes.specs.Bytes as bytes
use Rattle.crew_bytes.specs.Bytes.{ByteMoment, left_by, seen_by, written_by, said, reply_said, LaterByte, ReachedByte}
use Rattle.crew_bytes.proofs.Called.{leaving, decoded, passes_image, answers, answers_with}
use Rattle.crew_bytes.proofs.Pictured.{in_bytes, reply_in_bytes, Pictures, begins_pictured, left_pictured, started_pictured, seen_pictured, written_pictured, asked_pictured, replied_pictured}
use Rattle.crew_bytes.proofs.Followed.{reply_count, reply_first}
use Rattle.crew_bytes.proofs.Reading.{read_answers}

-- "contexts eight counters"
abbrev pub GivenEight : {t : CrewTable} {M N : Moment} → Next t M N → Type 0
GivenEight (run.starts n s off e) = Unit {0}
GivenEight run.refuses = Unit {0}
GivenEight (run.reads n on k o e) = Unit {0}
GivenEight (run.writes n on k v c d small e) = length c ≡ 8
GivenEight (run.deletes n on k c d e) = length c ≡ 8
GivenEight (run.takes_in n on m h s e) = Unit {0}
GivenEight (run.asks n on to a e) = Unit {0}
GivenEight (run.replies n on a h r e) = Unit {0}
GivenEight (run.repairs n on r h s e) = Unit {0}
GivenEight (run.strips n on) = Unit {0}

abbrev pub AllGivenEight : {t : CrewTable} {M N : Moment} → Later t M N → Type 0
AllGivenEight now = Unit {0}
AllGivenEight (r then e) = AllGivenEight r × GivenEight e

abbrev Realised : CrewTable → ByteMoment → Moment → Type 0
Realised t B N = (C : ByteMoment) × LaterByte t B C × Pictures t C N

-- the numbers of a context
abbrev numbers : Context → List ℕ
numbers c = map (λ (x : Counter). x.0) c

numbers_back : (c : Context) → map counter (numbers c) ≡ c
numbers_back [] = refl
numbers_back (x ∷ c) = ap (λ (l : Context). x ∷ l) (numbers_back c)

-- a start, on any image's bytes
module _ (t : CrewTable) (ok : is_table t ≡ true) (n : Controller) (s : State) (e : start n t ≡ accepted s) where
  start_answers : start_call (encode s) n.0 t ≡ leaving (encode s) [] 0
  unfolding start_call refuse◌when◌else◌ afterwards
  start_answers =
      ap (λ (b : Bool). afterwards (encode s) [] (refuse WrongLength when not b else (start n t >>= λ x. accepted (record { image = encode x; out = []; count = 0 }))))
      (and_both (whole_image (encode s)) (eqb (length t) 8) (eq-eqb (length (encode s)) image_length (image_size s (good_sized s (good_facts s (starts_good n t s ok e))))) eight)
      ∙ ap (λ (z : Answer State). afterwards (encode s) [] (z >>= λ x. accepted (record { image = encode x; out = []; count = 0 }))) e
    where
      eight : eqb (length t) 8 ≡ true
      eight = unfold is_table in (and_left (eqb (length t) 8) _ ok)

-- with a block and a reply's buffer to lend
module _ (page : List ℕ) (one : length page ≡ 512) (hall : List ℕ) (roomy : reply_room ≤ length hall) (t : CrewTable) (B : ByteMoment) (M : Moment) (S : Sound t M) (P : Pictures t B M) (n : Controller) (on : M.started n ≡ true) where
  on' : B.started n ≡ true
  on' = ap (λ (f : Controller → Bool). f n) P.started ∙ on

  abbrev s : State
  s = M.state n

  G : Good s
  G = S.good n (S.crew n on)

  g : good_state s ≡ true
  g = facts_good s G

  abbrev img : List ℕ
  img = B.image n

  is_image : img ≡ encode s
  is_image = P.image n on

  one_page : one_block page ≡ true
  one_page = eq-eqb (length page) 512 one

  same_made : (k : Key) (b : Contents) (c : Context) → made (decode img) k b (map counter (numbers c)) ≡ made s k b c
  same_made k b c = λ i. made (decoded img s g is_image i) k b (numbers_back c i)

  lengths : (c : Context) → length c ≡ 8 → (eqb (length (numbers c)) 8 && one_block page) ≡ true
  lengths c e = and_both (eqb (length (numbers c)) 8) (one_block page) (eq-eqb (length (numbers c)) 8 (map_length (λ (x : Counter). x.0) c ∙ e)) one_page

  realise_read : (k : Key) (o : Outgoing) → read s k ≡ accepted o → Realised t B M
  realise_read k o e =
      let a = leaving img (encode_reading o) 0 in (
        left_by B n a,
        bytes.◌then◌ bytes.now (bytes.reads n on' k.job k.point.0 page a (read_answers img s g is_image k.job k.point.0 page o one e, refl)),
        left_pictured t B M P n a is_image,
      )

  realise_write : (k : Key) (v : List ℕ) (c : Context) (d : Done) → run.Bytes v → length c ≡ 8 → write s k v c ≡ accepted d → Realised t B (writing M n (made s k (value v) c) d)
  unfolding write_call
  realise_write k v c d small eight e =
      let a = leaving (encode d.state) (encode_outgoing d.message) 0 in
      let back = subst (λ (x : Context). write s k v x ≡ accepted d) (sym (numbers_back c)) e in (
        written_by B n a (made (decode img) k (value v) (map counter (numbers c))),
        bytes.◌then◌ bytes.now
            (bytes.writes n on' k.job k.point.0 v (numbers c) page a small (
              answers img s g is_image (eqb (length (numbers c)) 8 && one_block page) page (λ z. write z k v (map counter (numbers c)))
                  (λ x. record { image = encode x.state; out = encode_outgoing x.message; count = 0 }) d (lengths c eight) back,
              refl,
            )),
        written_pictured t B M P n a _ _ d refl refl (same_made k (value v) c)
            (subst (λ (z : CrewTable). outgoing_formed z d.message ≡ true) (S.table n) (sends_outgoing s k (value v) c d G (write_accepted s k v c d G small e))),
      )

  realise_delete : (k : Key) (c : Context) (d : Done) → length c ≡ 8 → delete s k c ≡ accepted d → Realised t B (writing M n (made s k deleted c) d)
  unfolding delete_call
  realise_delete k c d eight e =
      let a = leaving (encode d.state) (encode_outgoing d.message) 0 in
      let back = subst (λ (x : Context). delete s k x ≡ accepted d) (sym (numbers_back c)) e in (
        written_by B n a (made (decode img) k deleted (map counter (numbers c))),
        bytes.◌then◌ bytes.now
            (bytes.deletes n on' k.job k.point.0 (numbers c) page a (
              answers img s g is_image (eqb (length (numbers c)) 8 && one_block page) page (λ z. delete z k (map counter (numbers c)))
                  (λ x. record { image = encode x.state; out = encode_outgoing x.message; count = 0 }) d (lengths c eight) back,
              refl,
            )),
        written_pictured t B M P n a _ _ d refl refl (same_made k deleted c)
            (subst (λ (z : CrewTable). outgoing_formed z d.message ≡ true) (S.table n) (sends_outgoing s k deleted c d G (delete_accepted s k c d G e))),
      )

  realise_take_in : (m : Sent Outgoing) → m ∈ M.outgoings → (x : State) → take_in s m.message ≡ accepted x → Realised t B (seeing M n x (brings m))
  unfolding take_in_call
  realise_take_in m h x e =
      let a = leaving (encode x) [] 0 in
      let formed = P.outgoings_formed m h in
      let b = encode_outgoing m.message in
      let F = outgoing_fit t m.message formed in
      let back = outgoing_back m.message (outgoing_sized t m.message formed) in (
        seen_by B n a (brings (said (in_bytes m))),
        bytes.◌then◌ bytes.now
            (bytes.takes_in n on' (in_bytes m) (subst (λ (l : List (Sent (List ℕ))). in_bytes m ∈ l) (sym P.outgoings) (map_in in_bytes M.outgoings h)) a (
              answers_with img s g is_image (one_block b) [] b (laid_out_outgoing b) (λ z. take_in z (decode_outgoing b)) (λ y. record { image = encode y; out = []; count = 0 }) x
                  (eq-eqb (length b) 512 F.size) F.checked F.laid_out (subst (λ (z : Outgoing). take_in s z ≡ accepted x) (sym back) e),
              refl,
            )),
        seen_pictured t B M P n a x (brings (said (in_bytes m))) (brings m) refl (λ i. brings (record { message = back i; seen = m.seen })),
      )

  realise_ask : (to : Controller) (q : Ask) → ask s to ≡ accepted q → Realised t B (asking M q)
  unfolding ask_call
  realise_ask to q e =
      let a = leaving img (encode_ask q) 0 in (
        bytes.asked_by B n a,
        bytes.◌then◌ bytes.now
            (bytes.asks n on' to.0 page a (answers img s g is_image (one_block page) page (λ z. ask z to) (λ y. record { image = img; out = encode_ask y; count = 0 }) q one_page e, refl)),
        asked_pictured t B M P n a q is_image refl (subst (λ (z : CrewTable). ask_formed z q ≡ true) (S.table n) (sends_ask s to q G e)),
      )

  realise_reply : (q : Ask) → q ∈ M.asks → (r : Replied) → reply s q ≡ accepted r → Realised t B (replying M n r.message)
  unfolding reply_call
  realise_reply q h r e =
      let a = leaving img (over (encode_reply r.message) hall) r.count in
      let b = encode_ask q in
      let F = ask_fit t q (P.asks_formed q h) in
      let back = ask_back q (ask_sized t q (P.asks_formed q h)) in
      let formed = subst (λ (z : CrewTable). (reply_formed z r.message ≡ true) × (length r.message.points ≤ 120)) (S.table n) (sends_reply s G q r e) in (
        bytes.replied_by B n a,
        bytes.◌then◌ bytes.now
            (bytes.replies n on' b (subst (λ (l : List (List ℕ)). b ∈ l) (sym P.asks) (map_in encode_ask M.asks h)) hall a (
              answers_with img s g is_image (one_block b && leb reply_room (length hall)) hall b (laid_out_ask b) (λ z. reply z (decode_ask b))
                  (λ y. record { image = img; out = over (encode_reply y.message) hall; count = y.count }) r
                  (and_both (one_block b) (leb reply_room (length hall)) (eq-eqb (length b) 512 F.size) (le-leb reply_room (length hall) roomy)) F.checked F.laid_out
                  (subst (λ (z : Ask). reply s z ≡ accepted r) (sym back) e),
              refl,
            )),
        replied_pictured t B M P n a r.message is_image (reply_first t r hall formed.0 (reply_count s q r e)) formed,
      )

  realise_repair : (m : Sent Reply) → m ∈ M.replies → (x : State) → repair s m.message ≡ accepted x → Realised t B (seeing M n x (reply_brings m))
  unfolding repair_call
  realise_repair m h x e =
      let a = leaving (encode x) [] 0 in
      let formed = P.replies_formed m h in
      let b = encode_reply m.message in
      let F = reply_fit t m.message formed.0 formed.1 in
      let back = reply_back m.message (reply_sized t m.message formed.0) in (
        seen_by B n a (reply_brings (reply_said (reply_in_bytes m))),
        bytes.◌then◌ bytes.now
            (bytes.repairs n on' (reply_in_bytes m) (subst (λ (l : List (Sent (List ℕ))). reply_in_bytes m ∈ l) (sym P.replies) (map_in reply_in_bytes M.replies h)) a (
              answers_with img s g is_image (whole_reply b) [] b (laid_out_reply b) (λ z. repair z (decode_reply b)) (λ y. record { image = encode y; out = []; count = 0 }) x
                  F.size F.checked F.laid_out (subst (λ (z : Reply). repair s z ≡ accepted x) (sym back) e),
              refl,
            )),
        seen_pictured t B M P n a x (reply_brings (reply_said (reply_in_bytes m))) (reply_brings m) refl (λ i. reply_brings (record { message = back i; seen = m.seen })),
      )

  realise_strip : Realised t B (seeing M n (strip_pass s).state [])
  unfolding strip_pass_call afterwards
  realise_strip =
      let a = leaving (encode (strip_pass s).state) [] (strip_pass s).count in (
        seen_by B n a [],
        bytes.◌then◌ bytes.now
            (bytes.strips n on' a
            (ap (afterwards img []) (passes_image img s g is_image true (λ z. accepted (record { image = encode (strip_pass z).state; out = []; count = (strip_pass z).count })) refl), refl)),
        seen_pictured t B M P n a (strip_pass s).state [] [] refl refl,
      )

module _ (page : List ℕ) (one : length page ≡ 512) (hall : List ℕ) (roomy : reply_room ≤ length hall) (t : CrewTable) (ok : is_table t ≡ true) where
  realise : {B : ByteMoment} {M N : Moment} → Sound t M → Pictures t B M → (e : Next t M N) → GivenEight e → Realised t B N
  realise {B} {M} S P (run.starts n s off e) u =
      let a = leaving (encode s) [] 0 in (
        bytes.started_by B n a,
        bytes.◌then◌ bytes.now (bytes.starts n (ap (λ (f : Controller → Bool). f n) P.started ∙ off) (encode s) a (start_answers t ok n s e, refl)),
        started_pictured t B M P n a s refl,
      )
  realise {B} S P run.refuses u = (B, bytes.now, P)
  realise {B} {M} S P (run.reads n on k o e) u = realise_read page one hall roomy t B M S P n on k o e
  realise {B} {M} S P (run.writes n on k v c d small e) u = realise_write page one hall roomy t B M S P n on k v c d small u e
  realise {B} {M} S P (run.deletes n on k c d e) u = realise_delete page one hall roomy t B M S P n on k c d u e
  realise {B} {M} S P (run.takes_in n on m h s e) u = realise_take_in page one hall roomy t B M S P n on m h s e
  realise {B} {M} S P (run.asks n on to a e) u = realise_ask page one hall roomy t B M S P n on to a e
  realise {B} {M} S P (run.replies n on a h r e) u = realise_reply page one hall roomy t B M S P n on a h r e
  realise {B} {M} S P (run.repairs n on r h s e) u = realise_repair page one hall roomy t B M S P n on r h s e
  realise {B} {M} S P (run.strips n on) u = realise_strip page one hall roomy t B M S P n on

  joined : {B C D : ByteMoment} → LaterByte t B C → LaterByte t C D → LaterByte t B D
  joined r bytes.now = r
  joined r (bytes.◌then◌ q e) = bytes.◌then◌ (joined r q) e

  realise_all : {B : ByteMoment} {M N : Moment} → Sound t M → Pictures t B M → (r : Later t M N) → AllGivenEight r → Realised t B N
  realise_all {B} S P now u = (B, bytes.now, P)
  realise_all S P (r then e) u =
      let first = realise_all S P r u.0 in
      let next = realise (later_sound t ok S r) first.2 e u.1 in
      (next.0, joined first.1 next.1, next.2)

pub run_in_bytes : (t : CrewTable) → is_table t ≡ true → (M : Moment) (r : Reached t M) → AllGivenEight r → (B : ByteMoment) × ReachedByte t B × Pictures t B M
run_in_bytes t ok M r u =
    realise_all (zeros 512) (length-replicate {A = ℕ} 512 0) (zeros reply_room) (subst (λ (k : ℕ). reply_room ≤ k) (sym (length-replicate {A = ℕ} reply_room 0)) (le_refl reply_room)) t ok (begins_sound t ok) (begins_pictured t) r u
