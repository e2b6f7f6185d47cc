-- The calls on bytes: a good image is the encoding of its state, every accepted call leaves a good image, what it writes passes refusals 3
-- and 4 of every holder of the same table, and a refused call leaves every buffer as it was. Assumes nothing.
use Prim.Native.Nat.{ℕ, ◌%◌, ◌≤◌}
use mathlib.Core.Path.{◌≡◌, refl, sym, ap, ◌∙◌, subst}
use mathlib.Core.Bool.{Bool, true, ◌&&◌}
use mathlib.Core.List.{List, []}
use native.Mathlib.Omega.{arith}
use lib.ListN.{length, take, drop, length-append, length-drop}
use lib.Seq.{take_at, drop_at}
use lib.Dec.{leb, eqb}
use borrow.Author.Tests.{eqb-true, eq-eqb, le-leb}
use Rattle.numbers.specs.Words.{map, same_list}
use Rattle.numbers.specs.Numbers.{controller, counter}
use Rattle.numbers.specs.Key.{key}
use Rattle.numbers.proofs.Tests.{and_left, and_right, and_both}
use Rattle.block.proofs.Same.{same_of, of_same}
use Rattle.refusal.specs.declared.Refusal.{Refusal}
use Rattle.refusal.specs.declared.Refusal.TheVariants.{WrongLength, ImageNotGood, WrongCheck, IllFormed}
use Rattle.refusal.specs.Refusal.{Answer, refused, accepted, ◌>>=◌, Verdict}
use Rattle.meaning.specs.CrewTable.{CrewTable, is_table}
use Rattle.meaning.specs.Object.{value, deleted}
use Rattle.meaning.specs.State.{State}
use Rattle.meaning.specs.Message.{Outgoing, Ask, Reply, outgoing_formed, ask_formed, reply_formed}
use Rattle.meaning.specs.OwnSteps.{start, read, Done, write, delete, strip_pass}
use Rattle.meaning.specs.Exchange.{take_in, ask, reply, repair}
use Rattle.meaning.specs.Step.{writes, deletes, takes_in, repairs, strips, step}
use Rattle.meaning.specs.Good.{good_state}
use Rattle.laws.proofs.Goodness.{good_facts}
use Rattle.laws.proofs.Answers.{same_accepted, passes_not, bound}
use Rattle.laws.proofs.StaysGood.{Bytes, starts_good, stays_good, write_accepted, delete_accepted}
use Rattle.laws.proofs.Sends.{sends_outgoing, sends_ask, sends_reply}
use Rattle.layout.specs.Image.{image_length, encode, decode, good_image}
use Rattle.layout.specs.Messages.{checks_right, encode_outgoing, decode_outgoing, encode_ask, decode_ask, encode_reply, decode_reply, laid_out_outgoing, laid_out_ask, laid_out_reply}
use Rattle.layout.specs.Calls.{Left, After, afterwards, one_block, reply_room, whole_reply, whole_image, on_image, with_message, start_call, read_call, write_call, delete_call, take_in_call, ask_call, over, reply_call, repair_call, strip_pass_call}
use Rattle.layout.proofs.ImageBack.{image_size, decode_encode}
use Rattle.layout.proofs.MessagesBack.{outgoing_length, outgoing_back, outgoing_checked, outgoing_laid_out, ask_length, ask_back, ask_checked, ask_laid_out, reply_length, reply_back, reply_checked, reply_laid_out}
use Rattle.layout.proofs.Sizes.{good_sized, outgoing_sized, ask_sized, reply_sized}
use Rattle.std.specs.Prelude.{Ok, Err}

-- ---- good images

pub record GoodImage (img : List ℕ) : Type 0 where
  pub size : length img ≡ image_length
  pub encoded : encode (decode img) ≡ img
  pub state : good_state (decode img) ≡ true

-- a good image is the encoding of its state
pub good_image_lem : (img : List ℕ) → good_image img ≡ true → GoodImage img
unfolding good_image
good_image_lem img t =
    let first = and_left (eqb (length img) image_length && same_list (encode (decode img)) img) (good_state (decode img)) t in
    record {
      size = eqb-true (length img) image_length (and_left (eqb (length img) image_length) (same_list (encode (decode img)) img) first);
      encoded = of_same (encode (decode img)) img (and_right (eqb (length img) image_length) (same_list (encode (decode img)) img) first);
      state = and_right (eqb (length img) image_length && same_list (encode (decode img)) img) (good_state (decode img)) t;
    }

-- and a good state encodes to one
pub encode_good : (s : State) → good_state s ≡ true → good_image (encode s) ≡ true
unfolding good_image
encode_good s g =
    let back = decode_encode s (good_sized s (good_facts s g)) in
    and_both (eqb (length (encode s)) image_length && same_list (encode (decode (encode s))) (encode s)) (good_state (decode (encode s)))
    (and_both (eqb (length (encode s)) image_length) (same_list (encode (decode (encode s))) (encode s))
    (eq-eqb (length (encode s)) image_length (image_size s (good_sized s (good_facts s g))))
    (same_of (encode (decode (encode s))) (encode s) (ap encode back)))
    (subst (λ (x : State). good_state x ≡ true) (sym back) g)

-- ---- what an answer says of the buffers

-- a refused call leaves every buffer as it was, and counts 0
pub refused_leaves : (img out : List ℕ) (a : Answer Left) (r : Refusal) → (afterwards img out a).verdict ≡ Err r
    → ((afterwards img out a).image ≡ img) × ((afterwards img out a).out ≡ out) × ((afterwards img out a).count ≡ 0)
unfolding afterwards
refused_leaves img out (refused q) r e = (refl, refl, refl)
refused_leaves img out (accepted l) r e = absurd (apart e)
  where
    is_accepted : Verdict → Type 0
    is_accepted (Ok _) = Unit {0}
    is_accepted (Err x) = ⊥

    apart : Ok (tt {0}) ≡ Err r → ⊥
    apart p = subst is_accepted p tt

-- an accepted one is what its step left
pub accepted_leaves : (img out : List ℕ) (a : Answer Left) → (afterwards img out a).verdict ≡ Ok tt
    → (l : Left) × (a ≡ accepted l) × ((afterwards img out a).image ≡ l.image) × ((afterwards img out a).out ≡ l.out)
unfolding afterwards
accepted_leaves img out (refused r) e = absurd (apart e)
  where
    is_refused : Verdict → Type 0
    is_refused (Ok _) = ⊥
    is_refused (Err x) = Unit {0}

    apart : Err r ≡ Ok (tt {0}) → ⊥
    apart p = subst is_refused p tt
accepted_leaves img out (accepted l) e = (l, refl, refl, refl)

-- what an accepted step on an image has tested
pub on_good_image : (lengths : Bool) (img : List ℕ) (f : State → Answer Left) {l : Left} → on_image lengths img f ≡ accepted l → (GoodImage img) × (f (decode img) ≡ accepted l)
unfolding on_image
on_good_image lengths img f e =
    let sizes = passes_not WrongLength (whole_image img && lengths) _ e in
    let good = passes_not ImageNotGood (good_image img) _ sizes.1 in
    (good_image_lem img good.0, good.1)

-- an accepted message passed its tests
pub message_passed : (message : List ℕ) (laid_out : Bool) (rest : Answer Left) {l : Left} → with_message message laid_out rest ≡ accepted l → rest ≡ accepted l
unfolding with_message
message_passed message laid_out rest e = (passes_not IllFormed laid_out rest (passes_not WrongCheck (checks_right message) _ e).1).1

-- ---- every accepted call leaves a good image

abbrev pub LeavesGood : After → Type 0
LeavesGood a = a.verdict ≡ Ok tt → good_image a.image ≡ true

-- a step that leaves the encoding of a good state
leaves : (img out : List ℕ) (a : Answer Left) → ((l : Left) → a ≡ accepted l → good_image l.image ≡ true) → LeavesGood (afterwards img out a)
leaves img out a h e = let q = accepted_leaves img out a e in subst (λ (i : List ℕ). good_image i ≡ true) (sym q.2) (h q.0 q.1)

pub start_leaves_good : (img : List ℕ) (n : ℕ) (table : List ℕ) → Bytes table → LeavesGood (start_call img n table)
unfolding start_call
start_leaves_good img n table bytes =
    leaves img [] _
    (λ l e.
    let sizes = passes_not WrongLength (whole_image img && eqb (length table) 8) _ e in
    let q = bound (start (controller n) table) _ sizes.1 in
    subst (λ (x : Left). good_image x.image ≡ true) (same_accepted (record { image = encode q.0; out = []; count = 0 }) l q.2)
    (encode_good q.0 (starts_good (controller n) table q.0 (eight (and_right (whole_image img) (eqb (length table) 8) sizes.0)) q.1)))
  where
    eight : eqb (length table) 8 ≡ true → is_table table ≡ true
    eight t = unfold is_table in
        (and_both (eqb (length table) 8) (Rattle.numbers.specs.Words.all? (λ b. lib.Dec.ltb b 256) table) t
        (Rattle.numbers.proofs.Lists.in_all (λ b. lib.Dec.ltb b 256) table (λ b m. borrow.Author.Tests.lt-ltb b 256 (bytes b m))))

-- a call that leaves the image as it was
same_image : (lengths : Bool) (img out : List ℕ) (f : State → Answer Left) → ((l : Left) → f (decode img) ≡ accepted l → l.image ≡ img) → LeavesGood (afterwards img out (on_image lengths img f))
same_image lengths img out f h =
    leaves img out (on_image lengths img f)
    (λ l e.
    let q = on_good_image lengths img f e in
    subst (λ (i : List ℕ). good_image i ≡ true) (q.0.encoded ∙ sym (h l q.1)) (encode_good (decode img) q.0.state))

-- a call that takes a step
one_step : (lengths : Bool) (img out : List ℕ) (f : State → Answer Left)
    → ((l : Left) → f (decode img) ≡ accepted l → good_state (decode img) ≡ true → (x : State) × (good_state x ≡ true) × (encode x ≡ l.image)) → LeavesGood (afterwards img out (on_image lengths img f))
one_step lengths img out f h =
    leaves img out (on_image lengths img f)
    (λ l e.
    let q = on_good_image lengths img f e in
    let r = h l q.1 q.0.state in
    subst (λ (i : List ℕ). good_image i ≡ true) r.2 (encode_good r.0 r.1))

pub read_leaves_good : (img : List ℕ) (job point : ℕ) (out : List ℕ) → LeavesGood (read_call img job point out)
unfolding read_call
read_leaves_good img job point out =
    same_image (one_block out) img out _
    (λ l e. let q = bound (read (decode img) (key job point)) _ e in sym (ap (λ (x : Left). x.image) (same_accepted _ l q.2)))

pub ask_leaves_good : (img : List ℕ) (to : ℕ) (out : List ℕ) → LeavesGood (ask_call img to out)
unfolding ask_call
ask_leaves_good img to out =
    same_image (one_block out) img out _
    (λ l e. let q = bound (ask (decode img) (controller to)) _ e in sym (ap (λ (x : Left). x.image) (same_accepted _ l q.2)))

pub reply_leaves_good : (img message out : List ℕ) → LeavesGood (reply_call img message out)
unfolding reply_call
reply_leaves_good img message out =
    same_image (one_block message && leb reply_room (length out)) img out _
    (λ l e.
    let q = bound (reply (decode img) (decode_ask message)) _ (message_passed message (laid_out_ask message) _ e) in
    sym (ap (λ (x : Left). x.image) (same_accepted _ l q.2)))

pub write_leaves_good : (img : List ℕ) (job point : ℕ) (v c out : List ℕ) → Bytes v → LeavesGood (write_call img job point v c out)
unfolding write_call step
write_leaves_good img job point v c out bytes =
    one_step (eqb (length c) 8 && one_block out) img out _
    (λ l e g.
    let q = bound (write (decode img) (key job point) v (map counter c)) _ e in (
      q.0.state,
      stays_good (decode img) (writes (key job point) v (map counter c)) q.0.state g bytes (ap (λ (a : Answer Done). a >>= λ d. accepted d.state) q.1),
      ap (λ (x : Left). x.image) (same_accepted (record { image = encode q.0.state; out = encode_outgoing q.0.message; count = 0 }) l q.2),
    ))

pub delete_leaves_good : (img : List ℕ) (job point : ℕ) (c out : List ℕ) → LeavesGood (delete_call img job point c out)
unfolding delete_call step
delete_leaves_good img job point c out =
    one_step (eqb (length c) 8 && one_block out) img out _
    (λ l e g.
    let q = bound (delete (decode img) (key job point) (map counter c)) _ e in (
      q.0.state,
      stays_good (decode img) (deletes (key job point) (map counter c)) q.0.state g tt (ap (λ (a : Answer Done). a >>= λ d. accepted d.state) q.1),
      ap (λ (x : Left). x.image) (same_accepted (record { image = encode q.0.state; out = encode_outgoing q.0.message; count = 0 }) l q.2),
    ))

pub take_in_leaves_good : (img message : List ℕ) → LeavesGood (take_in_call img message)
unfolding take_in_call step
take_in_leaves_good img message =
    one_step (one_block message) img [] _
    (λ l e g.
    let q = bound (take_in (decode img) (decode_outgoing message)) _ (message_passed message (laid_out_outgoing message) _ e) in (
      q.0,
      stays_good (decode img) (takes_in (decode_outgoing message)) q.0 g tt q.1,
      ap (λ (x : Left). x.image) (same_accepted (record { image = encode q.0; out = []; count = 0 }) l q.2),
    ))

pub repair_leaves_good : (img message : List ℕ) → LeavesGood (repair_call img message)
unfolding repair_call step
repair_leaves_good img message =
    one_step (whole_reply message) img [] _
    (λ l e g.
    let q = bound (repair (decode img) (decode_reply message)) _ (message_passed message (laid_out_reply message) _ e) in (
      q.0,
      stays_good (decode img) (repairs (decode_reply message)) q.0 g tt q.1,
      ap (λ (x : Left). x.image) (same_accepted (record { image = encode q.0; out = []; count = 0 }) l q.2),
    ))

pub strip_pass_leaves_good : (img : List ℕ) → LeavesGood (strip_pass_call img)
unfolding strip_pass_call step
strip_pass_leaves_good img =
    one_step true img [] _
    (λ l e g. (
      (strip_pass (decode img)).state,
      stays_good (decode img) strips (strip_pass (decode img)).state g tt refl,
      ap (λ (x : Left). x.image) (same_accepted (record { image = encode (strip_pass (decode img)).state; out = []; count = (strip_pass (decode img)).count }) l e),
    ))

-- ---- what a call writes passes refusals 3 and 4

-- an outgoing block, an ask and a reply, for holders of the table t
pub record FitOutgoing (t : CrewTable) (b : List ℕ) : Type 0 where
  pub size : length b ≡ 512
  pub checked : checks_right b ≡ true
  pub laid_out : laid_out_outgoing b ≡ true
  pub formed : outgoing_formed t (decode_outgoing b) ≡ true

pub record FitAsk (t : CrewTable) (b : List ℕ) : Type 0 where
  pub size : length b ≡ 512
  pub checked : checks_right b ≡ true
  pub laid_out : laid_out_ask b ≡ true
  pub formed : ask_formed t (decode_ask b) ≡ true

pub record FitReply (t : CrewTable) (b : List ℕ) : Type 0 where
  pub size : whole_reply b ≡ true
  pub checked : checks_right b ≡ true
  pub laid_out : laid_out_reply b ≡ true
  pub formed : reply_formed t (decode_reply b) ≡ true

pub outgoing_fit : (t : CrewTable) (m : Outgoing) → outgoing_formed t m ≡ true → FitOutgoing t (encode_outgoing m)
outgoing_fit t m f =
    let S = outgoing_sized t m f in
    record {
      size = outgoing_length m S;
      checked = outgoing_checked m S;
      laid_out = outgoing_laid_out m S;
      formed = subst (λ (x : Outgoing). outgoing_formed t x ≡ true) (sym (outgoing_back m S)) f;
    }

pub ask_fit : (t : CrewTable) (a : Ask) → ask_formed t a ≡ true → FitAsk t (encode_ask a)
ask_fit t a f =
    let S = ask_sized t a f in
    record {
      size = ask_length a S;
      checked = ask_checked a S;
      laid_out = ask_laid_out a S;
      formed = subst (λ (x : Ask). ask_formed t x ≡ true) (sym (ask_back a S)) f;
    }

pub reply_fit : (t : CrewTable) (r : Reply) → reply_formed t r ≡ true → length r.points ≤ 120 → FitReply t (encode_reply r)
reply_fit t r f few =
    let S = reply_sized t r f in
    let size = reply_length r S in
    record {
      size = unfold whole_reply in
          (and_both (eqb (length (encode_reply r) % 512) 0 && leb 512 (length (encode_reply r))) (leb (length (encode_reply r)) reply_room)
          (and_both (eqb (length (encode_reply r) % 512) 0) (leb 512 (length (encode_reply r)))
          (eq-eqb (length (encode_reply r) % 512) 0 (ap (λ (n : ℕ). n % 512) size ∙ omega arith)) (le-leb 512 (length (encode_reply r)) (omega arith)))
          (le-leb (length (encode_reply r)) reply_room (omega arith)));
      checked = reply_checked r S;
      laid_out = reply_laid_out r S;
      formed = subst (λ (x : Reply). reply_formed t x ≡ true) (sym (reply_back r S)) f;
    }

pub write_writes_fit : (img : List ℕ) (job point : ℕ) (v c out : List ℕ) → Bytes v → (write_call img job point v c out).verdict ≡ Ok tt
    → FitOutgoing (decode img).table (write_call img job point v c out).out
unfolding write_call
write_writes_fit img job point v c out bytes e =
    let l = accepted_leaves img out _ e in
    let q = on_good_image (eqb (length c) 8 && one_block out) img _ l.1 in
    let d = bound (write (decode img) (key job point) v (map counter c)) _ q.1 in
    let G = good_facts (decode img) q.0.state in
    subst (λ (b : List ℕ). FitOutgoing (decode img).table b) (ap (λ (x : Left). x.out) (same_accepted _ l.0 d.2) ∙ sym l.3)
    (outgoing_fit (decode img).table d.0.message
    (sends_outgoing (decode img) (key job point) (value v) (map counter c) d.0 G (write_accepted (decode img) (key job point) v (map counter c) d.0 G bytes d.1)))

pub delete_writes_fit : (img : List ℕ) (job point : ℕ) (c out : List ℕ) → (delete_call img job point c out).verdict ≡ Ok tt
    → FitOutgoing (decode img).table (delete_call img job point c out).out
unfolding delete_call
delete_writes_fit img job point c out e =
    let l = accepted_leaves img out _ e in
    let q = on_good_image (eqb (length c) 8 && one_block out) img _ l.1 in
    let d = bound (delete (decode img) (key job point) (map counter c)) _ q.1 in
    let G = good_facts (decode img) q.0.state in
    subst (λ (b : List ℕ). FitOutgoing (decode img).table b) (ap (λ (x : Left). x.out) (same_accepted _ l.0 d.2) ∙ sym l.3)
    (outgoing_fit (decode img).table d.0.message
    (sends_outgoing (decode img) (key job point) deleted (map counter c) d.0 G (delete_accepted (decode img) (key job point) (map counter c) d.0 G d.1)))

pub ask_writes_fit : (img : List ℕ) (to : ℕ) (out : List ℕ) → (ask_call img to out).verdict ≡ Ok tt → FitAsk (decode img).table (ask_call img to out).out
unfolding ask_call
ask_writes_fit img to out e =
    let l = accepted_leaves img out _ e in
    let q = on_good_image (one_block out) img _ l.1 in
    let a = bound (ask (decode img) (controller to)) _ q.1 in
    subst (λ (b : List ℕ). FitAsk (decode img).table b) (ap (λ (x : Left). x.out) (same_accepted _ l.0 a.2) ∙ sym l.3)
    (ask_fit (decode img).table a.0 (sends_ask (decode img) (controller to) a.0 (good_facts (decode img) q.0.state) a.1))

-- "the rest keeps its bytes"
pub over_length : (written out : List ℕ) → length written ≤ length out → length (over written out) ≡ length out
unfolding over
over_length written out h = simp (length-append, length-drop) (omega arith)

pub over_first : (written out : List ℕ) → take (length written) (over written out) ≡ written
unfolding over
over_first written out = take_at written (drop (length written) out) (length written) refl

pub over_rest : (written out : List ℕ) → drop (length written) (over written out) ≡ drop (length written) out
unfolding over
over_rest written out = drop_at written (drop (length written) out) (length written) refl

-- the reply stands at the beginning of its buffer, and the rest of that is as it was
pub record Replying (img message out : List ℕ) : Type 0 where
  pub written : List ℕ
  pub fit : FitReply (decode img).table written
  pub over_out : (reply_call img message out).out ≡ over written out

pub reply_writes_fit : (img message out : List ℕ) → (reply_call img message out).verdict ≡ Ok tt → Replying img message out
unfolding reply_call
reply_writes_fit img message out e =
    let l = accepted_leaves img out _ e in
    let q = on_good_image (one_block message && leb reply_room (length out)) img _ l.1 in
    let r = bound (reply (decode img) (decode_ask message)) _ (message_passed message (laid_out_ask message) _ q.1) in
    let sent = sends_reply (decode img) (good_facts (decode img) q.0.state) (decode_ask message) r.0 r.1 in
    record {
      written = encode_reply r.0.message;
      fit = reply_fit (decode img).table r.0.message sent.0 sent.1;
      over_out = l.3 ∙ sym (ap (λ (x : Left). x.out) (same_accepted _ l.0 r.2));
    }
