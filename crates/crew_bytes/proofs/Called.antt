-- A call on the image of a good state does to the image what its step does to the state, and writes what the step writes. Assumes nothing.
use Prim.Native.Nat.{ℕ}
use mathlib.Core.Path.{◌≡◌, sym, ap, ◌∙◌, subst}
use mathlib.Core.Bool.{Bool, true, ◌&&◌, not}
use mathlib.Core.List.{List, []}
use lib.ListN.{length}
use lib.Dec.{leb, eqb}
use borrow.Author.Tests.{eq-eqb}
use Rattle.numbers.specs.declared.Controller.{Controller}
use Rattle.numbers.specs.Words.{map}
use Rattle.numbers.specs.Numbers.{controller, counter}
use Rattle.numbers.specs.Key.{key}
use Rattle.numbers.proofs.Tests.{and_both}
use Rattle.refusal.specs.declared.Refusal.{Refusal}
use Rattle.refusal.specs.declared.Refusal.TheVariants.{WrongLength, ImageNotGood, WrongCheck, IllFormed}
use Rattle.refusal.specs.Refusal.{Answer, accepted, refuse◌when◌else◌, ◌>>=◌}
use Rattle.meaning.specs.CrewTable.{CrewTable}
use Rattle.meaning.specs.State.{State}
use Rattle.meaning.specs.Message.{Outgoing, Ask}
use Rattle.meaning.specs.OwnSteps.{start, read, Done, write, delete, strip_pass}
use Rattle.meaning.specs.Exchange.{take_in, ask, Replied, reply, repair}
use Rattle.meaning.specs.Good.{good_state}
use Rattle.laws.proofs.Goodness.{good_facts}
use Rattle.laws.proofs.Answers.{same_accepted, passes_not, bound}
use Rattle.layout.specs.Image.{image_length, encode, decode, good_image}
use Rattle.layout.specs.Messages.{checks_right, encode_reading, encode_outgoing, decode_outgoing, encode_ask, decode_ask, encode_reply, decode_reply, laid_out_outgoing, laid_out_ask, laid_out_reply}
use Rattle.layout.specs.Calls.{Left, After, afterwards, one_block, reply_room, whole_reply, whole_image, on_image, with_message, over, start_call, read_call, write_call, delete_call, take_in_call, ask_call, reply_call, repair_call, strip_pass_call}
use Rattle.layout.proofs.ImageBack.{decode_encode}
use Rattle.layout.proofs.Sizes.{good_sized}
use Rattle.layout.proofs.CallsGood.{good_image_lem, encode_good, refused_leaves, accepted_leaves, on_good_image, message_passed}
use Rattle.crew_bytes.specs.Bytes as bytes
use Rattle.crew_bytes.specs.Bytes.{Answers, CallOn}
use Rattle.std.specs.Prelude.{Ok, Err}

-- what an accepted call leaves
abbrev pub leaving : List ℕ → List ℕ → ℕ → After
leaving image out count = record { verdict = Ok tt; image = image; out = out; count = count }

-- an accepted answer is that of what its step left
accepted_is : (img out : List ℕ) (x : Answer Left) (a : After) → Answers (afterwards img out x) a → (l : Left) × (x ≡ accepted l) × (a ≡ leaving l.image l.out l.count)
unfolding afterwards
accepted_is img out x a h =
    let p = accepted_leaves img out x (ap (λ (z : After). z.verdict) h.0 ∙ h.1) in
    (p.0, p.1, sym h.0 ∙ ap (afterwards img out) p.1)

-- a message that passes its tests
pub message_passes : (message : List ℕ) (laid_out : Bool) (rest : Answer Left) → checks_right message ≡ true → laid_out ≡ true → with_message message laid_out rest ≡ rest
unfolding with_message refuse◌when◌else◌
message_passes message laid_out rest c l =
    ap (λ (b : Bool). refuse WrongCheck when not b else (refuse IllFormed when not laid_out else rest)) c ∙ ap (λ (b : Bool). refuse IllFormed when not b else rest) l

-- the result of a step that is bound to what is left of it
left_of : {A : Type 0} (x : Answer A) (f : A → Left) (l : Left) (a : After) → (x >>= λ y. accepted (f y)) ≡ accepted l → a ≡ leaving l.image l.out l.count
    → (y : A) × (x ≡ accepted y) × (a ≡ leaving (f y).image (f y).out (f y).count)
left_of x f l a e p =
    let q = bound x (λ y. accepted (f y)) e in
    (q.0, q.1, p ∙ ap (λ (z : Left). leaving z.image z.out z.count) (sym (same_accepted (f q.0) l q.2)))

-- a refused call leaves the image as it was
pub refused_stays : (img : List ℕ) (a : After) → CallOn img a → (r : Refusal) → a.verdict ≡ Err r → a.image ≡ img
unfolding start_call read_call write_call delete_call take_in_call ask_call reply_call repair_call strip_pass_call
refused_stays img a (bytes.call_start n table) r e = (refused_leaves img [] _ r e).0
refused_stays img a (bytes.call_read job point out) r e = (refused_leaves img out _ r e).0
refused_stays img a (bytes.call_write job point v c out) r e = (refused_leaves img out _ r e).0
refused_stays img a (bytes.call_delete job point c out) r e = (refused_leaves img out _ r e).0
refused_stays img a (bytes.call_take_in m) r e = (refused_leaves img [] _ r e).0
refused_stays img a (bytes.call_ask to out) r e = (refused_leaves img out _ r e).0
refused_stays img a (bytes.call_reply m out) r e = (refused_leaves img out _ r e).0
refused_stays img a (bytes.call_repair m) r e = (refused_leaves img [] _ r e).0
refused_stays img a bytes.call_strip_pass r e = (refused_leaves img [] _ r e).0

pub start_does : (t : CrewTable) (n : Controller) (lent : List ℕ) (a : After) → Answers (start_call lent n.0 t) a
    → (s : State) × (start n t ≡ accepted s) × (a ≡ leaving (encode s) [] 0)
unfolding start_call
start_does t n lent a h =
    let p = accepted_is lent [] _ a h in
    let sizes = passes_not WrongLength (whole_image lent && eqb (length t) 8) _ p.1 in
    left_of (start n t) (λ s. record { image = encode s; out = []; count = 0 }) p.0 a sizes.1 p.2

module _ (img : List ℕ) (s : State) (g : good_state s ≡ true) (e : img ≡ encode s) where
  pub decoded : decode img ≡ s
  decoded = ap decode e ∙ decode_encode s (good_sized s (good_facts s g))

  pub image_good : good_image img ≡ true
  image_good = subst (λ (i : List ℕ). good_image i ≡ true) (sym e) (encode_good s g)

  on_state : (lengths : Bool) (out : List ℕ) (f : State → Answer Left) (a : After) → Answers (afterwards img out (on_image lengths img f)) a
      → (l : Left) × (f s ≡ accepted l) × (a ≡ leaving l.image l.out l.count)
  on_state lengths out f a h =
      let p = accepted_is img out (on_image lengths img f) a h in
      (p.0, subst (λ (x : State). f x ≡ accepted p.0) decoded (on_good_image lengths img f p.1).1, p.2)

  -- the step, and what is left of its result
  does : {A : Type 0} (lengths : Bool) (out : List ℕ) (step : State → Answer A) (f : A → Left) (a : After)
      → Answers (afterwards img out (on_image lengths img (λ z. step z >>= λ y. accepted (f y)))) a
      → (y : A) × (step s ≡ accepted y) × (a ≡ leaving (f y).image (f y).out (f y).count)
  does lengths out step f a h =
      let p = on_state lengths out (λ z. step z >>= λ y. accepted (f y)) a h in
      left_of (step s) f p.0 a p.1 p.2

  -- the same behind the tests of a message
  does_with : {A : Type 0} (lengths : Bool) (out message : List ℕ) (laid_out : Bool) (step : State → Answer A) (f : A → Left) (a : After)
      → Answers (afterwards img out (on_image lengths img (λ z. with_message message laid_out (step z >>= λ y. accepted (f y))))) a
      → (y : A) × (step s ≡ accepted y) × (a ≡ leaving (f y).image (f y).out (f y).count)
  does_with lengths out message laid_out step f a h =
      let p = on_state lengths out (λ z. with_message message laid_out (step z >>= λ y. accepted (f y))) a h in
      left_of (step s) f p.0 a (message_passed message laid_out _ p.1) p.2

  pub read_does : (job point : ℕ) (out : List ℕ) (a : After) → Answers (read_call img job point out) a
      → (o : Outgoing) × (read s (key job point) ≡ accepted o) × (a ≡ leaving img (encode_reading o) 0)
  unfolding read_call
  read_does job point out a h = does (one_block out) out (λ z. read z (key job point)) (λ o. record { image = img; out = encode_reading o; count = 0 }) a h

  pub write_does : (job point : ℕ) (v c out : List ℕ) (a : After) → Answers (write_call img job point v c out) a
      → (d : Done) × (write s (key job point) v (map counter c) ≡ accepted d) × (a ≡ leaving (encode d.state) (encode_outgoing d.message) 0)
  unfolding write_call
  write_does job point v c out a h =
      does (eqb (length c) 8 && one_block out) out (λ z. write z (key job point) v (map counter c))
      (λ d. record { image = encode d.state; out = encode_outgoing d.message; count = 0 }) a h

  pub delete_does : (job point : ℕ) (c out : List ℕ) (a : After) → Answers (delete_call img job point c out) a
      → (d : Done) × (delete s (key job point) (map counter c) ≡ accepted d) × (a ≡ leaving (encode d.state) (encode_outgoing d.message) 0)
  unfolding delete_call
  delete_does job point c out a h =
      does (eqb (length c) 8 && one_block out) out (λ z. delete z (key job point) (map counter c))
      (λ d. record { image = encode d.state; out = encode_outgoing d.message; count = 0 }) a h

  pub take_in_does : (b : List ℕ) (a : After) → Answers (take_in_call img b) a → (x : State) × (take_in s (decode_outgoing b) ≡ accepted x) × (a ≡ leaving (encode x) [] 0)
  unfolding take_in_call
  take_in_does b a h =
      does_with (one_block b) [] b (laid_out_outgoing b) (λ z. take_in z (decode_outgoing b)) (λ x. record { image = encode x; out = []; count = 0 }) a h

  pub ask_does : (to : ℕ) (out : List ℕ) (a : After) → Answers (ask_call img to out) a
      → (q : Ask) × (ask s (controller to) ≡ accepted q) × (a ≡ leaving img (encode_ask q) 0)
  unfolding ask_call
  ask_does to out a h = does (one_block out) out (λ z. ask z (controller to)) (λ q. record { image = img; out = encode_ask q; count = 0 }) a h

  pub reply_does : (b out : List ℕ) (a : After) → Answers (reply_call img b out) a
      → (r : Replied) × (reply s (decode_ask b) ≡ accepted r) × (a ≡ leaving img (over (encode_reply r.message) out) r.count)
  unfolding reply_call
  reply_does b out a h =
      does_with (one_block b && leb reply_room (length out)) out b (laid_out_ask b) (λ z. reply z (decode_ask b))
      (λ r. record { image = img; out = over (encode_reply r.message) out; count = r.count }) a h

  pub repair_does : (b : List ℕ) (a : After) → Answers (repair_call img b) a → (x : State) × (repair s (decode_reply b) ≡ accepted x) × (a ≡ leaving (encode x) [] 0)
  unfolding repair_call
  repair_does b a h =
      does_with (whole_reply b) [] b (laid_out_reply b) (λ z. repair z (decode_reply b)) (λ x. record { image = encode x; out = []; count = 0 }) a h

  pub strip_pass_does : (a : After) → Answers (strip_pass_call img) a → a ≡ leaving (encode (strip_pass s).state) [] (strip_pass s).count
  unfolding strip_pass_call
  strip_pass_does a h =
      let p = on_state true [] (λ z. accepted (record { image = encode (strip_pass z).state; out = []; count = (strip_pass z).count })) a h in
      p.2 ∙ ap (λ (z : Left). leaving z.image z.out z.count)
      (sym (same_accepted (record { image = encode (strip_pass s).state; out = []; count = (strip_pass s).count }) p.0 p.1))

  -- ---- and where the step is accepted, and the lengths are right, so is the call

  -- a good image passes the table's rows 1 and 2
  pub passes_image : (lengths : Bool) (f : State → Answer Left) → lengths ≡ true → on_image lengths img f ≡ f s
  unfolding on_image refuse◌when◌else◌
  passes_image lengths f t =
      let whole = and_both (whole_image img) lengths (eq-eqb (length img) image_length (good_image_lem img image_good).size) t in
      ap (λ (b : Bool). refuse WrongLength when not b else (refuse ImageNotGood when not (good_image img) else f (decode img))) whole
      ∙ ap (λ (b : Bool). refuse ImageNotGood when not b else f (decode img)) image_good
      ∙ ap f decoded

  pub answers : {A : Type 0} (lengths : Bool) (out : List ℕ) (step : State → Answer A) (f : A → Left) (y : A) → lengths ≡ true → step s ≡ accepted y
      → afterwards img out (on_image lengths img (λ z. step z >>= λ x. accepted (f x))) ≡ leaving (f y).image (f y).out (f y).count
  unfolding afterwards
  answers {A} lengths out step f y t h =
      ap (afterwards img out) (passes_image lengths (λ z. step z >>= λ x. accepted (f x)) t)
      ∙ ap (λ (z : Answer A). afterwards img out (z >>= λ x. accepted (f x))) h

  pub answers_with : {A : Type 0} (lengths : Bool) (out message : List ℕ) (laid_out : Bool) (step : State → Answer A) (f : A → Left) (y : A) → lengths ≡ true
      → checks_right message ≡ true → laid_out ≡ true → step s ≡ accepted y
      → afterwards img out (on_image lengths img (λ z. with_message message laid_out (step z >>= λ x. accepted (f x)))) ≡ leaving (f y).image (f y).out (f y).count
  unfolding afterwards
  answers_with {A} lengths out message laid_out step f y t c l h =
      ap (afterwards img out) (passes_image lengths (λ z. with_message message laid_out (step z >>= λ x. accepted (f x))) t ∙ message_passes message laid_out _ c l)
      ∙ ap (λ (z : Answer A). afterwards img out (z >>= λ x. accepted (f x))) h
