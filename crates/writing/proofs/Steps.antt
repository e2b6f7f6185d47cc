-- The steps write and delete, case by case, and the new version's slot. Assumes nothing.
use Prim.Native.Nat.{ℕ, ◌≤◌, ◌<◌, ◌^◌}
use mathlib.Core.Path.{◌≡◌, refl, ap, sym, ◌∙◌}
use mathlib.Core.Bool.{true}
use mathlib.Core.List.{List, [], ◌∷◌}
use native.Mathlib.Omega.{arith}
use lib.ListN.{length}
use lib.Dec.{leb, ltb}
use borrow.Author.Tests.{leb-true, le-leb, lt-ltb, le-ltb}
use Rattle.numbers.specs.declared.Key.{Key}
use Rattle.numbers.specs.Words.{all?}
use Rattle.numbers.proofs.Tests.{and_both, and_left}
use Rattle.numbers.proofs.Lists.{in_all}
use Rattle.refusal.specs.declared.Refusal.{Refusal}
use Rattle.refusal.specs.declared.Refusal.TheVariants.{ValueTooLong}
use Rattle.refusal.specs.Refusal.{Answer, refused, accepted, refuse◌when◌else◌, verdict_of}
use Rattle.block.proofs.Numbers.{Bytes}
use Rattle.meaning.specs.Context.{Context}
use Rattle.meaning.specs.Object.{Contents, value, deleted, has_value, Version}
use Rattle.meaning.specs.State.{State}
use Rattle.meaning.specs.Message.{longest_value, contents_formed}
use Rattle.meaning.specs.Settle.{settled}
use Rattle.meaning.specs.OwnSteps.{ours, written, Done, put_down, write, delete}
use Rattle.laws.proofs.Goodness.{Good}
use Rattle.layout.specs.PointBlock.{form_1, encode_slot, decode_slot}
use Rattle.layout.specs.Image.{encode}
use Rattle.layout.specs.Messages.{encode_outgoing}
use Rattle.layout.specs.Calls.{After, afterwards}
use Rattle.layout.proofs.PointBack.{SlotSized, slot_back}
use Rattle.store.proofs.Untouched.{untouched}
use Rattle.writing.specs.Judged.{judged}
use Rattle.writing.specs.LeftBy.{left_by}
use Rattle.writing.proofs.PutDown.{put_down_judged}
use Rattle.writing.proofs.Accepted.{judged_refused}
use Rattle.writing.proofs.Down.{held_here, put_down_done}
use Rattle.std.specs.Prelude.{Ok, Err, Option, Some, None, is_some, IfSome}
use Rattle.std.specs.Borrow.{Bor}
use Rattle.numbers.specs.declared.Dot.{Dot}
use Rattle.record_edits.specs.Said.{contents_of}

-- ---- what is left

-- the image that records what was written, and its message
abbrev pub made : State → Key → Contents → Context → After
made s k b c =
    record {
      verdict = Ok tt;
      image = encode (settled s s.clock (record { key = k; object = written s k b c } ∷ []));
      out = encode_outgoing (record { sender = s.own; key = k; object = written s k b c });
      count = 0;
    }

module _ (img out : List ℕ) (a : Answer Done) where
  left_refused : (r : Refusal) → a ≡ refused r → afterwards img out (left_by a) ≡ untouched r img out
  unfolding afterwards
  left_refused r e = ap (λ (x : Answer Done). afterwards img out (left_by x)) e

  left_done : (s : State) (k : Key) (b : Contents) (c : Context) → a ≡ accepted (record { state = settled s s.clock (record { key = k; object = written s k b c } ∷ []); message = record { sender = s.own; key = k; object = written s k b c } })
      → afterwards img out (left_by a) ≡ made s k b c
  unfolding afterwards
  left_done s k b c e = ap (λ (x : Answer Done). afterwards img out (left_by x)) e

-- ---- case by case

module _ (s : State) (k : Key) (c : Context) (mine : ours s k ≡ true) where
  module _ (img out : List ℕ) where
    pub write_long : (v : List ℕ) → longest_value < length v → afterwards img out (left_by (write s k v c)) ≡ untouched ValueTooLong img out
    write_long v h = left_refused img out (write s k v c) ValueTooLong (unfold write refuse◌when◌else◌ in (rw (mine, lt-ltb longest_value (length v) h)))

  pub goes_on : (v : List ℕ) → length v ≤ longest_value → write s k v c ≡ put_down s k (value v) c
  unfolding write refuse◌when◌else◌
  goes_on v short = rw (mine, le-ltb longest_value (length v) short)

  pub deletes : delete s k c ≡ put_down s k deleted c
  unfolding delete refuse◌when◌else◌
  deletes = rw mine

  module _ (G : Good s) (b : Contents) where
    down_refused : (r : Refusal) → verdict_of (judged s k (has_value b) c true) ≡ Err r → put_down s k b c ≡ refused r
    down_refused r e = put_down_judged s G k b c (held_here s k mine) ∙ judged_refused s k (has_value b) c _ r e

    module _ (img out : List ℕ) where
      pub put_down_refused : (r : Refusal) → verdict_of (judged s k (has_value b) c true) ≡ Err r → afterwards img out (left_by (put_down s k b c)) ≡ untouched r img out
      put_down_refused r e = left_refused img out (put_down s k b c) r (down_refused r e)

      pub put_down_made : verdict_of (judged s k (has_value b) c true) ≡ Ok tt → afterwards img out (left_by (put_down s k b c)) ≡ made s k b c
      put_down_made e = left_done img out (put_down s k b c) s k b c (put_down_done s G k b c mine e)

-- ---- a value or a deletion, as it is lent

-- a value is said where one is lent
pub says_value : (o : Option (Bor (List ℕ))) → has_value (contents_of o) ≡ is_some o
says_value (Some v) = refl
says_value None = refl

-- what is well-formed fits into a slot
pub said_short : (o : Option (Bor (List ℕ))) → contents_formed (contents_of o) ≡ true → IfSome o (λ v. length v.now ≤ longest_value)
unfolding contents_formed
said_short (Some v) h = leb-true (length v.now) longest_value (and_left (leb (length v.now) longest_value) (all? (λ b. ltb b 256) v.now) h)
said_short None h = tt

pub said_sized : (d : Dot) (o : Option (Bor (List ℕ))) → d.who.0 < 256 → d.count.0 < 256 ^ 4 → contents_formed (contents_of o) ≡ true → SlotSized form_1 (record { dot = d; contents = contents_of o })
said_sized d (Some v) who count h = record { who = who; count = count; said = said_short (Some v) h }
said_sized d None who count h = record { who = who; count = count; said = omega arith }

-- ---- the slot

module _ (v : Version) (x : List ℕ) (S : SlotSized form_1 v) (e : x ≡ encode_slot form_1 v) where
  pub slot_says : decode_slot form_1 x ≡ v
  slot_says = ap (decode_slot form_1) e ∙ slot_back form_1 (omega arith) v S

  pub slot_as_is : encode_slot form_1 (decode_slot form_1 x) ≡ x
  slot_as_is = ap (encode_slot form_1) slot_says ∙ sym e

  pub slot_contents : (decode_slot form_1 x).contents ≡ v.contents
  slot_contents = ap (λ (u : Version). u.contents) slot_says

  pub slot_formed : contents_formed v.contents ≡ true → contents_formed (decode_slot form_1 x).contents ≡ true
  slot_formed h = ap contents_formed slot_contents ∙ h

  pub slot_judged : (s : State) (k : Key) (c : Context) → verdict_of (judged s k (has_value v.contents) c true) ≡ Ok tt → verdict_of (judged s k (has_value (decode_slot form_1 x).contents) c true) ≡ Ok tt
  slot_judged s k c h = ap (λ (b : Contents). verdict_of (judged s k (has_value b) c true)) slot_contents ∙ h

  pub slot_made : (s : State) (k : Key) (c : Context) (y z : List ℕ) → (y ≡ (made s k (decode_slot form_1 x).contents c).image) × (z ≡ (made s k (decode_slot form_1 x).contents c).out) → (y ≡ (made s k v.contents c).image) × (z ≡ (made s k v.contents c).out)
  slot_made s k c y z h = (h.0 ∙ ap (λ (b : Contents). (made s k b c).image) slot_contents, h.1 ∙ ap (λ (b : Contents). (made s k b c).out) slot_contents)

-- a value of bytes that fits is well-formed, and so is a deletion
pub value_formed : (v : List ℕ) → Bytes v → length v ≤ longest_value → contents_formed (value v) ≡ true
unfolding contents_formed
value_formed v small short = and_both (leb (length v) longest_value) (all? (λ b. ltb b 256) v) (le-leb (length v) longest_value short) (in_all (λ b. ltb b 256) v (λ b m. lt-ltb b 256 (small b m)))

pub deletion_formed : contents_formed deleted ≡ true
unfolding contents_formed
deletion_formed = refl
