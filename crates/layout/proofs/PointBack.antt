-- A point block is read back as it was written, over the form. Assumes nothing.
use Prim.Native.Nat.{ℕ, ◌+◌, ◌*◌, ◌-◌, ◌^◌, ◌≤◌, ◌<◌}
use mathlib.Core.Path.{◌≡◌, refl, ap, ap₂, sym, ◌∙◌, subst}
use mathlib.Core.Bool.{true}
use mathlib.Core.List.{List, [], ◌++◌}
use native.Mathlib.Omega.{arith}
use native.Mathlib.Nat.{mul-suc, mul-le-mul_left}
use lib.ListN.{length, take, replicate, length-append}
use lib.Seq.{take_at}
use borrow.Author.Tests.{ne_eqb}
use Rattle.numbers.specs.declared.Counter.{Counter}
use Rattle.numbers.specs.Words.{concat_map}
use Rattle.numbers.specs.Numbers.{controller, counter}
use Rattle.numbers.specs.Dot.{dot}
use Rattle.numbers.specs.Key.{key}
use Rattle.numbers.proofs.Tests.{◌∈◌}
use Rattle.block.specs.Fields.{le, number, cut, field, pad, upto}
use Rattle.block.specs.Check.{sealed}
use Rattle.block.proofs.Parts.{cut_past, cut_within, cut_first, cut_whole, pad_length}
use Rattle.block.proofs.Numbers.{le_length, number_le}
use Rattle.block.proofs.Arrays.{upto_same, take_upto, EachOf, array_length, array_back}
use Rattle.block.proofs.Content.{make_block_length, make_block_sealed, cut_content, kind_of}
use Rattle.meaning.specs.Context.{Context}
use Rattle.meaning.specs.Object.{Contents, value, deleted, Version}
use Rattle.meaning.specs.Message.{Outgoing}
use Rattle.layout.specs.PointBlock.{Form, slot_size, said_length, said_bytes, encode_slot, decode_contents, decode_slot, encode_context, decode_context, sender_at, encode_point, decode_point}

-- ---- a field of a part that is known

pub field_is : (b : List ℕ) (o n v : ℕ) → cut b o n ≡ le n v → v < 256 ^ n → field b o n ≡ v
unfolding field
field_is b o n v e h = ap number e ∙ number_le n v h

-- ---- a version's slot

pub record SlotSized (f : Form) (v : Version) : Type 0 where
  pub who : v.dot.who.0 < 256
  pub count : v.dot.count.0 < 256 ^ 4
  pub said : length (said_bytes v.contents) ≤ f.room

-- the value has room in a block
abbrev pub Roomy : Form → Type 0
Roomy f = f.room ≤ 50

contents_back : (f : Form) (c : Contents) → Roomy f → length (said_bytes c) ≤ f.room → decode_contents (said_length c) (pad f.room (said_bytes c)) ≡ c
unfolding decode_contents pad
contents_back f (value v) roomy h = rw (ne_eqb (length v) 255 (λ e. omega arith)) (ap value (take_at v (replicate (f.room - length v) 0) (length v) refl))
contents_back f deleted roomy h = refl

module _ (f : Form) (roomy : Roomy f) (v : Version) (S : SlotSized f v) where
  abbrev value_part : List ℕ
  value_part = pad f.room (said_bytes v.contents)

  abbrev from_count : List ℕ
  from_count = le 4 v.dot.count.0 ++ value_part

  abbrev from_length : List ℕ
  from_length = le 1 (said_length v.contents) ++ (le 2 0 ++ from_count)

  length_small : said_length v.contents < 256
  length_small = go v.contents S.said
    where
      go : (c : Contents) → length (said_bytes c) ≤ f.room → said_length c < 256
      go (value x) h = omega arith
      go deleted h = omega arith

  pub slot_length : length (encode_slot f v) ≡ slot_size f
  unfolding encode_slot
  slot_length = simp (length-append, le_length, pad_length f.room (said_bytes v.contents) S.said) (omega arith)

  pub slot_back : decode_slot f (encode_slot f v) ≡ v
  unfolding decode_slot encode_slot
  slot_back = λ i. record { dot = dot (who i) (count i); contents = contents i }
    where
      past_who : (o n : ℕ) → 1 ≤ o → cut (le 1 v.dot.who.0 ++ from_length) o n ≡ cut from_length (o - 1) n
      past_who o n h = cut_past (le 1 v.dot.who.0) from_length 1 o n (le_length 1 v.dot.who.0) h

      past_zeros : (o n : ℕ) → 3 ≤ o → cut from_length o n ≡ cut from_count (o - 1 - 2) n
      past_zeros o n h =
          cut_past (le 1 (said_length v.contents)) (le 2 0 ++ from_count) 1 o n (le_length 1 (said_length v.contents)) (omega arith)
          ∙ cut_past (le 2 0) from_count 2 (o - 1) n (le_length 2 0) (omega arith)

      who : field (le 1 v.dot.who.0 ++ from_length) 0 1 ≡ v.dot.who.0
      who = field_is _ 0 1 v.dot.who.0 (cut_first (le 1 v.dot.who.0) from_length 1 (le_length 1 v.dot.who.0)) S.who

      said_at : field (le 1 v.dot.who.0 ++ from_length) 1 1 ≡ said_length v.contents
      said_at =
          field_is _ 1 1 (said_length v.contents)
          (past_who 1 1 (omega arith) ∙ cut_first (le 1 (said_length v.contents)) (le 2 0 ++ from_count) 1 (le_length 1 (said_length v.contents))) length_small

      count : field (le 1 v.dot.who.0 ++ from_length) 4 4 ≡ v.dot.count.0
      count =
          field_is _ 4 4 v.dot.count.0
          (past_who 4 4 (omega arith) ∙ past_zeros 3 4 (omega arith) ∙ cut_first (le 4 v.dot.count.0) value_part 4 (le_length 4 v.dot.count.0)) S.count

      value_at : cut (le 1 v.dot.who.0 ++ from_length) 8 f.room ≡ value_part
      value_at =
          past_who 8 f.room (omega arith) ∙ past_zeros 7 f.room (omega arith)
          ∙ cut_past (le 4 v.dot.count.0) value_part 4 4 f.room (le_length 4 v.dot.count.0) (omega arith)
          ∙ cut_whole value_part f.room (pad_length f.room (said_bytes v.contents) S.said)

      contents : decode_contents (field (le 1 v.dot.who.0 ++ from_length) 1 1) (cut (le 1 v.dot.who.0 ++ from_length) 8 f.room) ≡ v.contents
      contents = ap₂ decode_contents said_at value_at ∙ contents_back f v.contents roomy S.said

-- ---- a context

pub record ContextSized (c : Context) : Type 0 where
  pub eight : length c ≡ 8
  pub small : (e : Counter) → e ∈ c → e.0 < 256 ^ 4

pub context_length : (c : Context) → length c ≡ 8 → length (encode_context c) ≡ 32
unfolding encode_context
context_length c e = array_length 4 (λ x. le 4 x.0) c (λ x m. le_length 4 x.0) ∙ omega arith

pub context_back : (c : Context) → ContextSized c → decode_context (encode_context c) ≡ c
unfolding decode_context encode_context field
context_back c S =
    subst (λ (n : ℕ). upto n (λ i. counter (number (cut (concat_map (λ x. le 4 x.0) c) (4 * i) 4))) ≡ c) S.eight
    (subst (λ (l : List ℕ). upto (length c) (λ i. counter (number (cut l (4 * i) 4))) ≡ c) (mathlib.Core.List.append-nil (concat_map (λ x. le 4 x.0) c))
    (array_back 4 (λ x. le 4 x.0) (λ l. counter (number l)) c [] (λ x m. le_length 4 x.0) (λ x m i. record { 0 = number_le 4 x.0 (S.small x m) i })))

-- ---- a point block

pub record PointSized (f : Form) (m : Outgoing) : Type 0 where
  pub sender : m.sender.0 < 256
  pub job : m.key.job < 256
  pub point : m.key.point.0 < 256 ^ 2
  pub few : length m.object.versions ≤ 8
  pub context : ContextSized m.object.context
  pub versions : (v : Version) → v ∈ m.object.versions → SlotSized f v

module _ (f : Form) (roomy : Roomy f) (kind position : ℕ) (m : Outgoing) (S : PointSized f m) where
  abbrev slots : List ℕ
  slots = concat_map (encode_slot f) m.object.versions

  abbrev from_slots : List ℕ
  from_slots = pad (slot_size f * 8) slots ++ le 1 m.sender.0

  abbrev from_context : List ℕ
  from_context = encode_context m.object.context ++ from_slots

  abbrev from_number : List ℕ
  from_number = le 1 (length m.object.versions) ++ (le 2 m.key.point.0 ++ from_context)

  abbrev content : List ℕ
  content = le 1 m.key.job ++ from_number

  pub each_slot : EachOf (slot_size f) (encode_slot f) m.object.versions
  each_slot v h = slot_length f roomy v (S.versions v h)

  pub slots_length : length slots ≡ slot_size f * length m.object.versions
  slots_length = array_length (slot_size f) (encode_slot f) m.object.versions each_slot

  pub slots_fit : length slots ≤ slot_size f * 8
  slots_fit = subst (λ (n : ℕ). n ≤ slot_size f * 8) (sym slots_length) (mul-le-mul_left (slot_size f) S.few)

  pub content_length : length content ≡ 37 + slot_size f * 8
  content_length =
      simp (length-append, le_length, context_length m.object.context S.context.eight, pad_length (slot_size f * 8) slots slots_fit) (omega arith)

  pub short : length content ≤ 504
  short = omega (arith, content_length)

  b : List ℕ
  b = encode_point f kind position m

  pub point_block_length : length (encode_point f kind position m) ≡ 512
  unfolding encode_point
  point_block_length = make_block_length kind f.format position content short

  pub point_block_sealed : sealed (encode_point f kind position m) ≡ true
  unfolding encode_point
  point_block_sealed = make_block_sealed kind f.format position content short

  pub point_block_kind : kind < 256 → field (encode_point f kind position m) 0 1 ≡ kind
  unfolding encode_point
  point_block_kind h = kind_of kind f.format position content short h

  in_content : (o n : ℕ) → 4 ≤ o → o - 4 + n ≤ 37 + slot_size f * 8 → cut b o n ≡ cut content (o - 4) n
  unfolding b encode_point
  in_content o n h l = cut_content kind f.format position content short o n h (omega (arith, content_length))

  past_job : (o n : ℕ) → 1 ≤ o → cut content o n ≡ cut from_number (o - 1) n
  past_job o n h = cut_past (le 1 m.key.job) from_number 1 o n (le_length 1 m.key.job) h

  past_number : (o n : ℕ) → 1 ≤ o → cut from_number o n ≡ cut (le 2 m.key.point.0 ++ from_context) (o - 1) n
  past_number o n h = cut_past (le 1 (length m.object.versions)) (le 2 m.key.point.0 ++ from_context) 1 o n (le_length 1 (length m.object.versions)) h

  past_point : (o n : ℕ) → 2 ≤ o → cut (le 2 m.key.point.0 ++ from_context) o n ≡ cut from_context (o - 2) n
  past_point o n h = cut_past (le 2 m.key.point.0) from_context 2 o n (le_length 2 m.key.point.0) h

  past_context : (o n : ℕ) → 32 ≤ o → cut from_context o n ≡ cut from_slots (o - 32) n
  past_context o n h = cut_past (encode_context m.object.context) from_slots 32 o n (context_length m.object.context S.context.eight) h

  -- a part from the slots on
  from_40 : (o n : ℕ) → 40 ≤ o → o + n ≤ 41 + slot_size f * 8 → cut b o n ≡ cut from_slots (o - 40) n
  from_40 o n h l =
      in_content o n (omega arith) (omega arith)
      ∙ past_job (o - 4) n (omega arith)
      ∙ past_number (o - 4 - 1) n (omega arith)
      ∙ past_point (o - 4 - 1 - 1) n (omega arith)
      ∙ past_context (o - 4 - 1 - 1 - 2) n (omega arith)
      ∙ ap (λ (i : ℕ). cut from_slots i n) there
    where
      there : o - 4 - 1 - 1 - 2 - 32 ≡ o - 40
      there = omega arith

  job_at : field b 4 1 ≡ m.key.job
  job_at = field_is b 4 1 m.key.job (in_content 4 1 (omega arith) (omega arith) ∙ cut_first (le 1 m.key.job) from_number 1 (le_length 1 m.key.job)) S.job

  number_at : field b 5 1 ≡ length m.object.versions
  number_at =
      field_is b 5 1 (length m.object.versions)
      (in_content 5 1 (omega arith) (omega arith) ∙ past_job 1 1 (omega arith)
      ∙ cut_first (le 1 (length m.object.versions)) (le 2 m.key.point.0 ++ from_context) 1 (le_length 1 (length m.object.versions))) (omega (arith, S.few))

  point_at : field b 6 2 ≡ m.key.point.0
  point_at =
      field_is b 6 2 m.key.point.0
      (in_content 6 2 (omega arith) (omega arith) ∙ past_job 2 2 (omega arith) ∙ past_number 1 2 (omega arith)
      ∙ cut_first (le 2 m.key.point.0) from_context 2 (le_length 2 m.key.point.0)) S.point

  context_at : cut b 8 32 ≡ encode_context m.object.context
  context_at =
      in_content 8 32 (omega arith) (omega arith) ∙ past_job 4 32 (omega arith) ∙ past_number 3 32 (omega arith) ∙ past_point 2 32 (omega arith)
      ∙ cut_first (encode_context m.object.context) from_slots 32 (context_length m.object.context S.context.eight)

  sender_part : field b (sender_at f) 1 ≡ m.sender.0
  sender_part =
      field_is b (sender_at f) 1 m.sender.0
      (from_40 (sender_at f) 1 (omega arith) (omega arith)
      ∙ cut_past (pad (slot_size f * 8) slots) (le 1 m.sender.0) (slot_size f * 8) (sender_at f - 40) 1 (pad_length (slot_size f * 8) slots slots_fit) (omega arith)
      ∙ ap (λ (i : ℕ). cut (le 1 m.sender.0) i 1) there
      ∙ cut_whole (le 1 m.sender.0) 1 (le_length 1 m.sender.0)) S.sender
    where
      there : sender_at f - 40 - slot_size f * 8 ≡ 0
      there = omega arith

  -- one version's slot
  slot_at : (i : ℕ) → i < 8 → cut b (40 + slot_size f * i) (slot_size f) ≡ cut (slots ++ replicate (slot_size f * 8 - length slots) 0) (slot_size f * i) (slot_size f)
  slot_at i l =
      from_40 (40 + slot_size f * i) (slot_size f) (omega arith) (omega (arith, here))
      ∙ ap (λ (o : ℕ). cut from_slots o (slot_size f)) there
      ∙ cut_within (pad (slot_size f * 8) slots) (le 1 m.sender.0) (slot_size f * i) (slot_size f) (omega (arith, here, pad_length (slot_size f * 8) slots slots_fit))
      ∙ (unfold pad in refl)
    where
      here : slot_size f * i + slot_size f ≤ slot_size f * 8
      here = subst (λ (n : ℕ). n ≤ slot_size f * 8) (mul-suc (slot_size f) i) (mul-le-mul_left (slot_size f) l)

      there : 40 + slot_size f * i - 40 ≡ slot_size f * i
      there = omega arith

  versions_at : take (field b 5 1) (upto 8 (λ i. decode_slot f (cut b (40 + slot_size f * i) (slot_size f)))) ≡ m.object.versions
  versions_at =
      ap (λ (n : ℕ). take n (upto 8 (λ i. decode_slot f (cut b (40 + slot_size f * i) (slot_size f))))) number_at
      ∙ take_upto (length m.object.versions) 8 (λ i. decode_slot f (cut b (40 + slot_size f * i) (slot_size f))) S.few
      ∙ upto_same (length m.object.versions) (λ i. decode_slot f (cut b (40 + slot_size f * i) (slot_size f)))
      (λ i. decode_slot f (cut (slots ++ replicate (slot_size f * 8 - length slots) 0) (slot_size f * i) (slot_size f))) (λ i l. ap (decode_slot f) (slot_at i (omega (arith, S.few))))
      ∙ array_back (slot_size f) (encode_slot f) (decode_slot f) m.object.versions (replicate (slot_size f * 8 - length slots) 0) each_slot (λ v h. slot_back f roomy v (S.versions v h))

  pub point_number : field (encode_point f kind position m) 5 1 ≡ length m.object.versions
  unfolding b
  point_number = number_at

  pub point_back : decode_point f (encode_point f kind position m) ≡ m
  unfolding decode_point b
  point_back = λ i.
      record {
        sender = controller (sender_part i);
        key = key (job_at i) (point_at i);
        object = record { versions = versions_at i; context = (ap decode_context context_at ∙ context_back m.object.context S.context) i };
      }
