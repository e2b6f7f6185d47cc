-- A point block with a part put anew in its bytes is the block that says so. Assumes nothing.
use Prim.Native.Nat.{ℕ, ◌+◌, ◌*◌, ◌-◌, ◌^◌, ◌≤◌, ◌<◌}
use mathlib.Core.Path.{◌≡◌, refl, ap, ap₂, sym, ◌∙◌, subst}
use mathlib.Core.List.Memᴰ
use mathlib.Core.List.{List, [], ◌∷◌, ◌++◌, append_assoc}
use native.Mathlib.Omega.{arith}
use lib.ListN.{length, take, length-append, length-take, length-drop}
use Rattle.numbers.specs.declared.Controller.{Controller}
use Rattle.numbers.specs.declared.Counter.{Counter}
use Rattle.numbers.specs.Words.{concat_map}
use Rattle.numbers.specs.Numbers.{controller, Crew}
use Rattle.numbers.specs.Key.{key}
use Rattle.block.specs.Fields.{le, cut, splice, put_at, insert_at, remove_at, field, zeros, pad}
use Rattle.block.specs.Check.{seal}
use Rattle.block.specs.Block.{body, make_block, resealed, Laid}
use Rattle.block.proofs.Numbers.{Bytes, le_length, field_bound}
use Rattle.block.proofs.Parts.{splice_length, splice_past, splice_middle, pad_length}
use Rattle.block.proofs.Arrays.{upto_same, all_of_splice, only}
use Rattle.block.proofs.Content.{body_length, kind_of, position_of}
use Rattle.block.proofs.Edits.{pad_past, array_put, inside_insert, inside_remove}
use Rattle.block.proofs.Resealed.{Body, cut_resealed, field_resealed, body_of, body_put, body_move, body_resealed, sealed_body, edited}
use Rattle.meaning.specs.Context.{Context}
use Rattle.meaning.specs.Object.{Version}
use Rattle.meaning.specs.State.{Stored}
use Rattle.meaning.specs.Message.{Outgoing}
use Rattle.layout.specs.PointBlock.{form_1, encode_slot, decode_slot, encode_context, decode_context, encode_point, decode_point, unsent, encode_stored, decode_stored}
use Rattle.layout.proofs.PointBack.{SlotSized, slot_length, context_length, PointSized, slots_fit, short, point_back, point_number}
use Rattle.layout.proofs.ImageBack.{StoredSized}
use Rattle.layout.proofs.Decoded.{slot_decoded, point_decoded}
use Rattle.record_edits.specs.Written.{Written, lay_point, point_block, with_versions, put_entry, relabelled}

-- what is read of a point block does not look at its check
block_resealed : (b : List ℕ) → length b ≡ 512 → point_block b ≡ point_block (resealed b)
unfolding decode_point
block_resealed b e = λ i.
    record {
      kind = same 0 1 (omega arith) i;
      position = same 2 2 (omega arith) i;
      point = record {
        sender = controller (same 296 1 (omega arith) i);
        key = key (same 4 1 (omega arith) i) (same 6 2 (omega arith) i);
        object = record {
          versions = take (same 5 1 (omega arith) i)
              (upto_same 8 (λ k. decode_slot form_1 (cut b (40 + 32 * k) 32)) (λ k. decode_slot form_1 (cut (resealed b) (40 + 32 * k) 32)) (λ k l. ap (decode_slot form_1) (sym (cut_resealed b e (40 + 32 * k) 32 (omega arith)))) i);
          context = decode_context (sym (cut_resealed b e 8 32 (omega arith)) i);
        };
      };
    }
  where
    same : (o n : ℕ) → o + n ≤ 508 → field b o n ≡ field (resealed b) o n
    same o n h = sym (field_resealed b e o n h)

-- ---- the bytes before the check: eight, the context, the slots, and the sender with the zeros behind it

abbrev first : Written → ℕ → List ℕ
first w n = le 1 w.kind ++ (le 1 1 ++ (le 2 w.position ++ (le 1 w.point.key.job ++ (le 1 n ++ le 2 w.point.key.point.0))))

first_length : (w : Written) (n : ℕ) → length (first w n) ≡ 8
first_length w n = simp (length-append, le_length) (omega arith)

abbrev slots : Written → List ℕ
slots w = pad 256 (concat_map (encode_slot form_1) w.point.object.versions)

abbrev last : Written → List ℕ
last w = le 1 w.point.sender.0 ++ zeros 211

-- n is the number that stands for the versions' count
abbrev bytes : Written → ℕ → List ℕ
bytes w n = first w n ++ (encode_context w.point.object.context ++ (slots w ++ last w))

pub record Sized (w : Written) : Type 0 where
  pub kind : w.kind < 256
  pub position : w.position < 65536
  pub point : PointSized form_1 w.point

abbrev content : Outgoing → List ℕ
content m = le 1 m.key.job ++ (le 1 (length m.object.versions) ++ (le 2 m.key.point.0 ++ (encode_context m.object.context ++ (pad 256 (concat_map (encode_slot form_1) m.object.versions) ++ le 1 m.sender.0))))

module _ (w : Written) (S : Sized w) where
  slots_wide : length (slots w) ≡ 256
  slots_wide = pad_length 256 (concat_map (encode_slot form_1) w.point.object.versions) (slots_fit form_1 (omega arith) 0 0 w.point S.point)

  bytes_are : body w.kind 1 w.position (content w.point) ≡ bytes w (length w.point.object.versions)
  bytes_are =
      ap (λ (l : List ℕ). le 1 w.kind ++ (le 1 1 ++ (le 2 w.position ++ l)))
      (pad_past 503 1 job (number ++ (point ++ (context ++ (slots w ++ sender)))) (le_length 1 w.point.key.job)
      ∙ ap (λ (l : List ℕ). job ++ l)
      (pad_past 502 1 number (point ++ (context ++ (slots w ++ sender))) (le_length 1 (length w.point.object.versions))
      ∙ ap (λ (l : List ℕ). number ++ l)
      (pad_past 500 2 point (context ++ (slots w ++ sender)) (le_length 2 w.point.key.point.0)
      ∙ ap (λ (l : List ℕ). point ++ l)
      (pad_past 468 32 context (slots w ++ sender) (context_length w.point.object.context S.point.context.eight)
      ∙ ap (λ (l : List ℕ). context ++ l) (pad_past 212 256 (slots w) sender slots_wide ∙ ap (λ (l : List ℕ). slots w ++ l) end)))))
      ∙ sym (simp append_assoc)
    where
      job : List ℕ
      job = le 1 w.point.key.job

      number : List ℕ
      number = le 1 (length w.point.object.versions)

      point : List ℕ
      point = le 2 w.point.key.point.0

      context : List ℕ
      context = encode_context w.point.object.context

      sender : List ℕ
      sender = le 1 w.point.sender.0

      end : pad 212 (le 1 w.point.sender.0) ≡ le 1 w.point.sender.0 ++ zeros 211
      end = unfold pad in ap (λ (n : ℕ). sender ++ zeros (212 - n)) (le_length 1 w.point.sender.0)

  read_back : point_block (lay_point w) ≡ w
  read_back = λ i. record { kind = kind_is i; position = position_is i; point = point_back form_1 (omega arith) w.kind w.position w.point S.point i }
    where
      fits : length (content w.point) ≤ 504
      fits = short form_1 (omega arith) 0 0 w.point S.point

      kind_is : field (encode_point form_1 w.kind w.position w.point) 0 1 ≡ w.kind
      kind_is = unfold encode_point in kind_of w.kind 1 w.position (content w.point) fits S.kind

      position_is : field (encode_point form_1 w.kind w.position w.point) 2 2 ≡ w.position
      position_is = unfold encode_point in position_of w.kind 1 w.position (content w.point) fits S.position

  -- laid out as the bytes say
  pub becomes : (x : List ℕ) → Body x (bytes w (length w.point.object.versions)) → (point_block x ≡ w) × Laid lay_point point_block x
  becomes x B = edited lay_point point_block w x (block_resealed x B.size) read_back (body_resealed B ∙ ap seal (sym bytes_are) ∙ (unfold encode_point make_block in refl))

-- ---- an edit of laid-out bytes

module _ (b : List ℕ) (small : Bytes b) (size : length b ≡ 512) (laid : Laid lay_point point_block b) where
  abbrev w : Written
  w = point_block b

  abbrev vs : List Version
  vs = (decode_point form_1 b).object.versions

  P : PointSized form_1 (decode_point form_1 b)
  P = point_decoded b small size

  S : Sized (point_block b)
  S = record { kind = field_bound b 0 1 small (omega arith); position = field_bound b 2 2 small (omega arith); point = P }

  pub few_versions : length (decode_point form_1 b).object.versions ≤ 8
  few_versions = P.few

  pub count_is : field b 5 1 ≡ length (decode_point form_1 b).object.versions
  count_is = sym (field_resealed b size 5 1 (omega arith)) ∙ ap (λ (z : List ℕ). field z 5 1) laid ∙ point_number form_1 (omega arith) (field b 0 1) (field b 2 2) (decode_point form_1 b) P

  was : Body b (bytes (point_block b) (length (decode_point form_1 b).object.versions))
  was =
      subst (Body b) (bytes_are w S)
      (body_of b size (body w.kind 1 w.position (content w.point)) (body_length w.kind 1 w.position (content w.point) (short form_1 (omega arith) 0 0 w.point P)) (laid ∙ (unfold encode_point make_block in refl)))

  pub relabelled_is : (b1 b2 x : List ℕ) (kind position : ℕ) (sender : Controller) → kind < 256 → position < 65536 → sender.0 < 256 → b1 ≡ splice b 0 1 (le 1 kind) → b2 ≡ splice b1 2 2 (le 2 position) → x ≡ splice b2 296 1 (le 1 sender.0)
      → (point_block x ≡ relabelled (point_block b) kind position sender) × Laid lay_point point_block x
  relabelled_is b1 b2 x kind position sender hk hp hs p1 p2 p3 =
      becomes v (record { kind = hk; position = hp; point = record { sender = hs; job = P.job; point = P.point; few = P.few; context = P.context; versions = P.versions } }) x
      (subst (Body x) (third ∙ refl) (body_put 296 1 (le 1 sender.0) step_2 (omega arith) (le_length 1 sender.0) p3))
    where
      v : Written
      v = relabelled (point_block b) kind position sender

      n : ℕ
      n = length (decode_point form_1 b).object.versions

      rest : List ℕ
      rest = encode_context (decode_point form_1 b).object.context ++ (slots (point_block b) ++ last (point_block b))

      step_1 : Body b1 (splice (bytes (point_block b) n) 0 1 (le 1 kind))
      step_1 = body_put 0 1 (le 1 kind) was (omega arith) (le_length 1 kind) p1

      step_2 : Body b2 (splice (splice (bytes (point_block b) n) 0 1 (le 1 kind)) 2 2 (le 2 position))
      step_2 = body_put 2 2 (le 2 position) step_1 (omega arith) (le_length 2 position) p2

      after_position : List ℕ
      after_position = le 1 (decode_point form_1 b).key.job ++ (le 1 n ++ le 2 (decode_point form_1 b).key.point.0)

      kind_and : (k p : ℕ) → (le 1 k ++ (le 1 1 ++ (le 2 p ++ after_position))) ++ rest ≡ le 1 k ++ (le 1 1 ++ (le 2 p ++ (after_position ++ rest)))
      kind_and k p = simp append_assoc

      second : splice (splice (bytes (point_block b) n) 0 1 (le 1 kind)) 2 2 (le 2 position) ≡ (le 1 kind ++ (le 1 1 ++ (le 2 position ++ after_position))) ++ rest
      second =
          ap (λ (z : List ℕ). splice (splice z 0 1 (le 1 kind)) 2 2 (le 2 position)) (kind_and w.kind w.position)
          ∙ ap (λ (z : List ℕ). splice z 2 2 (le 2 position)) (splice_middle [] (le 1 w.kind) (le 1 1 ++ (le 2 w.position ++ (after_position ++ rest))) 0 1 (le 1 kind) refl (le_length 1 w.kind))
          ∙ splice_past (le 1 kind) (le 1 1 ++ (le 2 w.position ++ (after_position ++ rest))) 1 1 2 (le 2 position) (le_length 1 kind)
          ∙ ap (λ (z : List ℕ). le 1 kind ++ z) (splice_middle (le 1 1) (le 2 w.position) (after_position ++ rest) 1 2 (le 2 position) (le_length 1 1) (le_length 2 w.position))
          ∙ sym (kind_and kind position)

      eight : List ℕ
      eight = first v n

      third : splice (splice (splice (bytes (point_block b) n) 0 1 (le 1 kind)) 2 2 (le 2 position)) 296 1 (le 1 sender.0) ≡ bytes v n
      third =
          ap (λ (z : List ℕ). splice z 296 1 (le 1 sender.0)) second
          ∙ splice_past eight rest 8 288 1 (le 1 sender.0) (first_length v n)
          ∙ ap (λ (z : List ℕ). eight ++ z)
          (splice_past (encode_context (decode_point form_1 b).object.context) (slots w ++ last w) 32 256 1 (le 1 sender.0) (context_length (decode_point form_1 b).object.context P.context.eight)
          ∙ ap (λ (z : List ℕ). encode_context (decode_point form_1 b).object.context ++ z)
          (splice_middle (slots w) (le 1 w.point.sender.0) (zeros 211) 256 1 (le 1 sender.0) (slots_wide w S) (le_length 1 w.point.sender.0)))

  pub entry_is_put : (x : List ℕ) (n : Controller) (c : Counter) → Crew n → c.0 < 256 ^ 4 → x ≡ splice b (8 + 4 * (n.0 - 1)) 4 (le 4 c.0) → (point_block x ≡ put_entry (point_block b) n c) × Laid lay_point point_block x
  entry_is_put x n c crew fits p =
      becomes (put_entry (point_block b) n c)
      (record {
        kind = S.kind;
        position = S.position;
        point = record {
          sender = P.sender;
          job = P.job;
          point = P.point;
          few = P.few;
          context = record {
            eight = splice_length k (n.0 - 1) 1 (c ∷ []) (omega (arith, crew.0, crew.1, P.context.eight)) refl ∙ P.context.eight;
            small = all_of_splice (λ (e : Counter). e.0 < 256 ^ 4) k (n.0 - 1) 1 (c ∷ []) P.context.small (only (λ (e : Counter). e.0 < 256 ^ 4) c fits);
          };
          versions = P.versions;
        };
      })
      x (subst (Body x) done (body_put (8 + 4 * (n.0 - 1)) 4 (le 4 c.0) was (omega (arith, crew.0, crew.1)) (le_length 4 c.0) p))
    where
      k : Context
      k = (decode_point form_1 b).object.context

      m : ℕ
      m = length (decode_point form_1 b).object.versions

      one : splice (encode_context (decode_point form_1 b).object.context ++ (slots (point_block b) ++ last (point_block b))) (4 * (n.0 - 1)) 4 (le 4 c.0) ≡ encode_context (put_at (decode_point form_1 b).object.context (n.0 - 1) c) ++ (slots (point_block b) ++ last (point_block b))
      one = unfold encode_context in array_put 4 (λ (e : Counter). le 4 e.0) k (λ e h. le_length 4 e.0) c (n.0 - 1) (slots w ++ last w) (omega (arith, crew.0, crew.1, P.context.eight))

      done : splice (bytes (point_block b) (length (decode_point form_1 b).object.versions)) (8 + 4 * (n.0 - 1)) 4 (le 4 c.0) ≡ bytes (put_entry (point_block b) n c) (length (decode_point form_1 b).object.versions)
      done =
          splice_past (first w m) (encode_context k ++ (slots w ++ last w)) 8 (4 * (n.0 - 1)) 4 (le 4 c.0) (first_length w m) ∙ ap (λ (z : List ℕ). first w m ++ z) one

  -- ---- one version more or less

  abbrev front : List ℕ
  front = first w (length vs) ++ encode_context w.point.object.context

  front_length : length (first (point_block b) (length (decode_point form_1 b).object.versions) ++ encode_context (decode_point form_1 b).object.context) ≡ 40
  front_length = length-append (first w (length vs)) (encode_context w.point.object.context) ∙ omega (arith, first_length w (length vs), context_length w.point.object.context P.context.eight)

  -- the slots in the middle of the bytes
  abbrev around : List Version → List ℕ
  around us = front ++ (pad 256 (concat_map (encode_slot form_1) us) ++ last w)

  was_around : Body b (around vs)
  was_around = subst (Body b) (sym (append_assoc (first w (length vs)) (encode_context w.point.object.context) (slots w ++ last w))) was

  each_slot : (v : Version) → Rattle.numbers.proofs.Tests.◌∈◌ v (decode_point form_1 b).object.versions → length (encode_slot form_1 v) ≡ 32
  each_slot v m = slot_length form_1 (omega arith) v (P.versions v m)

  -- the count, once the slots are other ones
  counted : (us : List Version) (x : List ℕ) (m : ℕ) → PointSized form_1 (with_versions (point_block b) us).point → m ≡ length us → Body x (splice (around us) 5 1 (le 1 m)) → (point_block x ≡ with_versions (point_block b) us) × Laid lay_point point_block x
  counted us x m U e B =
      becomes (with_versions (point_block b) us) (record { kind = S.kind; position = S.position; point = U }) x (subst (Body x) done B)
    where
      five : List ℕ
      five = le 1 (field b 0 1) ++ (le 1 1 ++ (le 2 (field b 2 2) ++ le 1 (decode_point form_1 b).key.job))

      rest : List ℕ
      rest = le 2 (decode_point form_1 b).key.point.0 ++ (encode_context (decode_point form_1 b).object.context ++ (pad 256 (concat_map (encode_slot form_1) us) ++ last (point_block b)))

      split : (n : ℕ) → (first (point_block b) n ++ encode_context (decode_point form_1 b).object.context) ++ (pad 256 (concat_map (encode_slot form_1) us) ++ last (point_block b)) ≡ five ++ (le 1 n ++ rest)
      split n = simp append_assoc

      five_length : length five ≡ 5
      five_length = simp (length-append, le_length) (omega arith)

      done : splice (around us) 5 1 (le 1 m) ≡ bytes (with_versions (point_block b) us) (length us)
      done =
          ap (λ (z : List ℕ). splice z 5 1 (le 1 m)) (split (length vs))
          ∙ splice_middle five (le 1 (length vs)) rest 5 1 (le 1 m) five_length (le_length 1 (length vs))
          ∙ sym (split m)
          ∙ append_assoc (first w m) (encode_context w.point.object.context) (pad 256 (concat_map (encode_slot form_1) us) ++ last w)
          ∙ ap (bytes (with_versions (point_block b) us)) e

  module _ (i n : ℕ) (n_is : n ≡ field b 5 1) where
    n_length : n ≡ length (decode_point form_1 b).object.versions
    n_length = n_is ∙ count_is

    pub version_inserted : (slot b1 b2 x : List ℕ) → Bytes slot → length slot ≡ 32 → encode_slot form_1 (decode_slot form_1 slot) ≡ slot → i ≤ length (decode_point form_1 b).object.versions → length (decode_point form_1 b).object.versions < 8
        → b1 ≡ splice b (40 + 32 * i + 32) (8 * (4 * (n - i))) (cut b (40 + 32 * i) (8 * (4 * (n - i)))) → b2 ≡ splice b1 (40 + 32 * i) (length slot) slot → x ≡ splice b2 5 1 (le 1 (n + 1))
        → (point_block x ≡ with_versions (point_block b) (insert_at (decode_point form_1 b).object.versions i (decode_slot form_1 slot))) × Laid lay_point point_block x
    version_inserted slot b1 b2 x sb size_slot back low few p1 p2 p3 =
        counted (insert_at vs i v) x (n + 1)
        (record {
          sender = P.sender;
          job = P.job;
          point = P.point;
          few = omega (arith, sym more, n_length);
          context = P.context;
          versions = all_of_splice (SlotSized form_1) vs i 0 (v ∷ []) P.versions (only (SlotSized form_1) v (slot_decoded slot sb size_slot));
        })
        more
        (subst (Body x) (ap (λ (z : List ℕ). splice z 5 1 (le 1 (n + 1))) done) (body_put 5 1 (le 1 (n + 1)) step_2 (omega arith) (le_length 1 (n + 1)) p3))
      where
        v : Version
        v = decode_slot form_1 slot

        more : n + 1 ≡ length (insert_at (decode_point form_1 b).object.versions i v)
        more = sym (simp (length-append, length-take, length-drop) (omega (arith, n_length)))

        moved : 8 * (4 * (n - i)) ≡ 32 * (length (decode_point form_1 b).object.versions - i)
        moved = omega (arith, n_length)

        step_1 : Body b1 (splice (around vs) (40 + 32 * i + 32) (32 * (length vs - i)) (cut (around vs) (40 + 32 * i) (32 * (length vs - i))))
        step_1 = body_move (40 + 32 * i) (40 + 32 * i + 32) (32 * (length vs - i)) was_around (omega (arith, n_length)) (omega (arith, n_length)) (p1 ∙ ap (λ (m : ℕ). splice b (40 + 32 * i + 32) m (cut b (40 + 32 * i) m)) moved)

        step_2 : Body b2 (splice (splice (around vs) (40 + 32 * i + 32) (32 * (length vs - i)) (cut (around vs) (40 + 32 * i) (32 * (length vs - i)))) (40 + 32 * i) 32 (encode_slot form_1 v))
        step_2 = body_put (40 + 32 * i) 32 (encode_slot form_1 v) step_1 (omega (arith, n_length)) (ap length back ∙ size_slot) (p2 ∙ ap₂ (λ (m : ℕ) (l : List ℕ). splice b1 (40 + 32 * i) m l) size_slot (sym back))

        done : splice (splice (around vs) (40 + 32 * i + 32) (32 * (length vs - i)) (cut (around vs) (40 + 32 * i) (32 * (length vs - i)))) (40 + 32 * i) 32 (encode_slot form_1 v) ≡ around (insert_at vs i v)
        done = inside_insert 32 256 (encode_slot form_1) vs each_slot front (last w) 40 front_length (omega (arith, P.few)) v i low (ap length back ∙ size_slot) (omega arith)

    pub version_removed : (b1 b2 x : List ℕ) → i < length (decode_point form_1 b).object.versions
        → b1 ≡ splice b (40 + 32 * i) (8 * (4 * (n - i - 1))) (cut b (40 + 32 * i + 32) (8 * (4 * (n - i - 1)))) → b2 ≡ splice b1 (8 + 32 * n) (40 + 32 * n - (8 + 32 * n)) (zeros (40 + 32 * n - (8 + 32 * n))) → x ≡ splice b2 5 1 (le 1 (n - 1))
        → (point_block x ≡ with_versions (point_block b) (remove_at (decode_point form_1 b).object.versions i)) × Laid lay_point point_block x
    version_removed b1 b2 x low p1 p2 p3 =
        counted (remove_at vs i) x (n - 1)
        (record {
          sender = P.sender;
          job = P.job;
          point = P.point;
          few = omega (arith, sym fewer, n_length, P.few);
          context = P.context;
          versions = all_of_splice (SlotSized form_1) vs i 1 [] P.versions (λ y m. absurd (Memᴰ.not-nil m));
        })
        fewer
        (subst (Body x) (ap (λ (z : List ℕ). splice z 5 1 (le 1 (n - 1))) done) (body_put 5 1 (le 1 (n - 1)) step_2 (omega arith) (le_length 1 (n - 1)) p3))
      where
        fewer : n - 1 ≡ length (remove_at (decode_point form_1 b).object.versions i)
        fewer = sym (simp (length-append, length-take, length-drop) (omega (arith, n_length)))

        moved : 8 * (4 * (n - i - 1)) ≡ 32 * (length (decode_point form_1 b).object.versions - i - 1)
        moved = omega (arith, n_length)

        last_place : 8 + 32 * n ≡ 40 + 32 * (length (decode_point form_1 b).object.versions - 1)
        last_place = omega (arith, n_length)

        one : 40 + 32 * n - (8 + 32 * n) ≡ 32
        one = omega arith

        step_1 : Body b1 (splice (around vs) (40 + 32 * i) (32 * (length vs - i - 1)) (cut (around vs) (40 + 32 * i + 32) (32 * (length vs - i - 1))))
        step_1 = body_move (40 + 32 * i + 32) (40 + 32 * i) (32 * (length vs - i - 1)) was_around (omega (arith, P.few)) (omega (arith, P.few)) (p1 ∙ ap (λ (m : ℕ). splice b (40 + 32 * i) m (cut b (40 + 32 * i + 32) m)) moved)

        step_2 : Body b2 (splice (splice (around vs) (40 + 32 * i) (32 * (length vs - i - 1)) (cut (around vs) (40 + 32 * i + 32) (32 * (length vs - i - 1)))) (40 + 32 * (length vs - 1)) 32 (zeros 32))
        step_2 = body_put (40 + 32 * (length vs - 1)) 32 (zeros 32) step_1 (omega (arith, P.few)) refl (p2 ∙ ap₂ (λ (o m : ℕ). splice b1 o m (zeros m)) last_place one)

        done : splice (splice (around vs) (40 + 32 * i) (32 * (length vs - i - 1)) (cut (around vs) (40 + 32 * i + 32) (32 * (length vs - i - 1)))) (40 + 32 * (length vs - 1)) 32 (zeros 32) ≡ around (remove_at vs i)
        done = inside_remove 32 256 (encode_slot form_1) vs each_slot front (last w) 40 front_length (omega (arith, P.few)) i low

-- ---- a stored point

-- a block that is laid out, its check too, says so, and is laid out but for its check
pub says_so : (w : Written) → Sized w → (b : List ℕ) → length b ≡ 512 → b ≡ lay_point w → (point_block b ≡ w) × Laid lay_point point_block b
says_so w S b size e =
    becomes w S b
    (subst (Body b) (bytes_are w S)
    (sealed_body (body w.kind 1 w.position (content w.point)) b size (body_length w.kind 1 w.position (content w.point) (short form_1 (omega arith) 0 0 w.point S.point)) (e ∙ (unfold encode_point make_block in refl))))

pub stored_says : (position : ℕ) (p : Stored) (b : List ℕ) → position < 65536 → StoredSized p → length b ≡ 512 → b ≡ encode_stored form_1 position p
    → (point_block b ≡ record { kind = 3; position = position; point = unsent p }) × Laid lay_point point_block b
stored_says position p b h S size e = says_so (record { kind = 3; position = position; point = unsent p }) (record { kind = omega arith; position = h; point = S }) b size (e ∙ (unfold encode_stored in refl))

pub stored_laid : (position : ℕ) (p : Stored) (b : List ℕ) → position < 65536 → StoredSized p → length b ≡ 512 → b ≡ encode_stored form_1 position p → Laid lay_point point_block b
stored_laid position p b h S size e = (stored_says position p b h S size e).1

pub renumbered : (b b1 x : List ℕ) (position : ℕ) → (point_block b1 ≡ relabelled (point_block b) 3 position (controller 0)) × Laid lay_point point_block b1 → x ≡ seal (take 508 b1) → x ≡ encode_stored form_1 position (decode_stored form_1 b)
unfolding encode_stored decode_stored resealed
renumbered b b1 x position r e = e ∙ r.1 ∙ ap lay_point r.0
