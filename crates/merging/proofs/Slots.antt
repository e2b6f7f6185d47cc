-- A version's slot in a block that is laid out. Assumes nothing.
use Prim.Native.Nat.{ℕ, ◌+◌, ◌*◌, ◌-◌, ◌≤◌, ◌<◌}
use mathlib.Core.Path.{◌≡◌, ap, sym, ◌∙◌, subst}
use mathlib.Core.List.{List, ◌++◌, append_assoc}
use native.Mathlib.Omega.{arith}
use lib.ListN.{length, take, drop, get_or, length-append}
use Rattle.numbers.specs.Words.{concat_map}
use Rattle.block.specs.Fields.{le, cut, field, zeros, pad}
use Rattle.block.specs.Block.{Laid}
use Rattle.block.proofs.Numbers.{Bytes, le_length}
use Rattle.block.proofs.Parts.{length_cut, cut_past, cut_within, pad_length, part_is}
use Rattle.block.proofs.Arrays.{upto_at, array_part}
use Rattle.block.proofs.Content.{cut_content}
use Rattle.block.proofs.Resealed.{cut_resealed}
use Rattle.meaning.specs.Object.{Version}
use Rattle.meaning.specs.Message.{Outgoing}
use Rattle.layout.specs.PointBlock.{form_1, encode_slot, decode_slot, encode_context, encode_point, decode_point}
use Rattle.layout.proofs.PointBack.{PointSized, context_length, each_slot, slots_fit, content_length, short}
use Rattle.layout.proofs.Decoded.{point_decoded}
use Rattle.record.proofs.Reading.{version_at, versions_are}
use Rattle.record_edits.specs.Written.{lay_point, point_block}
use Rattle.record_edits.proofs.Edits.{count_is, few_versions}

-- in a block that is written
module _ (kind position : ℕ) (m : Outgoing) (S : PointSized form_1 m) where
  abbrev slots : List ℕ
  slots = concat_map (encode_slot form_1) m.object.versions

  abbrev front : List ℕ
  front = le 1 m.key.job ++ (le 1 (length m.object.versions) ++ (le 2 m.key.point.0 ++ encode_context m.object.context))

  abbrev content : List ℕ
  content = le 1 m.key.job ++ (le 1 (length m.object.versions) ++ (le 2 m.key.point.0 ++ (encode_context m.object.context ++ (pad 256 slots ++ le 1 m.sender.0))))

  front_length : length front ≡ 36
  front_length = simp (length-append, le_length, context_length m.object.context S.context.eight) (omega arith)

  regroup : content ≡ front ++ (pad 256 slots ++ le 1 m.sender.0)
  regroup = sym (simp append_assoc)

  slots_wide : length (pad 256 slots) ≡ 256
  slots_wide = pad_length 256 slots (slots_fit form_1 (omega arith) 0 0 m S)

  written_slot : (i : ℕ) (d : Version) → i < length m.object.versions → cut (encode_point form_1 kind position m) (40 + 32 * i) 32 ≡ encode_slot form_1 (get_or m.object.versions i d)
  unfolding encode_point pad
  written_slot i d l =
      cut_content kind 1 position content (short form_1 (omega arith) 0 0 m S) (40 + 32 * i) 32 (omega arith) (omega (arith, S.few, content_length form_1 (omega arith) 0 0 m S))
      ∙ ap (λ (z : List ℕ). cut z (40 + 32 * i - 4) 32) regroup
      ∙ cut_past front (pad 256 slots ++ le 1 m.sender.0) 36 (40 + 32 * i - 4) 32 front_length (omega arith)
      ∙ ap (λ (o : ℕ). cut (pad 256 slots ++ le 1 m.sender.0) o 32) there
      ∙ cut_within (pad 256 slots) (le 1 m.sender.0) (32 * i) 32 (omega (arith, S.few, slots_wide))
      ∙ array_part 32 (encode_slot form_1) m.object.versions (zeros (256 - length slots)) d i (each_slot form_1 (omega arith) 0 0 m S) l
    where
      there : 40 + 32 * i - 4 - 36 ≡ 32 * i
      there = omega arith

-- the i-th version of a block, as its slot has it
pub version_read : (b : List ℕ) (i : ℕ) → field b 5 1 ≤ 8 → i < field b 5 1 → version_at b i ≡ get_or (decode_point form_1 b).object.versions i (version_at b i)
version_read b i few l = sym (ap (λ (vs : List Version). get_or vs i (version_at b i)) (versions_are b few) ∙ upto_at (field b 5 1) (version_at b) (version_at b i) i l)

module _ (b : List ℕ) (small : Bytes b) (size : length b ≡ 512) (laid : Laid lay_point point_block b) where
  pub few_slots : field b 5 1 ≤ 8
  few_slots = omega (arith, count_is b small size laid, few_versions b small size laid)

  module _ (i : ℕ) (l : i < field b 5 1) where
    slot_laid : encode_slot form_1 (decode_slot form_1 (cut b (40 + 32 * i) 32)) ≡ cut b (40 + 32 * i) 32
    slot_laid =
        ap (encode_slot form_1) (version_read b i few_slots l)
        ∙ sym (written_slot (field b 0 1) (field b 2 2) (decode_point form_1 b) (point_decoded b small size) i (version_at b i) (omega (arith, count_is b small size laid)))
        ∙ ap (λ (z : List ℕ). cut z (40 + 32 * i) 32) (sym laid)
        ∙ cut_resealed b size (40 + 32 * i) 32 (omega (arith, few_slots))

    -- the slot as it is lent
    abbrev lent : List ℕ
    lent = take (40 + 32 * i + 32 - (40 + 32 * i)) (drop (40 + 32 * i) b)

    pub lent_size : length (take (40 + 32 * i + 32 - (40 + 32 * i)) (drop (40 + 32 * i) b)) ≡ 32
    lent_size = ap length (part_is b (40 + 32 * i) 32) ∙ length_cut b (40 + 32 * i) 32 (omega (arith, few_slots))

    pub lent_laid : encode_slot form_1 (decode_slot form_1 (take (40 + 32 * i + 32 - (40 + 32 * i)) (drop (40 + 32 * i) b))) ≡ take (40 + 32 * i + 32 - (40 + 32 * i)) (drop (40 + 32 * i) b)
    lent_laid = subst (λ (s : List ℕ). encode_slot form_1 (decode_slot form_1 s) ≡ s) (sym (part_is b (40 + 32 * i) 32)) slot_laid

    pub lent_says : decode_slot form_1 (take (40 + 32 * i + 32 - (40 + 32 * i)) (drop (40 + 32 * i) b)) ≡ version_at b i
    lent_says = ap (decode_slot form_1) (part_is b (40 + 32 * i) 32)
