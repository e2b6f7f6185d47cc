-- The record of a point in the lent image, or that there is none. Assumes nothing.
use Prim.Native.Nat.{ℕ, ◌+◌, ◌*◌, ◌-◌, ◌≤◌}
use mathlib.Core.Path.{◌≡◌, refl, ap, sym, ◌∙◌, subst}
use mathlib.Core.Bool.{true, false, not}
use mathlib.Core.List.{List}
use native.Mathlib.Omega.{arith}
use mathlib.Core.Logic.{⊎_elim}
use Rattle.laws.proofs.Putting.{looked_up}
use Rattle.numbers.proofs.Lists.{none_in}
use lib.ListN.{length, take, drop, get_or, replicate}
use Rattle.numbers.specs.declared.Key.{Key}
use Rattle.numbers.specs.Words.{some?}
use Rattle.numbers.specs.Numbers.{is_controller}
use Rattle.numbers.specs.Key.{same_key, key_before}
use Rattle.numbers.proofs.Tests.{by_test, never, not-true}
use Rattle.numbers.proofs.Lists.{in_all, all_in, in_some, some_in}
use Rattle.numbers.proofs.Controllers.{is_crew}
use Rattle.numbers.proofs.Dots.{key_order, same_keys, key_itself}
use Rattle.block.specs.Fields.{cut, field}
use Rattle.block.proofs.Numbers.{Bytes, bytes_cut}
use Rattle.block.proofs.Parts.{part_is}
use Rattle.block.proofs.Arrays.{get_or_in}
use Rattle.block.proofs.Placed.{all_others}
use Rattle.meaning.specs.Context.{no_context}
use Rattle.meaning.specs.Object.{Object, no_object}
use Rattle.meaning.specs.State.{Stored, look_up}
use Rattle.layout.specs.PointBlock.{form_1, unsent, decode_context, decode_point}
use Rattle.layout.specs.Image.{image_length, decode, good_image}
use Rattle.record.specs.Crewed.{crewed}
use Rattle.record_edits.specs.Written.{Written, lay_point, point_block}
use Rattle.record_edits.proofs.Edits.{count_is, few_versions}
use Rattle.image.specs.Places.{no_point, PointIn}
use Rattle.image.proofs.Placing.{look_up_at}
use Rattle.store.proofs.Lent.{good_now, good_ascends, good_canonical}
use Rattle.store.proofs.Stripped.{says, record_size}
use Rattle.store.specs.HasRecord.{has_record}
use Rattle.std.specs.Prelude.{Ok, Err}

-- ---- whether there is a record

pub record_there : (k : Key) (ps : List Stored) (i : ℕ) → PointIn ps k (Ok i) → has_record k ps ≡ true
unfolding has_record
record_there k ps i at = in_some (λ p. same_key k p.key) ps (get_or_in ps i no_point at.0) (ap (same_key k) at.1 ∙ key_itself k)

pub record_none : (k : Key) (ps : List Stored) (i : ℕ) → PointIn ps k (Err i) → has_record k ps ≡ false
unfolding has_record
record_none k ps i new =
    by_test (some? (λ p. same_key k p.key) ps)
    (λ t. let q = some_in (λ p. same_key k p.key) ps t in
    never q.2 (not-true (same_key k q.0.key) (all_in (λ p. not (same_key k p.key)) ps (all_others (λ p. p.key) key_before key_order same_key same_keys key_itself k ps i new.1 new.2) q.1)))
    (λ t. t)

-- nothing is stored for a point without a record
pub look_up_none : (k : Key) (ps : List Stored) → has_record k ps ≡ false → look_up k ps ≡ no_object
unfolding has_record
look_up_none k ps none =
    ⊎_elim (λ q. never (subst (λ (x : Key). same_key k x ≡ true) (sym q.2) (key_itself k)) (none_in (λ p. same_key k p.key) ps none q.1)) (λ e. e) (looked_up k ps)

-- ---- its parts

pub context_of : (b : List ℕ) → (decode_point form_1 b).object.context ≡ decode_context (cut b 8 32)
unfolding decode_point
context_of b = refl

pub job_of : (b : List ℕ) → field b 4 1 ≡ (decode_point form_1 b).key.job
unfolding decode_point
job_of b = refl

-- ---- none

module _ (img : List ℕ) (k : Key) (none : has_record k (decode img).points ≡ false) where
  nothing : look_up k (decode img).points ≡ no_object
  nothing = look_up_none k (decode img).points none

  pub no_entries : (look_up k (decode img).points).context ≡ decode_context (replicate 32 0)
  no_entries = ap (λ (o : Object). o.context) nothing ∙ empty
    where
      empty : no_context ≡ decode_context (replicate 32 0)
      empty = unfold decode_context field Rattle.block.specs.Fields.number in refl

-- ---- the record that was found

module _ (img : List ℕ) (small : Bytes img) (size : length img ≡ image_length) (good : good_image img ≡ true) (k : Key) (i : ℕ) (at : PointIn (decode img).points k (Ok i)) where
  abbrev lent : List ℕ
  lent = take (512 * (3 + i) + 512 - 512 * (3 + i)) (drop (512 * (3 + i)) img)

  abbrev p : Stored
  p = get_or (decode img).points i no_point

  it_says : (point_block lent ≡ record { kind = 3; position = 3 + i; point = unsent p }) × Rattle.block.specs.Block.Laid lay_point point_block lent
  it_says = says img small size (good_canonical img good) i at.0

  pub lent_long : length (take (512 * (3 + i) + 512 - 512 * (3 + i)) (drop (512 * (3 + i)) img)) ≡ 512
  lent_long = record_size img small size (good_canonical img good) i at.0

  lent_small : Bytes lent
  lent_small = subst Bytes (sym (part_is img (512 * (3 + i)) 512)) (bytes_cut img (512 * (3 + i)) 512 small)

  pub lent_few : field (take (512 * (3 + i) + 512 - 512 * (3 + i)) (drop (512 * (3 + i)) img)) 5 1 ≤ 8
  lent_few = omega (arith, count_is lent lent_small lent_long it_says.1, few_versions lent lent_small lent_long it_says.1)

  pub lent_key : (decode_point form_1 (take (512 * (3 + i) + 512 - 512 * (3 + i)) (drop (512 * (3 + i)) img))).key ≡ k
  lent_key = ap (λ (w : Written). w.point.key) it_says.0 ∙ at.1

  lent_object : (decode_point form_1 lent).object ≡ p.object
  lent_object = ap (λ (w : Written). w.point.object) it_says.0

  pub lent_crewed : crewed (decode_point form_1 (take (512 * (3 + i) + 512 - 512 * (3 + i)) (drop (512 * (3 + i)) img))).object.versions ≡ true
  unfolding crewed
  lent_crewed =
      ap (λ (o : Object). crewed o.versions) lent_object
      ∙ in_all (λ v. is_controller v.dot.who) p.object.versions (λ v m. is_crew v.dot.who (((good_now img good).points p (get_or_in (decode img).points i no_point at.0)).formed.versions.each v m).crew)

  pub lent_stored : has_record (decode_point form_1 (take (512 * (3 + i) + 512 - 512 * (3 + i)) (drop (512 * (3 + i)) img))).key (decode img).points ≡ true
  lent_stored = ap (λ (x : Key). has_record x (decode img).points) lent_key ∙ record_there k (decode img).points i at

  -- what is stored for the point
  pub found_object : look_up k (decode img).points ≡ (decode_point form_1 (take (512 * (3 + i) + 512 - 512 * (3 + i)) (drop (512 * (3 + i)) img))).object
  found_object = look_up_at k (decode img).points i (good_ascends img good) at ∙ sym lent_object

  pub lent_looked_up : look_up (decode_point form_1 (take (512 * (3 + i) + 512 - 512 * (3 + i)) (drop (512 * (3 + i)) img))).key (decode img).points ≡ (decode_point form_1 (take (512 * (3 + i) + 512 - 512 * (3 + i)) (drop (512 * (3 + i)) img))).object
  lent_looked_up = ap (λ (x : Key). look_up x (decode img).points) lent_key ∙ found_object
