-- `record_edits::make_slot` meets its contract. Its stores, one by one (Stores), for a value and for none. Assumes nothing.
use Rattle.std.proofs.Common.{Bor}
use Prim.Native.Nat.{ℕ, ◌≤◌}
use mathlib.Core.Path.{refl, ap, sym, ◌∙◌, subst}
use mathlib.Core.List.{List}
use lib.ListN.{length}
use Rattle.std.specs.Prelude.{Option, IfSome}
use Rattle.layout.specs.PointBlock.{form_1, encode_slot}
use Rattle.record_edits.specs.Said.{contents_of}
use Rattle.record_edits.proofs.Stores.{slot_made, deleted_made}
use Rattle.record_edits.proofs.make_slot.Goals as goal

pub returns-in-Some : goal.returns-in-Some
returns-in-Some c =
    let a = c.args in let v = c.in-Some.value.now in let short = subst (λ (o : Option (Bor (List ℕ))). IfSome o (λ w. length w.now ≤ 24)) c.in-Some.is c.requires.1 in slot_made a.slot.now _ _ _ _ a.d (length v) c.requires.0 c.clear.ensures c.put_u8.ensures c.put_u32.ensures c.put_u8-in-Some.ensures _ v refl short c.copy_in.ensures
    ∙ ap (λ (o : Option (Bor (List ℕ))). encode_slot form_1 (record { dot = a.d; contents = contents_of o })) (sym c.in-Some.is)

pub returns-in-None : goal.returns-in-None
returns-in-None c =
    let a = c.args in deleted_made a.slot.now _ _ _ _ a.d 255 c.requires.0 c.clear.ensures c.put_u8.ensures c.put_u32.ensures c.put_u8-in-None.ensures refl
    ∙ ap (λ (o : Option (Bor (List ℕ))). encode_slot form_1 (record { dot = a.d; contents = contents_of o })) (sym c.in-None.is)
