-- The outgoing message as it is written: fetched, filled, what is covered dropped, the new version put in, the own entry raised, sealed. Assumes nothing.
use Rattle.std.specs.Prelude.{if◌then◌else◌}
use Prim.Native.Nat.{ℕ, ◌<◌}
use mathlib.Core.Path.{◌≡◌, ap, ap₂, sym, ◌∙◌, subst}
use mathlib.Core.Bool.{true, not}
use mathlib.Core.List.{List}
use lib.ListN.{length, take}
use Rattle.numbers.specs.declared.Dot.{Dot}
use Rattle.numbers.specs.declared.Key.{Key}
use Rattle.numbers.specs.Words.{keep, ascends?, place}
use Rattle.numbers.specs.Numbers.{counter, is_controller, same_controller, each}
use Rattle.numbers.proofs.Lists.{in_all}
use Rattle.numbers.proofs.Controllers.{is_crew}
use Rattle.numbers.proofs.Orders.{keep_ascends}
use Rattle.block.specs.Fields.{cut}
use Rattle.block.specs.Check.{seal}
use Rattle.block.specs.Block.{resealed, Laid}
use Rattle.meaning.specs.CrewTable.{CrewTable, holds}
use Rattle.meaning.specs.Clock.{Clock}
use Rattle.meaning.specs.Context.{Context, entry, covers}
use Rattle.meaning.specs.Object.{Contents, Version, version_before, Object, fill}
use Rattle.meaning.specs.State.{State, look_up, local}
use Rattle.meaning.specs.OwnSteps.{next_dot, written}
use Rattle.laws.proofs.Goodness.{Good}
use Rattle.laws.proofs.Local.{LocalFacts, local_facts}
use Rattle.layout.specs.Clocks.{decode_clock}
use Rattle.layout.specs.PointBlock.{form_1, decode_point}
use Rattle.layout.specs.Image.{image_length, decode}
use Rattle.layout.specs.Messages.{encode_outgoing}
use Rattle.record.specs.Crewed.{crewed}
use Rattle.record_edits.specs.Written.{Written, lay_point, point_block, with_object, with_versions, put_entry}
use Rattle.store.proofs.Lent.{table_part, clock_part}
use Rattle.writing.specs.Judged.{staying}
use Rattle.store.proofs.OneEntry.{put_as_each}

module _ (s : State) (G : Good s) (k : Key) (held : holds s.table s.own k.job ≡ true) (c : Context) where
  -- a message about k from us that says o
  abbrev says : Object → Written
  says o = record { kind = 4; position = 0; point = record { sender = s.own; key = k; object = o } }

  abbrev kept : List Version
  kept = keep (λ v. not (covers c v.dot)) (local s k).versions

  L : LocalFacts s k (local s k)
  L = local_facts s G k held

  module _ (b1 b2 : List ℕ) (p1 : point_block b1 ≡ says (look_up k s.points))
      (p2 : point_block b2 ≡ with_object (point_block b1) (fill s.table (decode_point form_1 b1).key.job s.clock (decode_point form_1 b1).object)) where
    filled : point_block b2 ≡ says (local s k)
    unfolding local
    filled = p2 ∙ ap (λ (w : Written). with_object w (fill s.table w.point.key.job s.clock w.point.object)) p1

    pub filled_crewed : crewed (decode_point form_1 b2).object.versions ≡ true
    unfolding crewed
    filled_crewed = ap (λ (w : Written). crewed w.point.object.versions) filled ∙ in_all (λ v. is_controller v.dot.who) (local s k).versions (λ v m. is_crew v.dot.who (L.object.versions.each v m).crew)

    module _ (b3 : List ℕ) (p3 : point_block b3 ≡ with_versions (point_block b2) (keep (λ v. not (covers c v.dot)) (decode_point form_1 b2).object.versions)) where
      dropped : point_block b3 ≡ says (record { versions = kept; context = (local s k).context })
      dropped = p3 ∙ ap (λ (w : Written). with_versions w (keep (λ v. not (covers c v.dot)) w.point.object.versions)) filled

      pub dropped_ascends : ascends? version_before (decode_point form_1 b3).object.versions ≡ true
      dropped_ascends =
          ap (λ (w : Written). ascends? version_before w.point.object.versions) dropped ∙ keep_ascends version_before (λ v. not (covers c v.dot)) (local s k).versions L.object.versions.ascend

      pub dropped_few : length (staying s k c) < 8 → length (decode_point form_1 b3).object.versions < 8
      unfolding local fill
      dropped_few h = subst (λ (w : Written). length w.point.object.versions < 8) (sym dropped) h

      module _ (v : Version) (b : Contents) (new : v ≡ record { dot = next_dot s; contents = b }) (b4 : List ℕ)
          (p4 : point_block b4 ≡ with_versions (point_block b3) (place version_before v (decode_point form_1 b3).object.versions)) where
        abbrev fresh : Version
        fresh = record { dot = next_dot s; contents = b }

        added : point_block b4 ≡ says (record { versions = place version_before fresh kept; context = (local s k).context })
        added = p4 ∙ ap₂ (λ (w : Written) (u : Version). with_versions w (place version_before u w.point.object.versions)) dropped new

        pub message_is : (b5 x : List ℕ) → (point_block b5 ≡ put_entry (point_block b4) s.own (next_dot s).count) × Laid lay_point point_block b5 → x ≡ seal (take 508 b5)
            → x ≡ encode_outgoing (record { sender = s.own; key = k; object = written s k b c })
        unfolding encode_outgoing written resealed
        message_is b5 x p5 e = e ∙ p5.1 ∙ ap lay_point (p5.0 ∙ ap (λ (w : Written). put_entry w s.own (next_dot s).count) added ∙ raised)
          where
            raised : put_entry (says (record { versions = place version_before fresh kept; context = (local s k).context })) s.own (next_dot s).count
                ≡ says (record { versions = place version_before fresh kept; context = each (λ n. if same_controller n s.own then (next_dot s).count else entry (local s k).context n) })
            raised = ap (λ (x : Context). says (record { versions = place version_before fresh kept; context = x })) (put_as_each (local s k).context L.object.context.eight s.own G.own_crew (next_dot s).count (counter 0))

-- what is said with the new dot's own parts
module _ (s : State) (d : Dot) (next : d ≡ next_dot s) where
  pub fetched_own : (k : Key) (b1 : List ℕ) → point_block b1 ≡ record { kind = 4; position = 0; point = record { sender = d.who; key = k; object = look_up k s.points } }
      → point_block b1 ≡ record { kind = 4; position = 0; point = record { sender = s.own; key = k; object = look_up k s.points } }
  unfolding next_dot
  fetched_own k b1 p = p ∙ ap (λ (x : Dot). record { kind = 4; position = 0; point = record { sender = x.who; key = k; object = look_up k s.points } }) next

  pub raised_own : (b4 b5 : List ℕ) → (point_block b5 ≡ put_entry (point_block b4) d.who d.count) × Laid lay_point point_block b5 → (point_block b5 ≡ put_entry (point_block b4) s.own (next_dot s).count) × Laid lay_point point_block b5
  unfolding next_dot
  raised_own b4 b5 p = (p.0 ∙ ap (λ (x : Dot). put_entry (point_block b4) x.who x.count) next, p.1)

  pub version_own : (v : Version) → v.dot ≡ d → v ≡ record { dot = next_dot s; contents = v.contents }
  version_own v e i = record { dot = (e ∙ next) i; contents = v.contents }

-- with the parts that were lent
module _ (img : List ℕ) (size : length img ≡ image_length) where
  pub filled_lent : (b1 b2 : List ℕ) → point_block b2 ≡ with_object (point_block b1) (fill (cut img 8 8) (decode_point form_1 b1).key.job (decode_clock (cut img 16 96)) (decode_point form_1 b1).object)
      → point_block b2 ≡ with_object (point_block b1) (fill (decode img).table (decode_point form_1 b1).key.job (decode img).clock (decode_point form_1 b1).object)
  filled_lent b1 b2 p = p ∙ ap₂ (λ (t : CrewTable) (k : Clock). with_object (point_block b1) (fill t (decode_point form_1 b1).key.job k (decode_point form_1 b1).object)) (table_part img size) (clock_part img size)
