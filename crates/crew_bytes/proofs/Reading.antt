-- A reading of a good state's image: it is answered, and its bytes are read back as they were meant. Assumes nothing.
use Prim.Native.Nat.{ℕ, ◌≤◌}
use mathlib.Core.Path.{◌≡◌, subst}
use mathlib.Core.Logic.{⊎_elim}
use mathlib.Core.Bool.{true}
use mathlib.Core.List.{List}
use native.Mathlib.Omega.{arith}
use native.Mathlib.Nat.{le_trans}
use lib.ListN.{length}
use borrow.Author.Tests.{eq-eqb}
use Rattle.numbers.specs.declared.Key.{Key}
use Rattle.numbers.specs.Key.{key}
use Rattle.numbers.proofs.Lists.{in_keep}
use Rattle.numbers.proofs.Orders.{keep_length, keep_ascends}
use Rattle.refusal.specs.declared.Refusal.TheVariants.{OutOfRange}
use Rattle.refusal.specs.Refusal.{accepted}
use Rattle.meaning.specs.Object.{has_value, version_before, fill}
use Rattle.meaning.specs.State.{State, local}
use Rattle.meaning.specs.Message.{Outgoing, most_versions}
use Rattle.meaning.specs.OwnSteps.{ours, shown, read}
use Rattle.meaning.specs.Good.{good_state}
use Rattle.laws.proofs.Facts.{PointFacts}
use Rattle.laws.proofs.Goodness.{Good}
use Rattle.laws.proofs.Putting.{looked_up}
use Rattle.laws.proofs.Local.{local_facts}
use Rattle.laws.proofs.Answers.{same_accepted, passes_not}
use Rattle.laws.proofs.StaysGood.{ours_is}
use Rattle.layout.specs.PointBlock.{form_1}
use Rattle.layout.specs.Image.{encode}
use Rattle.layout.specs.Messages.{encode_reading, decode_outgoing}
use Rattle.layout.specs.Calls.{one_block, read_call}
use Rattle.layout.proofs.PointBack.{PointSized}
use Rattle.layout.proofs.MessagesBack.{reading_back}
use Rattle.layout.proofs.Sizes.{point_sized}
use Rattle.crew_bytes.proofs.Called.{leaving, answers}

-- ---- read back

few_local : (s : State) (k : Key) → Good s → length (local s k).versions ≤ most_versions
unfolding local fill
few_local s k G = ⊎_elim (λ q. rw q.3 (G.points q.0 q.1).formed.few) (λ e. rw e (omega arith)) (looked_up k s.points)

shown_facts : (s : State) (k : Key) → Good s → ours s k ≡ true → PointFacts s.table k (shown (local s k))
unfolding shown
shown_facts s k G mine =
    let own = ours_is s k mine in
    let L = (local_facts s G k own.1).object in
    record {
      key_good = own.0;
      few = le_trans (keep_length version_before (λ v. has_value v.contents) (local s k).versions) (few_local s k G);
      versions = record {
        each = λ v m. L.versions.each v (in_keep (λ x. has_value x.contents) (local s k).versions m).0;
        ascend = keep_ascends version_before (λ v. has_value v.contents) (local s k).versions L.versions.ascend;
      };
      context = L.context;
    }

read_sized : (s : State) (k : Key) (o : Outgoing) → Good s → read s k ≡ accepted o → PointSized form_1 o
unfolding read
read_sized s k o G e =
    let q = passes_not OutOfRange (ours s k) _ e in
    subst (λ (x : Outgoing). PointSized form_1 x) (same_accepted (record { sender = s.own; key = k; object = shown (local s k) }) o q.1)
    (point_sized s.table (record { sender = s.own; key = k; object = shown (local s k) }) (omega (arith, G.own_crew.1)) (shown_facts s k G q.0))

-- what a reading says, its bytes say
pub read_back : (s : State) (k : Key) (o : Outgoing) → Good s → read s k ≡ accepted o → decode_outgoing (encode_reading o) ≡ o
read_back s k o G e = reading_back o (read_sized s k o G e)

-- ---- answered

module _ (img : List ℕ) (s : State) (g : good_state s ≡ true) (e : img ≡ encode s) where
  pub read_answers : (job point : ℕ) (out : List ℕ) (o : Outgoing) → length out ≡ 512 → read s (key job point) ≡ accepted o
      → read_call img job point out ≡ leaving img (encode_reading o) 0
  unfolding read_call
  read_answers job point out o size r =
      answers img s g e (one_block out) out (λ z. read z (key job point)) (λ x. record { image = img; out = encode_reading x; count = 0 }) o (eq-eqb (length out) 512 size) r
