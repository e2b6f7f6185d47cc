-- Another peer, and the step ask case by case. Assumes nothing.
use Prim.Native.Nat.{ℕ, ◌≤◌, ◌<◌}
use mathlib.Core.Path.{◌≡◌, ap, ap₂, sym, ◌∙◌}
use mathlib.Core.Bool.{Bool, true, false, ◌&&◌, ◌||◌, not}
use mathlib.Core.List.{List}
use native.Mathlib.Omega.{arith}
use lib.ListN.{length}
use borrow.Author.Tests.{le-leb, lt-leb, eq-eqb, ne_eqb}
use Rattle.numbers.specs.declared.Controller.{Controller}
use Rattle.numbers.specs.Numbers.{controller, is_controller, same_controller}
use Rattle.refusal.specs.declared.Refusal.{Refusal}
use Rattle.refusal.specs.declared.Refusal.TheVariants.{OutOfRange, NotPeer}
use Rattle.refusal.specs.Refusal.{Answer, refused, refuse◌when◌else◌}
use Rattle.block.specs.Fields.{cut}
use Rattle.meaning.specs.CrewTable.{CrewTable, share_job}
use Rattle.meaning.specs.Clock.{Clock}
use Rattle.meaning.specs.State.{State, peers}
use Rattle.meaning.specs.Message.{Ask}
use Rattle.meaning.specs.Exchange.{other_peer, ask}
use Rattle.layout.specs.Clocks.{decode_clock}
use Rattle.layout.specs.Image.{image_length, decode_head, decode}
use Rattle.layout.specs.Messages.{encode_greeting, encode_ask}
use Rattle.layout.specs.Calls.{afterwards}
use Rattle.store.proofs.Lent.{table_part, clock_part, own_part}
use Rattle.store.proofs.Untouched.{untouched}
use Rattle.exchange.specs.Sent.{asked}
use Rattle.std.specs.Prelude.{Ok}

-- ---- another peer, by the parts that were lent

module _ (img : List ℕ) (size : length img ≡ image_length) (own m : Controller) (read : own ≡ (decode_head (cut img 0 512)).own) where
  own_is : own ≡ (decode img).own
  own_is = read ∙ own_part img size

  pub not_ourselves : m.0 ≡ own.0 → false ≡ other_peer (decode img) m
  unfolding other_peer
  not_ourselves e = sym (ap (λ (n : Controller). not (same_controller m n) && peers (decode img) (decode img).own m) (sym own_is) ∙ rw (eq-eqb m.0 own.0 e))

  pub by_table : (m.0 ≡ own.0 → ⊥) → (r : Bool) → r ≡ (same_controller own m || share_job (cut img 8 8) own m) → r ≡ other_peer (decode img) m
  unfolding other_peer peers
  by_table h r e =
      e ∙ ap₂ (λ (t : CrewTable) (n : Controller). same_controller n m || share_job t n m) (table_part img size) own_is
      ∙ sym (ap (λ (n : Controller). not (same_controller m n) && (same_controller (decode img).own m || share_job (decode img).table (decode img).own m)) (sym own_is) ∙ rw (ne_eqb m.0 own.0 h))

-- ---- case by case

module _ (s : State) (to : ℕ) (img out : List ℕ) where
  leaves : (r : Refusal) → ask s (controller to) ≡ refused r → afterwards img out (asked img (ask s (controller to))) ≡ untouched r img out
  unfolding afterwards
  leaves r e = ap (λ (a : Answer Ask). afterwards img out (asked img a)) e

  pub below_range : to < 1 → afterwards img out (asked img (ask s (controller to))) ≡ untouched OutOfRange img out
  below_range h = leaves OutOfRange (unfold ask is_controller refuse◌when◌else◌ in (rw (lt-leb 1 to h)))

  pub above_range : 8 < to → afterwards img out (asked img (ask s (controller to))) ≡ untouched OutOfRange img out
  above_range h = leaves OutOfRange (unfold ask is_controller refuse◌when◌else◌ in (rw (le-leb 1 to (omega arith), lt-leb to 8 h)))

  module _ (low : 1 ≤ to) (high : to ≤ 8) where
    pub no_peer : other_peer s (controller to) ≡ false → afterwards img out (asked img (ask s (controller to))) ≡ untouched NotPeer img out
    no_peer h = leaves NotPeer (unfold ask is_controller refuse◌when◌else◌ in (rw (le-leb 1 to low, le-leb to 8 high, h)))

    pub asks : other_peer s (controller to) ≡ true
        → afterwards img out (asked img (ask s (controller to))) ≡ record { verdict = Ok tt; image = img; out = encode_ask (record { sender = s.own; addressee = controller to; clock = s.clock }); count = 0 }
    unfolding afterwards ask is_controller refuse◌when◌else◌
    asks h = rw (le-leb 1 to low, le-leb to 8 high, h)

-- the greeting that was written is the ask
pub ask_is : (img : List ℕ) → length img ≡ image_length → (own to : Controller) (x : List ℕ) → own ≡ (decode_head (cut img 0 512)).own → x ≡ encode_greeting 5 own to 0 (decode_clock (cut img 16 96))
    → x ≡ encode_ask (record { sender = (decode img).own; addressee = to; clock = (decode img).clock })
unfolding encode_ask
ask_is img size own to x e d = d ∙ ap₂ (λ (n : Controller) (k : Clock). encode_greeting 5 n to 0 k) (e ∙ own_part img size) (clock_part img size)
