-- An ask judged row by row, and what is replied to one that was refused or accepted. Assumes nothing.
use Prim.Native.Nat.{ℕ}
use mathlib.Core.Path.{◌≡◌, refl, ap, ap₂, sym, ◌∙◌}
use mathlib.Core.Bool.{Bool, true, false, ◌&&◌, not}
use mathlib.Core.List.{List, [], ◌∷◌}
use lib.ListN.{length}
use lib.Dec.{ltb}
use Rattle.numbers.specs.declared.Controller.{Controller}
use Rattle.numbers.specs.Words.{same_list}
use Rattle.numbers.specs.Numbers.{Crew, is_controller, same_controller}
use Rattle.numbers.proofs.Lists.{clause}
use Rattle.numbers.proofs.Controllers.{crew_is}
use Rattle.refusal.specs.declared.Refusal.{Refusal}
use Rattle.refusal.specs.declared.Refusal.TheVariants.{WrongCheck, IllFormed, NotPeer, HistoryLost}
use Rattle.refusal.specs.Refusal.{Answer, refused, accepted, refuse◌when◌else◌, ◌>>=◌, verdict_of}
use Rattle.row.specs.declared.Row.{Row}
use Rattle.row.specs.Row.{highest}
use Rattle.block.specs.Fields.{cut}
use Rattle.meaning.specs.State.{State}
use Rattle.meaning.specs.CrewTable.{CrewTable}
use Rattle.meaning.specs.Clock.{Clock, row}
use Rattle.meaning.specs.Message.{Ask, ask_formed, clock_formed}
use Rattle.meaning.specs.Exchange.{Replied, other_peer, row_ahead_of_us, reply}
use Rattle.layout.specs.Clocks.{decode_clock}
use Rattle.layout.specs.Image.{image_length, decode_head, decode}
use Rattle.layout.specs.Messages.{checks_right, encode_greeting, encode_ask, decode_ask, laid_out_ask}
use Rattle.layout.specs.Calls.{with_message}
use Rattle.laws.proofs.Answers.{passes_not, then, by_refusal, by_none, accepted_with}
use Rattle.store.proofs.Lent.{table_part, clock_part, own_part}
use Rattle.replying.specs.Judged.{ask_judged}
use Rattle.replying.specs.Sent.{sent_keys, sent_points, reply_of}
use Rattle.std.specs.Prelude.{Ok, Err}

pub asker_crew : (t : CrewTable) (a : Ask) → ask_formed t a ≡ true → Crew a.sender
unfolding ask_formed
asker_crew t a e = crew_is a.sender (clause (is_controller a.sender ∷ is_controller a.addressee ∷ clock_formed t a.sender a.clock ∷ []) e 0)

-- ---- what the parts that were lent say

pub laid_is : (m : List ℕ) (r : Bool) → r ≡ same_list (encode_greeting 5 (decode_ask m).sender (decode_ask m).addressee 0 (decode_ask m).clock) m → laid_out_ask m ≡ r
unfolding laid_out_ask encode_ask
laid_is m r e = sym e

pub clock_lent : (m : List ℕ) → (decode_ask m).clock ≡ decode_clock (cut m 8 96)
unfolding decode_ask
clock_lent m = refl

module _ (img : List ℕ) (size : length img ≡ image_length) where
  pub formed_is : (m : List ℕ) (r : Bool) → r ≡ ask_formed (cut img 8 8) (decode_ask m) → ask_formed (decode img).table (decode_ask m) ≡ r
  formed_is m r e = ap (λ (t : CrewTable). ask_formed t (decode_ask m)) (sym (table_part img size)) ∙ sym e

  module _ (own : Controller) (read : own ≡ (decode_head (cut img 0 512)).own) where
    pub own_lent : own ≡ (decode img).own
    own_lent = read ∙ own_part img size

    pub ahead_lent : (rows : List ℕ) (ours theirs : Row) (t : Bool) → ours ≡ row (decode_clock (cut img 16 96)) own → theirs ≡ row (decode_clock rows) own
        → t ≡ ltb ours.base (highest theirs) → t ≡ row_ahead_of_us (decode img) (decode_clock rows)
    unfolding row_ahead_of_us
    ahead_lent rows ours theirs t p q e =
        e ∙ ap₂ (λ (x y : Row). ltb x.base (highest y)) (p ∙ ap₂ (λ (k : Clock) (n : Controller). row k n) (clock_part img size) own_lent) (q ∙ ap (row (decode_clock rows)) own_lent)

module _ (message : List ℕ) (s : State) where
  abbrev q : Ask
  q = decode_ask message

  -- ---- row by row

  pub wrong_check : checks_right message ≡ false → Err WrongCheck ≡ verdict_of (ask_judged message s true)
  unfolding ask_judged with_message refuse◌when◌else◌
  wrong_check h = sym (rw h)

  module _ (checked : checks_right message ≡ true) where
    pub not_laid_out : laid_out_ask message ≡ false → Err IllFormed ≡ verdict_of (ask_judged message s true)
    unfolding ask_judged with_message refuse◌when◌else◌
    not_laid_out h = sym (rw (checked, h))

    module _ (laid : laid_out_ask message ≡ true) where
      pub not_formed : ask_formed s.table q ≡ false → Err IllFormed ≡ verdict_of (ask_judged message s true)
      unfolding ask_judged with_message refuse◌when◌else◌
      not_formed h = sym (rw (checked, laid, h))

      module _ (formed : ask_formed s.table q ≡ true) where
        pub no_peer : other_peer s q.sender ≡ false → Err NotPeer ≡ verdict_of (ask_judged message s true)
        unfolding ask_judged with_message refuse◌when◌else◌
        no_peer h = sym (rw (checked, laid, formed, h))

        module _ (peer : other_peer s q.sender ≡ true) where
          pub not_for_us : same_controller q.addressee s.own ≡ false → Err NotPeer ≡ verdict_of (ask_judged message s true)
          unfolding ask_judged with_message refuse◌when◌else◌
          not_for_us h = sym (rw (checked, laid, formed, peer, h))

          module _ (ours : same_controller q.addressee s.own ≡ true) where
            pub history_lost : row_ahead_of_us s q.clock ≡ true → Err HistoryLost ≡ verdict_of (ask_judged message s true)
            unfolding ask_judged with_message refuse◌when◌else◌
            history_lost h = sym (rw (checked, laid, formed, peer, ours, h))

            pub may_reply : row_ahead_of_us s q.clock ≡ false → (Ok tt) ≡ verdict_of (ask_judged message s true)
            unfolding ask_judged with_message refuse◌when◌else◌
            may_reply h = sym (rw (checked, laid, formed, peer, ours, h))

  -- ---- whatever is made of the reply

  same_rows : {A B : Type 0} (c l f p h : Bool) (x : A) (g : A → Answer B)
      → (refuse WrongCheck when not c else refuse IllFormed when not l else ((refuse IllFormed when not f else refuse NotPeer when not p else refuse HistoryLost when h else accepted x) >>= g))
      ≡ then (refuse WrongCheck when not c else refuse IllFormed when not l else refuse IllFormed when not f else refuse NotPeer when not p else refuse HistoryLost when h else accepted true) (g x)
  unfolding refuse◌when◌else◌ then
  same_rows false l f p h x g = refl
  same_rows true false f p h x g = refl
  same_rows true true false p h x g = refl
  same_rows true true true false h x g = refl
  same_rows true true true true true x g = refl
  same_rows true true true true false x g = refl

  abbrev replied : Replied
  replied = record { message = reply_of s q; count = length (sent_points s q) }

  module _ {B : Type 0} (g : Replied → Answer B) where
    any_result : with_message message (laid_out_ask message) (reply s q >>= g) ≡ then (ask_judged message s true) (g replied)
    unfolding ask_judged with_message reply sent_keys
    any_result =
        same_rows (checks_right message) (laid_out_ask message) (ask_formed s.table q) (other_peer s q.sender && same_controller q.addressee s.own) (row_ahead_of_us s q.clock) replied g

    pub judged_refused : (r : Refusal) → verdict_of (ask_judged message s true) ≡ Err r → with_message message (laid_out_ask message) (reply s q >>= g) ≡ refused r
    judged_refused r e = any_result ∙ by_refusal (g replied) (ask_judged message s true) r e

    pub judged_accepted : verdict_of (ask_judged message s true) ≡ Ok tt
        → with_message message (laid_out_ask message) (reply s q >>= g) ≡ g (record { message = reply_of s (decode_ask message); count = length (sent_points s (decode_ask message)) })
    judged_accepted e = any_result ∙ by_none (g replied) (ask_judged message s true) e

  pub judged_asker : verdict_of (ask_judged message s true) ≡ Ok tt → Crew (decode_ask message).sender
  unfolding ask_judged with_message
  judged_asker e =
      let a = (accepted_with (ask_judged message s true) e).1 in
      let first = passes_not WrongCheck (checks_right message) _ a in
      let second = passes_not IllFormed (laid_out_ask message) _ first.1 in
      let third = passes_not IllFormed (ask_formed s.table q) _ second.1 in
      asker_crew s.table q third.0
