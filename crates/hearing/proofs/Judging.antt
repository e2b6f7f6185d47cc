-- A reply judged row by row. Assumes nothing.
use Prim.Native.Nat.{ℕ}
use mathlib.Core.Path.{◌≡◌, ap, sym, ◌∙◌}
use mathlib.Core.Bool.{true, false}
use mathlib.Core.List.{List}
use lib.ListN.{drop}
use Rattle.numbers.specs.Words.{all?, some?}
use Rattle.numbers.specs.Numbers.{same_controller}
use Rattle.refusal.specs.declared.Refusal.TheVariants.{WrongCheck, IllFormed, OutOfRange, NotPeer, HistoryLost, DotClash}
use Rattle.refusal.specs.Refusal.{refuse◌when◌else◌, verdict_of, Verdict}
use Rattle.block.specs.Fields.{cut}
use Rattle.meaning.specs.State.{State}
use Rattle.meaning.specs.Message.{Reply, reply_formed}
use Rattle.meaning.specs.Exchange.{both_hold, other_peer, ahead_of_us, row_ahead_of_us, clashes}
use Rattle.layout.specs.Messages.{checks_right, decode_reply, laid_out_reply}
use Rattle.layout.specs.Calls.{with_message}
use Rattle.hearing.specs.Heard.{reply_in, peers_judged, reply_judged}
use Rattle.hearing.proofs.Points.{reply_lent}
use Rattle.std.specs.Prelude.{Ok, Err}

-- ---- rows 5 to 10 of a well-formed one

module _ (s : State) (r : Reply) where
  pub not_held : all? (λ p. both_hold s r.sender p.key) r.points ≡ false → Err OutOfRange ≡ verdict_of (peers_judged s r true)
  unfolding peers_judged refuse◌when◌else◌
  not_held h = sym (rw h)

  module _ (held : all? (λ p. both_hold s r.sender p.key) r.points ≡ true) where
    pub no_peer : other_peer s r.sender ≡ false → Err NotPeer ≡ verdict_of (peers_judged s r true)
    unfolding peers_judged refuse◌when◌else◌
    no_peer h = sym (rw (held, h))

    module _ (peer : other_peer s r.sender ≡ true) where
      pub not_for_us : same_controller r.addressee s.own ≡ false → Err NotPeer ≡ verdict_of (peers_judged s r true)
      unfolding peers_judged refuse◌when◌else◌
      not_for_us h = sym (rw (held, peer, h))

      module _ (ours : same_controller r.addressee s.own ≡ true) where
        pub point_ahead : some? (λ p. ahead_of_us s p.object) r.points ≡ true → Err HistoryLost ≡ verdict_of (peers_judged s r true)
        unfolding peers_judged refuse◌when◌else◌
        point_ahead h = sym (rw (held, peer, ours, h))

        module _ (kept : some? (λ p. ahead_of_us s p.object) r.points ≡ false) where
          pub row_ahead : row_ahead_of_us s r.clock ≡ true → Err HistoryLost ≡ verdict_of (peers_judged s r true)
          unfolding peers_judged refuse◌when◌else◌
          row_ahead h = sym (rw (held, peer, ours, kept, h))

          module _ (behind : row_ahead_of_us s r.clock ≡ false) where
            pub dot_clash : some? (λ p. some? (clashes s p.key) p.object.versions) r.points ≡ true → Err DotClash ≡ verdict_of (peers_judged s r true)
            unfolding peers_judged refuse◌when◌else◌
            dot_clash h = sym (rw (held, peer, ours, kept, behind, h))

            pub may_repair : some? (λ p. some? (clashes s p.key) p.object.versions) r.points ≡ false → (Ok tt) ≡ verdict_of (peers_judged s r true)
            unfolding peers_judged refuse◌when◌else◌
            may_repair h = sym (rw (held, peer, ours, kept, behind, h))

-- ---- rows 3 and 4, and then those

module _ (message : List ℕ) (s : State) where
  pub wrong_check : checks_right message ≡ false → Err WrongCheck ≡ verdict_of (reply_judged message s true)
  unfolding reply_judged with_message refuse◌when◌else◌
  wrong_check h = sym (rw h)

  module _ (checked : checks_right message ≡ true) where
    pub not_laid_out : laid_out_reply message ≡ false → Err IllFormed ≡ verdict_of (reply_judged message s true)
    unfolding reply_judged with_message refuse◌when◌else◌
    not_laid_out h = sym (rw (checked, h))

    module _ (laid : laid_out_reply message ≡ true) where
      pub not_formed : reply_formed s.table (decode_reply message) ≡ false → Err IllFormed ≡ verdict_of (reply_judged message s true)
      unfolding reply_judged with_message refuse◌when◌else◌
      not_formed h = sym (rw (checked, laid, h))

      -- by the head and the points as they are lent
      pub by_the_rest : reply_formed s.table (decode_reply message) ≡ true → (v : Verdict) → v ≡ verdict_of (peers_judged s (reply_in (cut message 0 512) (drop 512 message)) true)
          → v ≡ verdict_of (reply_judged message s true)
      unfolding reply_judged with_message refuse◌when◌else◌
      by_the_rest h v e = e ∙ ap (λ (q : Reply). verdict_of (peers_judged s q true)) (sym (reply_lent message)) ∙ sym (rw (checked, laid, h))
