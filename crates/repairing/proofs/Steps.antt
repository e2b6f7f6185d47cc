-- A repair's answer, once its reply was heard. Assumes nothing.
use Prim.Native.Nat.{ℕ, ◌+◌, ◌-◌, ◌*◌}
use mathlib.Core.Path.{◌≡◌, ap, sym, ◌∙◌, subst}
use mathlib.Core.Bool.{true, false}
use mathlib.Core.List.{List, []}
use native.Mathlib.Omega.{arith}
use lib.ListN.{length, take, drop}
use Rattle.refusal.specs.declared.Refusal.{Refusal}
use Rattle.refusal.specs.declared.Refusal.TheVariants.{WrongCheck, IllFormed, RowTooFar}
use Rattle.refusal.specs.Refusal.{Answer, accepted, ◌>>=◌, verdict_of}
use Rattle.row.specs.Row.{fits}
use Rattle.block.specs.Fields.{cut}
use Rattle.block.proofs.Parts.{length_cut}
use Rattle.block.proofs.Numbers.{Bytes}
use Rattle.meaning.specs.Clock.{Clock, every_row}
use Rattle.meaning.specs.State.{State}
use Rattle.meaning.specs.Message.{Reply, reply_formed}
use Rattle.laws.proofs.Answers.{passes_not, accepted_with}
use Rattle.meaning.specs.Settle.{settled}
use Rattle.meaning.specs.Exchange.{tidied}
use Rattle.layout.specs.Image.{encode, decode}
use Rattle.layout.specs.Messages.{checks_right, decode_reply, laid_out_reply}
use Rattle.layout.specs.Calls.{Left, afterwards, whole_reply, with_message}
use Rattle.store.proofs.Untouched.{untouched}
use Rattle.tallying.specs.Tallied.{results_judged}
use Rattle.tallying.proofs.Judged.{far, settle_refused, settle_made}
use Rattle.taking.specs.Taken.{left_by}
use Rattle.taking.proofs.Steps.{refused_after}
use Rattle.reply_form.proofs.Points.{rest_lent, count_is, at_least, at_most}
use Rattle.reply_form.proofs.LaidOut.{few, laid_point}
use Rattle.hearing.specs.Heard.{reply_in, reply_judged}
use Rattle.hearing.proofs.Points.{reply_lent}
use Rattle.hearing.proofs.Accepted.{judged_facts, judged_refused, judged_accepted}
use Rattle.repairing.specs.Repaired.{united, outcome, clock_after, Heard, Lent, made_of, repaired}
use Rattle.std.specs.Prelude.{Ok, Err}

module _ (s : State) (q : Reply) (c : Clock) (is : c ≡ clock_after s q) (img : List ℕ) where
  pub not_made : (r : Refusal) → verdict_of (results_judged s c (outcome s q) true) ≡ Err r → afterwards img [] (left_by (made_of s q)) ≡ untouched r img []
  unfolding afterwards
  not_made r e = ap (λ (a : Answer State). afterwards img [] (left_by (a >>= λ after. accepted (tidied after q)))) (settle_refused s c (outcome s q) (united s q) (sym is) r e)

  pub made : verdict_of (results_judged s c (outcome s q) true) ≡ Ok tt
      → afterwards img [] (left_by (made_of s q)) ≡ record { verdict = Ok tt; image = encode (tidied (settled s (united s q) (outcome s q)) q); out = []; count = 0 }
  unfolding afterwards
  made e = ap (λ (a : Answer State). afterwards img [] (left_by (a >>= λ after. accepted (tidied after q)))) (settle_made s c (outcome s q) (united s q) (sym is) e)

  -- 11
  pub row_too_far : every_row fits c ≡ false → afterwards img [] (left_by (made_of s q)) ≡ untouched RowTooFar img []
  row_too_far h = not_made RowTooFar (sym (far s c (outcome s q) h))

-- ---- a whole reply that was judged

pub heard : (m : List ℕ) (s : State) → verdict_of (reply_judged m s true) ≡ Ok tt → Heard s (decode_reply m)
unfolding reply_judged with_message
heard m s e =
    let a = (accepted_with (reply_judged m s true) e).1 in
    let one = passes_not WrongCheck (checks_right m) _ a in
    let two = passes_not IllFormed (laid_out_reply m) _ one.1 in
    let three = passes_not IllFormed (reply_formed s.table (decode_reply m)) _ two.1 in
    (three.0, ap verdict_of three.1)

-- the points are lent from the first position on
pub rest_from : (reply : List ℕ) (at : ℕ) → at ≡ 0 → take (length reply - 512 * (1 + at)) (drop (512 * (1 + at)) reply) ≡ drop 512 reply
rest_from reply at e = ap (λ (i : ℕ). take (length reply - 512 * (1 + i)) (drop (512 * (1 + i)) reply)) e ∙ rest_lent reply

module _ (img reply : List ℕ) (whole : whole_reply reply ≡ true) (small : Bytes reply) where
  abbrev s : State
  s = decode img

  -- what is made of the state
  abbrev left : State → Answer Left
  left after = accepted (record { image = encode after; out = []; count = 0 })

  pub not_repaired : (r : Refusal) → verdict_of (reply_judged reply (decode img) true) ≡ Err r → afterwards img [] (repaired img reply) ≡ untouched r img []
  not_repaired r e = refused_after img (repaired img reply) r (judged_refused reply s left r e)

  module _ (ok : verdict_of (reply_judged reply (decode img) true) ≡ Ok tt) (run : List ℕ) (from : run ≡ drop 512 reply) where
    laid : laid_out_reply reply ≡ true
    laid = (judged_facts reply s ok).laid_out

    pub lent : Lent (decode img) (cut reply 0 512) run
    lent = subst (Lent s (cut reply 0 512)) (sym from) (
      length_cut reply 0 512 (omega (arith, at_least reply whole)),
      few reply whole small laid,
      (λ i l. laid_point reply whole small laid i l),
      omega (arith, count_is reply, at_most reply whole),
      subst (Heard s) (reply_lent reply) (heard reply s ok),
    )

    pub is_repaired : afterwards img [] (repaired img reply) ≡ afterwards img [] (left_by (made_of (decode img) (reply_in (cut reply 0 512) run)))
    is_repaired =
        ap (afterwards img []) (judged_accepted reply s left ok)
        ∙ ap (λ (q : Reply). afterwards img [] (left_by (made_of s q))) (reply_lent reply ∙ ap (reply_in (cut reply 0 512)) (sym from))
