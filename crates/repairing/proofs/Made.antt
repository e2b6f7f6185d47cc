-- A repair made in place, edit by edit, is what the definition leaves. Assumes nothing.
use Prim.Native.Nat.{ℕ}
use mathlib.Core.Path.{◌≡◌, ap, sym, ◌∙◌, subst}
use mathlib.Core.Bool.{true, false}
use mathlib.Core.List.{List}
use Rattle.numbers.specs.declared.Controller.{Controller}
use Rattle.numbers.specs.Words.{fold}
use Rattle.numbers.specs.Numbers.{Crew, same_controller}
use Rattle.refusal.specs.Refusal.{verdict_of}
use Rattle.meaning.specs.Clock.{Clock}
use Rattle.meaning.specs.State.{State}
use Rattle.meaning.specs.Message.{Reply}
use Rattle.meaning.specs.Settle.{put, settled}
use Rattle.meaning.specs.Exchange.{tidied}
use Rattle.laws.proofs.Answers.{settle_accepted}
use Rattle.laws.proofs.Goodness.{Good}
use Rattle.laws.proofs.StaysGood.{stored_good}
use Rattle.layout.specs.Image.{encode, decode}
use Rattle.image_edits.specs.Edits.{Canonical, with_points, with_list}
use Rattle.noting.specs.Noted.{noted}
use Rattle.replying.specs.Nearest.{all_crew}
use Rattle.replying.proofs.Lacking.{own_crewed, foreign_crewed}
use Rattle.joining.specs.Joined.{with_clock}
use Rattle.tidying.specs.Tidied.{said_by}
use Rattle.tidying.proofs.Tidied.{tidied_by}
use Rattle.tallying.specs.Tallied.{results_judged}
use Rattle.tallying.proofs.Judged.{settle_made}
use Rattle.repairing.specs.Repaired.{united, outcome, clock_after, Heard}
use Rattle.repairing.proofs.OfReply.{passed, own_is, foreign_are, sender_crew, sender_other}
use Rattle.std.specs.Prelude.{Ok}

module _ (s : State) (G : Good s) (q : Reply) (h : Heard s q) (c : Clock) (is : c ≡ clock_after s q) (ok : verdict_of (results_judged s c (outcome s q) true) ≡ Ok tt) where
  -- the lists, the points and the clock are all that storing changes
  stored_is : with_clock (with_points (with_list s 2 (noted s q.points)) (fold (put c) s.points (outcome s q))) c ≡ settled s (united s q) (outcome s q)
  unfolding settled
  stored_is = λ i. record {
    own = s.own;
    table = s.table;
    clock = is i;
    watermark = s.watermark;
    own_dots = sym (own_is s G q h) i;
    foreign_dots = sym (foreign_are s G q h) i;
    points = fold (put (is i)) s.points (outcome s q);
  }

  good_after : Good (settled s (united s q) (outcome s q))
  good_after =
      let P = passed s q h.1 in
      stored_good s q G h.0 P.held P.peer P.behind P.free (settle_accepted s (united s q) (outcome s q) (settle_made s c (outcome s q) (united s q) (sym is) ok)).0

  -- before the end: the rows are set
  module _ (x₃ x₄ : List ℕ) (points : decode x₃ ≡ with_points (with_list s 2 (noted s q.points)) (fold (put c) s.points (outcome s q))) (set : decode x₄ ≡ with_clock (decode x₃) c) where
    pub state_stored : decode x₄ ≡ settled s (united s q) (outcome s q)
    state_stored = set ∙ ap (λ (z : State). with_clock z c) points ∙ stored_is

    good_there : Good (decode x₄)
    good_there = subst Good (sym state_stored) good_after

    pub own_there : Crew (decode x₄).own
    own_there = good_there.own_crew

    pub other_there : (n : Controller) → n ≡ q.sender → same_controller n (decode x₄).own ≡ false
    unfolding settled
    other_there n e = ap (λ (z : State). same_controller n z.own) state_stored ∙ ap (λ (m : Controller). same_controller m s.own) e ∙ sender_other s G q h

    pub sender_there : (n : Controller) → n ≡ q.sender → Crew n
    sender_there n e = subst Crew (sym e) (sender_crew s G q h)

    pub own_dots_there : all_crew (decode x₄).own_dots ≡ true
    own_dots_there = own_crewed (decode x₄) good_there

    pub foreign_dots_there : all_crew (decode x₄).foreign_dots ≡ true
    foreign_dots_there = foreign_crewed (decode x₄) good_there

    -- and the end
    pub all_made : (x₅ : List ℕ) (n : Controller) (k : Clock) → n ≡ q.sender → k ≡ q.clock → (decode x₅ ≡ tidied (decode x₄) (said_by n k)) × Canonical x₅ → x₅ ≡ encode (tidied (settled s (united s q) (outcome s q)) q)
    all_made x₅ n k en ek e =
        sym e.1 ∙ ap encode
        (e.0 ∙ ap (λ (z : State). tidied z (said_by n k)) state_stored
        ∙ (λ i. tidied (settled s (united s q) (outcome s q)) (said_by (en i) (ek i))) ∙ sym (tidied_by (settled s (united s q) (outcome s q)) q))
