-- Demand 3 on bytes: what `read` writes is exactly what is due, and what was seen covered is never written again. Assumes nothing.
use mathlib.Core.Path.{◌≡◌, refl, sym, ap, ◌∙◌, subst}
use mathlib.Core.Bool.{Bool, true}
use mathlib.Core.List.{List}
use Rattle.numbers.specs.declared.Controller.{Controller}
use Rattle.numbers.specs.Key.{key, is_key}
use Rattle.numbers.proofs.Tests.{◌∈◌, and_both}
use Rattle.meaning.specs.CrewTable.{CrewTable, is_table, holds}
use Rattle.meaning.specs.Object.{has_dot}
use Rattle.meaning.specs.Message.{Outgoing}
use Rattle.meaning.specs.OwnSteps.{ours}
use Rattle.meaning.specs.Write.{Write}
use Rattle.laws.proofs.Goodness.{Good, facts_good}
use Rattle.layout.specs.Image.{encode}
use Rattle.layout.specs.Messages.{decode_outgoing}
use Rattle.layout.specs.Calls.{After, read_call}
use Rattle.crew.specs.Moment.{Moment}
use Rattle.crew.specs.Run.{Reached}
use Rattle.crew.specs.Demand.{due, Exactly, ShownExactly, DueIsExact, NeverShownAgain}
use Rattle.crew.proofs.Sound.{Sound, sound, begins_sound}
use Rattle.crew.proofs.Shown.{shown_exactly, due_is_exact}
use Rattle.crew.proofs.Again.{later_on, never_shown_again}
use Rattle.crew_bytes.specs.Bytes.{ByteMoment, ReachedByte}
use Rattle.crew_bytes.specs.DemandBytes.{ShownExactlyBytes, DueIsExactBytes, NeverShownAgainBytes}
use Rattle.crew_bytes.proofs.Called.{read_does}
use Rattle.crew_bytes.proofs.Pictured.{Pictures, begins_pictured}
use Rattle.crew_bytes.proofs.Followed.{follow_all}
use Rattle.crew_bytes.proofs.Reading.{read_back, read_answers}

-- a moment of a run of bytes pictures one of a run of states
pub pictured : (t : CrewTable) → is_table t ≡ true → (B : ByteMoment) → ReachedByte t B → (M : Moment) × Reached t M × Pictures t B M
pictured t ok B r = follow_all t ok (begins_sound t ok) (begins_pictured t) r

-- what is known there of a controller that was started
pub record Started (t : CrewTable) (B : ByteMoment) (M : Moment) (n : Controller) : Type 0 where
  pub on : M.started n ≡ true
  pub good : Good (M.state n)
  pub is_image : B.image n ≡ encode (M.state n)

pub is_started : (t : CrewTable) → is_table t ≡ true → (B : ByteMoment) (M : Moment) → Reached t M → Pictures t B M → (n : Controller) → B.started n ≡ true → Started t B M n
is_started t ok B M reached P n h =
    let on = sym (ap (λ (f : Controller → Bool). f n) P.started) ∙ h in
    let S = sound t ok M reached in
    record { on = on; good = S.good n (S.crew n on); is_image = P.image n on }

pub shown_exactly_bytes : ShownExactlyBytes
unfolding ShownExactlyBytes ShownExactly
shown_exactly_bytes t ok B r n h job point good held out size =
    let p = pictured t ok B r in
    let M = p.0 in
    let s = M.state n in
    let k = key job point in
    let D = is_started t ok B M p.1 p.2 n h in
    let q = shown_exactly t ok M p.1 n D.on k (mine M (sound t ok M p.1)) in
    let e = read_answers (B.image n) s (facts_good s D.good) D.is_image job point out q.0 size q.1 in (
      q.0,
      ap (λ (a : After). a.verdict) e,
      ap (λ (a : After). a.out) e,
      ap (λ (a : After). decode_outgoing a.out) e ∙ read_back s k q.0 D.good q.1,
      q.2 ∙ sym (ap (λ (f : Controller → List Write). due k (f n)) p.2.seen),
    )
  where
    mine : (M : Moment) → Sound t M → ours (M.state n) (key job point) ≡ true
    mine M S =
        unfold ours in
        (and_both (is_key (key job point)) (holds (M.state n).table (M.state n).own job) good
        (subst (λ (x : CrewTable). holds x (M.state n).own job ≡ true) (sym (S.table n)) (subst (λ (m : Controller). holds t m job ≡ true) (sym (S.own n)) held)))

pub due_is_exact_bytes : DueIsExactBytes
unfolding DueIsExactBytes DueIsExact
due_is_exact_bytes t ok B r n k =
    let p = pictured t ok B r in
    subst (λ (f : Controller → List Write). Exactly (f n) k (due k (f n))) (sym p.2.seen) (due_is_exact t ok p.0 p.1 n k)

pub never_shown_again_bytes : NeverShownAgainBytes
unfolding NeverShownAgainBytes NeverShownAgain
never_shown_again_bytes t ok B C r l n h w u mw mu c job point out a =
    let p = pictured t ok B r in
    let M = p.0 in
    let q = follow_all t ok (sound t ok M p.1) p.2 l in
    let N = q.0 in
    let k = key job point in
    let D = is_started t ok C N (later_on t p.1 q.1) q.2 n h in
    let z = read_does (C.image n) (N.state n) (facts_good (N.state n) D.good) D.is_image job point out (read_call (C.image n) job point out) (refl, a) in
    let says = ap (λ (x : After). decode_outgoing x.out) z.2 ∙ read_back (N.state n) k z.0 D.good z.1 in
    ap (λ (o : Outgoing). has_dot o.object.versions w.dot) says
    ∙ never_shown_again t ok M N p.1 q.1 n D.on w u (subst (λ (ws : List Write). w ∈ ws) q.2.writes mw)
    (subst (λ (f : Controller → List Write). u ∈ f n) p.2.seen mu) c k z.0 z.1
