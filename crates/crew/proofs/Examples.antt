-- The foreman's story and some other runs, computed. Assumes nothing.
use mathlib.Core.Path.{◌≡◌, refl, sym, ap, ◌∙◌, subst}
use mathlib.Core.Bool.{Bool, true, false, ◌&&◌}
use mathlib.Core.List.{List, [], ◌∷◌, ◌++◌}
use Rattle.numbers.specs.declared.Controller.{Controller}
use Rattle.numbers.specs.declared.Key.{Key}
use Rattle.numbers.specs.Numbers.{controller}
use Rattle.numbers.specs.declared.Dot.{Dot}
use Rattle.numbers.specs.Words.{some?, all?}
use Rattle.numbers.specs.Dot.{dot, same_dot}
use Rattle.numbers.specs.Key.{same_key}
use Rattle.numbers.proofs.Tests.{and_left, and_right, and_both, ◌∈◌}
use Rattle.numbers.proofs.Lists.{some_in, all_in}
use Rattle.numbers.proofs.Dots.{same_dots, same_keys}
use Rattle.refusal.specs.Refusal.{Answer, accepted, ◌>>=◌}
use Rattle.meaning.specs.CrewTable.{CrewTable, is_table}
use Rattle.meaning.specs.Context.{no_context, covers}
use Rattle.meaning.specs.Object.{value, Version, has_dot}
use Rattle.meaning.specs.State.{State}
use Rattle.meaning.specs.Message.{Outgoing}
use Rattle.meaning.specs.OwnSteps.{read}
use Rattle.meaning.specs.Write.{Write, covers_write}
use Rattle.meaning.proofs.Table.{everything, p7, text, up_to}
use Rattle.laws.proofs.Answers.{same_accepted}
use Rattle.crew.specs.Moment.{Moment, beginning, for, starting, seeing, made, writing, asking, replying, brings, carries, reply_brings}
use Rattle.crew.specs.Run.{Later, Reached}
use Rattle.crew.specs.Demand.{version_of, covered_in, stands, due, NeverShownAgain}
use Rattle.crew.proofs.Played.{Call, starts, writes, deletes, takes_in, asks, replies, repairs, strips, pick, call, play, played}
use Rattle.crew.proofs.Sound.{sound}
use Rattle.crew.proofs.Again.{later_keeps, later_writes, never_shown_again}

-- to unfold this is to compute with every definition
unfoldable whole : Unit {0}
unfolding everything covers_write beginning for starting seeing made writing asking replying brings carries reply_brings version_of covered_in stands due pick call play
whole = tt

-- job 0 held by 1, 2 and 3
abbrev crew : CrewTable
crew = 7 ∷ 0 ∷ 0 ∷ 0 ∷ 0 ∷ 0 ∷ 0 ∷ 0 ∷ []

abbrev office : Controller
office = controller 1

abbrev handheld : Controller
handheld = controller 2

abbrev truck : Controller
truck = controller 3

-- the versions that a reading shows
abbrev versions_read : State → Key → Answer (List Version)
versions_read s k = read s k >>= λ o. accepted o.object.versions

-- what each of the three shows of point 7, and what is due to it
abbrev all_show : Moment → Answer (List (List Version))
all_show M =
    versions_read (M.state office) p7 >>= λ a.
    versions_read (M.state handheld) p7 >>= λ b.
    versions_read (M.state truck) p7 >>= λ c.
    accepted (a ∷ b ∷ c ∷ [])

abbrev all_due : Moment → Answer (List (List Version))
all_due M = accepted (due p7 (M.seen office) ∷ due p7 (M.seen handheld) ∷ due p7 (M.seen truck) ∷ [])

abbrev after : List Call → (Moment → Answer (List (List Version))) → Answer (List (List Version))
after cs f = play crew (beginning crew) cs >>= f

abbrev base : Version
base = record { dot = dot 1 1; contents = value text }

-- the office writes the base; the handheld and the truck take it in
abbrev carried : List Call
carried =
    starts office ∷ starts handheld ∷ starts truck
    ∷ writes office p7 text no_context
    ∷ takes_in handheld 0
    ∷ takes_in truck 0
    ∷ []

-- the truck is away, and the handheld deletes the base; the office hears of it
abbrev deleted_elsewhere : List Call
deleted_elsewhere = deletes handheld p7 (up_to 1) ∷ takes_in office 0 ∷ strips office ∷ strips handheld ∷ []

-- the truck comes back: it is asked, and it asks; both repair, and copies of the base's message come late
abbrev comes_back : List Call
comes_back =
    asks handheld truck ∷ replies truck 0 ∷ takes_in handheld 1 ∷ repairs handheld 0
    ∷ asks truck handheld ∷ replies handheld 0 ∷ repairs truck 0 ∷ takes_in truck 1
    ∷ repairs handheld 1 ∷ takes_in office 0 ∷ strips truck ∷ []

everybody_shows : after carried all_show ≡ accepted ((base ∷ []) ∷ (base ∷ []) ∷ (base ∷ []) ∷ [])
unfolding whole
everybody_shows = refl

only_the_truck_shows : after (carried ++ deleted_elsewhere) all_show ≡ accepted ([] ∷ [] ∷ (base ∷ []) ∷ [])
unfolding whole
only_the_truck_shows = refl

pub nobody_shows : after (carried ++ deleted_elsewhere ++ comes_back) all_show ≡ accepted ([] ∷ [] ∷ [] ∷ [])
unfolding whole
nobody_shows = refl

-- what is due says the same, computed from what was seen
truck_is_due : after (carried ++ deleted_elsewhere) all_due ≡ accepted ([] ∷ [] ∷ (base ∷ []) ∷ [])
unfolding whole
truck_is_due = refl

nothing_is_due : after (carried ++ deleted_elsewhere ++ comes_back) all_due ≡ accepted ([] ∷ [] ∷ [] ∷ [])
unfolding whole
nothing_is_due = refl

-- ---- and so for good

-- the base is a write made, and all three have been started and have seen a write that covers it
abbrev over_with : Moment → Bool
over_with M =
    some? (λ w. same_dot w.dot base.dot && same_key w.key p7) M.writes
    && all? (λ n. M.started n && some? (λ u. same_key u.key p7 && covers u.given base.dot) (M.seen n)) (office ∷ handheld ∷ truck ∷ [])

is_over : (play crew (beginning crew) (carried ++ deleted_elsewhere ++ comes_back) >>= λ M. accepted (over_with M)) ≡ accepted true
unfolding whole
is_over = refl

is_crew : is_table crew ≡ true
unfolding whole
is_crew = refl

-- however the run goes on from there, none of the three ever shows the base again
pub for_good : (M : Moment) → play crew (beginning crew) (carried ++ deleted_elsewhere ++ comes_back) ≡ accepted M
    → (N : Moment) → Later crew M N → (n : Controller) → n ∈ office ∷ handheld ∷ truck ∷ []
    → (k : Key) (o : Outgoing) → read (N.state n) k ≡ accepted o → has_dot o.object.versions base.dot ≡ false
unfolding NeverShownAgain covers_write
for_good M e N l n m k o q =
    subst (λ (d : Dot). has_dot o.object.versions d ≡ false) (same_dots w.0.dot base.dot (and_left (same_dot w.0.dot base.dot) (same_key w.0.key p7) w.2))
    (never_shown_again crew is_crew M N reached l n ((later_keeps crew is_crew (sound crew is_crew M reached) l).started n (and_left (M.started n) heard (at n m)))
    w.0 u.0 (later_writes crew l w.0 w.1) u.1 covered k o q)
  where
    reached : Reached crew M
    reached = played crew (beginning crew) (carried ++ deleted_elsewhere ++ comes_back) M e

    over : over_with M ≡ true
    over = same_accepted (over_with M) true (ap (λ (a : Answer Moment). a >>= λ x. accepted (over_with x)) (sym e) ∙ is_over)

    written : Bool
    written = some? (λ w. same_dot w.dot base.dot && same_key w.key p7) M.writes

    heard : Bool
    heard = some? (λ u. same_key u.key p7 && covers u.given base.dot) (M.seen n)

    each_heard : Controller → Bool
    each_heard x = M.started x && some? (λ u. same_key u.key p7 && covers u.given base.dot) (M.seen x)

    at : (x : Controller) → x ∈ office ∷ handheld ∷ truck ∷ [] → each_heard x ≡ true
    at x h = all_in each_heard (office ∷ handheld ∷ truck ∷ []) (and_right written (all? each_heard (office ∷ handheld ∷ truck ∷ [])) over) h

    w : (x : Write) × (x ∈ M.writes) × ((same_dot x.dot base.dot && same_key x.key p7) ≡ true)
    w = some_in (λ x. same_dot x.dot base.dot && same_key x.key p7) M.writes (and_left written (all? each_heard (office ∷ handheld ∷ truck ∷ [])) over)

    u : (x : Write) × (x ∈ M.seen n) × ((same_key x.key p7 && covers x.given base.dot) ≡ true)
    u = some_in (λ x. same_key x.key p7 && covers x.given base.dot) (M.seen n) (and_right (M.started n) heard (at n m))

    covered : (same_key u.0.key w.0.key && covers u.0.given w.0.dot) ≡ true
    covered =
        and_both (same_key u.0.key w.0.key) (covers u.0.given w.0.dot)
        (subst (λ (z : Key). same_key u.0.key z ≡ true) (sym (same_keys w.0.key p7 (and_right (same_dot w.0.dot base.dot) (same_key w.0.key p7) w.2)))
        (and_left (same_key u.0.key p7) (covers u.0.given base.dot) u.2))
        (subst (λ (d : Dot). covers u.0.given d ≡ true) (sym (same_dots w.0.dot base.dot (and_left (same_dot w.0.dot base.dot) (same_key w.0.key p7) w.2)))
        (and_right (same_key u.0.key p7) (covers u.0.given base.dot) u.2))
