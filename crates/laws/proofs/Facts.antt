-- The tests of the definitions as facts: what a well-formed point, context and clock is made of. Assumes nothing.
use Prim.Native.Nat.{ℕ, zero, suc, ◌≤◌}
use mathlib.Core.Path.{◌≡◌, refl, ap, subst}
use mathlib.Core.Logic.{◌⊎◌, ⊎_elim}
use mathlib.Core.Bool.{Bool, true, ◌&&◌, ◌||◌, not}
use mathlib.Core.List.{List, [], ◌∷◌}
use native.Mathlib.Omega.{arith}
use lib.ListN.{length}
use lib.Dec.{leb, eqb}
use borrow.Author.Tests.{leb-true, le-leb, eqb-true, eq-eqb, not-true}
use Rattle.numbers.specs.declared.Controller.{Controller}
use Rattle.numbers.specs.declared.Dot.{Dot}
use Rattle.numbers.specs.declared.Key.{Key}
use Rattle.numbers.specs.Words.{all?, some?, ascends?, map}
use Rattle.numbers.specs.Numbers.{last_counter, is_controller, is_counter, is_point, is_job, same_controller, controllers}
use Rattle.numbers.specs.Dot.{same_dot}
use Rattle.numbers.specs.Key.{is_key, same_key}
use Rattle.numbers.proofs.Tests.{by_test, never, and_left, and_right, and_both, or_cases, or_inl, or_inr, ◌∈◌, here, there}
use Rattle.numbers.proofs.Lists.{in_some, all_in, in_all, in_map, map_in, in_concat_map, concat_map_in, clause, passed, ◌and_also◌, all_passed}
use Rattle.numbers.proofs.Controllers.{Crew, crew_is, is_crew, crew_in, in_crew}
use Rattle.numbers.proofs.Orders.{Ascends}
use Rattle.numbers.proofs.Dots.{same_dots, dot_itself, same_keys, key_itself}
use Rattle.row.specs.declared.Row.{Row}
use Rattle.row.specs.Row.{none_seen}
use Rattle.meaning.specs.CrewTable.{CrewTable, jobs, holds, share_job}
use Rattle.meaning.specs.Clock.{Clock, row, every_row}
use Rattle.meaning.specs.Context.{Context, entry, covers}
use Rattle.meaning.specs.Object.{Version, version_before, Object}
use Rattle.meaning.specs.State.{Stored, Listed, State, peers, dots_of}
use Rattle.meaning.specs.Message.{contents_formed, version_formed, versions_formed, context_formed, most_versions, point_formed, covers_all, is_none, dots_agree}
use Rattle.laws.proofs.ContextLaws.{Named}

-- what holds of every controller passes of the controllers, and the other way round
pub each_controller : (f : Controller → Bool) → all? f controllers ≡ true → (n : Controller) → Crew n → f n ≡ true
each_controller f t n c = all_in f controllers t (crew_in n c)

pub every_controller : (f : Controller → Bool) → ((n : Controller) → Crew n → f n ≡ true) → all? f controllers ≡ true
every_controller f h = in_all f controllers (λ n m. h n (in_crew n m))

-- ---- jobs and peers

job_in : (j : ℕ) → j ≤ 7 → j ∈ jobs
job_in zero h = here refl
job_in (suc zero) h = there (here refl)
job_in (suc (suc zero)) h = there (there (here refl))
job_in (suc (suc (suc zero))) h = there (there (there (here refl)))
job_in (suc (suc (suc (suc zero)))) h = there (there (there (there (here refl))))
job_in (suc (suc (suc (suc (suc zero))))) h = there (there (there (there (there (here refl)))))
job_in (suc (suc (suc (suc (suc (suc zero)))))) h = there (there (there (there (there (there (here refl))))))
job_in (suc (suc (suc (suc (suc (suc (suc zero))))))) h = there (there (there (there (there (there (there (here refl)))))))
job_in (suc (suc (suc (suc (suc (suc (suc (suc j)))))))) h = absurd (omega arith)

-- two holders of a point's job are peers
pub holders_peers : (s : State) (n m : Controller) (k : Key) → is_key k ≡ true → holds s.table n k.job ≡ true → holds s.table m k.job ≡ true → peers s n m ≡ true
unfolding peers share_job is_key is_job
holders_peers s n m k g p q =
    or_inr (same_controller n m) (some? (λ i. holds s.table n i && holds s.table m i) jobs)
    (in_some (λ i. holds s.table n i && holds s.table m i) jobs (job_in k.job (leb-true k.job 7 (and_left (leb k.job 7) (is_point k.point) g)))
    (and_both (holds s.table n k.job) (holds s.table m k.job) p q))

-- ---- versions

pub record VersionFacts (t : CrewTable) (j : ℕ) (v : Version) : Type 0 where
  pub crew : Crew v.dot.who
  pub holder : holds t v.dot.who j ≡ true
  pub counter : is_counter v.dot.count ≡ true
  pub contents : contents_formed v.contents ≡ true

pub version_facts : (t : CrewTable) (j : ℕ) (v : Version) → version_formed t j v ≡ true → VersionFacts t j v
unfolding version_formed
version_facts t j v e =
    let bs = is_controller v.dot.who ∷ holds t v.dot.who j ∷ is_counter v.dot.count ∷ contents_formed v.contents ∷ [] in
    record { crew = crew_is v.dot.who (clause bs e 0); holder = clause bs e 1; counter = clause bs e 2; contents = clause bs e 3 }

pub version_of_facts : (t : CrewTable) (j : ℕ) (v : Version) → VersionFacts t j v → version_formed t j v ≡ true
unfolding version_formed
version_of_facts t j v F = all_passed (is_crew v.dot.who F.crew and_also F.holder and_also F.counter and_also F.contents and_also passed)

pub record VersionsFacts (t : CrewTable) (j : ℕ) (vs : List Version) : Type 0 where
  pub each : (v : Version) → v ∈ vs → VersionFacts t j v
  pub ascend : Ascends version_before vs

pub versions_facts : (t : CrewTable) (j : ℕ) (vs : List Version) → versions_formed t j vs ≡ true → VersionsFacts t j vs
unfolding versions_formed
versions_facts t j vs e = record {
  each = λ v m. version_facts t j v (all_in (version_formed t j) vs (and_left (all? (version_formed t j) vs) (ascends? version_before vs) e) m);
  ascend = and_right (all? (version_formed t j) vs) (ascends? version_before vs) e;
}

pub versions_of_facts : (t : CrewTable) (j : ℕ) (vs : List Version) → VersionsFacts t j vs → versions_formed t j vs ≡ true
unfolding versions_formed
versions_of_facts t j vs F =
    and_both (all? (version_formed t j) vs) (ascends? version_before vs) (in_all (version_formed t j) vs (λ v m. version_of_facts t j v (F.each v m))) F.ascend

-- ---- contexts

pub record ContextFacts (t : CrewTable) (j : ℕ) (c : Context) : Type 0 where
  pub eight : length c ≡ 8
  pub in_range : (n : Controller) → Crew n → (entry c n).0 ≤ last_counter
  pub named : Named t j c

pub context_facts : (t : CrewTable) (j : ℕ) (c : Context) → context_formed t j c ≡ true → ContextFacts t j c
unfolding context_formed
context_facts t j c e = record {
  eight = eqb-true (length c) 8 (and_left (eqb (length c) 8) (all? test controllers) e);
  in_range = λ n r. leb-true (entry c n).0 last_counter (and_left (leb (entry c n).0 last_counter) (holds t n j || eqb (entry c n).0 0) (at n r));
  named = λ n r h.
      ⊎_elim (λ x. never x h) (λ x. eqb-true (entry c n).0 0 x)
      (or_cases (holds t n j) (eqb (entry c n).0 0) (and_right (leb (entry c n).0 last_counter) (holds t n j || eqb (entry c n).0 0) (at n r)));
}
  where
    test : Controller → Bool
    test n = leb (entry c n).0 last_counter && (holds t n j || eqb (entry c n).0 0)

    at : (n : Controller) → Crew n → test n ≡ true
    at = each_controller test (and_right (eqb (length c) 8) (all? test controllers) e)

pub context_of_facts : (t : CrewTable) (j : ℕ) (c : Context) → ContextFacts t j c → context_formed t j c ≡ true
unfolding context_formed
context_of_facts t j c F =
    and_both (eqb (length c) 8) (all? test controllers) (eq-eqb (length c) 8 F.eight)
    (every_controller test
    (λ n r. and_both (leb (entry c n).0 last_counter) (holds t n j || eqb (entry c n).0 0) (le-leb (entry c n).0 last_counter (F.in_range n r))
    (by_test (holds t n j) (λ h. or_inl (holds t n j) (eqb (entry c n).0 0) h)
    (λ h. or_inr (holds t n j) (eqb (entry c n).0 0) (eq-eqb (entry c n).0 0 (F.named n r h))))))
  where
    test : Controller → Bool
    test n = leb (entry c n).0 last_counter && (holds t n j || eqb (entry c n).0 0)

-- ---- points

pub record PointFacts (t : CrewTable) (k : Key) (o : Object) : Type 0 where
  pub key_good : is_key k ≡ true
  pub few : length o.versions ≤ most_versions
  pub versions : VersionsFacts t k.job o.versions
  pub context : ContextFacts t k.job o.context

pub point_facts : (t : CrewTable) (k : Key) (o : Object) → point_formed t k o ≡ true → PointFacts t k o
unfolding point_formed
point_facts t k o e =
    let bs = is_key k ∷ leb (length o.versions) most_versions ∷ versions_formed t k.job o.versions ∷ context_formed t k.job o.context ∷ [] in
    record {
      key_good = clause bs e 0;
      few = leb-true (length o.versions) most_versions (clause bs e 1);
      versions = versions_facts t k.job o.versions (clause bs e 2);
      context = context_facts t k.job o.context (clause bs e 3);
    }

pub point_of_facts : (t : CrewTable) (k : Key) (o : Object) → PointFacts t k o → point_formed t k o ≡ true
unfolding point_formed
point_of_facts t k o F =
    all_passed
    (F.key_good and_also le-leb (length o.versions) most_versions F.few
    and_also versions_of_facts t k.job o.versions F.versions and_also context_of_facts t k.job o.context F.context and_also passed)

pub covers_each : (c : Context) (vs : List Version) → covers_all c vs ≡ true → (v : Version) → v ∈ vs → covers c v.dot ≡ true
unfolding covers_all
covers_each c vs t v m = all_in (λ w. covers c w.dot) vs t m

pub each_covered : (c : Context) (vs : List Version) → ((v : Version) → v ∈ vs → covers c v.dot ≡ true) → covers_all c vs ≡ true
unfolding covers_all
each_covered c vs h = in_all (λ w. covers c w.dot) vs h

-- ---- rows

pub none_is : (r : Row) → is_none r ≡ true → r ≡ none_seen
unfolding is_none
none_is r t i = record { base = eqb-true r.base 0 (and_left (eqb r.base 0) (eqb r.bits 0) t) i; bits = eqb-true r.bits 0 (and_right (eqb r.base 0) (eqb r.bits 0) t) i }

pub is_none_seen : (r : Row) → r ≡ none_seen → is_none r ≡ true
unfolding is_none
is_none_seen r e = rw e

pub row_at : (f : Row → Bool) (k : Clock) → every_row f k ≡ true → (n : Controller) → Crew n → f (row k n) ≡ true
unfolding every_row
row_at f k t n c = each_controller (λ m. f (row k m)) t n c

pub at_every_row : (f : Row → Bool) (k : Clock) → ((n : Controller) → Crew n → f (row k n) ≡ true) → every_row f k ≡ true
unfolding every_row
at_every_row f k h = every_controller (λ m. f (row k m)) h

-- ---- dots with their points

-- a version dot of some points, with its point
pub record DotOf (ps : List Stored) (l : Listed) : Type 0 where
  pub point : Stored
  pub version : Version
  pub point_in : point ∈ ps
  pub version_in : version ∈ point.object.versions
  pub same : l ≡ record { dot = version.dot; key = point.key }

pub in_dots : (ps : List Stored) {l : Listed} → l ∈ dots_of ps → DotOf ps l
unfolding dots_of
in_dots ps {l} m =
    let q = in_concat_map (λ p. map (λ v. record { dot = v.dot; key = p.key }) p.object.versions) ps m in
    let r = in_map (λ v. record { dot = v.dot; key = q.0.key }) q.0.object.versions {y = l} q.2 in
    record { point = q.0; version = r.0; point_in = q.1; version_in = r.1; same = r.2 }

pub dots_in : (ps : List Stored) {p : Stored} {v : Version} → p ∈ ps → v ∈ p.object.versions → record { dot = v.dot; key = p.key } ∈ dots_of ps
unfolding dots_of
dots_in ps {p} {v} m k =
    concat_map_in (λ q. map (λ w. record { dot = w.dot; key = q.key }) q.object.versions) ps m
    (map_in (λ w. record { dot = w.dot; key = p.key }) p.object.versions k)

pub agree_at : (ls ms : List Listed) → dots_agree ls ms ≡ true → (l m : Listed) → l ∈ ls → m ∈ ms → l.dot ≡ m.dot → l.key ≡ m.key
unfolding dots_agree
agree_at ls ms t l m p q e =
    ⊎_elim (λ x. never (subst (λ (d : Dot). same_dot l.dot d ≡ true) e (dot_itself l.dot)) (not-true (same_dot l.dot m.dot) x)) (same_keys l.key m.key)
    (or_cases (not (same_dot l.dot m.dot)) (same_key l.key m.key)
    (all_in (λ n. not (same_dot l.dot n.dot) || same_key l.key n.key) ms
    (all_in (λ k. all? (λ n. not (same_dot k.dot n.dot) || same_key k.key n.key) ms) ls t p) q))

pub at_agree : (ls ms : List Listed) → ((l m : Listed) → l ∈ ls → m ∈ ms → l.dot ≡ m.dot → l.key ≡ m.key) → dots_agree ls ms ≡ true
unfolding dots_agree
at_agree ls ms h =
    in_all (λ l. all? (λ m. not (same_dot l.dot m.dot) || same_key l.key m.key) ms) ls
    (λ l p. in_all (λ m. not (same_dot l.dot m.dot) || same_key l.key m.key) ms
    (λ m q. by_test (same_dot l.dot m.dot)
    (λ t. or_inr (not (same_dot l.dot m.dot)) (same_key l.key m.key) (subst (λ (k : Key). same_key l.key k ≡ true) (h l m p q (same_dots l.dot m.dot t)) (key_itself l.key)))
    (λ t. or_inl (not (same_dot l.dot m.dot)) (same_key l.key m.key) (ap not t))))
