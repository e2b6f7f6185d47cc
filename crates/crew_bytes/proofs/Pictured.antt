-- A moment of images and bytes pictures a moment of states and messages, and each call keeps it so. Assumes nothing.
use Prim.Native.Nat.{ℕ, ◌+◌, ◌*◌, ◌≤◌}
use mathlib.Core.Path.{◌≡◌, refl, sym, ap, subst}
use mathlib.Core.Logic.{⊎_elim}
use mathlib.Core.Bool.{true, true≢false}
use mathlib.Core.List.Memᴰ
use mathlib.Core.List.{List, [], ◌∷◌, ◌++◌}
use lib.ListN.{length, take}
use Rattle.numbers.specs.declared.Controller.{Controller}
use Rattle.numbers.specs.Words.{map}
use Rattle.numbers.proofs.Tests.{◌∈◌}
use Rattle.meaning.specs.CrewTable.{CrewTable}
use Rattle.meaning.specs.State.{State}
use Rattle.meaning.specs.Message.{Outgoing, Ask, Reply, outgoing_formed, ask_formed, reply_formed}
use Rattle.meaning.specs.Write.{Write}
use Rattle.meaning.specs.OwnSteps.{Done}
use Rattle.layout.specs.Image.{encode}
use Rattle.layout.specs.Messages.{encode_outgoing, encode_ask, encode_reply}
use Rattle.layout.specs.Calls.{After}
use Rattle.crew.specs.Moment.{Sent, Moment, for, beginning, starting, seeing, writing, asking, replying}
use Rattle.crew.proofs.Steps.{for_each}
use Rattle.crew.proofs.Invariant.{for_both}
use Rattle.crew_bytes.specs.Bytes.{ByteMoment, no_images, left_by, started_by, seen_by, written_by, asked_by, replied_by}

-- a message with what its sender had seen, in bytes
abbrev pub in_bytes : Sent Outgoing → Sent (List ℕ)
in_bytes m = record { message = encode_outgoing m.message; seen = m.seen }

abbrev pub reply_in_bytes : Sent Reply → Sent (List ℕ)
reply_in_bytes r = record { message = encode_reply r.message; seen = r.seen }

pub record Pictures (t : CrewTable) (B : ByteMoment) (M : Moment) : Type 0 where
  pub started : B.started ≡ M.started
  pub image : (n : Controller) → M.started n ≡ true → B.image n ≡ encode (M.state n)
  pub seen : B.seen ≡ M.seen
  pub writes : B.writes ≡ M.writes
  pub outgoings : B.outgoings ≡ map in_bytes M.outgoings
  pub asks : B.asks ≡ map encode_ask M.asks
  pub replies : B.replies ≡ map reply_in_bytes M.replies
  -- so that they are read back
  pub outgoings_formed : (m : Sent Outgoing) → m ∈ M.outgoings → outgoing_formed t m.message ≡ true
  pub asks_formed : (a : Ask) → a ∈ M.asks → ask_formed t a ≡ true
  pub replies_formed : (r : Sent Reply) → r ∈ M.replies → (reply_formed t r.message ≡ true) × (length r.message.points ≤ 120)

pub begins_pictured : (t : CrewTable) → Pictures t no_images (beginning t)
unfolding no_images beginning
begins_pictured t = record {
  started = refl;
  image = λ n h. absurd (true≢false (sym h));
  seen = refl;
  writes = refl;
  outgoings = refl;
  asks = refl;
  replies = refl;
  outgoings_formed = λ m h. absurd (Memᴰ.not-nil h);
  asks_formed = λ a h. absurd (Memᴰ.not-nil h);
  replies_formed = λ r h. absurd (Memᴰ.not-nil h);
}

-- ---- what each kind of call does to both

module _ (t : CrewTable) (B : ByteMoment) (M : Moment) (P : Pictures t B M) (n : Controller) (a : After) where
  -- controller n has come to the state x
  image_after : (x : State) → a.image ≡ encode x → (m : Controller) → M.started m ≡ true → for n a.image B.image m ≡ encode (for n x M.state m)
  image_after x e = for_both (λ m i z. M.started m ≡ true → i ≡ encode z) n a.image B.image x M.state (λ on. e) (λ m f. P.image m)

  -- or has not moved
  image_stays : a.image ≡ encode (M.state n) → (m : Controller) → M.started m ≡ true → for n a.image B.image m ≡ encode (M.state m)
  image_stays e = for_each (λ m i. M.started m ≡ true → i ≡ encode (M.state m)) n a.image B.image (λ on. e) (λ m f. P.image m)

  pub left_pictured : a.image ≡ encode (M.state n) → Pictures t (left_by B n a) M
  unfolding left_by
  left_pictured e = record {
    started = P.started;
    image = image_stays e;
    seen = P.seen;
    writes = P.writes;
    outgoings = P.outgoings;
    asks = P.asks;
    replies = P.replies;
    outgoings_formed = P.outgoings_formed;
    asks_formed = P.asks_formed;
    replies_formed = P.replies_formed;
  }

  pub started_pictured : (s : State) → a.image ≡ encode s → Pictures t (started_by B n a) (starting M n s)
  unfolding started_by starting
  started_pictured s e = record {
    started = ap (for n true) P.started;
    image = for_both (λ m i z. for n true M.started m ≡ true → i ≡ encode z) n a.image B.image s M.state (λ on. e)
        (λ m f h. P.image m (unfold for in (rw f at h)));
    seen = ap (for n []) P.seen;
    writes = P.writes;
    outgoings = P.outgoings;
    asks = P.asks;
    replies = P.replies;
    outgoings_formed = P.outgoings_formed;
    asks_formed = P.asks_formed;
    replies_formed = P.replies_formed;
  }

  pub seen_pictured : (x : State) (ws vs : List Write) → a.image ≡ encode x → ws ≡ vs → Pictures t (seen_by B n a ws) (seeing M n x vs)
  unfolding seen_by seeing
  seen_pictured x ws vs e q = record {
    started = P.started;
    image = image_after x e;
    seen = λ i. for n (q i ++ P.seen i n) (P.seen i);
    writes = P.writes;
    outgoings = P.outgoings;
    asks = P.asks;
    replies = P.replies;
    outgoings_formed = P.outgoings_formed;
    asks_formed = P.asks_formed;
    replies_formed = P.replies_formed;
  }

  pub written_pictured : (w v : Write) (d : Done) → a.image ≡ encode d.state → a.out ≡ encode_outgoing d.message → w ≡ v
      → outgoing_formed t d.message ≡ true → Pictures t (written_by B n a w) (writing M n v d)
  unfolding written_by writing
  written_pictured w v d e o q f = record {
    started = P.started;
    image = image_after d.state e;
    seen = λ i. for n (q i ∷ P.seen i n) (P.seen i);
    writes = λ i. q i ∷ P.writes i;
    outgoings = λ i. record { message = o i; seen = q i ∷ P.seen i n } ∷ P.outgoings i;
    asks = P.asks;
    replies = P.replies;
    outgoings_formed = λ m h.
        ⊎_elim (λ z. subst (λ (y : Sent Outgoing). outgoing_formed t y.message ≡ true) (sym z) f) (P.outgoings_formed m) (Memᴰ.cases_cons h);
    asks_formed = P.asks_formed;
    replies_formed = P.replies_formed;
  }

  pub asked_pictured : (q : Ask) → a.image ≡ encode (M.state n) → a.out ≡ encode_ask q → ask_formed t q ≡ true → Pictures t (asked_by B n a) (asking M q)
  unfolding asked_by asking
  asked_pictured q e o f = record {
    started = P.started;
    image = image_stays e;
    seen = P.seen;
    writes = P.writes;
    outgoings = P.outgoings;
    asks = λ i. o i ∷ P.asks i;
    replies = P.replies;
    outgoings_formed = P.outgoings_formed;
    asks_formed = λ m h. ⊎_elim (λ z. subst (λ (y : Ask). ask_formed t y ≡ true) (sym z) f) (P.asks_formed m) (Memᴰ.cases_cons h);
    replies_formed = P.replies_formed;
  }

  pub replied_pictured : (r : Reply) → a.image ≡ encode (M.state n) → take (512 * (1 + a.count)) a.out ≡ encode_reply r → (reply_formed t r ≡ true) × (length r.points ≤ 120)
      → Pictures t (replied_by B n a) (replying M n r)
  unfolding replied_by replying
  replied_pictured r e o f = record {
    started = P.started;
    image = image_stays e;
    seen = P.seen;
    writes = P.writes;
    outgoings = P.outgoings;
    asks = P.asks;
    replies = λ i. record { message = o i; seen = P.seen i n } ∷ P.replies i;
    outgoings_formed = P.outgoings_formed;
    asks_formed = P.asks_formed;
    replies_formed = λ m h. ⊎_elim (λ z. subst (λ (y : Sent Reply). (reply_formed t y.message ≡ true) × (length y.message.points ≤ 120)) (sym z) f) (P.replies_formed m) (Memᴰ.cases_cons h);
  }
