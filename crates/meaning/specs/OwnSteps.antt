-- Start, read, write, delete, strip pass: what a controller does by itself. Assumes nothing.
use Rattle.std.specs.Prelude.{ℕ, ◌+◌, ◌-◌, Bool, ◌&&◌, not, List, [], ◌∷◌, length, leb, ltb, if◌then◌else◌}
use Rattle.numbers.specs.declared.Controller.{Controller}
use Rattle.numbers.specs.declared.Dot.{Dot}
use Rattle.numbers.specs.declared.Key.{Key}
use Rattle.numbers.specs.Words.{keep, some?, place, fold}
use Rattle.numbers.specs.Numbers.{counter, last_counter, is_controller, same_controller, each, controllers}
use Rattle.numbers.specs.Key.{is_key}
use Rattle.refusal.specs.declared.Refusal.TheVariants.{OutOfRange, ValueTooLong, ContextAhead, OwnListFull, CountersUsedUp}
use Rattle.refusal.specs.Refusal.{Answer, accepted, refuse◌when◌else◌, ◌>>=◌}
use Rattle.row.specs.Row.{none_seen}
use Rattle.meaning.specs.CrewTable.{CrewTable, holds}
use Rattle.meaning.specs.Context.{Context, entry, covers}
use Rattle.meaning.specs.Object.{Contents, value, deleted, has_value, Version, version_before, Object}
use Rattle.meaning.specs.State.{Stored, State, own_base, local}
use Rattle.meaning.specs.Message.{Outgoing, longest_value}
use Rattle.meaning.specs.Settle.{most_listed, put, settle}

-- a controller that has seen nothing
abbrev pub fresh : Controller → CrewTable → State
fresh n t =
    record {
      own = n;
      table = t;
      clock = each (λ m. none_seen);
      watermark = each (λ m. each (λ k. 0));
      own_dots = [];
      foreign_dots = [];
      points = [];
    }

-- "Start: a fresh image from a number and a table."
unfoldable pub start : Controller → CrewTable → Answer State
start n t =
    refuse OutOfRange when not (is_controller n) else
    accepted (fresh n t)

-- the arguments are in their ranges, and the job is held here
unfoldable pub ours : State → Key → Bool
ours s k = is_key k && holds s.table s.own k.job

-- "Read: the filled object without its deleted versions."
unfoldable pub shown : Object → Object
shown o = record { versions = keep (λ v. has_value v.contents) o.versions; context = o.context }

unfoldable pub read : State → Key → Answer Outgoing
read s k =
    refuse OutOfRange when not (ours s k) else
    accepted (record { sender = s.own; key = k; object = shown (local s k) })

-- "Write, delete: the dot is the own number with own base + 1."
unfoldable pub next_dot : State → Dot
next_dot s = record { who = s.own; count = counter (own_base s + 1) }

-- "From the filled local object drop the versions that the given context covers; add the new version; raise the own context entry to
-- the new counter." Document 001's algorithm 1 "puts the new counter in the client's context before merging, which would drop an own
-- version that the client never read; its text says such a version stays, and the text decides."
unfoldable pub written : State → Key → Contents → Context → Object
written s k b c =
    let o = local s k in
    record {
      versions =
          place version_before (record { dot = next_dot s; contents = b }) (keep (λ v. not (covers c v.dot)) o.versions);
      context = each (λ n. if same_controller n s.own then (next_dot s).count else entry o.context n);
    }

-- "given context above the present reading's in any entry"
unfoldable pub context_ahead : State → Key → Context → Bool
context_ahead s k c = some? (λ n. ltb (entry (local s k).context n).0 (entry c n).0) controllers

-- the state after a write or a delete, and its outgoing message
pub record Done : Type 0 where
  pub state : State
  pub message : Outgoing

-- what a write and a delete have in common, after the checks 5 and 7. "This filled object is the outgoing message."
unfoldable pub put_down : State → Key → Contents → Context → Answer Done
put_down s k b c =
    let o = written s k b c in
    refuse ContextAhead when context_ahead s k c else
    (settle s s.clock (record { key = k; object = o } ∷ []) >>= λ after.
    refuse OwnListFull when leb most_listed (length s.own_dots) else
    refuse CountersUsedUp when leb last_counter (own_base s) else
    accepted (record { state = after; message = record { sender = s.own; key = k; object = o } }))

unfoldable pub write : State → Key → List ℕ → Context → Answer Done
write s k v c =
    refuse OutOfRange when not (ours s k) else
    refuse ValueTooLong when ltb longest_value (length v) else
    put_down s k (value v) c

unfoldable pub delete : State → Key → Context → Answer Done
delete s k c =
    refuse OutOfRange when not (ours s k) else
    put_down s k deleted c

-- "Strip pass: every stored point is stripped." The count is that of the records gone.
pub record Passed : Type 0 where
  pub state : State
  pub count : ℕ

unfoldable pub strip_pass : State → Passed
strip_pass s =
    let ps = fold (put s.clock) s.points s.points in
    record {
      state =
          record {
            own = s.own;
            table = s.table;
            clock = s.clock;
            watermark = s.watermark;
            own_dots = s.own_dots;
            foreign_dots = s.foreign_dots;
            points = ps;
          };
      count = length s.points - length ps;
    }
